use Rattle.std.proofs.Common.{IsTrue, subst, arith}
use Rattle.jet_poly.specs.Jets.{polynomial_of}
use Rattle.rules_corank2.specs.Parts.{IsBase2}
use Rattle.rules_corank3.specs.Parts.{IsBase3}
use Rattle.probe.proofs.BaseParts.{two_weights, three_weights, have_units, nonzero_divisors}
use Rattle.probe.proofs.kills.kill_of.Goals as goal

pub extend2-requires-clause-two_variables : goal.extend2-requires-clause-two_variables
extend2-requires-clause-two_variables g c =
    let base : IsBase2 c.args.part = subst IsTrue (c.is_base2.ensures) (cc c.if-is_base2.true) in
    let e = two_weights c.args.part base in let h = c.requires.of_part in omega arith

pub extend2-requires-clause-units : goal.extend2-requires-clause-units
extend2-requires-clause-units g c =
    let m = g.F.Ring.meaning c.args.field.now in
    let base : IsBase2 c.args.part = subst IsTrue (c.is_base2.ensures) (cc c.if-is_base2.true) in
    have_units c.args.f.now.n m.scalars c.args.part (polynomial_of m c.args.f.now) base c.requires.units

pub extend3-requires-clause-three_variables : goal.extend3-requires-clause-three_variables
extend3-requires-clause-three_variables g c =
    let base : IsBase3 c.args.part = subst IsTrue (c.is_base3.ensures) (cc c.if-is_base3.true) in
    let e = three_weights c.args.part base in let h = c.requires.of_part in omega arith

pub kill-requires-clause-divisors : goal.kill-requires-clause-divisors
kill-requires-clause-divisors g c =
    let field = c.args.field.now in
    let m = g.F.Ring.meaning field in
    nonzero_divisors c.args.f.now.n m.scalars (g.met.F.Ring.laws field c.requires.ring).numbers (g.met.F.Field.inverts field c.requires.ring) c.args.part (polynomial_of m c.args.f.now) c.requires.units
