use Rattle.std.proofs.Common.{inl, inr, arith}
use Rattle.ring_law.proofs.Exits.{faulted_by}
use Rattle.kill_law.specs.Kill.{letters_of}
use Rattle.kill_law.specs.Taken.{kill_move}
use Rattle.jet_poly.specs.Jets.{polynomial_of}
use Rattle.rules_corank3.proofs.Units.{nonzero_divisors, three_weights}
use Rattle.rules_corank2.proofs.MadeMoves.{made_inverse_high}
use Rattle.rules_corank3.proofs.extend.extend3.Goals as goal

pub kill-requires-clause-divisors : goal.kill-requires-clause-divisors
kill-requires-clause-divisors g c =
    let m = g.F.Ring.meaning c.args.field.now in
    let laws = (g.met.F.Ring.laws c.args.field.now c.requires.ring).numbers in
    nonzero_divisors m.scalars laws (g.met.F.Field.inverts c.args.field.now c.requires.ring) c.args.g.now.n c.args.part (polynomial_of m c.args.g.now) c.requires.units

pub kill-requires-clause-of_part : goal.kill-requires-clause-of_part
kill-requires-clause-of_part g c = let e = three_weights c.args.part c.requires.base in let h = c.requires.three_variables in omega arith

pub returns-clause-range : goal.returns-clause-range
returns-clause-range g c =
    let m = g.F.Ring.meaning c.args.field.now in
    let laws = (g.met.F.Ring.laws c.args.field.now c.requires.ring).numbers in
    let n = c.args.g.now.n in
    let f = polynomial_of m c.args.g.now in
    faulted_by (λ high. elim high [
      | inl h ↦ inl h
      | inr h ↦ inr (inl (made_inverse_high n m.scalars laws (kill_move n m.scalars (letters_of n m.scalars c.args.part f) c.args.part c.args.d f) h))
    ]) c.kill.ensures.range
