use Rattle.std.proofs.Common.{List, subst}
use Rattle.jet_law.specs.Terms.{poly_of}
use Rattle.kill_table.specs.Divisors.{HasUnits}
use Rattle.kill_table.proofs.Letters.{letters-are}
use Rattle.probe.proofs.kills.killed.Goals as goal

pub kill_of-requires-clause-units : goal.kill_of-requires-clause-units
kill_of-requires-clause-units g c =
    let field = c.args.over.now.field in
    let m = g.F.Ring.meaning field in
    let n = c.in_ok-f.f.n in
    subst (λ (zs : List (g.F.Ring.Value field)). HasUnits m.scalars zs c.args.part)
    (letters-are c.args.part n m.scalars (poly_of n m.value c.in_ok-f.f.terms) (m.value c.letter-a.result) (m.value c.letter-b.result) (m.value c.letter-c.result)
    c.letter-a.ensures.value c.letter-b.ensures.value c.letter-c.ensures.value)
    (c.in_ok-are_units.ensures.units c.if-not-branch.false)
