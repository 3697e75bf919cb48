use Rattle.kill_table.proofs.Units
use Rattle.probe.proofs.kills.killed_with.Goals as goal

pub kill_at-requires-clause-divisors : goal.kill_at-requires-clause-divisors
kill_at-requires-clause-divisors g c =
    let field = c.args.over.now.field in
    let m = g.F.Ring.meaning field in
    Units.units_are_enough m.scalars (g.met.F.Ring.laws field c.requires.over.field).numbers (g.met.F.Field.inverts field c.requires.over.field) c.args.part
    (m.value c.in_ok-a.a) (m.value c.in_ok-b.b) (m.value c.in_ok-c.c) (c.in_ok-are_units.ensures.units c.if-not-branch.false)
