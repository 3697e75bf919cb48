use Rattle.std.proofs.Common.{◌≡◌, length, All}
use Rattle.jet_subst.specs.Parts.{IsPart}
use Rattle.probe.proofs.scalars.Over.parts.Given as goal

abbrev pub invariant-loop-i : goal.invariant-loop-i
invariant-loop-i g l = record {
  count : length l.parts.items ≡ l._i;
  parts : All (IsPart (g.F.Ring.meaning l.self.field) l.n) l.parts.items;
  orders : All (λ p. p.order ≡ l.self.order) l.parts.items;
}
