use Rattle.std.proofs.Common.{All}
use Rattle.mono_exp.specs.Exponents.{IsIn}
use Rattle.probe.proofs.scalars.Over.terms.Given as goal

abbrev pub invariant-loop-i : goal.invariant-loop-i
invariant-loop-i g l = record {
  elems : All (λ t. (g.F.Ring.meaning l.self.field).is_elem t.1) l.all.items;
  variables : All (λ t. IsIn l.n t.0.e) l.all.items;
}
