use Rattle.std.proofs.Common.{◌≡◌, ℕ, ◌<◌, ◌≤◌, length, get_or, map, Contains}
use Rattle.mono_exp.specs.declared.exponent.Exp.{Exp}
use Rattle.jet_subst.proofs.table.greatest_exponent.Given as goal

abbrev pub invariant-loop-t : goal.invariant-loop-t
invariant-loop-t g l = record {
  within : l.t-index ≤ length l.terms;
  greatest : (k : ℕ) (d : Exp × g.row.E.Denot) → k < l.t-index → get_or (get_or l.terms k d).0.e l.i 0 ≤ l.greatest;
  first : l.t-index ≡ 0 → l.greatest ≡ 0;
  among : 0 < l.t-index → Contains (map (λ t. get_or t.0.e l.i 0) l.terms) l.greatest;
}
