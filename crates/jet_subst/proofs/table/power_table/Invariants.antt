use Rattle.std.proofs.Common.{◌≡◌, ℕ, ◌<◌, [], length, get_or, All}
use Rattle.jet_subst.specs.Parts.{IsTable}
use Rattle.jet_subst.proofs.table.power_table.Given as goal

abbrev pub invariant-loop-i : goal.invariant-loop-i
invariant-loop-i g l = record {
  count : length l.table.items ≡ l.i;
  table : IsTable (g.R.Ring.meaning l.ring) l.n l.k l.parts l.table.items;
  powers : (j : ℕ) → j < l.i → All (λ t. get_or t.0.e j 0 < length (get_or l.table.items j [])) l.terms;
}
