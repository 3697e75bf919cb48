use Rattle.std.proofs.Common.{ℕ, ◌<◌, get_or}
use Rattle.jet_poly.specs.JetTerms.{JetTerms, IsRising}
use Rattle.tern_cubic.proofs.moving.matrix_change.Given as goal

abbrev pub invariant-loop-part : goal.invariant-loop-part
invariant-loop-part g l = (k : ℕ) (d : JetTerms g.row.F-Elem.Denot) → k < l.part-index → IsRising (get_or l.part-items k d).terms
