use Rattle.std.proofs.Common.{ℕ, ◌<◌, get_or}
use Rattle.jet_poly.specs.JetTerms.{JetTerms, IsRising}
use Rattle.hessian_rank.proofs.composing.composed.Given as goal

abbrev pub invariant-loop-part : goal.invariant-loop-part
invariant-loop-part g l = (k : ℕ) (d : JetTerms g.row.F-Elem.Denot) → k < l.part-index → IsRising (get_or l.part-items k d).terms
