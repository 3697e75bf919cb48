use Rattle.std.proofs.Common.{sym, arith}
use Rattle.line_jet_law.specs.LineJets.{is_linear_at}
use Rattle.line_jet_law.proofs.LinearTerms.{any_found}
use Rattle.line_jet.proofs.linear.has_linear_term.Goals as goal

pub returns-then-is_linear : goal.returns-then-is_linear
returns-then-is_linear c = sym (any_found (λ t. is_linear_at c.args.i t.0) c.args.terms.now c.loop-t.t-index _ (omega arith) (sym c.if-is_linear.ensures))
