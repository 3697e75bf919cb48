use Rattle.std.proofs.Common.{◌∙◌, sym, ap, arith}
use Rattle.lin_row.proofs.BuildLaws
use Rattle.lin_row.proofs.line.lead.Goals as goal

pub returns-then-line-eq0 : goal.returns-then-line-eq0
returns-then-line-eq0 g c = sym (BuildLaws.lead-none c.args.line.now (omega arith))

pub returns : goal.returns
returns g c = sym (ap (λ t. t.0) c.index-line-0.is) ∙ sym (BuildLaws.lead-first c.args.line.now c.index-line-0.result (omega arith) c.index-line-0.is)
