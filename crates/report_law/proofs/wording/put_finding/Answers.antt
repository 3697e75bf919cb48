-- The words of bad text, joined to what stood there before.
use Rattle.std.proofs.Common.{◌++◌, sym, ◌∙◌, ap, append_assoc, codes, decimal}
use Rattle.report_law.specs.Verdicts.{finding_text}
use Rattle.report_law.proofs.wording.put_finding.Goals as goal

pub returns-in_ok-put_number-in-BadText : goal.returns-in_ok-put_number-in-BadText
unfolding finding_text
returns-in_ok-put_number-in-BadText c =
    c.in_ok-put_number-in-BadText.ensures
    ∙ ap (λ z. z ++ decimal c.in-BadText.offset) c.in_ok-extend_from_slice-in-BadText.ensures.items
    ∙ append_assoc c.args.out.now.items (codes "invalid text ") (decimal c.in-BadText.offset)
    ∙ ap (λ f. c.args.out.now.items ++ finding_text f) (sym c.in-BadText.is)
