use Rattle.std.proofs.Common.{sym, ◌∙◌}
use Rattle.normal_forms.proofs.Members.{pattern_by}
use Rattle.normal_forms.proofs.membership.is_in_pattern.Goals as goal
use Rattle.normal_forms.proofs.membership.is_in_pattern.Goals.{then-has_corank, else-has_corank}

pub returns-then-is_split : goal.returns-then-is_split
returns-then-is_split g c =
    elim c.if-has_corank.branch [
      | then-has_corank w ↦ pattern_by c.args.pattern c.args.n c.args.c c.args.terms.now c.has_corank.result w.is_split.result c.admits_residual_part.result
          c.has_corank.ensures w.is_split.ensures c.admits_residual_part.ensures w.if-has_corank.true (sym w.value-is ∙ c.if-is_split.true)
      | else-has_corank w ↦ absurd cc
    ]
