use Rattle.std.proofs.Common.{sym, ◌∙◌}
use Rattle.normal_forms.proofs.Members.{form_by}
use Rattle.normal_forms.proofs.form.are_form.Goals as goal
use Rattle.normal_forms.proofs.form.are_form.Goals.{then-is_corank, else-is_corank}

pub returns-then-is_split : goal.returns-then-is_split
returns-then-is_split g c =
    elim c.if-is_corank.branch [
      | then-is_corank w ↦ form_by c.args.family c.args.n c.args.c c.args.terms.now c.is_corank.result w.is_split.result c.has_sum_alone.result
          c.is_corank.ensures w.is_split.ensures c.has_sum_alone.ensures w.if-is_corank.true (sym w.value-is ∙ c.if-is_split.true)
      | else-is_corank w ↦ absurd cc
    ]
