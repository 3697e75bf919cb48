use Rattle.std.proofs.Common.{◌≡◌, ◌*◌, ap, ◌∙◌, max, get_or, arith}
use Rattle.kill_table.proofs.Table.{at-most-3}
use Rattle.rules_corank2.specs.Finishes.{last_grade}
use Rattle.rules_corank2.proofs.FinishKills.{last_small, most_of}
use Rattle.rules_corank2.proofs.finish_kills.last_grade.Goals as goal

pub overflow_mul-result : goal.overflow_mul-result
overflow_mul-result c =
    let small = last_small c.args.part c.args.order c.requires.at_most_16 in
    let e : c.args.order * c.max-2.result ≡ last_grade c.args.part c.args.order =
    ap (λ z. c.args.order * z) (c.max-2.ensures ∙ ap (λ z. max z (get_or c.grading.result.0 2 0)) c.max.ensures ∙ most_of c.args.part c.grading.result.0 (at-most-3 c.args.part) c.grading.ensures.weights) in
    omega arith

pub returns : goal.returns
returns c =
    ap (λ z. c.args.order * z) (c.max-2.ensures ∙ ap (λ z. max z (get_or c.grading.result.0 2 0)) c.max.ensures ∙ most_of c.args.part c.grading.result.0 (at-most-3 c.args.part) c.grading.ensures.weights)
