use Rattle.std.proofs.Common.{◌≡◌, ◌-◌, ◌&&◌, ◌∙◌, eqb, eqb-true, eq-eqb, drop, length, sym, ap}
use Rattle.std.specs.List.{list_all}
use Rattle.mono_exp.specs.Exponents.{weighted_degree_of}
use Rattle.kill_law.specs.Table.{row}
use Rattle.kill_table.proofs.Putting.{not-true}
use Rattle.kill_table.proofs.Leaving.{padded}
use Rattle.kill_table.proofs.reduction.is_of_grade.Goals as goal

pub returns-then-weight-from-clause-test : goal.returns-then-weight-from-clause-test
returns-then-weight-from-clause-test c =
    let ws = (row c.args.part).weights in
    let w : weighted_degree_of ws c.args.a.e ≡ c.args.grade = sym (padded ws c.args.a.e (8 - length ws)) ∙ ap (λ z. weighted_degree_of z c.args.a.e) (sym c.grading.ensures.weights) ∙ sym c.weight.ensures.weight ∙ c.if-weight-from.true ∙ c.from.ensures in
    c.is_in.ensures ∙ ap (λ n. list_all (λ k. eqb k 0) (drop n c.args.a.e)) c.variables.ensures
    ∙ ap (λ b. b && list_all (λ k. eqb k 0) (drop (length ws) c.args.a.e)) (sym (eq-eqb (weighted_degree_of ws c.args.a.e) c.args.grade w))

pub returns-else-weight-from-clause-test : goal.returns-else-weight-from-clause-test
returns-else-weight-from-clause-test c =
    let ws = (row c.args.part).weights in
    let w : weighted_degree_of ws c.args.a.e ≡ c.weight.result = sym (padded ws c.args.a.e (8 - length ws)) ∙ ap (λ z. weighted_degree_of z c.args.a.e) (sym c.grading.ensures.weights) ∙ sym c.weight.ensures.weight in
    not-true (eqb c.weight.result c.from.result) (λ q. c.if-weight-from.false (eqb-true c.weight.result c.from.result q))
    ∙ ap (λ b. b && list_all (λ k. eqb k 0) (drop (length ws) c.args.a.e))
    (sym (not-true (eqb (weighted_degree_of ws c.args.a.e) c.args.grade) (λ q. c.if-weight-from.false (sym w ∙ eqb-true (weighted_degree_of ws c.args.a.e) c.args.grade q ∙ sym c.from.ensures))))
