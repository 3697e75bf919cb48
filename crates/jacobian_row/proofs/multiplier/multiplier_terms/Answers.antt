use Rattle.std.proofs.Common.{◌∙◌, ◌++◌, ◌∷◌, [], eqb, eq-eqb, ne_eqb, sym, ap, take_all, arith}
use Rattle.lin_row.proofs.SystemLaws
use Rattle.jacobian_row.specs.Multipliers.{multiple_at, terms_of}
use Rattle.jacobian_row.proofs.ListSteps.{kept_step, left_out_step}
use Rattle.jacobian_row.proofs.multiplier.multiplier_terms.Goals as goal

pub bounds-multiples-t : goal.bounds-multiples-t
bounds-multiples-t g c = SystemLaws.below_get c.args.coefficients.now c.loop-t.t-index _ c.t-item.result c.loop-t-test.true c.t-item.is c.requires.within

pub loop-t-preserved-then-u-variable : goal.loop-t-preserved-then-u-variable
loop-t-preserved-then-u-variable g c =
    let ms = c.args.multiples.now in
    let v = c.args.variable in
    c.loop-t.invariant
    ∙ sym (left_out_step (λ t. eqb (multiple_at ms t.0).variable v) (λ t. ((multiple_at ms t.0).factor, t.1)) c.args.coefficients.now c.loop-t.t-index c.t-item.result c.loop-t-test.true c.t-item.is (ne_eqb (multiple_at ms c.t-item.result.0).variable v c.if-u-variable.true))

pub loop-t-preserved : goal.loop-t-preserved
loop-t-preserved g c =
    let ms = c.args.multiples.now in
    let v = c.args.variable in
    let t = c.t-item.result in
    c.in_ok-push.ensures.items ∙ ap (λ xs. xs ++ (((multiple_at ms t.0).factor, t.1) ∷ [])) c.loop-t.invariant
    ∙ sym (kept_step (λ t. eqb (multiple_at ms t.0).variable v) (λ t. ((multiple_at ms t.0).factor, t.1)) c.args.coefficients.now c.loop-t.t-index t c.loop-t-test.true c.t-item.is (eq-eqb (multiple_at ms t.0).variable v c.if-u-variable.false))

pub returns-clause-terms : goal.returns-clause-terms
returns-clause-terms g c = c.loop-t.invariant ∙ ap (λ cs. terms_of c.args.multiples.now cs c.args.variable) (take_all c.loop-t.t-index c.args.coefficients.now (omega arith))
