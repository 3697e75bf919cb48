use Rattle.std.proofs.Common.{◌≡◌, ℕ, ◌<◌, ◌∷◌, [], ◌++◌, ◌∙◌, ap, subst, arith}
use Rattle.poly_law.specs.Exps.{variable}
use Rattle.poly_law.specs.ExpList.{exps}
use Rattle.poly_law.specs.Polynomials.{term_in}
use Rattle.jet_subst.specs.Parts.{part_of}
use Rattle.mono_exp.specs.Exponents.{numbers_below}
use Rattle.jet_law.specs.Terms.{poly_of}
use Rattle.jet_poly.specs.JetTerms.{IsRising}
use Rattle.hessian_rank.proofs.StageSteps.{same_squares, numbers_more, identity_from, cut_is}
use Rattle.hessian_rank.proofs.stage.started.Goals as goal

pub loop-i-preserved : goal.loop-i-preserved
loop-i-preserved g c = c.in_ok-push.ensures.items ∙ ap (λ z. z ++ c.loop-i.i ∷ []) c.loop-i.invariant ∙ numbers_more c.loop-i.i

pub returns-clause-start : goal.returns-clause-start
returns-clause-start g c =
    let m = g.F.Ring.meaning c.args.field.now in
    let laws = (g.met.F.Ring.laws c.args.field.now c.requires.ring).numbers in
    let n = c.args.f.now.n in
    let form = c.in_ok-form.ensures in
    let change = c.in_ok-change.ensures in
    let same = c.n-n.ensures in
    let last = c.loop-i-test.false in
    let end = c.loop-i.auto.i-end in
    record {
      stage = record { change = change.change; variables = change.n ∙ same; order = change.order; form = form.jet; form_variables = form.n; form_order = form.order };
      is = same_squares (c.loop-i.invariant ∙ ap numbers_below (let e : c.loop-i.i ≡ n = omega (arith, same) in e)) c.new.ensures.items
          (identity_from m laws n c.in_ok-change.change change.change (change.n ∙ same) (subst (λ z. (i : ℕ) → i < z → part_of z m.value c.in_ok-change.change.parts i ≡ term_in z m.scalars.ops (variable (exps z) i)) same change.parts))
          (cut_is m laws n c.in_ok-form.form (poly_of n m.value c.args.f.now.terms) form.jet form.n form.order (subst IsRising c.terms.ensures.terms c.terms.ensures.rising) form.cut);
    }
