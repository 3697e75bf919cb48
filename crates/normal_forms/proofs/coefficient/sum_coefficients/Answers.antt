use Rattle.std.proofs.Common.{◌≡◌, ◌≤◌, ◌∷◌, [], ◌++◌, map, take_all, sum, rules, sym, ap, subst, ◌∙◌, arith}
use Rattle.std.specs.List.{All, AllByRecursion}
use Rattle.mono_exp.specs.declared.exponent.Exp.{Exp}
use Rattle.mono_exp.specs.Exponents.{IsIn}
use Rattle.mono_exp.proofs.ListLemmas.{all-push}
use Rattle.poly_law.specs.Polynomials.{coefficient_in}
use Rattle.jet_law.specs.Terms.{exp_of, poly_of}
use Rattle.jet_poly.proofs.Coefficients.{in-eight}
use Rattle.jet_poly.proofs.Output.{from-all}
use Rattle.normal_forms.specs.declared.family.Family.{Family}
use Rattle.normal_forms.specs.declared.family.Family.TheVariants as families
use Rattle.normal_forms.specs.Families.{corank_of}
use Rattle.normal_forms.specs.Coefficients.{coefficients_in_sum}
use Rattle.normal_forms.proofs.Sums.{sum_is_read, none_at_256, map-push, taken-push}
use Rattle.normal_forms.proofs.coefficient.sum_coefficients.Goals as goal

pub returns-then-eq-clause-values : goal.returns-then-eq-clause-values
returns-then-eq-clause-values g c =
    let m = g.R.Ring.meaning c.args.ring.now in
    let family : c.args.family ≡ families.A 255 = search rules in
    let low : AllByRecursion (λ t. sum t.0.e ≤ 17) c.args.f.now.terms = from-all (λ t. sum t.0.e ≤ 17) c.args.f.now.terms (λ k d h. let a = c.requires.jet.degrees k d h in let b = c.requires.order_at_most_17 in omega arith) in
    map-push m.value [] c.push.new.self.items c.zero.result (c.in_ok-push.ensures.items ∙ ap (λ z. z ++ c.zero.result ∷ []) c.new-coefs.ensures.items)
    ∙ ap (λ v. v ∷ []) c.zero.ensures.value
    ∙ none_at_256 m (g.met.R.Ring.laws c.args.ring.now c.requires.ring).numbers.ring c.args.f.now.terms low
    ∙ ap (λ (f : Family). coefficients_in_sum m f (corank_of f) c.args.f.now.terms) (sym family)

pub loop-monomial-preserved : goal.loop-monomial-preserved
loop-monomial-preserved g c =
    let m = g.R.Ring.meaning c.args.ring.now in
    record {
      elems = subst (All m.is_elem) (sym c.in_ok-push-2.ensures.items) (all-push m.is_elem c.loop-monomial.coefs.items c.coef.result c.loop-monomial.invariant.elems c.coef.ensures.elem);
      so_far = taken-push m.value (λ (a : Exp). coefficient_in 8 m.scalars.ops (poly_of 8 m.value c.args.f.now.terms) (exp_of 8 a)) c.deref-monomial-items.result.now c.loop-monomial.monomial-index _
          c.loop-monomial.coefs.items c.push-in-loop-monomial.new.self.items c.coef.result c.loop-monomial-test.true c.in_ok-push-2.ensures.items c.loop-monomial.invariant.so_far c.coef.ensures.value;
    }

pub returns-clause-values : goal.returns-clause-values
returns-clause-values g c =
    let m = g.R.Ring.meaning c.args.ring.now in
    let eight : AllByRecursion (λ t. IsIn 8 t.0.e) c.args.f.now.terms = from-all (λ t. IsIn 8 t.0.e) c.args.f.now.terms (λ k d h. in-eight c.args.f.now.n _ c.requires.at_most_8_variables (c.requires.jet.variables k d h)) in
    c.loop-monomial.invariant.so_far
    ∙ ap (map (λ (a : Exp). coefficient_in 8 m.scalars.ops (poly_of 8 m.value c.args.f.now.terms) (exp_of 8 a)))
    (take_all c.loop-monomial.monomial-index c.deref-monomial-items.result.now (omega arith) ∙ c.deref-monomial-items.ensures.value ∙ c.in_ok-list.ensures.monomials)
    ∙ sum_is_read m (g.met.R.Ring.laws c.args.ring.now c.requires.ring).numbers.ring c.args.f.now.terms eight c.args.family
