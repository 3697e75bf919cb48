use Rattle.std.proofs.Common.{◌≡◌, ◌+◌, length, sym, ap, subst, ◌∙◌}
use Rattle.std.specs.List.{All}
use Rattle.std.specs.List.Sorted.{IsPermutation}
use Rattle.mono_exp.specs.Exponents.{IsIn}
use Rattle.poly_law.specs.ExpList.{exps}
use Rattle.poly_law.specs.Poly.{Same}
use Rattle.jet_law.specs.Terms.{poly_of}
use Rattle.jet_poly.specs.Gathered.{nonzero}
use Rattle.normal_forms.specs.Coefficients.{form_terms}
use Rattle.normal_forms.specs.Distinct.{are_distinct, exponents_in}
use Rattle.normal_forms.proofs.IsForm.{is_form, not_255, terms_elems, terms_variables, terms_long, terms_distinct}
use Rattle.normal_forms.proofs.assembly.form_of.Goals as goal

pub terms_of-requires-clause-small : goal.terms_of-requires-clause-small
terms_of-requires-clause-small g c = not_255 c.args.family c.args.coefs.now c.args.squares.now c.args.order c.ranges.order.fits c.requires.one_for_each_monomial c.requires.degrees

pub jet_of_distinct-requires-clause-elems : goal.jet_of_distinct-requires-clause-elems
jet_of_distinct-requires-clause-elems g c =
    let is_elem = (g.R.Ring.meaning c.args.ring.now).is_elem in
    let whole = c.deref.ensures.value ∙ c.in_ok-terms.ensures.terms in
    subst (All (λ t. is_elem t.1)) (sym whole) (terms_elems c.args.family c.args.coefs.now c.args.squares.now c.requires.one_for_each_monomial c.requires.at_most_8_variables is_elem c.requires.coefs c.requires.squares)

pub jet_of_distinct-requires-clause-variables : goal.jet_of_distinct-requires-clause-variables
jet_of_distinct-requires-clause-variables g c =
    let n = c.corank.result + length c.args.squares.now in
    let whole = c.deref.ensures.value ∙ c.in_ok-terms.ensures.terms in
    subst (All (λ t. IsIn n t.0.e)) (sym whole)
    (terms_variables c.args.family c.args.coefs.now c.args.squares.now c.requires.one_for_each_monomial c.requires.at_most_8_variables n (ap (λ k. k + length c.args.squares.now) c.corank.ensures))

pub jet_of_distinct-requires-clause-long : goal.jet_of_distinct-requires-clause-long
jet_of_distinct-requires-clause-long g c =
    let whole = c.deref.ensures.value ∙ c.in_ok-terms.ensures.terms in
    subst (All (λ t. length t.0.e ≡ 8)) (sym whole) (terms_long c.args.family c.args.coefs.now c.args.squares.now c.requires.one_for_each_monomial c.requires.at_most_8_variables)

pub jet_of_distinct-requires-clause-distinct : goal.jet_of_distinct-requires-clause-distinct
jet_of_distinct-requires-clause-distinct g c =
    let whole = c.deref.ensures.value ∙ c.in_ok-terms.ensures.terms in
    ap (λ ts. are_distinct (exponents_in ts)) whole
    ∙ terms_distinct c.args.family c.args.coefs.now c.args.squares.now c.requires.one_for_each_monomial c.requires.at_most_8_variables c.requires.family

pub returns-clause-sum : goal.returns-clause-sum
returns-clause-sum g c =
    let m = g.R.Ring.meaning c.args.ring.now in
    let whole = c.deref.ensures.value ∙ c.in_ok-terms.ensures.terms in
    let at_terms = subst (λ ts. Same (exps (c.corank.result + length c.args.squares.now)) m.scalars.ops (poly_of (c.corank.result + length c.args.squares.now) m.value c.in_ok-form.form.terms) (poly_of (c.corank.result + length c.args.squares.now) m.value ts)) whole c.in_ok-form.ensures.sum in
    subst (λ n. Same (exps n) m.scalars.ops (poly_of n m.value c.in_ok-form.form.terms) (poly_of n m.value (form_terms c.args.family c.args.coefs.now c.args.squares.now))) (sym c.in_ok-form.ensures.n) at_terms

pub returns-clause-form : goal.returns-clause-form
returns-clause-form g c nonzero_squares =
    let m = g.R.Ring.meaning c.args.ring.now in
    let whole = c.deref.ensures.value ∙ c.in_ok-terms.ensures.terms in
    is_form c.args.family c.args.coefs.now c.args.squares.now c.requires.one_for_each_monomial c.requires.at_most_8_variables m (g.met.R.Ring.laws c.args.ring.now c.requires.ring).numbers c.in_ok-form.form.terms
    (subst (λ ts. IsPermutation (nonzero m.scalars m.value ts) c.in_ok-form.form.terms) whole c.in_ok-form.ensures.terms) c.in_ok-form.form.n
    (c.in_ok-form.ensures.n ∙ ap (λ k. k + length c.args.squares.now) c.corank.ensures) nonzero_squares
