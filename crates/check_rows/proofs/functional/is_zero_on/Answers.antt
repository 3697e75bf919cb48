use Rattle.std.proofs.Common.{◌≡◌, ◌∙◌, ◌<◌, [], length, get_or, sym, ap, subst, take}
use Rattle.std.specs.List.{AllByRecursion}
use Rattle.std.proofs.lemmas.List.{take_more}
use Rattle.std.proofs.lemmas.List.Elements.{All-from_recursion}
use Rattle.ring_law.proofs.Exits.{fault_handed_on}
use Rattle.poly_law.specs.ExpList.{exps}
use Rattle.poly_law.specs.Poly.{value_on}
use Rattle.poly_law.specs.Polynomials.{term_in, times_in}
use Rattle.jet_law.specs.Heights.{IsHigh}
use Rattle.jet_law.specs.Terms.{exp_of, poly_of}
use Rattle.jet_poly.proofs.Output.{all-push}
use Rattle.jacobian_row.specs.Multipliers.{multiple_at}
use Rattle.jacobian_row.specs.Rows.{polynomial_at}
use Rattle.jacobian_row.proofs.ListSteps.{same_default}
use Rattle.check_rows.specs.Functionals.{value_heights, IsZeroOn}
use Rattle.check_rows.proofs.JetLemmas.{answer_no, not_both}
use Rattle.check_rows.proofs.functional.is_zero_on.Goals as goal

pub returns-in_err-value-clause-range : goal.returns-in_err-value-clause-range
returns-in_err-value-clause-range g c =
    let m = g.R.Ring.meaning c.args.ring.now in
    let n = c.args.n in
    let us = c.args.multiples.now in
    let i = c.loop-u.u-index in
    let u = multiple_at us i in
    let partials = c.args.partials.now in
    let f = c.index-partials-from.result in
    let variable : u.variable < length partials = c.requires.places i (record { factor = record { e = [] }; variable = 0 }) c.loop-u-test.true in
    let read : f ≡ get_or partials u.variable f = c.index-partials-from.is ∙ ap (λ j. get_or partials j f) c.from.ensures in
    let same = ap (λ x. poly_of n m.value x.terms) (read ∙ same_default partials u.variable f (record { n = 0; order = 0; terms = [] }) variable) in
    fault_handed_on _ c.from_residual.ensures.1
    (λ high. record {
      place = i;
      within = c.loop-u-test.true;
      high = subst (λ z. IsHigh (value_heights n m.scalars (poly_of n m.value c.args.values.now) (times_in n m.scalars.ops (term_in n m.scalars.ops (exp_of n u.factor)) z))) same high;
    })
    c.in_err-value.ensures.range

pub loop-u-preserved : goal.loop-u-preserved
loop-u-preserved g c =
    let m = g.R.Ring.meaning c.args.ring.now in
    let n = c.args.n in
    let us = c.args.multiples.now in
    let i = c.loop-u.u-index in
    let u = multiple_at us i in
    let partials = c.args.partials.now in
    let f = c.index-partials-from.result in
    let variable : u.variable < length partials = c.requires.places i (record { factor = record { e = [] }; variable = 0 }) c.loop-u-test.true in
    let read : f ≡ get_or partials u.variable f = c.index-partials-from.is ∙ ap (λ j. get_or partials j f) c.from.ensures in
    let same = ap (λ x. poly_of n m.value x.terms) (read ∙ same_default partials u.variable f (record { n = 0; order = 0; terms = [] }) variable) in
    let here : IsZeroOn n m.scalars.ops (poly_of n m.value c.args.values.now) (polynomial_at n m.value partials) u =
    subst (λ z. value_on (exps n) m.scalars.ops (poly_of n m.value c.args.values.now) (times_in n m.scalars.ops (term_in n m.scalars.ops (exp_of n u.factor)) z) ≡ m.scalars.ops.zero) same
    (sym c.in_ok-value.ensures.value ∙ c.eq.ensures.0 c.if-not-eq.false ∙ c.zero.ensures.value) in
    subst (AllByRecursion (IsZeroOn n m.scalars.ops (poly_of n m.value c.args.values.now) (polynomial_at n m.value partials))) (sym (take_more us i (record { factor = record { e = [] }; variable = 0 }) c.loop-u-test.true))
    (all-push (IsZeroOn n m.scalars.ops (poly_of n m.value c.args.values.now) (polynomial_at n m.value partials)) (take i us) u c.loop-u.invariant here)

pub returns-then-not-eq-clause-zero : goal.returns-then-not-eq-clause-zero
returns-then-not-eq-clause-zero g c =
    let m = g.R.Ring.meaning c.args.ring.now in
    let n = c.args.n in
    let us = c.args.multiples.now in
    let i = c.loop-u.u-index in
    let u = multiple_at us i in
    let partials = c.args.partials.now in
    let f = c.index-partials-from.result in
    let variable : u.variable < length partials = c.requires.places i (record { factor = record { e = [] }; variable = 0 }) c.loop-u-test.true in
    let read : f ≡ get_or partials u.variable f = c.index-partials-from.is ∙ ap (λ j. get_or partials j f) c.from.ensures in
    let same = ap (λ x. poly_of n m.value x.terms) (read ∙ same_default partials u.variable f (record { n = 0; order = 0; terms = [] }) variable) in
    answer_no (λ all.
    (let here = All-from_recursion (IsZeroOn n m.scalars.ops (poly_of n m.value c.args.values.now) (polynomial_at n m.value partials)) us all i (record { factor = record { e = [] }; variable = 0 }) c.loop-u-test.true in
    not_both c.eq.result
    (c.eq.ensures.1 (c.in_ok-value.ensures.value
    ∙ subst (λ z. value_on (exps n) m.scalars.ops (poly_of n m.value c.args.values.now) (times_in n m.scalars.ops (term_in n m.scalars.ops (exp_of n u.factor)) z) ≡ m.scalars.ops.zero) (sym same) here
    ∙ sym c.zero.ensures.value)) c.if-not-eq.true))
