use Rattle.std.proofs.Common.{◌≡◌, ◌∙◌, ◌+◌, ◌<◌, inl, inr, get_or, replicate, length, sum, sym, ap, subst, arith}
use Rattle.ring_law.proofs.Exits.{fault_handed_on}
use Rattle.jet_law.specs.Terms.{exp_of}
use Rattle.jet_law.proofs.TermLemmas.{degree-exp_of}
use Rattle.jet_poly.specs.Jets.{polynomial_of}
use Rattle.jacobian_row.specs.Multiples.{AreMultiples}
use Rattle.jacobian_row.specs.Rows.{ArePartials}
use Rattle.jacobian_row.proofs.RowFacts.{variables_within}
use Rattle.normal_forms.proofs.Padded.{get_or-zeros}
use Rattle.check_rows.proofs.JetLemmas.{answer_no, not_both}
use Rattle.check_rows.proofs.FunctionalLemmas.{zeros_high, must_vanish, functional_decided, one_high}
use Rattle.check_rows.proofs.functional.is_failure.Goals as goal

pub returns-then-degree-from-clause-fails : goal.returns-then-degree-from-clause-fails
returns-then-degree-from-clause-fails g c =
    answer_no (λ fails. c.if-degree-from.true
    (let a = fails.of_degree in
    let b = degree-exp_of c.args.g.now.n c.args.at c.requires.unused in
    let d = c.degree.ensures.degree in
    let e = c.from.ensures in
    omega arith))

pub is_zero_on-requires-clause-places : goal.is_zero_on-requires-clause-places
is_zero_on-requires-clause-places g c i d h =
    let count = ap length c.deref.ensures.value ∙ c.in_ok-partials.ensures.partials.count in
    let variable : (get_or c.deref-2.result.now i d).variable < c.n-n.result = variables_within c.n-n.result 2 (c.args.k + 1) c.deref-2.result.now
    (subst (AreMultiples c.n-n.result 2 (c.args.k + 1)) (sym c.deref-2.ensures.value) c.in_ok-multiples.ensures.multiples) i d h in
    let n = c.n-n.ensures in
    omega arith

pub returns-in_err-is_zero_on-clause-range : goal.returns-in_err-is_zero_on-clause-range
returns-in_err-is_zero_on-clause-range g c =
    let m = g.R.Ring.meaning c.args.ring.now in
    let laws = (g.met.R.Ring.laws c.args.ring.now c.requires.ring).numbers in
    let are : ArePartials m c.args.g.now.n (polynomial_of m c.args.g.now) c.deref.result.now = subst (ArePartials m c.args.g.now.n (polynomial_of m c.args.g.now)) (sym c.deref.ensures.value) c.in_ok-partials.ensures.partials in
    let list : AreMultiples c.n-n.result 2 (c.args.k + 1) c.deref-2.result.now = subst (AreMultiples c.n-n.result 2 (c.args.k + 1)) (sym c.deref-2.ensures.value) c.in_ok-multiples.ensures.multiples in
    fault_handed_on _ c.from_residual-in_err-is_zero_on.ensures.1
    (λ high. inr (inl (zeros_high m laws c.args.g.now c.args.k c.deref.result.now c.args.values.now c.deref-2.result.now c.n-n.result c.n-n.ensures are c.requires.variables c.requires.degrees list high)))
    c.in_err-is_zero_on.ensures.range

pub returns-then-not-branch-clause-fails : goal.returns-then-not-branch-clause-fails
returns-then-not-branch-clause-fails g c =
    let m = g.R.Ring.meaning c.args.ring.now in
    let laws = (g.met.R.Ring.laws c.args.ring.now c.requires.ring).numbers in
    let are : ArePartials m c.args.g.now.n (polynomial_of m c.args.g.now) c.deref.result.now = subst (ArePartials m c.args.g.now.n (polynomial_of m c.args.g.now)) (sym c.deref.ensures.value) c.in_ok-partials.ensures.partials in
    let list : AreMultiples c.n-n.result 2 (c.args.k + 1) c.deref-2.result.now = subst (AreMultiples c.n-n.result 2 (c.args.k + 1)) (sym c.deref-2.ensures.value) c.in_ok-multiples.ensures.multiples in
    answer_no (λ fails. not_both c.in_ok-is_zero_on.field-0
    (c.in_ok-is_zero_on.ensures.zero.1 (must_vanish m laws c.args.g.now c.args.k c.deref.result.now c.args.values.now c.deref-2.result.now (exp_of c.args.g.now.n c.args.at) c.n-n.result c.n-n.ensures are c.requires.variables c.requires.degrees list fails))
    c.if-not-branch.true)

pub returns-in_err-one-clause-range : goal.returns-in_err-one-clause-range
returns-in_err-one-clause-range g c =
    let m = g.R.Ring.meaning c.args.ring.now in
    let laws = (g.met.R.Ring.laws c.args.ring.now c.requires.ring).numbers in
    fault_handed_on _ c.from_residual-in_err-one.ensures.1
    (λ high. inr (inr (one_high m laws c.args.g.now c.args.k c.deref.result.now c.args.values.now c.args.at c.in_ok-monomial.monomial (record { e = replicate 8 0 }) c.n-n.result c.n-n.ensures c.requires.variables c.requires.degrees (get_or-zeros 8) c.in_ok-monomial.ensures.monomial high)))
    c.in_err-one.ensures.range

pub returns-clause-fails : goal.returns-clause-fails
returns-clause-fails g c =
    let m = g.R.Ring.meaning c.args.ring.now in
    let laws = (g.met.R.Ring.laws c.args.ring.now c.requires.ring).numbers in
    let are : ArePartials m c.args.g.now.n (polynomial_of m c.args.g.now) c.deref.result.now = subst (ArePartials m c.args.g.now.n (polynomial_of m c.args.g.now)) (sym c.deref.ensures.value) c.in_ok-partials.ensures.partials in
    let list : AreMultiples c.n-n.result 2 (c.args.k + 1) c.deref-2.result.now = subst (AreMultiples c.n-n.result 2 (c.args.k + 1)) (sym c.deref-2.ensures.value) c.in_ok-multiples.ensures.multiples in
    let degree_is : sum c.args.at.e ≡ c.args.k + 1 = (let d = c.degree.ensures.degree in let e = c.from.ensures in let f = c.if-degree-from.false in omega arith) in
    functional_decided m laws c.args.g.now c.args.k c.deref.result.now c.args.values.now c.deref-2.result.now c.args.at c.eq.result c.in_ok-one.one c.in_ok-monomial.monomial (record { e = replicate 8 0 }) c.n-n.result c.n-n.ensures
    are c.requires.variables c.requires.degrees c.requires.unused degree_is (get_or-zeros 8)
    ((λ t. c.eq.ensures.0 t ∙ c.one.ensures.value), (λ e. c.eq.ensures.1 (e ∙ sym c.one.ensures.value)))
    list (c.in_ok-is_zero_on.ensures.zero.0 c.if-not-branch.false) c.in_ok-monomial.ensures.monomial c.in_ok-one.ensures.value
