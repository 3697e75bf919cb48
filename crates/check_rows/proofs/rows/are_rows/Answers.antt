use Rattle.std.proofs.Common.{◌∙◌, get_or, map, sym, ap, subst}
use Rattle.ring_law.proofs.Exits.{faulted_by}
use Rattle.mono_exp.specs.Exponents.{IsIn, exponents}
use Rattle.jet_poly.specs.Jets.{polynomial_of}
use Rattle.jet_poly.proofs.Steps.{if_ok}
use Rattle.check_rows.proofs.JetLemmas.{answer_no, not_both}
use Rattle.check_rows.specs.Lists.{ArePartialLists}
use Rattle.check_rows.proofs.RowLemmas.{exponents_of, no_rows, row_degrees, rows_decided, rows_high}
use Rattle.check_rows.proofs.rows.are_rows.Goals as goal

pub returns-then-not-have_same_exponents-clause-rows : goal.returns-then-not-have_same_exponents-clause-rows
returns-then-not-have_same_exponents-clause-rows g c =
    let m = g.R.Ring.meaning c.args.ring.now in
    let laws = (g.met.R.Ring.laws c.args.ring.now c.requires.ring).numbers in
    let n = c.n-n.result in
    let of_rows = exponents_of n c.args.rows.now c.deref.result.now (c.deref.ensures.value ∙ c.in_ok-of_rows.ensures) in
    answer_no (λ is. not_both c.have_same_exponents.result
    (c.have_same_exponents.ensures.1
    (of_rows ∙ no_rows m laws c.args.g.now c.args.k c.args.rows.now n c.deref-2.result.now c.n-n.ensures (ap (map (λ a. exponents c.n-n.result a.e)) c.deref-2.ensures.value ∙ c.in_ok-monomials.ensures.list) is))
    c.if-not-have_same_exponents.true)

pub each_is_row-requires-clause-degrees : goal.each_is_row-requires-clause-degrees
each_is_row-requires-clause-degrees g c =
    let m = g.R.Ring.meaning c.args.ring.now in
    let laws = (g.met.R.Ring.laws c.args.ring.now c.requires.ring).numbers in
    let n = c.n-n.result in
    let of_rows = exponents_of n c.args.rows.now c.deref.result.now (c.deref.ensures.value ∙ c.in_ok-of_rows.ensures) in
    row_degrees m laws n c.args.k c.args.rows.now
    (sym of_rows ∙ c.have_same_exponents.ensures.0 c.if-not-have_same_exponents.false ∙ ap (map (λ a. exponents c.n-n.result a.e)) c.deref-2.ensures.value ∙ c.in_ok-monomials.ensures.list)
    (λ i d h. subst (λ j. IsIn j (get_or c.args.rows.now i d).monomial.e) (sym c.n-n.ensures) (c.requires.rows i d h).unused)

pub returns-clause-rows : goal.returns-clause-rows
returns-clause-rows g c =
    let m = g.R.Ring.meaning c.args.ring.now in
    let laws = (g.met.R.Ring.laws c.args.ring.now c.requires.ring).numbers in
    let n = c.n-n.result in
    let of_rows = exponents_of n c.args.rows.now c.deref.result.now (c.deref.ensures.value ∙ c.in_ok-of_rows.ensures) in
    let are : ArePartialLists m c.args.g.now.n (polynomial_of m c.args.g.now) c.deref-3.result.now = subst (ArePartialLists m c.args.g.now.n (polynomial_of m c.args.g.now)) (sym c.deref-3.ensures.value) c.in_ok-partials.ensures.partials in
    if_ok c.each_is_row.result
    (λ b decides. rows_decided m laws c.args.g.now c.args.k c.deref-3.result.now c.args.rows.now b n c.n-n.ensures are c.deref-2.result.now
    (ap (map (λ a. exponents c.n-n.result a.e)) c.deref-2.ensures.value ∙ c.in_ok-monomials.ensures.list) (sym of_rows ∙ c.have_same_exponents.ensures.0 c.if-not-have_same_exponents.false) decides)
    c.each_is_row.ensures.rows

pub returns-clause-range : goal.returns-clause-range
returns-clause-range g c =
    let m = g.R.Ring.meaning c.args.ring.now in
    let laws = (g.met.R.Ring.laws c.args.ring.now c.requires.ring).numbers in
    let n = c.n-n.result in
    let are : ArePartialLists m c.args.g.now.n (polynomial_of m c.args.g.now) c.deref-3.result.now = subst (ArePartialLists m c.args.g.now.n (polynomial_of m c.args.g.now)) (sym c.deref-3.ensures.value) c.in_ok-partials.ensures.partials in
    faulted_by (λ high. rows_high m laws c.args.g.now c.args.k c.deref-3.result.now c.args.rows.now n c.n-n.ensures are high) c.each_is_row.ensures.range
