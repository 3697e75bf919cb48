use Rattle.std.proofs.Common.{◌≡◌, ◌∙◌, ◌+◌, ◌≤◌, length, map, sym, ap, arith}
use Rattle.std.specs.List.{All}
use Rattle.ring_theory.proofs.ValueSet.{values_are_set}
use Rattle.ring_law.proofs.Exits.{fault_handed_on}
use Rattle.mono_exp.specs.Exponents.{IsIn, exponents, monomials_of}
use Rattle.lin_row.specs.Rows.{AreSolutions}
use Rattle.jacobian_row.specs.Numbers.{count_to}
use Rattle.jacobian_row.specs.Multiples.{AreMultiples}
use Rattle.jacobian_row.specs.Rows.{AreRowsOf, AreMonomialRows, ArePartials}
use Rattle.jacobian_row.proofs.NumberLemmas.{count_small}
use Rattle.jacobian_row.proofs.RowFacts
use Rattle.jet_law.specs.Terms.{poly_of}
use Rattle.determinacy.proofs.HighLemmas.{test_high}
use Rattle.determinacy.proofs.MatherLemmas.{answer_ok, solutions_length, solutions_usable}
use Rattle.determinacy.proofs.test.mather.Goals as goal

pub multiple_rows-requires-clause-variables : goal.multiple_rows-requires-clause-variables
multiple_rows-requires-clause-variables g c = λ j d h.
    let multiples : AreMultiples c.n-n.result 2 c.args.k c.deref.result.now = rw c.deref.ensures.value c.in_ok-multiples.ensures.multiples in
    let v = RowFacts.variables_within c.n-n.result 2 c.args.k c.deref.result.now multiples j d h in
    let count = ap length c.deref-2.ensures.value ∙ c.in_ok-partials.ensures.partials.count in
    let n = c.n-n.ensures in
    omega arith

pub monomial_rows-requires-clause-degrees : goal.monomial_rows-requires-clause-degrees
monomial_rows-requires-clause-degrees g c = λ j d h.
    let list : map (λ a. exponents c.n-n.result a.e) c.deref-3.result.now ≡ monomials_of c.n-n.result (c.args.k + 1) = rw c.deref-3.ensures.value c.in_ok-monomials.ensures.list in
    let unused : All (λ a. IsIn c.n-n.result a.e) c.deref-3.result.now = rw c.deref-3.ensures.value c.in_ok-monomials.ensures.unused in
    let e = RowFacts.degrees_are c.n-n.result (c.args.k + 1) c.deref-3.result.now list unused j d h in
    omega arith

pub solve_all-requires-clause-rows : goal.solve_all-requires-clause-rows
solve_all-requires-clause-rows g c =
    rw c.deref-4.ensures.value (RowFacts.rows_lines (g.F.Ring.meaning c.args.field.now) c.n-n.result (count_to c.n-n.result (c.args.k + 1)) (c.args.k + 1) c.deref-2.result.now c.deref.result.now c.in_ok-rows.rows.items c.in_ok-rows.ensures.rows)

pub solve_all-requires-clause-targets : goal.solve_all-requires-clause-targets
solve_all-requires-clause-targets g c =
    rw c.deref-5.ensures.value (RowFacts.monomials_lines (g.F.Ring.meaning c.args.field.now) c.n-n.result (count_to c.n-n.result (c.args.k + 1)) c.deref-3.result.now c.in_ok-targets.targets.items c.in_ok-targets.ensures.rows)

pub returns-in_err-solutions-clause-range : goal.returns-in_err-solutions-clause-range
returns-in_err-solutions-clause-range g c =
    let m = g.F.Ring.meaning c.args.field.now in
    let laws = (g.met.F.Ring.laws c.args.field.now c.requires.ring).numbers in
    let n = c.n-n.result in
    let k = c.args.k in
    let bound = count_to n (k + 1) in
    let us = c.deref.result.now in
    let partials : ArePartials m c.args.g.now.n (poly_of c.args.g.now.n m.value c.args.g.now.terms) c.deref-2.result.now = rw c.deref-2.ensures.value c.in_ok-partials.ensures.partials in
    let multiples : AreMultiples n 2 k us = rw c.deref.ensures.value c.in_ok-multiples.ensures.multiples in
    let all : AreRowsOf m n bound (k + 1) c.deref-2.result.now us c.deref-4.result.now = rw c.deref-4.ensures.value c.in_ok-rows.ensures.rows in
    let list : map (λ a. exponents n a.e) c.deref-3.result.now ≡ monomials_of n (k + 1) = rw c.deref-3.ensures.value c.in_ok-monomials.ensures.list in
    let targets : AreMonomialRows m n bound c.deref-3.result.now c.deref-5.result.now = rw c.deref-5.ensures.value c.in_ok-targets.ensures.rows in
    fault_handed_on c.from_residual-in_err-solutions.result c.from_residual-in_err-solutions.ensures.1
    (test_high m laws.ring (values_are_set m.scalars laws) c.args.g.now k n c.n-n.ensures c.deref-2.result.now partials us multiples c.deref-4.result.now all c.deref-3.result.now list c.deref-5.result.now targets)
    c.in_err-solutions.ensures.range

pub answer-requires-clause-one_each : goal.answer-requires-clause-one_each
answer-requires-clause-one_each g c =
    let m = g.F.Ring.meaning c.args.field.now in
    let solutions : AreSolutions m c.deref-4.result.now c.deref-5.result.now c.deref-8.result.now = rw c.deref-8.ensures.value c.in_ok-solutions.ensures.solutions in
    let all = RowFacts.monomials_length m c.n-n.result (count_to c.n-n.result (c.args.k + 1)) c.deref-3.result.now c.in_ok-targets.targets.items c.in_ok-targets.ensures.rows in
    solutions_length m c.deref-4.result.now c.deref-5.result.now c.deref-8.result.now solutions ∙ ap length c.deref-5.ensures.value ∙ all ∙ ap length (c.deref-3.ensures.value ∙ sym c.deref-7.ensures.value)

pub answer-requires-clause-solutions : goal.answer-requires-clause-solutions
answer-requires-clause-solutions g c =
    let m = g.F.Ring.meaning c.args.field.now in
    let n = c.n-n.result in
    let k = c.args.k in
    let bound = count_to n (k + 1) in
    let us = c.deref.result.now in
    let all : AreRowsOf m n bound (k + 1) c.deref-2.result.now us c.deref-4.result.now = rw c.deref-4.ensures.value c.in_ok-rows.ensures.rows in
    let targets : AreMonomialRows m n bound c.deref-3.result.now c.deref-5.result.now = rw c.deref-5.ensures.value c.in_ok-targets.ensures.rows in
    let solutions : AreSolutions m c.deref-4.result.now c.deref-5.result.now c.deref-8.result.now = rw c.deref-8.ensures.value c.in_ok-solutions.ensures.solutions in
    let count = RowFacts.rows_length m n bound (k + 1) c.deref-2.result.now us c.deref-4.result.now all ∙ ap length (c.deref.ensures.value ∙ sym c.deref-6.ensures.value) in
    let small : k + 1 ≤ 17 = (let h = c.requires.order_at_most_16 in omega arith) in
    solutions_usable m n bound _ _ c.deref-4.result.now c.deref-3.result.now c.deref-5.result.now c.deref-8.result.now count (RowFacts.rows_below m n bound (k + 1) c.deref-2.result.now us c.deref-4.result.now all) (count_small n (k + 1) small) targets solutions

pub returns-clause-answer : goal.returns-clause-answer
returns-clause-answer g c =
    let m = g.F.Ring.meaning c.args.field.now in
    let laws = (g.met.F.Ring.laws c.args.field.now c.requires.ring).numbers in
    let n = c.n-n.result in
    let k = c.args.k in
    let bound = count_to n (k + 1) in
    let us = c.deref.result.now in
    let partials : ArePartials m c.args.g.now.n (poly_of c.args.g.now.n m.value c.args.g.now.terms) c.deref-2.result.now = rw c.deref-2.ensures.value c.in_ok-partials.ensures.partials in
    let multiples : AreMultiples n 2 k us = rw c.deref.ensures.value c.in_ok-multiples.ensures.multiples in
    let all : AreRowsOf m n bound (k + 1) c.deref-2.result.now us c.deref-4.result.now = rw c.deref-4.ensures.value c.in_ok-rows.ensures.rows in
    let list : map (λ a. exponents n a.e) c.deref-3.result.now ≡ monomials_of n (k + 1) = rw c.deref-3.ensures.value c.in_ok-monomials.ensures.list in
    let unused : All (λ a. IsIn n a.e) c.deref-3.result.now = rw c.deref-3.ensures.value c.in_ok-monomials.ensures.unused in
    let targets : AreMonomialRows m n bound c.deref-3.result.now c.deref-5.result.now = rw c.deref-5.ensures.value c.in_ok-targets.ensures.rows in
    let solutions : AreSolutions m c.deref-4.result.now c.deref-5.result.now c.deref-8.result.now = rw c.deref-8.ensures.value c.in_ok-solutions.ensures.solutions in
    answer_ok m laws.ring (values_are_set m.scalars laws) c.args.g.now k n c.n-n.ensures c.deref-2.result.now us c.deref-4.result.now c.deref-3.result.now c.deref-5.result.now c.deref-8.result.now (let h = c.requires.at_most_8_variables in let e = c.n-n.ensures in omega arith) c.requires.low partials multiples all list unused targets solutions
    c.answer.result (rw (sym (c.deref-6.ensures.value ∙ sym c.deref.ensures.value), sym (c.deref-7.ensures.value ∙ sym c.deref-3.ensures.value)) c.answer.ensures.answer)
