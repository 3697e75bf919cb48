use Rattle.std.proofs.Common.{◌≡◌, ◌∙◌, ◌≤◌, suc, not, length, map, sum, sym, ap, subst, arith}
use Rattle.std.specs.List.{All}
use Rattle.ring_theory.proofs.ValueSet.{values_are_set}
use Rattle.ring_law.proofs.Exits.{fault_handed_on}
use Rattle.mono_exp.specs.declared.exponent.Exp.{Exp}
use Rattle.mono_exp.specs.Exponents.{IsIn, exponents, monomials_below}
use Rattle.lin_row.specs.Rows.{rows_of}
use Rattle.jacobian_row.specs.Numbers.{count_to}
use Rattle.jacobian_row.specs.Multiples.{AreMultiples}
use Rattle.jacobian_row.specs.Rows.{AreRowsOf, AreMonomialRows, ArePartials}
use Rattle.jacobian_row.proofs.RowFacts
use Rattle.jet_law.specs.Terms.{poly_of}
use Rattle.jet_quotient.specs.Answers.{begins_at, number_of, free_of, AreRowsBy}
use Rattle.jacobian_row.proofs.MonomialLists.{kept_all}
use Rattle.jet_quotient.proofs.AnswerFacts.{answer_from, degrees_low}
use Rattle.jet_quotient.proofs.CallFacts.{rows-count, remainders_length, remainders_readable, quotient_high}
use Rattle.jet_quotient.proofs.algebra.quotient.Goals as goal

pub multiple_rows-requires-clause-variables : goal.multiple_rows-requires-clause-variables
multiple_rows-requires-clause-variables g c = λ j d h.
    let multiples : AreMultiples c.n-n.result 0 c.args.k c.deref.result.now = rw c.deref.ensures.value c.in_ok-multiples.ensures.multiples in
    let v = RowFacts.variables_within c.n-n.result 0 c.args.k c.deref.result.now multiples j d h in
    let count = ap length c.deref-2.ensures.value ∙ c.in_ok-partials.ensures.partials.count in
    let n = c.n-n.ensures in
    omega arith

pub monomial_rows-requires-clause-degrees : goal.monomial_rows-requires-clause-degrees
monomial_rows-requires-clause-degrees g c =
    degrees_low c.n-n.result c.args.k c.deref-3.result.now (rw c.deref-3.ensures.value c.in_ok-monomials.ensures.list) (rw c.deref-3.ensures.value c.in_ok-monomials.ensures.unused)

pub reduce_all-requires-clause-rows : goal.reduce_all-requires-clause-rows
reduce_all-requires-clause-rows g c =
    rw c.deref-4.ensures.value (RowFacts.rows_lines (g.F.Ring.meaning c.args.field.now) c.n-n.result (count_to c.n-n.result c.args.k) c.args.k c.deref-2.result.now c.deref.result.now c.in_ok-rows.rows.items c.in_ok-rows.ensures.rows)

pub reduce_all-requires-clause-targets : goal.reduce_all-requires-clause-targets
reduce_all-requires-clause-targets g c =
    rw c.deref-5.ensures.value (RowFacts.monomials_lines (g.F.Ring.meaning c.args.field.now) c.n-n.result (count_to c.n-n.result c.args.k) c.deref-3.result.now c.in_ok-targets.targets.items c.in_ok-targets.ensures.rows)

pub returns-in_err-reduction-clause-range : goal.returns-in_err-reduction-clause-range
returns-in_err-reduction-clause-range g c =
    let m = g.F.Ring.meaning c.args.field.now in
    let laws = (g.met.F.Ring.laws c.args.field.now c.requires.ring).numbers in
    let n = c.n-n.result in
    let k = c.args.k in
    let us = c.deref.result.now in
    let partials : ArePartials m c.args.g.now.n (poly_of c.args.g.now.n m.value c.args.g.now.terms) c.deref-2.result.now = rw c.deref-2.ensures.value c.in_ok-partials.ensures.partials in
    let multiples : AreMultiples n 0 k us = rw c.deref.ensures.value c.in_ok-multiples.ensures.multiples in
    let all : AreRowsOf m n (count_to n k) k c.deref-2.result.now us c.deref-4.result.now = rw c.deref-4.ensures.value c.in_ok-rows.ensures.rows in
    let list : map (λ a. exponents n a.e) c.deref-3.result.now ≡ monomials_below n (suc k) = rw c.deref-3.ensures.value c.in_ok-monomials.ensures.list in
    let targets : AreMonomialRows m n (count_to n k) c.deref-3.result.now c.deref-5.result.now = rw c.deref-5.ensures.value c.in_ok-targets.ensures.rows in
    fault_handed_on c.from_residual-in_err-reduction.result c.from_residual-in_err-reduction.ensures.1
    (quotient_high m laws.ring (values_are_set m.scalars laws) c.args.g.now k n c.n-n.ensures c.deref-2.result.now partials us multiples c.deref-4.result.now all c.deref-3.result.now list c.deref-5.result.now targets)
    c.in_err-reduction.ensures.range

pub basis_of-requires-clause-degrees : goal.basis_of-requires-clause-degrees
basis_of-requires-clause-degrees g c = λ j d h.
    let low = degrees_low c.n-n.result c.args.k c.deref-6.result.now (rw c.deref-6.ensures.value c.in_ok-monomials.ensures.list) (rw c.deref-6.ensures.value c.in_ok-monomials.ensures.unused) j d h in
    let k = c.requires.order_at_most_16 in
    omega arith

pub table_of-requires-clause-unused : goal.table_of-requires-clause-unused
table_of-requires-clause-unused g c =
    let n = c.n-n.result in
    let unused : All (λ a. IsIn n a.e) c.deref-6.result.now = rw c.deref-6.ensures.value c.in_ok-monomials.ensures.unused in
    subst (All (λ (a : Exp). IsIn n a.e)) (sym (c.deref-8.ensures.value ∙ c.in_ok-basis.ensures.basis))
    (kept_all (λ (a : Exp). not (begins_at c.as_slice.result.now (number_of n a))) (λ (a : Exp). IsIn n a.e) c.deref-6.result.now unused)

pub table_of-requires-clause-degrees : goal.table_of-requires-clause-degrees
table_of-requires-clause-degrees g c =
    let n = c.n-n.result in
    let low = degrees_low n c.args.k c.deref-6.result.now (rw c.deref-6.ensures.value c.in_ok-monomials.ensures.list) (rw c.deref-6.ensures.value c.in_ok-monomials.ensures.unused) in
    let small : All (λ (a : Exp). sum a.e ≤ 17) c.deref-6.result.now = (λ j d h. let l = low j d h in let k = c.requires.order_at_most_16 in omega arith) in
    subst (All (λ (a : Exp). sum a.e ≤ 17)) (sym (c.deref-8.ensures.value ∙ c.in_ok-basis.ensures.basis))
    (kept_all (λ (a : Exp). not (begins_at c.as_slice.result.now (number_of n a))) (λ (a : Exp). sum a.e ≤ 17) c.deref-6.result.now small)

pub table_of-requires-clause-one_each : goal.table_of-requires-clause-one_each
table_of-requires-clause-one_each g c =
    let m = g.F.Ring.meaning c.args.field.now in
    let rests = c.in_ok-reduction.reduction.remainders in
    let count = remainders_length m (rows_of c.deref-4.result.now) (rows_of c.in_ok-reduction.reduction.form) c.deref-5.result.now rests c.in_ok-reduction.ensures.reduction.remainders in
    let targets = RowFacts.monomials_length m c.n-n.result (count_to c.n-n.result c.args.k) c.deref-3.result.now c.in_ok-targets.targets.items c.in_ok-targets.ensures.rows in
    ap length c.as_slice-2.ensures ∙ count ∙ ap length c.deref-5.ensures.value ∙ targets ∙ ap length (c.deref-3.ensures.value ∙ sym c.deref-9.ensures.value)

pub table_of-requires-clause-rests : goal.table_of-requires-clause-rests
table_of-requires-clause-rests g c =
    let m = g.F.Ring.meaning c.args.field.now in
    let n = c.n-n.result in
    let k = c.args.k in
    let us = c.deref.result.now in
    let all : AreRowsOf m n (count_to n k) k c.deref-2.result.now us c.deref-4.result.now = rw c.deref-4.ensures.value c.in_ok-rows.ensures.rows in
    let count = rows-count m c.deref-4.result.now ∙ RowFacts.rows_length m n (count_to n k) k c.deref-2.result.now us c.deref-4.result.now all ∙ ap length (c.deref.ensures.value ∙ sym c.deref-7.ensures.value) in
    rw c.as_slice-2.ensures (remainders_readable m (rows_of c.deref-4.result.now) (rows_of c.in_ok-reduction.reduction.form) (length c.deref-7.result.now) count c.deref-5.result.now c.in_ok-reduction.reduction.remainders c.in_ok-reduction.ensures.reduction.remainders)

pub returns-clause-quotient : goal.returns-clause-quotient
returns-clause-quotient g c =
    let m = g.F.Ring.meaning c.args.field.now in
    let laws = (g.met.F.Ring.laws c.args.field.now c.requires.ring).numbers in
    let n = c.n-n.result in
    let k = c.args.k in
    let us = c.deref.result.now in
    let ms = c.deref-3.result.now in
    let partials : ArePartials m c.args.g.now.n (poly_of c.args.g.now.n m.value c.args.g.now.terms) c.deref-2.result.now = rw c.deref-2.ensures.value c.in_ok-partials.ensures.partials in
    let multiples : AreMultiples n 0 k us = rw c.deref.ensures.value c.in_ok-multiples.ensures.multiples in
    let all : AreRowsOf m n (count_to n k) k c.deref-2.result.now us c.deref-4.result.now = rw c.deref-4.ensures.value c.in_ok-rows.ensures.rows in
    let list : map (λ a. exponents n a.e) ms ≡ monomials_below n (suc k) = rw c.deref-3.ensures.value c.in_ok-monomials.ensures.list in
    let unused : All (λ a. IsIn n a.e) ms = rw c.deref-3.ensures.value c.in_ok-monomials.ensures.unused in
    let targets : AreMonomialRows m n (count_to n k) ms c.deref-5.result.now = rw c.deref-5.ensures.value c.in_ok-targets.ensures.rows in
    let reduction = c.in_ok-reduction.reduction in
    let basis = c.in_ok-basis.basis.items in
    let same_ms = c.deref-6.ensures.value ∙ sym c.deref-3.ensures.value in
    let basis_is : basis ≡ free_of n reduction.form ms = c.in_ok-basis.ensures.basis ∙ ap (λ form. free_of n form c.deref-6.result.now) c.as_slice.ensures ∙ ap (free_of n reduction.form) same_ms in
    let same_us = c.deref-7.ensures.value ∙ sym c.deref.ensures.value in
    let same_ms9 = c.deref-9.ensures.value ∙ sym c.deref-3.ensures.value in
    let table = c.in_ok-table.table in
    let count : length table ≡ length ms = c.in_ok-table.ensures.count ∙ ap length same_ms9 in
    let by1 = subst (λ us. AreRowsBy m n k us c.deref-8.result.now c.deref-9.result.now c.as_slice-2.result.now table) same_us c.in_ok-table.ensures.rows in
    let by2 = subst (λ bs. AreRowsBy m n k us bs c.deref-9.result.now c.as_slice-2.result.now table) c.deref-8.ensures.value by1 in
    let by3 = subst (λ xs. AreRowsBy m n k us basis xs c.as_slice-2.result.now table) same_ms9 by2 in
    let by4 = subst (λ rs. AreRowsBy m n k us basis ms rs table) c.as_slice-2.ensures by3 in
    rw c.from_vec.ensures
    (answer_from m laws.ring (values_are_set m.scalars laws) laws.nontrivial c.args.g.now k n c.n-n.ensures us ms reduction.remainders (record { basis = basis; table = table })
    (record {
      partials = c.deref-2.result.now;
      rows = c.deref-4.result.now;
      targets = c.deref-5.result.now;
      form = reduction.form;
      small = (let h = c.requires.at_most_8_variables in let e = c.n-n.ensures in omega arith);
      are_partials = subst (λ i. ArePartials m i (poly_of i m.value c.args.g.now.terms) c.deref-2.result.now) (sym c.n-n.ensures) partials;
      are_multiples = multiples;
      are_rows = all;
      are_monomials = list;
      unused = unused;
      are_targets = targets;
      is_form = c.in_ok-reduction.ensures.reduction.form;
      are_rests = c.in_ok-reduction.ensures.reduction.remainders;
      basis_is = basis_is;
    }) count by4)
