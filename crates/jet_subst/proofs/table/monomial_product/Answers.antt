use Rattle.std.proofs.Common.{◌≡◌, ℕ, ◌+◌, ◌<◌, length, get_or, sym, ◌∙◌, subst, arith}
use Rattle.ring_theory.proofs.ValueSet.{values_are_set}
use Rattle.ring_law.proofs.Exits.{fault_handed_on}
use Rattle.poly_law.specs.ExpList.{exps}
use Rattle.poly_law.specs.Poly.{monomial_of}
use Rattle.poly_law.proofs.ExpLists.{exps_are}
use Rattle.jet_law.specs.Terms.{exp_of, poly_of}
use Rattle.jet_law.proofs.TermLemmas.{at-exp_of}
use Rattle.jet_subst.specs.Powers.{IsTruncatedJet}
use Rattle.jet_subst.specs.Parts.{part_of}
use Rattle.jet_subst.proofs.Monomials
use Rattle.jet_subst.proofs.Monomials.{prefix}
use Rattle.jet_subst.proofs.Tables
use Rattle.jet_subst.proofs.table.monomial_product.Goals as goal
use Rattle.jet_subst.proofs.table.monomial_product.Goals.{then-exponent-gt0+in_ok-next, else-exponent-gt0}

pub loop-i-init : goal.loop-i-init
loop-i-init g c =
    let m = g.R.Ring.meaning c.args.ring.now in
    let l = (g.met.R.Ring.laws c.args.ring.now c.requires.ring).numbers in
    let count = length c.args.parts.now in
    let one = c.in_ok-power.ensures.one in
    record {
      jet = one.jet;
      variables = one.variables;
      order = one.order;
      truncation = Monomials.no_variables (exps count) (exps_are count) (exps c.args.n) (exps_are c.args.n) m.scalars l.ring (values_are_set m.scalars l) c.args.k (part_of c.args.n m.value c.args.parts.now)
          (exp_of count c.args.a) (poly_of c.args.n m.value c.in_ok-power.power.terms) one.truncation;
    }

pub product-requires-clause-left : goal.product-requires-clause-left
product-requires-clause-left g c = c.loop-i.invariant.jet

pub product-requires-clause-right : goal.product-requires-clause-right
product-requires-clause-right g c =
    let m = g.R.Ring.meaning c.args.ring.now in
    let factor = Tables.factor_at m c.args.n c.args.k c.args.parts.now c.args.table.now c.args.a c.loop-i.i c.index-table-i.result c.as_slice.result.now c.from-exponent.result c.index-as_slice-exponent.result
    c.requires.table c.requires.powers (subst (λ z. c.loop-i.i < z) (sym c.requires.count) c.loop-i-test.true) c.index-table-i.is c.as_slice.ensures c.from-exponent.ensures c.index-as_slice-exponent.is in
    factor.jet

pub product-requires-clause-same_variables : goal.product-requires-clause-same_variables
product-requires-clause-same_variables g c =
    let m = g.R.Ring.meaning c.args.ring.now in
    let factor = Tables.factor_at m c.args.n c.args.k c.args.parts.now c.args.table.now c.args.a c.loop-i.i c.index-table-i.result c.as_slice.result.now c.from-exponent.result c.index-as_slice-exponent.result
    c.requires.table c.requires.powers (subst (λ z. c.loop-i.i < z) (sym c.requires.count) c.loop-i-test.true) c.index-table-i.is c.as_slice.ensures c.from-exponent.ensures c.index-as_slice-exponent.is in
    factor.variables ∙ sym c.loop-i.invariant.variables

pub loop-i-preserved : goal.loop-i-preserved
loop-i-preserved g c =
    let m = g.R.Ring.meaning c.args.ring.now in
    let l = (g.met.R.Ring.laws c.args.ring.now c.requires.ring).numbers in
    let count = length c.args.parts.now in
    let front = λ (i : ℕ). monomial_of (exps count) (exps c.args.n) m.scalars.ops (part_of c.args.n m.value c.args.parts.now) (prefix (exps count) (exps_are count) i (exp_of count c.args.a)) in
    elim c.if-exponent-gt0.branch [
      | then-exponent-gt0+in_ok-next w ↦
          let factor = Tables.factor_at m c.args.n c.args.k c.args.parts.now c.args.table.now c.args.a c.loop-i.i w.index-table-i.result w.as_slice.result.now c.from-exponent.result w.index-as_slice-exponent.result
          c.requires.table c.requires.powers (subst (λ z. c.loop-i.i < z) (sym c.requires.count) c.loop-i-test.true) w.index-table-i.is w.as_slice.ensures c.from-exponent.ensures w.index-as_slice-exponent.is in
          subst (IsTruncatedJet m c.args.n c.args.k (front (c.loop-i.i + 1))) (sym w.power-is)
          (Tables.monomial_more m c.args.n c.args.k c.args.parts.now l.ring (values_are_set m.scalars l) c.args.a c.loop-i.i c.loop-i-test.true
          c.loop-i.power w.index-as_slice-exponent.result w.in_ok-next.next c.loop-i.invariant factor w.in_ok-next.ensures.product)
      | else-exponent-gt0 w ↦
          let exponent = c.from-exponent.ensures in
          let none : get_or c.args.a.e c.loop-i.i 0 ≡ 0 = omega (arith, w.if-exponent-gt0.false) in
          subst (IsTruncatedJet m c.args.n c.args.k (front (c.loop-i.i + 1))) (sym w.power-is)
          (subst (λ z. IsTruncatedJet m c.args.n c.args.k (monomial_of (exps count) (exps c.args.n) m.scalars.ops (part_of c.args.n m.value c.args.parts.now) z) c.loop-i.power)
          (sym (Monomials.prefix-skip (exps count) (exps_are count) c.loop-i.i (exp_of count c.args.a) (at-exp_of count c.args.a c.loop-i.i c.loop-i-test.true ∙ none))) c.loop-i.invariant)
    ]

pub returns-clause-product : goal.returns-clause-product
returns-clause-product g c =
    let m = g.R.Ring.meaning c.args.ring.now in
    let count = length c.args.parts.now in
    subst (λ z. IsTruncatedJet m c.args.n c.args.k (monomial_of (exps count) (exps c.args.n) m.scalars.ops (part_of c.args.n m.value c.args.parts.now) z) c.loop-i.power)
    (Monomials.prefix-all (exps count) (exps_are count) c.loop-i.i (exp_of count c.args.a) c.loop-i-test.false) c.loop-i.invariant

pub returns-in_err-next-clause-range : goal.returns-in_err-next-clause-range
returns-in_err-next-clause-range g c =
    let m = g.R.Ring.meaning c.args.ring.now in
    let l = (g.met.R.Ring.laws c.args.ring.now c.requires.ring).numbers in
    let factor = Tables.factor_at m c.args.n c.args.k c.args.parts.now c.args.table.now c.args.a c.loop-i.i c.index-table-i.result c.as_slice.result.now c.from-exponent.result c.index-as_slice-exponent.result
    c.requires.table c.requires.powers (subst (λ z. c.loop-i.i < z) (sym c.requires.count) c.loop-i-test.true) c.index-table-i.is c.as_slice.ensures c.from-exponent.ensures c.index-as_slice-exponent.is in
    fault_handed_on _ c.from_residual-in_err-next.ensures.1
    (λ high. Tables.monomial_high m c.args.n c.args.k c.args.parts.now l.ring (values_are_set m.scalars l) c.args.a c.loop-i.i c.loop-i-test.true c.loop-i.power c.index-as_slice-exponent.result c.loop-i.invariant factor high)
    c.in_err-next.ensures.range
