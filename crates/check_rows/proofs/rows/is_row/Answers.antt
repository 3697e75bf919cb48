use Rattle.std.proofs.Common.{◌+◌, ◌<◌, length, sym, subst}
use Rattle.ring_law.proofs.Exits.{fault_handed_on}
use Rattle.poly_law.specs.Polynomials.{SameIn, StartsAtIn, cut_in}
use Rattle.jet_law.specs.Terms.{poly_of}
use Rattle.jacobian_row.specs.Rows.{polynomial_at}
use Rattle.check_rows.specs.Lists.{list_at}
use Rattle.check_rows.specs.Products.{sum_of_products, AreProductsHigh}
use Rattle.check_rows.proofs.RowLemmas.{row_decided}
use Rattle.check_rows.proofs.rows.is_row.Goals as goal

pub returns-in_err-sum-clause-range : goal.returns-in_err-sum-clause-range
returns-in_err-sum-clause-range g c =
    let m = g.R.Ring.meaning c.args.ring.now in
    fault_handed_on _ c.from_residual.ensures.1
    (λ high. subst (λ z. AreProductsHigh c.args.n m.scalars (c.args.k + 1) (polynomial_at c.args.n m.value z) (list_at c.args.n m.value c.args.partials.now)) c.as_slice-multipliers.ensures high)
    c.in_err-sum.ensures.range

pub returns-clause-row : goal.returns-clause-row
returns-clause-row g c =
    let m = g.R.Ring.meaning c.args.ring.now in
    let laws = (g.met.R.Ring.laws c.args.ring.now c.requires.ring).numbers in
    let n = c.args.n in
    row_decided m laws n c.args.k (list_at n m.value c.args.partials.now) c.args.row.now c.in_ok-sum.sum c.in_ok-wanted.wanted c.is_same_jet.result c.in_ok-sum.ensures.n
    (subst (λ z. SameIn c.args.n m.scalars.ops (poly_of c.args.n m.value c.in_ok-sum.sum.terms) (cut_in c.args.n m.scalars.ops (c.args.k + 1) (sum_of_products c.args.n m.scalars.ops (polynomial_at c.args.n m.value z) (list_at c.args.n m.value c.args.partials.now))))
    c.as_slice-multipliers.ensures c.in_ok-sum.ensures.sum)
    c.in_ok-wanted.ensures.monomial c.requires.row.unused c.requires.degree
    (λ i h. subst (λ z. StartsAtIn c.args.n m.scalars.ops 2 (polynomial_at c.args.n m.value z i)) c.as_slice-multipliers.ensures
    (c.all_start_at_two.ensures.0 c.if-not-all_start_at_two.false i (subst (λ z. i < length z) (sym c.as_slice-multipliers.ensures) (subst (λ l. i < l) (sym c.requires.row.count) h))))
    c.is_same_jet.ensures
