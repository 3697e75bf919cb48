use Rattle.std.proofs.Common.{inl, inr, subst}
use Rattle.ring_law.proofs.Exits.{fault_handed_on}
use Rattle.poly_law.specs.Polynomials.{SameIn, cut_in}
use Rattle.jet_law.specs.Terms.{poly_of}
use Rattle.jacobian_row.specs.Rows.{polynomial_at}
use Rattle.check_rows.specs.Lists.{list_at}
use Rattle.check_rows.specs.Products.{sum_of_products, AreProductsHigh}
use Rattle.table_rows.specs.Tables.{difference_of}
use Rattle.table_rows.proofs.Differences.{cuts_decide}
use Rattle.table_rows.proofs.table.is_table_row.Goals as goal

pub returns-in_err-left-clause-range : goal.returns-in_err-left-clause-range
returns-in_err-left-clause-range g c = fault_handed_on _ c.from_residual.ensures.1 (λ high. inl high) c.in_err-left.ensures.range

pub returns-in_err-right-clause-range : goal.returns-in_err-right-clause-range
returns-in_err-right-clause-range g c =
    let m = g.R.Ring.meaning c.args.ring.now in
    fault_handed_on _ c.from_residual-in_err-right.ensures.1
    (λ high. inr (subst (λ z. AreProductsHigh c.args.n m.scalars c.args.k (polynomial_at c.args.n m.value z) (list_at c.args.n m.value c.args.partials.now)) c.as_slice-multipliers.ensures high))
    c.in_err-right.ensures.range

pub returns-clause-row : goal.returns-clause-row
returns-clause-row g c =
    let m = g.R.Ring.meaning c.args.ring.now in
    let laws = (g.met.R.Ring.laws c.args.ring.now c.requires.ring).numbers in
    let n = c.args.n in
    cuts_decide m laws n c.args.k c.in_ok-left.left c.in_ok-right.right (difference_of m n c.args.basis.now c.args.row.now)
    (sum_of_products n m.scalars.ops (polynomial_at n m.value c.args.row.now.multipliers) (list_at n m.value c.args.partials.now)) c.is_same_jet.result c.in_ok-left.ensures.n c.in_ok-left.ensures.difference
    (subst (λ z. SameIn c.args.n m.scalars.ops (poly_of c.args.n m.value c.in_ok-right.right.terms) (cut_in c.args.n m.scalars.ops c.args.k (sum_of_products c.args.n m.scalars.ops (polynomial_at c.args.n m.value z) (list_at c.args.n m.value c.args.partials.now))))
    c.as_slice-multipliers.ensures c.in_ok-right.ensures.sum) c.is_same_jet.ensures
