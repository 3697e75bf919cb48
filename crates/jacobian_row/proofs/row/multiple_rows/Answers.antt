use Rattle.std.proofs.Common.{◌≡◌, ◌∙◌, ◌<◌, [], length, get_or, sym, ap, subst, take_all, arith}
use Rattle.mono_exp.specs.Exponents.{IsIn}
use Rattle.jet_poly.specs.JetTerms.{IsRising}
use Rattle.jet_law.specs.Terms.{exp_of, poly_of}
use Rattle.jacobian_row.specs.Numbers.{count_to}
use Rattle.jacobian_row.specs.Multiples.{product_to}
use Rattle.jacobian_row.specs.Multipliers.{multiple_at}
use Rattle.jacobian_row.specs.Rows.{IsRowOf, AreRowsOf, IsJetIn, polynomial_at}
use Rattle.jacobian_row.proofs.ListSteps.{same_default}
use Rattle.jacobian_row.proofs.RowLemmas.{product_entries, product_row, rows_more}
use Rattle.jacobian_row.proofs.row.multiple_rows.Goals as goal

pub loop-u-preserved : goal.loop-u-preserved
loop-u-preserved g c =
    let m = g.R.Ring.meaning c.args.ring.now in
    let laws = (g.met.R.Ring.laws c.args.ring.now c.requires.ring).numbers.ring in
    let n = c.args.n in
    let k = c.args.k in
    let us = c.args.multiples.now in
    let i = c.loop-u.u-index in
    let u = multiple_at us i in
    let partials = c.args.partials.now in
    let f = c.index-partials-from.result in
    let unused : IsIn n u.factor.e = c.requires.unused i (record { factor = record { e = [] }; variable = 0 }) c.loop-u-test.true in
    let variable : u.variable < length partials = c.requires.variables i (record { factor = record { e = [] }; variable = 0 }) c.loop-u-test.true in
    let read : f ≡ get_or partials u.variable f = c.index-partials-from.is ∙ ap (λ j. get_or partials j f) c.from.ensures in
    let jet : IsJetIn m n f = subst (IsJetIn m n) (sym read) (c.requires.jets u.variable f variable) in
    let rising = subst IsRising c.terms.ensures.terms c.terms.ensures.rising in
    let same = ap (λ x. poly_of n m.value x.terms) (read ∙ same_default partials u.variable f (record { n = 0; order = 0; terms = [] }) variable) in
    let entries = c.in_ok-row.ensures.entries ∙ ap (product_entries n k u.factor) c.terms.ensures.terms in
    let row : IsRowOf m n (count_to n k) (product_to n m.scalars.ops k (exp_of n u.factor) (polynomial_at n m.value partials u.variable)) c.in_ok-row.row.entries =
    subst (λ p. IsRowOf m n (count_to n k) (product_to n m.scalars.ops k (exp_of n u.factor) p) c.in_ok-row.row.entries) same
    (subst (IsRowOf m n (count_to n k) (product_to n m.scalars.ops k (exp_of n u.factor) (poly_of n m.value f.terms))) (sym entries) (product_row m laws n k u.factor unused f jet rising)) in
    rw c.in_ok-push.ensures.items (rows_more m n (count_to n k) k partials us i (record { factor = record { e = [] }; variable = 0 }) c.loop-u.rows.items c.in_ok-row.row c.loop-u-test.true c.loop-u.invariant row)

pub returns-clause-rows : goal.returns-clause-rows
returns-clause-rows g c =
    subst (λ us. AreRowsOf (g.R.Ring.meaning c.args.ring.now) c.args.n (count_to c.args.n c.args.k) c.args.k c.args.partials.now us c.loop-u.rows.items) (take_all c.loop-u.u-index c.args.multiples.now (omega arith)) c.loop-u.invariant
