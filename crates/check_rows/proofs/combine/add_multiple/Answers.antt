use Rattle.std.proofs.Common.{◌≡◌, ◌++◌, append-nil, sym, subst, take_all, arith}
use Rattle.std.proofs.lemmas.List.Elements.{All-from_recursion}
use Rattle.ring_law.proofs.Exits.{fault_handed_on}
use Rattle.poly_law.specs.ExpList.{exps}
use Rattle.poly_law.specs.Poly.{times_term}
use Rattle.poly_law.specs.Polynomials.{cut_in}
use Rattle.mono_exp.specs.Exponents.{IsIn}
use Rattle.jet_law.specs.Terms.{exp_of, poly_of}
use Rattle.jacobian_row.proofs.ListSteps.{element}
use Rattle.check_rows.proofs.ListLemmas.{multiple_step, multiple_high}
use Rattle.check_rows.proofs.combine.add_multiple.Goals as goal

pub loop-t-init : goal.loop-t-init
loop-t-init g c =
    let m = g.R.Ring.meaning c.args.ring.now in
    record { within = omega arith; valid = c.requires.valid; so_far = sym (append-nil (poly_of c.args.n m.value c.args.all.now.items)) }

pub add_product-requires-clause-t_elem : goal.add_product-requires-clause-t_elem
add_product-requires-clause-t_elem g c =
    let m = g.R.Ring.meaning c.args.ring.now in
    element (λ t. m.is_elem t.1) c.args.h.now c.loop-t.t-index c.t-item.result c.loop-t-test.true c.t-item.is (All-from_recursion (λ t. m.is_elem t.1) c.args.h.now c.requires.terms.elems)

pub add_product-requires-clause-t_variables : goal.add_product-requires-clause-t_variables
add_product-requires-clause-t_variables g c =
    element (λ t. IsIn c.args.n t.0.e) c.args.h.now c.loop-t.t-index c.t-item.result c.loop-t-test.true c.t-item.is (All-from_recursion (λ t. IsIn c.args.n t.0.e) c.args.h.now c.requires.terms.unused)

pub returns-in_err-add_product-clause-range : goal.returns-in_err-add_product-clause-range
returns-in_err-add_product-clause-range g c =
    let m = g.R.Ring.meaning c.args.ring.now in
    fault_handed_on _ c.from_residual.ensures.1
    (λ high. multiple_high m c.args.n c.args.k (exp_of c.args.n c.args.u.0, m.value c.args.u.1) c.args.h.now c.loop-t.t-index c.t-item.result c.loop-t-test.true c.t-item.is high)
    c.in_err-add_product.ensures.range

pub loop-t-preserved : goal.loop-t-preserved
loop-t-preserved g c =
    let m = g.R.Ring.meaning c.args.ring.now in
    record {
      within = omega arith;
      valid = c.in_ok-add_product.ensures.valid;
      so_far = multiple_step m c.args.n c.args.k (poly_of c.args.n m.value c.args.all.now.items) (poly_of c.args.n m.value c.loop-t.all.items) (poly_of c.args.n m.value c.add_product.new.all.items)
          (exp_of c.args.n c.args.u.0, m.value c.args.u.1) c.args.h.now c.loop-t.t-index c.t-item.result c.loop-t-test.true c.t-item.is c.loop-t.invariant.so_far c.in_ok-add_product.ensures.product;
    }

pub returns-clause-products : goal.returns-clause-products
returns-clause-products g c =
    let m = g.R.Ring.meaning c.args.ring.now in
    subst (λ z. poly_of c.args.n m.value c.loop-t.all.items ≡ poly_of c.args.n m.value c.args.all.now.items ++ cut_in c.args.n m.scalars.ops c.args.k (times_term (exps c.args.n) m.scalars.ops (exp_of c.args.n c.args.u.0, m.value c.args.u.1) (poly_of c.args.n m.value z)))
    (take_all c.loop-t.t-index c.args.h.now (omega arith)) c.loop-t.invariant.so_far
