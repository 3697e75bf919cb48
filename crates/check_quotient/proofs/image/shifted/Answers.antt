use Rattle.std.proofs.Common.{ap, ◌∙◌, ◌≡◌, [], append-nil, sym, subst, take_all, arith}
use Rattle.std.proofs.lemmas.List.Elements.{All-from_recursion}
use Rattle.poly_law.specs.ExpList.{exps}
use Rattle.poly_law.specs.Poly.{times_term}
use Rattle.poly_law.specs.Polynomials.{cut_in}
use Rattle.mono_exp.specs.Exponents.{IsIn}
use Rattle.jet_law.specs.Terms.{exp_of, poly_of}
use Rattle.jacobian_row.proofs.ListSteps.{element}
use Rattle.check_rows.proofs.ListLemmas.{multiple_step}
use Rattle.check_quotient.proofs.image.shifted.Goals as goal

pub add_shifted-requires-clause-t_elem : goal.add_shifted-requires-clause-t_elem
add_shifted-requires-clause-t_elem g c =
    let m = g.R.Ring.meaning c.args.ring.now in
    element (λ t. m.is_elem t.1) c.args.terms.now c.loop-t.t-index c.t-item.result c.loop-t-test.true c.t-item.is (All-from_recursion (λ t. m.is_elem t.1) c.args.terms.now c.requires.terms.elems)

pub add_shifted-requires-clause-t_variables : goal.add_shifted-requires-clause-t_variables
add_shifted-requires-clause-t_variables g c =
    element (λ t. IsIn c.args.n t.0.e) c.args.terms.now c.loop-t.t-index c.t-item.result c.loop-t-test.true c.t-item.is (All-from_recursion (λ t. IsIn c.args.n t.0.e) c.args.terms.now c.requires.terms.unused)

pub loop-t-preserved : goal.loop-t-preserved
loop-t-preserved g c =
    let m = g.R.Ring.meaning c.args.ring.now in
    record {
      within = omega arith;
      valid = c.in_ok-add_shifted.ensures.valid;
      so_far = multiple_step m c.args.n c.args.k [] (poly_of c.args.n m.value c.loop-t.all.items) (poly_of c.args.n m.value c.add_shifted.new.all.items)
          (exp_of c.args.n c.args.a, m.scalars.ops.one) c.args.terms.now c.loop-t.t-index c.t-item.result c.loop-t-test.true c.t-item.is c.loop-t.invariant.so_far c.in_ok-add_shifted.ensures.product;
    }

pub returns-clause-product : goal.returns-clause-product
returns-clause-product g c =
    let m = g.R.Ring.meaning c.args.ring.now in
    let row = times_term (exps c.args.n) m.scalars.ops (exp_of c.args.n c.args.a, m.scalars.ops.one) (poly_of c.args.n m.value c.args.terms.now) in
    subst (λ z. poly_of c.args.n m.value c.loop-t.all.items ≡ cut_in c.args.n m.scalars.ops c.args.k (times_term (exps c.args.n) m.scalars.ops (exp_of c.args.n c.args.a, m.scalars.ops.one) (poly_of c.args.n m.value z)))
    (take_all c.loop-t.t-index c.args.terms.now (omega arith)) c.loop-t.invariant.so_far
    ∙ ap (cut_in c.args.n m.scalars.ops c.args.k) (sym (append-nil row))
