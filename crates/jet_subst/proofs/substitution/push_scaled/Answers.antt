use Rattle.std.proofs.Common.{◌≡◌, ◌++◌, All, take_all, sym, subst, arith}
use Rattle.ring_law.proofs.Exits.{faulted}
use Rattle.poly_law.specs.ExpList.{exps}
use Rattle.poly_law.specs.Poly.{scale}
use Rattle.mono_exp.specs.Exponents.{IsIn}
use Rattle.jet_law.specs.Terms.{poly_of}
use Rattle.jet_subst.proofs.Tables.{all_push}
use Rattle.jet_subst.proofs.Multiples
use Rattle.jet_subst.proofs.substitution.push_scaled.Goals as goal

pub loop-u-preserved : goal.loop-u-preserved
loop-u-preserved g c =
    let m = g.R.Ring.meaning c.args.ring.now in
    let u = c.u-item.result in
    record {
      within = omega arith;
      elems = subst (All (λ u. m.is_elem u.1)) (sym c.in_ok-push.ensures.items) (all_push (λ u. m.is_elem u.1) c.loop-u.all.items (u.0, c.in_ok-v.v) c.loop-u.invariant.elems c.in_ok-v.ensures.elem);
      variables = λ n old terms. subst (All (λ u. IsIn n u.0.e)) (sym c.in_ok-push.ensures.items)
          (all_push (λ u. IsIn n u.0.e) c.loop-u.all.items (u.0, c.in_ok-v.v) (c.loop-u.invariant.variables n old terms)
          (subst (λ u. IsIn n u.0.e) (sym c.u-item.is) (terms c.loop-u.u-index u c.loop-u-test.true)));
      multiples = λ n. Multiples.scaled_more m n c.args.all.now.items c.loop-u.all.items c.push.new.self.items c.args.c c.args.terms.now c.loop-u.u-index u c.in_ok-v.v c.loop-u-test.true c.u-item.is
          (c.loop-u.invariant.multiples n) c.in_ok-push.ensures.items c.in_ok-v.ensures.value;
    }

pub returns-in_err-v-clause-range : goal.returns-in_err-v-clause-range
returns-in_err-v-clause-range g c =
    let m = g.R.Ring.meaning c.args.ring.now in
    faulted _ c.from_residual.ensures.1 (λ high. Multiples.scaled_high m c.args.c c.args.terms.now c.loop-u.u-index c.u-item.result c.loop-u-test.true c.u-item.is high) c.in_err-v.ensures.cause

pub returns-clause-multiples : goal.returns-clause-multiples
returns-clause-multiples g c n =
    let m = g.R.Ring.meaning c.args.ring.now in
    subst (λ z. poly_of n m.value c.loop-u.all.items ≡ poly_of n m.value c.args.all.now.items ++ scale (exps n) m.scalars.ops (m.value c.args.c) (poly_of n m.value z))
    (take_all c.loop-u.u-index c.args.terms.now (omega arith)) (c.loop-u.invariant.multiples n)
