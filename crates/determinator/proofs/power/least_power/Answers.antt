use Rattle.std.proofs.Common.{◌≡◌, suc, ◌+◌, not, None, sym, ap, subst, ◌∙◌, arith}
use Rattle.jet_law.specs.Terms.{poly_of}
use Rattle.kill_law.specs.Kill.{first}
use Rattle.move_law.specs.Moves.{is_there, power_exponents}
use Rattle.determinator.proofs.Powers.{found_at, none_next, none_below, tried, is_there_by}
use Rattle.determinator.proofs.power.least_power.Goals as goal

pub returns-then-not-eq : goal.returns-then-not-eq
returns-then-not-eq g c =
    let m = g.R.Ring.meaning c.args.ring.now in
    let n = c.args.f.now.n in
    let laws = (g.met.R.Ring.laws c.args.ring.now c.requires.ring).numbers in
    let top = c.order-m-end.ensures in
    let below = c.loop-m-test.true in
    let here = is_there_by m laws n c.loop-m.m c.args.f.now.terms c.requires.given c.coef.result c.zero.result c.eq.result c.coef.ensures.in_variables c.zero.ensures.value c.eq.ensures in
    record {
      least = sym (found_at (λ k. is_there n m.scalars (poly_of n m.value c.args.f.now.terms) (power_exponents n 0 k)) c.loop-m.m c.args.f.now.order c.loop-m.invariant.at_least (omega arith) (here ∙ ap not c.if-not-eq.true) c.loop-m.invariant.so_far);
    }

pub loop-m-preserved : goal.loop-m-preserved
loop-m-preserved g c =
    let m = g.R.Ring.meaning c.args.ring.now in
    let n = c.args.f.now.n in
    let laws = (g.met.R.Ring.laws c.args.ring.now c.requires.ring).numbers in
    let here = is_there_by m laws n c.loop-m.m c.args.f.now.terms c.requires.given c.coef.result c.zero.result c.eq.result c.coef.ensures.in_variables c.zero.ensures.value c.eq.ensures in
    let next : c.loop-m.m + 1 ≡ suc c.loop-m.m = omega arith in
    record {
      at_least = let low = c.loop-m.invariant.at_least in omega arith;
      so_far = subst (λ k. first (λ i. is_there n m.scalars (poly_of n m.value c.args.f.now.terms) (power_exponents n 0 i)) (tried k) ≡ None) (sym next)
          (none_next (λ k. is_there n m.scalars (poly_of n m.value c.args.f.now.terms) (power_exponents n 0 k)) c.loop-m.m c.loop-m.invariant.at_least (here ∙ ap not c.if-not-eq.false) c.loop-m.invariant.so_far);
    }

pub returns : goal.returns
returns g c =
    let m = g.R.Ring.meaning c.args.ring.now in
    let n = c.args.f.now.n in
    let top = c.order-m-end.ensures in
    let end = c.loop-m-test.false in
    let low = c.loop-m.invariant.at_least in
    let within = c.loop-m.auto.m-end in
    record {
      least = sym (none_below (λ k. is_there n m.scalars (poly_of n m.value c.args.f.now.terms) (power_exponents n 0 k)) c.loop-m.m (c.args.f.now.order + 1) (omega arith) c.loop-m.invariant.so_far);
    }
