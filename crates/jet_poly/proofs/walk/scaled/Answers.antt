use Rattle.std.proofs.Common.{◌+◌, ◌≤◌, ◌∙◌, [], get_or, length, take, take_all, sum, refl, sym, ap, subst, arith}
use Rattle.ring_law.proofs.Exits.{faulted, fault_handed_on}
use Rattle.poly_law.specs.ExpList.{exps}
use Rattle.poly_law.specs.Poly.{coefficient, Same, scale}
use Rattle.mono_exp.specs.Exponents.{IsIn}
use Rattle.jet_law.specs.Terms.{poly_of}
use Rattle.jet_poly.specs.Jets.{IsJet}
use Rattle.jet_poly.proofs.KeptTerms.{made}
use Rattle.jet_poly.proofs.Derived.{AreReady, keys, key-read, keys-rise, none-ready, ready-step, ready-jet, made-step, scale-high}
use Rattle.jet_poly.proofs.walk.scaled.Goals as goal

pub returns-in_err-c-clause-range : goal.returns-in_err-c-clause-range
returns-in_err-c-clause-range g c =
    let m = g.R.Ring.meaning c.args.ring.now in
    faulted _ c.from_residual.ensures.1
    (λ high. scale-high c.args.n c.args.order m (g.met.R.Ring.laws c.args.ring.now c.requires.ring).numbers (m.value c.args.a) c.args.terms.now c.loop-t.t-index c.t-item.result c.loop-t-test.true c.t-item.is high)
    c.in_err-c.ensures.cause

pub returns-in_err-push_term-clause-range : goal.returns-in_err-push_term-clause-range
returns-in_err-push_term-clause-range g c = fault_handed_on _ c.from_residual-in_err-push_term.ensures.1 (λ bad. absurd bad) c.in_err-push_term.ensures.memory

pub loop-t-init : goal.loop-t-init
loop-t-init g c =
    let m = g.R.Ring.meaning c.args.ring.now in
    record {
      ready = none-ready c.args.n c.args.order m (g.met.R.Ring.laws c.args.ring.now c.requires.ring).numbers (λ j. get_or (keys c.args.terms.now) j []) (λ j. Unit {0}) (length c.args.terms.now) c.new-kept.result.items c.new-kept.ensures.items;
      so_far = λ b. ap (λ z. coefficient (exps c.args.n) m.scalars.ops (poly_of c.args.n m.value z) b) c.new-kept.ensures.items;
    }

pub loop-t-preserved : goal.loop-t-preserved
loop-t-preserved g c =
    let m = g.R.Ring.meaning c.args.ring.now in
    let laws = (g.met.R.Ring.laws c.args.ring.now c.requires.ring).numbers in
    let n = c.args.n in
    let f = c.args.terms.now in
    let i = c.loop-t.t-index in
    let t = c.t-item.result in
    let h = c.loop-t-test.true in
    let e = c.t-item.is in
    record {
      ready = subst (AreReady n c.args.order m (λ j. get_or (keys c.args.terms.now) j []) (λ j. Unit {0}) (c.loop-t.t-index + 1) (length c.args.terms.now)) (sym c.in_ok-push_term.ensures.pushed)
          (ready-step n c.args.order m laws (λ j. get_or (keys c.args.terms.now) j []) (λ j. Unit {0}) (length c.args.terms.now) (λ a b l s x y. keys-rise c.args.terms.now a b c.requires.rising l s)
          i c.loop-t.kept.items (t.0, c.in_ok-c.c) h (sym (key-read f i t h e)) c.in_ok-c.ensures.elem
          (λ nz. (tt, subst (λ z. IsIn c.args.n z.0.e) (sym e) (c.requires.jet.variables i t h), subst (λ z. sum z.0.e ≤ c.args.order) (sym e) (c.requires.jet.degrees i t h)))
          c.loop-t.invariant.ready);
      so_far = subst (λ z. Same (exps c.args.n) m.scalars.ops (poly_of c.args.n m.value z) (scale (exps c.args.n) m.scalars.ops (m.value c.args.a) (poly_of c.args.n m.value (take (c.loop-t.t-index + 1) c.args.terms.now)))) (sym c.in_ok-push_term.ensures.pushed)
          (made-step n c.args.order m laws (λ t. (t.0, m.scalars.ops.mul (m.value c.args.a) t.1)) f i t c.loop-t.kept.items t.0 c.in_ok-c.c h e refl c.in_ok-c.ensures.value c.loop-t.invariant.so_far);
    }

pub from_rising-requires : goal.from_rising-requires
from_rising-requires g c = record { rising = c.loop-t.invariant.ready.rising }

pub returns-clause-jet : goal.returns-clause-jet
returns-clause-jet g c =
    let m = g.R.Ring.meaning c.args.ring.now in
    subst (IsJet m) (sym c.from_rising.ensures)
    (ready-jet c.args.n c.args.order m (g.met.R.Ring.laws c.args.ring.now c.requires.ring).numbers (λ j. get_or (keys c.args.terms.now) j []) (λ j. Unit {0}) c.loop-t.t-index (length c.args.terms.now) (made c.args.n c.args.order c.loop-t.kept.items) refl refl c.loop-t.invariant.ready)

pub returns-clause-product : goal.returns-clause-product
returns-clause-product g c b =
    let m = g.R.Ring.meaning c.args.ring.now in
    ap (λ h. coefficient (exps c.args.n) m.scalars.ops (poly_of c.args.n m.value h.terms) b) c.from_rising.ensures
    ∙ subst (λ z. Same (exps c.args.n) m.scalars.ops (poly_of c.args.n m.value c.loop-t.kept.items) (scale (exps c.args.n) m.scalars.ops (m.value c.args.a) (poly_of c.args.n m.value z)))
    (take_all c.loop-t.t-index c.args.terms.now (omega arith)) c.loop-t.invariant.so_far b
