use Rattle.std.proofs.Common.{◌≡◌, length, rules, arith}
use Rattle.ring_law.proofs.Exits.{fault_handed_on}
use Rattle.ring_theory.proofs.ValueSet.{values_are_set}
use Rattle.jet_subst.specs.KeptPowers.{IsFollowing}
use Rattle.jet_subst.proofs.KeptLemmas
use Rattle.jet_subst.proofs.keeping.hold.Goals as goal

pub up-init : goal.up-init
up-init g c = record {
  powers = c.in_ok-hold_one.ensures.powers;
  held = c.in_ok-hold_one.ensures.held;
  long = omega arith;
  divides = KeptLemmas.zero_divides c.args.e.e;
}

pub hold_next-requires-clause-step : goal.hold_next-requires-clause-step
hold_next-requires-clause-step g c =
    let i = c.up.invariant in
    let f : IsFollowing c.up.current.e c.args.e.e c.in-Some.i c.in-Some.next.e = rw c.in-Some.is at c.following.ensures.next in
    KeptLemmas.step_of (length c.args.parts.now) c.up.current c.args.e c.in-Some.next c.in-Some.i c.requires.inside c.requires.at_most_8_parts i.long i.divides f

pub hold_next-requires-clause-degree : goal.hold_next-requires-clause-degree
hold_next-requires-clause-degree g c =
    let i = c.up.invariant in
    let f : IsFollowing c.up.current.e c.args.e.e c.in-Some.i c.in-Some.next.e = rw c.in-Some.is at c.following.ensures.next in
    let long : length c.args.e.e ≡ 8 = search rules in
    let d = KeptLemmas.next_degree (length c.args.parts.now) c.up.current c.args.e c.in-Some.next c.in-Some.i c.requires.inside c.requires.at_most_8_parts i.long i.divides f long in
    let most = c.requires.degree in
    omega arith

pub up-preserved : goal.up-preserved
up-preserved g c =
    let i = c.up.invariant in
    let f : IsFollowing c.up.current.e c.args.e.e c.in-Some.i c.in-Some.next.e = rw c.in-Some.is at c.following.ensures.next in
    let step = KeptLemmas.step_of (length c.args.parts.now) c.up.current c.args.e c.in-Some.next c.in-Some.i c.requires.inside c.requires.at_most_8_parts i.long i.divides f in
    record {
      powers = c.in_ok-hold_next.ensures.powers;
      held = c.in_ok-hold_next.ensures.held;
      long = KeptLemmas.next_long (length c.args.parts.now) c.in-Some.i c.up.current c.in-Some.next step;
      divides = KeptLemmas.still_divides (length c.args.parts.now) c.up.current c.args.e c.in-Some.next c.in-Some.i c.requires.inside c.requires.at_most_8_parts i.long i.divides f;
    }

pub up-smaller : goal.up-smaller
up-smaller g c =
    let i = c.up.invariant in
    let f : IsFollowing c.up.current.e c.args.e.e c.in-Some.i c.in-Some.next.e = rw c.in-Some.is at c.following.ensures.next in
    let long : length c.args.e.e ≡ 8 = search rules in
    KeptLemmas.smaller (length c.args.parts.now) c.up.current c.args.e c.in-Some.next c.in-Some.i c.requires.inside c.requires.at_most_8_parts i.long i.divides f long

pub returns-clause-held : goal.returns-clause-held
returns-clause-held g c =
    let i = c.up.invariant in
    KeptLemmas.held_at_last (length c.args.parts.now) c.up.current c.args.e c.up.powers.entries
    (KeptLemmas.all_places (length c.args.parts.now) c.up.current.e c.args.e.e c.requires.at_most_8_parts c.requires.inside i.divides c.in_default.ensures.full) i.held

pub returns-in_err-hold_next-clause-range : goal.returns-in_err-hold_next-clause-range
returns-in_err-hold_next-clause-range g c =
    let m = g.R.Ring.meaning c.args.ring.now in
    let l = (g.met.R.Ring.laws c.args.ring.now c.requires.ring).numbers in
    let i = c.up.invariant in
    let f : IsFollowing c.up.current.e c.args.e.e c.in-Some.i c.in-Some.next.e = rw c.in-Some.is at c.following.ensures.next in
    fault_handed_on _ c.from_residual-in_err-hold_next.ensures.1
    (λ high. KeptLemmas.divisor_high m c.args.n c.args.k c.args.parts.now l.ring (values_are_set m.scalars l) c.in-Some.next c.args.e
    (KeptLemmas.still_divides (length c.args.parts.now) c.up.current c.args.e c.in-Some.next c.in-Some.i c.requires.inside c.requires.at_most_8_parts i.long i.divides f) high)
    c.in_err-hold_next.ensures.range
