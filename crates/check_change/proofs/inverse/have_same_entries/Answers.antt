use Rattle.std.proofs.Common.{◌*◌, ◌<◌, ◌≤◌, true≢false, refl, sym, subst, ◌∙◌, arith}
use Rattle.check_change.proofs.Inverses.{place_more, same_of_places, places_of_same}
use Rattle.check_change.proofs.inverse.have_same_entries.Goals as goal

pub returns-then-not-eq : goal.returns-then-not-eq
returns-then-not-eq g c =
    let m = g.R.Ring.meaning c.args.ring.now in
    let place = c.loop-place.place in
    let inside : place < c.args.n * c.args.n = subst (λ z. place < z * z) c.from-size.ensures c.loop-place-test.true in (
      λ e. absurd (true≢false (sym e)),
      λ q. absurd (true≢false (sym (c.eq.ensures.1 (places_of_same m c.args.n c.args.a.now c.args.b.now c.requires.first_entries c.requires.second_entries c.requires.given q
          place c.index-a-place.result c.index-b-place.result inside c.index-a-place.is c.index-b-place.is)) ∙ c.if-not-eq.true)),
    )

pub loop-place-preserved : goal.loop-place-preserved
loop-place-preserved g c =
    let m = g.R.Ring.meaning c.args.ring.now in
    let place = c.loop-place.place in
    let inside : place < c.args.n * c.args.n = subst (λ z. place < z * z) c.from-size.ensures c.loop-place-test.true in
    place_more m c.args.n c.args.a.now c.args.b.now c.requires.first_entries c.requires.second_entries place c.index-a-place.result c.index-b-place.result inside c.index-a-place.is c.index-b-place.is
    (c.eq.ensures.0 c.if-not-eq.false) c.loop-place.invariant

pub returns : goal.returns
returns g c =
    let m = g.R.Ring.meaning c.args.ring.now in
    let size = c.from-size.ensures in
    let end : c.args.n * c.args.n ≤ c.loop-place.place = subst (λ z. z * z ≤ c.loop-place.place) c.from-size.ensures c.loop-place-test.false in
    (λ _. same_of_places m c.args.n c.args.a.now c.args.b.now c.requires.first_entries c.requires.second_entries (λ k d e h. c.loop-place.invariant k d e (omega arith)), λ _. refl)
