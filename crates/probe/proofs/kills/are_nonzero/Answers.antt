use Rattle.std.proofs.Common.{◌≡◌, ◌≢◌, ◌<◌, ◌∙◌, map, get_or, length, sym, ap, below_more, arith}
use Rattle.std.proofs.lemmas.List.{get_or-map}
use Rattle.probe.proofs.kills.are_nonzero.Goals as goal

pub loop-i-preserved : goal.loop-i-preserved
loop-i-preserved g c =
    let m = g.R.Ring.meaning c.args.ring.now in
    let letters = c.args.letters.now in
    let inside : c.loop-i.i < length letters = let h = c.loop-i-test.true in let k = c.requires.count in omega arith in
    let at : get_or (map m.value letters) c.loop-i.i m.scalars.ops.zero ≡ m.value c.index-letters-i.result =
    get_or-map m.value letters c.loop-i.i c.index-letters-i.result m.scalars.ops.zero inside ∙ ap m.value (sym c.index-letters-i.is) in
    below_more (λ i. get_or (map m.value letters) i m.scalars.ops.zero ≢ m.scalars.ops.zero) c.loop-i.i c.loop-i.invariant
    (λ z. let so : c.eq.result ≡ _ = c.eq.ensures.1 (sym at ∙ z ∙ sym c.zero.ensures.value) in cc (so, c.if-eq.false))
