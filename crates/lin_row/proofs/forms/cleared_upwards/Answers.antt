use Rattle.std.proofs.Common.{◌≡◌, ◌∙◌, ◌<◌, ◌+◌, ◌-◌, sym, subst, arith, length, take, drop, ◌∷◌}
use Rattle.lin_row.specs.Lines.{IsRising, AllAfter, AllBelow}
use Rattle.lin_row.specs.System.{AllVanish, IsPivot, lines_of}
use Rattle.lin_row.proofs.LineLaws
use Rattle.lin_row.proofs.SystemLaws
use Rattle.lin_row.proofs.FormLaws
use Rattle.lin_row.proofs.forms.cleared_upwards.Goals as goal

pub remainder-requires-clause-pivots : goal.remainder-requires-clause-pivots
remainder-requires-clause-pivots g c =
    let m = g.R.Ring.meaning c.args.ring.now in
    let laws = (g.met.R.Ring.laws c.args.ring.now c.requires.ring).numbers.ring in
    rw c.deref-in-loop-k.ensures.value (SystemLaws.triangular m laws (lines_of c.loop-k.done.items) c.loop-k.invariant.echelon)

pub remainder-requires-clause-line : goal.remainder-requires-clause-line
remainder-requires-clause-line g c =
    let m = g.R.Ring.meaning c.args.ring.now in
    let laws = (g.met.R.Ring.laws c.args.ring.now c.requires.ring).numbers.ring in
    let within : c.loop-k.k - 1 < length c.args.pivots.now = omega arith in
    rw (c.in_ok-row.ensures.items, c.deref.ensures.value) (SystemLaws.pivot_here m laws c.args.pivots.now (c.loop-k.k - 1) c.index-pivots-k.result within c.index-pivots-k.is c.requires.pivots).line

pub loop-k-preserved : goal.loop-k-preserved
loop-k-preserved g c =
    let m = g.R.Ring.meaning c.args.ring.now in
    let laws = (g.met.R.Ring.laws c.args.ring.now c.requires.ring).numbers.ring in
    let ps = c.args.pivots.now in
    let k = c.loop-k.k - 1 in
    let p = c.index-pivots-k.result in
    let read = c.index-pivots-k.is in
    let within : k < length ps = omega arith in
    let old = c.loop-k.invariant in
    let left = c.in_ok-left.left in
    let next : c.loop-k.k ≡ k + 1 = omega arith in
    let ds = lines_of (drop (k + 1) ps) in
    let around = SystemLaws.at_place ps k p within read in
    let after : AllAfter p.0 ds = (LineLaws.rising_right (lines_of (take k ps)) ((p.0, p.1.items) ∷ ds) (subst (λ qs. IsRising qs) around c.requires.pivots.rising)).0 in
    let after_done : AllAfter p.0 (lines_of c.loop-k.done.items) = old.after p.0 (subst (λ i. AllAfter p.0 (lines_of (drop i ps))) (sym next) after) in
    let pivot = SystemLaws.pivot_here m laws ps k p within read c.requires.pivots in
    let same = rw (c.in_ok-row.ensures.items, c.deref.ensures.value, c.deref-in-loop-k.ensures.value) at c.in_ok-left.ensures.same in
    let cleared = rw c.deref-in-loop-k.ensures.value at c.in_ok-left.ensures.cleared in
    let up : IsPivot m p.0 left.items = FormLaws.up_pivot m laws (lines_of c.loop-k.done.items) p.0 p.1.items left.items old.echelon.pivots after_done pivot c.in_ok-left.ensures.line same in
    let drops = SystemLaws.lines-drop ps k p within read in
    rw c.in_ok-insert.ensures.items
    (record {
      within = omega arith;
      echelon = record { pivots = (up, old.echelon.pivots); rising = (after_done, old.echelon.rising) };
      reduced = (cleared, old.reduced);
      after = λ a all. let h = subst (AllAfter a) drops all in (h.0, old.after a (subst (λ i. AllAfter a (lines_of (drop i ps))) (sym next) h.1));
      below = λ u all. let h = subst (AllBelow u) drops all in (h.0, old.below u (subst (λ i. AllBelow u (lines_of (drop i ps))) (sym next) h.1));
      down = λ w all.
          let h = subst (λ qs. AllVanish m qs w) drops all in
          let rest = old.down w (subst (λ i. AllVanish m (lines_of (drop i ps)) w) (sym next) h.1) in
          (same w rest ∙ h.0, rest);
      up = λ w all. subst (λ qs. AllVanish m qs w) (sym drops) (sym (same w all.1) ∙ all.0, subst (λ i. AllVanish m (lines_of (drop i ps)) w) next (old.up w all.1));
    })

pub returns-clause-below : goal.returns-clause-below
returns-clause-below g c u all =
    let e : 0 ≡ c.loop-k.k = omega arith in
    c.loop-k.invariant.below u (subst (λ i. AllBelow u (lines_of (drop i c.args.pivots.now))) e all)

pub returns-clause-down : goal.returns-clause-down
returns-clause-down g c w all =
    let m = g.R.Ring.meaning c.args.ring.now in
    let e : 0 ≡ c.loop-k.k = omega arith in
    c.loop-k.invariant.down w (subst (λ i. AllVanish m (lines_of (drop i c.args.pivots.now)) w) e all)

pub returns-clause-up : goal.returns-clause-up
returns-clause-up g c w all =
    let m = g.R.Ring.meaning c.args.ring.now in
    let e : c.loop-k.k ≡ 0 = omega arith in
    subst (λ i. AllVanish m (lines_of (drop i c.args.pivots.now)) w) e (c.loop-k.invariant.up w all)
