use Rattle.std.proofs.Common.{◌≡◌, sym, subst, arith, take, drop, ◌∷◌}
use Rattle.lin_row.specs.Lines.{AllBelow, lead_of}
use Rattle.lin_row.specs.System.{IsPivot, AreEchelon, AllVanish, IsAbsent, lines_of}
use Rattle.lin_row.proofs.SystemLaws
use Rattle.lin_row.proofs.BuildLaws
use Rattle.lin_row.proofs.echelon.add_pivot.Goals as goal

pub returns-then-first-ge-UNITS-clause-covers : goal.returns-then-first-ge-UNITS-clause-covers
returns-then-first-ge-UNITS-clause-covers g c w none vanish =
    let m = g.F.Ring.meaning c.args.field.now in
    let laws = (g.met.F.Ring.laws c.args.field.now c.requires.ring).numbers.ring in
    BuildLaws.dot-from m laws c.args.row.now 4294967296 w none (BuildLaws.from_first c.args.row.now 4294967296 c.index-row-0.result (omega arith) c.index-row-0.is c.if-first-ge-UNITS.true c.requires.line.rising)

pub returns-in_ok-insert-in-Some-clause-pivots : goal.returns-in_ok-insert-in-Some-clause-pivots
returns-in_ok-insert-in-Some-clause-pivots g c =
    let m = g.F.Ring.meaning c.args.field.now in
    let laws = (g.met.F.Ring.laws c.args.field.now c.requires.ring).numbers.ring in
    let first = c.index-row-0.result in
    let pivot = c.in_ok-pivot-in-Some.pivot in
    let old = c.args.pivots.now.items in
    let at = c.place-at.result in
    let split = SystemLaws.lines-split old at in
    let lead : lead_of c.args.row.now ≡ first.0 = BuildLaws.lead-first c.args.row.now first (omega arith) c.index-row-0.is in
    let is_pivot : IsPivot m first.0 pivot.items = BuildLaws.scaled_pivot m laws (g.met.F.Field.inverts c.args.field.now c.requires.ring) c.args.row.now pivot.items first (m.value c.in-Some.inverse) (omega arith) c.index-row-0.is c.requires.line c.in_ok-pivot-in-Some.ensures.line c.in_ok-pivot-in-Some.ensures.value (rw c.in-Some.is at c.in_ok-inverse.ensures.value) in
    rw c.in_ok-insert-in-Some.ensures.items
    (subst (λ ys. AreEchelon m ys) (sym (SystemLaws.lines-append (take at old) ((first.0, pivot) ∷ drop at old)))
    (BuildLaws.echelon_insert m laws (lines_of (take at old)) (lines_of (drop at old)) (first.0, pivot.items) (subst (λ ys. AreEchelon m ys) split c.requires.pivots)
    (rw c.deref.ensures.value at c.place-at.ensures.before) (rw c.deref.ensures.value at c.place-at.ensures.next)
    (subst (λ ys. IsAbsent first.0 ys) split (subst (λ l. IsAbsent l (lines_of old)) lead c.requires.absent)) is_pivot))

pub returns-in_ok-insert-in-Some-clause-below : goal.returns-in_ok-insert-in-Some-clause-below
returns-in_ok-insert-in-Some-clause-below g c =
    let first = c.index-row-0.result in
    let pivot = c.in_ok-pivot-in-Some.pivot in
    let old = c.args.pivots.now.items in
    let at = c.place-at.result in
    rw c.in_ok-insert-in-Some.ensures.items
    (subst (λ ys. AllBelow 4294967296 ys) (sym (SystemLaws.lines-append (take at old) ((first.0, pivot) ∷ drop at old)))
    (BuildLaws.below_insert (lines_of (take at old)) (lines_of (drop at old)) (first.0, pivot.items) 4294967296 (subst (λ ys. AllBelow 4294967296 ys) (SystemLaws.lines-split old at) c.requires.below) (omega arith)))

pub returns-in_ok-insert-in-Some-clause-vanish : goal.returns-in_ok-insert-in-Some-clause-vanish
returns-in_ok-insert-in-Some-clause-vanish g c w vanish here =
    let m = g.F.Ring.meaning c.args.field.now in
    let laws = (g.met.F.Ring.laws c.args.field.now c.requires.ring).numbers.ring in
    let first = c.index-row-0.result in
    let pivot = c.in_ok-pivot-in-Some.pivot in
    let old = c.args.pivots.now.items in
    let at = c.place-at.result in
    rw c.in_ok-insert-in-Some.ensures.items
    (subst (λ ys. AllVanish m ys w) (sym (SystemLaws.lines-append (take at old) ((first.0, pivot) ∷ drop at old)))
    (BuildLaws.vanish_insert m laws (lines_of (take at old)) (lines_of (drop at old)) (first.0, pivot.items) w (subst (λ ys. AllVanish m ys w) (SystemLaws.lines-split old at) vanish)
    (BuildLaws.multiple_zero m laws c.args.row.now pivot.items (m.value c.in-Some.inverse) c.in_ok-pivot-in-Some.ensures.value w here)))

pub returns-in_ok-insert-in-Some-clause-keeps : goal.returns-in_ok-insert-in-Some-clause-keeps
returns-in_ok-insert-in-Some-clause-keeps g c w vanish =
    let m = g.F.Ring.meaning c.args.field.now in
    let laws = (g.met.F.Ring.laws c.args.field.now c.requires.ring).numbers.ring in
    let first = c.index-row-0.result in
    let pivot = c.in_ok-pivot-in-Some.pivot in
    let old = c.args.pivots.now.items in
    let at = c.place-at.result in
    subst (λ ys. AllVanish m ys w) (sym (SystemLaws.lines-split old at))
    (BuildLaws.vanish_without m laws (lines_of (take at old)) (lines_of (drop at old)) (first.0, pivot.items) w
    (subst (λ ys. AllVanish m ys w) (SystemLaws.lines-append (take at old) ((first.0, pivot) ∷ drop at old)) (rw c.in_ok-insert-in-Some.ensures.items at vanish)))

pub returns-in_ok-insert-in-Some-clause-covers : goal.returns-in_ok-insert-in-Some-clause-covers
returns-in_ok-insert-in-Some-clause-covers g c w none vanish =
    let m = g.F.Ring.meaning c.args.field.now in
    let laws = (g.met.F.Ring.laws c.args.field.now c.requires.ring).numbers.ring in
    let first = c.index-row-0.result in
    let pivot = c.in_ok-pivot-in-Some.pivot in
    let old = c.args.pivots.now.items in
    let at = c.place-at.result in
    let f = m.value c.in-Some.inverse in
    let unit = BuildLaws.times_inverse m laws (g.met.F.Field.inverts c.args.field.now c.requires.ring) c.args.row.now first f (omega arith) c.index-row-0.is c.requires.line (rw c.in-Some.is at c.in_ok-inverse.ensures.value) in
    BuildLaws.multiple_back m laws c.args.row.now pivot.items f c.in_ok-pivot-in-Some.ensures.value (m.value first.1) w unit
    (SystemLaws.vanish_in m laws (lines_of (take at old)) (lines_of (drop at old)) (first.0, pivot.items) w
    (subst (λ ys. AllVanish m ys w) (SystemLaws.lines-append (take at old) ((first.0, pivot) ∷ drop at old)) (rw c.in_ok-insert-in-Some.ensures.items at vanish)))
