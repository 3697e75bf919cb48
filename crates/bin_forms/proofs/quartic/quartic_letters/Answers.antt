use Rattle.std.proofs.Common.{map, arith}
use Rattle.ring_law.proofs.Exits.{handed_on}
use Rattle.ring_formula.proofs.Steps.{letter_is}
use Rattle.normal_forms.proofs.Invariants
use Rattle.bin_forms.proofs.quartic.quartic_letters.Goals as goal

pub returns-in_err-b-clause-range : goal.returns-in_err-b-clause-range
returns-in_err-b-clause-range g c =
    let m = g.R.Ring.meaning c.args.ring.now in
    handed_on _ c.from_residual.ensures.1
    (Invariants.b_high m.scalars (map m.value c.args.q.now) (m.value c.index-q-1.result) (letter_is m.scalars m.value c.args.q.now 1 c.index-q-1.result (omega arith) c.index-q-1.is))
    c.in_err-b.ensures.range

pub returns-in_err-c-clause-range : goal.returns-in_err-c-clause-range
returns-in_err-c-clause-range g c =
    let m = g.R.Ring.meaning c.args.ring.now in
    handed_on _ c.from_residual-in_err-c.ensures.1
    (Invariants.c_high m.scalars (map m.value c.args.q.now) (m.value c.index-q-2.result) (letter_is m.scalars m.value c.args.q.now 2 c.index-q-2.result (omega arith) c.index-q-2.is))
    c.in_err-c.ensures.range

pub returns-in_err-d-clause-range : goal.returns-in_err-d-clause-range
returns-in_err-d-clause-range g c =
    let m = g.R.Ring.meaning c.args.ring.now in
    handed_on _ c.from_residual-in_err-d.ensures.1
    (Invariants.d_high m.scalars (map m.value c.args.q.now) (m.value c.index-q-3.result) (letter_is m.scalars m.value c.args.q.now 3 c.index-q-3.result (omega arith) c.index-q-3.is))
    c.in_err-d.ensures.range

pub returns-clause-value : goal.returns-clause-value
returns-clause-value g c =
    let m = g.R.Ring.meaning c.args.ring.now in
    let s = m.scalars in
    let qs = map m.value c.args.q.now in
    Invariants.letters_are s qs (m.value c.index-q-0.result) (m.value c.in_ok-b.b) (m.value c.in_ok-c.c) (m.value c.in_ok-d.d) (m.value c.index-q-4.result)
    (letter_is s m.value c.args.q.now 0 c.index-q-0.result (omega arith) c.index-q-0.is)
    (Invariants.over_is s qs 4 1 (m.value c.index-q-1.result) (m.value c.in_ok-b.b) (letter_is s m.value c.args.q.now 1 c.index-q-1.result (omega arith) c.index-q-1.is) c.in_ok-b.ensures.value)
    (Invariants.over_is s qs 6 2 (m.value c.index-q-2.result) (m.value c.in_ok-c.c) (letter_is s m.value c.args.q.now 2 c.index-q-2.result (omega arith) c.index-q-2.is) c.in_ok-c.ensures.value)
    (Invariants.over_is s qs 4 3 (m.value c.index-q-3.result) (m.value c.in_ok-d.d) (letter_is s m.value c.args.q.now 3 c.index-q-3.result (omega arith) c.index-q-3.is) c.in_ok-d.ensures.value)
    (letter_is s m.value c.args.q.now 4 c.index-q-4.result (omega arith) c.index-q-4.is)
