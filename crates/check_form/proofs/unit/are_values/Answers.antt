use Rattle.std.proofs.Common.{◌≡◌, ◌<◌, IsTrue, length, arith}
use Rattle.report_jet.proofs.SameTerms.{key_at}
use Rattle.check_form.proofs.unit.are_values.Goals as goal

pub returns-then-not-eq : goal.returns-then-not-eq
returns-then-not-eq g c =
    let m = g.R.Ring.meaning c.args.ring.now in
    let within : c.loop-i.i < length c.args.values.now = omega arith in
    let apart : m.value c.index-pairs-i.result.0 ≡ m.value c.index-values-i.result → ⊥ = λ e.
    let t : IsTrue c.eq.result = c.eq.ensures.1 (cc) in
    cc
    in
    (λ t. cc, λ e. absurd (apart (key_at (λ p. m.value p.0) m.value c.args.pairs.now c.args.values.now c.loop-i.i c.index-pairs-i.result c.index-values-i.result c.loop-i-test.true within c.index-pairs-i.is c.index-values-i.is e)))
