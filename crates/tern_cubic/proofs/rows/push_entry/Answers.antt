use Rattle.std.proofs.Common.{◌≡◌, ◌≢◌, ◌+◌, ◌∙◌, sym, ap, arith}
use Rattle.ring_theory.proofs.RingSolver
use Rattle.lin_row.specs.Lines.{dot}
use Rattle.lin_row.proofs.LineLaws
use Rattle.lin_row.proofs.SystemLaws
use Rattle.lin_row.proofs.BuildLaws
use Rattle.tern_cubic.proofs.rows.push_entry.Goals as goal

pub returns-in_ok-push-clause-line : goal.returns-in_ok-push-clause-line
returns-in_ok-push-clause-line g c =
    let m = g.R.Ring.meaning c.args.ring.now in
    let unit : m.value c.args.x ≢ m.scalars.ops.zero = λ h. let so : c.eq.result ≡ _ = c.eq.ensures.1 (h ∙ sym c.zero.ensures.value) in cc (so, c.if-not-eq.true) in
    rw c.in_ok-push.ensures.items (record {
      rising = BuildLaws.rising_push c.args.entries.now.items c.args.column (c.args.column, c.args.x) (omega arith) c.requires.below c.requires.line.rising;
      units = LineLaws.units_append m (g.met.R.Ring.laws c.args.ring.now c.requires.ring).numbers.ring c.args.entries.now.items _ c.requires.line.units ((c.requires.elem, unit), tt);
    })

pub returns-in_ok-push-clause-below : goal.returns-in_ok-push-clause-below
returns-in_ok-push-clause-below g c =
    rw c.in_ok-push.ensures.items
    (BuildLaws.below_push c.args.entries.now.items (c.args.column + 1) (c.args.column, c.args.x) (SystemLaws.below_bigger c.args.entries.now.items c.args.column (c.args.column + 1) (omega arith) c.requires.below) (omega arith))

pub returns-in_ok-push-clause-value : goal.returns-in_ok-push-clause-value
returns-in_ok-push-clause-value g c w =
    let m = g.R.Ring.meaning c.args.ring.now in
    rw c.in_ok-push.ensures.items (LineLaws.dot-push m (g.met.R.Ring.laws c.args.ring.now c.requires.ring).numbers.ring c.args.entries.now.items (c.args.column, c.args.x) w)

pub returns-else-not-eq-clause-below : goal.returns-else-not-eq-clause-below
returns-else-not-eq-clause-below g c = SystemLaws.below_bigger c.args.entries.now.items c.args.column (c.args.column + 1) (omega arith) c.requires.below

pub returns-else-not-eq-clause-value : goal.returns-else-not-eq-clause-value
returns-else-not-eq-clause-value g c w =
    let m = g.R.Ring.meaning c.args.ring.now in
    let laws = (g.met.R.Ring.laws c.args.ring.now c.requires.ring).numbers.ring in
    let none : m.value c.args.x ≡ m.scalars.ops.zero = c.eq.ensures.0 c.if-not-eq.false ∙ c.zero.ensures.value in
    sym (ap (λ z. m.scalars.ops.add (dot m c.args.entries.now.items w) (m.scalars.ops.mul z (w c.args.column))) none
    ∙ ap (m.scalars.ops.add (dot m c.args.entries.now.items w)) (RingSolver.zero_mul m.scalars.ops laws (w c.args.column)) ∙ laws.add_zero _)
