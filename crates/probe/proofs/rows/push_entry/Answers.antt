use Rattle.std.proofs.Common.{◌≡◌, ◌≢◌, ◌∙◌, ◌+◌, sym, arith}
use Rattle.lin_row.proofs.BuildLaws
use Rattle.lin_row.proofs.LineLaws
use Rattle.lin_row.proofs.SystemLaws
use Rattle.probe.proofs.rows.push_entry.Goals as goal

pub returns-clause-line : goal.returns-clause-line
returns-clause-line g c =
    let m = g.F.Ring.meaning c.args.field.now in
    let laws = (g.met.F.Ring.laws c.args.field.now c.requires.ring).numbers in
    let unit : m.value c.args.x ≢ m.scalars.ops.zero = λ h. let so : c.eq.result ≡ _ = c.eq.ensures.1 (h ∙ sym c.zero.ensures.value) in cc (so, c.if-eq.false) in
    rw c.in_ok-push.ensures.ok
    (record {
      rising = BuildLaws.rising_push c.args.entries.now c.args.column (c.args.column, c.args.x) (omega arith) c.requires.below c.requires.line.rising;
      units = LineLaws.units_append m laws.ring c.args.entries.now _ c.requires.line.units ((c.requires.elem, unit), tt);
    })

pub returns-clause-below : goal.returns-clause-below
returns-clause-below g c =
    rw c.in_ok-push.ensures.ok (BuildLaws.below_push c.args.entries.now (c.args.column + 1) (c.args.column, c.args.x) (SystemLaws.below_bigger c.args.entries.now c.args.column (c.args.column + 1) (omega arith) c.requires.below) (omega arith))

pub returns-then-eq-clause-below : goal.returns-then-eq-clause-below
returns-then-eq-clause-below g c = SystemLaws.below_bigger c.args.entries.now c.args.column (c.args.column + 1) (omega arith) c.requires.below
