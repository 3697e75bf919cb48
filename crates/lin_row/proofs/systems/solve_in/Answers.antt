use Rattle.std.proofs.Common.{◌≡◌, ◌∙◌, ◌≤◌, ◌<◌, inl, inr, ap, sym, subst, arith}
use Rattle.ring_law.proofs.Exits.{fault_handed_on}
use Rattle.lin_row.specs.Lines.{lead_of, entry}
use Rattle.lin_row.specs.System.{lines_of, against}
use Rattle.lin_row.specs.Plain.{with_units, ClearingIsHigh, DivisionIsHigh}
use Rattle.lin_row.specs.Rows.{rows_of}
use Rattle.lin_row.specs.Stages.{functions_of}
use Rattle.lin_row.proofs.SystemLaws
use Rattle.lin_row.proofs.BuildLaws
use Rattle.lin_row.proofs.PlainLaws
use Rattle.lin_row.proofs.ExcludedLaws
use Rattle.lin_row.proofs.BoundLaws
use Rattle.lin_row.proofs.systems.solve_in.Goals as goal

pub remainder-requires-clause-pivots : goal.remainder-requires-clause-pivots
remainder-requires-clause-pivots g c =
    let m = g.F.Ring.meaning c.args.field.now in
    let laws = (g.met.F.Ring.laws c.args.field.now c.requires.ring).numbers.ring in
    rw c.deref.ensures.value (SystemLaws.triangular m laws (lines_of c.args.system.now.pivots.items) c.requires.system.system.echelon)

pub remainder-requires-clause-line : goal.remainder-requires-clause-line
remainder-requires-clause-line g c = rw c.in_ok-line.ensures.items c.requires.target

pub returns-in_err-left-clause-cause : goal.returns-in_err-left-clause-cause
returns-in_err-left-clause-cause g c plain =
    let m = g.F.Ring.meaning c.args.field.now in
    let ps = lines_of c.args.system.now.pivots.items in
    let ext = with_units m 4294967296 0 (rows_of c.args.rows.now) in
    fault_handed_on _ c.from_residual-in_err-left.ensures.1
    (λ high. inr (PlainLaws.target_high m ext ps (entry m c.args.target.now.entries) (c.requires.system.end plain)
    (inl (subst (λ xs. ClearingIsHigh m.scalars (functions_of m ps) (entry m xs)) c.in_ok-line.ensures.items (rw c.deref.ensures.value at high)))))
    c.in_err-left.ensures.cause

pub excluding_by-requires-clause-pivots : goal.excluding_by-requires-clause-pivots
excluding_by-requires-clause-pivots g c = rw c.deref-then-column-lt-UNITS.ensures.value c.requires.system.system.echelon

pub excluding_by-requires-clause-reduced : goal.excluding_by-requires-clause-reduced
excluding_by-requires-clause-reduced g c plain = rw c.deref-then-column-lt-UNITS.ensures.value (c.requires.system.end plain).reduced

pub excluding_by-requires-clause-below : goal.excluding_by-requires-clause-below
excluding_by-requires-clause-below g c = rw c.deref-then-column-lt-UNITS.ensures.value c.requires.system.system.below

pub excluding_by-requires-clause-line : goal.excluding_by-requires-clause-line
excluding_by-requires-clause-line g c = rw c.deref-then-column-lt-UNITS-2.ensures.value c.in_ok-left.ensures.line

pub excluding_by-requires-clause-cleared : goal.excluding_by-requires-clause-cleared
excluding_by-requires-clause-cleared g c = rw (c.deref-then-column-lt-UNITS-2.ensures.value, c.deref-then-column-lt-UNITS.ensures.value, ← c.deref.ensures.value) c.in_ok-left.ensures.cleared

pub excluding_by-requires-clause-given : goal.excluding_by-requires-clause-given
excluding_by-requires-clause-given g c =
    let e : c.lead-column.result ≡ lead_of c.in_ok-left.left.items = c.lead-column.ensures ∙ ap lead_of c.deref-2.ensures.value in
    rw c.deref-then-column-lt-UNITS-2.ensures.value (subst (λ k. k < 4294967296) e c.if-column-lt-UNITS.true)

pub returns-in_err-values-clause-cause : goal.returns-in_err-values-clause-cause
returns-in_err-values-clause-cause g c plain =
    let m = g.F.Ring.meaning c.args.field.now in
    let ps = lines_of c.args.system.now.pivots.items in
    let ext = with_units m 4294967296 0 (rows_of c.args.rows.now) in
    let entries = rw (c.deref.ensures.value, c.in_ok-line.ensures.items) at c.in_ok-left.ensures.entries in
    fault_handed_on _ c.from_residual-in_err-values.ensures.1
    (λ high. inr (PlainLaws.target_high m ext ps (entry m c.args.target.now.entries) (c.requires.system.end plain)
    (inr (subst (DivisionIsHigh m.scalars 4294967296 (functions_of m ps)) entries (rw (c.deref-then-column-lt-UNITS.ensures.value, c.deref-then-column-lt-UNITS-2.ensures.value) at high)))))
    (c.in_err-values.ensures.cause plain)

pub narrow-requires : goal.narrow-requires
narrow-requires g c =
    let m = g.F.Ring.meaning c.args.field.now in
    let laws = (g.met.F.Ring.laws c.args.field.now c.requires.ring).numbers.ring in
    let e = rw (c.deref-then-column-lt-UNITS.ensures.value, c.deref-then-column-lt-UNITS-2.ensures.value) at c.in_ok-values.ensures.excludes in
    let lead : c.lead-column.result ≡ lead_of c.in_ok-left.left.items = c.lead-column.ensures ∙ ap lead_of c.deref-2.ensures.value in
    let given = subst (λ k. k < 4294967296) lead c.if-column-lt-UNITS.true in
    rw c.deref-then-column-lt-UNITS-3.ensures.value (ExcludedLaws.below_high m laws c.in_ok-values.values.items 4294967296 e.line (e.beyond 4294967296 c.requires.system.system.below given))

pub returns-then-column-lt-UNITS-clause-solution : goal.returns-then-column-lt-UNITS-clause-solution
returns-then-column-lt-UNITS-clause-solution g c =
    let m = g.F.Ring.meaning c.args.field.now in
    let laws = (g.met.F.Ring.laws c.args.field.now c.requires.ring).numbers in
    let v = c.in_ok-values.values.items in
    let left = c.in_ok-left.left.items in
    let lead : c.lead-column.result ≡ lead_of left = c.lead-column.ensures ∙ ap lead_of c.deref-2.ensures.value in
    let given = subst (λ k. k < 4294967296) lead c.if-column-lt-UNITS.true in
    let system = c.requires.system.system in
    let e = rw (c.deref-then-column-lt-UNITS.ensures.value, c.deref-then-column-lt-UNITS-2.ensures.value) at c.in_ok-values.ensures.excludes in
    let same = rw (c.deref.ensures.value, c.in_ok-line.ensures.items) at c.in_ok-left.ensures.same in
    rw (c.in_ok-narrowed.ensures.items, c.deref-then-column-lt-UNITS-3.ensures.value)
    (record {
      line = e.line;
      rows = system.spans (entry m v) (e.beyond 4294967296 system.below given) e.vanish;
      target = sym (same (entry m v) e.vanish) ∙ e.one;
      below = λ a rows target.
          ExcludedLaws.below_high m laws.ring v a e.line
          (e.beyond a (BoundLaws.pivots_below m laws.ring 4294967296 (rows_of c.args.rows.now) (lines_of c.args.system.now.pivots.items) system a rows laws.nontrivial)
          (BoundLaws.lead_below m laws.ring 4294967296 (rows_of c.args.rows.now) (lines_of c.args.system.now.pivots.items) system a rows left c.args.target.now.entries c.in_ok-left.ensures.line given (omega arith) target same));
    })

pub returns-clause-solution : goal.returns-clause-solution
returns-clause-solution g c =
    let m = g.F.Ring.meaning c.args.field.now in
    let laws = (g.met.F.Ring.laws c.args.field.now c.requires.ring).numbers.ring in
    let rows = rows_of c.args.rows.now in
    let left = c.in_ok-left.left.items in
    let lead : c.lead-column.result ≡ lead_of left = c.lead-column.ensures ∙ ap lead_of c.deref-2.ensures.value in
    let late : 4294967296 ≤ lead_of left = omega arith in
    let same = rw (c.deref.ensures.value, c.in_ok-line.ensures.items) at c.in_ok-left.ensures.same in
    let negated = rw c.deref-3.ensures.value at c.in_ok-all.ensures.value in
    record {
      count = c.in_ok-all.ensures.length ∙ sym (BuildLaws.rows-length c.args.rows.now);
      valid = c.in_ok-all.ensures.valid;
      sum = λ w.
          let v = against m 4294967296 rows w in
          ExcludedLaws.solves m laws left c.args.target.now.entries 4294967296 rows c.in_ok-all.all.items w
          (c.in_ok-all.ensures.length ∙ sym (BuildLaws.rows-length c.args.rows.now)) negated
          (PlainLaws.from_lead m laws left 4294967296 c.in_ok-left.ensures.line.rising late) c.in_ok-line.ensures.below
          (same v (c.requires.system.system.evidence w));
    }
