use Rattle.std.proofs.Common.{◌≡◌, ◌∙◌, ◌<◌, sym, ap, subst, arith, map, length}
use Rattle.ring_law.proofs.Exits.{fault_handed_on}
use Rattle.lin_row.specs.Lines.{IsLine, EachOf, lead_of, entry, SumIsRefused}
use Rattle.lin_row.specs.Plain.{Among}
use Rattle.lin_row.specs.System.{lines_of}
use Rattle.lin_row.specs.Stages.{items_of, AreCleared, others_of}
use Rattle.lin_row.proofs.SystemLaws
use Rattle.lin_row.proofs.BuildLaws
use Rattle.lin_row.proofs.StageLaws
use Rattle.lin_row.proofs.PlainLaws
use Rattle.lin_row.proofs.plain.step.Goals as goal

pub remove-row-requires : goal.remove-row-requires
remove-row-requires g c = omega (arith, StageLaws.items-length c.args.rest.items, c.requires.least.within)

pub lead_inverse-requires-clause-line : goal.lead_inverse-requires-clause-line
lead_inverse-requires-clause-line g c =
    let m = g.F.Ring.meaning c.args.field.now in
    let laws = (g.met.F.Ring.laws c.args.field.now c.requires.ring).numbers.ring in
    let vs = c.args.rest.items in
    let at = c.args.at in
    let row = c.remove-row.result in
    let within : at < length vs = omega (arith, StageLaws.items-length vs, c.requires.least.within) in
    let is_row = sym (StageLaws.items-at vs at row within c.remove-row.ensures.value) in
    rw c.deref-2.ensures.value (StageLaws.each_at vs at row within c.remove-row.ensures.value (IsLine m) c.requires.rest)

pub lead_inverse-requires-clause-some : goal.lead_inverse-requires-clause-some
lead_inverse-requires-clause-some g c =
    let m = g.F.Ring.meaning c.args.field.now in
    let laws = (g.met.F.Ring.laws c.args.field.now c.requires.ring).numbers.ring in
    let vs = c.args.rest.items in
    let at = c.args.at in
    let row = c.remove-row.result in
    let within : at < length vs = omega (arith, StageLaws.items-length vs, c.requires.least.within) in
    let is_row = sym (StageLaws.items-at vs at row within c.remove-row.ensures.value) in
    let low : lead_of row.items < 4294967296 = subst (λ r. lead_of r < 4294967296) (sym is_row) c.requires.least.given in
    rw c.deref-2.ensures.value (BuildLaws.lead_some row.items (omega arith))

pub returns-in_err-inverse-clause-cause : goal.returns-in_err-inverse-clause-cause
returns-in_err-inverse-clause-cause g c =
    let m = g.F.Ring.meaning c.args.field.now in
    let laws = (g.met.F.Ring.laws c.args.field.now c.requires.ring).numbers.ring in
    let vs = c.args.rest.items in
    let at = c.args.at in
    let row = c.remove-row.result in
    let within : at < length vs = omega (arith, StageLaws.items-length vs, c.requires.least.within) in
    let is_row = sym (StageLaws.items-at vs at row within c.remove-row.ensures.value) in
    let is_column : c.lead-column.result ≡ lead_of row.items = c.lead-column.ensures ∙ ap lead_of c.deref.ensures.value in
    fault_handed_on _ c.from_residual.ensures.1
    (λ high. PlainLaws.refused_inverse m laws (lines_of c.args.done.now) (items_of vs) at row.items c.lead-column.result is_row is_column (rw c.deref-2.ensures.value at high))
    c.in_err-inverse.ensures.cause

pub scaled-requires-clause-row : goal.scaled-requires-clause-row
scaled-requires-clause-row g c =
    let m = g.F.Ring.meaning c.args.field.now in
    let laws = (g.met.F.Ring.laws c.args.field.now c.requires.ring).numbers.ring in
    let vs = c.args.rest.items in
    let at = c.args.at in
    let row = c.remove-row.result in
    let within : at < length vs = omega (arith, StageLaws.items-length vs, c.requires.least.within) in
    let is_row = sym (StageLaws.items-at vs at row within c.remove-row.ensures.value) in
    rw c.deref-3.ensures.value (StageLaws.each_at vs at row within c.remove-row.ensures.value (IsLine m) c.requires.rest)

pub returns-in_err-pivot-clause-cause : goal.returns-in_err-pivot-clause-cause
returns-in_err-pivot-clause-cause g c =
    let m = g.F.Ring.meaning c.args.field.now in
    let laws = (g.met.F.Ring.laws c.args.field.now c.requires.ring).numbers.ring in
    let vs = c.args.rest.items in
    let at = c.args.at in
    let row = c.remove-row.result in
    let within : at < length vs = omega (arith, StageLaws.items-length vs, c.requires.least.within) in
    let is_row = sym (StageLaws.items-at vs at row within c.remove-row.ensures.value) in
    let is_column : c.lead-column.result ≡ lead_of row.items = c.lead-column.ensures ∙ ap lead_of c.deref.ensures.value in
    let is_inverse = rw c.deref-2.ensures.value at c.in_ok-inverse.ensures.value in
    let f = m.value c.in_ok-inverse.inverse in
    fault_handed_on _ c.from_residual-in_err-pivot.ensures.1
    (λ high. PlainLaws.refused_product m laws (lines_of c.args.done.now) (items_of vs) at row.items c.lead-column.result is_row is_column f is_inverse (SystemLaws.entry_high m laws row.items f (StageLaws.each_at vs at row within c.remove-row.ensures.value (IsLine m) c.requires.rest).rising (rw c.deref-3.ensures.value at high)))
    c.in_err-pivot.ensures.cause

pub returns-in_err-done_next-clause-cause : goal.returns-in_err-done_next-clause-cause
returns-in_err-done_next-clause-cause g c =
    let m = g.F.Ring.meaning c.args.field.now in
    let laws = (g.met.F.Ring.laws c.args.field.now c.requires.ring).numbers.ring in
    let vs = c.args.rest.items in
    let at = c.args.at in
    let row = c.remove-row.result in
    let within : at < length vs = omega (arith, StageLaws.items-length vs, c.requires.least.within) in
    let is_row = sym (StageLaws.items-at vs at row within c.remove-row.ensures.value) in
    let is_column : c.lead-column.result ≡ lead_of row.items = c.lead-column.ensures ∙ ap lead_of c.deref.ensures.value in
    let is_inverse = rw c.deref-2.ensures.value at c.in_ok-inverse.ensures.value in
    let f = m.value c.in_ok-inverse.inverse in
    let times = rw c.deref-3.ensures.value at c.in_ok-pivot.ensures.value in
    let pivot = c.in_ok-pivot.pivot in
    fault_handed_on _ c.from_residual-in_err-done_next.ensures.1
    (λ high. PlainLaws.refused_done m laws (lines_of c.args.done.now) (items_of vs) at row.items c.lead-column.result is_row is_column f is_inverse pivot.items times (rw c.deref-4.ensures.value at high))
    c.in_err-done_next.ensures.cause

pub all_cleared-requires-clause-rows : goal.all_cleared-requires-clause-rows
all_cleared-requires-clause-rows g c =
    let m = g.F.Ring.meaning c.args.field.now in
    let vs = c.args.rest.items in
    let at = c.args.at in
    let others : items_of c.deref-5.result.now ≡ others_of (items_of vs) at = ap items_of (c.deref-5.ensures.value ∙ c.remove-row.ensures.items) ∙ PlainLaws.items-others vs at in
    subst (EachOf (IsLine m)) (sym others) (PlainLaws.others_each (IsLine m) (items_of vs) at c.requires.rest)

pub returns-in_err-rest_next-clause-cause : goal.returns-in_err-rest_next-clause-cause
returns-in_err-rest_next-clause-cause g c =
    let m = g.F.Ring.meaning c.args.field.now in
    let laws = (g.met.F.Ring.laws c.args.field.now c.requires.ring).numbers.ring in
    let vs = c.args.rest.items in
    let at = c.args.at in
    let row = c.remove-row.result in
    let within : at < length vs = omega (arith, StageLaws.items-length vs, c.requires.least.within) in
    let is_row = sym (StageLaws.items-at vs at row within c.remove-row.ensures.value) in
    let is_column : c.lead-column.result ≡ lead_of row.items = c.lead-column.ensures ∙ ap lead_of c.deref.ensures.value in
    let is_inverse = rw c.deref-2.ensures.value at c.in_ok-inverse.ensures.value in
    let f = m.value c.in_ok-inverse.inverse in
    let times = rw c.deref-3.ensures.value at c.in_ok-pivot.ensures.value in
    let pivot = c.in_ok-pivot.pivot in
    let others : items_of c.deref-5.result.now ≡ others_of (items_of vs) at = ap items_of (c.deref-5.ensures.value ∙ c.remove-row.ensures.items) ∙ PlainLaws.items-others vs at in
    fault_handed_on _ c.from_residual-in_err-rest_next.ensures.1
    (λ high. PlainLaws.refused_rest m laws (lines_of c.args.done.now) (items_of vs) at row.items c.lead-column.result is_row is_column f is_inverse pivot.items times
    (subst (λ rs. Among (λ x. SumIsRefused m.scalars x (m.scalars.ops.neg (x c.lead-column.result)) (entry m pivot.items)) (map (entry m) rs)) others (rw c.deref-6.ensures.value at high)))
    c.in_err-rest_next.ensures.cause

pub returns-clause-step : goal.returns-clause-step
returns-clause-step g c =
    let m = g.F.Ring.meaning c.args.field.now in
    let laws = (g.met.F.Ring.laws c.args.field.now c.requires.ring).numbers.ring in
    let vs = c.args.rest.items in
    let at = c.args.at in
    let row = c.remove-row.result in
    let within : at < length vs = omega (arith, StageLaws.items-length vs, c.requires.least.within) in
    let is_row = sym (StageLaws.items-at vs at row within c.remove-row.ensures.value) in
    let is_column : c.lead-column.result ≡ lead_of row.items = c.lead-column.ensures ∙ ap lead_of c.deref.ensures.value in
    let is_inverse = rw c.deref-2.ensures.value at c.in_ok-inverse.ensures.value in
    let f = m.value c.in_ok-inverse.inverse in
    let times = rw c.deref-3.ensures.value at c.in_ok-pivot.ensures.value in
    let pivot = c.in_ok-pivot.pivot in
    let others : items_of c.deref-5.result.now ≡ others_of (items_of vs) at = ap items_of (c.deref-5.ensures.value ∙ c.remove-row.ensures.items) ∙ PlainLaws.items-others vs at in
    PlainLaws.make_step m laws (lines_of c.args.done.now) (items_of vs) at row.items c.lead-column.result is_row is_column f is_inverse pivot.items times (rw c.deref-2.ensures.value at c.in_ok-inverse.ensures.unit) c.in_ok-pivot.ensures.line
    (lines_of c.in_ok-done_next.done_next.items) _ (items_of c.in_ok-rest_next.rest_next.items) (rw c.deref-4.ensures.value at c.in_ok-done_next.ensures.cleared)
    (ap lines_of c.in_ok-push.ensures.items ∙ SystemLaws.lines-push c.in_ok-done_next.done_next.items (c.lead-column.result, pivot))
    (subst (λ rs. AreCleared m c.lead-column.result pivot.items rs (items_of c.in_ok-rest_next.rest_next.items)) others (rw c.deref-6.ensures.value at c.in_ok-rest_next.ensures.cleared))
