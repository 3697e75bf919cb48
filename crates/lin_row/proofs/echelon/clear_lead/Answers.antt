use Rattle.std.proofs.Common.{◌≡◌, ◌∙◌, ◌<◌, sym, ap, arith}
use Rattle.lin_row.specs.Lines.{lead_of}
use Rattle.lin_row.proofs.SystemLaws
use Rattle.lin_row.proofs.echelon.clear_lead.Goals as goal

pub returns-then-lead-column-clause-line : goal.returns-then-lead-column-clause-line
returns-then-lead-column-clause-line g c = SystemLaws.ok_weaker c.clear_entry.result (λ v h. h.line) c.clear_entry.ensures.cleared

pub returns-then-lead-column-clause-same : goal.returns-then-lead-column-clause-same
returns-then-lead-column-clause-same g c =
    let m = g.R.Ring.meaning c.args.ring.now in
    let laws = (g.met.R.Ring.laws c.args.ring.now c.requires.ring).numbers.ring in
    SystemLaws.ok_weaker c.clear_entry.result (λ v h w none. SystemLaws.same_where m laws c.args.row.items c.args.pivot.now v.items w (SystemLaws.clearing_adds m laws c.args.column c.args.pivot.now c.args.row.items v.items h) none) c.clear_entry.ensures.cleared

pub returns-then-lead-column-clause-lead : goal.returns-then-lead-column-clause-lead
returns-then-lead-column-clause-lead g c =
    let m = g.R.Ring.meaning c.args.ring.now in
    let laws = (g.met.R.Ring.laws c.args.ring.now c.requires.ring).numbers.ring in
    let e : lead_of c.args.row.items ≡ c.args.column = ap lead_of (sym c.deref.ensures.value) ∙ sym c.lead.ensures ∙ c.if-lead-column.true in
    SystemLaws.ok_weaker c.clear_entry.result (λ v h. let less : c.args.column < lead_of v.items = SystemLaws.clearing_later m laws c.args.column c.args.pivot.now c.args.row.items v.items h c.requires.pivot c.requires.line.rising (omega arith) c.requires.given in λ same. omega arith) c.clear_entry.ensures.cleared

pub returns-then-lead-column-clause-earlier : goal.returns-then-lead-column-clause-earlier
returns-then-lead-column-clause-earlier g c =
    let m = g.R.Ring.meaning c.args.ring.now in
    let laws = (g.met.R.Ring.laws c.args.ring.now c.requires.ring).numbers.ring in
    let e : lead_of c.args.row.items ≡ c.args.column = ap lead_of (sym c.deref.ensures.value) ∙ sym c.lead.ensures ∙ c.if-lead-column.true in
    SystemLaws.ok_weaker c.clear_entry.result (λ v h. let less : c.args.column < lead_of v.items = SystemLaws.clearing_later m laws c.args.column c.args.pivot.now c.args.row.items v.items h c.requires.pivot c.requires.line.rising (omega arith) c.requires.given in λ d early differ same. omega arith) c.clear_entry.ensures.cleared

pub returns-clause-lead : goal.returns-clause-lead
returns-clause-lead g c = λ same. c.if-lead-column.false (c.lead.ensures ∙ ap lead_of c.deref.ensures.value ∙ sym same)
