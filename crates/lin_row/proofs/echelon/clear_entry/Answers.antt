use Rattle.std.proofs.Common.{subst}
use Rattle.ring_law.proofs.Exits.{faulted_by}
use Rattle.lin_row.specs.Lines.{entry, SumIsRefused}
use Rattle.lin_row.proofs.SystemLaws
use Rattle.lin_row.proofs.echelon.clear_entry.Goals as goal

pub neg-requires-clause-elem : goal.neg-requires-clause-elem
neg-requires-clause-elem g c =
    let m = g.R.Ring.meaning c.args.ring.now in
    SystemLaws.elem_present m (g.met.R.Ring.laws c.args.ring.now c.requires.ring).numbers.ring c.args.row.items c.args.column c.in-Some.x c.requires.line.units (rw c.deref.ensures.value at c.in-Some.ensures)

pub returns-in-Some-clause-cleared : goal.returns-in-Some-clause-cleared
returns-in-Some-clause-cleared g c =
    let m = g.R.Ring.meaning c.args.ring.now in
    let laws = (g.met.R.Ring.laws c.args.ring.now c.requires.ring).numbers.ring in
    SystemLaws.ok_clearing m laws c.args.row.items c.args.pivot.now _ c.args.column c.in-Some.x _ c.add_multiple.result c.neg.ensures.value c.requires.line.rising (rw c.deref.ensures.value at c.in-Some.ensures)
    c.deref-in-Some.ensures.value c.add_multiple.ensures.line c.add_multiple.ensures.value

pub returns-in-Some-clause-cause : goal.returns-in-Some-clause-cause
returns-in-Some-clause-cause g c =
    let m = g.R.Ring.meaning c.args.ring.now in
    let laws = (g.met.R.Ring.laws c.args.ring.now c.requires.ring).numbers.ring in
    let e = SystemLaws.some_negated m laws c.args.row.items c.args.column c.in-Some.x _ c.requires.line.rising (rw c.deref.ensures.value at c.in-Some.ensures) c.neg.ensures.value in
    faulted_by (λ high. subst (λ z. SumIsRefused m.scalars (entry m c.args.row.items) z (entry m c.args.pivot.now)) e (rw c.deref-in-Some.ensures.value at high)) c.add_multiple.ensures.cause

pub returns-in-None-clause-cleared : goal.returns-in-None-clause-cleared
returns-in-None-clause-cleared g c =
    SystemLaws.clears_nothing (g.R.Ring.meaning c.args.ring.now) (g.met.R.Ring.laws c.args.ring.now c.requires.ring).numbers.ring c.args.column c.args.pivot.now c.args.row.items c.requires.line (rw c.deref.ensures.value at c.in-None.ensures)
