use Rattle.ring_law.proofs.Exits.{fault_handed_on}
use Rattle.std.proofs.Common.{[], ◌∷◌}
use Rattle.kill_law.specs.Kill.{letters_of}
use Rattle.kill_law.specs.Taken.{kill_move}
use Rattle.move_law.specs.Work as work
use Rattle.rules_corank2.proofs.FinishKills.{kill_fault, kill_to}
use Rattle.rules_corank2.proofs.finish_kills.kill_grade.Goals as goal

pub returns-in_err-whole-clause-range : goal.returns-in_err-whole-clause-range
returns-in_err-whole-clause-range g c =
    let m = g.F.Ring.meaning c.args.field.now in
    let l = (g.met.F.Ring.laws c.args.field.now c.requires.ring).numbers in
    fault_handed_on _ c.from_residual.ensures.1
    (λ high p is. kill_fault m l c.args.state.form.n c.args.state.form.order c.args.state c.args.part c.args.grade p is high) c.in_err-whole.ensures.range

pub returns-in_err-next-clause-range : goal.returns-in_err-next-clause-range
returns-in_err-next-clause-range g c =
    let m = g.F.Ring.meaning c.args.field.now in
    let l = (g.met.F.Ring.laws c.args.field.now c.requires.ring).numbers in
    let n = c.args.state.form.n in
    fault_handed_on _ c.from_residual-in_err-next.ensures.1
    (λ high p is. high p (kill_move n m.scalars (letters_of n m.scalars c.args.part p.form) c.args.part c.args.grade p.form) (work.killed c.args.part c.args.grade p.form ∷ []) is
    (kill_to m l n c.args.state.form.order c.args.state c.args.part c.args.grade p is c.in_ok-whole.whole c.in_ok-change.change c.in_ok-whole.ensures.change c.order.result c.order.ensures c.in_ok-change.ensures.change))
    c.in_err-next.ensures.range

pub returns-clause-killed : goal.returns-clause-killed
returns-clause-killed g c p is =
    let m = g.F.Ring.meaning c.args.field.now in
    let l = (g.met.F.Ring.laws c.args.field.now c.requires.ring).numbers in
    let n = c.args.state.form.n in
    c.in_ok-next.ensures.moved p (kill_move n m.scalars (letters_of n m.scalars c.args.part p.form) c.args.part c.args.grade p.form) (work.killed c.args.part c.args.grade p.form ∷ []) is
    (kill_to m l n c.args.state.form.order c.args.state c.args.part c.args.grade p is c.in_ok-whole.whole c.in_ok-change.change c.in_ok-whole.ensures.change c.order.result c.order.ensures c.in_ok-change.ensures.change)
