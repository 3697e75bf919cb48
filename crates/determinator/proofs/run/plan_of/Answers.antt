use Rattle.std.proofs.Common.{subst, sym}
use Rattle.plan_law.specs.Plan.{started}
use Rattle.determinator.specs.Answered.{ArePlanned, by_corank}
use Rattle.determinator.specs.Starts.{IsBegun}
use Rattle.determinator.specs.Turns.{IsHighBy, IsOverBy, IsRunning}
use Rattle.determinator.proofs.Exits.{if_ok, on_stop}
use Rattle.determinator.proofs.Planning.{ahead_of, high_of, planned_of, running_of}
use Rattle.determinator.proofs.run.plan_of.Goals as goal

pub returns-in-Unbuilt-clause-planned : goal.returns-in-Unbuilt-clause-planned
returns-in-Unbuilt-clause-planned g c q is = by_corank (subst (IsBegun c.args.names.now c.args.germ.now q) c.in-Unbuilt.is (c.in_ok-begin.ensures.begun q is))

pub run_from-requires-clause-running : goal.run_from-requires-clause-running
run_from-requires-clause-running g c =
    let f = c.args.germ.now in
    let h = c.requires.germ in
    let begun = subst (IsBegun c.args.names.now f h.germ) c.in-First.is (c.in_ok-begin.ensures.begun h.germ h.germ_is) in
    subst (λ k. IsRunning c.args.names.now c.in-First.first.corank k 2 c.in-First.first.step) (sym c.order-last.ensures)
    (running_of c.args.names.now f.n f.order h.germ c.in-First.first.corank begun.1 c.requires.names c.in-First.first.step begun.2)

pub returns-clause-planned : goal.returns-clause-planned
returns-clause-planned g c =
    let f = c.args.germ.now in
    if_ok {P = IsOverBy c.args.names.now c.in-First.first.corank c.order-last.result 2 c.in-First.first.step} {Q = ArePlanned c.args.names.now f} c.run_from.result
    (λ answer over q is.
    let begun = subst (IsBegun c.args.names.now f q) c.in-First.is (c.in_ok-begin.ensures.begun q is) in
    planned_of c.args.names.now f.n f.order q c.in-First.first.corank begun.1 begun.0 answer
    (subst (λ k. IsOverBy c.args.names.now c.in-First.first.corank k 2 c.in-First.first.step answer) c.order-last.ensures over f.n q (started f.n q) c.requires.names
    (ahead_of c.args.names.now f.n f.order q c.in-First.first.corank begun.1 c.in-First.first.step begun.2)))
    c.run_from.ensures.over

pub returns-clause-range : goal.returns-clause-range
returns-clause-range g c =
    let f = c.args.germ.now in
    on_stop _
    (λ p high q is.
    let begun = subst (IsBegun c.args.names.now f q) c.in-First.is (c.in_ok-begin.ensures.begun q is) in
    high_of c.args.names.now f.n f.order q c.in-First.first.corank begun.1 p
    (subst (λ k. IsHighBy c.args.names.now c.in-First.first.corank k 2 c.in-First.first.step p) c.order-last.ensures high f.n q (started f.n q) c.requires.names
    (ahead_of c.args.names.now f.n f.order q c.in-First.first.corank begun.1 c.in-First.first.step begun.2)))
    c.run_from.ensures.range
