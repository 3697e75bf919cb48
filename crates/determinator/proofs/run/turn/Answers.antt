use Rattle.std.proofs.Common.{suc, subst, arith}
use Rattle.determinator.specs.Steps.{IsTurnedSearch}
use Rattle.determinator.specs.Turns.{IsAhead, IsAheadBy, IsRunning}
use Rattle.determinator.proofs.Exits.{if_ok, on_stop}
use Rattle.determinator.proofs.Running.{ends_stay, searching_few, searching_high, searching_last, searching_named, searching_placed, searching_turned}
use Rattle.determinator.proofs.run.turn.Goals as goal

pub turn_searching-requires-clause-placed : goal.turn_searching-requires-clause-placed
turn_searching-requires-clause-placed g c =
    searching_placed c.args.names.now c.args.corank c.args.last c.args.o c.in-Searching.chain (subst (IsRunning c.args.names.now c.args.corank c.args.last c.args.o) c.in-Searching.is c.requires.running)

pub turn_searching-requires-clause-few : goal.turn_searching-requires-clause-few
turn_searching-requires-clause-few g c =
    searching_few c.args.names.now c.args.corank c.args.last c.args.o c.in-Searching.chain (subst (IsRunning c.args.names.now c.args.corank c.args.last c.args.o) c.in-Searching.is c.requires.running)

pub turn_searching-requires-clause-names : goal.turn_searching-requires-clause-names
turn_searching-requires-clause-names g c =
    searching_named c.args.names.now c.args.corank c.args.last c.args.o c.in-Searching.chain (subst (IsRunning c.args.names.now c.args.corank c.args.last c.args.o) c.in-Searching.is c.requires.running)

pub turn_searching-requires-clause-last_at_least_3 : goal.turn_searching-requires-clause-last_at_least_3
turn_searching-requires-clause-last_at_least_3 g c =
    let e = searching_last c.args.names.now c.args.corank c.args.last c.args.o c.in-Searching.chain (subst (IsRunning c.args.names.now c.args.corank c.args.last c.args.o) c.in-Searching.is c.requires.running) in
    let three = c.requires.last_at_least_3 in
    omega arith

pub returns-in-Ends-clause-ahead : goal.returns-in-Ends-clause-ahead
returns-in-Ends-clause-ahead g c n germ start are h =
    ends_stay c.args.names.now n c.args.corank c.args.last germ start c.args.o (suc c.args.o) c.in-Ends.answer (subst (IsAhead c.args.names.now n c.args.corank c.args.last germ start c.args.o) c.in-Ends.is h)

pub returns-in-Searching-clause-ahead : goal.returns-in-Searching-clause-ahead
returns-in-Searching-clause-ahead g c =
    if_ok {P = IsTurnedSearch c.args.corank c.in-Searching.chain c.args.names.now} {Q = IsAheadBy c.args.names.now c.args.corank c.args.last c.args.o c.args.step (suc c.args.o)} c.turn_searching.result
    (λ next turned n germ start are h.
    searching_turned c.args.names.now n c.args.corank c.args.last germ start are c.args.o c.in-Searching.chain next (subst (IsAhead c.args.names.now n c.args.corank c.args.last germ start c.args.o) c.in-Searching.is h)
    (λ n o germ moves are place. turned n c.args.last o germ moves are place))
    c.turn_searching.ensures.turned

pub returns-in-Searching-clause-range : goal.returns-in-Searching-clause-range
returns-in-Searching-clause-range g c =
    on_stop _
    (λ p high n germ start are h.
    searching_high c.args.names.now n c.args.corank c.args.last germ start p c.args.o c.in-Searching.chain (subst (IsAhead c.args.names.now n c.args.corank c.args.last germ start c.args.o) c.in-Searching.is h)
    (λ n o germ moves place. high n c.args.last o germ moves place))
    c.turn_searching.ensures.range
