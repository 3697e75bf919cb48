use Rattle.std.proofs.Common.{sym, ◌∙◌, arith}
use Rattle.ring_law.proofs.Exits.{fault_handed_on}
use Rattle.determinator.proofs.PartExtensions.{goes_outside, goes_to_test, high_pattern, pattern_is}
use Rattle.determinator.proofs.PartPatterns.{past_list}
use Rattle.determinator.proofs.PartPlacing.{jet_at_place}
use Rattle.determinator.proofs.extending.tested.Goals as goal

pub pattern_of2-requires-clause-jet : goal.pattern_of2-requires-clause-jet
pattern_of2-requires-clause-jet c =
    let h = c.requires.placed in (jet_at_place h.n c.args.corank h.last h.germ c.args.algebra h.o h.moves c.args.chain h.is.place c.carried.result.now c.carried.ensures).jet

pub pattern_of2-requires-clause-two_variables : goal.pattern_of2-requires-clause-two_variables
pattern_of2-requires-clause-two_variables c =
    let h = c.requires.placed in
    let e = (jet_at_place h.n c.args.corank h.last h.germ c.args.algebra h.o h.moves c.args.chain h.is.place c.carried.result.now c.carried.ensures).variables in
    let few = h.is.place.corank in
    let two = h.is.part.two in
    omega arith

pub pattern_of2-requires-clause-at_most_8_variables : goal.pattern_of2-requires-clause-at_most_8_variables
pattern_of2-requires-clause-at_most_8_variables c =
    let h = c.requires.placed in
    let e = (jet_at_place h.n c.args.corank h.last h.germ c.args.algebra h.o h.moves c.args.chain h.is.place c.carried.result.now c.carried.ensures).variables in
    let few = h.is.place.chain_is.at_most_8_variables in
    omega arith

pub pattern_of2-requires-clause-base : goal.pattern_of2-requires-clause-base
pattern_of2-requires-clause-base c = c.requires.placed.is.part.base

pub outside-requires-clause-placed : goal.outside-requires-clause-placed
outside-requires-clause-placed c = let h = c.requires.placed in record { n = h.n; last = h.last; germ = h.germ; o = h.o; moves = h.moves; is = h.is.place }

pub returns-in_err-answer-in-Some-clause-range : goal.returns-in_err-answer-in-Some-clause-range
returns-in_err-answer-in-Some-clause-range c =
    fault_handed_on _ c.from_residual.ensures.1
    (λ high n last o germ moves place.
    let found = pattern_is n c.args.corank last germ c.args.algebra c.args.part o moves c.args.chain place c.carried.result.now c.order.result c.pattern_of2.result c.carried.ensures c.order.ensures c.pattern_of2.ensures.pattern in
    high_pattern n c.args.corank last germ c.args.algebra c.args.part o moves c.in-Some.pattern (sym found ∙ c.in-Some.is) (high n last o germ moves place.place))
    c.in_err-answer-in-Some.ensures.range

pub returns-in_ok-answer-in-Some-clause-tested : goal.returns-in_ok-answer-in-Some-clause-tested
returns-in_ok-answer-in-Some-clause-tested c n last o germ moves are place =
    let found = pattern_is n c.args.corank last germ c.args.algebra c.args.part o moves c.args.chain place c.carried.result.now c.order.result c.pattern_of2.result c.carried.ensures c.order.ensures c.pattern_of2.ensures.pattern in
    let decided = sym found ∙ c.in-Some.is in
    goes_outside n c.args.corank last germ c.args.algebra c.args.part o moves c.args.names.now c.in-Some.pattern c.in_ok-answer-in-Some.answer decided
    (c.in_ok-answer-in-Some.ensures.report n last o germ moves are place.place (past_list n c.args.corank c.args.algebra o c.args.part c.in-Some.pattern _ place.place.corank place.part decided))

pub returns-in-None-clause-tested : goal.returns-in-None-clause-tested
returns-in-None-clause-tested c n last o germ moves are place =
    let found = pattern_is n c.args.corank last germ c.args.algebra c.args.part o moves c.args.chain place c.carried.result.now c.order.result c.pattern_of2.result c.carried.ensures c.order.ensures c.pattern_of2.ensures.pattern in
    goes_to_test n c.args.corank last germ c.args.algebra c.args.part o moves c.args.names.now c.args.chain (sym found ∙ c.in-None.is) place
