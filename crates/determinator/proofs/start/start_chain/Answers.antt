use Rattle.std.proofs.Common.{[], sym, ◌∙◌, arith}
use Rattle.ring_law.proofs.Exits.{fault_handed_on}
use Rattle.ext_algebra.specs.declared.algebra.Algebra.TheVariants as algebras
use Rattle.move_law.specs.Algebras.{lifted}
use Rattle.plan_law.specs.Plan.{first_move}
use Rattle.determinator.proofs.Beginning.{move_is}
use Rattle.determinator.proofs.Starting.{germ_jet, high_first, lifted_germ_jet, lifted_low}
use Rattle.determinator.proofs.start.start_chain.Goals as goal

pub start-requires-clause-jet : goal.start-requires-clause-jet
start-requires-clause-jet g c =
    let f = c.args.germ.now in
    let h = c.requires.germ in
    (c.in_ok-lifted.ensures.jet f.n f.order _ (germ_jet f h.germ h h.germ_is)).jet

pub start-requires-clause-given : goal.start-requires-clause-given
start-requires-clause-given g c =
    let f = c.args.germ.now in
    let h = c.requires.germ in
    let n = (c.in_ok-lifted.ensures.jet f.n f.order _ (germ_jet f h.germ h h.germ_is)).variables in
    let some = h.given in
    omega arith

pub start-requires-clause-at_most_8_variables : goal.start-requires-clause-at_most_8_variables
start-requires-clause-at_most_8_variables g c =
    let f = c.args.germ.now in
    let h = c.requires.germ in
    let n = (c.in_ok-lifted.ensures.jet f.n f.order _ (germ_jet f h.germ h h.germ_is)).variables in
    let few = h.at_most_8_variables in
    omega arith

pub start-requires-clause-order_at_least_2 : goal.start-requires-clause-order_at_least_2
start-requires-clause-order_at_least_2 g c =
    let f = c.args.germ.now in
    let h = c.requires.germ in
    let n = (c.in_ok-lifted.ensures.jet f.n f.order _ (germ_jet f h.germ h h.germ_is)).order in
    let three = h.order_at_least_3 in
    omega arith

pub start-requires-clause-order_at_most_16 : goal.start-requires-clause-order_at_most_16
start-requires-clause-order_at_most_16 g c =
    let f = c.args.germ.now in
    let h = c.requires.germ in
    let n = (c.in_ok-lifted.ensures.jet f.n f.order _ (germ_jet f h.germ h h.germ_is)).order in
    let most = h.order_at_most_16 in
    omega arith

pub push-requires-clause-stands : goal.push-requires-clause-stands
push-requires-clause-stands g c =
    let f = c.args.germ.now in
    let h = c.requires.germ in
    let first = c.in_ok-lifted.ensures.jet f.n f.order _ (germ_jet f h.germ h h.germ_is) in
    record {
      n = f.n;
      last = f.order;
      germ = lifted algebras.Rational h.germ;
      o = 2;
      moves = [];
      is = c.in_ok-chain.ensures.chain f.n f.order (lifted algebras.Rational h.germ) (lifted_low f.n h.germ h.germ_is.low) (lifted_germ_jet f h.germ h.germ_is c.in_ok-lifted.lifted first);
    }

pub push-requires-clause-change : goal.push-requires-clause-change
push-requires-clause-change g c = (c.in_ok-first.ensures.change c.args.germ.now.n 16 _ c.requires.moved).change

pub push-requires-clause-variables : goal.push-requires-clause-variables
push-requires-clause-variables g c =
    let f = c.args.germ.now in
    let h = c.requires.germ in
    let first = c.in_ok-lifted.ensures.jet f.n f.order _ (germ_jet f h.germ h h.germ_is) in
    let chain = c.in_ok-chain.ensures.chain f.n f.order (lifted algebras.Rational h.germ) (lifted_low f.n h.germ h.germ_is.low) (lifted_germ_jet f h.germ h.germ_is c.in_ok-lifted.lifted first) in
    (c.in_ok-first.ensures.change f.n 16 _ c.requires.moved).variables ∙ sym chain.germ_is.variables

pub push-requires-clause-order : goal.push-requires-clause-order
push-requires-clause-order g c =
    let f = c.args.germ.now in
    let h = c.requires.germ in
    let first = c.in_ok-lifted.ensures.jet f.n f.order _ (germ_jet f h.germ h h.germ_is) in
    let chain = c.in_ok-chain.ensures.chain f.n f.order (lifted algebras.Rational h.germ) (lifted_low f.n h.germ h.germ_is.low) (lifted_germ_jet f h.germ h.germ_is c.in_ok-lifted.lifted first) in
    let a = chain.germ_is.order in
    let b = (c.in_ok-first.ensures.change f.n 16 _ c.requires.moved).order in
    let most = h.order_at_most_16 in
    omega arith

pub returns-in_err-push-clause-range : goal.returns-in_err-push-clause-range
returns-in_err-push-clause-range g c =
    let f = c.args.germ.now in
    let h = c.requires.germ in
    fault_handed_on _ c.from_residual-in_err-push.ensures.1
    (λ high q is.
    let chain = c.in_ok-chain.ensures.chain f.n f.order (lifted algebras.Rational q) (lifted_low f.n q is.low) (lifted_germ_jet f q is c.in_ok-lifted.lifted (c.in_ok-lifted.ensures.jet f.n f.order _ (germ_jet f q h is))) in
    high_first f.n q (high f.n f.order 2 16 (lifted algebras.Rational q) [] (first_move f.n q) chain h.order_at_most_16 (c.in_ok-first.ensures.change f.n 16 (first_move f.n q) (move_is f h q is c.args.change.now c.requires.moved))))
    c.in_err-push.ensures.range

pub returns-clause-chain : goal.returns-clause-chain
returns-clause-chain g c q is =
    let f = c.args.germ.now in
    let h = c.requires.germ in
    let chain = c.in_ok-chain.ensures.chain f.n f.order (lifted algebras.Rational q) (lifted_low f.n q is.low) (lifted_germ_jet f q is c.in_ok-lifted.lifted (c.in_ok-lifted.ensures.jet f.n f.order _ (germ_jet f q h is))) in
    c.in_ok-push.ensures.chain f.n f.order 2 16 (lifted algebras.Rational q) [] (first_move f.n q) chain h.order_at_most_16 (c.in_ok-first.ensures.change f.n 16 (first_move f.n q) (move_is f h q is c.args.change.now c.requires.moved))
