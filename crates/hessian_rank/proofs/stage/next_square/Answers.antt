use Rattle.std.proofs.Common.{Some, None, sym, subst, IfOk, arith}
use Rattle.ring_law.specs.Refusals.{OnFault}
use Rattle.split_lemma.specs.Splits.{AnyHigh}
use Rattle.hessian_rank.specs.Stages.{stage_of, IsStageFor}
use Rattle.hessian_rank.proofs.StageSteps.{square_found, inside_form, next_closed, square_facts}
use Rattle.hessian_rank.proofs.stage.next_square.Goals as goal

pub first_square-requires-clause-jet : goal.first_square-requires-clause-jet
first_square-requires-clause-jet g c = c.requires.stage.form

pub first_square-requires-clause-at_most_8_variables : goal.first_square-requires-clause-at_most_8_variables
first_square-requires-clause-at_most_8_variables g c = let a = c.requires.stage.form_variables in let b = c.requires.stage.change.at_most_8_variables in omega arith

pub first_square-requires-clause-inside : goal.first_square-requires-clause-inside
first_square-requires-clause-inside g c =
    inside_form (g.F.Ring.meaning c.args.field.now) c.args.stage.change.n c.args.stage c.requires.stage.form_variables c.deref.result.now c.deref.ensures.value c.requires.sound.opened_inside

pub close-requires-clause-open : goal.close-requires-clause-open
close-requires-clause-open g c =
    let m = g.F.Ring.meaning c.args.field.now in
    let n = c.args.stage.change.n in
    (square_facts n m.scalars (stage_of m n c.args.stage) c.in-Some.i (square_found m n c.args.stage c.requires.stage.form_variables c.deref.result.now c.deref.ensures.value (Some c.in-Some.i) c.in-Some.ensures)).0

pub close-requires-clause-square : goal.close-requires-clause-square
close-requires-clause-square g c =
    let m = g.F.Ring.meaning c.args.field.now in
    let n = c.args.stage.change.n in
    (square_facts n m.scalars (stage_of m n c.args.stage) c.in-Some.i (square_found m n c.args.stage c.requires.stage.form_variables c.deref.result.now c.deref.ensures.value (Some c.in-Some.i) c.in-Some.ensures)).1

pub mix-requires-clause-no_square : goal.mix-requires-clause-no_square
mix-requires-clause-no_square g c =
    square_found (g.F.Ring.meaning c.args.field.now) c.args.stage.change.n c.args.stage c.requires.stage.form_variables c.deref.result.now c.deref.ensures.value None c.in-None.ensures

pub returns-in-Some-clause-next : goal.returns-in-Some-clause-next
returns-in-Some-clause-next g c =
    let m = g.F.Ring.meaning c.args.field.now in
    let n = c.args.stage.change.n in
    subst (λ p. IfOk c.close.result (IsStageFor m n p))
    (sym (next_closed n m.scalars (stage_of m n c.args.stage) c.in-Some.i (square_found m n c.args.stage c.requires.stage.form_variables c.deref.result.now c.deref.ensures.value (Some c.in-Some.i) c.in-Some.ensures)).0) c.close.ensures.closed

pub returns-in-Some-clause-range : goal.returns-in-Some-clause-range
returns-in-Some-clause-range g c =
    let m = g.F.Ring.meaning c.args.field.now in
    let n = c.args.stage.change.n in
    subst (λ works. OnFault c.close.result (AnyHigh n m.scalars works))
    (sym (next_closed n m.scalars (stage_of m n c.args.stage) c.in-Some.i (square_found m n c.args.stage c.requires.stage.form_variables c.deref.result.now c.deref.ensures.value (Some c.in-Some.i) c.in-Some.ensures)).1) c.close.ensures.range
