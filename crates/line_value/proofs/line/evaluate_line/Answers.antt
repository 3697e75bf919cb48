use Rattle.std.proofs.Common.{◌∙◌, Err, refl, sym, ap}
use Rattle.std.specs.Option.{option_map}
use Rattle.ring_law.proofs.Exits.{fault_handed_on}
use Rattle.line_reader.proofs.Held.{some_is, no_some}
use Rattle.line_value.proofs.Bodies.{body_within, body_value, body_high}
use Rattle.line_value.proofs.line.evaluate_line.Goals as goal

pub evaluate-requires : goal.evaluate-requires
evaluate-requires g c =
    let l = c.requires.line.line in
    let a = c.requires.line.are in
    rw (c.body_steps.ensures l a) (rw c.requires.same_count (body_within c.args.count c.args.steps.now l a))

pub returns-in-Err-clause-cause : goal.returns-in-Err-clause-cause
returns-in-Err-clause-cause g c =
    let k = c.args.calculator.now in
    fault_handed_on (Err c.in-Err.fault) refl
    (λ h l a. body_high (g.C.Calculator.arithmetic k) (g.C.Calculator.high k) c.args.count c.args.steps.now c.body_steps.result.now l a (c.body_steps.ensures l a) h) c.in-Err.ensures.cause

pub unreachable-requires : goal.unreachable-requires
unreachable-requires g c =
    let k = c.args.calculator.now in
    let l = c.requires.line.line in
    let a = c.requires.line.are in
    no_some (sym (ap (option_map (g.C.Calculator.value k)) c.in-None.is) ∙ c.in-Ok.ensures.value ∙ body_value (g.C.Calculator.arithmetic k) c.args.count c.args.steps.now c.body_steps.result.now l a (c.body_steps.ensures l a))

pub returns-in-Some-clause-value : goal.returns-in-Some-clause-value
returns-in-Some-clause-value g c l a =
    let k = c.args.calculator.now in
    some_is (sym (ap (option_map (g.C.Calculator.value k)) c.in-Some.is) ∙ c.in-Ok.ensures.value ∙ body_value (g.C.Calculator.arithmetic k) c.args.count c.args.steps.now c.body_steps.result.now l a (c.body_steps.ensures l a))
