use Rattle.std.proofs.Common.{List, map, Ok, Err}
use Rattle.line_syntax.specs.Syntax.{Word}
use Rattle.line_reader.specs.Views.{Reads}
use Rattle.line_reader.specs.Steps.{HasSteps}
use Rattle.line_reader.proofs.Answered.{with_steps, with_large}
use Rattle.line_reader.proofs.line.read_tokens.Goals as goal

pub returns-in-Err-2 : goal.returns-in-Err-2
returns-in-Err-2 c =
    let names : List Word = map (λ v. v.items) c.in-Ok.names.items in
    let reads : Reads names c.args.line.now = rw c.in-Ok.is at c.in_ok-n.ensures in
    let large : HasSteps names c.args.line.now (Err c.in-Err-2.n) = rw c.in-Err-2.is at c.in_ok-n-in-Ok.ensures in
    with_large c.args.line.now names c.in-Err-2.n reads large

pub returns-in-Ok-2 : goal.returns-in-Ok-2
returns-in-Ok-2 c =
    let names : List Word = map (λ v. v.items) c.in-Ok.names.items in
    let reads : Reads names c.args.line.now = rw c.in-Ok.is at c.in_ok-n.ensures in
    let steps = rw c.in-Ok-2.is at c.in_ok-n-in-Ok.ensures in
    let here : HasSteps names c.args.line.now (Ok c.in-Ok-2.steps.items) = rw c.as_slice.ensures.value at steps in
    with_steps c.args.line.now names c.in-Ok-2.steps.items reads here
