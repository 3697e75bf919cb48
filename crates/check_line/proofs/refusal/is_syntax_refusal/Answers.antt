-- Lines are refused at one column.
use Rattle.check_line.proofs.LineTests.{never, one_syntax, literal_no_syntax}
use Rattle.check_line.proofs.refusal.is_syntax_refusal.Goals as goal

pub returns-in-Ok-Syntax : goal.returns-in-Ok-Syntax
returns-in-Ok-Syntax c =
    let one = one_syntax c.args.line.now c.in-Ok-Syntax.found c.args.column c.in-Ok-Syntax.kind c.args.what (rw c.in-Ok-Syntax.field-0-is at c.in-Ok-Syntax.ensures) in
    (λ t. one.0 (c.is_same_refusal.ensures.0 t), λ h. c.is_same_refusal.ensures.1 (one.1 h))

pub returns-in-Ok-Literal : goal.returns-in-Ok-Literal
returns-in-Ok-Literal c =
    never (literal_no_syntax c.args.line.now c.in-Ok-Literal.field-0-0 c.args.column c.args.what (rw c.in-Ok-Literal.field-0-is at c.in-Ok-Literal.ensures))
