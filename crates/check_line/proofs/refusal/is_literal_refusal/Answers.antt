-- The first number that is too large stands at one column.
use Rattle.check_line.proofs.LineTests.{never, one_literal_column, read_no_literal, syntax_no_literal, germ_read, high_read, linear_read}
use Rattle.check_line.proofs.refusal.is_literal_refusal.Goals as goal

pub returns-in-Ok-Literal : goal.returns-in-Ok-Literal
returns-in-Ok-Literal c = one_literal_column c.args.line.now c.in-Ok-Literal.found c.args.column (rw c.in-Ok-Literal.field-0-is at c.in-Ok-Literal.ensures)

pub returns-in-Ok-Germ : goal.returns-in-Ok-Germ
returns-in-Ok-Germ c =
    never (read_no_literal c.args.line.now c.args.column (germ_read c.args.line.now 3 c.in-Ok-Germ.field-0-0 (rw c.in-Ok-Germ.field-0-is at c.in-Ok-Germ.ensures)))

pub returns-in-Ok-Syntax : goal.returns-in-Ok-Syntax
returns-in-Ok-Syntax c =
    never (syntax_no_literal c.args.line.now c.in-Ok-Syntax.field-0-0 c.args.column c.in-Ok-Syntax.field-0-1 (rw c.in-Ok-Syntax.field-0-is at c.in-Ok-Syntax.ensures))

pub returns-in-Ok-Range : goal.returns-in-Ok-Range
returns-in-Ok-Range c =
    never (read_no_literal c.args.line.now c.args.column (high_read c.args.line.now 3 (rw c.in-Ok-Range.field-0-is at c.in-Ok-Range.ensures)))

pub returns : goal.returns
returns c =
    never (read_no_literal c.args.line.now c.args.column (linear_read c.args.line.now c.in-Ok-NotCritical.field-0-0 (rw c.in-Ok-NotCritical.field-0-is at c.in-Ok-NotCritical.ensures)))
