-- The first variable with a linear coefficient is one.
use Rattle.check_line.proofs.LineTests.{one_linear, tested_by, high_line, germ_no_linear, literal_no_linear}
use Rattle.check_line.proofs.refusal.test_not_critical.Goals as goal

pub returns-in-Ok-NotCritical : goal.returns-in-Ok-NotCritical
returns-in-Ok-NotCritical c =
    tested_by c.test_name.result (one_linear c.args.line.now c.in-Ok-NotCritical.found c.args.variable (rw c.in-Ok-NotCritical.field-0-is at c.in-Ok-NotCritical.ensures))
    (λ bad. absurd bad) c.test_name.ensures

pub returns-in-Ok-Range : goal.returns-in-Ok-Range
returns-in-Ok-Range c = high_line c.args.line.now 3 (rw c.in-Ok-Range.field-0-is at c.in-Ok-Range.ensures)

pub returns-in-Ok-Germ : goal.returns-in-Ok-Germ
returns-in-Ok-Germ c = germ_no_linear c.args.line.now 3 c.in-Ok-Germ.field-0-0 c.args.variable (rw c.in-Ok-Germ.field-0-is at c.in-Ok-Germ.ensures)

pub returns : goal.returns
returns c = literal_no_linear c.args.line.now c.in-Ok-Literal.field-0-0 c.args.variable (rw c.in-Ok-Literal.field-0-is at c.in-Ok-Literal.ensures)
