-- The germ of the line, or why there is none, by what was read.
use Rattle.std.proofs.Common.{subst}
use Rattle.report_law.specs.Right.{IsHighLine}
use Rattle.check_line.specs.Lines.{IsGermOfLine}
use Rattle.check_line.proofs.LineTests.{germ_of_line, high_line, literal_no_germ, linear_no_germ}
use Rattle.check_line.proofs.germ.read_germ.Goals as goal

pub returns-in-Ok-Germ : goal.returns-in-Ok-Germ
returns-in-Ok-Germ c =
    subst (λ k. IsGermOfLine c.args.line.now k c.in-Ok-Germ.germ) c.max.ensures
    (germ_of_line c.args.line.now c.max.result c.in-Ok-Germ.germ (rw c.in-Ok-Germ.field-0-is at c.in-Ok-Germ.ensures))

pub returns-in-Ok-Literal : goal.returns-in-Ok-Literal
returns-in-Ok-Literal c l h = literal_no_germ c.args.line.now c.in-Ok-Literal.field-0-0 (rw c.in-Ok-Literal.field-0-is at c.in-Ok-Literal.ensures) l h

pub returns-in-Ok-Range : goal.returns-in-Ok-Range
returns-in-Ok-Range c =
    subst (IsHighLine c.args.line.now) c.max.ensures (high_line c.args.line.now c.max.result (rw c.in-Ok-Range.field-0-is at c.in-Ok-Range.ensures))

pub returns-in-Ok-NotCritical : goal.returns-in-Ok-NotCritical
returns-in-Ok-NotCritical c l h = linear_no_germ c.args.line.now c.in-Ok-NotCritical.field-0-0 (rw c.in-Ok-NotCritical.field-0-is at c.in-Ok-NotCritical.ensures) l h
