use Rattle.std.proofs.Common.{◌+◌, ◌*◌, ◌≤◌, ◌∙◌, length, rules, sym}
use Rattle.line_value.proofs.Bodies.{declared_body, declared_length, length_rest}
use Rattle.line_value.proofs.line.body_steps.Goals as goal

pub slice_bounds-result-count : goal.slice_bounds-result-count
slice_bounds-result-count c = declared_length c.args.count c.args.steps.now c.requires.line c.requires.are (sym c.if-is_declared.ensures)

pub slice_bounds-result-start : goal.slice_bounds-result-start
slice_bounds-result-start c =
    let long : 2 * c.args.count + 1 ≤ length c.args.steps.now = declared_length c.args.count c.args.steps.now c.requires.line c.requires.are (sym c.if-is_declared.ensures) in
    search rules

pub returns-then-is_declared : goal.returns-then-is_declared
returns-then-is_declared c l a =
    length_rest c.args.steps.now (2 * c.args.count + 1) ∙ declared_body c.args.count c.args.steps.now l a (sym c.if-is_declared.ensures)
