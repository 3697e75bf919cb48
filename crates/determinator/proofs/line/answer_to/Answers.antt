use Rattle.std.proofs.Common.{List, sym, subst}
use Rattle.poly_text.specs.declared.name.Name.{Name}
use Rattle.line_germ.specs.Reads.{IsReadOf}
use Rattle.determinator.specs.Answered.{ArePlanned}
use Rattle.determinator.specs.Reports.{AreNames}
use Rattle.determinator.proofs.Exits.{if_ok}
use Rattle.determinator.proofs.LineAnswers.{literal_good, high_good, linear_good, germ_jet, germ_names, germ_good}
use Rattle.determinator.proofs.line.answer_to.Goals as goal

pub answer_to_germ-requires-clause-names : goal.answer_to_germ-requires-clause-names
answer_to_germ-requires-clause-names c =
    let read = subst (IsReadOf c.args.line.now c.args.limit) c.in-Germ.is c.in_ok-column.ensures in
    subst (AreNames c.in-Germ.germ.jet.n) (sym c.as_slice.ensures) (germ_names c.args.line.now c.args.limit c.requires.at_least_3 c.requires.at_most_16 c.in-Germ.germ read)

pub answer_to_germ-requires-clause-germ : goal.answer_to_germ-requires-clause-germ
answer_to_germ-requires-clause-germ c =
    germ_jet c.args.line.now c.args.limit c.requires.at_least_3 c.requires.at_most_16 c.in-Germ.germ (subst (IsReadOf c.args.line.now c.args.limit) c.in-Germ.is c.in_ok-column.ensures)

pub returns-in-Literal : goal.returns-in-Literal
returns-in-Literal c =
    literal_good c.args.line.now c.args.limit c.in-Literal.column c.requires.short (subst (IsReadOf c.args.line.now c.args.limit) c.in-Literal.is c.in_ok-column.ensures)

pub returns-in-Range : goal.returns-in-Range
returns-in-Range c = high_good c.args.line.now c.args.limit (subst (IsReadOf c.args.line.now c.args.limit) c.in-Range.is c.in_ok-column.ensures)

pub returns-in-NotCritical : goal.returns-in-NotCritical
returns-in-NotCritical c =
    linear_good c.args.line.now c.args.limit c.in-NotCritical.variable (subst (IsReadOf c.args.line.now c.args.limit) c.in-NotCritical.is c.in_ok-column.ensures)

pub returns-in-Germ : goal.returns-in-Germ
returns-in-Germ c =
    let read = subst (IsReadOf c.args.line.now c.args.limit) c.in-Germ.is c.in_ok-column.ensures in
    if_ok c.answer_to_germ.result
    (λ a planned. germ_good c.args.line.now c.args.limit c.requires.at_least_3 c.requires.at_most_16 c.in-Germ.germ read a
    (subst (λ (names : List Name). ArePlanned names c.in-Germ.germ.jet a) c.as_slice.ensures planned))
    c.answer_to_germ.ensures.planned
