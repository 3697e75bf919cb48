use Rattle.std.proofs.Common.{[], sym, ◌∙◌, append-nil}
use Rattle.row_reader.proofs.WordTexts.{something_left}
use Rattle.row_reader.proofs.value.read_elements.Goals as goal
use Rattle.cert_text.specs.Text.{values_text}

pub returns-in-Ok-None-clause-none : goal.returns-in-Ok-None-clause-none
returns-in-Ok-None-clause-none c _ es valid text =
    let found = rw c.in-Ok-None.field-0-is at c.in-Ok-None.ensures.found in
    found es [] valid tt ((c.words_of.ensures es valid.count_is).0 text ∙ sym (append-nil (values_text es)))

pub returns-then-is_some-clause-none : goal.returns-then-is_some-clause-none
returns-then-is_some-clause-none c _ es valid text =
    let found = rw c.in-Ok-Some.field-0-is at c.in-Ok-Some.ensures.found in
    something_left c.in-Ok-Some.left (sym c.is_some.ensures ∙ c.if-is_some.true) (found es [] valid tt ((c.words_of.ensures es valid.count_is).0 text ∙ sym (append-nil (values_text es)))).1
