use Rattle.row_reader.proofs.ValueTexts.{no_words, other_words, some_count}
use Rattle.row_reader.proofs.value.words_of.Goals as goal

pub returns-then-is_empty : goal.returns-then-is_empty
returns-then-is_empty c es len = no_words es c.args.count c.args.bytes.now c.is_empty.result c.if-count-eq0.true c.is_empty.ensures c.if-is_empty.true len

pub returns-else-is_empty : goal.returns-else-is_empty
returns-else-is_empty c es len = other_words es c.args.bytes.now c.is_empty.result c.is_empty.ensures c.if-is_empty.false

pub returns-else-count-eq0 : goal.returns-else-count-eq0
returns-else-count-eq0 c es len = some_count es c.args.count c.args.bytes.now c.if-count-eq0.false len
