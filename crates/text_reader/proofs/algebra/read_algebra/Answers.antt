use Rattle.std.proofs.Common.{◌∙◌}
use Rattle.text_reader.proofs.AlgebraTexts.{joined_read}
use Rattle.text_reader.proofs.algebra.read_algebra.Goals as goal

pub returns-in-Some-clause-some : goal.returns-in-Some-clause-some
returns-in-Some-clause-some c = joined_read c.args.bytes.now _ c.read_tower.result c.in-Some.ensures.some.0 c.read_tower.ensures.some

pub returns-in-Some-clause-none : goal.returns-in-Some-clause-none
returns-in-Some-clause-none c none a ok e = c.read_tower.ensures.none none a ok (e ∙ c.in-Some.ensures.some.0)
