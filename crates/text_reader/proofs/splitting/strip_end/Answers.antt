use Rattle.std.proofs.Common.{eqb}
use Rattle.std.proofs.lemmas.Bool.Decides.{Decides-eqb}
use Rattle.std.proofs.lemmas.Slice.Eq.{strip_suffix_is}
use Rattle.text_reader.proofs.Options.{some_from, none_from}
use Rattle.text_reader.proofs.splitting.strip_end.Goals as goal

pub returns-clause-some : goal.returns-clause-some
returns-clause-some c = some_from c.strip_suffix.result _ _ (strip_suffix_is {E = eqb} Decides-eqb c.args.bytes.now c.args.end.now _ c.strip_suffix.ensures.cases)

pub returns-clause-none : goal.returns-clause-none
returns-clause-none c e = none_from c.strip_suffix.result _ _ (strip_suffix_is {E = eqb} Decides-eqb c.args.bytes.now c.args.end.now _ c.strip_suffix.ensures.cases) e
