use Rattle.std.proofs.Common.{refl, ◌∙◌}
use Rattle.text_reader.proofs.FamilyNames.{a_text, d_text, series_none}
use Rattle.text_reader.proofs.family.read_series.Goals as goal

pub returns-in-Some-clause-some : goal.returns-in-Some-clause-some
returns-in-Some-clause-some c = let h = c.in-Some.ensures.some in (h.0, a_text c.in-Some.m ∙ h.1)

pub returns-in-Some-number_behind-clause-some : goal.returns-in-Some-number_behind-clause-some
returns-in-Some-number_behind-clause-some c = let h = c.in-Some-number_behind.ensures.some in (h.0, d_text c.in-Some-number_behind.m ∙ h.1)

pub returns-in-None-number_behind-clause-none : goal.returns-in-None-number_behind-clause-none
returns-in-None-number_behind-clause-none c e f ok is =
    series_none f c.args.bytes.now ok is (c.in-None.ensures.none refl) (c.in-None-number_behind.ensures.none refl) (c.read_hyperbolic.ensures.none e)
