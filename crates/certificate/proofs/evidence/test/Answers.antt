use Rattle.jet_subst.proofs.Tables.{if_ok}
use Rattle.ring_law.proofs.Exits.{faulted_by}
use Rattle.certificate.proofs.Answered.{field_of, low_in_g, test_of_carried, test_high}
use Rattle.certificate.proofs.evidence.test.Goals as goal

pub mather-requires-clause-ring : goal.mather-requires-clause-ring
mather-requires-clause-ring c = field_of c.args.c.now c.requires.well_formed c.requires.at_most_3_residual c.in-Ok.g c.in-Ok.ensures.n c.in-Ok.ensures.polynomial c.requires.field

pub mather-requires-clause-low : goal.mather-requires-clause-low
mather-requires-clause-low c = low_in_g c.args.c.now c.requires.well_formed c.requires.at_most_3_residual c.in-Ok.g c.in-Ok.ensures.n c.in-Ok.ensures.polynomial c.requires.low

pub returns-in-Ok-clause-test : goal.returns-in-Ok-clause-test
returns-in-Ok-clause-test c = if_ok c.mather.result (λ t is. test_of_carried c.args.c.now c.requires.well_formed c.requires.at_most_3_residual c.in-Ok.g c.in-Ok.ensures.n c.in-Ok.ensures.polynomial t is) c.mather.ensures.answer

pub returns-in-Ok-clause-range : goal.returns-in-Ok-clause-range
returns-in-Ok-clause-range c = faulted_by (test_high c.args.c.now c.requires.well_formed c.requires.at_most_3_residual c.in-Ok.g c.in-Ok.ensures.n c.in-Ok.ensures.polynomial) c.mather.ensures.range
