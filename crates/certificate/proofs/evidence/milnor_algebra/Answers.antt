use Rattle.jet_subst.proofs.Tables.{if_ok}
use Rattle.ring_law.proofs.Exits.{faulted_by}
use Rattle.certificate.proofs.Answered.{field_of, quotient_of_carried, quotient_high}
use Rattle.certificate.proofs.evidence.milnor_algebra.Goals as goal

pub quotient-requires-clause-ring : goal.quotient-requires-clause-ring
quotient-requires-clause-ring c = field_of c.args.c.now c.requires.well_formed c.requires.at_most_3_residual c.in-Ok.g c.in-Ok.ensures.n c.in-Ok.ensures.polynomial c.requires.field

pub returns-in-Ok-clause-quotient : goal.returns-in-Ok-clause-quotient
returns-in-Ok-clause-quotient c = if_ok c.quotient.result (λ q is. quotient_of_carried c.args.c.now c.requires.well_formed c.requires.at_most_3_residual c.in-Ok.g c.in-Ok.ensures.n c.in-Ok.ensures.polynomial c.requires.low q is) c.quotient.ensures.quotient

pub returns-in-Ok-clause-range : goal.returns-in-Ok-clause-range
returns-in-Ok-clause-range c = faulted_by (quotient_high c.args.c.now c.requires.well_formed c.requires.at_most_3_residual c.in-Ok.g c.in-Ok.ensures.n c.in-Ok.ensures.polynomial) c.quotient.ensures.range
