use Rattle.std.proofs.Common.{sym, ◌∙◌}
use Rattle.determinator.proofs.Namings.{found_rational}
use Rattle.determinator.proofs.naming.naming_of.Goals as goal

pub naming_by-requires-clause-rational : goal.naming_by-requires-clause-rational
naming_by-requires-clause-rational c = found_rational c.args.c.now c.requires.well_formed.order_at_most c.requires.few c.in-Some.family (sym c.family_found.ensures.family ∙ c.in-Some.is)
