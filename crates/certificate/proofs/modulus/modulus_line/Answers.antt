use Rattle.std.proofs.Common.{map, length, sym, ap, subst, ◌∙◌}
use Rattle.std.specs.List.{All}
use Rattle.ring_law.proofs.Exits.{faulted}
use Rattle.report_jet.proofs.ReportJets.{algebra_valid, jet_valid}
use Rattle.ext_algebra.specs.Algebra.{IsElement, value_in}
use Rattle.normal_forms.specs.Families.{kind_of}
use Rattle.certificate.proofs.ModulusLines.{rational_for, nondegenerate_for, line_high, units_are, modulus_high, line_of}
use Rattle.certificate.proofs.modulus.modulus_line.Goals as goal

pub sum_coefficients-requires-clause-ring : goal.sum_coefficients-requires-clause-ring
sum_coefficients-requires-clause-ring c = record { algebra = algebra_valid c.args.c.now.algebra c.requires.well_formed.algebra; irreducible = c.requires.field }

pub sum_coefficients-requires-clause-jet : goal.sum_coefficients-requires-clause-jet
sum_coefficients-requires-clause-jet c = jet_valid (length c.args.c.now.names) c.args.c.now.order c.args.c.now.algebra c.args.c.now.jet c.requires.well_formed.jet

pub modulus-requires-clause-rational : goal.modulus-requires-clause-rational
modulus-requires-clause-rational c =
    rational_for c.args.c.now.algebra (kind_of c.args.family) c.requires.rational c.deref.result.now (subst (All (IsElement c.args.c.now.algebra)) (sym c.deref.ensures.value) c.in_ok-coefs.ensures.elems)

pub modulus-requires-clause-nondegenerate : goal.modulus-requires-clause-nondegenerate
modulus-requires-clause-nondegenerate c =
    nondegenerate_for c.args.c.now.algebra (kind_of c.args.family) c.requires.rational c.deref.result.now
    (units_are c.args.family c.args.c.now c.requires.well_formed c.requires.read c.deref.result.now (ap (map (value_in c.args.c.now.algebra)) c.deref.ensures.value ∙ c.in_ok-coefs.ensures.values))

pub returns-in_err-line-clause-range : goal.returns-in_err-line-clause-range
returns-in_err-line-clause-range c =
    faulted c.from_residual-in_err-line.result c.from_residual-in_err-line.ensures.1
    (λ high. modulus_high c.args.family c.args.c.now c.requires.well_formed c.requires.read c.deref.result.now (ap (map (value_in c.args.c.now.algebra)) c.deref.ensures.value ∙ c.in_ok-coefs.ensures.values)
    (line_high c.args.c.now.algebra (kind_of c.args.family) c.requires.rational c.deref.result.now high)) c.in_err-line.ensures.range

pub returns-clause-line : goal.returns-clause-line
returns-clause-line c =
    line_of c.args.family c.args.c.now c.requires.well_formed c.requires.read c.deref.result.now (ap (map (value_in c.args.c.now.algebra)) c.deref.ensures.value ∙ c.in_ok-coefs.ensures.values) c.in_ok-line.line
    (c.in_ok-line.ensures.elem c.args.c.now.algebra (subst (All (IsElement c.args.c.now.algebra)) (sym c.deref.ensures.value) c.in_ok-coefs.ensures.elems)) (c.in_ok-line.ensures.modulus c.args.c.now.algebra)
