use Rattle.std.proofs.Common.{◌≡◌, Some, None, length, sym, ◌∙◌, arith}
use Rattle.ext_algebra.specs.Algebra.{scalars, value_in}
use Rattle.jet_law.specs.Terms.{poly_of}
use Rattle.report_jet.proofs.ReportJets.{algebra_valid, jet_valid}
use Rattle.determinator.proofs.Namings.{found_0, found_1, found_more, least_at_2}
use Rattle.determinator.proofs.naming.family_found.Goals as goal

pub returns-then-c-eq0 : goal.returns-then-c-eq0
returns-then-c-eq0 c = record { family = found_0 c.args.c.now c.if-c-eq0.true }

pub returns-then-c-gt1 : goal.returns-then-c-gt1
returns-then-c-gt1 c = record { family = found_more c.args.c.now c.if-c-gt1.true c.requires.few }

pub least_power-requires-clause-ring : goal.least_power-requires-clause-ring
least_power-requires-clause-ring c = record { algebra = algebra_valid c.args.c.now.algebra c.requires.well_formed.algebra; irreducible = c.requires.field }

pub least_power-requires-clause-jet : goal.least_power-requires-clause-jet
least_power-requires-clause-jet c = jet_valid (length c.args.c.now.names) c.args.c.now.order c.args.c.now.algebra c.args.c.now.jet c.requires.well_formed.jet

pub overflow_sub-result : goal.overflow_sub-result
overflow_sub-result c =
    let f = c.args.c.now.jet in
    let a = c.args.c.now.algebra in
    let two = least_at_2 f.n (scalars a) f.order (poly_of f.n (value_in a) f.terms) c.in-Some.m (sym c.least_power.ensures.least ∙ c.in-Some.is) in
    omega arith

pub returns-in-Some : goal.returns-in-Some
returns-in-Some c =
    let few = c.if-c-gt1.false in
    let some = c.if-c-eq0.false in
    let one : c.args.c.now.corank ≡ 1 = omega arith in
    record { family = found_1 c.args.c.now c.requires.well_formed one (Some c.in-Some.m) (sym c.in-Some.is ∙ c.least_power.ensures.least) }

pub returns-in-None : goal.returns-in-None
returns-in-None c =
    let few = c.if-c-gt1.false in
    let some = c.if-c-eq0.false in
    let one : c.args.c.now.corank ≡ 1 = omega arith in
    record { family = found_1 c.args.c.now c.requires.well_formed one None (sym c.in-None.is ∙ c.least_power.ensures.least) }
