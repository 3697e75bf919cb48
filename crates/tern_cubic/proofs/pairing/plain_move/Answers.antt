use Rattle.std.proofs.Common.{◌≡◌, true, false, map, sym, ◌∙◌, Some, None}
use Rattle.ring_theory.specs.Height.{rational_scalars}
use Rattle.ring_theory.proofs.RationalLaws.{rational_scalar_laws}
use Rattle.ring_law.specs.Fraction.{frac_value, rational_meaning}
use Rattle.ring_law.proofs.Exits.{fault_handed_on}
use Rattle.move_law.specs.Work.{IsWorkHigh}
use Rattle.ternary_law.specs.Matrices.{matrix_product, moved}
use Rattle.ternary_law.specs.Routes.{work_after}
use Rattle.tern_cubic.specs.Stepping.{step_of}
use Rattle.tern_cubic.specs.Moving.{IsMoving, IsSingular, AfterSteps, advancing_work}
use Rattle.tern_cubic.proofs.SteppingLemmas.{among_first, among_last, singular_steps}
use Rattle.tern_cubic.proofs.PairingLemmas
use Rattle.tern_cubic.proofs.pairing.plain_move.Goals as goal

pub returns-in_err-start-clause-range : goal.returns-in_err-start-clause-range
returns-in_err-start-clause-range c v b g was is =
    let steps = map (step_of rational_scalars) c.args.steps.now in
    let a = matrix_product rational_scalars v b in
    let h = moved rational_scalars b g in
    fault_handed_on _ c.from_residual.ensures.1 (among_first (IsWorkHigh 3 rational_scalars) (advancing_work rational_scalars v b g) (work_after rational_scalars a steps h)) (c.in_err-start.ensures.range v b g was is)

pub returns-in_default-clause-change : goal.returns-in_default-clause-change
returns-in_default-clause-change c v b g was is =
    let steps = map (step_of rational_scalars) c.args.steps.now in
    let a = matrix_product rational_scalars v b in
    let h = moved rational_scalars b g in
    let none : IsSingular rational_scalars a = rw c.in_default.is at (c.in_ok-start.ensures.way v b g was is) in
    λ divisors monomials. singular_steps rational_meaning rational_scalar_laws steps a h none

pub run-requires : goal.run-requires
run-requires c =
    let u = c.requires.under_way in
    let b = map (map frac_value) c.args.matrix.now in
    let is : IsMoving rational_meaning (matrix_product rational_scalars u.matrix b) (moved rational_scalars b u.cubic) c.in-Some.start = rw c.in-Some.is at (c.in_ok-start.ensures.way u.matrix b u.cubic u.is c.requires.matrix) in
    record { matrix = matrix_product rational_scalars u.matrix b; cubic = moved rational_scalars b u.cubic; is = is }

pub returns-in_err-end-clause-range : goal.returns-in_err-end-clause-range
returns-in_err-end-clause-range c v b g was is =
    let steps = map (step_of rational_scalars) c.args.steps.now in
    let a = matrix_product rational_scalars v b in
    let h = moved rational_scalars b g in
    let start : IsMoving rational_meaning a h c.in-Some.start = rw c.in-Some.is at (c.in_ok-start.ensures.way v b g was is) in
    fault_handed_on _ c.from_residual-in_err-end.ensures.1 (among_last (IsWorkHigh 3 rational_scalars) (advancing_work rational_scalars v b g) (work_after rational_scalars a steps h)) (c.in_err-end.ensures.range a h start)

pub returns-in_default-2-clause-change : goal.returns-in_default-2-clause-change
returns-in_default-2-clause-change c v b g was is =
    let steps = map (step_of rational_scalars) c.args.steps.now in
    let a = matrix_product rational_scalars v b in
    let h = moved rational_scalars b g in
    let start : IsMoving rational_meaning a h c.in-Some.start = rw c.in-Some.is at (c.in_ok-start.ensures.way v b g was is) in
    let none : AfterSteps rational_meaning steps a h None = rw c.in_default-2.is at (c.in_ok-end.ensures.way a h start) in
    λ divisors monomials. none divisors

pub returns-then-has_monomials-clause-change : goal.returns-then-has_monomials-clause-change
returns-then-has_monomials-clause-change c v b g was is =
    let steps = map (step_of rational_scalars) c.args.steps.now in
    let a = matrix_product rational_scalars v b in
    let h = moved rational_scalars b g in
    let start : IsMoving rational_meaning a h c.in-Some.start = rw c.in-Some.is at (c.in_ok-start.ensures.way v b g was is) in
    let end : AfterSteps rational_meaning steps a h (Some c.in-Some-2.end) = rw c.in-Some-2.is at (c.in_ok-end.ensures.way a h start) in
    PairingLemmas.is_ended a h steps c.args.monomials.now c.in-Some-2.end end (c.has_monomials.ensures.0 c.if-has_monomials.true)

pub returns-else-has_monomials-clause-change : goal.returns-else-has_monomials-clause-change
returns-else-has_monomials-clause-change c v b g was is =
    let steps = map (step_of rational_scalars) c.args.steps.now in
    let a = matrix_product rational_scalars v b in
    let h = moved rational_scalars b g in
    let start : IsMoving rational_meaning a h c.in-Some.start = rw c.in-Some.is at (c.in_ok-start.ensures.way v b g was is) in
    let end : AfterSteps rational_meaning steps a h (Some c.in-Some-2.end) = rw c.in-Some-2.is at (c.in_ok-end.ensures.way a h start) in
    PairingLemmas.is_missed a h steps c.args.monomials.now c.in-Some-2.end end
    (λ e. let bad : true ≡ false = sym (c.has_monomials.ensures.1 e) ∙ c.if-has_monomials.false in cc bad)
