use Rattle.std.proofs.Common.{◌≡◌, true, false, map, sym, ◌∙◌, Some, None}
use Rattle.ring_theory.specs.Height.{rational_scalars}
use Rattle.ring_law.specs.Fraction.{frac_value, rational_meaning}
use Rattle.ring_law.proofs.Exits.{fault_handed_on}
use Rattle.jet_law.specs.Terms.{poly_of}
use Rattle.move_law.specs.Work.{IsWorkHigh}
use Rattle.ternary_law.specs.Matrices.{moved}
use Rattle.ternary_law.specs.Routes.{work_after}
use Rattle.tern_cubic.specs.Stepping.{step_of}
use Rattle.tern_cubic.specs.Moving.{IsMoving, IsSingular, AfterSteps, beginning_work}
use Rattle.tern_cubic.proofs.SteppingLemmas.{among_first, among_last, singular_steps}
use Rattle.tern_cubic.proofs.ReachingLemmas.{is_reached, is_missed, is_stopped}
use Rattle.ring_theory.proofs.RationalLaws.{rational_scalar_laws}
use Rattle.tern_cubic.proofs.reaching.reached_by.Goals as goal

pub returns-in_err-start-clause-range : goal.returns-in_err-start-clause-range
returns-in_err-start-clause-range c a is =
    let g = poly_of 3 frac_value c.args.f.now.terms in
    fault_handed_on _ c.from_residual.ensures.1
    (among_first (IsWorkHigh 3 rational_scalars) (beginning_work rational_scalars a g) (work_after rational_scalars a (map (step_of rational_scalars) c.args.steps.now) (moved rational_scalars a g)))
    (c.in_err-start.ensures.range a is)

pub returns-in_default-clause-change : goal.returns-in_default-clause-change
returns-in_default-clause-change c a is =
    let g = poly_of 3 frac_value c.args.f.now.terms in
    let none : IsSingular rational_scalars a = rw c.in_default.is at (c.in_ok-start.ensures.way a is) in
    is_stopped g a (map (step_of rational_scalars) c.args.steps.now) c.args.monomials.now
    (λ divisors. singular_steps rational_meaning rational_scalar_laws (map (step_of rational_scalars) c.args.steps.now) a (moved rational_scalars a g) none)

pub run-requires : goal.run-requires
run-requires c =
    let a = map (map frac_value) c.args.first.now in
    let is : IsMoving rational_meaning a (moved rational_scalars a (poly_of 3 frac_value c.args.f.now.terms)) c.in-Some.start = rw c.in-Some.is at (c.in_ok-start.ensures.way a c.requires.matrix) in
    record { matrix = a; cubic = moved rational_scalars a (poly_of 3 frac_value c.args.f.now.terms); is = is }

pub returns-in_err-end-clause-range : goal.returns-in_err-end-clause-range
returns-in_err-end-clause-range c a is =
    let g = poly_of 3 frac_value c.args.f.now.terms in
    let start : IsMoving rational_meaning a (moved rational_scalars a g) c.in-Some.start = rw c.in-Some.is at (c.in_ok-start.ensures.way a is) in
    fault_handed_on _ c.from_residual-in_err-end.ensures.1
    (among_last (IsWorkHigh 3 rational_scalars) (beginning_work rational_scalars a g) (work_after rational_scalars a (map (step_of rational_scalars) c.args.steps.now) (moved rational_scalars a g)))
    (c.in_err-end.ensures.range a (moved rational_scalars a g) start)

pub returns-in_default-2-clause-change : goal.returns-in_default-2-clause-change
returns-in_default-2-clause-change c a is =
    let g = poly_of 3 frac_value c.args.f.now.terms in
    let start : IsMoving rational_meaning a (moved rational_scalars a g) c.in-Some.start = rw c.in-Some.is at (c.in_ok-start.ensures.way a is) in
    let none : AfterSteps rational_meaning (map (step_of rational_scalars) c.args.steps.now) a (moved rational_scalars a g) None = rw c.in_default-2.is at (c.in_ok-end.ensures.way a (moved rational_scalars a g) start) in
    is_stopped g a (map (step_of rational_scalars) c.args.steps.now) c.args.monomials.now none

pub returns-then-has_monomials-clause-change : goal.returns-then-has_monomials-clause-change
returns-then-has_monomials-clause-change c a is =
    let g = poly_of 3 frac_value c.args.f.now.terms in
    let start : IsMoving rational_meaning a (moved rational_scalars a g) c.in-Some.start = rw c.in-Some.is at (c.in_ok-start.ensures.way a is) in
    let end : AfterSteps rational_meaning (map (step_of rational_scalars) c.args.steps.now) a (moved rational_scalars a g) (Some c.in-Some-2.end) = rw c.in-Some-2.is at (c.in_ok-end.ensures.way a (moved rational_scalars a g) start) in
    is_reached g a (map (step_of rational_scalars) c.args.steps.now) c.args.monomials.now c.in-Some-2.end end (c.has_monomials.ensures.0 c.if-has_monomials.true)

pub returns-else-has_monomials-clause-change : goal.returns-else-has_monomials-clause-change
returns-else-has_monomials-clause-change c a is =
    let g = poly_of 3 frac_value c.args.f.now.terms in
    let start : IsMoving rational_meaning a (moved rational_scalars a g) c.in-Some.start = rw c.in-Some.is at (c.in_ok-start.ensures.way a is) in
    let end : AfterSteps rational_meaning (map (step_of rational_scalars) c.args.steps.now) a (moved rational_scalars a g) (Some c.in-Some-2.end) = rw c.in-Some-2.is at (c.in_ok-end.ensures.way a (moved rational_scalars a g) start) in
    is_missed g a (map (step_of rational_scalars) c.args.steps.now) c.args.monomials.now c.in-Some-2.end end
    (λ e. let bad : true ≡ false = sym (c.has_monomials.ensures.1 e) ∙ c.if-has_monomials.false in cc bad)
