use Rattle.std.proofs.Common.{map, drop}
use Rattle.ring_theory.specs.Height.{rational_scalars}
use Rattle.ring_theory.specs.Rational.{Rational}
use Rattle.ring_law.specs.Fraction.{rational_meaning}
use Rattle.poly_law.specs.Polynomials.{Polynomial}
use Rattle.ternary_law.specs.Matrices.{Matrix}
use Rattle.tern_cubic.specs.Moving.{IsMoving}
use Rattle.tern_cubic.specs.Stepping.{step_of}
use Rattle.tern_cubic.proofs.SteppingLemmas.{Stands}
use Rattle.tern_cubic.proofs.stepping.run.Given as goal

-- the steps that are left lead from here where all lead from the start
abbrev pub invariant-loop-step : goal.invariant-loop-step
invariant-loop-step l =
    (v : Matrix Rational) (h : Polynomial 3 Rational) → IsMoving rational_meaning v h l.fn.start
    → Stands rational_meaning (map (step_of rational_scalars) l.steps) (map (step_of rational_scalars) (drop l.step-index l.steps)) v h l.way
