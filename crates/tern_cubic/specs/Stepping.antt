-- The steps of the program, as those of the rules.
use Rattle.std.specs.Prelude.{[], ◌∷◌, ◌++◌}
use Rattle.ring_theory.specs.Scalars.{Scalars}
use Rattle.move_law.specs.Shapes.{over_work, over_multiple_work}
use Rattle.ternary_law.specs.Cubics.{coef}
use Rattle.ternary_law.specs.Steps
use Rattle.ternary_law.specs.Rules
use Rattle.ternary_law.specs.Rules.{swap_work}
use Rattle.ternary_law.specs.Routes as routes
use Rattle.tern_cubic.specs.declared.stepping.Step.{Step}
use Rattle.tern_cubic.specs.declared.stepping.Step.TheVariants as steps

module _ {V : Type 0} (s : Scalars V) where
  -- the step of the rules that a step of the program stands for
  abbrev pub step_of : Step → routes.Step V
  step_of steps.Node = Rules.node_step s
  step_of steps.Secant = Rules.secant_step s
  step_of steps.CuspFirst = record { matrix = Steps.cusp_first s; divisors = λ f. []; works = λ f. swap_work s (coef s f 2 1 0) (coef s f 1 1 1) }
  step_of steps.CuspSecond = record {
    matrix = Steps.cusp_second s;
    divisors = λ f. coef s f 3 0 0 ∷ [];
    works = λ f. over_multiple_work s 3 3 (coef s f 2 0 1) (coef s f 3 0 0);
  }
  step_of steps.CuspThird = record {
    matrix = Steps.cusp_third s;
    divisors = λ f. coef s f 0 1 2 ∷ [];
    works = λ f. over_work s 3 (coef s f 1 0 2) (coef s f 0 1 2) ++ over_work s 3 (coef s f 0 0 3) (coef s f 0 1 2);
  }
  step_of steps.TangentFirst = record { matrix = Steps.tangent_first s; divisors = λ f. []; works = λ f. swap_work s (coef s f 2 0 1) (coef s f 1 1 1) }
  step_of steps.TangentSecond = record {
    matrix = Steps.tangent_second s;
    divisors = λ f. coef s f 0 2 1 ∷ [];
    works = λ f. over_multiple_work s 3 2 (coef s f 0 1 2) (coef s f 0 2 1);
  }
  step_of steps.TangentThird = record {
    matrix = Steps.tangent_third s;
    divisors = λ f. coef s f 1 0 2 ∷ [];
    works = λ f. over_work s 3 (coef s f 0 0 3) (coef s f 1 0 2);
  }
