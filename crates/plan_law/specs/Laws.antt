-- What holds of the plan of every germ.
use Rattle.std.specs.Prelude.{◌≡◌, ℕ}
use Rattle.ring_theory.specs.Rational.{Rational}
use Rattle.poly_law.specs.Polynomials.{Polynomial}
use Rattle.ext_algebra.specs.Algebra.{IsIrreducible}
use Rattle.plan_law.specs.Outcomes.{Outcome, carried}
use Rattle.plan_law.specs.Plan.{HasOutcome}

-- two outcomes of the plan of a germ up to an order limit are equal
abbrev pub PlansHaveOneOutcome : Type 0
PlansHaveOneOutcome = (n : ℕ) (germ : Polynomial n Rational) (last : ℕ) (x y : Outcome n) → HasOutcome n germ last x → HasOutcome n germ last y → x ≡ y

-- the modulus in t of the algebra of an outcome has no rational root, and over a tower d is no square
abbrev pub PlansAreOverFields : Type 0
PlansAreOverFields = (n : ℕ) (germ : Polynomial n Rational) (last : ℕ) (outcome : Outcome n) → HasOutcome n germ last outcome → IsIrreducible (carried outcome).algebra
