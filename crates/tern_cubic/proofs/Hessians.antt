-- When a coefficient of the Hessian determinant is high, the determinant is.
use Rattle.std.proofs.Common.{◌≡◌, ℕ, ◌<◌, List, get_or, flat_map}
use Rattle.ring_theory.specs.Height.{rational_scalars}
use Rattle.ring_theory.specs.Rational.{Rational}
use Rattle.jet_law.specs.Heights.{IsHigh}
use Rattle.jet_law.proofs.High.{high_in}
use Rattle.ring_formula.specs.declared.Summand.{Summand}
use Rattle.ring_formula.specs.Formulas.{formula_heights}
use Rattle.ternary_law.specs.Hessian.{hessian_table}

-- the coefficient with number i is high
pub coefficient_high : (v : List Rational) (i : ℕ) (e : List Summand) → i < 10 → e ≡ get_or hessian_table i e → IsHigh (formula_heights rational_scalars v e)
    → IsHigh (flat_map (formula_heights rational_scalars v) hessian_table)
coefficient_high v i e h here high = high_in (formula_heights rational_scalars v) hessian_table i e h here high
