-- The coefficients of a form, the values that must be units in it, and the form that has given coefficients.
use Rattle.std.specs.Prelude.{ℕ, ◌+◌, List, ◌++◌, map, length}
use Rattle.std.specs.List.{zip}
use Rattle.ring_theory.specs.Scalars.{Meaning}
use Rattle.poly_law.specs.Polynomials.{coefficient_in}
use Rattle.mono_exp.specs.declared.exponent.Exp.{Exp}
use Rattle.jet_law.specs.Terms.{exp_of, poly_of}
use Rattle.jet_law.specs.Canonical.{monomial_in}
use Rattle.normal_forms.specs.declared.family.Family.{Family}
use Rattle.normal_forms.specs.Monomials.{in_eight, numbers_below, residual_terms, square_of, square_variables}
use Rattle.normal_forms.specs.Families.{corank_of, sum_of, kind_of}
use Rattle.normal_forms.specs.Units.{unit_values, unit_heights}

module _ {E V : Type 0} (m : Meaning E V) where
  -- the coefficients that the residual part of terms, the first c variables being residual, has at the monomials of the family's sum, in order
  abbrev pub coefficients_in_sum : Family → (c : ℕ) → List (Exp × E) → List V
  coefficients_in_sum family c terms = map (λ e. coefficient_in c m.scalars.ops (poly_of c m.value (residual_terms c terms)) (monomial_in c e)) (sum_of family)

  -- the coefficients that terms in n variables have at the squares of the variables past the first c, in order
  abbrev pub coefficients_of_squares : (n c : ℕ) → List (Exp × E) → List V
  coefficients_of_squares n c terms = map (λ i. coefficient_in n m.scalars.ops (poly_of n m.value terms) (exp_of n (square_of i))) (square_variables n c)

  -- the values that must be units in terms that are a form of the family: those of the coefficients, and then the coefficients of the squares
  abbrev pub unit_values_in : Family → (n c : ℕ) → List (Exp × E) → List V
  unit_values_in family n c terms = unit_values m.scalars (kind_of family) (coefficients_in_sum family c terms) ++ coefficients_of_squares n c terms

  -- the heights of the numbers that their formulas form
  abbrev pub unit_heights_in : Family → (c : ℕ) → List (Exp × E) → List ℕ
  unit_heights_in family c terms = unit_heights m.scalars (kind_of family) (coefficients_in_sum family c terms)

-- the sum of the coefficients times the monomials of the family's sum, and of the squares of as many further variables
abbrev pub form_terms : {E : Type 0} → Family → List E → List E → List (Exp × E)
form_terms family coefs squares =
    zip (map in_eight (sum_of family)) coefs ++ zip (map (λ i. square_of (corank_of family + i)) (numbers_below (length squares))) squares
