-- The values of a functional, and when they are high.
use Rattle.std.specs.Prelude.{◌≡◌, ℕ, ◌+◌, ◌<◌, ◌≤◌, ◌⊎◌, List, ◌∷◌, map, length}
use Rattle.ring_theory.specs.Ring.{RingOps}
use Rattle.ring_theory.specs.Scalars.{Scalars}
use Rattle.poly_law.specs.Exps.{degree}
use Rattle.poly_law.specs.ExpList.{ExpList, exps}
use Rattle.poly_law.specs.Poly.{coefficient, value_on}
use Rattle.poly_law.specs.Polynomials.{Polynomial, term_in, times_in}
use Rattle.jet_law.specs.Heights.{IsHigh}
use Rattle.jet_law.specs.Terms.{exp_of}
use Rattle.jacobian_row.specs.Multiples.{multiple_to}
use Rattle.jacobian_row.specs.Multipliers.{multiple_at}
use Rattle.jacobian_row.specs.Rows.{IsPartialHigh}
use Rattle.jacobian_row.specs.declared.multiple.Multiple.{Multiple}

-- w(v, c) for the value v at each monomial of a functional and the coefficient c of f at it
abbrev pub with_coefficients : {V X : Type 0} (n : ℕ) → RingOps V → (V → V → X) → (values f : Polynomial n V) → List X
with_coefficients n r w values f = map (λ t. w t.1 (coefficient (exps n) r f t.0)) values

-- the heights of the value of a functional at f, the sum of the products of its values with the coefficients of f: of that sum, and of the
-- products
abbrev pub value_heights : {V : Type 0} (n : ℕ) → Scalars V → (values f : Polynomial n V) → List ℕ
value_heights n s values f = s.sum_height (with_coefficients n s.ops s.ops.mul values f) ∷ with_coefficients n s.ops s.product_height values f

-- the value at some multiple x^a * ∂g/∂x(i) cut at k + 1, the degree of a at least 2, is high
pub record IsMultipleHigh {V : Type 0} (n : ℕ) (s : Scalars V) (k : ℕ) (g values : Polynomial n V) : Type 0 where
  pub factor : ExpList n
  pub variable : ℕ
  pub from : 2 ≤ degree (exps n) factor
  pub within : variable < n
  pub high : IsHigh (value_heights n s values (multiple_to n s.ops (k + 1) g factor variable))

-- a partial of g is high, or the value of the functional at some multiple or at the monomial a
abbrev pub AreValuesHigh : {V : Type 0} (n : ℕ) → Scalars V → ℕ → (g values : Polynomial n V) → ExpList n → Type 0
AreValuesHigh n s k g values a = IsPartialHigh n s g ⊎ (IsMultipleHigh n s k g values ⊎ IsHigh (value_heights n s values (term_in n s.ops a)))

-- the functional is 0 on the multiple x^a * f(i) of one of the polynomials f(0), f(1), ..
abbrev pub IsZeroOn : {V : Type 0} (n : ℕ) → RingOps V → Polynomial n V → (ℕ → Polynomial n V) → Multiple → Type 0
IsZeroOn n r values f u = value_on (exps n) r values (times_in n r (term_in n r (exp_of n u.factor)) (f u.variable)) ≡ r.zero

-- its value at some of the multiples is high
pub record IsZeroHigh {V : Type 0} (n : ℕ) (s : Scalars V) (values : Polynomial n V) (f : ℕ → Polynomial n V) (multiples : List Multiple) : Type 0 where
  pub place : ℕ
  pub within : place < length multiples
  pub high : IsHigh (value_heights n s values (times_in n s.ops (term_in n s.ops (exp_of n (multiple_at multiples place).factor)) (f (multiple_at multiples place).variable)))
