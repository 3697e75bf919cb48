-- Lists of terms that are not brought into order: partial derivatives with a term for each term of the jet.
use Rattle.std.specs.Prelude.{◌≡◌, ℕ, List, [], length, get_or}
use Rattle.std.specs.List.{AllByRecursion}
use Rattle.ring_theory.specs.Scalars.{Meaning}
use Rattle.poly_law.specs.Polynomials.{Polynomial, derivative_in}
use Rattle.mono_exp.specs.declared.exponent.Exp.{Exp}
use Rattle.mono_exp.specs.Exponents.{IsIn}
use Rattle.jet_law.specs.Terms.{poly_of}
use Rattle.jacobian_row.specs.Rows.{EachIndexIs}

-- terms in n variables with valid coefficients
pub record AreTermsIn {E V : Type 0} (m : Meaning E V) (n : ℕ) (terms : List (Exp × E)) : Type 0 where
  pub elems : AllByRecursion (λ t. m.is_elem t.1) terms
  pub unused : AllByRecursion (λ t. IsIn n t.0.e) terms

-- the terms of ∂g/∂x(i), one for each term of g
pub record IsPartialList {E V : Type 0} (m : Meaning E V) (n : ℕ) (g : Polynomial n V) (i : ℕ) (terms : List (Exp × E)) : Type 0 where
  pub valid : AreTermsIn m n terms
  pub derivative : poly_of n m.value terms ≡ derivative_in n m.scalars.ops i g

-- these for all variables, in order
pub record ArePartialLists {E V : Type 0} (m : Meaning E V) (n : ℕ) (g : Polynomial n V) (partials : List (List (Exp × E))) : Type 0 where
  pub count : length partials ≡ n
  pub each : EachIndexIs (IsPartialList m n g) partials

-- the polynomial of the list with number i, and 0 past the last one
abbrev pub list_at : {E V : Type 0} (n : ℕ) → (E → V) → List (List (Exp × E)) → ℕ → Polynomial n V
list_at n value lists i = poly_of n value (get_or lists i [])
