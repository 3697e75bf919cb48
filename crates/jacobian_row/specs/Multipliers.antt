-- The multipliers of partials that a combination of multiples gives.
use Rattle.std.specs.Prelude.{◌≡◌, ℕ, ◌==◌, List, [], map, filter, length, get_or}
use Rattle.mono_exp.specs.declared.exponent.Exp.{Exp}
use Rattle.jet_poly.specs.JetTerms.{JetTerms}
use Rattle.jacobian_row.specs.Rows.{EachIndexIs}
use Rattle.jacobian_row.specs.declared.multiple.Multiple.{Multiple}

-- the multiple with number j, and x^0 * ∂g/∂x(0) past the end
abbrev pub multiple_at : List Multiple → ℕ → Multiple
multiple_at multiples j = get_or multiples j (record { factor = record { e = [] }; variable = 0 })

-- the terms x*a of the coefficients x of the multiples a * ∂g/∂x(i) of one variable i
abbrev pub terms_of : {E : Type 0} → List Multiple → List (ℕ × E) → ℕ → List (Exp × E)
terms_of multiples coefficients i = map (λ t. ((multiple_at multiples t.0).factor, t.1)) (filter (λ t. (multiple_at multiples t.0).variable == i) coefficients)

-- the jet of these terms
abbrev pub IsMultiplier : {E : Type 0} → (n k : ℕ) → List Multiple → List (ℕ × E) → ℕ → JetTerms E → Type 0
IsMultiplier n k multiples coefficients i f = f ≡ record { n = n; order = k; terms = terms_of multiples coefficients i }

-- multiplier i is the sum of coefficient times factor over the multiples of the partial i, a jet of order k in n variables
pub record AreMultipliers {E : Type 0} (n k : ℕ) (multiples : List Multiple) (coefficients : List (ℕ × E)) (multipliers : List (JetTerms E)) : Type 0 where
  pub count : length multipliers ≡ n
  pub each : EachIndexIs (IsMultiplier n k multiples coefficients) multipliers
