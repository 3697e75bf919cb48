-- The text of monomials and polynomials in variables of given names.
use Rattle.std.specs.Prelude.{ℕ, Bool, List, [], ◌∷◌, ◌++◌, min, take, decimal, ◌==◌, if◌then◌else◌}
use Rattle.std.specs.List.{flat_map, list_all}
use Rattle.ring_law.specs.declared.fraction.Frac.{Frac}
use Rattle.ext_algebra.specs.declared.algebra.Ext.{Ext}
use Rattle.mono_exp.specs.declared.exponent.Exp.{Exp}
use Rattle.jet_poly.specs.JetTerms.{JetTerms}
use Rattle.poly_text.specs.declared.name.Name.{Name}
use Rattle.poly_text.specs.Numbers.{components_text, scaled_text, signed_text, without_plus}

-- the bytes of a name
abbrev pub name_text : Name → List ℕ
name_text name = take (min name.len 4) name.bytes

abbrev pub is_one : Exp → Bool
is_one m = list_all (λ e. e == 0) m.e

-- the exponent behind its sign, and nothing for the exponent 1
abbrev pub exponent_text : ℕ → List ℕ
exponent_text exponent = if exponent == 1 then [] else 94 ∷ decimal exponent

-- a power of a variable with a star before it, and nothing for the power 0
abbrev pub factor_text : Name → ℕ → List ℕ
factor_text name exponent = if exponent == 0 then [] else 42 ∷ name_text name ++ exponent_text exponent

-- the powers of the variables, each with a star before it
unfoldable pub factors_text : List Name → List ℕ → List ℕ
factors_text [] es = []
factors_text (name ∷ names) [] = []
factors_text (name ∷ names) (e ∷ es) = factor_text name e ++ factors_text names es

-- `1` for no factor, and else no star at the front
abbrev pub without_star : List ℕ → List ℕ
without_star [] = 49 ∷ []
without_star (star ∷ bs) = bs

-- a monomial, as `x^2*y` or `1`
unfoldable pub monomial_in : List Name → Exp → List ℕ
monomial_in names m = without_star (factors_text names m.e)

-- a term with its sign before it; the constant term is the sum of its components
unfoldable pub term_in : List Name → Exp × Ext Frac → List ℕ
term_in names t = if is_one t.0 then components_text t.1 else signed_text (scaled_text t.1 (factors_text names t.0.e))

-- a polynomial, as `x^2+1/2*y`; `0` for no term
unfoldable pub polynomial_in : List Name → JetTerms (Ext Frac) → List ℕ
polynomial_in names f = without_plus (flat_map (term_in names) f.terms)

-- `u` and a digit
abbrev pub new_name : ℕ → Name
new_name digit = record { bytes = 117 ∷ digit ∷ 0 ∷ 0 ∷ []; len = 2 }

-- the names of the new variables, u1 to u8
unfoldable pub new_names : List Name
new_names = new_name 49 ∷ new_name 50 ∷ new_name 51 ∷ new_name 52 ∷ new_name 53 ∷ new_name 54 ∷ new_name 55 ∷ new_name 56 ∷ []

-- a monomial in the new variables u1 to u8
abbrev pub monomial_text : Exp → List ℕ
monomial_text m = monomial_in new_names m

-- a polynomial in the new variables u1 to u8
abbrev pub jet_text : JetTerms (Ext Frac) → List ℕ
jet_text f = polynomial_in new_names f
