-- Rows of multiples of partials and of monomials, and when a partial is high.
use Rattle.std.specs.Prelude.{◌≡◌, ℕ, ◌<◌, List, [], ◌∷◌, ⊤, length, get_or}
use Rattle.ring_theory.specs.Scalars.{Scalars, Meaning}
use Rattle.poly_law.specs.ExpList.{exps}
use Rattle.poly_law.specs.Polynomials.{Polynomial, SameIn, term_in, derivative_in}
use Rattle.mono_exp.specs.declared.exponent.Exp.{Exp}
use Rattle.jet_law.specs.Heights.{IsHigh, derivative_heights}
use Rattle.jet_law.specs.Terms.{exp_of, poly_of}
use Rattle.jet_poly.specs.JetTerms.{JetTerms}
use Rattle.jet_poly.specs.Jets.{IsJet}
use Rattle.lin_row.specs.Lines.{IsLine, AllBelow, dot}
use Rattle.lin_row.specs.declared.row.Row.{Row}
use Rattle.jacobian_row.specs.Numbers.{form_of}
use Rattle.jacobian_row.specs.Multiples.{product_to}
use Rattle.jacobian_row.specs.declared.multiple.Multiple.{Multiple}

-- the row of a polynomial, with columns below a bound
pub record IsRowOf {E V : Type 0} (m : Meaning E V) (n bound : ℕ) (f : Polynomial n V) (row : List (ℕ × E)) : Type 0 where
  pub line : IsLine m row
  pub below : AllBelow bound row
  pub value : (w : ℕ → V) → dot m row w ≡ form_of n m.scalars.ops f w

-- the polynomial of the jet with number i of a list, and 0 past its end
abbrev pub polynomial_at : {E V : Type 0} (n : ℕ) → (E → V) → List (JetTerms E) → ℕ → Polynomial n V
polynomial_at n value jets i = poly_of n value (get_or jets i (record { n = 0; order = 0; terms = [] })).terms

-- the rows of the multiples x^a * f(i) cut at k, one for each, in order, with the jets f(i) for the partials
abbrev pub AreRowsOf : {E V : Type 0} → Meaning E V → (n bound k : ℕ) → List (JetTerms E) → List Multiple → List (Row E) → Type 0
AreRowsOf m n bound k partials [] [] = ⊤
AreRowsOf m n bound k partials [] (r ∷ rs) = ⊥
AreRowsOf m n bound k partials (u ∷ us) [] = ⊥
AreRowsOf m n bound k partials (u ∷ us) (r ∷ rs) =
    IsRowOf m n bound (product_to n m.scalars.ops k (exp_of n u.factor) (polynomial_at n m.value partials u.variable)) r.entries × AreRowsOf m n bound k partials us rs

-- the rows of monomials, one for each, in order
abbrev pub AreMonomialRows : {E V : Type 0} → Meaning E V → (n bound : ℕ) → List Exp → List (Row E) → Type 0
AreMonomialRows m n bound [] [] = ⊤
AreMonomialRows m n bound [] (r ∷ rs) = ⊥
AreMonomialRows m n bound (a ∷ rest) [] = ⊥
AreMonomialRows m n bound (a ∷ rest) (r ∷ rs) = IsRowOf m n bound (term_in n m.scalars.ops (exp_of n a)) r.entries × AreMonomialRows m n bound rest rs

-- the element with number i meets P i, for each i
abbrev pub EachIndexIs : {X : Type 0} → (ℕ → X → Type 0) → List X → Type 0
EachIndexIs {X} P xs = (i : ℕ) (x : X) → i < length xs → P i (get_or xs i x)

-- a jet in n variables
pub record IsJetIn {E V : Type 0} (m : Meaning E V) (n : ℕ) (f : JetTerms E) : Type 0 where
  pub jet : IsJet m f
  pub variables : f.n ≡ n

-- the partial of g in variable i, as a jet
pub record IsPartial {E V : Type 0} (m : Meaning E V) (n : ℕ) (g : Polynomial n V) (i : ℕ) (f : JetTerms E) : Type 0 where
  pub jet : IsJetIn m n f
  pub derivative : SameIn n m.scalars.ops (poly_of n m.value f.terms) (derivative_in n m.scalars.ops i g)

-- the partials of g in n variables, in the order of the variables
pub record ArePartials {E V : Type 0} (m : Meaning E V) (n : ℕ) (g : Polynomial n V) (partials : List (JetTerms E)) : Type 0 where
  pub count : length partials ≡ n
  pub each : EachIndexIs (IsPartial m n g) partials

-- the partial derivative of g in some of its variables is high
pub record IsPartialHigh {V : Type 0} (n : ℕ) (s : Scalars V) (g : Polynomial n V) : Type 0 where
  pub variable : ℕ
  pub within : variable < n
  pub high : IsHigh (derivative_heights (exps n) s variable g)
