-- Jets that are substituted for variables, and tables of their powers.
use Rattle.std.specs.Prelude.{◌≡◌, ℕ, ◌<◌, ◌⊎◌, ◌++◌, List, [], ◌∷◌, get_or, length, map, flat_map, All, Contains}
use Rattle.ring_theory.specs.Scalars.{Meaning}
use Rattle.poly_law.specs.Sums.{power}
use Rattle.poly_law.specs.ExpList.{ExpList, exps}
use Rattle.poly_law.specs.Poly.{scale, monomial_of}
use Rattle.poly_law.specs.Polynomials.{Polynomial, poly_in}
use Rattle.mono_exp.specs.Exponents.{IsIn}
use Rattle.mono_exp.specs.declared.exponent.Exp.{Exp}
use Rattle.jet_poly.specs.JetTerms.{JetTerms}
use Rattle.jet_law.specs.Terms.{exp_of, poly_of}
use Rattle.jet_poly.specs.Jets.{IsJet}
use Rattle.jet_subst.specs.Powers.{IsTruncation, IsTruncatedJet}
use Rattle.jet_subst.specs.Substitutions.{Summand, ArePowersOfHigh, IsMultipleHigh}

-- the number of variables of the parts: that of the first, and 0 where there is none
abbrev pub variables_of : {E : Type 0} → List (JetTerms E) → ℕ
variables_of [] = 0
variables_of (p ∷ ps) = p.n

-- jet i of a list, and 0 past its end
abbrev pub jet_at : {E : Type 0} → List (JetTerms E) → ℕ → JetTerms E
jet_at jets i = get_or jets i (record { n = 0; order = 0; terms = [] })

-- the polynomial of jet i of a list, in n variables
abbrev pub part_of : {E V : Type 0} (n : ℕ) → (E → V) → List (JetTerms E) → ℕ → Polynomial n V
part_of n value parts i = poly_of n value (jet_at parts i).terms

-- a jet in n variables
pub record IsPart {E V : Type 0} (m : Meaning E V) (n : ℕ) (p : JetTerms E) : Type 0 where
  pub jet : IsJet m p
  pub variables : p.n ≡ n

-- jet j of the list is p^j cut at k, for each j
abbrev pub ArePowers : {E V : Type 0} (m : Meaning E V) (n k : ℕ) → Polynomial n V → List (JetTerms E) → Type 0
ArePowers m n k p powers = (j : ℕ) → j < length powers → IsTruncatedJet m n k (power (poly_in n m.scalars.ops) p j) (jet_at powers j)

-- row i of the table has powers of part i, cut at k
abbrev pub IsTable : {E V : Type 0} (m : Meaning E V) (n k : ℕ) → List (JetTerms E) → List (List (JetTerms E)) → Type 0
IsTable m n k parts table = (i : ℕ) → i < length table → ArePowers m n k (part_of n m.value parts i) (get_or table i [])

-- the table has the powers that the monomial asks for
abbrev pub HasPowers : {E : Type 0} → List (List (JetTerms E)) → Exp → Type 0
HasPowers table a = (i : ℕ) → i < length table → get_or a.e i 0 < length (get_or table i [])

-- for some term, the powers of the parts that its monomial asks for are high
pub record IsTermHigh {E V : Type 0} (m : Meaning E V) (n k : ℕ) (parts : List (JetTerms E)) (terms : List (Exp × E)) : Type 0 where
  pub term : Exp × E
  pub among : Contains terms term
  pub high : ArePowersOfHigh (exps (length parts)) (exps n) m.scalars k (part_of n m.value parts) (exp_of (length parts) term.0)

-- all is the list of the terms that the first terms of a jet give: the multiples v*φ^a cut at k for its terms v*x^a, one after the other
pub record AreMultiples {E V : Type 0} (m : Meaning E V) (n k : ℕ) (parts : List (JetTerms E)) (front all : List (Exp × E)) : Type 0 where
  pub summands : List (Summand (ExpList (length parts)) (ExpList n) V)
  pub terms : map (λ u. (u.exponent, u.factor)) summands ≡ poly_of (length parts) m.value front
  pub powers : All (λ u. IsTruncation (exps n) m.scalars.ops k (monomial_of (exps (length parts)) (exps n) m.scalars.ops (part_of n m.value parts) u.exponent) u.power) summands
  pub multiples : poly_of n m.value all ≡ flat_map (λ u. scale (exps n) m.scalars.ops u.factor u.power) summands
  pub elems : All (λ t. m.is_elem t.1) all
  pub variables : All (λ t. IsIn n t.0.e) all

-- the terms that are added are those of v*φ^a cut at k, for the term t = v*x^a
pub record AddsMultiples {E V : Type 0} (m : Meaning E V) (n k : ℕ) (parts : List (JetTerms E)) (t : Exp × E) (old new : List (Exp × E)) : Type 0 where
  pub power : Polynomial n V
  pub power_is : IsTruncation (exps n) m.scalars.ops k (monomial_of (exps (length parts)) (exps n) m.scalars.ops (part_of n m.value parts) (exp_of (length parts) t.0)) power
  pub adds : poly_of n m.value new ≡ poly_of n m.value old ++ scale (exps n) m.scalars.ops (m.value t.1) power

-- the multiple v*φ^a is high for the term t = v*x^a, or the powers that it asks for are
pub record IsMultipleAmongHigh {E V : Type 0} (m : Meaning E V) (n k : ℕ) (parts : List (JetTerms E)) (t : Exp × E) : Type 0 where
  pub high : ArePowersOfHigh (exps (length parts)) (exps n) m.scalars k (part_of n m.value parts) (exp_of (length parts) t.0)
      ⊎ ((power : Polynomial n V) × IsTruncation (exps n) m.scalars.ops k (monomial_of (exps (length parts)) (exps n) m.scalars.ops (part_of n m.value parts) (exp_of (length parts) t.0)) power
      × IsMultipleHigh m.scalars (m.value t.1) power)
