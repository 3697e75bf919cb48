-- The answer of the test from what solves or excludes each monomial.
use Rattle.std.specs.Prelude.{◌≡◌, ℕ, ◌<◌, List, map, length, get_or}
use Rattle.std.proofs.Common.{Vec, Global}
use Rattle.std.specs.List.{AllByRecursion}
use Rattle.ring_theory.specs.Scalars.{Meaning}
use Rattle.mono_exp.specs.declared.exponent.Exp.{Exp}
use Rattle.mono_exp.specs.Exponents.{IsIn, exponents, rank_of}
use Rattle.lin_row.specs.Lines.{IsLine, AllBelow, EachOf, dot}
use Rattle.lin_row.specs.System.{combination, dot_at}
use Rattle.lin_row.specs.declared.row.Solution.{Solution}
use Rattle.lin_row.specs.declared.row.Solution.TheVariants.{Solved, Excluded}
use Rattle.jacobian_row.specs.Rows.{EachIndexIs}
use Rattle.jacobian_row.specs.Multipliers.{AreMultipliers}
use Rattle.jacobian_row.specs.declared.multiple.Multiple.{Multiple}
use Rattle.determinacy.specs.declared.row.MatherRow.{MatherRow}
use Rattle.determinacy.specs.declared.row.MatherTest.{MatherTest}
use Rattle.determinacy.specs.declared.row.MatherTest.TheVariants.{Holds, Fails}

-- coefficients x(0), x(1), .. of which some are zero: those that are not, by their numbers, give the same combinations of rows
pub record AreNonzero {E V : Type 0} (m : Meaning E V) (xs : List E) (nonzero : List (ℕ × E)) : Type 0 where
  pub line : IsLine m nonzero
  pub within : AllBelow (length xs) nonzero
  pub same : (rows : List (List (ℕ × E))) (w : ℕ → V) → dot m nonzero (λ j. dot_at m rows j w) ≡ combination m (map m.value xs) rows w

-- the row of the monomial a has the multipliers that the coefficients of the multiples give
pub record IsRowFrom {E V : Type 0} (m : Meaning E V) (n k : ℕ) (multiples : List Multiple) (a : Exp) (xs : List E) (row : MatherRow E) : Type 0 where
  pub monomial : row.monomial ≡ a
  pub long : length a.e ≡ 8
  pub nonzero : List (ℕ × E)
  pub are : AreNonzero m xs nonzero
  pub multipliers : AreMultipliers n k multiples nonzero row.multipliers

-- coefficients for all multiples, or values by numbers below a bound
abbrev pub IsUsable : {E V : Type 0} → Meaning E V → ℕ → ℕ → Solution E → Type 0
IsUsable m count bound (Solved xs) = (length xs.items ≡ count) × EachOf m.is_elem xs.items
IsUsable m count bound (Excluded values) = AllBelow bound values.items

-- the row of a monomial that is solved
abbrev pub IsRowBy : {E V : Type 0} → Meaning E V → ℕ → ℕ → List Multiple → Exp → Solution E → MatherRow E → Type 0
IsRowBy m n k multiples a (Solved xs) row = IsRowFrom m n k multiples a xs.items row
IsRowBy m n k multiples a (Excluded values) row = ⊥

-- rows of the first monomials
abbrev pub AreRowsBy : {E V : Type 0} → Meaning E V → ℕ → ℕ → List Multiple → List Exp → List (Solution E) → List (MatherRow E) → Type 0
AreRowsBy {E} m n k multiples monomials solutions rows = (a : Exp) (s : Solution E) → EachIndexIs (λ i row. IsRowBy m n k multiples (get_or monomials i a) (get_or solutions i s) row) rows

-- values by monomials, from those by their numbers
pub record AreByMonomials {E : Type 0} (n : ℕ) (values : List (ℕ × E)) (functional : List (Exp × E)) : Type 0 where
  pub numbers : map (λ t. (rank_of n (exponents n t.0.e), t.1)) functional ≡ values
  pub unused : AllByRecursion (λ t. IsIn n t.0.e) functional
  pub long : AllByRecursion (λ t. length t.0.e ≡ 8) functional

-- the failure at the monomial a with these values, by their numbers
abbrev pub IsFailureFrom : {E : Type 0} → ℕ → Exp → List (ℕ × E) → MatherTest E → Type 0
IsFailureFrom n a values (Holds rows) = ⊥
IsFailureFrom n a values (Fails functional at) = (at ≡ a) × (length a.e ≡ 8) × AreByMonomials n values functional

-- the failure at one of the monomials, with the values that exclude it
pub record IsFailureBy {E : Type 0} (n : ℕ) (monomials : List Exp) (solutions : List (Solution E)) (functional : List (Exp × E)) (at : Exp) : Type 0 where
  pub place : ℕ
  pub within : place < length solutions
  pub values : Vec (ℕ × E) Global
  pub excluded : (s : Solution E) → get_or solutions place s ≡ Excluded values
  pub at_is : (a : Exp) → at ≡ get_or monomials place a
  pub failure : IsFailureFrom n at values.items (Fails functional at)

-- the rows of all monomials, or the functional that excludes one of them
abbrev pub IsAnswerBy : {E V : Type 0} → Meaning E V → ℕ → ℕ → List Multiple → List Exp → List (Solution E) → MatherTest E → Type 0
IsAnswerBy m n k multiples monomials solutions (Holds rows) = (length rows ≡ length solutions) × AreRowsBy m n k multiples monomials solutions rows
IsAnswerBy m n k multiples monomials solutions (Fails functional at) = IsFailureBy n monomials solutions functional at
