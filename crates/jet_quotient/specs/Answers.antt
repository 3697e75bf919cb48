-- The basis and the table from the reduced echelon form of the multiples and what is left of each monomial.
use Rattle.std.specs.Prelude.{◌≡◌, ℕ, Bool, false, ◌||◌, not, ◌==◌, List, [], ◌∷◌, map, filter, length, get_or}
use Rattle.std.specs.List.{AllByRecursion}
use Rattle.ring_theory.specs.Scalars.{Meaning}
use Rattle.mono_exp.specs.declared.exponent.Exp.{Exp}
use Rattle.mono_exp.specs.Exponents.{exponents, rank_of}
use Rattle.lin_row.specs.Lines.{IsLine, AllBelow, lead_of, entry}
use Rattle.lin_row.specs.declared.row.Row.{Row}
use Rattle.lin_row.specs.declared.row.Remainder.{Remainder}
use Rattle.jacobian_row.specs.Rows.{EachIndexIs}
use Rattle.jacobian_row.specs.Multipliers.{AreMultipliers}
use Rattle.jacobian_row.specs.declared.multiple.Multiple.{Multiple}
use Rattle.milnor_alg.specs.declared.quotient.TableRow.{TableRow}

-- the number of a monomial
abbrev pub number_of : ℕ → Exp → ℕ
number_of n a = rank_of n (exponents n a.e)

-- a row of the form begins in the column
abbrev pub begins_at : {E : Type 0} → List (Row E) → ℕ → Bool
begins_at [] c = false
begins_at (row ∷ rows) c = (lead_of row.entries == c) || begins_at rows c

-- the monomials in whose columns no row of the form begins
abbrev pub free_of : {E : Type 0} → ℕ → List (Row E) → List Exp → List Exp
free_of n form monomials = filter (λ a. not (begins_at form (number_of n a))) monomials

-- what is left of a monomial, with coefficients of so many multiples
pub record IsReadable {E V : Type 0} (m : Meaning E V) (count : ℕ) (rest : Remainder E) : Type 0 where
  pub line : IsLine m rest.left
  pub coefficients : IsLine m rest.coefficients
  pub within : AllBelow count rest.coefficients

-- the row of the monomial a, from what is left of it
pub record IsRowBy {E V : Type 0} (m : Meaning E V) (n k : ℕ) (multiples : List Multiple) (basis : List Exp) (a : Exp) (rest : Remainder E) (row : TableRow E) : Type 0 where
  pub monomial : row.monomial ≡ a
  pub long : length a.e ≡ 8
  pub values : map m.value row.values ≡ map (λ b. entry m rest.left (number_of n b)) basis
  pub elems : AllByRecursion m.is_elem row.values
  pub multipliers : AreMultipliers n k multiples rest.coefficients row.multipliers

-- rows of the first monomials
abbrev pub AreRowsBy : {E V : Type 0} → Meaning E V → ℕ → ℕ → List Multiple → List Exp → List Exp → List (Remainder E) → List (TableRow E) → Type 0
AreRowsBy {E} m n k multiples basis monomials rests rows = (a : Exp) (s : Remainder E) → EachIndexIs (λ i row. IsRowBy m n k multiples basis (get_or monomials i a) (get_or rests i s) row) rows
