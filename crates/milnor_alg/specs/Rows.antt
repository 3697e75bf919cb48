-- The monomials of a basis by number, and the rows of a table by their monomials.
use Rattle.std.specs.Prelude.{ℕ, List, [], find, get_or, map, unwrap_or}
use Rattle.ring_theory.specs.Scalars.{Meaning}
use Rattle.poly_law.specs.Exps.{same}
use Rattle.poly_law.specs.ExpList.{ExpList, exps}
use Rattle.mono_exp.specs.declared.exponent.Exp.{Exp}
use Rattle.jet_law.specs.Terms.{exp_of}
use Rattle.milnor_alg.specs.declared.quotient.TableRow.{TableRow}

-- the monomials of a basis, by number
abbrev pub basis_at : (n : ℕ) → List Exp → ℕ → ExpList n
basis_at n basis j = exp_of n (get_or basis j (record { e = [] }))

-- a row of no monomial
abbrev pub no_row : {E : Type 0} → TableRow E
no_row = record { monomial = record { e = [] }; values = []; multipliers = [] }

-- the row of a monomial in n variables: the first one that stands for it
abbrev pub row_of : {E : Type 0} → (n : ℕ) → List (TableRow E) → ExpList n → TableRow E
row_of n table a = unwrap_or (find (λ row. same (exps n) (exp_of n row.monomial) a) table) no_row

-- the values of a monomial, one for each monomial of the basis: those of its row
abbrev pub values_at : {E V : Type 0} → Meaning E V → (n : ℕ) → List (TableRow E) → ExpList n → ℕ → V
values_at m n table b j = get_or (map m.value (row_of n table b).values) j m.scalars.ops.zero
