-- Rows of a table by their monomials, and the values that are read of them.
use Rattle.std.proofs.Common.{◌≡◌, ℕ, zero, suc, ◌<◌, ◌≤◌, Bool, List, [], map, length, get_or, refl, sym, ap, subst, ◌∙◌}
use Rattle.std.specs.Prelude.{unwrap_or}
use Rattle.std.specs.List.{position_or_len}
use Rattle.std.proofs.lemmas.List.{length-map, get_or-map, get_or_default}
use Rattle.std.proofs.lemmas.List.Folds.{find_at}
use Rattle.std.proofs.lemmas.Option.{unwrap_or-slice_get}
use Rattle.std.proofs.Math.ListN.{get_or-eq_default}
use Rattle.ring_theory.specs.Scalars.{Meaning}
use Rattle.poly_law.specs.Exps.{same}
use Rattle.poly_law.specs.ExpList.{ExpList, exps}
use Rattle.jet_law.specs.Terms.{exp_of}
use Rattle.milnor_alg.specs.declared.quotient.TableRow.{TableRow}
use Rattle.milnor_alg.specs.Rows.{no_row, row_of}
use Rattle.check_quotient.specs.Tables.{value_in}

-- what holds of an element holds of it however it is read
pub read_as : {X : Type 0} (P : X → Type 0) (xs : List X) (i : ℕ) (d e : X) → i < length xs → P (get_or xs i d) → P (get_or xs i e)
read_as P xs i d e h holds = subst P (get_or_default xs i d e h) holds

nothing : {V : Type 0} (j : ℕ) (z : V) → get_or [] j z ≡ z
nothing zero z = refl
nothing (suc j) z = refl

module _ {E V : Type 0} (m : Meaning E V) (n : ℕ) (table : List (TableRow E)) (a : ExpList n) where
  abbrev p : TableRow E → Bool
  p row = same (exps n) (exp_of n row.monomial) a

  abbrev of_row : ℕ → TableRow E → V
  of_row j row = get_or (map m.value row.values) j m.scalars.ops.zero

  -- the row of a monomial stands at the place of the first that has it
  pub row_at : (i : ℕ) → i ≡ position_or_len (λ row. same (exps n) (exp_of n row.monomial) a) table → row_of n table a ≡ get_or table i no_row
  row_at i e = ap (λ o. unwrap_or o no_row) (find_at p table) ∙ unwrap_or-slice_get table (position_or_len p table) no_row ∙ ap (λ k. get_or table k no_row) (sym e)

  row_read : (i : ℕ) (row : TableRow E) → i ≡ position_or_len (λ row. same (exps n) (exp_of n row.monomial) a) table → i < length table → row ≡ get_or table i row → row_of n table a ≡ row
  row_read i row e h is = row_at i e ∙ get_or_default table i no_row row h ∙ sym is

  -- where no row has it the values are 0
  pub value_past : (i j : ℕ) → i ≡ position_or_len (λ row. same (exps n) (exp_of n row.monomial) a) table → length table ≤ i → value_in m n table a j ≡ m.scalars.ops.zero
  value_past i j e h = ap (of_row j) (row_at i e ∙ get_or-eq_default table no_row h) ∙ nothing j m.scalars.ops.zero

  -- past the values of a row they are 0
  pub value_short : (i j : ℕ) (row : TableRow E) → i ≡ position_or_len (λ row. same (exps n) (exp_of n row.monomial) a) table → i < length table → row ≡ get_or table i row → length row.values ≤ j
      → value_in m n table a j ≡ m.scalars.ops.zero
  value_short i j row e h is short = ap (of_row j) (row_read i row e h is) ∙ get_or-eq_default (map m.value row.values) m.scalars.ops.zero (subst (λ l. l ≤ j) (sym (length-map row.values m.value)) short)

  -- and else they are those of the row
  pub value_read : (i j : ℕ) (row : TableRow E) (x : E) → i ≡ position_or_len (λ row. same (exps n) (exp_of n row.monomial) a) table → i < length table → row ≡ get_or table i row → j < length row.values
      → x ≡ get_or row.values j x → m.value x ≡ value_in m n table a j
  value_read i j row x e h is within read = ap m.value read ∙ sym (get_or-map m.value row.values j x m.scalars.ops.zero within) ∙ sym (ap (of_row j) (row_read i row e h is))
