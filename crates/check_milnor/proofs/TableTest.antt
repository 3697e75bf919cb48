-- The tests of a table joined: what each answer says of the whole.
use Rattle.std.proofs.Common.{◌≡◌, ℕ, ◌<◌, ◌≤◌, Bool, List, [], length, get_or, sum, IsTrue, ◌↔◌, inl, inr, subst, sym}
use Rattle.std.specs.List.{AllByRecursion}
use Rattle.ring_theory.specs.Scalars.{Meaning}
use Rattle.mono_exp.specs.declared.exponent.Exp.{Exp}
use Rattle.jet_law.specs.Terms.{exp_of}
use Rattle.jacobian_row.specs.declared.multiple.Multiple.{Multiple}
use Rattle.milnor_alg.specs.declared.quotient.TableRow.{TableRow}
use Rattle.normal_forms.specs.Monomials.{in_eight}
use Rattle.check_rows.specs.Lists.{list_at}
use Rattle.check_quotient.specs.Tables as images
use Rattle.table_rows.specs.Tables as rows
use Rattle.check_milnor.specs.Milnor.{IsTableOf, IsNumberHigh}

module _ {E V : Type 0} (m : Meaning E V) (n k : ℕ) (partials : List (List (Exp × E))) (multiples : List Multiple) (basis basis' : List Exp) (table table' : List (TableRow E)) (same_basis : basis' ≡ basis) (same_table : table' ≡ table) where
  abbrev Whole : List Exp → List (TableRow E) → Type 0
  Whole bs t = IsTableOf m n k bs partials multiples t

  pub given : Whole basis table → Whole basis' table'
  given h = subst (λ bs. Whole bs table') (sym same_basis) (subst (Whole basis) (sym same_table) h)

  taken : Whole basis' table' → Whole basis table
  taken h = subst (Whole basis) same_table (subst (λ bs. Whole bs table') same_basis h)

  pub joined : AllByRecursion (λ b. sum b.e ≤ k) basis'
      → ((i : ℕ) → i < length basis' → images.IsUnitRow m n table' (length basis') (exp_of n (get_or basis' i (in_eight []))) i)
      → AllByRecursion (images.IsMultipleInKernel m n table' (length basis') k (list_at n m.value partials)) multiples
      → (b : Bool) → IsTrue b ↔ AllByRecursion (rows.IsTableRow m n k basis' (list_at n m.value partials)) table' → IsTrue b ↔ IsTableOf m n k basis partials multiples table
  joined low units kernel b decides = (
    λ t. taken (record { low = low; units = λ i j hi hj. units i hi j hj; kernel = kernel; rows = decides.0 t }),
    λ h. decides.1 (given h).rows,
  )

  pub row_high : rows.AreTableRowsHigh m n k basis' (list_at n m.value partials) table' → IsNumberHigh m n k basis partials multiples table
  row_high h =
      inr (subst (λ t. rows.AreTableRowsHigh m n k basis (list_at n m.value partials) t) same_table
      (subst (λ bs. rows.AreTableRowsHigh m n k bs (list_at n m.value partials) table') same_basis h))

  pub image_high : images.AreImagesHigh m n table' (length basis') k (list_at n m.value partials) multiples → IsNumberHigh m n k basis partials multiples table
  image_high h =
      inl (subst (λ t. images.AreImagesHigh m n t (length basis) k (list_at n m.value partials) multiples) same_table
      (subst (λ bs. images.AreImagesHigh m n table' (length bs) k (list_at n m.value partials) multiples) same_basis h))
