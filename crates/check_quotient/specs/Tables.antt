-- Tables of rows, one for each monomial in n variables: the linear map T that takes a monomial to the values of its row.
use Rattle.std.specs.Prelude.{◌≡◌, ℕ, ◌<◌, List, ◌∷◌, map, length}
use Rattle.std.specs.List.{AllByRecursion}
use Rattle.ring_theory.specs.Scalars.{Meaning, sum_of}
use Rattle.poly_law.specs.Sums.{unit_at}
use Rattle.poly_law.specs.ExpList.{ExpList}
use Rattle.poly_law.specs.Polynomials.{Polynomial}
use Rattle.jet_law.specs.Heights.{IsHigh}
use Rattle.jet_law.specs.Terms.{exp_of}
use Rattle.jacobian_row.specs.Multiples.{product_to}
use Rattle.jacobian_row.specs.Multipliers.{multiple_at}
use Rattle.jacobian_row.specs.declared.multiple.Multiple.{Multiple}
use Rattle.milnor_alg.specs.declared.quotient.TableRow.{TableRow}
use Rattle.milnor_alg.specs.Rows.{values_at}

-- the values of the rows are valid elements
abbrev pub AreValuesIn : {E V : Type 0} → Meaning E V → List (TableRow E) → Type 0
AreValuesIn m table = AllByRecursion (λ row. AllByRecursion m.is_elem row.values) table

module _ {E V : Type 0} (m : Meaning E V) (n : ℕ) (table : List (TableRow E)) where
  -- the value of T at a monomial in place j, counted from 0
  abbrev pub value_in : ExpList n → ℕ → V
  value_in a j = values_at m n table a j

  -- the summands of the value of T at f in place j: each coefficient times the value at its monomial
  abbrev pub image_products : ℕ → Polynomial n V → List V
  image_products j f = map (λ t. m.scalars.ops.mul t.1 (value_in t.0 j)) f

  -- the heights of these products, and of their sum
  abbrev pub product_heights : ℕ → Polynomial n V → List ℕ
  product_heights j f = map (λ t. m.scalars.product_height t.1 (value_in t.0 j)) f

  abbrev pub image_heights : ℕ → Polynomial n V → List ℕ
  image_heights j f = m.scalars.sum_height (image_products j f) ∷ product_heights j f

  -- T is 0 at f in the first `size` places
  abbrev pub IsInKernel : ℕ → Polynomial n V → Type 0
  IsInKernel size f = (j : ℕ) → j < size → sum_of m.scalars.ops (image_products j f) ≡ m.scalars.ops.zero

  -- the value of T at f in one of these places is high
  pub record IsImageHigh (size : ℕ) (f : Polynomial n V) : Type 0 where
    pub place : ℕ
    pub within : place < size
    pub high : IsHigh (image_heights place f)

  -- T is 0 at the multiple x^a * f(i) cut at k
  abbrev pub IsMultipleInKernel : (size k : ℕ) → (ℕ → Polynomial n V) → Multiple → Type 0
  IsMultipleInKernel size k f u = IsInKernel size (product_to n m.scalars.ops k (exp_of n u.factor) (f u.variable))

  -- the value of T at one of the multiples is high
  pub record AreImagesHigh (size k : ℕ) (f : ℕ → Polynomial n V) (multiples : List Multiple) : Type 0 where
    pub at : ℕ
    pub inside : at < length multiples
    pub image : IsImageHigh size (product_to n m.scalars.ops k (exp_of n (multiple_at multiples at).factor) (f (multiple_at multiples at).variable))

  -- the values of T at a are unit vector i in the first `size` places
  abbrev pub IsUnitRow : ℕ → ExpList n → ℕ → Type 0
  IsUnitRow size a i = (j : ℕ) → j < size → value_in a j ≡ unit_at m.scalars.ops i j
