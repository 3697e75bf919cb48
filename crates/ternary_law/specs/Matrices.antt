-- Matrices of three rows and columns, and the linear moves of the first three variables that they give.
use Rattle.std.specs.Prelude.{◌≡◌, ℕ, ◌==◌, nat_lt, if◌then◌else◌, List, [], ◌∷◌, map, get_or}
use Rattle.ring_theory.specs.Rational.{Rational}
use Rattle.ring_theory.specs.Scalars.{Scalars, sum_of}
use Rattle.ext_algebra.specs.declared.algebra.Algebra.{Algebra}
use Rattle.ext_algebra.specs.Algebra.{Value, scalars}
use Rattle.poly_law.specs.Exps.{variable}
use Rattle.poly_law.specs.ExpList.{exps}
use Rattle.poly_law.specs.Polynomials.{Polynomial}
use Rattle.mono_exp.specs.Exponents.{numbers_below}
use Rattle.jet_law.specs.Canonical.{jet}
use Rattle.coord_change.specs.Moves.{Move, variable_of}
use Rattle.coord_change.specs.Carries.{carry}

-- a matrix, by its rows
abbrev pub Matrix : Type 0 → Type 0
Matrix V = List (List V)

-- 0, 1 and 2: the numbers of the variables x, y and z
abbrev pub places : List ℕ
places = 0 ∷ 1 ∷ 2 ∷ []

module _ {V : Type 0} (s : Scalars V) where
  -- the entry in row i and column j
  abbrev pub entry : Matrix V → ℕ → ℕ → V
  entry m i j = get_or (get_or m i []) j s.ops.zero

  -- the matrix with these entries
  abbrev pub matrix_of : (ℕ → ℕ → V) → Matrix V
  matrix_of w = map (λ i. map (w i) places) places

  -- the row that is 1 at i and 0 elsewhere
  abbrev pub unit_row : ℕ → List V
  unit_row i = map (λ j. if i == j then s.ops.one else s.ops.zero) places

  -- the identity matrix
  abbrev pub unit_matrix : Matrix V
  unit_matrix = map unit_row places

  -- the product of two matrices
  unfoldable pub matrix_product : Matrix V → Matrix V → Matrix V
  matrix_product a b = matrix_of (λ i j. sum_of s.ops (map (λ t. s.ops.mul (entry a i t) (entry b t j)) places))

  -- both products with m are the identity matrix, and the rows of the inverse have three entries each, so that m has one inverse
  pub record AreInverse (m inverse : Matrix V) : Type 0 where
    pub right : matrix_product m inverse ≡ unit_matrix
    pub left : matrix_product inverse m ≡ unit_matrix
    pub size : matrix_of (entry inverse) ≡ inverse

  -- row i of m is this one
  abbrev pub with_row : ℕ → List V → Matrix V → Matrix V
  with_row i row m = map (λ k. if k == i then row else get_or m k []) places

  -- the row with these two entries at the places i and j, which differ
  abbrev pub two_in_row : ℕ → V → ℕ → V → List V
  two_in_row i a j b = map (λ k. if k == i then a else (if k == j then b else s.ops.zero)) places

module _ {V : Type 0} (n : ℕ) (s : Scalars V) where
  -- the linear form in the first three variables with these coefficients
  unfoldable pub form_of_row : List V → Polynomial n V
  form_of_row row = jet n s 1 (map (λ j. (variable (exps n) j, get_or row j s.ops.zero)) places)

  -- the linear move of a matrix in n variables: for each of the first three variables the linear form of its row, and each other variable stays
  unfoldable pub linear_move : Matrix V → Move n V
  linear_move m = map (λ i. if nat_lt i 3 then form_of_row (get_or m i []) else variable_of n s i) (numbers_below n)

-- f with the linear move of a matrix substituted
abbrev pub moved : {V : Type 0} (s : Scalars V) → Matrix V → Polynomial 3 V → Polynomial 3 V
moved s m f = carry 3 s 3 (linear_move 3 s m) f

-- a matrix over the rational numbers as one over an algebra
unfoldable pub lifted_matrix : (a : Algebra) → Matrix Rational → Matrix (Value a)
lifted_matrix a m = map (λ row. map (λ q. (scalars a).rational q) row) m
