-- Square matrices: vectors that they take to 0, their inverses, and the plain row reduction that gives these.
use Rattle.std.specs.Prelude.{◌≡◌, ◌≢◌, ℕ, ◌+◌, ◌<◌, cond, ltb, List, [], length, map, get_or, All}
use Rattle.std.specs.List.{range_with_len}
use Rattle.ring_theory.specs.Ring.{RingOps}
use Rattle.ring_theory.specs.Scalars.{Scalars, Meaning}
use Rattle.poly_law.specs.Sums.{sum_to, unit_at}
use Rattle.lin_row.specs.Lines.{dot}
use Rattle.lin_row.specs.Plain.{ReductionIsHigh}

-- entry i of the matrix w with n columns times the column x: w(i, 0)*x(0) + .. + w(i, n - 1)*x(n - 1)
abbrev pub image_at : {V : Type 0} → RingOps V → ℕ → (ℕ → ℕ → V) → (ℕ → V) → ℕ → V
image_at r n w x i = sum_to r n (λ d. r.mul (w i d) (x d))

-- a is the inverse of the matrix w with n rows, on both sides
pub record IsInverseMatrix {V : Type 0} (r : RingOps V) (n : ℕ) (w a : ℕ → ℕ → V) : Type 0 where
  pub left : (i k : ℕ) → i < n → k < n → sum_to r n (λ j. r.mul (a i j) (w j k)) ≡ unit_at r i k
  pub right : (i k : ℕ) → i < n → k < n → sum_to r n (λ j. r.mul (w i j) (a j k)) ≡ unit_at r i k

-- v is a vector of n valid elements, not all zero, which the matrix w with n rows takes to 0
pub record IsInKernel {E V : Type 0} (m : Meaning E V) (n : ℕ) (w : ℕ → ℕ → V) (v : List E) : Type 0 where
  pub count : length v ≡ n
  pub elems : All m.is_elem v
  pub kernel : (i : ℕ) → i < n → image_at m.scalars.ops n w (λ d. get_or (map m.value v) d m.scalars.ops.zero) i ≡ m.scalars.ops.zero
  pub place : ℕ
  pub inside : place < n
  pub other : get_or (map m.value v) place m.scalars.ops.zero ≢ m.scalars.ops.zero

-- the matrix w with n rows takes no vector but 0 to 0
abbrev pub HasNoKernel : {V : Type 0} → RingOps V → ℕ → (ℕ → ℕ → V) → Type 0
HasNoKernel {V} r n w = (x : ℕ → V) → ((i : ℕ) → i < n → image_at r n w x i ≡ r.zero) → (d : ℕ) → d < n → x d ≡ r.zero

-- row i of the matrix w with n columns, with 1 in a column of its own behind these, the column n + i
abbrev pub extended_row : {V : Type 0} → RingOps V → ℕ → (ℕ → ℕ → V) → ℕ → ℕ → V
extended_row r n w i d = cond (ltb d n) (w i d) (unit_at r (n + i) d)

-- the height of the plain row reduction of the rows of the matrix w with n rows is 2^120 or more; the rows' own columns become its inverse
abbrev pub InverseIsHigh : {V : Type 0} → Scalars V → ℕ → (ℕ → ℕ → V) → Type 0
InverseIsHigh s n w = ReductionIsHigh s n (map (extended_row s.ops n w) (range_with_len 0 n))

-- the rows of the matrix w with n rows, by their entries: row i is w(i, 0)*x(0) + .. + w(i, n - 1)*x(n - 1)
pub record AreMatrixRows {E V : Type 0} (m : Meaning E V) (n : ℕ) (w : ℕ → ℕ → V) (rows : List (List (ℕ × E))) : Type 0 where
  pub count : length rows ≡ n
  pub form : (i : ℕ) → i < n → (x : ℕ → V) → dot m (get_or rows i []) x ≡ image_at m.scalars.ops n w x i

-- the same with 1 in a column of its own in each row, the column n + i
pub record AreExtendedRows {E V : Type 0} (m : Meaning E V) (n : ℕ) (w : ℕ → ℕ → V) (rows : List (List (ℕ × E))) : Type 0 where
  pub count : length rows ≡ n
  pub form : (i : ℕ) → i < n → (x : ℕ → V) → dot m (get_or rows i []) x ≡ m.scalars.ops.add (image_at m.scalars.ops n w x i) (x (n + i))
