-- The kernel of rows by the number of vectors of its basis.
use Rattle.std.proofs.Common.{◌≡◌, ◌≢◌, ℕ, zero, suc, ◌<◌, ◌≤◌, List, [], ◌∷◌, map, length, get_or, refl, sym, ap, subst, arith}
use Rattle.ring_theory.specs.Rational.{Rational, rational_ops}
use Rattle.ring_theory.proofs.RationalLaws.{rational_scalar_laws}
use Rattle.ring_law.specs.Fraction.{rational_meaning}
use Rattle.ring_law.specs.declared.fraction.Frac.{Frac}
use Rattle.lin_row.specs.Lines.{IsLine, AllBelow, EachOf, entry}
use Rattle.lin_row.specs.Rows.{rows_of}
use Rattle.lin_row.specs.Forms.{IsReducedForm, IsKernelBasis, IsKernelVector}
use Rattle.lin_row.specs.declared.row.Row.{Row}
use Rattle.ternary_law.specs.Linear.{HasRank, HasNoKernel, HasKernelPlane}
use Rattle.ternary_law.proofs.Forms
use Rattle.tern_cubic.specs.Kernels.{IsKernel}
use Rattle.tern_cubic.specs.declared.kernel.Kernel.TheVariants as kernels

-- the number of rows
pub count_of : (rows : List (Row Frac)) → length (rows_of rows) ≡ length rows
count_of [] = refl
count_of (r ∷ rows) = ap suc (count_of rows)

-- not 0 and at most 1
pub one_of : (k l n : ℕ) → k ≡ n → l ≡ n → (k ≡ 0 → ⊥) → l ≤ 1 → n ≡ 1
one_of k l zero e q other h = absurd (other e)
one_of k l (suc zero) e q other h = refl
one_of k l (suc (suc n)) e q other h = absurd (omega arith)

module _ (n : ℕ) (given : List (List (ℕ × Frac))) (below : EachOf (AllBelow n) given) where
  abbrev functions : List (ℕ → Rational)
  functions = map (entry rational_meaning) given

  nontrivial : rational_ops.one ≢ rational_ops.zero
  nontrivial = rational_scalar_laws.nontrivial

  -- no vector
  pub none_left : (vectors : List (Row Frac)) → length vectors ≡ 0 → IsKernelBasis rational_meaning given n (rows_of vectors) → HasNoKernel rational_ops n functions
  none_left [] e k = Forms.kernel_none rational_meaning rational_scalar_laws.ring n given below k
  none_left (v ∷ vs) e k = absurd (omega arith)

  -- two vectors or more
  pub more_left : (vectors : List (Row Frac)) → 1 < length vectors → IsKernelBasis rational_meaning given n (rows_of vectors) → HasKernelPlane rational_ops n functions
  more_left [] h k = absurd (omega arith)
  more_left (v ∷ []) h k = absurd (omega arith)
  more_left (u ∷ v ∷ vs) h k = Forms.kernel_more rational_meaning rational_scalar_laws.ring n given below u.entries v.entries (rows_of vs) k

  -- the vectors of a basis are lines
  first_line : (v : List (ℕ × Frac)) (vs : List (List (ℕ × Frac))) (basis all : List (ℕ × List (ℕ × Frac))) → map (λ b. b.1) basis ≡ v ∷ vs
      → EachOf (λ b. IsKernelVector rational_meaning given all b.0 b.1) basis → IsLine rational_meaning v
  first_line v vs [] all e each = absurd (cc e)
  first_line v vs (b ∷ bs) all e each = subst (IsLine rational_meaning) (let h : b.1 ∷ map (λ b. b.1) bs ≡ v ∷ vs = e in cc h) each.0.line

  -- one vector
  pub one_left : (vectors : List (Row Frac)) (v : Row Frac) → length vectors ≡ 1 → v ≡ get_or vectors 0 v → IsKernelBasis rational_meaning given n (rows_of vectors)
      → IsKernel n functions (kernels.Line v)
  one_left [] v e here k = absurd (omega arith)
  one_left (u ∷ []) v e here k = subst (λ z. IsKernel n functions (kernels.Line z)) (sym here)
      (first_line u.entries [] k.basis k.basis k.vectors_are k.each, Forms.kernel_one rational_meaning rational_scalar_laws.ring n given below u.entries nontrivial k)
  one_left (u ∷ w ∷ vs) v e here k = absurd (omega arith)

  -- the number of rows of the reduced echelon form
  pub rank_is : (rows : List (Row Frac)) → IsReducedForm rational_meaning given (rows_of rows) → HasRank rational_ops n functions (length rows)
  rank_is rows h = subst (HasRank rational_ops n functions) (count_of rows) (Forms.rank_of_form rational_meaning rational_scalar_laws.ring n given below nontrivial (rows_of rows) h)
