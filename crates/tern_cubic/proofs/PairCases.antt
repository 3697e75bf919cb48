-- The cases of the pair rule, from what the program finds.
use Rattle.std.proofs.Common.{◌≡◌, ◌≢◌, ℕ, Bool, true, false, inl, inr, List, ◌++◌, refl, sym, subst}
use Rattle.std.specs.Bool.{if◌then◌else◌}
use Rattle.ring_theory.specs.Height.{rational_scalars, is_zero_rational}
use Rattle.ring_theory.specs.Rational.{Rational, rational_ops}
use Rattle.ring_theory.specs.Scalars.{Scalars}
use Rattle.ring_theory.proofs.RationalLaws.{zero_test}
use Rattle.ring_law.specs.Fraction.{frac_value, rational_meaning}
use Rattle.ring_law.specs.declared.fraction.Frac.{Frac}
use Rattle.lin_row.specs.Plain.{Among}
use Rattle.ext_algebra.specs.declared.algebra.Algebra.{Algebra}
use Rattle.move_law.specs.Binary.{Question, nothing, quadratic_roots, none, both, IsAnswered}
use Rattle.move_law.specs.Shapes.{nth, over_work}
use Rattle.move_law.specs.Work.{Work, IsWorkHigh}
use Rattle.ternary_law.specs.Pairs.{corner, roots, over_root, monic}
use Rattle.bin_forms.specs.Pairs as lines
use Rattle.bin_forms.specs.declared.pair.Pair.TheVariants as found
use Rattle.tern_cubic.specs.declared.pair.PairCase.TheVariants as cases
use Rattle.tern_cubic.specs.Matrices.{IsMatrix}
use Rattle.tern_cubic.specs.Pairs.{plain_matrix, IsPairCase, IsPairCaseHigh}
use Rattle.tern_cubic.proofs.SteppingLemmas.{among_first, among_last}

abbrev q : Scalars Rational
q = rational_scalars

abbrev AreHigh : (n : ℕ) → List (Work n Rational) → Type 0
AreHigh n = Among (IsWorkHigh n q)

module _ (c : List Rational) where
  abbrev first : Rational
  first = nth q c 0

  -- ---- the first coefficient is 0

  pub corner_answer : (i j : ℕ) (rows : List (List Frac)) → first ≡ rational_ops.zero → nth q c 1 ≢ rational_ops.zero → IsMatrix rational_meaning (plain_matrix c i j corner) rows → IsPairCase c i j (cases.Plain rows)
  corner_answer i j rows zero other is = (corner, tt, (zero, other), is)

  pub no_case : (i j : ℕ) → first ≡ rational_ops.zero → nth q c 1 ≡ rational_ops.zero → IsPairCase c i j cases.Neither
  no_case i j zero gone corner h = h.1 gone
  no_case i j zero gone (roots low high) h = h.0 zero
  no_case i j zero gone over_root h = h.0 zero

  asked : Bool → List (Work 3 Rational)
  asked t = if t then over_work q 3 (nth q c 2) (nth q c 1) else over_work q 3 (nth q c 1) first ++ over_work q 3 (nth q c 2) first

  pub corner_high : first ≡ rational_ops.zero → AreHigh 3 (over_work q 3 (nth q c 2) (nth q c 1)) → IsPairCaseHigh c
  unfolding asked
  corner_high zero h = inl (subst (λ t. AreHigh 3 (asked t)) (sym ((zero_test first).1 zero)) h)

  -- ---- it is not

  question : Bool → Question
  question t = if t then nothing else quadratic_roots (monic c)

  not_zero : first ≢ rational_ops.zero → is_zero_rational first ≡ false
  not_zero h = step (is_zero_rational first) refl
    where
      step : (t : Bool) → is_zero_rational first ≡ t → is_zero_rational first ≡ false
      step true e = absurd (h ((zero_test first).0 e))
      step false e = e

  pub roots_answer : (i j : ℕ) (low high : Frac) (rows : List (List Frac)) → first ≢ rational_ops.zero → lines.IsPair c (found.Roots low high)
      → IsMatrix rational_meaning (plain_matrix c i j (roots (frac_value low) (frac_value high))) rows → IsPairCase c i j (cases.Plain rows)
  unfolding question
  roots_answer i j low high rows other pair is =
      (roots (frac_value low) (frac_value high), tt, (other, subst (λ t. IsAnswered (question t) (both (frac_value low) (frac_value high))) (not_zero other) pair.answered), is)

  pub over_answer : (i j : ℕ) (a : Algebra) → first ≢ rational_ops.zero → lines.IsPair c (found.Over a) → IsPairCase c i j (cases.Over a)
  unfolding question
  over_answer i j a other pair = ((other, subst (λ t. IsAnswered (question t) none) (not_zero other) pair.answered), pair.kind.1)

  pub lines_high : first ≢ rational_ops.zero → lines.IsPairHigh c → IsPairCaseHigh c
  unfolding asked
  lines_high other (inl h) = inl (subst (λ t. AreHigh 3 (asked t)) (sym (not_zero other)) (among_first (IsWorkHigh 3 q) (over_work q 3 (nth q c 1) first) (over_work q 3 (nth q c 2) first) h))
  lines_high other (inr (inl h)) = inl (subst (λ t. AreHigh 3 (asked t)) (sym (not_zero other)) (among_last (IsWorkHigh 3 q) (over_work q 3 (nth q c 1) first) (over_work q 3 (nth q c 2) first) h))
  lines_high other (inr (inr h)) = inr (other, h)
