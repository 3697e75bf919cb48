-- Steps one after the other: what the rest does from where the first ones have come.
use Rattle.std.proofs.Common.{◌≡◌, ◌≢◌, ℕ, zero, suc, ◌+◌, ◌<◌, ◌≤◌, inl, inr, Option, Some, None, List, [], ◌∷◌, ◌++◌, map, length, get_or, drop, refl, ap, subst, ◌∙◌, arith}
use Rattle.ring_theory.specs.Scalars.{Scalars, ScalarLaws, Meaning}
use Rattle.poly_law.specs.Polynomials.{Polynomial}
use Rattle.lin_row.specs.Lines.{EachOf}
use Rattle.lin_row.specs.Plain.{Among}
use Rattle.move_law.specs.Work.{Work, IsWorkHigh}
use Rattle.ternary_law.specs.Matrices.{Matrix, matrix_product, moved}
use Rattle.ternary_law.specs.Routes.{Step, matrix_after, divisors, work_after}
use Rattle.std.proofs.Math.Seq.{drop-cons}
use Rattle.tern_cubic.specs.declared.stepping.Step as program
use Rattle.tern_cubic.specs.declared.stepping.Step.TheVariants as programs
use Rattle.tern_cubic.specs.Stepping.{step_of}
use Rattle.tern_cubic.specs.declared.moving.Moving.{Moving}
use Rattle.tern_cubic.specs.Moving.{IsSingular, IsMoving, AfterMatrix, AfterSteps, advancing_work}
use Rattle.tern_cubic.proofs.Inverses3

-- ---- lists

drop_all : {X : Type 0} (xs : List X) (i : ℕ) → length xs ≤ i → drop i xs ≡ []
drop_all [] zero h = refl
drop_all [] (suc i) h = refl
drop_all (x ∷ xs) zero h = absurd (omega arith)
drop_all (x ∷ xs) (suc i) h = drop_all xs i (omega arith)

pub among_first : {X : Type 0} (P : X → Type 0) (xs ys : List X) → Among P xs → Among P (xs ++ ys)
among_first P [] ys h = absurd h
among_first P (x ∷ xs) ys (inl h) = inl h
among_first P (x ∷ xs) ys (inr h) = inr (among_first P xs ys h)

pub among_last : {X : Type 0} (P : X → Type 0) (xs ys : List X) → Among P ys → Among P (xs ++ ys)
among_last P [] ys h = h
among_last P (x ∷ xs) ys h = inr (among_last P xs ys h)

pub each_first : {X : Type 0} (P : X → Type 0) (xs ys : List X) → EachOf P (xs ++ ys) → EachOf P xs
each_first P [] ys h = tt
each_first P (x ∷ xs) ys h = (h.0, each_first P xs ys h.1)

pub each_last : {X : Type 0} (P : X → Type 0) (xs ys : List X) → EachOf P (xs ++ ys) → EachOf P ys
each_last P [] ys h = h
each_last P (x ∷ xs) ys h = each_last P xs ys h.1

pub each_both : {X : Type 0} (P : X → Type 0) (xs ys : List X) → EachOf P xs → EachOf P ys → EachOf P (xs ++ ys)
each_both P [] ys h k = k
each_both P (x ∷ xs) ys h k = (h.0, each_both P xs ys h.1 k)

pub placed : {X : Type 0} (P : X → Type 0) (ws : List X) (i c k : X) → Among P (i ∷ c ∷ k ∷ []) → Among P ((ws ++ (i ∷ [])) ++ (c ∷ k ∷ []))
placed P ws i c k (inl h) = among_first P (ws ++ (i ∷ [])) (c ∷ k ∷ []) (among_last P ws (i ∷ []) (inl h))
placed P ws i c k (inr h) = among_last P (ws ++ (i ∷ [])) (c ∷ k ∷ []) h

module _ {E V : Type 0} (m : Meaning E V) where
  -- from the matrix a and the cubic g all steps lead where the rest leads from here on
  pub record Stands (steps rest : List (Step V)) (a : Matrix V) (g : Polynomial 3 V) (way : Moving E) : Type 0 where
    pub matrix : Matrix V
    pub cubic : Polynomial 3 V
    pub is : IsMoving m matrix cubic way
    pub after : (r : Option (Moving E)) → AfterSteps m rest matrix cubic r → AfterSteps m steps a g r
    pub high : Among (IsWorkHigh 3 m.scalars) (work_after m.scalars matrix rest cubic) → Among (IsWorkHigh 3 m.scalars) (work_after m.scalars a steps g)

module _ {E V : Type 0} (m : Meaning E V) (laws : ScalarLaws m.scalars) where
  abbrev s : Scalars V
  s = m.scalars

  abbrev IsOther : V → Type 0
  IsOther d = d ≢ s.ops.zero

  abbrev AreHigh : List (Work 3 V) → Type 0
  AreHigh = Among (IsWorkHigh 3 s)

  -- after a singular matrix all further ones are singular
  pub singular_steps : (steps : List (Step V)) (a : Matrix V) (g : Polynomial 3 V) → IsSingular s a → IsSingular s (matrix_after s a steps g)
  singular_steps [] a g h = h
  singular_steps (step ∷ steps) a g h = singular_steps steps (matrix_product s a (step.matrix g)) (moved s (step.matrix g) g) (Inverses3.singular_before s laws a (step.matrix g) h)

  pub stands_first : (steps : List (Step V)) (a : Matrix V) (g : Polynomial 3 V) (way : Moving E) → IsMoving m a g way → Stands m steps steps a g way
  stands_first steps a g way is = record { matrix = a; cubic = g; is = is; after = λ r h. h; high = λ h. h }

  -- the steps are done
  pub done : (steps : List (Step V)) (a : Matrix V) (g : Polynomial 3 V) (way : Moving E) → Stands m steps [] a g way → AfterSteps m steps a g (Some way)
  done steps a g way h = h.after (Some way) (h.is, tt)

  module _ (steps rest : List (Step V)) (step : Step V) (a : Matrix V) (g : Polynomial 3 V) (way : Moving E) (h : Stands m steps (step ∷ rest) a g way) where
    -- a divisor of the next step is zero
    pub impossible : (EachOf IsOther (step.divisors h.cubic) → ⊥) → AfterSteps m steps a g None
    impossible none = h.after None (λ all. absurd (none (each_first IsOther (step.divisors h.cubic) (divisors s rest (moved s (step.matrix h.cubic) h.cubic)) all)))

    -- the matrix of the next step is singular
    pub no_matrix : AfterMatrix m (matrix_product s h.matrix (step.matrix h.cubic)) (moved s (step.matrix h.cubic) h.cubic) None → AfterSteps m steps a g None
    no_matrix singular = h.after None (λ all. singular_steps rest (matrix_product s h.matrix (step.matrix h.cubic)) (moved s (step.matrix h.cubic) h.cubic) singular)

    -- the next step is made
    pub stands_next : (next : Moving E) → EachOf IsOther (step.divisors h.cubic) → IsMoving m (matrix_product s h.matrix (step.matrix h.cubic)) (moved s (step.matrix h.cubic) h.cubic) next
        → Stands m steps rest a g next
    stands_next next possible is = record {
      matrix = matrix_product s h.matrix (step.matrix h.cubic);
      cubic = moved s (step.matrix h.cubic) h.cubic;
      is = is;
      after = λ r k. h.after r (through r k);
      high = λ k. h.high (among_last (IsWorkHigh 3 s) _ (work_after s (matrix_product s h.matrix (step.matrix h.cubic)) rest (moved s (step.matrix h.cubic) h.cubic)) k);
    }
      where
        through : (r : Option (Moving E)) → AfterSteps m rest (matrix_product s h.matrix (step.matrix h.cubic)) (moved s (step.matrix h.cubic) h.cubic) r → AfterSteps m (step ∷ rest) h.matrix h.cubic r
        through (Some w) k = (k.0, each_both IsOther (step.divisors h.cubic) (divisors s rest (moved s (step.matrix h.cubic) h.cubic)) possible k.1)
        through None k = λ all. k (each_last IsOther (step.divisors h.cubic) (divisors s rest (moved s (step.matrix h.cubic) h.cubic)) all)

    -- an operation of its formulas is high
    pub formulas_high : AreHigh (step.works h.cubic) → AreHigh (work_after s a steps g)
    formulas_high k = h.high (among_first (IsWorkHigh 3 s) _ (work_after s (matrix_product s h.matrix (step.matrix h.cubic)) rest (moved s (step.matrix h.cubic) h.cubic))
        (among_first (IsWorkHigh 3 s) _ _ (among_first (IsWorkHigh 3 s) (step.works h.cubic) _ k)))

    -- an operation of its move is high
    pub advancing_high : AreHigh (advancing_work s h.matrix (step.matrix h.cubic) h.cubic) → AreHigh (work_after s a steps g)
    advancing_high k = h.high (among_first (IsWorkHigh 3 s) _ (work_after s (matrix_product s h.matrix (step.matrix h.cubic)) rest (moved s (step.matrix h.cubic) h.cubic))
        (placed (IsWorkHigh 3 s) (step.works h.cubic) _ _ _ k))

  -- a step of the program, with those after it
  pub at_step : (all : List program.Step) (i : ℕ) (a : Matrix V) (g : Polynomial 3 V) (way : Moving E) → i < length all → Stands m (map (step_of s) all) (map (step_of s) (drop i all)) a g way
      → Stands m (map (step_of s) all) (step_of s (get_or all i programs.Node) ∷ map (step_of s) (drop (i + 1) all)) a g way
  at_step all i a g way h =
      subst (λ rest. Stands m (map (step_of s) all) rest a g way) (ap (map (step_of s)) (rest_is all i h))
    where
      rest_is : (all : List program.Step) (i : ℕ) → i < length all → drop i all ≡ get_or all i programs.Node ∷ drop (i + 1) all
      rest_is all i h = drop-cons all i programs.Node h ∙ ap (λ k. get_or all i programs.Node ∷ drop k all) (let e : suc i ≡ i + 1 = omega arith in e)

  -- the steps are at their end
  pub at_end : (all : List program.Step) (i : ℕ) (a : Matrix V) (g : Polynomial 3 V) (way : Moving E) → length all ≤ i → Stands m (map (step_of s) all) (map (step_of s) (drop i all)) a g way
      → AfterSteps m (map (step_of s) all) a g (Some way)
  at_end all i a g way h stands = done (map (step_of s) all) a g way (subst (λ rest. Stands m (map (step_of s) all) rest a g way) (ap (map (step_of s)) (drop_all all i h)) stands)
