-- All steps of the reduction, as they are made and counted.
use Rattle.std.proofs.Common.{◌≡◌, ℕ, zero, suc, ◌+◌, ◌<◌, inl, inr, List, [], ◌∷◌, ◌++◌, map, length, get_or, ap, ◌∙◌, refl, arith}
use Rattle.ring_theory.specs.Scalars.{Scalars, ScalarLaws, HasInverses}
use Rattle.lin_row.specs.Plain.{Among}
use Rattle.move_law.specs.Hessian.{Squares, next_square, next_work, squares_after, squares_work_after}
use Rattle.move_law.specs.Work.{Work}
use Rattle.hessian_rank.specs.Sound.{IsSound}
use Rattle.hessian_rank.proofs.SumOfSquares

-- some of the first list
pub among-left : {A : Type 0} (P : A → Type 0) (xs ys : List A) → Among P xs → Among P (xs ++ ys)
among-left P [] ys h = absurd h
among-left P (x ∷ xs) ys (inl q) = inl q
among-left P (x ∷ xs) ys (inr h) = inr (among-left P xs ys h)

-- some of the second list
pub among-right : {A : Type 0} (P : A → Type 0) (xs ys : List A) → Among P ys → Among P (xs ++ ys)
among-right P [] ys h = h
among-right P (x ∷ xs) ys h = inr (among-right P xs ys h)

module _ {V : Type 0} (n : ℕ) (s : Scalars V) where
  -- one step more
  pub one_more : (k : ℕ) (q : Squares n V) → squares_after n s (k + 1) q ≡ next_square n s (squares_after n s k q)
  one_more k q = ap (λ z. squares_after n s z q) (let e : k + 1 ≡ suc k = omega arith in e) ∙ next k q
    where
      next : (k : ℕ) (q : Squares n V) → squares_after n s (suc k) q ≡ next_square n s (squares_after n s k q)
      next zero q = refl
      next (suc k) q = next k (next_square n s q)

  module _ (P : Work n V → Type 0) where
    -- the operations of a step are among those of all
    pub among_all : (k l : ℕ) → k < l → (q : Squares n V) → Among P (next_work n s (squares_after n s k q)) → Among P (squares_work_after n s l q)
    among_all k zero h q a = absurd (omega arith)
    among_all zero (suc l) h q a = among-left P (next_work n s q) (squares_work_after n s l (next_square n s q)) a
    among_all (suc k) (suc l) h q a = among-right P (next_work n s q) (squares_work_after n s l (next_square n s q)) (among_all k l (omega arith) (next_square n s q) a)

  -- what is sound stays so
  pub all_sound : ScalarLaws s → HasInverses s → (k : ℕ) (q : Squares n V) → IsSound n s q → IsSound n s (squares_after n s k q)
  all_sound laws inverts zero q sound = sound
  all_sound laws inverts (suc k) q sound = all_sound laws inverts k (next_square n s q) (SumOfSquares.next_is n s laws inverts q sound).sound

-- what an element is mapped to is among what all are mapped to
pub among-mapped : {X A : Type 0} (P : A → Type 0) (f : X → A) (xs : List X) (k : ℕ) (d : X) → k < length xs → P (f (get_or xs k d)) → Among P (map f xs)
among-mapped P f [] k d h p = absurd (omega arith)
among-mapped P f (x ∷ xs) zero d h p = inl p
among-mapped P f (x ∷ xs) (suc k) d h p = inr (among-mapped P f xs k d (omega arith) p)
