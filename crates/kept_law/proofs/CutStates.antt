-- The states of the plan at one order and at the next.
use Rattle.std.proofs.Common.{◌≡◌, ℕ, suc, Bool, true, false, nat_lt, if◌then◌else◌, Option, Some, None, List, [], ◌∷◌, ◌++◌, length, map, take, refl, sym, ap, ap₂, subst, ◌∙◌, arith}
use Rattle.ring_theory.specs.Rational.{Rational}
use Rattle.ring_theory.specs.Height.{rational_scalars}
use Rattle.ring_theory.specs.Scalars.{Scalars, ScalarLaws}
use Rattle.ext_algebra.specs.declared.algebra.Algebra.{Algebra}
use Rattle.ext_algebra.specs.declared.algebra.Algebra.TheVariants as algebras
use Rattle.ext_algebra.specs.Algebra.{Value, scalars}
use Rattle.ext_algebra.specs.AlgebraLaws.{algebra_scalar_laws}
use Rattle.poly_law.specs.Polynomials.{Polynomial, HaveNoConstant, coefficient_in, substitute}
use Rattle.jet_law.specs.Canonical.{jet}
use Rattle.germ_law.proofs.Canonical
use Rattle.normal_forms.specs.declared.pattern.Pattern.{Pattern}
use Rattle.kill_law.specs.declared.part.Part.{Part}
use Rattle.kill_law.specs.Table.{row}
use Rattle.coord_change.specs.Moves.{Move, put}
use Rattle.coord_change.specs.Carries.{carry, carry_all}
use Rattle.coord_change.proofs.Canonicals.{jet-jet}
use Rattle.coord_change.proofs.CarryLemmas.{carry_of_same}
use Rattle.move_law.specs.Moves.{made}
use Rattle.move_law.specs.Algebras.{rationals, lifted, lifted_move}
use Rattle.move_law.specs.Binary.{Begun, unknown, past, found}
use Rattle.move_law.specs.Patterns.{pattern_of}
use Rattle.plan_law.specs.Outcomes.{outside}
use Rattle.plan_law.specs.Run.{State, Step, Position, searching, reduced, ends, tests, algebra_of, moves_of, moved, brought, brought_at, carried_by, composing_pieces, split_at, splitting, kill_at, killing, carried_again, found_at, tested, begun, Opens, looking, extending}
use Rattle.kept_law.specs.KeptParts.{HaveNoConstants}
use Rattle.kept_law.specs.PlanStates.{carried_jets, Begin, BeginsWith, no_part, part_found, part_kept, IsNextState, CutPlan}
use Rattle.kept_law.proofs.LiftedStates.{none_lifted, moves_same, states_lifted}

taken : {A : Type 0} (xs ys : List A) → take (length xs) (xs ++ ys) ≡ xs
taken [] ys = refl
taken (x ∷ xs) ys = ap (λ zs. x ∷ zs) (taken xs ys)

without_end : {A : Type 0} (xs : List A) → xs ≡ xs ++ []
without_end [] = refl
without_end (x ∷ xs) = ap (λ zs. x ∷ zs) (without_end xs)

both_ends : {A : Type 0} (xs ys zs : List A) → (xs ++ ys) ++ zs ≡ xs ++ (ys ++ zs)
both_ends [] ys zs = refl
both_ends (x ∷ xs) ys zs = ap (λ rest. x ∷ rest) (both_ends xs ys zs)

mapped_both : {A B : Type 0} (f : A → B) (xs ys : List A) → map f (xs ++ ys) ≡ map f xs ++ map f ys
mapped_both f [] ys = refl
mapped_both f (x ∷ xs) ys = ap (λ rest. f x ∷ rest) (mapped_both f xs ys)

module _ {V : Type 0} (n : ℕ) (s : Scalars V) where
  carry_all_append : (k : ℕ) (ms : List (Move n V)) (m : Move n V) (f : Polynomial n V) → carry_all n s k (ms ++ m ∷ []) f ≡ carry n s k m (carry_all n s k ms f)
  carry_all_append k [] m f = refl
  carry_all_append k (m' ∷ ms) m f = carry_all_append k ms m (carry n s k m' f)

  module _ (l : ScalarLaws s) where
    -- a step to order o + 1, cut at o, is the step to order o
    carry_cut : (o : ℕ) (m : Move n V) → HaveNoConstant n s.ops n (put n s m) → (f g : Polynomial n V) → jet n s o f ≡ g → jet n s o (carry n s (suc o) m f) ≡ carry n s o m g
    unfolding carry
    carry_cut o m low f g e =
        jet-jet n s l o (suc o) (omega arith) (substitute n n s.ops (put n s m) f)
        ∙ carry_of_same n s l o m low f g (λ a d. sym (Canonical.jet_same_to n s l o f a d) ∙ ap (λ z. coefficient_in n s.ops z a) e)

    -- the jets at order o + 1 by moves and further ones, cut at o, begin with those at order o by the moves
    jets_cut : (o : ℕ) (ms more : List (Move n V)) → HaveNoConstants n s ms → (f g : Polynomial n V) → jet n s o f ≡ g
        → take (suc (length ms)) (map (jet n s o) (carried_jets n s (suc o) (ms ++ more) f)) ≡ carried_jets n s o ms g
    jets_cut o [] [] low f g e = ap (λ z. z ∷ []) e
    jets_cut o [] (m ∷ more) low f g e = ap (λ z. z ∷ []) e
    jets_cut o (m ∷ ms) more low f g e = ap₂ (λ z zs. z ∷ zs) e (jets_cut o ms more low.1 (carry n s (suc o) m f) (carry n s o m g) (carry_cut o m low.0 f g e))

module _ (n c : ℕ) (germ : Polynomial n Rational) where
  begin : (a : Algebra) (o : ℕ) (moves more : List (Move n (Value a))) → HaveNoConstants n (scalars a) moves → Begin n c germ a o moves (moves ++ more)
  begin a o moves more low = record {
    same_moves = taken moves more;
    same_jets =
        jets_cut n (scalars a) (algebra_scalar_laws a) o moves more low (jet n (scalars a) (suc o) (lifted a germ)) (jet n (scalars a) o (lifted a germ))
        (jet-jet n (scalars a) (algebra_scalar_laws a) o (suc o) (omega arith) (lifted a germ));
  }

  -- a position whose moves begin with these, and whose jet is what its moves make of the germ
  pub record IsGrown (a : Algebra) (o : ℕ) (moves : List (Move n (Value a))) (at : Position n (Value a)) : Type 0 where
    pub more : List (Move n (Value a))
    pub moves_are : at.moves ≡ moves ++ more
    pub jet_is : at.jet ≡ brought n c germ a o at.moves

  brought_grown : (a : Algebra) (o : ℕ) (moves : List (Move n (Value a))) → IsGrown a o moves (brought_at n c germ a o moves)
  brought_grown a o moves = record { more = []; moves_are = without_end moves; jet_is = refl }

  moved_grown : (a : Algebra) (o : ℕ) (moves : List (Move n (Value a))) (m : Move n (Value a)) (at : Position n (Value a)) → IsGrown a o moves at
      → IsGrown a o moves (moved n (scalars a) o m at)
  moved_grown a o moves m at g = record {
    more = g.more ++ m ∷ [];
    moves_are = ap (λ zs. zs ++ m ∷ []) g.moves_are ∙ both_ends moves g.more (m ∷ []);
    jet_is = ap (carry n (scalars a) o m) g.jet_is ∙ sym (carry_all_append n (scalars a) o at.moves m (jet n (scalars a) o (lifted a germ)));
  }

  split_grown : (a : Algebra) (o : ℕ) (moves : List (Move n (Value a))) → IsGrown a o moves (split_at n c germ a o moves)
  split_grown a o moves = moved_grown a o moves (splitting n c germ a o (brought n c germ a o moves)) (brought_at n c germ a o moves) (brought_grown a o moves)

  kill_grown : (a : Algebra) (o : ℕ) (p : Part) (moves : List (Move n (Value a))) (at : Position n (Value a)) → IsGrown a o moves at → IsGrown a o moves (kill_at n c germ a o p at)
  kill_grown a o p moves at g = step (nat_lt (row p).degree o)
    where
      step : (b : Bool) → IsGrown a o moves (if b then moved n (scalars a) o (killing n c germ a o p at.jet) at else at)
      step true = moved_grown a o moves (killing n c germ a o p at.jet) at g
      step false = g

  again_grown : (a : Algebra) (o : ℕ) (moves : List (Move n Rational)) (m : Move n (Value a)) (at : Position n Rational) → IsGrown rationals o moves at
      → IsGrown a o (map (lifted_move a) moves) (carried_again n c germ a o m at)
  again_grown a o moves m at g = record {
    more = map (lifted_move a) g.more ++ m ∷ [];
    moves_are =
        ap (λ zs. map (lifted_move a) zs ++ m ∷ []) g.moves_are
        ∙ ap (λ zs. zs ++ m ∷ []) (mapped_both (lifted_move a) moves g.more)
        ∙ both_ends (map (lifted_move a) moves) (map (lifted_move a) g.more) (m ∷ []);
    jet_is = refl;
  }

  found_grown : (a : Algebra) (o : ℕ) (moves : List (Move n Rational)) (m : Move n (Value a)) (at : Position n Rational) → IsGrown rationals o moves at
      → IsGrown a o (map (lifted_move a) moves) (found_at n c germ a o m at)
  unfolding scalars
  found_grown algebras.Rational o moves m at g =
      subst (λ ms. IsGrown algebras.Rational o ms (moved n rational_scalars o m at)) (sym (moves_same n moves)) (moved_grown algebras.Rational o moves m at g)
  found_grown (algebras.Quadratic m1 m0) o moves m at g = again_grown (algebras.Quadratic m1 m0) o moves m at g
  found_grown (algebras.Cubic m2 m1 m0) o moves m at g = again_grown (algebras.Cubic m2 m1 m0) o moves m at g
  found_grown (algebras.Tower m2 m1 m0 d) o moves m at g = again_grown (algebras.Tower m2 m1 m0 d) o moves m at g

  -- where a step goes on to a state, this is the next state
  abbrev GoesOn : ℕ → State n → Step n → Type 0
  GoesOn o st (ends outcome pieces) = Unit {0}
  GoesOn o st (tests next f) = IsNextState n c germ o st next f

  tested_next : (a : Algebra) (o : ℕ) (p : Part) (moves : List (Move n (Value a))) (st : State n) → ((next : List (Move n (Value a))) → Begin n c germ a o moves next → BeginsWith n c germ o st (reduced a p next))
      → HaveNoConstants n (scalars a) moves → (at : Position n (Value a)) → IsGrown a (suc o) moves at → GoesOn o st (tested n c germ a (suc o) p at)
  tested_next a o p moves st reached low at g = step (pattern_of n (scalars a) p (suc o) at.jet)
    where
      step : (pattern : Option Pattern)
          → GoesOn o st (elim pattern [ Some pattern ↦ ends (outside pattern (carried_by n c germ a (suc o) at.moves at.jet)) (composing_pieces a (suc o) at.moves) | None ↦ tests (reduced a p at.moves) at.jet ])
      step (Some pattern) = tt
      step None = record { begins = reached at.moves (subst (Begin n c germ a o moves) (sym g.moves_are) (begin a o moves g.more low)); last = g.jet_is }

  begun_next : (o : ℕ) (moves : List (Move n Rational)) → HaveNoConstants n (scalars rationals) moves → (at : Position n Rational) → IsGrown rationals (suc o) moves at → (b : Begun n)
      → GoesOn o (searching moves) (begun n c germ (suc o) at b)
  begun_next o moves low at g unknown = record { begins = no_part (subst (Begin n c germ rationals o moves) (sym g.moves_are) (begin rationals o moves g.more low)); last = g.jet_is }
  begun_next o moves low at g (past pattern m) = tt
  begun_next o moves low at g (found a p m) =
      tested_next a o p (map (lifted_move a) moves) (searching moves) (λ next h. part_found (states_lifted n c germ a o moves) h) (none_lifted n a moves low)
      (found_at n c germ a (suc o) (made n (scalars a) m) at) (found_grown a (suc o) moves (made n (scalars a) m) at g)

  opens_next : (o : ℕ) (st : State n) (step : Step n) → HaveNoConstants n (scalars (algebra_of st)) (moves_of st) → Opens n c germ (suc o) st step → GoesOn o st step
  opens_next o _ _ low (looking {moves = moves} {b = b} begins) =
      begun_next o moves low (split_at n c germ rationals (suc o) moves) (split_grown rationals (suc o) moves) b
  opens_next o _ _ low (extending {a = a} {p = p} {moves = moves}) =
      tested_next a o p moves (reduced a p moves) (λ next h. part_kept h) low
      (kill_at n c germ a (suc o) p (split_at n c germ a (suc o) moves)) (kill_grown a (suc o) p moves (split_at n c germ a (suc o) moves) (split_grown a (suc o) moves))

pub cut_plan : CutPlan
cut_plan n c germ o st next f low opens = opens_next n c germ o st (tests next f) low opens
