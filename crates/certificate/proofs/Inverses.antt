-- Values of elements with their inverses.
use Rattle.std.proofs.Common.{◌≡◌, ◌≢◌, ℕ, zero, suc, ◌<◌, ◌≤◌, inl, inr, Bool, true, false, not, ◌&&◌, ◌+◌, take, take_all, ap₂, List, [], ◌∷◌, map, length, get_or, refl, sym, ap, subst, ◌∙◌, arith, true≢false}
use Rattle.std.specs.Prelude.{IsTrue, ◌↔◌, Option, Some, None, MatchOption, IfSome, IsSome}
use Rattle.std.specs.List.{list_all}
use Rattle.std.proofs.lemmas.List.Folds.{list_all-map, list_all_at, list_all_more}
use Rattle.ring_theory.specs.Scalars.{Scalars, ScalarLaws, Meaning}
use Rattle.lin_row.specs.Plain.{Among}

-- what holds of an element of a list holds of one among its images
pub among_image : {X Y : Type 0} (P : Y → Type 0) (f : X → Y) (xs : List X) (i : ℕ) (d : X) → i < length xs → P (f (get_or xs i d)) → Among P (map f xs)
among_image P f [] i d h p = absurd (omega arith)
among_image P f (x ∷ xs) zero d h p = inl p
among_image P f (x ∷ xs) (suc i) d h p = inr (among_image P f xs i d (omega arith) p)

-- an element that is not 0 has an inverse
pub has_inverse : {E V : Type 0} (s : Scalars V) → ScalarLaws s → (o : Option E) (v : V) → s.is_zero v ≡ false → MatchOption o (v ≡ s.ops.zero) (λ x. v ≢ s.ops.zero) → IsSome o
has_inverse s laws None v unit is = absurd (true≢false (sym ((laws.zero_test v).1 is) ∙ unit))
has_inverse s laws (Some x) v unit is = refl

-- the inverse that was found
pub inverse_is : {E V : Type 0} (value : E → V) (o : Option E) (x : E) (v : V) → o ≡ Some x → IfSome o (λ y. value y ≡ v) → value x ≡ v
inverse_is value o x v e h = subst (λ o. IfSome o (λ y. value y ≡ v)) e h

pub inverse_valid : {E : Type 0} (P : E → Type 0) (o : Option E) (x : E) → o ≡ Some x → IfSome o P → P x
inverse_valid P o x e h = subst (λ o. IfSome o P) e h

-- ---- the test whether none is 0

module _ {E V : Type 0} (m : Meaning E V) where
  abbrev is_unit : E → Bool
  is_unit x = not (m.scalars.is_zero (m.value x))

  pub units_more : (xs : List E) (i : ℕ) (x : E) → i < length xs → x ≡ get_or xs i x → m.scalars.is_zero (m.value x) ≡ false → list_all is_unit (take i xs) ≡ true → list_all is_unit (take (i + 1) xs) ≡ true
  units_more xs i x h e z so_far = list_all_more is_unit xs i x h ∙ ap₂ ◌&&◌ so_far (ap is_unit (sym e) ∙ ap not z)

  pub found_zero : (xs : List E) (i : ℕ) (x : E) → i < length xs → x ≡ get_or xs i x → m.scalars.is_zero (m.value x) ≡ true → false ≡ list_all (λ v. not (m.scalars.is_zero v)) (map m.value xs)
  found_zero xs i x h e z = sym (list_all-map (λ v. not (m.scalars.is_zero v)) m.value xs ∙ list_all_at is_unit xs i x h (ap is_unit (sym e) ∙ ap not z))

  pub all_units : (xs : List E) (i : ℕ) → length xs ≤ i → list_all is_unit (take i xs) ≡ true → true ≡ list_all (λ v. not (m.scalars.is_zero v)) (map m.value xs)
  all_units xs i h so_far = sym (list_all-map (λ v. not (m.scalars.is_zero v)) m.value xs ∙ ap (list_all is_unit) (sym (take_all i xs h)) ∙ so_far)

  -- each of them is not 0
  pub unit_at : (xs : List E) (i : ℕ) (x : E) → i < length xs → x ≡ get_or xs i x → list_all (λ v. not (m.scalars.is_zero v)) (map m.value xs) ≡ true → m.scalars.is_zero (m.value x) ≡ false
  unit_at xs i x h e all = step (m.scalars.is_zero (m.value x)) refl
    where
      step : (b : Bool) → m.scalars.is_zero (m.value x) ≡ b → m.scalars.is_zero (m.value x) ≡ false
      step true q = absurd (true≢false (sym all ∙ sym (found_zero xs i x h e q)))
      step false q = q

  -- an element that is equal to one of value 0
  pub is_zero_by : ScalarLaws m.scalars → (x z : E) (b : Bool) → (IsTrue b ↔ (m.value x ≡ m.value z)) → m.value z ≡ m.scalars.ops.zero → m.scalars.is_zero (m.value x) ≡ b
  is_zero_by laws x z true equal none = (laws.zero_test (m.value x)).1 (equal.0 refl ∙ none)
  is_zero_by laws x z false equal none = step (m.scalars.is_zero (m.value x)) refl
    where
      step : (b : Bool) → m.scalars.is_zero (m.value x) ≡ b → m.scalars.is_zero (m.value x) ≡ false
      step true q = absurd (true≢false (sym (equal.1 ((laws.zero_test (m.value x)).0 q ∙ sym none))))
      step false q = q
