-- What the first choice of a part in three variables decides on.
use Rattle.std.proofs.Common.{◌≡◌, ℕ, Bool, true, false, ◌&&◌, cond, eqb, eqb-true, List, [], ◌∷◌, map, length, refl, sym, ap, ◌∙◌, subst, arith}
use Rattle.std.specs.Prelude.{Option, Some, None, option_map}
use Rattle.std.specs.List.{list_all}
use Rattle.ring_theory.specs.Scalars.{Scalars}
use Rattle.poly_law.specs.Polynomials.{Polynomial}
use Rattle.normal_forms.specs.declared.family.Family.{Family}
use Rattle.kill_law.specs.declared.part.Part.{Part}
use Rattle.kill_law.specs.declared.part.Part.TheVariants as parts
use Rattle.kill_law.specs.Table.{row}
use Rattle.kill_law.specs.Kill.{first}
use Rattle.move_law.specs.Moves.{is_there}
use Rattle.move_law.specs.Finish.{Choice, Finishing, choices, chosen, graded, graded_kill}
use Rattle.rules_corank3.specs.declared.finish_choice.Choice as coded
use Rattle.rules_corank3.specs.Finishes.{choice_of}

both : (a b : Bool) → (a && b) ≡ true → (a ≡ true) × (b ≡ true)
both true b h = (refl, h)
both false b h = let bad : ⊥ = cc h in absurd bad

-- the first of a list passes what all pass
first_passes : {A : Type 0} (p q : A → Bool) (xs : List A) (x : A) → list_all p xs ≡ true → first q xs ≡ Some x → p x ≡ true
first_passes p q [] x a h = let bad : ⊥ = cc h in absurd bad
first_passes p q (y ∷ ys) x a h = step (q y) (first_passes p q ys x (both (p y) (list_all p ys) a).1) h
  where
    step : (b : Bool) → (first q ys ≡ Some x → p x ≡ true) → cond b (Some y) (first q ys) ≡ Some x → p x ≡ true
    step true rest h = subst (λ z. p z ≡ true) (let e : y ≡ x = cc h in e) (both (p y) (list_all p ys) a).0
    step false rest h = rest h

-- the first of the images
first-map : {A B : Type 0} (h : A → B) (q : B → Bool) (xs : List A) → first q (map h xs) ≡ option_map h (first (λ x. q (h x)) xs)
first-map h q [] = refl
first-map h q (x ∷ xs) = step (q (h x)) (first-map h q xs)
  where
    step : (b : Bool) → first q (map h xs) ≡ option_map h (first (λ x. q (h x)) xs) → cond b (Some (h x)) (first q (map h xs)) ≡ option_map h (cond b (Some x) (first (λ x. q (h x)) xs))
    step true rest = refl
    step false rest = rest

-- ---- the parts that are decided on

-- the graded kill is all that follows
abbrev is_plain : Part → Bool
is_plain parts.J10 = false
is_plain p = true

plain_parts : (p : Part) → length (row p).weights ≡ 3 → list_all (λ ch. eqb (length (row ch.part).weights) 3 && is_plain ch.part) (choices p) ≡ true
unfolding row choices
plain_parts parts.D4 h = absurd (omega arith)
plain_parts parts.D h = absurd (omega arith)
plain_parts parts.J h = absurd (omega arith)
plain_parts parts.X9 h = absurd (omega arith)
plain_parts parts.X h = absurd (omega arith)
plain_parts parts.Y h = absurd (omega arith)
plain_parts parts.Z h = absurd (omega arith)
plain_parts parts.W h = absurd (omega arith)
plain_parts parts.P8 h = refl
plain_parts parts.Q h = refl
plain_parts parts.S h = refl
plain_parts parts.U h = refl
plain_parts parts.T h = refl
plain_parts parts.E6 h = absurd (omega arith)
plain_parts parts.E7 h = absurd (omega arith)
plain_parts parts.E8 h = absurd (omega arith)
plain_parts parts.J10 h = absurd (omega arith)
plain_parts parts.E12 h = absurd (omega arith)
plain_parts parts.E13 h = absurd (omega arith)
plain_parts parts.E14 h = absurd (omega arith)
plain_parts parts.Z11 h = absurd (omega arith)
plain_parts parts.Z12 h = absurd (omega arith)
plain_parts parts.Z13 h = absurd (omega arith)
plain_parts parts.W12 h = absurd (omega arith)
plain_parts parts.W13 h = absurd (omega arith)
plain_parts parts.Q10 h = refl
plain_parts parts.Q11 h = refl
plain_parts parts.Q12 h = refl
plain_parts parts.S11 h = refl
plain_parts parts.S12 h = refl
plain_parts parts.U12 h = refl
plain_parts parts.JT h = absurd (omega arith)

-- the plan's first choice is the program's
module _ {V : Type 0} (n : ℕ) (s : Scalars V) (p : Part) (f : Polynomial n V) (given : List coded.Choice) (are : map choice_of given ≡ choices p) where
  first_is : (found : Option coded.Choice) → found ≡ first (λ ch. is_there n s f ch.monomial) given → first (λ ch. is_there n s f ch.monomial) (choices p) ≡ option_map choice_of found
  first_is found h =
      ap (first (λ (ch : Choice). is_there n s f ch.monomial)) (sym are)
      ∙ first-map choice_of (λ (ch : Choice). is_there n s f ch.monomial) given
      ∙ ap (option_map choice_of) (sym h)

  pub some_is : (ch : coded.Choice) → Some ch ≡ first (λ ch. is_there n s f ch.monomial) given → first (λ ch. is_there n s f ch.monomial) (choices p) ≡ Some (choice_of ch)
  some_is ch h = first_is (Some ch) h

  pub none_is : None ≡ first (λ ch. is_there n s f ch.monomial) given → first (λ ch. is_there n s f ch.monomial) (choices p) ≡ None
  none_is h = first_is None h

module _ {V : Type 0} (n : ℕ) (s : Scalars V) where
  -- its part has three variables, and the graded kill is all that follows
  fits : (p : Part) → length (row p).weights ≡ 3 → (f : Polynomial n V) (ch : Choice) → first (λ ch. is_there n s f ch.monomial) (choices p) ≡ Some ch → (eqb (length (row ch.part).weights) 3 && is_plain ch.part) ≡ true
  fits p size f ch h = first_passes (λ (ch : Choice). eqb (length (row ch.part).weights) 3 && is_plain ch.part) (λ (ch : Choice). is_there n s f ch.monomial) (choices p) ch (plain_parts p size) h

  pub three_of : (p : Part) → length (row p).weights ≡ 3 → (f : Polynomial n V) (ch : Choice) → first (λ ch. is_there n s f ch.monomial) (choices p) ≡ Some ch → length (row ch.part).weights ≡ 3
  three_of p size f ch h = eqb-true (length (row ch.part).weights) 3 (both (eqb (length (row ch.part).weights) 3) (is_plain ch.part) (fits p size f ch h)).0

module _ {V : Type 0} (n : ℕ) (s : Scalars V) (o : ℕ) where
  plain_graded : (p : Part) → is_plain p ≡ true → (family : Family) (g : Finishing n V) → graded n s o p family g ≡ (graded_kill n s o p g, Some family)
  plain_graded parts.D4 h family g = refl
  plain_graded parts.D h family g = refl
  plain_graded parts.J h family g = refl
  plain_graded parts.X9 h family g = refl
  plain_graded parts.X h family g = refl
  plain_graded parts.Y h family g = refl
  plain_graded parts.Z h family g = refl
  plain_graded parts.W h family g = refl
  plain_graded parts.P8 h family g = refl
  plain_graded parts.Q h family g = refl
  plain_graded parts.S h family g = refl
  plain_graded parts.U h family g = refl
  plain_graded parts.T h family g = refl
  plain_graded parts.E6 h family g = refl
  plain_graded parts.E7 h family g = refl
  plain_graded parts.E8 h family g = refl
  plain_graded parts.J10 h family g = let bad : ⊥ = cc h in absurd bad
  plain_graded parts.E12 h family g = refl
  plain_graded parts.E13 h family g = refl
  plain_graded parts.E14 h family g = refl
  plain_graded parts.Z11 h family g = refl
  plain_graded parts.Z12 h family g = refl
  plain_graded parts.Z13 h family g = refl
  plain_graded parts.W12 h family g = refl
  plain_graded parts.W13 h family g = refl
  plain_graded parts.Q10 h family g = refl
  plain_graded parts.Q11 h family g = refl
  plain_graded parts.Q12 h family g = refl
  plain_graded parts.S11 h family g = refl
  plain_graded parts.S12 h family g = refl
  plain_graded parts.U12 h family g = refl
  plain_graded parts.JT h family g = refl

  pub chosen_some : (p : Part) → length (row p).weights ≡ 3 → (f : Polynomial n V) (g : Finishing n V) → f ≡ g.form → (ch : Choice) → first (λ ch. is_there n s f ch.monomial) (choices p) ≡ Some ch
      → chosen n s o (choices p) g ≡ (graded_kill n s o ch.part g, Some ch.family)
  chosen_some p size f g form ch h =
      ap (λ found. elim found [ Some ch ↦ graded n s o ch.part ch.family g | None ↦ (g, None) ])
      (ap (λ f. first (λ (ch : Choice). is_there n s f ch.monomial) (choices p)) (sym form) ∙ h)
      ∙ plain_graded ch.part (both (eqb (length (row ch.part).weights) 3) (is_plain ch.part) (fits n s p size f ch h)).1 ch.family g

  pub chosen_none : (p : Part) (f : Polynomial n V) (g : Finishing n V) → f ≡ g.form → first (λ ch. is_there n s f ch.monomial) (choices p) ≡ None → chosen n s o (choices p) g ≡ (g, None)
  chosen_none p f g form h =
      ap (λ found. elim found [ Some ch ↦ graded n s o ch.part ch.family g | None ↦ (g, None) ])
      (ap (λ f. first (λ (ch : Choice). is_there n s f ch.monomial) (choices p)) (sym form) ∙ h)
