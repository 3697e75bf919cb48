-- The finish by the first choice whose monomial is there.
use Rattle.std.proofs.Common.{◌≡◌, ◌≢◌, ℕ, ◌⊎◌, inl, inr, Bool, true, false, cond, Option, Some, None, List, [], ◌∷◌, map, length, refl, sym, ap, subst, ◌∙◌}
use Rattle.std.specs.Prelude.{Result, Ok, Err, IfOk}
use Rattle.ring_theory.specs.Scalars.{Scalars, Meaning}
use Rattle.poly_law.specs.Polynomials.{Polynomial}
use Rattle.kill_law.specs.declared.part.Part.{Part}
use Rattle.kill_law.specs.declared.part.Part.TheVariants as parts
use Rattle.kill_law.specs.Table.{row}
use Rattle.kill_law.specs.Kill.{first}
use Rattle.move_law.specs.Moves.{is_there}
use Rattle.move_law.specs.Finish.{Finishing, Choice, choices, graded, graded_kill, chosen, finish_part}
use Rattle.normal_forms.specs.declared.family.Family.{Family}
use Rattle.rules_corank2.specs.declared.finish_choice.Choice as coded
use Rattle.rules_corank2.specs.declared.finish_state.Finishing as code
use Rattle.rules_corank2.specs.Finishes.{IsUnderWay, choice_of}
use Rattle.rules_corank2.specs.Finished.{IsFinished}

-- the first of the program's choices is the plan's
first_some : (q : Choice → Bool) (xs : List coded.Choice) (ch : coded.Choice) → first (λ c. q (choice_of c)) xs ≡ Some ch → first q (map choice_of xs) ≡ Some (choice_of ch)
first_some q [] ch e = absurd (cc e)
first_some q (x ∷ xs) ch e = step (q (choice_of x)) (first_some q xs ch) e
  where
    step : (b : Bool) → (first (λ c. q (choice_of c)) xs ≡ Some ch → first q (map choice_of xs) ≡ Some (choice_of ch)) → cond b (Some x) (first (λ c. q (choice_of c)) xs) ≡ Some ch → cond b (Some (choice_of x)) (first q (map choice_of xs)) ≡ Some (choice_of ch)
    step true rest r = let same : x ≡ ch = cc r in ap (λ z. Some (choice_of z)) same
    step false rest r = rest r

first_none : (q : Choice → Bool) (xs : List coded.Choice) → first (λ c. q (choice_of c)) xs ≡ None → first q (map choice_of xs) ≡ None
first_none q [] e = refl
first_none q (x ∷ xs) e = step (q (choice_of x)) (first_none q xs) e
  where
    step : (b : Bool) → (first (λ c. q (choice_of c)) xs ≡ None → first q (map choice_of xs) ≡ None) → cond b (Some x) (first (λ c. q (choice_of c)) xs) ≡ None → cond b (Some (choice_of x)) (first q (map choice_of xs)) ≡ None
    step true rest r = absurd (cc r)
    step false rest r = rest r

-- each of a list has the property
abbrev Each : {A : Type 0} → (A → Type 0) → List A → Type 0
Each Q [] = Unit {0}
Each Q (x ∷ xs) = Q x × Each Q xs

first_has : {A : Type 0} (Q : A → Type 0) (q : A → Bool) (xs : List A) → Each Q xs → (x : A) → first q xs ≡ Some x → Q x
first_has Q q [] all x e = absurd (cc e)
first_has {A} Q q (y ∷ xs) all x e = step (q y) (first_has Q q xs all.1 x) e
  where
    step : (b : Bool) → (first q xs ≡ Some x → Q x) → cond b (Some y) (first q xs) ≡ Some x → Q x
    step true rest r = let same : y ≡ x = cc r in subst Q same all.0
    step false rest r = rest r

-- J, Z and W have two variables
pub two_of : (p : Part) → (p ≡ parts.J) ⊎ ((p ≡ parts.Z) ⊎ (p ≡ parts.W)) → length (row p).weights ≡ 2
unfolding row
two_of p (inl e) = subst (λ z. length (row z).weights ≡ 2) (sym e) refl
two_of p (inr (inl e)) = subst (λ z. length (row z).weights ≡ 2) (sym e) refl
two_of p (inr (inr e)) = subst (λ z. length (row z).weights ≡ 2) (sym e) refl

-- and so have the parts of their choices
abbrev IsPlane : Choice → Type 0
IsPlane ch = length (row ch.part).weights ≡ 2

plane_J : Each IsPlane (choices parts.J)
unfolding choices row
plane_J = (refl, (refl, (refl, (refl, (refl, (refl, (refl, (refl, tt))))))))

plane_Z : Each IsPlane (choices parts.Z)
unfolding choices row
plane_Z = (refl, (refl, (refl, tt)))

plane_W : Each IsPlane (choices parts.W)
unfolding choices row
plane_W = (refl, (refl, tt))

plane : (p : Part) → (p ≡ parts.J) ⊎ ((p ≡ parts.Z) ⊎ (p ≡ parts.W)) → Each IsPlane (choices p)
plane p (inl e) = subst (λ z. Each IsPlane (choices z)) (sym e) plane_J
plane p (inr (inl e)) = subst (λ z. Each IsPlane (choices z)) (sym e) plane_Z
plane p (inr (inr e)) = subst (λ z. Each IsPlane (choices z)) (sym e) plane_W

module _ {V : Type 0} (n : ℕ) (s : Scalars V) (o : ℕ) (g : Finishing n V) where
  -- a graded part other than J10 has no other moves than the graded kill
  pub graded_plain : (p : Part) (family : Family) → p ≢ parts.J10 → graded n s o p family g ≡ (graded_kill n s o p g, Some family)
  graded_plain parts.D4 family h = refl
  graded_plain parts.D family h = refl
  graded_plain parts.J family h = refl
  graded_plain parts.X9 family h = refl
  graded_plain parts.X family h = refl
  graded_plain parts.Y family h = refl
  graded_plain parts.Z family h = refl
  graded_plain parts.W family h = refl
  graded_plain parts.P8 family h = refl
  graded_plain parts.Q family h = refl
  graded_plain parts.S family h = refl
  graded_plain parts.U family h = refl
  graded_plain parts.T family h = refl
  graded_plain parts.E6 family h = refl
  graded_plain parts.E7 family h = refl
  graded_plain parts.E8 family h = refl
  graded_plain parts.J10 family h = absurd (h refl)
  graded_plain parts.E12 family h = refl
  graded_plain parts.E13 family h = refl
  graded_plain parts.E14 family h = refl
  graded_plain parts.Z11 family h = refl
  graded_plain parts.Z12 family h = refl
  graded_plain parts.Z13 family h = refl
  graded_plain parts.W12 family h = refl
  graded_plain parts.W13 family h = refl
  graded_plain parts.Q10 family h = refl
  graded_plain parts.Q11 family h = refl
  graded_plain parts.Q12 family h = refl
  graded_plain parts.S11 family h = refl
  graded_plain parts.S12 family h = refl
  graded_plain parts.U12 family h = refl
  graded_plain parts.JT family h = refl

  part_J : finish_part n s o parts.J g ≡ chosen n s o (choices parts.J) g
  unfolding finish_part
  part_J = refl

  part_Z : finish_part n s o parts.Z g ≡ chosen n s o (choices parts.Z) g
  unfolding finish_part
  part_Z = refl

  part_W : finish_part n s o parts.W g ≡ chosen n s o (choices parts.W) g
  unfolding finish_part
  part_W = refl

  by_choices : (p : Part) → (p ≡ parts.J) ⊎ ((p ≡ parts.Z) ⊎ (p ≡ parts.W)) → finish_part n s o p g ≡ chosen n s o (choices p) g
  by_choices p (inl e) = subst (λ z. finish_part n s o z g ≡ chosen n s o (choices z) g) (sym e) part_J
  by_choices p (inr (inl e)) = subst (λ z. finish_part n s o z g ≡ chosen n s o (choices z) g) (sym e) part_Z
  by_choices p (inr (inr e)) = subst (λ z. finish_part n s o z g ≡ chosen n s o (choices z) g) (sym e) part_W

  abbrev deciding : Option Choice → Finishing n V × Option Family
  deciding (Some ch) = graded n s o ch.part ch.family g
  deciding None = (g, None)

  chosen_is : (cs : List Choice) (r : Option Choice) → first (λ ch. is_there n s g.form ch.monomial) cs ≡ r → chosen n s o cs g ≡ deciding r
  chosen_is cs r e = into (first (λ ch. is_there n s g.form ch.monomial) cs) ∙ ap deciding e
    where
      into : (r : Option Choice) → elim r [ Some ch ↦ graded n s o ch.part ch.family g | None ↦ (g, None) ] ≡ deciding r
      into None = refl
      into (Some ch) = refl

  -- where no monomial of a choice is there
  pub part_none : (p : Part) → (p ≡ parts.J) ⊎ ((p ≡ parts.Z) ⊎ (p ≡ parts.W)) → first (λ ch. is_there n s g.form ch.monomial) (choices p) ≡ None → finish_part n s o p g ≡ (g, None)
  part_none p h e = by_choices p h ∙ chosen_is (choices p) None e

  -- where that of a choice is the first
  pub part_some : (p : Part) → (p ≡ parts.J) ⊎ ((p ≡ parts.Z) ⊎ (p ≡ parts.W)) → (ch : Choice) → first (λ c. is_there n s g.form c.monomial) (choices p) ≡ Some ch
      → finish_part n s o p g ≡ graded n s o ch.part ch.family g
  part_some p h ch e = by_choices p h ∙ chosen_is (choices p) (Some ch) e

-- ---- what the program keeps

module _ {E V : Type 0} (m : Meaning E V) (n : ℕ) (part : Part) (is_chosen : (part ≡ parts.J) ⊎ ((part ≡ parts.Z) ⊎ (part ≡ parts.W))) (xs : List coded.Choice) (list : map choice_of xs ≡ choices part) (f : Polynomial n V) where
  abbrev there : Choice → Bool
  there c = is_there n m.scalars f c.monomial

  pub found : (ch : coded.Choice) → Some ch ≡ first (λ c. there (choice_of c)) xs → first there (choices part) ≡ Some (choice_of ch)
  found ch e = subst (λ z. first there z ≡ Some (choice_of ch)) list (first_some there xs ch (sym e))

  pub missing : None ≡ first (λ c. there (choice_of c)) xs → first there (choices part) ≡ None
  missing e = subst (λ z. first there z ≡ None) list (first_none there xs (sym e))

  pub of_part : (ch : coded.Choice) → Some ch ≡ first (λ c. there (choice_of c)) xs → length (row ch.part).weights ≡ 2
  of_part ch e = first_has IsPlane there (choices part) (plane part is_chosen) (choice_of ch) (found ch e)

  module _ (o : ℕ) (g : Finishing n V) (form : f ≡ g.form) where
    pub plan_some : (ch : coded.Choice) → Some ch ≡ first (λ c. there (choice_of c)) xs → finish_part n m.scalars o part g ≡ graded n m.scalars o ch.part ch.family g
    plan_some ch e = part_some n m.scalars o g part is_chosen (choice_of ch) (subst (λ z. first (λ c. is_there n m.scalars z c.monomial) (choices part) ≡ Some (choice_of ch)) form (found ch e))

    pub plan_none : None ≡ first (λ c. there (choice_of c)) xs → finish_part n m.scalars o part g ≡ (g, None)
    plan_none e = part_none n m.scalars o g part is_chosen (subst (λ z. first (λ c. is_there n m.scalars z c.monomial) (choices part) ≡ None) form (missing e))

-- the answer, from the pair that the plan's finish is
pub answers : {E V : Type 0} (m : Meaning E V) (n o : ℕ) (finish : Finishing n V × Option Family) (g : Finishing n V) (family : Option Family) → finish ≡ (g, family)
    → (state : code.Finishing E) → IsUnderWay m n o g state → IsFinished m n o finish (record { reached = state; family = family })
answers m n o finish g family e state is = subst (λ z. IsFinished m n o z (record { reached = state; family = family })) (sym e) (record { reached = is; family = refl })

-- what a call answers, handed on
pub same_if_ok : {T U : Type 0} (r : Result T U) {P Q : T → Type 0} → ((x : T) → P x → Q x) → IfOk r P → IfOk r Q
same_if_ok (Ok x) f h = f x h
same_if_ok (Err e) f h = tt
