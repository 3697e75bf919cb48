-- The kills of several grades in turn.
use Rattle.std.proofs.Common.{◌≡◌, ℕ, zero, suc, ◌+◌, ◌-◌, ◌<◌, ◌≤◌, ◌⊎◌, inl, inr, Bool, true, false, cond, max, replicate, List, [], ◌∷◌, ◌++◌, length, map, get_or, add-one, append-nil, le-leb, refl, sym, ap, ap₂, subst, ◌∙◌, arith}
use Rattle.std.specs.Prelude.{nat_le, filter}
use Rattle.std.proofs.lemmas.Bool.{lt-leb}
use Rattle.std.proofs.lemmas.Nat.{mul-le}
use Rattle.ring_theory.specs.Scalars.{Scalars, ScalarLaws, Meaning}
use Rattle.ring_theory.specs.Height.{most}
use Rattle.poly_law.specs.Polynomials.{Polynomial}
use Rattle.mono_exp.specs.Exponents.{numbers_below}
use Rattle.jet_law.proofs.Gather.{filter-append}
use Rattle.jet_law.specs.Canonical.{jet}
use Rattle.jet_law.specs.Terms.{poly_of}
use Rattle.coord_change.specs.declared.change.Change.{Change}
use Rattle.coord_change.specs.Moves.{Move, move_from}
use Rattle.coord_change.specs.Carries.{carry}
use Rattle.coord_change.specs.MoveJets.{IsMoveExactly}
use Rattle.coord_change.proofs.Canonicals.{jet-jet}
use Rattle.kill_law.specs.declared.part.Part.{Part}
use Rattle.kill_law.specs.declared.part.Part.TheVariants as parts
use Rattle.kill_law.specs.Table.{row}
use Rattle.kill_law.specs.Kill.{letters_of}
use Rattle.kill_law.specs.Taken.{kill_move}
use Rattle.kill_table.specs.Divisors.{HasNonzeroDivisors}
use Rattle.kill_table.specs.Moves.{IsMoveTo, IsMoveHigh}
use Rattle.coord_change.specs.Moves.{linear_part}
use Rattle.coord_change.proofs.InverseLemmas
use Rattle.move_law.specs.Moves.{made}
use Rattle.move_law.specs.Work as work
use Rattle.move_law.specs.Work.{Work, IsWorkHigh, composing_work}
use Rattle.move_law.specs.Finish.{Finishing, begin_finish, kill_of, kills_at, graded_kill}
use Rattle.rules_corank2.specs.declared.finish_state.Finishing as code
use Rattle.rules_corank2.specs.Finishes.{IsUnderWay, IsStanding, IsFinishingHigh, IsGradedKillRegular, grades_before, last_grade}
use Rattle.rules_corank2.proofs.FinishHeights.{linear_same}
use Rattle.rules_corank2.proofs.FinishMoves.{moved_finding_high, moved_last_high, composing_grows}

-- ---- weights

pub most_small : (p : Part) → most (row p).weights ≤ 9
unfolding row most
most_small parts.D4 = omega arith
most_small parts.D = omega arith
most_small parts.J = omega arith
most_small parts.X9 = omega arith
most_small parts.X = omega arith
most_small parts.Y = omega arith
most_small parts.Z = omega arith
most_small parts.W = omega arith
most_small parts.P8 = omega arith
most_small parts.Q = omega arith
most_small parts.S = omega arith
most_small parts.U = omega arith
most_small parts.T = omega arith
most_small parts.E6 = omega arith
most_small parts.E7 = omega arith
most_small parts.E8 = omega arith
most_small parts.J10 = omega arith
most_small parts.E12 = omega arith
most_small parts.E13 = omega arith
most_small parts.E14 = omega arith
most_small parts.Z11 = omega arith
most_small parts.Z12 = omega arith
most_small parts.Z13 = omega arith
most_small parts.W12 = omega arith
most_small parts.W13 = omega arith
most_small parts.Q10 = omega arith
most_small parts.Q11 = omega arith
most_small parts.Q12 = omega arith
most_small parts.S11 = omega arith
most_small parts.S12 = omega arith
most_small parts.U12 = omega arith
most_small parts.JT = omega arith

-- the greatest of at most three weights, padded by zeros
pub most_of : (p : Part) (xs : List ℕ) → length (row p).weights ≤ 3 → xs ≡ (row p).weights ++ replicate (8 - length (row p).weights) 0 → max (max (get_or xs 0 0) (get_or xs 1 0)) (get_or xs 2 0) ≡ most (row p).weights
unfolding most
most_of p xs h e = ap (λ l. max (max (get_or l 0 0) (get_or l 1 0)) (get_or l 2 0)) e ∙ padded (row p).weights h
  where
    padded : (ws : List ℕ) → length ws ≤ 3 → max (max (get_or (ws ++ replicate (8 - length ws) 0) 0 0) (get_or (ws ++ replicate (8 - length ws) 0) 1 0)) (get_or (ws ++ replicate (8 - length ws) 0) 2 0) ≡ most ws
    padded [] h = refl
    padded (a ∷ []) h = omega arith
    padded (a ∷ b ∷ []) h = omega arith
    padded (a ∷ b ∷ d ∷ []) h = omega arith
    padded (a ∷ b ∷ d ∷ f ∷ ws) h = absurd (omega arith)

-- ---- grades

none_below : (a k : ℕ) → k ≤ a → filter (nat_le a) (numbers_below k) ≡ []
none_below a zero h = refl
none_below a (suc k) h =
    filter-append (nat_le a) (numbers_below k) (k ∷ [])
    ∙ ap₂ (λ xs b. xs ++ cond b (k ∷ []) []) (none_below a k (omega arith)) (lt-leb a k (omega arith))

pub grades-none : (p : Part) → grades_before p ((row p).degree + 1) ≡ []
grades-none p = none_below ((row p).degree + 1) ((row p).degree + 1) (omega arith)

grades-suc : (p : Part) (grade : ℕ) → (row p).degree < grade → grades_before p (suc grade) ≡ grades_before p grade ++ grade ∷ []
grades-suc p grade h =
    filter-append (nat_le ((row p).degree + 1)) (numbers_below grade) (grade ∷ [])
    ∙ ap (λ b. grades_before p grade ++ cond b (grade ∷ []) []) (le-leb ((row p).degree + 1) grade (omega arith))

pub grades-next : (p : Part) (grade : ℕ) → (row p).degree < grade → grades_before p (grade + 1) ≡ grades_before p grade ++ grade ∷ []
grades-next p grade h = ap (grades_before p) (add-one grade) ∙ grades-suc p grade h

module _ {V : Type 0} (n : ℕ) (s : Scalars V) (o : ℕ) where
  -- one grade more
  kills-last : (p : Part) (grades : List ℕ) (grade : ℕ) (g : Finishing n V) → kills_at n s o p (grades ++ grade ∷ []) g ≡ kill_of n s o p grade (kills_at n s o p grades g)
  kills-last p [] grade g = refl
  kills-last p (x ∷ grades) grade g = kills-last p grades grade (kill_of n s o p x g)

  pub kills-next : (p : Part) (grade : ℕ) (g : Finishing n V) → (row p).degree < grade
      → kills_at n s o p (grades_before p (grade + 1)) g ≡ kill_of n s o p grade (kills_at n s o p (grades_before p grade) g)
  kills-next p grade g h = ap (λ z. kills_at n s o p z g) (grades-next p grade h) ∙ kills-last p (grades_before p grade) grade g

  -- the jet that the kills reach depends on that from which they start alone
  pub kills_form : (p : Part) (grades : List ℕ) (g h : Finishing n V) → g.form ≡ h.form → (kills_at n s o p grades g).form ≡ (kills_at n s o p grades h).form
  kills_form p [] g h e = e
  kills_form p (grade ∷ grades) g h e =
      kills_form p grades (kill_of n s o p grade g) (kill_of n s o p grade h) (ap (λ f. carry n s o (made n s (kill_move n s (letters_of n s p f) p grade f)) f) e)

  -- what is high stays so with further moves
  kill_grows : (p : Part) (grade : ℕ) (g : Finishing n V) → IsFinishingHigh n s o g → IsFinishingHigh n s o (kill_of n s o p grade g)
  kill_grows p grade g high = composing_grows n s o g (kill_move n s (letters_of n s p g.form) p grade g.form) (work.killed p grade g.form ∷ []) high

  pub kills_grow : (p : Part) (grades : List ℕ) (g : Finishing n V) → IsFinishingHigh n s o g → IsFinishingHigh n s o (kills_at n s o p grades g)
  kills_grow p [] g high = high
  kills_grow p (grade ∷ grades) g high = kills_grow p grades (kill_of n s o p grade g) (kill_grows p grade g high)

  grades_grow : (p : Part) (first more : ℕ) (g : Finishing n V) → IsFinishingHigh n s o (kills_at n s o p (grades_before p first) g) → IsFinishingHigh n s o (kills_at n s o p (grades_before p (first + more)) g)
  grades_grow p first zero g high = subst (λ z. IsFinishingHigh n s o (kills_at n s o p (grades_before p z) g)) (let e : first ≡ first + 0 = omega arith in e) high
  grades_grow p first (suc more) g high =
      subst (λ z. IsFinishingHigh n s o (kills_at n s o p z g)) (sym (ap (grades_before p) (let e : first + suc more ≡ suc (first + more) = omega arith in e) ∙ filter-append (nat_le ((row p).degree + 1)) (numbers_below (first + more)) ((first + more) ∷ [])))
      (step (nat_le ((row p).degree + 1) (first + more)) (grades_grow p first more g high))
    where
      step : (b : Bool) → IsFinishingHigh n s o (kills_at n s o p (grades_before p (first + more)) g) → IsFinishingHigh n s o (kills_at n s o p (grades_before p (first + more) ++ cond b ((first + more) ∷ []) []) g)
      step true q = subst (IsFinishingHigh n s o) (sym (kills-last p (grades_before p (first + more)) (first + more) g)) (kill_grows p (first + more) (kills_at n s o p (grades_before p (first + more)) g) q)
      step false q = subst (λ z. IsFinishingHigh n s o (kills_at n s o p z g)) (sym (append-nil (grades_before p (first + more)))) q

  -- the kill of a grade is high
  pub graded_high : (p : Part) (grade : ℕ) (g : Finishing n V) → (row p).degree < grade → grade ≤ last_grade p o
      → IsFinishingHigh n s o (kill_of n s o p grade (kills_at n s o p (grades_before p grade) g)) → IsFinishingHigh n s o (graded_kill n s o p g)
  graded_high p grade g h k high =
      subst (λ z. IsFinishingHigh n s o (kills_at n s o p (grades_before p z) g)) (let e : grade + 1 + (last_grade p o - grade) ≡ last_grade p o + 1 = omega arith in e)
      (grades_grow p (grade + 1) (last_grade p o - grade) g (subst (IsFinishingHigh n s o) (sym (kills-next p grade g h)) high))

  -- the last grade
  pub graded-end : (p : Part) (grade : ℕ) (g : Finishing n V) → (grade ≡ (row p).degree + 1) ⊎ (grade ≤ last_grade p o + 1) → last_grade p o + 1 ≤ grade
      → kills_at n s o p (grades_before p grade) g ≡ graded_kill n s o p g
  graded-end p grade g (inl e) h =
      ap (λ z. kills_at n s o p z g) (none_below ((row p).degree + 1) grade (omega arith) ∙ sym (none_below ((row p).degree + 1) (last_grade p o + 1) (omega arith)))
  graded-end p grade g (inr k) h = ap (λ z. kills_at n s o p (grades_before p z) g) (let e : grade ≡ last_grade p o + 1 = omega arith in e)

-- ---- what the program keeps

-- what holds of each finish that the program keeps in a state, in the variables and up to the order of its jet
pub at_state : {E V : Type 0} (m : Meaning E V) (state : code.Finishing E) (Q : (n o : ℕ) → Finishing n V → Type 0) (n o : ℕ) (g : Finishing n V) → IsUnderWay m n o g state
    → ((h : Finishing state.form.n V) → IsUnderWay m state.form.n state.form.order h state → Q state.form.n state.form.order h) → Q n o g
at_state {E} {V} m state Q n o g is f =
    subst (λ z. (h : Finishing z V) → IsUnderWay m z o h state → Q z o h) is.form.variables
    (subst (λ z. (h : Finishing state.form.n V) → IsUnderWay m state.form.n z h state → Q state.form.n z h) is.form.order f) g is

pub standing_of : {E V : Type 0} (m : Meaning E V) (n o : ℕ) (state : code.Finishing E) (g : Finishing n V) → IsUnderWay m n o g state → IsStanding m state
standing_of {E} {V} m n o state g is = at_state m state (λ n o g. IsStanding {E = E} {V = V} m state) n o g is (λ h q. record { finish = h; is = q })

module _ {E V : Type 0} (m : Meaning E V) (l : ScalarLaws m.scalars) (n o : ℕ) (state : code.Finishing E) (p : Part) (grade : ℕ) (g : Finishing n V) (is : IsUnderWay m n o g state) where
  abbrev f : Polynomial n V
  f = poly_of n m.value state.form.terms

  -- finding the kill is high
  pub kill_fault : IsMoveHigh m.scalars (letters_of n m.scalars p f) p n grade f → IsFinishingHigh n m.scalars o (kill_of n m.scalars o p grade g)
  kill_fault high = step (subst (λ f. IsMoveHigh m.scalars (letters_of n m.scalars p f) p n grade f) is.form.polynomial high)
    where
      step : IsMoveHigh m.scalars (letters_of n m.scalars p g.form) p n grade g.form → IsFinishingHigh n m.scalars o (kill_of n m.scalars o p grade g)
      step (inl h) = moved_finding_high m l n o g (kill_move n m.scalars (letters_of n m.scalars p g.form) p grade g.form) (work.killed p grade g.form ∷ []) (inl h)
      step (inr h) =
          moved_last_high m l n o g (kill_move n m.scalars (letters_of n m.scalars p g.form) p grade g.form) (work.killed p grade g.form ∷ [])
          (inl (InverseLemmas.high_of_same m.scalars l.ring n (linear_part n m.scalars (kill_move n m.scalars (letters_of n m.scalars p g.form) p grade g.form)) (linear_part n m.scalars (made n m.scalars (kill_move n m.scalars (letters_of n m.scalars p g.form) p grade g.form)))
          (λ a b x y. sym (linear_same n m.scalars l 16 (omega arith) (kill_move n m.scalars (letters_of n m.scalars p g.form) p grade g.form) a b x y)) h))

  -- the kill up to the order
  pub kill_to : (whole c : Change E) → IsMoveTo m n 16 (kill_move n m.scalars (letters_of n m.scalars p f) p grade f) whole → (k : ℕ) → k ≡ o
      → IsMoveExactly m whole.n k (map (jet whole.n m.scalars k) (move_from m whole.n whole)) c → IsMoveTo m n o (kill_move n m.scalars (letters_of n m.scalars p g.form) p grade g.form) c
  kill_to whole c to k e exactly =
      subst (λ z. IsMoveTo m n o (kill_move n m.scalars (letters_of n m.scalars p z) p grade z) c) is.form.polynomial
      (subst (λ z. IsMoveExactly m n o z c) (map-jets (kill_move n m.scalars (letters_of n m.scalars p f) p grade f))
      (subst (λ z. IsMoveExactly m n o (map (jet n m.scalars o) z) c) to.parts
      (subst (λ z. IsMoveExactly m z o (map (jet z m.scalars o) (move_from m z whole)) c) to.variables
      (subst (λ z. IsMoveExactly m whole.n z (map (jet whole.n m.scalars z) (move_from m whole.n whole)) c) e exactly))))
    where
      map-jets : (ps : Move n V) → map (jet n m.scalars o) (map (jet n m.scalars 16) ps) ≡ map (jet n m.scalars o) ps
      map-jets [] = refl
      map-jets (q ∷ ps) = ap₂ (λ x xs. x ∷ xs) (jet-jet n m.scalars l o 16 is.order_at_most_16 q) (map-jets ps)

  -- what the kill of a grade divides by, after those before
  pub divisors_at : IsGradedKillRegular n m.scalars o p f → (reached : code.Finishing E) → IsUnderWay m n o (kills_at n m.scalars o p (grades_before p grade) g) reached
      → (row p).degree < grade → grade ≤ last_grade p o → HasNonzeroDivisors m.scalars (letters_of reached.form.n m.scalars p (poly_of reached.form.n m.value reached.form.terms)) p
  divisors_at regular reached now h k =
      subst (λ z. HasNonzeroDivisors m.scalars (letters_of z m.scalars p (poly_of z m.value reached.form.terms)) p) (sym now.form.variables)
      (subst (λ z. HasNonzeroDivisors m.scalars (letters_of n m.scalars p z) p)
      (kills_form n m.scalars o p (grades_before p grade) (begin_finish n m.scalars o f) g is.form.polynomial ∙ sym now.form.polynomial) (regular grade h k))

pub degree_small : (p : Part) → (row p).degree ≤ 24
unfolding row
degree_small parts.D4 = omega arith
degree_small parts.D = omega arith
degree_small parts.J = omega arith
degree_small parts.X9 = omega arith
degree_small parts.X = omega arith
degree_small parts.Y = omega arith
degree_small parts.Z = omega arith
degree_small parts.W = omega arith
degree_small parts.P8 = omega arith
degree_small parts.Q = omega arith
degree_small parts.S = omega arith
degree_small parts.U = omega arith
degree_small parts.T = omega arith
degree_small parts.E6 = omega arith
degree_small parts.E7 = omega arith
degree_small parts.E8 = omega arith
degree_small parts.J10 = omega arith
degree_small parts.E12 = omega arith
degree_small parts.E13 = omega arith
degree_small parts.E14 = omega arith
degree_small parts.Z11 = omega arith
degree_small parts.Z12 = omega arith
degree_small parts.Z13 = omega arith
degree_small parts.W12 = omega arith
degree_small parts.W13 = omega arith
degree_small parts.Q10 = omega arith
degree_small parts.Q11 = omega arith
degree_small parts.Q12 = omega arith
degree_small parts.S11 = omega arith
degree_small parts.S12 = omega arith
degree_small parts.U12 = omega arith
degree_small parts.JT = omega arith

pub last_small : (p : Part) (o : ℕ) → o ≤ 16 → last_grade p o ≤ 144
last_small p o h = mul-le o (most (row p).weights) 16 9 h (most_small p)
