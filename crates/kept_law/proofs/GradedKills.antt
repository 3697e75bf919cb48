-- The kills of all grades of a part, one after the other.
use Rattle.std.proofs.Common.{◌≡◌, ℕ, zero, suc, ◌+◌, ◌*◌, ◌<◌, ◌≤◌, ◌⊎◌, inl, inr, Bool, true, false, cond, leb, leb-true, leb-false, eqb, eqb-true, ◌-◌, List, [], ◌∷◌, ◌++◌, map, get_or, length, sum, refl, sym, ap, ap₂, subst, ◌∙◌, arith}
use Rattle.std.specs.Prelude.{Contains, nat_le, filter}
use Rattle.std.specs.List.{list_all}
use Rattle.ring_theory.specs.Height.{most}
use Rattle.ring_theory.specs.Scalars.{Scalars, ScalarLaws}
use Rattle.ring_theory.proofs.ValueSet.{values_are_set}
use Rattle.poly_law.specs.Exps.{degree}
use Rattle.poly_law.specs.ExpList.{ExpList, exps}
use Rattle.poly_law.specs.Poly.{coefficient, place}
use Rattle.poly_law.specs.Polynomials.{Polynomial, coefficient_in, substitute}
use Rattle.poly_law.proofs.ExpLists.{exps_are}
use Rattle.poly_law.proofs.Order
use Rattle.poly_law.proofs.Place
use Rattle.poly_law.proofs.SubstOrder
use Rattle.mono_exp.specs.Exponents.{numbers_below, weighted_degree_of}
use Rattle.mono_exp.proofs.Lists.{map-map, sum-cons}
use Rattle.jet_law.specs.Canonical.{jet, monomial_in}
use Rattle.jet_law.proofs.Gather.{filter-append}
use Rattle.germ_law.proofs.Canonical
use Rattle.kill_law.specs.declared.lead.Lead.{Lead}
use Rattle.kill_law.specs.declared.part.Part.{Part}
use Rattle.kill_law.specs.declared.part.Part.TheVariants as parts
use Rattle.kill_law.specs.Table.{row}
use Rattle.kill_law.specs.Kill.{letters_of, divides}
use Rattle.kill_law.specs.Leads.{form_of}
use Rattle.kill_law.specs.Taken.{killed, kill_move}
use Rattle.coord_change.specs.Moves.{Move, put}
use Rattle.coord_change.specs.Carries.{carry}
use Rattle.coord_change.proofs.Canonicals
use Rattle.move_law.specs.Moves.{made}
use Rattle.move_law.specs.Split.{squares_in}
use Rattle.move_law.specs.Finish.{Finishing, begin_finish, kill_of, kills_at}
use Rattle.split_lemma.specs.SplitForms.{IsSplitUpTo}
use Rattle.split_lemma.proofs.Residuals.{at_mapped}
use Rattle.kept_law.specs.KeptParts.{EndsAt, HasPrincipalPart, GradeIsKilled, GradesAreGone, LeadsAreInvertible, AllGradesAreGone, OnlyModulusIsLeft, kill_grade, residual_at}
use Rattle.kept_law.proofs.Agreeing.{and_left, and_right}
use Rattle.kept_law.proofs.PartDegrees.{past_end}
use Rattle.kept_law.proofs.KillLeads.{forms_weigh, grades}
use Rattle.kept_law.proofs.LeftMonomials

-- ---- the table

forms_short : (p : Part) → list_all (λ e. leb (length e) (length (row p).weights)) (row p).form ≡ true
unfolding row
forms_short parts.D4 = refl
forms_short parts.D = refl
forms_short parts.J = refl
forms_short parts.X9 = refl
forms_short parts.X = refl
forms_short parts.Y = refl
forms_short parts.Z = refl
forms_short parts.W = refl
forms_short parts.P8 = refl
forms_short parts.Q = refl
forms_short parts.S = refl
forms_short parts.U = refl
forms_short parts.T = refl
forms_short parts.E6 = refl
forms_short parts.E7 = refl
forms_short parts.E8 = refl
forms_short parts.J10 = refl
forms_short parts.E12 = refl
forms_short parts.E13 = refl
forms_short parts.E14 = refl
forms_short parts.Z11 = refl
forms_short parts.Z12 = refl
forms_short parts.Z13 = refl
forms_short parts.W12 = refl
forms_short parts.W13 = refl
forms_short parts.Q10 = refl
forms_short parts.Q11 = refl
forms_short parts.Q12 = refl
forms_short parts.S11 = refl
forms_short parts.S12 = refl
forms_short parts.U12 = refl
forms_short parts.JT = refl

-- ---- weights

at_least : (w j k : ℕ) → w * k ≤ k * (w + j)
at_least w j k = let e : k * (w + j) ≡ w * k + k * j = grind arith in omega arith

product_at_most : (w bound k : ℕ) → w ≤ bound → w * k ≤ k * bound
product_at_most w bound k h = subst (λ z. w * k ≤ k * z) (let e : w + (bound - w) ≡ bound = omega arith in e) (at_least w (bound - w) k)

-- a weighted degree is at most the degree times the greatest weight
weight_at_most : (ws e : List ℕ) (bound : ℕ) → most ws ≤ bound → weighted_degree_of ws e ≤ sum e * bound
unfolding most
weight_at_most [] e bound h = omega arith
weight_at_most (w ∷ ws) [] bound h = omega arith
weight_at_most (w ∷ ws) (k ∷ e) bound h =
    let first = product_at_most w bound k (omega arith) in
    let rest = weight_at_most ws e bound (omega arith) in
    let s = sum-cons k e in
    let split : (k + sum e) * bound ≡ k * bound + sum e * bound = grind arith in
    subst (λ z. w * k + weighted_degree_of ws e ≤ z * bound) (sym s) (omega arith)

product_grows : (j k w : ℕ) → j ≤ k → j * w ≤ k * w
product_grows j k w h = let e : (j + (k - j)) * w ≡ j * w + (k - j) * w = grind arith in subst (λ z. j * w ≤ z * w) (let e : j + (k - j) ≡ k = omega arith in e) (omega arith)

low_or_high : (j k : ℕ) → (j ≤ k) ⊎ (k < j)
low_or_high j k = grind arith

below_or_last : (i n : ℕ) → i < suc n → (i < n) ⊎ (i ≡ n)
below_or_last i n h = grind arith

module _ {V : Type 0} (s : Scalars V) (laws : ScalarLaws s) (n : ℕ) where
  -- ---- carrying by a kill move as it is made

  put_made : (letters : List V) (p : Part) (grade : ℕ) (f : Polynomial n V) (i : ℕ) → i < n
      → put n s (made n s (kill_move n s letters p grade f)) i ≡ jet n s 16 (put n s (kill_move n s letters p grade f) i)
  unfolding kill_move
  put_made letters p grade f i h =
      ap (λ z. get_or z i []) (map-map (jet n s 16) (killed n s letters p grade f) (numbers_below n))
      ∙ at_mapped (λ i. jet n s 16 (killed n s letters p grade f i)) n i [] h
      ∙ sym (ap (jet n s 16) (at_mapped (killed n s letters p grade f) n i [] h))

  carry_made : (k : ℕ) → k ≤ 16 → (letters : List V) (p : Part) (grade : ℕ) (f : Polynomial n V)
      → carry n s k (made n s (kill_move n s letters p grade f)) f ≡ carry n s k (kill_move n s letters p grade f) f
  unfolding carry
  carry_made k h letters p grade f =
      let move = kill_move n s letters p grade f in
      Canonicals.jet_of_same n s laws k (substitute n n s.ops (put n s (made n s move)) f) (substitute n n s.ops (put n s move) f)
      (SubstOrder.parts_same_to (exps n) (exps_are n) (exps n) (exps_are n) s.ops laws.ring (values_are_set s laws) k (put n s (made n s move)) (put n s move)
      (λ i g b low. ap (λ u. coefficient (exps n) s.ops u b) (put_made letters p grade f i g) ∙ Canonical.jet_same_to n s laws 16 (put n s move i) b (omega arith)) f)

  -- what is carried up to degree k has no term above it
  carry_ends : (c k : ℕ) (move : Move n V) (f : Polynomial n V) → EndsAt n s c k (carry n s k move f)
  unfolding carry
  carry_ends c k move f m h =
      let g = substitute n n s.ops (put n s move) f in
      Canonical.jet_is_cut n s laws k g m
      ∙ Order.coefficient-cut (exps n) (exps_are n) s.ops laws.ring k g m
      ∙ ap (λ b. cond b (coefficient (exps n) s.ops g m) s.ops.zero) (none (leb (degree (exps n) m) k) refl)
    where
      none : (b : Bool) → leb (degree (exps n) m) k ≡ b → b ≡ false
      none false e = refl
      none true e = let q = leb-true (degree (exps n) m) k e in absurd (omega arith)

  module _ (p : Part) (fewer : length (row p).weights ≤ n) where
    abbrev c : ℕ
    c = length (row p).weights

    abbrev weight : ExpList c → ℕ
    weight b = weighted_degree_of (row p).weights b.entries

    abbrev placed : ExpList c → ExpList n
    placed = place (exps n) (exps c) s.ops

    abbrev residual : Polynomial n V → ExpList c → V
    residual f b = residual_at n s c f b

    -- ---- letters

    form_placed : (e : List ℕ) → length e ≤ c → monomial_in n e ≡ placed (monomial_in c e)
    form_placed e h = (exps_are n).same_at (monomial_in n e) (placed (monomial_in c e)) λ i g. (exps_are n).at_make (λ i. get_or e i 0) i g ∙ elim (low_or_high c i) [
      | inl past ↦ past_end e i (omega arith) ∙ sym (Place.at-placed_past (exps n) (exps_are n) (exps c) (exps_are c) fewer (monomial_in c e) i past g)
      | inr own ↦ sym (Place.at-placed_front (exps n) (exps_are n) (exps c) (exps_are c) fewer (monomial_in c e) i own ∙ (exps_are c).at_make (λ i. get_or e i 0) i own)
    ]

    module _ (f g : Polynomial n V) (agree : (b : ExpList c) → weight b ≡ (row p).degree → residual f b ≡ residual g b) where
      coefficients_same : (es : List (List ℕ)) → list_all (λ e. leb (length e) c) es ≡ true → list_all (λ m. eqb (weighted_degree_of (row p).weights (monomial_in c m).entries) (row p).degree) es ≡ true
          → map (λ m. coefficient (exps n) s.ops f (monomial_in n m)) es ≡ map (λ m. coefficient (exps n) s.ops g (monomial_in n m)) es
      coefficients_same [] short weigh = refl
      coefficients_same (e ∷ es) short weigh =
          let is = form_placed e (leb-true (length e) c (and_left (leb (length e) c) (list_all (λ e. leb (length e) c) es) short)) in
          let test : List ℕ → Bool = λ m. eqb (weighted_degree_of (row p).weights (monomial_in c m).entries) (row p).degree in
          ap₂ (λ v vs. v ∷ vs)
          (ap (coefficient (exps n) s.ops f) is ∙ agree (monomial_in c e) (eqb-true (weight (monomial_in c e)) (row p).degree (and_left (test e) (list_all test es) weigh)) ∙ ap (coefficient (exps n) s.ops g) (sym is))
          (coefficients_same es (and_right (leb (length e) c) (list_all (λ e. leb (length e) c) es) short) (and_right (test e) (list_all test es) weigh))

      letters_same : letters_of n s p f ≡ letters_of n s p g
      unfolding letters_of
      letters_same = ap (λ (vs : List V). get_or vs 0 s.ops.zero ∷ get_or vs 1 s.ops.zero ∷ get_or vs 2 s.ops.zero ∷ []) (coefficients_same (row p).form (forms_short p) (forms_weigh p))

    -- ---- one grade more

    module _ (k : ℕ) (two : 2 ≤ k) (order : k ≤ 16) (f : Polynomial n V) (units : LeadsAreInvertible s (letters_of n s p f) p) where
      -- g is what the kills of the grades below `grade` leave of f
      record Reached (grade : ℕ) (g : Polynomial n V) : Type 0 where
        ends : EndsAt n s c k g
        split : IsSplitUpTo n s c k g
        squares : squares_in n s c g ≡ squares_in n s c f
        principal : HasPrincipalPart n s c p g
        letters : letters_of n s p g ≡ letters_of n s p f
        reduced : (l : Lead) → Contains (row p).leads l → (b : ExpList c) → (row p).degree < weight b → weight b < grade → divides c (monomial_in c l.monomial) b ≡ true → residual g b ≡ s.ops.zero

      module _ (grade : ℕ) (above : (row p).degree < grade) (g : Polynomial n V) (r : Reached grade g) where
        abbrev next : Polynomial n V
        next = kill_grade n s c k grade p g

        gone : GradeIsKilled n s c k grade p g
        gone = grades s laws n k grade p fewer two above g r.split r.principal (subst (λ ls. LeadsAreInvertible s ls p) (sym r.letters) units)

        next_ends : EndsAt n s c k next
        next_ends = carry_ends c k (kill_move n s (letters_of n s p g) p grade g) g

        too_high : (b : ExpList c) → k < degree (exps c) b → residual next b ≡ s.ops.zero
        too_high b h = next_ends (placed b) (let d = Place.degree-placed (exps n) (exps_are n) (exps c) (exps_are c) fewer b in omega arith)

        stays : (b : ExpList c) → weight b < grade → residual next b ≡ residual g b
        stays b h = elim (low_or_high (degree (exps c) b) k) [
          | inl low ↦ gone.below b low h
          | inr high ↦ too_high b high ∙ sym (r.ends (placed b) (let d = Place.degree-placed (exps n) (exps_are n) (exps c) (exps_are c) fewer b in omega arith))
        ]

        same_letters : letters_of n s p next ≡ letters_of n s p g
        same_letters = letters_same next g (λ b h. stays b (omega arith))

        one_more : Reached (suc grade) next
        one_more = record {
          ends = next_ends;
          split = gone.split;
          squares = gone.squares ∙ r.squares;
          principal = record {
            above = λ b h. stays b (omega arith) ∙ r.principal.above b h;
            form = λ b h. stays b (omega arith) ∙ r.principal.form b h ∙ ap (λ ls. coefficient_in c s.ops (form_of s ls c p) b) (sym same_letters);
          };
          letters = same_letters ∙ r.letters;
          reduced = λ l among b high low divided. elim (below_or_last (weight b) grade low) [
            | inl less ↦ stays b less ∙ r.reduced l among b high less divided
            | inr is ↦ elim (low_or_high (degree (exps c) b) k) [ inl small ↦ gone.reduced l among b small is divided | inr large ↦ too_high b large ]
          ];
        }

      -- ---- all grades

      abbrev from_degree : ℕ → Bool
      from_degree grade = nat_le ((row p).degree + 1) grade

      abbrev state : ℕ → Finishing n V
      state grade = kills_at n s k p (filter from_degree (numbers_below grade)) (begin_finish n s k f)

      kills_append : (xs ys : List ℕ) (g : Finishing n V) → kills_at n s k p (xs ++ ys) g ≡ kills_at n s k p ys (kills_at n s k p xs g)
      kills_append [] ys g = refl
      kills_append (x ∷ xs) ys g = kills_append xs ys (kill_of n s k p x g)

      state_next : (grade : ℕ) → state (suc grade) ≡ kills_at n s k p (filter from_degree (grade ∷ [])) (state grade)
      state_next grade =
          ap (λ grades. kills_at n s k p grades (begin_finish n s k f)) (filter-append from_degree (numbers_below grade) (grade ∷ []))
          ∙ kills_append (filter from_degree (numbers_below grade)) (filter from_degree (grade ∷ [])) (begin_finish n s k f)

      reached : EndsAt n s c k f → IsSplitUpTo n s c k f → HasPrincipalPart n s c p f → (grade : ℕ) → Reached grade (state grade).form
      reached ends split principal zero = record { ends = ends; split = split; squares = refl; principal = principal; letters = refl; reduced = λ l among b high low divided. absurd (omega arith) }
      reached ends split principal (suc grade) = subst (λ g. Reached (suc grade) g.form) (sym (state_next grade)) (step (from_degree grade) refl (reached ends split principal grade))
        where
          step : (b : Bool) → from_degree grade ≡ b → Reached grade (state grade).form → Reached (suc grade) (kills_at n s k p (cond b (grade ∷ []) []) (state grade)).form
          step false q r = record {
            ends = r.ends;
            split = r.split;
            squares = r.squares;
            principal = r.principal;
            letters = r.letters;
            reduced = λ l among b high low divided. let e = leb-false ((row p).degree + 1) grade q in absurd (omega arith);
          }
          step true q r =
              subst (Reached (suc grade)) (sym (carry_made k order (letters_of n s p (state grade).form) p grade (state grade).form))
              (one_more grade (let e = leb-true ((row p).degree + 1) grade q in omega arith) (state grade).form r)

      whole : EndsAt n s c k f → IsSplitUpTo n s c k f → HasPrincipalPart n s c p f → GradesAreGone n s c k p f
      whole ends split principal =
          let r = reached ends split principal (k * most (row p).weights + 1) in
          record {
            split = r.split;
            squares = r.squares;
            principal = r.principal;
            letters = r.letters;
            reduced = λ l among b high divided. elim (low_or_high (degree (exps c) b) k) [
              | inl low ↦
                  let total = Canonical.degree-entries c b in
                  let light = weight_at_most (row p).weights b.entries (most (row p).weights) (omega arith) in
                  let least = product_grows (sum b.entries) k (most (row p).weights) (omega arith) in
                  r.reduced l among b high (omega arith) divided
              | inr large ↦ r.ends (placed b) (let d = Place.degree-placed (exps n) (exps_are n) (exps c) (exps_are c) fewer b in omega arith)
            ];
          }

module _ {V : Type 0} (s : Scalars V) (laws : ScalarLaws s) where
  pub all_grades_are_gone : AllGradesAreGone s
  all_grades_are_gone n c k p fewer size two order f =
      subst (λ c. c ≤ n → EndsAt n s c k f → IsSplitUpTo n s c k f → HasPrincipalPart n s c p f → LeadsAreInvertible s (letters_of n s p f) p → GradesAreGone n s c k p f) size
      (λ fewer ends split principal units. whole s laws n p fewer k two order f units ends split principal) fewer

  pub only_modulus_is_left : OnlyModulusIsLeft s
  only_modulus_is_left n k base ch among fewer two order f ends split principal units b high = elim ((LeftMonomials.choices_leave_modulus base ch among).only b high) [
    | inl d ↦ inl ((whole s laws n ch.part fewer k two order f units ends split principal).reduced d.lead d.among b high d.divided)
    | inr m ↦ inr m
  ]
