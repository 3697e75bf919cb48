-- A move and its truncation: what they carry, and when that is high.
use Rattle.std.proofs.Common.{◌≡◌, ◌≢◌, ℕ, zero, suc, ◌+◌, ◌<◌, ◌≤◌, ◌⊎◌, inl, inr, Bool, true, false, cond, leb, not, List, [], ◌∷◌, ◌++◌, length, map, get_or, All, length-append, append-nil, refl, sym, ap, ap₂, subst, ◌∙◌, arith}
use Rattle.std.specs.List.{filter, flat_map}
use Rattle.std.proofs.lemmas.Bool.{leb-true, leb-false}
use Rattle.std.proofs.lemmas.List.{map-append}
use Rattle.ring_theory.specs.Scalars.{Scalars, ScalarLaws}
use Rattle.ring_theory.proofs.ValueSet.{values_are_set}
use Rattle.poly_law.specs.Exps.{degree, same, variable}
use Rattle.poly_law.specs.ExpList.{ExpList, exps}
use Rattle.poly_law.specs.Poly.{coefficient, cut, monomial_of, scale, term}
use Rattle.poly_law.specs.Polynomials.{Polynomial, SameIn, SameToIn, HaveNoConstant, substitute}
use Rattle.poly_law.proofs.ExpLists.{exps_are}
use Rattle.poly_law.proofs.ExpLaws
use Rattle.poly_law.proofs.Near
use Rattle.poly_law.proofs.Order
use Rattle.poly_law.proofs.Sums
use Rattle.poly_law.specs.Sorted as sorted
use Rattle.poly_law.proofs.SubstOrder
use Rattle.jet_law.specs.Canonical.{jet}
use Rattle.mono_exp.proofs.Lists.{flat_map-append}
use Rattle.jet_law.proofs.Gather.{filter-append}
use Rattle.jet_law.specs.Heights.{IsHigh, sums_heights}
use Rattle.jet_subst.specs.Powers.{IsReduced, IsTruncation}
use Rattle.jet_subst.specs.Substitutions.{Summand, AreSummands, IsSubstHigh, IsMultipleHigh}
use Rattle.jet_subst.proofs.Reduced
use Rattle.germ_law.proofs.Canonical.{jet_same_to, jet_is_cut, jet_rising, jet_has_no_zero, stands_before, is_order}
use Rattle.coord_change.specs.Moves.{Move, put, linear_part}
use Rattle.coord_change.specs.Carries.{carry}
use Rattle.coord_change.specs.CarryHeights.{IsCarryHigh, IsComposeHigh}
use Rattle.coord_change.proofs.Canonicals.{jet_of_same}
use Rattle.coord_change.proofs.InverseLemmas

module _ {V : Type 0} (n : ℕ) (s : Scalars V) (l : ScalarLaws s) (k : ℕ) where
  module _ (u v : ℕ → Polynomial n V) (same : (i : ℕ) → i < n → SameToIn n s.ops k (u i) (v i)) where
    image-term : (w : ℕ → Polynomial n V) (a : ExpList n) → SameIn n s.ops (substitute n n s.ops w (term (exps n) s.ops a)) (monomial_of (exps n) (exps n) s.ops w a)
    image-term w a b =
        SubstOrder.coefficient-subst (exps n) (exps_are n) (exps n) (exps_are n) s.ops l.ring (values_are_set s l) w (term (exps n) s.ops a) b
        ∙ Near.pair-term (exps n) (exps_are n) s.ops l.ring (values_are_set s l) a (λ a. coefficient (exps n) s.ops (monomial_of (exps n) (exps n) s.ops w a) b)

    -- what agrees up to degree k has monomials that agree up to degree k
    monomial_same_to : (a : ExpList n) → SameToIn n s.ops k (monomial_of (exps n) (exps n) s.ops u a) (monomial_of (exps n) (exps n) s.ops v a)
    monomial_same_to a b h =
        sym (image-term u a b)
        ∙ SubstOrder.parts_same_to (exps n) (exps_are n) (exps n) (exps_are n) s.ops l.ring (values_are_set s l) k u v same (term (exps n) s.ops a) b h
        ∙ image-term v a b

    truncation_same : (a : ExpList n) (p : Polynomial n V) → IsTruncation (exps n) s.ops k (monomial_of (exps n) (exps n) s.ops u a) p → IsTruncation (exps n) s.ops k (monomial_of (exps n) (exps n) s.ops v a) p
    truncation_same a p = Reduced.truncation_same_to (exps n) (exps_are n) s.ops l.ring k (monomial_of (exps n) (exps n) s.ops u a) (monomial_of (exps n) (exps n) s.ops v a) p (monomial_same_to a)

    -- and substitutions up to degree k that are high together
    pub subst_high : (f : Polynomial n V) → IsSubstHigh (exps n) (exps n) s k u f → IsSubstHigh (exps n) (exps n) s k v f
    subst_high f (inl h) = inl (record {
      exponent = h.exponent;
      stands = h.stands;
      high = record {
        first = h.high.first;
        second = h.high.second;
        rest = h.high.rest;
        divides = h.high.divides;
        left = h.high.left;
        right = h.high.right;
        left_is = truncation_same h.high.first h.high.left h.high.left_is;
        right_is = truncation_same h.high.second h.high.right h.high.right_is;
        high = h.high.high;
      };
    })
    subst_high f (inr (inl h)) = inr (inl (record { exponent = h.exponent; stands = h.stands; power = h.power; power_is = truncation_same h.exponent h.power h.power_is; high = h.high }))
    subst_high f (inr (inr h)) = inr (inr (record {
      summands = h.summands;
      are = record {
        reduced = h.are.reduced;
        equal = h.are.equal;
        powers = λ i (d : Summand (ExpList n) (ExpList n) V) g. truncation_same (get_or h.summands i d).exponent (get_or h.summands i d).power (h.are.powers i d g);
      };
      high = h.high;
    }))

  -- moves that agree up to degree k carry polynomials alike up to degree k
  module _ (move other : Move n V) (same : (i : ℕ) → i < n → SameToIn n s.ops k (put n s move i) (put n s other i)) where
    pub carry_same : (f : Polynomial n V) → carry n s k move f ≡ carry n s k other f
    unfolding carry
    carry_same f =
        jet_of_same n s l k (substitute n n s.ops (put n s move) f) (substitute n n s.ops (put n s other) f)
        (SubstOrder.parts_same_to (exps n) (exps_are n) (exps n) (exps_are n) s.ops l.ring (values_are_set s l) k (put n s move) (put n s other) same f)

    pub carry_high : (f : Polynomial n V) → IsCarryHigh n s k move f → IsCarryHigh n s k other f
    carry_high f = subst_high (put n s move) (put n s other) same f

  -- ---- what a truncated move puts

  put_jet : (move : Move n V) (i : ℕ) → (put n s (map (jet n s k) move) i ≡ jet n s k (put n s move i)) ⊎ (put n s (map (jet n s k) move) i ≡ put n s move i)
  put_jet [] i = inr refl
  put_jet (p ∷ move) zero = inl refl
  put_jet (p ∷ move) (suc i) = put_jet move i

  pub put_same : (move : Move n V) (i : ℕ) → SameToIn n s.ops k (put n s (map (jet n s k) move) i) (put n s move i)
  put_same move i b h = elim (put_jet move i) [
    | inl e ↦ ap (λ f. coefficient (exps n) s.ops f b) e ∙ jet_same_to n s l k (put n s move i) b h
    | inr e ↦ ap (λ f. coefficient (exps n) s.ops f b) e
  ]

  -- carrying by a truncated move
  pub carry-truncated : (move : Move n V) (f : Polynomial n V) → carry n s k (map (jet n s k) move) f ≡ carry n s k move f
  carry-truncated move = carry_same (map (jet n s k) move) move (λ i h. put_same move i)

  pub high_truncated : (move : Move n V) (f : Polynomial n V) → IsCarryHigh n s k (map (jet n s k) move) f → IsCarryHigh n s k move f
  high_truncated move = carry_high (map (jet n s k) move) move (λ i h. put_same move i)

  -- ---- a polynomial in place of its jet

  -- no term has a greater degree
  abbrev bound : Polynomial n V → ℕ
  bound [] = 0
  bound (t ∷ f) = degree (exps n) t.0 + bound f

  other : (a b : ExpList n) → (degree (exps n) a ≡ degree (exps n) b → ⊥) → same (exps n) a b ≡ false
  other a b ne = ExpLaws.same-no (exps n) (exps_are n) a b (λ e. ne (ap (degree (exps n)) e))

  above_bound : (f : Polynomial n V) (b : ExpList n) → bound f < degree (exps n) b → coefficient (exps n) s.ops f b ≡ s.ops.zero
  above_bound [] b h = refl
  above_bound (t ∷ f) b h =
      ap₂ (λ c z. s.ops.add (cond c t.1 s.ops.zero) z) (other t.0 b (λ e. omega arith)) (above_bound f b (omega arith)) ∙ l.ring.add_zero s.ops.zero

  no_terms : (f : Polynomial n V) (b : ExpList n) → length (filter (λ t. same (exps n) t.0 b) f) ≤ 0 → coefficient (exps n) s.ops f b ≡ s.ops.zero
  no_terms [] b h = refl
  no_terms (t ∷ f) b h = step (same (exps n) t.0 b) h (no_terms f b)
    where
      step : (c : Bool) → length (cond c (t ∷ filter (λ t. same (exps n) t.0 b) f) (filter (λ t. same (exps n) t.0 b) f)) ≤ 0
          → (length (filter (λ t. same (exps n) t.0 b) f) ≤ 0 → coefficient (exps n) s.ops f b ≡ s.ops.zero) → s.ops.add (cond c t.1 s.ops.zero) (coefficient (exps n) s.ops f b) ≡ s.ops.zero
      step true g rest = absurd (omega arith)
      step false g rest = ap (s.ops.add s.ops.zero) (rest g) ∙ l.ring.add_zero s.ops.zero

  -- where the coefficient is zero, a reduced list has no term
  none_there : (f : Polynomial n V) (b : ExpList n) → length (filter (λ t. same (exps n) t.0 b) f) ≤ 1 → All (λ t. t.1 ≢ s.ops.zero) f → coefficient (exps n) s.ops f b ≡ s.ops.zero
      → length (filter (λ t. same (exps n) t.0 b) f) ≡ 0
  none_there [] b once units e = refl
  none_there (t ∷ f) b once units e = step (same (exps n) t.0 b) once e (λ o z. none_there f b o (λ i d h. units (suc i) d (omega arith)) z)
    where
      step : (c : Bool) → length (cond c (t ∷ filter (λ t. same (exps n) t.0 b) f) (filter (λ t. same (exps n) t.0 b) f)) ≤ 1 → s.ops.add (cond c t.1 s.ops.zero) (coefficient (exps n) s.ops f b) ≡ s.ops.zero
          → (length (filter (λ t. same (exps n) t.0 b) f) ≤ 1 → coefficient (exps n) s.ops f b ≡ s.ops.zero → length (filter (λ t. same (exps n) t.0 b) f) ≡ 0)
          → length (cond c (t ∷ filter (λ t. same (exps n) t.0 b) f) (filter (λ t. same (exps n) t.0 b) f)) ≡ 0
      step true o z rest = absurd (units 0 t (omega arith) (sym (ap (s.ops.add t.1) (no_terms f b (omega arith)) ∙ l.ring.add_zero t.1) ∙ z))
      step false o z rest = rest o (sym (Sums.zero_add s.ops l.ring (coefficient (exps n) s.ops f b)) ∙ z)

  -- the terms of degree above k
  abbrev high_part : Polynomial n V → Polynomial n V
  high_part g = filter (λ t. not (leb (degree (exps n) t.0) k)) g

  none_high : (g : Polynomial n V) (b : ExpList n) → degree (exps n) b ≤ k → length (filter (λ t. same (exps n) t.0 b) (high_part g)) ≡ 0
  none_high [] b h = refl
  none_high (t ∷ g) b h = step (leb (degree (exps n) t.0) k) refl (none_high g b h)
    where
      step : (c : Bool) → leb (degree (exps n) t.0) k ≡ c → length (filter (λ t. same (exps n) t.0 b) (high_part g)) ≡ 0 → length (filter (λ t. same (exps n) t.0 b) (cond (not c) (t ∷ high_part g) (high_part g))) ≡ 0
      step true e rest = rest
      step false e rest = ap (λ c. length (cond c (t ∷ filter (λ t. same (exps n) t.0 b) (high_part g)) (filter (λ t. same (exps n) t.0 b) (high_part g)))) (other t.0 b (λ q. let z = leb-false (degree (exps n) t.0) k e in omega arith)) ∙ rest

  fewer : (g : Polynomial n V) (b : ExpList n) → length (filter (λ t. same (exps n) t.0 b) (high_part g)) ≤ length (filter (λ t. same (exps n) t.0 b) g)
  fewer [] b = omega arith
  fewer (t ∷ g) b = step (not (leb (degree (exps n) t.0) k)) (same (exps n) t.0 b) (fewer g b) refl
    where
      step : (c d : Bool) → length (filter (λ t. same (exps n) t.0 b) (high_part g)) ≤ length (filter (λ t. same (exps n) t.0 b) g)
          → same (exps n) t.0 b ≡ d → length (filter (λ t. same (exps n) t.0 b) (cond c (t ∷ high_part g) (high_part g)))
          ≤ length (cond d (t ∷ filter (λ t. same (exps n) t.0 b) g) (filter (λ t. same (exps n) t.0 b) g))
      step true true h e = subst (λ d. length (cond d (t ∷ filter (λ t. same (exps n) t.0 b) (high_part g)) (filter (λ t. same (exps n) t.0 b) (high_part g))) ≤ suc (length (filter (λ t. same (exps n) t.0 b) g))) (sym e) (omega arith)
      step true false h e = subst (λ d. length (cond d (t ∷ filter (λ t. same (exps n) t.0 b) (high_part g)) (filter (λ t. same (exps n) t.0 b) (high_part g))) ≤ length (filter (λ t. same (exps n) t.0 b) g)) (sym e) h
      step false true h e = omega arith
      step false false h e = h

  none_after : (a b : ExpList n) (g : Polynomial n V) → a ≡ b → sorted.AllAfter (stands_before n) a g → length (filter (λ t. same (exps n) t.0 b) g) ≡ 0
  none_after a b [] e h = refl
  none_after a b (t ∷ g) e h =
      ap (λ c. length (cond c (t ∷ filter (λ t. same (exps n) t.0 b) g) (filter (λ t. same (exps n) t.0 b) g)))
      (ExpLaws.same-no (exps n) (exps_are n) t.0 b (λ q. let bad : false ≡ true = sym ((is_order n).irreflexive a) ∙ ap (stands_before n a) (e ∙ sym q) ∙ h.0 in cc bad)) ∙ none_after a b g e h.1

  rising_once : (g : Polynomial n V) → sorted.IsRising (stands_before n) g → (b : ExpList n) → length (filter (λ t. same (exps n) t.0 b) g) ≤ 1
  rising_once [] h b = omega arith
  rising_once (t ∷ g) h b = step (same (exps n) t.0 b) refl (rising_once g h.1 b)
    where
      step : (c : Bool) → same (exps n) t.0 b ≡ c → length (filter (λ t. same (exps n) t.0 b) g) ≤ 1 → length (cond c (t ∷ filter (λ t. same (exps n) t.0 b) g) (filter (λ t. same (exps n) t.0 b) g)) ≤ 1
      step true e o = let z = none_after t.0 b g (ExpLaws.same-eq (exps n) (exps_are n) t.0 b e) h.0 in omega arith
      step false e o = o

  units_high : (g : Polynomial n V) → sorted.HasNoZero s.ops.zero g → All (λ t. t.1 ≢ s.ops.zero) (high_part g)
  units_high [] h = λ i d q. absurd (omega arith)
  units_high (t ∷ g) h = step (not (leb (degree (exps n) t.0) k)) (units_high g h.1)
    where
      step : (c : Bool) → All (λ t. t.1 ≢ s.ops.zero) (high_part g) → All (λ t. t.1 ≢ s.ops.zero) (cond c (t ∷ high_part g) (high_part g))
      step true rest = λ i d q. here rest i d q
        where
          here : All (λ t. t.1 ≢ s.ops.zero) (high_part g) → All (λ t. t.1 ≢ s.ops.zero) (t ∷ high_part g)
          here rest zero d q = h.0
          here rest (suc i) d q = rest i d (omega arith)
      step false rest = rest

  all_two : {X : Type 0} (P : X → Type 0) (xs ys : List X) → All P xs → All P ys → All P (xs ++ ys)
  all_two P [] ys a b i d h = b i d h
  all_two P (x ∷ xs) ys a b zero d h = a 0 d (omega arith)
  all_two P (x ∷ xs) ys a b (suc i) d h = all_two P xs ys (λ j e g. a (suc j) e (omega arith)) b i d (omega arith)

  abbrev Piece : Type 0
  Piece = Summand (ExpList n) (ExpList n) V

  -- a term whose power has nothing up to degree k
  abbrev idle : ExpList n × V → Piece
  idle t = record { exponent = t.0; factor = t.1; power = [] }

  idle_terms : (g : Polynomial n V) → map (λ (u : Piece). (u.exponent, u.factor)) (map idle g) ≡ g
  idle_terms [] = refl
  idle_terms (t ∷ g) = ap (λ z. t ∷ z) (idle_terms g)

  idle_sum : (g : Polynomial n V) → flat_map (λ (u : Piece). scale (exps n) s.ops u.factor u.power) (map idle g) ≡ []
  idle_sum [] = refl
  idle_sum (t ∷ g) = idle_sum g

  module _ (parts : ℕ → Polynomial n V) (low : HaveNoConstant n s.ops n parts) where
    idle_power : (e : ExpList n) → k < degree (exps n) e → IsTruncation (exps n) s.ops k (monomial_of (exps n) (exps n) s.ops parts e) []
    idle_power e h = record {
      reduced = record { once = λ b. omega arith; units = λ i d q. absurd (omega arith) };
      equal = λ b. sym (Order.coefficient-cut (exps n) (exps_are n) s.ops l.ring k (monomial_of (exps n) (exps n) s.ops parts e) b ∙ step b (leb (degree (exps n) b) k) refl);
    }
      where
        step : (b : ExpList n) (c : Bool) → leb (degree (exps n) b) k ≡ c → cond c (coefficient (exps n) s.ops (monomial_of (exps n) (exps n) s.ops parts e) b) s.ops.zero ≡ s.ops.zero
        step b true q = SubstOrder.starts_monomial (exps n) (exps_are n) s.ops l.ring n parts ((exps n).at e) low b (let z = leb-true (degree (exps n) b) k q in omega arith)
        step b false q = refl

    idle_powers : (g : Polynomial n V) → All (λ (u : Piece). IsTruncation (exps n) s.ops k (monomial_of (exps n) (exps n) s.ops parts u.exponent) u.power) (map idle (high_part g))
    idle_powers [] = λ i d q. absurd (omega arith)
    idle_powers (t ∷ g) = step (leb (degree (exps n) t.0) k) refl (idle_powers g)
      where
        step : (c : Bool) → leb (degree (exps n) t.0) k ≡ c → All (λ (u : Piece). IsTruncation (exps n) s.ops k (monomial_of (exps n) (exps n) s.ops parts u.exponent) u.power) (map idle (high_part g))
            → All (λ (u : Piece). IsTruncation (exps n) s.ops k (monomial_of (exps n) (exps n) s.ops parts u.exponent) u.power) (map idle (cond (not c) (t ∷ high_part g) (high_part g)))
        step true e rest i d q = rest i d q
        step false e rest zero d q = idle_power t.0 (leb-false (degree (exps n) t.0) k e)
        step false e rest (suc i) d q = rest i d (omega arith)

    module _ (f : Polynomial n V) where
      abbrev all : Polynomial n V
      all = jet n s (k + bound f) f

      all_same : (b : ExpList n) → coefficient (exps n) s.ops all b ≡ coefficient (exps n) s.ops f b
      all_same b = jet_is_cut n s l (k + bound f) f b ∙ Order.coefficient-cut (exps n) (exps_are n) s.ops l.ring (k + bound f) f b ∙ step (leb (degree (exps n) b) (k + bound f)) refl
        where
          step : (c : Bool) → leb (degree (exps n) b) (k + bound f) ≡ c → cond c (coefficient (exps n) s.ops f b) s.ops.zero ≡ coefficient (exps n) s.ops f b
          step true e = refl
          step false e = sym (above_bound f b (let z = leb-false (degree (exps n) b) (k + bound f) e in omega arith))

      high_at : (b : ExpList n) → coefficient (exps n) s.ops (high_part all) b ≡ cond (not (leb (degree (exps n) b) k)) (coefficient (exps n) s.ops f b) s.ops.zero
      high_at b = Order.coefficient-filter (exps n) (exps_are n) s.ops l.ring (λ e. not (leb (degree (exps n) e) k)) all b ∙ ap (λ z. cond (not (leb (degree (exps n) b) k)) z s.ops.zero) (all_same b)

      low_at : (b : ExpList n) → coefficient (exps n) s.ops (jet n s k f) b ≡ cond (leb (degree (exps n) b) k) (coefficient (exps n) s.ops f b) s.ops.zero
      low_at b = jet_is_cut n s l k f b ∙ Order.coefficient-cut (exps n) (exps_are n) s.ops l.ring k f b

      -- a coefficient that the jet has is that of the polynomial
      kept : (e : ExpList n) → coefficient (exps n) s.ops (jet n s k f) e ≢ s.ops.zero → coefficient (exps n) s.ops (jet n s k f) e ≡ coefficient (exps n) s.ops f e
      kept e h = step (leb (degree (exps n) e) k) (low_at e)
        where
          step : (c : Bool) → coefficient (exps n) s.ops (jet n s k f) e ≡ cond c (coefficient (exps n) s.ops f e) s.ops.zero → coefficient (exps n) s.ops (jet n s k f) e ≡ coefficient (exps n) s.ops f e
          step true q = q
          step false q = absurd (h q)

      -- the summands of the jet, and the other terms
      module _ (pieces : List Piece) (are : AreSummands (exps n) (exps n) s k parts (jet n s k f) pieces) where
        abbrev terms : Polynomial n V
        terms = map (λ (u : Piece). (u.exponent, u.factor)) pieces

        abbrev longer : List Piece
        longer = pieces ++ map idle (high_part all)

        longer_terms : map (λ (u : Piece). (u.exponent, u.factor)) longer ≡ terms ++ high_part all
        longer_terms = map-append (λ (u : Piece). (u.exponent, u.factor)) pieces (map idle (high_part all)) ∙ ap (λ z. terms ++ z) (idle_terms (high_part all))

        counts : (b : ExpList n) → length (filter (λ t. same (exps n) t.0 b) (terms ++ high_part all)) ≡ length (filter (λ t. same (exps n) t.0 b) terms) + length (filter (λ t. same (exps n) t.0 b) (high_part all))
        counts b = ap length (filter-append (λ t. same (exps n) t.0 b) terms (high_part all)) ∙ length-append (filter (λ t. same (exps n) t.0 b) terms) (filter (λ t. same (exps n) t.0 b) (high_part all))

        once : (b : ExpList n) → length (filter (λ t. same (exps n) t.0 b) (terms ++ high_part all)) ≤ 1
        once b = step (leb (degree (exps n) b) k) refl
          where
            step : (c : Bool) → leb (degree (exps n) b) k ≡ c → length (filter (λ t. same (exps n) t.0 b) (terms ++ high_part all)) ≤ 1
            step true e = let z = none_high all b (leb-true (degree (exps n) b) k e) in let o = are.reduced.once b in let q = counts b in omega arith
            step false e =
                let z = none_there terms b (are.reduced.once b) are.reduced.units (are.equal b ∙ low_at b ∙ ap (λ c. cond c (coefficient (exps n) s.ops f b) s.ops.zero) e) in
                let o = rising_once all (jet_rising n s l (k + bound f) f) b in
                let w = fewer all b in
                let q = counts b in
                omega arith

        equal : (b : ExpList n) → coefficient (exps n) s.ops (terms ++ high_part all) b ≡ coefficient (exps n) s.ops f b
        equal b =
            Order.coefficient-append (exps n) (exps_are n) s.ops l.ring terms (high_part all) b
            ∙ ap₂ s.ops.add (are.equal b ∙ low_at b) (high_at b) ∙ step (leb (degree (exps n) b) k)
          where
            step : (c : Bool) → s.ops.add (cond c (coefficient (exps n) s.ops f b) s.ops.zero) (cond (not c) (coefficient (exps n) s.ops f b) s.ops.zero) ≡ coefficient (exps n) s.ops f b
            step true = l.ring.add_zero (coefficient (exps n) s.ops f b)
            step false = Sums.zero_add s.ops l.ring (coefficient (exps n) s.ops f b)

        longer_are : AreSummands (exps n) (exps n) s k parts f longer
        longer_are = record {
          reduced = subst (IsReduced (exps n) s.ops) (sym longer_terms)
              (record { once = once; units = all_two (λ t. t.1 ≢ s.ops.zero) terms (high_part all) are.reduced.units (units_high all (jet_has_no_zero n s l (k + bound f) f)) });
          equal = λ b. ap (λ z. coefficient (exps n) s.ops z b) longer_terms ∙ equal b;
          powers = all_two (λ (u : Piece). IsTruncation (exps n) s.ops k (monomial_of (exps n) (exps n) s.ops parts u.exponent) u.power) pieces (map idle (high_part all)) are.powers (idle_powers all);
        }

        longer_sum : flat_map (λ (u : Piece). scale (exps n) s.ops u.factor u.power) longer ≡ flat_map (λ (u : Piece). scale (exps n) s.ops u.factor u.power) pieces
        longer_sum =
            flat_map-append (λ (u : Piece). scale (exps n) s.ops u.factor u.power) pieces (map idle (high_part all))
            ∙ ap (λ z. flat_map (λ (u : Piece). scale (exps n) s.ops u.factor u.power) pieces ++ z) (idle_sum (high_part all))
            ∙ append-nil (flat_map (λ (u : Piece). scale (exps n) s.ops u.factor u.power) pieces)

      -- substituting in a truncated polynomial is high only where substituting in the polynomial is
      high_in_jet : IsSubstHigh (exps n) (exps n) s k parts (jet n s k f) → IsSubstHigh (exps n) (exps n) s k parts f
      high_in_jet (inl h) = inl (record { exponent = h.exponent; stands = λ z. h.stands (kept h.exponent h.stands ∙ z); high = h.high })
      high_in_jet (inr (inl h)) = inr (inl (record {
        exponent = h.exponent;
        stands = λ z. h.stands (kept h.exponent h.stands ∙ z);
        power = h.power;
        power_is = h.power_is;
        high = subst (λ z. IsMultipleHigh s z h.power) (kept h.exponent h.stands) h.high;
      }))
      high_in_jet (inr (inr h)) = inr (inr (record {
        summands = longer h.summands h.are;
        are = longer_are h.summands h.are;
        high = subst (λ z. IsHigh (sums_heights (exps n) s (cut (exps n) s.ops k z))) (sym (longer_sum h.summands h.are)) h.high;
      }))

  -- the linear part of a truncated move
  pub linear_same : 1 ≤ k → (move : Move n V) (i j : ℕ) → i < n → j < n → linear_part n s (map (jet n s k) move) i j ≡ linear_part n s move i j
  linear_same one move i j h g = put_same move i (variable (exps n) j) (let d = ExpLaws.degree-variable (exps n) (exps_are n) j g in omega arith)

  -- composing truncated moves is high only where composing the moves is
  pub compose_high : 1 ≤ k → (first next : Move n V) → HaveNoConstant n s.ops n (put n s next) → IsComposeHigh n s k (map (jet n s k) first) (map (jet n s k) next) → IsComposeHigh n s k first next
  compose_high one first next low (inl h) = inl (record {
    variable = h.variable;
    inside = h.inside;
    high = elim (put_jet first h.variable) [
      | inl e ↦ high_in_jet (put n s next) low (put n s first h.variable) (subst (IsCarryHigh n s k next) e (high_truncated next _ h.high))
      | inr e ↦ subst (IsCarryHigh n s k next) e (high_truncated next _ h.high)
    ];
  })
  compose_high one first next low (inr h) = inr (record {
    first_inverse = h.first_inverse;
    next_inverse = h.next_inverse;
    first_is = InverseLemmas.inverse_of_same s.ops l.ring n (linear_part n s (map (jet n s k) first)) (linear_part n s first) (linear_same one first) h.first_inverse h.first_is;
    next_is = InverseLemmas.inverse_of_same s.ops l.ring n (linear_part n s (map (jet n s k) next)) (linear_part n s next) (linear_same one next) h.next_inverse h.next_is;
    high = h.high;
  })
