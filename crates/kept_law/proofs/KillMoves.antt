-- What the kill of a grade above that of its part keeps.
use Rattle.std.proofs.Common.{◌≡◌, ℕ, suc, ◌+◌, ◌-◌, ◌<◌, ◌≤◌, ◌⊎◌, inl, inr, Bool, true, false, cond, leb-true, List, [], ◌∷◌, length, refl, sym, ap, subst, ◌∙◌, arith}
use Rattle.ring_theory.specs.Scalars.{Scalars, ScalarLaws}
use Rattle.ring_theory.proofs.ValueSet.{values_are_set}
use Rattle.poly_law.specs.Exps.{plus, variable, degree, same}
use Rattle.poly_law.specs.ExpList.{ExpList, exps}
use Rattle.poly_law.specs.Poly.{combination}
use Rattle.poly_law.specs.Polynomials.{Polynomial, SameToIn, StartsAtIn, coefficient_in, substitute}
use Rattle.poly_law.proofs.ExpLists.{exps_are}
use Rattle.poly_law.proofs.ExpLaws
use Rattle.poly_law.proofs.Order
use Rattle.poly_law.proofs.Place
use Rattle.poly_law.proofs.SubstOrder
use Rattle.mono_exp.specs.Exponents.{numbers_below, weighted_degree_of}
use Rattle.mono_exp.proofs.Lists.{Each, each-weaker, map-same, numbers_are_below}
use Rattle.jet_law.specs.Canonical.{monomial_in}
use Rattle.germ_law.proofs.Canonical
use Rattle.kill_law.specs.declared.part.Part.{Part}
use Rattle.kill_law.specs.Table.{row}
use Rattle.kill_law.specs.Kill.{letters_of}
use Rattle.kill_law.specs.Taken.{killed, kill_move}
use Rattle.kill_law.proofs.Taylor
use Rattle.kill_law.proofs.Taylor.{AllFrom}
use Rattle.coord_change.specs.Moves.{at, put}
use Rattle.coord_change.specs.Carries.{carry}
use Rattle.move_law.specs.Moves.{pair_exponents}
use Rattle.move_law.specs.Split.{squares_in}
use Rattle.split_lemma.specs.SplitForms.{IsSplitUpTo}
use Rattle.split_lemma.proofs.Residuals
use Rattle.split_lemma.proofs.Residuals.{at_mapped}
use Rattle.kept_law.specs.KeptParts.{IsBasePart, StartsAtPart, kill_off, AllKillsKeep, KillsLeaveOthers}
use Rattle.kept_law.proofs.Agreeing.{letters_agree, low_agrees}
use Rattle.kept_law.proofs.PartDegrees.{part_degree}
use Rattle.kept_law.proofs.LeadTable
use Rattle.kept_law.proofs.OwnMoves

all_from : {n : ℕ} {V : Type 0} (weight : ExpList n → ℕ) (d : ℕ) (f : Polynomial n V) → Each (λ (t : ExpList n × V). d ≤ weight t.0) f → AllFrom weight d f
all_from weight d [] h = tt
all_from weight d (t ∷ f) h = (h.0, all_from weight d f h.1)

-- squares whose coefficients are the same
squares_from : {V : Type 0} (n : ℕ) (s : Scalars V) (c : ℕ) (f g : Polynomial n V)
    → ((w : ℕ) → c ≤ w → w < n → at n s f (pair_exponents n w w) ≡ at n s g (pair_exponents n w w)) → squares_in n s c f ≡ squares_in n s c g
squares_from n s c f g e = map-same (λ i. i < n - c) (λ i. at n s f (pair_exponents n (c + i) (c + i))) (λ i. at n s g (pair_exponents n (c + i) (c + i)))
    (λ i h. e (c + i) (omega arith) (omega arith)) (numbers_below (n - c)) (numbers_are_below (n - c))

module _ {V : Type 0} (n c : ℕ) (fewer : c ≤ n) (p : Part) (size : length (row p).weights ≡ c) (grade : ℕ) (above : (row p).degree < grade)
    (s : Scalars V) (laws : ScalarLaws s) (letters : List V) (f : Polynomial n V) where
  abbrev set : IsSet V
  set = values_are_set s laws

  abbrev pub e : ℕ
  e = grade - (row p).degree

  pub fits : length (row p).weights ≤ n
  fits = omega arith

  abbrev pub taken : ℕ → Polynomial n V
  taken i = LeadTable.takes n p fits grade s letters f i

  abbrev pub weight : ExpList n → ℕ
  weight m = LeadTable.wd n p fits m

  pub own : (i : ℕ) → i < c → i < n → (w : ℕ) → c ≤ w → w < n → OwnMoves.HasExponent (exps n) (exps_are n) s laws w 0 (taken i)
  own i h g w past inside =
      each-weaker (λ (t : ExpList n × V). LeadTable.OfShare n p fits grade i t.0) (λ (t : ExpList n × V). (exps n).at t.0 w ≡ 0) (λ t q. q.0 w (omega arith) inside) (taken i)
      (LeadTable.takes_share n p fits grade s letters f i (omega arith))

  pub nothing : (i : ℕ) → c ≤ i → i < n → taken i ≡ []
  nothing i h g = LeadTable.takes_none n p fits grade s letters f i (omega arith)

  -- what is taken weighs e more than the variable
  pub high : (i : ℕ) → i < n → AllFrom weight (weight (variable (exps n) i) + e) (taken i)
  high i h = elim (OwnMoves.low_or_high c i) [
    | inl past ↦ subst (AllFrom weight (weight (variable (exps n) i) + e)) (sym (nothing i past h)) tt
    | inr less ↦
        all_from weight (weight (variable (exps n) i) + e) (taken i)
        (each-weaker (λ (t : ExpList n × V). LeadTable.OfShare n p fits grade i t.0) (λ (t : ExpList n × V). weight (variable (exps n) i) + e ≤ weight t.0)
        (λ t q. let v = LeadTable.wd-variable n p fits i (omega arith) in let y = q.1 in omega arith)
        (taken i) (LeadTable.takes_share n p fits grade s letters f i (omega arith)))
  ]

  -- and has no constant term
  pub low : (i : ℕ) → i < n → StartsAtIn n s.ops 1 (taken i)
  low i h = Taylor.low_zero (exps n) (exps_are n) s.ops laws.ring set (degree (exps n)) (ExpLaws.degree-plus (exps n) (exps_are n)) 1 (taken i) (elim (OwnMoves.low_or_high c i) [
    | inl past ↦ subst (AllFrom (degree (exps n)) 1) (sym (nothing i past h)) tt
    | inr less ↦
        all_from (degree (exps n)) 1 (taken i)
        (each-weaker (λ (t : ExpList n × V). LeadTable.OfShare n p fits grade i t.0) (λ (t : ExpList n × V). 1 ≤ degree (exps n) t.0)
        (λ t q. LeadTable.degree-positive n p fits t.0 (let y = q.1 in omega arith))
        (taken i) (LeadTable.takes_share n p fits grade s letters f i (omega arith)))
  ])

  abbrev pub moved : ExpList n → V
  moved m = OwnMoves.moved (exps n) (exps_are n) s laws c taken own nothing low f m

  -- the jet that the kill makes
  pub killed_is : (k : ℕ) (m : ExpList n) → degree (exps n) m ≤ k → coefficient_in n s.ops (carry n s k (kill_move n s letters p grade f) f) m ≡ moved m
  unfolding carry kill_move
  killed_is k m h =
      Canonical.jet_same_to n s laws k (substitute n n s.ops (put n s (kill_move n s letters p grade f)) f) m h
      ∙ SubstOrder.parts_same_to (exps n) (exps_are n) (exps n) (exps_are n) s.ops laws.ring set k
      (put n s (kill_move n s letters p grade f)) (λ i. (variable (exps n) i, s.ops.one) ∷ taken i)
      (λ i g a q. ap (λ z. coefficient_in n s.ops z a) (at_mapped (killed n s letters p grade f) n i [] g)) f m h

  -- ---- the terms without square variables

  abbrev pub Own : ExpList n → Type 0
  Own m = (w : ℕ) → c ≤ w → w < n → (exps n).at m w ≡ 0

  abbrev pub pure : ExpList n → Bool
  pure = Place.pure (exps n) (exps_are n) (exps c) (exps_are c) fewer

  pub pure_yes : (a : ExpList n) → pure a ≡ true → Own a
  pure_yes a q w past inside = Place.pure-past (exps n) (exps_are n) (exps c) (exps_are c) fewer a q w past inside

  pub pure_no : (a : ExpList n) → pure a ≡ false → Own a → ⊥
  pure_no a q none = bad (sym q ∙ Place.pure-from (exps n) (exps_are n) (exps c) (exps_are c) fewer a none)
    where
      bad : false ≡ true → ⊥
      bad y = cc y

  -- a monomial without square variables, or with one
  pub some_square : (m : ExpList n) → Own m ⊎ ((w : ℕ) × (c ≤ w) × (w < n) × (0 < (exps n).at m w))
  some_square m = OwnMoves.some_square (exps n) (exps_are n) s laws c taken own nothing low m n (omega arith)

  module _ (k : ℕ) (split : IsSplitUpTo n s c k f) where
    abbrev pub pure_terms : Polynomial n V
    pure_terms = OwnMoves.pure_terms (exps n) (exps_are n) s laws c taken own nothing low f k split pure pure_yes pure_no

    pub split_after : IsSplitUpTo n s c k (carry n s k (kill_move n s letters p grade f) f)
    split_after m w past inside has ne h =
        killed_is k m h ∙ OwnMoves.stays_split (exps n) (exps_are n) s laws c taken own nothing low f k split m w past inside has ne h

    -- what is no monomial without square variables stays
    pub mixed_stays : (j : ℕ) → j ≤ k → (m : ExpList n) → degree (exps n) m ≤ j → (w : ℕ) → c ≤ w → w < n → 0 < (exps n).at m w → moved m ≡ coefficient_in n s.ops f m
    mixed_stays j le m h w past inside has = is_square (same (exps n) m (plus (exps n) (variable (exps n) w) (variable (exps n) w))) refl
      where
        is_square : (b : Bool) → same (exps n) m (plus (exps n) (variable (exps n) w) (variable (exps n) w)) ≡ b → moved m ≡ coefficient_in n s.ops f m
        is_square true q =
            subst (λ z. moved z ≡ coefficient_in n s.ops f z) (sym (ExpLaws.same-eq (exps n) (exps_are n) m (plus (exps n) (variable (exps n) w) (variable (exps n) w)) q))
            (OwnMoves.square_kept (exps n) (exps_are n) s laws c taken own nothing low f k split w past inside)
        is_square false q =
            let ne : m ≡ plus (exps n) (variable (exps n) w) (variable (exps n) w) → ⊥ = λ z. bad (sym q ∙ ap (λ y. same (exps n) y (plus (exps n) (variable (exps n) w) (variable (exps n) w))) z ∙ ExpLaws.same_refl (exps n) (exps_are n) (plus (exps n) (variable (exps n) w) (variable (exps n) w))) in
            OwnMoves.stays_split (exps n) (exps_are n) s laws c taken own nothing low f k split m w past inside has ne (omega arith)
            ∙ sym (split m w past inside has ne (omega arith))
          where
            bad : false ≡ true → ⊥
            bad y = cc y

    pub squares_after : 2 ≤ k → squares_in n s c (carry n s k (kill_move n s letters p grade f) f) ≡ squares_in n s c f
    squares_after two = squares_from n s c (carry n s k (kill_move n s letters p grade f) f) f λ w past inside.
        let at = Residuals.square_degree n w inside in
        killed_is k (monomial_in n (pair_exponents n w w)) (omega arith)
        ∙ subst (λ z. moved z ≡ coefficient_in n s.ops f z) (Residuals.square_is n w) (OwnMoves.square_kept (exps n) (exps_are n) s laws c taken own nothing low f k split w past inside)

    module _ (light : (m : ExpList n) → Own m → weight m < (row p).degree → coefficient_in n s.ops f m ≡ s.ops.zero) where
      pure_light : (m : ExpList n) → weight m < (row p).degree → coefficient_in n s.ops pure_terms m ≡ s.ops.zero
      pure_light m h = Order.coefficient-filter (exps n) (exps_are n) s.ops laws.ring pure f m ∙ step (pure m) refl
        where
          step : (b : Bool) → pure m ≡ b → cond b (coefficient_in n s.ops f m) s.ops.zero ≡ s.ops.zero
          step true q = light m (pure_yes m q) h
          step false q = refl

      -- what a monomial without square variables gets
      pub pure_moved : (m : ExpList n) → Own m → weight m ≤ grade → moved m ≡ s.ops.add (coefficient_in n s.ops f m) (coefficient_in n s.ops (combination (exps n) s.ops taken pure_terms) m)
      pure_moved m none h =
          OwnMoves.pure_first (exps n) (exps_are n) s laws c taken own nothing low f k split pure pure_yes pure_no weight (LeadTable.wd-plus n p fits) (row p).degree e high pure_light m none (omega arith)

      -- nothing below the grade changes
      pub pure_stays : (m : ExpList n) → Own m → weight m < grade → moved m ≡ coefficient_in n s.ops f m
      pure_stays m none h =
          OwnMoves.pure_below (exps n) (exps_are n) s laws c taken own nothing low f k split pure pure_yes pure_no weight (LeadTable.wd-plus n p fits) (row p).degree e high pure_light (omega arith) m none (omega arith)

-- ---- base kills

module _ {V : Type 0} (s : Scalars V) (laws : ScalarLaws s) where
  -- no low term without square variables
  pub light_from_low : (n c : ℕ) (fewer : c ≤ n) (p : Part) (size : length (row p).weights ≡ c) (base : IsBasePart p) (k : ℕ) → (row p).degree ≤ k → (f : Polynomial n V) → StartsAtPart n s c k p f
      → (m : ExpList n) → ((w : ℕ) → c ≤ w → w < n → (exps n).at m w ≡ 0) → weighted_degree_of (row p).weights m.entries < (row p).degree → coefficient_in n s.ops f m ≡ s.ops.zero
  light_from_low n c fewer p size base k le f low m none h =
      let b = Place.restrict (exps n) (exps_are n) (exps c) (exps_are c) fewer m in
      let q = Place.placed-restrict (exps n) (exps_are n) (exps c) (exps_are c) fewer m none in
      let same_degree : degree (exps n) m ≡ degree (exps c) b = ap (degree (exps n)) q ∙ Place.degree-placed (exps n) (exps_are n) (exps c) (exps_are c) fewer b in
      let own = LeadTable.degree-own n p (omega arith) base m (λ w past inside. none w (omega arith) inside) in
      ap (coefficient_in n s.ops f) q
      ∙ sym (Residuals.coefficient-residual n c fewer s laws k f b (omega arith))
      ∙ low b (omega arith)

  pub all_kills_keep : AllKillsKeep s
  all_kills_keep n c o p fewer size base above f split low =
      let letters = letters_of n s p f in
      let light = light_from_low n c fewer p size base (suc o) (omega arith) f low in
      let three = leb-true 3 (row p).degree (part_degree p) in
      let kept : SameToIn n s.ops o (kill_off n s c (suc o) p f) f = λ m h.
      killed_is n c fewer p size (suc o) (omega arith) s laws letters f (suc o) m (omega arith)
      ∙ elim (some_square n c fewer p size (suc o) (omega arith) s laws letters f m) [
        | inl none ↦ pure_stays n c fewer p size (suc o) (omega arith) s laws letters f (suc o) split light m none
            (let own = LeadTable.degree-own n p (omega arith) base m (λ w past inside. none w (omega arith) inside) in omega arith)
        | inr v ↦ mixed_stays n c fewer p size (suc o) (omega arith) s laws letters f (suc o) split o (omega arith) m h v.0 v.1 v.2 v.3
      ] in
      record {
        below = kept;
        squares = Residuals.squares_agree n s c (kill_off n s c (suc o) p f) f (λ m h. kept m (omega arith));
        split = split_after n c fewer p size (suc o) (omega arith) s laws letters f (suc o) split;
        letters = letters_agree s n o p above (kill_off n s c (suc o) p f) f kept;
        low = low_agrees s laws n c o (suc o) p fewer above (omega arith) (kill_off n s c (suc o) p f) f kept
            (λ b h.
            Residuals.coefficient-residual n c fewer s laws o f b (omega arith)
            ∙ sym (Residuals.coefficient-residual n c fewer s laws (suc o) f b (omega arith))
            ∙ low b h);
      }

pub kills_leave_others : {V : Type 0} (s : Scalars V) → KillsLeaveOthers s
unfolding kill_move
kills_leave_others s n grade letters p fewer f i past inside =
    at_mapped (killed n s letters p grade f) n i [] inside ∙ ap (λ g. (variable (exps n) i, s.ops.one) ∷ g) (LeadTable.takes_none n p fewer grade s letters f i past)
