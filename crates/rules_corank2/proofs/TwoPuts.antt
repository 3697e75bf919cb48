-- A move that puts polynomials for two variables: its jets, and when its linear part is regular.
use Rattle.std.proofs.Common.{◌≡◌, ◌≢◌, ℕ, ◌<◌, ◌≤◌, ◌⊎◌, inl, inr, Bool, true, false, cond, eqb, eqb-true, eq-eqb, [], ◌∷◌, ◌++◌, map, refl, sym, ap, ap₂, subst, ◌∙◌, arith}
use Rattle.ring_theory.specs.Scalars.{Scalars, ScalarLaws, Meaning}
use Rattle.poly_law.specs.Sums.{unit_at}
use Rattle.poly_law.specs.Exps.{degree, variable}
use Rattle.poly_law.specs.ExpList.{ExpList, exps}
use Rattle.poly_law.specs.Poly.{coefficient}
use Rattle.poly_law.specs.Polynomials.{Polynomial, StartsAtIn}
use Rattle.poly_law.proofs.ExpLists.{exps_are}
use Rattle.poly_law.proofs.ExpLaws
use Rattle.poly_law.proofs.Order
use Rattle.poly_law.proofs.Sums
use Rattle.mono_exp.specs.Exponents.{numbers_below}
use Rattle.mono_exp.proofs.Lists.{map-same, map-map, numbers_are_below}
use Rattle.jet_law.specs.Canonical.{jet}
use Rattle.jet_law.specs.Terms.{poly_of}
use Rattle.germ_law.proofs.Canonical.{one_jet, jet_same_to}
use Rattle.jet_poly.specs.JetTerms.{JetTerms}
use Rattle.coord_change.specs.declared.change.Change.{Change}
use Rattle.coord_change.specs.Inverses.{HasNoKernel, InverseIsHigh, image_at}
use Rattle.coord_change.specs.MoveJets.{IsMoveExactly}
use Rattle.coord_change.specs.Moves.{Move, move_of, put, linear_part, variable_of}
use Rattle.coord_change.proofs.InverseLemmas
use Rattle.kill_table.specs.Moves.{IsMoveTo, IsPutFor}
use Rattle.kill_table.proofs.Unipotent
use Rattle.hessian_rank.proofs.LinearMoves.{variable_at}
use Rattle.split_lemma.proofs.Residuals.{at_mapped}
use Rattle.rules_corank2.specs.Puts.{ArePut}
use Rattle.rules_corank2.proofs.FinishHeights.{linear_same}

module _ {V : Type 0} (n : ℕ) (s : Scalars V) (l : ScalarLaws s) where
  -- a term of degree at least k
  pub starts-term : (k : ℕ) (a : ExpList n) (v : V) → k ≤ degree (exps n) a → StartsAtIn n s.ops k ((a, v) ∷ [])
  starts-term k a v h b d =
      ap (λ z. s.ops.add (cond z v s.ops.zero) s.ops.zero) (ExpLaws.same-no (exps n) (exps_are n) a b (λ e. let q = ap (degree (exps n)) e in absurd (omega arith)))
      ∙ l.ring.add_zero s.ops.zero

  -- a variable has no constant term
  pub starts-variable : (i : ℕ) → i < n → StartsAtIn n s.ops 1 (variable_of n s i)
  starts-variable i h = starts-term 1 (variable (exps n) i) s.ops.one (let d = ExpLaws.degree-variable (exps n) (exps_are n) i h in omega arith)

  -- a variable is its own jet
  jet-variable : (k i : ℕ) → 1 ≤ k → i < n → jet n s k (variable_of n s i) ≡ variable_of n s i
  jet-variable k i one h =
      let low : degree (exps n) (variable (exps n) i) ≤ k = (let d = ExpLaws.degree-variable (exps n) (exps_are n) i h in omega arith) in
      sym (one_jet n s l k (variable_of n s i) (variable_of n s i) (tt, tt) (l.nontrivial, tt) (low, tt) (λ b d. refl))

  -- a variable and terms of degree at least 2
  module _ (i : ℕ) (h : i < n) (p : Polynomial n V) (high : StartsAtIn n s.ops 2 p) where
    pub starts-more : StartsAtIn n s.ops 1 (variable_of n s i ++ p)
    starts-more = Order.starts_append (exps n) (exps_are n) s.ops l.ring 1 (variable_of n s i) p (starts-variable i h) (λ b d. high b (omega arith))

    pub more_at : (b : ℕ) → b < n → coefficient (exps n) s.ops (variable_of n s i ++ p) (variable (exps n) b) ≡ unit_at s.ops i b
    more_at b g =
        Order.coefficient-append (exps n) (exps_are n) s.ops l.ring (variable_of n s i) p (variable (exps n) b)
        ∙ ap₂ s.ops.add (variable_at n s l i b h g) (high (variable (exps n) b) (let d = ExpLaws.degree-variable (exps n) (exps_are n) b g in omega arith))
        ∙ l.ring.add_zero (unit_at s.ops i b)

  -- a row of a matrix that is one of the identity
  row_unit : (w : ℕ → ℕ → V) (a k : ℕ) → k < n → ((b : ℕ) → b < n → w a b ≡ unit_at s.ops k b) → (x : ℕ → V) → image_at s.ops n w x a ≡ x k
  row_unit w a k h rows x =
      Sums.sum_to-cong s.ops n (λ d. s.ops.mul (w a d) (x d)) (λ d. s.ops.mul (x d) (unit_at s.ops d k))
      (λ d g. ap (λ z. s.ops.mul z (x d)) (rows d g ∙ Sums.unit_at-swap s.ops k d) ∙ l.ring.mul_comm (unit_at s.ops d k) (x d))
      ∙ Sums.sum_to-unit s.ops l.ring n k x h

  module _ (i j : ℕ) (f h : Polynomial n V) where
    -- the move that puts f and h for the variables i and j
    abbrev pub pair_move : Move n V
    pair_move = move_of n s ((i, f) ∷ (j, h) ∷ [])

    abbrev put_for : ℕ → Polynomial n V
    put_for k = cond (eqb i k) f (cond (eqb j k) h (variable_of n s k))

    put_is : (k : ℕ) → k < n → put n s pair_move k ≡ put_for k
    unfolding move_of
    put_is k g = at_mapped put_for n k [] g

    -- its jets
    pub jets-pair : (o : ℕ) → 1 ≤ o → map (jet n s o) pair_move ≡ move_of n s ((i, jet n s o f) ∷ (j, jet n s o h) ∷ [])
    unfolding move_of
    jets-pair o one =
        map-map (jet n s o) put_for (numbers_below n)
        ∙ map-same (λ k. k < n) (λ k. jet n s o (put_for k)) (λ k. cond (eqb i k) (jet n s o f) (cond (eqb j k) (jet n s o h) (variable_of n s k))) (λ k g. step k g (eqb i k) (eqb j k)) (numbers_below n) (numbers_are_below n)
      where
        step : (k : ℕ) → k < n → (a b : Bool) → jet n s o (cond a f (cond b h (variable_of n s k))) ≡ cond a (jet n s o f) (cond b (jet n s o h) (variable_of n s k))
        step k g true b = refl
        step k g false true = refl
        step k g false false = jet-variable o k one g

    -- its linear part
    abbrev w : ℕ → ℕ → V
    w = linear_part n s pair_move

    w_is : (a b : ℕ) → a < n → w a b ≡ coefficient (exps n) s.ops (put_for a) (variable (exps n) b)
    w_is a b g = ap (λ p. coefficient (exps n) s.ops p (variable (exps n) b)) (put_is a g)

    module _ (i_in : i < n) (j_in : j < n) (other : i ≢ j) where
      at_first : (b : ℕ) → w i b ≡ coefficient (exps n) s.ops f (variable (exps n) b)
      at_first b = w_is i b i_in ∙ ap (λ t. coefficient (exps n) s.ops (cond t f (cond (eqb j i) h (variable_of n s i))) (variable (exps n) b)) (eq-eqb i i refl)

      at_second : (b : ℕ) → w j b ≡ coefficient (exps n) s.ops h (variable (exps n) b)
      at_second b =
          w_is j b j_in ∙ step (eqb i j) refl
          ∙ ap (λ t. coefficient (exps n) s.ops (cond t h (variable_of n s j)) (variable (exps n) b)) (eq-eqb j j refl)
        where
          step : (t : Bool) → eqb i j ≡ t → coefficient (exps n) s.ops (cond t f (cond (eqb j j) h (variable_of n s j))) (variable (exps n) b) ≡ coefficient (exps n) s.ops (cond (eqb j j) h (variable_of n s j)) (variable (exps n) b)
          step true e = absurd (other (eqb-true i j e))
          step false e = refl

      at_other : (a b : ℕ) → a < n → b < n → (i ≡ a → ⊥) → (j ≡ a → ⊥) → w a b ≡ unit_at s.ops a b
      at_other a b g k x y = w_is a b g ∙ step (eqb i a) (eqb j a) refl refl
        where
          step : (t u : Bool) → eqb i a ≡ t → eqb j a ≡ u → coefficient (exps n) s.ops (cond t f (cond u h (variable_of n s a))) (variable (exps n) b) ≡ unit_at s.ops a b
          step true u e q = absurd (x (eqb-true i a e))
          step false true e q = absurd (y (eqb-true j a q))
          step false false e q = variable_at n s l a b g k

      -- it is regular where f has the linear part x(i), and h that of x(j) but for a multiple of x(i)
      module _ (own : (b : ℕ) → b < n → coefficient (exps n) s.ops f (variable (exps n) b) ≡ unit_at s.ops i b)
          (rest : (b : ℕ) → b < n → b ≢ i → coefficient (exps n) s.ops h (variable (exps n) b) ≡ unit_at s.ops j b) where
        abbrev u : ℕ → ℕ → V
        u a b = s.ops.add (w a b) (s.ops.neg (unit_at s.ops a b))

        abbrev weight : ℕ → ℕ
        weight k = cond (eqb k i) 1 0

        light : (t : Bool) → cond {A = ℕ} t 1 0 < 2
        light true = omega arith
        light false = omega arith

        none : (a b : ℕ) → w a b ≡ unit_at s.ops a b → u a b ≡ s.ops.zero
        none a b e = ap (λ z. s.ops.add z (s.ops.neg (unit_at s.ops a b))) e ∙ l.ring.add_neg (unit_at s.ops a b)

        below : (t : Bool) → eqb j i ≡ t → cond {A = ℕ} t 1 0 < 1
        below true e = absurd (other (sym (eqb-true j i e)))
        below false e = omega arith

        upper : (a b : ℕ) → a < n → b < n → (u a b ≡ s.ops.zero) ⊎ (weight a < weight b)
        upper a b g k = step (eqb i a) (eqb j a) (eqb b i) refl refl refl
          where
            step : (t v z : Bool) → eqb i a ≡ t → eqb j a ≡ v → eqb b i ≡ z → (u a b ≡ s.ops.zero) ⊎ (weight a < weight b)
            step true v z e p q =
                let same : i ≡ a = eqb-true i a e in
                inl (none a b (subst (λ y. w y b ≡ unit_at s.ops y b) same (at_first b ∙ own b k)))
            step false true true e p q =
                let same : j ≡ a = eqb-true j a p in
                inr (subst (λ y. cond (eqb a i) 1 0 < cond y 1 0) (sym q) (subst (λ y. cond (eqb y i) 1 0 < 1) same (below (eqb j i) refl)))
            step false true false e p q =
                let same : j ≡ a = eqb-true j a p in
                inl (none a b (subst (λ y. w y b ≡ unit_at s.ops y b) same (at_second b ∙ rest b k (λ c. let bad : false ≡ true = sym q ∙ eq-eqb b i c in cc bad))))
            step false false z e p q =
                inl (none a b (at_other a b g k (λ c. let bad : false ≡ true = sym e ∙ eq-eqb i a c in cc bad) (λ c. let bad : false ≡ true = sym p ∙ eq-eqb j a c in cc bad)))

        pub pair_regular : HasNoKernel s.ops n w
        pair_regular x zeros d hd =
            Unipotent.no_kernel s.ops l.ring n w u weight 2 (λ k g. light (eqb k i))
            (λ a b g k. sym (l.ring.add_comm (u a b) (unit_at s.ops a b) ∙ Sums.add_sub s.ops l.ring (unit_at s.ops a b) (w a b))) upper x zeros d hd

      -- and where it changes the two variables
      pub swap_regular : ((b : ℕ) → b < n → coefficient (exps n) s.ops f (variable (exps n) b) ≡ unit_at s.ops j b)
          → ((b : ℕ) → b < n → coefficient (exps n) s.ops h (variable (exps n) b) ≡ unit_at s.ops i b) → HasNoKernel s.ops n w
      swap_regular first second x zeros d hd = step (eqb i d) (eqb j d) refl refl
        where
          step : (t v : Bool) → eqb i d ≡ t → eqb j d ≡ v → x d ≡ s.ops.zero
          step true v e p =
              let same : i ≡ d = eqb-true i d e in
              subst (λ y. x y ≡ s.ops.zero) same (sym (row_unit w j i i_in (λ b g. at_second b ∙ second b g) x) ∙ zeros j j_in)
          step false true e p =
              let same : j ≡ d = eqb-true j d p in
              subst (λ y. x y ≡ s.ops.zero) same (sym (row_unit w i j j_in (λ b g. at_first b ∙ first b g) x) ∙ zeros i i_in)
          step false false e p =
              sym (row_unit w d d hd (λ b g. at_other d b hd g (λ c. let bad : false ≡ true = sym e ∙ eq-eqb i d c in cc bad) (λ c. let bad : false ≡ true = sym p ∙ eq-eqb j d c in cc bad)) x) ∙ zeros d hd

-- ---- the jets that are put for the variables

module _ {E V : Type 0} (m : Meaning E V) (l : ScalarLaws m.scalars) (n o i j : ℕ) (one : 1 ≤ o) (p q : JetTerms E) where
  abbrev made : Move n V
  made = move_of n m.scalars ((i, poly_of n m.value p.terms) ∷ (j, poly_of n m.value q.terms) ∷ [])

  -- the move of the polynomials of the jets
  module _ (f h : Polynomial n V) (f_is : IsPutFor m n o f p) (h_is : IsPutFor m n o h q) where
    made_is : map (jet n m.scalars o) (pair_move n m.scalars l i j f h) ≡ made
    made_is = jets-pair n m.scalars l i j f h o one ∙ ap₂ (λ x y. move_of n m.scalars ((i, x) ∷ (j, y) ∷ [])) (sym f_is.polynomial) (sym h_is.polynomial)

    pub made_to : (c : Change E) → IsMoveExactly m n o made c → IsMoveTo m n o (pair_move n m.scalars l i j f h) c
    made_to c e = subst (λ z. IsMoveExactly m n o z c) (sym made_is) e

    agree : (a b : ℕ) → a < n → b < n → linear_part n m.scalars made a b ≡ linear_part n m.scalars (pair_move n m.scalars l i j f h) a b
    agree a b g k = ap (λ z. linear_part n m.scalars z a b) (sym made_is) ∙ linear_same n m.scalars l o one (pair_move n m.scalars l i j f h) a b g k

    pub high_of_made : InverseIsHigh m.scalars n (linear_part n m.scalars made) → InverseIsHigh m.scalars n (linear_part n m.scalars (pair_move n m.scalars l i j f h))
    high_of_made = InverseLemmas.high_of_same m.scalars l.ring n (linear_part n m.scalars made) (linear_part n m.scalars (pair_move n m.scalars l i j f h)) agree

    regular_made : HasNoKernel m.scalars.ops n (linear_part n m.scalars (pair_move n m.scalars l i j f h)) → HasNoKernel m.scalars.ops n (linear_part n m.scalars made)
    regular_made regular x zeros d hd =
        regular x (λ a g. sym (InverseLemmas.same_image m.scalars.ops l.ring n (linear_part n m.scalars made) (linear_part n m.scalars (pair_move n m.scalars l i j f h)) agree x a g) ∙ zeros a g) d hd

  low_of : (f : Polynomial n V) (r : JetTerms E) → IsPutFor m n o f r → StartsAtIn n m.scalars.ops 1 f → StartsAtIn n m.scalars.ops 1 (poly_of n m.value r.terms)
  low_of f r is low b d = ap (λ z. coefficient (exps n) m.scalars.ops z b) is.polynomial ∙ jet_same_to n m.scalars l o f b (omega arith) ∙ low b d

  module _ (are : ArePut m n o i j p q) where
    pub put_regular : HasNoKernel m.scalars.ops n (linear_part n m.scalars made)
    put_regular = regular_made are.first are.second are.first_is are.second_is are.regular

    pub first_low : StartsAtIn n m.scalars.ops 1 (poly_of n m.value p.terms)
    first_low = low_of are.first p are.first_is are.first_low

    pub second_low : StartsAtIn n m.scalars.ops 1 (poly_of n m.value q.terms)
    second_low = low_of are.second q are.second_is are.second_low
