-- The coefficients of the residual part, the squares, and what of a polynomial they depend on.
use mathlib.Core.Path.{fun_ext}
use Rattle.std.proofs.Common.{◌≡◌, ℕ, zero, suc, ◌+◌, ◌-◌, ◌<◌, ◌≤◌, ◌⊎◌, inl, inr, Bool, true, false, not, ◌||◌, cond, eqb, leb, eq-eqb, leb-true, List, [], ◌∷◌, map, filter, length, get_or, take_all, sum, refl, sym, ap, subst, ◌∙◌, arith}
use Rattle.std.proofs.lemmas.List.{get_or-map}
use Rattle.ring_theory.specs.Scalars.{Scalars, ScalarLaws}
use Rattle.ring_theory.proofs.ValueSet.{values_are_set}
use Rattle.poly_law.specs.Exps.{plus, variable, degree, same}
use Rattle.poly_law.specs.ExpList.{ExpList, exps}
use Rattle.poly_law.specs.Poly.{IsSplit, place}
use Rattle.poly_law.specs.Polynomials.{Polynomial, SameIn, SameToIn, StartsAtIn, coefficient_in, cut_in}
use Rattle.poly_law.proofs.ExpLists.{exps_are}
use Rattle.poly_law.proofs.ExpLaws
use Rattle.poly_law.proofs.Sums
use Rattle.poly_law.proofs.Order
use Rattle.poly_law.proofs.Place
use Rattle.poly_law.proofs.Split as splits
use Rattle.mono_exp.specs.Exponents.{numbers_below, monomials_of, monomials_below}
use Rattle.mono_exp.proofs.Lists.{Each, each-weaker, each-flat_map, map-same, numbers_are_below, length-numbers_below, get_or-numbers_below}
use Rattle.mono_exp.proofs.Counting.{IsOf, monomials_are_of}
use Rattle.mono_exp.proofs.NumberLemmas.{exponents-take}
use Rattle.jet_law.specs.Canonical.{monomial_in, jet}
use Rattle.germ_law.proofs.Canonical
use Rattle.coord_change.specs.Moves.{at}
use Rattle.move_law.specs.Moves.{residual, pair_exponents}
use Rattle.move_law.specs.Split.{squares_in}
use Rattle.split_lemma.specs.SplitForms.{IsSplitUpTo}

-- ---- squares

-- the exponents of x(j)^2
square_at : (n j i : ℕ) → i < n → get_or (monomial_in n (pair_exponents n j j)).entries i 0 ≡ cond {A = ℕ} (eqb i j) 2 0
square_at n j i h =
    (exps_are n).at_make (λ k. get_or (pair_exponents n j j) k 0) i h
    ∙ get_or-map (λ k. cond (eqb j j) (cond {A = ℕ} (eqb k j) 2 0) (cond {A = ℕ} (eqb k j || eqb k j) 1 0)) (numbers_below n) i 0 0 (let l = length-numbers_below n in omega arith)
    ∙ ap (λ k. cond (eqb j j) (cond {A = ℕ} (eqb k j) 2 0) (cond {A = ℕ} (eqb k j || eqb k j) 1 0)) (get_or-numbers_below n i 0 h)
    ∙ step (eqb j j) refl
  where
    step : (b : Bool) → eqb j j ≡ b → cond b (cond {A = ℕ} (eqb i j) 2 0) (cond {A = ℕ} (eqb i j || eqb i j) 1 0) ≡ cond (eqb i j) 2 0
    step true e = refl
    step false e = absurd (let bad : false ≡ true = sym e ∙ eq-eqb j j refl in cc bad)

pub square_is : (n j : ℕ) → plus (exps n) (variable (exps n) j) (variable (exps n) j) ≡ monomial_in n (pair_exponents n j j)
square_is n j = (exps_are n).same_at (plus (exps n) (variable (exps n) j) (variable (exps n) j)) (monomial_in n (pair_exponents n j j)) λ i h.
    ExpLaws.at-plus (exps n) (exps_are n) (variable (exps n) j) (variable (exps n) j) i h
    ∙ ap (λ z. z + z) (ExpLaws.at-variable (exps n) (exps_are n) j i h)
    ∙ step (eqb i j)
    ∙ sym (square_at n j i h)
  where
    step : (b : Bool) → cond {A = ℕ} b 1 0 + cond {A = ℕ} b 1 0 ≡ cond b 2 0
    step true = refl
    step false = refl

-- it has degree 2
pub square_degree : (n j : ℕ) → j < n → degree (exps n) (monomial_in n (pair_exponents n j j)) ≡ 2
square_degree n j h =
    ap (degree (exps n)) (sym (square_is n j))
    ∙ ExpLaws.degree-plus (exps n) (exps_are n) (variable (exps n) j) (variable (exps n) j)
    ∙ ap (λ z. z + z) (ExpLaws.degree-variable (exps n) (exps_are n) j h)

-- what a list that is made from the numbers below n has at place a
pub at_mapped : {X : Type 0} (f : ℕ → X) (n a : ℕ) (d : X) → a < n → get_or (map f (numbers_below n)) a d ≡ f a
at_mapped f n a d h = get_or-map f (numbers_below n) a 0 d (let l = length-numbers_below n in omega arith) ∙ ap f (get_or-numbers_below n a 0 h)

module _ {V : Type 0} (n : ℕ) (s : Scalars V) where
  pub squares_agree : (c : ℕ) (f g : Polynomial n V) → SameToIn n s.ops 2 f g → squares_in n s c f ≡ squares_in n s c g
  squares_agree c f g e = map-same (λ i. i < n - c) (λ i. at n s f (pair_exponents n (c + i) (c + i))) (λ i. at n s g (pair_exponents n (c + i) (c + i)))
      (λ i h. e (monomial_in n (pair_exponents n (c + i) (c + i))) (let d = square_degree n (c + i) (omega arith) in omega arith))
      (numbers_below (n - c)) (numbers_are_below (n - c))

-- ---- jets

module _ {V : Type 0} (n : ℕ) (s : Scalars V) (l : ScalarLaws s) where
  -- polynomials that agree up to degree k have one jet
  pub jet_same : (k : ℕ) (f g : Polynomial n V) → SameToIn n s.ops k f g → jet n s k f ≡ jet n s k g
  unfolding jet
  jet_same k f g e =
      ap (λ h. filter (λ (t : ExpList n × V). not (s.is_zero t.1)) (map h (monomials_below n (suc k))))
      (fun_ext λ m. ap (λ v. (monomial_in n m, v)) (Order.same-cut (exps n) (exps_are n) s.ops l.ring k f g e (monomial_in n m)))

  -- zeros do not count
  not_zero : (f : Polynomial n V) (m : ExpList n) → coefficient_in n s.ops (filter (λ t. not (s.is_zero t.1)) f) m ≡ coefficient_in n s.ops f m
  not_zero [] m = refl
  not_zero (t ∷ f) m = step (s.is_zero t.1) refl (not_zero f m)
    where
      zero_or : (b : Bool) (v : V) → v ≡ s.ops.zero → cond b v s.ops.zero ≡ s.ops.zero
      zero_or true v e = e
      zero_or false v e = refl

      step : (b : Bool) → s.is_zero t.1 ≡ b → coefficient_in n s.ops (filter (λ t. not (s.is_zero t.1)) f) m ≡ coefficient_in n s.ops f m
          → coefficient_in n s.ops (cond (not b) (t ∷ filter (λ t. not (s.is_zero t.1)) f) (filter (λ t. not (s.is_zero t.1)) f)) m ≡ coefficient_in n s.ops (t ∷ f) m
      step true e rest =
          rest ∙ sym (Sums.zero_add s.ops l.ring (coefficient_in n s.ops f m))
          ∙ ap (λ z. s.ops.add z (coefficient_in n s.ops f m)) (sym (zero_or (same (exps n) t.0 m) t.1 ((l.zero_test t.1).0 e)))
      step false e rest = ap (s.ops.add (cond (same (exps n) t.0 m) t.1 s.ops.zero)) rest

  -- the coefficients at all monomials up to degree k, as a list of terms
  abbrev listed : ℕ → (List ℕ → V) → Polynomial n V
  listed k v = map (λ e. (monomial_in n e, v e)) (monomials_below n (suc k))

  -- exponents of one of the monomials
  record IsBelow (k : ℕ) (e : List ℕ) : Type 0 where
    long : length e ≡ n
    degree : sum e ≤ k

  all_below : (k : ℕ) → Each (IsBelow k) (monomials_below n (suc k))
  unfolding monomials_below
  all_below k =
      each-flat_map (λ i. i < suc k) (IsBelow k) (monomials_of n)
      (λ j h. each-weaker (IsOf n j) (IsBelow k) (λ m o. record { long = o.long; degree = (let d = o.degree in omega arith) }) (monomials_of n j) (monomials_are_of n j))
      (numbers_below (suc k)) (numbers_are_below (suc k))

  jet_listed : (k : ℕ) (f : Polynomial n V) → filter (λ t. not (s.is_zero t.1)) (listed k (λ e. coefficient_in n s.ops (cut_in n s.ops k f) (monomial_in n e))) ≡ jet n s k f
  unfolding jet
  jet_listed k f = refl

  -- they are those of f
  listed_same : (k : ℕ) (f : Polynomial n V) (v : List ℕ → V) → ((e : List ℕ) → length e ≡ n → sum e ≤ k → v e ≡ coefficient_in n s.ops f (monomial_in n e)) → SameToIn n s.ops k (listed k v) f
  listed_same k f v h m low = ap (λ z. coefficient_in n s.ops z m) first ∙ sym (not_zero _ m) ∙ ap (λ z. coefficient_in n s.ops z m) (jet_listed k f) ∙ Canonical.jet_same_to n s l k f m low
    where
      own : (e : List ℕ) → length e ≡ n → (monomial_in n e).entries ≡ e
      own e h = exponents-take n e (omega arith) ∙ take_all n e (omega arith)

      first : listed k v ≡ listed k (λ e. coefficient_in n s.ops (cut_in n s.ops k f) (monomial_in n e))
      first = map-same (IsBelow k) (λ e. (monomial_in n e, v e)) (λ e. (monomial_in n e, coefficient_in n s.ops (cut_in n s.ops k f) (monomial_in n e)))
          (λ e b. ap (λ z. (monomial_in n e, z)) (h e b.long b.degree
          ∙ sym (Order.cut_same_to (exps n) (exps_are n) s.ops l.ring k f (monomial_in n e)
          (subst (λ d. d ≤ k) (sym (Canonical.degree-entries n (monomial_in n e) ∙ ap sum (own e b.long))) b.degree))))
          (monomials_below n (suc k)) (all_below k)

-- ---- the residual part

module _ {V : Type 0} (n c : ℕ) (fewer : c ≤ n) (s : Scalars V) (l : ScalarLaws s) where
  -- the terms without square variables
  abbrev pub below : Polynomial n V → Polynomial c V
  below f = splits.down (exps n) (exps_are n) (exps c) (exps_are c) fewer s.ops l.ring (values_are_set s l) f

  abbrev pub placed : ExpList c → ExpList n
  placed b = place (exps n) (exps c) s.ops b

  pub coefficient-below : (f : Polynomial n V) (b : ExpList c) → coefficient_in c s.ops (below f) b ≡ coefficient_in n s.ops f (placed b)
  coefficient-below f b = splits.coefficient-down (exps n) (exps_are n) (exps c) (exps_are c) fewer s.ops l.ring (values_are_set s l) f b

  pub degree-placed : (b : ExpList c) → degree (exps n) (placed b) ≡ degree (exps c) b
  degree-placed b = Place.degree-placed (exps n) (exps_are n) (exps c) (exps_are c) fewer b

  -- c numbers as exponents in n variables
  placed_list : (e : List ℕ) → length e ≡ c → monomial_in n e ≡ placed (monomial_in c e)
  placed_list e h =
      Place.is_placed (exps n) (exps_are n) (exps c) (exps_are c) fewer (monomial_in n e) (monomial_in c e)
      (λ i g. (exps_are n).at_make (λ k. get_or e k 0) i (omega arith) ∙ sym ((exps_are c).at_make (λ k. get_or e k 0) i g))
      (λ i g k. (exps_are n).at_make (λ k. get_or e k 0) i k ∙ past e i (omega arith))
    where
      past : (e : List ℕ) (i : ℕ) → length e ≤ i → get_or e i 0 ≡ 0
      past [] i h = refl
      past (x ∷ e) zero h = absurd (omega arith)
      past (x ∷ e) (suc i) h = past e i (omega arith)

  -- the residual part is the jet of the terms without square variables
  pub residual_is : (k : ℕ) (f : Polynomial n V) → residual n s c k f ≡ jet c s k (below f)
  unfolding residual
  residual_is k f =
      ap (λ z. jet c s k (map (λ e. (monomial_in c e, at n s f e)) (monomials_below c z))) (let e : k + 1 ≡ suc k = omega arith in e)
      ∙ jet_same c s l k (listed c s l k (at n s f)) (below f)
      (listed_same c s l k (below f) (at n s f) (λ e h g. ap (coefficient_in n s.ops f) (placed_list e h) ∙ sym (coefficient-below f (monomial_in c e))))

  pub coefficient-residual : (k : ℕ) (f : Polynomial n V) (b : ExpList c) → degree (exps c) b ≤ k → coefficient_in c s.ops (residual n s c k f) b ≡ coefficient_in n s.ops f (placed b)
  coefficient-residual k f b h = ap (λ z. coefficient_in c s.ops z b) (residual_is k f) ∙ Canonical.jet_same_to c s l k (below f) b h ∙ coefficient-below f b

  pub coefficient-residual_above : (k : ℕ) (f : Polynomial n V) (b : ExpList c) → k < degree (exps c) b → coefficient_in c s.ops (residual n s c k f) b ≡ s.ops.zero
  coefficient-residual_above k f b h =
      ap (λ z. coefficient_in c s.ops z b) (residual_is k f) ∙ Canonical.jet_is_cut c s l k (below f) b
      ∙ Order.coefficient-cut (exps c) (exps_are c) s.ops l.ring k (below f) b ∙ step (leb (degree (exps c) b) k) refl
    where
      step : (t : Bool) → leb (degree (exps c) b) k ≡ t → cond t (coefficient_in c s.ops (below f) b) s.ops.zero ≡ s.ops.zero
      step true e = let q = leb-true (degree (exps c) b) k e in absurd (omega arith)
      step false e = refl

  -- it depends on the coefficients without square variables up to degree k
  pub residual_agrees : (k : ℕ) (f g : Polynomial n V) → ((b : ExpList c) → degree (exps c) b ≤ k → coefficient_in n s.ops f (placed b) ≡ coefficient_in n s.ops g (placed b)) → residual n s c k f ≡ residual n s c k g
  residual_agrees k f g e =
      residual_is k f ∙ jet_same c s l k (below f) (below g) (λ b h. coefficient-below f b ∙ e b h ∙ sym (coefficient-below g b)) ∙ sym (residual_is k g)

  low_or_high : (d k : ℕ) → (d ≤ k) ⊎ (k < d)
  low_or_high d k = grind arith

  pub residual_low : (k d : ℕ) (f : Polynomial n V) → StartsAtIn n s.ops d f → StartsAtIn c s.ops d (residual n s c k f)
  residual_low k d f start b h = elim (low_or_high (degree (exps c) b) k) [
    | inl g ↦ coefficient-residual k f b g ∙ start (placed b) (let e = degree-placed b in omega arith)
    | inr g ↦ coefficient-residual_above k f b g
  ]

  -- terms of degree above k do not stand in a polynomial that is its own truncation at k
  pub high_zero : (k : ℕ) (f : Polynomial n V) → SameIn n s.ops (cut_in n s.ops k f) f → (m : ExpList n) → k < degree (exps n) m → coefficient_in n s.ops f m ≡ s.ops.zero
  high_zero k f own m h = sym (own m) ∙ Order.coefficient-cut (exps n) (exps_are n) s.ops l.ring k f m ∙ step (leb (degree (exps n) m) k) refl
    where
      step : (t : Bool) → leb (degree (exps n) m) k ≡ t → cond t (coefficient_in n s.ops f m) s.ops.zero ≡ s.ops.zero
      step true e = let q = leb-true (degree (exps n) m) k e in absurd (omega arith)
      step false e = refl

  pub is_split : (k : ℕ) (f : Polynomial n V) → SameIn n s.ops (cut_in n s.ops k f) f → IsSplitUpTo n s c k f → IsSplit (exps n) (exps c) s.ops f (residual n s c k f)
  is_split k f own split = record {
    residual = λ b. elim (low_or_high (degree (exps c) b) k) [
      | inl g ↦ coefficient-residual k f b g
      | inr g ↦ coefficient-residual_above k f b g ∙ sym (high_zero k f own (placed b) (let e = degree-placed b in omega arith))
    ];
    others = λ m w past inside has ne. elim (low_or_high (degree (exps n) m) k) [
      | inl g ↦ split m w past inside has ne g
      | inr g ↦ high_zero k f own m g
    ];
  }
