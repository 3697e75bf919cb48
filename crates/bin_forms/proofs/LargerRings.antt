-- A discriminant that is not zero is not zero in a larger ring, and there the square of no line divides the form.
use Rattle.std.proofs.Common.{◌≡◌, ◌≢◌, ℕ, zero, suc, List, [], ◌∷◌, length, get_or, refl, sym, ap, ap₂, ◌∙◌, arith}
use Rattle.ring_theory.specs.Ring.{RingOps, IsCommRing}
use Rattle.ring_theory.specs.Scalars.{Scalars, ScalarLaws, HasInverses, IsRingMap}
use Rattle.ring_theory.proofs.RingReify.{by_ring, reify}
use Rattle.ring_theory.proofs.RingSolver.{of_ℕ, zero_of_double, neg_unique, zero_mul}
use Rattle.bin_forms.specs.Forms.{product, power_of, Divides}

-- discriminants, up to factors, by whole numbers
module _ {V : Type 0} (r : RingOps V) where
  open r use {zero as 𝟘, one as 𝟙, add as ◌⊕◌, mul as ◌⊗◌, neg as ⊖◌}

  infixl 6 ◌⊕◌
  infixl 7 ◌⊗◌
  infix 8 ⊖◌
  abbrev n : ℕ → V
  n k = of_ℕ r k

  -- h1^2 - 4 h0 h2
  abbrev pub cubic_discriminant : (a b c d : V) → V
  cubic_discriminant a b c d =
      (b ⊗ c ⊕ ⊖ (n 9 ⊗ a ⊗ d)) ⊗ (b ⊗ c ⊕ ⊖ (n 9 ⊗ a ⊗ d)) ⊕ ⊖ (n 4 ⊗ (b ⊗ b ⊕ ⊖ (n 3 ⊗ a ⊗ c)) ⊗ (c ⊗ c ⊕ ⊖ (n 3 ⊗ b ⊗ d)))

  -- 12 I and 432 J
  abbrev pub plain_i : (a b c d e : V) → V
  plain_i a b c d e = n 12 ⊗ a ⊗ e ⊕ ⊖ (n 3 ⊗ b ⊗ d) ⊕ c ⊗ c

  abbrev pub plain_j : (a b c d e : V) → V
  plain_j a b c d e = n 8 ⊗ n 9 ⊗ a ⊗ c ⊗ e ⊕ n 9 ⊗ b ⊗ c ⊗ d ⊕ ⊖ (n 27 ⊗ a ⊗ d ⊗ d) ⊕ ⊖ (n 27 ⊗ b ⊗ b ⊗ e) ⊕ ⊖ (n 2 ⊗ c ⊗ c ⊗ c)

  abbrev pub plain_discriminant : (x y : V) → V
  plain_discriminant x y = n 4 ⊗ x ⊗ x ⊗ x ⊕ ⊖ (y ⊗ y)

  abbrev at : List V → ℕ → V
  at f k = get_or f k 𝟘

  module _ (laws : IsCommRing r) where
    cubic_square : (p q x y : V) → let f = product r (power_of r (p ∷ q ∷ []) 2) (x ∷ y ∷ []) in cubic_discriminant (at f 0) (at f 1) (at f 2) (at f 3) ≡ 𝟘
    cubic_square p q x y = by_ring laws (p ∷ q ∷ x ∷ y ∷ []) (search reify depth 80 fits 40000) tt

    square_i : (p q x y z : V) → let f = product r (power_of r (p ∷ q ∷ []) 2) (x ∷ y ∷ z ∷ []) in let m = x ⊗ q ⊗ q ⊕ ⊖ (y ⊗ q ⊗ p) ⊕ z ⊗ p ⊗ p in
        plain_i (at f 0) (at f 1) (at f 2) (at f 3) (at f 4) ≡ m ⊗ m
    square_i p q x y z = by_ring laws (p ∷ q ∷ x ∷ y ∷ z ∷ []) (search reify depth 80 fits 40000) tt

    square_j : (p q x y z : V) → let f = product r (power_of r (p ∷ q ∷ []) 2) (x ∷ y ∷ z ∷ []) in let m = x ⊗ q ⊗ q ⊕ ⊖ (y ⊗ q ⊗ p) ⊕ z ⊗ p ⊗ p in
        plain_j (at f 0) (at f 1) (at f 2) (at f 3) (at f 4) ≡ ⊖ (n 2 ⊗ m ⊗ m ⊗ m)
    square_j p q x y z = by_ring laws (p ∷ q ∷ x ∷ y ∷ z ∷ []) (search reify depth 80 fits 40000) tt

    square_discriminant : (m : V) → plain_discriminant (m ⊗ m) (⊖ (n 2 ⊗ m ⊗ m ⊗ m)) ≡ 𝟘
    square_discriminant m = by_ring laws (m ∷ []) (search reify depth 80 fits 40000) tt

    two_entries : (f : List V) → length f ≡ 2 → f ≡ (at f 0 ∷ at f 1 ∷ [])
    two_entries [] e = absurd (omega arith)
    two_entries (x ∷ []) e = absurd (omega arith)
    two_entries (x ∷ y ∷ []) e = refl
    two_entries (x ∷ y ∷ z ∷ f) e = absurd (omega arith)

    three_entries : (f : List V) → length f ≡ 3 → f ≡ (at f 0 ∷ at f 1 ∷ at f 2 ∷ [])
    three_entries [] e = absurd (omega arith)
    three_entries (x ∷ []) e = absurd (omega arith)
    three_entries (x ∷ y ∷ []) e = absurd (omega arith)
    three_entries (x ∷ y ∷ z ∷ []) e = refl
    three_entries (x ∷ y ∷ z ∷ u ∷ f) e = absurd (omega arith)

    pub cubic_divided : (a b c d p q : V) → Divides r (power_of r (p ∷ q ∷ []) 2) (a ∷ b ∷ c ∷ d ∷ []) → cubic_discriminant a b c d ≡ 𝟘
    cubic_divided a b c d p q h =
        ap (λ f. cubic_discriminant (at f 0) (at f 1) (at f 2) (at f 3)) (h.is_product ∙ ap (product r (power_of r (p ∷ q ∷ []) 2)) (two_entries h.cofactor (omega (arith, h.degrees))))
        ∙ cubic_square p q (at h.cofactor 0) (at h.cofactor 1)

    pub quartic_divided : (a b c d e p q : V) → Divides r (power_of r (p ∷ q ∷ []) 2) (a ∷ b ∷ c ∷ d ∷ e ∷ []) → plain_discriminant (plain_i a b c d e) (plain_j a b c d e) ≡ 𝟘
    quartic_divided a b c d e p q h =
        ap (λ f. plain_discriminant (plain_i (at f 0) (at f 1) (at f 2) (at f 3) (at f 4)) (plain_j (at f 0) (at f 1) (at f 2) (at f 3) (at f 4)))
        (h.is_product ∙ ap (product r (power_of r (p ∷ q ∷ []) 2)) (three_entries h.cofactor (omega (arith, h.degrees))))
        ∙ (λ t. plain_discriminant (square_i p q (at h.cofactor 0) (at h.cofactor 1) (at h.cofactor 2) t) (square_j p q (at h.cofactor 0) (at h.cofactor 1) (at h.cofactor 2) t))
        ∙ square_discriminant _

-- ---- a map of a field to a ring

module _ {V W : Type 0} (s : Scalars V) (laws : ScalarLaws s) (inverts : HasInverses s) (b : RingOps W) (b_laws : IsCommRing b) (apart : b.one ≢ b.zero) (g : V → W) (map_is : IsRingMap s.ops b g) where
  of_zero : g s.ops.zero ≡ b.zero
  of_zero = zero_of_double b b_laws (g s.ops.zero) (sym (map_is.add _ _) ∙ ap g (laws.ring.add_zero _))

  of_neg : (x : V) → g (s.ops.neg x) ≡ b.neg (g x)
  of_neg x = neg_unique b b_laws (g x) (g (s.ops.neg x)) (sym (map_is.add _ _) ∙ ap g (laws.ring.add_neg x) ∙ of_zero)

  of_add : (x y : V) → g (s.ops.add x y) ≡ b.add (g x) (g y)
  of_add x y = map_is.add x y

  of_mul : (x y : V) → g (s.ops.mul x y) ≡ b.mul (g x) (g y)
  of_mul x y = map_is.mul x y

  of_one : g s.ops.one ≡ b.one
  of_one = map_is.one

  -- what is not zero does not map to zero
  pub stays : (x : V) → x ≢ s.ops.zero → g x ≢ b.zero
  stays x nonzero z =
      apart (sym of_one ∙ ap g (sym (inverts.mul_inverse x nonzero)) ∙ of_mul x (s.inverse x) ∙ ap (λ v. b.mul v (g (s.inverse x))) z ∙ zero_mul b b_laws _)

  of_whole : (k : ℕ) → g (of_ℕ s.ops k) ≡ of_ℕ b k
  of_whole zero = of_zero
  of_whole (suc zero) = of_one
  of_whole (suc (suc k)) = of_add s.ops.one (of_ℕ s.ops (suc k)) ∙ ap₂ b.add of_one (of_whole (suc k))

  -- the same with letters for the whole numbers
  abbrev cubic_by : {X : Type 0} → RingOps X → (three four nine x y z u : X) → X
  cubic_by r three four nine x y z u =
      r.add (r.mul (r.add (r.mul y z) (r.neg (r.mul (r.mul nine x) u))) (r.add (r.mul y z) (r.neg (r.mul (r.mul nine x) u))))
      (r.neg (r.mul (r.mul four (r.add (r.mul y y) (r.neg (r.mul (r.mul three x) z)))) (r.add (r.mul z z) (r.neg (r.mul (r.mul three y) u)))))

  cubic_by_maps : (three four nine x y z u : V) → g (cubic_by s.ops three four nine x y z u) ≡ cubic_by b (g three) (g four) (g nine) (g x) (g y) (g z) (g u)
  cubic_by_maps three four nine x y z u = simp (of_add, of_mul, of_neg)

  pub cubic_maps : (x y z u : V) → g (cubic_discriminant s.ops x y z u) ≡ cubic_discriminant b (g x) (g y) (g z) (g u)
  cubic_maps x y z u =
      cubic_by_maps (of_ℕ s.ops 3) (of_ℕ s.ops 4) (of_ℕ s.ops 9) x y z u ∙ (λ t. cubic_by b (of_whole 3 t) (of_whole 4 t) (of_whole 9 t) (g x) (g y) (g z) (g u))

  abbrev i_by : {X : Type 0} → RingOps X → (three twelve x y z u v : X) → X
  i_by r three twelve x y z u v = r.add (r.add (r.mul (r.mul twelve x) v) (r.neg (r.mul (r.mul three y) u))) (r.mul z z)

  i_by_maps : (three twelve x y z u v : V) → g (i_by s.ops three twelve x y z u v) ≡ i_by b (g three) (g twelve) (g x) (g y) (g z) (g u) (g v)
  i_by_maps three twelve x y z u v = simp (of_add, of_mul, of_neg)

  i_maps : (x y z u v : V) → g (plain_i s.ops x y z u v) ≡ plain_i b (g x) (g y) (g z) (g u) (g v)
  i_maps x y z u v = i_by_maps (of_ℕ s.ops 3) (of_ℕ s.ops 12) x y z u v ∙ (λ t. i_by b (of_whole 3 t) (of_whole 12 t) (g x) (g y) (g z) (g u) (g v))

  abbrev j_by : {X : Type 0} → RingOps X → (two eight nine more x y z u v : X) → X
  j_by r two eight nine more x y z u v =
      r.add (r.add (r.add (r.add (r.mul (r.mul (r.mul (r.mul eight nine) x) z) v) (r.mul (r.mul (r.mul nine y) z) u)) (r.neg (r.mul (r.mul (r.mul more x) u) u)))
      (r.neg (r.mul (r.mul (r.mul more y) y) v))) (r.neg (r.mul (r.mul (r.mul two z) z) z))

  j_by_maps : (two eight nine more x y z u v : V) → g (j_by s.ops two eight nine more x y z u v) ≡ j_by b (g two) (g eight) (g nine) (g more) (g x) (g y) (g z) (g u) (g v)
  j_by_maps two eight nine more x y z u v = simp (of_add, of_mul, of_neg)

  j_maps : (x y z u v : V) → g (plain_j s.ops x y z u v) ≡ plain_j b (g x) (g y) (g z) (g u) (g v)
  j_maps x y z u v =
      j_by_maps (of_ℕ s.ops 2) (of_ℕ s.ops 8) (of_ℕ s.ops 9) (of_ℕ s.ops 27) x y z u v
      ∙ (λ t. j_by b (of_whole 2 t) (of_whole 8 t) (of_whole 9 t) (of_whole 27 t) (g x) (g y) (g z) (g u) (g v))

  abbrev discriminant_by : {X : Type 0} → RingOps X → (four x y : X) → X
  discriminant_by r four x y = r.add (r.mul (r.mul (r.mul four x) x) x) (r.neg (r.mul y y))

  discriminant_by_maps : (four x y : V) → g (discriminant_by s.ops four x y) ≡ discriminant_by b (g four) (g x) (g y)
  discriminant_by_maps four x y = simp (of_add, of_mul, of_neg)

  pub quartic_maps : (x y z u v : V)
      → g (plain_discriminant s.ops (plain_i s.ops x y z u v) (plain_j s.ops x y z u v)) ≡ plain_discriminant b (plain_i b (g x) (g y) (g z) (g u) (g v)) (plain_j b (g x) (g y) (g z) (g u) (g v))
  quartic_maps x y z u v =
      discriminant_by_maps (of_ℕ s.ops 4) (plain_i s.ops x y z u v) (plain_j s.ops x y z u v)
      ∙ (λ t. discriminant_by b (of_whole 4 t) (i_maps x y z u v t) (j_maps x y z u v t))
