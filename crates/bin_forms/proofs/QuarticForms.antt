-- Binary quartics in letters, a x^4 + 4 b x^3 y + 6 c x^2 y^2 + 4 d x y^3 + e y^4: what the covariants say of the lines of a degenerate one.
use Rattle.std.proofs.Common.{◌≡◌, ◌≢◌, ℕ, List, [], ◌∷◌, length, get_or, refl, sym, ap, ◌∙◌, arith}
use Rattle.ring_theory.specs.Scalars.{Scalars, ScalarLaws, HasInverses}
use Rattle.ring_theory.proofs.RingReify.{by_ring, reify}
use Rattle.ring_theory.proofs.RingSolver.{of_ℕ, linear_combination}
use Rattle.bin_forms.specs.Forms.{scaled, product, power_of, Divides, IsMultiple}
use Rattle.bin_forms.proofs.FieldFacts.{cancel, zero_factor, square_zero, whole_nonzero, product_nonzero}

module _ {V : Type 0} (s : Scalars V) (laws : ScalarLaws s) (inverts : HasInverses s) where
  open s.ops use {zero as 𝟘, one as 𝟙, add as ◌⊕◌, mul as ◌⊗◌, neg as ⊖◌}

  infixl 6 ◌⊕◌
  infixl 7 ◌⊗◌
  infix 8 ⊖◌
  abbrev pub n : ℕ → V
  n k = of_ℕ s.ops k

  -- the coefficients of the Hessian of a x^4 + 4 b x^3 y + 6 c x^2 y^2 + 4 d x y^3 + e y^4, and its invariants
  abbrev pub g0 : (a b c d e : V) → V
  g0 a b c d e = a ⊗ c ⊕ ⊖ (b ⊗ b)

  abbrev pub g1 : (a b c d e : V) → V
  g1 a b c d e = n 2 ⊗ a ⊗ d ⊕ ⊖ (n 2 ⊗ b ⊗ c)

  abbrev pub g2 : (a b c d e : V) → V
  g2 a b c d e = a ⊗ e ⊕ n 2 ⊗ b ⊗ d ⊕ ⊖ (n 3 ⊗ c ⊗ c)

  abbrev pub g3 : (a b c d e : V) → V
  g3 a b c d e = n 2 ⊗ b ⊗ e ⊕ ⊖ (n 2 ⊗ c ⊗ d)

  abbrev pub g4 : (a b c d e : V) → V
  g4 a b c d e = c ⊗ e ⊕ ⊖ (d ⊗ d)

  abbrev pub i : (a b c d e : V) → V
  i a b c d e = a ⊗ e ⊕ ⊖ (n 4 ⊗ b ⊗ d) ⊕ n 3 ⊗ c ⊗ c

  abbrev pub j : (a b c d e : V) → V
  j a b c d e = a ⊗ c ⊗ e ⊕ n 2 ⊗ b ⊗ c ⊗ d ⊕ ⊖ (a ⊗ d ⊗ d) ⊕ ⊖ (b ⊗ b ⊗ e) ⊕ ⊖ (c ⊗ c ⊗ c)

  -- a^2 d - 3 a b c + 2 b^3
  abbrev pub cubic_covariant : (a b c d : V) → V
  cubic_covariant a b c d = a ⊗ a ⊗ d ⊕ ⊖ (n 3 ⊗ a ⊗ b ⊗ c) ⊕ n 2 ⊗ b ⊗ b ⊗ b

  pub five : {a b c d e : V} (x y z v w : V) → a ≡ x → b ≡ y → c ≡ z → d ≡ v → e ≡ w → (a ∷ b ∷ c ∷ d ∷ e ∷ []) ≡ (x ∷ y ∷ z ∷ v ∷ w ∷ [])
  five x y z v w ea eb ec ed ee = λ k. ea k ∷ eb k ∷ ec k ∷ ed k ∷ ee k ∷ []

  -- ---- the Hessian is zero

  module _ (a b c d e l : V) (first : a ≢ 𝟘) (line : a ⊗ l ≡ b) (e0 : g0 a b c d e ≡ 𝟘) (e1 : g1 a b c d e ≡ 𝟘) (e2 : g2 a b c d e ≡ 𝟘) where
    nonzero2 : n 2 ⊗ a ≢ 𝟘
    nonzero2 = product_nonzero s laws inverts (n 2) a (whole_nonzero s laws 2 (omega arith)) first

    fourth_c : c ≡ a ⊗ l ⊗ l
    fourth_c =
        cancel s laws inverts (a) (c) (a ⊗ l ⊗ l) first (linear_combination s.ops laws.ring (𝟙) e0 (linear_combination s.ops laws.ring (⊖ (b ⊕ a ⊗ l)) line (by_ring laws.ring (a ∷ b ∷ c ∷ l ∷ []) (search reify depth 60 fits 20000) tt)))

    fourth_d : d ≡ a ⊗ l ⊗ l ⊗ l
    fourth_d =
        cancel s laws inverts (n 2 ⊗ a) (d) (a ⊗ l ⊗ l ⊗ l) nonzero2 (linear_combination s.ops laws.ring (𝟙) e1 (linear_combination s.ops laws.ring (n 2 ⊗ b) fourth_c (linear_combination s.ops laws.ring (⊖ (n 2 ⊗ a ⊗ l ⊗ l)) line (by_ring laws.ring (a ∷ b ∷ c ∷ d ∷ l ∷ []) (search reify depth 60 fits 20000) tt))))

    fourth_e : e ≡ a ⊗ l ⊗ l ⊗ l ⊗ l
    fourth_e =
        cancel s laws inverts (a) (e) (a ⊗ l ⊗ l ⊗ l ⊗ l) first (linear_combination s.ops laws.ring (𝟙) e2 (linear_combination s.ops laws.ring (n 3 ⊗ (c ⊕ a ⊗ l ⊗ l)) fourth_c (linear_combination s.ops laws.ring (⊖ (n 2 ⊗ b)) fourth_d (linear_combination s.ops laws.ring (n 2 ⊗ a ⊗ l ⊗ l ⊗ l) line (by_ring laws.ring (a ∷ b ∷ c ∷ d ∷ e ∷ l ∷ []) (search reify depth 60 fits 20000) tt)))))

    pub fourth_of_line : (q1 q2 q3 : V) → n 4 ⊗ b ≡ q1 → n 6 ⊗ c ≡ q2 → n 4 ⊗ d ≡ q3 → IsMultiple s.ops (power_of s.ops (𝟙 ∷ l ∷ []) 4) (a ∷ q1 ∷ q2 ∷ q3 ∷ e ∷ [])
    fourth_of_line q1 q2 q3 b_is c_is d_is = record {
      factor = a;
      nonzero = first;
      is_product = five _ _ _ _ _
          (by_ring laws.ring (a ∷ l ∷ []) (search reify depth 60 fits 20000) tt)
          (sym b_is ∙ ap (λ z. n 4 ⊗ z) (sym line) ∙ by_ring laws.ring (a ∷ l ∷ []) (search reify depth 60 fits 20000) tt)
          (sym c_is ∙ ap (λ z. n 6 ⊗ z) fourth_c ∙ by_ring laws.ring (a ∷ l ∷ []) (search reify depth 60 fits 20000) tt)
          (sym d_is ∙ ap (λ z. n 4 ⊗ z) fourth_d ∙ by_ring laws.ring (a ∷ l ∷ []) (search reify depth 60 fits 20000) tt)
          (fourth_e ∙ by_ring laws.ring (a ∷ l ∷ []) (search reify depth 60 fits 20000) tt);
    }

  module _ (a b c d e : V) (no_a : a ≡ 𝟘) (e0 : g0 a b c d e ≡ 𝟘) where
    pub b_zero : b ≡ 𝟘
    b_zero = square_zero s laws inverts b
        (linear_combination s.ops laws.ring (⊖ 𝟙) e0 (linear_combination s.ops laws.ring (c) no_a (by_ring laws.ring (a ∷ b ∷ c ∷ []) (search reify depth 60 fits 20000) tt)))

    module _ (e2 : g2 a b c d e ≡ 𝟘) (e4 : g4 a b c d e ≡ 𝟘) where
      pub c_zero : c ≡ 𝟘
      c_zero = square_zero s laws inverts c (zero_factor s laws inverts (n 3) (c ⊗ c) (whole_nonzero s laws 3 (omega arith)) (linear_combination s.ops laws.ring (⊖ 𝟙) e2 (linear_combination s.ops laws.ring (e) no_a (linear_combination s.ops laws.ring (n 2 ⊗ d) b_zero (by_ring laws.ring (a ∷ b ∷ c ∷ d ∷ e ∷ []) (search reify depth 60 fits 20000) tt)))))

      pub d_zero : d ≡ 𝟘
      d_zero = square_zero s laws inverts d
          (linear_combination s.ops laws.ring (⊖ 𝟙) e4 (linear_combination s.ops laws.ring (e) c_zero (by_ring laws.ring (c ∷ d ∷ e ∷ []) (search reify depth 60 fits 20000) tt)))

  pub fourth_of_y : (a b c d e q1 q2 q3 : V) → a ≡ 𝟘 → b ≡ 𝟘 → c ≡ 𝟘 → d ≡ 𝟘 → e ≢ 𝟘 → n 4 ⊗ b ≡ q1 → n 6 ⊗ c ≡ q2 → n 4 ⊗ d ≡ q3
      → IsMultiple s.ops (power_of s.ops (𝟘 ∷ 𝟙 ∷ []) 4) (a ∷ q1 ∷ q2 ∷ q3 ∷ e ∷ [])
  fourth_of_y a b c d e q1 q2 q3 ea eb ec ed nonzero b_is c_is d_is = record {
    factor = e;
    nonzero = nonzero;
    is_product = five _ _ _ _ _
        (ea ∙ by_ring laws.ring (e ∷ []) (search reify depth 60 fits 20000) tt)
        (sym b_is ∙ ap (λ z. n 4 ⊗ z) eb ∙ by_ring laws.ring (e ∷ []) (search reify depth 60 fits 20000) tt)
        (sym c_is ∙ ap (λ z. n 6 ⊗ z) ec ∙ by_ring laws.ring (e ∷ []) (search reify depth 60 fits 20000) tt)
        (sym d_is ∙ ap (λ z. n 4 ⊗ z) ed ∙ by_ring laws.ring (e ∷ []) (search reify depth 60 fits 20000) tt)
        (by_ring laws.ring (e ∷ []) (search reify depth 60 fits 20000) tt);
  }

  -- h - w q for the coefficients h of the Hessian and q of the quartic
  abbrev pub k0 : (a b c w : V) → V
  k0 a b c w = a ⊗ c ⊕ ⊖ (b ⊗ b) ⊕ ⊖ (w ⊗ a)

  abbrev pub k1 : (a b c d w : V) → V
  k1 a b c d w = n 2 ⊗ a ⊗ d ⊕ ⊖ (n 2 ⊗ b ⊗ c) ⊕ ⊖ (w ⊗ (n 4 ⊗ b))

  abbrev pub k2 : (a b c d e w : V) → V
  k2 a b c d e w = a ⊗ e ⊕ n 2 ⊗ b ⊗ d ⊕ ⊖ (n 3 ⊗ c ⊗ c) ⊕ ⊖ (w ⊗ (n 6 ⊗ c))

  abbrev pub k3 : (b c d e w : V) → V
  k3 b c d e w = n 2 ⊗ b ⊗ e ⊕ ⊖ (n 2 ⊗ c ⊗ d) ⊕ ⊖ (w ⊗ (n 4 ⊗ d))

  abbrev pub k4 : (c d e w : V) → V
  k4 c d e w = c ⊗ e ⊕ ⊖ (d ⊗ d) ⊕ ⊖ (w ⊗ e)

  -- what c, d and e are where the square of x + l y divides the quartic, w a value that belongs to it
  abbrev pub c2 : (a b w l : V) → V
  c2 a b w l = n 2 ⊗ b ⊗ l ⊕ ⊖ (a ⊗ l ⊗ l) ⊕ ⊖ (n 2 ⊗ w)

  abbrev pub d2 : (a b c l : V) → V
  d2 a b c l = n 3 ⊗ l ⊗ c ⊕ ⊖ (n 3 ⊗ l ⊗ l ⊗ b) ⊕ l ⊗ l ⊗ l ⊗ a

  abbrev pub e2 : (a b c l : V) → V
  e2 a b c l = n 6 ⊗ l ⊗ l ⊗ c ⊕ ⊖ (n 8 ⊗ l ⊗ l ⊗ l ⊗ b) ⊕ n 3 ⊗ l ⊗ l ⊗ l ⊗ l ⊗ a

  module _ (a b c d e w : V) (i_is : i a b c d e ≡ n 12 ⊗ w ⊗ w) (j_is : j a b c d e ≡ n 8 ⊗ w ⊗ w ⊗ w) where
    -- h - w q is zero where its first coefficient is and a is not
    module _ (first : a ≢ 𝟘) (z0 : k0 a b c w ≡ 𝟘) where
      no_covariant : cubic_covariant a b c d ≡ 𝟘
      no_covariant = square_zero s laws inverts (cubic_covariant a b c d)
          (linear_combination s.ops laws.ring (⊖ (n 4 ⊗ (k0 a b c w) ⊗ ((g0 a b c d e) ⊕ n 2 ⊗ a ⊗ w))) z0 (linear_combination s.ops laws.ring (a ⊗ a ⊗ (g0 a b c d e)) i_is (linear_combination s.ops laws.ring (⊖ (a ⊗ a ⊗ a)) j_is (by_ring laws.ring (a ∷ b ∷ c ∷ d ∷ e ∷ w ∷ []) (search reify depth 60 fits 20000) tt))))

      pub rest1 : k1 a b c d w ≡ 𝟘
      rest1 = zero_factor s laws inverts (a) (k1 a b c d w) first (linear_combination s.ops laws.ring (n 2) no_covariant (linear_combination s.ops laws.ring (n 4 ⊗ b) z0 (by_ring laws.ring (a ∷ b ∷ c ∷ d ∷ w ∷ []) (search reify depth 60 fits 20000) tt)))

      pub rest2 : k2 a b c d e w ≡ 𝟘
      rest2 = zero_factor s laws inverts (a) (k2 a b c d e w) first (linear_combination s.ops laws.ring (a) i_is (linear_combination s.ops laws.ring (n 3 ⊗ b) rest1 (linear_combination s.ops laws.ring (⊖ (n 6 ⊗ c ⊕ n 12 ⊗ w)) z0 (by_ring laws.ring (a ∷ b ∷ c ∷ d ∷ e ∷ w ∷ []) (search reify depth 60 fits 20000) tt))))

      pub rest3 : k3 b c d e w ≡ 𝟘
      rest3 = zero_factor s laws inverts (a) (k3 b c d e w) first (linear_combination s.ops laws.ring (n 2 ⊗ b) i_is (linear_combination s.ops laws.ring (⊖ (n 8 ⊗ d)) z0 (linear_combination s.ops laws.ring (n 3 ⊗ (c ⊕ ⊖ (n 2 ⊗ w))) rest1 (by_ring laws.ring (a ∷ b ∷ c ∷ d ∷ e ∷ w ∷ []) (search reify depth 60 fits 20000) tt))))

      pub rest4 : k4 c d e w ≡ 𝟘
      rest4 = zero_factor s laws inverts (n 4 ⊗ (a ⊗ a)) (k4 c d e w) (product_nonzero s laws inverts (n 4) (a ⊗ a) (whole_nonzero s laws 4 (omega arith)) (product_nonzero s laws inverts (a) (a) first first)) (linear_combination s.ops laws.ring (n 4 ⊗ a ⊗ (c ⊕ ⊖ w)) i_is (linear_combination s.ops laws.ring (⊖ (n 12 ⊗ (c ⊗ c ⊕ ⊖ (n 4 ⊗ w ⊗ w)))) z0 (linear_combination s.ops laws.ring (n 4 ⊗ b ⊗ c ⊕ ⊖ (n 16 ⊗ w ⊗ b) ⊕ ⊖ (k1 a b c d w)) rest1 (by_ring laws.ring (a ∷ b ∷ c ∷ d ∷ e ∷ w ∷ []) (search reify depth 60 fits 20000) tt))))

    -- the square of x + l y divides
    module _ (l : V) (nonzero : k0 a b c w ≢ 𝟘) (line : n 4 ⊗ k0 a b c w ⊗ l ≡ k1 a b c d w) where
      module _ (first : a ≢ 𝟘) where
        pub double_c : c ≡ c2 a b w l
        double_c = cancel s laws inverts (n 16 ⊗ ((k0 a b c w) ⊗ ((k0 a b c w) ⊗ a))) (c) (c2 a b w l) (product_nonzero s laws inverts (n 16) ((k0 a b c w) ⊗ ((k0 a b c w) ⊗ a)) (whole_nonzero s laws 16 (omega arith)) (product_nonzero s laws inverts (k0 a b c w) ((k0 a b c w) ⊗ a) nonzero (product_nonzero s laws inverts (k0 a b c w) (a) nonzero first))) (linear_combination s.ops laws.ring (n 4 ⊗ a ⊗ a ⊗ (g0 a b c d e)) i_is (linear_combination s.ops laws.ring (⊖ (n 4 ⊗ a ⊗ a ⊗ a)) j_is (linear_combination s.ops laws.ring (a ⊗ (a ⊗ (n 4 ⊗ (k0 a b c w) ⊗ l ⊕ ⊖ (k1 a b c d w)) ⊕ n 4 ⊗ (cubic_covariant a b c d))) line (by_ring laws.ring (a ∷ b ∷ c ∷ d ∷ e ∷ w ∷ l ∷ []) (search reify depth 60 fits 20000) tt))))

        pub double_d : d ≡ d2 a b c l
        double_d = cancel s laws inverts (n 2 ⊗ a) (d) (d2 a b c l) (product_nonzero s laws inverts (n 2) (a) (whole_nonzero s laws 2 (omega arith)) first) (linear_combination s.ops laws.ring (⊖ 𝟙) line (linear_combination s.ops laws.ring (n 2 ⊗ b ⊕ ⊖ (n 2 ⊗ a ⊗ l)) double_c (by_ring laws.ring (a ∷ b ∷ c ∷ d ∷ w ∷ l ∷ []) (search reify depth 60 fits 20000) tt)))

        pub double_e : e ≡ e2 a b c l
        double_e = cancel s laws inverts (a) (e) (e2 a b c l) first (linear_combination s.ops laws.ring (𝟙) i_is (linear_combination s.ops laws.ring (n 4 ⊗ b) double_d (linear_combination s.ops laws.ring (⊖ (n 3 ⊗ (c ⊕ ⊖ (n 2 ⊗ b ⊗ l) ⊕ a ⊗ l ⊗ l ⊕ ⊖ (n 2 ⊗ w)))) double_c (by_ring laws.ring (a ∷ b ∷ c ∷ d ∷ e ∷ w ∷ l ∷ []) (search reify depth 60 fits 20000) tt))))

      module _ (no_a : a ≡ 𝟘) where
        some_b : b ≢ 𝟘
        some_b z = nonzero (linear_combination s.ops laws.ring (c ⊕ ⊖ w) no_a (linear_combination s.ops laws.ring (⊖ b) z (by_ring laws.ring (a ∷ b ∷ c ∷ w ∷ []) (search reify depth 60 fits 20000) tt)))

        pub double_c0 : c ≡ c2 a b w l
        double_c0 = cancel s laws inverts (n 2 ⊗ b) (c) (c2 a b w l) (product_nonzero s laws inverts (n 2) (b) (whole_nonzero s laws 2 (omega arith)) some_b) (linear_combination s.ops laws.ring (𝟙) line (linear_combination s.ops laws.ring (⊖ (n 4 ⊗ c ⊗ l) ⊕ n 4 ⊗ w ⊗ l ⊕ n 2 ⊗ d ⊕ n 2 ⊗ b ⊗ l ⊗ l) no_a (by_ring laws.ring (a ∷ b ∷ c ∷ d ∷ w ∷ l ∷ []) (search reify depth 60 fits 20000) tt)))

        pub double_d0 : d ≡ d2 a b c l
        double_d0 = cancel s laws inverts (n 4 ⊗ b) (d) (d2 a b c l) (product_nonzero s laws inverts (n 4) (b) (whole_nonzero s laws 4 (omega arith)) some_b) (linear_combination s.ops laws.ring (⊖ 𝟙) i_is (linear_combination s.ops laws.ring (n 3 ⊗ (c ⊕ ⊖ (n 2 ⊗ b ⊗ l) ⊕ a ⊗ l ⊗ l ⊕ ⊖ (n 2 ⊗ w))) double_c0 (linear_combination s.ops laws.ring (e ⊕ ⊖ (e2 a b c l)) no_a (by_ring laws.ring (a ∷ b ∷ c ∷ d ∷ e ∷ w ∷ l ∷ []) (search reify depth 60 fits 20000) tt))))

        pub double_e0 : e ≡ e2 a b c l
        double_e0 = cancel s laws inverts (b ⊗ b) (e) (e2 a b c l) (product_nonzero s laws inverts (b) (b) some_b some_b) (linear_combination s.ops laws.ring (⊖ 𝟙) j_is (linear_combination s.ops laws.ring (n 2 ⊗ b ⊗ c) double_d0 (linear_combination s.ops laws.ring (⊖ ((c ⊕ ⊖ (n 2 ⊗ b ⊗ l) ⊕ a ⊗ l ⊗ l) ⊗ (c ⊕ ⊖ (n 2 ⊗ b ⊗ l) ⊕ a ⊗ l ⊗ l) ⊕ ⊖ (n 2 ⊗ w ⊗ (c ⊕ ⊖ (n 2 ⊗ b ⊗ l) ⊕ a ⊗ l ⊗ l)) ⊕ n 4 ⊗ w ⊗ w)) double_c0 (linear_combination s.ops laws.ring (c ⊗ e ⊕ ⊖ (d ⊗ d) ⊕ n 3 ⊗ l ⊗ l ⊗ (c ⊕ ⊖ (n 2 ⊗ b ⊗ l)) ⊗ (c ⊕ ⊖ (n 2 ⊗ b ⊗ l)) ⊕ n 3 ⊗ a ⊗ l ⊗ l ⊗ l ⊗ l ⊗ (c ⊕ ⊖ (n 2 ⊗ b ⊗ l)) ⊕ a ⊗ a ⊗ l ⊗ l ⊗ l ⊗ l ⊗ l ⊗ l ⊕ n 2 ⊗ b ⊗ c ⊗ l ⊗ l ⊗ l ⊕ ⊖ (n 3 ⊗ b ⊗ b ⊗ l ⊗ l ⊗ l ⊗ l)) no_a (by_ring laws.ring (a ∷ b ∷ c ∷ d ∷ e ∷ w ∷ l ∷ []) (search reify depth 60 fits 20000) tt)))))

  -- ---- small facts where a and b, or w, are zero

  pub rest_b_zero : (a b c w : V) → a ≡ 𝟘 → k0 a b c w ≡ 𝟘 → b ≡ 𝟘
  rest_b_zero a b c w ea e0 = square_zero s laws inverts b (linear_combination s.ops laws.ring (⊖ 𝟙) e0 (linear_combination s.ops laws.ring (c ⊕ ⊖ w) ea (by_ring laws.ring (a ∷ b ∷ c ∷ w ∷ []) (search reify depth 60 fits 20000) tt)))

  pub k1_zero : (a b c d w : V) → a ≡ 𝟘 → b ≡ 𝟘 → k1 a b c d w ≡ 𝟘
  k1_zero a b c d w ea eb = (linear_combination s.ops laws.ring (n 2 ⊗ d) ea (linear_combination s.ops laws.ring (⊖ (n 2 ⊗ c ⊕ n 4 ⊗ w)) eb (by_ring laws.ring (a ∷ b ∷ c ∷ d ∷ w ∷ []) (search reify depth 60 fits 20000) tt)))

  pub k2_zero : (a b c d e w : V) → a ≡ 𝟘 → b ≡ 𝟘 → c ≡ ⊖ (n 2 ⊗ w) → k2 a b c d e w ≡ 𝟘
  k2_zero a b c d e w ea eb ec = (linear_combination s.ops laws.ring (e) ea (linear_combination s.ops laws.ring (n 2 ⊗ d) eb (linear_combination s.ops laws.ring (⊖ (n 3 ⊗ c)) ec (by_ring laws.ring (a ∷ b ∷ c ∷ d ∷ e ∷ w ∷ []) (search reify depth 60 fits 20000) tt))))

  pub k3_zero : (b c d e w : V) → b ≡ 𝟘 → c ≡ ⊖ (n 2 ⊗ w) → k3 b c d e w ≡ 𝟘
  k3_zero b c d e w eb ec = (linear_combination s.ops laws.ring (n 2 ⊗ e) eb (linear_combination s.ops laws.ring (⊖ (n 2 ⊗ d)) ec (by_ring laws.ring (b ∷ c ∷ d ∷ e ∷ w ∷ []) (search reify depth 60 fits 20000) tt)))

  pub k4_zero : (c d e w : V) → c ≡ 𝟘 → d ≡ 𝟘 → w ≡ 𝟘 → k4 c d e w ≡ 𝟘
  k4_zero c d e w ec ed ew = (linear_combination s.ops laws.ring (e) ec (linear_combination s.ops laws.ring (⊖ d) ed (linear_combination s.ops laws.ring (⊖ e) ew (by_ring laws.ring (c ∷ d ∷ e ∷ w ∷ []) (search reify depth 60 fits 20000) tt))))

  pub k0_zero : (a b c d e w : V) → g0 a b c d e ≡ 𝟘 → w ≡ 𝟘 → k0 a b c w ≡ 𝟘
  k0_zero a b c d e w e0 ew = (linear_combination s.ops laws.ring (𝟙) e0 (linear_combination s.ops laws.ring (⊖ a) ew (by_ring laws.ring (a ∷ b ∷ c ∷ w ∷ []) (search reify depth 60 fits 20000) tt)))

  pub no_twice : (w : V) → w ≡ 𝟘 → 𝟘 ≡ ⊖ (n 2 ⊗ w)
  no_twice w ew = (linear_combination s.ops laws.ring (n 2) ew (by_ring laws.ring (w ∷ []) (search reify depth 60 fits 20000) tt))

  pub rest_c : (a b c d e w : V) → i a b c d e ≡ n 12 ⊗ w ⊗ w → j a b c d e ≡ n 8 ⊗ w ⊗ w ⊗ w → w ≢ 𝟘 → a ≡ 𝟘 → b ≡ 𝟘 → c ≡ ⊖ (n 2 ⊗ w)
  rest_c a b c d e w i_is j_is nonzero ea eb = cancel s laws inverts (n 12 ⊗ (w ⊗ w)) (c) (⊖ (n 2 ⊗ w)) (product_nonzero s laws inverts (n 12) (w ⊗ w) (whole_nonzero s laws 12 (omega arith)) (product_nonzero s laws inverts (w) (w) nonzero nonzero)) (linear_combination s.ops laws.ring (⊖ (n 3)) j_is (linear_combination s.ops laws.ring (⊖ c) i_is (linear_combination s.ops laws.ring (n 4 ⊗ c ⊗ e ⊕ ⊖ (n 3 ⊗ d ⊗ d)) ea (linear_combination s.ops laws.ring (n 2 ⊗ c ⊗ d ⊕ ⊖ (n 3 ⊗ b ⊗ e)) eb (by_ring laws.ring (a ∷ b ∷ c ∷ d ∷ e ∷ w ∷ []) (search reify depth 60 fits 20000) tt)))))

  pub i_zero : (a b c d e : V) → a ≡ 𝟘 → b ≡ 𝟘 → c ≡ 𝟘 → i a b c d e ≡ 𝟘
  i_zero a b c d e ea eb ec = (linear_combination s.ops laws.ring (e) ea (linear_combination s.ops laws.ring (⊖ (n 4 ⊗ d)) eb (linear_combination s.ops laws.ring (n 3 ⊗ c) ec (by_ring laws.ring (a ∷ b ∷ c ∷ d ∷ e ∷ []) (search reify depth 60 fits 20000) tt))))

  pub flat_c : (a b c d e w : V) → i a b c d e ≡ n 12 ⊗ w ⊗ w → w ≡ 𝟘 → a ≡ 𝟘 → b ≡ 𝟘 → c ≡ 𝟘
  flat_c a b c d e w i_is ew ea eb = square_zero s laws inverts c (zero_factor s laws inverts (n 3) (c ⊗ c) (whole_nonzero s laws 3 (omega arith)) (linear_combination s.ops laws.ring (𝟙) i_is (linear_combination s.ops laws.ring (⊖ e) ea (linear_combination s.ops laws.ring (n 4 ⊗ d) eb (linear_combination s.ops laws.ring (n 12 ⊗ w) ew (by_ring laws.ring (a ∷ b ∷ c ∷ d ∷ e ∷ w ∷ []) (search reify depth 60 fits 20000) tt))))))

  -- ---- powers of lines as factors

  -- the quartic, by the square of x + l y
  pub square_of_line : (a b c d e l q1 q2 q3 : V) → d ≡ d2 a b c l → e ≡ e2 a b c l → n 4 ⊗ b ≡ q1 → n 6 ⊗ c ≡ q2 → n 4 ⊗ d ≡ q3
      → Divides s.ops (power_of s.ops (𝟙 ∷ l ∷ []) 2) (a ∷ q1 ∷ q2 ∷ q3 ∷ e ∷ [])
  square_of_line a b c d e l q1 q2 q3 ed ee b_is c_is d_is = record {
    cofactor = a ∷ (n 4 ⊗ b ⊕ ⊖ (n 2 ⊗ l ⊗ a)) ∷ (n 6 ⊗ c ⊕ ⊖ (n 8 ⊗ l ⊗ b) ⊕ n 3 ⊗ l ⊗ l ⊗ a) ∷ [];
    degrees = refl;
    is_product = five _ _ _ _ _
        (by_ring laws.ring (a ∷ b ∷ c ∷ l ∷ []) (search reify depth 80 fits 40000) tt)
        (sym b_is ∙ by_ring laws.ring (a ∷ b ∷ c ∷ l ∷ []) (search reify depth 80 fits 40000) tt)
        (sym c_is ∙ by_ring laws.ring (a ∷ b ∷ c ∷ l ∷ []) (search reify depth 80 fits 40000) tt)
        (sym d_is ∙ ap (λ z. n 4 ⊗ z) ed ∙ by_ring laws.ring (a ∷ b ∷ c ∷ l ∷ []) (search reify depth 80 fits 40000) tt)
        (ee ∙ by_ring laws.ring (a ∷ b ∷ c ∷ l ∷ []) (search reify depth 80 fits 40000) tt);
  }

  -- by its cube, where w is 0
  pub cube_of_line : (a b c d e l q1 q2 q3 : V) → c ≡ c2 a b 𝟘 l → d ≡ d2 a b c l → e ≡ e2 a b c l → n 4 ⊗ b ≡ q1 → n 6 ⊗ c ≡ q2 → n 4 ⊗ d ≡ q3
      → Divides s.ops (power_of s.ops (𝟙 ∷ l ∷ []) 3) (a ∷ q1 ∷ q2 ∷ q3 ∷ e ∷ [])
  cube_of_line a b c d e l q1 q2 q3 ec ed ee b_is c_is d_is = record {
    cofactor = a ∷ (n 4 ⊗ b ⊕ ⊖ (n 3 ⊗ l ⊗ a)) ∷ [];
    degrees = refl;
    is_product = five _ _ _ _ _
        (by_ring laws.ring (a ∷ b ∷ l ∷ []) (search reify depth 80 fits 40000) tt)
        (sym b_is ∙ by_ring laws.ring (a ∷ b ∷ l ∷ []) (search reify depth 80 fits 40000) tt)
        (sym c_is ∙ ap (λ z. n 6 ⊗ z) ec ∙ by_ring laws.ring (a ∷ b ∷ l ∷ []) (search reify depth 80 fits 40000) tt)
        (sym d_is ∙ ap (λ z. n 4 ⊗ z) (ed ∙ ap (λ z. d2 a b z l) ec) ∙ by_ring laws.ring (a ∷ b ∷ l ∷ []) (search reify depth 80 fits 40000) tt)
        (ee ∙ ap (λ z. e2 a b z l) ec ∙ by_ring laws.ring (a ∷ b ∷ l ∷ []) (search reify depth 80 fits 40000) tt);
  }

  -- by powers of y
  pub square_of_y : (a b c d e q1 q2 q3 : V) → a ≡ 𝟘 → b ≡ 𝟘 → n 4 ⊗ b ≡ q1 → Divides s.ops (power_of s.ops (𝟘 ∷ 𝟙 ∷ []) 2) (a ∷ q1 ∷ q2 ∷ q3 ∷ e ∷ [])
  square_of_y a b c d e q1 q2 q3 ea eb b_is = record {
    cofactor = q2 ∷ q3 ∷ e ∷ [];
    degrees = refl;
    is_product = five _ _ _ _ _
        (ea ∙ by_ring laws.ring (q2 ∷ q3 ∷ e ∷ []) (search reify depth 80 fits 40000) tt)
        (sym b_is ∙ ap (λ z. n 4 ⊗ z) eb ∙ by_ring laws.ring (q2 ∷ q3 ∷ e ∷ []) (search reify depth 80 fits 40000) tt)
        (by_ring laws.ring (q2 ∷ q3 ∷ e ∷ []) (search reify depth 80 fits 40000) tt)
        (by_ring laws.ring (q2 ∷ q3 ∷ e ∷ []) (search reify depth 80 fits 40000) tt)
        (by_ring laws.ring (q2 ∷ q3 ∷ e ∷ []) (search reify depth 80 fits 40000) tt);
  }

  pub cube_of_y : (a b c d e q1 q2 q3 : V) → a ≡ 𝟘 → b ≡ 𝟘 → c ≡ 𝟘 → n 4 ⊗ b ≡ q1 → n 6 ⊗ c ≡ q2 → Divides s.ops (power_of s.ops (𝟘 ∷ 𝟙 ∷ []) 3) (a ∷ q1 ∷ q2 ∷ q3 ∷ e ∷ [])
  cube_of_y a b c d e q1 q2 q3 ea eb ec b_is c_is = record {
    cofactor = q3 ∷ e ∷ [];
    degrees = refl;
    is_product = five _ _ _ _ _
        (ea ∙ by_ring laws.ring (q3 ∷ e ∷ []) (search reify depth 80 fits 40000) tt)
        (sym b_is ∙ ap (λ z. n 4 ⊗ z) eb ∙ by_ring laws.ring (q3 ∷ e ∷ []) (search reify depth 80 fits 40000) tt)
        (sym c_is ∙ ap (λ z. n 6 ⊗ z) ec ∙ by_ring laws.ring (q3 ∷ e ∷ []) (search reify depth 80 fits 40000) tt)
        (by_ring laws.ring (q3 ∷ e ∷ []) (search reify depth 80 fits 40000) tt)
        (by_ring laws.ring (q3 ∷ e ∷ []) (search reify depth 80 fits 40000) tt);
  }

  -- ---- what powers of a line exclude

  abbrev at : List V → ℕ → V
  at f k = get_or f k 𝟘

  -- 48 times the Hessian and 12 I, by the plain coefficients
  abbrev pub plain0 : List V → V
  plain0 f = n 8 ⊗ at f 0 ⊗ at f 2 ⊕ ⊖ (n 3 ⊗ at f 1 ⊗ at f 1)

  abbrev pub plain_i : List V → V
  plain_i f = n 12 ⊗ at f 0 ⊗ at f 4 ⊕ ⊖ (n 3 ⊗ at f 1 ⊗ at f 3) ⊕ at f 2 ⊗ at f 2

  -- 48 times the Hessian, and the form, where r x = p y
  abbrev pub plain_root : List V → (p r : V) → V
  plain_root f p r =
      (n 8 ⊗ at f 0 ⊗ at f 2 ⊕ ⊖ (n 3 ⊗ at f 1 ⊗ at f 1)) ⊗ (r ⊗ r ⊗ r ⊗ r)
      ⊕ ⊖ ((n 24 ⊗ at f 0 ⊗ at f 3 ⊕ ⊖ (n 4 ⊗ at f 1 ⊗ at f 2)) ⊗ (r ⊗ r ⊗ r ⊗ p))
      ⊕ (n 48 ⊗ at f 0 ⊗ at f 4 ⊕ n 6 ⊗ at f 1 ⊗ at f 3 ⊕ ⊖ (n 4 ⊗ at f 2 ⊗ at f 2)) ⊗ (r ⊗ r ⊗ p ⊗ p)
      ⊕ ⊖ ((n 24 ⊗ at f 1 ⊗ at f 4 ⊕ ⊖ (n 4 ⊗ at f 2 ⊗ at f 3)) ⊗ (r ⊗ p ⊗ p ⊗ p))
      ⊕ (n 8 ⊗ at f 2 ⊗ at f 4 ⊕ ⊖ (n 3 ⊗ at f 3 ⊗ at f 3)) ⊗ (p ⊗ p ⊗ p ⊗ p)

  abbrev pub form_root : List V → (p r : V) → V
  form_root f p r =
      at f 0 ⊗ (r ⊗ r ⊗ r ⊗ r) ⊕ ⊖ (at f 1 ⊗ (r ⊗ r ⊗ r ⊗ p)) ⊕ at f 2 ⊗ (r ⊗ r ⊗ p ⊗ p) ⊕ ⊖ (at f 3 ⊗ (r ⊗ p ⊗ p ⊗ p)) ⊕ at f 4 ⊗ (p ⊗ p ⊗ p ⊗ p)

  abbrev fourth_form : (p r m : V) → List V
  fourth_form p r m = product s.ops (power_of s.ops (p ∷ r ∷ []) 4) (m ∷ [])

  abbrev third_form : (p r m0 m1 : V) → List V
  third_form p r m0 m1 = product s.ops (power_of s.ops (p ∷ r ∷ []) 3) (m0 ∷ m1 ∷ [])

  abbrev second_form : (p r m0 m1 m2 : V) → List V
  second_form p r m0 m1 m2 = product s.ops (power_of s.ops (p ∷ r ∷ []) 2) (m0 ∷ m1 ∷ m2 ∷ [])

  fourth_plain0 : (p r m : V) → plain0 (fourth_form p r m) ≡ 𝟘
  fourth_plain0 p r m = by_ring laws.ring (p ∷ r ∷ m ∷ []) (search reify depth 80 fits 40000) tt

  fourth_of_y3 : (m : V) → at (fourth_form 𝟘 𝟙 m) 3 ≡ 𝟘
  fourth_of_y3 m = by_ring laws.ring (m ∷ []) (search reify depth 80 fits 40000) tt

  third_plain_i : (p r m0 m1 : V) → plain_i (third_form p r m0 m1) ≡ 𝟘
  third_plain_i p r m0 m1 = by_ring laws.ring (p ∷ r ∷ m0 ∷ m1 ∷ []) (search reify depth 80 fits 40000) tt

  second_plain_root : (p r m0 m1 m2 : V) → plain_root (second_form p r m0 m1 m2) p r ≡ 𝟘
  second_plain_root p r m0 m1 m2 = by_ring laws.ring (p ∷ r ∷ m0 ∷ m1 ∷ m2 ∷ []) (search reify depth 80 fits 40000) tt

  second_form_root : (p r m0 m1 m2 : V) → form_root (second_form p r m0 m1 m2) p r ≡ 𝟘
  second_form_root p r m0 m1 m2 = by_ring laws.ring (p ∷ r ∷ m0 ∷ m1 ∷ m2 ∷ []) (search reify depth 80 fits 40000) tt

  pair_path : {p r : V} (x y : V) → p ≡ x → r ≡ y → (p ∷ r ∷ []) ≡ (x ∷ y ∷ [])
  pair_path x y ep er = λ k. ep k ∷ er k ∷ []

  root_value : (a b c d e w l p r : V) → c ≡ c2 a b w l → d ≡ d2 a b c l → e ≡ e2 a b c l
      → plain_root (a ∷ (n 4 ⊗ b) ∷ (n 6 ⊗ c) ∷ (n 4 ⊗ d) ∷ e ∷ []) p r ⊕ ⊖ (n 48 ⊗ w ⊗ form_root (a ∷ (n 4 ⊗ b) ∷ (n 6 ⊗ c) ∷ (n 4 ⊗ d) ∷ e ∷ []) p r)
      ≡ n 48 ⊗ k0 a b c w ⊗ ((r ⊕ ⊖ (l ⊗ p)) ⊗ (r ⊕ ⊖ (l ⊗ p)) ⊗ ((r ⊕ ⊖ (l ⊗ p)) ⊗ (r ⊕ ⊖ (l ⊗ p))))
  root_value a b c d e w l p r ec ed ee =
      ap (λ z. value z e) ed ∙ ap (value (d2 a b c l)) ee ∙ ap (λ z. value_by z) ec
      ∙ by_ring laws.ring (a ∷ b ∷ w ∷ l ∷ p ∷ r ∷ []) (search reify depth 80 fits 40000) tt
      ∙ ap (λ z. n 48 ⊗ k0 a b z w ⊗ ((r ⊕ ⊖ (l ⊗ p)) ⊗ (r ⊕ ⊖ (l ⊗ p)) ⊗ ((r ⊕ ⊖ (l ⊗ p)) ⊗ (r ⊕ ⊖ (l ⊗ p))))) (sym ec)
    where
      value : V → V → V
      value y z = plain_root (a ∷ (n 4 ⊗ b) ∷ (n 6 ⊗ c) ∷ (n 4 ⊗ y) ∷ z ∷ []) p r ⊕ ⊖ (n 48 ⊗ w ⊗ form_root (a ∷ (n 4 ⊗ b) ∷ (n 6 ⊗ c) ∷ (n 4 ⊗ y) ∷ z ∷ []) p r)

      value_by : V → V
      value_by x = plain_root (a ∷ (n 4 ⊗ b) ∷ (n 6 ⊗ x) ∷ (n 4 ⊗ d2 a b x l) ∷ e2 a b x l ∷ []) p r ⊕ ⊖ (n 48 ⊗ w ⊗ form_root (a ∷ (n 4 ⊗ b) ∷ (n 6 ⊗ x) ∷ (n 4 ⊗ d2 a b x l) ∷ e2 a b x l ∷ []) p r)

  root_value_y : (a b c d e w p r : V) → a ≡ 𝟘 → b ≡ 𝟘 → c ≡ ⊖ (n 2 ⊗ w)
      → plain_root (a ∷ (n 4 ⊗ b) ∷ (n 6 ⊗ c) ∷ (n 4 ⊗ d) ∷ e ∷ []) p r ⊕ ⊖ (n 48 ⊗ w ⊗ form_root (a ∷ (n 4 ⊗ b) ∷ (n 6 ⊗ c) ∷ (n 4 ⊗ d) ∷ e ∷ []) p r)
      ≡ n 48 ⊗ k4 c d e w ⊗ (p ⊗ p ⊗ (p ⊗ p))
  root_value_y a b c d e w p r ea eb ec =
      (λ t. value (ea t) (eb t) (ec t)) ∙ by_ring laws.ring (d ∷ e ∷ w ∷ p ∷ r ∷ []) (search reify depth 80 fits 40000) tt ∙ ap (λ z. n 48 ⊗ k4 z d e w ⊗ (p ⊗ p ⊗ (p ⊗ p))) (sym ec)
    where
      value : V → V → V → V
      value x y z = plain_root (x ∷ (n 4 ⊗ y) ∷ (n 6 ⊗ z) ∷ (n 4 ⊗ d) ∷ e ∷ []) p r ⊕ ⊖ (n 48 ⊗ w ⊗ form_root (x ∷ (n 4 ⊗ y) ∷ (n 6 ⊗ z) ∷ (n 4 ⊗ d) ∷ e ∷ []) p r)

  one_entry : (f : List V) → length f ≡ 1 → f ≡ (at f 0 ∷ [])
  one_entry [] e = absurd (omega arith)
  one_entry (x ∷ []) e = refl
  one_entry (x ∷ y ∷ f) e = absurd (omega arith)

  two_entries : (f : List V) → length f ≡ 2 → f ≡ (at f 0 ∷ at f 1 ∷ [])
  two_entries [] e = absurd (omega arith)
  two_entries (x ∷ []) e = absurd (omega arith)
  two_entries (x ∷ y ∷ []) e = refl
  two_entries (x ∷ y ∷ z ∷ f) e = absurd (omega arith)

  three_entries : (f : List V) → length f ≡ 3 → f ≡ (at f 0 ∷ at f 1 ∷ at f 2 ∷ [])
  three_entries [] e = absurd (omega arith)
  three_entries (x ∷ []) e = absurd (omega arith)
  three_entries (x ∷ y ∷ []) e = absurd (omega arith)
  three_entries (x ∷ y ∷ z ∷ []) e = refl
  three_entries (x ∷ y ∷ z ∷ u ∷ f) e = absurd (omega arith)

  module _ (a b c d e q1 q2 q3 : V) (b_is : n 4 ⊗ b ≡ q1) (c_is : n 6 ⊗ c ≡ q2) (d_is : n 4 ⊗ d ≡ q3) where
    abbrev letters : List V
    letters = a ∷ (n 4 ⊗ b) ∷ (n 6 ⊗ c) ∷ (n 4 ⊗ d) ∷ e ∷ []

    abbrev coefs : List V
    coefs = a ∷ q1 ∷ q2 ∷ q3 ∷ e ∷ []

    same : letters ≡ coefs
    same = five _ _ _ _ _ refl b_is c_is d_is refl

    pub no_fourth : (p r : V) → Divides s.ops (power_of s.ops (p ∷ r ∷ []) 4) coefs → g0 a b c d e ≡ 𝟘
    no_fourth p r h =
        zero_factor s laws inverts (n 48) (g0 a b c d e) (whole_nonzero s laws 48 (omega arith))
        (by_ring laws.ring (a ∷ b ∷ c ∷ []) (search reify depth 80 fits 40000) tt ∙ ap plain0 (same ∙ h.is_product ∙ ap (product s.ops (power_of s.ops (p ∷ r ∷ []) 4)) (one_entry h.cofactor (omega (arith, h.degrees)))) ∙ fourth_plain0 p r (at h.cofactor 0))

    pub no_fourth_y : Divides s.ops (power_of s.ops (𝟘 ∷ 𝟙 ∷ []) 4) coefs → d ≡ 𝟘
    no_fourth_y h =
        zero_factor s laws inverts (n 4) d (whole_nonzero s laws 4 (omega arith))
        (d_is ∙ ap (λ f. at f 3) (h.is_product ∙ ap (product s.ops (power_of s.ops (𝟘 ∷ 𝟙 ∷ []) 4)) (one_entry h.cofactor (omega (arith, h.degrees)))) ∙ fourth_of_y3 (at h.cofactor 0))

    pub no_third : (p r : V) → Divides s.ops (power_of s.ops (p ∷ r ∷ []) 3) coefs → i a b c d e ≡ 𝟘
    no_third p r h =
        zero_factor s laws inverts (n 12) (i a b c d e) (whole_nonzero s laws 12 (omega arith))
        (by_ring laws.ring (a ∷ b ∷ c ∷ d ∷ e ∷ []) (search reify depth 80 fits 40000) tt ∙ ap plain_i (same ∙ h.is_product ∙ ap (product s.ops (power_of s.ops (p ∷ r ∷ []) 3)) (two_entries h.cofactor (omega (arith, h.degrees)))) ∙ third_plain_i p r (at h.cofactor 0) (at h.cofactor 1))

    module _ (w p r : V) (h : Divides s.ops (power_of s.ops (p ∷ r ∷ []) 2) coefs) where
      as_square : letters ≡ second_form p r (at h.cofactor 0) (at h.cofactor 1) (at h.cofactor 2)
      as_square = same ∙ h.is_product ∙ ap (product s.ops (power_of s.ops (p ∷ r ∷ []) 2)) (three_entries h.cofactor (omega (arith, h.degrees)))

      root_zero : plain_root letters p r ⊕ ⊖ (n 48 ⊗ w ⊗ form_root letters p r) ≡ 𝟘
      root_zero =
          ap (λ f. plain_root f p r ⊕ ⊖ (n 48 ⊗ w ⊗ form_root f p r)) as_square
          ∙ (λ t. second_plain_root p r (at h.cofactor 0) (at h.cofactor 1) (at h.cofactor 2) t ⊕ ⊖ (n 48 ⊗ w ⊗ second_form_root p r (at h.cofactor 0) (at h.cofactor 1) (at h.cofactor 2) t))
          ∙ by_ring laws.ring (w ∷ []) (search reify depth 80 fits 40000) tt

      -- a line whose square divides is x + l y
      pub only_line : (l : V) → c ≡ c2 a b w l → d ≡ d2 a b c l → e ≡ e2 a b c l → k0 a b c w ≢ 𝟘 → (p ∷ r ∷ []) ≡ scaled s.ops p (𝟙 ∷ l ∷ [])
      only_line l ec ed ee nonzero =
          let apart : r ⊕ ⊖ (l ⊗ p) ≡ 𝟘 =
          square_zero s laws inverts _ (square_zero s laws inverts _
          (zero_factor s laws inverts (n 48 ⊗ k0 a b c w) _ (product_nonzero s laws inverts (n 48) (k0 a b c w) (whole_nonzero s laws 48 (omega arith)) nonzero) (sym value ∙ root_zero))) in
          pair_path (p ⊗ 𝟙) (p ⊗ l) (sym (laws.ring.mul_one p)) (linear_combination s.ops laws.ring 𝟙 apart (by_ring laws.ring (r ∷ l ∷ p ∷ []) (search reify depth 80 fits 40000) tt))
        where
          value : plain_root letters p r ⊕ ⊖ (n 48 ⊗ w ⊗ form_root letters p r)
              ≡ n 48 ⊗ k0 a b c w ⊗ ((r ⊕ ⊖ (l ⊗ p)) ⊗ (r ⊕ ⊖ (l ⊗ p)) ⊗ ((r ⊕ ⊖ (l ⊗ p)) ⊗ (r ⊕ ⊖ (l ⊗ p))))
          value = root_value a b c d e w l p r ec ed ee

      pub only_y : a ≡ 𝟘 → b ≡ 𝟘 → c ≡ ⊖ (n 2 ⊗ w) → k4 c d e w ≢ 𝟘 → (p ∷ r ∷ []) ≡ scaled s.ops r (𝟘 ∷ 𝟙 ∷ [])
      only_y ea eb ec nonzero =
          let zero_p : p ≡ 𝟘 =
          square_zero s laws inverts _ (square_zero s laws inverts _
          (zero_factor s laws inverts (n 48 ⊗ k4 c d e w) _ (product_nonzero s laws inverts (n 48) (k4 c d e w) (whole_nonzero s laws 48 (omega arith)) nonzero) (sym (root_value_y a b c d e w p r ea eb ec) ∙ root_zero))) in
          pair_path (r ⊗ 𝟘) (r ⊗ 𝟙) (zero_p ∙ by_ring laws.ring (r ∷ []) (search reify depth 80 fits 40000) tt) (sym (laws.ring.mul_one r))

  -- ---- the square of a quadratic form

  -- the form x^2 + u x y + v y^2, a not 0
  module _ (a b c d e w u t v q1 q2 q3 : V) (first : a ≢ 𝟘) (b_is : n 4 ⊗ b ≡ q1) (c_is : n 6 ⊗ c ≡ q2) (d_is : n 4 ⊗ d ≡ q3)
      (u_is : n 2 ⊗ a ⊗ u ≡ q1) (t_is : a ⊗ t ≡ q2) (v_is : n 2 ⊗ v ≡ t ⊕ ⊖ (u ⊗ u)) where
    u_of : n 2 ⊗ a ⊗ u ≡ n 4 ⊗ b
    u_of = u_is ∙ sym b_is

    t_of : a ⊗ t ≡ n 6 ⊗ c
    t_of = t_is ∙ sym c_is

    v_of : a ⊗ a ⊗ v ≡ n 3 ⊗ a ⊗ c ⊕ ⊖ (n 2 ⊗ b ⊗ b)
    v_of = cancel s laws inverts (n 8) (a ⊗ a ⊗ v) (n 3 ⊗ a ⊗ c ⊕ ⊖ (n 2 ⊗ b ⊗ b)) (whole_nonzero s laws 8 (omega arith)) (linear_combination s.ops laws.ring (n 4 ⊗ a ⊗ a) v_is (linear_combination s.ops laws.ring (n 4 ⊗ a) t_of (linear_combination s.ops laws.ring (⊖ (n 2 ⊗ a ⊗ u ⊕ n 4 ⊗ b)) u_of (by_ring laws.ring (a ∷ b ∷ c ∷ u ∷ t ∷ v ∷ []) (search reify depth 60 fits 20000) tt))))

    module _ (z0 : k0 a b c w ≡ 𝟘) where
      pub pair_nonzero : w ≢ 𝟘 → u ⊗ u ⊕ ⊖ (n 4 ⊗ v) ≢ 𝟘
      pair_nonzero some z = product_nonzero s laws inverts (n 48 ⊗ w) a (product_nonzero s laws inverts (n 48) w (whole_nonzero s laws 48 (omega arith)) some) first
          (linear_combination s.ops laws.ring (⊖ (n 4 ⊗ a ⊗ a)) z (linear_combination s.ops laws.ring (n 2 ⊗ a ⊗ u ⊕ n 4 ⊗ b) u_of (linear_combination s.ops laws.ring (⊖ (n 16)) v_of (linear_combination s.ops laws.ring (⊖ (n 48)) z0 (by_ring laws.ring (a ∷ b ∷ c ∷ w ∷ u ∷ v ∷ []) (search reify depth 60 fits 20000) tt)))))

      module _ (z1 : k1 a b c d w ≡ 𝟘) (z2 : k2 a b c d e w ≡ 𝟘) where
        d_of : d ≡ b ⊗ v
        d_of = cancel s laws inverts (n 2 ⊗ (a ⊗ a)) (d) (b ⊗ v) (product_nonzero s laws inverts (n 2) (a ⊗ a) (whole_nonzero s laws 2 (omega arith)) (product_nonzero s laws inverts (a) (a) first first)) (linear_combination s.ops laws.ring (a) z1 (linear_combination s.ops laws.ring (⊖ (n 4 ⊗ b)) z0 (linear_combination s.ops laws.ring (⊖ (n 2 ⊗ b)) v_of (by_ring laws.ring (a ∷ b ∷ c ∷ d ∷ w ∷ v ∷ []) (search reify depth 60 fits 20000) tt))))

        e_of : e ≡ a ⊗ v ⊗ v
        e_of = cancel s laws inverts (a ⊗ a) (e) (a ⊗ v ⊗ v) (product_nonzero s laws inverts (a) (a) first first) (linear_combination s.ops laws.ring (a) z2 (linear_combination s.ops laws.ring (⊖ (n 2 ⊗ a ⊗ b)) d_of (linear_combination s.ops laws.ring (⊖ (n 6 ⊗ c)) z0 (linear_combination s.ops laws.ring (⊖ (n 3 ⊗ c ⊕ a ⊗ v)) v_of (by_ring laws.ring (a ∷ b ∷ c ∷ d ∷ e ∷ w ∷ v ∷ []) (search reify depth 60 fits 20000) tt)))))

        third_of : n 4 ⊗ d ≡ a ⊗ (n 2 ⊗ u ⊗ v)
        third_of = (linear_combination s.ops laws.ring (n 4) d_of (linear_combination s.ops laws.ring (⊖ v) u_of (by_ring laws.ring (a ∷ b ∷ d ∷ u ∷ v ∷ []) (search reify depth 60 fits 20000) tt)))

        second_of : n 6 ⊗ c ≡ a ⊗ (u ⊗ u ⊕ n 2 ⊗ v)
        second_of = (linear_combination s.ops laws.ring (⊖ 𝟙) t_of (linear_combination s.ops laws.ring (⊖ a) v_is (by_ring laws.ring (a ∷ c ∷ u ∷ t ∷ v ∷ []) (search reify depth 60 fits 20000) tt)))

        pub square_of_pair : IsMultiple s.ops (power_of s.ops (𝟙 ∷ u ∷ v ∷ []) 2) (a ∷ q1 ∷ q2 ∷ q3 ∷ e ∷ [])
        square_of_pair = record {
          factor = a;
          nonzero = first;
          is_product = five _ _ _ _ _
              (by_ring laws.ring (a ∷ u ∷ v ∷ []) (search reify depth 80 fits 40000) tt)
              (sym u_is ∙ by_ring laws.ring (a ∷ u ∷ v ∷ []) (search reify depth 80 fits 40000) tt)
              (sym c_is ∙ second_of ∙ by_ring laws.ring (a ∷ u ∷ v ∷ []) (search reify depth 80 fits 40000) tt)
              (sym d_is ∙ third_of ∙ by_ring laws.ring (a ∷ u ∷ v ∷ []) (search reify depth 80 fits 40000) tt)
              (e_of ∙ by_ring laws.ring (a ∷ u ∷ v ∷ []) (search reify depth 80 fits 40000) tt);
        }

  -- the form x y + v y^2, a and b 0
  module _ (a b c d e w v q1 q2 q3 : V) (no_a : a ≡ 𝟘) (no_b : b ≡ 𝟘) (b_is : n 4 ⊗ b ≡ q1) (c_is : n 6 ⊗ c ≡ q2) (d_is : n 4 ⊗ d ≡ q3)
      (some : c ≢ 𝟘) (v_is : n 2 ⊗ q2 ⊗ v ≡ q3) (z2 : k2 a b c d e w ≡ 𝟘) (z4 : k4 c d e w ≡ 𝟘) where
    w_of : c ≡ ⊖ (n 2 ⊗ w)
    w_of = cancel s laws inverts (n 3 ⊗ c) (c) (⊖ (n 2 ⊗ w)) (product_nonzero s laws inverts (n 3) (c) (whole_nonzero s laws 3 (omega arith)) some) (linear_combination s.ops laws.ring (⊖ 𝟙) z2 (linear_combination s.ops laws.ring (e) no_a (linear_combination s.ops laws.ring (n 2 ⊗ d) no_b (by_ring laws.ring (a ∷ b ∷ c ∷ d ∷ e ∷ w ∷ []) (search reify depth 60 fits 20000) tt))))

    v_of_y : n 3 ⊗ c ⊗ v ≡ d
    v_of_y = cancel s laws inverts (n 4) (n 3 ⊗ c ⊗ v) (d) (whole_nonzero s laws 4 (omega arith)) (linear_combination s.ops laws.ring (n 2 ⊗ v) c_is (linear_combination s.ops laws.ring (𝟙) v_is (linear_combination s.ops laws.ring (⊖ 𝟙) d_is (by_ring laws.ring (c ∷ d ∷ v ∷ q2 ∷ q3 ∷ []) (search reify depth 60 fits 20000) tt))))

    e_of_y : e ≡ n 6 ⊗ c ⊗ (v ⊗ v)
    e_of_y = cancel s laws inverts (n 3 ⊗ c) (e) (n 6 ⊗ c ⊗ (v ⊗ v)) (product_nonzero s laws inverts (n 3) (c) (whole_nonzero s laws 3 (omega arith)) some) (linear_combination s.ops laws.ring (n 2) z4 (linear_combination s.ops laws.ring (e) w_of (linear_combination s.ops laws.ring (⊖ (n 2 ⊗ (d ⊕ n 3 ⊗ c ⊗ v))) v_of_y (by_ring laws.ring (c ∷ d ∷ e ∷ w ∷ v ∷ []) (search reify depth 60 fits 20000) tt))))

    pub square_of_corner : IsMultiple s.ops (power_of s.ops (𝟘 ∷ 𝟙 ∷ v ∷ []) 2) (a ∷ q1 ∷ q2 ∷ q3 ∷ e ∷ [])
    square_of_corner = record {
      factor = q2;
      nonzero = λ z. product_nonzero s laws inverts (n 6) c (whole_nonzero s laws 6 (omega arith)) some (c_is ∙ z);
      is_product = five _ _ _ _ _
          (no_a ∙ by_ring laws.ring (q2 ∷ v ∷ []) (search reify depth 80 fits 40000) tt)
          (sym b_is ∙ ap (λ z. n 4 ⊗ z) no_b ∙ by_ring laws.ring (q2 ∷ v ∷ []) (search reify depth 80 fits 40000) tt)
          (by_ring laws.ring (q2 ∷ v ∷ []) (search reify depth 80 fits 40000) tt)
          (sym v_is ∙ by_ring laws.ring (q2 ∷ v ∷ []) (search reify depth 80 fits 40000) tt)
          (e_of_y ∙ ap (λ z. z ⊗ (v ⊗ v)) c_is ∙ by_ring laws.ring (q2 ∷ v ∷ []) (search reify depth 80 fits 40000) tt);
    }
