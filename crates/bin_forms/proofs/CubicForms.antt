-- A binary cubic and its Hessian: where the Hessian is zero, or a square.
use Rattle.std.proofs.Common.{◌≡◌, ◌≢◌, ℕ, List, [], ◌∷◌, length, get_or, refl, sym, ap, ◌∙◌, arith}
use Rattle.ring_theory.specs.Scalars.{Scalars, ScalarLaws, HasInverses}
use Rattle.ring_theory.proofs.RingReify.{by_ring, reify}
use Rattle.ring_theory.proofs.RingSolver.{of_ℕ, linear_combination}
use Rattle.bin_forms.specs.Forms.{product, power_of, Divides, IsMultiple}
use Rattle.bin_forms.proofs.FieldFacts.{cancel, zero_factor, square_zero, whole_nonzero, product_nonzero}

module _ {V : Type 0} (s : Scalars V) (laws : ScalarLaws s) (inverts : HasInverses s) where
  open s.ops use {zero as 𝟘, one as 𝟙, add as ◌⊕◌, mul as ◌⊗◌, neg as ⊖◌}

  infixl 6 ◌⊕◌
  infixl 7 ◌⊗◌
  infix 8 ⊖◌
  abbrev n : ℕ → V
  n k = of_ℕ s.ops k

  four : {a b c d : V} (x y z w : V) → a ≡ x → b ≡ y → c ≡ z → d ≡ w → (a ∷ b ∷ c ∷ d ∷ []) ≡ (x ∷ y ∷ z ∷ w ∷ [])
  four x y z w ex ey ez ew = λ i. ex i ∷ ey i ∷ ez i ∷ ew i ∷ []

  one_entry : (f : List V) → length f ≡ 1 → f ≡ (get_or f 0 𝟘 ∷ [])
  one_entry [] e = absurd (omega arith)
  one_entry (m ∷ []) e = refl
  one_entry (m ∷ n ∷ f) e = absurd (omega arith)

  -- the coefficients of the Hessian
  abbrev pub h0 : (a b c d : V) → V
  h0 a b c d = b ⊗ b ⊕ ⊖ (n 3 ⊗ a ⊗ c)

  abbrev pub h1 : (a b c d : V) → V
  h1 a b c d = b ⊗ c ⊕ ⊖ (n 9 ⊗ a ⊗ d)

  abbrev pub h2 : (a b c d : V) → V
  h2 a b c d = c ⊗ c ⊕ ⊖ (n 3 ⊗ b ⊗ d)

  pub first_relation : (a b c d : V) → n 3 ⊗ a ⊗ h2 a b c d ⊕ c ⊗ h0 a b c d ≡ b ⊗ h1 a b c d
  first_relation a b c d = by_ring laws.ring (a ∷ b ∷ c ∷ d ∷ []) (search reify depth 60 fits 20000) tt

  pub second_relation : (a b c d : V) → b ⊗ h2 a b c d ⊕ n 3 ⊗ d ⊗ h0 a b c d ≡ c ⊗ h1 a b c d
  second_relation a b c d = by_ring laws.ring (a ∷ b ∷ c ∷ d ∷ []) (search reify depth 60 fits 20000) tt

  pub second_zero : (a b c d : V) → h0 a b c d ≡ 𝟘 → a ≡ 𝟘 → b ≡ 𝟘
  second_zero a b c d e0 ea =
      square_zero s laws inverts b
      (linear_combination s.ops laws.ring 𝟙 e0 (linear_combination s.ops laws.ring (n 3 ⊗ c) ea
      (by_ring laws.ring (a ∷ b ∷ c ∷ []) (search reify depth 60 fits 20000) tt)))

  pub third_zero : (a b c d : V) → h2 a b c d ≡ 𝟘 → b ≡ 𝟘 → c ≡ 𝟘
  third_zero a b c d e2 eb =
      square_zero s laws inverts c
      (linear_combination s.ops laws.ring 𝟙 e2 (linear_combination s.ops laws.ring (n 3 ⊗ d) eb
      (by_ring laws.ring (b ∷ c ∷ d ∷ []) (search reify depth 60 fits 20000) tt)))

  -- the coefficient of x^3 is 0 where the Hessian is a multiple, not zero, of y^2
  pub no_first : (a b c d : V) → h0 a b c d ≡ 𝟘 → h1 a b c d ≡ 𝟘 → h2 a b c d ≢ 𝟘 → a ≡ 𝟘
  no_first a b c d e0 e1 m =
      zero_factor s laws inverts (n 3 ⊗ h2 a b c d) a (product_nonzero s laws inverts (n 3) (h2 a b c d) (whole_nonzero s laws 3 (omega arith)) m)
      (linear_combination s.ops laws.ring (⊖ c) e0 (linear_combination s.ops laws.ring b e1
      (by_ring laws.ring (a ∷ b ∷ c ∷ d ∷ []) (search reify depth 60 fits 20000) tt)))

  -- ---- the Hessian is zero

  module _ (a b c d l : V) (first : a ≢ 𝟘) (line : n 3 ⊗ a ⊗ l ≡ b) where
    nonzero3 : n 3 ⊗ a ≢ 𝟘
    nonzero3 = product_nonzero s laws inverts (n 3) a (whole_nonzero s laws 3 (omega arith)) first

    nonzero9 : n 9 ⊗ a ≢ 𝟘
    nonzero9 = product_nonzero s laws inverts (n 9) a (whole_nonzero s laws 9 (omega arith)) first

    pub cube_second : h0 a b c d ≡ 𝟘 → c ≡ n 3 ⊗ a ⊗ l ⊗ l
    cube_second e =
        cancel s laws inverts (n 3 ⊗ a) c (n 3 ⊗ a ⊗ l ⊗ l) nonzero3
        (linear_combination s.ops laws.ring (⊖ 𝟙) e (linear_combination s.ops laws.ring (⊖ (b ⊕ n 3 ⊗ a ⊗ l)) line
        (by_ring laws.ring (a ∷ b ∷ c ∷ d ∷ l ∷ []) (search reify depth 60 fits 20000) tt)))

    pub cube_third : h1 a b c d ≡ 𝟘 → c ≡ n 3 ⊗ a ⊗ l ⊗ l → d ≡ a ⊗ l ⊗ l ⊗ l
    cube_third e k =
        cancel s laws inverts (n 9 ⊗ a) d (a ⊗ l ⊗ l ⊗ l) nonzero9
        (linear_combination s.ops laws.ring (⊖ 𝟙) e (linear_combination s.ops laws.ring b k (linear_combination s.ops laws.ring (⊖ (n 3 ⊗ a ⊗ l ⊗ l)) line
        (by_ring laws.ring (a ∷ b ∷ c ∷ d ∷ l ∷ []) (search reify depth 60 fits 20000) tt))))

    pub cube_of_line : h0 a b c d ≡ 𝟘 → h1 a b c d ≡ 𝟘 → IsMultiple s.ops (power_of s.ops (𝟙 ∷ l ∷ []) 3) (a ∷ b ∷ c ∷ d ∷ [])
    cube_of_line e0 e1 =
        let k = cube_second e0 in
        record {
          factor = a;
          nonzero = first;
          is_product = four _ _ _ _
              (by_ring laws.ring (a ∷ l ∷ []) (search reify depth 60 fits 20000) tt)
              (sym line ∙ by_ring laws.ring (a ∷ l ∷ []) (search reify depth 60 fits 20000) tt)
              (k ∙ by_ring laws.ring (a ∷ l ∷ []) (search reify depth 60 fits 20000) tt)
              (cube_third e1 k ∙ by_ring laws.ring (a ∷ l ∷ []) (search reify depth 60 fits 20000) tt);
        }

  -- ---- the Hessian is a square, not zero

  module _ (a b c d l g0 g1 g2 : V) (first_is : n 3 ⊗ a ⊗ g2 ⊕ c ⊗ g0 ≡ b ⊗ g1) (second_is : b ⊗ g2 ⊕ n 3 ⊗ d ⊗ g0 ≡ c ⊗ g1) (square : g1 ⊗ g1 ⊕ ⊖ (n 4 ⊗ g0 ⊗ g2) ≡ 𝟘) (nonzero : g0 ≢ 𝟘) (line : n 2 ⊗ g0 ⊗ l ≡ g1) where
    last : g2 ≡ g0 ⊗ l ⊗ l
    last =
        cancel s laws inverts (n 4 ⊗ g0) g2 (g0 ⊗ l ⊗ l) (product_nonzero s laws inverts (n 4) g0 (whole_nonzero s laws 4 (omega arith)) nonzero)
        (linear_combination s.ops laws.ring (⊖ 𝟙) square (linear_combination s.ops laws.ring (⊖ (n 2 ⊗ g0 ⊗ l ⊕ g1)) line
        (by_ring laws.ring (g0 ∷ g1 ∷ g2 ∷ l ∷ []) (search reify depth 60 fits 20000) tt)))

    third_of : c ≡ n 2 ⊗ l ⊗ b ⊕ ⊖ (n 3 ⊗ l ⊗ l ⊗ a)
    third_of =
        cancel s laws inverts g0 c _ nonzero
        (linear_combination s.ops laws.ring 𝟙 first_is (linear_combination s.ops laws.ring (⊖ (n 3 ⊗ a)) last (linear_combination s.ops laws.ring (⊖ b) line
        (by_ring laws.ring (a ∷ b ∷ c ∷ g0 ∷ g1 ∷ g2 ∷ l ∷ []) (search reify depth 60 fits 20000) tt))))

    fourth_of : d ≡ l ⊗ l ⊗ b ⊕ ⊖ (n 2 ⊗ l ⊗ l ⊗ l ⊗ a)
    fourth_of =
        cancel s laws inverts (n 3 ⊗ g0) d _ (product_nonzero s laws inverts (n 3) g0 (whole_nonzero s laws 3 (omega arith)) nonzero)
        (linear_combination s.ops laws.ring 𝟙 second_is (linear_combination s.ops laws.ring g1 third_of (linear_combination s.ops laws.ring (⊖ b) last
        (linear_combination s.ops laws.ring (n 3 ⊗ l ⊗ l ⊗ a ⊕ ⊖ (n 2 ⊗ l ⊗ b)) line
        (by_ring laws.ring (a ∷ b ∷ c ∷ d ∷ g0 ∷ g1 ∷ g2 ∷ l ∷ []) (search reify depth 60 fits 20000) tt)))))

    pub square_of_line : Divides s.ops (power_of s.ops (𝟙 ∷ l ∷ []) 2) (a ∷ b ∷ c ∷ d ∷ [])
    square_of_line = record {
      cofactor = a ∷ (b ⊕ ⊖ (n 2 ⊗ l ⊗ a)) ∷ [];
      degrees = refl;
      is_product = four _ _ _ _
          (by_ring laws.ring (a ∷ b ∷ l ∷ []) (search reify depth 60 fits 20000) tt)
          (by_ring laws.ring (a ∷ b ∷ l ∷ []) (search reify depth 60 fits 20000) tt)
          (third_of ∙ by_ring laws.ring (a ∷ b ∷ l ∷ []) (search reify depth 60 fits 20000) tt)
          (fourth_of ∙ by_ring laws.ring (a ∷ b ∷ l ∷ []) (search reify depth 60 fits 20000) tt);
    }

  pub square_of_y : (a b c d : V) → a ≡ 𝟘 → b ≡ 𝟘 → Divides s.ops (power_of s.ops (𝟘 ∷ 𝟙 ∷ []) 2) (a ∷ b ∷ c ∷ d ∷ [])
  square_of_y a b c d ea eb = record {
    cofactor = c ∷ d ∷ [];
    degrees = refl;
    is_product = four _ _ _ _
        (ea ∙ by_ring laws.ring (c ∷ d ∷ []) (search reify depth 60 fits 20000) tt)
        (eb ∙ by_ring laws.ring (c ∷ d ∷ []) (search reify depth 60 fits 20000) tt)
        (by_ring laws.ring (c ∷ d ∷ []) (search reify depth 60 fits 20000) tt)
        (by_ring laws.ring (c ∷ d ∷ []) (search reify depth 60 fits 20000) tt);
  }

  pub cube_of_y : (a b c d : V) → a ≡ 𝟘 → b ≡ 𝟘 → c ≡ 𝟘 → d ≢ 𝟘 → IsMultiple s.ops (power_of s.ops (𝟘 ∷ 𝟙 ∷ []) 3) (a ∷ b ∷ c ∷ d ∷ [])
  cube_of_y a b c d ea eb ec nonzero = record {
    factor = d;
    nonzero = nonzero;
    is_product = four _ _ _ _
        (ea ∙ by_ring laws.ring (d ∷ []) (search reify depth 60 fits 20000) tt)
        (eb ∙ by_ring laws.ring (d ∷ []) (search reify depth 60 fits 20000) tt)
        (ec ∙ by_ring laws.ring (d ∷ []) (search reify depth 60 fits 20000) tt)
        (by_ring laws.ring (d ∷ []) (search reify depth 60 fits 20000) tt);
  }

  -- the Hessian of a multiple of a cube is zero
  abbrev at : List V → ℕ → V
  at f i = get_or f i 𝟘

  pub flat0 : (p r m : V) → let f = product s.ops (power_of s.ops (p ∷ r ∷ []) 3) (m ∷ []) in h0 (at f 0) (at f 1) (at f 2) (at f 3) ≡ 𝟘
  flat0 p r m = by_ring laws.ring (p ∷ r ∷ m ∷ []) (search reify depth 60 fits 20000) tt

  pub flat2 : (p r m : V) → let f = product s.ops (power_of s.ops (p ∷ r ∷ []) 3) (m ∷ []) in h2 (at f 0) (at f 1) (at f 2) (at f 3) ≡ 𝟘
  flat2 p r m = by_ring laws.ring (p ∷ r ∷ m ∷ []) (search reify depth 60 fits 20000) tt

  module _ (a b c d p r : V) (cube : Divides s.ops (power_of s.ops (p ∷ r ∷ []) 3) (a ∷ b ∷ c ∷ d ∷ [])) where
    whole_form : (a ∷ b ∷ c ∷ d ∷ []) ≡ product s.ops (power_of s.ops (p ∷ r ∷ []) 3) (at cube.cofactor 0 ∷ [])
    whole_form = cube.is_product ∙ ap (product s.ops (power_of s.ops (p ∷ r ∷ []) 3)) (one_entry cube.cofactor (omega (arith, cube.degrees)))

    pub no_hessian0 : h0 a b c d ≡ 𝟘
    no_hessian0 = ap (λ f. h0 (at f 0) (at f 1) (at f 2) (at f 3)) whole_form ∙ flat0 p r (at cube.cofactor 0)

    pub no_hessian2 : h2 a b c d ≡ 𝟘
    no_hessian2 = ap (λ f. h2 (at f 0) (at f 1) (at f 2) (at f 3)) whole_form ∙ flat2 p r (at cube.cofactor 0)
