-- The shape of a cubic says what it says of the cubic.
use Rattle.std.proofs.Common.{◌≡◌, ◌≢◌, ℕ, Bool, true, false, List, [], ◌∷◌, length, pos, refl, sym, ap, ◌∙◌, arith}
use Rattle.std.specs.Bool.{if◌then◌else◌}
use Rattle.std.specs.List.{All, list_all}
use Rattle.std.proofs.lemmas.List.Sums.{AllPass-from_list_all}
use Rattle.ring_theory.specs.Ring.{RingOps, IsCommRing}
use Rattle.ring_theory.specs.Rational.{rational}
use Rattle.ring_theory.specs.Scalars.{Scalars, ScalarLaws, HasInverses}
use Rattle.ring_theory.proofs.RingReify.{by_ring, reify}
use Rattle.ring_theory.proofs.RingSolver.{of_ℕ, linear_combination}
use Rattle.ring_formula.specs.Formulas.{formula_value}
use Rattle.move_law.specs.declared.covariant.TheConstants.{CUBIC_H0, CUBIC_H1, CUBIC_H2, CUBIC_TEST}
use Rattle.move_law.specs.Shapes.{cubic_shape, cubic_test, zero_cubic, cube, double, distinct, power_line, vertical, slope}
use Rattle.bin_forms.specs.Shapes.{IsCubicOf}
use Rattle.bin_forms.specs.Laws.{HasNoSquareIn, DistinctCubics}
use Rattle.bin_forms.proofs.FieldFacts.{whole_is, negative_is, whole_nonzero, product_nonzero, square_zero}
use Rattle.bin_forms.proofs.Zeros.{at_zero, not_zero, first_zero, others_zero, some_of_three, some_of_four, times_multiple_quotient}
use Rattle.bin_forms.proofs.LargerRings.{cubic_discriminant, cubic_divided, cubic_maps, stays}
use Rattle.bin_forms.proofs.CubicForms.{h0, h1, h2, first_relation, second_relation, no_first, second_zero, third_zero, cube_of_line, cube_of_y, square_of_line, square_of_y, no_hessian0, no_hessian2}

module _ {V : Type 0} (s : Scalars V) (laws : ScalarLaws s) (inverts : HasInverses s) where
  open s.ops use {zero as 𝟘, one as 𝟙, add as ◌⊕◌, mul as ◌⊗◌, neg as ⊖◌}

  infixl 6 ◌⊕◌
  infixl 7 ◌⊗◌
  infix 8 ⊖◌
  abbrev n : ℕ → V
  n k = of_ℕ s.ops k

  -- the formulas
  h0_value : (a b c d : V) → formula_value s (a ∷ b ∷ c ∷ d ∷ []) CUBIC_H0 ≡ h0 s laws inverts a b c d
  unfolding formula_value
  h0_value a b c d = rw (whole_is s laws 1, negative_is s laws 2) (by_ring laws.ring (a ∷ b ∷ c ∷ d ∷ []) (search reify depth 60 fits 20000) tt)

  h1_value : (a b c d : V) → formula_value s (a ∷ b ∷ c ∷ d ∷ []) CUBIC_H1 ≡ h1 s laws inverts a b c d
  unfolding formula_value
  h1_value a b c d = rw (whole_is s laws 1, negative_is s laws 8) (by_ring laws.ring (a ∷ b ∷ c ∷ d ∷ []) (search reify depth 60 fits 20000) tt)

  h2_value : (a b c d : V) → formula_value s (a ∷ b ∷ c ∷ d ∷ []) CUBIC_H2 ≡ h2 s laws inverts a b c d
  unfolding formula_value
  h2_value a b c d = rw (whole_is s laws 1, negative_is s laws 2) (by_ring laws.ring (a ∷ b ∷ c ∷ d ∷ []) (search reify depth 60 fits 20000) tt)

  pub test_value : (x y z : V) → formula_value s (x ∷ y ∷ z ∷ []) CUBIC_TEST ≡ y ⊗ y ⊕ ⊖ (n 4 ⊗ x ⊗ z)
  unfolding formula_value
  test_value x y z = rw (whole_is s laws 1, negative_is s laws 3) (by_ring laws.ring (x ∷ y ∷ z ∷ []) (search reify depth 60 fits 20000) tt)

  -- the discriminant, as a polynomial in the coefficients
  test_is : (a b c d : V) → cubic_test s (a ∷ b ∷ c ∷ d ∷ []) ≡ cubic_discriminant s.ops a b c d
  test_is a b c d =
      test_value (formula_value s (a ∷ b ∷ c ∷ d ∷ []) CUBIC_H0) (formula_value s (a ∷ b ∷ c ∷ d ∷ []) CUBIC_H1) (formula_value s (a ∷ b ∷ c ∷ d ∷ []) CUBIC_H2) ∙ (λ t. h1_value a b c d t ⊗ h1_value a b c d t ⊕ ⊖ (n 4 ⊗ h0_value a b c d t ⊗ h2_value a b c d t))

  module _ {W : Type 0} (r : RingOps W) (r_laws : IsCommRing r) (apart : r.one ≢ r.zero) where
    cubic_larger : (a b c d : V) → cubic_test s (a ∷ b ∷ c ∷ d ∷ []) ≢ 𝟘 → HasNoSquareIn s.ops r (a ∷ b ∷ c ∷ d ∷ [])
    cubic_larger a b c d nonzero g map_is p q h =
        stays s laws inverts r r_laws apart g map_is (cubic_discriminant s.ops a b c d) (λ z. nonzero (test_is a b c d ∙ z))
        (cubic_maps s laws inverts r r_laws apart g map_is a b c d ∙ cubic_divided r r_laws (g a) (g b) (g c) (g d) p q h)

    pub distinct_cubics : DistinctCubics s r
    distinct_cubics [] e = absurd (omega arith)
    distinct_cubics (a ∷ []) e = absurd (omega arith)
    distinct_cubics (a ∷ b ∷ []) e = absurd (omega arith)
    distinct_cubics (a ∷ b ∷ c ∷ []) e = absurd (omega arith)
    distinct_cubics (a ∷ b ∷ c ∷ d ∷ []) e = cubic_larger a b c d
    distinct_cubics (a ∷ b ∷ c ∷ d ∷ u ∷ f) e = absurd (omega arith)

  module _ (a b c d : V) where
    abbrev f : List V
    f = a ∷ b ∷ c ∷ d ∷ []

    abbrev x0 : V
    x0 = formula_value s f CUBIC_H0

    abbrev x1 : V
    x1 = formula_value s f CUBIC_H1

    abbrev x2 : V
    x2 = formula_value s f CUBIC_H2

    -- the Hessian is zero
    at_cube : list_all s.is_zero f ≡ false → list_all s.is_zero (x0 ∷ x1 ∷ x2 ∷ []) ≡ true → (t : Bool) → s.is_zero a ≡ t
        → IsCubicOf s f (cube (if t then vertical else slope (s.ops.mul b (s.inverse (s.ops.mul (s.rational (rational (pos 3) 1)) a)))))
    at_cube some none t q = step t q
      where
        e0 : h0 s laws inverts a b c d ≡ 𝟘
        e0 = sym (h0_value a b c d) ∙ first_zero s laws x0 (x1 ∷ x2 ∷ []) none

        e1 : h1 s laws inverts a b c d ≡ 𝟘
        e1 = sym (h1_value a b c d) ∙ first_zero s laws x1 (x2 ∷ []) (others_zero s laws x0 (x1 ∷ x2 ∷ []) none)

        e2 : h2 s laws inverts a b c d ≡ 𝟘
        e2 = sym (h2_value a b c d) ∙ first_zero s laws x2 [] (others_zero s laws x1 (x2 ∷ []) (others_zero s laws x0 (x1 ∷ x2 ∷ []) none))

        step : (t : Bool) → s.is_zero a ≡ t → IsCubicOf s f (cube (if t then vertical else slope (s.ops.mul b (s.inverse (s.ops.mul (s.rational (rational (pos 3) 1)) a)))))
        step true q =
            let ea = at_zero s laws q in
            let eb = second_zero s laws inverts a b c d e0 ea in
            let ec = third_zero s laws inverts a b c d e2 eb in
            cube_of_y s laws inverts a b c d ea eb ec (some_of_four s laws a b c d some ea eb ec)
        step false q =
            let first = not_zero s laws q in
            cube_of_line s laws inverts a b c d _ first
            (times_multiple_quotient s laws inverts 3 b a (product_nonzero s laws inverts (n 3) a (whole_nonzero s laws 3 (omega arith)) first)) e0 e1

    -- the Hessian is a square, not zero
    at_double : list_all s.is_zero (x0 ∷ x1 ∷ x2 ∷ []) ≡ false → formula_value s (x0 ∷ x1 ∷ x2 ∷ []) CUBIC_TEST ≡ 𝟘 → (t : Bool) → s.is_zero x0 ≡ t
        → IsCubicOf s f (double (if t then vertical else slope (s.ops.mul x1 (s.inverse (s.ops.mul (s.rational (rational (pos 2) 1)) x0)))))
    at_double some test t q = step t q
      where
        square : x1 ⊗ x1 ⊕ ⊖ (n 4 ⊗ x0 ⊗ x2) ≡ 𝟘
        square = sym (test_value x0 x1 x2) ∙ test

        step : (t : Bool) → s.is_zero x0 ≡ t → IsCubicOf s f (double (if t then vertical else slope (s.ops.mul x1 (s.inverse (s.ops.mul (s.rational (rational (pos 2) 1)) x0)))))
        step true q =
            let e0 : x0 ≡ 𝟘 = at_zero s laws q in
            let e1 : x1 ≡ 𝟘 =
            square_zero s laws inverts x1
            (linear_combination s.ops laws.ring 𝟙 square (linear_combination s.ops laws.ring (n 4 ⊗ x2) e0 (by_ring laws.ring (x0 ∷ x1 ∷ x2 ∷ []) (search reify depth 60 fits 20000) tt))) in
            let last : h2 s laws inverts a b c d ≢ 𝟘 = λ z. some_of_three s laws x0 x1 x2 some e0 e1 (h2_value a b c d ∙ z) in
            let ea = no_first s laws inverts a b c d (sym (h0_value a b c d) ∙ e0) (sym (h1_value a b c d) ∙ e1) last in
            let eb = second_zero s laws inverts a b c d (sym (h0_value a b c d) ∙ e0) ea in
            record {
              divides = square_of_y s laws inverts a b c d ea eb;
              no_more = λ h. last (no_hessian2 s laws inverts a b c d 𝟘 𝟙 h);
            }
        step false q =
            let nonzero : x0 ≢ 𝟘 = not_zero s laws q in
            record {
              divides =
                  square_of_line s laws inverts a b c d _ x0 x1 x2
                  ((λ t. n 3 ⊗ a ⊗ h2_value a b c d t ⊕ c ⊗ h0_value a b c d t) ∙ first_relation s laws inverts a b c d ∙ ap (λ z. b ⊗ z) (sym (h1_value a b c d)))
                  ((λ t. b ⊗ h2_value a b c d t ⊕ n 3 ⊗ d ⊗ h0_value a b c d t) ∙ second_relation s laws inverts a b c d ∙ ap (λ z. c ⊗ z) (sym (h1_value a b c d)))
                  square nonzero
                  (times_multiple_quotient s laws inverts 2 x1 x0 (product_nonzero s laws inverts (n 2) x0 (whole_nonzero s laws 2 (omega arith)) nonzero));
              no_more = λ h. nonzero (h0_value a b c d ∙ no_hessian0 s laws inverts a b c d 𝟙 _ h);
            }

    pub cubic_of_four : IsCubicOf s f (cubic_shape s f)
    unfolding cubic_shape
    cubic_of_four = at_form (list_all s.is_zero f) refl
      where
        at_test : list_all s.is_zero (x0 ∷ x1 ∷ x2 ∷ []) ≡ false → (t : Bool) → s.is_zero (cubic_test s f) ≡ t
            → IsCubicOf s f (if t then double (power_line s 2 x0 x1) else distinct)
        at_test some true q = at_double some (at_zero s laws q) (s.is_zero x0) refl
        at_test some false q = not_zero s laws q

        at_hessian : list_all s.is_zero f ≡ false → (t : Bool) → list_all s.is_zero (x0 ∷ x1 ∷ x2 ∷ []) ≡ t
            → IsCubicOf s f (if t then cube (power_line s 3 a b) else (if s.is_zero (cubic_test s f) then double (power_line s 2 x0 x1) else distinct))
        at_hessian some true q = at_cube some q (s.is_zero a) refl
        at_hessian some false q = at_test q (s.is_zero (cubic_test s f)) refl

        at_form : (t : Bool) → list_all s.is_zero f ≡ t
            → IsCubicOf s f (if t then zero_cubic else (if list_all s.is_zero (x0 ∷ x1 ∷ x2 ∷ []) then cube (power_line s 3 a b) else (if s.is_zero (cubic_test s f) then double (power_line s 2 x0 x1) else distinct)))
        at_form true q = all_zero f q
          where
            all_zero : (xs : List V) → list_all s.is_zero xs ≡ true → All (λ v. v ≡ 𝟘) xs
            all_zero xs q k x h = at_zero s laws (AllPass-from_list_all s.is_zero xs q k x h)
        at_form false q = at_hessian q (list_all s.is_zero (x0 ∷ x1 ∷ x2 ∷ [])) refl

  -- of every cubic
  pub cubic_is : (f : List V) → length f ≡ 4 → IsCubicOf s f (cubic_shape s f)
  cubic_is [] e = absurd (omega arith)
  cubic_is (a ∷ []) e = absurd (omega arith)
  cubic_is (a ∷ b ∷ []) e = absurd (omega arith)
  cubic_is (a ∷ b ∷ c ∷ []) e = absurd (omega arith)
  cubic_is (a ∷ b ∷ c ∷ d ∷ []) e = cubic_of_four a b c d
  cubic_is (a ∷ b ∷ c ∷ d ∷ u ∷ f) e = absurd (omega arith)
