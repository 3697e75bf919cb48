-- The shape of a quartic says what it says of the quartic.
use Rattle.std.proofs.Common.{◌≡◌, ◌≢◌, ℕ, Bool, true, false, ◌&&◌, not, List, [], ◌∷◌, pos, refl, sym, ap, ◌∙◌, arith}
use Rattle.std.specs.Bool.{if◌then◌else◌}
use Rattle.std.specs.List.{list_all}
use Rattle.std.proofs.lemmas.List.Sums.{AllPass-from_list_all}
use Rattle.ring_theory.specs.Ring.{RingOps, IsCommRing}
use Rattle.ring_theory.specs.Rational.{rational}
use Rattle.ring_theory.specs.Scalars.{Scalars, ScalarLaws, HasInverses}
use Rattle.ring_theory.proofs.RingReify.{by_ring, reify}
use Rattle.ring_theory.proofs.RingSolver.{of_ℕ, linear_combination, zero_mul}
use Rattle.ring_formula.specs.Formulas.{formula_value}
use Rattle.normal_forms.specs.Units.{minus, times_number, square, cube, over_number, quartic_i, quartic_j, quartic_discriminant}
use Rattle.move_law.specs.declared.covariant.TheConstants.{QUARTIC_H0, QUARTIC_H1, QUARTIC_H2, QUARTIC_H3, QUARTIC_H4}
use Rattle.move_law.specs.Shapes.{QuarticShape, vertical, slope, quartic_shape, pair_of, zero_quartic, distinct_lines, fourth, triple, double_line, two_doubles, power_line}
use Rattle.bin_forms.specs.Forms.{power_of, Divides}
use Rattle.bin_forms.specs.Quartics.{IsQuarticOf, HasNoOtherSquare}
use Rattle.bin_forms.specs.Laws.{HasNoSquareIn, DistinctQuartics, QuarticsAreAsShaped}
use Rattle.bin_forms.proofs.FieldFacts.{cancel, zero_factor, square_zero, whole_is, negative_is, times_part, whole_nonzero, product_nonzero}
use Rattle.bin_forms.proofs.Zeros.{at_zero, not_zero, first_zero, others_zero, some_of_five, times_quotient, times_multiple_quotient}
use Rattle.bin_forms.proofs.CubicShapes.{test_value}
use Rattle.bin_forms.proofs.LargerRings.{plain_i, plain_j, plain_discriminant, quartic_divided, quartic_maps, stays}
use Rattle.bin_forms.proofs.QuarticForms as forms

module _ {V : Type 0} (s : Scalars V) (laws : ScalarLaws s) (inverts : HasInverses s) where
  open s.ops use {zero as 𝟘, one as 𝟙, add as ◌⊕◌, mul as ◌⊗◌, neg as ⊖◌}

  infixl 6 ◌⊕◌
  infixl 7 ◌⊗◌
  infix 8 ⊖◌
  abbrev n : ℕ → V
  n k = of_ℕ s.ops k

  -- ---- the formulas

  g0_value : (a b c d e : V) → formula_value s (a ∷ b ∷ c ∷ d ∷ e ∷ []) QUARTIC_H0 ≡ forms.g0 s laws inverts a b c d e
  unfolding formula_value
  g0_value a b c d e = rw (whole_is s laws 1, negative_is s laws 0) (by_ring laws.ring (a ∷ b ∷ c ∷ d ∷ e ∷ []) (search reify depth 60 fits 20000) tt)

  g1_value : (a b c d e : V) → formula_value s (a ∷ b ∷ c ∷ d ∷ e ∷ []) QUARTIC_H1 ≡ forms.g1 s laws inverts a b c d e
  unfolding formula_value
  g1_value a b c d e = rw (whole_is s laws 2, negative_is s laws 1) (by_ring laws.ring (a ∷ b ∷ c ∷ d ∷ e ∷ []) (search reify depth 60 fits 20000) tt)

  g2_value : (a b c d e : V) → formula_value s (a ∷ b ∷ c ∷ d ∷ e ∷ []) QUARTIC_H2 ≡ forms.g2 s laws inverts a b c d e
  unfolding formula_value
  g2_value a b c d e = rw (whole_is s laws 1, whole_is s laws 2, negative_is s laws 2) (by_ring laws.ring (a ∷ b ∷ c ∷ d ∷ e ∷ []) (search reify depth 60 fits 20000) tt)

  g3_value : (a b c d e : V) → formula_value s (a ∷ b ∷ c ∷ d ∷ e ∷ []) QUARTIC_H3 ≡ forms.g3 s laws inverts a b c d e
  unfolding formula_value
  g3_value a b c d e = rw (whole_is s laws 2, negative_is s laws 1) (by_ring laws.ring (a ∷ b ∷ c ∷ d ∷ e ∷ []) (search reify depth 60 fits 20000) tt)

  g4_value : (a b c d e : V) → formula_value s (a ∷ b ∷ c ∷ d ∷ e ∷ []) QUARTIC_H4 ≡ forms.g4 s laws inverts a b c d e
  unfolding formula_value
  g4_value a b c d e = rw (whole_is s laws 1, negative_is s laws 0) (by_ring laws.ring (a ∷ b ∷ c ∷ d ∷ e ∷ []) (search reify depth 60 fits 20000) tt)

  i_value : (a b c d e : V) → s.ops.add (minus s (s.ops.mul a e) (times_number s 4 (s.ops.mul b d))) (times_number s 3 (square s c)) ≡ forms.i s laws inverts a b c d e
  i_value a b c d e =
      (λ t. s.ops.add (minus s (s.ops.mul a e) (s.ops.mul (whole_is s laws 4 t) (s.ops.mul b d))) (s.ops.mul (whole_is s laws 3 t) (square s c)))
      ∙ by_ring laws.ring (a ∷ b ∷ c ∷ d ∷ e ∷ []) (search reify depth 60 fits 20000) tt

  j_value : (a b c d e : V) → minus s (minus s (minus s (s.ops.add (s.ops.mul (s.ops.mul a c) e) (times_number s 2 (s.ops.mul (s.ops.mul b c) d))) (s.ops.mul a (square s d))) (s.ops.mul (square s b) e)) (cube s c)
      ≡ forms.j s laws inverts a b c d e
  j_value a b c d e =
      (λ t. minus s (minus s (minus s (s.ops.add (s.ops.mul (s.ops.mul a c) e) (s.ops.mul (whole_is s laws 2 t) (s.ops.mul (s.ops.mul b c) d))) (s.ops.mul a (square s d))) (s.ops.mul (square s b) e)) (cube s c))
      ∙ by_ring laws.ring (a ∷ b ∷ c ∷ d ∷ e ∷ []) (search reify depth 60 fits 20000) tt

  pub discriminant_value : (x y : V) → minus s (cube s x) (times_number s 27 (square s y)) ≡ x ⊗ x ⊗ x ⊕ ⊖ (n 27 ⊗ y ⊗ y)
  discriminant_value x y =
      (λ t. minus s (cube s x) (s.ops.mul (whole_is s laws 27 t) (square s y))) ∙ by_ring laws.ring (x ∷ y ∷ []) (search reify depth 60 fits 20000) tt

  -- ---- I and J of a quartic whose discriminant is zero, by w = 3 J/(2 I)

  module _ (x y : V) (test : x ⊗ x ⊗ x ⊕ ⊖ (n 27 ⊗ y ⊗ y) ≡ 𝟘) where
    -- I is not zero where not both are
    pub some_i : (s.is_zero x && s.is_zero y) ≡ false → x ≢ 𝟘
    some_i some z = bad (s.is_zero x) (s.is_zero y) ((laws.zero_test x).1 z) ((laws.zero_test y).1 zero_y) some
      where
        zero_y : y ≡ 𝟘
        zero_y =
            square_zero s laws inverts y
            (zero_factor s laws inverts (n 27) (y ⊗ y) (whole_nonzero s laws 27 (omega arith))
            (linear_combination s.ops laws.ring (⊖ 𝟙) test (linear_combination s.ops laws.ring (x ⊗ x) z (by_ring laws.ring (x ∷ y ∷ []) (search reify depth 60 fits 20000) tt))))

        bad : (b c : Bool) → b ≡ true → c ≡ true → (b && c) ≡ false → ⊥
        bad true true p q e = cc e
        bad true false p q e = cc q
        bad false c p q e = cc p

    module _ (w : V) (nonzero : x ≢ 𝟘) (w_is : n 2 ⊗ x ⊗ w ≡ n 3 ⊗ y) where
      pub i_by : x ≡ n 12 ⊗ w ⊗ w
      i_by =
          cancel s laws inverts (n 4 ⊗ (x ⊗ x)) x (n 12 ⊗ w ⊗ w) (product_nonzero s laws inverts (n 4) (x ⊗ x) (whole_nonzero s laws 4 (omega arith)) (product_nonzero s laws inverts x x nonzero nonzero))
          (linear_combination s.ops laws.ring (n 4) test (linear_combination s.ops laws.ring (⊖ (n 12 ⊗ (n 2 ⊗ x ⊗ w ⊕ n 3 ⊗ y))) w_is
          (by_ring laws.ring (x ∷ y ∷ w ∷ []) (search reify depth 60 fits 20000) tt)))

      pub j_by : y ≡ n 8 ⊗ w ⊗ w ⊗ w
      j_by =
          cancel s laws inverts (n 3) y (n 8 ⊗ w ⊗ w ⊗ w) (whole_nonzero s laws 3 (omega arith))
          (linear_combination s.ops laws.ring (⊖ 𝟙) w_is (linear_combination s.ops laws.ring (n 2 ⊗ w) i_by
          (by_ring laws.ring (x ∷ y ∷ w ∷ []) (search reify depth 60 fits 20000) tt)))

      pub some_w : w ≢ 𝟘
      some_w z = nonzero (i_by ∙ ap (λ v. n 12 ⊗ v ⊗ w) z ∙ by_ring laws.ring (w ∷ []) (search reify depth 60 fits 20000) tt)

  -- ---- lines that stand more than once

  module _ (a q1 q2 q3 e : V) where
    abbrev f : List V
    f = a ∷ q1 ∷ q2 ∷ q3 ∷ e ∷ []

    abbrev b : V
    b = over_number s 4 q1

    abbrev c : V
    c = over_number s 6 q2

    abbrev d : V
    d = over_number s 4 q3

    b_is : n 4 ⊗ b ≡ q1
    b_is = times_part s laws 4 q1 (omega arith)

    c_is : n 6 ⊗ c ≡ q2
    c_is = times_part s laws 6 q2 (omega arith)

    d_is : n 4 ⊗ d ≡ q3
    d_is = times_part s laws 4 q3 (omega arith)

    times_zero : (k : ℕ) (x y : V) → n k ⊗ x ≡ y → x ≡ 𝟘 → y ≡ 𝟘
    times_zero k x y h z = sym h ∙ ap (λ v. n k ⊗ v) z ∙ laws.ring.mul_comm _ _ ∙ zero_mul s.ops laws.ring (n k)

    abbrev fourth_slope : V → V → V
    fourth_slope x y = s.ops.mul y (s.inverse (s.ops.mul (s.rational (rational (pos 4) 1)) x))

    -- the Hessian is zero
    at_fourth : list_all s.is_zero f ≡ false → forms.g0 s laws inverts a b c d e ≡ 𝟘 → forms.g1 s laws inverts a b c d e ≡ 𝟘 → forms.g2 s laws inverts a b c d e ≡ 𝟘 → forms.g4 s laws inverts a b c d e ≡ 𝟘
        → (t : Bool) → s.is_zero a ≡ t → IsQuarticOf s f (fourth (if t then vertical else slope (fourth_slope a q1)))
    at_fourth some e0 e1 e2 e4 true q =
        let ea = at_zero s laws q in
        let eb = forms.b_zero s laws inverts a b c d e ea e0 in
        let ec = forms.c_zero s laws inverts a b c d e ea e0 e2 e4 in
        let ed = forms.d_zero s laws inverts a b c d e ea e0 e2 e4 in
        forms.fourth_of_y s laws inverts a b c d e q1 q2 q3 ea eb ec ed
        (some_of_five s laws a q1 q2 q3 e some ea (times_zero 4 b q1 b_is eb) (times_zero 6 c q2 c_is ec) (times_zero 4 d q3 d_is ed)) b_is c_is d_is
    at_fourth some e0 e1 e2 e4 false q =
        let first = not_zero s laws q in
        let multiple = times_multiple_quotient s laws inverts 4 q1 a (product_nonzero s laws inverts (n 4) a (whole_nonzero s laws 4 (omega arith)) first) in
        let line : a ⊗ fourth_slope a q1 ≡ b =
        cancel s laws inverts (n 4) (a ⊗ fourth_slope a q1) b (whole_nonzero s laws 4 (omega arith)) (sym (laws.ring.mul_assoc _ _ _) ∙ multiple ∙ sym b_is) in
        forms.fourth_of_line s laws inverts a b c d e (fourth_slope a q1) first line e0 e1 e2 q1 q2 q3 b_is c_is d_is

    -- a value w with I = 12 w^2 and J = 8 w^3, and the coefficients z of H - w q
    module _ (w z0 z1 z2 z3 z4 : V) (i_is : forms.i s laws inverts a b c d e ≡ n 12 ⊗ w ⊗ w) (j_is : forms.j s laws inverts a b c d e ≡ n 8 ⊗ w ⊗ w ⊗ w)
        (z0_is : z0 ≡ forms.k0 s laws inverts a b c w) (z1_is : z1 ≡ forms.k1 s laws inverts a b c d w) (z2_is : z2 ≡ forms.k2 s laws inverts a b c d e w)
        (z3_is : z3 ≡ forms.k3 s laws inverts b c d e w) (z4_is : z4 ≡ forms.k4 s laws inverts c d e w) where
      module _ (some : list_all s.is_zero (z0 ∷ z1 ∷ z2 ∷ z3 ∷ z4 ∷ []) ≡ false) where
        -- y stands more than once
        module _ (no : z0 ≡ 𝟘) where
          no_a : (t : Bool) → s.is_zero a ≡ t → a ≡ 𝟘
          no_a true q = at_zero s laws q
          no_a false q =
              let first = not_zero s laws q in
              let e0 = sym z0_is ∙ no in
              absurd (some_of_five s laws z0 z1 z2 z3 z4 some no
              (z1_is ∙ forms.rest1 s laws inverts a b c d e w i_is j_is first e0)
              (z2_is ∙ forms.rest2 s laws inverts a b c d e w i_is j_is first e0)
              (z3_is ∙ forms.rest3 s laws inverts a b c d e w i_is j_is first e0)
              (z4_is ∙ forms.rest4 s laws inverts a b c d e w i_is j_is first e0))

          at_a : a ≡ 𝟘
          at_a = no_a (s.is_zero a) refl

          at_b : b ≡ 𝟘
          at_b = forms.rest_b_zero s laws inverts a b c w at_a (sym z0_is ∙ no)

          pub square_y : Divides s.ops (power_of s.ops (𝟘 ∷ 𝟙 ∷ []) 2) f
          square_y = forms.square_of_y s laws inverts a b c d e q1 q2 q3 at_a at_b b_is

          pub last_nonzero : c ≡ ⊖ (n 2 ⊗ w) → forms.k4 s laws inverts c d e w ≢ 𝟘
          last_nonzero ec z =
              some_of_five s laws z0 z1 z2 z3 z4 some no
              (z1_is ∙ forms.k1_zero s laws inverts a b c d w at_a at_b)
              (z2_is ∙ forms.k2_zero s laws inverts a b c d e w at_a at_b ec)
              (z3_is ∙ forms.k3_zero s laws inverts b c d e w at_b ec)
              (z4_is ∙ z)

          pub only_y : c ≡ ⊖ (n 2 ⊗ w) → HasNoOtherSquare s (𝟘 ∷ 𝟙 ∷ []) f
          only_y ec p r h = (r, forms.only_y s laws inverts a b c d e q1 q2 q3 b_is c_is d_is w p r h at_a at_b ec (last_nonzero ec))

        -- the line x + l y
        module _ (l : V) (nonzero : z0 ≢ 𝟘) (line : n 4 ⊗ z0 ⊗ l ≡ z1) where
          first_nonzero : forms.k0 s laws inverts a b c w ≢ 𝟘
          first_nonzero z = nonzero (z0_is ∙ z)

          line_is : n 4 ⊗ forms.k0 s laws inverts a b c w ⊗ l ≡ forms.k1 s laws inverts a b c d w
          line_is = ap (λ v. n 4 ⊗ v ⊗ l) (sym z0_is) ∙ line ∙ z1_is

          pub c_of : (t : Bool) → s.is_zero a ≡ t → c ≡ forms.c2 s laws inverts a b w l
          c_of true q = forms.double_c0 s laws inverts a b c d e w i_is j_is l first_nonzero line_is (at_zero s laws q)
          c_of false q = forms.double_c s laws inverts a b c d e w i_is j_is l first_nonzero line_is (not_zero s laws q)

          pub d_of : (t : Bool) → s.is_zero a ≡ t → d ≡ forms.d2 s laws inverts a b c l
          d_of true q = forms.double_d0 s laws inverts a b c d e w i_is j_is l first_nonzero line_is (at_zero s laws q)
          d_of false q = forms.double_d s laws inverts a b c d e w i_is j_is l first_nonzero line_is (not_zero s laws q)

          pub e_of : (t : Bool) → s.is_zero a ≡ t → e ≡ forms.e2 s laws inverts a b c l
          e_of true q = forms.double_e0 s laws inverts a b c d e w i_is j_is l first_nonzero line_is (at_zero s laws q)
          e_of false q = forms.double_e s laws inverts a b c d e w i_is j_is l first_nonzero line_is (not_zero s laws q)

          pub only_line : HasNoOtherSquare s (𝟙 ∷ l ∷ []) f
          only_line p r h =
              (p, forms.only_line s laws inverts a b c d e q1 q2 q3 b_is c_is d_is w p r h l (c_of (s.is_zero a) refl) (d_of (s.is_zero a) refl) (e_of (s.is_zero a) refl) first_nonzero)

        -- exactly the square of the line, where w is not zero
        pub at_double : w ≢ 𝟘 → forms.i s laws inverts a b c d e ≢ 𝟘 → (t : Bool) → s.is_zero z0 ≡ t → IsQuarticOf s f (double_line (if t then vertical else slope (fourth_slope z0 z1)))
        at_double some_w some_i true q =
            let no = at_zero s laws q in (
              record {
                divides = square_y no;
                no_more = λ h. some_i (forms.no_third s laws inverts a b c d e q1 q2 q3 b_is c_is d_is 𝟘 𝟙 h);
              },
              only_y no (forms.rest_c s laws inverts a b c d e w i_is j_is some_w (at_a no) (at_b no)),
            )
        at_double some_w some_i false q =
            let nonzero = not_zero s laws q in
            let line = times_multiple_quotient s laws inverts 4 z1 z0 (product_nonzero s laws inverts (n 4) z0 (whole_nonzero s laws 4 (omega arith)) nonzero) in (
              record {
                divides = forms.square_of_line s laws inverts a b c d e (fourth_slope z0 z1) q1 q2 q3 (d_of (fourth_slope z0 z1) nonzero line (s.is_zero a) refl) (e_of (fourth_slope z0 z1) nonzero line (s.is_zero a) refl) b_is c_is d_is;
                no_more = λ h. some_i (forms.no_third s laws inverts a b c d e q1 q2 q3 b_is c_is d_is 𝟙 (fourth_slope z0 z1) h);
              },
              only_line (fourth_slope z0 z1) nonzero line,
            )

        -- exactly the cube of the line, where w is zero
        pub at_triple : w ≡ 𝟘 → (t : Bool) → s.is_zero z0 ≡ t → IsQuarticOf s f (triple (if t then vertical else slope (fourth_slope z0 z1)))
        at_triple no_w true q =
            let no = at_zero s laws q in
            let ec : c ≡ 𝟘 = forms.flat_c s laws inverts a b c d e w i_is no_w (at_a no) (at_b no) in
            let ec2 : c ≡ ⊖ (n 2 ⊗ w) = ec ∙ forms.no_twice s laws inverts w no_w in (
              record {
                divides = forms.cube_of_y s laws inverts a b c d e q1 q2 q3 (at_a no) (at_b no) ec b_is c_is;
                no_more = λ h. last_nonzero no ec2 (forms.k4_zero s laws inverts c d e w ec (forms.no_fourth_y s laws inverts a b c d e q1 q2 q3 b_is c_is d_is h) no_w);
              },
              only_y no ec2,
            )
        at_triple no_w false q =
            let nonzero = not_zero s laws q in
            let line = times_multiple_quotient s laws inverts 4 z1 z0 (product_nonzero s laws inverts (n 4) z0 (whole_nonzero s laws 4 (omega arith)) nonzero) in
            let ec = c_of (fourth_slope z0 z1) nonzero line (s.is_zero a) refl in (
              record {
                divides = forms.cube_of_line s laws inverts a b c d e (fourth_slope z0 z1) q1 q2 q3 (ec ∙ ap (λ v. forms.c2 s laws inverts a b v (fourth_slope z0 z1)) no_w)
                    (d_of (fourth_slope z0 z1) nonzero line (s.is_zero a) refl) (e_of (fourth_slope z0 z1) nonzero line (s.is_zero a) refl) b_is c_is d_is;
                no_more = λ h. first_nonzero (fourth_slope z0 z1) nonzero line (forms.k0_zero s laws inverts a b c d e w (forms.no_fourth s laws inverts a b c d e q1 q2 q3 b_is c_is d_is 𝟙 (fourth_slope z0 z1) h) no_w);
              },
              only_line (fourth_slope z0 z1) nonzero line,
            )

      -- the square of a quadratic form
      module _ (none : list_all s.is_zero (z0 ∷ z1 ∷ z2 ∷ z3 ∷ z4 ∷ []) ≡ true) (some_w : w ≢ 𝟘) (some_i : forms.i s laws inverts a b c d e ≢ 𝟘) where
        none1 : list_all s.is_zero (z1 ∷ z2 ∷ z3 ∷ z4 ∷ []) ≡ true
        none1 = others_zero s laws z0 (z1 ∷ z2 ∷ z3 ∷ z4 ∷ []) none

        none2 : list_all s.is_zero (z2 ∷ z3 ∷ z4 ∷ []) ≡ true
        none2 = others_zero s laws z1 (z2 ∷ z3 ∷ z4 ∷ []) none1

        none3 : list_all s.is_zero (z3 ∷ z4 ∷ []) ≡ true
        none3 = others_zero s laws z2 (z3 ∷ z4 ∷ []) none2

        e0 : forms.k0 s laws inverts a b c w ≡ 𝟘
        e0 = sym z0_is ∙ first_zero s laws z0 (z1 ∷ z2 ∷ z3 ∷ z4 ∷ []) none

        e1 : forms.k1 s laws inverts a b c d w ≡ 𝟘
        e1 = sym z1_is ∙ first_zero s laws z1 (z2 ∷ z3 ∷ z4 ∷ []) none1

        e2 : forms.k2 s laws inverts a b c d e w ≡ 𝟘
        e2 = sym z2_is ∙ first_zero s laws z2 (z3 ∷ z4 ∷ []) none2

        e4 : forms.k4 s laws inverts c d e w ≡ 𝟘
        e4 = sym z4_is ∙ first_zero s laws z4 [] (others_zero s laws z3 (z4 ∷ []) none3)

        abbrev corner : V
        corner = s.ops.mul q3 (s.inverse (s.ops.mul (s.rational (rational (pos 2) 1)) q2))

        abbrev middle : V
        middle = s.ops.mul q1 (s.inverse (s.ops.mul (s.rational (rational (pos 2) 1)) a))

        abbrev ratio : V
        ratio = s.ops.mul q2 (s.inverse a)

        abbrev last : V
        last = s.ops.mul (ratio ⊕ ⊖ (middle ⊗ middle)) (s.inverse (s.rational (rational (pos 2) 1)))

        two_nonzero : s.rational (rational (pos 2) 1) ≢ 𝟘
        two_nonzero z = whole_nonzero s laws 2 (omega arith) (sym (whole_is s laws 2) ∙ z)

        pub at_pair : (t : Bool) → s.is_zero a ≡ t → IsQuarticOf s f (if t then two_doubles 𝟘 𝟙 corner else two_doubles 𝟙 middle last)
        at_pair true q =
            let ea = at_zero s laws q in
            let eb = forms.rest_b_zero s laws inverts a b c w ea e0 in
            let some_c : c ≢ 𝟘 = λ z. some_i (forms.i_zero s laws inverts a b c d e ea eb z) in
            let some_q2 : q2 ≢ 𝟘 = λ z. product_nonzero s laws inverts (n 6) c (whole_nonzero s laws 6 (omega arith)) some_c (c_is ∙ z) in (
              forms.square_of_corner s laws inverts a b c d e w corner q1 q2 q3 ea eb b_is c_is d_is some_c
                  (times_multiple_quotient s laws inverts 2 q3 q2 (product_nonzero s laws inverts (n 2) q2 (whole_nonzero s laws 2 (omega arith)) some_q2)) e2 e4,
              λ z. laws.nontrivial (one_square corner ∙ sym (test_value s laws inverts 𝟘 𝟙 corner) ∙ z),
            )
          where
            one_square : (v : V) → 𝟙 ≡ 𝟙 ⊗ 𝟙 ⊕ ⊖ (n 4 ⊗ 𝟘 ⊗ v)
            one_square v = by_ring laws.ring (v ∷ []) (search reify depth 60 fits 20000) tt
        at_pair false q =
            let first = not_zero s laws q in
            let u_is = times_multiple_quotient s laws inverts 2 q1 a (product_nonzero s laws inverts (n 2) a (whole_nonzero s laws 2 (omega arith)) first) in
            let t_is = times_quotient s laws inverts q2 a first in
            let v_is : n 2 ⊗ last ≡ ratio ⊕ ⊖ (middle ⊗ middle) = ap (λ z. z ⊗ last) (sym (whole_is s laws 2)) ∙ times_quotient s laws inverts (ratio ⊕ ⊖ (middle ⊗ middle)) (s.rational (rational (pos 2) 1)) two_nonzero in (
              forms.square_of_pair s laws inverts a b c d e w middle ratio last q1 q2 q3 first b_is c_is d_is u_is t_is v_is e0 e1 e2,
              λ z. forms.pair_nonzero s laws inverts a b c d e w middle ratio last q1 q2 q3 first b_is c_is d_is u_is t_is v_is e0 some_w
                  (one_times middle last ∙ sym (test_value s laws inverts 𝟙 middle last) ∙ z),
            )
          where
            one_times : (u v : V) → u ⊗ u ⊕ ⊖ (n 4 ⊗ v) ≡ u ⊗ u ⊕ ⊖ (n 4 ⊗ 𝟙 ⊗ v)
            one_times u v = by_ring laws.ring (u ∷ v ∷ []) (search reify depth 60 fits 20000) tt

    -- ---- the cases

    abbrev y0 : V
    y0 = formula_value s (a ∷ b ∷ c ∷ d ∷ e ∷ []) QUARTIC_H0

    abbrev y1 : V
    y1 = formula_value s (a ∷ b ∷ c ∷ d ∷ e ∷ []) QUARTIC_H1

    abbrev y2 : V
    y2 = formula_value s (a ∷ b ∷ c ∷ d ∷ e ∷ []) QUARTIC_H2

    abbrev y3 : V
    y3 = formula_value s (a ∷ b ∷ c ∷ d ∷ e ∷ []) QUARTIC_H3

    abbrev y4 : V
    y4 = formula_value s (a ∷ b ∷ c ∷ d ∷ e ∷ []) QUARTIC_H4

    abbrev hessian : List V
    hessian = y0 ∷ y1 ∷ y2 ∷ y3 ∷ y4 ∷ []

    abbrev first_invariant : V
    first_invariant = quartic_i s f

    abbrev second_invariant : V
    second_invariant = quartic_j s f

    i_of : first_invariant ≡ forms.i s laws inverts a b c d e
    i_of = i_value a b c d e

    j_of : second_invariant ≡ forms.j s laws inverts a b c d e
    j_of = j_value a b c d e

    abbrev w : V
    w = s.ops.mul (s.ops.mul (s.rational (rational (pos 3) 1)) second_invariant) (s.inverse (s.ops.mul (s.rational (rational (pos 2) 1)) first_invariant))

    abbrev less : V → V → V
    less h q = h ⊕ ⊖ (w ⊗ q)

    abbrev rest : List V
    rest = less y0 a ∷ less y1 q1 ∷ less y2 q2 ∷ less y3 q3 ∷ less y4 e ∷ []

    abbrev rest_shape : Bool → QuarticShape V
    rest_shape t = if not t then double_line (power_line s 4 (less y0 a) (less y1 q1)) else pair_of s f

    abbrev invariant_shape : Bool → QuarticShape V
    invariant_shape t = if t then triple (power_line s 4 y0 y1) else rest_shape (list_all s.is_zero rest)

    abbrev hessian_shape : Bool → QuarticShape V
    hessian_shape t = if t then fourth (power_line s 4 a q1) else invariant_shape (s.is_zero first_invariant && s.is_zero second_invariant)

    abbrev discriminant_shape : Bool → QuarticShape V
    discriminant_shape t = if not t then distinct_lines else hessian_shape (list_all s.is_zero hessian)

    less_zero : (x v : V) → x ≡ x ⊕ ⊖ (𝟘 ⊗ v)
    less_zero x v = by_ring laws.ring (x ∷ v ∷ []) (search reify depth 60 fits 20000) tt

    zero_square : (v : V) → 𝟘 ≡ n 12 ⊗ 𝟘 ⊗ 𝟘
    zero_square v = by_ring laws.ring (v ∷ []) (search reify depth 60 fits 20000) tt

    zero_cube : (v : V) → 𝟘 ≡ n 8 ⊗ 𝟘 ⊗ 𝟘 ⊗ 𝟘
    zero_cube v = by_ring laws.ring (v ∷ []) (search reify depth 60 fits 20000) tt

    both_true : (x y : Bool) → (x && y) ≡ true → (x ≡ true) × (y ≡ true)
    both_true true y q = (refl, q)
    both_true false y q = let bad : ⊥ = cc q in absurd bad

    module _ (test : quartic_discriminant s f ≡ 𝟘) where
      test_is : first_invariant ⊗ first_invariant ⊗ first_invariant ⊕ ⊖ (n 27 ⊗ second_invariant ⊗ second_invariant) ≡ 𝟘
      test_is = sym (discriminant_value first_invariant second_invariant) ∙ test

      at_rest : (s.is_zero first_invariant && s.is_zero second_invariant) ≡ false → (t : Bool) → list_all s.is_zero rest ≡ t → IsQuarticOf s f (rest_shape t)
      at_rest some t q = step t q
        where
          i_nonzero : first_invariant ≢ 𝟘
          i_nonzero = some_i first_invariant second_invariant test_is some

          w_is : n 2 ⊗ first_invariant ⊗ w ≡ n 3 ⊗ second_invariant
          w_is =
              times_multiple_quotient s laws inverts 2 (s.ops.mul (s.rational (rational (pos 3) 1)) second_invariant) first_invariant
              (product_nonzero s laws inverts (n 2) first_invariant (whole_nonzero s laws 2 (omega arith)) i_nonzero)
              ∙ ap (λ z. z ⊗ second_invariant) (whole_is s laws 3)

          i_is : forms.i s laws inverts a b c d e ≡ n 12 ⊗ w ⊗ w
          i_is = sym i_of ∙ i_by first_invariant second_invariant test_is w i_nonzero w_is

          j_is : forms.j s laws inverts a b c d e ≡ n 8 ⊗ w ⊗ w ⊗ w
          j_is = sym j_of ∙ j_by first_invariant second_invariant test_is w i_nonzero w_is

          w_nonzero : w ≢ 𝟘
          w_nonzero = some_w first_invariant second_invariant test_is w i_nonzero w_is

          z0_is : less y0 a ≡ forms.k0 s laws inverts a b c w
          z0_is = ap (λ z. less z a) (g0_value a b c d e)

          z1_is : less y1 q1 ≡ forms.k1 s laws inverts a b c d w
          z1_is = λ t. less (g1_value a b c d e t) (sym b_is t)

          z2_is : less y2 q2 ≡ forms.k2 s laws inverts a b c d e w
          z2_is = λ t. less (g2_value a b c d e t) (sym c_is t)

          z3_is : less y3 q3 ≡ forms.k3 s laws inverts b c d e w
          z3_is = λ t. less (g3_value a b c d e t) (sym d_is t)

          z4_is : less y4 e ≡ forms.k4 s laws inverts c d e w
          z4_is = ap (λ z. less z e) (g4_value a b c d e)

          step : (t : Bool) → list_all s.is_zero rest ≡ t → IsQuarticOf s f (rest_shape t)
          step true q =
              at_pair w (less y0 a) (less y1 q1) (less y2 q2) (less y3 q3) (less y4 e) i_is j_is z0_is z1_is z2_is z3_is z4_is q w_nonzero (λ z. i_nonzero (i_of ∙ z)) (s.is_zero a) refl
          step false q =
              at_double w (less y0 a) (less y1 q1) (less y2 q2) (less y3 q3) (less y4 e) i_is j_is z0_is z1_is z2_is z3_is z4_is q w_nonzero (λ z. i_nonzero (i_of ∙ z)) (s.is_zero (less y0 a)) refl

      at_invariants : list_all s.is_zero hessian ≡ false → (t : Bool) → (s.is_zero first_invariant && s.is_zero second_invariant) ≡ t → IsQuarticOf s f (invariant_shape t)
      at_invariants some true q =
          let both = both_true (s.is_zero first_invariant) (s.is_zero second_invariant) q in
          at_triple 𝟘 y0 y1 y2 y3 y4 (sym i_of ∙ at_zero s laws both.0 ∙ zero_square a) (sym j_of ∙ at_zero s laws both.1 ∙ zero_cube a)
          (g0_value a b c d e ∙ less_zero _ a) (g1_value a b c d e ∙ less_zero _ (n 4 ⊗ b)) (g2_value a b c d e ∙ less_zero _ (n 6 ⊗ c)) (g3_value a b c d e ∙ less_zero _ (n 4 ⊗ d)) (g4_value a b c d e ∙ less_zero _ e)
          some refl (s.is_zero y0) refl
      at_invariants some false q = at_rest q (list_all s.is_zero rest) refl

      at_hessian : list_all s.is_zero f ≡ false → (t : Bool) → list_all s.is_zero hessian ≡ t → IsQuarticOf s f (hessian_shape t)
      at_hessian some true q =
          let after1 = others_zero s laws y0 (y1 ∷ y2 ∷ y3 ∷ y4 ∷ []) q in
          let after2 = others_zero s laws y1 (y2 ∷ y3 ∷ y4 ∷ []) after1 in
          let after3 = others_zero s laws y2 (y3 ∷ y4 ∷ []) after2 in
          let after4 = others_zero s laws y3 (y4 ∷ []) after3 in
          at_fourth some (sym (g0_value a b c d e) ∙ first_zero s laws y0 (y1 ∷ y2 ∷ y3 ∷ y4 ∷ []) q) (sym (g1_value a b c d e) ∙ first_zero s laws y1 (y2 ∷ y3 ∷ y4 ∷ []) after1)
          (sym (g2_value a b c d e) ∙ first_zero s laws y2 (y3 ∷ y4 ∷ []) after2) (sym (g4_value a b c d e) ∙ first_zero s laws y4 [] after4) (s.is_zero a) refl
      at_hessian some false q = at_invariants q (s.is_zero first_invariant && s.is_zero second_invariant) refl

    at_discriminant : list_all s.is_zero f ≡ false → (t : Bool) → s.is_zero (quartic_discriminant s f) ≡ t → IsQuarticOf s f (discriminant_shape t)
    at_discriminant some true q = at_hessian (at_zero s laws q) some (list_all s.is_zero hessian) refl
    at_discriminant some false q = not_zero s laws q

    at_form : (t : Bool) → list_all s.is_zero f ≡ t → IsQuarticOf s f (if t then zero_quartic else discriminant_shape (s.is_zero (quartic_discriminant s f)))
    at_form true q = λ k x h. at_zero s laws (AllPass-from_list_all s.is_zero f q k x h)
    at_form false q = at_discriminant q (s.is_zero (quartic_discriminant s f)) refl

    pub quartic_of_five : IsQuarticOf s f (quartic_shape s f)
    unfolding quartic_shape
    quartic_of_five = at_form (list_all s.is_zero f) refl

  -- ---- larger rings

  plain_i_is : (a b c d e : V) → plain_i s.ops a (n 4 ⊗ b) (n 6 ⊗ c) (n 4 ⊗ d) e ≡ n 12 ⊗ forms.i s laws inverts a b c d e
  plain_i_is a b c d e = by_ring laws.ring (a ∷ b ∷ c ∷ d ∷ e ∷ []) (search reify depth 60 fits 20000) tt

  plain_j_is : (a b c d e : V) → plain_j s.ops a (n 4 ⊗ b) (n 6 ⊗ c) (n 4 ⊗ d) e ≡ n 12 ⊗ n 36 ⊗ forms.j s laws inverts a b c d e
  plain_j_is a b c d e = by_ring laws.ring (a ∷ b ∷ c ∷ d ∷ e ∷ []) (search reify depth 80 fits 40000) tt

  plain_is : (x y : V) → plain_discriminant s.ops (n 12 ⊗ x) (n 12 ⊗ n 36 ⊗ y) ≡ n 4 ⊗ (n 12 ⊗ (n 12 ⊗ (n 12 ⊗ (x ⊗ x ⊗ x ⊕ ⊖ (n 27 ⊗ y ⊗ y)))))
  plain_is x y = by_ring laws.ring (x ∷ y ∷ []) (search reify depth 80 fits 40000) tt

  module _ {W : Type 0} (r : RingOps W) (r_laws : IsCommRing r) (apart : r.one ≢ r.zero) where
    quartic_larger : (a q1 q2 q3 e : V) → quartic_discriminant s (a ∷ q1 ∷ q2 ∷ q3 ∷ e ∷ []) ≢ 𝟘 → HasNoSquareIn s.ops r (a ∷ q1 ∷ q2 ∷ q3 ∷ e ∷ [])
    quartic_larger a q1 q2 q3 e nonzero g map_is p q h =
        stays s laws inverts r r_laws apart g map_is (plain_discriminant s.ops (plain_i s.ops a q1 q2 q3 e) (plain_j s.ops a q1 q2 q3 e)) plain_nonzero
        (quartic_maps s laws inverts r r_laws apart g map_is a q1 q2 q3 e ∙ quartic_divided r r_laws (g a) (g q1) (g q2) (g q3) (g e) p q h)
      where
        twelve : n 12 ≢ 𝟘
        twelve = whole_nonzero s laws 12 (omega arith)

        value : quartic_discriminant s (a ∷ q1 ∷ q2 ∷ q3 ∷ e ∷ []) ≡ quartic_i s (a ∷ q1 ∷ q2 ∷ q3 ∷ e ∷ []) ⊗ quartic_i s (a ∷ q1 ∷ q2 ∷ q3 ∷ e ∷ []) ⊗ quartic_i s (a ∷ q1 ∷ q2 ∷ q3 ∷ e ∷ [])
            ⊕ ⊖ (n 27 ⊗ quartic_j s (a ∷ q1 ∷ q2 ∷ q3 ∷ e ∷ []) ⊗ quartic_j s (a ∷ q1 ∷ q2 ∷ q3 ∷ e ∷ []))
        value = discriminant_value (quartic_i s (a ∷ q1 ∷ q2 ∷ q3 ∷ e ∷ [])) (quartic_j s (a ∷ q1 ∷ q2 ∷ q3 ∷ e ∷ []))

        by_i : plain_i s.ops a q1 q2 q3 e ≡ n 12 ⊗ quartic_i s (a ∷ q1 ∷ q2 ∷ q3 ∷ e ∷ [])
        by_i =
            (λ t. plain_i s.ops a (sym (b_is a q1 q2 q3 e) t) (sym (c_is a q1 q2 q3 e) t) (sym (d_is a q1 q2 q3 e) t) e)
            ∙ plain_i_is a (over_number s 4 q1) (over_number s 6 q2) (over_number s 4 q3) e ∙ ap (λ z. n 12 ⊗ z) (sym (i_of a q1 q2 q3 e))

        by_j : plain_j s.ops a q1 q2 q3 e ≡ n 12 ⊗ n 36 ⊗ quartic_j s (a ∷ q1 ∷ q2 ∷ q3 ∷ e ∷ [])
        by_j =
            (λ t. plain_j s.ops a (sym (b_is a q1 q2 q3 e) t) (sym (c_is a q1 q2 q3 e) t) (sym (d_is a q1 q2 q3 e) t) e)
            ∙ plain_j_is a (over_number s 4 q1) (over_number s 6 q2) (over_number s 4 q3) e ∙ ap (λ z. n 12 ⊗ n 36 ⊗ z) (sym (j_of a q1 q2 q3 e))

        plain_nonzero : plain_discriminant s.ops (plain_i s.ops a q1 q2 q3 e) (plain_j s.ops a q1 q2 q3 e) ≢ 𝟘
        plain_nonzero z =
            product_nonzero s laws inverts (n 4) _ (whole_nonzero s laws 4 (omega arith))
            (product_nonzero s laws inverts (n 12) _ twelve (product_nonzero s laws inverts (n 12) _ twelve (product_nonzero s laws inverts (n 12) _ twelve (λ y. nonzero (value ∙ y)))))
            (sym (plain_is (quartic_i s (a ∷ q1 ∷ q2 ∷ q3 ∷ e ∷ [])) (quartic_j s (a ∷ q1 ∷ q2 ∷ q3 ∷ e ∷ [])))
            ∙ (λ t. plain_discriminant s.ops (sym by_i t) (sym by_j t)) ∙ z)

    pub distinct_quartics : DistinctQuartics s r
    distinct_quartics [] e = absurd (omega arith)
    distinct_quartics (a ∷ []) e = absurd (omega arith)
    distinct_quartics (a ∷ b ∷ []) e = absurd (omega arith)
    distinct_quartics (a ∷ b ∷ c ∷ []) e = absurd (omega arith)
    distinct_quartics (a ∷ b ∷ c ∷ d ∷ []) e = absurd (omega arith)
    distinct_quartics (a ∷ b ∷ c ∷ d ∷ u ∷ []) e = quartic_larger a b c d u
    distinct_quartics (a ∷ b ∷ c ∷ d ∷ u ∷ v ∷ f) e = absurd (omega arith)

  -- of every quartic
  pub quartic_is : QuarticsAreAsShaped s
  quartic_is [] e = absurd (omega arith)
  quartic_is (a ∷ []) e = absurd (omega arith)
  quartic_is (a ∷ b ∷ []) e = absurd (omega arith)
  quartic_is (a ∷ b ∷ c ∷ []) e = absurd (omega arith)
  quartic_is (a ∷ b ∷ c ∷ d ∷ []) e = absurd (omega arith)
  quartic_is (a ∷ b ∷ c ∷ d ∷ u ∷ []) e = quartic_of_five a b c d u
  quartic_is (a ∷ b ∷ c ∷ d ∷ u ∷ v ∷ f) e = absurd (omega arith)
