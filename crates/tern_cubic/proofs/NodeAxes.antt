-- The axis of a node does not depend on which functional spans those that are 0 on the products.
use Rattle.std.proofs.Common.{◌≡◌, ◌≢◌, ℕ, zero, suc, ◌<◌, Bool, true, false, if◌then◌else◌, refl, sym, ◌∙◌, ap, subst, arith}
use Rattle.std.specs.Prelude.{not}
use Rattle.ring_theory.specs.Rational.{Rational, rational_mul, rational_ops}
use Rattle.ring_theory.specs.Height.{rational_scalars, is_zero_rational}
use Rattle.ring_theory.specs.Scalars.{Scalars}
use Rattle.ring_theory.proofs.RationalLaws.{rational_laws, rational_field}
use Rattle.poly_law.specs.Polynomials.{Polynomial}
use Rattle.mono_exp.specs.Exponents.{monomials_of}
use Rattle.move_law.specs.Moves.{over}
use Rattle.ternary_law.specs.Cubics.{place_in, raised, value_at}
use Rattle.ternary_law.specs.Steps.{axis_matrix}
use Rattle.ternary_law.specs.Rules.{cube_of, node_place, node_entry, node_scale, node_point}
use Rattle.ternary_law.proofs.Scaling.{product_other, quotient_same, last_same, axis_same, at_last, last_inside}

abbrev q : Scalars Rational
q = rational_scalars

abbrev o : Rational
o = rational_ops.zero

module _ (f : Polynomial 3 Rational) where
  at_column : {k : ℕ} (m : ℕ) → k ≡ m → m < 15 → k < 15
  at_column m e h = subst (λ k. k < 15) (sym e) h

  -- the columns of the products of the cube of one variable and a variable
  inside_columns : (i j : ℕ) → i < 3 → j < 3 → place_in (monomials_of 3 4) (raised (cube_of f i) j) < 15
  unfolding monomials_of
  inside_columns zero zero h k = at_column 0 refl (omega arith)
  inside_columns zero (suc zero) h k = at_column 1 refl (omega arith)
  inside_columns zero (suc (suc zero)) h k = at_column 2 refl (omega arith)
  inside_columns zero (suc (suc (suc j))) h k = absurd (omega arith)
  inside_columns (suc zero) zero h k = at_column 6 refl (omega arith)
  inside_columns (suc zero) (suc zero) h k = at_column 10 refl (omega arith)
  inside_columns (suc zero) (suc (suc zero)) h k = at_column 11 refl (omega arith)
  inside_columns (suc zero) (suc (suc (suc j))) h k = absurd (omega arith)
  inside_columns (suc (suc zero)) zero h k = at_column 9 refl (omega arith)
  inside_columns (suc (suc zero)) (suc zero) h k = at_column 13 refl (omega arith)
  inside_columns (suc (suc zero)) (suc (suc zero)) h k = at_column 14 refl (omega arith)
  inside_columns (suc (suc zero)) (suc (suc (suc j))) h k = absurd (omega arith)
  inside_columns (suc (suc (suc i))) j h k = absurd (omega arith)

  chosen : (x y : Bool) → (if not x then 2 else (if not y then 1 else 0)) < 3
  chosen false y = omega arith
  chosen true false = omega arith
  chosen true true = omega arith

  module _ (v w : ℕ → Rational) (k : Rational) (factor : k ≢ o) (multiple : (d : ℕ) → d < 15 → w d ≡ rational_mul k (v d)) (scale : node_scale f v ≢ o) where
    abbrev fourths : (ℕ → Rational) → ℕ → Rational
    fourths u i = value_at u (raised (cube_of f i) i)

    same_place : node_place f w ≡ node_place f v
    same_place = last_same k factor (fourths v) (fourths w) (λ d h. multiple _ (inside_columns d d h h))

    place_inside : node_place f v < 3
    place_inside = chosen (is_zero_rational (fourths v 2)) (is_zero_rational (fourths v 1))

    entry_multiple : (j : ℕ) → j < 3 → node_entry f w j ≡ rational_mul k (node_entry f v j)
    entry_multiple j h = ap (λ i. value_at w (raised (cube_of f i) j)) same_place ∙ multiple _ (inside_columns (node_place f v) j place_inside h)

    scale_multiple : node_scale f w ≡ rational_mul k (node_scale f v)
    scale_multiple = ap (λ i. node_entry f w i) same_place ∙ entry_multiple (node_place f v) place_inside

    pub scale_other : node_scale f w ≢ o
    scale_other e = product_other k (node_scale f v) factor scale (sym scale_multiple ∙ e)

    same_point : (j : ℕ) → j < 3 → node_point f w j ≡ rational_mul rational_ops.one (node_point f v j)
    same_point j h =
        (λ t. over q (entry_multiple j h t) (scale_multiple t)) ∙ quotient_same k (node_entry f v j) (node_scale f v) factor scale
        ∙ sym (rational_laws.mul_one (node_point f v j)) ∙ rational_laws.mul_comm (node_point f v j) rational_ops.one

    point_other : node_point f v (node_place f v) ≢ o
    point_other e = rational_field.one-ne-zero (sym (rational_field.mul_inv (node_scale f v) scale) ∙ e)

    pub same_axis : axis_matrix q 2 (node_point f w) ≡ axis_matrix q 2 (node_point f v)
    same_axis =
        axis_same rational_ops.one rational_field.one-ne-zero (node_point f v) (node_point f w) same_point 2
        (last_inside (node_point f v) (node_place f v) place_inside point_other (is_zero_rational (node_point f v 2)) (is_zero_rational (node_point f v 1)))
        (at_last (node_point f v) (node_place f v) place_inside point_other (is_zero_rational (node_point f v 2)) (is_zero_rational (node_point f v 1)) refl refl)
