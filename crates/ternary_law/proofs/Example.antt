-- The shape of x^2 y, by its evidence: the partials 2 x y, x^2 and 0 have the kernel of the vectors (0, 0, c), the binary cubic is not distinct, and no move is needed.
use Rattle.std.proofs.Common.{◌≡◌, ◌≢◌, ℕ, zero, suc, ◌<◌, pos, List, [], ◌∷◌, map, get_or, refl, sym, ◌∙◌, ap, subst, false, arith}
use Rattle.ring_theory.specs.Gcd.{gcd}
use Rattle.ring_theory.specs.Height.{rational_scalars}
use Rattle.ring_theory.specs.Rational.{Rational, rational, rational_zero, rational_add, rational_mul, rational_neg, rational_inv, rational_ops}
use Rattle.ring_theory.proofs.RationalLaws.{rational_laws, rational_field}
use Rattle.ring_theory.specs.Ring.{RingOps, IsCommRing}
use Rattle.ring_theory.proofs.RingReify.{by_ring, reify}
use Rattle.ring_theory.proofs.RingSolver.{zero_mul}
use Rattle.mono_exp.specs.Exponents.{monomials_of, monomials_below}
use Rattle.jet_law.specs.Canonical.{jet}
use Rattle.ring_formula.specs.Formulas.{formula_value}
use Rattle.coord_change.specs.Carries.{carry}
use Rattle.move_law.specs.Shapes.{cubic_shape}
use Rattle.ternary_law.specs.Linear.{IsKernelOf}
use Rattle.ternary_law.specs.Matrices.{matrix_product, form_of_row, linear_move, unit_matrix}
use Rattle.ternary_law.specs.Cubics.{cubic_of, partial_rows}
use Rattle.ternary_law.specs.Steps.{axis_matrix}
use Rattle.ternary_law.specs.Rules.{repeated_steps, cone_section}
use Rattle.ternary_law.specs.Triangle.{is_distinct}
use Rattle.ternary_law.specs.Routes.{IsPassable, matrix_by}
use Rattle.ternary_law.specs.Shapes.{HasShape, by_rule, is_repeated, repeated, form, IsCone}

abbrev o : Rational
o = rational (pos 0) 1

abbrev one : Rational
one = rational (pos 1) 1

-- the coefficients of x^2 y
abbrev c : List Rational
c = o ∷ one ∷ o ∷ o ∷ o ∷ o ∷ o ∷ o ∷ o ∷ o ∷ []

-- the axis of z
abbrev v : ℕ → Rational
v i = get_or (o ∷ o ∷ one ∷ []) i o

abbrev at_row : (k i : ℕ) → Rational
at_row k i = get_or (partial_rows rational_scalars (form c)) k (λ j. o) i

entries : map (λ k. at_row k 0 ∷ at_row k 1 ∷ at_row k 2 ∷ []) (0 ∷ 1 ∷ 2 ∷ 3 ∷ 4 ∷ 5 ∷ [])
    ≡ (o ∷ one ∷ o ∷ []) ∷ (rational (pos 2) 1 ∷ o ∷ o ∷ []) ∷ (o ∷ o ∷ o ∷ []) ∷ (o ∷ o ∷ o ∷ []) ∷ (o ∷ o ∷ o ∷ []) ∷ (o ∷ o ∷ o ∷ []) ∷ []
unfolding cubic_of jet monomials_of monomials_below rational rational_zero rational_add rational_mul rational_neg rational_inv gcd
entries = refl

in_kernel : IsKernelOf rational_ops 3 (partial_rows rational_scalars (form c)) v
unfolding cubic_of jet monomials_of monomials_below rational rational_zero rational_add rational_mul rational_neg rational_inv gcd
in_kernel = (refl, (refl, (refl, (refl, (refl, (refl, tt))))))

one-ne-zero : one ≢ o
one-ne-zero = rational_field.one-ne-zero

two-ne-zero : rational (pos 2) 1 ≢ o
unfolding rational rational_zero gcd
two-ne-zero e = let h : pos 2 ≡ pos 0 = ap (λ q. q.num) e in cc

-- ---- a vector in the kernel is a multiple of v

module _ {V : Type 0} (r : RingOps V) (laws : IsCommRing r) where
  second_of : (x y z : V) → r.add (r.add (r.add r.zero (r.mul r.zero x)) (r.mul r.one y)) (r.mul r.zero z) ≡ y
  second_of x y z = by_ring laws (x ∷ y ∷ z ∷ []) (search reify depth 20) tt

  first_of : (k x y z : V) → r.add (r.add (r.add r.zero (r.mul k x)) (r.mul r.zero y)) (r.mul r.zero z) ≡ r.mul k x
  first_of k x y z = by_ring laws (k ∷ x ∷ y ∷ z ∷ []) (search reify depth 20) tt

  moved_factor : (k i x : V) → r.mul (r.mul k x) i ≡ r.mul x (r.mul k i)
  moved_factor k i x = by_ring laws (k ∷ i ∷ x ∷ []) (search reify depth 20) tt

-- the sum of a row at w, by its three entries
abbrev three : (a b d x y z : Rational) → Rational
three a b d x y z = rational_add (rational_add (rational_add o (rational_mul a x)) (rational_mul b y)) (rational_mul d z)

second_is : (a b d x y z : Rational) → a ≡ o → b ≡ one → d ≡ o → three a b d x y z ≡ o → y ≡ o
second_is a b d x y z p q s h =
    sym (second_of rational_ops rational_laws x y z)
    ∙ sym (ap (λ u. three u b d x y z) p ∙ ap (λ u. three o u d x y z) q ∙ ap (λ u. three o one u x y z) s)
    ∙ h

cancelled : (k x : Rational) → k ≢ o → rational_mul k x ≡ o → x ≡ o
cancelled k x other h =
    sym (rational_laws.mul_one x) ∙ ap (rational_mul x) (sym (rational_field.mul_inv k other)) ∙ sym (moved_factor rational_ops rational_laws k (rational_inv k) x)
    ∙ ap (λ u. rational_mul u (rational_inv k)) h ∙ zero_mul rational_ops rational_laws (rational_inv k)

first_is : (k a b d x y z : Rational) → k ≢ o → a ≡ k → b ≡ o → d ≡ o → three a b d x y z ≡ o → x ≡ o
first_is k a b d x y z other p q s h =
    cancelled k x other (
    sym (first_of rational_ops rational_laws k x y z)
    ∙ sym (ap (λ u. three u b d x y z) p ∙ ap (λ u. three k u d x y z) q ∙ ap (λ u. three k o u x y z) s)
    ∙ h)

row-0-0 : at_row 0 0 ≡ o
unfolding cubic_of jet monomials_of monomials_below rational rational_zero rational_add rational_mul rational_neg rational_inv gcd
row-0-0 = refl

row-0-1 : at_row 0 1 ≡ one
unfolding cubic_of jet monomials_of monomials_below rational rational_zero rational_add rational_mul rational_neg rational_inv gcd
row-0-1 = refl

row-0-2 : at_row 0 2 ≡ o
unfolding cubic_of jet monomials_of monomials_below rational rational_zero rational_add rational_mul rational_neg rational_inv gcd
row-0-2 = refl

row-1-0 : at_row 1 0 ≡ rational (pos 2) 1
unfolding cubic_of jet monomials_of monomials_below rational rational_zero rational_add rational_mul rational_neg rational_inv gcd
row-1-0 = refl

row-1-1 : at_row 1 1 ≡ o
unfolding cubic_of jet monomials_of monomials_below rational rational_zero rational_add rational_mul rational_neg rational_inv gcd
row-1-1 = refl

row-1-2 : at_row 1 2 ≡ o
unfolding cubic_of jet monomials_of monomials_below rational rational_zero rational_add rational_mul rational_neg rational_inv gcd
row-1-2 = refl

second_zero : (w : ℕ → Rational) → IsKernelOf rational_ops 3 (partial_rows rational_scalars (form c)) w → w 1 ≡ o
unfolding monomials_of
second_zero w h = second_is (at_row 0 0) (at_row 0 1) (at_row 0 2) (w 0) (w 1) (w 2) row-0-0 row-0-1 row-0-2 h.0

first_zero : (w : ℕ → Rational) → IsKernelOf rational_ops 3 (partial_rows rational_scalars (form c)) w → w 0 ≡ o
unfolding monomials_of
first_zero w h = first_is (rational (pos 2) 1) (at_row 1 0) (at_row 1 1) (at_row 1 2) (w 0) (w 1) (w 2) two-ne-zero row-1-0 row-1-1 row-1-2 h.1.0

times_o : (x : Rational) → rational_mul x o ≡ o
times_o x = rational_laws.mul_comm x o ∙ zero_mul rational_ops rational_laws x

is_multiple : (w : ℕ → Rational) → IsKernelOf rational_ops 3 (partial_rows rational_scalars (form c)) w → (d : ℕ) → d < 3 → w d ≡ rational_mul (w 2) (v d)
is_multiple w h zero inside = first_zero w h ∙ sym (times_o (w 2))
is_multiple w h (suc zero) inside = second_zero w h ∙ sym (times_o (w 2))
is_multiple w h (suc (suc zero)) inside = sym (rational_laws.mul_one (w 2))
is_multiple w h (suc (suc (suc d))) inside = absurd (omega arith)

is_cone : IsCone c v
is_cone = record { in_kernel = in_kernel; place = 2; inside = omega arith; other = one-ne-zero; spans = λ w h. (w 2, is_multiple w h) }

not_distinct : is_distinct (cubic_shape rational_scalars (cone_section (form c) v)) ≡ false
unfolding cubic_shape cubic_of jet monomials_of monomials_below carry form_of_row linear_move axis_matrix formula_value rational rational_zero rational_add rational_mul rational_neg rational_inv gcd
not_distinct = refl

matrix_is : matrix_by rational_scalars (repeated_steps (form c) v) (form c) ≡ unit_matrix rational_scalars
unfolding cubic_shape cubic_of jet monomials_of monomials_below carry form_of_row linear_move axis_matrix matrix_product formula_value rational rational_zero rational_add rational_mul rational_neg rational_inv gcd
matrix_is = refl

passable : IsPassable (form c) (repeated_steps (form c) v) (unit_matrix rational_scalars)
unfolding cubic_shape cubic_of jet monomials_of monomials_below carry form_of_row linear_move axis_matrix matrix_product formula_value rational rational_zero rational_add rational_mul rational_neg rational_inv gcd
passable = record { divisors = (one-ne-zero, tt); invertible = record { right = refl; left = refl; size = refl } }

-- x^2 y has a repeated line, with the identity as its move
pub has_shape : HasShape c (repeated (unit_matrix rational_scalars) (unit_matrix rational_scalars))
has_shape =
    subst (λ m. HasShape c (repeated m (unit_matrix rational_scalars))) matrix_is (by_rule (is_repeated v (unit_matrix rational_scalars) is_cone not_distinct passable))
