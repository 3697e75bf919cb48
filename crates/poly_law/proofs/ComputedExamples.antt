-- The worked examples, by computing.
use mathlib.Core.Path.{fun_ext}
use Rattle.std.proofs.Common.{◌≡◌, ℕ, zero, suc, ◌+◌, ◌-◌, ◌<◌, ◌≤◌, pos, negsuc, List, [], ◌∷◌, ◌++◌, get_or, Bool, true, false, ◌⊎◌, inl, inr, cond, ltb, leb, leb-true, le-ltb, ap, sym, ◌∙◌, refl, subst, arith}
use Rattle.ring_theory.specs.Gcd.{gcd}
use Rattle.ring_theory.specs.Rational.{Rational, rational, rational_zero, rational_add, rational_mul, rational_neg, rational_ops}
use Rattle.ring_theory.specs.Height.{rational_scalars}
use Rattle.ring_theory.proofs.RationalLaws
use Rattle.ring_theory.proofs.ValueSet.{values_are_set}
use Rattle.poly_law.specs.Exps.{all_to, degree}
use Rattle.poly_law.specs.ExpList.{ExpList, exps}
use Rattle.poly_law.specs.Poly.{coefficient, Same, SameTo, StartsAt, term, combination, times, derivative, cut, value_on, subst_in, MatherRow}
use Rattle.poly_law.specs.Polynomials.{Polynomial}
use Rattle.poly_law.specs.Examples.{monomial_xy, term_xy, SquareOfSum, e7, PartialsOfE7, square_parts, SquareCompleted, E7FailsAt4, E7HoldsAt5, E7HasNoRowsAt4}
use Rattle.poly_law.proofs.ExpLists.{exps_are}
use Rattle.poly_law.proofs.ExpLaws
use Rattle.poly_law.proofs.Pair.{pair}
use Rattle.poly_law.proofs.Order
use Rattle.poly_law.proofs.Near
use Rattle.poly_law.proofs.Functional
use Rattle.poly_law.proofs.Vanishing
use Rattle.poly_law.proofs.Vanishing.{vanishes, agree}

-- the multipliers for x^p*y^(6 - p)
multipliers : List (List (Polynomial 2 Rational))
multipliers =
    (term_xy (pos 1) 1 0 3 ∷ term_xy (negsuc 0) 1 1 1 ∷ [])
    ∷ ([] ∷ term_xy (pos 1) 3 0 3 ∷ [])
    ∷ ([] ∷ term_xy (pos 1) 3 1 2 ∷ [])
    ∷ ([] ∷ term_xy (pos 1) 3 2 1 ∷ [])
    ∷ ([] ∷ term_xy (pos 1) 3 3 0 ∷ [])
    ∷ (term_xy (pos 1) 3 3 1 ∷ [])
    ∷ (term_xy (pos 1) 3 4 0 ∷ []) ∷ []

multiplier : ℕ → ℕ → Polynomial 2 Rational
multiplier p i = get_or (get_or multipliers p []) i []

abbrev is_zero : Rational → Bool
is_zero = rational_scalars.is_zero

zero_means : (v : Rational) → is_zero v ≡ true → v ≡ rational_ops.zero
zero_means v e = (RationalLaws.zero_test v).0 e

set : IsSet Rational
set = values_are_set rational_scalars RationalLaws.rational_scalar_laws

-- tests up to degree k
abbrev agree_to : ℕ → Polynomial 2 Rational → Polynomial 2 Rational → Bool
agree_to k = agree (exps 2) rational_ops is_zero (λ a. leb (degree (exps 2) a) k)

abbrev vanishes_to : ℕ → Polynomial 2 Rational → Bool
vanishes_to k = vanishes (exps 2) rational_ops is_zero (λ a. leb (degree (exps 2) a) k)

same_to_by : (k : ℕ) (f g : Polynomial 2 Rational) → agree_to k f g ≡ true → SameTo (exps 2) rational_ops k f g
same_to_by = Vanishing.same_to_by (exps 2) (exps_are 2) rational_ops RationalLaws.rational_laws is_zero zero_means

starts_by : (k : ℕ) (f : Polynomial 2 Rational) → vanishes_to k f ≡ true → StartsAt (exps 2) rational_ops (suc k) f
starts_by = Vanishing.starts_by (exps 2) (exps_are 2) rational_ops RationalLaws.rational_laws is_zero zero_means

same_by : (f g : Polynomial 2 Rational) → agree (exps 2) rational_ops is_zero (λ a. true) f g ≡ true → Same (exps 2) rational_ops f g
same_by = Vanishing.same_by (exps 2) (exps_are 2) rational_ops RationalLaws.rational_laws is_zero zero_means

rows_add_up : all_to 7 (λ p. agree_to 6 (combination (exps 2) rational_ops (multiplier p) e7) (term (exps 2) rational_ops (monomial_xy p (6 - p)))) ≡ true
unfolding gcd rational rational_zero rational_add rational_mul rational_neg multiplier multipliers
rows_add_up = refl

rows_start : all_to 7 (λ p. all_to 2 (λ i. vanishes_to 1 (multiplier p i))) ≡ true
unfolding gcd rational rational_zero rational_add multiplier multipliers
rows_start = refl

-- each exponent vector of two entries is that of some x^p*y^q
is_monomial_xy : (m : ExpList 2) (q : ℕ) → (exps 2).at m 1 ≡ q → m ≡ monomial_xy ((exps 2).at m 0) q
is_monomial_xy m q e = (exps_are 2).same_at m (monomial_xy ((exps 2).at m 0) q) λ i h.
    entry i h ∙ sym ((exps_are 2).at_make (λ i. get_or ((exps 2).at m 0 ∷ q ∷ []) i 0) i h)
  where
    entry : (i : ℕ) → i < 2 → (exps 2).at m i ≡ get_or ((exps 2).at m 0 ∷ q ∷ []) i 0
    entry zero h = refl
    entry (suc zero) h = e
    entry (suc (suc i)) h = absurd (omega arith)

row_of : (p : ℕ) → p < 7 → MatherRow (exps 2) rational_ops 5 e7 (monomial_xy p (6 - p))
row_of p h = record {
  multiplier = multiplier p;
  is_row = record {
    order_two = λ i g. starts_by 1 (multiplier p i)
        (ExpLaws.all_to_at 2 (λ i. vanishes_to 1 (multiplier p i))
        (ExpLaws.all_to_at 7 (λ p. all_to 2 (λ i. vanishes_to 1 (multiplier p i))) rows_start p h) i g);
    adds_up = same_to_by 6 (combination (exps 2) rational_ops (multiplier p) e7) (term (exps 2) rational_ops (monomial_xy p (6 - p)))
        (ExpLaws.all_to_at 7 (λ p. agree_to 6 (combination (exps 2) rational_ops (multiplier p) e7) (term (exps 2) rational_ops (monomial_xy p (6 - p)))) rows_add_up p h);
  };
}

pub e7_holds_at_5 : E7HoldsAt5
e7_holds_at_5 m e =
    subst (MatherRow (exps 2) rational_ops 5 e7) (sym (is_monomial_xy m (6 - (exps 2).at m 0) (let e' : 0 + (exps 2).at m 0 + (exps 2).at m 1 ≡ 6 = e in omega arith)))
    (row_of ((exps 2).at m 0) (let e' : 0 + (exps 2).at m 0 + (exps 2).at m 1 ≡ 6 = e in omega arith))

-- the functional on y^5
values : Polynomial 2 Rational
values = term_xy (negsuc 0) 3 2 2 ++ term_xy (pos 1) 1 0 5

value : ℕ → ExpList 2 → Rational
value i a = value_on (exps 2) rational_ops values (cut (exps 2) rational_ops 5 (times (exps 2) rational_ops (term (exps 2) rational_ops a) (derivative (exps 2) rational_ops i e7)))

low_values : all_to 4 (λ p. all_to 4 (λ q. cond (ltb (p + q) 2) true (all_to 2 (λ i. is_zero (value i (monomial_xy p q)))))) ≡ true
unfolding gcd rational rational_zero rational_add rational_mul rational_neg values value
low_values = refl

e7_low : vanishes_to 2 e7 ≡ true
unfolding gcd rational rational_zero rational_add
e7_low = refl

e7_starts : StartsAt (exps 2) rational_ops 3 e7
e7_starts = starts_by 2 e7 e7_low

-- from degree 4 on the products start at degree 6
high_value : (a : ExpList 2) (i : ℕ) → 4 ≤ degree (exps 2) a → i < 2 → value i a ≡ rational_ops.zero
unfolding value
high_value a i h g =
    ap (pair rational_ops values) (fun_ext λ e.
    Order.coefficient-cut (exps 2) (exps_are 2) rational_ops RationalLaws.rational_laws 5 (times (exps 2) rational_ops (term (exps 2) rational_ops a) (derivative (exps 2) rational_ops i e7)) e
    ∙ step e (leb (degree (exps 2) e) 5) refl)
    ∙ Order.pair-zero (exps 2) (exps_are 2) rational_ops RationalLaws.rational_laws values
  where
    term_starts : StartsAt (exps 2) rational_ops 4 (term (exps 2) rational_ops a)
    term_starts m h' = Near.coefficient-term (exps 2) (exps_are 2) rational_ops RationalLaws.rational_laws set a m
        ∙ Order.at_only_high (exps 2) (exps_are 2) rational_ops RationalLaws.rational_laws m a (omega arith)

    starts : StartsAt (exps 2) rational_ops 6 (times (exps 2) rational_ops (term (exps 2) rational_ops a) (derivative (exps 2) rational_ops i e7))
    starts = Order.starts_times (exps 2) (exps_are 2) rational_ops RationalLaws.rational_laws 4 2 (term (exps 2) rational_ops a) (derivative (exps 2) rational_ops i e7) term_starts
        (Order.starts_derivative (exps 2) (exps_are 2) rational_ops RationalLaws.rational_laws i 2 e7 g e7_starts)

    step : (e : ExpList 2) (b : Bool) → leb (degree (exps 2) e) 5 ≡ b
        → cond b (coefficient (exps 2) rational_ops (times (exps 2) rational_ops (term (exps 2) rational_ops a) (derivative (exps 2) rational_ops i e7)) e) rational_ops.zero ≡ rational_ops.zero
    step e true t = starts e (let t' = leb-true (degree (exps 2) e) 5 t in omega arith)
    step e false t = refl

low_or_high : (p q : ℕ) → (p < 4) × (q < 4) ⊎ (4 ≤ 0 + p + q)
low_or_high p q = grind arith

zero_on : (a : ExpList 2) (i : ℕ) → 2 ≤ degree (exps 2) a → i < 2 → value i a ≡ rational_ops.zero
zero_on a i h g = elim (low_or_high p q) [ inl z ↦ low z.0 z.1 | inr z ↦ high_value a i z g ]
  where
    p : ℕ
    p = (exps 2).at a 0

    q : ℕ
    q = (exps 2).at a 1

    low : (exps 2).at a 0 < 4 → (exps 2).at a 1 < 4 → value i a ≡ rational_ops.zero
    low hp hq =
        ap (value i) (is_monomial_xy a ((exps 2).at a 1) refl)
        ∙ zero_means (value i (monomial_xy ((exps 2).at a 0) ((exps 2).at a 1)))
        (ExpLaws.all_to_at 2 (λ i. is_zero (value i (monomial_xy ((exps 2).at a 0) ((exps 2).at a 1))))
        (sym (ap (λ b. cond b true (all_to 2 (λ i. is_zero (value i (monomial_xy ((exps 2).at a 0) ((exps 2).at a 1)))))) (le-ltb ((exps 2).at a 0 + (exps 2).at a 1) 2 (let h' : 2 ≤ 0 + (exps 2).at a 0 + (exps 2).at a 1 = h in omega arith)))
        ∙ ExpLaws.all_to_at 4 (λ q. cond (ltb ((exps 2).at a 0 + q) 2) true (all_to 2 (λ i. is_zero (value i (monomial_xy ((exps 2).at a 0) q)))))
        (ExpLaws.all_to_at 4 (λ p. all_to 4 (λ q. cond (ltb (p + q) 2) true (all_to 2 (λ i. is_zero (value i (monomial_xy p q)))))) low_values ((exps 2).at a 0) hp) ((exps 2).at a 1) hq)
        i g)

one_on : value_on (exps 2) rational_ops values (term (exps 2) rational_ops (monomial_xy 0 5)) ≡ rational_ops.one
unfolding gcd rational rational_zero rational_add rational_mul values
one_on = refl

pub e7_fails_at_4 : E7FailsAt4
unfolding value values
e7_fails_at_4 = record { of_degree = refl; zero_on = zero_on; one_on = one_on }

pub e7_has_no_rows_at_4 : E7HasNoRowsAt4
e7_has_no_rows_at_4 rows =
    RationalLaws.rational_scalar_laws.nontrivial (sym (Functional.no_row (exps 2) (exps_are 2) rational_ops RationalLaws.rational_laws set 4 e7
    (term_xy (negsuc 0) 3 2 2 ++ term_xy (pos 1) 1 0 5) (monomial_xy 0 5) e7_fails_at_4 (rows (monomial_xy 0 5) refl)))

square_test : agree (exps 2) rational_ops is_zero (λ a. true)
    (times (exps 2) rational_ops (term_xy (pos 1) 1 1 0 ++ term_xy (pos 1) 1 0 1) (term_xy (pos 1) 1 1 0 ++ term_xy (pos 1) 1 0 1))
    (term_xy (pos 1) 1 2 0 ++ term_xy (pos 2) 1 1 1 ++ term_xy (pos 1) 1 0 2) ≡ true
unfolding gcd rational rational_zero rational_add rational_mul rational_neg
square_test = refl

pub square_of_sum : SquareOfSum
square_of_sum = same_by
    (times (exps 2) rational_ops (term_xy (pos 1) 1 1 0 ++ term_xy (pos 1) 1 0 1) (term_xy (pos 1) 1 1 0 ++ term_xy (pos 1) 1 0 1))
    (term_xy (pos 1) 1 2 0 ++ term_xy (pos 2) 1 1 1 ++ term_xy (pos 1) 1 0 2) square_test

partial_in_x : agree (exps 2) rational_ops is_zero (λ a. true) (derivative (exps 2) rational_ops 0 e7) (term_xy (pos 3) 1 2 0 ++ term_xy (pos 1) 1 0 3) ≡ true
unfolding gcd rational rational_zero rational_add rational_mul rational_neg
partial_in_x = refl

partial_in_y : agree (exps 2) rational_ops is_zero (λ a. true) (derivative (exps 2) rational_ops 1 e7) (term_xy (pos 3) 1 1 2) ≡ true
unfolding gcd rational rational_zero rational_add rational_mul rational_neg
partial_in_y = refl

pub partials_of_e7 : PartialsOfE7
partials_of_e7 = (
  same_by (derivative (exps 2) rational_ops 0 e7) (term_xy (pos 3) 1 2 0 ++ term_xy (pos 1) 1 0 3) partial_in_x,
  same_by (derivative (exps 2) rational_ops 1 e7) (term_xy (pos 3) 1 1 2) partial_in_y,
)

completed_test : agree_to 4
    (subst_in (exps 2) (exps 2) rational_ops square_parts (term_xy (pos 1) 1 2 0 ++ term_xy (pos 2) 1 1 2 ++ term_xy (pos 1) 1 0 5))
    (term_xy (pos 1) 1 0 2 ++ term_xy (negsuc 0) 1 4 0) ≡ true
unfolding gcd rational rational_zero rational_add rational_mul rational_neg
completed_test = refl

pub square_completed : SquareCompleted
square_completed = same_to_by 4
    (subst_in (exps 2) (exps 2) rational_ops square_parts (term_xy (pos 1) 1 2 0 ++ term_xy (pos 2) 1 1 2 ++ term_xy (pos 1) 1 0 5))
    (term_xy (pos 1) 1 0 2 ++ term_xy (negsuc 0) 1 4 0) completed_test
