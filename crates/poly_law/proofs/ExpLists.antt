-- Lists of n numbers are exponents; some products of integer polynomials, computed.
use native.Mathlib.Nat.{ℕ_set}
use mathlib.Core.HLevel.{is_prop→PathP}
use Rattle.std.proofs.Common.{◌≡◌, ℕ, [], ◌∷◌, length, refl, sym, ◌∙◌, subst, ◌<◌, arith, ℤ, pos, ◌+ℤ◌, ◌*ℤ◌, neg_ℤ}
use Rattle.std.proofs.lemmas.List.{ext_get_or}
use Rattle.std.proofs.lemmas.List.FromFn.{get_or-map-range_with_len}
use Rattle.ring_theory.specs.Ring.{RingOps}
use Rattle.poly_law.specs.Exps.{IsExps}
use Rattle.poly_law.specs.ExpList.{ExpList, exps}
use Rattle.poly_law.specs.Poly.{Terms, coefficient, times, derivative, subst_in}

pub same_entries : (n : ℕ) (a b : ExpList n) → a.entries ≡ b.entries → a ≡ b
same_entries n a b e = λ i. record { entries = e i; long = is_prop→PathP (λ i. length (e i) ≡ n) (λ i. ℕ_set (length (e i)) n) a.long b.long i }

pub exps_are : (n : ℕ) → IsExps (exps n)
exps_are n = record {
  at_make = λ f i h. get_or-map-range_with_len f 0 n i i 0 h (omega arith);
  same_at = λ a b h. same_entries n a b (ext_get_or 0 a.entries b.entries (a.long ∙ sym b.long) (λ i g. h i (subst (λ m. i < m) a.long g)));
}

-- the integers
ints_ops : RingOps ℤ
ints_ops = record { zero = pos 0; one = pos 1; add = λ a b. a +ℤ b; mul = λ a b. a *ℤ b; neg = neg_ℤ }

-- x + y, of degree 1 in two variables
x+y : Terms (ExpList 2) ℤ
x+y = (record { entries = 1 ∷ 0 ∷ []; long = refl }, pos 1) ∷ (record { entries = 0 ∷ 1 ∷ []; long = refl }, pos 1) ∷ []

xy : ExpList 2
xy = record { entries = 1 ∷ 1 ∷ []; long = refl }

-- (x + y)^2 has 2xy, and its derivative in x is 2x + 2y
square : coefficient (exps 2) ints_ops (times (exps 2) ints_ops x+y x+y) xy ≡ pos 2
unfolding ints_ops x+y xy
square = refl

slope_in_x : coefficient (exps 2) ints_ops (derivative (exps 2) ints_ops 0 (times (exps 2) ints_ops x+y x+y)) (record { entries = 0 ∷ 1 ∷ []; long = refl }) ≡ pos 2
unfolding ints_ops x+y
slope_in_x = refl

-- x^2 with x + y for x and y for y
moved : coefficient (exps 2) ints_ops (subst_in (exps 2) (exps 2) ints_ops (λ i. x+y) (times (exps 2) ints_ops x+y x+y)) xy ≡ pos 8
unfolding ints_ops x+y xy
moved = refl
