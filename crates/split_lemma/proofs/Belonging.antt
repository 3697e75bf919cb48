-- Terms that belong to a square variable, by the exponents of their monomials.
use Rattle.std.proofs.Common.{◌≡◌, ◌≢◌, ℕ, zero, suc, ◌<◌, ◌⊎◌, inl, inr, List, Bool, true, false, ◌&&◌, ◌||◌, eqb, eqb-true, get_or, sum, refl, sym, ap, ap₂, ◌∙◌, arith}
use Rattle.std.specs.Prelude.{nat_lt}
use Rattle.std.proofs.lemmas.Bool.{ltb-true}
use Rattle.poly_law.specs.Exps.{all_to, degree}
use Rattle.poly_law.specs.ExpList.{ExpList, exps}
use Rattle.mono_exp.specs.declared.exponent.Exp.{Exp}
use Rattle.mono_exp.specs.Exponents.{IsIn}
use Rattle.jet_law.specs.Terms.{exp_of}
use Rattle.jet_law.proofs.TermLemmas.{at-exp_of, degree-exp_of}
use Rattle.move_law.specs.Split.{is_first_square, belongs_to}

all_to-cong : (w : ℕ) (p q : ℕ → Bool) → ((i : ℕ) → i < w → p i ≡ q i) → all_to w p ≡ all_to w q
all_to-cong zero p q h = refl
all_to-cong (suc w) p q h = ap₂ (λ x y. x && y) (all_to-cong w p q (λ i l. h i (omega arith))) (h w (omega arith))

pub false_right : (a b : Bool) → b ≡ false → (a && b) ≡ false
false_right true b h = h
false_right false b h = refl

pub or_false : (a b : Bool) → a ≡ false → b ≡ false → (a || b) ≡ false
or_false a b h e = ap₂ (λ x y. x || y) h e

last_or_before : (i w : ℕ) → i < suc w → (i < w) ⊎ (i ≡ w)
last_or_before i w l = grind arith

-- a test that fails somewhere below w does not hold everywhere below w
pub all_fails : (w : ℕ) (p : ℕ → Bool) (i : ℕ) → i < w → p i ≡ false → all_to w p ≡ false
all_fails zero p i l h = absurd (omega arith)
all_fails (suc w) p i l h = step (all_fails w p i) (last_or_before i w l)
  where
    step : (i < w → p i ≡ false → all_to w p ≡ false) → (i < w) ⊎ (i ≡ w) → (all_to w p && p w) ≡ false
    step rest (inl less) = ap (λ z. z && p w) (rest less h)
    step rest (inr e) = false_right (all_to w p) (p w) (ap p (sym e) ∙ h)

-- the same test on the exponents of eight variables
pub belongs_same : (n c d w : ℕ) (a : Exp) → w < n → IsIn n a.e
    → belongs_to n c d w (exp_of n a) ≡ (eqb (sum a.e) d && is_first_square c w (λ i. get_or a.e i 0))
belongs_same n c d w a h here =
    ap₂ (λ x y. eqb x d && y) (degree-exp_of n a here)
    (ap₂ (λ x y. nat_lt 0 x && y) (at-exp_of n a w h)
    (all_to-cong w (λ i. nat_lt i c || eqb ((exps n).at (exp_of n a) i) 0) (λ i. nat_lt i c || eqb (get_or a.e i 0) 0) (λ i l. ap (λ x. nat_lt i c || eqb x 0) (at-exp_of n a i (omega arith)))))

and_left : (a b : Bool) → (a && b) ≡ true → a ≡ true
and_left true b h = refl
and_left false b h = h

and_right : (a b : Bool) → (a && b) ≡ true → b ≡ true
and_right true b h = h
and_right false b h = let bad : ⊥ = cc h in absurd bad

-- a monomial that belongs to w has w, and degree d
pub belongs_facts : (n c d w : ℕ) (a : ExpList n) → belongs_to n c d w a ≡ true → (0 < (exps n).at a w) × (degree (exps n) a ≡ d)
belongs_facts n c d w a b = (
  ltb-true 0 ((exps n).at a w) (and_left (nat_lt 0 ((exps n).at a w)) (all_to w (λ i. nat_lt i c || eqb ((exps n).at a i) 0)) (and_right (eqb (degree (exps n) a) d) (is_first_square c w ((exps n).at a)) b)),
  eqb-true (degree (exps n) a) d (and_left (eqb (degree (exps n) a) d) (is_first_square c w ((exps n).at a)) b),
)

-- the same of the exponents of eight variables
pub record Belongs (d w : ℕ) (e : List ℕ) : Type 0 where
  pub there : 0 < get_or e w 0
  pub degree : sum e ≡ d

pub belongs : (n c d w : ℕ) (a : Exp) → w < n → IsIn n a.e → belongs_to n c d w (exp_of n a) ≡ true → Belongs d w a.e
belongs n c d w a h here b =
    let known = sym (belongs_same n c d w a h here) ∙ b in
    record {
      there = ltb-true 0 (get_or a.e w 0) (and_left (nat_lt 0 (get_or a.e w 0)) (all_to w (λ i. nat_lt i c || eqb (get_or a.e i 0) 0)) (and_right (eqb (sum a.e) d) (is_first_square c w (λ i. get_or a.e i 0)) known));
      degree = eqb-true (sum a.e) d (and_left (eqb (sum a.e) d) (is_first_square c w (λ i. get_or a.e i 0)) known);
    }

pub positive : (x : ℕ) → x ≢ 0 → 0 < x
positive zero h = absurd (h refl)
positive (suc x) h = omega arith
