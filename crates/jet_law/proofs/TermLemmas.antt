-- Exponents of the code as exponents in n variables.
use Rattle.std.proofs.Common.{◌≡◌, ℕ, zero, suc, ◌+◌, ◌-◌, ◌<◌, Bool, true, false, cond, eqb, eqb-true, eq-eqb, List, [], ◌∷◌, ◌++◌, length, get_or, set, take, sum, refl, sym, ap, ap₂, ◌∙◌, arith}
use Rattle.std.proofs.lemmas.List.{get_or-set_same, get_or-set_other, take_more, map-append}
use Rattle.poly_law.specs.Exps.{nat_sum_to, plus, lower, degree}
use Rattle.poly_law.specs.ExpList.{exps}
use Rattle.poly_law.proofs.ExpLists.{exps_are}
use Rattle.poly_law.proofs.ExpLaws
use Rattle.mono_exp.specs.declared.exponent.Exp.{Exp}
use Rattle.mono_exp.specs.Exponents.{exponents, IsIn, IsProduct}
use Rattle.mono_exp.proofs.Lists.{sum-cons}
use Rattle.mono_exp.proofs.NumberLemmas.{length-exponents, sum-exponents}
use Rattle.jet_law.specs.Terms.{exp_of, poly_of}

-- the exponent of a variable
pub at-exp_of : (n : ℕ) (a : Exp) (i : ℕ) → i < n → (exps n).at (exp_of n a) i ≡ get_or a.e i 0
at-exp_of n a i h = (exps_are n).at_make (λ i. get_or a.e i 0) i h

-- w₀ + (w₁ + .. + wₙ), the first number taken apart
nat_sum_to-front : (n : ℕ) (w : ℕ → ℕ) → nat_sum_to (suc n) w ≡ w 0 + nat_sum_to n (λ i. w (suc i))
nat_sum_to-front zero w = let e : 0 + w 0 ≡ w 0 + 0 = omega arith in e
nat_sum_to-front (suc n) w = let e = nat_sum_to-front n w in let z : nat_sum_to (suc n) w + w (suc n) ≡ w 0 + (nat_sum_to n (λ i. w (suc i)) + w (suc n)) = omega arith in z

-- the sum of a list by its places
pub sum-is-nat_sum_to : (xs : List ℕ) → nat_sum_to (length xs) (λ i. get_or xs i 0) ≡ sum xs
sum-is-nat_sum_to [] = refl
sum-is-nat_sum_to (x ∷ xs) = nat_sum_to-front (length xs) (λ i. get_or (x ∷ xs) i 0) ∙ ap (λ z. x + z) (sum-is-nat_sum_to xs) ∙ sym (sum-cons x xs)

-- the degree of a monomial in n variables is the sum of all its exponents
pub degree-exp_of : (n : ℕ) (a : Exp) → IsIn n a.e → degree (exps n) (exp_of n a) ≡ sum a.e
degree-exp_of n a h =
    ap (λ k. nat_sum_to k (λ i. get_or (exponents n a.e) i 0)) (sym (length-exponents n a.e)) ∙ sum-is-nat_sum_to (exponents n a.e) ∙ sum-exponents n a.e h

-- the exponents of a product
pub exp_of-product : (n : ℕ) (a b d : Exp) → IsProduct d.e a.e b.e → exp_of n d ≡ plus (exps n) (exp_of n a) (exp_of n b)
exp_of-product n a b d p = (exps_are n).same_at (exp_of n d) (plus (exps n) (exp_of n a) (exp_of n b)) λ i h.
    at-exp_of n d i h ∙ p i
    ∙ sym (ExpLaws.at-plus (exps n) (exps_are n) (exp_of n a) (exp_of n b) i h ∙ ap₂ (λ y z. y + z) (at-exp_of n a i h) (at-exp_of n b i h))

pub in-product : (n : ℕ) (a b d : List ℕ) → IsProduct d a b → IsIn n a → IsIn n b → IsIn n d
in-product n a b d p ha hb i h = p i ∙ ap₂ (λ y z. y + z) (ha i h) (hb i h)

-- one place of a list is changed
set-at : (a : List ℕ) (w v i : ℕ) → w < length a → get_or (set a w v) i 0 ≡ cond (eqb i w) v (get_or a i 0)
set-at a w v i h = step (eqb i w) refl
  where
    step : (b : Bool) → eqb i w ≡ b → get_or (set a w v) i 0 ≡ cond b v (get_or a i 0)
    step true e = ap (λ j. get_or (set a w v) j 0) (eqb-true i w e) ∙ get_or-set_same a w v 0 h
    step false e = get_or-set_other a w i v 0 (λ q. bad (sym (eq-eqb i w q) ∙ e))
      where
        bad : true ≡ false → ⊥
        bad e = cc e

cond_at : (b : Bool) (i w : ℕ) (f : ℕ → ℕ) → eqb i w ≡ b → cond b (f w - 1) (f i) ≡ cond b (f i - 1) (f i)
cond_at true i w f e = ap (λ j. f j - 1) (sym (eqb-true i w e))
cond_at false i w f e = refl

-- one less at a variable
pub exp_of-lower : (n w : ℕ) (a d : Exp) → w < length a.e → d.e ≡ set a.e w (get_or a.e w 0 - 1) → exp_of n d ≡ lower (exps n) w (exp_of n a)
exp_of-lower n w a d h q = (exps_are n).same_at (exp_of n d) (lower (exps n) w (exp_of n a)) λ i g.
    at-exp_of n d i g
    ∙ ap (λ z. get_or z i 0) q
    ∙ set-at a.e w (get_or a.e w 0 - 1) i h
    ∙ cond_at (eqb i w) i w (λ i. get_or a.e i 0) refl
    ∙ sym (ExpLaws.at-lower (exps n) (exps_are n) w (exp_of n a) i g ∙ ap (λ z. cond (eqb i w) (z - 1) z) (at-exp_of n a i g))

module _ {E V : Type 0} (n : ℕ) (value : E → V) where
  -- the polynomial of one term more
  pub poly_of-take : (f : List (Exp × E)) (i : ℕ) (t : Exp × E) → i < length f → t ≡ get_or f i t → poly_of n value (take (i + 1) f) ≡ poly_of n value (take i f) ++ (exp_of n t.0, value t.1) ∷ []
  poly_of-take f i t h e =
      ap (poly_of n value) (take_more f i t h ∙ ap (λ z. take i f ++ z ∷ []) (sym e)) ∙ map-append (λ t. (exp_of n t.0, value t.1)) (take i f) (t ∷ [])

  pub poly_of-push : (f : List (Exp × E)) (t : Exp × E) → poly_of n value (f ++ t ∷ []) ≡ poly_of n value f ++ (exp_of n t.0, value t.1) ∷ []
  poly_of-push f t = map-append (λ t. (exp_of n t.0, value t.1)) f (t ∷ [])
