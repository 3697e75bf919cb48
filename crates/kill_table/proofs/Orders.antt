-- The monomial order does not depend on the number of variables.
use Rattle.std.proofs.Common.{◌≡◌, ℕ, zero, suc, true, false, ◌&&◌, ◌||◌, eqb, List, [], ◌∷◌, length, get_or, sum, refl, sym, ap, ap₂, ◌∙◌, arith}
use Rattle.std.specs.Prelude.{nat_lt}
use Rattle.mono_exp.specs.Exponents.{IsIn, exponents, is_before, is_greater_first}
use Rattle.mono_exp.proofs.NumberLemmas.{exponents-cons, sum-exponents}

greater-zeros : (a b : List ℕ) → ((i : ℕ) → get_or a i 0 ≡ 0) → ((i : ℕ) → get_or b i 0 ≡ 0) → is_greater_first a b ≡ false
greater-zeros [] b p q = refl
greater-zeros (x ∷ a) [] p q = refl
greater-zeros (x ∷ a) (y ∷ b) p q = ap₂ (λ x y. nat_lt y x || (eqb x y && is_greater_first a b)) (p 0) (q 0) ∙ greater-zeros a b (λ i. p (suc i)) (λ i. q (suc i))

greater-itself : (a : List ℕ) → is_greater_first a a ≡ false
greater-itself [] = refl
greater-itself (x ∷ a) = ap₂ (λ s t. s || (t && is_greater_first a a)) (not_less x) (equal x) ∙ greater-itself a
  where
    not_less : (x : ℕ) → nat_lt x x ≡ false
    not_less x = grind arith

    equal : (x : ℕ) → eqb x x ≡ true
    equal x = grind arith

first-in : (n : ℕ) (a b : List ℕ) → length a ≡ length b → IsIn n a → IsIn n b → is_greater_first (exponents n a) (exponents n b) ≡ is_greater_first a b
first-in zero a b l p q = sym (greater-zeros a b (λ i. p i (omega arith)) (λ i. q i (omega arith)))
first-in (suc n) [] [] l p q = greater-itself (exponents (suc n) [])
first-in (suc n) [] (y ∷ b) l p q = absurd (omega (arith, l))
first-in (suc n) (x ∷ a) [] l p q = absurd (omega (arith, l))
first-in (suc n) (x ∷ a) (y ∷ b) l p q =
    ap₂ is_greater_first (exponents-cons n x a) (exponents-cons n y b)
    ∙ ap (λ z. nat_lt y x || (eqb x y && z)) (first-in n a b (let h : suc (length a) ≡ suc (length b) = l in omega arith) (λ i h. p (suc i) (omega arith)) (λ i h. q (suc i) (omega arith)))

-- the order of two monomials by their exponents in the first n variables
pub before-in : (n : ℕ) (a b : List ℕ) → length a ≡ length b → IsIn n a → IsIn n b → is_before (exponents n a) (exponents n b) ≡ is_before a b
before-in n a b l p q =
    ap₂ (λ x y. nat_lt x y || (eqb x y && is_greater_first (exponents n a) (exponents n b))) (sum-exponents n a p) (sum-exponents n b q)
    ∙ ap (λ z. nat_lt (sum a) (sum b) || (eqb (sum a) (sum b) && z)) (first-in n a b l p q)
