-- The lists of monomials of a degree have all of them.
use Rattle.std.proofs.Common.{◌≡◌, ℕ, zero, suc, ◌+◌, Bool, true, false, List, [], ◌∷◌, length, get_or, sum, refl, sym, ap, subst, ◌∙◌, arith}
use Rattle.std.specs.List.{list_any}
use Rattle.std.specs.Str.{bytes_eq}
use Rattle.std.specs.Cmp.{IsEquivalence}
use Rattle.std.specs.Cmp.Lexicographic.{bytes_decides}
use Rattle.std.proofs.lemmas.Map.Views.{list_any-from_Contains}
use Rattle.mono_exp.specs.Exponents.{monomials_of}
use Rattle.mono_exp.proofs.Lists.{sum-cons}
use Rattle.mono_exp.proofs.OrderLaws.{whole}
use Rattle.poly_law.specs.Exps.{nat_sum_to, degree}
use Rattle.poly_law.specs.ExpList.{ExpList, exps}

-- equal exponents, as a test
same_exponents : IsEquivalence bytes_eq
same_exponents = record {
  refl = λ xs. (bytes_decides xs xs).1 refl;
  symm = λ xs ys. either (bytes_eq xs ys) (bytes_eq ys xs) (λ e. (bytes_decides ys xs).1 (sym ((bytes_decides xs ys).0 e))) (λ e. (bytes_decides xs ys).1 (sym ((bytes_decides ys xs).0 e)));
  congr = λ xs ys zs e. ap (λ us. bytes_eq us zs) ((bytes_decides xs ys).0 e);
}
  where
    either : (a b : Bool) → (a ≡ true → b ≡ true) → (b ≡ true → a ≡ true) → a ≡ b
    either true true f g = refl
    either true false f g = sym (f refl)
    either false true f g = g refl
    either false false f g = refl

-- each list of n exponents of sum d
pub has_degree : (n d : ℕ) (e : List ℕ) → length e ≡ n → sum e ≡ d → list_any (bytes_eq e) (monomials_of n d) ≡ true
has_degree n d e l s = list_any-from_Contains same_exponents e (monomials_of n d) (whole n d e l s)

sum_first : (n : ℕ) (w : ℕ → ℕ) → nat_sum_to (suc n) w ≡ w 0 + nat_sum_to n (λ i. w (suc i))
sum_first zero w = omega arith
sum_first (suc n) w = let h = sum_first n w in omega arith

degree_is : (e : List ℕ) → nat_sum_to (length e) (λ i. get_or e i 0) ≡ sum e
degree_is [] = refl
degree_is (x ∷ xs) = sum_first (length xs) (λ i. get_or (x ∷ xs) i 0) ∙ ap (λ s. x + s) (degree_is xs) ∙ sym (sum-cons x xs)

pub degree_of_entries : (n : ℕ) (m : ExpList n) → degree (exps n) m ≡ sum m.entries
degree_of_entries n m = subst (λ l. nat_sum_to l (λ i. get_or m.entries i 0) ≡ sum m.entries) m.long (degree_is m.entries)
