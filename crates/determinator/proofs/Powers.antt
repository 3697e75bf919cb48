-- The least power of a variable: the first exponent from 2 on that passes a test.
use Rattle.std.proofs.Common.{◌≡◌, ℕ, zero, suc, ◌+◌, ◌-◌, ◌≤◌, Bool, true, false, cond, not, eqb, eqb-true, Option, Some, None, List, [], ◌∷◌, ◌++◌, map, filter, get_or, nat_le, le-leb, refl, sym, ap, ◌∙◌, arith}
use Rattle.std.specs.Prelude.{IsTrue, ◌↔◌}
use Rattle.std.proofs.lemmas.List.{get_or-map}
use Rattle.std.proofs.lemmas.List.Elements.{filter-append}
use Rattle.ring_theory.specs.Scalars.{Meaning, ScalarLaws}
use Rattle.poly_law.specs.Polynomials.{coefficient_in}
use Rattle.poly_law.proofs.ExpLists.{exps_are}
use Rattle.mono_exp.specs.declared.exponent.Exp.{Exp}
use Rattle.mono_exp.specs.Exponents.{IsIn, numbers_below}
use Rattle.mono_exp.proofs.Lists.{length-numbers_below, get_or-numbers_below, numbers_below-add}
use Rattle.jet_law.specs.Canonical.{monomial_in}
use Rattle.jet_law.specs.Terms.{exp_of, poly_of}
use Rattle.jet_law.proofs.TermLemmas.{at-exp_of}
use Rattle.kill_law.specs.Kill.{first}
use Rattle.hessian_rank.proofs.Pivots.{first_left, first_right}
use Rattle.move_law.specs.Moves.{is_there, power_exponents}
use Rattle.certificate.proofs.Inverses.{is_zero_by}

-- the exponents from 2 on that are below m
abbrev pub tried : ℕ → List ℕ
tried m = filter (nat_le 2) (numbers_below m)

tried_next : (m : ℕ) → 2 ≤ m → tried (suc m) ≡ tried m ++ m ∷ []
tried_next m two = filter-append (nat_le 2) (numbers_below m) (m ∷ []) ∙ ap (λ b. tried m ++ cond b (m ∷ []) []) (le-leb 2 m two)

module _ (p : ℕ → Bool) where
  pub none_next : (m : ℕ) → 2 ≤ m → p m ≡ false → first p (tried m) ≡ None → first p (tried (suc m)) ≡ None
  none_next m two fails so_far = ap (first p) (tried_next m two) ∙ first_right p (tried m) (m ∷ []) so_far ∙ ap (λ b. cond b (Some m) None) fails

  pub found_at : (m k : ℕ) → 2 ≤ m → m ≤ k → p m ≡ true → first p (tried m) ≡ None → first p (tried (k + 1)) ≡ Some m
  found_at m k two le holds so_far =
      let more : k + 1 ≡ suc m + (k - m) = omega arith in
      ap (λ z. first p (tried z)) more
      ∙ ap (λ (xs : List ℕ). first p (filter (nat_le 2) xs)) (numbers_below-add (suc m) (k - m))
      ∙ ap (first p) (filter-append (nat_le 2) (numbers_below (suc m)) (map (λ i. suc m + i) (numbers_below (k - m))))
      ∙ first_left p (tried (suc m)) (filter (nat_le 2) (map (λ i. suc m + i) (numbers_below (k - m)))) m
      (ap (first p) (tried_next m two) ∙ first_right p (tried m) (m ∷ []) so_far ∙ ap (λ b. cond b (Some m) None) holds)

  -- where none passes below m, none passes below a lesser bound
  pub none_below : (m k : ℕ) → k ≤ m → first p (tried m) ≡ None → first p (tried k) ≡ None
  none_below m k le none = step (first p (tried k)) refl
    where
      more : m ≡ k + (m - k)
      more = omega arith

      rest : List ℕ
      rest = filter (nat_le 2) (map (λ i. k + i) (numbers_below (m - k)))

      whole : tried m ≡ tried k ++ rest
      whole = ap tried more ∙ ap (filter (nat_le 2)) (numbers_below-add k (m - k)) ∙ filter-append (nat_le 2) (numbers_below k) (map (λ i. k + i) (numbers_below (m - k)))

      step : (found : Option ℕ) → first p (tried k) ≡ found → first p (tried k) ≡ None
      step None e = e
      step (Some x) e = let bad : Some x ≡ None = sym (ap (first p) whole ∙ first_left p (tried k) rest x e) ∙ none in absurd (cc bad)

-- x^m for the first variable x, as the program writes it
abbrev pub power_of : ℕ → Exp
power_of m = record { e = m ∷ 0 ∷ 0 ∷ 0 ∷ 0 ∷ 0 ∷ 0 ∷ 0 ∷ [] }

no_more : (k : ℕ) → get_or {A = ℕ} (0 ∷ 0 ∷ 0 ∷ 0 ∷ 0 ∷ 0 ∷ 0 ∷ []) k 0 ≡ 0
no_more zero = refl
no_more (suc zero) = refl
no_more (suc (suc zero)) = refl
no_more (suc (suc (suc zero))) = refl
no_more (suc (suc (suc (suc zero)))) = refl
no_more (suc (suc (suc (suc (suc zero))))) = refl
no_more (suc (suc (suc (suc (suc (suc zero)))))) = refl
no_more (suc (suc (suc (suc (suc (suc (suc k))))))) = refl

pub power_entry : (m k : ℕ) → get_or (power_of m).e k 0 ≡ cond (eqb k 0) m 0
power_entry m zero = refl
power_entry m (suc k) = no_more k ∙ ap (λ b. cond b m 0) (sym (apart (eqb (suc k) 0) refl))
  where
    apart : (b : Bool) → eqb (suc k) 0 ≡ b → eqb (suc k) 0 ≡ false
    apart true e = let bad = eqb-true (suc k) 0 e in absurd (omega arith)
    apart false e = e

pub power_is : (n m : ℕ) → exp_of n (power_of m) ≡ monomial_in n (power_exponents n 0 m)
power_is n m = (exps_are n).same_at (exp_of n (power_of m)) (monomial_in n (power_exponents n 0 m)) λ k h.
    at-exp_of n (power_of m) k h ∙ power_entry m k
    ∙ sym ((exps_are n).at_make (λ k. get_or (power_exponents n 0 m) k 0) k h
    ∙ get_or-map (λ k. cond (eqb k 0) m 0) (numbers_below n) k 0 0 (let l = length-numbers_below n in omega arith)
    ∙ ap (λ k. cond (eqb k 0) m 0) (get_or-numbers_below n k 0 h))

pub power_in : (n m : ℕ) → 1 ≤ n → IsIn n (power_of m).e
power_in n m h zero le = absurd (omega arith)
power_in n m h (suc k) le = no_more k

-- the power is there where the coefficient that was read is not equal to zero
module _ {E V : Type 0} (m : Meaning E V) (laws : ScalarLaws m.scalars) (n k : ℕ) (terms : List (Exp × E)) (given : 1 ≤ n) (x z : E) (b : Bool)
    (read : IsIn n (power_of k).e → m.value x ≡ coefficient_in n m.scalars.ops (poly_of n m.value terms) (exp_of n (power_of k))) (none : m.value z ≡ m.scalars.ops.zero) (equal : IsTrue b ↔ (m.value x ≡ m.value z)) where
  pub is_there_by : is_there n m.scalars (poly_of n m.value terms) (power_exponents n 0 k) ≡ not b
  is_there_by =
      ap not (ap m.scalars.is_zero (ap (coefficient_in n m.scalars.ops (poly_of n m.value terms)) (sym (power_is n k)) ∙ sym (read (power_in n k given))) ∙ is_zero_by m laws x z b equal none)
