-- Monomials in two variables, powers of one variable, and the least power.
use Rattle.std.proofs.Common.{◌≡◌, ℕ, zero, suc, ◌+◌, ◌-◌, ◌<◌, ◌≤◌, Bool, true, false, cond, eqb, eqb-true, eq-eqb, ne_eqb, le-leb, List, [], ◌∷◌, ◌++◌, get_or, set, Option, Some, None, refl, sym, ap, ◌∙◌, arith}
use Rattle.std.specs.Prelude.{nat_le, filter}
use Rattle.std.proofs.lemmas.List.{get_or-set_same, get_or-set_other, get_or-map}
use Rattle.poly_law.proofs.ExpLists.{exps_are}
use Rattle.mono_exp.specs.declared.exponent.Exp.{Exp}
use Rattle.mono_exp.specs.Exponents.{IsIn, numbers_below}
use Rattle.mono_exp.proofs.Lists.{length-numbers_below, get_or-numbers_below}
use Rattle.jet_law.specs.Terms.{exp_of}
use Rattle.jet_law.specs.Canonical.{monomial_in}
use Rattle.jet_law.proofs.Gather.{filter-append}
use Rattle.jet_law.proofs.TermLemmas.{at-exp_of}
use Rattle.jet_subst.proofs.Reduced.{zeros}
use Rattle.kill_law.specs.Kill.{first}
use Rattle.move_law.specs.Moves.{power_exponents}
use Rattle.move_law.specs.Patterns.{two}
use Rattle.move_law.specs.Finish.{from_to}
use Rattle.hessian_rank.proofs.Pivots.{first_left, first_right}

six_zeros : (j : ℕ) → get_or {A = ℕ} (0 ∷ 0 ∷ 0 ∷ 0 ∷ 0 ∷ 0 ∷ []) j 0 ≡ 0
six_zeros zero = refl
six_zeros (suc zero) = refl
six_zeros (suc (suc zero)) = refl
six_zeros (suc (suc (suc zero))) = refl
six_zeros (suc (suc (suc (suc zero)))) = refl
six_zeros (suc (suc (suc (suc (suc zero))))) = refl
six_zeros (suc (suc (suc (suc (suc (suc zero)))))) = refl
six_zeros (suc (suc (suc (suc (suc (suc (suc j))))))) = refl

none_left : (j : ℕ) → get_or {A = ℕ} [] j 0 ≡ 0
none_left zero = refl
none_left (suc j) = refl

module _ (n i k : ℕ) (w : Exp) (is : w.e ≡ i ∷ k ∷ 0 ∷ 0 ∷ 0 ∷ 0 ∷ 0 ∷ 0 ∷ []) where
  two_at : (j : ℕ) → get_or w.e j 0 ≡ get_or (two i k) j 0
  two_at j = ap (λ z. get_or z j 0) is ∙ padded j
    where
      padded : (j : ℕ) → get_or {A = ℕ} (i ∷ k ∷ 0 ∷ 0 ∷ 0 ∷ 0 ∷ 0 ∷ 0 ∷ []) j 0 ≡ get_or (two i k) j 0
      padded zero = refl
      padded (suc zero) = refl
      padded (suc (suc j)) = six_zeros j ∙ sym (none_left j)

  -- x^i y^k is a monomial in the first variables
  pub two_in : 2 ≤ n → IsIn n w.e
  two_in h j g = two_at j ∙ past j (omega arith)
    where
      past : (j : ℕ) → 2 ≤ j → get_or (two i k) j 0 ≡ 0
      past zero q = absurd (omega arith)
      past (suc zero) q = absurd (omega arith)
      past (suc (suc j)) q = none_left j

  pub two_is : exp_of n w ≡ monomial_in n (two i k)
  two_is = (exps_are n).same_at (exp_of n w) (monomial_in n (two i k)) (λ j h. at-exp_of n w j h ∙ two_at j ∙ sym ((exps_are n).at_make (λ j. get_or (two i k) j 0) j h))

module _ (n i m : ℕ) (inside : i < n) (few : n ≤ 8) (w : Exp) (is : w.e ≡ set (0 ∷ 0 ∷ 0 ∷ 0 ∷ 0 ∷ 0 ∷ 0 ∷ 0 ∷ []) i m) where
  power_read : (j : ℕ) → get_or w.e j 0 ≡ cond (eqb j i) m 0
  power_read j = ap (λ z. get_or z j 0) is ∙ step (eqb j i) refl
    where
      step : (b : Bool) → eqb j i ≡ b → get_or (set (0 ∷ 0 ∷ 0 ∷ 0 ∷ 0 ∷ 0 ∷ 0 ∷ 0 ∷ []) i m) j 0 ≡ cond b m 0
      step true e = ap (λ z. get_or (set (0 ∷ 0 ∷ 0 ∷ 0 ∷ 0 ∷ 0 ∷ 0 ∷ 0 ∷ []) i m) z 0) (eqb-true j i e) ∙ get_or-set_same (0 ∷ 0 ∷ 0 ∷ 0 ∷ 0 ∷ 0 ∷ 0 ∷ 0 ∷ []) i m 0 (omega arith)
      step false e = get_or-set_other (0 ∷ 0 ∷ 0 ∷ 0 ∷ 0 ∷ 0 ∷ 0 ∷ 0 ∷ []) i j m 0 (λ q. let bad : true ≡ false = sym (eq-eqb j i q) ∙ e in cc bad) ∙ zeros j

  power_listed : (j : ℕ) → j < n → get_or (power_exponents n i m) j 0 ≡ cond (eqb j i) m 0
  power_listed j h =
      get_or-map (λ k. cond (eqb k i) m 0) (numbers_below n) j 0 0 (let l = length-numbers_below n in omega arith) ∙ ap (λ k. cond (eqb k i) m 0) (get_or-numbers_below n j 0 h)

  -- x(i)^m is a monomial in the first variables
  pub power_in : IsIn n w.e
  power_in j h = power_read j ∙ ap (λ b. cond b m 0) (ne_eqb j i (λ e. omega arith))

  pub power_is : exp_of n w ≡ monomial_in n (power_exponents n i m)
  power_is =
      (exps_are n).same_at (exp_of n w) (monomial_in n (power_exponents n i m))
      (λ j h. at-exp_of n w j h ∙ power_read j ∙ sym (power_listed j h) ∙ sym ((exps_are n).at_make (λ j. get_or (power_exponents n i m) j 0) j h))

-- ---- the least power

-- the numbers from 2 on below a given one
abbrev pub from_2_below : ℕ → List ℕ
from_2_below m = filter (nat_le 2) (numbers_below m)

from_2_suc : (m : ℕ) → 2 ≤ m → from_2_below (m + 1) ≡ from_2_below m ++ m ∷ []
from_2_suc m h =
    ap from_2_below (let e : m + 1 ≡ suc m = omega arith in e)
    ∙ filter-append (nat_le 2) (numbers_below m) (m ∷ []) ∙ ap (λ b. from_2_below m ++ cond b (m ∷ []) []) (le-leb 2 m h)

module _ (p : ℕ → Bool) where
  -- one that passes after others that do not
  found_here : (m : ℕ) → 2 ≤ m → first p (from_2_below m) ≡ None → p m ≡ true → first p (from_2_below (m + 1)) ≡ Some m
  found_here m h none e = ap (first p) (from_2_suc m h) ∙ first_right p (from_2_below m) (m ∷ []) none ∙ ap (λ b. cond b (Some m) None) e

  pub not_here : (m : ℕ) → 2 ≤ m → first p (from_2_below m) ≡ None → p m ≡ false → first p (from_2_below (m + 1)) ≡ None
  not_here m h none e = ap (first p) (from_2_suc m h) ∙ first_right p (from_2_below m) (m ∷ []) none ∙ ap (λ b. cond b (Some m) None) e

  still : (m d x : ℕ) → first p (from_2_below m) ≡ Some x → first p (from_2_below (m + d)) ≡ Some x
  still m zero x e = ap (λ z. first p (from_2_below z)) (let q : m + 0 ≡ m = omega arith in q) ∙ e
  still m (suc d) x e =
      ap (λ z. first p (from_2_below z)) (let q : m + suc d ≡ suc (m + d) = omega arith in q)
      ∙ ap (first p) (filter-append (nat_le 2) (numbers_below (m + d)) ((m + d) ∷ []))
      ∙ first_left p (from_2_below (m + d)) (cond (nat_le 2 (m + d)) ((m + d) ∷ []) []) x (still m d x e)

  pub found_least : (m o : ℕ) → 2 ≤ m → m ≤ o → first p (from_2_below m) ≡ None → p m ≡ true → first p (from_to 2 o) ≡ Some m
  found_least m o h k none e =
      ap (λ z. first p (from_2_below z)) (let q : o + 1 ≡ m + 1 + (o - m) = omega arith in q) ∙ still (m + 1) (o - m) m (found_here m h none e)

  before : (m d : ℕ) → first p (from_2_below (m + d)) ≡ None → first p (from_2_below m) ≡ None
  before m d e = step (first p (from_2_below m)) refl
    where
      step : (r : Option ℕ) → first p (from_2_below m) ≡ r → first p (from_2_below m) ≡ None
      step None q = q
      step (Some x) q = let bad : Some x ≡ None = sym (still m d x q) ∙ e in absurd (cc bad)

  pub none_least : (m o : ℕ) → 2 ≤ m → o + 1 ≤ m → first p (from_2_below m) ≡ None → first p (from_to 2 o) ≡ None
  none_least m o h k none = before (o + 1) (m - (o + 1)) (ap (λ z. first p (from_2_below z)) (let q : o + 1 + (m - (o + 1)) ≡ m = omega arith in q) ∙ none)
