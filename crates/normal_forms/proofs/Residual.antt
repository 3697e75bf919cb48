-- The coefficients of the residual part of terms are those of all terms at monomials in the residual variables.
use Rattle.std.proofs.Common.{◌≡◌, ℕ, zero, suc, ◌<◌, ◌≤◌, ◌⊎◌, inl, inr, Bool, true, false, cond, ◌&&◌, List, [], ◌∷◌, drop, get_or, eqb-true, eq-eqb, refl, sym, ap, ◌∙◌, true≢false, zero-le, arith}
use Rattle.std.specs.Prelude.{◌==◌}
use Rattle.std.specs.List.{list_all, AllByRecursion}
use Rattle.ring_theory.specs.Ring.{RingOps, IsCommRing}
use Rattle.poly_law.specs.Exps.{same}
use Rattle.poly_law.specs.ExpList.{exps}
use Rattle.poly_law.specs.Poly.{coefficient}
use Rattle.poly_law.proofs.ExpLists.{exps_are}
use Rattle.poly_law.proofs.ExpLaws
use Rattle.poly_law.proofs.Sums
use Rattle.mono_exp.specs.declared.exponent.Exp.{Exp}
use Rattle.mono_exp.specs.Exponents.{IsIn}
use Rattle.jet_law.specs.Terms.{exp_of, poly_of}
use Rattle.jet_law.proofs.TermLemmas.{at-exp_of}
use Rattle.normal_forms.specs.Monomials.{is_residual, residual_terms}

abbrev is_zero : ℕ → Bool
is_zero e = e == 0

and_first : (a b : Bool) → (a && b) ≡ true → a ≡ true
and_first true b e = refl
and_first false b e = e

and_second : (a b : Bool) → (a && b) ≡ true → b ≡ true
and_second true b e = e
and_second false b e = absurd (true≢false (sym e))

both : (a b : Bool) → a ≡ true → b ≡ true → (a && b) ≡ true
both true b e f = f
both false b e f = e

zeros_past : (c : ℕ) (e : List ℕ) → list_all is_zero (drop c e) ≡ true → IsIn c e
zeros_past c [] t i h = refl
zeros_past zero (z ∷ zs) t zero h = eqb-true z 0 (and_first (is_zero z) (list_all is_zero zs) t)
zeros_past zero (z ∷ zs) t (suc i) h = zeros_past zero zs (and_second (is_zero z) (list_all is_zero zs) t) i zero-le
zeros_past (suc c) (z ∷ zs) t zero h = absurd (omega arith)
zeros_past (suc c) (z ∷ zs) t (suc i) h = zeros_past c zs t i (omega arith)

all_zeros_past : (c : ℕ) (e : List ℕ) → IsIn c e → list_all is_zero (drop c e) ≡ true
all_zeros_past zero [] h = refl
all_zeros_past (suc c) [] h = refl
all_zeros_past zero (z ∷ zs) h = both (is_zero z) (list_all is_zero zs) (eq-eqb z 0 (h 0 (omega arith))) (all_zeros_past zero zs (λ i g. h (suc i) (omega arith)))
all_zeros_past (suc c) (z ∷ zs) h = all_zeros_past c zs (λ i g. h (suc i) (omega arith))

-- a monomial without square variables is one in the residual variables
pub residual_in : (c : ℕ) (m : Exp) → is_residual c m ≡ true → IsIn c m.e
residual_in c m e = zeros_past c m.e e

pub in_residual : (c : ℕ) (m : Exp) → IsIn c m.e → is_residual c m ≡ true
in_residual c m h = all_zeros_past c m.e h

before_or_past : (i n : ℕ) → (i < n) ⊎ (n ≤ i)
before_or_past i n = grind arith

-- a monomial with a square variable is none in the residual variables
other : (c : ℕ) (t m : Exp) → IsIn 8 t.e → IsIn c m.e → IsIn 8 m.e → is_residual c t ≡ false → same (exps 8) (exp_of 8 t) (exp_of 8 m) ≡ false
other c t m ht hm hm8 r = ExpLaws.same-no (exps 8) (exps_are 8) (exp_of 8 t) (exp_of 8 m) λ e. true≢false (sym (in_residual c t (λ i h. equal e i ∙ hm i h)) ∙ r)
  where
    equal : exp_of 8 t ≡ exp_of 8 m → (i : ℕ) → get_or t.e i 0 ≡ get_or m.e i 0
    equal e i = step (before_or_past i 8)
      where
        step : (i < 8) ⊎ (8 ≤ i) → get_or t.e i 0 ≡ get_or m.e i 0
        step (inl l) = sym (at-exp_of 8 t i l) ∙ ap (λ z. (exps 8).at z i) e ∙ at-exp_of 8 m i l
        step (inr l) = ht i l ∙ sym (hm8 i l)

module _ {E V : Type 0} (r : RingOps V) (laws : IsCommRing r) (value : E → V) (c : ℕ) (m : Exp) (low : IsIn c m.e) (low8 : IsIn 8 m.e) where
  abbrev at_m : List (Exp × E) → V
  at_m terms = coefficient (exps 8) r (poly_of 8 value terms) (exp_of 8 m)

  step : (b : Bool) (t : Exp × E) (terms : List (Exp × E)) → is_residual c t.0 ≡ b → IsIn 8 t.0.e → at_m terms ≡ at_m (residual_terms c terms) → at_m (t ∷ terms) ≡ at_m (cond b (t ∷ residual_terms c terms) (residual_terms c terms))
  step true t terms e i rest = ap (r.add (cond (same (exps 8) (exp_of 8 t.0) (exp_of 8 m)) (value t.1) r.zero)) rest
  step false t terms e i rest =
      ap (λ b. r.add (cond b (value t.1) r.zero) (at_m terms)) (other c t.0 m i low low8 e) ∙ Sums.zero_add r laws (at_m terms) ∙ rest

  pub coefficient-residual : (terms : List (Exp × E)) → AllByRecursion (λ t. IsIn 8 t.0.e) terms → at_m terms ≡ at_m (residual_terms c terms)
  unfolding residual_terms
  coefficient-residual [] all = refl
  coefficient-residual (t ∷ terms) all = step (is_residual c t.0) t terms refl all.0 (coefficient-residual terms all.1)
