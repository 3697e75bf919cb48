-- The coefficients of a multiple of a polynomial by a monomial, and of a derivative in a variable that is not there.
use Rattle.std.proofs.Common.{◌≡◌, ℕ, zero, suc, ◌+◌, ◌<◌, ◌≤◌, ◌⊎◌, inl, inr, Bool, true, false, cond, List, [], ◌∷◌, get_or, length, refl, sym, ap, ap₂, ◌∙◌, append-nil, arith}
use Rattle.std.proofs.lemmas.Bool.{cases_lt}
use Rattle.ring_theory.specs.Ring.{RingOps, IsCommRing}
use Rattle.poly_law.specs.Sums.{multiple}
use Rattle.poly_law.specs.Exps.{same, plus, lower}
use Rattle.poly_law.specs.ExpList.{ExpList, exps}
use Rattle.poly_law.specs.Poly.{coefficient, times_term}
use Rattle.poly_law.specs.Polynomials.{Polynomial, term_in, times_in, derivative_in}
use Rattle.poly_law.proofs.ExpLists.{exps_are}
use Rattle.poly_law.proofs.ExpLaws
use Rattle.mono_exp.specs.declared.exponent.Exp.{Exp}
use Rattle.mono_exp.specs.Exponents.{IsIn, IsProduct, Divides}
use Rattle.jet_law.specs.Terms.{exp_of}
use Rattle.jet_law.proofs.TermLemmas.{at-exp_of, exp_of-product}

module _ {V : Type 0} (n : ℕ) (r : RingOps V) (c : IsCommRing r) where
  abbrev C : Polynomial n V → ExpList n → V
  C f b = coefficient (exps n) r f b

  one_mul : (v : V) → r.mul r.one v ≡ v
  one_mul v = c.mul_comm r.one v ∙ c.mul_one v

  -- the exponents of a product determine the other factor
  plus_cancel : (a b d : ExpList n) → plus (exps n) a b ≡ plus (exps n) a d → b ≡ d
  plus_cancel a b d e = (exps_are n).same_at b d λ i h.
      (let p = ExpLaws.at-plus (exps n) (exps_are n) a b i h in
      let q = ExpLaws.at-plus (exps n) (exps_are n) a d i h in
      let s = ap (λ z. (exps n).at z i) e in
      omega arith)

  contradiction : true ≡ false → ⊥
  contradiction e = cc e

  same_plus : (a b d : ExpList n) → same (exps n) (plus (exps n) a b) (plus (exps n) a d) ≡ same (exps n) b d
  same_plus a b d = step (same (exps n) b d) refl
    where
      step : (t : Bool) → same (exps n) b d ≡ t → same (exps n) (plus (exps n) a b) (plus (exps n) a d) ≡ t
      step true e = ap (λ z. same (exps n) (plus (exps n) a b) (plus (exps n) a z)) (sym (ExpLaws.same-eq (exps n) (exps_are n) b d e)) ∙ ExpLaws.same_refl (exps n) (exps_are n) (plus (exps n) a b)
      step false e = ExpLaws.same-no (exps n) (exps_are n) (plus (exps n) a b) (plus (exps n) a d)
          (λ q. contradiction (sym (ap (λ z. same (exps n) b z) (sym (plus_cancel a b d q)) ∙ ExpLaws.same_refl (exps n) (exps_are n) b) ∙ e))

  -- the coefficient of x^a * f at a*q is that of f at q
  pub at_multiple : (a q : ExpList n) (f : Polynomial n V) → C (times_in n r (term_in n r a) f) (plus (exps n) a q) ≡ C f q
  at_multiple a q f = ap (λ z. C z (plus (exps n) a q)) (append-nil (times_term (exps n) r (a, r.one) f)) ∙ go f
    where
      go : (f : Polynomial n V) → C (times_term (exps n) r (a, r.one) f) (plus (exps n) a q) ≡ C f q
      go [] = refl
      go (t ∷ f) = ap₂ r.add (ap₂ (λ b v. cond b v r.zero) (same_plus a t.0 q) (one_mul t.1)) (go f)

  -- and at a monomial that is no multiple of a it is 0
  pub no_multiple : (a b : ExpList n) (f : Polynomial n V) → ((q : ExpList n) → b ≡ plus (exps n) a q → ⊥) → C (times_in n r (term_in n r a) f) b ≡ r.zero
  no_multiple a b f no_factor = ap (λ z. C z b) (append-nil (times_term (exps n) r (a, r.one) f)) ∙ go f
    where
      go : (f : Polynomial n V) → C (times_term (exps n) r (a, r.one) f) b ≡ r.zero
      go [] = refl
      go (t ∷ f) =
          ap₂ (λ s v. r.add (cond s (r.mul r.one t.1) r.zero) v) (ExpLaws.same-no (exps n) (exps_are n) (plus (exps n) a t.0) b (λ e. no_factor t.0 (sym e))) (go f) ∙ c.add_zero r.zero

  -- past the end of a list
  past_end : (xs : List ℕ) (i : ℕ) → length xs ≤ i → get_or xs i 0 ≡ 0
  past_end [] i h = refl
  past_end (x ∷ xs) zero h = absurd (omega arith)
  past_end (x ∷ xs) (suc i) h = past_end xs i (omega arith)

  either_zero : (s : Bool) → cond s r.zero r.zero ≡ r.zero
  either_zero true = refl
  either_zero false = refl

  -- the derivative in a variable past the last one is 0
  pub derivative_past : (i : ℕ) (f : Polynomial n V) (b : ExpList n) → n ≤ i → C (derivative_in n r i f) b ≡ r.zero
  derivative_past i [] b h = refl
  derivative_past i (t ∷ f) b h =
      let none : get_or t.0.entries i 0 ≡ 0 = past_end t.0.entries i (let e = t.0.long in omega arith) in
      ap₂ (λ k v. r.add (cond (same (exps n) (lower (exps n) i t.0) b) (multiple r k t.1) r.zero) v) none (derivative_past i f b h)
      ∙ ap (λ z. r.add z r.zero) (either_zero (same (exps n) (lower (exps n) i t.0) b)) ∙ c.add_zero r.zero

-- the quotient of monomials of code
pub product_is : (n : ℕ) (t a q : Exp) → IsProduct t.e q.e a.e → exp_of n t ≡ plus (exps n) (exp_of n a) (exp_of n q)
product_is n t a q p = exp_of-product n a q t (λ i. p i ∙ (let e : get_or q.e i 0 + get_or a.e i 0 ≡ get_or a.e i 0 + get_or q.e i 0 = omega arith in e))

-- what a does not divide is no multiple of a
pub divides_if : (n : ℕ) (t a : Exp) → IsIn n a.e → (q : ExpList n) → exp_of n t ≡ plus (exps n) (exp_of n a) q → Divides a.e t.e
divides_if n t a unused q e i = step (cases_lt i n)
  where
    step : (i < n) ⊎ (n ≤ i) → get_or a.e i 0 ≤ get_or t.e i 0
    step (inl h) =
        let p = ExpLaws.at-plus (exps n) (exps_are n) (exp_of n a) q i h in
        let s = ap (λ z. (exps n).at z i) e in
        let x = at-exp_of n t i h in
        let y = at-exp_of n a i h in
        omega arith
    step (inr h) = let z = unused i h in omega arith

-- a quotient has no other variables
pub quotient_in : (n : ℕ) (t a q : List ℕ) → IsProduct t q a → IsIn n t → IsIn n q
quotient_in n t a q p unused i h = let e = p i in let z = unused i h in omega arith
