-- The exponents of the product of two variables.
use Rattle.std.proofs.Common.{◌≡◌, ℕ, suc, ◌+◌, ◌<◌, Bool, true, false, cond, ◌||◌, eqb, eqb-true, eq-eqb, get_or, ap, ap₂, sym, ◌∙◌, refl, arith}
use Rattle.std.proofs.lemmas.List.{get_or-map}
use Rattle.ring_theory.specs.Scalars.{Scalars, ScalarLaws}
use Rattle.poly_law.specs.Sums.{multiple}
use Rattle.poly_law.specs.Exps.{variable, degree, plus}
use Rattle.poly_law.specs.ExpList.{exps}
use Rattle.poly_law.specs.Poly.{coefficient, derivative}
use Rattle.poly_law.specs.Polynomials.{Polynomial}
use Rattle.poly_law.proofs.ExpLists.{exps_are}
use Rattle.poly_law.proofs.ExpLaws
use Rattle.poly_law.proofs.Place
use Rattle.poly_law.proofs.Sums.{eqb_swap}
use Rattle.mono_exp.specs.Exponents.{numbers_below}
use Rattle.mono_exp.proofs.Lists.{length-numbers_below, get_or-numbers_below}
use Rattle.jet_law.specs.Canonical.{monomial_in}
use Rattle.coord_change.specs.Moves.{at}
use Rattle.move_law.specs.Moves.{pair_exponents}

-- the exponent of x(k) in x(i) x(j)
abbrev pub exponent : ℕ → ℕ → ℕ → ℕ
exponent i j k = cond (eqb i j) (cond (eqb k i) 2 0) (cond (eqb k i || eqb k j) 1 0)

-- the exponents of the list
at_pair : (n i j k : ℕ) → k < n → get_or (pair_exponents n i j) k 0 ≡ exponent i j k
at_pair n i j k h = get_or-map (exponent i j) (numbers_below n) k 0 0 (let l = length-numbers_below n in omega arith) ∙ ap (exponent i j) (get_or-numbers_below n k 0 h)

-- the exponents of the monomial
pub at_monomial : (n i j k : ℕ) → k < n → get_or (monomial_in n (pair_exponents n i j)).entries k 0 ≡ exponent i j k
at_monomial n i j k h = (exps_are n).at_make (λ k. get_or (pair_exponents n i j) k 0) k h ∙ at_pair n i j k h

-- the exponents are those of x(i) and x(j) together
pub adds_up : (i j k : ℕ) → cond {A = ℕ} (eqb k i) 1 0 + cond {A = ℕ} (eqb k j) 1 0 ≡ exponent i j k
adds_up i j k = step (eqb k i) (eqb k j) (eqb i j) refl refl refl
  where
    bad : {a b : Bool} → a ≡ true → b ≡ false → a ≡ b → ⊥
    bad p q e = let z : true ≡ false = sym p ∙ e ∙ q in cc z

    step : (a b d : Bool) → eqb k i ≡ a → eqb k j ≡ b → eqb i j ≡ d → cond {A = ℕ} a 1 0 + cond {A = ℕ} b 1 0 ≡ cond d (cond a 2 0) (cond (a || b) 1 0)
    step true true true p q e = refl
    step true true false p q e = let z : true ≡ false = sym (eq-eqb i j (sym (eqb-true k i p) ∙ eqb-true k j q)) ∙ e in absurd (cc z)
    step true false true p q e = let z : true ≡ false = sym (eq-eqb k j (eqb-true k i p ∙ eqb-true i j e)) ∙ q in absurd (cc z)
    step true false false p q e = refl
    step false true true p q e = let z : true ≡ false = sym (eq-eqb k i (eqb-true k j q ∙ sym (eqb-true i j e))) ∙ p in absurd (cc z)
    step false true false p q e = refl
    step false false true p q e = refl
    step false false false p q e = refl

-- x(i) x(j) is the product of the variables
pub pair_is : (n i j : ℕ) → plus (exps n) (variable (exps n) i) (variable (exps n) j) ≡ monomial_in n (pair_exponents n i j)
pair_is n i j = (exps_are n).same_at (plus (exps n) (variable (exps n) i) (variable (exps n) j)) (monomial_in n (pair_exponents n i j)) λ k h.
    ExpLaws.at-plus (exps n) (exps_are n) (variable (exps n) i) (variable (exps n) j) k h
    ∙ ap₂ (λ y z. y + z) (ExpLaws.at-variable (exps n) (exps_are n) i k h) (ExpLaws.at-variable (exps n) (exps_are n) j k h)
    ∙ adds_up i j k ∙ sym (at_monomial n i j k h)

-- ---- second partials

module _ {V : Type 0} (n : ℕ) (s : Scalars V) (laws : ScalarLaws s) where
  -- the second partial at 0 in x(i) and x(j): the coefficient of x(i) x(j), and twice that of x(i)^2
  pub second_is : (f : Polynomial n V) (i j : ℕ) → i < n → j < n
      → coefficient (exps n) s.ops (derivative (exps n) s.ops i f) (variable (exps n) j) ≡ multiple s.ops (suc (cond (eqb i j) 1 0)) (at n s f (pair_exponents n i j))
  second_is f i j hi hj =
      Place.coefficient-derivative (exps n) (exps_are n) s.ops laws.ring i hi f (variable (exps n) j)
      ∙ ap₂ (λ k m. multiple s.ops (suc k) (coefficient (exps n) s.ops f m)) (ExpLaws.at-variable (exps n) (exps_are n) j i hi)
      (ExpLaws.plus_comm (exps n) (exps_are n) (variable (exps n) j) (variable (exps n) i) ∙ pair_is n i j)

  -- x(i) x(j) is x(j) x(i)
  pub pair_symmetric : (i j : ℕ) → monomial_in n (pair_exponents n i j) ≡ monomial_in n (pair_exponents n j i)
  pair_symmetric i j = sym (pair_is n i j) ∙ ExpLaws.plus_comm (exps n) (exps_are n) (variable (exps n) i) (variable (exps n) j) ∙ pair_is n j i

  -- second partials do not depend on the order of the variables
  pub second_symmetric : (f : Polynomial n V) (i j : ℕ) → i < n → j < n
      → coefficient (exps n) s.ops (derivative (exps n) s.ops i f) (variable (exps n) j) ≡ coefficient (exps n) s.ops (derivative (exps n) s.ops j f) (variable (exps n) i)
  second_symmetric f i j hi hj =
      second_is f i j hi hj ∙ ap₂ (λ b m. multiple s.ops (suc (cond b 1 0)) (coefficient (exps n) s.ops f m)) (eqb_swap i j) (pair_symmetric i j) ∙ sym (second_is f j i hj hi)

  -- x(i) x(j) has degree 2
  pub pair_degree : (i j : ℕ) → i < n → j < n → degree (exps n) (monomial_in n (pair_exponents n i j)) ≡ 2
  pair_degree i j hi hj =
      ap (degree (exps n)) (sym (pair_is n i j)) ∙ ExpLaws.degree-plus (exps n) (exps_are n) (variable (exps n) i) (variable (exps n) j)
      ∙ ap₂ (λ y z. y + z) (ExpLaws.degree-variable (exps n) (exps_are n) i hi) (ExpLaws.degree-variable (exps n) (exps_are n) j hj)
