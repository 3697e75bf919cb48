-- Terms in two variables that stand in the monomial order, and what the moves of a finish put by them.
use Rattle.std.proofs.Common.{◌≡◌, ℕ, zero, suc, ◌+◌, ◌≤◌, true, cond, eqb, ne_eqb, List, [], ◌∷◌, get_or, sum, All, refl, sym, ap, ap₂, subst, ◌∙◌, arith}
use Rattle.ring_theory.specs.Scalars.{Meaning}
use Rattle.poly_law.specs.Exps.{degree, variable}
use Rattle.poly_law.specs.ExpList.{ExpList, exps}
use Rattle.poly_law.specs.Polynomials.{Polynomial}
use Rattle.poly_law.proofs.ExpLists.{exps_are}
use Rattle.poly_law.proofs.ExpLaws
use Rattle.mono_exp.specs.declared.exponent.Exp.{Exp}
use Rattle.mono_exp.specs.Exponents.{IsIn, is_before}
use Rattle.jet_law.specs.Canonical.{monomial_in}
use Rattle.jet_law.specs.Terms.{exp_of, poly_of}
use Rattle.jet_law.proofs.TermLemmas.{degree-exp_of}
use Rattle.jet_poly.specs.JetTerms.{JetTerms}
use Rattle.jet_poly.proofs.Output.{to-all}
use Rattle.move_law.specs.Patterns.{two}
use Rattle.kill_table.specs.Moves.{IsPutFor}
use Rattle.rules_corank2.specs.Ordered.{AreOrdered}
use Rattle.rules_corank2.proofs.FinishChoices.{two_in, two_is}

-- the exponents of x^i y^k as the program has them
abbrev pub places : ℕ → ℕ → List ℕ
places i k = i ∷ k ∷ 0 ∷ 0 ∷ 0 ∷ 0 ∷ 0 ∷ 0 ∷ []

-- what holds of each of a few
pub each_1 : {X : Type 0} (P : X → Type 0) (x : X) → P x → All P (x ∷ [])
each_1 P x p = to-all P (x ∷ []) (p, tt)

pub each_2 : {X : Type 0} (P : X → Type 0) (x y : X) → P x → P y → All P (x ∷ y ∷ [])
each_2 P x y p q = to-all P (x ∷ y ∷ []) (p, (q, tt))

pub each_3 : {X : Type 0} (P : X → Type 0) (x y z : X) → P x → P y → P z → All P (x ∷ y ∷ z ∷ [])
each_3 P x y z p q r = to-all P (x ∷ y ∷ z ∷ []) (p, (q, (r, tt)))

-- two monomials as the program has them
pub before : (a b : Exp) (i k p q : ℕ) → a.e ≡ places i k → b.e ≡ places p q → is_before (places i k) (places p q) ≡ true → is_before a.e b.e ≡ true
before a b i k p q ea eb h = ap₂ is_before ea eb ∙ h

pub sum_places : (a : Exp) (i k : ℕ) → a.e ≡ places i k → sum a.e ≡ i + k
sum_places a i k e = ap sum e ∙ (let q : 0 + i + k + 0 + 0 + 0 + 0 + 0 + 0 ≡ i + k = omega arith in q)

-- x and y
none_past : (j : ℕ) → get_or {A = ℕ} [] j 0 ≡ 0
none_past zero = refl
none_past (suc j) = refl

x_at : (j : ℕ) → get_or (two 1 0) j 0 ≡ cond (eqb j 0) 1 0
x_at zero = refl
x_at (suc zero) = refl
x_at (suc (suc j)) = none_past j ∙ ap (λ b. cond {A = ℕ} b 1 0) (sym (ne_eqb (suc (suc j)) 0 (λ e. omega arith)))

y_at : (j : ℕ) → get_or (two 0 1) j 0 ≡ cond (eqb j 1) 1 0
y_at zero = refl
y_at (suc zero) = refl
y_at (suc (suc j)) = none_past j ∙ ap (λ b. cond {A = ℕ} b 1 0) (sym (ne_eqb (suc (suc j)) 1 (λ e. omega arith)))

pub x_is : (n : ℕ) → monomial_in n (two 1 0) ≡ variable (exps n) 0
x_is n = (exps_are n).same_at (monomial_in n (two 1 0)) (variable (exps n) 0) (λ j h. (exps_are n).at_make (λ j. get_or (two 1 0) j 0) j h ∙ x_at j ∙ sym (ExpLaws.at-variable (exps n) (exps_are n) 0 j h))

pub y_is : (n : ℕ) → monomial_in n (two 0 1) ≡ variable (exps n) 1
y_is n = (exps_are n).same_at (monomial_in n (two 0 1)) (variable (exps n) 1) (λ j h. (exps_are n).at_make (λ j. get_or (two 0 1) j 0) j h ∙ y_at j ∙ sym (ExpLaws.at-variable (exps n) (exps_are n) 1 j h))

pub degree-two : (n i k : ℕ) → 2 ≤ n → degree (exps n) (monomial_in n (two i k)) ≡ i + k
degree-two n i k h =
    let a : Exp = record { e = places i k } in
    sym (ap (degree (exps n)) (two_is n i k a refl)) ∙ degree-exp_of n a (two_in n i k a refl h) ∙ sum_places a i k refl

-- ---- what the moves put

module _ {E V : Type 0} (m : Meaning E V) (n : ℕ) where
  -- a term of the program
  pub term_is : (a : Exp) (i k : ℕ) → a.e ≡ places i k → (c : E) (v : V) → m.value c ≡ v → ◌≡◌ {A = ExpList n × V} (exp_of n a, m.value c) (monomial_in n (two i k), v)
  term_is a i k e c v q = ap₂ (λ x y. (x, y)) (two_is n i k a e) q

  pub x_term : (a : Exp) → a.e ≡ places 1 0 → (c : E) → m.value c ≡ m.scalars.ops.one → ◌≡◌ {A = ExpList n × V} (exp_of n a, m.value c) (variable (exps n) 0, m.scalars.ops.one)
  x_term a e c q = ap₂ (λ x y. (x, y)) (two_is n 1 0 a e ∙ x_is n) q

  pub y_term : (a : Exp) → a.e ≡ places 0 1 → (c : E) → m.value c ≡ m.scalars.ops.one → ◌≡◌ {A = ExpList n × V} (exp_of n a, m.value c) (variable (exps n) 1, m.scalars.ops.one)
  y_term a e c q = ap₂ (λ x y. (x, y)) (two_is n 0 1 a e ∙ y_is n) q

-- ---- such terms in the monomial order

module _ {E V : Type 0} (m : Meaning E V) (n o : ℕ) (wide : 2 ≤ n) where
  -- a valid term x^i y^k
  pub record IsPlaneTerm (i k : ℕ) (t : Exp × E) : Type 0 where
    pub exponents : t.0.e ≡ places i k
    pub low : i + k ≤ o
    pub elem : m.is_elem t.1

  inside : (i k : ℕ) (t : Exp × E) → IsPlaneTerm i k t → IsIn n t.0.e
  inside i k t is = two_in n i k t.0 is.exponents wide

  within : (i k : ℕ) (t : Exp × E) → IsPlaneTerm i k t → sum t.0.e ≤ o
  within i k t is = let e = sum_places t.0 i k is.exponents in let h = is.low in omega arith

  pub ordered_1 : (i k : ℕ) (t : Exp × E) → IsPlaneTerm i k t → AreOrdered m n o (t ∷ [])
  ordered_1 i k t is = record {
    elems = each_1 (λ t. m.is_elem t.1) t is.elem;
    variables = each_1 (λ t. IsIn n t.0.e) t (inside i k t is);
    degrees = each_1 (λ t. sum t.0.e ≤ o) t (within i k t is);
    rising = (tt, tt);
  }

  pub ordered_2 : (i k i' k' : ℕ) (t t' : Exp × E) → IsPlaneTerm i k t → IsPlaneTerm i' k' t' → is_before (places i k) (places i' k') ≡ true → AreOrdered m n o (t ∷ t' ∷ [])
  ordered_2 i k i' k' t t' is is' b = record {
    elems = each_2 (λ t. m.is_elem t.1) t t' is.elem is'.elem;
    variables = each_2 (λ t. IsIn n t.0.e) t t' (inside i k t is) (inside i' k' t' is');
    degrees = each_2 (λ t. sum t.0.e ≤ o) t t' (within i k t is) (within i' k' t' is');
    rising = ((before t.0 t'.0 i k i' k' is.exponents is'.exponents b, tt), (tt, tt));
  }

  pub ordered_3 : (i k i' k' p q : ℕ) (t t' u : Exp × E) → IsPlaneTerm i k t → IsPlaneTerm i' k' t' → IsPlaneTerm p q u → is_before (places i k) (places i' k') ≡ true
      → is_before (places i k) (places p q) ≡ true → is_before (places i' k') (places p q) ≡ true → AreOrdered m n o (t ∷ t' ∷ u ∷ [])
  ordered_3 i k i' k' p q t t' u is is' iu b d f = record {
    elems = each_3 (λ t. m.is_elem t.1) t t' u is.elem is'.elem iu.elem;
    variables = each_3 (λ t. IsIn n t.0.e) t t' u (inside i k t is) (inside i' k' t' is') (inside p q u iu);
    degrees = each_3 (λ t. sum t.0.e ≤ o) t t' u (within i k t is) (within i' k' t' is') (within p q u iu);
    rising = ((before t.0 t'.0 i k i' k' is.exponents is'.exponents b, (before t.0 u.0 i k p q is.exponents iu.exponents d, tt)), ((before t'.0 u.0 i' k' p q is'.exponents iu.exponents f, tt), (tt, tt)));
  }

-- the jet of terms, in the variables and of the order that these are
pub put_at : {E V : Type 0} (m : Meaning E V) (n o n' o' : ℕ) → n' ≡ n → o' ≡ o → (ts : List (Exp × E)) (f : Polynomial n V) → poly_of n m.value ts ≡ f → (p : JetTerms E)
    → IsPutFor m n' o' (poly_of n' m.value ts) p → IsPutFor m n o f p
put_at m n o n' o' en eo ts f e p is =
    subst (λ z. IsPutFor m n o z p) e (subst (λ z. IsPutFor m n z (poly_of n m.value ts) p) eo (subst (λ z. IsPutFor m z o' (poly_of z m.value ts) p) en is))
