-- The coefficients at the monomials of a family's sum, read in all terms.
use Rattle.std.proofs.Common.{◌≡◌, ℕ, zero, suc, ◌+◌, ◌<◌, ◌≤◌, Bool, true, false, cond, ◌&&◌, List, [], ◌∷◌, ◌++◌, length, map, take, get_or, sum, append_assoc, eqb-true, refl, sym, ap, ap₂, ◌∙◌, arith, add-one}
use Rattle.std.proofs.lemmas.List.{map-append, take_more}
use Rattle.std.specs.Prelude.{◌==◌}
use Rattle.std.specs.List.{list_all, AllByRecursion}
use Rattle.ring_theory.specs.Ring.{RingOps, IsCommRing}
use Rattle.ring_theory.specs.Scalars.{Meaning}
use Rattle.poly_law.specs.Exps.{same}
use Rattle.poly_law.specs.ExpList.{exps}
use Rattle.poly_law.specs.Poly.{coefficient}
use Rattle.poly_law.proofs.ExpLists.{exps_are}
use Rattle.poly_law.proofs.ExpLaws
use Rattle.poly_law.proofs.Sums
use Rattle.mono_exp.specs.declared.exponent.Exp.{Exp}
use Rattle.mono_exp.specs.Exponents.{IsIn, monomials_of}
use Rattle.mono_exp.proofs.Lists.{sum-cons}
use Rattle.jet_law.specs.Terms.{exp_of, poly_of}
use Rattle.jet_law.specs.Canonical.{monomial_in}
use Rattle.jet_law.proofs.TermLemmas.{at-exp_of}
use Rattle.jet_poly.proofs.Coefficients.{coefficient-in}
use Rattle.jet_poly.proofs.Output.{to-all}
use Rattle.normal_forms.specs.declared.family.Family.{Family}
use Rattle.normal_forms.specs.declared.family.Family.TheVariants as families
use Rattle.normal_forms.specs.Monomials.{in_eight, is_residual, residual_terms, numbers_below}
use Rattle.normal_forms.specs.Families.{corank_of, sum_of}
use Rattle.normal_forms.specs.Coefficients.{coefficients_in_sum}
use Rattle.normal_forms.proofs.Padded.{in_eight-in, exp_of-in_eight}
use Rattle.normal_forms.proofs.Residual.{residual_in, coefficient-residual}

-- the sum of P8 has all monomials of degree 3 in three variables
pub sum_of-P8 : sum_of families.P8 ≡ monomials_of 3 3
unfolding monomials_of
sum_of-P8 = refl

-- and that of X9 all of degree 4 in two
pub sum_of-X9 : sum_of families.X9 ≡ monomials_of 2 4
unfolding monomials_of
sum_of-X9 = refl

-- each monomial of the sum has as many exponents as the corank
abbrev are_long : ℕ → List (List ℕ) → Bool
are_long c es = list_all (λ e. length e == c) es

pub sum_long : (f : Family) → are_long (corank_of f) (sum_of f) ≡ true
sum_long (families.A m) = step (m == 1)
  where
    step : (b : Bool) → are_long (cond b 0 1) (cond b [] (((m + 1) ∷ []) ∷ [])) ≡ true
    step true = refl
    step false = refl
sum_long (families.T p q r) = step (p == 2) (q == 3) (q == 4)
  where
    step : (a b d : Bool) → are_long (cond a 2 3) (cond a (cond b ((3 ∷ 0 ∷ []) ∷ (2 ∷ 2 ∷ []) ∷ (0 ∷ r ∷ []) ∷ []) (cond d ((4 ∷ 0 ∷ []) ∷ (2 ∷ 2 ∷ []) ∷ (0 ∷ r ∷ []) ∷ []) ((2 ∷ 2 ∷ []) ∷ (q ∷ 0 ∷ []) ∷ (0 ∷ r ∷ []) ∷ [])))
        ((1 ∷ 1 ∷ 1 ∷ []) ∷ (p ∷ 0 ∷ 0 ∷ []) ∷ (0 ∷ q ∷ 0 ∷ []) ∷ (0 ∷ 0 ∷ r ∷ []) ∷ [])) ≡ true
    step true true d = refl
    step true false true = refl
    step true false false = refl
    step false b d = refl
sum_long _ = refl

pub corank_small : (f : Family) → corank_of f ≤ 3
corank_small (families.A m) = step (m == 1)
  where
    step : (b : Bool) → cond b 0 1 ≤ 3
    step true = omega arith
    step false = omega arith
corank_small (families.T p q r) = step (p == 2)
  where
    step : (b : Bool) → cond b 2 3 ≤ 3
    step true = omega arith
    step false = omega arith
corank_small _ = omega arith

-- ---- terms of a jet

entry_within : (e : List ℕ) (i : ℕ) → get_or e i 0 ≤ sum e
entry_within [] i = omega arith
entry_within (x ∷ xs) zero = let t = sum-cons x xs in omega (arith, t)
entry_within (x ∷ xs) (suc i) = let h = entry_within xs i in let t = sum-cons x xs in omega (arith, h, t)

module _ {E V : Type 0} (m : Meaning E V) (laws : IsCommRing m.scalars.ops) where
  abbrev r : RingOps V
  r = m.scalars.ops

  kept : (P : Exp × E → Type 0) (c : ℕ) (terms : List (Exp × E)) → AllByRecursion P terms → AllByRecursion (λ t. P t × IsIn c t.0.e) (residual_terms c terms)
  unfolding residual_terms
  kept P c [] all = tt
  kept P c (t ∷ ts) all = step (is_residual c t.0) refl (kept P c ts all.1)
    where
      step : (b : Bool) → is_residual c t.0 ≡ b → AllByRecursion (λ t. P t × IsIn c t.0.e) (residual_terms c ts) → AllByRecursion (λ t. P t × IsIn c t.0.e) (cond b (t ∷ residual_terms c ts) (residual_terms c ts))
      step true e rest = ((all.0, residual_in c t.0 e), rest)
      step false e rest = rest

  all_second : (P : Exp × E → Type 0) (c : ℕ) (terms : List (Exp × E)) → AllByRecursion (λ t. P t × IsIn c t.0.e) terms → AllByRecursion (λ t. IsIn c t.0.e) terms
  all_second P c [] all = tt
  all_second P c (t ∷ ts) all = (all.0.1, all_second P c ts all.1)

  all_first : (P : Exp × E → Type 0) (c : ℕ) (terms : List (Exp × E)) → AllByRecursion (λ t. P t × IsIn c t.0.e) terms → AllByRecursion P terms
  all_first P c [] all = tt
  all_first P c (t ∷ ts) all = (all.0.0, all_first P c ts all.1)

  module _ (terms : List (Exp × E)) (eight : AllByRecursion (λ t. IsIn 8 t.0.e) terms) where
    abbrev read_in : Exp → V
    read_in a = coefficient (exps 8) r (poly_of 8 m.value terms) (exp_of 8 a)

    -- the coefficient of the residual part at one monomial
    at_one : (c : ℕ) (e : List ℕ) → c ≤ 8 → length e ≡ c → read_in (in_eight e) ≡ coefficient (exps c) r (poly_of c m.value (residual_terms c terms)) (monomial_in c e)
    at_one c e few long =
        coefficient-residual r laws m.value c (in_eight e) (in_eight-in c e (omega arith)) (in_eight-in 8 e (omega arith)) terms eight
        ∙ coefficient-in r laws m.value (in_eight e) c (residual_terms c terms) few
        (to-all (λ t. IsIn c t.0.e) (residual_terms c terms) (all_second (λ t. IsIn 8 t.0.e) c (residual_terms c terms) (kept (λ t. IsIn 8 t.0.e) c terms eight))) (in_eight-in c e (omega arith))
        ∙ ap (coefficient (exps c) r (poly_of c m.value (residual_terms c terms))) (exp_of-in_eight c e few)

    at_all : (c : ℕ) (es : List (List ℕ)) → c ≤ 8 → are_long c es ≡ true
        → map read_in (map in_eight es) ≡ map (λ e. coefficient (exps c) r (poly_of c m.value (residual_terms c terms)) (monomial_in c e)) es
    at_all c [] few long = refl
    at_all c (e ∷ es) few long =
        ap₂ (λ (v : V) vs. v ∷ vs) (at_one c e few (eqb-true (length e) c (first (length e == c) (are_long c es) long))) (at_all c es few (second (length e == c) (are_long c es) long))
      where
        first : (a b : Bool) → (a && b) ≡ true → a ≡ true
        first true b h = refl
        first false b h = h

        second : (a b : Bool) → (a && b) ≡ true → b ≡ true
        second true b h = h
        second false b h = absurd cc

    -- the coefficients at the monomials of the sum are those that are read at them
    pub sum_is_read : (family : Family) → map read_in (map in_eight (sum_of family)) ≡ coefficients_in_sum m family (corank_of family) terms
    sum_is_read family = at_all (corank_of family) (sum_of family) (let h = corank_small family in omega arith) (sum_long family)

  -- x^256 is in no jet of order at most 17
  absent : (terms : List (Exp × E)) → AllByRecursion (λ t. sum t.0.e ≤ 17) terms → coefficient (exps 1) r (poly_of 1 m.value terms) (monomial_in 1 (256 ∷ [])) ≡ r.zero
  absent [] all = refl
  absent (t ∷ ts) all =
      ap (λ b. r.add (cond b (m.value t.1) r.zero) (coefficient (exps 1) r (poly_of 1 m.value ts) (monomial_in 1 (256 ∷ [])))) differs
      ∙ Sums.zero_add r laws (coefficient (exps 1) r (poly_of 1 m.value ts) (monomial_in 1 (256 ∷ []))) ∙ absent ts all.1
    where
      differs : same (exps 1) (exp_of 1 t.0) (monomial_in 1 (256 ∷ [])) ≡ false
      differs = ExpLaws.same-no (exps 1) (exps_are 1) (exp_of 1 t.0) (monomial_in 1 (256 ∷ [])) λ e.
          let there : get_or t.0.e 0 0 ≡ 256 = sym (at-exp_of 1 t.0 0 (omega arith)) ∙ ap (λ z. (exps 1).at z 0) e in
          let low = entry_within t.0.e 0 in
          let small = all.0 in
          omega arith

  pub none_at_256 : (terms : List (Exp × E)) → AllByRecursion (λ t. sum t.0.e ≤ 17) terms → r.zero ∷ [] ≡ coefficients_in_sum m (families.A 255) 1 terms
  none_at_256 terms all = ap (λ (v : V). v ∷ []) (sym (absent (residual_terms 1 terms) (all_first (λ t. sum t.0.e ≤ 17) 1 (residual_terms 1 terms) (kept (λ t. sum t.0.e ≤ 17) 1 terms all))))

-- ---- one value more

pub map-push : {X Y : Type 0} (f : X → Y) (xs ys : List X) (x : X) → ys ≡ xs ++ x ∷ [] → map f ys ≡ map f xs ++ f x ∷ []
map-push f xs ys x e = ap (map f) e ∙ map-append f xs (x ∷ [])

-- a loop that reads a list
pub taken-push : {X Y Z : Type 0} (value : Z → Y) (f : X → Y) (xs : List X) (i : ℕ) (d : X) (olds news : List Z) (z : Z) → i < length xs → news ≡ olds ++ z ∷ [] → map value olds ≡ map f (take i xs)
    → value z ≡ f (get_or xs i d) → map value news ≡ map f (take (i + 1) xs)
taken-push value f xs i d olds news z h e so_far at =
    map-push value olds news z e ∙ ap₂ (λ ys y. ys ++ y ∷ []) so_far at ∙ sym (ap (map f) (take_more xs i d h) ∙ map-append f (take i xs) (get_or xs i d ∷ []))

-- a loop that counts
pub numbers-push : {Y Z : Type 0} (value : Z → Y) (f : ℕ → Y) (k : ℕ) (start : List Y) (olds news : List Z) (z : Z) → news ≡ olds ++ z ∷ [] → map value olds ≡ start ++ map f (numbers_below k)
    → value z ≡ f k → map value news ≡ start ++ map f (numbers_below (k + 1))
numbers-push value f k start olds news z e so_far at =
    rw add-one
    (map-push value olds news z e ∙ ap₂ (λ ys y. ys ++ y ∷ []) so_far at ∙ append_assoc start (map f (numbers_below k)) (f k ∷ [])
    ∙ ap (λ ys. start ++ ys) (sym (map-append f (numbers_below k) (k ∷ []))))
