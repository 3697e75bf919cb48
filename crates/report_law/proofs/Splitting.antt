-- A printed jet that passes the test of a split one is split: its residual part has its coefficients, and the other monomials are squares.
use Rattle.std.proofs.Common.{◌≡◌, ℕ, zero, suc, ◌+◌, ◌<◌, ◌≤◌, ◌⊎◌, inl, inr, Bool, true, false, cond, ◌&&◌, ◌||◌, List, [], ◌∷◌, length, drop, get_or, sum, eqb, eqb-true, eq-eqb, ltb, lt-ltb, le-ltb, refl, sym, ap, ap₂, subst, ◌∙◌, true≢false, zero-le, arith}
use Rattle.std.specs.Prelude.{◌==◌}
use Rattle.std.specs.List.{list_all, list_any}
use Rattle.ring_theory.specs.Ring.{RingOps, IsCommRing}
use Rattle.ring_law.specs.declared.fraction.Frac.{Frac}
use Rattle.poly_law.specs.Exps.{Exps, same, variable}
use Rattle.poly_law.specs.ExpList.{ExpList, exps}
use Rattle.poly_law.specs.Poly.{coefficient, place, square, IsSplit}
use Rattle.poly_law.proofs.ExpLists.{exps_are}
use Rattle.poly_law.proofs.ExpLaws as exp_laws
use Rattle.ext_algebra.specs.declared.algebra.Algebra.{Algebra}
use Rattle.ext_algebra.specs.declared.algebra.Ext.{Ext}
use Rattle.ext_algebra.specs.Algebra.{Value, ops, value_in}
use Rattle.mono_exp.specs.declared.exponent.Exp.{Exp}
use Rattle.mono_exp.proofs.Lists.{sum-cons}
use Rattle.line_syntax.proofs.Bools.{and_left, and_right, or_other}
use Rattle.normal_forms.specs.Monomials.{is_residual, is_square, is_split, residual_terms, monomials_in, is_one_of, square_of, square_variables}
use Rattle.cert_text.specs.WellFormed.{is_monomial_in}
use Rattle.jet_law.specs.Canonical.{monomial_in}
use Rattle.report_law.specs.Polynomials.{terms_in, residual_part}

abbrev is_zero : ℕ → Bool
is_zero e = e == 0

-- an exponent past the first c is 0, where all of these are
pub zero_past : (c : ℕ) (m : List ℕ) → list_all is_zero (drop c m) ≡ true → (i : ℕ) → c ≤ i → get_or m i 0 ≡ 0
zero_past c [] e i h = refl
zero_past zero (z ∷ zs) e zero h = eqb-true z 0 (and_left (is_zero z) (list_all is_zero zs) e)
zero_past zero (z ∷ zs) e (suc i) h = zero_past zero zs (and_right (is_zero z) (list_all is_zero zs) e) i (zero-le)
zero_past (suc c) (z ∷ zs) e zero h = absurd (omega arith)
zero_past (suc c) (z ∷ zs) e (suc i) h = zero_past c zs e i (omega arith)

-- two tests that hold
pub and_both : (a b : Bool) → a ≡ true → b ≡ true → (a && b) ≡ true
and_both true b e f = f
and_both false b e f = e

-- and the other way round
pub all_zero_past : (c : ℕ) (m : List ℕ) → ((i : ℕ) → c ≤ i → get_or m i 0 ≡ 0) → list_all is_zero (drop c m) ≡ true
all_zero_past zero [] h = refl
all_zero_past (suc c) [] h = refl
all_zero_past zero (z ∷ zs) h = and_both (is_zero z) (list_all is_zero zs) (eq-eqb z 0 (h 0 (omega arith))) (all_zero_past zero zs (λ i g. h (suc i) (omega arith)))
all_zero_past (suc c) (z ∷ zs) h = all_zero_past c zs (λ i g. h (suc i) (omega arith))

two_past : (c : ℕ) (m : List ℕ) → list_any (λ e. e == 2) (drop c m) ≡ true → (w : ℕ) × (c ≤ w) × (get_or m w 0 ≡ 2)
two_past zero [] e = absurd (true≢false (sym e))
two_past (suc c) [] e = absurd (true≢false (sym e))
two_past zero (z ∷ zs) e =
    let step : (b : Bool) → (z == 2) ≡ b → (w : ℕ) × (0 ≤ w) × (get_or (z ∷ zs) w 0 ≡ 2) = elim [
      | true ↦ λ k. (0, omega arith, eqb-true z 2 k)
      | false ↦ λ k. let rest = two_past zero zs (or_other (z == 2) (list_any (λ e. e == 2) zs) e k) in (suc rest.0, omega arith, rest.2)
    ] in step (z == 2) refl
two_past (suc c) (z ∷ zs) e = let rest = two_past c zs e in (suc rest.0, let h = rest.1 in omega arith, rest.2)

entry_within : (m : List ℕ) (i : ℕ) → get_or m i 0 ≤ sum m
entry_within [] i = omega arith
entry_within (z ∷ zs) zero = let t = sum-cons z zs in omega (arith, t)
entry_within (z ∷ zs) (suc i) = let h = entry_within zs i in let t = sum-cons z zs in omega (arith, h, t)

two_within : (m : List ℕ) (i w : ℕ) → (i ≡ w → ⊥) → get_or m i 0 + get_or m w 0 ≤ sum m
two_within [] i w h = omega arith
two_within (z ∷ zs) zero zero h = absurd (h refl)
two_within (z ∷ zs) zero (suc w) h = let g = entry_within zs w in let t = sum-cons z zs in omega (arith, g, t)
two_within (z ∷ zs) (suc i) zero h = let g = entry_within zs i in let t = sum-cons z zs in omega (arith, g, t)
two_within (z ∷ zs) (suc i) (suc w) h = let g = two_within zs i w (λ e. h (ap suc e)) in let t = sum-cons z zs in omega (arith, g, t)

before_or_past : (i n : ℕ) → (i < n) ⊎ (n ≤ i)
before_or_past i n = grind arith

module _ (n c : ℕ) (within : c ≤ n) (a : Algebra) (laws : IsCommRing (ops a)) where
  abbrev x : Exps (ExpList n)
  x = exps n

  abbrev y : Exps (ExpList c)
  y = exps c

  abbrev r : RingOps (Value a)
  r = ops a

  abbrev placed_at : ExpList c → ExpList n
  placed_at b = place x y r b

  at_in : (k : ℕ) (m : List ℕ) (i : ℕ) → i < k → (exps k).at (monomial_in k m) i ≡ get_or m i 0
  at_in k m i h = (exps_are k).at_make (λ i. get_or m i 0) i h

  at_place : (b : ExpList c) (i : ℕ) → i < n → x.at (placed_at b) i ≡ cond (ltb i c) (y.at b i) 0
  at_place b i h = (exps_are n).at_make (λ i. cond (ltb i c) (y.at b i) 0) i h

  placed : (m : Exp) → is_residual c m ≡ true → monomial_in n m.e ≡ placed_at (monomial_in c m.e)
  placed m e = (exps_are n).same_at (monomial_in n m.e) (placed_at (monomial_in c m.e)) λ i h.
      at_in n m.e i h ∙ elim (before_or_past i c) [
        | inl g ↦ sym (at_in c m.e i g) ∙ sym (ap (λ b. cond b (y.at (monomial_in c m.e) i) 0) (lt-ltb i c g)) ∙ sym (at_place (monomial_in c m.e) i h)
        | inr g ↦ zero_past c m.e e i g ∙ sym (ap (λ b. cond b (y.at (monomial_in c m.e) i) 0) (le-ltb i c g)) ∙ sym (at_place (monomial_in c m.e) i h)
      ]

  unplaced : (m : List ℕ) (b : ExpList c) → monomial_in n m ≡ placed_at b → monomial_in c m ≡ b
  unplaced m b e = (exps_are c).same_at (monomial_in c m) b λ i h.
      at_in c m i h ∙ sym (at_in n m i (omega arith)) ∙ ap (λ z. x.at z i) e ∙ at_place b i (omega arith) ∙ ap (λ t. cond t (y.at b i) 0) (lt-ltb i c h)

  residual_if_placed : (m : Exp) → is_monomial_in n m ≡ true → (b : ExpList c) → monomial_in n m.e ≡ placed_at b → is_residual c m ≡ true
  residual_if_placed m k b e = all_zero_past c m.e λ i h. elim (before_or_past i n) [
    | inl g ↦ sym (at_in n m.e i g) ∙ ap (λ z. x.at z i) e ∙ at_place b i g ∙ ap (λ t. cond t (y.at b i) 0) (le-ltb i c h)
    | inr g ↦ zero_past n m.e (and_right (length m.e == 8) (list_all is_zero (drop n m.e)) k) i g
  ]

  same_placed : (m : Exp) → is_residual c m ≡ true → (b : ExpList c) → same y (monomial_in c m.e) b ≡ same x (monomial_in n m.e) (placed_at b)
  same_placed m e b =
      let step : (t : Bool) → same y (monomial_in c m.e) b ≡ t → same y (monomial_in c m.e) b ≡ same x (monomial_in n m.e) (placed_at b) = elim [
        | true ↦ λ k. k ∙ sym (subst (λ z. same x (monomial_in n m.e) z ≡ true) (placed m e ∙ ap placed_at (exp_laws.same-eq y (exps_are c) (monomial_in c m.e) b k)) (exp_laws.same_refl x (exps_are n) (monomial_in n m.e)))
        | false ↦ λ k. k ∙ sym (exp_laws.same-no x (exps_are n) (monomial_in n m.e) (placed_at b) λ q.
            true≢false (sym (subst (λ z. same y (monomial_in c m.e) z ≡ true) (unplaced m.e b q) (exp_laws.same_refl y (exps_are c) (monomial_in c m.e))) ∙ k))
      ] in step (same y (monomial_in c m.e) b) refl

  zero_add : (v : Value a) → r.add r.zero v ≡ v
  zero_add v = laws.add_comm r.zero v ∙ laws.add_zero v

  abbrev all_in : List (Exp × Ext Frac) → Bool
  all_in terms = list_all (λ t. is_monomial_in n t.0) terms

  residual_coef : (terms : List (Exp × Ext Frac)) → all_in terms ≡ true → (b : ExpList c) → coefficient y r (residual_part c a terms) b ≡ coefficient x r (terms_in n a terms) (placed_at b)
  unfolding terms_in residual_terms residual_part
  residual_coef [] e b = refl
  residual_coef (t ∷ ts) e b =
      let rest = residual_coef ts (and_right (is_monomial_in n t.0) (all_in ts) e) b in
      let v : Value a = value_in a t.1 in
      let split : (z : Bool) → is_residual c t.0 ≡ z → coefficient y r (residual_part c a (t ∷ ts)) b ≡ coefficient y r (terms_in c a (cond z (t ∷ residual_terms c ts) (residual_terms c ts))) b
      = λ z q. ap (λ z. coefficient y r (terms_in c a (cond z (t ∷ residual_terms c ts) (residual_terms c ts))) b) q in
      let step : (z : Bool) → is_residual c t.0 ≡ z → coefficient y r (residual_part c a (t ∷ ts)) b ≡ coefficient x r (terms_in n a (t ∷ ts)) (placed_at b) = elim [
        | true ↦ λ q. split true q ∙ ap₂ r.add (ap (λ z. cond z v r.zero) (same_placed t.0 q b)) rest
        | false ↦ λ q. split false q ∙ rest ∙ sym (zero_add (coefficient x r (terms_in n a ts) (placed_at b)))
            ∙ sym (ap (λ z. r.add (cond z v r.zero) (coefficient x r (terms_in n a ts) (placed_at b)))
            (exp_laws.same-no x (exps_are n) (monomial_in n t.0.e) (placed_at b) λ w.
            true≢false (sym (residual_if_placed t.0 (and_left (is_monomial_in n t.0) (all_in ts) e) b w) ∙ q)))
      ] in step (is_residual c t.0) refl

  squared : (m : Exp) → is_monomial_in n m ≡ true → is_square c m ≡ true → (w : ℕ) × (c ≤ w) × (w < n) × (monomial_in n m.e ≡ square x y r w)
  squared m k e =
      let found = two_past c m.e (and_right (sum m.e == 2) (list_any (λ e. e == 2) (drop c m.e)) e) in
      let w : ℕ = found.0 in
      let two : get_or m.e w 0 ≡ 2 = found.2 in
      let total : sum m.e ≡ 2 = eqb-true (sum m.e) 2 (and_left (sum m.e == 2) (list_any (λ e. e == 2) (drop c m.e)) e) in
      let below : w < n = elim (before_or_past w n) [ inl g ↦ g | inr g ↦ let z = zero_past n m.e (and_right (length m.e == 8) (list_all is_zero (drop n m.e)) k) w g in absurd (omega arith) ] in (
        w,
        found.1,
        below,
        (exps_are n).same_at (monomial_in n m.e) (square x y r w) λ i h.
            let at_square = exp_laws.at-plus x (exps_are n) (variable x w) (variable x w) i h in
            let at_one = exp_laws.at-variable x (exps_are n) w i h in
            let step : (b : Bool) → eqb i w ≡ b → get_or m.e i 0 ≡ x.at (square x y r w) i = elim [
              | true ↦ λ q. let one : x.at (variable x w) i ≡ 1 = at_one ∙ ap (λ b. cond b 1 0) q in
                  let here : get_or m.e i 0 ≡ 2 = ap (λ j. get_or m.e j 0) (eqb-true i w q) ∙ two in omega arith
              | false ↦ λ q. let none : x.at (variable x w) i ≡ 0 = at_one ∙ ap (λ b. cond b 1 0) q in
                  let apart : i ≡ w → ⊥ = λ p. true≢false (sym (eq-eqb i w p) ∙ q) in
                  let both = two_within m.e i w apart in omega arith
            ] in at_in n m.e i h ∙ step (eqb i w) refl,
      )

  abbrev plain_or_square : Exp → Bool
  plain_or_square m = is_residual c m || is_square c m

  -- a monomial with variable w is not residual, and no square of another variable
  only_square : (t : Exp) → is_monomial_in n t ≡ true → plain_or_square t ≡ true → (w : ℕ) → c ≤ w → w < n → 0 < x.at (monomial_in n t.e) w → monomial_in n t.e ≡ square x y r w
  only_square t k p w low below some =
      let step : (z : Bool) → is_residual c t ≡ z → monomial_in n t.e ≡ square x y r w = elim [
        | true ↦ λ q. let none : x.at (monomial_in n t.e) w ≡ 0 = at_in n t.e w below ∙ zero_past c t.e q w low in absurd (omega arith)
        | false ↦ λ q.
            let found = squared t k (or_other (is_residual c t) (is_square c t) p q) in
            let same : w ≡ found.0 = by_place w found.0 below (subst (λ m. 0 < x.at m w) found.3 some) in
            found.3 ∙ ap (square x y r) (sym same)
      ] in step (is_residual c t) refl
    where
      by_place : (w v : ℕ) → w < n → 0 < x.at (square x y r v) w → w ≡ v
      by_place w v h some =
          let at_square = exp_laws.at-plus x (exps_are n) (variable x v) (variable x v) w h in
          let at_one = exp_laws.at-variable x (exps_are n) v w h in
          let by_test : (b : Bool) → eqb w v ≡ b → w ≡ v = elim [
            | true ↦ λ q. eqb-true w v q
            | false ↦ λ q. let none : x.at (variable x v) w ≡ 0 = at_one ∙ ap (λ b. cond b 1 0) q in absurd (omega arith)
          ] in by_test (eqb w v) refl

  other_coef : (terms : List (Exp × Ext Frac)) → all_in terms ≡ true → list_all plain_or_square (monomials_in terms) ≡ true
      → (m : ExpList n) (w : ℕ) → c ≤ w → w < n → 0 < x.at m w → (m ≡ square x y r w → ⊥) → coefficient x r (terms_in n a terms) m ≡ r.zero
  unfolding terms_in
  other_coef [] e s m w low below some apart = refl
  other_coef (t ∷ ts) e s m w low below some apart =
      let rest = other_coef ts (and_right (is_monomial_in n t.0) (all_in ts) e) (and_right (plain_or_square t.0) (list_all plain_or_square (monomials_in ts)) s) m w low below some apart in
      let one : plain_or_square t.0 ≡ true = and_left (plain_or_square t.0) (list_all plain_or_square (monomials_in ts)) s in
      let other : monomial_in n t.0.e ≡ m → ⊥ = λ q.
      apart (sym q ∙ only_square t.0 (and_left (is_monomial_in n t.0) (all_in ts) e) one w low below (subst (λ z. 0 < x.at z w) (sym q) some)) in
      ap (λ z. r.add (cond z (value_in a t.1) r.zero) (coefficient x r (terms_in n a ts) m)) (exp_laws.same-no x (exps_are n) (monomial_in n t.0.e) m other)
      ∙ zero_add (coefficient x r (terms_in n a ts) m) ∙ rest

  pub is_split-is : (terms : List (Exp × Ext Frac)) → all_in terms ≡ true → is_split n c terms ≡ true → IsSplit x y r (terms_in n a terms) (residual_part c a terms)
  unfolding is_split
  is_split-is terms e s = record {
    residual = residual_coef terms e;
    others = other_coef terms e (and_left (list_all plain_or_square (monomials_in terms)) (list_all (λ i. is_one_of (monomials_in terms) (square_of i)) (square_variables n c)) s);
  }
