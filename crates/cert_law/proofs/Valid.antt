-- What well-formedness gives for reading: small numbers, monomials of eight exponents, terms with coefficients other than 0.
use Rattle.std.proofs.Common.{◌≡◌, ℕ, suc, ◌<◌, ◌^◌, Bool, true, false, cond, eqb, ltb, leb, ◌&&◌, ◌||◌, ◌⊎◌, inl, inr, ℤ, pos, negsuc, List, [], ◌∷◌, length, refl, sym, ap, ◌∙◌, arith}
use Rattle.std.specs.Prelude.{not, sum, unsigned_abs, int_lt}
use Rattle.std.specs.List.{AllByRecursion, list_all, zip}
use Rattle.std.specs.Cmp.Derive.{both_true}
use Rattle.std.proofs.lemmas.Bool.{eqb-true, ltb-true, leb-true}
use Rattle.ring_theory.specs.Gcd.{gcd}
use Rattle.ring_theory.proofs.GcdLaws.{gcd-zero, gcd_comm}
use Rattle.ring_law.specs.declared.fraction.Frac.{Frac}
use Rattle.ext_algebra.specs.declared.algebra.Algebra.{Algebra}
use Rattle.ext_algebra.specs.Fractions.{is_frac}
use Rattle.ext_algebra.specs.Algebra.{is_element}
use Rattle.mono_exp.specs.declared.exponent.Exp.{Exp}
use Rattle.mono_exp.specs.Exponents.{is_before, is_greater_first}
use Rattle.mono_exp.proofs.Lists.{sum-cons}
use Rattle.jet_poly.specs.JetTerms.{JetTerms, AllAfter, IsRising}
use Rattle.poly_text.specs.Numbers.{Piece, components, is_zero_fraction, letters, numbers, without_zeros}
use Rattle.poly_text.specs.Polynomials.{is_one}
use Rattle.cert_text.specs.WellFormed.{is_zero_element, is_monomial_in, is_term_of, IsJetOf}
use Rattle.cert_law.specs.Fields.{Element, Term, size, IsComponent, IsSmallElement, IsMonomial, IsTerm, IsHigher, IsPolynomial}

-- ---- tests

pub both : (a b : Bool) → (a && b) ≡ true → (a ≡ true) × (b ≡ true)
both true b e = (refl, e)
both false b e = absurd cc

either : (a b : Bool) → (a || b) ≡ true → (a ≡ true) ⊎ (b ≡ true)
either true b e = inl refl
either false b e = inr e

pub all_from : {X : Type 0} (p : X → Bool) (P : X → Type 0) → ((x : X) → p x ≡ true → P x) → (xs : List X) → list_all p xs ≡ true → AllByRecursion P xs
all_from p P each [] e = tt
all_from p P each (x ∷ xs) e = let h = both (p x) (list_all p xs) e in (each x h.0, all_from p P each xs h.1)

pub all_to : {X : Type 0} (P Q : X → Type 0) → ((x : X) → P x → Q x) → (xs : List X) → AllByRecursion P xs → AllByRecursion Q xs
all_to P Q each [] e = tt
all_to P Q each (x ∷ xs) e = (each x e.0, all_to P Q each xs e.1)

-- ---- fractions and elements

pub small_by : (z : ℤ) → ltb (unsigned_abs z) (2 ^ 127) ≡ true → size z < 10 ^ 64
small_by (pos n) e = let h : n < 2 ^ 127 = ltb-true n (2 ^ 127) e in omega (arith, h)
small_by (negsuc n) e = let h : suc n < 2 ^ 127 = ltb-true (suc n) (2 ^ 127) e in omega (arith, h)

den_one : (den : ℤ) → int_lt (pos 0) den ≡ true → gcd 0 (unsigned_abs den) ≡ 1 → den ≡ pos 1
den_one (pos d) p e = ap (λ (k : ℕ). pos k) (sym (gcd_comm 0 d ∙ gcd-zero d) ∙ e)
den_one (negsuc d) p e = absurd cc

zero_by : (num den : ℤ) → int_lt (pos 0) den ≡ true → gcd (unsigned_abs num) (unsigned_abs den) ≡ 1 → num ≡ pos 0 → den ≡ pos 1
zero_by num den p e z = den_one den p (ap (λ (n : ℤ). gcd (unsigned_abs n) (unsigned_abs den)) (sym z) ∙ e)

pub component_by : (q : Frac) → is_frac q ≡ true → IsComponent q
component_by q e =
    let g = gcd (unsigned_abs q.num) (unsigned_abs q.den) in
    let n = ltb (unsigned_abs q.num) (2 ^ 127) in
    let d = ltb (unsigned_abs q.den) (2 ^ 127) in
    let a = both (int_lt (pos 0) q.den) (eqb g 1 && (n && d)) e in
    let b = both (eqb g 1) (n && d) a.1 in
    let c = both n d b.1 in
    record { small = record { num = small_by q.num c.0; den = small_by q.den c.1 }; zero_form = zero_by q.num q.den a.0 (eqb-true g 1 b.0) }

pub element_by : (a : Algebra) (e : Element) → is_element a e ≡ true → IsSmallElement e
unfolding is_element
element_by a e h =
    let c0 = both _ _ h in
    let c1 = both _ _ c0.1 in
    let c2 = both _ _ c1.1 in
    let c3 = both _ _ c2.1 in
    let c4 = both _ _ c3.1 in
    let c5 = both _ _ c4.1 in
    (component_by e.c0 c0.0, (component_by e.c1 c1.0, (component_by e.c2 c2.0, (component_by e.c3 c3.0, (component_by e.c4 c4.0, (component_by e.c5 c5.0, tt))))))

-- ---- monomials

each_below : (es : List ℕ) → sum es < 256 → AllByRecursion (λ e. e < 256) es
each_below [] lt = tt
each_below (e ∷ es) lt = let s = sum-cons e es in (omega (arith, lt, s), each_below es (omega (arith, lt, s)))

pub monomial_by : (n : ℕ) (m : Exp) → is_monomial_in n m ≡ true → sum m.e < 256 → IsMonomial m
monomial_by n m e lt = record { eight = eqb-true (length m.e) 8 (both _ _ e).0; fit = each_below m.e lt }

zeros_sum : (es : List ℕ) → list_all (λ e. eqb e 0) es ≡ true → sum es ≡ 0
zeros_sum [] h = refl
zeros_sum (e ∷ es) h =
    let p = both (eqb e 0) (list_all (λ e. eqb e 0) es) h in
    sum-cons e es ∙ (let z = eqb-true e 0 p.0 in let s = zeros_sum es p.1 in omega (arith, z, s))

greater_than_zeros : (a b : List ℕ) → is_greater_first a b ≡ true → list_all (λ e. eqb e 0) b ≡ true → 0 < sum a
greater_than_zeros [] b g h = absurd cc
greater_than_zeros (x ∷ a) [] g h = absurd cc
greater_than_zeros (x ∷ a) (y ∷ b) g h =
    let p = both (eqb y 0) (list_all (λ e. eqb e 0) b) h in
    let s = sum-cons x a in
    elim (either (ltb y x) (eqb x y && is_greater_first a b) g) [
      | inl more ↦ (let m = ltb-true y x more in omega (arith, m, s))
      | inr rest ↦ (let r = greater_than_zeros a b (both (eqb x y) (is_greater_first a b) rest).1 p.1 in omega (arith, r, s))
    ]

not_one : (t : Bool) (a b : List ℕ) → list_all (λ e. eqb e 0) b ≡ t → is_before a b ≡ true → t ≡ false
not_one false a b e h = refl
not_one true a b e h =
    let z = zeros_sum b e in
    elim (either (ltb (sum a) (sum b)) (eqb (sum a) (sum b) && is_greater_first a b) h) [
      | inl less ↦ (let m = ltb-true (sum a) (sum b) less in absurd (omega (arith, m, z)))
      | inr rest ↦
          let r = both (eqb (sum a) (sum b)) (is_greater_first a b) rest in
          let g = greater_than_zeros a b r.1 e in
          let s = eqb-true (sum a) (sum b) r.0 in
          absurd (omega (arith, g, s, z))
    ]

-- ---- terms

none_step : (t : Bool) (q : Frac) (body : List ℕ) (ps : List Piece) → cond (not t) ((q, body) ∷ ps) ps ≡ [] → (t ≡ true) × (ps ≡ [])
none_step true q body ps e = (refl, e)
none_step false q body ps e = absurd cc

-- without a piece all numbers are 0
none_zero : (qs : List Frac) (bodies : List (List ℕ)) → length qs ≡ length bodies → without_zeros (zip qs bodies) ≡ [] → AllByRecursion (λ q. is_zero_fraction q ≡ true) qs
none_zero [] bodies len e = tt
none_zero (q ∷ qs) [] len e = absurd (omega (arith, len))
none_zero (q ∷ qs) (body ∷ bodies) len e = let h = none_step (is_zero_fraction q) q body (without_zeros (zip qs bodies)) e in (h.0, none_zero qs bodies (omega (arith, len)) h.1)

pub some_piece : (e : Element) → is_zero_element e ≡ false → without_zeros (components e) ≡ [] → ⊥
some_piece e is none =
    let z = none_zero (numbers e) letters refl none in
    let all : is_zero_element e ≡ true = both_true z.0 (both_true z.1.0 (both_true z.1.1.0 (both_true z.1.1.1.0 (both_true z.1.1.1.1.0 z.1.1.1.1.1.0)))) in
    absurd (cc (is, all))

not_true : (t : Bool) → not t ≡ true → t ≡ false
not_true true e = absurd cc
not_true false e = refl

pub term_by : (n order : ℕ) (a : Algebra) (t : Term) → order < 256 → is_term_of n order a t ≡ true → IsTerm t
term_by n order a t le e =
    let m = is_monomial_in n t.0 in
    let d = leb (sum t.0.e) order in
    let x = is_element a t.1 in
    let z = not (is_zero_element t.1) in
    let p = both (m && d) (x && z) e in
    let q = both m d p.0 in
    let r = both x z p.1 in
    let low = leb-true (sum t.0.e) order q.1 in
    record {
      coefficient = element_by a t.1 r.0;
      some = some_piece t.1 (not_true (is_zero_element t.1) r.1);
      monomial = monomial_by n t.0 q.0 (omega (arith, low, le));
    }

pub higher_by : (n order : ℕ) (a : Algebra) (m : Exp) (ts : List Term) → order < 256 → AllAfter m ts → list_all (is_term_of n order a) ts ≡ true → AllByRecursion IsHigher ts
higher_by n order a m [] le after e = tt
higher_by n order a m (t ∷ ts) le after e =
    let p = both (is_term_of n order a t) (list_all (is_term_of n order a) ts) e in
    (record { term = term_by n order a t le p.0; higher = not_one (is_one t.0) m.e t.0.e refl after.0 }, higher_by n order a m ts le after.1 p.1)

terms_by : (n order : ℕ) (a : Algebra) (ts : List Term) → order < 256 → IsRising ts → list_all (is_term_of n order a) ts ≡ true → IsPolynomial ts
terms_by n order a [] le rising e = tt
terms_by n order a (t ∷ ts) le rising e =
    let p = both (is_term_of n order a t) (list_all (is_term_of n order a) ts) e in
    (term_by n order a t le p.0, higher_by n order a t.0 ts le rising.0 p.1)

pub polynomial_by : (n order : ℕ) (a : Algebra) (f : JetTerms Element) → order < 256 → IsJetOf n order a f → IsPolynomial f.terms
polynomial_by n order a f le is = terms_by n order a f.terms le is.rising is.terms
