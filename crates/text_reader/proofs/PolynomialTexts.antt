-- Polynomials by their texts.
use Rattle.std.proofs.Common.{◌≡◌, ℕ, suc, ◌-◌, ◌<◌, Bool, true, false, cond, ◌&&◌, eqb, leb, ◌⊎◌, inl, inr, Option, Some, None, List, [], ◌∷◌, ◌++◌, length, get_or, map, pos, refl, sym, ap, ◌∙◌, subst, append_assoc, append-nil, length-append, arith}
use Rattle.std.specs.Prelude.{not, sum, Result, Ok, Err, IfOk, IfSome}
use Rattle.std.specs.List.{AllByRecursion, list_all}
use Rattle.std.proofs.lemmas.Bool.{leb-true}
use Rattle.std.proofs.lemmas.Bool.Decides.{Decides-int_eq}
use Rattle.std.specs.Cmp.Derive.{both_true}
use Rattle.std.proofs.lemmas.List.Concat.{flat_map-append}
use Rattle.std.proofs.lemmas.List.Folds.{list_all-append}
use Rattle.ring_law.specs.declared.fraction.Frac.{Frac}
use Rattle.ext_algebra.specs.declared.algebra.Algebra.{Algebra}
use Rattle.ext_algebra.specs.declared.algebra.Ext.{Ext}
use Rattle.ext_algebra.specs.Algebra.{is_element, is_zero_past}
use Rattle.ext_algebra.specs.Fractions.{is_frac}
use Rattle.mono_exp.specs.declared.exponent.Exp.{Exp}
use Rattle.mono_exp.specs.Exponents.{is_before}
use Rattle.jet_poly.specs.JetTerms.{JetTerms, AllAfter, IsRising}
use Rattle.jet_poly.proofs.Output.{rising-push}
use Rattle.jet_poly.proofs.Coefficients.{before-trans}
use Rattle.poly_text.specs.Numbers.{components_text, element_text, is_zero_fraction, letters, numbers, signed_text, without_plus}
use Rattle.poly_text.specs.Polynomials.{is_one, jet_text, new_names, polynomial_in, term_in}
use Rattle.cert_text.specs.WellFormed.{is_monomial_in, is_term_of, is_zero_element, IsJetOf}
use Rattle.cert_law.specs.Fields.{IsBody, IsHigher, IsMonomial, zero_fraction}
use Rattle.cert_law.specs.Unique.{Starts}
use Rattle.cert_law.proofs.Elements.{element_is, letters_are}
use Rattle.cert_law.proofs.Jets.{IsInner, IsPlain, higher_lump, higher_text, letters_plain, lump_of, outer, zeros_same}
use Rattle.cert_law.proofs.Lumps.{Simple, IsLump, lump_one}
use Rattle.cert_law.proofs.Monomials.{exponents_is, starred}
use Rattle.cert_law.proofs.Sums.{sign_of}
use Rattle.cert_law.proofs.Valid.{both, component_by, higher_by, monomial_by}
use Rattle.text_reader.specs.Pieces.{AreFractions, AreValid, Follows, FollowsAll, IsSign}
use Rattle.text_reader.specs.Reading.{IsTextOf}
use Rattle.text_reader.specs.Terms.{AreTermsOf, IsHigherTerm, IsLongTerm, IsSimpleTerm, constant_terms, is_after_last, one_monomial, term_text, terms_text}
use Rattle.text_reader.proofs.ComponentTexts.{ends_piece, follows_nothing, starts_signed, zero_is, zero_valid}
use Rattle.text_reader.proofs.ElementTexts.{components_front, element_fractions, HasFront, first, nothing, rational_fractions, sum_back, without_signed, zero_element}
use Rattle.text_reader.proofs.TermTexts.{higher_of, long_is, simple_product, term_cases, term_one, zero_numbers}

abbrev Term : Type 0
Term = Exp × Ext Frac

-- ---- validity of a term

not_false : (z : Bool) → not z ≡ true → z ≡ false
not_false true h = absurd cc
not_false false h = refl

-- what a valid term has
pub record IsValidTerm (t : Term) : Type 0 where
  pub fractions : AreFractions t.1
  pub nonzero : is_zero_element t.1 ≡ false
  pub monomial : IsMonomial t.0

pub valid_term : (n order : ℕ) (a : Algebra) (t : Term) → order < 256 → is_term_of n order a t ≡ true → IsValidTerm t
valid_term n order a t lt e =
    let p = both (is_monomial_in n t.0 && leb (sum t.0.e) order) (is_element a t.1 && not (is_zero_element t.1)) e in
    let q = both (is_monomial_in n t.0) (leb (sum t.0.e) order) p.0 in
    let r = both (is_element a t.1) (not (is_zero_element t.1)) p.1 in
    let low = leb-true (sum t.0.e) order q.1 in
    record { fractions = (element_fractions a t.1 r.0).0; nonzero = not_false (is_zero_element t.1) r.1; monomial = monomial_by n t.0 q.0 (omega (arith, low, lt)) }

-- a term other than a constant
pub higher_term : (t : Term) → IsValidTerm t → is_one t.0 ≡ false → IsHigherTerm t
higher_term t v h = record { fractions = v.fractions; nonzero = v.nonzero; monomial = v.monomial; higher = h }

-- only the first of rising terms may be constant
pub all_higher : (n order : ℕ) (a : Algebra) (m : Exp) (ts : List Term) → order < 256 → AllAfter m ts → list_all (is_term_of n order a) ts ≡ true → AllByRecursion IsHigherTerm ts
all_higher n order a m ts lt after valid = each ts (higher_by n order a m ts lt after valid) valid
  where
    each : (ts : List Term) → AllByRecursion IsHigher ts → list_all (is_term_of n order a) ts ≡ true → AllByRecursion IsHigherTerm ts
    each [] h v = tt
    each (t ∷ ts) h v = let p = both (is_term_of n order a t) (list_all (is_term_of n order a) ts) v in (higher_term t (valid_term n order a t lt p.0) h.0.higher, each ts h.1 p.1)

-- ---- the tests of the reader

element_test : (a : Algebra) (e : Ext Frac) → AreFractions e → is_element a e ≡ is_zero_past a e
unfolding is_element
element_test a e ok =
    passed (is_frac e.c0) _ ok.0 ∙ passed (is_frac e.c1) _ ok.1.0 ∙ passed (is_frac e.c2) _ ok.1.1.0 ∙ passed (is_frac e.c3) _ ok.1.1.1.0 ∙ passed (is_frac e.c4) _ ok.1.1.1.1.0 ∙ passed (is_frac e.c5) (is_zero_past a e) ok.1.1.1.1.1.0
  where
    passed : (x w : Bool) → x ≡ true → (x && w) ≡ w
    passed true w e = refl
    passed false w e = absurd cc

unless_by : (x z : Bool) → z ≡ true → false ≡ (x && not z)
unless_by true true e = refl
unless_by true false e = absurd cc
unless_by false z e = refl

when_by : (x z r : Bool) → z ≡ false → r ≡ x → r ≡ (x && not z)
when_by true true r e h = absurd cc
when_by true false r e h = h
when_by false z r e h = h

pub zero_refused : (a : Algebra) (e : Ext Frac) (z : Bool) → z ≡ is_zero_element e → z ≡ true → false ≡ (is_element a e && not (is_zero_element e))
zero_refused a e z is h = unless_by (is_element a e) (is_zero_element e) (sym is ∙ h)

pub element_tested : (a : Algebra) (e : Ext Frac) (z r : Bool) → AreFractions e → z ≡ is_zero_element e → z ≡ false → r ≡ is_zero_past a e → r ≡ (is_element a e && not (is_zero_element e))
element_tested a e z r ok is h past = when_by (is_element a e) (is_zero_element e) r (sym is ∙ h) (past ∙ sym (element_test a e ok))

-- ---- terms that rise

all_before : (ts : List Term) (t : Term) → IsRising ts → is_after_last ts t.0 ≡ true → AllByRecursion (λ u. is_before u.0.e t.0.e ≡ true) ts
all_before [] t rising h = tt
all_before (u ∷ []) t rising h = (h, tt)
all_before (u ∷ v ∷ ts) t rising h = let more = all_before (v ∷ ts) t rising.1 h in (before-trans u.0.e v.0.e t.0.e rising.0.0 more.0, more)

-- of rising terms each stands after those before it
pub after_there : (ts : List Term) (t : Term) (more : List Term) → IsRising (ts ++ t ∷ more) → is_after_last ts t.0 ≡ true
after_there [] t more rising = refl
after_there (u ∷ []) t more rising = rising.0.0
after_there (u ∷ v ∷ ts) t more rising = after_there (v ∷ ts) t more rising.1

all_there : (p : Term → Bool) (xs : List Term) (t : Term) (more : List Term) → list_all p (xs ++ t ∷ more) ≡ true → p t ≡ true
all_there p [] t more h = (both (p t) (list_all p more) h).0
all_there p (x ∷ xs) t more h = all_there p xs t more (both (p x) (list_all p (xs ++ t ∷ more)) h).1

-- one more term at the end
pub terms_more : (n order : ℕ) (a : Algebra) (ts : List Term) (t : Term) (r : Bool) → AreTermsOf n order a ts → r ≡ (is_term_of n order a t && is_after_last ts t.0) → r ≡ true → AreTermsOf n order a (ts ++ t ∷ [])
terms_more n order a ts t r are test holds =
    let h = both (is_term_of n order a t) (is_after_last ts t.0) (sym test ∙ holds) in record {
      rising = rising-push ts t are.rising (all_before ts t are.rising h.1);
      valid = list_all-append (is_term_of n order a) ts (t ∷ []) ∙ both_true are.valid (both_true h.0 refl);
    }

-- the next term of valid terms passes the test
pub next_passes : (n order : ℕ) (a : Algebra) (ts : List Term) (t : Term) (more : List Term) (r : Bool) → AreTermsOf n order a (ts ++ t ∷ more) → r ≡ (is_term_of n order a t && is_after_last ts t.0) → r ≡ false → ⊥
next_passes n order a ts t more r are test failed =
    let holds = both_true (all_there (is_term_of n order a) ts t more are.valid) (after_there ts t more are.rising) in
    absurd (cc (holds, test, failed))

-- ---- the texts of terms

term_signed : (t : Term) → IsHigherTerm t → (f : List ℕ) × (0 < length f) × (term_text t ≡ signed_text f)
term_signed t h = by_case (term_cases t h)
  where
    by_case : IsSimpleTerm t ⊎ IsLongTerm t → (f : List ℕ) × (0 < length f) × (term_text t ≡ signed_text f)
    by_case (inl s) = simple_product t s
    by_case (inr s) = (40 ∷ (element_text t.1 ++ 41 ∷ starred t.0), omega arith, long_is t s)

pub terms_start : (ts : List Term) → AllByRecursion IsHigherTerm ts → Starts IsSign (terms_text ts)
terms_start [] h = tt
terms_start (t ∷ ts) h =
    let f = term_signed t h.0 in
    subst (Starts IsSign) (ap (λ z. z ++ terms_text ts) (sym f.2)) (starts_signed (signed_text f.0) (terms_text ts) (sign_of f.0))

terms_front : (ts : List Term) → AllByRecursion IsHigherTerm ts → HasFront (terms_text ts)
terms_front [] h = nothing refl
terms_front (t ∷ ts) h = let f = term_signed t h.0 in first f.0 (terms_text ts) f.1 (ap (λ z. z ++ terms_text ts) f.2)

pub shorter : (t : Term) (sum rest : List ℕ) → IsHigherTerm t → sum ≡ term_text t ++ rest → length rest < length sum
shorter t sum rest h e =
    let f = term_signed t h in
    let whole = ap length (e ∙ ap (λ z. z ++ rest) f.2) ∙ length-append (signed_text f.0) rest in
    let some = some_signed f.0 in
    omega (arith, whole, some)
  where
    by_test : (t : Bool) (b : ℕ) (bs : List ℕ) → 0 < length (cond t (b ∷ bs) (43 ∷ b ∷ bs))
    by_test true b bs = omega arith
    by_test false b bs = omega arith

    some_signed : (f : List ℕ) → 0 < length (signed_text f)
    some_signed [] = omega arith
    some_signed (b ∷ bs) = by_test (eqb b 45) b bs

-- ---- a constant first

follows_body : (body : List ℕ) (ts : List Term) → IsBody body → IsPlain body → AllByRecursion IsHigherTerm ts → Follows body (terms_text ts)
follows_body body [] is plain h = follows_nothing body
follows_body body (t ∷ ts) is plain h = record {
  starts = terms_start (t ∷ ts) h;
  other = λ q x ok s e.
      (let l : IsLump (Simple q body) = record { small = (component_by q ok.0).small; nonzero = ok.1; factors = is } in
      let k = lump_one (Simple q body) (lump_of t) x (terms_text ts) l (higher_lump t (higher_of t h.0)) (ends_piece x s) (ends_piece (terms_text ts) (terms_start ts h.1)) (e ∙ ap (λ z. z ++ terms_text ts) (higher_text t (higher_of t h.0))) in
      outer t (higher_of t h.0) (subst IsInner k.0 plain));
}

follows_bodies : (bodies : List (List ℕ)) (ts : List Term) → AllByRecursion IsBody bodies → AllByRecursion IsPlain bodies → AllByRecursion IsHigherTerm ts → FollowsAll bodies (terms_text ts)
follows_bodies [] ts are plain h = tt
follows_bodies (body ∷ bodies) ts are plain h = (follows_body body ts are.0 plain.0 h, follows_bodies bodies ts are.1 plain.1 h)

-- terms that are not constant may follow a constant
pub follows_terms : (ts : List Term) → AllByRecursion IsHigherTerm ts → FollowsAll letters (terms_text ts)
follows_terms ts h = follows_bodies letters ts letters_are letters_plain h

zero_fractions : AreFractions zero_element
zero_fractions = rational_fractions zero_fraction zero_valid

zero_components : components_text zero_element ≡ []
unfolding components_text
zero_components = refl

zeros_are : (qs : List Frac) → AreValid qs → AllByRecursion (λ q. is_zero_fraction q ≡ true) qs → map (λ (q : Frac). zero_fraction) qs ≡ qs
zeros_are [] valid z = refl
zeros_are (q ∷ qs) valid z =
    let first : zero_fraction ≡ q = zero_is q valid.0 ((Decides-int_eq q.num (pos 0)).0 z.0) in
    let others = zeros_are qs valid.1 z.1 in
    cc (first, others)

element_zero : (e : Ext Frac) → AreFractions e → is_zero_element e ≡ true → zero_element ≡ e
element_zero e ok z = element_is zero_element e (zeros_are (numbers e) ok (zero_numbers e z))

constant_text : (e : Ext Frac) → term_text (one_monomial, e) ≡ components_text e
unfolding term_in
constant_text e = refl

-- the text of a constant and terms
pub constant_more : (e : Ext Frac) (more : List Term) → AreFractions e → terms_text (constant_terms e ++ more) ≡ components_text e ++ terms_text more
constant_more e more ok = by_test (is_zero_element e) refl
  where
    by_test : (t : Bool) → is_zero_element e ≡ t → terms_text (cond t [] ((one_monomial, e) ∷ []) ++ more) ≡ components_text e ++ terms_text more
    by_test true z = ap (λ z. z ++ terms_text more) (sym zero_components ∙ ap components_text (element_zero e ok z))
    by_test false z = ap (λ z. z ++ terms_text more) (constant_text e)

-- terms as a constant and others
pub record Splits (us : List Term) (e : Ext Frac) (more : List Term) : Type 0 where
  pub fractions : AreFractions e
  pub is : us ≡ constant_terms e ++ more
  pub higher : AllByRecursion IsHigherTerm more

pub split_constant : (n order : ℕ) (a : Algebra) (us : List Term) → order < 256 → AreTermsOf n order a us → (e : Ext Frac) × (more : List Term) × Splits us e more
split_constant n order a [] lt are = (zero_element, [], record { fractions = zero_fractions; is = refl; higher = tt })
split_constant n order a (t ∷ ts) lt are = by_test (is_one t.0) refl
  where
    valid : (is_term_of n order a t ≡ true) × (list_all (is_term_of n order a) ts ≡ true)
    valid = both (is_term_of n order a t) (list_all (is_term_of n order a) ts) are.valid

    others : AllByRecursion IsHigherTerm ts
    others = all_higher n order a t.0 ts lt are.rising.0 valid.1

    by_test : (b : Bool) → is_one t.0 ≡ b → (e : Ext Frac) × (more : List Term) × Splits (t ∷ ts) e more
    by_test true one =
        let v = valid_term n order a t lt valid.0 in
        let m : t.0 ≡ one_monomial = exponents_is t.0 one_monomial (zeros_same t.0.e one_monomial.e v.monomial.eight one refl) in
        let is : t ∷ ts ≡ (one_monomial, t.1) ∷ ts = λ i. (m i, t.1) ∷ ts in
        (t.1, ts, record { fractions = v.fractions; is = is ∙ ap (λ (b : Bool). cond b [] ((one_monomial, t.1) ∷ []) ++ ts) (sym v.nonzero); higher = others })
    by_test false higher =
        let v = valid_term n order a t lt valid.0 in
        (zero_element, t ∷ ts, record { fractions = zero_fractions; is = refl; higher = (higher_term t v higher, others) })

-- the constant term alone is among the terms
pub constant_valid : (n order : ℕ) (a : Algebra) (us : List Term) (e : Ext Frac) (more : List Term) → AreTermsOf n order a us → us ≡ constant_terms e ++ more → AreTermsOf n order a (constant_terms e)
constant_valid n order a us e more are is = by_test (is_zero_element e) refl
  where
    here : AreTermsOf n order a (constant_terms e ++ more)
    here = subst (AreTermsOf n order a) is are

    by_test : (t : Bool) → is_zero_element e ≡ t → AreTermsOf n order a (cond t [] ((one_monomial, e) ∷ []))
    by_test true z = record { rising = tt; valid = refl }
    by_test false z =
        let there : AreTermsOf n order a ((one_monomial, e) ∷ more) = subst (λ (t : Bool). AreTermsOf n order a (cond t [] ((one_monomial, e) ∷ []) ++ more)) z here in
        record { rising = (tt, tt); valid = both_true (all_there (is_term_of n order a) [] (one_monomial, e) more there.valid) refl }

pub no_constant : (n order : ℕ) (a : Algebra) (e : Ext Frac) (z : Bool) → z ≡ is_zero_element e → z ≡ true → ([] ≡ constant_terms e) × AreTermsOf n order a []
no_constant n order a e z is holds = (ap (λ (t : Bool). cond t [] ((one_monomial, e) ∷ [])) (sym holds ∙ is), record { rising = tt; valid = refl })

-- ---- term by term

-- what is left of terms behind those that were read
pub record Remains (ts us : List Term) (rest : List ℕ) (more : List Term) : Type 0 where
  pub is : us ≡ ts ++ more
  pub text : terms_text more ≡ rest
  pub higher : AllByRecursion IsHigherTerm more

-- read up to the rest: valid terms, and no other terms have this text
pub record IsReadUp (n order : ℕ) (a : Algebra) (from : List Term) (all : List ℕ) (ts : List Term) (rest : List ℕ) : Type 0 where
  pub are : AreTermsOf n order a ts
  pub text : terms_text from ++ all ≡ terms_text ts ++ rest
  pub found : (more : List Term) → AreTermsOf n order a (from ++ more) → AllByRecursion IsHigherTerm more → terms_text more ≡ all → (left : List Term) × Remains ts (from ++ more) rest left

one_more : (ts : List Term) (t : Term) (rest : List ℕ) → terms_text (ts ++ t ∷ []) ++ rest ≡ terms_text ts ++ (term_text t ++ rest)
one_more ts t rest =
    ap (λ z. z ++ rest) (flat_map-append (term_in new_names) ts (t ∷ [])) ∙ append_assoc (terms_text ts) (terms_text (t ∷ [])) rest ∙ ap (λ z. terms_text ts ++ (z ++ rest)) (append-nil (term_text t))

step : (ts us : List Term) (sum rest : List ℕ) (t : Term) (left : List Term) → IsHigherTerm t → sum ≡ term_text t ++ rest → Starts IsSign rest → Remains ts us sum left → (sum ≡ [] → ⊥) → (more : List Term) × Remains (ts ++ t ∷ []) us rest more
step ts us sum rest t [] h e s r some = absurd (some (sym r.text))
step ts us sum rest t (u ∷ left) h e s r some =
    let k = term_one t u rest (terms_text left) h r.higher.0 s (terms_start left r.higher.1) (sym e ∙ sym r.text) in
    let is : us ≡ ts ++ t ∷ left = r.is ∙ ap (λ z. ts ++ z ∷ left) (sym k.0) in
    (left, record { is = is ∙ sym (append_assoc ts (t ∷ []) left); text = sym k.1; higher = r.higher.1 })

pub read_on : (n order : ℕ) (a : Algebra) (from : List Term) (all : List ℕ) (ts : List Term) (sign : ℕ) (behind rest : List ℕ) (t : Term) (r : Bool) → IsReadUp n order a from all ts (sign ∷ behind) → IsHigherTerm t → sign ∷ behind ≡ term_text t ++ rest → Starts IsSign rest
    → r ≡ (is_term_of n order a t && is_after_last ts t.0) → r ≡ true → IsReadUp n order a from all (ts ++ t ∷ []) rest
read_on n order a from all ts sign behind rest t r so_far h e s test holds = record {
  are = terms_more n order a ts t r so_far.are test holds;
  text = so_far.text ∙ ap (λ z. terms_text ts ++ z) e ∙ sym (one_more ts t rest);
  found = λ more valid higher text.
      (let k = so_far.found more valid higher text in
      step ts (from ++ more) (sign ∷ behind) rest t k.0 h e s k.1 (λ z. cc));
}

-- no term stands there
pub stuck : (n order : ℕ) (a : Algebra) (from : List Term) (all : List ℕ) (ts : List Term) (sign : ℕ) (behind : List ℕ) → IsReadUp n order a from all ts (sign ∷ behind)
    → ((t : Term) (rest : List ℕ) → IsHigherTerm t → Starts IsSign rest → sign ∷ behind ≡ term_text t ++ rest → ⊥) → (more : List Term) → AreTermsOf n order a (from ++ more) → AllByRecursion IsHigherTerm more → terms_text more ≡ all → ⊥
stuck n order a from all ts sign behind so_far none more valid higher text = let k = so_far.found more valid higher text in by_left k.0 k.1
  where
    by_left : (left : List Term) → Remains ts (from ++ more) (sign ∷ behind) left → ⊥
    by_left [] r = let e = r.text in cc
    by_left (u ∷ left) r = none u (terms_text left) r.higher.0 (terms_start left r.higher.1) (sym r.text)

-- a term stands there that is not valid or not in order
pub refused : (n order : ℕ) (a : Algebra) (from : List Term) (all : List ℕ) (ts : List Term) (sign : ℕ) (behind rest : List ℕ) (t : Term) (r : Bool) → IsReadUp n order a from all ts (sign ∷ behind) → IsHigherTerm t → sign ∷ behind ≡ term_text t ++ rest → Starts IsSign rest
    → r ≡ (is_term_of n order a t && is_after_last ts t.0) → r ≡ false → (more : List Term) → AreTermsOf n order a (from ++ more) → AllByRecursion IsHigherTerm more → terms_text more ≡ all → ⊥
refused n order a from all ts sign behind rest t r so_far h e s test failed more valid higher text = let k = so_far.found more valid higher text in by_left k.0 k.1
  where
    by_left : (left : List Term) → Remains ts (from ++ more) (sign ∷ behind) left → ⊥
    by_left [] q = let e2 = q.text in cc
    by_left (u ∷ left) q =
        let k = term_one t u rest (terms_text left) h q.higher.0 s (terms_start left q.higher.1) (sym e ∙ sym q.text) in
        next_passes n order a ts t left r (subst (AreTermsOf n order a) (q.is ∙ ap (λ z. ts ++ z ∷ left) (sym k.0)) valid) test failed

-- all was read
pub read_whole : (n order : ℕ) (a : Algebra) (from : List Term) (all : List ℕ) (ts : List Term) (rest : List ℕ) (f : JetTerms (Ext Frac)) → IsReadUp n order a from all ts rest → rest ≡ [] → f ≡ record { n = n; order = order; terms = ts } → IsJetOf n order a f × (terms_text f.terms ≡ terms_text from ++ all)
read_whole n order a from all ts rest f up none is =
    let made : JetTerms (Ext Frac) = record { n = n; order = order; terms = ts } in
    let jet : IsJetOf n order a made = record { variables = refl; order_is = refl; rising = up.are.rising; terms = up.are.valid } in
    (subst (IsJetOf n order a) (sym is) jet, ap (λ (g : JetTerms (Ext Frac)). terms_text g.terms) is ∙ sym (append-nil (terms_text ts)) ∙ ap (λ z. terms_text ts ++ z) (sym none) ∙ sym up.text)

-- ---- polynomials

zero_jet : (n order : ℕ) → jet_text (record { n = n; order = order; terms = [] }) ≡ 48 ∷ []
unfolding polynomial_in
zero_jet n order = refl

pub zero_read : (n order : ℕ) (a : Algebra) (bytes : List ℕ) (f : JetTerms (Ext Frac)) → bytes ≡ 48 ∷ [] → f ≡ record { n = n; order = order; terms = [] } → IsTextOf (IsJetOf n order a) jet_text bytes f
zero_read n order a bytes f e is =
    let made : JetTerms (Ext Frac) = record { n = n; order = order; terms = [] } in
    let jet : IsJetOf n order a made = record { variables = refl; order_is = refl; rising = tt; terms = refl } in
    (subst (IsJetOf n order a) (sym is) jet, ap jet_text is ∙ zero_jet n order ∙ sym e)

-- a jet with the terms of the signed text has the text
pub jet_read : (f : JetTerms (Ext Frac)) (bytes : List ℕ) → terms_text f.terms ≡ signed_text bytes → jet_text f ≡ bytes
unfolding polynomial_in
jet_read f bytes e = ap without_plus e ∙ without_signed bytes

-- the terms of a jet with this text, as a constant and others
pub jet_back : (f : JetTerms (Ext Frac)) (e : Ext Frac) (more : List Term) (bytes : List ℕ) → Splits f.terms e more → jet_text f ≡ bytes → (bytes ≡ 48 ∷ [] → ⊥) → signed_text bytes ≡ components_text e ++ terms_text more
unfolding polynomial_in
jet_back f e more bytes s text other =
    let whole : terms_text f.terms ≡ components_text e ++ terms_text more = ap terms_text s.is ∙ constant_more e more s.fractions in
    sum_back (components_text e ++ terms_text more) bytes (components_front e (terms_text more) s.fractions (terms_front more s.higher)) (ap without_plus (sym whole) ∙ text) other

pub jet_terms : (n order : ℕ) (a : Algebra) (f : JetTerms (Ext Frac)) → IsJetOf n order a f → AreTermsOf n order a f.terms
jet_terms n order a f is = record { rising = is.rising; valid = is.terms }

constant_alone : (e : Ext Frac) → AreFractions e → terms_text (constant_terms e) ≡ components_text e
constant_alone e ok = ap terms_text (sym (append-nil (constant_terms e))) ∙ constant_more e [] ok ∙ append-nil (components_text e)

-- a constant and terms that make up the text
pub whole_read : (e : Ext Frac) (ts : List Term) (rest bytes : List ℕ) (f : JetTerms (Ext Frac)) → AreFractions e → ts ≡ constant_terms e → signed_text bytes ≡ components_text e ++ rest → terms_text f.terms ≡ terms_text ts ++ rest → jet_text f ≡ bytes
whole_read e ts rest bytes f ok is whole text = jet_read f bytes (text ∙ ap (λ z. z ++ rest) (ap terms_text is ∙ constant_alone e ok) ∙ sym whole)

-- a jet with this text, as the reader finds it
pub record IsFound (f : JetTerms (Ext Frac)) (bytes : List ℕ) (e : Ext Frac) (more : List Term) : Type 0 where
  pub splits : Splits f.terms e more
  pub text : signed_text bytes ≡ components_text e ++ terms_text more

pub jet_found : (n order : ℕ) (a : Algebra) (f : JetTerms (Ext Frac)) (bytes : List ℕ) → order < 256 → IsJetOf n order a f → jet_text f ≡ bytes → (bytes ≡ 48 ∷ [] → ⊥) → (e : Ext Frac) × (more : List Term) × IsFound f bytes e more
jet_found n order a f bytes lt is text other =
    let s = split_constant n order a f.terms lt (jet_terms n order a f is) in
    (s.0, s.1, record { splits = s.2; text = jet_back f s.0 s.1 bytes s.2 text other })

-- what the reader of the constant finds
pub record FindsConstant (all : List ℕ) (constant : Ext Frac) (rest : List ℕ) : Type 0 where
  pub found : (e : Ext Frac) (behind : List ℕ) → AreFractions e → FollowsAll letters behind → all ≡ components_text e ++ behind → (constant ≡ e) × (rest ≡ behind)

pub constant_refused : (n order : ℕ) (a : Algebra) (f : JetTerms (Ext Frac)) (bytes all rest : List ℕ) (constant : Ext Frac) → order < 256 → (bytes ≡ 48 ∷ [] → ⊥) → all ≡ signed_text bytes → FindsConstant all constant rest → (AreTermsOf n order a (constant_terms constant) → ⊥)
    → IsJetOf n order a f → jet_text f ≡ bytes → ⊥
constant_refused n order a f bytes all rest constant lt other is finds bad jet text =
    let k = jet_found n order a f bytes lt jet text other in
    let same = finds.found k.0 (terms_text k.1) k.2.splits.fractions (follows_terms k.1 k.2.splits.higher) (is ∙ k.2.text) in
    bad (subst (λ (e : Ext Frac). AreTermsOf n order a (constant_terms e)) (sym same.0) (constant_valid n order a f.terms k.0 k.1 (jet_terms n order a f jet) k.2.splits.is))

pub rest_refused : (n order : ℕ) (a : Algebra) (f : JetTerms (Ext Frac)) (bytes all rest : List ℕ) (constant : Ext Frac) (ts : List Term) → order < 256 → (bytes ≡ 48 ∷ [] → ⊥) → all ≡ signed_text bytes → FindsConstant all constant rest → ts ≡ constant_terms constant
    → ((more : List Term) → AreTermsOf n order a (ts ++ more) → AllByRecursion IsHigherTerm more → terms_text more ≡ rest → ⊥) → IsJetOf n order a f → jet_text f ≡ bytes → ⊥
rest_refused n order a f bytes all rest constant ts lt other is finds made bad jet text =
    let k = jet_found n order a f bytes lt jet text other in
    let same = finds.found k.0 (terms_text k.1) k.2.splits.fractions (follows_terms k.1 k.2.splits.higher) (is ∙ k.2.text) in
    let there : f.terms ≡ ts ++ k.1 = k.2.splits.is ∙ ap (λ (e : Ext Frac). constant_terms e ++ k.1) (sym same.0) ∙ ap (λ z. z ++ k.1) (sym made) in
    bad k.1 (subst (AreTermsOf n order a) there (jet_terms n order a f jet)) k.2.splits.higher (sym same.1)

-- ---- the last of the terms

pub after_last : (ts : List Term) (m : Exp) (d : Term) → 0 < length ts → is_after_last ts m ≡ is_before (get_or ts (length ts - 1) d).0.e m.e
after_last [] m d h = absurd (omega (arith, h))
after_last (t ∷ []) m d h = refl
after_last (t ∷ u ∷ ts) m d h = after_last (u ∷ ts) m d (omega arith) ∙ ap (λ (k : ℕ). is_before (get_or (t ∷ u ∷ ts) k d).0.e m.e) place
  where
    place : suc (length (u ∷ ts) - 1) ≡ length (t ∷ u ∷ ts) - 1
    place = omega arith

pub some_items : (ts : List Term) (r : Bool) → r ≡ eqb (length ts) 0 → r ≡ false → 0 < length ts
some_items [] r is e = absurd cc
some_items (t ∷ ts) r is e = omega arith

-- ---- answers

pub read_as : {F E : Type 0} (P Q : F → Type 0) → ((f : F) → P f → Q f) → (r : Result (Option F) E) → IfOk r (λ o. IfSome o P) → IfOk r (λ o. IfSome o Q)
read_as P Q step (Ok None) h = tt
read_as P Q step (Ok (Some f)) h = step f h
read_as P Q step (Err e) h = tt

pub refused_as : {F E : Type 0} (P Q : Type 0) → (P → Q) → (r : Result (Option F) E) → IfOk r (λ o. o ≡ None → P) → IfOk r (λ o. o ≡ None → Q)
refused_as P Q step (Ok o) h = λ e. step (h e)
refused_as P Q step (Err e) h = tt
