-- The bytes of the small texts are visible: none is a blank or a newline.
use Rattle.std.proofs.Common.{◌≡◌, ℕ, suc, ◌<◌, ◌≤◌, Bool, true, false, cond, eqb, ◌&&◌, ◌⊎◌, inl, inr, ℤ, pos, negsuc, List, [], ◌∷◌, ◌++◌, refl, sym, ap, ◌∙◌, subst, append-nil, arith, IsTrue}
use Rattle.std.specs.Prelude.{codes, decimal, sum, nat_le}
use Rattle.std.specs.List.{AllByRecursion, flat_map, zip}
use Rattle.std.specs.Fmt.{signed_decimal}
use Rattle.ring_law.specs.declared.fraction.Frac.{Frac}
use Rattle.ext_algebra.specs.declared.algebra.Algebra.{Algebra}
use Rattle.ext_algebra.specs.declared.algebra.Algebra.TheVariants as algebras
use Rattle.ext_algebra.specs.declared.algebra.Ext.{Ext}
use Rattle.ext_algebra.specs.Algebra.{is_algebra, is_element}
use Rattle.ext_algebra.specs.Fractions.{is_frac}
use Rattle.mono_exp.specs.declared.exponent.Exp.{Exp}
use Rattle.jet_poly.specs.JetTerms.{JetTerms}
use Rattle.poly_text.specs.declared.name.Name.{Name}
use Rattle.poly_text.specs.Numbers.{component_text, components_text, element_text, fraction_text, over_text}
use Rattle.poly_text.specs.Polynomials.{is_one, jet_text, monomial_in, monomial_text, name_text, polynomial_in, without_star}
use Rattle.cert_text.specs.Text.{algebra_text, cubic_text, opposite_text, other_sign, square_text}
use Rattle.cert_text.specs.WellFormed.{is_monomial_in, is_valid_name, IsJetOf}
use Rattle.cert_law.specs.Fields.{IsBody, IsInside, IsMonomial}
use Rattle.cert_law.proofs.Jets.{factors_inside, starred_front}
use Rattle.cert_law.proofs.Monomials.{starred}
use Rattle.cert_law.proofs.Numbers.{all_append}
use Rattle.cert_law.proofs.Parts.{IsNameByte, name_by, name_bytes}
use Rattle.cert_law.proofs.Series.{no_factors}
use Rattle.cert_law.proofs.Valid.{all_to, both}
use Rattle.text_reader.specs.Digits.{is_natural}
use Rattle.text_reader.specs.Moduli.{AreThree, IsQuadratic}
use Rattle.text_reader.specs.Pieces.{AreFractions, AreValid, IsSign}
use Rattle.text_reader.specs.Terms.{IsHigherTerm, IsLongTerm, IsSimpleTerm, term_text, terms_text}
use Rattle.text_reader.proofs.ComponentTexts.{Admits, natural_all}
use Rattle.text_reader.proofs.ElementTexts.{element_fractions}
use Rattle.text_reader.proofs.Fractions.{minus_is, opposite_of}
use Rattle.text_reader.proofs.ModulusTexts.{cubic_bodies, cubic_letters, cubic_three, quadratic_bodies, quadratic_letters, three_valid, tower_three}
use Rattle.text_reader.proofs.MonomialTexts.{monomial_valid}
use Rattle.text_reader.proofs.PolynomialTexts.{constant_more, jet_terms, split_constant}
use Rattle.text_reader.proofs.TermTexts.{components_all, element_all, factors_there, long_is, numbers_all, simple_shape, term_cases, without_all}
use Rattle.text_reader.proofs.Visible.{IsVisible}

visible : Admits IsVisible
visible = record { digit = λ b d. omega (arith, d.0); slash = omega arith; star = omega arith; caret = omega arith; s = omega arith; t = omega arith }

-- ---- fractions and elements

fraction_by : (z : ℤ) (q : Frac) → q.num ≡ z → IsTrue (is_frac q) → AllByRecursion IsVisible (fraction_text q)
fraction_by (pos n) q e valid = natural_all IsVisible visible q (valid, ap is_natural e)
fraction_by (negsuc n) q e valid =
    let text : fraction_text q ≡ 45 ∷ (decimal (suc n) ++ over_text q.den) = ap (λ z. signed_decimal z ++ over_text q.den) e in
    let h = minus_is q (decimal (suc n) ++ over_text q.den) valid text in
    subst (AllByRecursion IsVisible) (sym text) (omega arith, subst (AllByRecursion IsVisible) h.text (natural_all IsVisible visible (opposite_of q) h.natural))

pub visible-fraction : (q : Frac) → IsTrue (is_frac q) → AllByRecursion IsVisible (fraction_text q)
visible-fraction q valid = fraction_by q.num q refl valid

components_visible : (e : Ext Frac) → AreFractions e → AllByRecursion IsVisible (components_text e)
components_visible e ok = components_all IsVisible visible (omega arith) (omega arith) e ok

pub visible-components : (e : Ext Frac) → AreFractions e → AllByRecursion IsVisible (element_text e)
visible-components e ok = element_all IsVisible visible (omega arith) (omega arith) e ok

pub visible-element : (a : Algebra) (e : Ext Frac) → IsTrue (is_element a e) → AllByRecursion IsVisible (element_text e)
visible-element a e h = visible-components e (element_fractions a e h).0

-- ---- algebras

-- numbers before powers of t
visible_numbers : (qs : List Frac) (bodies : List (List ℕ)) → AreValid qs → AllByRecursion IsBody bodies → AllByRecursion (AllByRecursion IsVisible) bodies → AllByRecursion IsVisible (flat_map component_text (zip qs bodies))
visible_numbers qs bodies valid are all = numbers_all IsVisible visible (omega arith) (omega arith) qs bodies valid are all

visible_t : AllByRecursion IsVisible (codes "*t")
visible_t = (omega arith, (omega arith, tt))

visible_square : AllByRecursion IsVisible (codes "*t^2")
visible_square = (omega arith, (omega arith, (omega arith, (omega arith, tt))))

pub visible-quadratic : (a : Algebra) → IsQuadratic a → AllByRecursion IsVisible (algebra_text a)
unfolding algebra_text
visible-quadratic algebras.Rational h = absurd h
visible-quadratic (algebras.Quadratic m1 m0) h = (omega arith, (omega arith, (omega arith, visible_numbers (m1 ∷ m0 ∷ []) quadratic_letters (h.0, (h.1, tt)) quadratic_bodies.0 (visible_t, (tt, tt)))))
visible-quadratic (algebras.Cubic m2 m1 m0) h = absurd h
visible-quadratic (algebras.Tower m2 m1 m0 d) h = absurd h

pub visible-cubic : (m : Frac × Frac × Frac) → AreThree m → AllByRecursion IsVisible (cubic_text m.0 m.1 m.2)
visible-cubic m h = (omega arith, (omega arith, (omega arith, visible_numbers (m.0 ∷ m.1 ∷ m.2 ∷ []) cubic_letters (three_valid m h) cubic_bodies.0 (visible_square, (visible_t, (tt, tt))))))

-- a blank or a byte above
abbrev pub IsPrinted : ℕ → Type 0
IsPrinted b = 32 ≤ b

printed : (bs : List ℕ) → AllByRecursion IsVisible bs → AllByRecursion IsPrinted bs
printed bs all = all_to IsVisible IsPrinted (λ b le. omega (arith, le)) bs all

sign_printed : (b : ℕ) → IsVisible b → IsPrinted (other_sign b)
sign_printed b le = by_tests (eqb b 43) (eqb b 45)
  where
    by_tests : (s t : Bool) → IsPrinted (cond s 45 (cond t 43 b))
    by_tests true t = omega arith
    by_tests false true = omega arith
    by_tests false false = omega (arith, le)

opposite_printed : (bs : List ℕ) → AllByRecursion IsVisible bs → AllByRecursion IsPrinted (opposite_text bs)
opposite_printed [] all = tt
opposite_printed (b ∷ bs) all = (sign_printed b all.0, printed bs all.1)

square_printed : (d : Frac) → IsTrue (is_frac d) → AllByRecursion IsPrinted (square_text d)
square_printed d valid =
    let piece : AllByRecursion IsVisible (component_text (d, [])) = subst (AllByRecursion IsVisible) (append-nil (component_text (d, []))) (visible_numbers (d ∷ []) ([] ∷ []) (valid, tt) (tt, tt) (tt, tt)) in
    (omega arith, (omega arith, (omega arith, (omega arith, (omega arith, (omega arith, opposite_printed (component_text (d, [])) piece))))))

pub printed-algebra : (a : Algebra) → IsTrue (is_algebra a) → AllByRecursion IsPrinted (algebra_text a)
unfolding algebra_text is_algebra
printed-algebra algebras.Rational h = (omega arith, tt)
printed-algebra (algebras.Quadratic m1 m0) h = printed (algebra_text (algebras.Quadratic m1 m0)) (visible-quadratic (algebras.Quadratic m1 m0) (both (is_frac m1) (is_frac m0) h))
printed-algebra (algebras.Cubic m2 m1 m0) h = printed (cubic_text m2 m1 m0) (visible-cubic (m2, m1, m0) (cubic_three m2 m1 m0 h))
printed-algebra (algebras.Tower m2 m1 m0 d) h =
    let p = tower_three m2 m1 m0 d h in
    all_append IsPrinted (cubic_text m2 m1 m0) (square_text d) (printed (cubic_text m2 m1 m0) (visible-cubic (m2, m1, m0) p.0)) (square_printed d p.1)

-- ---- names and monomials

pub visible-name : (name : Name) → IsTrue (is_valid_name name) → AllByRecursion IsVisible (name_text name)
visible-name name h =
    let p = name_by name h in
    subst (AllByRecursion IsVisible) (sym p.text) (all_to IsNameByte IsVisible (λ b le. omega (arith, le)) _ (name_bytes _ p.spelled))

inside_visible : (b : ℕ) → IsInside b → IsVisible b
inside_visible b (inl le) = omega (arith, le)
inside_visible b (inr is) = omega (arith, is)

factors_visible : (m : Exp) → IsMonomial m → is_one m ≡ false → AllByRecursion IsVisible (starred m)
factors_visible m is higher = all_to IsInside IsVisible inside_visible (starred m) (factors_inside (starred m) (starred_front m is higher))

behind_star : (x : List ℕ) → AllByRecursion IsVisible x → AllByRecursion IsVisible (without_star x)
behind_star [] h = (omega arith, tt)
behind_star (b ∷ bs) h = h.1

pub visible-power : (m : Exp) → IsMonomial m → AllByRecursion IsVisible (monomial_text m)
unfolding monomial_in
visible-power m is = behind_star (starred m) (by_test (is_one m) refl)
  where
    by_test : (t : Bool) → is_one m ≡ t → AllByRecursion IsVisible (starred m)
    by_test true e = subst (AllByRecursion IsVisible) (sym (no_factors m is e)) tt
    by_test false e = factors_visible m is e

pub visible-monomial : (n most : ℕ) (m : Exp) → most < 256 → IsTrue (is_monomial_in n m && nat_le (sum m.e) most) → AllByRecursion IsVisible (monomial_text m)
visible-monomial n most m lt h = visible-power m (monomial_valid n most m lt h)

-- ---- polynomials

sign_visible : (b : ℕ) → IsSign b → IsVisible b
sign_visible b (inl e) = omega (arith, e)
sign_visible b (inr e) = omega (arith, e)

term_visible : (t : Exp × Ext Frac) → IsHigherTerm t → AllByRecursion IsVisible (term_text t)
term_visible t h = by_case (term_cases t h)
  where
    by_case : IsSimpleTerm t ⊎ IsLongTerm t → AllByRecursion IsVisible (term_text t)
    by_case (inl s) =
        let r = factors_there t.0 s.monomial s.higher in
        let p = simple_shape IsVisible visible t s r.0 r.1 in
        let more = subst (AllByRecursion IsVisible) r.1 (factors_visible t.0 s.monomial s.higher) in
        subst (AllByRecursion IsVisible) (sym p.2.is) (sign_visible p.0 p.2.sign, all_append IsVisible p.1 (117 ∷ r.0) p.2.inside more.1)
    by_case (inr s) =
        subst (AllByRecursion IsVisible) (sym (long_is t s))
        (omega arith, (omega arith, all_append IsVisible (element_text t.1) (41 ∷ starred t.0) (visible-components t.1 s.fractions) (omega arith, factors_visible t.0 s.monomial s.higher)))

terms_visible : (ts : List (Exp × Ext Frac)) → AllByRecursion IsHigherTerm ts → AllByRecursion IsVisible (terms_text ts)
terms_visible [] h = tt
terms_visible (t ∷ ts) h = all_append IsVisible (term_text t) (terms_text ts) (term_visible t h.0) (terms_visible ts h.1)

pub visible-jet : (n order : ℕ) (a : Algebra) (f : JetTerms (Ext Frac)) → order < 256 → IsJetOf n order a f → AllByRecursion IsVisible (jet_text f)
unfolding polynomial_in
visible-jet n order a f lt is =
    let s = split_constant n order a f.terms lt (jet_terms n order a f is) in
    let text : terms_text f.terms ≡ components_text s.0 ++ terms_text s.1 = ap terms_text s.2.is ∙ constant_more s.0 s.1 s.2.fractions in
    without_all IsVisible (omega arith) (terms_text f.terms) (subst (AllByRecursion IsVisible) (sym text) (all_append IsVisible (components_text s.0) (terms_text s.1) (components_visible s.0 s.2.fractions) (terms_visible s.1 s.2.higher)))
