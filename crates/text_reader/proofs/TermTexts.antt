-- Terms that are not constant, by their texts.
use Rattle.std.proofs.Common.{◌≡◌, ◌≢◌, ℕ, suc, ◌+◌, ◌-◌, ◌<◌, Bool, true, false, cond, ◌&&◌, eqb, ◌⊎◌, inl, inr, pos, negsuc, Option, Some, None, List, [], ◌∷◌, ◌++◌, length, take, drop, length-drop, refl, sym, ap, ◌∙◌, subst, append_assoc, append-nil, arith, IsTrue}
use Rattle.std.specs.Prelude.{IfSome, is_some, not, position}
use Rattle.std.specs.Borrow.{Bor}
use Rattle.std.specs.List.{AllByRecursion, flat_map, zip}
use Rattle.std.proofs.lemmas.List.{append_cancel_right, take_all, take-append-drop}
use Rattle.ring_law.specs.declared.fraction.Frac.{Frac}
use Rattle.ext_algebra.specs.declared.algebra.Ext.{Ext}
use Rattle.ext_algebra.specs.Fractions.{is_frac}
use Rattle.mono_exp.specs.declared.exponent.Exp.{Exp}
use Rattle.poly_text.specs.Numbers.{Piece, component_text, components, components_text, element_text, fraction_text, is_whole, is_zero_fraction, letters, numbers, piece_text, product_text, scaled_text, signed_text, sum_before, without_plus, without_zeros}
use Rattle.poly_text.specs.Polynomials.{is_one, term_in}
use Rattle.cert_text.specs.WellFormed.{is_zero_element}
use Rattle.cert_law.specs.Fields.{IsBody, IsMonomial, IsHigher}
use Rattle.cert_law.specs.Unique.{Starts}
use Rattle.cert_law.proofs.Cut.{head, cut, same_front}
use Rattle.cert_law.proofs.Elements as elements
use Rattle.cert_law.proofs.Jets.{higher_lump, higher_text, longer_body, lump_of, lump_tells, starred_front, factors_is, factors_inside}
use Rattle.cert_law.proofs.Lumps.{lump_one, lump_text}
use Rattle.cert_law.proofs.Monomials.{starred}
use Rattle.cert_law.proofs.Numbers.{IsDigit, all_append}
use Rattle.cert_law.proofs.Series.{no_factors}
use Rattle.cert_law.proofs.Sums.{sign_of}
use Rattle.cert_law.proofs.Terms.{lump_by}
use Rattle.cert_law.proofs.Valid.{both, some_piece}
use Rattle.text_reader.specs.Elements.{rational_element}
use Rattle.text_reader.specs.Pieces.{AreFractions, AreValid, IsCoefficient, IsLetters, IsSign, is_unit_of, joined}
use Rattle.text_reader.specs.Reading.{IsTextOf}
use Rattle.text_reader.specs.Terms.{before_factors, term_text, IsHigherTerm, IsLong, IsLongTerm, IsSimpleTerm, IsSingle, IsVariable, IsWritten}
use Rattle.text_reader.proofs.ComponentTexts.{Admits, IsBefore, all_unsigned, ends_piece, letters_all, lettered, not_zero, piece_shape, unsigned, zero_is}
use Rattle.text_reader.proofs.ElementTexts.{components_text_is, element_same, rational_fractions, small, some_product}
use Rattle.text_reader.proofs.PieceTexts.{Front, unit, written, front_of, other_text, signed_front, signed_list}
use Rattle.text_reader.proofs.Places.{byte_some}
use Rattle.text_reader.proofs.Visible.{cut_at, unsplit}

abbrev Term : Type 0
Term = Exp × Ext Frac

-- ---- coefficients: one component, or more

-- as the laws of unique reading have it
pub higher_of : (t : Term) → IsHigherTerm t → IsHigher t
higher_of t h = record { term = record { coefficient = small t.1 h.fractions; some = some_piece t.1 h.nonzero; monomial = h.monomial }; higher = h.higher }

zeros_none : (qs : List Frac) (bodies : List (List ℕ)) → AllByRecursion (λ q. is_zero_fraction q ≡ true) qs → without_zeros (zip qs bodies) ≡ []
zeros_none [] bodies zero_all = refl
zeros_none (q ∷ qs) [] zero_all = refl
zeros_none (q ∷ qs) (body ∷ bodies) zero_all =
    ap (λ (t : Bool). cond (not t) ((q, body) ∷ without_zeros (zip qs bodies)) (without_zeros (zip qs bodies))) zero_all.0 ∙ zeros_none qs bodies zero_all.1

pub zero_numbers : (e : Ext Frac) → is_zero_element e ≡ true → AllByRecursion (λ q. is_zero_fraction q ≡ true) (numbers e)
zero_numbers e z =
    let c0 = both _ _ z in
    let c1 = both _ _ c0.1 in
    let c2 = both _ _ c1.1 in
    let c3 = both _ _ c2.1 in
    let c4 = both _ _ c3.1 in
    (c0.0, (c1.0, (c2.0, (c3.0, (c4.0, (c4.1, tt))))))

zero_none : (e : Ext Frac) → is_zero_element e ≡ true → without_zeros (components e) ≡ []
zero_none e z = zeros_none (numbers e) letters (zero_numbers e z)

some_nonzero : (e : Ext Frac) → (without_zeros (components e) ≡ [] → ⊥) → is_zero_element e ≡ false
some_nonzero e some = by_test (is_zero_element e) refl
  where
    by_test : (t : Bool) → is_zero_element e ≡ t → is_zero_element e ≡ false
    by_test false z = z
    by_test true z = absurd (some (zero_none e z))

one_or_none : (p : Piece) (ps : List Piece) → ps ≡ p ∷ [] → ps ≡ [] → ⊥
one_or_none p ps one none = let h : p ∷ [] ≡ [] = sym one ∙ none in cc

pub simple_higher : (t : Term) → IsSimpleTerm t → IsHigherTerm t
simple_higher t s = record {
  fractions = s.fractions;
  nonzero = some_nonzero t.1 (one_or_none s.single.0 (without_zeros (components t.1)) s.single.1);
  monomial = s.monomial;
  higher = s.higher;
}

pub long_higher : (t : Term) → IsLongTerm t → IsHigherTerm t
long_higher t s = record {
  fractions = s.fractions;
  nonzero = some_nonzero t.1 (λ none. (let h : length (without_zeros (components t.1)) ≡ 0 = ap (λ (ps : List Piece). length ps) none in let k = s.long in omega (arith, h, k)));
  monomial = s.monomial;
  higher = s.higher;
}

cases_by : (ps : List Piece) (t : Term) → without_zeros (components t.1) ≡ ps → IsHigherTerm t → IsSimpleTerm t ⊎ IsLongTerm t
cases_by [] t e h = absurd (some_piece t.1 h.nonzero e)
cases_by (p ∷ []) t e h = inl (record { fractions = h.fractions; single = (p, e); monomial = h.monomial; higher = h.higher })
cases_by (p ∷ q ∷ ps) t e h =
    inr (record {
      fractions = h.fractions;
      long = (let k : length (without_zeros (components t.1)) ≡ suc (suc (length ps)) = ap (λ (xs : List Piece). length xs) e in omega (arith, k));
      monomial = h.monomial;
      higher = h.higher;
    })

-- a coefficient has one component or more
pub term_cases : (t : Term) → IsHigherTerm t → IsSimpleTerm t ⊎ IsLongTerm t
term_cases t h = cases_by (without_zeros (components t.1)) t refl h

-- more than one piece, where there are some and not only one
many : (ps : List Piece) → (ps ≡ [] → ⊥) → ((p : Piece) → ps ≡ p ∷ [] → ⊥) → 1 < length ps
many [] some more = absurd (some refl)
many (p ∷ []) some more = absurd (more p refl)
many (p ∷ q ∷ ps) some more = omega arith

pub is_many : (e : Ext Frac) (z : Bool) → z ≡ is_zero_element e → z ≡ false → ((p : Piece) → without_zeros (components e) ≡ p ∷ [] → ⊥) → IsLong e
is_many e z is h more = many (without_zeros (components e)) (some_piece e (sym is ∙ h)) more

pub zero_short : (e : Ext Frac) (z : Bool) → z ≡ is_zero_element e → z ≡ true → IsLong e → ⊥
zero_short e z is h long = let k : length (without_zeros (components e)) ≡ 0 = ap (λ (ps : List Piece). length ps) (zero_none e (sym is ∙ h)) in omega (arith, k, long)

pub one_short : (e : Ext Frac) (p : Piece) → without_zeros (components e) ≡ p ∷ [] → IsLong e → ⊥
one_short e p one long = let k : length (without_zeros (components e)) ≡ 1 = ap (λ (ps : List Piece). length ps) one in omega (arith, k, long)

nothing_there : (r : Bool) → false ≡ not r → r ≡ true
nothing_there true h = refl
nothing_there false h = absurd cc

something_there : (r : Bool) → true ≡ not r → r ≡ true → ⊥
something_there true h there = absurd cc
something_there false h there = absurd cc

-- the test by the only component
pub long_test : (e : Ext Frac) (z : Bool) (only : Option (Frac × Bor (List ℕ))) (r : Bool) → z ≡ is_zero_element e → z ≡ false → is_some only ≡ not r → IfSome only (λ p. without_zeros (components e) ≡ (p.0, p.1.now) ∷ [])
    → (only ≡ None → (p : Piece) → without_zeros (components e) ≡ p ∷ [] → ⊥) → (r ≡ true → IsLong e) × (IsLong e → r ≡ true)
long_test e z None r is h test some none = (λ yes. is_many e z is h (none refl), λ long. nothing_there r test)
long_test e z (Some p) r is h test some none = (λ yes. absurd (something_there r test yes), λ long. absurd (one_short e (p.0, p.1.now) some long))

-- ---- the piece of a coefficient of one component

coefficient_step : (Q : List ℕ → Type 0) (t : Bool) (q : Frac) (body : List ℕ) (ps : List Piece) → is_zero_fraction q ≡ t → IsTrue (is_frac q) → Q body → AllByRecursion (λ p. IsCoefficient p.0 × Q p.1) ps
    → AllByRecursion (λ p. IsCoefficient p.0 × Q p.1) (cond (not t) ((q, body) ∷ ps) ps)
coefficient_step Q true q body ps e valid is more = more
coefficient_step Q false q body ps e valid is more = (((valid, elements.not_zero q e), is), more)

coefficients : (Q : List ℕ → Type 0) (qs : List Frac) (bodies : List (List ℕ)) → AreValid qs → AllByRecursion Q bodies → AllByRecursion (λ p. IsCoefficient p.0 × Q p.1) (without_zeros (zip qs bodies))
coefficients Q [] bodies valid is = tt
coefficients Q (q ∷ qs) [] valid is = tt
coefficients Q (q ∷ qs) (body ∷ bodies) valid is = coefficient_step Q (is_zero_fraction q) q body (without_zeros (zip qs bodies)) refl valid.0 is.0 (coefficients Q qs bodies valid.1 is.1)

-- its number is a coefficient, and its body is one of the letters
pub single_piece : (Q : List ℕ → Type 0) → AllByRecursion Q letters → (e : Ext Frac) → AreFractions e → (p : Piece) → without_zeros (components e) ≡ p ∷ [] → IsCoefficient p.0 × Q p.1
single_piece Q is e ok p one = (subst (AllByRecursion (λ p. IsCoefficient p.0 × Q p.1)) one (coefficients Q (numbers e) letters ok is)).0

single_components : (e : Ext Frac) (p : Piece) → without_zeros (components e) ≡ p ∷ [] → components_text e ≡ piece_text p
single_components e p one = elements.components_are e ∙ ap (λ (ps : List Piece). flat_map piece_text ps) one ∙ append-nil (piece_text p)

pub single_scaled : (e : Ext Frac) (p : Piece) (body : List ℕ) → without_zeros (components e) ≡ p ∷ [] → scaled_text e body ≡ product_text p.0 (p.1 ++ body)
unfolding scaled_text
single_scaled e p body one = ap (λ (ps : List Piece). sum_before ps (element_text e) body) one

some_end : (f : List ℕ) (star : ℕ) (body : List ℕ) → 0 < length (f ++ star ∷ body)
some_end [] star body = omega arith
some_end (b ∷ f) star body = omega arith

star_by : (a b d : Bool) (star : ℕ) (body f y : List ℕ) → 0 < length body
    → signed_text (cond (a && b) (body ++ y) (cond (a && d) (45 ∷ (body ++ y)) (f ++ star ∷ (body ++ y)))) ≡ signed_text (cond (a && b) body (cond (a && d) (45 ∷ body) (f ++ star ∷ body))) ++ y
star_by true true d star body f y some = signed_front body y some
star_by true false true star body f y some = refl
star_by true false false star body f y some = ap signed_text (sym (append_assoc f (star ∷ body) y)) ∙ signed_front (f ++ star ∷ body) y (some_end f star body)
star_by false b d star body f y some = ap signed_text (sym (append_assoc f (star ∷ body) y)) ∙ signed_front (f ++ star ∷ body) y (some_end f star body)

-- a star and more behind a piece, where its number is written or has letters
star_text : (q : Frac) (body x : List ℕ) → IsTrue (is_frac q) → IsBody body → (body ≡ [] → is_unit_of q ≡ false) → signed_text (product_text q (body ++ 42 ∷ x)) ≡ piece_text (q, body) ++ 42 ∷ x
star_text q [] x valid is other = other_text q x valid (other refl)
star_text q (star ∷ []) x valid is other = absurd is
star_text q (star ∷ c ∷ r) x valid is other = star_by (is_whole q.den (pos 1)) (is_whole q.num (pos 1)) (is_whole q.num (negsuc 0)) star (c ∷ r) (fraction_text q) (42 ∷ x) (omega arith)

-- ---- the texts

-- the coefficient before the factors
pub term_scaled : (t : Term) → is_one t.0 ≡ false → term_text t ≡ signed_text (scaled_text t.1 (starred t.0))
unfolding term_in
term_scaled t higher = ap (λ (b : Bool). cond b (components_text t.1) (signed_text (scaled_text t.1 (starred t.0)))) higher

-- one component: its number and letters before the factors
pub simple_is : (t : Term) (s : IsSimpleTerm t) → term_text t ≡ signed_text (product_text s.single.0.0 (s.single.0.1 ++ starred t.0))
simple_is t s = term_scaled t s.higher ∙ ap signed_text (single_scaled t.1 s.single.0 (starred t.0) s.single.1)

lump_long : (ps : List Piece) (e : Ext Frac) (body : List ℕ) → 1 < length ps → lump_text (lump_by ps e body) ≡ 43 ∷ 40 ∷ (element_text e ++ 41 ∷ body)
lump_long [] e body h = absurd (omega (arith, h))
lump_long (p ∷ []) e body h = absurd (omega (arith, h))
lump_long (p ∷ q ∷ ps) e body h = refl

-- more components: parentheses before the factors
pub long_is : (t : Term) → IsLongTerm t → term_text t ≡ 43 ∷ 40 ∷ (element_text t.1 ++ 41 ∷ starred t.0)
long_is t s = higher_text t (higher_of t (long_higher t s)) ∙ lump_long (without_zeros (components t.1)) t.1 (starred t.0) s.long

-- two terms of one text are one
pub term_one : (t u : Term) (x y : List ℕ) → IsHigherTerm t → IsHigherTerm u → Starts IsSign x → Starts IsSign y → term_text t ++ x ≡ term_text u ++ y → (t ≡ u) × (x ≡ y)
term_one t u x y ht hu sx sy e =
    let there : lump_text (lump_of t) ++ x ≡ lump_text (lump_of u) ++ y = ap (λ z. z ++ x) (sym (higher_text t (higher_of t ht))) ∙ e ∙ ap (λ z. z ++ y) (higher_text u (higher_of u hu)) in
    let h = lump_one (lump_of t) (lump_of u) x y (higher_lump t (higher_of t ht)) (higher_lump u (higher_of u hu)) (ends_piece x sx) (ends_piece y sy) there in
    (lump_tells t u (higher_of t ht) (higher_of u hu) h.0, h.1)

-- ---- the factors of a monomial other than 1

pub not_one : (m : Exp) (x : List ℕ) → IsMonomial m → starred m ≡ 42 ∷ x → is_one m ≡ false
not_one m x is e = by_test (is_one m) refl
  where
    by_test : (t : Bool) → is_one m ≡ t → is_one m ≡ false
    by_test false h = h
    by_test true h = absurd (let none = no_factors m is h in cc (none, e))

-- a star and a u at the front
pub factors_there : (m : Exp) → IsMonomial m → is_one m ≡ false → (r : List ℕ) × (starred m ≡ 42 ∷ 117 ∷ r)
factors_there m is higher = factors_is (starred m) (starred_front m is higher)

-- no sign in them
pub factors_unsigned : (m : Exp) → IsMonomial m → is_one m ≡ false → AllByRecursion (λ b. ¬ IsSign b) (starred m)
factors_unsigned m is higher = all_unsigned (starred m) (factors_inside (starred m) (starred_front m is higher))

pub starred_some : (bytes factors : List ℕ) (r : Option Exp) → bytes ≡ 42 ∷ factors → IfSome r (IsTextOf IsMonomial starred (42 ∷ factors)) → IfSome r (λ m. IsMonomial m × (is_one m ≡ false) × (starred m ≡ bytes))
starred_some bytes factors None e h = tt
starred_some bytes factors (Some m) e h = (h.0, not_one m factors h.0 h.1, h.1 ∙ sym e)

-- ---- one component

-- a coefficient before letters: a sign, and bytes of a kind
shape : (P : ℕ → Type 0) → Admits P → (q : Frac) (body x : List ℕ) → IsTrue (is_frac q) → IsBody body → AllByRecursion P body → IsLetters x → (s : ℕ) × (m : List ℕ) × IsBefore P (signed_text (product_text q (body ++ 42 ∷ x))) s m x
shape P adm q [] x valid is all h = lettered P adm q x valid h
shape P adm q (star ∷ []) x valid is all h = absurd is
shape P adm q (star ∷ c ∷ r) x valid is all h =
    let p = piece_shape P adm (star ∷ c ∷ r) q is all valid in (
      p.0,
      p.1 ++ 42 ∷ [],
      record {
        is = star_text q (star ∷ c ∷ r) x valid is (λ none. absurd cc) ∙ ap (λ z. z ++ 42 ∷ x) p.2.is ∙ ap (λ z. p.0 ∷ z) (sym (append_assoc p.1 (42 ∷ []) x));
        sign = p.2.sign;
        inside = all_append P p.1 (42 ∷ []) p.2.inside (adm.star, tt);
      },
    )

-- the same of an element of one component
single_shape : (P : ℕ → Type 0) → Admits P → (e : Ext Frac) (x : List ℕ) → AreFractions e → IsSingle e → IsLetters x → (s : ℕ) × (m : List ℕ) × IsBefore P (before_factors e x) s m x
single_shape P adm e x ok single h =
    let is = single_piece IsBody elements.letters_are e ok single.0 single.1 in
    let all = single_piece (AllByRecursion P) (letters_all P adm) e ok single.0 single.1 in
    let p = shape P adm single.0.0 single.0.1 x is.0.0 is.1 all.1 h in
    (p.0, p.1, record { is = ap signed_text (single_scaled e single.0 (42 ∷ x) single.1) ∙ p.2.is; sign = p.2.sign; inside = p.2.inside })

-- a sign, bytes of this kind, and the factors from the first variable on
pub simple_shape : (P : ℕ → Type 0) → Admits P → (t : Term) (s : IsSimpleTerm t) (r : List ℕ) → starred t.0 ≡ 42 ∷ 117 ∷ r → (b : ℕ) × (m : List ℕ) × IsBefore P (term_text t) b m (117 ∷ r)
simple_shape P adm t s r e =
    let p = single_shape P adm t.1 (117 ∷ r) s.fractions s.single (omega arith) in
    (p.0, p.1, record { is = term_scaled t s.higher ∙ ap (λ z. signed_text (scaled_text t.1 z)) e ∙ p.2.is; sign = p.2.sign; inside = p.2.inside })

other_than : (c : ℕ) → ((b : ℕ) → IsDigit b → b ≢ c) → c ≢ 47 → c ≢ 42 → c ≢ 94 → c ≢ 115 → c ≢ 116 → Admits (λ b. b ≢ c)
other_than c digit slash star caret s t = record { digit = digit; slash = λ e. slash (sym e); star = λ e. star (sym e); caret = λ e. caret (sym e); s = λ e. s (sym e); t = λ e. t (sym e) }

no_variable : Admits (λ b. b ≢ 117)
no_variable = other_than 117 (λ b d e. omega (arith, d.1, e)) (λ e. omega (arith, e)) (λ e. omega (arith, e)) (λ e. omega (arith, e)) (λ e. omega (arith, e)) (λ e. omega (arith, e))

variable_shape : (t : Term) (s : IsSimpleTerm t) (r : List ℕ) → starred t.0 ≡ 42 ∷ 117 ∷ r → (b : ℕ) × (m : List ℕ) × IsBefore (λ b. b ≢ 117) (term_text t) b m (117 ∷ r)
variable_shape t s r e = simple_shape (λ b. b ≢ 117) no_variable t s r e

-- the factors stand from the first variable on
pub simple_split : (t : Term) (s : IsSimpleTerm t) (sign : ℕ) (magnitude front factors : List ℕ) → term_text t ≡ sign ∷ magnitude → magnitude ≡ front ++ factors → IsVariable factors → AllByRecursion (λ b. b ≢ 117) front → starred t.0 ≡ 42 ∷ factors
simple_split t s sign magnitude front [] e split v free = absurd v
simple_split t s sign magnitude front (c ∷ cs) e split v free =
    let f = factors_there t.0 s.monomial s.higher in
    let p = variable_shape t s f.0 f.1 in
    let k = head p.0 sign (p.1 ++ 117 ∷ f.0) magnitude (sym p.2.is ∙ e) in
    let r = cut_at 117 p.1 front f.0 cs p.2.inside free (k.1 ∙ split ∙ ap (λ (b : ℕ). front ++ b ∷ cs) v) in
    f.1 ∙ (λ i. 42 ∷ sym v i ∷ r.1 i)

pub variable_there : (t : Term) (s : IsSimpleTerm t) (sign : ℕ) (magnitude : List ℕ) → term_text t ≡ sign ∷ magnitude → AllByRecursion (λ b. b ≢ 117) magnitude → ⊥
variable_there t s sign magnitude e free =
    let f = factors_there t.0 s.monomial s.higher in
    let p = variable_shape t s f.0 f.1 in
    unsplit 117 p.1 f.0 magnitude free (head p.0 sign (p.1 ++ 117 ∷ f.0) magnitude (sym p.2.is ∙ e)).1

pub variable_letters : (factors : List ℕ) → IsVariable factors → IsLetters factors
variable_letters [] v = v
variable_letters (b ∷ bs) v = omega (arith, v)

-- the text before the factors is that of the coefficient
pub simple_front : (t : Term) (s : IsSimpleTerm t) (sign : ℕ) (magnitude front factors : List ℕ) → term_text t ≡ sign ∷ magnitude → magnitude ≡ front ++ factors → starred t.0 ≡ 42 ∷ factors → before_factors t.1 factors ≡ sign ∷ (front ++ factors)
simple_front t s sign magnitude front factors e split there = ap (λ z. signed_text (scaled_text t.1 z)) (sym there) ∙ sym (term_scaled t s.higher) ∙ e ∙ ap (λ z. sign ∷ z) split

-- a term from what was read of it
pub simple_read : (e : Ext Frac) (m : Exp) (sign : ℕ) (magnitude front factors : List ℕ) → AreFractions e → IsSingle e → before_factors e factors ≡ sign ∷ (front ++ factors) → magnitude ≡ front ++ factors → IsTextOf IsMonomial starred (42 ∷ factors) m
    → IsTextOf IsSimpleTerm term_text (sign ∷ magnitude) (m, e)
simple_read e m sign magnitude front factors ok single text split is =
    let s : IsSimpleTerm (m, e) = record { fractions = ok; single = single; monomial = is.0; higher = not_one m factors is.0 is.1 } in
    (s, term_scaled (m, e) s.higher ∙ ap (λ z. signed_text (scaled_text e z)) is.1 ∙ text ∙ ap (λ z. sign ∷ z) (sym split))

-- the front of a sum up to the next sign is the term that stands there
pub simple_cut : (t : Term) (s : IsSimpleTerm t) (sign : ℕ) (magnitude x y : List ℕ) → AllByRecursion (λ b. ¬ IsSign b) magnitude → Starts IsSign x → Starts IsSign y → sign ∷ (magnitude ++ x) ≡ term_text t ++ y → term_text t ≡ sign ∷ magnitude
simple_cut t s sign magnitude x y free sx sy e =
    let f = factors_there t.0 s.monomial s.higher in
    let p = simple_shape (λ b. ¬ IsSign b) unsigned t s f.0 f.1 in
    let all : AllByRecursion (λ b. ¬ IsSign b) (p.1 ++ 117 ∷ f.0) = all_append (λ b. ¬ IsSign b) p.1 (117 ∷ f.0) p.2.inside (subst (AllByRecursion (λ b. ¬ IsSign b)) f.1 (factors_unsigned t.0 s.monomial s.higher)).1 in
    let k = head sign p.0 (magnitude ++ x) ((p.1 ++ 117 ∷ f.0) ++ y) (e ∙ ap (λ z. z ++ y) p.2.is) in
    let r = cut (λ b. ¬ IsSign b) IsSign (λ b i o. i o) magnitude (p.1 ++ 117 ∷ f.0) x y free all sx sy k.1 in
    p.2.is ∙ (λ i. sym k.0 i ∷ sym r.0 i)

second : (m r y inside : List ℕ) → AllByRecursion (λ b. b ≢ 40) m → (m ++ 117 ∷ r) ++ y ≡ 40 ∷ inside → ⊥
second [] r y inside free e = let h = head 117 40 (r ++ y) inside e in omega (arith, h.0)
second (b ∷ bs) r y inside free e = free.0 (head b 40 ((bs ++ 117 ∷ r) ++ y) inside e).0

-- no parenthesis behind its sign
pub simple_open : (t : Term) (s : IsSimpleTerm t) (sign : ℕ) (inside y : List ℕ) → sign ∷ 40 ∷ inside ≡ term_text t ++ y → ⊥
simple_open t s sign inside y e =
    let f = factors_there t.0 s.monomial s.higher in
    let p = simple_shape (λ b. b ≢ 40) (other_than 40 (λ b d h. omega (arith, d.0, h)) (λ h. omega (arith, h)) (λ h. omega (arith, h)) (λ h. omega (arith, h)) (λ h. omega (arith, h)) (λ h. omega (arith, h))) t s f.0 f.1 in
    second p.1 f.0 y inside p.2.inside (head p.0 sign ((p.1 ++ 117 ∷ f.0) ++ y) (40 ∷ inside) (ap (λ z. z ++ y) (sym p.2.is) ∙ sym e)).1

-- ---- more components

component_all : (P : ℕ → Type 0) → Admits P → P 43 → P 45 → (t : Bool) (q : Frac) (body : List ℕ) → IsTrue (is_frac q) → IsBody body → AllByRecursion P body → AllByRecursion P (cond t [] (piece_text (q, body)))
component_all P adm plus minus true q body valid is all = tt
component_all P adm plus minus false q body valid is all =
    let p = piece_shape P adm body q is all valid in
    subst (AllByRecursion P) (sym p.2.is) (by_sign p.0 p.2.sign, p.2.inside)
  where
    by_sign : (b : ℕ) → IsSign b → P b
    by_sign b (inl e) = subst P (sym e) plus
    by_sign b (inr e) = subst P (sym e) minus

-- the bytes of numbers before bodies
pub numbers_all : (P : ℕ → Type 0) → Admits P → P 43 → P 45 → (qs : List Frac) (bodies : List (List ℕ)) → AreValid qs → AllByRecursion IsBody bodies → AllByRecursion (AllByRecursion P) bodies → AllByRecursion P (flat_map component_text (zip qs bodies))
numbers_all P adm plus minus [] bodies valid are all = tt
numbers_all P adm plus minus (q ∷ qs) [] valid are all = tt
numbers_all P adm plus minus (q ∷ qs) (body ∷ bodies) valid are all =
    all_append P (component_text (q, body)) (flat_map component_text (zip qs bodies)) (component_all P adm plus minus (is_zero_fraction q) q body valid.0 are.0 all.0) (numbers_all P adm plus minus qs bodies valid.1 are.1 all.1)

pub components_all : (P : ℕ → Type 0) → Admits P → P 43 → P 45 → (e : Ext Frac) → AreFractions e → AllByRecursion P (components_text e)
components_all P adm plus minus e ok = subst (AllByRecursion P) (sym (components_text_is e)) (numbers_all P adm plus minus (numbers e) letters ok elements.letters_are (letters_all P adm))

pub without_all : (P : ℕ → Type 0) → P 48 → (xs : List ℕ) → AllByRecursion P xs → AllByRecursion P (without_plus xs)
without_all P zero_is [] h = (zero_is, tt)
without_all P zero_is (b ∷ bs) h = by_test (eqb b 43)
  where
    by_test : (t : Bool) → AllByRecursion P (cond t bs (b ∷ bs))
    by_test true = h.1
    by_test false = h

-- the bytes of an element
pub element_all : (P : ℕ → Type 0) → Admits P → P 43 → P 45 → (e : Ext Frac) → AreFractions e → AllByRecursion P (element_text e)
unfolding element_text
element_all P adm plus minus e ok = without_all P (adm.digit 48 (omega arith, omega arith)) (components_text e) (components_all P adm plus minus e ok)

-- no parenthesis in an element
pub element_closed : (e : Ext Frac) → AreFractions e → AllByRecursion (λ b. b ≢ 41) (element_text e)
element_closed e ok = element_all (λ b. b ≢ 41) (other_than 41 (λ b d h. omega (arith, d.0, h)) (λ h. omega (arith, h)) (λ h. omega (arith, h)) (λ h. omega (arith, h)) (λ h. omega (arith, h)) (λ h. omega (arith, h))) (λ h. omega (arith, h)) (λ h. omega (arith, h)) e ok

pub bracket_cut : (e : Ext Frac) (bytes inside behind rest : List ℕ) → AreFractions e → bytes ≡ inside ++ 41 ∷ behind → AllByRecursion (λ b. b ≢ 41) inside → bytes ≡ element_text e ++ 41 ∷ rest → element_text e ≡ inside
bracket_cut e bytes inside behind rest ok split free h = (cut_at 41 (element_text e) inside rest behind (element_closed e ok) free (sym h ∙ split)).0

pub bracket_there : (e : Ext Frac) (bytes rest : List ℕ) → AllByRecursion (λ b. b ≢ 41) bytes → bytes ≡ element_text e ++ 41 ∷ rest → ⊥
bracket_there e bytes rest free h = unsplit 41 (element_text e) rest bytes free (sym h)

-- the element in the parentheses was read
pub bracket_one : (e f : Ext Frac) (bytes rest behind : List ℕ) → AreFractions e → AreFractions f → bytes ≡ element_text e ++ 41 ∷ rest → bytes ≡ element_text f ++ 41 ∷ behind → (e ≡ f) × (rest ≡ behind)
bracket_one e f bytes rest behind he hf h k =
    let r = cut_at 41 (element_text e) (element_text f) rest behind (element_closed e he) (element_closed f hf) (sym h ∙ k) in
    (element_same e f he hf r.0, r.1)

-- a term with parentheses, behind the one that opens them
pub long_behind : (t : Term) (bytes rest : List ℕ) → IsLongTerm t → 43 ∷ 40 ∷ bytes ≡ term_text t ++ rest → bytes ≡ element_text t.1 ++ 41 ∷ (starred t.0 ++ rest)
long_behind t bytes rest s e =
    let k = head 43 43 (40 ∷ bytes) (40 ∷ ((element_text t.1 ++ 41 ∷ starred t.0) ++ rest)) (e ∙ ap (λ z. z ++ rest) (long_is t s)) in
    (head 40 40 bytes ((element_text t.1 ++ 41 ∷ starred t.0) ++ rest) k.1).1 ∙ append_assoc (element_text t.1) (41 ∷ starred t.0) rest

pub long_front : (t : Term) (bytes rest : List ℕ) → IsLongTerm t → bytes ≡ element_text t.1 ++ 41 ∷ (starred t.0 ++ rest) → 43 ∷ 40 ∷ bytes ≡ term_text t ++ rest
long_front t bytes rest s e = ap (λ z. 43 ∷ 40 ∷ z) (e ∙ sym (append_assoc (element_text t.1) (41 ∷ starred t.0) rest)) ∙ ap (λ z. z ++ rest) (sym (long_is t s))

-- the factors behind the parentheses end at the next sign
pub factors_cut : (m : Exp) (behind factors x rest : List ℕ) → IsMonomial m → is_one m ≡ false → behind ≡ factors ++ x → AllByRecursion (λ b. ¬ IsSign b) factors → Starts IsSign x → Starts IsSign rest → behind ≡ starred m ++ rest → starred m ≡ factors
factors_cut m behind factors x rest is higher split free sx sy e =
    (cut (λ b. ¬ IsSign b) IsSign (λ b i o. i o) (starred m) factors rest x (factors_unsigned m is higher) free sy sx (sym e ∙ split)).0

-- ---- any term

abbrev Taken : Type 0
Taken = Option (Term × Option (ℕ × Bor (List ℕ)))

pub some_simple : (sum : List ℕ) (r : Taken) → IfSome r (λ r. IsSimpleTerm r.0 × (sum ≡ term_text r.0 ++ joined r.1) × Starts IsSign (joined r.1)) → IfSome r (λ r. IsHigherTerm r.0 × (sum ≡ term_text r.0 ++ joined r.1) × Starts IsSign (joined r.1))
some_simple sum None h = tt
some_simple sum (Some r) h = (simple_higher r.0 h.0, h.1, h.2)

pub some_long : (sum all : List ℕ) (r : Taken) → all ≡ sum → IfSome r (λ r. IsLongTerm r.0 × (sum ≡ term_text r.0 ++ joined r.1) × Starts IsSign (joined r.1)) → IfSome r (λ r. IsHigherTerm r.0 × (all ≡ term_text r.0 ++ joined r.1) × Starts IsSign (joined r.1))
some_long sum all None e h = tt
some_long sum all (Some r) e h = (long_higher r.0 h.0, e ∙ h.1, h.2)

-- a term with parentheses begins with a plus and the one that opens them
long_open : (t : Term) (sign : ℕ) (behind rest : List ℕ) → IsLongTerm t → sign ∷ behind ≡ term_text t ++ rest → (sign ≡ 43) × (behind ≡ 40 ∷ ((element_text t.1 ++ 41 ∷ starred t.0) ++ rest))
long_open t sign behind rest s e = head sign 43 behind (40 ∷ ((element_text t.1 ++ 41 ∷ starred t.0) ++ rest)) (e ∙ ap (λ z. z ++ rest) (long_is t s))

pub long_sign : (t : Term) (sign : ℕ) (behind rest : List ℕ) → IsLongTerm t → sign ∷ behind ≡ term_text t ++ rest → sign ≡ 43
long_sign t sign behind rest s e = (long_open t sign behind rest s e).0

-- without a parenthesis behind the sign there is one component
pub unopened : (t : Term) (sign : ℕ) (behind rest : List ℕ) → IsHigherTerm t → sign ∷ behind ≡ term_text t ++ rest → ((x : List ℕ) → behind ≡ 40 ∷ x → ⊥) → IsSimpleTerm t
unopened t sign behind rest h e none = elim (term_cases t h) [ inl s ↦ s | inr s ↦ absurd (none _ (long_open t sign behind rest s e).1) ]

-- with one there are more
pub opened : (t : Term) (sign : ℕ) (inside rest : List ℕ) → IsHigherTerm t → sign ∷ 40 ∷ inside ≡ term_text t ++ rest → IsLongTerm t
opened t sign inside rest h e = elim (term_cases t h) [ inl s ↦ absurd (simple_open t s sign inside rest e) | inr s ↦ s ]

-- ---- the coefficient by what stands before the factors

-- a coefficient that is written before a star, from its text
pub record EndsInStar (e : Ext Frac) (sign : ℕ) (front m : List ℕ) : Type 0 where
  pub ends : front ≡ m ++ 42 ∷ []
  pub written : IsWritten e
  pub text : components_text e ≡ sign ∷ m

star_there : (e : Ext Frac) (q : Frac) (body : List ℕ) (sign : ℕ) (front factors : List ℕ) → without_zeros (components e) ≡ (q, body) ∷ [] → IsCoefficient q → IsBody body → IsLetters factors → (front ≡ [] → ⊥)
    → signed_text (product_text q (body ++ 42 ∷ factors)) ≡ sign ∷ (front ++ factors) → (m : List ℕ) × EndsInStar e sign front m
star_there e q [] sign front factors one ok is h some text = by_front (front_of q factors sign front ok h text)
  where
    by_front : Front q sign front → (m : List ℕ) × EndsInStar e sign front m
    by_front (unit u s none) = absurd (some none)
    by_front (written m u t end) = (m, record { ends = end; written = record { piece = (q, []); only = one; longer = λ none. u }; text = single_components e (q, []) one ∙ t })
star_there e q (star ∷ []) sign front factors one ok is h some text = absurd is
star_there e q (star ∷ c ∷ r) sign front factors one ok is h some text =
    let body : List ℕ = star ∷ c ∷ r in
    let f = signed_list (piece_text (q, body)) (sign_of (product_text q body)) in
    let whole : f.0 ∷ (f.1 ++ 42 ∷ factors) ≡ sign ∷ (front ++ factors) = ap (λ z. z ++ 42 ∷ factors) (sym f.2) ∙ sym (star_text q body factors ok.0 is (λ none. absurd cc)) ∙ text in
    let k = head f.0 sign (f.1 ++ 42 ∷ factors) (front ++ factors) whole in
    let ends : front ≡ f.1 ++ 42 ∷ [] = sym (append_cancel_right (f.1 ++ 42 ∷ []) front factors (append_assoc f.1 (42 ∷ []) factors ∙ k.1)) in
    (f.1, record { ends = ends; written = record { piece = (q, body); only = one; longer = λ none. absurd cc }; text = single_components e (q, body) one ∙ f.2 ∙ ap (λ (b : ℕ). b ∷ f.1) k.0 })

pub front_ends : (e : Ext Frac) (sign : ℕ) (front factors : List ℕ) → AreFractions e → IsSingle e → IsLetters factors → (front ≡ [] → ⊥) → before_factors e factors ≡ sign ∷ (front ++ factors) → (m : List ℕ) × EndsInStar e sign front m
front_ends e sign front factors ok single h some text =
    let is = single_piece IsBody elements.letters_are e ok single.0 single.1 in
    star_there e single.0.0 single.0.1 sign front factors single.1 is.0 is.1 h some (ap signed_text (sym (single_scaled e single.0 (42 ∷ factors) single.1)) ∙ text)

-- a coefficient begins with a sign
pub front_sign : (e : Ext Frac) (sign : ℕ) (front factors : List ℕ) → AreFractions e → IsSingle e → IsLetters factors → before_factors e factors ≡ sign ∷ (front ++ factors) → IsSign sign
front_sign e sign front factors ok single h text =
    let p = single_shape (λ b. ¬ IsSign b) unsigned e factors ok single h in
    subst IsSign (head p.0 sign (p.1 ++ factors) (front ++ factors) (sym p.2.is ∙ text)).0 p.2.sign

-- what stands before the star is what was read there
pub written_there : (e : Ext Frac) (sign : ℕ) (front m magnitude : List ℕ) → EndsInStar e sign front m → front ≡ magnitude ++ 42 ∷ [] → components_text e ≡ sign ∷ magnitude
written_there e sign front m magnitude s split = s.text ∙ ap (λ z. sign ∷ z) (append_cancel_right m magnitude (42 ∷ []) (sym s.ends ∙ split))

-- the text of a written coefficient, with a star and letters behind it
pub written_front : (e : Ext Frac) (sign : ℕ) (front magnitude factors : List ℕ) → AreFractions e → (w : IsWritten e) → components_text e ≡ sign ∷ magnitude → front ≡ magnitude ++ 42 ∷ [] → before_factors e factors ≡ sign ∷ (front ++ factors)
written_front e sign front magnitude factors ok w text split =
    let is = single_piece IsBody elements.letters_are e ok w.piece w.only in
    ap signed_text (single_scaled e w.piece (42 ∷ factors) w.only)
    ∙ star_text w.piece.0 w.piece.1 factors is.0.0 is.1 w.longer
    ∙ ap (λ z. z ++ 42 ∷ factors) (sym (single_components e w.piece w.only) ∙ text)
    ∙ ap (λ z. sign ∷ z) (sym (append_assoc magnitude (42 ∷ []) factors) ∙ ap (λ z. z ++ factors) (sym split))

pub written_front_all : (sign : ℕ) (front magnitude : List ℕ) (r : Option (Ext Frac)) → front ≡ magnitude ++ 42 ∷ [] → IfSome r (λ e. AreFractions e × IsWritten e × (components_text e ≡ sign ∷ magnitude))
    → IfSome r (λ e. AreFractions e × IsSingle e × ((factors : List ℕ) → IsLetters factors → before_factors e factors ≡ sign ∷ (front ++ factors)))
written_front_all sign front magnitude None split h = tt
written_front_all sign front magnitude (Some e) split h = (h.0, (h.1.piece, h.1.only), λ factors f. written_front e sign front magnitude factors h.0 h.1 h.2 split)

-- 1 and -1 as an element
rational_only : (q : Frac) → IsCoefficient q → without_zeros (components (rational_element q)) ≡ (q, []) ∷ []
rational_only q ok = ap (λ (t : Bool). cond (not t) ((q, []) ∷ []) []) (not_zero q ok)

pub unit_read : (q : Frac) (e : Ext Frac) (sign : ℕ) (front : List ℕ) → e ≡ rational_element q → IsCoefficient q → ((letters : List ℕ) → IsLetters letters → signed_text (product_text q (42 ∷ letters)) ≡ sign ∷ letters) → front ≡ []
    → AreFractions e × IsSingle e × ((factors : List ℕ) → IsLetters factors → before_factors e factors ≡ sign ∷ (front ++ factors))
unit_read q e sign front is ok text none =
    let only : without_zeros (components e) ≡ (q, []) ∷ [] = ap (λ (x : Ext Frac). without_zeros (components x)) is ∙ rational_only q ok in (
      subst AreFractions (sym is) (rational_fractions q ok.0),
      ((q, []), only),
      λ factors f. ap signed_text (single_scaled e (q, []) (42 ∷ factors) only) ∙ text factors f ∙ ap (λ z. sign ∷ (z ++ factors)) (sym none),
    )

pub no_unit : (sign : ℕ) → IsSign sign → (sign ≢ 43) × (sign ≢ 45) → ⊥
no_unit sign (inl e) h = h.0 e
no_unit sign (inr e) h = h.1 e

-- ---- the test whether a coefficient is written

not_not : (r : Bool) → not r ≡ true → r ≡ false
not_not true h = absurd cc
not_not false h = refl

same_piece : (p q : Piece) → p ∷ [] ≡ q ∷ [] → p ≡ q
same_piece p q e = cc

pub unit_written : (e : Ext Frac) (q : Frac) (body : List ℕ) (r : Bool) → without_zeros (components e) ≡ (q, body) ∷ [] → body ≡ [] → r ≡ is_unit_of q → (not r ≡ true → IsWritten e) × (IsWritten e → not r ≡ true)
unit_written e q body r one empty test = (
  λ h. record { piece = (q, body); only = one; longer = λ none. sym test ∙ not_not r h },
  λ w.
      (let same : (q, body) ≡ w.piece = same_piece (q, body) w.piece (sym one ∙ w.only) in
      let bare : w.piece.1 ≡ [] = sym (ap (λ (p : Piece). p.1) same) ∙ empty in
      ap not (test ∙ ap (λ (p : Piece). is_unit_of p.0) same ∙ w.longer bare)),
)

pub letters_written : (e : Ext Frac) (q : Frac) (body : List ℕ) → without_zeros (components e) ≡ (q, body) ∷ [] → (body ≡ [] → ⊥) → IsWritten e
letters_written e q body one some = record { piece = (q, body); only = one; longer = λ none. absurd (some none) }

-- what stands from the first u on
pub variable_from : (xs : List ℕ) (at : ℕ) → Some at ≡ position (λ b. eqb b 117) xs
    → (xs ≡ take at xs ++ take (length xs - at) (drop at xs)) × IsVariable (take (length xs - at) (drop at xs)) × AllByRecursion (λ b. b ≢ 117) (take at xs)
variable_from xs at e =
    let h = byte_some 117 xs at e in
    let all : take (length xs - at) (drop at xs) ≡ drop at xs = take_all (length xs - at) (drop at xs) (omega (arith, length-drop at xs)) in
    let whole : take at xs ++ drop at xs ≡ xs = take-append-drop at xs in
    let there = same_front (take at xs) (drop at xs) (117 ∷ take (length xs - (at + 1)) (drop (at + 1) xs)) (whole ∙ h.0) in
    (sym whole ∙ ap (λ z. take at xs ++ z) (sym all), subst IsVariable (sym (all ∙ there)) refl, h.1)

-- the text of a coefficient with one component, as a product
pub simple_product : (t : Term) (s : IsSimpleTerm t) → (f : List ℕ) × (0 < length f) × (term_text t ≡ signed_text f)
simple_product t s =
    let p = s.single.0 in
    let is = single_piece IsBody elements.letters_are t.1 s.fractions p s.single.1 in
    let body = longer_body p.1 (starred t.0) is.1 (starred_front t.0 s.monomial s.higher) in
    (product_text p.0 (p.1 ++ starred t.0), some_product p.0 (p.1 ++ starred t.0) is.0.0 body, simple_is t s)
