-- The pieces of a sum by their texts.
use Rattle.std.proofs.Common.{◌≡◌, ◌≢◌, ℕ, suc, ◌<◌, ◌^◌, Bool, true, false, cond, ◌&&◌, ◌||◌, ◌⊎◌, inl, inr, eqb, ℤ, pos, negsuc, Option, Some, None, List, [], ◌∷◌, ◌++◌, length, refl, sym, ap, ◌∙◌, subst, append_assoc, arith, IsTrue}
use Rattle.std.specs.Prelude.{decimal, unsigned_abs, IfSome}
use Rattle.std.specs.List.{AllByRecursion}
use Rattle.std.specs.Fmt.{signed_decimal}
use Rattle.std.proofs.lemmas.Bool.{eqb-true}
use Rattle.std.proofs.lemmas.Bool.Decides.{Decides-int_eq}
use Rattle.std.proofs.lemmas.List.{append_cancel_right}
use Rattle.ring_law.specs.declared.fraction.Frac.{Frac}
use Rattle.ext_algebra.specs.Fractions.{is_frac}
use Rattle.ext_algebra.proofs.ElementTests.{is_frac-IsFrac}
use Rattle.poly_text.specs.Numbers.{fraction_text, over_text, is_whole, product_text, signed_text}
use Rattle.cert_law.proofs.Cut.{head}
use Rattle.cert_law.proofs.Numbers.{nonempty, fraction_is}
use Rattle.cert_law.proofs.Pieces.{Plain, plain_number, unsigned_piece, piece_one}
use Rattle.cert_law.proofs.Sums.{Signed, sign_of}
use Rattle.cert_law.proofs.Valid.{component_by}
use Rattle.text_reader.specs.Digits.{IsNatural, is_natural}
use Rattle.text_reader.specs.Pieces.{IsSign, is_sign, IsCoefficient, IsLetters, is_unit_of}
use Rattle.text_reader.specs.Reading.{IsTextOf, IsNoText}
use Rattle.text_reader.proofs.Fractions.{parts_of, minus_is, opposite_of, IsBehindSign, fraction_same, whole_natural}

-- ---- signs

sign_by : (a b : Bool) (n : ℕ) → (a ≡ true → n ≡ 43) → (b ≡ true → n ≡ 45) → (a || b) ≡ true → IsSign n
sign_by true b n ha hb e = inl (ha refl)
sign_by false b n ha hb e = inr (hb e)

pub is_sign-true : (n : ℕ) → is_sign n ≡ true → IsSign n
is_sign-true n e = sign_by (eqb n 43) (eqb n 45) n (eqb-true n 43) (eqb-true n 45) e

pub sign_test : (n : ℕ) → IsSign n → is_sign n ≡ true
sign_test n (inl e) = ap is_sign e
sign_test n (inr e) = ap is_sign e

pub no_signs : (xs : List ℕ) → AllByRecursion (λ b. is_sign b ≡ false) xs → AllByRecursion (λ b. ¬ IsSign b) xs
no_signs [] h = tt
no_signs (x ∷ xs) h = ((λ s. let yes = sign_test x s in absurd (cc (yes, h.0))), no_signs xs h.1)

-- ---- fractions behind a sign

-- a fraction that is not negative gets a plus
pub natural_signed : (q : Frac) → IsNatural q → signed_text (fraction_text q) ≡ 43 ∷ fraction_text q
natural_signed q h =
    let p = parts_of q h in
    let here : Plain (fraction_text q) = subst (λ z. Plain (fraction_text z)) (sym p.is) (plain_number (unsigned_abs q.num) (pos (unsigned_abs q.den)) (omega (arith, p.num_fits))) in
    unsigned_piece (fraction_text q) here

-- a signed fraction: a plus and its text, or a minus and that of its opposite
pub signed_cases : (q : Frac) (s : ℕ) (m : List ℕ) → IsTrue (is_frac q) → signed_text (fraction_text q) ≡ s ∷ m → ((s ≡ 43) × IsNatural q × (fraction_text q ≡ m)) ⊎ ((s ≡ 45) × IsBehindSign (opposite_of q) m)
signed_cases q s m valid e = by_num q.num refl
  where
    by_num : (z : ℤ) → q.num ≡ z → ((s ≡ 43) × IsNatural q × (fraction_text q ≡ m)) ⊎ ((s ≡ 45) × IsBehindSign (opposite_of q) m)
    by_num (pos n) is =
        let natural : IsNatural q = (valid, ap is_natural is) in
        let h = head 43 s (fraction_text q) m (sym (natural_signed q natural) ∙ e) in
        inl (sym h.0, natural, h.1)
    by_num (negsuc n) is =
        let text : fraction_text q ≡ 45 ∷ (decimal (suc n) ++ over_text q.den) = ap (λ z. signed_decimal z ++ over_text q.den) is in
        let signed : signed_text (fraction_text q) ≡ 45 ∷ (decimal (suc n) ++ over_text q.den) = ap signed_text text in
        let h = head 45 s (decimal (suc n) ++ over_text q.den) m (sym signed ∙ e) in
        inr (sym h.0, minus_is q m valid (text ∙ ap (λ z. 45 ∷ z) h.1))

-- a fraction whose text has a sign is not 0
pub minus_coefficient : (p : Frac) (m : List ℕ) → IsTrue (is_frac p) → fraction_text p ≡ 45 ∷ m → IsTextOf IsCoefficient (λ q. signed_text (fraction_text q)) (45 ∷ m) p
minus_coefficient p m valid e =
    let h = minus_is p m valid e in
    ((valid, λ z. h.nonzero (ap (λ (k : ℤ). pos (unsigned_abs k)) z)), ap signed_text e)

-- no signed fraction where none without a sign was read
pub signed_fails : (q : Frac) (s : ℕ) (m : List ℕ) → IsCoefficient q → signed_text (fraction_text q) ≡ s ∷ m → IsNoText IsNatural fraction_text m → ⊥
signed_fails q s m ok e none =
    elim (signed_cases q s m ok.0 e) [
      | inl h ↦ none q h.1 h.2
      | inr h ↦ none (opposite_of q) h.1.natural h.1.text
    ]

-- no signed fraction where 0 was read
pub zero_fails : (q found : Frac) (s : ℕ) (m : List ℕ) → IsCoefficient q → signed_text (fraction_text q) ≡ s ∷ m → IsTextOf IsNatural fraction_text m found → found.num ≡ pos 0 → ⊥
zero_fails q found s m ok e is zero_is =
    elim (signed_cases q s m ok.0 e) [
      | inl h ↦ ok.1 (ap (λ (p : Frac). p.num) (fraction_same q found ok.0 is.0.0 (h.2 ∙ sym is.1)) ∙ zero_is)
      | inr h ↦ h.1.nonzero (ap (λ (p : Frac). p.num) (fraction_same (opposite_of q) found h.1.natural.0 is.0.0 (h.1.text ∙ sym is.1)) ∙ zero_is)
    ]

-- a fraction that is not negative and not 0, behind a plus
pub plus_coefficient : (q : Frac) (s : ℕ) (m : List ℕ) → s ≡ 43 → IsTextOf IsNatural fraction_text m q → q.num ≢ pos 0 → IsTextOf IsCoefficient (λ q. signed_text (fraction_text q)) (s ∷ m) q
plus_coefficient q s m plus is some = ((is.0.0, some), natural_signed q is.0 ∙ ap (λ z. 43 ∷ z) is.1 ∙ ap (λ (b : ℕ). b ∷ m) (sym plus))

pub minus_some : (q : Frac) (s : ℕ) (m : List ℕ) (r : Option Frac) → s ≡ 45 → fraction_text q ≡ m → IfSome r (λ p. IsTrue (is_frac p) × (fraction_text p ≡ 45 ∷ fraction_text q)) → IfSome r (IsTextOf IsCoefficient (λ q. signed_text (fraction_text q)) (s ∷ m))
minus_some q s m None minus is h = tt
minus_some q s m (Some p) minus is h =
    let here = minus_coefficient p m h.0 (h.1 ∙ ap (λ z. 45 ∷ z) is) in
    (here.0, here.1 ∙ ap (λ (b : ℕ). b ∷ m) (sym minus))

-- ---- coefficients before letters

pub letters_signed : (letters : List ℕ) → IsLetters letters → signed_text letters ≡ 43 ∷ letters
letters_signed [] h = absurd h
letters_signed (b ∷ bs) h = unsigned_piece (b ∷ bs) (omega (arith, h))

abbrev whole_unit : ℤ → Frac
whole_unit z = record { num = z; den = pos 1 }

pub one_coefficient : IsCoefficient (whole_unit (pos 1))
one_coefficient = ((whole_natural 1 (whole_unit (pos 1)) (decimal 1) (omega arith) refl refl).0.0, λ e. cc)

pub minus_one_coefficient : IsCoefficient (whole_unit (negsuc 0))
minus_one_coefficient = ((whole_natural 1 (whole_unit (pos 1)) (decimal 1) (omega arith) refl refl).0.0, λ e. cc)

-- a product by the tests for 1 and -1
abbrev product_by : Bool → Bool → Bool → List ℕ → List ℕ → List ℕ
product_by den one minus f letters = cond (den && one) letters (cond (den && minus) (45 ∷ letters) (f ++ 42 ∷ letters))

other_product : (den one minus : Bool) (f letters : List ℕ) → (den && (one || minus)) ≡ false → product_by den one minus f letters ≡ f ++ 42 ∷ letters
other_product true true minus f letters e = absurd cc
other_product true false true f letters e = absurd cc
other_product true false false f letters e = refl
other_product false one minus f letters e = refl

pub signed_front : (f z : List ℕ) → 0 < length f → signed_text (f ++ z) ≡ signed_text f ++ z
signed_front [] z some = absurd (omega arith)
signed_front (b ∷ bs) z some = by_test (eqb b 45)
  where
    by_test : (t : Bool) → cond t (b ∷ (bs ++ z)) (43 ∷ b ∷ (bs ++ z)) ≡ cond t (b ∷ bs) (43 ∷ b ∷ bs) ++ z
    by_test true = refl
    by_test false = refl

pub some_more : (ds x : List ℕ) → 0 < length ds → 0 < length (ds ++ x)
some_more [] x some = absurd (omega arith)
some_more (d ∷ ds) x some = omega arith

text_by : (z : ℤ) (x : List ℕ) → unsigned_abs z < 2 ^ 127 → 0 < length (signed_decimal z ++ x)
text_by (pos n) x lt = some_more (decimal n) x (nonempty n (omega (arith, lt)))
text_by (negsuc n) x lt = omega arith

pub some_text : (q : Frac) → IsTrue (is_frac q) → 0 < length (fraction_text q)
some_text q valid = text_by q.num (over_text q.den) ((is_frac-IsFrac q).0 valid).num_fits

-- a coefficient other than 1 and -1 is written before a star
pub other_text : (q : Frac) (letters : List ℕ) → IsTrue (is_frac q) → is_unit_of q ≡ false → signed_text (product_text q (42 ∷ letters)) ≡ signed_text (fraction_text q) ++ 42 ∷ letters
other_text q letters valid e =
    ap signed_text (other_product (is_whole q.den (pos 1)) (is_whole q.num (pos 1)) (is_whole q.num (negsuc 0)) (fraction_text q) letters e)
    ∙ signed_front (fraction_text q) (42 ∷ letters) (some_text q valid)

-- where the coefficient is 1 or -1 the front is empty
unit_by : (a b d : Bool) (q : Frac) → (a ≡ true → q.den ≡ pos 1) → (b ≡ true → q.num ≡ pos 1) → (d ≡ true → q.num ≡ negsuc 0) → (a && (b || d)) ≡ true → (q ≡ whole_unit (pos 1)) ⊎ (q ≡ whole_unit (negsuc 0))
unit_by true true d q ha hb hd e = inl (fraction_is q (whole_unit (pos 1)) (hb refl) (ha refl))
unit_by true false d q ha hb hd e = inr (fraction_is q (whole_unit (negsuc 0)) (hd e) (ha refl))
unit_by false b d q ha hb hd e = absurd cc

pub unit_is : (q : Frac) → is_unit_of q ≡ true → (q ≡ whole_unit (pos 1)) ⊎ (q ≡ whole_unit (negsuc 0))
unit_is q e = unit_by (is_whole q.den (pos 1)) (is_whole q.num (pos 1)) (is_whole q.num (negsuc 0)) q (Decides-int_eq q.den (pos 1)).0 (Decides-int_eq q.num (pos 1)).0 (Decides-int_eq q.num (negsuc 0)).0 e

-- what stands before letters: nothing for 1 and -1, else the signed fraction and a star
pub data Front (q : Frac) (s : ℕ) (front : List ℕ) : Type 0 where
  unit : is_unit_of q ≡ true → IsSign s → front ≡ [] → Front q s front
  written : (m : List ℕ) → is_unit_of q ≡ false → signed_text (fraction_text q) ≡ s ∷ m → front ≡ m ++ 42 ∷ [] → Front q s front

front_nil : (front letters : List ℕ) → letters ≡ front ++ letters → front ≡ []
front_nil front letters e = append_cancel_right front [] letters (sym e)

unit_front : (q : Frac) (letters : List ℕ) (s : ℕ) (front : List ℕ) → IsLetters letters → is_unit_of q ≡ true → signed_text (product_text q (42 ∷ letters)) ≡ s ∷ (front ++ letters) → Front q s front
unit_front q letters s front h e text =
    elim (unit_is q e) [
      | inl is ↦
          let k = head 43 s letters (front ++ letters) (sym (letters_signed letters h) ∙ ap (λ z. signed_text (product_text z (42 ∷ letters))) (sym is) ∙ text) in
          unit e (inl (sym k.0)) (front_nil front letters k.1)
      | inr is ↦
          let k = head 45 s letters (front ++ letters) (ap (λ z. signed_text (product_text z (42 ∷ letters))) (sym is) ∙ text) in
          unit e (inr (sym k.0)) (front_nil front letters k.1)
    ]

pub signed_list : (f : List ℕ) → Signed f → (s : ℕ) × (m : List ℕ) × (f ≡ s ∷ m)
signed_list [] h = absurd h
signed_list (s ∷ m) h = (s, m, refl)

written_front : (q : Frac) (letters : List ℕ) (s : ℕ) (front : List ℕ) → IsTrue (is_frac q) → is_unit_of q ≡ false → signed_text (product_text q (42 ∷ letters)) ≡ s ∷ (front ++ letters) → Front q s front
written_front q letters s front valid e text =
    let f = signed_list (signed_text (fraction_text q)) (sign_of (fraction_text q)) in
    let whole : f.0 ∷ (f.1 ++ 42 ∷ letters) ≡ s ∷ (front ++ letters) = ap (λ z. z ++ 42 ∷ letters) (sym f.2) ∙ sym (other_text q letters valid e) ∙ text in
    let k = head f.0 s (f.1 ++ 42 ∷ letters) (front ++ letters) whole in
    let regrouped : (f.1 ++ 42 ∷ []) ++ letters ≡ front ++ letters = append_assoc f.1 (42 ∷ []) letters ∙ k.1 in
    written f.1 e (f.2 ∙ ap (λ (b : ℕ). b ∷ f.1) k.0) (sym (append_cancel_right (f.1 ++ 42 ∷ []) front letters regrouped))

front_by : (t : Bool) (q : Frac) (letters : List ℕ) (s : ℕ) (front : List ℕ) → is_unit_of q ≡ t → IsTrue (is_frac q) → IsLetters letters → signed_text (product_text q (42 ∷ letters)) ≡ s ∷ (front ++ letters) → Front q s front
front_by true q letters s front e valid h text = unit_front q letters s front h e text
front_by false q letters s front e valid h text = written_front q letters s front valid e text

-- the front of a piece with letters
pub front_of : (q : Frac) (letters : List ℕ) (s : ℕ) (front : List ℕ) → IsCoefficient q → IsLetters letters → signed_text (product_text q (42 ∷ letters)) ≡ s ∷ (front ++ letters) → Front q s front
front_of q letters s front ok h text = front_by (is_unit_of q) q letters s front refl ok.0 h text

signed_same : (p q : Frac) (s : ℕ) (m : List ℕ) → IsTrue (is_frac p) → IsTrue (is_frac q) → signed_text (fraction_text p) ≡ s ∷ m → signed_text (fraction_text q) ≡ s ∷ m → p ≡ q
signed_same p q s m hp hq e f = (piece_one p q [] [] [] [] (component_by p hp).small (component_by q hq).small tt tt tt tt (ap (λ z. z ++ []) (e ∙ sym f))).0

not_sign : (s : ℕ) → IsSign s → (s ≢ 43) × (s ≢ 45) → ⊥
not_sign s (inl e) h = h.0 e
not_sign s (inr e) h = h.1 e

-- no star at the end of what stands before letters
pub star_fails : (q : Frac) (s : ℕ) (front : List ℕ) → Front q s front → (front ≡ [] → ⊥) → ((m : List ℕ) → front ≡ m ++ 42 ∷ [] → ⊥) → ⊥
star_fails q s front (unit e sign is) some no_star = some is
star_fails q s front (written m e text is) some no_star = no_star m is

-- the signed fraction before the star
pub signed_there : (q : Frac) (s : ℕ) (front m : List ℕ) → Front q s front → (front ≡ [] → ⊥) → front ≡ m ++ 42 ∷ [] → (is_unit_of q ≡ false) × (signed_text (fraction_text q) ≡ s ∷ m)
signed_there q s front m (unit e sign is) some star = absurd (some is)
signed_there q s front m (written n e text is) some star = (e, text ∙ ap (λ z. s ∷ z) (append_cancel_right n m (42 ∷ []) (sym is ∙ star)))

pub unit_fails : (q found : Frac) (s : ℕ) (front m : List ℕ) (r : Bool) → IsCoefficient q → Front q s front → (front ≡ [] → ⊥) → front ≡ m ++ 42 ∷ [] → IsTextOf IsCoefficient (λ q. signed_text (fraction_text q)) (s ∷ m) found → r ≡ is_unit_of found → r ≡ true → ⊥
unit_fails q found s front m r ok at some star is test e =
    let h = signed_there q s front m at some star in
    let same = signed_same q found s m ok.0 is.0.0 h.1 is.1 in
    let other : is_unit_of found ≡ false = subst (λ (p : Frac). is_unit_of p ≡ false) same h.0 in
    absurd (cc (other, test, e))

pub is_empty_of : (xs : List ℕ) (r : Bool) → r ≡ eqb (length xs) 0 → r ≡ true → xs ≡ []
is_empty_of [] r is e = refl
is_empty_of (x ∷ xs) r is e = absurd (let yes = eqb-true (suc (length xs)) 0 (sym is ∙ e) in omega (arith, yes))

pub not_empty_of : (xs : List ℕ) (r : Bool) → r ≡ eqb (length xs) 0 → r ≡ false → xs ≡ [] → ⊥
not_empty_of xs r is e empty = let yes : eqb (length xs) 0 ≡ true = ap (λ z. eqb (length z) 0) empty in cc
