-- Fractions by their parts.
use Rattle.std.proofs.Common.{◌≡◌, ◌≢◌, ℕ, suc, ◌<◌, ◌^◌, Bool, true, false, cond, int_eq, ◌&&◌, ◌⊎◌, inl, inr, ℤ, pos, negsuc, ◌<ℤ◌, List, [], ◌∷◌, ◌++◌, refl, sym, ap, ◌∙◌, subst, append-nil, arith, IsTrue}
use Rattle.std.specs.Prelude.{decimal, unsigned_abs}
use Rattle.std.specs.Fmt.{signed_decimal}
use Rattle.std.specs.List.{AllByRecursion}
use Rattle.std.proofs.lemmas.Bool.Decides.{Decides-int_eq}
use Rattle.std.proofs.lemmas.Int.{ints}
use Rattle.std.specs.Cmp.Derive.{both_true}
use Rattle.ring_theory.specs.Gcd.{gcd}
use Rattle.ring_theory.specs.Rational.{rational}
use Rattle.ring_theory.proofs.GcdLaws.{coprime_by}
use Rattle.ring_law.specs.Fraction.{IsFrac, FitsFrac, Represents, frac_value, ratio}
use Rattle.ring_law.specs.declared.fraction.Frac.{Frac}
use Rattle.ring_law.proofs.FractionLaws.{value_num, value_den, value_injective, pos_den}
use Rattle.ext_algebra.specs.Fractions.{is_frac}
use Rattle.ext_algebra.proofs.ElementTests.{is_frac-IsFrac}
use Rattle.poly_text.specs.Numbers.{fraction_text, over_text, is_whole}
use Rattle.cert_law.proofs.Cut.{head, cut}
use Rattle.cert_law.proofs.Valid.{both, component_by}
use Rattle.cert_law.proofs.Numbers.{IsDigit, fraction_is, digits, nonempty, number_one, fraction_one, no_minus}
use Rattle.text_reader.specs.Digits.{is_natural, IsNatural}
use Rattle.text_reader.specs.Reading.{IsTextOf}

-- ---- lowest terms

valid : (q : Frac) → IsTrue (is_frac q) → IsFrac q
valid q h = (is_frac-IsFrac q).0 h

ratio_by : (n d : ℤ) (k : ℕ) → d ≡ pos k → ratio n d ≡ rational n (unsigned_abs d)
ratio_by n (pos d) k e = refl
ratio_by n (negsuc d) k e = absurd cc

ratio_is : (q : Frac) → IsFrac q → ratio q.num q.den ≡ frac_value q
ratio_is q h = ratio_by q.num q.den (unsigned_abs q.den) (pos_den q.den h.den_pos)

fits : (q : Frac) → IsFrac q → FitsFrac (frac_value q)
fits q h = record {
  num_fits = subst (λ z. unsigned_abs z < 2 ^ 127) (sym (value_num q h)) h.num_fits;
  den_fits = subst (λ n. n < 2 ^ 127) (sym (value_den q h)) h.den_fits;
}

den_not_zero : (d : ℤ) → pos 0 <ℤ d → d ≡ pos 0 → ⊥
den_not_zero d h z = omega (arith, ints)

-- a fraction that does not reduce is not valid
pub not_reduced : (q : Frac) → (q.den ≡ pos 0) ⊎ (¬ FitsFrac (ratio q.num q.den)) → IsTrue (is_frac q) → ⊥
not_reduced q (inl z) t = den_not_zero q.den (valid q t).den_pos z
not_reduced q (inr refuses) t = let h = valid q t in refuses (subst FitsFrac (sym (ratio_is q h)) (fits q h))

abbrev same_parts : Frac → Frac → Bool
same_parts p q = int_eq p.num q.num && int_eq p.den q.den

-- a fraction that is what it reduces to is valid
pub reduced_valid : (p q : Frac) → Represents p (ratio q.num q.den) → IsTrue (same_parts p q) → IsTrue (is_frac q)
reduced_valid p q r e =
    let h = both (int_eq p.num q.num) (int_eq p.den q.den) e in
    let is : p ≡ q = fraction_is p q ((Decides-int_eq p.num q.num).0 h.0) ((Decides-int_eq p.den q.den).0 h.1) in
    subst (λ z. IsTrue (is_frac z)) is ((is_frac-IsFrac p).1 r.valid)

-- a valid fraction is what it reduces to
pub reduced_test : (p q : Frac) → Represents p (ratio q.num q.den) → IsTrue (is_frac q) → IsTrue (same_parts p q)
reduced_test p q r t =
    let h = valid q t in
    let is : p ≡ q = value_injective p q r.valid h (r.value_is ∙ ratio_is q h) in
    both_true ((Decides-int_eq p.num q.num).1 (ap (λ (f : Frac). f.num) is)) ((Decides-int_eq p.den q.den).1 (ap (λ (f : Frac). f.den) is))

-- ---- fractions that are not negative

abbrev pub of_parts : ℕ → ℕ → Frac
of_parts n d = record { num = pos n; den = pos d }

-- the parts of a fraction
pub record IsMadeOf (q : Frac) (n d : ℕ) : Type 0 where
  pub is : q ≡ of_parts n d
  pub num_fits : n < 2 ^ 127
  pub den_fits : d < 2 ^ 127

natural_by : (z : ℤ) → is_natural z ≡ true → z ≡ pos (unsigned_abs z)
natural_by (pos n) e = refl
natural_by (negsuc n) e = absurd cc

pub parts_of : (q : Frac) → IsNatural q → IsMadeOf q (unsigned_abs q.num) (unsigned_abs q.den)
parts_of q h =
    let v = valid q h.0 in
    record { is = fraction_is q (of_parts (unsigned_abs q.num) (unsigned_abs q.den)) (natural_by q.num h.1) (pos_den q.den v.den_pos); num_fits = v.num_fits; den_fits = v.den_fits }

one_divisor : (n : ℕ) → gcd n 1 ≡ 1
one_divisor n = coprime_by n 1 (λ d h k. k)

-- a whole number is a fraction
pub whole_natural : (n : ℕ) (q : Frac) (bytes : List ℕ) → n < 2 ^ 127 → decimal n ≡ bytes → q ≡ of_parts n 1 → IsTextOf IsNatural fraction_text bytes q
whole_natural n q bytes lt e is =
    let here : IsTextOf IsNatural fraction_text bytes (of_parts n 1) = (
      ((is_frac-IsFrac (of_parts n 1)).1 (record { den_pos = record { lt = tt }; lowest = one_divisor n; num_fits = lt; den_fits = omega arith }), refl),
      append-nil (decimal n) ∙ e,
    ) in
    subst (IsTextOf IsNatural fraction_text bytes) (sym is) here

-- two numbers of one text are one
pub decimal_same : (m n : ℕ) → m < 10 ^ 64 → n < 10 ^ 64 → decimal m ≡ decimal n → m ≡ n
decimal_same m n lm ln e = (number_one m n [] [] lm ln tt tt (ap (λ t. t ++ []) e)).0

-- two fractions of one text are one
pub fraction_same : (p q : Frac) → IsTrue (is_frac p) → IsTrue (is_frac q) → fraction_text p ≡ fraction_text q → p ≡ q
fraction_same p q hp hq e = (fraction_one p q [] [] (component_by p hp).small (component_by q hq).small tt tt (ap (λ t. t ++ []) e)).0

-- ---- the slash

lacks : (front rest : List ℕ) → AllByRecursion (λ b. b ≢ 47) (front ++ 47 ∷ rest) → ⊥
lacks [] rest h = h.0 refl
lacks (b ∷ front) rest h = lacks front rest h.1

not_slash : (ds : List ℕ) → AllByRecursion IsDigit ds → AllByRecursion (λ b. b ≢ 47) ds
not_slash [] h = tt
not_slash (d ∷ ds) h = ((λ e. omega (arith, e, h.0.0)), not_slash ds h.1)

number_slash : (n : ℕ) → n < 2 ^ 127 → AllByRecursion (λ b. b ≢ 47) (decimal n)
number_slash n lt = not_slash (decimal n) (digits n (omega (arith, lt)))

-- a text of parts
abbrev text_by : Bool → ℕ → ℕ → List ℕ
text_by whole n d = decimal n ++ cond whole [] (47 ∷ decimal d)

whole_by : (t : Bool) (n d : ℕ) (bytes : List ℕ) → AllByRecursion (λ b. b ≢ 47) bytes → text_by t n d ≡ bytes → decimal n ≡ bytes
whole_by true n d bytes free e = sym (append-nil (decimal n)) ∙ e
whole_by false n d bytes free e = absurd (lacks (decimal n) (decimal d) (subst (AllByRecursion (λ b. b ≢ 47)) (sym e) free))

text_of_parts : (q : Frac) (n d : ℕ) (bytes : List ℕ) → IsMadeOf q n d → fraction_text q ≡ bytes → text_by (is_whole (pos d) (pos 1)) n d ≡ bytes
text_of_parts q n d bytes h e = ap fraction_text (sym h.is) ∙ e

-- the text of a fraction that has no slash is that of its numerator
pub natural_whole : (q : Frac) (bytes : List ℕ) → IsNatural q → AllByRecursion (λ b. b ≢ 47) bytes → fraction_text q ≡ bytes → decimal (unsigned_abs q.num) ≡ bytes
natural_whole q bytes h free e = whole_by (is_whole (pos (unsigned_abs q.den)) (pos 1)) (unsigned_abs q.num) (unsigned_abs q.den) bytes free (text_of_parts q _ _ bytes (parts_of q h) e)

cut_slash : (a b x y : List ℕ) → AllByRecursion (λ c. c ≢ 47) a → AllByRecursion (λ c. c ≢ 47) b → a ++ 47 ∷ x ≡ b ++ 47 ∷ y → (a ≡ b) × (x ≡ y)
cut_slash a b x y ha hb e =
    let h = cut (λ c. c ≢ 47) (λ c. c ≡ 47) (λ c i o. i o) a b (47 ∷ x) (47 ∷ y) ha hb refl refl e in
    (h.0, (head 47 47 x y h.1).1)

-- the text of a fraction with a slash is cut at the slash
pub record IsQuotient (q : Frac) (a b : List ℕ) : Type 0 where
  pub not_one : unsigned_abs q.den ≢ 1
  pub num : decimal (unsigned_abs q.num) ≡ a
  pub den : decimal (unsigned_abs q.den) ≡ b

quotient_by : (t : Bool) (n d : ℕ) (a b : List ℕ) → n < 2 ^ 127 → AllByRecursion (λ c. c ≢ 47) a → text_by t n d ≡ a ++ 47 ∷ b → (t ≡ false) × (decimal n ≡ a) × (decimal d ≡ b)
quotient_by true n d a b lt free e = absurd (lacks a b (subst (AllByRecursion (λ c. c ≢ 47)) (sym (append-nil (decimal n)) ∙ e) (number_slash n lt)))
quotient_by false n d a b lt free e = let h = cut_slash (decimal n) a (decimal d) b (number_slash n lt) free e in (refl, h.0, h.1)

other_den : (d : ℕ) → is_whole (pos d) (pos 1) ≡ false → d ≢ 1
other_den d e is = let yes = (Decides-int_eq (pos d) (pos 1)).1 (ap (λ (k : ℕ). pos k) is) in absurd (cc (e, yes))

pub natural_quotient : (q : Frac) (a b : List ℕ) → IsNatural q → AllByRecursion (λ c. c ≢ 47) a → fraction_text q ≡ a ++ 47 ∷ b → IsQuotient q a b
natural_quotient q a b h free e =
    let p = parts_of q h in
    let r = quotient_by (is_whole (pos (unsigned_abs q.den)) (pos 1)) (unsigned_abs q.num) (unsigned_abs q.den) a b p.num_fits free (text_of_parts q _ _ (a ++ 47 ∷ b) p e) in
    record { not_one = other_den (unsigned_abs q.den) r.0; num = r.1; den = r.2 }

-- ---- the sign

-- the opposite of a fraction below 0
abbrev pub opposite_of : Frac → Frac
opposite_of q = record { num = pos (unsigned_abs q.num); den = q.den }

opposite_valid : (q : Frac) → IsTrue (is_frac q) → IsNatural (opposite_of q)
opposite_valid q h = let v = valid q h in ((is_frac-IsFrac (opposite_of q)).1 (record { den_pos = v.den_pos; lowest = v.lowest; num_fits = v.num_fits; den_fits = v.den_fits }), refl)

-- what stands behind the sign
pub record IsBehindSign (p : Frac) (rest : List ℕ) : Type 0 where
  pub natural : IsNatural p
  pub nonzero : p.num ≢ pos 0
  pub text : fraction_text p ≡ rest

-- a text with a sign at its front is that of a fraction below 0, and its opposite stands behind the sign
pub minus_is : (q : Frac) (rest : List ℕ) → IsTrue (is_frac q) → fraction_text q ≡ 45 ∷ rest → IsBehindSign (opposite_of q) rest
minus_is q rest h e =
    let r = by_sign q.num (valid q h).num_fits e in
    record { natural = opposite_valid q h; nonzero = r.0; text = r.1 }
  where
    by_sign : (z : ℤ) → unsigned_abs z < 2 ^ 127 → signed_decimal z ++ over_text q.den ≡ 45 ∷ rest → (pos (unsigned_abs z) ≢ pos 0) × (decimal (unsigned_abs z) ++ over_text q.den ≡ rest)
    by_sign (pos n) lt t = absurd (no_minus (decimal n) (over_text q.den) rest (nonempty n (omega (arith, lt))) (digits n (omega (arith, lt))) t)
    by_sign (negsuc n) lt t = ((λ z. cc), (head 45 45 (decimal (suc n) ++ over_text q.den) rest t).1)

-- numbers with the texts of the parts are the parts
pub same_quotient : (q : Frac) (n d : ℕ) → IsNatural q → n < 2 ^ 127 → d < 2 ^ 127 → decimal (unsigned_abs q.num) ≡ decimal n → decimal (unsigned_abs q.den) ≡ decimal d → unsigned_abs q.den ≢ 1
    → (d ≢ 1) × IsTrue (is_frac (of_parts n d))
same_quotient q n d h ln ld en ed other =
    let p = parts_of q h in
    let num : unsigned_abs q.num ≡ n = decimal_same (unsigned_abs q.num) n (omega (arith, p.num_fits)) (omega (arith, ln)) en in
    let den : unsigned_abs q.den ≡ d = decimal_same (unsigned_abs q.den) d (omega (arith, p.den_fits)) (omega (arith, ld)) ed in
    ((λ one. other (den ∙ one)), subst (λ z. IsTrue (is_frac z)) (p.is ∙ (λ i. of_parts (num i) (den i))) h.0)
