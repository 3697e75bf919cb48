-- Monomials by their texts.
use Rattle.std.proofs.Common.{◌≡◌, ℕ, ◌+◌, ◌<◌, Bool, true, false, cond, ◌&&◌, ◌⊎◌, inl, inr, eqb, leb, Option, Some, None, List, [], ◌∷◌, ◌++◌, refl, sym, ap, ◌∙◌, subst, arith, IsTrue}
use Rattle.std.specs.Prelude.{sum, IfSome}
use Rattle.std.proofs.lemmas.Bool.{leb-true}
use Rattle.mono_exp.specs.declared.exponent.Exp.{Exp}
use Rattle.poly_text.specs.Polynomials.{factors_text, monomial_in, monomial_text, new_names, without_star}
use Rattle.cert_text.specs.WellFormed.{is_monomial_in}
use Rattle.cert_law.specs.Fields.{IsMonomial}
use Rattle.cert_law.proofs.Monomials.{factors_from, present, starred_is}
use Rattle.cert_law.proofs.Series.{power_one}
use Rattle.cert_law.proofs.Valid.{both, monomial_by}
use Rattle.text_reader.specs.Reading.{IsTextOf}
use Rattle.text_reader.specs.Terms.{one_monomial}

one_text : monomial_text one_monomial ≡ 49 ∷ []
unfolding monomial_in factors_text new_names
one_text = refl

zero_small : 0 < 256
zero_small = omega arith

pub one_read : (bytes : List ℕ) → bytes ≡ 49 ∷ [] → IsTextOf IsMonomial monomial_text bytes one_monomial
one_read bytes e = (record { eight = refl; fit = (zero_small, (zero_small, (zero_small, (zero_small, (zero_small, (zero_small, (zero_small, (zero_small, tt)))))))) }, one_text ∙ sym e)

-- factors begin with a star
step : (t : Bool) (d e : ℕ) (more : List ℕ) → (more ≡ []) ⊎ ((x : List ℕ) × (more ≡ 42 ∷ x)) → (cond t [] (present d e) ++ more ≡ []) ⊎ ((x : List ℕ) × (cond t [] (present d e) ++ more ≡ 42 ∷ x))
step true d e more h = h
step false d e more h = inr (_, refl)

star_first : (d : ℕ) (es : List ℕ) → (factors_from d es ≡ []) ⊎ ((x : List ℕ) × (factors_from d es ≡ 42 ∷ x))
star_first d [] = inl refl
star_first d (e ∷ es) = step (eqb e 0) d e (factors_from (d + 1) es) (star_first (d + 1) es)

abbrev factors_of : Exp → List ℕ
factors_of m = factors_text new_names m.e

pub factors_read : (bytes : List ℕ) (r : Option Exp) → IfSome r (IsTextOf IsMonomial factors_of (42 ∷ bytes)) → IfSome r (IsTextOf IsMonomial monomial_text bytes)
unfolding monomial_in
factors_read bytes None h = tt
factors_read bytes (Some m) h = (h.0, ap without_star h.1)

-- a text other than 1 is that of factors
pub factors_there : (m : Exp) (bytes : List ℕ) → IsMonomial m → (bytes ≡ 49 ∷ [] → ⊥) → monomial_text m ≡ bytes → factors_of m ≡ 42 ∷ bytes
unfolding monomial_in
factors_there m bytes is other e = by_front (star_first 49 m.e)
  where
    by_front : (factors_from 49 m.e ≡ []) ⊎ ((x : List ℕ) × (factors_from 49 m.e ≡ 42 ∷ x)) → factors_of m ≡ 42 ∷ bytes
    by_front (inl none) = absurd (other (sym e ∙ ap without_star (starred_is m is.eight ∙ none)))
    by_front (inr (x, there)) = let front = starred_is m is.eight ∙ there in front ∙ ap (λ z. 42 ∷ z) (sym (ap without_star front) ∙ e)

pub monomial_valid : (n most : ℕ) (m : Exp) → most < 256 → IsTrue (is_monomial_in n m && leb (sum m.e) most) → IsMonomial m
monomial_valid n most m small h =
    let b = both (is_monomial_in n m) (leb (sum m.e) most) h in
    let low = leb-true (sum m.e) most b.1 in
    monomial_by n m b.0 (omega (arith, low, small))

-- two monomials of one text are one
pub monomial_same : (m n : Exp) → IsMonomial m → IsMonomial n → monomial_text m ≡ monomial_text n → m ≡ n
monomial_same m n hm hn e = (power_one m n [] [] hm hn tt tt (ap (λ z. z ++ []) e)).0

pub outside : (n most : ℕ) (m found : Exp) (r : Bool) (bytes : List ℕ) → most < 256 → IsTextOf IsMonomial monomial_text bytes found → r ≡ (is_monomial_in n found && leb (sum found.e) most) → r ≡ false → IsTrue (is_monomial_in n m && leb (sum m.e) most) → monomial_text m ≡ bytes → ⊥
outside n most m found r bytes small is test fails h e =
    let same = monomial_same m found (monomial_valid n most m small h) is.0 (e ∙ sym is.1) in
    let yes : (is_monomial_in n found && leb (sum found.e) most) ≡ true = subst (λ (z : Exp). (is_monomial_in n z && leb (sum z.e) most) ≡ true) same h in
    absurd (cc (yes, test, fails))
