-- Algebras by their texts: where a blank stands in them, and the number under the root of a tower.
use Rattle.std.proofs.Common.{◌≡◌, ◌≢◌, ℕ, Bool, true, false, cond, Option, Some, None, List, [], ◌∷◌, ◌++◌, refl, sym, ap, ◌∙◌, arith, IsTrue}
use Rattle.std.specs.Prelude.{codes, IfSome}
use Rattle.std.specs.List.{AllByRecursion}
use Rattle.std.specs.Cmp.Derive.{both_true}
use Rattle.ring_law.specs.declared.fraction.Frac.{Frac}
use Rattle.ext_algebra.specs.declared.algebra.Algebra.{Algebra}
use Rattle.ext_algebra.specs.declared.algebra.Algebra.TheVariants as algebras
use Rattle.ext_algebra.specs.Fractions.{is_frac}
use Rattle.ext_algebra.specs.Algebra.{is_algebra}
use Rattle.poly_text.specs.Numbers.{component_text, fraction_text, is_zero_fraction, piece_text, signed_text}
use Rattle.cert_text.specs.Text.{algebra_text, cubic_text, opposite_text, other_sign, square_text}
use Rattle.cert_law.specs.Fields.{zero_fraction}
use Rattle.cert_law.proofs.Cut.{head, same_front}
use Rattle.cert_law.proofs.Elements as elements
use Rattle.cert_law.proofs.Parts.{other_sign_twice}
use Rattle.cert_law.proofs.Valid.{both}
use Rattle.text_reader.specs.Moduli.{AreThree, IsQuadratic}
use Rattle.text_reader.specs.Pieces.{IsCoefficient}
use Rattle.text_reader.specs.Reading.{IsTextOf, IsNoText}
use Rattle.text_reader.proofs.ComponentTexts.{component_is, zero_valid}
use Rattle.text_reader.proofs.ModulusTexts.{cubic_three, three_cubic, three_tower, tower_three}
use Rattle.text_reader.proofs.Visible.{cut_at, no_byte, unsplit}
use Rattle.text_reader.proofs.VisibleTexts.{visible-cubic, visible-quadratic}

-- ---- the number d of s^2 - d

opposite_back : (f : List ℕ) (sign : ℕ) (m : List ℕ) → opposite_text f ≡ sign ∷ m → f ≡ other_sign sign ∷ m
opposite_back [] sign m e = absurd cc
opposite_back (b ∷ f) sign m e =
    let h = head (other_sign b) sign f m e in
    let first : b ≡ other_sign sign = sym (other_sign_twice b) ∙ ap other_sign h.0 in
    λ i. first i ∷ h.1 i

opposite_there : (f : List ℕ) (sign : ℕ) (m : List ℕ) → f ≡ other_sign sign ∷ m → opposite_text f ≡ sign ∷ m
opposite_there f sign m e = ap opposite_text e ∙ ap (λ (b : ℕ). b ∷ m) (other_sign_twice sign)

-- what stands behind `; s^2`
pub square_rest : (d : Frac) (behind : List ℕ) → square_text d ≡ 32 ∷ behind → behind ≡ codes "; s^2" ++ opposite_text (component_text (d, []))
square_rest d behind e = sym (head 32 32 (codes "; s^2" ++ opposite_text (component_text (d, []))) behind e).1

pub zero_square : (behind rest : List ℕ) → behind ≡ codes "; s^2" ++ rest → rest ≡ [] → IsTextOf (λ d. IsTrue (is_frac d)) square_text (32 ∷ behind) zero_fraction
zero_square behind rest split none = (zero_valid, ap (λ z. 32 ∷ (codes "; s^2" ++ z)) (sym none) ∙ ap (λ z. 32 ∷ z) (sym split))

pub square_read : (sign turned : ℕ) (behind rest magnitude : List ℕ) (r : Option Frac) → behind ≡ codes "; s^2" ++ rest → rest ≡ sign ∷ magnitude → turned ≡ other_sign sign
    → IfSome r (IsTextOf IsCoefficient (λ q. signed_text (fraction_text q)) (turned ∷ magnitude)) → IfSome r (IsTextOf (λ d. IsTrue (is_frac d)) square_text (32 ∷ behind))
square_read sign turned behind rest magnitude None split is other h = tt
square_read sign turned behind rest magnitude (Some d) split is other h =
    let piece : component_text (d, []) ≡ other_sign sign ∷ magnitude = component_is d [] h.0 ∙ h.1 ∙ ap (λ (b : ℕ). b ∷ magnitude) other in
    (h.0.0, ap (λ z. 32 ∷ (codes "; s^2" ++ z)) (opposite_there (component_text (d, [])) sign magnitude piece ∙ sym is) ∙ ap (λ z. 32 ∷ z) (sym split))

pub square_none : (sign turned : ℕ) (behind rest magnitude : List ℕ) → behind ≡ codes "; s^2" ++ rest → rest ≡ sign ∷ magnitude → turned ≡ other_sign sign
    → IsNoText IsCoefficient (λ q. signed_text (fraction_text q)) (turned ∷ magnitude) → IsNoText (λ d. IsTrue (is_frac d)) square_text (32 ∷ behind)
square_none sign turned behind rest magnitude split is other none d valid e = by_test (is_zero_fraction d) refl
  where
    there : component_text (d, []) ≡ turned ∷ magnitude
    there = opposite_back (component_text (d, [])) sign magnitude (same_front (codes "; s^2") _ _ (sym (square_rest d behind e) ∙ split) ∙ is) ∙ ap (λ (b : ℕ). b ∷ magnitude) (sym other)

    by_test : (t : Bool) → is_zero_fraction d ≡ t → ⊥
    by_test true z = let empty : [] ≡ turned ∷ magnitude = ap (λ (t : Bool). cond t [] (piece_text (d, []))) (sym z) ∙ there in cc
    by_test false z = none d (valid, elements.not_zero d z) (ap (λ (t : Bool). cond t [] (piece_text (d, []))) (sym z) ∙ there)

-- ---- blanks

no_blank-quadratic : (a : Algebra) → IsQuadratic a → AllByRecursion (λ b. b ≢ 32) (algebra_text a)
no_blank-quadratic a h = no_byte 32 (omega arith) (algebra_text a) (visible-quadratic a h)

no_blank-cubic : (m : Frac × Frac × Frac) → AreThree m → AllByRecursion (λ b. b ≢ 32) (cubic_text m.0 m.1 m.2)
no_blank-cubic m h = no_byte 32 (omega arith) (cubic_text m.0 m.1 m.2) (visible-cubic m h)

pub record IsTowerText (modulus behind : List ℕ) (m : Frac × Frac × Frac) (d : Frac) : Type 0 where
  pub three : AreThree m
  pub valid : IsTrue (is_frac d)
  pub cubic : cubic_text m.0 m.1 m.2 ≡ modulus
  pub square : square_text d ≡ 32 ∷ behind

-- a text with a blank is that of a tower
pub tower_parts : (a : Algebra) (modulus behind : List ℕ) → AllByRecursion (λ b. b ≢ 32) modulus → IsTrue (is_algebra a) → algebra_text a ≡ modulus ++ 32 ∷ behind → (m : Frac × Frac × Frac) × (d : Frac) × IsTowerText modulus behind m d
unfolding algebra_text is_algebra
tower_parts algebras.Rational modulus behind free h e =
    let none : AllByRecursion (λ b. b ≢ 32) (81 ∷ []) = (λ is. omega (arith, is), tt) in
    absurd (unsplit 32 modulus behind (81 ∷ []) none (sym e))
tower_parts (algebras.Quadratic m1 m0) modulus behind free h e =
    absurd (unsplit 32 modulus behind (algebra_text (algebras.Quadratic m1 m0)) (no_blank-quadratic (algebras.Quadratic m1 m0) (both (is_frac m1) (is_frac m0) h)) (sym e))
tower_parts (algebras.Cubic m2 m1 m0) modulus behind free h e =
    absurd (unsplit 32 modulus behind (cubic_text m2 m1 m0) (no_blank-cubic (m2, m1, m0) (cubic_three m2 m1 m0 h)) (sym e))
tower_parts (algebras.Tower m2 m1 m0 d) modulus behind free h e =
    let p = tower_three m2 m1 m0 d h in
    let k = cut_at 32 (cubic_text m2 m1 m0) modulus (codes "; s^2" ++ opposite_text (component_text (d, []))) behind (no_blank-cubic (m2, m1, m0) p.0) free e in
    ((m2, m1, m0), d, record { three = p.0; valid = p.1; cubic = k.0; square = ap (λ z. 32 ∷ z) k.1 })

pub tower_read : (m : Frac × Frac × Frac) (d : Frac) (modulus behind : List ℕ) → IsTextOf AreThree (λ m. cubic_text m.0 m.1 m.2) modulus m → IsTextOf (λ d. IsTrue (is_frac d)) square_text (32 ∷ behind) d
    → IsTextOf (λ a. IsTrue (is_algebra a)) algebra_text (modulus ++ 32 ∷ behind) (algebras.Tower m.0 m.1 m.2 d)
unfolding algebra_text
tower_read m d modulus behind three square = (three_tower m.0 m.1 m.2 d three.0 square.0, ap (λ z. z ++ square_text d) three.1 ∙ ap (λ z. modulus ++ z) square.1)

-- ---- one modulus, or none

pub rational_read : (bytes : List ℕ) → bytes ≡ 81 ∷ [] → IsTextOf (λ a. IsTrue (is_algebra a)) algebra_text bytes algebras.Rational
unfolding algebra_text is_algebra
rational_read bytes e = (refl, sym e)

pub quadratic_valid : (a : Algebra) → IsQuadratic a → IsTrue (is_algebra a)
unfolding is_algebra
quadratic_valid algebras.Rational h = absurd h
quadratic_valid (algebras.Quadratic m1 m0) h = both_true h.0 h.1
quadratic_valid (algebras.Cubic m2 m1 m0) h = absurd h
quadratic_valid (algebras.Tower m2 m1 m0 d) h = absurd h

pub cubic_algebra : (m : Frac × Frac × Frac) (bytes : List ℕ) → IsTextOf AreThree (λ m. cubic_text m.0 m.1 m.2) bytes m → IsTextOf (λ a. IsTrue (is_algebra a)) algebra_text bytes (algebras.Cubic m.0 m.1 m.2)
unfolding algebra_text
cubic_algebra m bytes h = (three_cubic m.0 m.1 m.2 h.0, h.1)

pub no_simple : (a : Algebra) (bytes : List ℕ) → AllByRecursion (λ b. b ≢ 32) bytes → (bytes ≡ 81 ∷ [] → ⊥) → IsNoText IsQuadratic algebra_text bytes → IsNoText AreThree (λ m. cubic_text m.0 m.1 m.2) bytes
    → IsTrue (is_algebra a) → algebra_text a ≡ bytes → ⊥
unfolding algebra_text is_algebra
no_simple algebras.Rational bytes free other two three h e = other (sym e)
no_simple (algebras.Quadratic m1 m0) bytes free other two three h e = two (algebras.Quadratic m1 m0) (both (is_frac m1) (is_frac m0) h) e
no_simple (algebras.Cubic m2 m1 m0) bytes free other two three h e = three (m2, m1, m0) (cubic_three m2 m1 m0 h) e
no_simple (algebras.Tower m2 m1 m0 d) bytes free other two three h e = unsplit 32 (cubic_text m2 m1 m0) (codes "; s^2" ++ opposite_text (component_text (d, []))) bytes free e

-- ---- cut at the blank

pub joined_read : (bytes whole : List ℕ) (r : Option Algebra) → bytes ≡ whole → IfSome r (IsTextOf (λ a. IsTrue (is_algebra a)) algebra_text whole) → IfSome r (IsTextOf (λ a. IsTrue (is_algebra a)) algebra_text bytes)
joined_read bytes whole None e h = tt
joined_read bytes whole (Some a) e h = (h.0, h.1 ∙ sym e)
