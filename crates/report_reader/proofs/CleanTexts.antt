-- The texts of values hold no newline.
use Rattle.std.proofs.Common.{◌≡◌, ◌≢◌, ℕ, true, ltb, ◌&&◌, List, [], ◌∷◌, ◌++◌, arith, ◌≤◌}
use Rattle.std.specs.Prelude.{decimal, codes, IsTrue}
use Rattle.std.proofs.lemmas.Bool.{ltb-true}
use Rattle.std.specs.List.{AllByRecursion}
use Rattle.ext_algebra.specs.declared.algebra.Algebra.{Algebra}
use Rattle.ext_algebra.specs.Algebra.{is_algebra, is_element}
use Rattle.normal_forms.specs.declared.family.Family.{Family}
use Rattle.normal_forms.specs.declared.family.Family.TheVariants as families
use Rattle.normal_forms.specs.Families.{is_family}
use Rattle.normal_forms.specs.declared.pattern.Pattern.{Pattern}
use Rattle.normal_forms.specs.declared.pattern.Pattern.TheVariants as patterns
use Rattle.normal_forms.specs.declared.modulus_line.ModulusLine.{ModulusLine}
use Rattle.normal_forms.specs.declared.modulus_line.ModulusLine.TheVariants as moduli
use Rattle.poly_text.specs.declared.what.What.{What}
use Rattle.poly_text.specs.declared.what.What.TheVariants as whats
use Rattle.poly_text.specs.Numbers.{fraction_text, element_text}
use Rattle.poly_text.specs.declared.name.Name.{Name}
use Rattle.poly_text.specs.Polynomials.{name_text, monomial_text, jet_text}
use Rattle.cert_text.specs.declared.report.Phase.{Phase}
use Rattle.cert_text.specs.declared.report.Phase.TheVariants as phases
use Rattle.cert_text.specs.Names.{family_letters, family_numbers, family_text, pattern_text, phase_text, what_text}
use Rattle.cert_text.specs.Text.{modulus_text, algebra_text}
use Rattle.cert_text.specs.WellFormed.{has_small_numbers, is_valid_modulus, IsFamily, is_valid_name, IsJetOf}
use Rattle.cert_law.proofs.Valid.{all_to, both}
use Rattle.cert_law.specs.Fields.{Element}
use Rattle.text_reader.specs.Reading.{IsAny}
use Rattle.text_reader.proofs.Visible.{digits_lack, IsVisible, no_byte}
use Rattle.text_reader.proofs.VisibleTexts.{IsPrinted, printed-algebra, visible-element, visible-fraction, visible-jet, visible-monomial, visible-name}
use Rattle.report_reader.specs.Lines.{IsClean, IsPlace, place_text}
use Rattle.report_reader.proofs.Fronts.{clean-append}
use Rattle.mono_exp.specs.declared.exponent.Exp.{Exp}
use Rattle.jet_poly.specs.JetTerms.{JetTerms}
use Rattle.row_reader.specs.Values.{IsResidual}

visible_clean : (bytes : List ℕ) → AllByRecursion IsVisible bytes → IsClean bytes
visible_clean bytes h = no_byte 10 (omega arith) bytes h

pub name_clean : (name : Name) → IsTrue (is_valid_name name) → IsClean (name_text name)
name_clean name h = visible_clean (name_text name) (visible-name name h)

pub algebra_clean : (a : Algebra) → IsTrue (is_algebra a) → IsClean (algebra_text a)
algebra_clean a h = all_to IsPrinted (λ b. b ≢ 10) (λ b le e. omega (arith, le, e)) (algebra_text a) (printed-algebra a h)

pub element_clean : (a : Algebra) (e : Element) → IsTrue (is_element a e) → IsClean (element_text e)
element_clean a e h = visible_clean (element_text e) (visible-element a e h)

pub monomial_clean : (corank : ℕ) (m : Exp) → IsResidual corank m → IsClean (monomial_text m)
monomial_clean corank m h = visible_clean (monomial_text m) (visible-monomial corank 17 m (omega arith) h)

pub jet_clean : (n order : ℕ) (a : Algebra) → order ≤ 16 → (f : JetTerms Element) → IsJetOf n order a f → IsClean (jet_text f)
jet_clean n order a le f h = visible_clean (jet_text f) (visible-jet n order a f (omega (arith, le)) h)

-- ---- names of families, patterns and phases

letters_clean : (f : Family) → IsClean (family_letters f)
unfolding family_letters
letters_clean (families.A m) = omega arith
letters_clean _ = omega arith

byte_clean : (m : ℕ) → ltb m 256 ≡ true → IsClean (decimal m)
byte_clean m h = let lt = ltb-true m 256 h in digits_lack 10 m (omega arith) (omega (arith, lt))

numbers_clean : (f : Family) → has_small_numbers f ≡ true → IsClean (family_numbers f)
unfolding family_numbers
numbers_clean (families.A m) h = byte_clean m h
numbers_clean (families.D m) h = byte_clean m h
numbers_clean (families.T p q r) h =
    let a = both (ltb p 256) (ltb q 256 && ltb r 256) h in
    let b = both (ltb q 256) (ltb r 256) a.1 in
    three (decimal p) (decimal q) (decimal r) (byte_clean p a.0) (byte_clean q b.0) (byte_clean r b.1)
  where
    three : (x y z : List ℕ) → IsClean x → IsClean y → IsClean z → IsClean (x ++ 44 ∷ y ++ 44 ∷ z ++ 41 ∷ [])
    three x y z cx cy cz =
        clean-append (x ++ 44 ∷ y ++ 44 ∷ z) (41 ∷ []) (clean-append (x ++ 44 ∷ y) (44 ∷ z) (clean-append x (44 ∷ y) cx ((λ e. omega (arith, e)), cy)) ((λ e. omega (arith, e)), cz)) (omega arith)
numbers_clean _ h = tt

pub family_clean : (f : Family) → IsFamily f → IsClean (family_text f)
unfolding family_text
family_clean f h = clean-append (family_letters f) (family_numbers f) (letters_clean f) (numbers_clean f (both (is_family f) (has_small_numbers f) h).1)

pub pattern_clean : (p : Pattern) → IsAny p → IsClean (pattern_text p)
unfolding pattern_text
pattern_clean patterns.O h = omega arith
pattern_clean _ h = omega arith

pub phase_clean : (p : Phase) → IsAny p → IsClean (phase_text p)
unfolding phase_text
phase_clean phases.Line h = omega arith
phase_clean _ h = omega arith

pub what_clean : (w : What) → IsClean (what_text w)
unfolding what_text
what_clean whats.Byte = omega arith
what_clean whats.End = omega arith

pub modulus_clean : (a : Algebra) (m : ModulusLine) → IsTrue (is_valid_modulus a m) → IsClean (modulus_text m)
unfolding modulus_text
modulus_clean a moduli.None h = omega arith
modulus_clean a moduli.Form h = omega arith
modulus_clean a (moduli.Value e) h = clean-append (codes "value ") (element_text e) (omega arith) (element_clean a e h)
modulus_clean a (moduli.J q) h = clean-append (codes "j ") (fraction_text q) (omega arith) (visible_clean (fraction_text q) (visible-fraction q h))

pub place_clean : (v : ℕ × What) → IsPlace v → IsClean (place_text v)
place_clean v lt = clean-append (decimal v.0) (32 ∷ what_text v.1) (digits_lack 10 v.0 (omega arith) (omega (arith, lt))) ((λ e. omega (arith, e)), what_clean v.1)
