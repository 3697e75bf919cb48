-- A name by its text.
use Rattle.std.proofs.Common.{◌≡◌, ℕ, ◌≤◌, true, ◌&&◌, eqb, leb, List, [], ◌∷◌, length, take, drop, refl, sym, ap, ◌∙◌, subst, arith, IsTrue}
use Rattle.std.specs.Prelude.{min}
use Rattle.std.specs.List.{list_all}
use Rattle.std.proofs.lemmas.Bool.{leb-true}
use Rattle.std.specs.Cmp.Derive.{both_true}
use Rattle.line_syntax.specs.Syntax.{is_name, is_letter, is_digit}
use Rattle.poly_text.specs.declared.name.Name.{Name}
use Rattle.poly_text.specs.Polynomials.{name_text}
use Rattle.cert_text.specs.WellFormed.{is_valid_name}
use Rattle.cert_law.proofs.Valid.{both}
use Rattle.text_reader.specs.Reading.{IsTextOf}
use Rattle.text_reader.specs.Names.{padded}

-- a name has one to four bytes
pub name_short : (text : List ℕ) → is_name text ≡ true → length text ≤ 4
name_short [] e = omega arith
name_short (c ∷ cs) e =
    let h = both (list_all is_digit cs) (leb (length cs) 3) (both (is_letter c) (list_all is_digit cs && leb (length cs) 3) e).1 in
    let short = leb-true (length cs) 3 h.1 in omega (arith, short)

-- a name with zeros behind it is valid
pub padded_valid : (text : List ℕ) → is_name text ≡ true → IsTextOf (λ name. IsTrue (is_valid_name name)) name_text text (padded text)
padded_valid [] e = absurd cc
padded_valid (a ∷ []) e = (both_true e refl, refl)
padded_valid (a ∷ b ∷ []) e = (both_true e refl, refl)
padded_valid (a ∷ b ∷ c ∷ []) e = (both_true e refl, refl)
padded_valid (a ∷ b ∷ c ∷ d ∷ []) e = (both_true e refl, refl)
padded_valid (a ∷ b ∷ c ∷ d ∷ x ∷ xs) e = absurd (let short = name_short (a ∷ b ∷ c ∷ d ∷ x ∷ xs) e in omega (arith, short))

-- the text of a valid name is a name
pub text_is_name : (name : Name) (bytes : List ℕ) → IsTrue (is_valid_name name) → name_text name ≡ bytes → is_name bytes ≡ true
text_is_name name bytes v e =
    let h = both (eqb (length name.bytes) 4 && leb name.len 4) (is_name (take name.len name.bytes) && list_all (λ b. eqb b 0) (drop name.len name.bytes)) v in
    let short = leb-true name.len 4 (both (eqb (length name.bytes) 4) (leb name.len 4) h.0).1 in
    let same : min name.len 4 ≡ name.len = omega (arith, short) in
    let is = (both (is_name (take name.len name.bytes)) (list_all (λ b. eqb b 0) (drop name.len name.bytes)) h.1).0 in
    subst (λ t. is_name t ≡ true) (sym (ap (λ n. take n name.bytes) same) ∙ e) is
