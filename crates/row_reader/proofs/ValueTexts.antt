-- Lines of elements and monomials by their texts.
use Rattle.std.proofs.Common.{◌≡◌, ℕ, suc, ◌<◌, Bool, true, false, eqb, Option, List, [], ◌∷◌, ◌++◌, length, length-append, refl, sym, ap, ◌∙◌, subst, append-nil, arith, IsTrue}
use Rattle.std.specs.Prelude.{is_some, not, ◌↔◌}
use Rattle.std.specs.Borrow.{Bor}
use Rattle.std.specs.List.{AllByRecursion, list_all}
use Rattle.std.specs.Cmp.Derive.{both_true}
use Rattle.ring_law.specs.declared.fraction.Frac.{Frac}
use Rattle.ext_algebra.specs.declared.algebra.Algebra.{Algebra}
use Rattle.ext_algebra.specs.declared.algebra.Ext.{Ext}
use Rattle.ext_algebra.specs.Algebra.{is_element}
use Rattle.mono_exp.specs.declared.exponent.Exp.{Exp}
use Rattle.poly_text.specs.Numbers.{element_text}
use Rattle.poly_text.specs.Polynomials.{monomial_text}
use Rattle.cert_text.specs.Text.{spaced, unit_inside, values_text, monomials_text, functional_inside}
use Rattle.cert_text.specs.WellFormed.{is_zero_element}
use Rattle.cert_law.proofs.Cut.{head}
use Rattle.cert_law.proofs.Valid.{all_from, both}
use Rattle.text_reader.specs.Reading.{IsTextOf}
use Rattle.text_reader.proofs.PieceTexts.{is_empty_of, not_empty_of}
use Rattle.row_reader.specs.Values.{AreElements, AreResidual, IsFunctionalValue, IsResidual, IsUnitPair}
use Rattle.row_reader.specs.Words.{after_space, IsRest}
use Rattle.row_reader.proofs.Series.{IsLine, IsReadTo, read_done, read_more, read_start, read_stuck, series, too_few, no_more}
use Rattle.row_reader.proofs.WordTexts.{element_one, monomial_one, something_left}

-- ---- two values

pub unit_line : (a : Algebra) (u : Ext Frac × Ext Frac) (bytes : List ℕ) → unit_inside u ≡ bytes → 32 ∷ bytes ≡ 32 ∷ (element_text u.0 ++ (32 ∷ (element_text u.1 ++ [])))
unit_line a u bytes e = ap (λ z. 32 ∷ z) (sym e ∙ ap (λ z. element_text u.0 ++ 32 ∷ z) (sym (append-nil (element_text u.1))))

pub unit_valid : (a : Algebra) (u : Ext Frac × Ext Frac) → IsUnitPair a u → IsTrue (is_element a u.0) × IsTrue (is_element a u.1)
unit_valid a u h = both (is_element a u.0) (is_element a u.1) h

-- the second value and nothing behind it
pub unit_second : (a : Algebra) (u : Ext Frac × Ext Frac) (bytes : List ℕ) (value : Ext Frac) (behind : Option (Bor (List ℕ))) → IsUnitPair a u → unit_inside u ≡ bytes → IsTrue (is_element a value) → 32 ∷ bytes ≡ 32 ∷ (element_text value ++ after_space behind)
    → after_space behind ≡ 32 ∷ (element_text u.1 ++ [])
unit_second a u bytes value behind h e valid split = sym (element_one a u.0 value (32 ∷ (element_text u.1 ++ [])) behind (32 ∷ bytes) (unit_valid a u h).0 valid refl (unit_line a u bytes e) split).1

pub unit_end : (a : Algebra) (u : Ext Frac × Ext Frac) (bytes : List ℕ) (value inverse : Ext Frac) (behind rest : Option (Bor (List ℕ))) → IsUnitPair a u → unit_inside u ≡ bytes → IsTrue (is_element a value) → 32 ∷ bytes ≡ 32 ∷ (element_text value ++ after_space behind)
    → IsTrue (is_element a inverse) → after_space behind ≡ 32 ∷ (element_text inverse ++ after_space rest) → after_space rest ≡ []
unit_end a u bytes value inverse behind rest h e valid split valid2 split2 =
    sym (element_one a u.1 inverse [] rest (after_space behind) (unit_valid a u h).1 valid2 tt (unit_second a u bytes value behind h e valid split) split2).1

pub unit_read : (a : Algebra) (value inverse : Ext Frac) (bytes : List ℕ) (behind rest : Option (Bor (List ℕ))) → IsTrue (is_element a value) → 32 ∷ bytes ≡ 32 ∷ (element_text value ++ after_space behind) → IsTrue (is_element a inverse) → after_space behind ≡ 32 ∷ (element_text inverse ++ after_space rest) → after_space rest ≡ []
    → IsTextOf (IsUnitPair a) unit_inside bytes (value, inverse)
unit_read a value inverse bytes behind rest v split w split2 none = (
  both_true v w,
  sym ((head 32 32 bytes (element_text value ++ after_space behind) split).1 ∙ ap (λ z. element_text value ++ z) (split2 ∙ ap (λ z. 32 ∷ (element_text inverse ++ z)) none ∙ ap (λ z. 32 ∷ z) (append-nil (element_text inverse)))),
)

-- ---- a monomial and a value

pub functional_valid : (a : Algebra) (corank : ℕ) (v : Exp × Ext Frac) → IsFunctionalValue a corank v → IsResidual corank v.0 × IsTrue (is_element a v.1) × (is_zero_element v.1 ≡ false)
functional_valid a corank v h =
    let p = both _ _ h in
    let q = both (is_element a v.1) (not (is_zero_element v.1)) p.1 in
    (p.0, q.0, not_false (is_zero_element v.1) q.1)
  where
    not_false : (z : Bool) → not z ≡ true → z ≡ false
    not_false true e = absurd cc
    not_false false e = refl

pub functional_line : (v : Exp × Ext Frac) (bytes : List ℕ) → functional_inside v ≡ bytes → 32 ∷ bytes ≡ 32 ∷ (monomial_text v.0 ++ (32 ∷ (element_text v.1 ++ [])))
functional_line v bytes e = ap (λ z. 32 ∷ z) (sym e ∙ ap (λ z. monomial_text v.0 ++ 32 ∷ z) (sym (append-nil (element_text v.1))))

pub functional_second : (a : Algebra) (corank : ℕ) (v : Exp × Ext Frac) (bytes : List ℕ) (m : Exp) (behind : Option (Bor (List ℕ))) → IsFunctionalValue a corank v → functional_inside v ≡ bytes → IsResidual corank m → 32 ∷ bytes ≡ 32 ∷ (monomial_text m ++ after_space behind)
    → after_space behind ≡ 32 ∷ (element_text v.1 ++ [])
functional_second a corank v bytes m behind h e valid split = sym (monomial_one corank v.0 m (32 ∷ (element_text v.1 ++ [])) behind (32 ∷ bytes) (functional_valid a corank v h).0 valid refl (functional_line v bytes e) split).1

pub functional_end : (a : Algebra) (corank : ℕ) (v : Exp × Ext Frac) (bytes : List ℕ) (m : Exp) (value : Ext Frac) (behind rest : Option (Bor (List ℕ))) → IsFunctionalValue a corank v → functional_inside v ≡ bytes → IsResidual corank m → 32 ∷ bytes ≡ 32 ∷ (monomial_text m ++ after_space behind)
    → IsTrue (is_element a value) → after_space behind ≡ 32 ∷ (element_text value ++ after_space rest) → (v.1 ≡ value) × (after_space rest ≡ [])
functional_end a corank v bytes m value behind rest h e valid split valid2 split2 =
    let k = element_one a v.1 value [] rest (after_space behind) (functional_valid a corank v h).1 valid2 tt (functional_second a corank v bytes m behind h e valid split) split2 in
    (k.0, sym k.1)

zero_fails : (z r : Bool) → z ≡ false → r ≡ z → r ≡ true → ⊥
zero_fails z r e is h = cc

pub functional_zero : (a : Algebra) (corank : ℕ) (v : Exp × Ext Frac) (value : Ext Frac) (r : Bool) → IsFunctionalValue a corank v → v.1 ≡ value → r ≡ is_zero_element value → r ≡ true → ⊥
functional_zero a corank v value r h same test holds = zero_fails (is_zero_element v.1) r (functional_valid a corank v h).2 (test ∙ ap is_zero_element (sym same)) holds

pub functional_read : (a : Algebra) (corank : ℕ) (m : Exp) (value : Ext Frac) (r : Bool) (bytes : List ℕ) (behind rest : Option (Bor (List ℕ))) → IsResidual corank m → 32 ∷ bytes ≡ 32 ∷ (monomial_text m ++ after_space behind) → IsTrue (is_element a value) → after_space behind ≡ 32 ∷ (element_text value ++ after_space rest) → after_space rest ≡ []
    → r ≡ is_zero_element value → r ≡ false → IsTextOf (IsFunctionalValue a corank) functional_inside bytes (m, value)
functional_read a corank m value r bytes behind rest v split w split2 none test failed = (
  both_true v (both_true w (ap not (sym test ∙ failed))),
  sym ((head 32 32 bytes (monomial_text m ++ after_space behind) split).1 ∙ ap (λ z. monomial_text m ++ z) (split2 ∙ ap (λ z. 32 ∷ (element_text value ++ z)) none ∙ ap (λ z. 32 ∷ z) (append-nil (element_text value)))),
)

-- ---- lists of elements

pub all_list : {X : Type 0} (p : X → Bool) (xs : List X) → AllByRecursion (λ x. IsTrue (p x)) xs → IsTrue (list_all p xs)
all_list p [] h = refl
all_list p (x ∷ xs) h = both_true h.0 (all_list p xs h.1)

pub list_each : {X : Type 0} (p : X → Bool) (xs : List X) → IsTrue (list_all p xs) → AllByRecursion (λ x. IsTrue (p x)) xs
list_each p xs h = all_from p (λ x. IsTrue (p x)) (λ x e. e) xs h

abbrev pub value_piece : ℕ → Ext Frac → List ℕ
value_piece i v = 32 ∷ element_text v

-- so many items, and what may follow a word
pub record IsCounted {A : Type 0} (count : ℕ) (xs : List A) (y : List ℕ) : Type 0 where
  pub long : length xs ≡ count
  pub rest : IsRest y

value_line : (count : ℕ) → IsLine value_piece (IsCounted count)
value_line count = record { ends = λ ys y w. w.rest; begins = λ i v. refl }

values_series : (i : ℕ) (es : List (Ext Frac)) → values_text es ≡ series value_piece i es
values_series i [] = refl
values_series i (e ∷ es) = ap (λ z. (32 ∷ element_text e) ++ z) (values_series (suc i) es)

-- elements that were read up to what is left, of so many
abbrev pub AreRead : Algebra → ℕ → List ℕ → List (Ext Frac) → List ℕ → Type 0
AreRead a count all es left = IsReadTo (λ e. IsTrue (is_element a e)) value_piece (IsCounted count) all es left

pub values_start : (a : Algebra) (count : ℕ) (all : List ℕ) → AreRead a count all [] all
values_start a count all = read_start (λ e. IsTrue (is_element a e)) value_piece (IsCounted count) all

pub values_more : (a : Algebra) (count i : ℕ) (all left : List ℕ) (es : List (Ext Frac)) (value : Ext Frac) (behind : Option (Bor (List ℕ))) → AreRead a count all es left → length es ≡ i → i < count → IsTrue (is_element a value) → left ≡ 32 ∷ (element_text value ++ after_space behind)
    → AreRead a count all (es ++ value ∷ []) (after_space behind)
values_more a count i all left es value behind up len lt valid text =
    read_more (λ e. IsTrue (is_element a e)) value_piece (IsCounted count) (value_line count) all es left up value (after_space behind)
    (record { item = valid; text = text; only = λ v y hv ry e. element_one a v value y behind left hv valid ry e text })
    (λ ys y w same h. too_few count i es ys len lt w.long same)

counted : (a : Algebra) (count : ℕ) (es : List (Ext Frac)) (y : List ℕ) → AreElements a count es → IsRest y → IsCounted count es y
counted a count es y h ry = record { long = h.count_is; rest = ry }

pub values_stuck : (a : Algebra) (count i : ℕ) (all left : List ℕ) (es : List (Ext Frac)) → AreRead a count all es left → length es ≡ i → i < count → ((e : Ext Frac) (y : List ℕ) → IsTrue (is_element a e) → IsRest y → left ≡ 32 ∷ (element_text e ++ y) → ⊥)
    → (fs : List (Ext Frac)) (y : List ℕ) → AreElements a count fs → IsRest y → all ≡ values_text fs ++ y → ⊥
values_stuck a count i all left es up len lt none fs y valid ry e =
    read_stuck (λ e. IsTrue (is_element a e)) value_piece (IsCounted count) (value_line count) all es left up none (λ ys y w same h. too_few count i es ys len lt w.long same) fs y (list_each (is_element a) fs valid.elements) (counted a count fs y valid ry)
    (e ∙ ap (λ z. z ++ y) (values_series 0 fs))

pub values_done : (a : Algebra) (count : ℕ) (all left : List ℕ) (es : List (Ext Frac)) → AreRead a count all es left → length es ≡ count → (fs : List (Ext Frac)) (y : List ℕ) → AreElements a count fs → IsRest y → all ≡ values_text fs ++ y → (es ≡ fs) × (left ≡ y)
values_done a count all left es up len fs y valid ry e =
    read_done (λ e. IsTrue (is_element a e)) value_piece (IsCounted count) (value_line count) all es left up (λ zs y w h. no_more count es zs len w.long) fs y (list_each (is_element a) fs valid.elements) (counted a count fs y valid ry)
    (e ∙ ap (λ z. z ++ y) (values_series 0 fs))

pub values_found : (a : Algebra) (count : ℕ) (all left : List ℕ) (es : List (Ext Frac)) → AreRead a count all es left → length es ≡ count → AreElements a count es × (all ≡ values_text es ++ left)
values_found a count all left es up len = (record { count_is = len; elements = all_list (is_element a) es up.each }, up.sound ∙ ap (λ z. z ++ left) (sym (values_series 0 es)))

-- ---- the words of a line of so many

pub empty_words : (es : List (Ext Frac)) (count : ℕ) (bytes : List ℕ) → count ≡ 0 → bytes ≡ [] → length es ≡ count → (spaced es ≡ bytes) ↔ ([] ≡ values_text es)
unfolding spaced
empty_words [] count bytes none empty len = ((λ e. refl), (λ e. sym empty))
empty_words (e ∷ es) count bytes none empty len = absurd (omega (arith, none, len))

pub some_words : (es : List (Ext Frac)) (bytes : List ℕ) → (es ≡ [] → bytes ≡ [] → ⊥) → (spaced es ≡ bytes) ↔ (32 ∷ bytes ≡ values_text es)
unfolding spaced
some_words [] bytes other = ((λ e. absurd (other refl (sym e))), (λ e. absurd cc))
some_words (e ∷ es) bytes other = ((λ h. ap (λ z. 32 ∷ z) (sym h)), (λ h. sym (head 32 32 bytes (element_text e ++ values_text es) h).1))

pub some_count : (es : List (Ext Frac)) (count : ℕ) (bytes : List ℕ) → (count ≡ 0 → ⊥) → length es ≡ count → (spaced es ≡ bytes) ↔ (32 ∷ bytes ≡ values_text es)
some_count es count bytes other len = some_words es bytes (λ e h. other (sym len ∙ ap length e))

pub no_words : (es : List (Ext Frac)) (count : ℕ) (bytes : List ℕ) (r : Bool) → count ≡ 0 → r ≡ eqb (length bytes) 0 → r ≡ true → length es ≡ count → (spaced es ≡ bytes) ↔ ([] ≡ values_text es)
no_words es count bytes r none is e len = empty_words es count bytes none (is_empty_of bytes r is e) len

pub other_words : (es : List (Ext Frac)) (bytes : List ℕ) (r : Bool) → r ≡ eqb (length bytes) 0 → r ≡ false → (spaced es ≡ bytes) ↔ (32 ∷ bytes ≡ values_text es)
other_words es bytes r is e = some_words es bytes (λ h empty. not_empty_of bytes r is e empty)

-- ---- monomials up to the end of a line

abbrev pub monomial_piece : ℕ → Exp → List ℕ
monomial_piece i m = 32 ∷ monomial_text m

-- nothing follows
abbrev pub IsLast : List Exp → List ℕ → Type 0
IsLast ms y = y ≡ []

monomial_line : IsLine monomial_piece IsLast
monomial_line = record { ends = λ ys y w. subst IsRest (sym w) tt; begins = λ i v. refl }

monomials_series : (i : ℕ) (ms : List Exp) → monomials_text ms ≡ series monomial_piece i ms
monomials_series i [] = refl
monomials_series i (m ∷ ms) = ap (λ z. (32 ∷ monomial_text m) ++ z) (monomials_series (suc i) ms)

abbrev pub AreMonomials : ℕ → List ℕ → List Exp → List ℕ → Type 0
AreMonomials corank all ms left = IsReadTo (IsResidual corank) monomial_piece IsLast all ms left

pub monomials_start : (corank : ℕ) (all : List ℕ) → AreMonomials corank all [] all
monomials_start corank all = read_start (IsResidual corank) monomial_piece IsLast all

pub monomials_more : (corank : ℕ) (all : List ℕ) (ms : List Exp) (left : List ℕ) (m : Exp) (behind : Option (Bor (List ℕ))) → AreMonomials corank all ms left → IsResidual corank m → left ≡ 32 ∷ (monomial_text m ++ after_space behind) → AreMonomials corank all (ms ++ m ∷ []) (after_space behind)
monomials_more corank all ms left m behind up valid text =
    read_more (IsResidual corank) monomial_piece IsLast monomial_line all ms left up m (after_space behind)
    (record { item = valid; text = text; only = λ v y hv ry e. monomial_one corank v m y behind left hv valid ry e text })
    (λ ys y w same h. cc)

pub monomials_stuck : (corank : ℕ) (all : List ℕ) (ms : List Exp) (left : Option (Bor (List ℕ))) → AreMonomials corank all ms (after_space left) → is_some left ≡ true → ((m : Exp) (y : List ℕ) → IsResidual corank m → IsRest y → after_space left ≡ 32 ∷ (monomial_text m ++ y) → ⊥)
    → (ns : List Exp) → AreResidual corank ns → all ≡ monomials_text ns → ⊥
monomials_stuck corank all ms left up some none ns valid e =
    read_stuck (IsResidual corank) monomial_piece IsLast monomial_line all ms (after_space left) up none (λ ys y w same h. something_left left some (h ∙ w)) ns [] (list_each _ ns valid) refl
    (e ∙ monomials_series 0 ns ∙ sym (append-nil (series monomial_piece 0 ns)))

pub monomials_found : (corank : ℕ) (all : List ℕ) (ms : List Exp) (left : List ℕ) → AreMonomials corank all ms left → left ≡ [] → AreResidual corank ms × (all ≡ monomials_text ms)
monomials_found corank all ms left up none = (all_list _ ms up.each, up.sound ∙ ap (λ z. series monomial_piece 0 ms ++ z) none ∙ append-nil (series monomial_piece 0 ms) ∙ sym (monomials_series 0 ms))

pub shorter : (left text : List ℕ) (behind : Option (Bor (List ℕ))) → left ≡ 32 ∷ (text ++ after_space behind) → length (after_space behind) < length left
shorter left text behind e = let a = ap length e in let b = length-append text (after_space behind) in omega (arith, a, b)

pub monomials_rest : (ms : List Exp) → IsRest (monomials_text ms)
monomials_rest [] = tt
monomials_rest (m ∷ ms) = refl
