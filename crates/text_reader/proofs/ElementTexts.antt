-- Elements by their texts.
use Rattle.std.proofs.Common.{◌≡◌, ℕ, ◌<◌, Bool, true, false, cond, ◌&&◌, eqb, pos, negsuc, Option, Some, None, List, [], ◌∷◌, ◌++◌, length, refl, sym, ap, ◌∙◌, subst, append_assoc, append-nil, arith, IsTrue}
use Rattle.std.specs.Prelude.{codes, is_some}
use Rattle.std.specs.List.{AllByRecursion, flat_map, zip}
use Rattle.std.specs.Borrow.{Bor}
use Rattle.std.proofs.lemmas.Bool.{eqb-true}
use Rattle.std.specs.Cmp.Derive.{both_true}
use Rattle.ring_law.specs.declared.fraction.Frac.{Frac}
use Rattle.ext_algebra.specs.declared.algebra.Algebra.{Algebra}
use Rattle.ext_algebra.specs.declared.algebra.Ext.{Ext}
use Rattle.ext_algebra.specs.Fractions.{is_frac}
use Rattle.ext_algebra.specs.Algebra.{is_element, is_zero_past}
use Rattle.poly_text.specs.Numbers.{component_text, components, components_text, element_text, fraction_text, is_whole, is_zero_fraction, letters, numbers, product_text, signed_text, without_plus}
use Rattle.cert_law.specs.Fields.{IsBody, IsComponent, IsSmallElement, zero_fraction}
use Rattle.cert_law.proofs.Elements.{element_is, element_one, letters_apart, letters_are}
use Rattle.cert_law.proofs.Valid.{all_to, both, component_by}
use Rattle.text_reader.specs.Pieces.{joined, AreFractions, AreTaken, AreValid, FollowsAll, IsTaken}
use Rattle.text_reader.specs.Elements.{rational_element}
use Rattle.text_reader.specs.Reading.{IsTextOf}
use Rattle.text_reader.proofs.PieceTexts.{some_text, some_more}
use Rattle.text_reader.proofs.ComponentTexts.{zero_valid, taken_more, taken_none}

pub components_text_is : (e : Ext Frac) → components_text e ≡ flat_map component_text (components e)
unfolding components_text
components_text_is e = refl

-- the six components one after the other
pub element_taken : (e : Ext Frac) (s0 s1 s2 s3 s4 s5 s6 : List ℕ) → IsTaken [] e.c0 s0 s1 → IsTaken (codes "*t") e.c1 s1 s2 → IsTaken (codes "*t^2") e.c2 s2 s3 → IsTaken (codes "*s") e.c3 s3 s4
    → IsTaken (codes "*s*t") e.c4 s4 s5 → IsTaken (codes "*s*t^2") e.c5 s5 s6 → AreTaken letters (numbers e) s0 s6
element_taken e s0 s1 s2 s3 s4 s5 s6 t0 t1 t2 t3 t4 t5 =
    let are = letters_are in
    let apart = letters_apart in
    taken_more _ _ _ _ _ _ _ are apart.0 t0
    (taken_more _ _ _ _ _ _ _ are.1 apart.1.0 t1
    (taken_more _ _ _ _ _ _ _ are.1.1 apart.1.1.0 t2
    (taken_more _ _ _ _ _ _ _ are.1.1.1 apart.1.1.1.0 t3
    (taken_more _ _ _ _ _ _ _ are.1.1.1.1 apart.1.1.1.1.0 t4
    (taken_more _ _ _ _ _ _ _ are.1.1.1.1.1 apart.1.1.1.1.1.0 t5 (taken_none s6))))))

pub element_front : (e : Ext Frac) (sum behind : List ℕ) → AreTaken letters (numbers e) sum behind → sum ≡ components_text e ++ behind
element_front e sum behind taken = taken.front ∙ ap (λ z. z ++ behind) (sym (components_text_is e))

-- what is found of an element that stands there
pub element_found : (e f : Ext Frac) (sum behind rest : List ℕ) → AreTaken letters (numbers e) sum behind → AreFractions f → FollowsAll letters rest → sum ≡ components_text f ++ rest → (e ≡ f) × (behind ≡ rest)
element_found e f sum behind rest taken ok follows h =
    let k = taken.found (numbers f) rest refl ok follows (h ∙ ap (λ z. z ++ rest) (components_text_is f)) in
    (element_is e f k.0, k.1)

-- ---- the plus at the front of a sum

-- no piece, or a piece at the front that is not empty
pub data HasFront (sum : List ℕ) : Type 0 where
  nothing : sum ≡ [] → HasFront sum
  first : (f rest : List ℕ) → 0 < length f → sum ≡ signed_text f ++ rest → HasFront sum

without_signed_by : (t : Bool) (b : ℕ) (bs : List ℕ) → eqb b 45 ≡ t → without_plus (cond t (b ∷ bs) (43 ∷ b ∷ bs)) ≡ b ∷ bs
without_signed_by true b bs e = let is : b ≡ 45 = eqb-true b 45 e in subst (λ n. without_plus (n ∷ bs) ≡ n ∷ bs) (sym is) refl
without_signed_by false b bs e = refl

-- the sign at the front is written, or left out where it is a plus
pub without_signed : (bytes : List ℕ) → without_plus (signed_text bytes) ≡ bytes
without_signed [] = refl
without_signed (b ∷ bs) = without_signed_by (eqb b 45) b bs refl

signed_without_by : (t : Bool) (b : ℕ) (bs rest : List ℕ) → eqb b 45 ≡ t → signed_text (without_plus (cond t (b ∷ bs) (43 ∷ b ∷ bs) ++ rest)) ≡ cond t (b ∷ bs) (43 ∷ b ∷ bs) ++ rest
signed_without_by true b bs rest e = let is : b ≡ 45 = eqb-true b 45 e in subst (λ n. signed_text (without_plus ((n ∷ bs) ++ rest)) ≡ (n ∷ bs) ++ rest) (sym is) refl
signed_without_by false b bs rest e = ap (λ t. cond t (b ∷ (bs ++ rest)) (43 ∷ b ∷ (bs ++ rest))) e

signed_without : (f rest : List ℕ) → 0 < length f → signed_text (without_plus (signed_text f ++ rest)) ≡ signed_text f ++ rest
signed_without [] rest some = absurd (omega arith)
signed_without (b ∷ bs) rest some = signed_without_by (eqb b 45) b bs rest refl

-- the pieces of a sum from its text
pub sum_back : (sum bytes : List ℕ) → HasFront sum → without_plus sum ≡ bytes → (bytes ≡ 48 ∷ [] → ⊥) → signed_text bytes ≡ sum
sum_back sum bytes (nothing is) e other = absurd (other (sym e ∙ ap without_plus is))
sum_back sum bytes (first f rest some is) e other = ap signed_text (sym e) ∙ ap (λ z. signed_text (without_plus z)) is ∙ signed_without f rest some ∙ sym is

some_by : (a b c : Bool) (star : ℕ) (letters fraction : List ℕ) → 0 < length letters → 0 < length fraction → 0 < length (cond (a && b) letters (cond (a && c) (45 ∷ letters) (fraction ++ star ∷ letters)))
some_by true true c star letters fraction l f = l
some_by true false true star letters fraction l f = omega arith
some_by true false false star letters fraction l f = some_more fraction (star ∷ letters) f
some_by false b c star letters fraction l f = some_more fraction (star ∷ letters) f

-- a piece has a text
pub some_product : (q : Frac) (body : List ℕ) → IsTrue (is_frac q) → IsBody body → 0 < length (product_text q body)
some_product q [] valid is = some_text q valid
some_product q (star ∷ []) valid is = absurd is
some_product q (star ∷ c ∷ r) valid is = some_by (is_whole q.den (pos 1)) (is_whole q.num (pos 1)) (is_whole q.num (negsuc 0)) star (c ∷ r) (fraction_text q) (omega arith) (some_text q valid)

front_more : (t : Bool) (f more : List ℕ) → 0 < length f → HasFront more → HasFront (cond t [] (signed_text f) ++ more)
front_more true f more some h = h
front_more false f more some h = first f more some refl

numbers_front : (qs : List Frac) (bodies : List (List ℕ)) (rest : List ℕ) → AreValid qs → AllByRecursion IsBody bodies → HasFront rest → HasFront (flat_map component_text (zip qs bodies) ++ rest)
numbers_front [] bodies rest valid are h = h
numbers_front (q ∷ qs) [] rest valid are h = h
numbers_front (q ∷ qs) (body ∷ bodies) rest valid are h =
    subst HasFront (sym (append_assoc (component_text (q, body)) (flat_map component_text (zip qs bodies)) rest))
    (front_more (is_zero_fraction q) (product_text q body) (flat_map component_text (zip qs bodies) ++ rest) (some_product q body valid.0 are.0) (numbers_front qs bodies rest valid.1 are.1 h))

pub components_front : (e : Ext Frac) (rest : List ℕ) → AreFractions e → HasFront rest → HasFront (components_text e ++ rest)
unfolding components_text
components_front e rest ok h = numbers_front (numbers e) letters rest ok letters_are h

-- ---- elements

pub rational_fractions : (q : Frac) → IsTrue (is_frac q) → AreFractions (rational_element q)
rational_fractions q valid = (valid, (zero_valid, (zero_valid, (zero_valid, (zero_valid, (zero_valid, tt))))))

-- the element 0
abbrev pub zero_element : Ext Frac
zero_element = rational_element zero_fraction

zero_text : element_text zero_element ≡ 48 ∷ []
unfolding element_text components_text
zero_text = refl

pub zero_read : (bytes : List ℕ) → bytes ≡ 48 ∷ [] → IsTextOf AreFractions element_text bytes zero_element
zero_read bytes e = (rational_fractions zero_fraction zero_valid, zero_text ∙ sym e)

pub nothing_left : (r : Option (ℕ × Bor (List ℕ))) → is_some r ≡ false → joined r ≡ []
nothing_left None e = refl
nothing_left (Some p) e = absurd cc

pub something_left : (r : Option (ℕ × Bor (List ℕ))) → is_some r ≡ true → joined r ≡ [] → ⊥
something_left None e h = absurd cc
something_left (Some p) e h = absurd cc

pub element_read : (e : Ext Frac) (bytes rest : List ℕ) → signed_text bytes ≡ components_text e ++ rest → rest ≡ [] → element_text e ≡ bytes
unfolding element_text
element_read e bytes rest h none = ap without_plus (sym (append-nil (components_text e)) ∙ ap (λ z. components_text e ++ z) (sym none) ∙ sym h) ∙ without_signed bytes

pub element_back : (e : Ext Frac) (bytes : List ℕ) → AreFractions e → element_text e ≡ bytes → (bytes ≡ 48 ∷ [] → ⊥) → signed_text bytes ≡ components_text e ++ []
unfolding element_text
element_back e bytes ok h other =
    sum_back (components_text e ++ []) bytes (components_front e [] ok (nothing refl)) (ap without_plus (append-nil (components_text e)) ∙ h) other

pub small : (e : Ext Frac) → AreFractions e → IsSmallElement e
small e ok = all_to (λ q. IsTrue (is_frac q)) IsComponent (λ q valid. component_by q valid) (numbers e) ok

pub element_same : (e f : Ext Frac) → AreFractions e → AreFractions f → element_text e ≡ element_text f → e ≡ f
element_same e f he hf h = (element_one e f [] [] (small e he) (small f hf) tt tt (ap (λ z. z ++ []) h)).0

-- a valid element of an algebra: its components are, and those past the degree are 0
pub element_fractions : (a : Algebra) (e : Ext Frac) → IsTrue (is_element a e) → AreFractions e × IsTrue (is_zero_past a e)
unfolding is_element
element_fractions a e h =
    let c0 = both _ _ h in
    let c1 = both _ _ c0.1 in
    let c2 = both _ _ c1.1 in
    let c3 = both _ _ c2.1 in
    let c4 = both _ _ c3.1 in
    let c5 = both _ _ c4.1 in
    ((c0.0, (c1.0, (c2.0, (c3.0, (c4.0, (c5.0, tt)))))), c5.1)

pub fractions_element : (a : Algebra) (e : Ext Frac) → AreFractions e → IsTrue (is_zero_past a e) → IsTrue (is_element a e)
unfolding is_element
fractions_element a e ok past = both_true ok.0 (both_true ok.1.0 (both_true ok.1.1.0 (both_true ok.1.1.1.0 (both_true ok.1.1.1.1.0 (both_true ok.1.1.1.1.1.0 past)))))

pub past_fails : (a : Algebra) (e found : Ext Frac) (bytes : List ℕ) (r : Bool) → IsTrue (is_element a e) → element_text e ≡ bytes → IsTextOf AreFractions element_text bytes found → r ≡ is_zero_past a found → r ≡ false → ⊥
past_fails a e found bytes r h text is test fails =
    let x = element_fractions a e h in
    let same = element_same e found x.0 is.0 (text ∙ sym is.1) in
    let yes : is_zero_past a found ≡ true = subst (λ (z : Ext Frac). is_zero_past a z ≡ true) same x.1 in
    absurd (cc (yes, test, fails))
