-- The words of a line by their texts.
use Rattle.std.proofs.Common.{◌≡◌, ◌≢◌, ℕ, true, false, Option, Some, None, List, [], ◌∷◌, ◌++◌, refl, sym, ap, ◌∙◌, arith, IsTrue}
use Rattle.std.specs.Prelude.{is_some}
use Rattle.std.specs.Borrow.{Bor}
use Rattle.std.specs.List.{AllByRecursion}
use Rattle.ring_law.specs.declared.fraction.Frac.{Frac}
use Rattle.ext_algebra.specs.declared.algebra.Algebra.{Algebra}
use Rattle.ext_algebra.specs.declared.algebra.Ext.{Ext}
use Rattle.ext_algebra.specs.Algebra.{is_element}
use Rattle.mono_exp.specs.declared.exponent.Exp.{Exp}
use Rattle.poly_text.specs.Numbers.{element_text}
use Rattle.poly_text.specs.Polynomials.{monomial_text}
use Rattle.cert_law.proofs.Cut.{head, cut, same_front}
use Rattle.text_reader.proofs.ElementTexts.{element_fractions, element_same}
use Rattle.text_reader.proofs.MonomialTexts.{monomial_same, monomial_valid}
use Rattle.text_reader.proofs.Visible.{IsVisible, no_byte}
use Rattle.text_reader.proofs.VisibleTexts.{visible-element, visible-monomial}
use Rattle.row_reader.specs.Values.{IsResidual}
use Rattle.row_reader.specs.Words.{after_space, IsRest}

-- no space in the bytes
abbrev pub IsWord : List ℕ → Type 0
IsWord xs = AllByRecursion (λ b. b ≢ 32) xs

pub visible_word : (xs : List ℕ) → AllByRecursion IsVisible xs → IsWord xs
visible_word xs h = no_byte 32 (omega arith) xs h

pub rest_of : (r : Option (Bor (List ℕ))) → IsRest (after_space r)
rest_of None = tt
rest_of (Some text) = refl

pub nothing_left : (r : Option (Bor (List ℕ))) → is_some r ≡ false → after_space r ≡ []
nothing_left None e = refl
nothing_left (Some text) e = absurd cc

pub something_left : (r : Option (Bor (List ℕ))) → is_some r ≡ true → after_space r ≡ [] → ⊥
something_left None e h = absurd cc
something_left (Some text) e h = absurd cc

pub nothing_there : (sum z : List ℕ) → sum ≡ [] → sum ≡ 32 ∷ z → ⊥
nothing_there sum z e h = absurd cc

-- a word and what is left behind it
pub word_cut : (x word y z : List ℕ) → IsWord x → IsWord word → IsRest y → IsRest z → 32 ∷ (x ++ y) ≡ 32 ∷ (word ++ z) → (x ≡ word) × (y ≡ z)
word_cut x word y z hx hw ry rz e = cut (λ b. b ≢ 32) (λ b. b ≡ 32) (λ b i o. i o) x word y z hx hw ry rz (head 32 32 (x ++ y) (word ++ z) e).1

-- the first word of what is left
pub word_is : (sum x y word : List ℕ) (behind : Option (Bor (List ℕ))) → sum ≡ 32 ∷ (word ++ after_space behind) → IsWord word → IsWord x → IsRest y → sum ≡ 32 ∷ (x ++ y) → (x ≡ word) × (y ≡ after_space behind)
word_is sum x y word behind split hw hx ry e = word_cut x word y (after_space behind) hx hw ry (rest_of behind) (sym e ∙ split)

pub marked : (sum word mark : List ℕ) (behind : Option (Bor (List ℕ))) → sum ≡ 32 ∷ (word ++ after_space behind) → word ≡ mark → sum ≡ 32 ∷ (mark ++ after_space behind)
marked sum word mark behind split e = split ∙ ap (λ z. 32 ∷ (z ++ after_space behind)) e

pub word_element : (a : Algebra) (e : Ext Frac) → IsTrue (is_element a e) → IsWord (element_text e)
word_element a e h = visible_word (element_text e) (visible-element a e h)

pub word_monomial : (corank : ℕ) (m : Exp) → IsResidual corank m → IsWord (monomial_text m)
word_monomial corank m h = visible_word (monomial_text m) (visible-monomial corank 17 m (omega arith) h)

-- an element and what is left behind it are told from what was left
pub element_one : (a : Algebra) (e f : Ext Frac) (y : List ℕ) (z : Option (Bor (List ℕ))) (sum : List ℕ) → IsTrue (is_element a e) → IsTrue (is_element a f) → IsRest y → sum ≡ 32 ∷ (element_text e ++ y) → sum ≡ 32 ∷ (element_text f ++ after_space z) → (e ≡ f) × (y ≡ after_space z)
element_one a e f y z sum he hf ry h k =
    let r = word_is sum (element_text e) y (element_text f) z k (word_element a f hf) (word_element a e he) ry h in
    (element_same e f (element_fractions a e he).0 (element_fractions a f hf).0 r.0, r.1)

pub monomial_one : (corank : ℕ) (m n : Exp) (y : List ℕ) (z : Option (Bor (List ℕ))) (sum : List ℕ) → IsResidual corank m → IsResidual corank n → IsRest y → sum ≡ 32 ∷ (monomial_text m ++ y) → sum ≡ 32 ∷ (monomial_text n ++ after_space z) → (m ≡ n) × (y ≡ after_space z)
monomial_one corank m n y z sum hm hn ry h k =
    let r = word_is sum (monomial_text m) y (monomial_text n) z k (word_monomial corank n hn) (word_monomial corank m hm) ry h in
    (monomial_same m n (monomial_valid corank 17 m (omega arith) hm) (monomial_valid corank 17 n (omega arith) hn) r.0, r.1)

-- a mark that was taken, and what is left behind it
pub mark_one : (mark y : List ℕ) (z : Option (Bor (List ℕ))) (sum : List ℕ) → sum ≡ 32 ∷ (mark ++ y) → sum ≡ 32 ∷ (mark ++ after_space z) → y ≡ after_space z
mark_one mark y z sum h k = same_front mark y (after_space z) (head 32 32 (mark ++ y) (mark ++ after_space z) (sym h ∙ k)).1
