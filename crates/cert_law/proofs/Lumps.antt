-- The pieces of a polynomial: a sign, a coefficient and a body, or a coefficient in parentheses and a body.
use Rattle.std.proofs.Common.{◌≡◌, ℕ, suc, ◌<◌, ◌^◌, false, ◌&&◌, ℤ, pos, negsuc, List, [], ◌∷◌, ◌++◌, refl, sym, ap, ◌∙◌, subst, append_assoc, arith, inl, inr}
use Rattle.std.specs.Prelude.{◌⊎◌}
use Rattle.std.specs.List.{AllByRecursion, flat_map}
use Rattle.ring_law.specs.declared.fraction.Frac.{Frac}
use Rattle.cert_law.specs.Fields.{Element}
use Rattle.poly_text.specs.Numbers.{fraction_text, is_whole, product_text, signed_text, without_plus, element_text}
use Rattle.cert_law.specs.Unique.{Starts}
use Rattle.cert_law.specs.Fields.{size, IsSmall, IsBody, EndsPiece, EndsSum, IsSmallElement}
use Rattle.cert_law.proofs.Cut.{head}
use Rattle.cert_law.proofs.Pieces.{Plain, plain, made, magnitude, magnitude_one, piece_one, positive_piece, negative_piece, number_first, plain_number, one_positive, body_one}
use Rattle.cert_law.proofs.Sums.{Signed, sign_of, signed_ends, sign_apart, magnitude_plain, zero_text, ends_piece}
use Rattle.cert_law.proofs.Elements.{element_one}

pub data Lump : Type 0 where
  Simple : (q : Frac) (body : List ℕ) → Lump
  Bracketed : (e : Element) (body : List ℕ) → Lump

abbrev pub lump_text : Lump → List ℕ
lump_text (Simple q body) = signed_text (product_text q body)
lump_text (Bracketed e body) = 43 ∷ 40 ∷ (element_text e ++ 41 ∷ body)

pub record IsSimple (q : Frac) (body : List ℕ) : Type 0 where
  pub small : IsSmall q
  pub nonzero : q.num ≡ pos 0 → ⊥
  pub factors : IsBody body

pub record IsBracketed (e : Element) (body : List ℕ) : Type 0 where
  pub element : IsSmallElement e
  pub factors : IsBody body

abbrev pub IsLump : Lump → Type 0
IsLump (Simple q body) = IsSimple q body
IsLump (Bracketed e body) = IsBracketed e body

abbrev flat : List Lump → List ℕ
flat ls = flat_map lump_text ls

lump_sign : (l : Lump) → Signed (lump_text l)
lump_sign (Simple q body) = sign_of (product_text q body)
lump_sign (Bracketed e body) = inl refl

-- a parenthesis begins no coefficient
no_bracket : (f x y : List ℕ) → Plain f → f ++ x ≡ 40 ∷ y → ⊥
no_bracket [] x y p e = p
no_bracket (b ∷ bs) x y p e = let h = head b 40 (bs ++ x) y e in omega (arith, h.0)

mixed : (n d : ℤ) (body x y : List ℕ) → size n < 10 ^ 64 → IsBody body → signed_text (product_text (made n d) body) ++ x ≡ 43 ∷ 40 ∷ y → ⊥
mixed (pos n) d body x y lt is e =
    let t = is_whole d (pos 1) && is_whole (pos n) (pos 1) in
    let u : 43 ∷ (magnitude t (fraction_text (plain n d)) body ++ x) ≡ 43 ∷ (40 ∷ y) = sym (ap (λ (z : List ℕ). z ++ x) (positive_piece n d body lt is)) ∙ e in
    no_bracket (magnitude t (fraction_text (plain n d)) body) x y (magnitude_plain t (fraction_text (plain n d)) body (plain_number n d lt) is) (head 43 43 _ _ u).1
mixed (negsuc n) d body x y lt is e =
    let u = sym (ap (λ (z : List ℕ). z ++ x) (negative_piece n d body is)) ∙ e in
    let h = (head 45 43 _ _ u).0 in omega (arith, h)

bracketed_one : (e f : Element) (b c x y : List ℕ) → IsSmallElement e → IsSmallElement f → IsBody b → IsBody c → Starts EndsPiece x → Starts EndsPiece y
    → (43 ∷ 40 ∷ (element_text e ++ 41 ∷ b)) ++ x ≡ (43 ∷ 40 ∷ (element_text f ++ 41 ∷ c)) ++ y → (e ≡ f) × (b ≡ c) × (x ≡ y)
bracketed_one e f b c x y oe of ib ic sx sy eq =
    let inner = (head 40 40 _ _ (head 43 43 _ _ eq).1).1 in
    let split : element_text e ++ (41 ∷ (b ++ x)) ≡ element_text f ++ (41 ∷ (c ++ y)) = sym (append_assoc (element_text e) (41 ∷ b) x) ∙ inner ∙ append_assoc (element_text f) (41 ∷ c) y in
    let h = element_one e f (41 ∷ (b ++ x)) (41 ∷ (c ++ y)) oe of (omega arith) (omega arith) split in
    let k = body_one b c x y ib ic sx sy (head 41 41 _ _ h.1).1 in
    (h.0, k.0, k.1)

simple_is : (q r : Frac) (b c : List ℕ) → q ≡ r → b ≡ c → Simple q b ≡ Simple r c
simple_is q r b c p s = λ i. Simple (p i) (s i)

bracketed_is : (e f : Element) (b c : List ℕ) → e ≡ f → b ≡ c → Bracketed e b ≡ Bracketed f c
bracketed_is e f b c p s = λ i. Bracketed (p i) (s i)

pub lump_one : (l m : Lump) (x y : List ℕ) → IsLump l → IsLump m → Starts EndsPiece x → Starts EndsPiece y → lump_text l ++ x ≡ lump_text m ++ y → (l ≡ m) × (x ≡ y)
lump_one (Simple q b) (Simple r c) x y ol om sx sy e = let h = piece_one q r b c x y ol.small om.small ol.factors om.factors sx sy e in (simple_is q r b c h.0 h.1, h.2)
lump_one (Simple q b) (Bracketed f c) x y ol om sx sy e = absurd (mixed q.num q.den b x _ ol.small.num ol.factors e)
lump_one (Bracketed e b) (Simple r c) x y ol om sx sy eq = absurd (mixed r.num r.den c y _ om.small.num om.factors (sym eq))
lump_one (Bracketed e b) (Bracketed f c) x y ol om sx sy eq = let h = bracketed_one e f b c x y ol.element om.element ol.factors om.factors sx sy eq in (bracketed_is e f b c h.0 h.1, h.2)

pub lumps_ends : (ls : List Lump) (x : List ℕ) → Starts EndsSum x → Starts EndsPiece (flat ls ++ x)
lumps_ends [] x s = ends_piece x s
lumps_ends (l ∷ ls) x s = let whole : (lump_text l ++ flat ls) ++ x ≡ lump_text l ++ (flat ls ++ x) = append_assoc (lump_text l) (flat ls) x in subst (Starts EndsPiece) (sym whole) (signed_ends (lump_text l) (flat ls ++ x) (lump_sign l))

pub lumps_one : (ls ms : List Lump) (x y : List ℕ) → AllByRecursion IsLump ls → AllByRecursion IsLump ms → Starts EndsSum x → Starts EndsSum y → flat ls ++ x ≡ flat ms ++ y → (ls ≡ ms) × (x ≡ y)
lumps_one [] [] x y ol om sx sy e = (refl, e)
lumps_one [] (m ∷ ms) x y ol om sx sy e = absurd (sign_apart (lump_text m) (flat ms ++ y) x (lump_sign m) sx (e ∙ append_assoc (lump_text m) (flat ms) y))
lumps_one (l ∷ ls) [] x y ol om sx sy e = absurd (sign_apart (lump_text l) (flat ls ++ x) y (lump_sign l) sy (sym e ∙ append_assoc (lump_text l) (flat ls) x))
lumps_one (l ∷ ls) (m ∷ ms) x y ol om sx sy e =
    let e2 : lump_text l ++ (flat ls ++ x) ≡ lump_text m ++ (flat ms ++ y) = sym (append_assoc (lump_text l) (flat ls) x) ∙ e ∙ append_assoc (lump_text m) (flat ms) y in
    let h = lump_one l m (flat ls ++ x) (flat ms ++ y) ol.0 om.0 (lumps_ends ls x sx) (lumps_ends ms y sy) e2 in
    let r = lumps_one ls ms x y ol.1 om.1 sx sy h.1 in
    (cc (h.0, r.0), r.1)

-- ---- no plus at the front

abbrev NoMinus : List ℕ → Type 0
NoMinus [] = ⊥
NoMinus (b ∷ bs) = b ≡ 45 → ⊥

abbrev Minus : List ℕ → Type 0
Minus [] = ⊥
Minus (b ∷ bs) = b ≡ 45

-- the text is what stands behind the plus, or all behind a minus
abbrev Lifts : List ℕ → List ℕ → Type 0
Lifts all text = ((all ≡ 43 ∷ text) × NoMinus text) ⊎ ((all ≡ text) × Minus text)

plain_no_minus : (f g : List ℕ) → Plain f → NoMinus (f ++ g)
plain_no_minus [] g p = absurd p
plain_no_minus (b ∷ bs) g p = λ e. omega (arith, e)

simple_lifts : (n d : ℤ) (body g : List ℕ) → size n < 10 ^ 64 → IsBody body → Lifts (signed_text (product_text (made n d) body) ++ g) (without_plus (signed_text (product_text (made n d) body) ++ g))
simple_lifts (pos n) d body g lt is =
    let t = is_whole d (pos 1) && is_whole (pos n) (pos 1) in
    let f = magnitude t (fraction_text (plain n d)) body in
    let e : signed_text (product_text (made (pos n) d) body) ++ g ≡ 43 ∷ (f ++ g) = ap (λ (z : List ℕ). z ++ g) (positive_piece n d body lt is) in
    let behind : without_plus (signed_text (product_text (made (pos n) d) body) ++ g) ≡ f ++ g = ap without_plus e in
    inl (e ∙ ap (λ (z : List ℕ). 43 ∷ z) (sym behind), subst NoMinus (sym behind) (plain_no_minus f g (magnitude_plain t (fraction_text (plain n d)) body (plain_number n d lt) is)))
simple_lifts (negsuc n) d body g lt is =
    let t = is_whole d (pos 1) && is_whole (negsuc n) (negsuc 0) in
    let f = magnitude t (fraction_text (plain (suc n) d)) body in
    let e : signed_text (product_text (made (negsuc n) d) body) ++ g ≡ 45 ∷ (f ++ g) = ap (λ (z : List ℕ). z ++ g) (negative_piece n d body is) in
    let behind : without_plus (signed_text (product_text (made (negsuc n) d) body) ++ g) ≡ 45 ∷ (f ++ g) = ap without_plus e in
    inr (e ∙ sym behind, subst Minus (sym behind) refl)

lump_lifts : (l : Lump) (g : List ℕ) → IsLump l → Lifts (lump_text l ++ g) (without_plus (lump_text l ++ g))
lump_lifts (Simple q body) g is = simple_lifts q.num q.den body g is.small.num is.factors
lump_lifts (Bracketed e body) g is = inl (refl, λ no. omega (arith, no))

minus_apart : (t s x y : List ℕ) → NoMinus t → Minus s → t ++ x ≡ s ++ y → ⊥
minus_apart [] s x y p q e = p
minus_apart (b ∷ t) [] x y p q e = q
minus_apart (b ∷ t) (c ∷ s) x y p q e = p ((head b c (t ++ x) (s ++ y) e).0 ∙ q)

lift_both : (a b t s x y : List ℕ) → Lifts a t → Lifts b s → t ++ x ≡ s ++ y → a ++ x ≡ b ++ y
lift_both a b t s x y la lb e = elim la [
  | inl p ↦ elim lb [ inl q ↦ ap (λ (z : List ℕ). z ++ x) p.0 ∙ ap (λ (z : List ℕ). 43 ∷ z) e ∙ sym (ap (λ (z : List ℕ). z ++ y) q.0) | inr q ↦ absurd (minus_apart t s x y p.1 q.1 e) ]
  | inr p ↦ elim lb [ inl q ↦ absurd (minus_apart s t y x q.1 p.1 (sym e)) | inr q ↦ ap (λ (z : List ℕ). z ++ x) p.0 ∙ e ∙ sym (ap (λ (z : List ℕ). z ++ y) q.0) ]
]

-- ---- a polynomial is not 0 where it has a lump

zero_simple : (n d : ℤ) (body g x y : List ℕ) → IsSmall (made n d) → (n ≡ pos 0 → ⊥) → IsBody body → Starts EndsSum x → Starts EndsPiece (g ++ y) → 48 ∷ x ≡ without_plus (signed_text (product_text (made n d) body) ++ g) ++ y → ⊥
zero_simple (pos n) d body g x y sq nonzero is sx sg e =
    let t = is_whole d (pos 1) && is_whole (pos n) (pos 1) in
    let f = magnitude t (fraction_text (plain n d)) body in
    let behind : without_plus (signed_text (product_text (made (pos n) d) body) ++ g) ≡ f ++ g = ap without_plus (ap (λ (z : List ℕ). z ++ g) (positive_piece n d body sq.num is)) in
    let eq : magnitude false (fraction_text (plain 0 (pos 1))) [] ++ x ≡ f ++ (g ++ y) = ap (λ (z : List ℕ). z ++ x) zero_text ∙ e ∙ ap (λ (z : List ℕ). z ++ y) behind ∙ append_assoc f g y in
    let h = magnitude_one false t (plain 0 (pos 1)) (plain n d) [] body x (g ++ y) (record { num = omega arith; den = omega arith }) sq (number_first 0 (pos 1) (omega arith)) (number_first n d sq.num) (λ no. absurd cc) (one_positive n d) tt is (ends_piece x sx) sg eq in
    nonzero (sym (ap (λ (q : Frac). q.num) h.0))
zero_simple (negsuc n) d body g x y sq nonzero is sx sg e =
    let behind = ap without_plus (ap (λ (z : List ℕ). z ++ g) (negative_piece n d body is)) in
    let h = head 48 45 x _ (e ∙ ap (λ (z : List ℕ). z ++ y) behind) in omega (arith, h.0)

zero_lump : (l : Lump) (g x y : List ℕ) → IsLump l → Starts EndsSum x → Starts EndsPiece (g ++ y) → 48 ∷ x ≡ without_plus (lump_text l ++ g) ++ y → ⊥
zero_lump (Simple q body) g x y is sx sg e = zero_simple q.num q.den body g x y is.small is.nonzero is.factors sx sg e
zero_lump (Bracketed f body) g x y is sx sg e = let h = head 48 40 x _ e in omega (arith, h.0)

-- the text of the lumps, with no plus at the front
pub lump_sum_one : (ls ms : List Lump) (x y : List ℕ) → AllByRecursion IsLump ls → AllByRecursion IsLump ms → Starts EndsSum x → Starts EndsSum y
    → without_plus (flat ls) ++ x ≡ without_plus (flat ms) ++ y → (ls ≡ ms) × (x ≡ y)
lump_sum_one [] [] x y ol om sx sy e = (refl, (head 48 48 x y e).1)
lump_sum_one [] (m ∷ ms) x y ol om sx sy e = absurd (zero_lump m (flat ms) x y om.0 sx (lumps_ends ms y sy) e)
lump_sum_one (l ∷ ls) [] x y ol om sx sy e = absurd (zero_lump l (flat ls) y x ol.0 sy (lumps_ends ls x sx) (sym e))
lump_sum_one (l ∷ ls) (m ∷ ms) x y ol om sx sy e =
    lumps_one (l ∷ ls) (m ∷ ms) x y ol om sx sy (lift_both _ _ _ _ x y (lump_lifts l (flat ls) ol.0) (lump_lifts m (flat ms) om.0) e)
