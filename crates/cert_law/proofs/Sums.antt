-- One reading of a sum.
use Rattle.std.proofs.Common.{◌≡◌, ℕ, suc, ◌<◌, ◌^◌, Bool, true, false, cond, eqb, ◌&&◌, ℤ, pos, negsuc, List, [], ◌∷◌, ◌++◌, refl, sym, ap, ◌∙◌, subst, append_assoc, arith, inl, inr}
use Rattle.std.specs.Prelude.{◌⊎◌}
use Rattle.std.specs.List.{AllByRecursion, flat_map}
use Rattle.std.proofs.lemmas.Bool.{eqb-true}
use Rattle.std.proofs.lemmas.Fmt.{decimal_digit}
use Rattle.ring_law.specs.declared.fraction.Frac.{Frac}
use Rattle.poly_text.specs.Numbers.{Piece, fraction_text, is_whole, piece_text, product_text, signed_text, without_plus}
use Rattle.cert_law.specs.Unique.{Starts}
use Rattle.cert_law.specs.Fields.{size, IsSmall, IsBody, EndsPiece, EndsSum, IsPiece, sum_text}
use Rattle.cert_law.proofs.Cut.{head}
use Rattle.cert_law.proofs.Pieces.{Plain, plain, made, magnitude, magnitude_one, piece_one, positive_piece, negative_piece, number_first, plain_number, one_positive}

abbrev flat : List Piece → List ℕ
flat ps = flat_map piece_text ps

pub ends_piece : (x : List ℕ) → Starts EndsSum x → Starts EndsPiece x
ends_piece [] s = tt
ends_piece (b ∷ bs) s = (omega arith, λ e. omega (arith, e))

-- a piece begins with a sign
abbrev pub IsSign : ℕ → Type 0
IsSign b = (b ≡ 43) ⊎ (b ≡ 45)

abbrev pub Signed : List ℕ → Type 0
Signed [] = ⊥
Signed (b ∷ bs) = IsSign b

signed_by : (t : Bool) (b : ℕ) (bs : List ℕ) → (t ≡ true → b ≡ 45) → Signed (cond t (b ∷ bs) (43 ∷ b ∷ bs))
signed_by true b bs h = inr (h refl)
signed_by false b bs h = inl refl

pub sign_of : (text : List ℕ) → Signed (signed_text text)
sign_of [] = inl refl
sign_of (b ∷ bs) = signed_by (eqb b 45) b bs (eqb-true b 45)

pub signed_ends : (f x : List ℕ) → Signed f → Starts EndsPiece (f ++ x)
signed_ends [] x s = absurd s
signed_ends (b ∷ bs) x s = elim s [ inl is ↦ (omega (arith, is), λ e. omega (arith, is, e)) | inr is ↦ (omega (arith, is), λ e. omega (arith, is, e)) ]

pub sign_apart : (f v x : List ℕ) → Signed f → Starts EndsSum x → x ≡ f ++ v → ⊥
sign_apart [] v x s o e = s
sign_apart (b ∷ bs) v [] s o e = absurd cc
sign_apart (b ∷ bs) v (c ∷ cs) s o e = let h = head c b cs (bs ++ v) e in elim s [ inl is ↦ omega (arith, h.0, is) | inr is ↦ omega (arith, h.0, is) ]

pub pieces_ends : (ps : List Piece) (x : List ℕ) → Starts EndsSum x → Starts EndsPiece (flat ps ++ x)
pieces_ends [] x s = ends_piece x s
pieces_ends (p ∷ ps) x s = let whole : (piece_text p ++ flat ps) ++ x ≡ piece_text p ++ (flat ps ++ x) = append_assoc (piece_text p) (flat ps) x in subst (Starts EndsPiece) (sym whole) (signed_ends (piece_text p) (flat ps ++ x) (sign_of (product_text p.0 p.1)))

piece_is : (p q : Piece) → p.0 ≡ q.0 → p.1 ≡ q.1 → p ≡ q
piece_is p q a b = λ i. (a i, b i)

-- the pieces one after the other
pub pieces_one : (ps qs : List Piece) (x y : List ℕ) → AllByRecursion IsPiece ps → AllByRecursion IsPiece qs → Starts EndsSum x → Starts EndsSum y → flat ps ++ x ≡ flat qs ++ y → (ps ≡ qs) × (x ≡ y)
pieces_one [] [] x y op oq sx sy e = (refl, e)
pieces_one [] (q ∷ qs) x y op oq sx sy e = absurd (sign_apart (piece_text q) (flat qs ++ y) x (sign_of (product_text q.0 q.1)) sx (e ∙ append_assoc (piece_text q) (flat qs) y))
pieces_one (p ∷ ps) [] x y op oq sx sy e = absurd (sign_apart (piece_text p) (flat ps ++ x) y (sign_of (product_text p.0 p.1)) sy (sym e ∙ append_assoc (piece_text p) (flat ps) x))
pieces_one (p ∷ ps) (q ∷ qs) x y op oq sx sy e =
    let e2 : piece_text p ++ (flat ps ++ x) ≡ piece_text q ++ (flat qs ++ y) = sym (append_assoc (piece_text p) (flat ps) x) ∙ e ∙ append_assoc (piece_text q) (flat qs) y in
    let h = piece_one p.0 q.0 p.1 q.1 (flat ps ++ x) (flat qs ++ y) op.0.small oq.0.small op.0.body oq.0.body (pieces_ends ps x sx) (pieces_ends qs y sy) e2 in
    let r = pieces_one ps qs x y op.1 oq.1 sx sy h.2 in
    (cc (piece_is p q h.0 h.1, r.0), r.1)

-- ---- no plus at the front

-- the first piece has a plus, and its text without it begins with a digit or a letter
positive_front : (n : ℕ) (d : ℤ) (body : List ℕ) (ps : List Piece) → n < 10 ^ 64 → IsBody body
    → flat ((made (pos n) d, body) ∷ ps) ≡ 43 ∷ (magnitude (is_whole d (pos 1) && is_whole (pos n) (pos 1)) (fraction_text (plain n d)) body ++ flat ps)
positive_front n d body ps lt is = ap (λ (z : List ℕ). z ++ flat ps) (positive_piece n d body lt is)

negative_front : (n : ℕ) (d : ℤ) (body : List ℕ) (ps : List Piece) → IsBody body
    → flat ((made (negsuc n) d, body) ∷ ps) ≡ 45 ∷ (magnitude (is_whole d (pos 1) && is_whole (negsuc n) (negsuc 0)) (fraction_text (plain (suc n) d)) body ++ flat ps)
negative_front n d body ps is = ap (λ (z : List ℕ). z ++ flat ps) (negative_piece n d body is)

-- a text that begins with neither a sign nor the digits of 0
pub sum_positive : (n : ℕ) (d : ℤ) (body : List ℕ) (ps : List Piece) → n < 10 ^ 64 → IsBody body
    → 43 ∷ sum_text ((made (pos n) d, body) ∷ ps) ≡ flat ((made (pos n) d, body) ∷ ps)
sum_positive n d body ps lt is = ap (λ (z : List ℕ). 43 ∷ without_plus z) (positive_front n d body ps lt is) ∙ sym (positive_front n d body ps lt is)

pub sum_negative : (n : ℕ) (d : ℤ) (body : List ℕ) (ps : List Piece) → IsBody body
    → sum_text ((made (negsuc n) d, body) ∷ ps) ≡ flat ((made (negsuc n) d, body) ∷ ps)
sum_negative n d body ps is = ap without_plus (negative_front n d body ps is) ∙ sym (negative_front n d body ps is)

pub magnitude_plain : (t : Bool) (f b : List ℕ) → Plain f → IsBody b → Plain (magnitude t f b)
magnitude_plain t f [] p is = p
magnitude_plain t f (star ∷ []) p is = absurd is
magnitude_plain true f (star ∷ c ∷ r) p is = omega (arith, is.1)
magnitude_plain false [] (star ∷ c ∷ r) p is = absurd p
magnitude_plain false (d ∷ ds) (star ∷ c ∷ r) p is = p

no_sign : (f g x y : List ℕ) → Plain f → (f ++ g) ++ x ≡ 45 ∷ y → ⊥
no_sign [] g x y p e = p
no_sign (b ∷ bs) g x y p e = let h = head b 45 ((bs ++ g) ++ x) y e in omega (arith, h.0)

positive_text : (n : ℕ) (d : ℤ) (body : List ℕ) (ps : List Piece) → n < 10 ^ 64 → IsBody body
    → sum_text ((made (pos n) d, body) ∷ ps) ≡ magnitude (is_whole d (pos 1) && is_whole (pos n) (pos 1)) (fraction_text (plain n d)) body ++ flat ps
positive_text n d body ps lt is = ap without_plus (positive_front n d body ps lt is)

signs_apart : (m n : ℕ) (d e : ℤ) (b c : List ℕ) (ps qs : List Piece) (x y : List ℕ) → m < 10 ^ 64 → IsBody b → IsBody c
    → sum_text ((made (pos m) d, b) ∷ ps) ++ x ≡ sum_text ((made (negsuc n) e, c) ∷ qs) ++ y → ⊥
signs_apart m n d e b c ps qs x y lt ib ic eq =
    let t = is_whole d (pos 1) && is_whole (pos m) (pos 1) in
    let f = magnitude t (fraction_text (plain m d)) b in
    no_sign f (flat ps) x _ (magnitude_plain t (fraction_text (plain m d)) b (plain_number m d lt) ib)
    (sym (ap (λ (z : List ℕ). z ++ x) (positive_text m d b ps lt ib)) ∙ eq ∙ ap (λ (z : List ℕ). z ++ y) (ap without_plus (negative_front n e c qs ic)))

-- the sums with the sign of their first pieces
with_signs : (m n d e : ℤ) (b c : List ℕ) (ps qs : List Piece) (x y : List ℕ) → size m < 10 ^ 64 → size n < 10 ^ 64 → IsBody b → IsBody c
    → sum_text ((made m d, b) ∷ ps) ++ x ≡ sum_text ((made n e, c) ∷ qs) ++ y → flat ((made m d, b) ∷ ps) ++ x ≡ flat ((made n e, c) ∷ qs) ++ y
with_signs (pos m) (pos n) d e b c ps qs x y lm ln ib ic eq =
    sym (ap (λ (z : List ℕ). z ++ x) (sum_positive m d b ps lm ib)) ∙ ap (λ (z : List ℕ). 43 ∷ z) eq ∙ ap (λ (z : List ℕ). z ++ y) (sum_positive n e c qs ln ic)
with_signs (pos m) (negsuc n) d e b c ps qs x y lm ln ib ic eq = absurd (signs_apart m n d e b c ps qs x y lm ib ic eq)
with_signs (negsuc m) (pos n) d e b c ps qs x y lm ln ib ic eq = absurd (signs_apart n m e d c b qs ps y x ln ic ib (sym eq))
with_signs (negsuc m) (negsuc n) d e b c ps qs x y lm ln ib ic eq =
    sym (ap (λ (z : List ℕ). z ++ x) (sum_negative m d b ps ib)) ∙ eq ∙ ap (λ (z : List ℕ). z ++ y) (sum_negative n e c qs ic)

pub zero_text : fraction_text (plain 0 (pos 1)) ≡ 48 ∷ []
zero_text = ap (λ (z : List ℕ). z ++ []) (decimal_digit 0 (omega arith))

-- a sum of something is not 0
not_zero : (n d : ℤ) (c : List ℕ) (qs : List Piece) (x y : List ℕ) → IsSmall (made n d) → (n ≡ pos 0 → ⊥) → IsBody c → Starts EndsSum x → Starts EndsPiece (flat qs ++ y)
    → 48 ∷ x ≡ sum_text ((made n d, c) ∷ qs) ++ y → ⊥
not_zero (pos n) d c qs x y sq nonzero ic sx sy e =
    let t = is_whole d (pos 1) && is_whole (pos n) (pos 1) in
    let f = magnitude t (fraction_text (plain n d)) c in
    let eq : magnitude false (fraction_text (plain 0 (pos 1))) [] ++ x ≡ f ++ (flat qs ++ y) = ap (λ (z : List ℕ). z ++ x) zero_text ∙ e ∙ ap (λ (z : List ℕ). z ++ y) (positive_text n d c qs sq.num ic) ∙ append_assoc f (flat qs) y in
    let h = magnitude_one false t (plain 0 (pos 1)) (plain n d) [] c x (flat qs ++ y) (record { num = omega arith; den = omega arith }) sq (number_first 0 (pos 1) (omega arith)) (number_first n d sq.num) (λ no. absurd cc) (one_positive n d) tt ic (ends_piece x sx) sy eq in
    nonzero (sym (ap (λ (q : Frac). q.num) h.0))
not_zero (negsuc n) d c qs x y sq nonzero ic sx sy e =
    let h = head 48 45 x _ (e ∙ ap (λ (z : List ℕ). z ++ y) (ap without_plus (negative_front n d c qs ic))) in omega (arith, h.0)

-- a sum is told from its text, and from what stands behind it
pub sum_one : (ps qs : List Piece) (x y : List ℕ) → AllByRecursion IsPiece ps → AllByRecursion IsPiece qs → Starts EndsSum x → Starts EndsSum y → sum_text ps ++ x ≡ sum_text qs ++ y → (ps ≡ qs) × (x ≡ y)
sum_one [] [] x y op oq sx sy e = (refl, (head 48 48 x y e).1)
sum_one [] (q ∷ qs) x y op oq sx sy e = absurd (not_zero q.0.num q.0.den q.1 qs x y oq.0.small oq.0.nonzero oq.0.body sx (pieces_ends qs y sy) e)
sum_one (p ∷ ps) [] x y op oq sx sy e = absurd (not_zero p.0.num p.0.den p.1 ps y x op.0.small op.0.nonzero op.0.body sy (pieces_ends ps x sx) (sym e))
sum_one (p ∷ ps) (q ∷ qs) x y op oq sx sy e =
    pieces_one (p ∷ ps) (q ∷ qs) x y op oq sx sy (with_signs p.0.num q.0.num p.0.den q.0.den p.1 q.1 ps qs x y op.0.small.num oq.0.small.num op.0.body oq.0.body e)
