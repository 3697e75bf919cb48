-- The pieces of a sum: a sign, a coefficient and a body.
use Rattle.std.proofs.Common.{◌≡◌, ℕ, suc, ◌<◌, ◌≤◌, ◌^◌, Bool, true, false, cond, eqb, ◌&&◌, ℤ, pos, negsuc, List, [], ◌∷◌, ◌++◌, length, refl, sym, ap, ◌∙◌, append_assoc, arith, inl, inr}
use Rattle.std.specs.Prelude.{decimal}
use Rattle.std.specs.List.{AllByRecursion}
use Rattle.std.proofs.lemmas.Bool.{ne_eqb}
use Rattle.std.proofs.lemmas.Bool.Decides.{Decides-int_eq}
use Rattle.ring_law.specs.declared.fraction.Frac.{Frac}
use Rattle.poly_text.specs.Numbers.{fraction_text, over_text, is_whole, product_text, signed_text}
use Rattle.cert_law.specs.Unique.{Starts}
use Rattle.cert_law.specs.Fields.{size, IsSmall, EndsFraction, IsInside, EndsPiece, IsBody}
use Rattle.cert_law.proofs.Cut.{head, cut}
use Rattle.cert_law.proofs.Numbers.{digits, nonempty, fraction_one, fraction_is, IsDigit}

-- the digits of a coefficient without its sign
abbrev pub plain : ℕ → ℤ → Frac
plain n d = record { num = pos n; den = d }

-- a text that begins with no sign
abbrev pub Plain : List ℕ → Type 0
Plain [] = ⊥
Plain (b ∷ bs) = 46 ≤ b

plain_digits : (ds rest : List ℕ) → 0 < length ds → AllByRecursion IsDigit ds → Plain (ds ++ rest)
plain_digits [] rest some all = absurd (omega arith)
plain_digits (d ∷ ds) rest some all = omega (arith, all.0.0)

pub unsigned_piece : (text : List ℕ) → Plain text → signed_text text ≡ 43 ∷ text
unsigned_piece [] p = absurd p
unsigned_piece (b ∷ bs) p = let different : eqb b 45 ≡ false = ne_eqb b 45 (λ e. omega (arith, e)) in rw different refl

-- a coefficient without its sign and a body; 1 is left out where the body is not empty
abbrev pub magnitude : Bool → List ℕ → List ℕ → List ℕ
magnitude unit f [] = f
magnitude unit f (star ∷ body) = cond unit body (f ++ star ∷ body)

plain_front : (f g : List ℕ) → Plain f → Plain (f ++ g)
plain_front [] g p = absurd p
plain_front (b ∷ bs) g p = p

positive : (a b : Bool) (f : List ℕ) (star c : ℕ) (r : List ℕ) → Plain f → 97 ≤ c
    → signed_text (cond (a && b) (c ∷ r) (cond (a && false) (45 ∷ c ∷ r) (f ++ star ∷ c ∷ r))) ≡ 43 ∷ cond (a && b) (c ∷ r) (f ++ star ∷ c ∷ r)
positive true true f star c r p le = unsigned_piece (c ∷ r) (omega arith)
positive true false f star c r p le = unsigned_piece (f ++ star ∷ c ∷ r) (plain_front f (star ∷ c ∷ r) p)
positive false b f star c r p le = unsigned_piece (f ++ star ∷ c ∷ r) (plain_front f (star ∷ c ∷ r) p)

negative : (a b : Bool) (f : List ℕ) (star c : ℕ) (r : List ℕ)
    → signed_text (cond (a && false) (c ∷ r) (cond (a && b) (45 ∷ c ∷ r) ((45 ∷ f) ++ star ∷ c ∷ r))) ≡ 45 ∷ cond (a && b) (c ∷ r) (f ++ star ∷ c ∷ r)
negative true true f star c r = refl
negative true false f star c r = refl
negative false b f star c r = refl

-- ---- what a piece is, by the sign of its coefficient

pub plain_number : (n : ℕ) (d : ℤ) → n < 10 ^ 64 → Plain (fraction_text (plain n d))
plain_number n d lt = plain_digits (decimal n) (over_text d) (nonempty n lt) (digits n lt)

pub positive_piece : (n : ℕ) (d : ℤ) (body : List ℕ) → n < 10 ^ 64 → IsBody body
    → signed_text (product_text (plain n d) body) ≡ 43 ∷ magnitude (is_whole d (pos 1) && is_whole (pos n) (pos 1)) (fraction_text (plain n d)) body
positive_piece n d [] lt is = unsigned_piece (fraction_text (plain n d)) (plain_number n d lt)
positive_piece n d (star ∷ []) lt is = absurd is
positive_piece n d (star ∷ c ∷ r) lt is = positive (is_whole d (pos 1)) (is_whole (pos n) (pos 1)) (fraction_text (plain n d)) star c r (plain_number n d lt) is.1

pub negative_piece : (n : ℕ) (d : ℤ) (body : List ℕ) → IsBody body
    → signed_text (product_text (record { num = negsuc n; den = d }) body) ≡ 45 ∷ magnitude (is_whole d (pos 1) && is_whole (negsuc n) (negsuc 0)) (fraction_text (plain (suc n) d)) body
negative_piece n d [] is = refl
negative_piece n d (star ∷ []) is = absurd is
negative_piece n d (star ∷ c ∷ r) is = negative (is_whole d (pos 1)) (is_whole (negsuc n) (negsuc 0)) (fraction_text (plain (suc n) d)) star c r

-- ---- one reading of a coefficient without its sign, and a body

pub body_ends : (b x : List ℕ) → IsBody b → Starts EndsPiece x → Starts EndsFraction (b ++ x)
body_ends [] [] is s = tt
body_ends [] (c ∷ cs) is s = ((λ d. omega (arith, d.0, s.0)), (λ e. omega (arith, e, s.0)))
body_ends (star ∷ []) x is s = absurd is
body_ends (star ∷ c ∷ r) x is s = ((λ d. omega (arith, d.0, is.0)), (λ e. omega (arith, e, is.0)))

apart : (b : ℕ) → IsInside b → EndsPiece b → ⊥
apart b i e = elim i [ inl le ↦ omega (arith, e.0) | inr is ↦ e.1 is ]

all_inside : (b : List ℕ) → IsBody b → AllByRecursion IsInside b
all_inside [] is = tt
all_inside (star ∷ []) is = absurd is
all_inside (star ∷ c ∷ r) is = (inr is.0, (inl (omega (arith, is.1)), is.2))

pub body_one : (b c x y : List ℕ) → IsBody b → IsBody c → Starts EndsPiece x → Starts EndsPiece y → b ++ x ≡ c ++ y → (b ≡ c) × (x ≡ y)
body_one b c x y ib ic sx sy e = cut IsInside EndsPiece apart b c x y (all_inside b ib) (all_inside c ic) sx sy e

-- a digit at the front
abbrev pub FirstDigit : List ℕ → Type 0
FirstDigit [] = ⊥
FirstDigit (b ∷ bs) = b ≤ 57

digit_first : (ds rest : List ℕ) → 0 < length ds → AllByRecursion IsDigit ds → FirstDigit (ds ++ rest)
digit_first [] rest some all = absurd (omega arith)
digit_first (d ∷ ds) rest some all = all.0.1

pub number_first : (n : ℕ) (d : ℤ) → n < 10 ^ 64 → FirstDigit (fraction_text (plain n d))
number_first n d lt = digit_first (decimal n) (over_text d) (nonempty n lt) (digits n lt)

letter_or_digit : (f : List ℕ) (c : ℕ) (u v : List ℕ) → FirstDigit f → 97 ≤ c → c ∷ u ≡ f ++ v → ⊥
letter_or_digit [] c u v d le e = d
letter_or_digit (b ∷ bs) c u v d le e = let h = head c b u (bs ++ v) e in omega (arith, h.0, d)

whole : (p q : Frac) (b c x y : List ℕ) → IsSmall p → IsSmall q → IsBody b → IsBody c → Starts EndsPiece x → Starts EndsPiece y → fraction_text p ++ (b ++ x) ≡ fraction_text q ++ (c ++ y) → (p ≡ q) × (b ≡ c) × (x ≡ y)
whole p q b c x y sp sq ib ic sx sy e =
    let h = fraction_one p q (b ++ x) (c ++ y) sp sq (body_ends b x ib sx) (body_ends c y ic sy) e in
    let k = body_one b c x y ib ic sx sy h.1 in
    (h.0, k.0, k.1)

abbrev pub one_fraction : Frac
one_fraction = record { num = pos 1; den = pos 1 }

-- both write their coefficient, or both leave a 1 out; a letter is no digit
pub magnitude_one : (t s : Bool) (p q : Frac) (b c x y : List ℕ) → IsSmall p → IsSmall q → FirstDigit (fraction_text p) → FirstDigit (fraction_text q) → (t ≡ true → p ≡ one_fraction) → (s ≡ true → q ≡ one_fraction)
    → IsBody b → IsBody c → Starts EndsPiece x → Starts EndsPiece y → magnitude t (fraction_text p) b ++ x ≡ magnitude s (fraction_text q) c ++ y → (p ≡ q) × (b ≡ c) × (x ≡ y)
magnitude_one t s p q [] [] x y sp sq fp fq tp tq ib ic sx sy e = whole p q [] [] x y sp sq ib ic sx sy e
magnitude_one t s p q (b ∷ []) c x y sp sq fp fq tp tq ib ic sx sy e = absurd ib
magnitude_one t s p q b (c ∷ []) x y sp sq fp fq tp tq ib ic sx sy e = absurd ic
magnitude_one t true p q [] (d ∷ c ∷ r) x y sp sq fp fq tp tq ib ic sx sy e = absurd (letter_or_digit (fraction_text p) c (r ++ y) x fp ic.1 (sym e))
magnitude_one t false p q [] (d ∷ c ∷ r) x y sp sq fp fq tp tq ib ic sx sy e = whole p q [] (d ∷ c ∷ r) x y sp sq ib ic sx sy (e ∙ append_assoc (fraction_text q) (d ∷ c ∷ r) y)
magnitude_one true s p q (a ∷ b ∷ r) [] x y sp sq fp fq tp tq ib ic sx sy e = absurd (letter_or_digit (fraction_text q) b (r ++ x) y fq ib.1 e)
magnitude_one false s p q (a ∷ b ∷ r) [] x y sp sq fp fq tp tq ib ic sx sy e = whole p q (a ∷ b ∷ r) [] x y sp sq ib ic sx sy (sym (append_assoc (fraction_text p) (a ∷ b ∷ r) x) ∙ e)
magnitude_one true true p q (a ∷ b ∷ r) (d ∷ c ∷ u) x y sp sq fp fq tp tq ib ic sx sy e =
    let k = body_one (a ∷ b ∷ r) (d ∷ c ∷ u) x y ib ic sx sy (cc (e, ib.0, ic.0)) in
    (tp refl ∙ sym (tq refl), k.0, k.1)
magnitude_one true false p q (a ∷ b ∷ r) (d ∷ c ∷ u) x y sp sq fp fq tp tq ib ic sx sy e = absurd (letter_or_digit (fraction_text q) b (r ++ x) ((d ∷ c ∷ u) ++ y) fq ib.1 (e ∙ append_assoc (fraction_text q) (d ∷ c ∷ u) y))
magnitude_one false true p q (a ∷ b ∷ r) (d ∷ c ∷ u) x y sp sq fp fq tp tq ib ic sx sy e = absurd (letter_or_digit (fraction_text p) c (u ++ y) ((a ∷ b ∷ r) ++ x) fp ic.1 (sym e ∙ append_assoc (fraction_text p) (a ∷ b ∷ r) x))
magnitude_one false false p q (a ∷ b ∷ r) (d ∷ c ∷ u) x y sp sq fp fq tp tq ib ic sx sy e =
    whole p q (a ∷ b ∷ r) (d ∷ c ∷ u) x y sp sq ib ic sx sy (sym (append_assoc (fraction_text p) (a ∷ b ∷ r) x) ∙ e ∙ append_assoc (fraction_text q) (d ∷ c ∷ u) y)

-- ---- one reading of a piece

both : (a b : Bool) → (a && b) ≡ true → (a ≡ true) × (b ≡ true)
both true b e = (refl, e)
both false b e = absurd cc

abbrev piece : Frac → List ℕ → List ℕ
piece q body = signed_text (product_text q body)

pub one_positive : (n : ℕ) (d : ℤ) → (is_whole d (pos 1) && is_whole (pos n) (pos 1)) ≡ true → plain n d ≡ one_fraction
one_positive n d e =
    let h = both (is_whole d (pos 1)) (is_whole (pos n) (pos 1)) e in
    fraction_is (plain n d) one_fraction ((Decides-int_eq (pos n) (pos 1)).0 h.1) ((Decides-int_eq d (pos 1)).0 h.0)

pub one_negative : (n : ℕ) (d : ℤ) → (is_whole d (pos 1) && is_whole (negsuc n) (negsuc 0)) ≡ true → plain (suc n) d ≡ one_fraction
one_negative n d e =
    let h = both (is_whole d (pos 1)) (is_whole (negsuc n) (negsuc 0)) e in
    let same : negsuc n ≡ negsuc 0 = (Decides-int_eq (negsuc n) (negsuc 0)).0 h.1 in
    let zero_is : n ≡ 0 = cc in
    fraction_is (plain (suc n) d) one_fraction (ap (λ (k : ℕ). pos (suc k)) zero_is) ((Decides-int_eq d (pos 1)).0 h.0)

abbrev pub made : ℤ → ℤ → Frac
made n d = record { num = n; den = d }

pub small : (n d : ℤ) → size n < 10 ^ 64 → size d < 10 ^ 64 → IsSmall (record { num = n; den = d })
small n d a b = record { num = a; den = b }

by_sign : (m n d e : ℤ) (b c x y : List ℕ) → size m < 10 ^ 64 → size n < 10 ^ 64 → size d < 10 ^ 64 → size e < 10 ^ 64 → IsBody b → IsBody c → Starts EndsPiece x → Starts EndsPiece y
    → piece (made m d) b ++ x ≡ piece (made n e) c ++ y → (made m d ≡ made n e) × (b ≡ c) × (x ≡ y)
by_sign (pos m) (pos n) d e b c x y lm ln ld le ib ic sx sy eq =
    let t = is_whole d (pos 1) && is_whole (pos m) (pos 1) in
    let s = is_whole e (pos 1) && is_whole (pos n) (pos 1) in
    let u : 43 ∷ (magnitude t (fraction_text (plain m d)) b ++ x) ≡ 43 ∷ (magnitude s (fraction_text (plain n e)) c ++ y) = sym (ap (λ (z : List ℕ). z ++ x) (positive_piece m d b lm ib)) ∙ eq ∙ ap (λ (z : List ℕ). z ++ y) (positive_piece n e c ln ic) in
    magnitude_one t s (plain m d) (plain n e) b c x y (small (pos m) d lm ld) (small (pos n) e ln le) (number_first m d lm) (number_first n e ln) (one_positive m d) (one_positive n e) ib ic sx sy (head 43 43 _ _ u).1
by_sign (pos m) (negsuc n) d e b c x y lm ln ld le ib ic sx sy eq =
    let t = is_whole d (pos 1) && is_whole (pos m) (pos 1) in
    let s = is_whole e (pos 1) && is_whole (negsuc n) (negsuc 0) in
    let u : 43 ∷ (magnitude t (fraction_text (plain m d)) b ++ x) ≡ 45 ∷ (magnitude s (fraction_text (plain (suc n) e)) c ++ y) = sym (ap (λ (z : List ℕ). z ++ x) (positive_piece m d b lm ib)) ∙ eq ∙ ap (λ (z : List ℕ). z ++ y) (negative_piece n e c ic) in
    absurd (omega (arith, (head 43 45 _ _ u).0))
by_sign (negsuc m) (pos n) d e b c x y lm ln ld le ib ic sx sy eq =
    let t = is_whole d (pos 1) && is_whole (negsuc m) (negsuc 0) in
    let s = is_whole e (pos 1) && is_whole (pos n) (pos 1) in
    let u : 45 ∷ (magnitude t (fraction_text (plain (suc m) d)) b ++ x) ≡ 43 ∷ (magnitude s (fraction_text (plain n e)) c ++ y) = sym (ap (λ (z : List ℕ). z ++ x) (negative_piece m d b ib)) ∙ eq ∙ ap (λ (z : List ℕ). z ++ y) (positive_piece n e c ln ic) in
    absurd (omega (arith, (head 45 43 _ _ u).0))
by_sign (negsuc m) (negsuc n) d e b c x y lm ln ld le ib ic sx sy eq =
    let t = is_whole d (pos 1) && is_whole (negsuc m) (negsuc 0) in
    let s = is_whole e (pos 1) && is_whole (negsuc n) (negsuc 0) in
    let u : 45 ∷ (magnitude t (fraction_text (plain (suc m) d)) b ++ x) ≡ 45 ∷ (magnitude s (fraction_text (plain (suc n) e)) c ++ y) = sym (ap (λ (z : List ℕ). z ++ x) (negative_piece m d b ib)) ∙ eq ∙ ap (λ (z : List ℕ). z ++ y) (negative_piece n e c ic) in
    let h = magnitude_one t s (plain (suc m) d) (plain (suc n) e) b c x y (small (pos (suc m)) d lm ld) (small (pos (suc n)) e ln le) (number_first (suc m) d lm) (number_first (suc n) e ln) (one_negative m d) (one_negative n e) ib ic sx sy (head 45 45 _ _ u).1 in
    let same : pos (suc m) ≡ pos (suc n) = ap (λ (f : Frac). f.num) h.0 in
    let numbers : m ≡ n = cc in
    (fraction_is (made (negsuc m) d) (made (negsuc n) e) (ap (λ (k : ℕ). negsuc k) numbers) (ap (λ (f : Frac). f.den) h.0), h.1, h.2)

pub piece_one : (p q : Frac) (b c x y : List ℕ) → IsSmall p → IsSmall q → IsBody b → IsBody c → Starts EndsPiece x → Starts EndsPiece y → piece p b ++ x ≡ piece q c ++ y → (p ≡ q) × (b ≡ c) × (x ≡ y)
piece_one p q b c x y sp sq ib ic sx sy e = by_sign p.num q.num p.den q.den b c x y sp.num sq.num sp.den sq.den ib ic sx sy e
