-- The components of an element, one piece after another.
use Rattle.std.proofs.Common.{◌≡◌, ℕ, suc, ◌<◌, ◌≤◌, ◌^◌, Bool, true, false, cond, ◌⊎◌, inl, inr, pos, List, [], ◌∷◌, ◌++◌, length, refl, sym, ap, ◌∙◌, subst, append_assoc, arith, IsTrue}
use Rattle.std.specs.Prelude.{decimal, unsigned_abs}
use Rattle.std.specs.List.{AllByRecursion, flat_map, zip}
use Rattle.std.proofs.lemmas.Bool.Decides.{Decides-int_eq}
use Rattle.ring_law.specs.declared.fraction.Frac.{Frac}
use Rattle.ext_algebra.specs.Fractions.{is_frac}
use Rattle.poly_text.specs.Numbers.{component_text, fraction_text, is_whole, is_zero_fraction, letters, piece_text, product_text, signed_text}
use Rattle.cert_law.specs.Unique.{Starts}
use Rattle.cert_law.specs.Fields.{IsBody, IsInside, EndsPiece, zero_fraction}
use Rattle.cert_law.proofs.Cut.{head, cut}
use Rattle.cert_law.proofs.Numbers.{IsDigit, all_append, digits, fraction_is}
use Rattle.cert_law.proofs.Pieces.{piece_one}
use Rattle.cert_law.proofs.Sums.{Signed, sign_of}
use Rattle.cert_law.proofs.Valid.{all_to, component_by}
use Rattle.text_reader.specs.Digits.{IsNatural}
use Rattle.text_reader.specs.Pieces.{IsSign, IsCoefficient, IsLetters, is_unit_of, Follows, FollowsAll, AreValid, IsTaken, AreTaken}
use Rattle.text_reader.specs.Reading.{IsTextOf, IsNoText}
use Rattle.text_reader.proofs.Fractions.{parts_of, opposite_of, whole_natural}
use Rattle.text_reader.proofs.PieceTexts.{signed_cases, letters_signed, unit_is, other_text, signed_list}

-- ---- the bytes of coefficients

-- a kind of bytes with the digits, the slash, the star, and those of the letters of an element
pub record Admits (P : ℕ → Type 0) : Type 0 where
  pub digit : (b : ℕ) → IsDigit b → P b
  pub slash : P 47
  pub star : P 42
  pub caret : P 94
  pub s : P 115
  pub t : P 116

two : (P : ℕ → Type 0) → Admits P → P 50
two P adm = adm.digit 50 (omega arith, omega arith)

pub letters_all : (P : ℕ → Type 0) → Admits P → AllByRecursion (AllByRecursion P) letters
letters_all P adm = (
  tt,
  (
    (adm.star, (adm.t, tt)),
    (
      (adm.star, (adm.t, (adm.caret, (two P adm, tt)))),
      ((adm.star, (adm.s, tt)), ((adm.star, (adm.s, (adm.star, (adm.t, tt)))), ((adm.star, (adm.s, (adm.star, (adm.t, (adm.caret, (two P adm, tt)))))), tt))),
    ),
  ),
)

pub natural_all : (P : ℕ → Type 0) → Admits P → (q : Frac) → IsNatural q → AllByRecursion P (fraction_text q)
natural_all P adm q h =
    let p = parts_of q h in
    subst (λ z. AllByRecursion P (fraction_text z)) (sym p.is)
    (all_append P (decimal (unsigned_abs q.num)) (cond (is_whole (pos (unsigned_abs q.den)) (pos 1)) [] (47 ∷ decimal (unsigned_abs q.den)))
    (number (unsigned_abs q.num) p.num_fits) (over (is_whole (pos (unsigned_abs q.den)) (pos 1)) (unsigned_abs q.den) p.den_fits))
  where
    number : (n : ℕ) → n < 2 ^ 127 → AllByRecursion P (decimal n)
    number n lt = all_to IsDigit P adm.digit (decimal n) (digits n (omega (arith, lt)))

    over : (t : Bool) (d : ℕ) → d < 2 ^ 127 → AllByRecursion P (cond t [] (47 ∷ decimal d))
    over true d lt = tt
    over false d lt = (adm.slash, number d lt)

-- a sign, and bytes of this kind behind it
pub record IsPieceOf (P : ℕ → Type 0) (text : List ℕ) (s : ℕ) (m : List ℕ) : Type 0 where
  pub is : text ≡ s ∷ m
  pub sign : IsSign s
  pub inside : AllByRecursion P m

pub first_sign : (f : List ℕ) (s : ℕ) (m : List ℕ) → Signed f → f ≡ s ∷ m → IsSign s
first_sign [] s m h e = absurd h
first_sign (b ∷ bs) s m h e = subst IsSign (head b s bs m e).0 h

pub signed_piece : (P : ℕ → Type 0) → Admits P → (q : Frac) → IsTrue (is_frac q) → (s : ℕ) × (m : List ℕ) × IsPieceOf P (signed_text (fraction_text q)) s m
signed_piece P adm q valid =
    let f = signed_list (signed_text (fraction_text q)) (sign_of (fraction_text q)) in (
      f.0,
      f.1,
      record {
        is = f.2;
        sign = first_sign (signed_text (fraction_text q)) f.0 f.1 (sign_of (fraction_text q)) f.2;
        inside = elim (signed_cases q f.0 f.1 valid f.2) [
          | inl h ↦ subst (AllByRecursion P) h.2 (natural_all P adm q h.1)
          | inr h ↦ subst (AllByRecursion P) h.1.text (natural_all P adm (opposite_of q) h.1.natural)
        ];
      },
    )

-- a coefficient before letters: its sign, and bytes of this kind between it and the letters
pub record IsBefore (P : ℕ → Type 0) (text : List ℕ) (s : ℕ) (m letters : List ℕ) : Type 0 where
  pub is : text ≡ s ∷ (m ++ letters)
  pub sign : IsSign s
  pub inside : AllByRecursion P m

lettered_by : (P : ℕ → Type 0) → Admits P → (t : Bool) (q : Frac) (letters : List ℕ) → is_unit_of q ≡ t → IsTrue (is_frac q) → IsLetters letters → (s : ℕ) × (m : List ℕ) × IsBefore P (signed_text (product_text q (42 ∷ letters))) s m letters
lettered_by P adm true q letters e valid h =
    elim (unit_is q e) [
      | inl is ↦ (43, [], record { is = ap (λ z. signed_text (product_text z (42 ∷ letters))) is ∙ letters_signed letters h; sign = inl refl; inside = tt })
      | inr is ↦ (45, [], record { is = ap (λ z. signed_text (product_text z (42 ∷ letters))) is; sign = inr refl; inside = tt })
    ]
lettered_by P adm false q letters e valid h =
    let f = signed_piece P adm q valid in (
      f.0,
      f.1 ++ 42 ∷ [],
      record {
        is = other_text q letters valid e ∙ ap (λ z. z ++ 42 ∷ letters) f.2.is ∙ ap (λ z. f.0 ∷ z) (sym (append_assoc f.1 (42 ∷ []) letters));
        sign = f.2.sign;
        inside = all_append P f.1 (42 ∷ []) f.2.inside (adm.star, tt);
      },
    )

-- a piece with letters ends with them
pub lettered : (P : ℕ → Type 0) → Admits P → (q : Frac) (letters : List ℕ) → IsTrue (is_frac q) → IsLetters letters → (s : ℕ) × (m : List ℕ) × IsBefore P (signed_text (product_text q (42 ∷ letters))) s m letters
lettered P adm q letters valid h = lettered_by P adm (is_unit_of q) q letters refl valid h

-- ---- texts without a sign inside

pub not_sign : (b : ℕ) → 47 ≤ b → IsSign b → ⊥
not_sign b le (inl e) = omega (arith, le, e)
not_sign b le (inr e) = omega (arith, le, e)

star_sign : IsSign 42 → ⊥
star_sign (inl is) = omega (arith, is)
star_sign (inr is) = omega (arith, is)

pub unsigned : Admits (λ b. ¬ IsSign b)
unsigned = record {
  digit = λ b d. not_sign b (omega (arith, d.0));
  slash = not_sign 47 (omega arith);
  star = star_sign;
  caret = not_sign 94 (omega arith);
  s = not_sign 115 (omega arith);
  t = not_sign 116 (omega arith);
}

inside_unsigned : (b : ℕ) → IsInside b → ¬ IsSign b
inside_unsigned b (inl le) (inl e) = omega (arith, le, e)
inside_unsigned b (inl le) (inr e) = omega (arith, le, e)
inside_unsigned b (inr is) (inl e) = omega (arith, is, e)
inside_unsigned b (inr is) (inr e) = omega (arith, is, e)

pub all_unsigned : (bs : List ℕ) → AllByRecursion IsInside bs → AllByRecursion (λ b. ¬ IsSign b) bs
all_unsigned bs all = all_to IsInside (λ b. ¬ IsSign b) inside_unsigned bs all

-- no sign in a body
body_unsigned : (body : List ℕ) → IsBody body → AllByRecursion (λ b. ¬ IsSign b) body
body_unsigned [] is = tt
body_unsigned (star ∷ []) is = absurd is
body_unsigned (star ∷ c ∷ r) is = (inside_unsigned star (inr is.0), (inside_unsigned c (inl (omega (arith, is.1))), all_unsigned r is.2))

end_by : (t : Bool) (q : Frac) (letters : List ℕ) (s : ℕ) (m : List ℕ) → is_unit_of q ≡ t → IsTrue (is_frac q) → IsLetters letters → signed_text (product_text q (42 ∷ letters)) ≡ s ∷ m → (front : List ℕ) × (m ≡ front ++ letters)
end_by true q letters s m e valid h text =
    elim (unit_is q e) [
      | inl is ↦ ([], (head s 43 m letters (sym text ∙ ap (λ z. signed_text (product_text z (42 ∷ letters))) is ∙ letters_signed letters h)).1)
      | inr is ↦ ([], (head s 45 m letters (sym text ∙ ap (λ z. signed_text (product_text z (42 ∷ letters))) is)).1)
    ]
end_by false q letters s m e valid h text =
    let f = signed_list (signed_text (fraction_text q)) (sign_of (fraction_text q)) in
    let whole : s ∷ m ≡ f.0 ∷ (f.1 ++ 42 ∷ letters) = sym text ∙ other_text q letters valid e ∙ ap (λ z. z ++ 42 ∷ letters) f.2 in
    (f.1 ++ 42 ∷ [], (head s f.0 m (f.1 ++ 42 ∷ letters) whole).1 ∙ sym (append_assoc f.1 (42 ∷ []) letters))

pub ends_with : (q : Frac) (letters : List ℕ) (s : ℕ) (m : List ℕ) → IsTrue (is_frac q) → IsLetters letters → signed_text (product_text q (42 ∷ letters)) ≡ s ∷ m → (front : List ℕ) × (m ≡ front ++ letters)
ends_with q letters s m valid h text = end_by (is_unit_of q) q letters s m refl valid h text

-- ---- the pieces of an element

-- a sign, and bytes of a kind that the body has
pub piece_shape : (P : ℕ → Type 0) → Admits P → (body : List ℕ) (q : Frac) → IsBody body → AllByRecursion P body → IsTrue (is_frac q) → (s : ℕ) × (m : List ℕ) × IsPieceOf P (piece_text (q, body)) s m
piece_shape P adm [] q is all valid = signed_piece P adm q valid
piece_shape P adm (star ∷ []) q is all valid = absurd is
piece_shape P adm (star ∷ c ∷ r) q is all valid = subst (λ b. (s : ℕ) × (m : List ℕ) × IsPieceOf P (piece_text (q, b ∷ c ∷ r)) s m) (sym is.0) there
  where
    there : (s : ℕ) × (m : List ℕ) × IsPieceOf P (piece_text (q, 42 ∷ c ∷ r)) s m
    there =
        let h = lettered P adm q (c ∷ r) valid is.1 in
        (h.0, h.1 ++ c ∷ r, record { is = h.2.is; sign = h.2.sign; inside = all_append P h.1 (c ∷ r) h.2.inside all.1 })

-- a body without a star is empty
pub no_star : (body : List ℕ) → IsBody body → ((rest : List ℕ) → body ≡ 42 ∷ rest → ⊥) → body ≡ []
no_star [] is none = refl
no_star (star ∷ []) is none = absurd is
no_star (star ∷ c ∷ r) is none = absurd (none (c ∷ r) (ap (λ (b : ℕ). b ∷ c ∷ r) is.0))

pub ends_piece : (x : List ℕ) → Starts IsSign x → Starts EndsPiece x
ends_piece [] h = tt
ends_piece (b ∷ bs) (inl e) = (omega (arith, e), λ q. omega (arith, e, q))
ends_piece (b ∷ bs) (inr e) = (omega (arith, e), λ q. omega (arith, e, q))

-- the front of a sum up to the next sign is a piece that stands there
pub piece_cut : (body : List ℕ) (q : Frac) (sign : ℕ) (magnitude x y : List ℕ) → IsBody body → IsTrue (is_frac q) → AllByRecursion (λ b. ¬ IsSign b) magnitude → Starts IsSign x → Starts IsSign y
    → sign ∷ (magnitude ++ x) ≡ piece_text (q, body) ++ y → piece_text (q, body) ≡ sign ∷ magnitude
piece_cut body q sign magnitude x y is valid free sx sy e =
    let p = piece_shape (λ b. ¬ IsSign b) unsigned body q is (body_unsigned body is) valid in
    let k = head sign p.0 (magnitude ++ x) (p.1 ++ y) (e ∙ ap (λ z. z ++ y) p.2.is) in
    let r = cut (λ b. ¬ IsSign b) IsSign (λ b i o. i o) magnitude p.1 x y free p.2.inside sx sy k.1 in
    p.2.is ∙ (λ i. sym k.0 i ∷ sym r.0 i)

pub zero_valid : IsTrue (is_frac zero_fraction)
zero_valid = (whole_natural 0 zero_fraction (decimal 0) (omega arith) refl refl).0.0

pub zero_is : (q : Frac) → IsTrue (is_frac q) → q.num ≡ pos 0 → zero_fraction ≡ q
zero_is q valid e = sym (fraction_is q zero_fraction e ((component_by q valid).zero_form e))

pub not_zero : (q : Frac) → IsCoefficient q → is_zero_fraction q ≡ false
not_zero q ok = by_test (is_zero_fraction q) refl
  where
    by_test : (t : Bool) → is_zero_fraction q ≡ t → is_zero_fraction q ≡ false
    by_test false e = e
    by_test true e = absurd (ok.1 ((Decides-int_eq q.num (pos 0)).0 e))

pub component_is : (q : Frac) (body : List ℕ) → IsCoefficient q → component_text (q, body) ≡ piece_text (q, body)
component_is q body ok = ap (λ (t : Bool). cond t [] (piece_text (q, body))) (not_zero q ok)

-- a component at the front of a sum: 0 and nothing, or its piece
cases_by : (t : Bool) (q : Frac) (body rest sum : List ℕ) → is_zero_fraction q ≡ t → IsTrue (is_frac q) → sum ≡ cond t [] (piece_text (q, body)) ++ rest
    → ((zero_fraction ≡ q) × (sum ≡ rest)) ⊎ (IsCoefficient q × (sum ≡ piece_text (q, body) ++ rest))
cases_by true q body rest sum e valid h = inl (zero_is q valid ((Decides-int_eq q.num (pos 0)).0 e), h)
cases_by false q body rest sum e valid h = inr ((valid, λ z. (let yes = (Decides-int_eq q.num (pos 0)).1 z in absurd (cc (e, yes)))), h)

component_cases : (body : List ℕ) (q : Frac) (rest sum : List ℕ) → IsTrue (is_frac q) → sum ≡ component_text (q, body) ++ rest → ((zero_fraction ≡ q) × (sum ≡ rest)) ⊎ (IsCoefficient q × (sum ≡ piece_text (q, body) ++ rest))
component_cases body q rest sum valid h = cases_by (is_zero_fraction q) q body rest sum refl valid h

some_piece : (f x : List ℕ) → Signed f → [] ≡ f ++ x → ⊥
some_piece [] x s e = s
some_piece (b ∷ bs) x s e = cc

-- ---- what a reader of one component answers

pub taken_nothing : (body : List ℕ) → IsTaken body zero_fraction [] []
taken_nothing body = record {
  valid = zero_valid;
  front = refl;
  found = λ p rest valid follows h.
      (elim (component_cases body p rest [] valid h) [
        | inl is ↦ is
        | inr is ↦ absurd (some_piece (piece_text (p, body)) rest (sign_of (product_text p body)) is.1)
      ]);
}

pub taken_absent : (body : List ℕ) (sign : ℕ) (behind magnitude x : List ℕ) → IsBody body → behind ≡ magnitude ++ x → AllByRecursion (λ b. ¬ IsSign b) magnitude → Starts IsSign x
    → IsNoText IsCoefficient (λ q. piece_text (q, body)) (sign ∷ magnitude) → IsTaken body zero_fraction (sign ∷ behind) (sign ∷ behind)
taken_absent body sign behind magnitude x is whole free starts none = record {
  valid = zero_valid;
  front = refl;
  found = λ p rest valid follows h.
      (elim (component_cases body p rest (sign ∷ behind) valid h) [
        | inl absent ↦ absent
        | inr there ↦ absurd (none p there.0 (piece_cut body p sign magnitude x rest is valid free starts follows.starts (ap (λ z. sign ∷ z) (sym whole) ∙ there.1)))
      ]);
}

pub taken_present : (body : List ℕ) (q : Frac) (sign : ℕ) (behind magnitude x : List ℕ) → IsBody body → behind ≡ magnitude ++ x → Starts IsSign x
    → IsTextOf IsCoefficient (λ q. piece_text (q, body)) (sign ∷ magnitude) q → IsTaken body q (sign ∷ behind) x
taken_present body q sign behind magnitude x is whole starts text = record {
  valid = text.0.0;
  front = there ∙ ap (λ z. z ++ x) (sym (component_is q body text.0));
  found = λ p rest valid follows h.
      (elim (component_cases body p rest (sign ∷ behind) valid h) [
        | inl absent ↦ absurd (follows.other q x text.0 starts (sym there ∙ absent.1))
        | inr present ↦
            let k = piece_one q p body body x rest (component_by q text.0.0).small (component_by p valid).small is is (ends_piece x starts) (ends_piece rest follows.starts) (sym there ∙ present.1) in
            (k.0, k.2)
      ]);
}
  where
    there : sign ∷ behind ≡ piece_text (q, body) ++ x
    there = ap (λ z. sign ∷ z) whole ∙ ap (λ z. z ++ x) (sym text.1)

-- ---- what stands behind the components

pub follows_nothing : (body : List ℕ) → Follows body []
follows_nothing body = record { starts = tt; other = λ q x ok s e. some_piece (piece_text (q, body)) x (sign_of (product_text q body)) (sym e) }

pub starts_signed : (f x : List ℕ) → Signed f → Starts IsSign (f ++ x)
starts_signed [] x h = absurd h
starts_signed (b ∷ bs) x h = h

-- no piece of a body stands before one of another
follows_by : (t : Bool) (body other : List ℕ) (q : Frac) (rest : List ℕ) → IsBody body → IsBody other → IsTrue (is_frac q) → (other ≡ body → ⊥) → Follows body rest → Follows body (cond t [] (piece_text (q, other)) ++ rest)
follows_by true body other q rest bi oi valid apart follows = follows
follows_by false body other q rest bi oi valid apart follows = record {
  starts = starts_signed (piece_text (q, other)) rest (sign_of (product_text q other));
  other = λ p x ok s e.
      apart (sym (piece_one p q body other x rest (component_by p ok.0).small (component_by q valid).small bi oi (ends_piece x s) (ends_piece rest follows.starts) e).1);
}

-- nor before those of other bodies
follows_others : (body : List ℕ) (qs : List Frac) (bodies : List (List ℕ)) (rest : List ℕ) → IsBody body → AllByRecursion IsBody bodies → AllByRecursion (λ other. other ≡ body → ⊥) bodies → AreValid qs → Follows body rest
    → Follows body (flat_map component_text (zip qs bodies) ++ rest)
follows_others body [] bodies rest bi are apart valid follows = follows
follows_others body (q ∷ qs) [] rest bi are apart valid follows = follows
follows_others body (q ∷ qs) (other ∷ bodies) rest bi are apart valid follows =
    let more = follows_others body qs bodies rest bi are.1 apart.1 valid.1 follows in
    subst (Follows body) (sym (append_assoc (component_text (q, other)) (flat_map component_text (zip qs bodies)) rest)) (follows_by (is_zero_fraction q) body other q (flat_map component_text (zip qs bodies) ++ rest) bi are.0 valid.0 apart.0 more)

-- ---- one component after another

pub taken_none : (sum : List ℕ) → AreTaken [] [] sum sum
taken_none sum = record { valid = tt; front = refl; found = λ ps rest len valid follows e. (no_numbers ps len, e ∙ nothing ps rest) }
  where
    no_numbers : (ps : List Frac) → length ps ≡ 0 → [] ≡ ps
    no_numbers [] len = refl
    no_numbers (p ∷ ps) len = absurd (omega (arith, len))

    nothing : (ps : List Frac) (rest : List ℕ) → flat_map component_text (zip ps []) ++ rest ≡ rest
    nothing [] rest = refl
    nothing (p ∷ ps) rest = refl

pub taken_more : (body : List ℕ) (bodies : List (List ℕ)) (q : Frac) (qs : List Frac) (sum behind rest : List ℕ) → AllByRecursion IsBody (body ∷ bodies) → AllByRecursion (λ other. other ≡ body → ⊥) bodies
    → IsTaken body q sum behind → AreTaken bodies qs behind rest → AreTaken (body ∷ bodies) (q ∷ qs) sum rest
taken_more body bodies q qs sum behind rest are apart one more = record {
  valid = (one.valid, more.valid);
  front = one.front ∙ ap (λ z. component_text (q, body) ++ z) more.front ∙ sym (append_assoc (component_text (q, body)) (flat_map component_text (zip qs bodies)) rest);
  found = finds;
}
  where
    finds : (ps : List Frac) (after : List ℕ) → length ps ≡ suc (length bodies) → AreValid ps → FollowsAll (body ∷ bodies) after → sum ≡ flat_map component_text (zip ps (body ∷ bodies)) ++ after → (q ∷ qs ≡ ps) × (rest ≡ after)
    finds [] after len valid follows e = absurd (omega (arith, len))
    finds (p ∷ ps) after len valid follows e =
        let first = one.found p (flat_map component_text (zip ps bodies) ++ after) valid.0 (follows_others body ps bodies after are.0 are.1 apart valid.1 follows.0) (e ∙ append_assoc (component_text (p, body)) (flat_map component_text (zip ps bodies)) after) in
        let others = more.found ps after (omega (arith, len)) valid.1 follows.1 first.1 in
        (cc (first.0, others.0), others.1)

pub follows_none : (bodies : List (List ℕ)) → FollowsAll bodies []
follows_none [] = tt
follows_none (body ∷ bodies) = (follows_nothing body, follows_none bodies)
