-- One reading of an element, and of a line of units.
use Rattle.std.proofs.Common.{◌≡◌, ℕ, Bool, true, false, cond, ◌&&◌, pos, List, [], ◌∷◌, ◌++◌, length, get_or, refl, sym, ap, ◌∙◌, append_assoc, arith, inl, inr}
use Rattle.std.specs.Prelude.{not}
use Rattle.std.specs.List.{AllByRecursion, flat_map, list_all, zip}
use Rattle.std.specs.Str.{bytes_eq}
use Rattle.std.proofs.lemmas.Bool.Decides.{Decides-int_eq}
use Rattle.std.proofs.lemmas.Slice.Eq.{bytes_eq-Decides}
use Rattle.ring_law.specs.declared.fraction.Frac.{Frac}
use Rattle.cert_law.specs.Fields.{Element}
use Rattle.cert_law.specs.Fields.{UnitPair}
use Rattle.poly_text.specs.Numbers.{Piece, is_zero_fraction, component_text, components, components_text, element_text, letters, numbers, piece_text, without_plus, without_zeros}
use Rattle.cert_text.specs.Text.{line, unit_text}
use Rattle.cert_law.specs.Unique.{Starts, IsSelfEnding}
use Rattle.cert_law.specs.Fields.{IsSmall, IsBody, IsInside, EndsSum, IsPiece, IsComponent, IsSmallElement, IsUnitLine, zero_fraction}
use Rattle.cert_law.proofs.Cut.{head}
use Rattle.cert_law.proofs.Numbers.{fraction_is}
use Rattle.cert_law.proofs.Sums.{pieces_one, sum_one}
use Rattle.cert_law.proofs.Valid.{all_from, both}

-- ---- the text of numbers with their letters is that of those that are not 0

text_step : (t : Bool) (p : Piece) (ps : List Piece) → flat_map component_text ps ≡ flat_map piece_text (without_zeros ps)
    → cond t [] (piece_text p) ++ flat_map component_text ps ≡ flat_map piece_text (cond (not t) (p ∷ without_zeros ps) (without_zeros ps))
text_step true p ps e = e
text_step false p ps e = ap (λ (z : List ℕ). piece_text p ++ z) e

pub pieces_text : (ps : List Piece) → flat_map component_text ps ≡ flat_map piece_text (without_zeros ps)
pieces_text [] = refl
pieces_text (p ∷ ps) = text_step (is_zero_fraction p.0) p ps (pieces_text ps)

pub components_are : (e : Element) → components_text e ≡ flat_map piece_text (without_zeros (components e))
unfolding components_text
components_are e = pieces_text (components e)

-- ---- the pieces are pieces

pub not_zero : (q : Frac) → is_zero_fraction q ≡ false → q.num ≡ pos 0 → ⊥
not_zero q e is = let yes : is_zero_fraction q ≡ true = (Decides-int_eq q.num (pos 0)).1 is in absurd (cc (e, yes))

pieces_step : (t : Bool) (q : Frac) (body : List ℕ) (ps : List Piece) → (t ≡ false → q.num ≡ pos 0 → ⊥) → IsSmall q → IsBody body → AllByRecursion IsPiece ps → AllByRecursion IsPiece (cond (not t) ((q, body) ∷ ps) ps)
pieces_step true q body ps some s b all = all
pieces_step false q body ps some s b all = (record { small = s; nonzero = some refl; body = b }, all)

pub pieces_are : (qs : List Frac) (bodies : List (List ℕ)) → AllByRecursion IsComponent qs → AllByRecursion IsBody bodies → AllByRecursion IsPiece (without_zeros (zip qs bodies))
pieces_are [] bodies c b = tt
pieces_are (q ∷ qs) [] c b = tt
pieces_are (q ∷ qs) (body ∷ bodies) c b = pieces_step (is_zero_fraction q) q body (without_zeros (zip qs bodies)) (not_zero q) c.0.small b.0 (pieces_are qs bodies c.1 b.1)

pub letters_are : AllByRecursion IsBody letters
letters_are =
    let power : AllByRecursion IsInside (94 ∷ 50 ∷ []) = (inl (omega arith), (inl (omega arith), tt)) in (
      tt,
      ((refl, omega arith, tt), ((refl, omega arith, power), ((refl, omega arith, tt), ((refl, omega arith, (inr refl, (inl (omega arith), tt))), ((refl, omega arith, (inr refl, (inl (omega arith), power))), tt))))),
    )

pub element_pieces : (e : Element) → IsSmallElement e → AllByRecursion IsPiece (without_zeros (components e))
element_pieces e ok = pieces_are (numbers e) letters ok letters_are

-- ---- the numbers are told from the pieces

-- all bodies differ
abbrev pub AreApart : List (List ℕ) → Type 0
AreApart [] = Unit {0}
AreApart (body ∷ bodies) = AllByRecursion (λ other. other ≡ body → ⊥) bodies × AreApart bodies

-- the first piece has another body
abbrev Misses : List ℕ → List Piece → Type 0
Misses body [] = Unit {0}
Misses body (p ∷ ps) = p.1 ≡ body → ⊥

pub same_zero : (q r : Frac) → is_zero_fraction q ≡ true → is_zero_fraction r ≡ true → IsComponent q → IsComponent r → q ≡ r
same_zero q r a b cq cr =
    let p = (Decides-int_eq q.num (pos 0)).0 a in
    let s = (Decides-int_eq r.num (pos 0)).0 b in
    fraction_is q r (p ∙ sym s) (cq.zero_form p ∙ sym (cr.zero_form s))

first_is : (p q : Piece) (ps qs : List Piece) → p ∷ ps ≡ q ∷ qs → (p ≡ q) × (ps ≡ qs)
first_is p q ps qs e = (cc, cc)

first_tells : (t s : Bool) (q r : Frac) (body : List ℕ) (ps qs : List Piece) → (t ≡ true → s ≡ true → q ≡ r) → Misses body ps → Misses body qs
    → cond (not t) ((q, body) ∷ ps) ps ≡ cond (not s) ((r, body) ∷ qs) qs → (q ≡ r) × (ps ≡ qs)
first_tells true true q r body ps qs same mp mq e = (same refl refl, e)
first_tells true false q r body [] qs same mp mq e = absurd cc
first_tells true false q r body (p ∷ ps) qs same mp mq e = let h : p ≡ (r, body) = (first_is p (r, body) ps qs e).0 in absurd (mp (ap (λ (z : Piece). z.1) h))
first_tells false true q r body ps [] same mp mq e = absurd cc
first_tells false true q r body ps (p ∷ qs) same mp mq e = let h : (q, body) ≡ p = (first_is (q, body) p ps qs e).0 in absurd (mq (sym (ap (λ (z : Piece). z.1) h)))
first_tells false false q r body ps qs same mp mq e = let h = first_is (q, body) (r, body) ps qs e in (ap (λ (z : Piece). z.0) h.0, h.1)

misses_step : (t : Bool) (q : Frac) (body other : List ℕ) (ps : List Piece) → (other ≡ body → ⊥) → Misses body ps → Misses body (cond (not t) ((q, other) ∷ ps) ps)
misses_step true q body other ps apart more = more
misses_step false q body other ps apart more = apart

misses : (body : List ℕ) (qs : List Frac) (bodies : List (List ℕ)) → AllByRecursion (λ other. other ≡ body → ⊥) bodies → Misses body (without_zeros (zip qs bodies))
misses body [] bodies apart = tt
misses body (q ∷ qs) [] apart = tt
misses body (q ∷ qs) (other ∷ bodies) apart = misses_step (is_zero_fraction q) q body other (without_zeros (zip qs bodies)) apart.0 (misses body qs bodies apart.1)

pub numbers_tell : (ps qs : List Frac) (bodies : List (List ℕ)) → AreApart bodies → length ps ≡ length bodies → length qs ≡ length bodies → AllByRecursion IsComponent ps → AllByRecursion IsComponent qs
    → without_zeros (zip ps bodies) ≡ without_zeros (zip qs bodies) → ps ≡ qs
numbers_tell [] [] bodies apart lp lq cp cq e = refl
numbers_tell [] (q ∷ qs) bodies apart lp lq cp cq e = absurd (omega (arith, lp, lq))
numbers_tell (p ∷ ps) [] bodies apart lp lq cp cq e = absurd (omega (arith, lp, lq))
numbers_tell (p ∷ ps) (q ∷ qs) [] apart lp lq cp cq e = absurd (omega (arith, lp))
numbers_tell (p ∷ ps) (q ∷ qs) (body ∷ bodies) apart lp lq cp cq e =
    let first = first_tells (is_zero_fraction p) (is_zero_fraction q) p q body (without_zeros (zip ps bodies)) (without_zeros (zip qs bodies)) (λ x y. same_zero p q x y cp.0 cq.0) (misses body ps bodies apart.0) (misses body qs bodies apart.0) e in
    let others = numbers_tell ps qs bodies apart.1 (omega (arith, lp)) (omega (arith, lq)) cp.1 cq.1 first.1 in
    cc (first.0, others)

-- numbers before letters are told from their text, and from what stands behind it
pub numbers_one : (ps qs : List Frac) (bodies : List (List ℕ)) (x y : List ℕ) → AreApart bodies → AllByRecursion IsBody bodies → length ps ≡ length bodies → length qs ≡ length bodies → AllByRecursion IsComponent ps → AllByRecursion IsComponent qs → Starts EndsSum x → Starts EndsSum y
    → flat_map component_text (zip ps bodies) ++ x ≡ flat_map component_text (zip qs bodies) ++ y → (ps ≡ qs) × (x ≡ y)
numbers_one ps qs bodies x y apart are lp lq cp cq sx sy e =
    let h = pieces_one (without_zeros (zip ps bodies)) (without_zeros (zip qs bodies)) x y (pieces_are ps bodies cp are) (pieces_are qs bodies cq are) sx sy
    (ap (λ (z : List ℕ). z ++ x) (sym (pieces_text (zip ps bodies))) ∙ e ∙ ap (λ (z : List ℕ). z ++ y) (pieces_text (zip qs bodies))) in
    (numbers_tell ps qs bodies apart lp lq cp cq h.0, h.1)

other_body : (x y : List ℕ) → not (bytes_eq x y) ≡ true → x ≡ y → ⊥
other_body x y e is = let yes : bytes_eq x y ≡ true = (bytes_eq-Decides x y).1 is in absurd (cc (e, yes))

are_apart : List (List ℕ) → Bool
are_apart [] = true
are_apart (body ∷ bodies) = list_all (λ other. not (bytes_eq other body)) bodies && are_apart bodies

apart_by : (bodies : List (List ℕ)) → are_apart bodies ≡ true → AreApart bodies
unfolding are_apart
apart_by [] e = tt
apart_by (body ∷ bodies) e =
    let h = both (list_all (λ other. not (bytes_eq other body)) bodies) (are_apart bodies) e in
    (all_from (λ other. not (bytes_eq other body)) (λ other. other ≡ body → ⊥) (λ other t. other_body other body t) bodies h.0, apart_by bodies h.1)

pub letters_apart : AreApart letters
unfolding are_apart
letters_apart = apart_by letters refl

pub element_is : (e f : Element) → numbers e ≡ numbers f → e ≡ f
element_is e f h = ap element_of h
  where
    element_of : List Frac → Element
    element_of qs = record {
      c0 = get_or qs 0 zero_fraction;
      c1 = get_or qs 1 zero_fraction;
      c2 = get_or qs 2 zero_fraction;
      c3 = get_or qs 3 zero_fraction;
      c4 = get_or qs 4 zero_fraction;
      c5 = get_or qs 5 zero_fraction;
    }

pub element_tells : (e f : Element) → IsSmallElement e → IsSmallElement f → without_zeros (components e) ≡ without_zeros (components f) → e ≡ f
element_tells e f oe of eq = element_is e f (numbers_tell (numbers e) (numbers f) letters letters_apart refl refl oe of eq)

pub element_one : (e f : Element) (x y : List ℕ) → IsSmallElement e → IsSmallElement f → Starts EndsSum x → Starts EndsSum y → element_text e ++ x ≡ element_text f ++ y → (e ≡ f) × (x ≡ y)
unfolding element_text
element_one e f x y oe of sx sy eq =
    let h = sum_one (without_zeros (components e)) (without_zeros (components f)) x y (element_pieces e oe) (element_pieces f of) sx sy
    (ap (λ (z : List ℕ). without_plus z ++ x) (sym (components_are e)) ∙ eq ∙ ap (λ (z : List ℕ). without_plus z ++ y) (components_are f)) in
    (element_tells e f oe of h.0, h.1)

-- ---- a line of units

unit_is : (u v : UnitPair) → u.0 ≡ v.0 → u.1 ≡ v.1 → u ≡ v
unit_is u v a b = λ i. (a i, b i)

pub unit_line : IsSelfEnding IsUnitLine unit_text
unfolding unit_text line
unit_line = record {
  one = λ u v x y ou ov e.
      let left : unit_text u ++ x ≡ element_text u.0 ++ (32 ∷ (element_text u.1 ++ (10 ∷ x))) = simp append_assoc in
      let right : unit_text v ++ y ≡ element_text v.0 ++ (32 ∷ (element_text v.1 ++ (10 ∷ y))) = simp append_assoc in
      let a = element_one u.0 v.0 _ _ ou.value ov.value (omega arith) (omega arith) (sym left ∙ e ∙ right) in
      let b = element_one u.1 v.1 _ _ ou.inverse ov.inverse (omega arith) (omega arith) (head 32 32 _ _ a.1).1 in
      (unit_is u v a.0 b.0, (head 10 10 _ _ b.1).1);
}
