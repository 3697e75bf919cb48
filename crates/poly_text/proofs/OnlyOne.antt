-- The components of an element as the code has them, and the only one that is not 0.
use Rattle.std.proofs.Common.{◌≡◌, ℕ, suc, ◌+◌, ◌<◌, ◌≤◌, Bool, true, false, cond, Option, Some, None, List, [], ◌∷◌, ◌++◌, length, map, take, drop, get_or, refl, sym, ap, ◌∙◌, subst}
use Rattle.std.specs.Prelude.{not, is_some, OnOk, Result, Ok, Err}
use Rattle.std.specs.List.{filter, flat_map}
use Rattle.std.specs.Borrow.{Bor}
use Rattle.std.proofs.lemmas.List.{append-nil, map-append, take_all, take_more, take-append-drop}
use Rattle.std.proofs.lemmas.List.Elements.{filter-append}
use Rattle.ring_law.specs.declared.fraction.Frac.{Frac}
use Rattle.poly_text.specs.Numbers.{Piece, component_text, is_zero_fraction, without_zeros}

abbrev pub Entry : Type 0
Entry = Frac × Bor (List ℕ)

-- a number with its letters
abbrev pub piece_of : Entry → Piece
piece_of p = (p.0, p.1.now)

-- the piece that was found
abbrev pub found_pieces : Option Entry → List Piece
found_pieces None = []
found_pieces (Some p) = piece_of p ∷ []

texts_of : (xs : List Entry) → flat_map (λ p. component_text (p.0, p.1.now)) xs ≡ flat_map component_text (map piece_of xs)
texts_of [] = refl
texts_of (x ∷ xs) = ap (λ (z : List ℕ). component_text (piece_of x) ++ z) (texts_of xs)

-- what was written, by the pieces
pub wrote : {A E : Type 0} (r : Result A E) (new old : List ℕ) (xs : List Entry) (ps : List Piece) → map piece_of xs ≡ ps → OnOk r (new ≡ old ++ flat_map (λ p. component_text (p.0, p.1.now)) xs) → OnOk r (new ≡ old ++ flat_map component_text ps)
wrote (Ok x) new old xs ps is h = h ∙ ap (λ (z : List ℕ). old ++ z) (texts_of xs ∙ ap (λ (z : List Piece). flat_map component_text z) is)
wrote (Err e) new old xs ps is h = h

same_length : (xs : List Entry) → length (map piece_of xs) ≡ length xs
same_length [] = refl
same_length (x ∷ xs) = ap (λ (n : ℕ). suc n) (same_length xs)

within : (xs : List Entry) (ps : List Piece) (i : ℕ) → map piece_of xs ≡ ps → i < length ps → i < length xs
within xs ps i all lt = subst (λ (n : ℕ). i < n) (sym (ap (λ (z : List Piece). length z) all) ∙ same_length xs) lt

past : (xs : List Entry) (ps : List Piece) (i : ℕ) → map piece_of xs ≡ ps → length ps ≤ i → length xs ≤ i
past xs ps i all le = subst (λ (n : ℕ). n ≤ i) (sym (ap (λ (z : List Piece). length z) all) ∙ same_length xs) le

-- ---- one more component

one_more : (xs : List Entry) (i : ℕ) (d : Entry) (t : Bool) → i < length xs → is_zero_fraction (get_or xs i d).0 ≡ t
    → without_zeros (map piece_of (take (i + 1) xs)) ≡ without_zeros (map piece_of (take i xs)) ++ cond (not t) (piece_of (get_or xs i d) ∷ []) []
one_more xs i d t lt is =
    ap (λ (z : List Entry). without_zeros (map piece_of z)) (take_more xs i d lt)
    ∙ ap without_zeros (map-append piece_of (take i xs) (get_or xs i d ∷ []))
    ∙ filter-append (λ p. not (is_zero_fraction p.0)) (map piece_of (take i xs)) (piece_of (get_or xs i d) ∷ [])
    ∙ ap (λ (z : Bool). without_zeros (map piece_of (take i xs)) ++ cond (not z) (piece_of (get_or xs i d) ∷ []) []) is

-- it is 0
pub zero_next : (xs : List Entry) (i : ℕ) (d : Entry) (old new : Option Entry) (r : Bool) (ps : List Piece) → r ≡ is_zero_fraction (get_or xs i d).0 → r ≡ true → map piece_of xs ≡ ps → i < length ps → without_zeros (map piece_of (take i xs)) ≡ found_pieces old → new ≡ old
    → without_zeros (map piece_of (take (i + 1) xs)) ≡ found_pieces new
zero_next xs i d old new r ps test is all lt so_far same = one_more xs i d true (within xs ps i all lt) (sym test ∙ is) ∙ append-nil (without_zeros (map piece_of (take i xs))) ∙ so_far ∙ ap found_pieces (sym same)

nothing_found : (old : Option Entry) (s : Bool) → s ≡ is_some old → s ≡ false → found_pieces old ≡ []
nothing_found None s test is = refl
nothing_found (Some x) s test is = absurd cc

-- it is the first that is not 0
pub first_next : (xs : List Entry) (i : ℕ) (d : Entry) (old new : Option Entry) (r s : Bool) (ps : List Piece) → r ≡ is_zero_fraction (get_or xs i d).0 → r ≡ false → s ≡ is_some old → s ≡ false → map piece_of xs ≡ ps → i < length ps → without_zeros (map piece_of (take i xs)) ≡ found_pieces old
    → new ≡ Some (get_or xs i d) → without_zeros (map piece_of (take (i + 1) xs)) ≡ found_pieces new
first_next xs i d old new r s ps test is empty none all lt so_far found =
    one_more xs i d false (within xs ps i all lt) (sym test ∙ is) ∙ ap (λ (z : List Piece). z ++ piece_of (get_or xs i d) ∷ []) (so_far ∙ nothing_found old s empty none) ∙ ap found_pieces (sym found)

two_pieces : (old : Option Entry) (s : Bool) (b p : Piece) (more : List Piece) → s ≡ is_some old → s ≡ true → (found_pieces old ++ b ∷ []) ++ more ≡ p ∷ [] → ⊥
two_pieces None s b p more test is e = absurd cc
two_pieces (Some x) s b p more test is e = cc

-- it is the second
pub second_next : (xs : List Entry) (i : ℕ) (d : Entry) (old : Option Entry) (r s : Bool) (ps : List Piece) → r ≡ is_zero_fraction (get_or xs i d).0 → r ≡ false → s ≡ is_some old → s ≡ true → i < length ps → without_zeros (map piece_of (take i xs)) ≡ found_pieces old
    → map piece_of xs ≡ ps → (p : Piece) → without_zeros ps ≡ p ∷ [] → ⊥
second_next xs i d old r s ps test is some there lt so_far all p one =
    let whole : without_zeros ps ≡ without_zeros (map piece_of (take (i + 1) xs)) ++ without_zeros (map piece_of (drop (i + 1) xs)) =
    ap without_zeros (sym all ∙ ap (λ (z : List Entry). map piece_of z) (sym (take-append-drop (i + 1) xs)) ∙ map-append piece_of (take (i + 1) xs) (drop (i + 1) xs))
    ∙ filter-append (λ q. not (is_zero_fraction q.0)) (map piece_of (take (i + 1) xs)) (map piece_of (drop (i + 1) xs)) in
    let front : without_zeros (map piece_of (take (i + 1) xs)) ≡ found_pieces old ++ piece_of (get_or xs i d) ∷ [] = one_more xs i d false (within xs ps i all lt) (sym test ∙ is) ∙ ap (λ (z : List Piece). z ++ piece_of (get_or xs i d) ∷ []) so_far in
    two_pieces old s (piece_of (get_or xs i d)) p (without_zeros (map piece_of (drop (i + 1) xs))) some there
    (sym (ap (λ (z : List Piece). z ++ without_zeros (map piece_of (drop (i + 1) xs))) front) ∙ sym whole ∙ one)

-- none was found
pub none_at_end : (xs : List Entry) (i : ℕ) (only : Option Entry) (ps : List Piece) → length ps ≤ i → without_zeros (map piece_of (take i xs)) ≡ found_pieces only → map piece_of xs ≡ ps → only ≡ None → (p : Piece) → without_zeros ps ≡ p ∷ [] → ⊥
none_at_end xs i only ps le so_far all none p one =
    let empty : [] ≡ p ∷ [] = sym (ap found_pieces none) ∙ sym so_far ∙ ap (λ (z : List Entry). without_zeros (map piece_of z)) (take_all i xs (past xs ps i all le)) ∙ ap without_zeros all ∙ one in
    cc
