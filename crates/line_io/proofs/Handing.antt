-- The pieces of an input that are handed out one after another.
use Rattle.line_io.proofs.Known.{Consumes-none, Consumes-then}
use Rattle.line_io.proofs.Reading.{first_piece, last_unbroken, line_ended, line_unended, pieces_last}
use Rattle.line_io.specs.Bytes.{ReadsWhole}
use Rattle.line_io.specs.LineSoFar.{IsUnbroken}
use Rattle.line_io.specs.Lines.{answered_lines, answered_of, ended_lines, ends_with, is_answered, line_of, pieces_of}
use Rattle.line_io.specs.Reading.{EndsAll, HandsOut, HasNoLine, IsFresh, IsPiece, PassesLimit}
use Rattle.line_io.specs.declared.lines.Lines.{Lines}
use Rattle.line_io.specs.declared.next.Next.{Next}
use Rattle.std.proofs.Common.{◌≡◌, ℕ, zero, suc, ◌+◌, ◌-◌, ◌<◌, ◌≤◌, Bool, true, false, cond, eqb, List, [], ◌∷◌, ◌++◌, length, length-append, take, Some, None, inl, inr, refl, sym, ap, subst, ◌∙◌, append_assoc, arith}
use Rattle.std.proofs.Math.Seq.{get_or-append_seam}
use Rattle.std.proofs.lemmas.Bool.{ne_eqb}
use Rattle.std.proofs.lemmas.List.{append-nil, map-append, take_at}
use Rattle.std.proofs.lemmas.List.Elements.{filter-append}
use Rattle.std.specs.Io.KnownBytes.{Consumes, IsAtEnd}
use Rattle.std.specs.Prelude.{◌⊎◌, IfSome, filter, map, slice_index}
use Rattle.std.specs.declared.option.Option.{Option}

-- these pieces were handed out, one after another, since the first call: they are the pieces of the bytes before those held
pub record HasHanded (first now : Option (List ℕ)) (lines : Lines) (pieces : List (List ℕ)) : Type 0 where
  pub bytes : List ℕ
  pub read : Consumes first now (bytes ++ lines.buffer)
  pub counted : lines.taken ≡ length (bytes ++ lines.buffer)
  pub split : (rest : List ℕ) → (lines.ended ≡ true → rest ≡ lines.buffer) → pieces_of (bytes ++ rest) ≡ pieces ++ pieces_of rest
  pub whole : lines.ended ≡ false → filter (ends_with 10) pieces ≡ pieces
  pub at_end : lines.ended ≡ true → IsAtEnd now

pub handed_none : (old : Option (List ℕ)) (lines : Lines) → IsFresh lines → HasHanded old old lines []
handed_none old lines fresh =
    let P : List ℕ → Type 0 = λ x. Consumes old old x in
    record {
      bytes = [];
      read = subst P (sym fresh.nothing_held) (Consumes-none old);
      counted = fresh.nothing_taken ∙ ap (λ (x : List ℕ). length x) (sym fresh.nothing_held);
      split = λ rest _. refl;
      whole = λ _. refl;
      at_end = λ e. absurd (let going = fresh.going in cc);
    }

-- ---- one more piece

ends_newline : (bytes : List ℕ) → ends_with 10 (bytes ++ 10 ∷ []) ≡ true
ends_newline bytes =
    let n = length-append bytes (10 ∷ []) in
    let some : eqb (length (bytes ++ 10 ∷ [])) 0 ≡ false = ne_eqb _ _ (λ e. absurd (omega (arith, n, e))) in
    let at : length (bytes ++ 10 ∷ []) - 1 ≡ length bytes = omega (arith, n) in
    let seam : slice_index (bytes ++ 10 ∷ []) (length bytes) ≡ 10 = get_or-append_seam bytes 10 [] 0 in
    rw (some, at, seam) refl

-- before the end of the input a piece ends with a newline
piece_ends : (piece : List ℕ) (after : Lines) → IsPiece piece after → after.ended ≡ false → ends_with 10 piece ≡ true
piece_ends piece after (bytes, unbroken, inl e) going = ap (ends_with 10) e ∙ ends_newline bytes
piece_ends piece after (bytes, unbroken, inr e) going = absurd (let ended = e.2 in cc)

pub kept_one : (piece : List ℕ) (t : Bool) → t ≡ true → cond t (piece ∷ []) [] ≡ piece ∷ []
kept_one piece true e = refl
kept_one piece false e = absurd cc

whole_more : (pieces : List (List ℕ)) (piece : List ℕ) → filter (ends_with 10) pieces ≡ pieces → ends_with 10 piece ≡ true → filter (ends_with 10) (pieces ++ piece ∷ []) ≡ pieces ++ piece ∷ []
whole_more pieces piece e f =
    filter-append (ends_with 10) pieces (piece ∷ []) ∙ ap (λ (x : List (List ℕ)). x ++ filter (ends_with 10) (piece ∷ [])) e ∙ ap (λ (x : List (List ℕ)). pieces ++ x) (kept_one piece (ends_with 10 piece) f)

pub not_both : {A : Type 0} (t : Bool) → t ≡ true → t ≡ false → A
not_both t e f = absurd cc

pub was_going : (was is : Bool) → (was ≡ true → is ≡ true) → is ≡ false → was ≡ false
was_going false is h e = refl
was_going true is h e = not_both is (h refl) e

pub at_end_more : (now next : Option (List ℕ)) (was : Bool) → (was ≡ true → IsAtEnd now) → ((was ≡ true) × (next ≡ now)) ⊎ IsAtEnd next → IsAtEnd next
at_end_more now next was h (inl e) = let P : Option (List ℕ) → Type 0 = λ x. IsAtEnd x in subst P (sym e.1) (h e.0)
at_end_more now next was h (inr e) = e

pub handed_more : (first now next : Option (List ℕ)) (before after : Lines) (answer : Next) (pieces : List (List ℕ)) → HasHanded first now before pieces → (h : HandsOut before after now next answer)
    → (after.ended ≡ true → ((before.ended ≡ true) × (next ≡ now)) ⊎ IsAtEnd next) → HasHanded first next after (pieces ++ h.piece ∷ [])
handed_more first now next before after answer pieces p h ended =
    let joined : (p.bytes ++ before.buffer) ++ h.more ≡ (p.bytes ++ h.piece) ++ after.buffer =
    append_assoc p.bytes before.buffer h.more ∙ ap (λ (x : List ℕ). p.bytes ++ x) h.parts ∙ sym (append_assoc p.bytes h.piece after.buffer) in
    let P : List ℕ → Type 0 = λ x. Consumes first next x in
    record {
      bytes = p.bytes ++ h.piece;
      read = subst P joined (Consumes-then first now next (p.bytes ++ before.buffer) h.more p.read h.read);
      counted = h.counted ∙ ap (λ (n : ℕ). n + length h.more) p.counted ∙ sym (length-append (p.bytes ++ before.buffer) h.more) ∙ ap (λ (x : List ℕ). length x) joined;
      split = λ rest follows.
          let same : before.ended ≡ true → h.piece ++ rest ≡ before.buffer =
          λ was. ap (λ (x : List ℕ). h.piece ++ x) (follows (h.no_more was).1) ∙ sym h.parts ∙ ap (λ (x : List ℕ). before.buffer ++ x) (h.no_more was).0 ∙ append-nil before.buffer in
          ap pieces_of (append_assoc p.bytes h.piece rest) ∙ p.split (h.piece ++ rest) same ∙ ap (λ (x : List (List ℕ)). pieces ++ x) (first_piece h.piece rest after h.is_piece follows)
          ∙ sym (append_assoc pieces (h.piece ∷ []) (pieces_of rest));
      whole = λ going. whole_more pieces h.piece (p.whole (was_going before.ended after.ended (λ was. (h.no_more was).1) going)) (piece_ends h.piece after h.is_piece going);
      at_end = λ is. at_end_more now next before.ended p.at_end (ended is);
    }

-- ---- the end, a fault, the limit

no_pieces : pieces_of [] ≡ []
unfolding pieces_of
no_pieces = refl

-- at the end all pieces were handed out
pub handed_all : (first now next : Option (List ℕ)) (before after : Lines) (pieces : List (List ℕ)) → HasHanded first now before pieces → EndsAll before after now next
    → (after.ended ≡ true → ((before.ended ≡ true) × (next ≡ now)) ⊎ IsAtEnd next) → (input : List ℕ) × ReadsWhole first next input × (answered_lines input ≡ answered_of pieces)
handed_all first now next before after pieces p e ended =
    let P : List ℕ → Type 0 = λ x. Consumes first next x in
    let nothing : (p.bytes ++ before.buffer) ++ [] ≡ p.bytes = append-nil (p.bytes ++ before.buffer) ∙ ap (λ (x : List ℕ). p.bytes ++ x) e.nothing_held ∙ append-nil p.bytes in
    let all : pieces_of p.bytes ≡ pieces =
    ap pieces_of (sym (append-nil p.bytes)) ∙ p.split [] (λ _. sym e.nothing_held) ∙ ap (λ (x : List (List ℕ)). pieces ++ x) no_pieces ∙ append-nil pieces in (
      p.bytes,
      record { took = subst P nothing (Consumes-then first now next (p.bytes ++ before.buffer) [] p.read e.read); ended = at_end_more now next before.ended p.at_end (ended e.ended) },
      ap answered_of all,
    )

drops_one : (piece : List ℕ) (t : Bool) → t ≡ false → cond t (piece ∷ []) [] ≡ []
drops_one piece true e = absurd cc
drops_one piece false e = refl

none_ended : (bytes : List ℕ) → IsUnbroken bytes → filter (ends_with 10) (pieces_of bytes) ≡ []
unfolding pieces_of
none_ended [] unbroken = refl
none_ended (b ∷ bs) unbroken = ap (filter (ends_with 10)) (pieces_last b bs unbroken) ∙ drops_one (b ∷ bs) (ends_with 10 (b ∷ bs)) (last_unbroken (b ∷ bs) unbroken)

-- of bytes without newline after the bytes handed out no more lines are ended
ended_so_far : (first now : Option (List ℕ)) (before : Lines) (pieces : List (List ℕ)) (rest : List ℕ) → (p : HasHanded first now before pieces) → before.ended ≡ false → IsUnbroken rest
    → ended_lines (p.bytes ++ rest) ≡ answered_of pieces
ended_so_far first now before pieces rest p going unbroken =
    ap answered_of
    (
    ap (filter (ends_with 10)) (p.split rest (λ was. not_both before.ended was going)) ∙ filter-append (ends_with 10) pieces (pieces_of rest)
    ∙ ap (λ (x : List (List ℕ)). filter (ends_with 10) pieces ++ x) (none_ended rest unbroken) ∙ append-nil (filter (ends_with 10) pieces) ∙ p.whole going
    )

-- where no line was decided, those that were ended were handed out
pub handed_ended : (first now next : Option (List ℕ)) (before : Lines) (pieces : List (List ℕ)) → HasHanded first now before pieces → HasNoLine before now next
    → (taken : List ℕ) × Consumes first next taken × (ended_lines taken ≡ answered_of pieces)
handed_ended first now next before pieces p n = (
  (p.bytes ++ before.buffer) ++ n.more,
  Consumes-then first now next (p.bytes ++ before.buffer) n.more p.read n.read,
  ap ended_lines (append_assoc p.bytes before.buffer n.more) ∙ ended_so_far first now before pieces (before.buffer ++ n.more) p n.going n.unbroken,
)

-- past the limit, those that were ended before the last read were handed out
pub handed_limit : (first now next : Option (List ℕ)) (before : Lines) (pieces : List (List ℕ)) → HasHanded first now before pieces → PassesLimit before now next
    → (taken : List ℕ) × (n : ℕ) × Consumes first next taken × (16777216 < length taken) × (n ≤ 16777216) × (16777216 < n + 65536) × (ended_lines (take n taken) ≡ answered_of pieces)
handed_limit first now next before pieces p n =
    let so_far = (p.bytes ++ before.buffer) ++ n.more in
    let number : length so_far ≡ before.taken + length n.more = length-append (p.bytes ++ before.buffer) n.more ∙ ap (λ (k : ℕ). k + length n.more) (sym p.counted) in
    let all = length-append so_far n.last in
    let joined : (p.bytes ++ before.buffer) ++ (n.more ++ n.last) ≡ so_far ++ n.last = sym (append_assoc (p.bytes ++ before.buffer) n.more n.last) in
    let P : List ℕ → Type 0 = λ x. Consumes first next x in (
      so_far ++ n.last,
      length so_far,
      subst P joined (Consumes-then first now next (p.bytes ++ before.buffer) (n.more ++ n.last) p.read n.read),
      omega (arith, all, number, n.past),
      omega (arith, number, n.within),
      omega (arith, number, n.past, n.few),
      ap ended_lines (take_at so_far n.last (length so_far) refl ∙ append_assoc p.bytes before.buffer n.more) ∙ ended_so_far first now before pieces (before.buffer ++ n.more) p n.going n.unbroken,
    )

-- ---- the front of an input

pub answered_of-append : (xs ys : List (List ℕ)) → answered_of (xs ++ ys) ≡ answered_of xs ++ answered_of ys
answered_of-append xs ys = ap (filter is_answered) (map-append line_of xs ys) ∙ filter-append is_answered (map line_of xs) (map line_of ys)

front_of_input : (now : Option (List ℕ)) (input : List ℕ) (lines : Lines) (pieces : List (List ℕ)) → HasHanded (Some input) now lines pieces → (more : List (List ℕ)) × (answered_lines input ≡ answered_of pieces ++ more)
front_of_input None input lines pieces p = absurd p.read
front_of_input (Some left) input lines pieces p =
    let follows : lines.ended ≡ true → lines.buffer ++ left ≡ lines.buffer = λ is. ap (λ (x : List ℕ). lines.buffer ++ x) (p.at_end is) ∙ append-nil lines.buffer in
    let all : pieces_of input ≡ pieces ++ pieces_of (lines.buffer ++ left) = ap pieces_of (p.read ∙ append_assoc p.bytes lines.buffer left) ∙ p.split (lines.buffer ++ left) follows in
    (answered_of (pieces_of (lines.buffer ++ left)), ap answered_of all ∙ answered_of-append pieces (pieces_of (lines.buffer ++ left)))

-- the lines that were handed out are the first of the input
pub handed_front : (first now : Option (List ℕ)) (lines : Lines) (pieces : List (List ℕ)) → HasHanded first now lines pieces
    → IfSome first (λ input. (more : List (List ℕ)) × (answered_lines input ≡ answered_of pieces ++ more))
handed_front None now lines pieces p = tt
handed_front (Some input) now lines pieces p = front_of_input now input lines pieces p

-- ---- a line has no newline

unbroken_take : (n : ℕ) (xs : List ℕ) → IsUnbroken xs → IsUnbroken (take n xs)
unbroken_take zero xs p = tt
unbroken_take (suc n) [] p = tt
unbroken_take (suc n) (x ∷ xs) p = (p.0, unbroken_take n xs p.1)

unbroken_without : (t : Bool) (xs : List ℕ) → IsUnbroken xs → IsUnbroken (cond t (take (length xs - 1) xs) xs)
unbroken_without true xs p = unbroken_take (length xs - 1) xs p
unbroken_without false xs p = p

-- a line that is handed out has no newline
pub line_unbroken : (piece : List ℕ) (after : Lines) → IsPiece piece after → IsUnbroken (line_of piece)
line_unbroken piece after (bytes, unbroken, inl e) =
    let P : List ℕ → Type 0 = λ x. IsUnbroken x in subst P (sym (ap line_of e ∙ line_ended bytes)) (unbroken_without (ends_with 13 bytes) bytes unbroken)
line_unbroken piece after (bytes, unbroken, inr e) =
    let P : List ℕ → Type 0 = λ x. IsUnbroken x in subst P (sym (ap line_of e.0 ∙ line_unended bytes unbroken)) (unbroken_without (ends_with 13 bytes) bytes unbroken)
