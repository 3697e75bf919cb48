-- A line that is read part by part.
use Rattle.line_io.proofs.Known.{Consumes-none, Consumes-then}
use Rattle.line_io.specs.LineSoFar.{LineSoFar, IsUnbroken, IsLineOf, Pushes, counted_length}
use Rattle.line_io.specs.Lines.{line_of, pieces_of, without_last}
use Rattle.line_io.specs.Reading.{AreNeeded, IsDecided, IsHandedOut, HandsOut, HasNoLine, IsPiece, PassesLimit, Takes, is_handed_out}
use Rattle.line_io.specs.declared.next.Next.TheVariants as nexts
use Rattle.line_io.specs.declared.next.Next.{Next}
use Rattle.line_io.specs.declared.lines.Lines.{Lines}
use Rattle.std.specs.declared.option.Option.{Option}
use Rattle.std.specs.Io.KnownBytes.{Consumes, IsAtEnd, Keeps}
use Rattle.std.proofs.Common.{◌≡◌, ℕ, suc, ◌+◌, ◌-◌, ◌<◌, ◌≤◌, min, Bool, true, false, not, cond, ◌&&◌, eqb, ltb, List, [], ◌∷◌, ◌++◌, length, length-append, take, drop, get_or, Some, None, inl, inr, refl, sym, ap, subst, ◌∙◌, append_assoc, arith}
use Rattle.std.proofs.Math.Seq.{take-append-add, take-append_seam, get_or-append_seam}
use Rattle.std.proofs.lemmas.Bool.{eqb-true, eqb-false, ltb-true, ltb-false, ne_eqb}
use Rattle.std.proofs.lemmas.List.{append-nil, take-append-le, get_or-append_right, take_all, length-take-le, drop_all}
use Rattle.std.specs.List.{position_or_len}
use Rattle.std.specs.Prelude.{position, slice_index, ◌≢◌, ◌⊎◌}

pub unbroken-append : (xs ys : List ℕ) → IsUnbroken xs → IsUnbroken ys → IsUnbroken (xs ++ ys)
unbroken-append [] ys p q = q
unbroken-append (x ∷ xs) ys p q = (p.0, unbroken-append xs ys p.1 q)

-- the place of the first newline, or the length
abbrev newline_at : List ℕ → ℕ
newline_at bs = position_or_len (λ b. eqb b 10) bs

-- before the first newline there is none
step_front : (t : Bool) (b : ℕ) (bs : List ℕ) (k : ℕ) → t ≡ eqb b 10 → (t ≡ false → IsUnbroken (take k bs)) → IsUnbroken (take (cond (not t) (1 + k) 0) (b ∷ bs))
step_front true b bs k e h = tt
step_front false b bs k e h =
    let one : 1 + k ≡ suc k = omega arith in
    let off : b ≢ 10 = λ is. eqb-false b 10 (sym e) is in
    rw one ((off, h refl))

pub front_unbroken : (bs : List ℕ) → IsUnbroken (take (newline_at bs) bs)
front_unbroken [] = tt
front_unbroken (b ∷ bs) = step_front (eqb b 10) b bs (newline_at bs) refl (λ _. front_unbroken bs)

step_split : (t : Bool) (b : ℕ) (bs : List ℕ) (k : ℕ) → t ≡ eqb b 10 → (t ≡ false → bs ≡ (take k bs ++ 10 ∷ []) ++ drop (k + 1) bs)
    → b ∷ bs ≡ (take (cond (not t) (1 + k) 0) (b ∷ bs) ++ 10 ∷ []) ++ drop (cond (not t) (1 + k) 0 + 1) (b ∷ bs)
step_split true b bs k e h = let is : b ≡ 10 = eqb-true b 10 (sym e) in ap (λ (x : ℕ). x ∷ bs) is
step_split false b bs k e h =
    let one : 1 + k ≡ suc k = omega arith in
    let two : suc k + 1 ≡ suc (k + 1) = omega arith in
    rw (one, two) (ap (λ (x : List ℕ). b ∷ x) (h refl))

near : (t : Bool) (k n : ℕ) → t ≡ false → cond (not t) (1 + k) 0 < suc n → k < n
near true k n e lt = absurd cc
near false k n e lt = omega arith

split_there : (bs : List ℕ) → newline_at bs < length bs → bs ≡ (take (newline_at bs) bs ++ 10 ∷ []) ++ drop (newline_at bs + 1) bs
split_there [] lt = absurd (omega arith)
split_there (b ∷ bs) lt = step_split (eqb b 10) b bs (newline_at bs) refl (λ e. split_there bs (near (eqb b 10) (newline_at bs) (length bs) e lt))

some_of : (t : Bool) (m k : ℕ) → cond t (Some m) None ≡ Some k → (t ≡ true) × (m ≡ k)
some_of true m k e = (refl, cc)
some_of false m k e = absurd cc

none_of : (t : Bool) (m : ℕ) → cond t (Some m) None ≡ None → t ≡ false
none_of true m e = absurd cc
none_of false m e = refl

-- the first newline stands at k
pub found_at : (bs : List ℕ) (k : ℕ) → Some k ≡ position (λ b. eqb b 10) bs → (bs ≡ (take k bs ++ 10 ∷ []) ++ drop (k + 1) bs) × IsUnbroken (take k bs)
found_at bs k e =
    let h = some_of (ltb (newline_at bs) (length bs)) (newline_at bs) k (sym e) in
    rw (← h.1) ((split_there bs (ltb-true _ _ h.0), front_unbroken bs))

-- there is no newline
pub found_none : (bs : List ℕ) → None ≡ position (λ b. eqb b 10) bs → IsUnbroken bs
found_none bs e =
    let far = ltb-false _ _ (none_of (ltb (newline_at bs) (length bs)) (newline_at bs) (sym e)) in
    let all : take (newline_at bs) bs ≡ bs = take_all (newline_at bs) bs far in
    let P : List ℕ → Type 0 = λ x. IsUnbroken x in
    subst P all (front_unbroken bs)

-- ---- the end of a line

-- the test for a carriage return
abbrev returned : List ℕ → Bool
returned bytes = not (eqb (length bytes) 0) && eqb (slice_index bytes (length bytes - 1)) 13

test_is : (bytes : List ℕ) (s : LineSoFar) → IsLineOf bytes s → (not (eqb s.total 0) && eqb s.last 13) ≡ returned bytes
test_is [] s p = rw p.number refl
test_is (b ∷ bs) s p = let some : 0 < length (b ∷ bs) = omega arith in rw (p.number, p.last some) refl

length_of : (t : Bool) (bytes : List ℕ) → cond t (length bytes - 1) (length bytes) ≡ length (cond t (take (length bytes - 1) bytes) bytes)
length_of true bytes = let le : length bytes - 1 ≤ length bytes = omega arith in sym (length-take-le (length bytes - 1) bytes le)
length_of false bytes = refl

pub counted_is : (bytes : List ℕ) (s : LineSoFar) → IsLineOf bytes s → counted_length s.total s.last ≡ length (without_last 13 bytes)
counted_is bytes s p = rw (test_is bytes s p, p.number) (length_of (returned bytes) bytes)

take_of : (t : Bool) (bytes : List ℕ) → take (cond t (length bytes - 1) (length bytes)) bytes ≡ cond t (take (length bytes - 1) bytes) bytes
take_of true bytes = refl
take_of false bytes = take_all (length bytes) bytes (omega arith)

below : (t : Bool) (n : ℕ) → cond t (n - 1) n ≤ 65536 → n ≤ 65538
below true n le = omega arith
below false n le = omega arith

pub kept_is : (bytes : List ℕ) (s : LineSoFar) → IsLineOf bytes s → counted_length s.total s.last ≤ 65536 → take (counted_length s.total s.last) s.kept ≡ without_last 13 bytes
kept_is bytes s p le =
    let n : counted_length s.total s.last ≡ cond (returned bytes) (length bytes - 1) (length bytes) = rw (test_is bytes s p, p.number) refl in
    let short : length bytes ≤ 65538 = below (returned bytes) (length bytes) (omega (arith, n, le)) in
    let all : s.kept ≡ bytes = p.kept ∙ take_all 65538 bytes short in
    rw (n, all) (take_of (returned bytes) bytes)

-- ---- the bytes held go into the line

pub gather_found : (buffer held front after : List ℕ) (k : ℕ) (old new : LineSoFar) → held ≡ buffer → Some k ≡ position (λ b. eqb b 10) held → front ≡ take k held → after ≡ drop (k + 1) buffer → Pushes old new front
    → (x : List ℕ) × IsUnbroken x × (buffer ≡ (x ++ 10 ∷ []) ++ after) × Pushes old new x
gather_found buffer held front after k old new h at is_front is_after p =
    let At : List ℕ → Type 0 = λ x. Some k ≡ position (λ b. eqb b 10) x in
    let f = found_at buffer k (subst At h at) in
    let is : front ≡ take k buffer = is_front ∙ ap (λ (x : List ℕ). take k x) h in
    (front, rw is f.1, rw (is, is_after) f.0, p)

pub gather_all : (buffer held after : List ℕ) (old new : LineSoFar) → held ≡ buffer → None ≡ position (λ b. eqb b 10) held → after ≡ drop (length held) buffer → Pushes old new held
    → IsUnbroken buffer × (after ≡ []) × Pushes old new buffer
gather_all buffer held after old new h at is_after p =
    let At : List ℕ → Type 0 = λ x. None ≡ position (λ b. eqb b 10) x in
    let P : List ℕ → Type 0 = λ x. Pushes old new x in
    let n : length held ≡ length buffer = ap (λ (x : List ℕ). length x) h in
    (found_none buffer (subst At h at), is_after ∙ drop_all (length held) buffer (omega (arith, n)), subst P h p)

-- ---- the loop of next_line

-- what was read and gathered since the call began
pub record Gathers (before after : Lines) (old new : Option (List ℕ)) (faults later : ℕ) : Type 0 where
  pub bytes : List ℕ
  pub more : List ℕ
  pub read : Consumes old new more
  pub parts : before.buffer ++ more ≡ bytes ++ after.buffer
  pub unbroken : IsUnbroken bytes
  pub line : IsLineOf bytes after.line
  pub counted : after.taken ≡ before.taken + length more
  pub open_still : after.taken ≤ 16777216
  pub sound : after.faulted ≡ false
  pub rises : faults ≤ later
  pub first : ((more ≡ []) × (bytes ≡ []) × (after.ended ≡ before.ended) × (new ≡ old) × (later ≡ faults)) ⊎ ((before.ended ≡ false) × IsUnbroken before.buffer)
  pub ended : after.ended ≡ true → ((before.ended ≡ true) × (new ≡ old)) ⊎ IsAtEnd new
  pub needed : AreNeeded before.buffer more

-- ---- a part goes into the line

-- as much of a part as there is room for
room_for : (part : List ℕ) (n : ℕ) (t : Bool) → t ≡ ltb n (length part) → take (min (length part) n) part ≡ take n part
room_for part n true e = let lt = ltb-true _ _ (sym e) in let m : min (length part) n ≡ n = omega arith in rw m refl
room_for part n false e =
    let le = ltb-false _ _ (sym e) in
    let m : min (length part) n ≡ length part = omega arith in
    rw m (take_all (length part) part (omega arith) ∙ sym (take_all n part le))

kept_more : (bytes part : List ℕ) (t : Bool) → t ≡ ltb 65538 (length bytes)
    → take 65538 bytes ++ take (min (length part) (65538 - length (take 65538 bytes))) part ≡ take 65538 (bytes ++ part)
kept_more bytes part true e =
    let lt = ltb-true _ _ (sym e) in
    let n : length (take 65538 bytes) ≡ 65538 = length-take-le 65538 bytes (omega (arith, lt)) in
    let none : min (length part) (65538 - length (take 65538 bytes)) ≡ 0 = omega (arith, n) in
    rw none (append-nil (take 65538 bytes) ∙ sym (take-append-le 65538 bytes part (omega (arith, lt))))
kept_more bytes part false e =
    let le = ltb-false _ _ (sym e) in
    let all : take 65538 bytes ≡ bytes = take_all 65538 bytes le in
    let n : length bytes + (65538 - length bytes) ≡ 65538 = omega (arith, le) in
    let more : bytes ++ take (65538 - length bytes) part ≡ take 65538 (bytes ++ part) =
    sym (take-append-add bytes part (65538 - length bytes)) ∙ ap (λ (k : ℕ). take k (bytes ++ part)) n in
    rw all (ap (λ (x : List ℕ). bytes ++ x) (room_for part (65538 - length bytes) (ltb (65538 - length bytes) (length part)) refl) ∙ more)

last_more : (bytes part : List ℕ) (old new : LineSoFar) → IsLineOf bytes old → Pushes old new part → 0 < length (bytes ++ part) → new.last ≡ slice_index (bytes ++ part) (length (bytes ++ part) - 1)
last_more bytes [] old new p q some =
    let nothing : bytes ++ [] ≡ bytes = append-nil bytes in
    rw (nothing, q.last) (p.last (omega (arith, ap (λ (x : List ℕ). length x) nothing, some)))
last_more bytes (b ∷ bs) old new p q some =
    let n = length-append bytes (b ∷ bs) in
    let at : length (bytes ++ b ∷ bs) - 1 - length bytes ≡ length (b ∷ bs) - 1 = omega (arith, n) in
    let tested : eqb (length (b ∷ bs)) 0 ≡ false = ne_eqb _ _ (λ e. absurd (omega (arith, e))) in
    q.last ∙ ap (λ (t : Bool). cond t old.last (slice_index (b ∷ bs) (length (b ∷ bs) - 1))) tested ∙ sym (get_or-append_right bytes (b ∷ bs) (length bytes) (length (bytes ++ b ∷ bs) - 1) 0 refl (omega (arith, n)) ∙ ap (λ (k : ℕ). get_or (b ∷ bs) k 0) at)

pub line_more : (bytes part : List ℕ) (old new : LineSoFar) → IsLineOf bytes old → Pushes old new part → IsLineOf (bytes ++ part) new
line_more bytes part old new p q = record {
  kept =
      let whole : new.kept ≡ take 65538 bytes ++ take (min (length part) (65538 - length (take 65538 bytes))) part = rw (← p.kept) q.kept in
      whole ∙ kept_more bytes part (ltb 65538 (length bytes)) refl;
  number = q.number ∙ ap (λ (k : ℕ). k + length part) p.number ∙ sym (length-append bytes part);
  last = last_more bytes part old new p q;
}

-- ---- the line of a piece

without_newline : (xs : List ℕ) → without_last 10 (xs ++ 10 ∷ []) ≡ xs
without_newline xs =
    let n = length-append xs (10 ∷ []) in
    let some : eqb (length (xs ++ 10 ∷ [])) 0 ≡ false = ne_eqb _ _ (λ e. absurd (omega (arith, n, e))) in
    let at : length (xs ++ 10 ∷ []) - 1 ≡ length xs = omega (arith, n) in
    let seam : slice_index (xs ++ 10 ∷ []) (length xs) ≡ 10 = get_or-append_seam xs 10 [] 0 in
    rw (some, at, seam) (take-append_seam xs (10 ∷ []))

pub line_ended : (xs : List ℕ) → line_of (xs ++ 10 ∷ []) ≡ without_last 13 xs
unfolding line_of
line_ended xs = ap (λ (x : List ℕ). without_last 13 x) (without_newline xs)

is_not_newline : (b : ℕ) → b ≢ 10 → eqb b 10 ≡ false
is_not_newline b ne = ne_eqb b 10 ne

last_is : (xs : List ℕ) (x : ℕ) → IsUnbroken (x ∷ xs) → eqb (get_or (x ∷ xs) (length xs) 0) 10 ≡ false
last_is [] x p = is_not_newline x p.0
last_is (y ∷ ys) x p = last_is ys y p.1

and_false : (t : Bool) → (t && false) ≡ false
and_false true = refl
and_false false = refl

pub last_unbroken : (xs : List ℕ) → IsUnbroken xs → (not (eqb (length xs) 0) && eqb (slice_index xs (length xs - 1)) 10) ≡ false
last_unbroken [] p = refl
last_unbroken (x ∷ xs) p =
    let at : length (x ∷ xs) - 1 ≡ length xs = omega arith in
    rw (at, last_is xs x p) (and_false (not (eqb (length (x ∷ xs)) 0)))

pub line_unended : (xs : List ℕ) → IsUnbroken xs → line_of xs ≡ without_last 13 xs
unfolding line_of
line_unended xs p = let same : without_last 10 xs ≡ xs = rw (last_unbroken xs p) refl in ap (λ (x : List ℕ). without_last 13 x) same

-- ---- the answers of next_line

-- at the end of the input nothing was read
nothing_read : (before mid : Lines) (old new : Option (List ℕ)) (faults later : ℕ) (bytes more : List ℕ)
    → ((more ≡ []) × (bytes ≡ []) × (mid.ended ≡ before.ended) × (new ≡ old) × (later ≡ faults)) ⊎ ((before.ended ≡ false) × IsUnbroken before.buffer)
    → before.ended ≡ true → (more ≡ []) × (mid.ended ≡ true)
nothing_read before mid old new faults later bytes more (inl p) e = (p.0, p.2 ∙ e)
nothing_read before mid old new faults later bytes more (inr p) e = absurd cc

pub hands_out_ended : (before mid after : Lines) (old new : Option (List ℕ)) (faults later : ℕ) (s : LineSoFar) (next : Next) → Gathers before mid old new faults later
    → (x : List ℕ) × IsUnbroken x × (mid.buffer ≡ (x ++ 10 ∷ []) ++ after.buffer) × Pushes mid.line s x → after.taken ≡ mid.taken → after.ended ≡ mid.ended
    → ((bytes : List ℕ) → IsLineOf bytes s → IsHandedOut (without_last 13 bytes) after.line.kept next) → HandsOut before after old new next
hands_out_ended before mid after old new faults later s next i f number same out =
    let bytes = i.bytes ++ f.0 in
    let is_line = line_ended bytes in
    let P : List ℕ → Type 0 = λ x. IsHandedOut x after.line.kept next in
    record {
      more = i.more;
      piece = bytes ++ 10 ∷ [];
      read = i.read;
      parts = i.parts ∙ ap (λ (x : List ℕ). i.bytes ++ x) f.2 ∙ simp append_assoc;
      is_piece = (bytes, unbroken-append i.bytes f.0 i.unbroken f.1, inl refl);
      line = subst P (sym is_line) (out bytes (line_more i.bytes f.0 mid.line s i.line f.3));
      counted = number ∙ i.counted;
      no_more = λ e. let h = nothing_read before mid old new faults later i.bytes i.more i.first e in (h.0, same ∙ h.1);
      needed = i.needed;
    }

pub hands_out_rest : (before mid after : Lines) (old new : Option (List ℕ)) (faults later : ℕ) (s : LineSoFar) (next : Next) → Gathers before mid old new faults later
    → IsUnbroken mid.buffer × (after.buffer ≡ []) × Pushes mid.line s mid.buffer → after.taken ≡ mid.taken → after.ended ≡ true → (s.total ≡ 0 → ⊥)
    → ((bytes : List ℕ) → IsLineOf bytes s → IsHandedOut (without_last 13 bytes) after.line.kept next) → HandsOut before after old new next
hands_out_rest before mid after old new faults later s next i f number ended some out =
    let bytes = i.bytes ++ mid.buffer in
    let unbroken = unbroken-append i.bytes mid.buffer i.unbroken f.0 in
    let line = line_more i.bytes mid.buffer mid.line s i.line f.2 in
    let is_line = line_unended bytes unbroken in
    let P : List ℕ → Type 0 = λ x. IsHandedOut x after.line.kept next in
    let longer : 0 < length bytes = omega (arith, line.number, some) in
    record {
      more = i.more;
      piece = bytes;
      read = i.read;
      parts = i.parts ∙ rw f.1 (sym (append-nil bytes));
      is_piece = (bytes, unbroken, inr (refl, longer, ended, f.1));
      line = subst P (sym is_line) (out bytes line);
      counted = number ∙ i.counted;
      no_more = λ e. ((nothing_read before mid old new faults later i.bytes i.more i.first e).0, ended);
      needed = i.needed;
    }

on_off : {A : Type 0} (next other : Next) → next ≡ other → is_handed_out next ≡ true → is_handed_out other ≡ false → A
on_off next other e on off = let both : is_handed_out next ≡ is_handed_out other = ap is_handed_out e in absurd cc

-- an answer that hands out a line is none of the others
pub not_other : {A : Type 0} (line kept : List ℕ) (next other : Next) → IsHandedOut line kept next → next ≡ other → is_handed_out other ≡ false → A
not_other line kept nexts.Line other p e off = on_off nexts.Line other e refl off
not_other line kept (nexts.Long n) other p e off = on_off (nexts.Long n) other e refl off
not_other line kept nexts.End other p e off = absurd p
not_other line kept nexts.ReadFault other p e off = absurd p
not_other line kept nexts.InputLimit other p e off = absurd p

-- after a line is handed out the answer is no other
pub not_after : {A : Type 0} (before mid : Lines) (old new : Option (List ℕ)) (faults later : ℕ) (s : LineSoFar) (part kept : List ℕ) (next other : Next) → Gathers before mid old new faults later
    → Pushes mid.line s part → ((bytes : List ℕ) → IsLineOf bytes s → IsHandedOut (without_last 13 bytes) kept next) → next ≡ other → is_handed_out other ≡ false → A
not_after before mid old new faults later s part kept next other i p out e off =
    not_other _ _ _ _ (out (i.bytes ++ part) (line_more i.bytes part mid.line s i.line p)) e off

-- ---- the loop begins and goes on

pub Consumes-kept : (a b c : Option (List ℕ)) (xs : List ℕ) → Consumes a b xs → Keeps b c → Consumes a c xs
Consumes-kept None b c xs p q = tt
Consumes-kept (Some first) None c xs p q = absurd p
Consumes-kept (Some first) (Some second) None xs p q = absurd q
Consumes-kept (Some first) (Some second) (Some third) xs p q = p ∙ ap (λ (t : List ℕ). xs ++ t) (sym q)

pub gathers_none : (before after : Lines) (old : Option (List ℕ)) (f : ℕ) → after.line ≡ record { kept = []; total = 0; last = 0 } → after.buffer ≡ before.buffer → after.taken ≡ before.taken → after.ended ≡ before.ended
    → before.taken ≤ 16777216 → after.faulted ≡ false → Gathers before after old old f f
gathers_none before after old f e same count end small sound =
    let P : LineSoFar → Type 0 = λ s. IsLineOf [] s in
    record {
      bytes = [];
      more = [];
      read = Consumes-none old;
      parts = append-nil before.buffer ∙ sym same;
      unbroken = tt;
      line = subst P (sym e) (record { kept = refl; number = refl; last = λ lt. absurd (omega (arith, lt)) });
      counted = omega (arith, count);
      open_still = omega (arith, count, small);
      sound = sound;
      rises = omega arith;
      first = inl (refl, refl, end, refl, refl);
      ended = λ is. inl (sym end ∙ is, refl);
      needed = record { earlier = []; last = []; parts = refl; few = omega arith; unbroken = inl refl };
    }

pub gathers_small : (before mid : Lines) (old new : Option (List ℕ)) (faults later : ℕ) → Gathers before mid old new faults later → length before.buffer ≤ 65536 → mid.line.total + length mid.buffer < 18446744073709551616
gathers_small before mid old new faults later i small =
    let a = ap (λ (x : List ℕ). length x) i.parts in
    omega (arith, sym (length-append before.buffer i.more) ∙ a ∙ length-append i.bytes mid.buffer, i.line.number, i.counted, i.open_still, small)

-- a loop that has not come to the end did not begin there
was_going : (before mid : Lines) (old new : Option (List ℕ)) (faults later : ℕ) (bytes more : List ℕ) → mid.ended ≡ false
    → ((more ≡ []) × (bytes ≡ []) × (mid.ended ≡ before.ended) × (new ≡ old) × (later ≡ faults)) ⊎ ((before.ended ≡ false) × IsUnbroken before.buffer) → before.ended ≡ false
was_going before mid old new faults later bytes more going (inl p) = sym p.2 ∙ going
was_going before mid old new faults later bytes more going (inr p) = p.0

pub no_line : (before mid : Lines) (old new next : Option (List ℕ)) (faults later : ℕ) → Gathers before mid old new faults later → IsUnbroken mid.buffer → mid.ended ≡ false → Keeps new next → HasNoLine before old next
no_line before mid old new next faults later i unbroken going kept =
    let P : List ℕ → Type 0 = λ x. IsUnbroken x in
    record {
      more = i.more;
      read = Consumes-kept old new next i.more i.read kept;
      unbroken = subst P (sym i.parts) (unbroken-append i.bytes mid.buffer i.unbroken unbroken);
      going = was_going before mid old new faults later i.bytes i.more going i.first;
    }

-- the read that passes the limit
pub passes_limit : (before mid gathered after : Lines) (old new next : Option (List ℕ)) (faults later : ℕ) → Gathers before mid old new faults later
    → (gathered.taken ≡ mid.taken) × (gathered.ended ≡ mid.ended) × (gathered.faulted ≡ mid.faulted) → IsUnbroken mid.buffer → gathered.ended ≡ false
    → Consumes new next after.buffer → after.taken ≡ gathered.taken + length after.buffer → 16777216 < after.taken → length after.buffer ≤ 65536 → PassesLimit before old next
passes_limit before mid gathered after old new next faults later i same unbroken going read counted past few =
    let P : List ℕ → Type 0 = λ x. IsUnbroken x in
    record {
      more = i.more;
      last = after.buffer;
      read = Consumes-then old new next i.more after.buffer i.read read;
      unbroken = subst P (sym i.parts) (unbroken-append i.bytes mid.buffer i.unbroken unbroken);
      going = was_going before mid old new faults later i.bytes i.more (sym same.1 ∙ going) i.first;
      within = omega (arith, i.counted, i.open_still);
      past = omega (arith, i.counted, same.0, counted, past);
      few = few;
    }

pub takes_more : (before mid after : Lines) (old new next : Option (List ℕ)) (faults later taken : ℕ) → Gathers before mid old new faults later → taken ≡ mid.taken → Consumes new next after.buffer
    → after.taken ≡ taken + length after.buffer → Takes before after old next
takes_more before mid after old new next faults later taken i same read counted = record {
  more = i.more ++ after.buffer;
  read = Consumes-then old new next i.more after.buffer i.read read;
  counted = omega (arith, length-append i.more after.buffer, i.counted, same, counted);
}

first_read : (before mid : Lines) (old new : Option (List ℕ)) (faults later : ℕ) (bytes more : List ℕ) → before.buffer ++ more ≡ bytes ++ mid.buffer → mid.ended ≡ false → IsUnbroken mid.buffer
    → ((more ≡ []) × (bytes ≡ []) × (mid.ended ≡ before.ended) × (new ≡ old) × (later ≡ faults)) ⊎ ((before.ended ≡ false) × IsUnbroken before.buffer) → (before.ended ≡ false) × IsUnbroken before.buffer
first_read before mid old new faults later bytes more parts going unbroken (inl p) =
    let P : List ℕ → Type 0 = λ x. IsUnbroken x in
    let same : before.buffer ≡ mid.buffer = sym (append-nil before.buffer) ∙ ap (λ (x : List ℕ). before.buffer ++ x) (sym p.0) ∙ parts ∙ ap (λ (x : List ℕ). x ++ mid.buffer) p.1 in
    (sym p.2 ∙ going, subst P (sym same) unbroken)
first_read before mid old new faults later bytes more parts going unbroken (inr p) = p

pub gathers_more : (before mid gathered after : Lines) (old new next : Option (List ℕ)) (faults later last : ℕ) → Gathers before mid old new faults later
    → (gathered.taken ≡ mid.taken) × (gathered.ended ≡ mid.ended) × (gathered.faulted ≡ mid.faulted)
    → IsUnbroken mid.buffer × (gathered.buffer ≡ []) × Pushes mid.line gathered.line mid.buffer → gathered.ended ≡ false
    → Consumes new next after.buffer → after.taken ≡ gathered.taken + length after.buffer → after.line ≡ gathered.line → after.faulted ≡ gathered.faulted
    → (after.ended ≡ true → IsAtEnd next) → after.taken ≤ 16777216 → length after.buffer ≤ 65536 → later ≤ last → Gathers before after old next faults last
gathers_more before mid gathered after old new next faults later last i same all going read counted line sound ended small few rises =
    let P : LineSoFar → Type 0 = λ s. IsLineOf (i.bytes ++ mid.buffer) s in
    let Q : List ℕ → Type 0 = λ x. IsUnbroken x in
    record {
      bytes = i.bytes ++ mid.buffer;
      more = i.more ++ after.buffer;
      read = Consumes-then old new next i.more after.buffer i.read read;
      parts = sym (append_assoc before.buffer i.more after.buffer) ∙ ap (λ (x : List ℕ). x ++ after.buffer) i.parts;
      unbroken = unbroken-append i.bytes mid.buffer i.unbroken all.0;
      line = subst P (sym line) (line_more i.bytes mid.buffer mid.line gathered.line i.line all.2);
      counted = omega (arith, length-append i.more after.buffer, i.counted, same.0, counted);
      open_still = small;
      sound = sound ∙ same.2 ∙ i.sound;
      rises = omega (arith, i.rises, rises);
      first = inr (first_read before mid old new faults later i.bytes i.more i.parts (sym same.1 ∙ going) all.0 i.first);
      ended = λ is. inr (ended is);
      needed = record {
        earlier = i.more;
        last = after.buffer;
        parts = refl;
        few = few;
        unbroken = inr (subst Q (sym i.parts) (unbroken-append i.bytes mid.buffer i.unbroken all.0));
      };
    }

-- ---- where the bytes held decide

both_of : {A : Type 0} (t : Bool) → t ≡ true → t ≡ false → A
both_of true e f = absurd cc
both_of false e f = absurd cc

-- nothing decides where the input goes on, no line is ended by the bytes held, and neither a fault nor the limit was met
pub undecided : {A : Type 0} (before : Lines) → (before.ended ≡ false) × IsUnbroken before.buffer → before.faulted ≡ false → before.taken ≤ 16777216 → IsDecided before → A
undecided before going sound small (inl (inl e)) = both_of before.ended e going.0
undecided before going sound small (inl (inr broken)) = absurd (broken going.1)
undecided before going sound small (inr (inl e)) = both_of before.faulted e sound
undecided before going sound small (inr (inr past)) = absurd (omega (arith, past, small))

still_of : (before mid : Lines) (old new : Option (List ℕ)) (faults later : ℕ) (bytes more : List ℕ) → mid.taken ≡ before.taken + length more
    → ((more ≡ []) × (bytes ≡ []) × (mid.ended ≡ before.ended) × (new ≡ old) × (later ≡ faults)) ⊎ ((before.ended ≡ false) × IsUnbroken before.buffer)
    → before.faulted ≡ false → before.taken ≤ 16777216 → IsDecided before → mid.taken ≡ before.taken
still_of before mid old new faults later bytes more counted (inl p) sound small d = let none : length more ≡ 0 = ap (λ (x : List ℕ). length x) p.0 in omega (arith, counted, none)
still_of before mid old new faults later bytes more counted (inr p) sound small d = undecided before p sound small d

-- where the bytes held decide, the count stays
pub still : (before mid : Lines) (old new : Option (List ℕ)) (faults later taken : ℕ) → Gathers before mid old new faults later → before.faulted ≡ false → before.taken ≤ 16777216 → taken ≡ mid.taken → IsDecided before → taken ≡ before.taken
still before mid old new faults later taken i sound small same d = same ∙ still_of before mid old new faults later i.bytes i.more i.counted i.first sound small d

-- a call that reads on was not decided before
pub went_on : {A : Type 0} (before mid : Lines) (old new : Option (List ℕ)) (faults later : ℕ) → Gathers before mid old new faults later → IsUnbroken mid.buffer → mid.ended ≡ false → before.faulted ≡ false → before.taken ≤ 16777216 → IsDecided before → A
went_on before mid old new faults later i unbroken going sound small d = undecided before (first_read before mid old new faults later i.bytes i.more i.parts going unbroken i.first) sound small d

-- ---- the pieces of an input

pub pieces_ended : (bytes rest : List ℕ) → IsUnbroken bytes → pieces_of ((bytes ++ 10 ∷ []) ++ rest) ≡ (bytes ++ 10 ∷ []) ∷ pieces_of rest
unfolding pieces_of
pieces_ended [] rest p = refl
pieces_ended (b ∷ bs) rest p = rw (is_not_newline b p.0, pieces_ended bs rest p.1) refl

pub pieces_last : (b : ℕ) (bs : List ℕ) → IsUnbroken (b ∷ bs) → pieces_of (b ∷ bs) ≡ (b ∷ bs) ∷ []
unfolding pieces_of
pieces_last b [] p = rw (is_not_newline b p.0) refl
pieces_last b (c ∷ bs) p = rw (is_not_newline b p.0, pieces_last c bs p.1) refl

only_piece : (bytes : List ℕ) → IsUnbroken bytes → 0 < length bytes → pieces_of bytes ≡ bytes ∷ []
only_piece [] p some = absurd (omega (arith, some))
only_piece (b ∷ bs) p some = pieces_last b bs p

last_piece : (piece bytes rest buffer : List ℕ) → IsUnbroken bytes → piece ≡ bytes → 0 < length bytes → rest ≡ buffer → buffer ≡ [] → pieces_of (piece ++ rest) ≡ piece ∷ pieces_of rest
unfolding pieces_of
last_piece piece bytes rest buffer p e some r n =
    let nothing : rest ≡ [] = r ∙ n in
    rw (nothing, e, append-nil bytes) (only_piece bytes p some)

step_piece : (piece bytes rest : List ℕ) (after : Lines) → IsUnbroken bytes → (piece ≡ bytes ++ 10 ∷ []) ⊎ ((piece ≡ bytes) × (0 < length bytes) × (after.ended ≡ true) × (after.buffer ≡ []))
    → (after.ended ≡ true → rest ≡ after.buffer) → pieces_of (piece ++ rest) ≡ piece ∷ pieces_of rest
step_piece piece bytes rest after p (inl e) follows = rw e (pieces_ended bytes rest p)
step_piece piece bytes rest after p (inr h) follows = last_piece piece bytes rest after.buffer p h.0 h.1 (follows h.2) h.3

-- a piece that is handed out is the first of what is left
pub first_piece : (piece rest : List ℕ) (after : Lines) → IsPiece piece after → (after.ended ≡ true → rest ≡ after.buffer) → pieces_of (piece ++ rest) ≡ piece ∷ pieces_of rest
first_piece piece rest after p follows = step_piece piece p.0 rest after p.1 p.2 follows
