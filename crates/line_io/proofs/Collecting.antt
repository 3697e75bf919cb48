-- A chunk that is read line by line.
use Rattle.line_io.proofs.ChunkLemmas.{IsFront, closed, closes, front_more, front_none, no_chunks, rest_alone, unended}
use Rattle.line_io.proofs.Known.{Consumes-none, Consumes-then}
use Rattle.line_io.proofs.Reading.{Consumes-kept, found_at, found_none, unbroken-append}
use Rattle.line_io.specs.ChunkSoFar.{ChunkSoFar}
use Rattle.line_io.specs.Chunks.{chunks_of, has_end, is_end}
use Rattle.line_io.specs.LineSoFar.{IsUnbroken}
use Rattle.line_io.specs.ReadingChunks.{GivesChunk, HasNoChunk, IsChunkDecided, PassesChunkLimit, TakesAsNeeded}
use Rattle.line_io.specs.declared.lines.Lines.{Lines}
use Rattle.std.proofs.Common.{◌≡◌, ℕ, ◌+◌, ◌<◌, ◌≤◌, Bool, true, false, eqb, List, [], ◌∷◌, ◌++◌, length, length-append, take, drop, Some, None, inl, inr, refl, sym, ap, subst, ◌∙◌, append_assoc, arith}
use Rattle.std.proofs.lemmas.List.{append-nil, drop_all, length-take-le, take_at}
use Rattle.std.specs.Io.KnownBytes.{Consumes, IsAtEnd, Keeps}
use Rattle.std.specs.Prelude.{◌⊎◌, position}
use Rattle.std.specs.declared.option.Option.{Option}

-- nothing was read since the call began
pub record NothingRead (before after : Lines) (old new : Option (List ℕ)) (faults later : ℕ) (more : List ℕ) : Type 0 where
  pub none : more ≡ []
  pub same_end : after.ended ≡ before.ended
  pub unmoved : new ≡ old
  pub quiet : later ≡ faults

-- these bytes were read, the last part by the last read; no line `end` is among the bytes held and those before that part
pub record SomeRead (before : Lines) (more : List ℕ) : Type 0 where
  pub earlier : List ℕ
  pub last : List ℕ
  pub split : more ≡ earlier ++ last
  pub few : length last ≤ 65536
  pub going : before.ended ≡ false
  pub held : has_end before.buffer ≡ false
  pub unended : has_end (before.buffer ++ earlier) ≡ false

-- what was read and collected since the call began
pub record Collects (before after : Lines) (chunk : ChunkSoFar) (old new : Option (List ℕ)) (faults later : ℕ) : Type 0 where
  pub more : List ℕ
  pub read : Consumes old new more
  pub parts : before.buffer ++ more ≡ (chunk.whole ++ chunk.last) ++ after.buffer
  pub front : IsFront chunk.whole
  pub unbroken : IsUnbroken chunk.last
  pub counted : after.taken ≡ before.taken + length more
  pub open_still : after.taken ≤ 268435456
  pub sound : after.faulted ≡ false
  pub in_memory : after.out_of_memory ≡ false
  pub rises : faults ≤ later
  pub reads : NothingRead before after old new faults later more ⊎ SomeRead before more
  pub ended : after.ended ≡ true → ((before.ended ≡ true) × (new ≡ old)) ⊎ IsAtEnd new

-- the fields that collecting a line leaves as they are
abbrev pub SameFlags : Lines → Lines → Type 0
SameFlags before after = (after.taken ≡ before.taken) × (after.ended ≡ before.ended) × (after.faulted ≡ before.faulted) × (after.out_of_memory ≡ before.out_of_memory)

not_both : {A : Type 0} (t : Bool) → t ≡ true → t ≡ false → A
not_both t e f = absurd cc

-- ---- the loop begins

pub collects_none : (before : Lines) (chunk : ChunkSoFar) (old : Option (List ℕ)) (f : ℕ) → chunk ≡ record { whole = []; last = [] } → before.taken ≤ 268435456 → before.faulted ≡ false → before.out_of_memory ≡ false
    → Collects before before chunk old old f f
collects_none before chunk old f e small sound in_memory =
    let P : ChunkSoFar → Type 0 = λ s. Collects before before s old old f f in
    subst P (sym e)
    (record {
      more = [];
      read = Consumes-none old;
      parts = append-nil before.buffer;
      front = front_none;
      unbroken = tt;
      counted = omega arith;
      open_still = small;
      sound = sound;
      in_memory = in_memory;
      rises = omega arith;
      reads = inl (record { none = refl; same_end = refl; unmoved = refl; quiet = refl });
      ended = λ is. inl (is, refl);
    })

-- ---- a line is collected

-- a piece that ends with a newline went from the bytes held into the chunk
abbrev pub Found : Lines → Lines → ChunkSoFar → ChunkSoFar → Type 0
Found before after old new = (front : List ℕ) × IsUnbroken front × (before.buffer ≡ (front ++ 10 ∷ []) ++ after.buffer) × (new ≡ record { whole = old.whole; last = old.last ++ (front ++ 10 ∷ []) })

-- all bytes held went into the chunk, without newline
abbrev pub FoundNone : Lines → Lines → ChunkSoFar → ChunkSoFar → Type 0
FoundNone before after old new = IsUnbroken before.buffer × (after.buffer ≡ []) × (new ≡ record { whole = old.whole; last = old.last ++ before.buffer })

nothing_more : (before mid after : Lines) (old new : Option (List ℕ)) (faults later : ℕ) (more : List ℕ) → after.ended ≡ mid.ended
    → NothingRead before mid old new faults later more ⊎ SomeRead before more → NothingRead before after old new faults later more ⊎ SomeRead before more
nothing_more before mid after old new faults later more same (inl r) = inl (record { none = r.none; same_end = same ∙ r.same_end; unmoved = r.unmoved; quiet = r.quiet })
nothing_more before mid after old new faults later more same (inr r) = inr r

line_parts : (whole last front buffer after : List ℕ) → buffer ≡ (front ++ 10 ∷ []) ++ after → (whole ++ last) ++ buffer ≡ (whole ++ ((last ++ front) ++ 10 ∷ [])) ++ after
line_parts whole last front buffer after e = ap (λ (x : List ℕ). (whole ++ last) ++ x) e ∙ simp append_assoc

-- a line that is not `end`
pub collects_line : (before mid after : Lines) (chunk held begun : ChunkSoFar) (old new : Option (List ℕ)) (faults later : ℕ) → Collects before mid chunk old new faults later → SameFlags mid after → Found mid after chunk held
    → is_end held.last ≡ false → begun ≡ record { whole = held.whole ++ held.last; last = [] } → Collects before after begun old new faults later
collects_line before mid after chunk held begun old new faults later i same (front, unbroken, buffer, is_held) other is_begun =
    let line : List ℕ = (chunk.last ++ front) ++ 10 ∷ [] in
    let is_line : chunk.last ++ (front ++ 10 ∷ []) ≡ line = sym (append_assoc chunk.last front (10 ∷ [])) in
    let whole_is : begun.whole ≡ chunk.whole ++ line =
    ap (λ (s : ChunkSoFar). s.whole) is_begun ∙ ap (λ (s : ChunkSoFar). s.whole ++ s.last) is_held ∙ ap (λ (x : List ℕ). chunk.whole ++ x) is_line in
    let last_is : begun.last ≡ [] = ap (λ (s : ChunkSoFar). s.last) is_begun in
    let not_end : is_end line ≡ false = ap is_end (sym (ap (λ (s : ChunkSoFar). s.last) is_held ∙ is_line)) ∙ other in
    let P : List ℕ → Type 0 = λ x. IsFront x in
    let Q : List ℕ → Type 0 = λ x. IsUnbroken x in
    record {
      more = i.more;
      read = i.read;
      parts = i.parts ∙ line_parts chunk.whole chunk.last front mid.buffer after.buffer buffer ∙ ap (λ (x : List ℕ). x ++ after.buffer) (sym (rw (whole_is, last_is) (append-nil (chunk.whole ++ line))));
      front = subst P (sym whole_is) (front_more chunk.whole (chunk.last ++ front) i.front (unbroken-append chunk.last front i.unbroken unbroken) not_end);
      unbroken = subst Q (sym last_is) tt;
      counted = same.0 ∙ i.counted;
      open_still = omega (arith, same.0, i.open_still);
      sound = same.2 ∙ i.sound;
      in_memory = same.3 ∙ i.in_memory;
      rises = i.rises;
      reads = nothing_more before mid after old new faults later i.more same.1 i.reads;
      ended = λ is. i.ended (sym same.1 ∙ is);
    }

-- at the end of the input nothing was read
nothing_read : (before mid : Lines) (old new : Option (List ℕ)) (faults later : ℕ) (more : List ℕ) → NothingRead before mid old new faults later more ⊎ SomeRead before more → before.ended ≡ true
    → (more ≡ []) × (mid.ended ≡ true)
nothing_read before mid old new faults later more (inl r) e = (r.none, r.same_end ∙ e)
nothing_read before mid old new faults later more (inr r) e = not_both before.ended e r.going

-- a line `end`
pub gives_ended : (before mid after : Lines) (chunk held : ChunkSoFar) (old new : Option (List ℕ)) (faults later : ℕ) (bytes : List ℕ) → Collects before mid chunk old new faults later → SameFlags mid after → Found mid after chunk held
    → is_end held.last ≡ true → bytes ≡ held.whole ++ held.last → GivesChunk before after old new bytes
gives_ended before mid after chunk held old new faults later bytes i same (front, unbroken, buffer, is_held) end is_bytes =
    let last : List ℕ = chunk.last ++ front in
    let unbroken_last = unbroken-append chunk.last front i.unbroken unbroken in
    let is_line : chunk.last ++ (front ++ 10 ∷ []) ≡ last ++ 10 ∷ [] = sym (append_assoc chunk.last front (10 ∷ [])) in
    let is_all : chunk.whole ++ (last ++ 10 ∷ []) ≡ bytes = sym (is_bytes ∙ ap (λ (s : ChunkSoFar). s.whole ++ s.last) is_held ∙ ap (λ (x : List ℕ). chunk.whole ++ x) is_line) in
    let is : is_end (last ++ 10 ∷ []) ≡ true = ap is_end (sym (ap (λ (s : ChunkSoFar). s.last) is_held ∙ is_line)) ∙ end in
    let P : List ℕ → Type 0 = λ x. GivesChunk before after old new x in
    subst P is_all
    (record {
      more = i.more;
      read = i.read;
      parts = i.parts ∙ line_parts chunk.whole chunk.last front mid.buffer after.buffer buffer;
      first = λ rest _. closes chunk.whole last rest i.front unbroken_last is;
      whole = inl (closed chunk.whole last i.front unbroken_last is);
      counted = same.0 ∙ i.counted;
      no_more = λ e. let h = nothing_read before mid old new faults later i.more i.reads e in (h.0, same.1 ∙ h.1);
    })

-- all that is left at the end of the input
pub gives_rest : (before mid after : Lines) (chunk held : ChunkSoFar) (old new : Option (List ℕ)) (faults later : ℕ) (bytes : List ℕ) → Collects before mid chunk old new faults later → SameFlags mid after
    → FoundNone mid after chunk held → after.ended ≡ true → (length (held.whole ++ held.last) ≡ 0 → ⊥) → bytes ≡ held.whole ++ held.last → GivesChunk before after old new bytes
gives_rest before mid after chunk held old new faults later bytes i same (unbroken, empty, is_held) ended some is_bytes =
    let last : List ℕ = chunk.last ++ mid.buffer in
    let unbroken_last = unbroken-append chunk.last mid.buffer i.unbroken unbroken in
    let is_all : chunk.whole ++ last ≡ bytes = sym (is_bytes ∙ ap (λ (s : ChunkSoFar). s.whole ++ s.last) is_held) in
    let number : length (held.whole ++ held.last) ≡ length (chunk.whole ++ last) = ap (λ (s : ChunkSoFar). length (s.whole ++ s.last)) is_held in
    let alone : chunks_of (chunk.whole ++ last) ≡ (chunk.whole ++ last) ∷ [] = rest_alone chunk.whole last i.front unbroken_last (omega (arith, number, some)) in
    let P : List ℕ → Type 0 = λ x. GivesChunk before after old new x in
    subst P is_all
    (record {
      more = i.more;
      read = i.read;
      parts = i.parts ∙ append_assoc chunk.whole chunk.last mid.buffer ∙ sym (ap (λ (x : List ℕ). (chunk.whole ++ last) ++ x) empty ∙ append-nil (chunk.whole ++ last));
      first = λ rest follows.
          let nothing : rest ≡ [] = follows ended ∙ empty in
          ap (λ (x : List ℕ). chunks_of ((chunk.whole ++ last) ++ x)) nothing ∙ ap chunks_of (append-nil (chunk.whole ++ last)) ∙ alone
          ∙ ap (λ (x : List (List ℕ)). (chunk.whole ++ last) ∷ x) (sym (ap chunks_of nothing ∙ no_chunks));
      whole = inr (ended, empty);
      counted = same.0 ∙ i.counted;
      no_more = λ e. ((nothing_read before mid old new faults later i.more i.reads e).0, ended);
    })

-- ---- the other answers

-- the bytes held and read, line by line
pub number_of : (before mid : Lines) (chunk : ChunkSoFar) (old new : Option (List ℕ)) (faults later : ℕ) (i : Collects before mid chunk old new faults later)
    → length before.buffer + length i.more ≡ length (chunk.whole ++ chunk.last) + length mid.buffer
number_of before mid chunk old new faults later i =
    sym (length-append before.buffer i.more) ∙ ap (λ (x : List ℕ). length x) i.parts ∙ length-append (chunk.whole ++ chunk.last) mid.buffer

-- no line `end` is among the bytes held and read
unended_so_far : (before mid : Lines) (chunk : ChunkSoFar) (old new : Option (List ℕ)) (faults later : ℕ) (i : Collects before mid chunk old new faults later) → IsUnbroken mid.buffer → has_end (before.buffer ++ i.more) ≡ false
unended_so_far before mid chunk old new faults later i unbroken =
    ap has_end (i.parts ∙ append_assoc chunk.whole chunk.last mid.buffer) ∙ unended chunk.whole (chunk.last ++ mid.buffer) i.front (unbroken-append chunk.last mid.buffer i.unbroken unbroken)

-- a loop that has not come to the end did not begin there, nor with a line `end`
going_of : (before mid : Lines) (old new : Option (List ℕ)) (faults later : ℕ) (more : List ℕ) → mid.ended ≡ false → has_end (before.buffer ++ more) ≡ false → NothingRead before mid old new faults later more ⊎ SomeRead before more
    → (before.ended ≡ false) × (has_end before.buffer ≡ false)
going_of before mid old new faults later more going none (inl r) =
    (sym r.same_end ∙ going, ap has_end (sym (ap (λ (x : List ℕ). before.buffer ++ x) r.none ∙ append-nil before.buffer)) ∙ none)
going_of before mid old new faults later more going none (inr r) = (r.going, r.held)

pub was_going : (before mid : Lines) (chunk : ChunkSoFar) (old new : Option (List ℕ)) (faults later : ℕ) → Collects before mid chunk old new faults later → IsUnbroken mid.buffer → mid.ended ≡ false
    → (before.ended ≡ false) × (has_end before.buffer ≡ false)
was_going before mid chunk old new faults later i unbroken going =
    going_of before mid old new faults later i.more going (unended_so_far before mid chunk old new faults later i unbroken) i.reads

pub no_chunk : (before mid : Lines) (chunk : ChunkSoFar) (old new next : Option (List ℕ)) (faults later : ℕ) → Collects before mid chunk old new faults later → IsUnbroken mid.buffer → mid.ended ≡ false → Keeps new next
    → HasNoChunk before old next
no_chunk before mid chunk old new next faults later i unbroken going kept = record {
  more = i.more;
  read = Consumes-kept old new next i.more i.read kept;
  unended = unended_so_far before mid chunk old new faults later i unbroken;
  going = (was_going before mid chunk old new faults later i unbroken going).0;
}

-- the read that passes the limit
pub passes_limit : (before mid after : Lines) (chunk : ChunkSoFar) (old new next : Option (List ℕ)) (faults later taken : ℕ) → Collects before mid chunk old new faults later → IsUnbroken mid.buffer → mid.ended ≡ false → taken ≡ mid.taken
    → Consumes new next after.buffer → after.taken ≡ taken + length after.buffer → 268435456 < after.taken → length after.buffer ≤ 65536 → PassesChunkLimit before old next
passes_limit before mid after chunk old new next faults later taken i unbroken going same read counted past few = record {
  more = i.more;
  last = after.buffer;
  read = Consumes-then old new next i.more after.buffer i.read read;
  unended = unended_so_far before mid chunk old new faults later i unbroken;
  going = (was_going before mid chunk old new faults later i unbroken going).0;
  within = omega (arith, i.counted, i.open_still);
  past = omega (arith, i.counted, same, counted, past);
  few = few;
}

-- ---- what was read

-- one more read
pub takes_more : (before mid after : Lines) (chunk : ChunkSoFar) (old new next : Option (List ℕ)) (faults later taken : ℕ) → Collects before mid chunk old new faults later → IsUnbroken mid.buffer → taken ≡ mid.taken
    → Consumes new next after.buffer → after.taken ≡ taken + length after.buffer → length after.buffer ≤ 65536 → TakesAsNeeded before after old next
takes_more before mid after chunk old new next faults later taken i unbroken same read counted few = record {
  more = i.more;
  last = after.buffer;
  read = Consumes-then old new next i.more after.buffer i.read read;
  counted = omega (arith, length-append i.more after.buffer, i.counted, same, counted);
  few = few;
  needed = inr (unended_so_far before mid chunk old new faults later i unbroken);
}

-- ---- the loop goes on after a read

pub collects_more : (before mid gathered after : Lines) (chunk held : ChunkSoFar) (old new next : Option (List ℕ)) (faults later last : ℕ) → Collects before mid chunk old new faults later → SameFlags mid gathered
    → FoundNone mid gathered chunk held → gathered.ended ≡ false → Consumes new next after.buffer → after.taken ≡ gathered.taken + length after.buffer → after.faulted ≡ gathered.faulted
    → after.out_of_memory ≡ gathered.out_of_memory → (after.ended ≡ true → IsAtEnd next) → after.taken ≤ 268435456 → length after.buffer ≤ 65536 → later ≤ last → Collects before after held old next faults last
collects_more before mid gathered after chunk held old new next faults later last i same (unbroken, empty, is_held) going read counted sound in_memory ended small few rises =
    let P : List ℕ → Type 0 = λ x. IsFront x in
    let Q : List ℕ → Type 0 = λ x. IsUnbroken x in
    let was = was_going before mid chunk old new faults later i unbroken (sym same.1 ∙ going) in
    let whole_is : held.whole ≡ chunk.whole = ap (λ (s : ChunkSoFar). s.whole) is_held in
    let last_is : held.last ≡ chunk.last ++ mid.buffer = ap (λ (s : ChunkSoFar). s.last) is_held in
    let all_is : (chunk.whole ++ chunk.last) ++ mid.buffer ≡ held.whole ++ held.last = append_assoc chunk.whole chunk.last mid.buffer ∙ sym (ap (λ (s : ChunkSoFar). s.whole ++ s.last) is_held) in
    record {
      more = i.more ++ after.buffer;
      read = Consumes-then old new next i.more after.buffer i.read read;
      parts = sym (append_assoc before.buffer i.more after.buffer) ∙ ap (λ (x : List ℕ). x ++ after.buffer) (i.parts ∙ all_is);
      front = subst P (sym whole_is) i.front;
      unbroken = subst Q (sym last_is) (unbroken-append chunk.last mid.buffer i.unbroken unbroken);
      counted = omega (arith, length-append i.more after.buffer, i.counted, same.0, counted);
      open_still = small;
      sound = sound ∙ same.2 ∙ i.sound;
      in_memory = in_memory ∙ same.3 ∙ i.in_memory;
      rises = omega (arith, i.rises, rises);
      reads = inr (record { earlier = i.more; last = after.buffer; split = refl; few = few; going = was.0; held = was.1; unended = unended_so_far before mid chunk old new faults later i unbroken });
      ended = λ is. inr (ended is);
    }

-- ---- where nothing may be read

-- what is open is not decided
pub undecided : {A : Type 0} (before : Lines) → before.ended ≡ false → has_end before.buffer ≡ false → before.faulted ≡ false → before.out_of_memory ≡ false → before.taken ≤ 268435456 → IsChunkDecided before → A
undecided before going none sound in_memory small (inl (inl e)) = not_both before.ended e going
undecided before going none sound in_memory small (inl (inr e)) = not_both (has_end before.buffer) e none
undecided before going none sound in_memory small (inr (inl e)) = not_both before.faulted e sound
undecided before going none sound in_memory small (inr (inr (inl e))) = not_both before.out_of_memory e in_memory
undecided before going none sound in_memory small (inr (inr (inr lt))) = absurd (omega (arith, lt, small))

unread_of : (before mid : Lines) (old new : Option (List ℕ)) (faults later : ℕ) (more : List ℕ) → NothingRead before mid old new faults later more ⊎ SomeRead before more
    → before.faulted ≡ false → before.out_of_memory ≡ false → before.taken ≤ 268435456 → IsChunkDecided before → (new ≡ old) × (later ≡ faults)
unread_of before mid old new faults later more (inl r) sound in_memory small d = (r.unmoved, r.quiet)
unread_of before mid old new faults later more (inr r) sound in_memory small d = undecided before r.going r.held sound in_memory small d

pub unread : (before mid : Lines) (chunk : ChunkSoFar) (old new : Option (List ℕ)) (faults later : ℕ) → Collects before mid chunk old new faults later
    → before.faulted ≡ false → before.out_of_memory ≡ false → before.taken ≤ 268435456 → IsChunkDecided before → (new ≡ old) × (later ≡ faults)
unread before mid chunk old new faults later i sound in_memory small d = unread_of before mid old new faults later i.more i.reads sound in_memory small d

still_of : (before mid : Lines) (old new : Option (List ℕ)) (faults later : ℕ) (more : List ℕ) → mid.taken ≡ before.taken + length more → NothingRead before mid old new faults later more ⊎ SomeRead before more
    → before.faulted ≡ false → before.out_of_memory ≡ false → before.taken ≤ 268435456 → IsChunkDecided before → mid.taken ≡ before.taken
still_of before mid old new faults later more counted (inl r) sound in_memory small d = let none : length more ≡ 0 = ap (λ (x : List ℕ). length x) r.none in omega (arith, counted, none)
still_of before mid old new faults later more counted (inr r) sound in_memory small d = undecided before r.going r.held sound in_memory small d

-- where the bytes held decide, the count stays
pub still : (before mid : Lines) (chunk : ChunkSoFar) (old new : Option (List ℕ)) (faults later taken : ℕ) → Collects before mid chunk old new faults later
    → before.faulted ≡ false → before.out_of_memory ≡ false → before.taken ≤ 268435456 → taken ≡ mid.taken → IsChunkDecided before → taken ≡ before.taken
still before mid chunk old new faults later taken i sound in_memory small same d = same ∙ still_of before mid old new faults later i.more i.counted i.reads sound in_memory small d

-- ---- the bytes held go into the chunk

-- the chunk with more bytes in its last line
abbrev held_with : ChunkSoFar → List ℕ → ChunkSoFar
held_with s part = record { whole = s.whole; last = s.last ++ part }

front_is : (buffer : List ℕ) (k : ℕ) → buffer ≡ (take k buffer ++ 10 ∷ []) ++ drop (k + 1) buffer → k < length buffer → take (k + 1) buffer ≡ take k buffer ++ 10 ∷ []
front_is buffer k split lt =
    let n : length (take k buffer ++ 10 ∷ []) ≡ k + 1 = omega (arith, length-append (take k buffer) (10 ∷ []), length-take-le k buffer (omega arith)) in
    ap (λ (x : List ℕ). take (k + 1) x) split ∙ take_at (take k buffer ++ 10 ∷ []) (drop (k + 1) buffer) (k + 1) n

pub collect_found : (buffer held part after : List ℕ) (k : ℕ) (old new : ChunkSoFar) → held ≡ buffer → Some k ≡ position (λ b. eqb b 10) held → k < length held → part ≡ take (k + 1) held → after ≡ drop (k + 1) buffer
    → new ≡ record { whole = old.whole; last = old.last ++ part }
    → (x : List ℕ) × IsUnbroken x × (buffer ≡ (x ++ 10 ∷ []) ++ after) × (new ≡ record { whole = old.whole; last = old.last ++ (x ++ 10 ∷ []) })
collect_found buffer held part after k old new h at within is_part is_after p =
    let At : List ℕ → Type 0 = λ x. Some k ≡ position (λ b. eqb b 10) x in
    let f = found_at buffer k (subst At h at) in
    let lt : k < length buffer = omega (arith, within, ap (λ (x : List ℕ). length x) h) in
    let is : part ≡ take k buffer ++ 10 ∷ [] = is_part ∙ ap (λ (x : List ℕ). take (k + 1) x) h ∙ front_is buffer k f.0 lt in
    (take k buffer, f.1, f.0 ∙ ap (λ (x : List ℕ). (take k buffer ++ 10 ∷ []) ++ x) (sym is_after), p ∙ ap (λ (x : List ℕ). held_with old x) is)

pub collect_none : (buffer held after : List ℕ) (old new : ChunkSoFar) → held ≡ buffer → None ≡ position (λ b. eqb b 10) held → after ≡ drop (length held) buffer → new ≡ record { whole = old.whole; last = old.last ++ held }
    → IsUnbroken buffer × (after ≡ []) × (new ≡ record { whole = old.whole; last = old.last ++ buffer })
collect_none buffer held after old new h at is_after p =
    let At : List ℕ → Type 0 = λ x. None ≡ position (λ b. eqb b 10) x in
    let n : length held ≡ length buffer = ap (λ (x : List ℕ). length x) h in
    (found_none buffer (subst At h at), is_after ∙ drop_all (length held) buffer (omega (arith, n)), p ∙ ap (λ (x : List ℕ). held_with old x) h)
