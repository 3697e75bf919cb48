-- The chunks of an input that are given one after another.
use Rattle.line_io.proofs.ChunkLemmas.{no_chunks, none_ended}
use Rattle.line_io.proofs.Handing.{at_end_more, kept_one, not_both, was_going}
use Rattle.line_io.proofs.Known.{Consumes-none, Consumes-then}
use Rattle.line_io.specs.Bytes.{ReadsWhole}
use Rattle.line_io.specs.Chunks.{chunks_of, ended_chunks, has_end}
use Rattle.line_io.specs.Reading.{EndsAll, IsFresh}
use Rattle.line_io.specs.ReadingChunks.{GivesChunk, HasNoChunk, PassesChunkLimit}
use Rattle.line_io.specs.declared.lines.Lines.{Lines}
use Rattle.std.proofs.Common.{◌≡◌, ℕ, ◌+◌, ◌<◌, ◌≤◌, true, false, List, [], ◌∷◌, ◌++◌, length, length-append, take, Some, None, inl, inr, refl, sym, ap, subst, ◌∙◌, append_assoc, arith}
use Rattle.std.proofs.lemmas.List.{append-nil, take_at}
use Rattle.std.proofs.lemmas.List.Elements.{filter-append}
use Rattle.std.specs.Io.KnownBytes.{Consumes, IsAtEnd}
use Rattle.std.specs.Prelude.{◌⊎◌, IfSome, filter}
use Rattle.std.specs.declared.option.Option.{Option}

-- these chunks were given, one after another, since the first call: they are the chunks of the bytes before those held
pub record HasGiven (first now : Option (List ℕ)) (lines : Lines) (chunks : List (List ℕ)) : Type 0 where
  pub bytes : List ℕ
  pub read : Consumes first now (bytes ++ lines.buffer)
  pub counted : lines.taken ≡ length (bytes ++ lines.buffer)
  pub split : (rest : List ℕ) → (lines.ended ≡ true → rest ≡ lines.buffer) → chunks_of (bytes ++ rest) ≡ chunks ++ chunks_of rest
  pub whole : lines.ended ≡ false → filter has_end chunks ≡ chunks
  pub at_end : lines.ended ≡ true → IsAtEnd now

pub given_none : (old : Option (List ℕ)) (lines : Lines) → IsFresh lines → HasGiven old old lines []
given_none old lines fresh =
    let P : List ℕ → Type 0 = λ x. Consumes old old x in
    record {
      bytes = [];
      read = subst P (sym fresh.nothing_held) (Consumes-none old);
      counted = fresh.nothing_taken ∙ ap (λ (x : List ℕ). length x) (sym fresh.nothing_held);
      split = λ rest _. refl;
      whole = λ _. refl;
      at_end = λ e. not_both lines.ended e fresh.going;
    }

-- ---- one more chunk

-- before the end of the input a chunk ends with a line `end`
chunk_ends : (chunk : List ℕ) (after : Lines) → (has_end chunk ≡ true) ⊎ ((after.ended ≡ true) × (after.buffer ≡ [])) → after.ended ≡ false → has_end chunk ≡ true
chunk_ends chunk after (inl e) going = e
chunk_ends chunk after (inr e) going = not_both after.ended e.0 going

whole_more : (chunks : List (List ℕ)) (chunk : List ℕ) → filter has_end chunks ≡ chunks → has_end chunk ≡ true → filter has_end (chunks ++ chunk ∷ []) ≡ chunks ++ chunk ∷ []
whole_more chunks chunk e f =
    filter-append has_end chunks (chunk ∷ []) ∙ ap (λ (x : List (List ℕ)). x ++ filter has_end (chunk ∷ [])) e ∙ ap (λ (x : List (List ℕ)). chunks ++ x) (kept_one chunk (has_end chunk) f)

pub given_more : (first now next : Option (List ℕ)) (before after : Lines) (chunk : List ℕ) (chunks : List (List ℕ)) → HasGiven first now before chunks → GivesChunk before after now next chunk
    → (after.ended ≡ true → ((before.ended ≡ true) × (next ≡ now)) ⊎ IsAtEnd next) → HasGiven first next after (chunks ++ chunk ∷ [])
given_more first now next before after chunk chunks p h ended =
    let joined : (p.bytes ++ before.buffer) ++ h.more ≡ (p.bytes ++ chunk) ++ after.buffer =
    append_assoc p.bytes before.buffer h.more ∙ ap (λ (x : List ℕ). p.bytes ++ x) h.parts ∙ sym (append_assoc p.bytes chunk after.buffer) in
    let P : List ℕ → Type 0 = λ x. Consumes first next x in
    record {
      bytes = p.bytes ++ chunk;
      read = subst P joined (Consumes-then first now next (p.bytes ++ before.buffer) h.more p.read h.read);
      counted = h.counted ∙ ap (λ (n : ℕ). n + length h.more) p.counted ∙ sym (length-append (p.bytes ++ before.buffer) h.more) ∙ ap (λ (x : List ℕ). length x) joined;
      split = λ rest follows.
          let same : before.ended ≡ true → chunk ++ rest ≡ before.buffer =
          λ was. ap (λ (x : List ℕ). chunk ++ x) (follows (h.no_more was).1) ∙ sym h.parts ∙ ap (λ (x : List ℕ). before.buffer ++ x) (h.no_more was).0 ∙ append-nil before.buffer in
          ap chunks_of (append_assoc p.bytes chunk rest) ∙ p.split (chunk ++ rest) same ∙ ap (λ (x : List (List ℕ)). chunks ++ x) (h.first rest follows) ∙ sym (append_assoc chunks (chunk ∷ []) (chunks_of rest));
      whole = λ going. whole_more chunks chunk (p.whole (was_going before.ended after.ended (λ was. (h.no_more was).1) going)) (chunk_ends chunk after h.whole going);
      at_end = λ is. at_end_more now next before.ended p.at_end (ended is);
    }

-- ---- the end, a fault, the limit

-- at the end all chunks were given
pub given_all : (first now next : Option (List ℕ)) (before after : Lines) (chunks : List (List ℕ)) → HasGiven first now before chunks → EndsAll before after now next
    → (after.ended ≡ true → ((before.ended ≡ true) × (next ≡ now)) ⊎ IsAtEnd next) → (input : List ℕ) × ReadsWhole first next input × (chunks_of input ≡ chunks)
given_all first now next before after chunks p e ended =
    let P : List ℕ → Type 0 = λ x. Consumes first next x in
    let nothing : (p.bytes ++ before.buffer) ++ [] ≡ p.bytes = append-nil (p.bytes ++ before.buffer) ∙ ap (λ (x : List ℕ). p.bytes ++ x) e.nothing_held ∙ append-nil p.bytes in (
      p.bytes,
      record { took = subst P nothing (Consumes-then first now next (p.bytes ++ before.buffer) [] p.read e.read); ended = at_end_more now next before.ended p.at_end (ended e.ended) },
      ap chunks_of (sym (append-nil p.bytes)) ∙ p.split [] (λ _. sym e.nothing_held) ∙ ap (λ (x : List (List ℕ)). chunks ++ x) no_chunks ∙ append-nil chunks,
    )

-- of bytes without a line `end` after the bytes given no more chunks are ended
ended_so_far : (first now : Option (List ℕ)) (before : Lines) (chunks : List (List ℕ)) (rest : List ℕ) → (p : HasGiven first now before chunks) → before.ended ≡ false → has_end rest ≡ false → ended_chunks (p.bytes ++ rest) ≡ chunks
ended_so_far first now before chunks rest p going none =
    ap (filter has_end) (p.split rest (λ was. not_both before.ended was going)) ∙ filter-append has_end chunks (chunks_of rest)
    ∙ ap (λ (x : List (List ℕ)). filter has_end chunks ++ x) (none_ended rest none) ∙ append-nil (filter has_end chunks) ∙ p.whole going

-- where no chunk was decided, those that were ended were given
pub given_ended : (first now next : Option (List ℕ)) (before : Lines) (chunks : List (List ℕ)) → HasGiven first now before chunks → HasNoChunk before now next
    → (taken : List ℕ) × Consumes first next taken × (ended_chunks taken ≡ chunks)
given_ended first now next before chunks p n = (
  (p.bytes ++ before.buffer) ++ n.more,
  Consumes-then first now next (p.bytes ++ before.buffer) n.more p.read n.read,
  ap ended_chunks (append_assoc p.bytes before.buffer n.more) ∙ ended_so_far first now before chunks (before.buffer ++ n.more) p n.going n.unended,
)

-- past the limit, those that were ended before the last read were given
pub given_limit : (first now next : Option (List ℕ)) (before : Lines) (chunks : List (List ℕ)) → HasGiven first now before chunks → PassesChunkLimit before now next
    → (taken : List ℕ) × (n : ℕ) × Consumes first next taken × (268435456 < length taken) × (n ≤ 268435456) × (268435456 < n + 65536) × (ended_chunks (take n taken) ≡ chunks)
given_limit first now next before chunks p n =
    let so_far = (p.bytes ++ before.buffer) ++ n.more in
    let number : length so_far ≡ before.taken + length n.more = length-append (p.bytes ++ before.buffer) n.more ∙ ap (λ (k : ℕ). k + length n.more) (sym p.counted) in
    let all = length-append so_far n.last in
    let joined : (p.bytes ++ before.buffer) ++ (n.more ++ n.last) ≡ so_far ++ n.last = sym (append_assoc (p.bytes ++ before.buffer) n.more n.last) in
    let P : List ℕ → Type 0 = λ x. Consumes first next x in (
      so_far ++ n.last,
      length so_far,
      subst P joined (Consumes-then first now next (p.bytes ++ before.buffer) (n.more ++ n.last) p.read n.read),
      omega (arith, all, number, n.past),
      omega (arith, number, n.within),
      omega (arith, number, n.past, n.few),
      ap ended_chunks (take_at so_far n.last (length so_far) refl ∙ append_assoc p.bytes before.buffer n.more) ∙ ended_so_far first now before chunks (before.buffer ++ n.more) p n.going n.unended,
    )

-- ---- the front of an input

front_of_input : (now : Option (List ℕ)) (input : List ℕ) (lines : Lines) (chunks : List (List ℕ)) → HasGiven (Some input) now lines chunks → (more : List (List ℕ)) × (chunks_of input ≡ chunks ++ more)
front_of_input None input lines chunks p = absurd p.read
front_of_input (Some left) input lines chunks p =
    let follows : lines.ended ≡ true → lines.buffer ++ left ≡ lines.buffer = λ is. ap (λ (x : List ℕ). lines.buffer ++ x) (p.at_end is) ∙ append-nil lines.buffer in
    (chunks_of (lines.buffer ++ left), ap chunks_of (p.read ∙ append_assoc p.bytes lines.buffer left) ∙ p.split (lines.buffer ++ left) follows)

-- the chunks that were given are the first of the input
pub given_front : (first now : Option (List ℕ)) (lines : Lines) (chunks : List (List ℕ)) → HasGiven first now lines chunks → IfSome first (λ input. (more : List (List ℕ)) × (chunks_of input ≡ chunks ++ more))
given_front None now lines chunks p = tt
given_front (Some input) now lines chunks p = front_of_input now input lines chunks p
