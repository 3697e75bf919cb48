-- A run of `check`, chunk by chunk.
use Rattle.germ_cli.proofs.Findings.{any-snoc, findings_front, findings_more, findings_none, findings_part}
use Rattle.germ_cli.specs.Checking.{Checks, ChecksAll, IsAnswerTo, WroteFindings, WroteFindingsFront, is_invalid}
use Rattle.germ_cli.specs.Run.{TakesWithin}
use Rattle.germ_cli.specs.declared.status.Status.TheVariants as statuses
use Rattle.germ_cli.specs.declared.status.Status.{Status}
use Rattle.line_io.proofs.Giving.{HasGiven, given_all, given_ended, given_front, given_limit, given_more, given_none}
use Rattle.line_io.proofs.Known.{Consumes-none, Consumes-then}
use Rattle.line_io.specs.Bytes.{AppendsFront, ReadsWhole}
use Rattle.line_io.specs.Chunks.{chunks_of}
use Rattle.line_io.specs.Reading.{EndsAll, IsFresh}
use Rattle.line_io.specs.ReadingChunks.{GivesChunk, HasNoChunk, IfBytes, PassesChunkLimit, TakesAsNeeded}
use Rattle.line_io.specs.declared.chunk.Chunk.TheVariants as answers
use Rattle.line_io.specs.declared.chunk.Chunk.{Chunk}
use Rattle.line_io.specs.declared.lines.Lines.{Lines}
use Rattle.report_law.specs.declared.verdict.Finding.{Finding}
use Rattle.std.proofs.Common.{◌≡◌, ℕ, ◌+◌, ◌-◌, ◌<◌, ◌≤◌, Bool, true, false, cond, ltb, List, [], ◌∷◌, ◌++◌, length, length-append, Some, None, inl, inr, refl, sym, ap, subst, ◌∙◌, arith}
use Rattle.std.proofs.lemmas.Bool.{ltb-true, ltb-false}
use Rattle.std.specs.Global.{Vec}
use Rattle.std.specs.Io.KnownBytes.{Appends, IsAtEnd}
use Rattle.std.specs.List.{list_any}
use Rattle.std.specs.Prelude.{◌⊎◌, ◌↔◌, ◌||◌, IfSome}
use Rattle.std.specs.declared.option.Option.{Option}

-- a run that goes on: what was given so far, what was written for it, and whether some line begins with `invalid`
pub record Going (left now : Option (List ℕ)) (lines : Lines) (old new : Option (List ℕ)) (invalid : Bool) : Type 0 where
  pub chunks : List (List ℕ)
  pub given : HasGiven left now lines chunks
  pub found : List Finding
  pub wrote : WroteFindings chunks found old new
  pub invalid_is : list_any is_invalid found ≡ invalid
  pub small : lines.taken ≤ 268435456
  pub sound : lines.faulted ≡ false
  pub in_memory : lines.out_of_memory ≡ false

pub going_none : (left old : Option (List ℕ)) (lines : Lines) → IsFresh lines → Going left left lines old old false
going_none left old lines fresh = record {
  chunks = [];
  given = given_none left lines fresh;
  found = [];
  wrote = findings_none old;
  invalid_is = refl;
  small = omega (arith, fresh.nothing_taken);
  sound = fresh.sound;
  in_memory = fresh.in_memory;
}

-- the end of the input as the reader tells it
abbrev pub EndTold : Lines → Lines → Option (List ℕ) → Option (List ℕ) → Type 0
EndTold before after now next = after.ended ≡ true → ((before.ended ≡ true) × (next ≡ now)) ⊎ IsAtEnd next

-- of the chunks of the input, those answered so far are a front
front_so_far : (left now old new : Option (List ℕ)) (lines : Lines) (invalid : Bool) → Going left now lines old new invalid → IfSome left (λ input. WroteFindingsFront (chunks_of input) old new)
front_so_far left now old new lines invalid g = by_left left (given_front left now lines g.chunks g.given)
  where
    by_left : (first : Option (List ℕ)) → IfSome first (λ input. (more : List (List ℕ)) × (chunks_of input ≡ g.chunks ++ more)) → IfSome first (λ input. WroteFindingsFront (chunks_of input) old new)
    by_left None h = tt
    by_left (Some input) (more, e) = let P : List (List ℕ) → Type 0 = λ x. WroteFindingsFront x old new in subst P (sym e) (findings_front g.chunks more g.found old new g.wrote)

within_so_far : (left now next old new : Option (List ℕ)) (before after : Lines) (invalid : Bool) (status : Status) → Going left now before old new invalid → TakesAsNeeded before after now next
    → (status ≡ statuses.InputLimit → 268435456 < after.taken) → (268435456 < after.taken → status ≡ statuses.InputLimit) → TakesWithin 268435456 left next status
within_so_far left now next old new before after invalid status g t above past =
    let so_far = g.given.bytes ++ before.buffer in
    let number : length (so_far ++ (t.more ++ t.last)) ≡ after.taken =
    length-append so_far (t.more ++ t.last) ∙ ap (λ (n : ℕ). n + length (t.more ++ t.last)) (sym g.given.counted) ∙ sym t.counted in
    record {
      taken = so_far ++ (t.more ++ t.last);
      read = Consumes-then left now next so_far (t.more ++ t.last) g.given.read t.read;
      limit = ((λ e. omega (arith, number, above e)), (λ more. past (omega (arith, number, more))));
    }

-- ---- the run ends where no chunk is given

-- memory ran out before anything was read
pub ends_early : (left old : Option (List ℕ)) → Checks left left old old statuses.NoMemory
ends_early left old = record {
  done = λ q. absurd cc;
  invalid = λ q. absurd cc;
  front = by_left left;
  fault = λ q. absurd cc;
  at_limit = λ q. absurd cc;
  within = record { taken = []; read = Consumes-none left; limit = ((λ q. absurd cc), (λ more. absurd (omega (arith, more)))) };
}
  where
    by_left : (first : Option (List ℕ)) → IfSome first (λ input. WroteFindingsFront (chunks_of input) old old)
    by_left None = tt
    by_left (Some input) = findings_front [] (chunks_of input) [] old old (findings_none old)

-- memory ran out
pub ends_memory : (left now next old new : Option (List ℕ)) (before after : Lines) (invalid : Bool) → Going left now before old new invalid → TakesAsNeeded before after now next → after.taken ≤ 268435456
    → Checks left next old new statuses.NoMemory
ends_memory left now next old new before after invalid g t small = record {
  done = λ q. absurd cc;
  invalid = λ q. absurd cc;
  front = front_so_far left now old new before invalid g;
  fault = λ q. absurd cc;
  at_limit = λ q. absurd cc;
  within = within_so_far left now next old new before after invalid statuses.NoMemory g t (λ q. absurd cc) (λ more. absurd (omega (arith, more, small)));
}

-- all chunks were answered
pub ends_done : (left now next old new : Option (List ℕ)) (before after : Lines) (invalid : Bool) (status : Status) → Going left now before old new invalid → EndsAll before after now next → EndTold before after now next
    → TakesAsNeeded before after now next → after.taken ≤ 268435456 → status ≡ cond invalid statuses.Invalid statuses.Done → Checks left next old new status
ends_done left now next old new before after invalid status g e told t small is = by_test invalid refl
  where
    all : (input : List ℕ) × ReadsWhole left next input × (chunks_of input ≡ g.chunks)
    all = given_all left now next before after g.chunks g.given e told

    answered : (b : Bool) → list_any is_invalid g.found ≡ b → ChecksAll left next old new b
    answered b f =
        let P : List (List ℕ) → Type 0 = λ x. WroteFindings x g.found old new in
        record { input = all.0; read = all.1; found = g.found; answered = subst P (sym all.2) g.wrote; invalid_is = f }

    by_test : (b : Bool) → invalid ≡ b → Checks left next old new status
    by_test true f =
        let s : status ≡ statuses.Invalid = is ∙ ap (λ (x : Bool). cond x statuses.Invalid statuses.Done) f in
        let P : Status → Type 0 = λ x. Checks left next old new x in
        subst P (sym s)
        (record {
          done = λ q. absurd cc;
          invalid = λ _. answered true (g.invalid_is ∙ f);
          front = front_so_far left now old new before invalid g;
          fault = λ q. absurd cc;
          at_limit = λ q. absurd cc;
          within = within_so_far left now next old new before after invalid statuses.Invalid g t (λ q. absurd cc) (λ more. absurd (omega (arith, more, small)));
        })
    by_test false f =
        let s : status ≡ statuses.Done = is ∙ ap (λ (x : Bool). cond x statuses.Invalid statuses.Done) f in
        let P : Status → Type 0 = λ x. Checks left next old new x in
        subst P (sym s)
        (record {
          done = λ _. answered false (g.invalid_is ∙ f);
          invalid = λ q. absurd cc;
          front = front_so_far left now old new before invalid g;
          fault = λ q. absurd cc;
          at_limit = λ q. absurd cc;
          within = within_so_far left now next old new before after invalid statuses.Done g t (λ q. absurd cc) (λ more. absurd (omega (arith, more, small)));
        })

sound_so_far : {R Q : Type 0} (lines : Lines) → lines.faulted ≡ false → (lines.faulted ≡ true) ⊎ (R × Q) → Q
sound_so_far lines sound (inl failed) = absurd cc
sound_so_far lines sound (inr h) = h.1

-- a read failed
pub ends_fault : {R : Type 0} (left now next old new : Option (List ℕ)) (before after : Lines) (invalid : Bool) → Going left now before old new invalid → (before.faulted ≡ true) ⊎ (R × HasNoChunk before now next)
    → TakesAsNeeded before after now next → after.taken ≤ 268435456 → Checks left next old new statuses.ReadFault
ends_fault left now next old new before after invalid g failed t small =
    let some = given_ended left now next before g.chunks g.given (sound_so_far before g.sound failed) in
    let P : List (List ℕ) → Type 0 = λ x. WroteFindings x g.found old new in
    record {
      done = λ q. absurd cc;
      invalid = λ q. absurd cc;
      front = front_so_far left now old new before invalid g;
      fault = λ _. record { taken = some.0; read = some.1; found = g.found; answered = subst P (sym some.2) g.wrote };
      at_limit = λ q. absurd cc;
      within = within_so_far left now next old new before after invalid statuses.ReadFault g t (λ q. absurd cc) (λ more. absurd (omega (arith, more, small)));
    }

small_so_far : {Q : Type 0} (lines : Lines) → lines.taken ≤ 268435456 → (268435456 < lines.taken) ⊎ Q → Q
small_so_far lines small (inl above) = absurd (omega (arith, above, small))
small_so_far lines small (inr h) = h

-- more bytes came than the limit
pub ends_limit : (left now next old new : Option (List ℕ)) (before after : Lines) (invalid : Bool) → Going left now before old new invalid → (268435456 < before.taken) ⊎ PassesChunkLimit before now next
    → TakesAsNeeded before after now next → 268435456 < after.taken → Checks left next old new statuses.InputLimit
ends_limit left now next old new before after invalid g passed t above =
    let some = given_limit left now next before g.chunks g.given (small_so_far before g.small passed) in
    let P : List (List ℕ) → Type 0 = λ x. WroteFindings x g.found old new in
    record {
      done = λ q. absurd cc;
      invalid = λ q. absurd cc;
      front = front_so_far left now old new before invalid g;
      fault = λ q. absurd cc;
      at_limit = λ _. record { taken = some.0; count = some.1; read = some.2; above = some.3; high = some.4; low = omega (arith, some.5); found = g.found; answered = subst P (sym some.6) g.wrote };
      within = within_so_far left now next old new before after invalid statuses.InputLimit g t (λ _. above) (λ _. refl);
    }

-- ---- a chunk was given

pub chunk_of : (answer : Chunk) (bytes : Vec ℕ) (P : List ℕ → Type 0) → answer ≡ answers.Bytes bytes → IfBytes answer P → P bytes.items
chunk_of answer bytes P e h = let Q : Chunk → Type 0 = λ x. IfBytes x P in subst Q e h

-- an answer other than `InputLimit` comes within the limit
pub still_small : (answer : Chunk) (taken : ℕ) → (answer ≡ answers.InputLimit → ⊥) → (answer ≡ answers.InputLimit) ↔ (268435456 < taken) → taken ≤ 268435456
still_small answer taken other limit = by_test (ltb 268435456 taken) refl
  where
    by_test : (t : Bool) → t ≡ ltb 268435456 taken → taken ≤ 268435456
    by_test true is = absurd (other (limit.1 (ltb-true _ _ (sym is))))
    by_test false is = ltb-false _ _ (sym is)

pub still_sound : {Q : Type 0} (was is : Bool) → was ≡ false → (Q → ⊥) → (is ≡ true → (was ≡ true) ⊎ Q) → is ≡ false
still_sound was false sound other h = refl
still_sound {Q} was true sound other h = by_cause (h refl)
  where
    by_cause : (was ≡ true) ⊎ Q → true ≡ false
    by_cause (inl failed) = absurd cc
    by_cause (inr fault) = absurd (other fault)

-- memory that runs out in a run that goes on runs out within the limit
pub small_in_memory : (lines : Lines) (taken : ℕ) → lines.out_of_memory ≡ false → (lines.out_of_memory ≡ true) ⊎ (taken ≤ 268435456) → taken ≤ 268435456
small_in_memory lines taken going (inl out) = absurd cc
small_in_memory lines taken going (inr small) = small

pub or_then : (was invalid both : Bool) → was ≡ true → both ≡ was → both ≡ (was || invalid)
or_then was invalid both e f = f ∙ e ∙ sym (ap (λ (x : Bool). x || invalid) e)

pub or_else : (was invalid both : Bool) → was ≡ false → both ≡ invalid → both ≡ (was || invalid)
or_else was invalid both e f = f ∙ sym (ap (λ (x : Bool). x || invalid) e)

-- a write failed
pub ends_write : (left now next old new newer : Option (List ℕ)) (before after : Lines) (was invalid : Bool) (chunk text : List ℕ) → Going left now before old new was → GivesChunk before after now next chunk → EndTold before after now next
    → TakesAsNeeded before after now next → after.taken ≤ 268435456 → IsAnswerTo chunk text invalid → AppendsFront new newer text → Checks left next old newer statuses.WriteFault
ends_write left now next old new newer before after was invalid chunk text g h told t small a wrote = record {
  done = λ q. absurd cc;
  invalid = λ q. absurd cc;
  front = by_left left (given_front left next after (g.chunks ++ chunk ∷ []) (given_more left now next before after chunk g.chunks g.given h told));
  fault = λ q. absurd cc;
  at_limit = λ q. absurd cc;
  within = within_so_far left now next old new before after was statuses.WriteFault g t (λ q. absurd cc) (λ more. absurd (omega (arith, more, small)));
}
  where
    by_left : (first : Option (List ℕ)) → IfSome first (λ input. (more : List (List ℕ)) × (chunks_of input ≡ (g.chunks ++ chunk ∷ []) ++ more)) → IfSome first (λ input. WroteFindingsFront (chunks_of input) old newer)
    by_left None _ = tt
    by_left (Some input) (more, e) =
        let P : List (List ℕ) → Type 0 = λ x. WroteFindingsFront x old newer in subst P (sym e) (findings_part g.chunks more g.found chunk text invalid old new newer g.wrote a wrote)

-- the run goes on after one more chunk
pub going_more : (left now next old new newer : Option (List ℕ)) (before after : Lines) (was invalid both : Bool) (chunk text : List ℕ) → Going left now before old new was → GivesChunk before after now next chunk
    → EndTold before after now next → after.taken ≤ 268435456 → after.faulted ≡ false → after.out_of_memory ≡ false → IsAnswerTo chunk text invalid → Appends new newer text → both ≡ (was || invalid)
    → Going left next after old newer both
going_more left now next old new newer before after was invalid both chunk text g h told small sound in_memory a wrote is = record {
  chunks = g.chunks ++ chunk ∷ [];
  given = given_more left now next before after chunk g.chunks g.given h told;
  found = g.found ++ a.found ∷ [];
  wrote = findings_more g.chunks g.found chunk text invalid old new newer g.wrote a wrote;
  invalid_is = any-snoc g.found a.found ∙ ap (λ (x : Bool). x || is_invalid a.found) g.invalid_is ∙ ap (λ (x : Bool). was || x) (sym a.invalid_is) ∙ sym is;
  small = small;
  sound = sound;
  in_memory = in_memory;
}

-- a chunk that is given is not empty
chunk_some : (before after : Lines) (now next : Option (List ℕ)) (chunk : List ℕ) → GivesChunk before after now next chunk → 0 < length chunk
chunk_some before after now next [] h = let n = ap (λ (x : List (List ℕ)). length x) (h.first after.buffer (λ _. refl)) in absurd (omega (arith, n))
chunk_some before after now next (b ∷ bs) h = omega arith

-- fewer bytes are left within the limit
pub falls : (left now next old new : Option (List ℕ)) (before after : Lines) (invalid : Bool) (chunk : List ℕ) → Going left now before old new invalid → GivesChunk before after now next chunk → after.taken ≤ 268435456
    → 268435457 - (after.taken - length after.buffer) < 268435457 - (before.taken - length before.buffer)
falls left now next old new before after invalid chunk g h small =
    let some = chunk_some before after now next chunk h in
    let parts : length before.buffer + length h.more ≡ length chunk + length after.buffer = sym (length-append before.buffer h.more) ∙ ap (λ (x : List ℕ). length x) h.parts ∙ length-append chunk after.buffer in
    let held : before.taken ≡ length g.given.bytes + length before.buffer = g.given.counted ∙ length-append g.given.bytes before.buffer in
    omega (arith, some, parts, held, h.counted, small)
