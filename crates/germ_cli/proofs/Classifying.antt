-- A run of `classify`, line by line.
use Rattle.germ_cli.proofs.Answering.{answers_front, answers_none, piece_more, piece_part}
use Rattle.germ_cli.specs.Answers.{IsTextFor}
use Rattle.germ_cli.specs.Run.{Classifies, TakesWithin, WroteAnswers, WroteFront, end_status}
use Rattle.germ_cli.specs.declared.status.Status.TheVariants as statuses
use Rattle.germ_cli.specs.declared.status.Status.{Status}
use Rattle.line_io.proofs.Handing.{HasHanded, handed_all, handed_ended, handed_front, handed_limit, handed_more, handed_none, line_unbroken}
use Rattle.line_io.proofs.Known.{Consumes-none, Consumes-then}
use Rattle.line_io.specs.Bytes.{AppendsFront}
use Rattle.line_io.specs.Lines.{answered_lines, answered_of, line_of}
use Rattle.line_io.specs.LineSoFar.{IsUnbroken}
use Rattle.line_io.specs.Reading.{EndsAll, HandsOut, HasNoLine, IsFresh, IsHandedOut, IsPiece, PassesLimit, Takes, is_handed_out}
use Rattle.line_io.specs.declared.lines.Lines.{Lines}
use Rattle.line_io.specs.declared.next.Next.TheVariants as nexts
use Rattle.line_io.specs.declared.next.Next.{Next}
use Rattle.std.proofs.Common.{◌≡◌, ℕ, ◌+◌, ◌-◌, ◌<◌, ◌≤◌, Bool, true, false, ltb, List, [], ◌∷◌, ◌++◌, length, length-append, Some, None, inl, inr, refl, sym, ap, subst, ◌∙◌, arith}
use Rattle.std.specs.Io.KnownBytes.{Appends, Consumes, IsAtEnd}
use Rattle.std.proofs.lemmas.Bool.{ltb-true, ltb-false}
use Rattle.std.specs.Prelude.{◌⊎◌, ◌↔◌, IfSome, OnOk, Ok, Err, Result, is_err}
use Rattle.std.specs.declared.option.Option.{Option}

-- a run that goes on: what was handed out so far, and what was written for it
pub record Going (limit : ℕ) (left now : Option (List ℕ)) (lines : Lines) (old new : Option (List ℕ)) : Type 0 where
  pub pieces : List (List ℕ)
  pub handed : HasHanded left now lines pieces
  pub wrote : WroteAnswers limit (answered_of pieces) old new
  pub small : lines.taken ≤ 16777216
  pub sound : lines.faulted ≡ false

-- what next_line says of its answer
pub record IsNext (before after : Lines) (now next : Option (List ℕ)) (answer : Next) : Type 0 where
  pub end : answer ≡ nexts.End → EndsAll before after now next
  pub fault : answer ≡ nexts.ReadFault → HasNoLine before now next
  pub limit : (answer ≡ nexts.InputLimit) ↔ (16777216 < after.taken)
  pub passed : answer ≡ nexts.InputLimit → PassesLimit before now next
  pub taken : Takes before after now next
  pub ended : after.ended ≡ true → ((before.ended ≡ true) × (next ≡ now)) ⊎ IsAtEnd next

pub going_none : (limit : ℕ) (left old : Option (List ℕ)) (lines : Lines) → IsFresh lines → Going limit left left lines old old
going_none limit left old lines fresh = record {
  pieces = [];
  handed = handed_none left lines fresh;
  wrote = answers_none limit old;
  small = omega (arith, fresh.nothing_taken);
  sound = fresh.sound;
}

-- of the lines of the input, those answered so far are a front
front_so_far : (limit : ℕ) (left now old new : Option (List ℕ)) (lines : Lines) → Going limit left now lines old new → IfSome left (λ input. WroteFront limit (answered_lines input) old new)
front_so_far limit left now old new lines g = by_left left (handed_front left now lines g.pieces g.handed)
  where
    by_left : (first : Option (List ℕ)) → IfSome first (λ input. (more : List (List ℕ)) × (answered_lines input ≡ answered_of g.pieces ++ more)) → IfSome first (λ input. WroteFront limit (answered_lines input) old new)
    by_left None h = tt
    by_left (Some input) (more, e) = let P : List (List ℕ) → Type 0 = λ x. WroteFront limit x old new in subst P (sym e) (answers_front limit (answered_of g.pieces) more old new g.wrote)

-- the bytes taken so far, and their number
taken_so_far : (limit : ℕ) (left now next old new : Option (List ℕ)) (before after : Lines) → Going limit left now before old new → Takes before after now next
    → (taken : List ℕ) × Consumes left next taken × (length taken ≡ after.taken)
taken_so_far limit left now next old new before after g t =
    let so_far = g.handed.bytes ++ before.buffer in (
      so_far ++ t.more,
      Consumes-then left now next so_far t.more g.handed.read t.read,
      length-append so_far t.more ∙ ap (λ (n : ℕ). n + length t.more) (sym g.handed.counted) ∙ sym t.counted,
    )

within_so_far : (limit : ℕ) (left now next old new : Option (List ℕ)) (before after : Lines) (status : Status) → Going limit left now before old new → Takes before after now next
    → (status ≡ statuses.InputLimit → 16777216 < after.taken) → (16777216 < after.taken → status ≡ statuses.InputLimit) → TakesWithin 16777216 left next status
within_so_far limit left now next old new before after status g t above past =
    let all = taken_so_far limit left now next old new before after g t in
    record { taken = all.0; read = all.1; limit = ((λ e. omega (arith, all.2, above e)), (λ more. past (omega (arith, all.2, more)))) }

-- ---- the run ends where no line is handed out

ends_done : (limit : ℕ) (left now next old new : Option (List ℕ)) (before after : Lines) (answer : Next) → answer ≡ nexts.End → Going limit left now before old new → IsNext before after now next answer
    → Classifies limit left next old new statuses.Done
ends_done limit left now next old new before after answer e g n =
    let all = handed_all left now next before after g.pieces g.handed (n.end e) n.ended in
    let P : List (List ℕ) → Type 0 = λ x. WroteAnswers limit x old new in
    record {
      done = λ _. record { input = all.0; read = all.1; answered = subst P (sym all.2) g.wrote };
      front = front_so_far limit left now old new before g;
      fault = λ q. absurd cc;
      at_limit = λ q. absurd cc;
      within = within_so_far limit left now next old new before after statuses.Done g n.taken (λ q. absurd cc) (λ more. let q = n.limit.1 more in absurd cc);
    }

ends_fault : (limit : ℕ) (left now next old new : Option (List ℕ)) (before after : Lines) (answer : Next) → answer ≡ nexts.ReadFault → Going limit left now before old new → IsNext before after now next answer
    → Classifies limit left next old new statuses.ReadFault
ends_fault limit left now next old new before after answer e g n =
    let some = handed_ended left now next before g.pieces g.handed (n.fault e) in
    let P : List (List ℕ) → Type 0 = λ x. WroteAnswers limit x old new in
    record {
      done = λ q. absurd cc;
      front = front_so_far limit left now old new before g;
      fault = λ _. record { taken = some.0; read = some.1; answered = subst P (sym some.2) g.wrote };
      at_limit = λ q. absurd cc;
      within = within_so_far limit left now next old new before after statuses.ReadFault g n.taken (λ q. absurd cc) (λ more. let q = n.limit.1 more in absurd cc);
    }

ends_limit : (limit : ℕ) (left now next old new : Option (List ℕ)) (before after : Lines) (answer : Next) → answer ≡ nexts.InputLimit → Going limit left now before old new → IsNext before after now next answer
    → Classifies limit left next old new statuses.InputLimit
ends_limit limit left now next old new before after answer e g n =
    let some = handed_limit left now next before g.pieces g.handed (n.passed e) in
    let P : List (List ℕ) → Type 0 = λ x. WroteAnswers limit x old new in
    record {
      done = λ q. absurd cc;
      front = front_so_far limit left now old new before g;
      fault = λ q. absurd cc;
      at_limit = λ _. record { taken = some.0; count = some.1; read = some.2; above = some.3; high = some.4; low = omega (arith, some.5); answered = subst P (sym some.6) g.wrote };
      within = within_so_far limit left now next old new before after statuses.InputLimit g n.taken (λ _. n.limit.0 e) (λ _. refl);
    }

pub ends : (limit : ℕ) (left now next old new : Option (List ℕ)) (before after : Lines) (answer : Next) (status : Status) → Some status ≡ end_status answer → Going limit left now before old new
    → IsNext before after now next answer → Classifies limit left next old new status
ends limit left now next old new before after answer status e g n = by_answer answer refl e
  where
    by_answer : (a : Next) → answer ≡ a → Some status ≡ end_status a → Classifies limit left next old new status
    by_answer nexts.Line is q = absurd cc
    by_answer (nexts.Long k) is q = absurd cc
    by_answer nexts.End is q =
        let s : statuses.Done ≡ status = cc in let P : Status → Type 0 = λ x. Classifies limit left next old new x in subst P s (ends_done limit left now next old new before after answer is g n)
    by_answer nexts.ReadFault is q =
        let s : statuses.ReadFault ≡ status = cc in let P : Status → Type 0 = λ x. Classifies limit left next old new x in subst P s (ends_fault limit left now next old new before after answer is g n)
    by_answer nexts.InputLimit is q =
        let s : statuses.InputLimit ≡ status = cc in let P : Status → Type 0 = λ x. Classifies limit left next old new x in subst P s (ends_limit limit left now next old new before after answer is g n)

-- ---- the run ends at a line that was handed out

-- memory ran out before anything was read
pub ends_early : (limit : ℕ) (left old : Option (List ℕ)) → Classifies limit left left old old statuses.NoMemory
ends_early limit left old = record {
  done = λ q. absurd cc;
  front = by_left left;
  fault = λ q. absurd cc;
  at_limit = λ q. absurd cc;
  within = record { taken = []; read = Consumes-none left; limit = ((λ q. absurd cc), (λ more. absurd (omega (arith, more)))) };
}
  where
    by_left : (first : Option (List ℕ)) → IfSome first (λ input. WroteFront limit (answered_lines input) old old)
    by_left None = tt
    by_left (Some input) = answers_front limit [] (answered_lines input) old old (answers_none limit old)

-- memory ran out
pub ends_memory : (limit : ℕ) (left now next old new : Option (List ℕ)) (before after : Lines) → Going limit left now before old new → Takes before after now next → after.taken ≤ 16777216
    → Classifies limit left next old new statuses.NoMemory
ends_memory limit left now next old new before after g t small = record {
  done = λ q. absurd cc;
  front = front_so_far limit left now old new before g;
  fault = λ q. absurd cc;
  at_limit = λ q. absurd cc;
  within = within_so_far limit left now next old new before after statuses.NoMemory g t (λ q. absurd cc) (λ more. absurd (omega (arith, more, small)));
}

-- a write failed
pub ends_write : (limit : ℕ) (left now next old new newer : Option (List ℕ)) (before after : Lines) (answer : Next) (text : List ℕ) → Going limit left now before old new → (h : HandsOut before after now next answer)
    → IsNext before after now next answer → after.taken ≤ 16777216 → IsTextFor limit (line_of h.piece) text → AppendsFront new newer text → Classifies limit left next old newer statuses.WriteFault
ends_write limit left now next old new newer before after answer text g h n small t wrote = record {
  done = λ q. absurd cc;
  front = by_left left (handed_front left next after (g.pieces ++ h.piece ∷ []) (handed_more left now next before after answer g.pieces g.handed h n.ended));
  fault = λ q. absurd cc;
  at_limit = λ q. absurd cc;
  within = within_so_far limit left now next old new before after statuses.WriteFault g n.taken (λ q. absurd cc) (λ more. absurd (omega (arith, more, small)));
}
  where
    by_left : (first : Option (List ℕ)) → IfSome first (λ input. (more : List (List ℕ)) × (answered_lines input ≡ answered_of (g.pieces ++ h.piece ∷ []) ++ more)) → IfSome first (λ input. WroteFront limit (answered_lines input) old newer)
    by_left None _ = tt
    by_left (Some input) (more, e) = let P : List (List ℕ) → Type 0 = λ x. WroteFront limit x old newer in subst P (sym e) (piece_part limit g.pieces more h.piece text old new newer g.wrote t wrote)

-- the run goes on after one more line
pub going_more : (limit : ℕ) (left now next old new newer : Option (List ℕ)) (before after : Lines) (answer : Next) (text : List ℕ) → Going limit left now before old new → (h : HandsOut before after now next answer)
    → IsNext before after now next answer → after.taken ≤ 16777216 → after.faulted ≡ false → IsTextFor limit (line_of h.piece) text → Appends new newer text → Going limit left next after old newer
going_more limit left now next old new newer before after answer text g h n small sound t wrote = record {
  pieces = g.pieces ++ h.piece ∷ [];
  handed = handed_more left now next before after answer g.pieces g.handed h n.ended;
  wrote = piece_more limit g.pieces h.piece text old new newer g.wrote t wrote;
  small = small;
  sound = sound;
}

-- ---- what next_line says, read for a run that goes on

pub is_next : {R : Type 0} (limit : ℕ) (left now next old new : Option (List ℕ)) (before after : Lines) (answer : Next) → Going limit left now before old new → (answer ≡ nexts.End → EndsAll before after now next)
    → (answer ≡ nexts.ReadFault → (after.faulted ≡ true) × ((before.faulted ≡ true) ⊎ (R × HasNoLine before now next))) → (answer ≡ nexts.InputLimit) ↔ (16777216 < after.taken)
    → (answer ≡ nexts.InputLimit → (16777216 < before.taken) ⊎ PassesLimit before now next) → Takes before after now next → (after.ended ≡ true → ((before.ended ≡ true) × (next ≡ now)) ⊎ IsAtEnd next)
    → IsNext before after now next answer
is_next {R} limit left now next old new before after answer g end fault above passed taken ended = record {
  end = end;
  fault = λ e. sound_so_far (fault e).1;
  limit = above;
  passed = λ e. small_so_far (passed e);
  taken = taken;
  ended = ended;
}
  where
    sound_so_far : (before.faulted ≡ true) ⊎ (R × HasNoLine before now next) → HasNoLine before now next
    sound_so_far (inl failed) = absurd (let sound = g.sound in cc)
    sound_so_far (inr h) = h.1

    small_so_far : (16777216 < before.taken) ⊎ PassesLimit before now next → PassesLimit before now next
    small_so_far (inl above) = absurd (omega (arith, above, g.small))
    small_so_far (inr h) = h

-- an answer at which the run goes on hands out a line
pub is_line : (answer : Next) → None ≡ end_status answer → is_handed_out answer ≡ true
is_line nexts.Line e = refl
is_line (nexts.Long n) e = refl
is_line nexts.End e = absurd cc
is_line nexts.ReadFault e = absurd cc
is_line nexts.InputLimit e = absurd cc

no_limit : (answer : Next) → None ≡ end_status answer → answer ≡ nexts.InputLimit → ⊥
no_limit answer e is = let both : end_status answer ≡ Some statuses.InputLimit = ap end_status is in cc

pub still_small : (answer : Next) (taken : ℕ) → None ≡ end_status answer → (answer ≡ nexts.InputLimit) ↔ (16777216 < taken) → taken ≤ 16777216
still_small answer taken e limit = by_test (ltb 16777216 taken) refl
  where
    by_test : (t : Bool) → t ≡ ltb 16777216 taken → taken ≤ 16777216
    by_test true is = absurd (no_limit answer e (limit.1 (ltb-true _ _ (sym is))))
    by_test false is = ltb-false _ _ (sym is)

no_fault : (answer : Next) → None ≡ end_status answer → answer ≡ nexts.ReadFault → ⊥
no_fault answer e is = let both : end_status answer ≡ Some statuses.ReadFault = ap end_status is in cc

pub still_sound : (was is : Bool) (answer : Next) → was ≡ false → None ≡ end_status answer → (is ≡ true → (was ≡ true) ⊎ (answer ≡ nexts.ReadFault)) → is ≡ false
still_sound was false answer sound e h = refl
still_sound was true answer sound e h = by_cause (h refl)
  where
    by_cause : (was ≡ true) ⊎ (answer ≡ nexts.ReadFault) → true ≡ false
    by_cause (inl failed) = absurd cc
    by_cause (inr fault) = absurd (no_fault answer e fault)

-- ---- the line that was handed out

kept_is : (line kept : List ℕ) (answer : Next) → IsHandedOut line kept answer → answer ≡ nexts.Line → line ≡ kept
kept_is line kept nexts.Line h e = sym h.0
kept_is line kept (nexts.Long n) h e = absurd cc
kept_is line kept nexts.End h e = absurd h
kept_is line kept nexts.ReadFault h e = absurd h
kept_is line kept nexts.InputLimit h e = absurd h

pub is_unbroken : (before after : Lines) (now next : Option (List ℕ)) (answer : Next) (line : List ℕ) → HandsOut before after now next answer → line ≡ after.line.kept → answer ≡ nexts.Line → IsUnbroken line
is_unbroken before after now next answer line h is e =
    let P : List ℕ → Type 0 = λ x. IsUnbroken x in
    subst P (kept_is (line_of h.piece) after.line.kept answer h.line e ∙ sym is) (line_unbroken h.piece after h.is_piece)

pub text_is : (limit : ℕ) (before after : Lines) (now next : Option (List ℕ)) (answer : Next) (line text : List ℕ) → (h : HandsOut before after now next answer) → line ≡ after.line.kept
    → ((bytes : List ℕ) → IsHandedOut bytes line answer → IsTextFor limit bytes text) → IsTextFor limit (line_of h.piece) text
text_is limit before after now next answer line text h is found =
    let P : List ℕ → Type 0 = λ x. IsHandedOut (line_of h.piece) x answer in
    found (line_of h.piece) (subst P (sym is) h.line)

piece_some : (piece : List ℕ) (after : Lines) → IsPiece piece after → 0 < length piece
piece_some piece after (bytes, unbroken, inl e) = omega (arith, ap (λ (x : List ℕ). length x) e, length-append bytes (10 ∷ []))
piece_some piece after (bytes, unbroken, inr e) = omega (arith, ap (λ (x : List ℕ). length x) e.0, e.1)

-- fewer bytes are left within the limit
pub falls : (limit : ℕ) (left now next old new : Option (List ℕ)) (before after : Lines) (answer : Next) → Going limit left now before old new → HandsOut before after now next answer → after.taken ≤ 16777216
    → 16777217 - (after.taken - length after.buffer) < 16777217 - (before.taken - length before.buffer)
falls limit left now next old new before after answer g h small =
    let some = piece_some h.piece after h.is_piece in
    let parts : length before.buffer + length h.more ≡ length h.piece + length after.buffer =
    sym (length-append before.buffer h.more) ∙ ap (λ (x : List ℕ). length x) h.parts ∙ length-append h.piece after.buffer in
    let held : before.taken ≡ length g.handed.bytes + length before.buffer = g.handed.counted ∙ length-append g.handed.bytes before.buffer in
    omega (arith, some, parts, held, h.counted, small)

pub all_written : {T E : Type 0} (result : Result T E) (P : Type 0) → is_err result ≡ false → OnOk result P → P
all_written (Ok x) P e p = p
all_written (Err x) P e p = absurd cc
