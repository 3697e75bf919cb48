-- What a run of `check` writes, and how it ends.
use Rattle.cert_check.specs.Heights.{IsItemHigh}
use Rattle.cert_text.specs.Text.{line}
use Rattle.germ_cli.specs.Run.{TakesWithin}
use Rattle.germ_cli.specs.declared.status.Status.TheVariants as statuses
use Rattle.germ_cli.specs.declared.status.Status.{Status}
use Rattle.line_io.specs.Bytes.{ReadsWhole}
use Rattle.line_io.specs.Chunks.{chunks_of, ended_chunks}
use Rattle.report_law.specs.Verdicts.{IsVerdict, finding_text}
use Rattle.report_law.specs.declared.verdict.Finding.{Finding}
use Rattle.std.specs.Io.KnownBytes.{Appends, Consumes}
use Rattle.std.specs.List.{AllZip, list_any, starts_with}
use Rattle.std.specs.Prelude.{◌≡◌, ◌⊎◌, ℕ, ◌-◌, ◌<◌, ◌≤◌, nat_eq, Bool, true, false, List, ◌++◌, length, take, flat_map, IfSome, codes}
use Rattle.std.specs.declared.option.Option.{Option}

-- the line of what is found begins with `invalid`
unfoldable pub is_invalid : Finding → Bool
is_invalid found = starts_with nat_eq (finding_text found) (codes "invalid")

-- a line for each finding, one after another
abbrev pub lines_of : List Finding → List ℕ
lines_of found = flat_map (λ f. line (finding_text f)) found

-- the text is the line of what is true of the chunk, and it begins with `invalid` or not
pub record IsAnswerTo (chunk text : List ℕ) (invalid : Bool) : Type 0 where
  pub found : Finding
  pub verdict : IsVerdict IsItemHigh chunk found
  pub text_is : text ≡ line (finding_text found)
  pub invalid_is : invalid ≡ is_invalid found

-- the lines of what is true of these chunks, one for each in order, were written
pub record WroteFindings (chunks : List (List ℕ)) (found : List Finding) (old new : Option (List ℕ)) : Type 0 where
  pub verdicts : AllZip (IsVerdict IsItemHigh) chunks found
  pub wrote : Appends old new (lines_of found)

-- a front of the lines of what is true of the first of these chunks, one for each in order, was written
pub record WroteFindingsFront (chunks : List (List ℕ)) (old new : Option (List ℕ)) : Type 0 where
  pub count : ℕ
  pub found : List Finding
  pub written : List ℕ
  pub rest : List ℕ
  pub verdicts : AllZip (IsVerdict IsItemHigh) (take count chunks) found
  pub front : written ++ rest ≡ lines_of found
  pub wrote : Appends old new written

-- the input was read to its end, and its chunks were answered; some line begins with `invalid`, or none does
pub record ChecksAll (left after old new : Option (List ℕ)) (invalid : Bool) : Type 0 where
  pub input : List ℕ
  pub read : ReadsWhole left after input
  pub found : List Finding
  pub answered : WroteFindings (chunks_of input) found old new
  pub invalid_is : list_any is_invalid found ≡ invalid

-- the chunks that were ended among the bytes taken were answered
pub record ChecksEnded (left after old new : Option (List ℕ)) : Type 0 where
  pub taken : List ℕ
  pub read : Consumes left after taken
  pub found : List Finding
  pub answered : WroteFindings (ended_chunks taken) found old new

-- more than 268,435,456 bytes were taken, and the chunks that were ended among the first `count` of them were answered
pub record ChecksWithin (left after old new : Option (List ℕ)) : Type 0 where
  pub taken : List ℕ
  pub read : Consumes left after taken
  pub above : 268435456 < length taken
  pub count : ℕ
  pub high : count ≤ 268435456
  pub low : 268435456 - 65536 < count
  pub found : List Finding
  pub answered : WroteFindings (ended_chunks (take count taken)) found old new

-- all was done, with or without an invalid chunk, or memory ran out, where the source told an input within the limit
abbrev pub EndsChecked : Option (List ℕ) → Status → Type 0
EndsChecked left status = IfSome left (λ input. length input ≤ 268435456 → (status ≡ statuses.Done) ⊎ ((status ≡ statuses.Invalid) ⊎ (status ≡ statuses.NoMemory)))

-- how a run of `check` ended
pub record Checks (left after old new : Option (List ℕ)) (status : Status) : Type 0 where
  pub done : status ≡ statuses.Done → ChecksAll left after old new false
  pub invalid : status ≡ statuses.Invalid → ChecksAll left after old new true
  pub front : IfSome left (λ input. WroteFindingsFront (chunks_of input) old new)
  pub fault : status ≡ statuses.ReadFault → ChecksEnded left after old new
  pub at_limit : status ≡ statuses.InputLimit → ChecksWithin left after old new
  pub within : TakesWithin 268435456 left after status
