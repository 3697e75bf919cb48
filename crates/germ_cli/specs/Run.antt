-- What a run writes, and how it ends.
use Rattle.cert_text.specs.Text.{report_text}
use Rattle.cert_text.specs.declared.report.Report.{Report}
use Rattle.determinator.specs.Lines.{IsAnswer}
use Rattle.germ_cli.specs.declared.status.Status.TheVariants as statuses
use Rattle.germ_cli.specs.declared.status.Status.{Status}
use Rattle.line_io.specs.Bytes.{AppendsPart, ReadsWhole}
use Rattle.line_io.specs.Lines.{answered_lines, ended_lines}
use Rattle.line_io.specs.declared.next.Next.TheVariants as nexts
use Rattle.line_io.specs.declared.next.Next.{Next}
use Rattle.std.specs.Io.KnownBytes.{Appends, Consumes, Keeps}
use Rattle.std.specs.List.{AllZip}
use Rattle.std.specs.Prelude.{◌≡◌, ◌⊎◌, ◌↔◌, ℕ, ◌-◌, ◌^◌, ◌<◌, ◌≤◌, List, ◌++◌, length, take, flat_map, IfSome, None, Some, codes}
use Rattle.std.specs.declared.option.Option.{Option}

abbrev pub exit_status : Status → ℕ
exit_status statuses.Done = 0
exit_status statuses.Invalid = 1
exit_status statuses.Usage = 2
exit_status statuses.ReadFault = 3
exit_status statuses.WriteFault = 4
exit_status statuses.NoMemory = 5
exit_status statuses.InputLimit = 6

abbrev pub usage_line : List ℕ
usage_line = codes "usage: germ classify [K] | check | make START COUNT | table\n"

-- the families of the list with their normal forms, one a line
abbrev pub table_text : List ℕ
table_text =
    codes "A(m) u1^(m+1)\nD(m) u1^2*u2+u2^(m-1)\nE6 u1^3+u2^4\nE7 u1^3+u1*u2^3\n"
    ++ codes "E8 u1^3+u2^5\nP8 cubic(u1,u2,u3)\nX9 quartic(u1,u2)\nJ10 u1^3+u1*u2^4+u2^6\n"
    ++ codes "T(2,3,r) u1^3+u1^2*u2^2+u2^r\nT(2,4,r) u1^4+u1^2*u2^2+u2^r\nT(2,q,r) u1^2*u2^2+u1^q+u2^r\nT(p,q,r) u1*u2*u3+u1^p+u2^q+u3^r\n"
    ++ codes "E12 u1^3+u2^7+u1*u2^5\nE13 u1^3+u1*u2^5+u2^8\nE14 u1^3+u2^8+u1*u2^6\nZ11 u1^3*u2+u2^5+u1*u2^4\n"
    ++ codes "Z12 u1^3*u2+u1*u2^4+u1^2*u2^3\nZ13 u1^3*u2+u2^6+u1*u2^5\nW12 u1^4+u2^5+u1^2*u2^3\nW13 u1^4+u1*u2^4+u2^6\n"
    ++ codes "Q10 u1^3+u2*u3^2+u2^4+u1*u2^3\nQ11 u1^3+u2*u3^2+u1*u2^3+u2^5\nQ12 u1^3+u2*u3^2+u2^5+u1*u2^4\nS11 u2^2*u3+u1*u3^2+u1^4+u1^3*u3\n"
    ++ codes "S12 u2^2*u3+u1*u3^2+u1^3*u2+u1^5\nU12 u1^3+u2^3+u3^4+u1*u2*u3^2\n"

-- this text was written and the run ended so, or a write failed before the text's end
abbrev pub WroteText : List ℕ → Status → Option (List ℕ) → Option (List ℕ) → Status → Type 0
WroteText text end old new status =
    ((status ≡ end) × Appends old new text) ⊎ ((status ≡ statuses.WriteFault) × AppendsPart old new text)

-- the usage line was written
abbrev pub WroteUsage : Option (List ℕ) → Option (List ℕ) → Status → Type 0
WroteUsage = WroteText usage_line statuses.Usage

-- the table was written
abbrev pub WroteTable : Option (List ℕ) → Option (List ℕ) → Status → Type 0
WroteTable = WroteText table_text statuses.Done

-- the source stands as it was, and no read of it failed
pub record IsUntouched (left after : Option (List ℕ)) (before now : ℕ) : Type 0 where
  pub unread : Keeps left after
  pub no_fault : now ≡ before

-- how a run of `classify` ends where no line is handed out
abbrev pub end_status : Next → Option Status
end_status nexts.Line = None
end_status (nexts.Long length) = None
end_status nexts.End = Some statuses.Done
end_status nexts.ReadFault = Some statuses.ReadFault
end_status nexts.InputLimit = Some statuses.InputLimit

-- the texts of reports, one after another
abbrev pub texts_of : List Report → List ℕ
texts_of reports = flat_map report_text reports

-- the texts of reports that answer these lines, one for each in order, were written
pub record WroteAnswers (limit : ℕ) (lines : List (List ℕ)) (old new : Option (List ℕ)) : Type 0 where
  pub reports : List Report
  pub answers : AllZip (IsAnswer limit) lines reports
  pub wrote : Appends old new (texts_of reports)

-- a front of the texts of reports that answer the first of these lines, one for each in order, was written
pub record WroteFront (limit : ℕ) (lines : List (List ℕ)) (old new : Option (List ℕ)) : Type 0 where
  pub count : ℕ
  pub reports : List Report
  pub written : List ℕ
  pub rest : List ℕ
  pub answers : AllZip (IsAnswer limit) (take count lines) reports
  pub front : written ++ rest ≡ texts_of reports
  pub wrote : Appends old new written

-- the input was read to its end, and its answered lines were answered
pub record AnswersAll (limit : ℕ) (left after old new : Option (List ℕ)) : Type 0 where
  pub input : List ℕ
  pub read : ReadsWhole left after input
  pub answered : WroteAnswers limit (answered_lines input) old new

-- the answered lines that were ended among the bytes taken were answered
pub record AnswersEnded (limit : ℕ) (left after old new : Option (List ℕ)) : Type 0 where
  pub taken : List ℕ
  pub read : Consumes left after taken
  pub answered : WroteAnswers limit (ended_lines taken) old new

-- more than 16,777,216 bytes were taken, and the answered lines that were ended among the first `count` of them were answered
pub record AnswersWithin (limit : ℕ) (left after old new : Option (List ℕ)) : Type 0 where
  pub taken : List ℕ
  pub read : Consumes left after taken
  pub above : 16777216 < length taken
  pub count : ℕ
  pub high : count ≤ 16777216
  pub low : 16777216 - 65536 < count
  pub answered : WroteAnswers limit (ended_lines (take count taken)) old new

-- these bytes were taken, and the run ends with `InputLimit` exactly where they are more than `most`
pub record TakesWithin (most : ℕ) (left after : Option (List ℕ)) (status : Status) : Type 0 where
  pub taken : List ℕ
  pub read : Consumes left after taken
  pub limit : (status ≡ statuses.InputLimit) ↔ (most < length taken)

-- no fault came: the count stands, below its end
pub record IsQuiet (before now : ℕ) : Type 0 where
  pub same : now ≡ before
  pub below : before < 2 ^ 64 - 1

-- all was done, or memory ran out, where the source told an input within the limit
abbrev pub EndsWell : Option (List ℕ) → Status → Type 0
EndsWell left status = IfSome left (λ input. length input ≤ 16777216 → (status ≡ statuses.Done) ⊎ (status ≡ statuses.NoMemory))

-- how a run of `classify` ended
pub record Classifies (limit : ℕ) (left after old new : Option (List ℕ)) (status : Status) : Type 0 where
  pub done : status ≡ statuses.Done → AnswersAll limit left after old new
  pub front : IfSome left (λ input. WroteFront limit (answered_lines input) old new)
  pub fault : status ≡ statuses.ReadFault → AnswersEnded limit left after old new
  pub at_limit : status ≡ statuses.InputLimit → AnswersWithin limit left after old new
  pub within : TakesWithin 16777216 left after status
