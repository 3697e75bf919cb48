-- The answers of tests and lists of tests, as they are joined.
use Rattle.std.specs.Prelude.{◌≡◌, Bool, true, false, Result, Ok, Err}
use Rattle.ring_law.specs.declared.fraction.Fault.{Fault}
use Rattle.ring_law.specs.declared.fraction.Fault.TheVariants as fault
use Rattle.ring_law.specs.declared.fraction.Range.{Range}
use Rattle.check_line.specs.declared.tested.Tested.{Tested}
use Rattle.check_line.specs.declared.tested.Tested.TheVariants as tested
use Rattle.report_law.specs.declared.item.Item.TheVariants as items
use Rattle.report_law.specs.declared.verdict.Verdict.{Verdict}
use Rattle.report_law.specs.declared.verdict.Verdict.TheVariants as verdicts
use Rattle.cert_check.specs.declared.found.Found.{Found}
use Rattle.cert_check.specs.declared.found.Found.TheVariants as found

-- true, false, or a refused operation
abbrev pub IsTestOf : Result Bool Fault → Tested → Type 0
IsTestOf r tested.Holds = r ≡ Ok true
IsTestOf r tested.Fails = r ≡ Ok false
IsTestOf r tested.High = (e : Range) × (r ≡ Err (fault.Range e))

-- the verdict by what was found of all items
abbrev pub verdict_of : Found → Verdict
verdict_of found.Passed = verdicts.Valid
verdict_of (found.Fails item) = verdicts.Invalid item
verdict_of (found.High item) = verdicts.Range item

-- the verdict on a refusal
abbrev pub refusal_verdict : Tested → Verdict
refusal_verdict tested.Holds = verdicts.Valid
refusal_verdict tested.Fails = verdicts.Invalid items.Refusal
refusal_verdict tested.High = verdicts.Range items.Refusal

-- a test that is always decided
abbrev pub tested_by : Bool → Tested
tested_by true = tested.Holds
tested_by false = tested.Fails
