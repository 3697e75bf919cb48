-- What the test of an item answers.
use Rattle.check_line.specs.declared.tested.Tested.{Tested}
use Rattle.check_line.specs.declared.tested.Tested.TheVariants as tested

-- the item holds, or it does not, or its numbers are too high
abbrev pub IsTested : Type 0 → Type 0 → Tested → Type 0
IsTested Holds High tested.Holds = Holds
IsTested Holds High tested.Fails = Holds → ⊥
IsTested Holds High tested.High = High
