-- How a run ends where no fault came and the input is within the limit.
use Rattle.germ_cli.specs.Checking.{EndsChecked}
use Rattle.germ_cli.specs.Run.{EndsWell, IsQuiet, TakesWithin}
use Rattle.germ_cli.specs.declared.status.Status.TheVariants as statuses
use Rattle.germ_cli.specs.declared.status.Status.{Status}
use Rattle.line_io.specs.Causes.{Rose}
use Rattle.std.proofs.Common.{◌≡◌, ℕ, ◌≤◌, List, length, length-append, Some, None, inl, inr, refl, ap, ◌∙◌, arith}
use Rattle.std.specs.Io.KnownBytes.{Consumes}
use Rattle.std.specs.declared.option.Option.{Option}

-- a count that stands did not rise
pub not_risen : (before now : ℕ) → IsQuiet before now → Rose before now → ⊥
not_risen before now quiet rose = let same = quiet.same in let below = quiet.below in omega arith

-- no more bytes are taken than there are
few_taken : (input taken : List ℕ) (after : Option (List ℕ)) → Consumes (Some input) after taken → length taken ≤ length input
few_taken input taken None read = absurd read
few_taken input taken (Some rest) read = omega (arith, ap (λ (x : List ℕ). length x) read ∙ length-append taken rest)

within_limit : {A : Type 0} (most : ℕ) (input : List ℕ) (after : Option (List ℕ)) → length input ≤ most → TakesWithin most (Some input) after statuses.InputLimit → A
within_limit most input after small t = let few = few_taken input t.taken after t.read in let more = t.limit.0 refl in absurd (omega (arith, few, more, small))

-- with `check`
pub ends_checked : (left after : Option (List ℕ)) (status : Status) → (status ≡ statuses.ReadFault → ⊥) → (status ≡ statuses.WriteFault → ⊥) → (status ≡ statuses.Usage → ⊥) → TakesWithin 268435456 left after status → EndsChecked left status
ends_checked None after status no_read no_write no_usage within = tt
ends_checked (Some input) after statuses.Done no_read no_write no_usage within = λ _. inl refl
ends_checked (Some input) after statuses.Invalid no_read no_write no_usage within = λ _. inr (inl refl)
ends_checked (Some input) after statuses.Usage no_read no_write no_usage within = absurd (no_usage refl)
ends_checked (Some input) after statuses.ReadFault no_read no_write no_usage within = absurd (no_read refl)
ends_checked (Some input) after statuses.WriteFault no_read no_write no_usage within = absurd (no_write refl)
ends_checked (Some input) after statuses.NoMemory no_read no_write no_usage within = λ _. inr (inr refl)
ends_checked (Some input) after statuses.InputLimit no_read no_write no_usage within = λ small. within_limit 268435456 input after small within

-- with `classify`
pub ends_well : (left after : Option (List ℕ)) (status : Status) → (status ≡ statuses.ReadFault → ⊥) → (status ≡ statuses.WriteFault → ⊥) → (status ≡ statuses.Usage → ⊥) → (status ≡ statuses.Invalid → ⊥)
    → TakesWithin 16777216 left after status → EndsWell left status
ends_well None after status no_read no_write no_usage no_invalid within = tt
ends_well (Some input) after statuses.Done no_read no_write no_usage no_invalid within = λ _. inl refl
ends_well (Some input) after statuses.Invalid no_read no_write no_usage no_invalid within = absurd (no_invalid refl)
ends_well (Some input) after statuses.Usage no_read no_write no_usage no_invalid within = absurd (no_usage refl)
ends_well (Some input) after statuses.ReadFault no_read no_write no_usage no_invalid within = absurd (no_read refl)
ends_well (Some input) after statuses.WriteFault no_read no_write no_usage no_invalid within = absurd (no_write refl)
ends_well (Some input) after statuses.NoMemory no_read no_write no_usage no_invalid within = λ _. inr refl
ends_well (Some input) after statuses.InputLimit no_read no_write no_usage no_invalid within = λ small. within_limit 16777216 input after small within
