-- Digits, and the numbers that they stand for.
use Rattle.std.specs.Prelude.{◌≡◌, ℕ, ◌<◌, Bool, true, false, IsTrue, ℤ, pos, negsuc, List, length, slice_index}
use Rattle.std.specs.Str.Parse.{AllDigits, digits_value}
use Rattle.ring_law.specs.declared.fraction.Frac.{Frac}
use Rattle.ext_algebra.specs.Fractions.{is_frac}

-- all bytes are digits, and v is the number that they have
abbrev pub IsValueOf : List ℕ → ℕ → Type 0
IsValueOf ds v = (v ≡ digits_value 10 ds) × AllDigits 10 ds

-- some digit, and a zero at the front only where it stands alone
abbrev pub IsCanonical : List ℕ → Type 0
IsCanonical ds = (0 < length ds) × (slice_index ds 0 ≡ 48 → length ds ≡ 1)

-- the number is not negative
abbrev pub is_natural : ℤ → Bool
is_natural (pos n) = true
is_natural (negsuc n) = false

-- a valid fraction that is not negative
abbrev pub IsNatural : Frac → Type 0
IsNatural q = IsTrue (is_frac q) × IsTrue (is_natural q.num)
