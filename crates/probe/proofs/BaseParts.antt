-- The letters of a part that are units: of a base part, and what the leads are divided by.
use Rattle.std.proofs.Common.{◌≡◌, ℕ, IsTrue, false, length, refl, arith}
use Rattle.ring_theory.specs.Scalars.{Scalars, ScalarLaws, HasInverses}
use Rattle.poly_law.specs.Polynomials.{Polynomial}
use Rattle.kill_law.specs.declared.part.Part.{Part}
use Rattle.kill_law.specs.declared.part.Part.TheVariants as parts
use Rattle.kill_law.specs.Table.{row}
use Rattle.kill_law.specs.Kill.{letters_of}
use Rattle.kill_table.specs.Divisors.{HasUnits, HasNonzeroDivisors}
use Rattle.kill_table.proofs.Units
use Rattle.rules_corank2.specs.Parts.{is_base2, IsBase2, has_a, has_b, HaveUnits}
use Rattle.rules_corank3.specs.Parts.{is_base3, IsBase3}

-- false is not true
none : {X : Type 0} → IsTrue false → X
none h = let bad : ⊥ = cc h in absurd bad

-- a base part in two variables has weights for two
pub two_weights : (p : Part) → IsBase2 p → length (row p).weights ≡ 2
unfolding row is_base2
two_weights parts.D4 h = refl
two_weights parts.D h = refl
two_weights parts.J h = refl
two_weights parts.X9 h = refl
two_weights parts.X h = refl
two_weights parts.Y h = refl
two_weights parts.Z h = refl
two_weights parts.W h = refl
two_weights parts.P8 h = none h
two_weights parts.Q h = none h
two_weights parts.S h = none h
two_weights parts.U h = none h
two_weights parts.T h = none h
two_weights parts.E6 h = none h
two_weights parts.E7 h = none h
two_weights parts.E8 h = none h
two_weights parts.J10 h = none h
two_weights parts.E12 h = none h
two_weights parts.E13 h = none h
two_weights parts.E14 h = none h
two_weights parts.Z11 h = none h
two_weights parts.Z12 h = none h
two_weights parts.Z13 h = none h
two_weights parts.W12 h = none h
two_weights parts.W13 h = none h
two_weights parts.Q10 h = none h
two_weights parts.Q11 h = none h
two_weights parts.Q12 h = none h
two_weights parts.S11 h = none h
two_weights parts.S12 h = none h
two_weights parts.U12 h = none h
two_weights parts.JT h = none h

-- and one in three variables for three
pub three_weights : (p : Part) → IsBase3 p → length (row p).weights ≡ 3
unfolding row is_base3
three_weights parts.D4 h = none h
three_weights parts.D h = none h
three_weights parts.J h = none h
three_weights parts.X9 h = none h
three_weights parts.X h = none h
three_weights parts.Y h = none h
three_weights parts.Z h = none h
three_weights parts.W h = none h
three_weights parts.P8 h = refl
three_weights parts.Q h = refl
three_weights parts.S h = refl
three_weights parts.U h = refl
three_weights parts.T h = refl
three_weights parts.E6 h = none h
three_weights parts.E7 h = none h
three_weights parts.E8 h = none h
three_weights parts.J10 h = none h
three_weights parts.E12 h = none h
three_weights parts.E13 h = none h
three_weights parts.E14 h = none h
three_weights parts.Z11 h = none h
three_weights parts.Z12 h = none h
three_weights parts.Z13 h = none h
three_weights parts.W12 h = none h
three_weights parts.W13 h = none h
three_weights parts.Q10 h = none h
three_weights parts.Q11 h = none h
three_weights parts.Q12 h = none h
three_weights parts.S11 h = none h
three_weights parts.S12 h = none h
three_weights parts.U12 h = none h
three_weights parts.JT h = none h

-- a base part in two variables has its letters as units
pub have_units : {V : Type 0} (n : ℕ) (s : Scalars V) (p : Part) (f : Polynomial n V) → IsBase2 p → HasUnits s (letters_of n s p f) p → HaveUnits n s p f
unfolding row is_base2 has_a has_b
have_units n s parts.D4 f base h = record { a = λ t. h.nonzero 0 (omega arith); b = λ t. h.nonzero 1 (omega arith) }
have_units n s parts.D f base h = record { a = λ t. h.nonzero 0 (omega arith); b = λ t. none t }
have_units n s parts.J f base h = record { a = λ t. h.nonzero 0 (omega arith); b = λ t. none t }
have_units n s parts.X9 f base h = record { a = λ t. none t; b = λ t. none t }
have_units n s parts.X f base h = record { a = λ t. h.nonzero 0 (omega arith); b = λ t. h.nonzero 1 (omega arith) }
have_units n s parts.Y f base h = record { a = λ t. h.nonzero 0 (omega arith); b = λ t. none t }
have_units n s parts.Z f base h = record { a = λ t. h.nonzero 0 (omega arith); b = λ t. none t }
have_units n s parts.W f base h = record { a = λ t. h.nonzero 0 (omega arith); b = λ t. none t }
have_units n s parts.P8 f base h = none base
have_units n s parts.Q f base h = none base
have_units n s parts.S f base h = none base
have_units n s parts.U f base h = none base
have_units n s parts.T f base h = none base
have_units n s parts.E6 f base h = none base
have_units n s parts.E7 f base h = none base
have_units n s parts.E8 f base h = none base
have_units n s parts.J10 f base h = none base
have_units n s parts.E12 f base h = none base
have_units n s parts.E13 f base h = none base
have_units n s parts.E14 f base h = none base
have_units n s parts.Z11 f base h = none base
have_units n s parts.Z12 f base h = none base
have_units n s parts.Z13 f base h = none base
have_units n s parts.W12 f base h = none base
have_units n s parts.W13 f base h = none base
have_units n s parts.Q10 f base h = none base
have_units n s parts.Q11 f base h = none base
have_units n s parts.Q12 f base h = none base
have_units n s parts.S11 f base h = none base
have_units n s parts.S12 f base h = none base
have_units n s parts.U12 f base h = none base
have_units n s parts.JT f base h = none base

-- nothing that the leads are divided by is zero
pub nonzero_divisors : {V : Type 0} (n : ℕ) (s : Scalars V) → ScalarLaws s → HasInverses s → (p : Part) (f : Polynomial n V) → HasUnits s (letters_of n s p f) p → HasNonzeroDivisors s (letters_of n s p f) p
unfolding letters_of
nonzero_divisors n s laws inverts p f h = Units.units_are_enough s laws inverts p _ _ _ h
