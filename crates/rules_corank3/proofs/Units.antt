-- A base part in three variables has weights for three, and what its leads are divided by is not zero where its letters are units.
use Rattle.std.proofs.Common.{◌≡◌, ℕ, true, false, [], ◌∷◌, get_or, length, refl, sym, subst}
use Rattle.ring_theory.specs.Scalars.{Scalars, ScalarLaws, HasInverses}
use Rattle.poly_law.specs.Polynomials.{Polynomial}
use Rattle.kill_law.specs.declared.part.Part.{Part}
use Rattle.kill_law.specs.declared.part.Part.TheVariants as parts
use Rattle.kill_law.specs.Table.{row}
use Rattle.kill_law.specs.Kill.{letters_of}
use Rattle.kill_table.specs.Divisors.{HasNonzeroDivisors, HasUnits}
use Rattle.kill_table.proofs.Units.{units_are_enough}
use Rattle.rules_corank3.specs.Parts.{is_base3, IsBase3}

-- false is not true
no : {X : Type 0} → false ≡ true → X
no h = let bad : ⊥ = cc h in absurd bad

pub three_weights : (p : Part) → IsBase3 p → length (row p).weights ≡ 3
unfolding row is_base3
three_weights parts.D4 h = no h
three_weights parts.D h = no h
three_weights parts.J h = no h
three_weights parts.X9 h = no h
three_weights parts.X h = no h
three_weights parts.Y h = no h
three_weights parts.Z h = no h
three_weights parts.W h = no h
three_weights parts.P8 h = refl
three_weights parts.Q h = refl
three_weights parts.S h = refl
three_weights parts.U h = refl
three_weights parts.T h = refl
three_weights parts.E6 h = no h
three_weights parts.E7 h = no h
three_weights parts.E8 h = no h
three_weights parts.J10 h = no h
three_weights parts.E12 h = no h
three_weights parts.E13 h = no h
three_weights parts.E14 h = no h
three_weights parts.Z11 h = no h
three_weights parts.Z12 h = no h
three_weights parts.Z13 h = no h
three_weights parts.W12 h = no h
three_weights parts.W13 h = no h
three_weights parts.Q10 h = no h
three_weights parts.Q11 h = no h
three_weights parts.Q12 h = no h
three_weights parts.S11 h = no h
three_weights parts.S12 h = no h
three_weights parts.U12 h = no h
three_weights parts.JT h = no h

module _ {V : Type 0} (s : Scalars V) (laws : ScalarLaws s) (inverts : HasInverses s) (n : ℕ) (p : Part) (f : Polynomial n V) where
  letters_shape : letters_of n s p f ≡ get_or (letters_of n s p f) 0 s.ops.zero ∷ get_or (letters_of n s p f) 1 s.ops.zero ∷ get_or (letters_of n s p f) 2 s.ops.zero ∷ []
  unfolding letters_of
  letters_shape = refl

  pub nonzero_divisors : HasUnits s (letters_of n s p f) p → HasNonzeroDivisors s (letters_of n s p f) p
  nonzero_divisors units =
      subst (λ z. HasUnits s z p → HasNonzeroDivisors s z p) (sym letters_shape)
      (units_are_enough s laws inverts p (get_or (letters_of n s p f) 0 s.ops.zero) (get_or (letters_of n s p f) 1 s.ops.zero) (get_or (letters_of n s p f) 2 s.ops.zero)) units
