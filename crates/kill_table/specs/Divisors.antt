-- What the leads of a part are divided by.
use Rattle.std.specs.Prelude.{◌≡◌, ◌≢◌, ℕ, pos, ◌<◌, List, [], ◌∷◌, Contains, get_or, length}
use Rattle.ring_theory.specs.Rational.{rational}
use Rattle.ring_theory.specs.Scalars.{Scalars}
use Rattle.poly_law.specs.Sums.{power}
use Rattle.kill_law.specs.declared.lead.Entry.{Entry}
use Rattle.kill_law.specs.declared.lead.Lead.{Lead}
use Rattle.kill_law.specs.declared.part.Part.{Part}
use Rattle.kill_law.specs.declared.part.Part.TheVariants as parts
use Rattle.kill_law.specs.Table.{row}
use Rattle.kill_law.specs.Kill.{divisor_value}
use Rattle.kill_law.specs.Leads.{entries_of}

-- what the entries of the leads of a part are divided by is not zero
abbrev pub HasNonzeroDivisors : {V : Type 0} → Scalars V → List V → Part → Type 0
HasNonzeroDivisors s letters p = (l : Lead) → Contains (row p).leads l → (e : Entry) → Contains (entries_of l) e → divisor_value s letters e.divisor ≢ s.ops.zero

-- how many of its letters, from the first on, the leads of a part are divided by: of T and J10 the first alone, of the other parts all
abbrev pub dividing_letters : Part → ℕ
dividing_letters parts.T = 1
dividing_letters parts.J10 = 1
dividing_letters p = length (row p).form

module _ {V : Type 0} (s : Scalars V) (letters : List V) where
  -- the value of letter i, counted from 0; 0 past the last one
  abbrev pub letter : ℕ → V
  letter i = get_or letters i s.ops.zero

  -- 4 b^3 + 27 a c^2, for the letters a, b and c
  abbrev pub discriminant : V
  discriminant = s.ops.add (s.ops.mul (s.rational (rational (pos 4) 1)) (power s.ops (letter 1) 3))
      (s.ops.mul (s.rational (rational (pos 27) 1)) (s.ops.mul (letter 0) (power s.ops (letter 2) 2)))

  -- the letters that the leads of a part are divided by are not zero, nor for J10 is the discriminant
  pub record HasUnits (p : Part) : Type 0 where
    pub nonzero : (i : ℕ) → i < dividing_letters p → letter i ≢ s.ops.zero
    pub regular : p ≡ parts.J10 → discriminant ≢ s.ops.zero

-- so nothing that the leads of the part are divided by is zero
abbrev pub UnitsAreEnough : {V : Type 0} → Scalars V → Type 0
UnitsAreEnough {V} s = (p : Part) (a b c : V) → HasUnits s (a ∷ b ∷ c ∷ []) p → HasNonzeroDivisors s (a ∷ b ∷ c ∷ []) p
