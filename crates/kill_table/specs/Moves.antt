-- Kill moves as changes of coordinates of the program, and when one forms a number of height at least 2^120.
use Rattle.std.specs.Prelude.{ℕ, ◌⊎◌, ⊤, List, map}
use Rattle.ring_theory.specs.Scalars.{Scalars, Meaning}
use Rattle.poly_law.specs.Polynomials.{Polynomial}
use Rattle.jet_law.specs.Canonical.{jet}
use Rattle.ring_law.specs.declared.fraction.Fault.{Fault}
use Rattle.ring_law.specs.declared.fraction.Fault.TheVariants as fault
use Rattle.jet_poly.specs.JetTerms.{JetTerms}
use Rattle.coord_change.specs.declared.change.Change.{Change}
use Rattle.coord_change.specs.declared.error.ChangeError.{ChangeError}
use Rattle.coord_change.specs.declared.error.ChangeError.TheVariants as error
use Rattle.coord_change.specs.Inverses.{InverseIsHigh}
use Rattle.coord_change.specs.MoveJets.{IsJetFor, IsMoveExactly}
use Rattle.coord_change.specs.Moves.{Move, linear_part}
use Rattle.kill_law.specs.declared.part.Part.{Part}
use Rattle.kill_law.specs.Taken.{kill_move, IsKillHigh}

-- the parts of the change are the jets of order k of the polynomials of the move
abbrev pub IsMoveTo : {E V : Type 0} → Meaning E V → (n k : ℕ) → Move n V → Change E → Type 0
IsMoveTo m n k move c = IsMoveExactly m n k (map (jet n m.scalars k) move) c

-- f is the jet of order k of p
abbrev pub IsPutFor : {E V : Type 0} → Meaning E V → (n k : ℕ) → Polynomial n V → JetTerms E → Type 0
IsPutFor m n k p f = IsJetFor m n k (jet n m.scalars k p) f

module _ {V : Type 0} (s : Scalars V) (letters : List V) (p : Part) where
  -- the kill move of a grade for the terms of f, or the plain row reduction of its linear part, which gives the inverse, forms a number of height at least 2^120
  abbrev pub IsMoveHigh : (n : ℕ) → ℕ → Polynomial n V → Type 0
  IsMoveHigh n grade f = IsKillHigh n s letters p grade f ⊎ InverseIsHigh s n (linear_part n s (kill_move n s letters p grade f))

-- the error is not that the linear part is singular
abbrev pub IsRegular : {E : Type 0} → ChangeError E → Type 0
IsRegular (error.Singular kernel) = ⊥
IsRegular (error.Range e) = ⊤
IsRegular error.NoMemory = ⊤

-- such an error as a fault
abbrev pub fault_from : {E : Type 0} → ChangeError E → Fault
fault_from (error.Singular kernel) = fault.NoMemory
fault_from (error.Range e) = fault.Range e
fault_from error.NoMemory = fault.NoMemory
