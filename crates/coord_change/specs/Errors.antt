-- What the errors of changes of coordinates say.
use Rattle.std.specs.Prelude.{ℕ, ⊤, Result, IfErr}
use Rattle.ring_theory.specs.Scalars.{Meaning}
use Rattle.ring_law.specs.Refusals.{IsRefusal}
use Rattle.ring_law.specs.declared.fraction.Fault.{Fault}
use Rattle.ring_law.specs.declared.fraction.Fault.TheVariants as fault
use Rattle.coord_change.specs.Inverses.{IsInKernel}
use Rattle.coord_change.specs.declared.error.ChangeError.{ChangeError}
use Rattle.coord_change.specs.declared.error.ChangeError.TheVariants as error

-- a fault as an error
abbrev pub error_of : {E : Type 0} → Fault → ChangeError E
error_of (fault.Range e) = error.Range e
error_of fault.NoMemory = error.NoMemory

-- the kept vector is not zero, and the matrix w with n rows takes it to zero
abbrev pub KernelBy : {E V : Type 0} → Meaning E V → ℕ → (ℕ → ℕ → V) → ChangeError E → Type 0
KernelBy m n w (error.Singular kernel) = IsInKernel m n w kernel.items
KernelBy m n w (error.Range e) = ⊤
KernelBy m n w error.NoMemory = ⊤

-- the error names a refused operation, and high holds
abbrev pub RangeBy : {E : Type 0} → Type 0 → ChangeError E → Type 0
RangeBy high (error.Singular kernel) = ⊤
RangeBy high (error.Range e) = IsRefusal e × high
RangeBy high error.NoMemory = ⊤

-- the error `Singular` keeps a vector other than zero which the matrix w with n rows takes to zero
pub record OnSingular {T E V : Type 0} (m : Meaning E V) (n : ℕ) (w : ℕ → ℕ → V) (r : Result T (ChangeError E)) : Type 0 where
  pub only : IfErr r (KernelBy m n w)

-- the error `Range` names a refused operation, and comes only where high holds
pub record OnRangeError {T E : Type 0} (r : Result T (ChangeError E)) (high : Type 0) : Type 0 where
  pub only : IfErr r (RangeBy high)
