-- What a refused operation says.
use Rattle.std.specs.Prelude.{Result, IfErr}
use Rattle.ring_theory.specs.Rational.{rational_mul}
use Rattle.ring_law.specs.Fraction.{IsFrac, FitsFrac, AddFits, frac_value}
use Rattle.ring_law.specs.declared.fraction.Frac.{Frac}
use Rattle.ring_law.specs.declared.fraction.Op.{Op}
use Rattle.ring_law.specs.declared.fraction.Op.TheVariants.{Add, Mul, Root}
use Rattle.ring_law.specs.declared.fraction.Range.{Range}
use Rattle.ring_law.specs.declared.fraction.Fault.{Fault}
use Rattle.ring_law.specs.declared.fraction.Fault.TheVariants as fault

-- an operation on two fractions is refused: a sum where one of the numbers on the way is above 2^127 - 1 in absolute value,
-- a product where a part of it is; the refusal of a root search says no more than its two fractions
abbrev pub RefusedBy : Op → Frac → Frac → Type 0
RefusedBy Add p q = ¬ AddFits p q
RefusedBy Mul p q = ¬ FitsFrac (rational_mul (frac_value p) (frac_value q))
RefusedBy Root p q = Unit {0}

-- the two fractions are valid, and the operation on them was refused
pub record IsRefusal (e : Range) : Type 0 where
  pub a_valid : IsFrac e.a
  pub b_valid : IsFrac e.b
  pub refused : RefusedBy e.op e.a e.b

-- an error names a refused operation, and comes only where high holds
pub record OnRange {T : Type 0} (r : Result T Range) (high : Type 0) : Type 0 where
  pub only : IfErr r (λ e. IsRefusal e × high)

-- the same of a computation that also takes memory
abbrev pub FaultBy : Type 0 → Fault → Type 0
FaultBy high (fault.Range e) = IsRefusal e × high
FaultBy high fault.NoMemory = Unit {0}

pub record OnFault {T : Type 0} (r : Result T Fault) (high : Type 0) : Type 0 where
  pub only : IfErr r (FaultBy high)
