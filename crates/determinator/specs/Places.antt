-- Where the run of the plan stands, as the code has it.
use Rattle.std.specs.Prelude.{ℕ, ◌<◌, ◌≤◌, Result, IfErr, List, length}
use Rattle.ring_theory.specs.Rational.{Rational}
use Rattle.ext_algebra.specs.declared.algebra.Algebra.{Algebra}
use Rattle.ext_algebra.specs.declared.algebra.Ext.{Ext}
use Rattle.ext_algebra.specs.Algebra.{Value, scalars, algebra_meaning}
use Rattle.ring_law.specs.declared.fraction.Frac.{Frac}
use Rattle.ring_law.specs.declared.fraction.Fault.{Fault}
use Rattle.ring_law.specs.declared.fraction.Fault.TheVariants as faults
use Rattle.poly_law.specs.Polynomials.{Polynomial}
use Rattle.cert_text.specs.declared.report.Phase.{Phase}
use Rattle.cert_text.specs.declared.report.Phase.TheVariants as phases
use Rattle.coord_change.specs.Moves.{Move}
use Rattle.move_law.specs.Algebras.{lifted}
use Rattle.coord_change.specs.Chains.{ChainParts, IsChain}
use Rattle.plan_law.specs.Run.{brought}
use Rattle.split_lemma.specs.SplitForms.{IsSplitUpTo, HasSquares}
use Rattle.determinator.specs.declared.stop.Stop.{Stop}
use Rattle.determinator.specs.declared.stop.Stop.TheVariants as stops

-- a phase of the plan: one after the reading of the line
abbrev pub IsPastReading : Phase → Type 0
IsPastReading phases.Line = ⊥
IsPastReading phases.Hessian = Unit {0}
IsPastReading phases.Split = Unit {0}
IsPastReading phases.Shape = Unit {0}
IsPastReading phases.Kill = Unit {0}
IsPastReading phases.Mather = Unit {0}
IsPastReading phases.Finish = Unit {0}
IsPastReading phases.Milnor = Unit {0}

-- why a phase stops: some number of it is high
abbrev pub StopBy : (Phase → Type 0) → Stop → Type 0
StopBy high (stops.Range p) = IsPastReading p × high p
StopBy high stops.NoMemory = Unit {0}

pub record OnStop {T : Type 0} (r : Result T Stop) (high : Phase → Type 0) : Type 0 where
  pub only : IfErr r (StopBy high)

-- the fault of a call of a phase
abbrev pub stop_of : Phase → Fault → Stop
stop_of p (faults.Range e) = stops.Range p
stop_of p faults.NoMemory = stops.NoMemory

module _ (n c last : ℕ) (germ : Polynomial n Rational) where
  -- over the algebra the chain has come to order o by these moves, of which there are some: the jet is split up to o, and the coefficients of the squares are not zero
  pub record IsPlace (a : Algebra) (o : ℕ) (moves : List (Move n (Value a))) (chain : ChainParts (Ext Frac)) : Type 0 where
    pub corank : c ≤ n
    pub some : 0 < length moves
    pub chain_is : IsChain (algebra_meaning a) n last (lifted a germ) o moves chain
    pub squares : HasSquares n (scalars a) c (brought n c germ a o moves)
    pub split : IsSplitUpTo n (scalars a) c o (brought n c germ a o moves)

-- some germ is carried so
pub record IsPlaced (c : ℕ) (a : Algebra) (chain : ChainParts (Ext Frac)) : Type 0 where
  pub n : ℕ
  pub last : ℕ
  pub germ : Polynomial n Rational
  pub o : ℕ
  pub moves : List (Move n (Value a))
  pub is : IsPlace n c last germ a o moves chain
