-- The tower of degree six: its elements as three pairs over the ring of s, and which towers are fields.
use Rattle.std.specs.Prelude.{◌≡◌, ◌≤◌, ◌^◌, true}
use Rattle.ring_theory.specs.Rational.{Rational, rational_ops}
use Rattle.ring_law.specs.Fraction.{IsFrac, frac_value}
use Rattle.ring_law.specs.declared.fraction.Frac.{Frac}
use Rattle.ring_law.specs.declared.fraction.Op.TheVariants.{Root}
use Rattle.ext_theory.specs.Extension.{Quadratic, Cubic, cubic_at, quadratic_lift}
use Rattle.small_frac.specs.Exact.{IsSquareRoot}
use Rattle.ext_theory.specs.Roots.{HasNoRoot}
use Rattle.small_frac.specs.Roots.{IsLeastRootFrac, cubic_of, cubic_root_height}
use Rattle.ext_algebra.specs.declared.algebra.Ext.{Ext}
use Rattle.ext_algebra.specs.declared.algebra.Triple.{Triple}
use Rattle.ext_algebra.specs.declared.field.ExtError.{ExtError}
use Rattle.ext_algebra.specs.declared.field.ExtError.TheVariants as error
use Rattle.ext_algebra.specs.ExtRing.{IsExt, ext_value, triple_value}

-- all six components are valid fractions
pub record AreFracs (a : Ext Frac) : Type 0 where
  pub c0 : IsFrac a.c0
  pub c1 : IsFrac a.c1
  pub c2 : IsFrac a.c2
  pub c3 : IsFrac a.c3
  pub c4 : IsFrac a.c4
  pub c5 : IsFrac a.c5

-- a + b s, with valid fractions a and b
abbrev pub IsPair : Ext Frac → Type 0
IsPair = IsExt IsFrac frac_value rational_ops.zero 2

-- the number of a + b s
abbrev pub pair_of : Ext Frac → Quadratic Rational
pair_of a = ext_value true frac_value a

-- the number of three pairs
abbrev pub pairs_value : Triple (Ext Frac) → Cubic (Quadratic Rational)
pairs_value = triple_value pair_of

-- a valid element of the ring of t over the ring of s
abbrev pub IsNested : Ext (Ext Frac) → Type 0
IsNested = IsExt IsPair pair_of (quadratic_lift rational_ops rational_ops.zero) 3

-- why a tower is no field here: the least root of its modulus; without a root, the square root of d that is not negative; or the refusal
-- of the search for a root, which names m2 and m0
abbrev pub IsTowerErrorOf : Frac → Frac → Frac → Frac → ExtError → Type 0
IsTowerErrorOf m2 m1 m0 d (error.Reducible x) = IsLeastRootFrac (cubic_at rational_ops (cubic_of m2 m1 m0)) x
IsTowerErrorOf m2 m1 m0 d (error.Square x) = HasNoRoot (cubic_at rational_ops (cubic_of m2 m1 m0)) × IsSquareRoot x d
IsTowerErrorOf m2 m1 m0 d (error.Range e) = (e ≡ record { a = m2; b = m0; op = Root }) × (2 ^ 120 ≤ cubic_root_height (cubic_of m2 m1 m0))
