-- The modulus lines with a number, and what a modulus of t is read as.
use Rattle.std.specs.Prelude.{IsTrue}
use Rattle.ring_law.specs.declared.fraction.Frac.{Frac}
use Rattle.ext_algebra.specs.declared.algebra.Algebra.{Algebra}
use Rattle.ext_algebra.specs.declared.algebra.Algebra.TheVariants as algebras
use Rattle.ext_algebra.specs.Fractions.{is_frac}
use Rattle.ext_algebra.specs.Algebra.{is_element}
use Rattle.normal_forms.specs.declared.modulus_line.ModulusLine.{ModulusLine}
use Rattle.normal_forms.specs.declared.modulus_line.ModulusLine.TheVariants as lines

-- a modulus of degree 2 with valid coefficients
abbrev pub IsQuadratic : Algebra → Type 0
IsQuadratic algebras.Rational = ⊥
IsQuadratic (algebras.Quadratic m1 m0) = IsTrue (is_frac m1) × IsTrue (is_frac m0)
IsQuadratic (algebras.Cubic m2 m1 m0) = ⊥
IsQuadratic (algebras.Tower m2 m1 m0 d) = ⊥

-- three valid fractions
abbrev pub AreThree : Frac × Frac × Frac → Type 0
AreThree m = IsTrue (is_frac m.0) × IsTrue (is_frac m.1) × IsTrue (is_frac m.2)

-- a line with a valid value or j invariant
abbrev pub IsNumberLine : Algebra → ModulusLine → Type 0
IsNumberLine a lines.None = ⊥
IsNumberLine a lines.Form = ⊥
IsNumberLine a (lines.Value e) = IsTrue (is_element a e)
IsNumberLine a (lines.J q) = IsTrue (is_frac q)
