-- The modulus line of a form.
use Rattle.std.specs.Prelude.{List, IsTrue}
use Rattle.ext_algebra.specs.declared.algebra.Algebra.{Algebra}
use Rattle.ext_algebra.specs.declared.algebra.Algebra.TheVariants as algebras
use Rattle.ext_algebra.specs.Algebra.{Value, scalars}
use Rattle.jet_law.specs.Heights.{IsHigh}
use Rattle.normal_forms.specs.declared.family.Family.{Family}
use Rattle.normal_forms.specs.declared.kind.Kind.{Kind}
use Rattle.normal_forms.specs.declared.kind.Kind.TheVariants as kinds
use Rattle.normal_forms.specs.declared.modulus_line.ModulusLine.{ModulusLine}
use Rattle.normal_forms.specs.Families.{kind_of}
use Rattle.normal_forms.specs.Units.{modulus_heights}
use Rattle.move_law.specs.Finish.{coefficients_of}
use Rattle.cert_text.specs.declared.report.Carried.{Carried}
use Rattle.cert_text.specs.declared.report.Named as named_type
use Rattle.cert_text.specs.WellFormed.{is_valid_modulus}
use Rattle.report_law.specs.Items.{variables_of, jet_of, IsModulusOf}

-- the form has no j invariant
abbrev pub HasNoInvariant : Kind → Type 0
HasNoInvariant kinds.Simple = Unit {0}
HasNoInvariant kinds.Hyperbolic = Unit {0}
HasNoInvariant kinds.CubicForm = Unit {0}
HasNoInvariant kinds.Exceptional = Unit {0}
HasNoInvariant kinds.QuarticForm = ⊥
HasNoInvariant kinds.Triple = ⊥

-- a form with a j invariant is one over the rational numbers
abbrev pub IsRationalForm : Algebra → Kind → Type 0
IsRationalForm algebras.Rational kind = Unit {0}
IsRationalForm (algebras.Quadratic m1 m0) kind = HasNoInvariant kind
IsRationalForm (algebras.Cubic m2 m1 m0) kind = HasNoInvariant kind
IsRationalForm (algebras.Tower m2 m1 m0 d) kind = HasNoInvariant kind

-- a number that the modulus line forms is high; over an extension it forms none
abbrev pub IsLineHigh : (a : Algebra) → Kind → List (Value a) → Type 0
IsLineHigh algebras.Rational kind coefs = IsHigh (modulus_heights kind coefs)
IsLineHigh (algebras.Quadratic m1 m0) kind coefs = ⊥
IsLineHigh (algebras.Cubic m2 m1 m0) kind coefs = ⊥
IsLineHigh (algebras.Tower m2 m1 m0 d) kind coefs = ⊥

-- a number that the modulus line of the jet, as a form of the family, forms is high
abbrev pub IsModulusHigh : Family → Carried → Type 0
IsModulusHigh family c = IsLineHigh c.algebra (kind_of family) (coefficients_of (variables_of c) (scalars c.algebra) c.order family (jet_of c))

-- the line is true of the form, and a report can hold it
pub record IsLineOf (family : Family) (c : Carried) (line : ModulusLine) : Type 0 where
  pub line_is : (r : named_type.Named) → IsModulusOf (record r { family = family; carried = c; modulus = line })
  pub valid : IsTrue (is_valid_modulus c.algebra line)
