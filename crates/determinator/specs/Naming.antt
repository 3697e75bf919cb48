-- The name of a carried germ as a form of a family: units with inverses, modulus line and Milnor algebra; without a base part the family is the finish's.
use Rattle.std.specs.Prelude.{◌≡◌, true, false, Option, Some, None, List, length}
use Rattle.ring_law.specs.declared.fraction.Frac.{Frac}
use Rattle.ext_algebra.specs.declared.algebra.Ext.{Ext}
use Rattle.ext_algebra.specs.Algebra.{scalars}
use Rattle.determinacy.specs.declared.row.MatherRow.{MatherRow}
use Rattle.normal_forms.specs.declared.family.Family.{Family}
use Rattle.cert_text.specs.declared.report.Answer.{Answer}
use Rattle.cert_text.specs.declared.report.Answer.TheVariants as answers
use Rattle.cert_text.specs.declared.report.Carried.{Carried}
use Rattle.cert_text.specs.declared.report.Phase.{Phase}
use Rattle.cert_text.specs.declared.report.Phase.TheVariants as phases
use Rattle.jet_quotient.specs.Quotients.{IsQuotientHigh}
use Rattle.report_law.specs.Items.{variables_of, jet_of, residual_of}
use Rattle.move_law.specs.Finish.{finish}
use Rattle.certificate.specs.Evidence.{IsReportedQuotient}
use Rattle.certificate.specs.Readings.{is_read_as, AreUnitsRead, IsUnitHigh}
use Rattle.certificate.specs.Moduli.{IsLineOf, IsModulusHigh}
use Rattle.determinator.specs.declared.naming.Naming.{Naming}

-- the family that the finish of the jet, without a part, looks for
abbrev pub family_found : Carried → Option Family
family_found c = (finish (variables_of c) (scalars c.algebra) c.order c.corank None (jet_of c)).1

-- the carried germ has this name, as a form of the family: its jet is one, with these units and this modulus line, and this is its Milnor algebra
pub record IsNamingBy (family : Family) (c : Carried) (naming : Naming) : Type 0 where
  pub family_is : naming.family ≡ family
  pub units : AreUnitsRead family c naming.units
  pub modulus : IsLineOf family c naming.modulus
  pub quotient : IsReportedQuotient c naming.quotient

-- as a form of the family that is looked for
pub record IsNamingOf (c : Carried) (naming : Naming) : Type 0 where
  pub found : family_found c ≡ Some naming.family
  pub named : IsNamingBy naming.family c naming

-- it has no name: its jet is no form of the family that is looked for
abbrev pub IsUnread : Carried → Type 0
IsUnread c = (family : Family) → family_found c ≡ Some family → is_read_as family c ≡ false

-- the answer for a carried germ with a name, or without one, where these are the rows of Mather's test
abbrev pub answer_by : Carried → List (MatherRow (Ext Frac)) → Option Naming → Answer
answer_by c rows None = answers.Unresolved (record { carried = c; mather = rows })
answer_by c rows (Some x) = answers.Named (record {
  family = x.family;
  carried = c;
  units = x.units;
  modulus = x.modulus;
  milnor = length x.quotient.basis;
  mather = rows;
  quotient = x.quotient;
})

-- a number of the name as a form of the family is high: in the units or their inverses, in the modulus line, or in the Milnor algebra
pub data IsNamingByHigh (family : Family) (c : Carried) : Phase → Type 0 where
  by_units : IsUnitHigh family c → IsNamingByHigh family c phases.Finish
  by_modulus : is_read_as family c ≡ true → IsModulusHigh family c → IsNamingByHigh family c phases.Finish
  by_quotient : is_read_as family c ≡ true → IsQuotientHigh c.corank (scalars c.algebra) c.order (residual_of c) → IsNamingByHigh family c phases.Milnor

-- of the name as a form of the family that is looked for
abbrev pub IsNamingHigh : Carried → Phase → Type 0
IsNamingHigh c p = (family : Family) × (family_found c ≡ Some family) × IsNamingByHigh family c p
