-- A carried germ that is read as a form of a family: its units with their inverses.
use Rattle.std.specs.Prelude.{◌≡◌, ◌≤◌, ◌⊎◌, Bool, true, IsTrue, List, length, map}
use Rattle.std.specs.List.{list_all}
use Rattle.ring_law.specs.declared.fraction.Frac.{Frac}
use Rattle.ext_algebra.specs.declared.algebra.Ext.{Ext}
use Rattle.ext_algebra.specs.Algebra.{Value, scalars, value_in}
use Rattle.lin_row.specs.Plain.{Among}
use Rattle.normal_forms.specs.declared.family.Family.{Family}
use Rattle.move_law.specs.Work as work
use Rattle.move_law.specs.Work.{IsWorkHigh}
use Rattle.move_law.specs.Finish.{is_read, units_of, reading_work}
use Rattle.cert_text.specs.declared.report.Carried.{Carried}
use Rattle.cert_text.specs.declared.report.Named as named_type
use Rattle.cert_text.specs.WellFormed.{is_unit_pair, list_limit}
use Rattle.report_law.specs.Items.{variables_of, jet_of, IsForm, AreUnits}

-- the jet is a form of the family, and each of its units is not 0
abbrev pub is_read_as : Family → Carried → Bool
is_read_as family c = is_read (variables_of c) (scalars c.algebra) c.order c.corank family (jet_of c)

-- the unit values of the jet, as one of the family, and then the coefficients of the squares
abbrev pub units_in : Family → (c : Carried) → List (Value c.algebra)
units_in family c = units_of (variables_of c) (scalars c.algebra) c.order c.corank family (jet_of c)

-- the jet is such a form, and these are its units with their inverses, as a report holds them
pub record AreUnitsRead (family : Family) (c : Carried) (units : List (Ext Frac × Ext Frac)) : Type 0 where
  pub read : is_read_as family c ≡ true
  pub form : IsForm family c
  pub values : map {B = Value c.algebra × Value c.algebra} (λ u. (value_in c.algebra u.0, value_in c.algebra u.1)) units ≡ map {B = Value c.algebra × Value c.algebra} (λ v. (v, (scalars c.algebra).inverse v)) (units_in family c)
  pub units_are : (r : named_type.Named) → AreUnits (record r { family = family; carried = c; units = units })
  pub few : length units ≤ list_limit
  pub elems : IsTrue (list_all (is_unit_pair c.algebra) units)

-- a formula of the units is high; or the jet is such a form, and the inverse of a unit is
abbrev pub IsUnitHigh : Family → Carried → Type 0
IsUnitHigh family c =
    let n = variables_of c in
    let s = scalars c.algebra in
    Among (IsWorkHigh n s) (reading_work n s c.order c.corank family (jet_of c)) ⊎ ((is_read_as family c ≡ true) × Among (IsWorkHigh n s) (map (λ u. work.inverse u) (units_in family c)))
