use Rattle.std.proofs.Common.{◌≤◌, ◌^◌, false, not, map, length, inl, refl, sym, ap, subst, ◌∙◌}
use Rattle.std.specs.List.{list_all}
use Rattle.ext_algebra.specs.Algebra.{Value, scalars, value_in}
use Rattle.lin_row.specs.Plain.{Among}
use Rattle.ring_law.proofs.Exits.{fault_handed_on}
use Rattle.report_jet.proofs.ReportJets.{algebra_valid, jet_valid}
use Rattle.certificate.specs.Readings.{AreUnitsRead}
use Rattle.certificate.proofs.Readings.{not_family, units_high}
use Rattle.certificate.proofs.UnitsRead.{not_form, form_in_names, values_in_names, read_where, inverse_high, units_read}
use Rattle.certificate.proofs.unit.units.Goals.{then-not-is_family-via-then-not-is_family, then-not-is_family-via-else-not-is_family+then-not-has_form}
use Rattle.certificate.proofs.unit.units.Goals as goal

pub returns-then-not-is_family-clause-units : goal.returns-then-not-is_family-clause-units
returns-then-not-is_family-clause-units c = elim c.then-not-is_family.branch [
  | then-not-is_family-via-then-not-is_family w ↦ not_family c.args.family c.args.c.now c.requires.well_formed (sym w.if-not-is_family.ensures)
  | then-not-is_family-via-else-not-is_family+then-not-has_form w ↦ not_form c.args.family c.args.c.now c.requires.well_formed w.if-not-has_form.ensures.1
]

pub is_form-requires-clause-ring : goal.is_form-requires-clause-ring
is_form-requires-clause-ring c = record { algebra = algebra_valid c.args.c.now.algebra c.requires.well_formed.algebra; irreducible = c.requires.field }

pub is_form-requires-clause-jet : goal.is_form-requires-clause-jet
is_form-requires-clause-jet c = jet_valid (length c.args.c.now.names) c.args.c.now.order c.args.c.now.algebra c.args.c.now.jet c.requires.well_formed.jet

pub returns-in_err-is_form-clause-range : goal.returns-in_err-is_form-clause-range
returns-in_err-is_form-clause-range c =
    fault_handed_on c.from_residual.result c.from_residual.ensures.1 (λ high. inl (units_high c.args.family c.args.c.now c.requires.well_formed (sym c.if-not-is_family.ensures) (form_in_names c.args.family c.args.c.now c.requires.well_formed (c.if-not-has_form.ensures.0 refl)) high)) c.in_err-is_form.ensures.range

pub are_units-requires-clause-ring : goal.are_units-requires-clause-ring
are_units-requires-clause-ring c = record { algebra = algebra_valid c.args.c.now.algebra c.requires.well_formed.algebra; irreducible = c.requires.field }

pub returns-then-not-are_units-clause-units : goal.returns-then-not-are_units-clause-units
returns-then-not-are_units-clause-units c =
    read_where c.args.family c.args.c.now c.requires.well_formed (sym c.if-not-is_family.ensures) (form_in_names c.args.family c.args.c.now c.requires.well_formed (c.if-not-has_form.ensures.0 refl)) c.unwrap-values.result.items
    (values_in_names c.args.family c.args.c.now c.requires.well_formed c.in_ok-is_form.field-0 c.unwrap-values.result c.unwrap-values.ensures c.in_ok-is_form.ensures.values) false
    (c.if-not-are_units.ensures ∙ ap (λ xs. list_all (λ v. not ((scalars c.args.c.now.algebra).is_zero v)) (map (value_in c.args.c.now.algebra) xs)) c.deref.ensures.value)

pub with_inverses-requires-clause-field : goal.with_inverses-requires-clause-field
with_inverses-requires-clause-field c = record { algebra = algebra_valid c.args.c.now.algebra c.requires.well_formed.algebra; irreducible = c.requires.field }

pub returns-in_err-units-clause-range : goal.returns-in_err-units-clause-range
returns-in_err-units-clause-range c =
    fault_handed_on c.from_residual-in_err-units.result c.from_residual-in_err-units.ensures.1
    (λ high. inverse_high c.args.family c.args.c.now c.requires.well_formed (sym c.if-not-is_family.ensures) (form_in_names c.args.family c.args.c.now c.requires.well_formed (c.if-not-has_form.ensures.0 refl)) c.unwrap-values.result.items
    (values_in_names c.args.family c.args.c.now c.requires.well_formed c.in_ok-is_form.field-0 c.unwrap-values.result c.unwrap-values.ensures c.in_ok-is_form.ensures.values)
    (sym (c.if-not-are_units.ensures ∙ ap (λ xs. list_all (λ v. not ((scalars c.args.c.now.algebra).is_zero v)) (map (value_in c.args.c.now.algebra) xs)) c.deref.ensures.value))
    (subst (λ xs. Among (λ x. 2 ^ 120 ≤ (scalars c.args.c.now.algebra).inverse_height x) (map (value_in c.args.c.now.algebra) xs)) c.deref-2.ensures.value high)) c.in_err-units.ensures.range

pub returns-clause-units : goal.returns-clause-units
returns-clause-units c =
    subst (AreUnitsRead c.args.family c.args.c.now) (sym c.from_vec.ensures)
    (units_read c.args.family c.args.c.now c.requires.well_formed (sym c.if-not-is_family.ensures) (form_in_names c.args.family c.args.c.now c.requires.well_formed (c.if-not-has_form.ensures.0 refl)) c.unwrap-values.result.items
    (values_in_names c.args.family c.args.c.now c.requires.well_formed c.in_ok-is_form.field-0 c.unwrap-values.result c.unwrap-values.ensures c.in_ok-is_form.ensures.values) c.requires.field
    (sym (c.if-not-are_units.ensures ∙ ap (λ xs. list_all (λ v. not ((scalars c.args.c.now.algebra).is_zero v)) (map (value_in c.args.c.now.algebra) xs)) c.deref.ensures.value)) c.in_ok-units.units.items c.in_ok-units.ensures.elems
    (c.in_ok-units.ensures.values ∙ ap (map {B = Value c.args.c.now.algebra × Value c.args.c.now.algebra} (λ x. (value_in c.args.c.now.algebra x, (scalars c.args.c.now.algebra).inverse (value_in c.args.c.now.algebra x)))) c.deref-2.ensures.value))
