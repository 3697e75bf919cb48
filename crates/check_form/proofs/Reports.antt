-- The items Units and Modulus, by the coefficients that are read off the jet.
use Rattle.std.proofs.Common.{◌≡◌, ℕ, ◌↔◌, IsTrue, Bool, ◌++◌, map, length, refl, sym, ap, ◌∙◌}
use Rattle.std.specs.List.{AllByRecursion}
use Rattle.ext_algebra.specs.Algebra.{scalars, value_in, algebra_meaning, IsInverse}
use Rattle.jet_law.specs.Heights.{IsHigh}
use Rattle.normal_forms.specs.Families.{corank_of, kind_of}
use Rattle.normal_forms.specs.Units.{unit_values}
use Rattle.normal_forms.specs.Coefficients.{coefficients_in_sum, unit_values_in, unit_heights_in}
use Rattle.cert_text.specs.declared.report.Named as named_type
use Rattle.report_law.specs.Polynomials.{terms_in, residual_part, coefficient_at}
use Rattle.report_law.specs.Items.{coefficients_of, squares_of, AreUnits}
use Rattle.check_form.specs.FormHeights.{pair_heights, IsUnitsHigh}

module _ (r : named_type.Named) where
  -- the unit values of the jet are those of the report
  values_are : unit_values_in (algebra_meaning r.carried.algebra) r.family (length r.carried.names) r.carried.corank r.carried.jet.terms
      ≡ unit_values (scalars r.carried.algebra) (kind_of r.family) (coefficients_of r.carried r.family) ++ squares_of r.carried
  unfolding terms_in residual_part coefficient_at
  values_are = refl

  -- a test of the unit values and inverses is one of the item Units
  pub units_test : (b : Bool) (n : ℕ) → n ≡ length r.carried.names
      → (IsTrue b ↔ ((map (λ u. value_in r.carried.algebra u.0) r.units ≡ unit_values_in (algebra_meaning r.carried.algebra) r.family n r.carried.corank r.carried.jet.terms)
      × AllByRecursion (λ u. IsInverse r.carried.algebra u.0 u.1) r.units))
      → IsTrue b ↔ AreUnits r
  units_test b n variables h =
      let same = ap (λ k. unit_values_in (algebra_meaning r.carried.algebra) r.family k r.carried.corank r.carried.jet.terms) variables ∙ values_are in
      (λ t. let both = h.0 t in record { values = both.0 ∙ same; inverses = both.1 }, λ units. h.1 (units.values ∙ sym same, units.inverses))

  -- the heights of the unit values and products are those of the item
  pub units_high : IsHigh (unit_heights_in (algebra_meaning r.carried.algebra) r.family r.carried.corank r.carried.jet.terms
      ++ pair_heights (scalars r.carried.algebra) (value_in r.carried.algebra) r.units) → IsUnitsHigh r
  unfolding terms_in residual_part coefficient_at
  units_high h = h

  -- the coefficients at the monomials of the family's sum are those of the report
  pub coefficients_are : r.carried.corank ≡ corank_of r.family
      → coefficients_in_sum (algebra_meaning r.carried.algebra) r.family (corank_of r.family) r.carried.jet.terms ≡ coefficients_of r.carried r.family
  unfolding terms_in residual_part coefficient_at
  coefficients_are corank = ap (λ c. coefficients_in_sum (algebra_meaning r.carried.algebra) r.family c r.carried.jet.terms) (sym corank)
