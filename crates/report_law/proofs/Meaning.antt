-- The printed quotient of a valid named report is free with the printed basis.
use Rattle.std.proofs.Common.{ℕ, ◌<◌, List, length, subst}
use Rattle.std.specs.List.{AllByRecursion}
use Rattle.ring_theory.proofs.ValueSet.{values_are_set}
use Rattle.ext_algebra.specs.Algebra.{scalars}
use Rattle.ext_algebra.specs.AlgebraLaws.{algebra_scalar_laws}
use Rattle.poly_law.specs.ExpList.{exps}
use Rattle.poly_law.specs.Poly.{IsQuotient}
use Rattle.poly_law.proofs.LawsOverRings as over_rings
use Rattle.line_syntax.specs.Syntax.{Line}
use Rattle.cert_text.specs.declared.report.Named as named_type
use Rattle.report_law.specs.Items.{ring_of, variables_of, jet_of, residual_of, basis_of, values_of_row, multipliers_of_row}
use Rattle.report_law.specs.Valid.{NamedItem, named_items}
use Rattle.report_law.specs.Meaning.{NamedIsFree, NamedIsFreeWhole, placed, placed_values}
use Rattle.report_law.proofs.NamedRows.{form_is_split, half_inverse, squares_are_inverted}

-- the printed table is one of the residual part
table_is : (bytes : List ℕ) (l : Line) (r : named_type.Named) → AllByRecursion (NamedItem bytes l r) named_items
    → IsQuotient (exps r.carried.corank) (ring_of r.carried) r.carried.order (residual_of r.carried) (length r.quotient.basis) (basis_of r) (values_of_row r)
table_is bytes l r items =
    let table = items.1.1.1.1.1.1.1.1.0 in
    over_rings.quotient_of_table (scalars r.carried.algebra).ops (algebra_scalar_laws r.carried.algebra).ring r.carried.corank r.carried.order (residual_of r.carried) (length r.quotient.basis) (basis_of r) (values_of_row r) (multipliers_of_row r) table.quotient

pub named_free : NamedIsFree
named_free bytes l r items =
    let s = scalars r.carried.algebra in
    let laws = algebra_scalar_laws r.carried.algebra in
    let free = over_rings.quotient_free s.ops laws.ring (values_are_set s laws) r.carried.corank r.carried.order (residual_of r.carried) (length r.quotient.basis) (basis_of r) (values_of_row r) (table_is bytes l r items) in
    record {
      spans = free.0;
      independent = λ v h j below. free.1 v h j (subst (λ n. j < n) items.1.1.1.1.1.1.1.1.0.number below);
    }

pub named_free_whole : NamedIsFreeWhole
named_free_whole bytes l r form items =
    let s = scalars r.carried.algebra in
    let laws = algebra_scalar_laws r.carried.algebra in
    let n = variables_of r.carried in
    let size = length r.quotient.basis in
    let split = over_rings.quotient_of_split s.ops laws.ring (values_are_set s laws) n r.carried.corank form.carried.corank (jet_of r.carried) (residual_of r.carried) (form_is_split bytes l r form items)
    (half_inverse bytes l r form items) (squares_are_inverted bytes l r form items) r.carried.order size (basis_of r) (values_of_row r) (table_is bytes l r items) in
    let free = over_rings.quotient_free s.ops laws.ring (values_are_set s laws) n r.carried.order (jet_of r.carried) size (λ j. placed r (basis_of r j)) (placed_values r) split in
    record {
      spans = free.0;
      independent = λ v h j below. free.1 v h j (subst (λ k. j < k) items.1.1.1.1.1.1.1.1.0.number below);
    }
