-- The rows of units, of Mather's condition and of the table.
use Rattle.std.proofs.Common.{ℕ, zero, suc, ◌<◌, ◌≤◌, ◌^◌, eqb, List, [], ◌∷◌, ◌++◌, refl, arith, lit<}
use Rattle.std.specs.Prelude.{codes}
use Rattle.std.specs.List.{AllByRecursion, flat_map}
use Rattle.std.specs.Cmp.Derive.{both_true}
use Rattle.ext_algebra.specs.declared.algebra.Algebra.{Algebra}
use Rattle.jet_poly.specs.JetTerms.{JetTerms}
use Rattle.determinacy.specs.declared.row.MatherRow.{MatherRow}
use Rattle.milnor_alg.specs.declared.quotient.TableRow.{TableRow}
use Rattle.poly_text.specs.Numbers.{element_text}
use Rattle.poly_text.specs.Polynomials.{monomial_text, jet_text}
use Rattle.cert_text.specs.Text.{unit_text, multipliers_text, mather_text, table_text, unit_inside, values_text, mather_inside, table_inside}
use Rattle.cert_text.specs.WellFormed.{IsJetOf, AreJetsOf, IsRowOf, IsTableRowOf}
use Rattle.cert_law.specs.Unique.{IsSelfEnding}
use Rattle.cert_law.specs.Fields.{Element, UnitPair, IsUnitLine, IsRow, IsTableLine}
use Rattle.cert_law.proofs.Elements.{unit_line}
use Rattle.cert_law.proofs.Series.{mather_line, table_line}
use Rattle.cert_law.proofs.Reporting.{unit_by, row_by, table_row_by}
use Rattle.row_reader.specs.Values.{IsUnitPair, IsResidual}
use Rattle.row_reader.proofs.ValueTexts.{unit_valid}
use Rattle.report_reader.specs.declared.frame.Frame.{Frame}
use Rattle.report_reader.specs.Lines.{IsClean}
use Rattle.report_reader.specs.Rows.{AreMany, most_rows}
use Rattle.report_reader.specs.States.{IsFrame}
use Rattle.report_reader.proofs.Fronts.{clean-append, line-line, clean-flat_map}
use Rattle.report_reader.proofs.CleanTexts.{element_clean, jet_clean, monomial_clean}
use Rattle.report_reader.proofs.Stops.{IsLine}
use Rattle.report_reader.proofs.RowLines.{many_copies}
use Rattle.report_reader.proofs.PartLines.{drop_all, zero_jet, zero_part}
use Rattle.report_reader.proofs.Matrix.{zero_valid, values_clean, some_elements}
use Rattle.text_reader.proofs.ElementTexts.{zero_element}
use Rattle.text_reader.specs.Terms.{one_monomial}

told_by : {A : Type 0} (P Q : A → Type 0) (text : A → List ℕ) → ((a : A) → P a → Q a) → IsSelfEnding Q text → IsSelfEnding P text
told_by P Q text map t = record { one = λ a b x y pa pb e. t.one a b x y (map a pa) (map b pb) e }

-- ---- units

pub unit_clean : (a : Algebra) (u : UnitPair) → IsUnitPair a u → IsClean (unit_inside u)
unit_clean a u h =
    let p = unit_valid a u h in
    clean-append (element_text u.0) (32 ∷ element_text u.1) (element_clean a u.0 p.0)
    ((λ e. omega (arith, e)), element_clean a u.1 p.1)

pub unit_is_line : (a : Algebra) (u : UnitPair) → IsUnitPair a u → IsLine (unit_text u)
unfolding unit_text
unit_is_line a u h = line-line (unit_inside u) (unit_clean a u h)

pub unit_told : (a : Algebra) → IsSelfEnding (IsUnitPair a) unit_text
unit_told a = told_by (IsUnitPair a) IsUnitLine unit_text (unit_by a) unit_line

pub some_unit : UnitPair
some_unit = (zero_element, zero_element)

pub some_unit_valid : (a : Algebra) → IsUnitPair a some_unit
unfolding some_unit
some_unit_valid a = both_true (zero_valid a) (zero_valid a)

-- ---- monomials and multipliers

pub one_residual : (corank : ℕ) → IsResidual corank one_monomial
one_residual corank = both_true (drop_all (λ e. eqb e 0) 0 corank (0 ∷ 0 ∷ 0 ∷ 0 ∷ 0 ∷ 0 ∷ 0 ∷ 0 ∷ []) (omega arith) refl) refl

multiplier_clean : (f : Frame) → IsFrame f → (g : JetTerms Element) → IsJetOf f.corank f.order f.algebra g → IsClean (jet_text g)
multiplier_clean f w g h = jet_clean f.corank f.order f.algebra w.order_at_most g h

multipliers_clean : (f : Frame) → IsFrame f → (fs : List (JetTerms Element)) → AllByRecursion (IsJetOf f.corank f.order f.algebra) fs → IsClean (multipliers_text fs)
unfolding multipliers_text
multipliers_clean f w [] h = tt
multipliers_clean f w (g ∷ fs) h = (
  (λ e. omega (arith, e)),
  clean-append (jet_text g) (flat_map (λ g. codes " ; " ++ jet_text g) fs) (multiplier_clean f w g h.0)
      (clean-flat_map (IsJetOf f.corank f.order f.algebra) (λ g. codes " ; " ++ jet_text g) (λ g q. clean-append (codes " ; ") (jet_text g) (omega arith) (multiplier_clean f w g q)) fs h.1),
)

pub some_multipliers : (f : Frame) → (fs : List (JetTerms Element)) × AreJetsOf f.algebra f.corank f.order fs
some_multipliers f =
    let r = many_copies (IsJetOf f.corank f.order f.algebra) f.corank (zero_jet f.corank f.order) (zero_part f.corank f.order f.algebra).jet in
    (r.0, record { count = r.1.0; each = r.1.1 })

-- ---- rows of Mather's condition

pub mather_clean : (f : Frame) → IsFrame f → (row : MatherRow Element) → IsRowOf f.algebra f.corank f.order row → IsClean (mather_inside row)
mather_clean f w row h =
    clean-append (monomial_text row.monomial ++ codes " =") (multipliers_text row.multipliers)
    (clean-append (monomial_text row.monomial) (codes " =") (monomial_clean f.corank row.monomial h.monomial) (omega arith))
    (multipliers_clean f w row.multipliers h.multipliers.each)

pub mather_is_line : (f : Frame) → IsFrame f → (row : MatherRow Element) → IsRowOf f.algebra f.corank f.order row → IsLine (mather_text row)
unfolding mather_text
mather_is_line f w row h = line-line (mather_inside row) (mather_clean f w row h)

pub mather_told : (f : Frame) → IsFrame f → IsSelfEnding (IsRowOf f.algebra f.corank f.order) mather_text
mather_told f w = told_by (IsRowOf f.algebra f.corank f.order) (IsRow f.corank f.order) mather_text
    (row_by f.algebra f.corank f.order w.order_at_most) (mather_line f.corank f.order)

pub some_row : (f : Frame) → 1 ≤ f.corank → (row : MatherRow Element) × IsRowOf f.algebra f.corank f.order row
some_row f le = let fs = some_multipliers f in (record { monomial = one_monomial; multipliers = fs.0 }, record { residual = le; monomial = one_residual f.corank; multipliers = fs.1 })

pub residual_there : (corank i count : ℕ) → i < count → count ≤ most_rows corank → 1 ≤ corank
residual_there zero i count lt le = absurd (omega (arith, lt, le))
residual_there (suc c) i count lt le = omega arith

pub some_rows : (f : Frame) (k : ℕ) → k ≤ most_rows f.corank → (rows : List (MatherRow Element)) × AreMany (IsRowOf f.algebra f.corank f.order) k rows
some_rows f zero le = ([], (refl, tt))
some_rows f (suc k) le = let row = some_row f (residual_there f.corank k (suc k) (omega arith) le) in many_copies (IsRowOf f.algebra f.corank f.order) (suc k) row.0 row.1

pub most_at_most : (corank k : ℕ) → k ≤ most_rows corank → k ≤ 1140
most_at_most zero k le = omega (arith, le)
most_at_most (suc c) k le = le

pub most_small : (corank : ℕ) → most_rows corank < 2 ^ 64
most_small zero = lit< tt
most_small (suc c) = lit< tt

-- ---- rows of the table

pub table_clean : (f : Frame) (size : ℕ) → IsFrame f → (row : TableRow Element) → IsTableRowOf f.algebra f.corank f.order size row → IsClean (table_inside row)
table_clean f size w row h =
    clean-append (monomial_text row.monomial ++ codes " =" ++ values_text row.values ++ codes " :") (multipliers_text row.multipliers)
    (clean-append (monomial_text row.monomial ++ codes " =" ++ values_text row.values) (codes " :")
    (clean-append (monomial_text row.monomial ++ codes " =") (values_text row.values)
    (clean-append (monomial_text row.monomial) (codes " =") (monomial_clean f.corank row.monomial h.monomial) (omega arith))
    (values_clean f.algebra row.values h.values)) (omega arith))
    (multipliers_clean f w row.multipliers h.multipliers.each)

pub table_is_line : (f : Frame) (size : ℕ) → IsFrame f → (row : TableRow Element) → IsTableRowOf f.algebra f.corank f.order size row → IsLine (table_text row)
unfolding table_text
table_is_line f size w row h = line-line (table_inside row) (table_clean f size w row h)

pub table_told : (f : Frame) (size : ℕ) → IsFrame f → IsSelfEnding (IsTableRowOf f.algebra f.corank f.order size) table_text
table_told f size w = told_by (IsTableRowOf f.algebra f.corank f.order size) (IsTableLine size f.corank f.order) table_text
    (table_row_by f.algebra f.corank f.order size w.order_at_most) (table_line size f.corank f.order)

pub some_table_row : (f : Frame) (size : ℕ) → (row : TableRow Element) × IsTableRowOf f.algebra f.corank f.order size row
some_table_row f size =
    let fs = some_multipliers f in
    let es = some_elements f.algebra size in
    (record { monomial = one_monomial; values = es.0; multipliers = fs.0 }, record { monomial = one_residual f.corank; count = es.1.count_is; values = es.1.elements; multipliers = fs.1 })
