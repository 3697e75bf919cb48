-- The lines of named and unresolved germs, one block after the other.
use Rattle.std.proofs.Common.{◌≡◌, ℕ, zero, suc, ◌<◌, ◌≤◌, ◌^◌, List, [], ◌∷◌, ◌++◌, length, refl, sym, ap, ◌∙◌, subst, append_assoc, append-nil, arith, lit<}
use Rattle.std.specs.Prelude.{decimal, IsTrue}
use Rattle.std.specs.List.{AllByRecursion, flat_map}
use Rattle.std.specs.Cmp.Derive.{both_true}
use Rattle.ext_algebra.specs.declared.algebra.Algebra.{Algebra}
use Rattle.mono_exp.specs.declared.exponent.Exp.{Exp}
use Rattle.determinacy.specs.declared.row.MatherRow.{MatherRow}
use Rattle.milnor_alg.specs.declared.quotient.TableRow.{TableRow}
use Rattle.normal_forms.specs.declared.family.Family.{Family}
use Rattle.normal_forms.specs.declared.modulus_line.ModulusLine.{ModulusLine}
use Rattle.normal_forms.specs.declared.modulus_line.ModulusLine.TheVariants as moduli
use Rattle.poly_text.specs.Polynomials.{monomial_text}
use Rattle.cert_text.specs.declared.report.Carried.{Carried}
use Rattle.cert_text.specs.declared.report.Named as named_type
use Rattle.cert_text.specs.declared.report.Unresolved as unresolved_type
use Rattle.cert_text.specs.declared.word.Word.{Word}
use Rattle.cert_text.specs.declared.word.Word.TheVariants as words
use Rattle.cert_text.specs.Words.{word_text}
use Rattle.cert_text.specs.Text.{word_line, carried_text, unit_text, modulus_text, mather_text, table_text, basis_inside, monomials_text}
use Rattle.cert_text.specs.BadText.{IsWholeLines}
use Rattle.cert_text.specs.WellFormed.{IsWellFormedCarried, IsWellFormedUnresolved, AreRows, is_valid_modulus, IsRowOf, IsTableRowOf, IsFamily, is_low_monomial, is_unit_pair}
use Rattle.cert_law.specs.Unique.{IsSelfEnding}
use Rattle.cert_law.specs.Fields.{Element, UnitPair, IsMonomial}
use Rattle.cert_law.proofs.Valid.{all_from}
use Rattle.cert_law.proofs.Carrying.{block_one}
use Rattle.cert_law.proofs.Reporting as reporting
use Rattle.row_reader.specs.Values.{IsUnitPair, AreResidual, IsResidual}
use Rattle.row_reader.proofs.ValueTexts.{all_list, list_each}
use Rattle.report_reader.specs.declared.named.Front.{Front}
use Rattle.report_reader.specs.Lines.{IsClean, IsWithin}
use Rattle.report_reader.specs.Blocks.{IsStop, IsNotAtFront}
use Rattle.report_reader.specs.Rows.{AreAtMost, counted_text, most_rows}
use Rattle.report_reader.specs.States.{IsFrame}
use Rattle.report_reader.specs.Evidence.{frame_of, IsBasis, basis_line, IsFront, IsNamedAs, IsOfFamily, table_rest, basis_rest, mather_rest, milnor_rest, modulus_rest, units_rest, named_rest, unresolved_rest}
use Rattle.report_reader.proofs.Fronts.{clean-append, line-line, line-word_line, line_front, word_clean, clean-flat_map}
use Rattle.report_reader.proofs.CleanTexts.{modulus_clean, monomial_clean}
use Rattle.report_reader.proofs.Stops.{IsLine, IsPair, stop_before, pair_first, pair_second, whole-append, whole-line}
use Rattle.report_reader.proofs.RowLines.{field_pair, line_stop, numbers_told, number_is_line, rows_whole}
use Rattle.report_reader.proofs.CarriedLines.{carried_whole, carried_told}
use Rattle.report_reader.proofs.EvidenceLines.{one_residual, unit_told, unit_is_line, mather_told, mather_is_line, most_at_most, most_small}
use Rattle.text_reader.specs.Terms.{one_monomial}

-- ---- rows with their count are told from their lines

pub counted_told : {A : Type 0} (w : Word) (most : ℕ) (valid : A → Type 0) (text : A → List ℕ) → most < 2 ^ 64 → IsSelfEnding valid text → IsSelfEnding (AreAtMost valid most) (counted_text w text)
counted_told w most valid text lt told = record {
  one = λ us vs x y ou ov e.
      let a = ou.0 in
      let b = ov.0 in
      block_one w valid text told us vs x y (omega (arith, a, lt)) (omega (arith, b, lt)) ou.1 ov.1
      (sym (append_assoc (word_line w (decimal (length us))) (flat_map text us) x) ∙ e ∙ append_assoc (word_line w (decimal (length vs))) (flat_map text vs) y);
}

pub counted_whole : {A : Type 0} (w : Word) (most : ℕ) (valid : A → Type 0) (text : A → List ℕ) → most < 2 ^ 64 → ((a : A) → valid a → IsLine (text a)) → (xs : List A) → AreAtMost valid most xs → IsWholeLines (counted_text w text xs)
counted_whole w most valid text lt lines xs h =
    let le = h.0 in
    whole-append (word_line w (decimal (length xs))) (flat_map text xs) (whole-line (word_line w (decimal (length xs))) (number_is_line w 0 most lt (length xs) (omega arith, le))) (rows_whole valid text lines xs h.1)

-- ---- the basis

all_residual : (corank : ℕ) (ms : List Exp) → AreResidual corank ms → AllByRecursion IsMonomial ms
all_residual corank ms h = all_from (is_low_monomial corank) IsMonomial (reporting.low_monomial corank) ms h

pub basis_clean : (corank : ℕ) (ms : List Exp) → AreResidual corank ms → IsClean (basis_inside ms)
basis_clean corank ms h =
    clean-append (word_text words.Basis) (monomials_text ms) (word_clean words.Basis)
    (clean-flat_map (IsResidual corank) (λ m. 32 ∷ monomial_text m) (λ m r. ((λ e. omega (arith, e)), monomial_clean corank m r)) ms (list_each (is_low_monomial corank) ms h))

pub basis_is_line : (corank : ℕ) (ms : List Exp) → IsBasis corank ms → IsLine (basis_line ms)
basis_is_line corank ms h = line-line (basis_inside ms) (basis_clean corank ms h.residual)

basis_told : (corank : ℕ) → IsSelfEnding (IsBasis corank) basis_line
basis_told corank = record { one = λ us vs x y ou ov e. reporting.basis_rest us vs x y (all_residual corank us ou.residual) (all_residual corank vs ov.residual) e }

some_basis : (corank : ℕ) → IsBasis corank (one_monomial ∷ [])
some_basis corank = record { some = omega arith; few = omega arith; residual = both_true (one_residual corank) refl }

-- ---- validity of rows, in the words of a report

pub rows_from : (c : Carried) (rows : List (MatherRow Element)) → AreAtMost (IsRowOf c.algebra c.corank c.order) (most_rows c.corank) rows → AreRows c rows
rows_from c rows h = record { few = most_at_most c.corank (length rows) h.0; each = h.1 }

pub rows_to : (c : Carried) (rows : List (MatherRow Element)) → AreRows c rows → AreAtMost (IsRowOf c.algebra c.corank c.order) (most_rows c.corank) rows
rows_to c rows h = (few_of c.corank rows (λ row q. q.residual) h.few h.each, h.each)
  where
    few_of : (corank : ℕ) (rows : List (MatherRow Element)) → ((row : MatherRow Element) → IsRowOf c.algebra c.corank c.order row → 1 ≤ corank) → length rows ≤ 1140 → AllByRecursion (IsRowOf c.algebra c.corank c.order) rows → length rows ≤ most_rows corank
    few_of zero [] res few each = omega arith
    few_of zero (row ∷ rows) res few each = let q = res row each.0 in absurd (omega (arith, q))
    few_of (suc k) rows res few each = few

pub carried_frame : (c : Carried) → IsWellFormedCarried c → IsFrame (frame_of c)
carried_frame c h = let le = h.corank in let few = h.few_names in record { order_at_least = h.order_at_least; order_at_most = h.order_at_most; algebra = h.algebra; corank = omega (arith, le, few) }

-- ---- a named report of its lines

abbrev made_named : Front → List (MatherRow Element) → List Exp → List (TableRow Element) → named_type.Named
made_named f rows basis table = record { family = f.family; carried = f.carried; units = f.units; modulus = f.modulus; milnor = f.milnor; mather = rows; quotient = record { basis = basis; table = table } }

abbrev pub RowsOf : Front → List (MatherRow Element) → Type 0
RowsOf f rows = AreAtMost (IsRowOf f.carried.algebra f.carried.corank f.carried.order) (most_rows f.carried.corank) rows

abbrev pub TableOf : Front → ℕ → List (TableRow Element) → Type 0
TableOf f size table = AreAtMost (IsTableRowOf f.carried.algebra f.carried.corank f.carried.order size) 1140 table

pub named_made : (f : Front) (rows : List (MatherRow Element)) (basis : List Exp) (table : List (TableRow Element)) → IsFront f → RowsOf f rows → IsBasis f.carried.corank basis → TableOf f (length basis) table → IsNamedAs f (made_named f rows basis table)
named_made f rows basis table w hr hb ht = record {
  valid = record {
    family = w.family;
    carried = w.carried;
    few_units = w.units.0;
    units = all_list (is_unit_pair f.carried.algebra) f.units w.units.1;
    modulus = w.modulus;
    milnor = w.milnor;
    mather = rows_from f.carried rows hr;
    basis_nonempty = hb.some;
    few_in_basis = hb.few;
    basis = hb.residual;
    few_in_table = ht.0;
    table = ht.1;
  };
  family = refl;
  carried = refl;
  units = refl;
  modulus = refl;
  milnor = refl;
}

-- ---- the lines behind the Milnor number

rows_in : (f : Front) (r : named_type.Named) → IsNamedAs f r → RowsOf f r.mather
rows_in f r h = subst (λ (c : Carried). AreAtMost (IsRowOf c.algebra c.corank c.order) (most_rows c.corank) r.mather) h.carried (rows_to r.carried r.mather h.valid.mather)

basis_in : (f : Front) (r : named_type.Named) → IsNamedAs f r → IsBasis f.carried.corank r.quotient.basis
basis_in f r h = record { some = h.valid.basis_nonempty; few = h.valid.few_in_basis; residual = subst (λ (c : Carried). AreResidual c.corank r.quotient.basis) h.carried h.valid.basis }

table_in : (f : Front) (r : named_type.Named) → IsNamedAs f r → TableOf f (length r.quotient.basis) r.quotient.table
table_in f r h = subst (λ (c : Carried). AreAtMost (IsTableRowOf c.algebra c.corank c.order (length r.quotient.basis)) 1140 r.quotient.table) h.carried
    (h.valid.few_in_table, h.valid.table)

mather_pair : (f : Front) → IsFront f → IsPair (RowsOf f) (counted_text words.Mather mather_text) (λ rows r. IsNamedAs f r × (r.mather ≡ rows)) basis_rest (IsNamedAs f) mather_rest
unfolding mather_rest
mather_pair f w =
    let fw = carried_frame f.carried w.carried in
    field_pair (RowsOf f) (counted_text words.Mather mather_text) (IsNamedAs f) mather_rest (λ r. r.mather) basis_rest
    (counted_whole words.Mather (most_rows f.carried.corank) (IsRowOf f.carried.algebra f.carried.corank f.carried.order) mather_text (most_small f.carried.corank) (mather_is_line (frame_of f.carried) fw))
    (counted_told words.Mather (most_rows f.carried.corank) (IsRowOf f.carried.algebra f.carried.corank f.carried.order) mather_text (most_small f.carried.corank) (mather_told (frame_of f.carried) fw))
    (λ rows h. (made_named f rows (one_monomial ∷ []) [], named_made f rows (one_monomial ∷ []) [] w h (some_basis f.carried.corank) (omega arith, tt), refl))
    (rows_in f) (λ r h. refl)

abbrev HasRows : Front → List (MatherRow Element) → named_type.Named → Type 0
HasRows f rows r = IsNamedAs f r × (r.mather ≡ rows)

basis_pair : (f : Front) (rows : List (MatherRow Element)) → IsFront f → RowsOf f rows → IsPair (IsBasis f.carried.corank) basis_line (λ basis r. HasRows f rows r × (r.quotient.basis ≡ basis)) table_rest (HasRows f rows) basis_rest
unfolding basis_rest
basis_pair f rows w h =
    field_pair (IsBasis f.carried.corank) basis_line (HasRows f rows) basis_rest (λ r. r.quotient.basis) table_rest
    (λ basis b. whole-line (basis_line basis) (basis_is_line f.carried.corank basis b)) (basis_told f.carried.corank)
    (λ basis b. (made_named f rows basis [], (named_made f rows basis [] w h b (omega arith, tt), refl), refl))
    (λ r v. basis_in f r v.0) (λ r v. refl)

pub stop_in_rows : (f : Front) (bytes : List ℕ) (left : ℕ) → IsFront f → IsStop (RowsOf f) (counted_text words.Mather mather_text) bytes left → IsStop (IsNamedAs f) mather_rest bytes left
stop_in_rows f bytes left w s = pair_first (RowsOf f) (counted_text words.Mather mather_text) (HasRows f) basis_rest (IsNamedAs f) mather_rest bytes left (mather_pair f w) s

pub stop_at_basis : (f : Front) (rows : List (MatherRow Element)) (bytes rest : List ℕ) → IsFront f → RowsOf f rows → counted_text words.Mather mather_text rows ++ rest ≡ bytes → IsNotAtFront (IsBasis f.carried.corank) basis_line rest → IsStop (IsNamedAs f) mather_rest bytes (length rest)
stop_at_basis f rows bytes rest w h e none =
    pair_second (RowsOf f) (counted_text words.Mather mather_text) (HasRows f) basis_rest (IsNamedAs f) mather_rest rows bytes rest (length rest) (mather_pair f w) h e
    (pair_first (IsBasis f.carried.corank) basis_line (λ basis r. HasRows f rows r × (r.quotient.basis ≡ basis)) table_rest (HasRows f rows) basis_rest rest (length rest) (basis_pair f rows w h)
    (line_stop (IsBasis f.carried.corank) basis_line rest (one_monomial ∷ []) (some_basis f.carried.corank) (basis_is_line f.carried.corank) none))

pub stop_in_table : (f : Front) (rows : List (MatherRow Element)) (basis : List Exp) (size : ℕ) (bytes rest last : List ℕ) (left : ℕ) → IsFront f → size ≡ length basis → RowsOf f rows → counted_text words.Mather mather_text rows ++ rest ≡ bytes → IsBasis f.carried.corank basis → basis_line basis ++ last ≡ rest
    → IsStop (TableOf f size) (counted_text words.Table table_text) last left → IsStop (IsNamedAs f) mather_rest bytes left
stop_in_table f rows basis size bytes rest last left w same h e b d s =
    pair_second (RowsOf f) (counted_text words.Mather mather_text) (HasRows f) basis_rest (IsNamedAs f) mather_rest rows bytes rest left (mather_pair f w) h e
    (pair_second (IsBasis f.carried.corank) basis_line (λ basis r. HasRows f rows r × (r.quotient.basis ≡ basis)) table_rest (HasRows f rows) basis_rest basis rest last left (basis_pair f rows w h) b d
    (stop_before (TableOf f (length basis)) (counted_text words.Table table_text) (λ r. HasRows f rows r × (r.quotient.basis ≡ basis)) table_rest last left
    (λ table t. (made_named f rows basis table, ((named_made f rows basis table w h b t, refl), refl), ([], sym (append-nil (counted_text words.Table table_text table)))))
    (λ r v. (r.quotient.table, subst (λ (z : List Exp). TableOf f (length z) r.quotient.table) v.1 (table_in f r v.0.0), ([], sym (append-nil (table_rest r)))))
    (subst (λ (k : ℕ). IsStop (TableOf f k) (counted_text words.Table table_text) last left) same s)))

pub evidence_read : (f : Front) (rows : List (MatherRow Element)) (basis : List Exp) (size : ℕ) (table : List (TableRow Element)) (r : named_type.Named) (bytes rest last end : List ℕ) → IsFront f → size ≡ length basis → r ≡ made_named f rows basis table
    → RowsOf f rows → counted_text words.Mather mather_text rows ++ rest ≡ bytes → IsBasis f.carried.corank basis → basis_line basis ++ last ≡ rest → TableOf f size table → counted_text words.Table table_text table ++ end ≡ last
    → IsNamedAs f r × (mather_rest r ++ end ≡ bytes)
unfolding mather_rest basis_rest
evidence_read f rows basis size table r bytes rest last end w same is h e b d t q = (
  subst (IsNamedAs f) (sym is) (named_made f rows basis table w h b (subst (λ (k : ℕ). TableOf f k table) same t)),
  ap (λ (z : named_type.Named). mather_rest z ++ end) is ∙ append_assoc (counted_text words.Mather mather_text rows) (basis_line basis ++ counted_text words.Table table_text table) end
      ∙ ap (λ (z : List ℕ). counted_text words.Mather mather_text rows ++ z) (append_assoc (basis_line basis) (counted_text words.Table table_text table) end ∙ ap (λ (z : List ℕ). basis_line basis ++ z) q ∙ d) ∙ e,
)

-- no line of a basis of this size
pub basis_size : (corank : ℕ) (basis : List Exp) (text rest bytes : List ℕ) → AreResidual corank basis → basis_inside basis ≡ text → bytes ≡ text ++ 10 ∷ rest → (IsWithin 1 1140 (length basis) → ⊥) → IsNotAtFront (IsBasis corank) basis_line bytes
basis_size corank basis text rest bytes res same e not_in v more h q =
    let one = reporting.basis_rest v basis more rest (all_residual corank v h.residual) (all_residual corank basis res) (q ∙ sym (line_front (basis_inside basis) text rest bytes same e)) in
    not_in (subst (λ (z : List Exp). IsWithin 1 1140 (length z)) one.0 (h.some, h.few))

-- ---- the lines from the germ in new variables to the Milnor number

front_of : Family → Carried → List UnitPair → ModulusLine → ℕ → Front
front_of family c units m k = record { family = family; carried = c; units = units; modulus = m; milnor = k }

is_front_of : (family : Family) (c : Carried) (units : List UnitPair) (m : ModulusLine) (k : ℕ) → IsFamily family → IsWellFormedCarried c → AreAtMost (IsUnitPair c.algebra) 1140 units → IsTrue (is_valid_modulus c.algebra m) → k < 2 ^ 32 → IsFront (front_of family c units m k)
unfolding front_of
is_front_of family c units m k a b d e g = record { family = a; carried = b; units = d; modulus = e; milnor = g }

some_named : (family : Family) (c : Carried) (units : List UnitPair) (m : ModulusLine) (k : ℕ) → IsFamily family → IsWellFormedCarried c → AreAtMost (IsUnitPair c.algebra) 1140 units → IsTrue (is_valid_modulus c.algebra m) → k < 2 ^ 32 → (r : named_type.Named) × IsNamedAs (front_of family c units m k) r
unfolding front_of
some_named family c units m k a b d e g =
    let f = front_of family c units m k in
    (made_named f [] (one_monomial ∷ []) [], named_made f [] (one_monomial ∷ []) [] (is_front_of family c units m k a b d e g) (omega arith, tt) (some_basis c.corank) (omega arith, tt))

abbrev HasCarried : Family → Carried → named_type.Named → Type 0
HasCarried family c r = IsOfFamily family r × (r.carried ≡ c)

abbrev HasUnits : Family → Carried → List UnitPair → named_type.Named → Type 0
HasUnits family c us r = HasCarried family c r × (r.units ≡ us)

abbrev HasModulus : Family → Carried → List UnitPair → ModulusLine → named_type.Named → Type 0
HasModulus family c us m r = HasUnits family c us r × (r.modulus ≡ m)

abbrev HasMilnor : Family → Carried → List UnitPair → ModulusLine → ℕ → named_type.Named → Type 0
HasMilnor family c us m k r = HasModulus family c us m r × (r.milnor ≡ k)

carried_pair : (family : Family) → IsFamily family → IsPair IsWellFormedCarried (carried_text words.Form) (λ c r. IsOfFamily family r × (r.carried ≡ c)) units_rest (IsOfFamily family) named_rest
unfolding named_rest front_of
carried_pair family w = field_pair IsWellFormedCarried (carried_text words.Form) (IsOfFamily family) named_rest (λ r. r.carried) units_rest
    (carried_whole words.Form) (carried_told words.Form)
    (λ c h. let r = some_named family c [] moduli.None 0 w h (omega arith, tt) refl (lit< tt) in (r.0, (r.1.valid, r.1.family), r.1.carried))
    (λ r h. h.0.carried) (λ r h. refl)

units_pair : (family : Family) (c : Carried) → IsFamily family → IsWellFormedCarried c → IsPair (AreAtMost (IsUnitPair c.algebra) 1140) (counted_text words.Units unit_text) (λ us r. HasCarried family c r × (r.units ≡ us)) modulus_rest (HasCarried family c) units_rest
unfolding units_rest front_of
units_pair family c w wc = field_pair (AreAtMost (IsUnitPair c.algebra) 1140) (counted_text words.Units unit_text) (HasCarried family c) units_rest (λ r. r.units) modulus_rest
    (counted_whole words.Units 1140 (IsUnitPair c.algebra) unit_text (lit< tt) (unit_is_line c.algebra)) (counted_told words.Units 1140 (IsUnitPair c.algebra) unit_text (lit< tt) (unit_told c.algebra))
    (λ us h. let r = some_named family c us moduli.None 0 w wc h refl (lit< tt) in (r.0, ((r.1.valid, r.1.family), r.1.carried), r.1.units))
    (λ r h. subst (λ (z : Carried). AreAtMost (IsUnitPair z.algebra) 1140 r.units) h.1 (h.0.0.few_units, list_each (is_unit_pair r.carried.algebra) r.units h.0.0.units)) (λ r h. refl)

modulus_is_line : (a : Algebra) (m : ModulusLine) → IsTrue (is_valid_modulus a m) → IsLine (word_line words.Modulus (modulus_text m))
modulus_is_line a m h = line-word_line words.Modulus (modulus_text m) (modulus_clean a m h)

modulus_pair : (family : Family) (c : Carried) (us : List UnitPair) → IsFamily family → IsWellFormedCarried c → AreAtMost (IsUnitPair c.algebra) 1140 us
    → IsPair (λ m. IsTrue (is_valid_modulus c.algebra m)) (λ m. word_line words.Modulus (modulus_text m)) (λ m r. HasUnits family c us r × (r.modulus ≡ m)) milnor_rest (HasUnits family c us) modulus_rest
unfolding modulus_rest front_of
modulus_pair family c us w wc wu = field_pair (λ m. IsTrue (is_valid_modulus c.algebra m)) (λ m. word_line words.Modulus (modulus_text m)) (HasUnits family c us) modulus_rest (λ r. r.modulus) milnor_rest
    (λ m h. whole-line (word_line words.Modulus (modulus_text m)) (modulus_is_line c.algebra m h)) (record { one = λ p q x y op oq e. reporting.modulus_line c.algebra c.algebra p q x y op oq e })
    (λ m h. let r = some_named family c us m 0 w wc wu h (lit< tt) in (r.0, (((r.1.valid, r.1.family), r.1.carried), r.1.units), r.1.modulus))
    (λ r h. subst (λ (z : Carried). IsTrue (is_valid_modulus z.algebra r.modulus)) h.0.1 h.0.0.0.modulus) (λ r h. refl)

milnor_pair : (family : Family) (c : Carried) (us : List UnitPair) (m : ModulusLine) → IsFamily family → IsWellFormedCarried c → AreAtMost (IsUnitPair c.algebra) 1140 us → IsTrue (is_valid_modulus c.algebra m)
    → IsPair (IsWithin 0 4294967295) (λ k. word_line words.Milnor (decimal k)) (λ k r. HasModulus family c us m r × (r.milnor ≡ k)) mather_rest (HasModulus family c us m) milnor_rest
unfolding milnor_rest front_of
milnor_pair family c us m w wc wu wm = field_pair (IsWithin 0 4294967295) (λ k. word_line words.Milnor (decimal k)) (HasModulus family c us m) milnor_rest (λ r. r.milnor) mather_rest
    (λ k h. whole-line (word_line words.Milnor (decimal k)) (number_is_line words.Milnor 0 4294967295 (lit< tt) k h)) (numbers_told words.Milnor 0 4294967295 (lit< tt))
    (λ k h. let le = h.1 in let r = some_named family c us m k w wc wu wm (omega (arith, le)) in (r.0, ((((r.1.valid, r.1.family), r.1.carried), r.1.units), r.1.modulus), r.1.milnor))
    (λ r h. let lt = h.0.0.0.0.milnor in (omega arith, omega (arith, lt))) (λ r h. refl)

-- ---- stops in these lines

pub stop_in_carried : (family : Family) (bytes : List ℕ) (left : ℕ) → IsFamily family → IsStop IsWellFormedCarried (carried_text words.Form) bytes left → IsStop (IsOfFamily family) named_rest bytes left
stop_in_carried family bytes left w s = pair_first IsWellFormedCarried (carried_text words.Form) (HasCarried family) units_rest (IsOfFamily family) named_rest bytes left (carried_pair family w) s

pub behind_carried : (family : Family) (c : Carried) (bytes one : List ℕ) (left : ℕ) → IsFamily family → IsWellFormedCarried c → carried_text words.Form c ++ one ≡ bytes → IsStop (HasCarried family c) units_rest one left → IsStop (IsOfFamily family) named_rest bytes left
behind_carried family c bytes one left w wc e s = pair_second IsWellFormedCarried (carried_text words.Form) (HasCarried family) units_rest (IsOfFamily family) named_rest c bytes one left (carried_pair family w) wc e s

pub stop_in_units : (family : Family) (c : Carried) (bytes one : List ℕ) (left : ℕ) → IsFamily family → IsWellFormedCarried c → carried_text words.Form c ++ one ≡ bytes
    → IsStop (AreAtMost (IsUnitPair c.algebra) 1140) (counted_text words.Units unit_text) one left → IsStop (IsOfFamily family) named_rest bytes left
stop_in_units family c bytes one left w wc e s = behind_carried family c bytes one left w wc e
    (pair_first (AreAtMost (IsUnitPair c.algebra) 1140) (counted_text words.Units unit_text) (HasUnits family c) modulus_rest (HasCarried family c) units_rest one left (units_pair family c w wc) s)

behind_units : (family : Family) (c : Carried) (us : List UnitPair) (bytes one two : List ℕ) (left : ℕ) → IsFamily family → IsWellFormedCarried c → carried_text words.Form c ++ one ≡ bytes → AreAtMost (IsUnitPair c.algebra) 1140 us → counted_text words.Units unit_text us ++ two ≡ one
    → IsStop (HasUnits family c us) modulus_rest two left → IsStop (IsOfFamily family) named_rest bytes left
behind_units family c us bytes one two left w wc e wu d s = behind_carried family c bytes one left w wc e
    (pair_second (AreAtMost (IsUnitPair c.algebra) 1140) (counted_text words.Units unit_text) (HasUnits family c) modulus_rest (HasCarried family c) units_rest us one two left (units_pair family c w wc) wu d s)

pub stop_at_modulus : (family : Family) (c : Carried) (us : List UnitPair) (bytes one two : List ℕ) → IsFamily family → IsWellFormedCarried c → carried_text words.Form c ++ one ≡ bytes → AreAtMost (IsUnitPair c.algebra) 1140 us → counted_text words.Units unit_text us ++ two ≡ one
    → IsNotAtFront (λ m. IsTrue (is_valid_modulus c.algebra m)) (λ m. word_line words.Modulus (modulus_text m)) two → IsStop (IsOfFamily family) named_rest bytes (length two)
stop_at_modulus family c us bytes one two w wc e wu d none = behind_units family c us bytes one two (length two) w wc e wu d
    (pair_first (λ m. IsTrue (is_valid_modulus c.algebra m)) (λ m. word_line words.Modulus (modulus_text m)) (HasModulus family c us) milnor_rest (HasUnits family c us) modulus_rest two (length two) (modulus_pair family c us w wc wu)
    (line_stop (λ m. IsTrue (is_valid_modulus c.algebra m)) (λ m. word_line words.Modulus (modulus_text m)) two moduli.None refl (modulus_is_line c.algebra) none))

-- the lines up to the modulus were read
pub record ModulusRead (family : Family) (c : Carried) (us : List UnitPair) (m : ModulusLine) (bytes three : List ℕ) : Type 0 where
  pub one : List ℕ
  pub two : List ℕ
  pub of_list : IsFamily family
  pub carried : IsWellFormedCarried c
  pub carried_lines : carried_text words.Form c ++ one ≡ bytes
  pub units : AreAtMost (IsUnitPair c.algebra) 1140 us
  pub units_lines : counted_text words.Units unit_text us ++ two ≡ one
  pub modulus : IsTrue (is_valid_modulus c.algebra m)
  pub modulus_line : word_line words.Modulus (modulus_text m) ++ three ≡ two

behind_modulus : (family : Family) (c : Carried) (us : List UnitPair) (m : ModulusLine) (bytes three : List ℕ) (left : ℕ) → ModulusRead family c us m bytes three → IsStop (HasModulus family c us m) milnor_rest three left → IsStop (IsOfFamily family) named_rest bytes left
behind_modulus family c us m bytes three left r s = behind_units family c us bytes r.one r.two left r.of_list r.carried r.carried_lines r.units r.units_lines
    (pair_second (λ m. IsTrue (is_valid_modulus c.algebra m)) (λ m. word_line words.Modulus (modulus_text m)) (HasModulus family c us) milnor_rest (HasUnits family c us) modulus_rest m r.two three left (modulus_pair family c us r.of_list r.carried r.units) r.modulus r.modulus_line s)

pub stop_at_milnor : (family : Family) (c : Carried) (us : List UnitPair) (m : ModulusLine) (bytes three : List ℕ) → ModulusRead family c us m bytes three → IsNotAtFront (IsWithin 0 4294967295) (λ k. word_line words.Milnor (decimal k)) three → IsStop (IsOfFamily family) named_rest bytes (length three)
stop_at_milnor family c us m bytes three r none = behind_modulus family c us m bytes three (length three) r
    (pair_first (IsWithin 0 4294967295) (λ k. word_line words.Milnor (decimal k)) (HasMilnor family c us m) mather_rest (HasModulus family c us m) milnor_rest three (length three) (milnor_pair family c us m r.of_list r.carried r.units r.modulus)
    (line_stop (IsWithin 0 4294967295) (λ k. word_line words.Milnor (decimal k)) three 0 (omega arith, omega arith) (number_is_line words.Milnor 0 4294967295 (lit< tt)) none))

pub stop_in_evidence : (f : Front) (bytes three four : List ℕ) (left : ℕ) → ModulusRead f.family f.carried f.units f.modulus bytes three → IsWithin 0 4294967295 f.milnor → word_line words.Milnor (decimal f.milnor) ++ four ≡ three
    → IsStop (IsNamedAs f) mather_rest four left → IsStop (IsOfFamily f.family) named_rest bytes left
stop_in_evidence f bytes three four left r h e s = behind_modulus f.family f.carried f.units f.modulus bytes three left r
    (pair_second (IsWithin 0 4294967295) (λ k. word_line words.Milnor (decimal k)) (HasMilnor f.family f.carried f.units f.modulus) mather_rest (HasModulus f.family f.carried f.units f.modulus) milnor_rest f.milnor three four left
    (milnor_pair f.family f.carried f.units f.modulus r.of_list r.carried r.units r.modulus) h e
    (stop_before (IsNamedAs f) mather_rest (HasMilnor f.family f.carried f.units f.modulus f.milnor) mather_rest four left
    (λ n v. (n, (((((v.valid, v.family), v.carried), v.units), v.modulus), v.milnor), ([], sym (append-nil (mather_rest n)))))
    (λ n v. (n, record { valid = v.0.0.0.0.0; family = v.0.0.0.0.1; carried = v.0.0.0.1; units = v.0.0.1; modulus = v.0.1; milnor = v.1 }, ([], sym (append-nil (mather_rest n))))) s))

pub named_read : (f : Front) (n : named_type.Named) (bytes three four end : List ℕ) → ModulusRead f.family f.carried f.units f.modulus bytes three → word_line words.Milnor (decimal f.milnor) ++ four ≡ three → IsNamedAs f n → mather_rest n ++ end ≡ four
    → IsOfFamily f.family n × (named_rest n ++ end ≡ bytes)
unfolding named_rest units_rest modulus_rest milnor_rest
named_read f n bytes three four end r e h d = (
  (h.valid, h.family),
  append_assoc (carried_text words.Form n.carried) (units_rest n) end
      ∙ ap (λ (z : List ℕ). carried_text words.Form n.carried ++ z) (append_assoc (counted_text words.Units unit_text n.units) (modulus_rest n) end
      ∙ ap (λ (z : List ℕ). counted_text words.Units unit_text n.units ++ z) (append_assoc (word_line words.Modulus (modulus_text n.modulus)) (milnor_rest n) end
      ∙ ap (λ (z : List ℕ). word_line words.Modulus (modulus_text n.modulus) ++ z) (append_assoc (word_line words.Milnor (decimal n.milnor)) (mather_rest n) end
      ∙ ap (λ (z : List ℕ). word_line words.Milnor (decimal n.milnor) ++ z) d ∙ ap (λ (k : ℕ). word_line words.Milnor (decimal k) ++ four) h.milnor ∙ e)
      ∙ ap (λ (m : ModulusLine). word_line words.Modulus (modulus_text m) ++ three) h.modulus ∙ r.modulus_line)
      ∙ ap (λ (us : List UnitPair). counted_text words.Units unit_text us ++ r.two) h.units ∙ r.units_lines)
      ∙ ap (λ (c : Carried). carried_text words.Form c ++ r.one) h.carried ∙ r.carried_lines,
)

pub front_is : (f : Front) (bytes three : List ℕ) → ModulusRead f.family f.carried f.units f.modulus bytes three → f.milnor < 2 ^ 32 → IsFront f
front_is f bytes three r lt = record { family = r.of_list; carried = r.carried; units = r.units; modulus = r.modulus; milnor = lt }

-- ---- unresolved

abbrev pub MatherOf : Carried → List (MatherRow Element) → Type 0
MatherOf c rows = AreAtMost (IsRowOf c.algebra c.corank c.order) (most_rows c.corank) rows

unresolved_pair : IsPair IsWellFormedCarried (carried_text words.Jet) (λ c r. IsWellFormedUnresolved r × (r.carried ≡ c)) (λ r. counted_text words.Mather mather_text r.mather) IsWellFormedUnresolved unresolved_rest
unfolding unresolved_rest
unresolved_pair = field_pair IsWellFormedCarried (carried_text words.Jet) IsWellFormedUnresolved unresolved_rest (λ r. r.carried) (λ r. counted_text words.Mather mather_text r.mather)
    (carried_whole words.Jet) (carried_told words.Jet)
    (λ c h. (record { carried = c; mather = [] }, record { carried = h; mather = record { few = omega arith; each = tt } }, refl))
    (λ r h. h.carried) (λ r h. refl)

abbrev UnresolvedOf : Carried → unresolved_type.Unresolved → Type 0
UnresolvedOf c r = IsWellFormedUnresolved r × (r.carried ≡ c)

pub stop_in_jet : (bytes : List ℕ) (left : ℕ) → IsStop IsWellFormedCarried (carried_text words.Jet) bytes left → IsStop IsWellFormedUnresolved unresolved_rest bytes left
stop_in_jet bytes left s = pair_first IsWellFormedCarried (carried_text words.Jet) UnresolvedOf (λ r. counted_text words.Mather mather_text r.mather) IsWellFormedUnresolved unresolved_rest bytes left unresolved_pair s

pub stop_in_unresolved : (c : Carried) (bytes one : List ℕ) (left : ℕ) → IsWellFormedCarried c → carried_text words.Jet c ++ one ≡ bytes → IsStop (MatherOf c) (counted_text words.Mather mather_text) one left → IsStop IsWellFormedUnresolved unresolved_rest bytes left
stop_in_unresolved c bytes one left w e s =
    pair_second IsWellFormedCarried (carried_text words.Jet) UnresolvedOf (λ r. counted_text words.Mather mather_text r.mather) IsWellFormedUnresolved unresolved_rest c bytes one left unresolved_pair w e
    (stop_before (MatherOf c) (counted_text words.Mather mather_text) (UnresolvedOf c) (λ r. counted_text words.Mather mather_text r.mather) one left
    (λ rows h. (record { carried = c; mather = rows }, (record { carried = w; mather = rows_from c rows h }, refl), ([], sym (append-nil (counted_text words.Mather mather_text rows)))))
    (λ r h. (r.mather, subst (λ (z : Carried). MatherOf z r.mather) h.1 (rows_to r.carried r.mather h.0.mather), ([], sym (append-nil (counted_text words.Mather mather_text r.mather))))) s)

pub unresolved_read : (c : Carried) (rows : List (MatherRow Element)) (bytes one end : List ℕ) → IsWellFormedCarried c → carried_text words.Jet c ++ one ≡ bytes → MatherOf c rows → counted_text words.Mather mather_text rows ++ end ≡ one
    → IsWellFormedUnresolved (record { carried = c; mather = rows }) × (unresolved_rest (record { carried = c; mather = rows }) ++ end ≡ bytes)
unfolding unresolved_rest
unresolved_read c rows bytes one end w e h d =
    (record { carried = w; mather = rows_from c rows h }, append_assoc (carried_text words.Jet c) (counted_text words.Mather mather_text rows) end ∙ ap (λ (z : List ℕ). carried_text words.Jet c ++ z) d ∙ e)
