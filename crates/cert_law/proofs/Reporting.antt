-- A report is told from its text, and from what stands behind it.
use Rattle.std.proofs.Common.{◌≡◌, ℕ, ◌<◌, ◌≤◌, ◌^◌, true, ltb, leb, ◌&&◌, List, [], ◌∷◌, ◌++◌, length, refl, sym, ap, ◌∙◌, subst, append_assoc, arith}
use Rattle.std.specs.Prelude.{decimal, not, sum}
use Rattle.std.specs.List.{AllByRecursion, flat_map}
use Rattle.std.proofs.lemmas.Bool.{leb-true, ltb-true}
use Rattle.ext_algebra.specs.declared.algebra.Algebra.{Algebra}
use Rattle.ext_algebra.specs.Algebra.{is_element}
use Rattle.mono_exp.specs.declared.exponent.Exp.{Exp}
use Rattle.jet_poly.specs.JetTerms.{JetTerms}
use Rattle.determinacy.specs.declared.row.MatherRow.{MatherRow}
use Rattle.milnor_alg.specs.declared.quotient.TableRow.{TableRow}
use Rattle.milnor_alg.specs.declared.quotient.JetQuotient.{JetQuotient}
use Rattle.normal_forms.specs.declared.family.Family.{Family}
use Rattle.normal_forms.specs.declared.family.Family.TheVariants as families
use Rattle.normal_forms.specs.declared.modulus_line.ModulusLine.{ModulusLine}
use Rattle.normal_forms.specs.declared.modulus_line.ModulusLine.TheVariants as moduli
use Rattle.normal_forms.specs.Families.{is_family}
use Rattle.poly_text.specs.Polynomials.{monomial_text}
use Rattle.cert_text.specs.declared.report.Carried.{Carried}
use Rattle.cert_text.specs.declared.report.Named as named_type
use Rattle.cert_text.specs.declared.report.Limit as limit_type
use Rattle.cert_text.specs.declared.report.Outside as outside_type
use Rattle.cert_text.specs.declared.report.Unresolved as unresolved_type
use Rattle.cert_text.specs.declared.word.Word.TheVariants as words
use Rattle.cert_text.specs.Words.{word_text}
use Rattle.cert_text.specs.Names.{family_text, pattern_text}
use Rattle.cert_text.specs.Text.{line, word_line, unit_text, modulus_text, mather_text, mather_lines, basis_inside, monomials_text, table_text, functional_text, carried_text, front_text, evidence_text, named_text, limit_text, outside_text, unresolved_text}
use Rattle.cert_text.specs.WellFormed.{IsWellFormedCarried, IsRowOf, AreRows, AreJetsOf, IsJetOf, IsTableRowOf, IsWellFormedNamed, IsWellFormedLimit, IsWellFormedUnresolved, is_low_monomial, is_monomial_in, is_unit_pair, is_functional_value, is_valid_modulus, has_small_numbers, is_zero_element}
use Rattle.cert_law.specs.Fields.{Element, Term, UnitPair, IsSmallElement, IsUnitLine, IsMonomial, IsReadableJet, AreJets, IsRow, IsTableLine, IsValue}
use Rattle.cert_law.proofs.Cut.{head, all_of, same_front}
use Rattle.cert_law.proofs.Numbers.{number_one, NoDigit}
use Rattle.cert_law.proofs.Elements.{unit_line}
use Rattle.cert_law.proofs.Letters.{HasFew, family_one, pattern_one}
use Rattle.cert_law.proofs.Valid.{both, all_from, all_to, element_by, component_by, monomial_by}
use Rattle.cert_law.proofs.Series.{power_one, basis_one, mather_line, table_line, functional_line, blank_ends}
use Rattle.cert_law.proofs.Parts.{IsModulusLine, modulus_one}
use Rattle.cert_law.proofs.Carrying.{word_rest, number_line, block_one, readable, carried_one}

-- ---- what well-formedness gives for the rows

pub low_monomial : (n : ℕ) (m : Exp) → is_low_monomial n m ≡ true → IsMonomial m
low_monomial n m e =
    let h = both (is_monomial_in n m) (leb (sum m.e) 17) e in
    let low = leb-true (sum m.e) 17 h.1 in
    monomial_by n m h.0 (omega (arith, low))

multipliers_by : (a : Algebra) (corank order : ℕ) → order ≤ 16 → (fs : List (JetTerms Element)) → AreJetsOf a corank order fs → AreJets corank corank order fs
multipliers_by a corank order le fs is = record { long = is.count; each = all_to (IsJetOf corank order a) (IsReadableJet corank order) (readable corank order a le) fs is.each }

pub row_by : (a : Algebra) (corank order : ℕ) → order ≤ 16 → (row : MatherRow Element) → IsRowOf a corank order row → IsRow corank order row
row_by a corank order le row is = record { monomial = low_monomial corank row.monomial is.monomial; multipliers = multipliers_by a corank order le row.multipliers is.multipliers }

rows_by : (c : Carried) → c.order ≤ 16 → (rows : List (MatherRow Element)) → AreRows c rows → AllByRecursion (IsRow c.corank c.order) rows
rows_by c le rows is = all_to (IsRowOf c.algebra c.corank c.order) (IsRow c.corank c.order) (row_by c.algebra c.corank c.order le) rows is.each

pub table_row_by : (a : Algebra) (corank order size : ℕ) → order ≤ 16 → (row : TableRow Element) → IsTableRowOf a corank order size row → IsTableLine size corank order row
table_row_by a corank order size le row is = record {
  monomial = low_monomial corank row.monomial is.monomial;
  long = is.count;
  values = all_from (is_element a) IsSmallElement (element_by a) row.values is.values;
  multipliers = multipliers_by a corank order le row.multipliers is.multipliers;
}

pub value_by : (a : Algebra) (n : ℕ) (v : Term) → is_functional_value a n v ≡ true → IsValue v
value_by a n v e =
    let h = both (is_low_monomial n v.0) (is_element a v.1 && not (is_zero_element v.1)) e in
    record { monomial = low_monomial n v.0 h.0; value = element_by a v.1 (both (is_element a v.1) (not (is_zero_element v.1)) h.1).0 }

pub unit_by : (a : Algebra) (u : UnitPair) → is_unit_pair a u ≡ true → IsUnitLine u
unit_by a u e =
    let h = both (is_element a u.0) (is_element a u.1) e in
    record { value = element_by a u.0 h.0; inverse = element_by a u.1 h.1 }

pub modulus_by : (a : Algebra) (m : ModulusLine) → is_valid_modulus a m ≡ true → IsModulusLine m
modulus_by a moduli.None e = tt
modulus_by a moduli.Form e = tt
modulus_by a (moduli.Value f) e = element_by a f e
modulus_by a (moduli.J q) e = component_by q e

pub few_by : (f : Family) → has_small_numbers f ≡ true → HasFew f
few_by (families.A m) e = (ltb-true m 256 e, refl, refl)
few_by (families.D m) e = (ltb-true m 256 e, refl, refl)
few_by (families.T p q r) e =
    let h = both (ltb p 256) (ltb q 256 && ltb r 256) e in
    let k = both (ltb q 256) (ltb r 256) h.1 in
    (ltb-true p 256 h.0, ltb-true q 256 k.0, ltb-true r 256 k.1)
few_by _ e = (refl, refl, refl)

-- ---- rows with their count

pub mather_one : (c : Carried) → c.order ≤ 16 → (us vs : List (MatherRow Element)) (x y : List ℕ) → AreRows c us → AreRows c vs → mather_lines us ++ x ≡ mather_lines vs ++ y → (us ≡ vs) × (x ≡ y)
unfolding mather_lines
mather_one c le us vs x y ou ov e =
    block_one words.Mather (IsRow c.corank c.order) mather_text (mather_line c.corank c.order) us vs x y (omega (arith, ou.few)) (omega (arith, ov.few)) (rows_by c le us ou) (rows_by c le vs ov)
    (sym (append_assoc (word_line words.Mather (decimal (length us))) (flat_map mather_text us) x) ∙ e ∙ append_assoc (word_line words.Mather (decimal (length vs))) (flat_map mather_text vs) y)

-- ---- named reports

pub basis_rest : (us vs : List Exp) (x y : List ℕ) → AllByRecursion IsMonomial us → AllByRecursion IsMonomial vs
    → line (basis_inside us) ++ x ≡ line (basis_inside vs) ++ y → (us ≡ vs) × (x ≡ y)
unfolding line
basis_rest us vs x y ou ov e =
    let U = monomials_text us in
    let V = monomials_text vs in
    let left : ((word_text words.Basis ++ U) ++ 10 ∷ []) ++ x ≡ word_text words.Basis ++ (U ++ (10 ∷ x)) = simp append_assoc in
    let right : ((word_text words.Basis ++ V) ++ 10 ∷ []) ++ y ≡ word_text words.Basis ++ (V ++ (10 ∷ y)) = simp append_assoc in
    basis_one us vs x y ou ov (same_front (word_text words.Basis) _ _ (sym left ∙ e ∙ right))

regroup_named : (r : named_type.Named) (x : List ℕ) → named_text r ++ x
    ≡ word_line words.Named (family_text r.family) ++ (carried_text words.Form r.carried ++ (word_line words.Units (decimal (length r.units)) ++ (flat_map unit_text r.units
    ++ (word_line words.Modulus (modulus_text r.modulus) ++ (word_line words.Milnor (decimal r.milnor) ++ (mather_lines r.mather
    ++ (line (basis_inside r.quotient.basis) ++ (word_line words.Table (decimal (length r.quotient.table)) ++ (flat_map table_text r.quotient.table ++ x)))))))))
unfolding named_text front_text evidence_text
regroup_named r x = simp append_assoc

quotient_is : (p q : JetQuotient Element) → p.basis ≡ q.basis → p.table ≡ q.table → p ≡ q
quotient_is p q a b = λ i. record { basis = a i; table = b i }

named_is : (r s : named_type.Named) → r.family ≡ s.family → r.carried ≡ s.carried → r.units ≡ s.units → r.modulus ≡ s.modulus → r.milnor ≡ s.milnor → r.mather ≡ s.mather → r.quotient ≡ s.quotient → r ≡ s
named_is r s a b c d e f g = λ i. record { family = a i; carried = b i; units = c i; modulus = d i; milnor = e i; mather = f i; quotient = g i }

pub family_line : (f g : Family) (x y : List ℕ) → (is_family f && has_small_numbers f) ≡ true → (is_family g && has_small_numbers g) ≡ true → word_line words.Named (family_text f) ++ x ≡ word_line words.Named (family_text g) ++ y → (f ≡ g) × (x ≡ y)
family_line f g x y vf vg e =
    family_one f g x y (few_by f (both (is_family f) (has_small_numbers f) vf).1) (few_by g (both (is_family g) (has_small_numbers g) vg).1) (word_rest words.Named (family_text f) (family_text g) x y e)

pub modulus_line : (a b : Algebra) (p q : ModulusLine) (x y : List ℕ) → is_valid_modulus a p ≡ true → is_valid_modulus b q ≡ true → word_line words.Modulus (modulus_text p) ++ x ≡ word_line words.Modulus (modulus_text q) ++ y → (p ≡ q) × (x ≡ y)
modulus_line a b p q x y vp vq e = modulus_one p q x y (modulus_by a p vp) (modulus_by b q vq) (word_rest words.Modulus (modulus_text p) (modulus_text q) x y e)

units_by : (r : named_type.Named) → IsWellFormedNamed r → AllByRecursion IsUnitLine r.units
units_by r w = all_from (is_unit_pair r.carried.algebra) IsUnitLine (unit_by r.carried.algebra) r.units w.units

table_by : (r : named_type.Named) → IsWellFormedNamed r → AllByRecursion (IsTableLine (length r.quotient.basis) r.carried.corank r.carried.order) r.quotient.table
table_by r w =
    all_to (IsTableRowOf r.carried.algebra r.carried.corank r.carried.order (length r.quotient.basis)) (IsTableLine (length r.quotient.basis) r.carried.corank r.carried.order)
    (table_row_by r.carried.algebra r.carried.corank r.carried.order (length r.quotient.basis) w.carried.order_at_most) r.quotient.table w.table

pub named_one : (r s : named_type.Named) (x y : List ℕ) → IsWellFormedNamed r → IsWellFormedNamed s → named_text r ++ x ≡ named_text s ++ y → (r ≡ s) × (x ≡ y)
named_one r s x y wr ws e =
    let h1 = family_line r.family s.family _ _ wr.family ws.family (sym (regroup_named r x) ∙ e ∙ regroup_named s y) in
    let h2 = carried_one words.Form r.carried s.carried _ _ wr.carried ws.carried h1.1 in
    let h3 = block_one words.Units IsUnitLine unit_text unit_line r.units s.units _ _ (omega (arith, wr.few_units)) (omega (arith, ws.few_units)) (units_by r wr) (units_by s ws) h2.1 in
    let h4 = modulus_line r.carried.algebra s.carried.algebra r.modulus s.modulus _ _ wr.modulus ws.modulus h3.1 in
    let h5 = number_line words.Milnor r.milnor s.milnor _ _ (omega (arith, wr.milnor)) (omega (arith, ws.milnor)) h4.1 in
    let rows_s = subst (λ (c : Carried). AreRows c s.mather) (sym h2.0) ws.mather in
    let h6 = mather_one r.carried wr.carried.order_at_most r.mather s.mather _ _ wr.mather rows_s h5.1 in
    let h7 = basis_rest r.quotient.basis s.quotient.basis _ _ (all_from (is_low_monomial r.carried.corank) IsMonomial (low_monomial r.carried.corank) r.quotient.basis wr.basis)
    (all_from (is_low_monomial s.carried.corank) IsMonomial (low_monomial s.carried.corank) s.quotient.basis ws.basis) h6.1 in
    let size : length s.quotient.basis ≡ length r.quotient.basis = sym (ap length h7.0) in
    let table_s = subst (λ (k : ℕ). AllByRecursion (IsTableLine k r.carried.corank r.carried.order) s.quotient.table) size
    (subst (λ (c : Carried). AllByRecursion (IsTableLine (length s.quotient.basis) c.corank c.order) s.quotient.table) (sym h2.0) (table_by s ws)) in
    let h8 = block_one words.Table (IsTableLine (length r.quotient.basis) r.carried.corank r.carried.order) table_text (table_line (length r.quotient.basis) r.carried.corank r.carried.order)
    r.quotient.table s.quotient.table x y (omega (arith, wr.few_in_table)) (omega (arith, ws.few_in_table)) (table_by r wr) table_s h7.1 in
    (named_is r s h1.0 h2.0 h3.0 h4.0 h5.0 h6.0 (quotient_is r.quotient s.quotient h7.0 h8.0), h8.1)

-- ---- limit reports

regroup_limit : (r : limit_type.Limit) (x : List ℕ) → limit_text r ++ x
    ≡ line (word_text words.Limit) ++ (carried_text words.Jet r.carried ++ (word_line words.Functional (monomial_text r.at ++ 32 ∷ decimal (length r.functional)) ++ (flat_map functional_text r.functional ++ x)))
unfolding limit_text
regroup_limit r x = simp append_assoc

limit_is : (r s : limit_type.Limit) → r.carried ≡ s.carried → r.at ≡ s.at → r.functional ≡ s.functional → r ≡ s
limit_is r s a b c = λ i. record { carried = a i; at = b i; functional = c i }

newline_ends : NoDigit 10
newline_ends = λ d. omega (arith, d.0)

pub functional_head : (m n : Exp) (k l : ℕ) (x y : List ℕ) → IsMonomial m → IsMonomial n → k < 10 ^ 64 → l < 10 ^ 64
    → word_line words.Functional (monomial_text m ++ 32 ∷ decimal k) ++ x ≡ word_line words.Functional (monomial_text n ++ 32 ∷ decimal l) ++ y → (m ≡ n) × (k ≡ l) × (x ≡ y)
functional_head m n k l x y om on lk ll e =
    let rest = word_rest words.Functional (monomial_text m ++ 32 ∷ decimal k) (monomial_text n ++ 32 ∷ decimal l) x y e in
    let a = power_one m n (32 ∷ (decimal k ++ (10 ∷ x))) (32 ∷ (decimal l ++ (10 ∷ y))) om on blank_ends blank_ends
    (sym (append_assoc (monomial_text m) (32 ∷ decimal k) (10 ∷ x)) ∙ rest ∙ append_assoc (monomial_text n) (32 ∷ decimal l) (10 ∷ y)) in
    let b = number_one k l (10 ∷ x) (10 ∷ y) lk ll newline_ends newline_ends (head 32 32 _ _ a.1).1 in
    (a.0, b.0, (head 10 10 x y b.1).1)

values_by : (r : limit_type.Limit) → IsWellFormedLimit r → AllByRecursion IsValue r.functional
values_by r w = all_from (is_functional_value r.carried.algebra r.carried.corank) IsValue (value_by r.carried.algebra r.carried.corank) r.functional w.functional

pub limit_one : (r s : limit_type.Limit) (x y : List ℕ) → IsWellFormedLimit r → IsWellFormedLimit s → limit_text r ++ x ≡ limit_text s ++ y → (r ≡ s) × (x ≡ y)
limit_one r s x y wr ws e =
    let h1 = same_front (line (word_text words.Limit)) _ _ (sym (regroup_limit r x) ∙ e ∙ regroup_limit s y) in
    let h2 = carried_one words.Jet r.carried s.carried _ _ wr.carried ws.carried h1 in
    let h3 = functional_head r.at s.at (length r.functional) (length s.functional) _ _ (low_monomial r.carried.corank r.at wr.at) (low_monomial s.carried.corank s.at ws.at) (omega (arith, wr.few)) (omega (arith, ws.few)) h2.1 in
    let h4 = all_of IsValue functional_text functional_line r.functional s.functional x y h3.1 (values_by r wr) (values_by s ws) h3.2 in
    (limit_is r s h2.0 h3.0 h4.0, h4.1)

-- ---- outside and unresolved reports

outside_is : (r s : outside_type.Outside) → r.pattern ≡ s.pattern → r.carried ≡ s.carried → r ≡ s
outside_is r s a b = λ i. record { pattern = a i; carried = b i }

pub outside_one : (r s : outside_type.Outside) (x y : List ℕ) → IsWellFormedCarried r.carried → IsWellFormedCarried s.carried → outside_text r ++ x ≡ outside_text s ++ y → (r ≡ s) × (x ≡ y)
unfolding outside_text
outside_one r s x y wr ws e =
    let whole = sym (append_assoc (word_line words.Outside (pattern_text r.pattern)) (carried_text words.Jet r.carried) x) ∙ e ∙ append_assoc (word_line words.Outside (pattern_text s.pattern)) (carried_text words.Jet s.carried) y in
    let h1 = pattern_one r.pattern s.pattern _ _ (word_rest words.Outside (pattern_text r.pattern) (pattern_text s.pattern) _ _ whole) in
    let h2 = carried_one words.Jet r.carried s.carried x y wr ws h1.1 in
    (outside_is r s h1.0 h2.0, h2.1)

unresolved_is : (r s : unresolved_type.Unresolved) → r.carried ≡ s.carried → r.mather ≡ s.mather → r ≡ s
unresolved_is r s a b = λ i. record { carried = a i; mather = b i }

regroup_unresolved : (r : unresolved_type.Unresolved) (x : List ℕ) → unresolved_text r ++ x ≡ line (word_text words.Unresolved) ++ (carried_text words.Jet r.carried ++ (mather_lines r.mather ++ x))
unfolding unresolved_text
regroup_unresolved r x = simp append_assoc

pub unresolved_one : (r s : unresolved_type.Unresolved) (x y : List ℕ) → IsWellFormedUnresolved r → IsWellFormedUnresolved s → unresolved_text r ++ x ≡ unresolved_text s ++ y → (r ≡ s) × (x ≡ y)
unresolved_one r s x y wr ws e =
    let h1 = same_front (line (word_text words.Unresolved)) _ _ (sym (regroup_unresolved r x) ∙ e ∙ regroup_unresolved s y) in
    let h2 = carried_one words.Jet r.carried s.carried _ _ wr.carried ws.carried h1 in
    let rows_s = subst (λ (c : Carried). AreRows c s.mather) (sym h2.0) ws.mather in
    let h3 = mather_one r.carried wr.carried.order_at_most r.mather s.mather x y wr.mather rows_s h2.1 in
    (unresolved_is r s h2.0 h3.0, h3.1)
