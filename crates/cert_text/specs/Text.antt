-- The text of a report, line by line. Each line ends with a newline.
use Rattle.std.specs.Prelude.{ℕ, zero, suc, List, [], ◌∷◌, ◌++◌, ◌==◌, if◌then◌else◌, length, take, drop, codes, decimal}
use Rattle.std.specs.List.{flat_map}
use Rattle.ring_law.specs.declared.fraction.Frac.{Frac}
use Rattle.ext_algebra.specs.declared.algebra.Ext.{Ext}
use Rattle.ext_algebra.specs.declared.algebra.Algebra.{Algebra}
use Rattle.ext_algebra.specs.declared.algebra.Algebra.TheVariants.{Rational, Quadratic, Cubic, Tower}
use Rattle.mono_exp.specs.declared.exponent.Exp.{Exp}
use Rattle.jet_poly.specs.JetTerms.{JetTerms}
use Rattle.determinacy.specs.declared.row.MatherRow.{MatherRow}
use Rattle.milnor_alg.specs.declared.quotient.TableRow.{TableRow}
use Rattle.normal_forms.specs.declared.modulus_line.ModulusLine.{ModulusLine}
use Rattle.normal_forms.specs.declared.modulus_line.ModulusLine.TheVariants as moduli
use Rattle.poly_text.specs.declared.name.Name.{Name}
use Rattle.poly_text.specs.Numbers.{fraction_text, component_text, element_text}
use Rattle.poly_text.specs.Polynomials.{name_text, monomial_text, jet_text}
use Rattle.cert_text.specs.declared.report.Carried.{Carried}
use Rattle.cert_text.specs.declared.report.Named as named_type
use Rattle.cert_text.specs.declared.report.Outside as outside_type
use Rattle.cert_text.specs.declared.report.Limit as limit_type
use Rattle.cert_text.specs.declared.report.Unresolved as unresolved_type
use Rattle.cert_text.specs.declared.report.Answer.{Answer}
use Rattle.cert_text.specs.declared.report.Answer.TheVariants as answers
use Rattle.cert_text.specs.declared.report.Report.{Report}
use Rattle.cert_text.specs.declared.report.Report.TheVariants as reports
use Rattle.cert_text.specs.declared.word.Word.{Word}
use Rattle.cert_text.specs.declared.word.Word.TheVariants as words
use Rattle.cert_text.specs.Words.{word_text}
use Rattle.cert_text.specs.Names.{family_text, pattern_text, phase_text, what_text}

unfoldable pub line : List ℕ → List ℕ
line text = text ++ 10 ∷ []

-- a line of a word, a space and more
unfoldable pub word_line : Word → List ℕ → List ℕ
word_line word text = line (word_text word ++ 32 ∷ text)

-- ---- the carried lines

-- t^3 + m2*t^2 + m1*t + m0
abbrev pub cubic_text : Frac → Frac → Frac → List ℕ
cubic_text m2 m1 m0 = codes "t^3" ++ flat_map component_text ((m2, codes "*t^2") ∷ (m1, codes "*t") ∷ (m0, []) ∷ [])

-- the other sign; a byte that is no sign stays
abbrev pub other_sign : ℕ → ℕ
other_sign b = if b == 43 then 45 else (if b == 45 then 43 else b)

-- a piece with the other sign before it
abbrev pub opposite_text : List ℕ → List ℕ
opposite_text [] = []
opposite_text (sign ∷ magnitude) = other_sign sign ∷ magnitude

-- ` ; ` and s^2 - d
abbrev pub square_text : Frac → List ℕ
square_text d = codes " ; s^2" ++ opposite_text (component_text (d, []))

-- the moduli by falling powers, that of t before that of s
unfoldable pub algebra_text : Algebra → List ℕ
algebra_text Rational = codes "Q"
algebra_text (Quadratic m1 m0) = codes "t^2" ++ flat_map component_text ((m1, codes "*t") ∷ (m0, []) ∷ [])
algebra_text (Cubic m2 m1 m0) = cubic_text m2 m1 m0
algebra_text (Tower m2 m1 m0 d) = cubic_text m2 m1 m0 ++ square_text d

-- `x = u1+u2`
abbrev pub part_inside : Name × JetTerms (Ext Frac) → List ℕ
part_inside named = name_text named.0 ++ codes " = " ++ jet_text named.1

unfoldable pub part_text : Name → JetTerms (Ext Frac) → List ℕ
part_text name part = line (part_inside (name, part))

-- one line for each name and its part
unfoldable pub parts_text : List Name → List (JetTerms (Ext Frac)) → List ℕ
parts_text [] parts = []
parts_text (name ∷ names) [] = []
parts_text (name ∷ names) (part ∷ parts) = part_text name part ++ parts_text names parts

-- elements, each after a space
abbrev pub values_text : List (Ext Frac) → List ℕ
values_text es = flat_map (λ v. 32 ∷ element_text v) es

-- elements with a space between them
unfoldable pub spaced : List (Ext Frac) → List ℕ
spaced [] = []
spaced (e ∷ es) = element_text e ++ values_text es

-- so many rows of n elements
unfoldable pub rows_text : ℕ → ℕ → List (Ext Frac) → List ℕ
rows_text zero n elements = []
rows_text (suc rows) n elements = line (spaced (take n elements)) ++ rows_text rows n (drop n elements)

-- the lines from `order` to the jet, which has the word `form` or `jet`
unfoldable pub carried_text : Word → Carried → List ℕ
carried_text word c =
    word_line words.Order (decimal c.order)
    ++ word_line words.Algebra (algebra_text c.algebra)
    ++ word_line words.Corank (decimal c.corank)
    ++ line (word_text words.Change)
    ++ parts_text c.names c.change.parts
    ++ line (word_text words.Inverse)
    ++ rows_text c.change.n c.change.n c.change.inverse
    ++ word_line word (jet_text c.jet)

-- ---- rows

-- multipliers with ` ; ` between them, and a space before them all
unfoldable pub multipliers_text : List (JetTerms (Ext Frac)) → List ℕ
multipliers_text [] = []
multipliers_text (f ∷ fs) = 32 ∷ jet_text f ++ flat_map (λ g. codes " ; " ++ jet_text g) fs

-- `u1^4 = 1/3*u1^2`
abbrev pub mather_inside : MatherRow (Ext Frac) → List ℕ
mather_inside row = monomial_text row.monomial ++ codes " =" ++ multipliers_text row.multipliers

unfoldable pub mather_text : MatherRow (Ext Frac) → List ℕ
mather_text row = line (mather_inside row)

-- `mather N` and N rows
unfoldable pub mather_lines : List (MatherRow (Ext Frac)) → List ℕ
mather_lines rows = word_line words.Mather (decimal (length rows)) ++ flat_map mather_text rows

-- `u1^3 = 0 0 : 1/3*u1`
abbrev pub table_inside : TableRow (Ext Frac) → List ℕ
table_inside row = monomial_text row.monomial ++ codes " =" ++ values_text row.values ++ codes " :" ++ multipliers_text row.multipliers

unfoldable pub table_text : TableRow (Ext Frac) → List ℕ
table_text row = line (table_inside row)

-- ---- a named report

-- a value and its inverse
abbrev pub unit_inside : Ext Frac × Ext Frac → List ℕ
unit_inside u = element_text u.0 ++ 32 ∷ element_text u.1

unfoldable pub unit_text : Ext Frac × Ext Frac → List ℕ
unit_text u = line (unit_inside u)

unfoldable pub modulus_text : ModulusLine → List ℕ
modulus_text moduli.None = codes "none"
modulus_text moduli.Form = codes "form"
modulus_text (moduli.Value e) = codes "value " ++ element_text e
modulus_text (moduli.J q) = codes "j " ++ fraction_text q

-- the lines up to the Milnor number
unfoldable pub front_text : named_type.Named → List ℕ
front_text r =
    word_line words.Named (family_text r.family)
    ++ carried_text words.Form r.carried
    ++ word_line words.Units (decimal (length r.units))
    ++ flat_map unit_text r.units
    ++ word_line words.Modulus (modulus_text r.modulus)
    ++ word_line words.Milnor (decimal r.milnor)

-- monomials, each after a space
abbrev pub monomials_text : List Exp → List ℕ
monomials_text ms = flat_map (λ m. 32 ∷ monomial_text m) ms

-- `basis 1 u1`
abbrev pub basis_inside : List Exp → List ℕ
basis_inside ms = word_text words.Basis ++ monomials_text ms

-- the lines after it: Mather's rows, the basis and the table
unfoldable pub evidence_text : named_type.Named → List ℕ
evidence_text r =
    mather_lines r.mather
    ++ line (basis_inside r.quotient.basis)
    ++ word_line words.Table (decimal (length r.quotient.table))
    ++ flat_map table_text r.quotient.table

unfoldable pub named_text : named_type.Named → List ℕ
named_text r = front_text r ++ evidence_text r

-- ---- the other answers with a jet

unfoldable pub outside_text : outside_type.Outside → List ℕ
outside_text r = word_line words.Outside (pattern_text r.pattern) ++ carried_text words.Jet r.carried

-- a monomial and the value of the functional there
abbrev pub functional_inside : Exp × Ext Frac → List ℕ
functional_inside v = monomial_text v.0 ++ 32 ∷ element_text v.1

unfoldable pub functional_text : Exp × Ext Frac → List ℕ
functional_text v = line (functional_inside v)

unfoldable pub limit_text : limit_type.Limit → List ℕ
limit_text r =
    line (word_text words.Limit)
    ++ carried_text words.Jet r.carried
    ++ word_line words.Functional (monomial_text r.at ++ 32 ∷ decimal (length r.functional))
    ++ flat_map functional_text r.functional

unfoldable pub unresolved_text : unresolved_type.Unresolved → List ℕ
unresolved_text r = line (word_text words.Unresolved) ++ carried_text words.Jet r.carried ++ mather_lines r.mather

-- ---- any report

unfoldable pub answer_text : Answer → List ℕ
answer_text (answers.Syntax column what) = word_line words.Syntax (decimal column ++ 32 ∷ what_text what)
answer_text (answers.Literal column) = word_line words.Literal (decimal column)
answer_text (answers.NotCritical variable) = word_line words.NotCritical (name_text variable)
answer_text (answers.Range phase) = word_line words.Range (phase_text phase)
answer_text answers.Unbuilt = line (word_text words.Unbuilt)
answer_text (answers.Named r) = named_text r
answer_text (answers.Outside r) = outside_text r
answer_text (answers.Limit r) = limit_text r
answer_text (answers.Unresolved r) = unresolved_text r

unfoldable pub report_text : Report → List ℕ
report_text (reports.Long len) = word_line words.Long (decimal len) ++ line (word_text words.TooLong) ++ line (word_text words.End)
report_text (reports.Line bytes answer) = word_line words.Germ bytes ++ answer_text answer ++ line (word_text words.End)
