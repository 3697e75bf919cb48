-- What the reading of a line says of the items that speak of it.
use Rattle.std.proofs.Common.{◌≡◌, ℕ, ◌+◌, ◌≤◌, Bool, true, false, IsTrue, ◌↔◌, List, map, length, sym, ap, subst, ◌∙◌, true≢false, arith, eqb-true, eq-eqb}
use Rattle.std.specs.Prelude.{◌==◌, ◌||◌, ◌&&◌, nat_lt, nat_le}
use Rattle.std.specs.List.{list_all}
use Rattle.std.proofs.lemmas.Bool.Decides.{nat_tests}
use Rattle.line_syntax.specs.Syntax.{Line, names_of, is_name}
use Rattle.line_syntax.specs.Grammar.{has_small_literals}
use Rattle.line_syntax.proofs.Bools.{and_left, and_right}
use Rattle.line_syntax.proofs.OneLine.{one_line}
use Rattle.germ_law.specs.Germ.{IsCritical}
use Rattle.line_jet.specs.Reads.{IsReadHigh}
use Rattle.line_germ.specs.Reads.{IsLineGerm, IsSyntaxAt, IsLiteralAt, IsLinearIn}
use Rattle.line_germ.specs.declared.reading.Germ.{Germ}
use Rattle.poly_text.specs.declared.name.Name.{Name}
use Rattle.poly_text.specs.declared.what.What.{What}
use Rattle.poly_text.specs.Polynomials.{name_text}
use Rattle.line_germ.specs.Answers.{what_at}
use Rattle.cert_text.specs.declared.report.Carried.{Carried}
use Rattle.cert_text.specs.WellFormed.{is_valid_name, IsWellFormedCarried}
use Rattle.report_law.specs.Items.{IsShape}
use Rattle.report_law.specs.Right.{IsRead, IsHighLine}
use Rattle.line_jet_law.specs.LineJets.{order_limit}
use Rattle.report_law.proofs.Splitting.{and_both}
use Rattle.report_law.proofs.Exclusions.{large_line, large_spelled, small_excludes, grammar_excludes, critical_excludes, one_front, one_literal, one_variable_name}
use Rattle.report_law.proofs.Names.{line_names, names_of_words, words_of_names, one_list_of_names}
use Rattle.check_line.specs.declared.tested.Tested.{Tested}
use Rattle.check_line.specs.declared.tested.Tested.TheVariants as tested
use Rattle.check_line.specs.Tests.{IsTested}
use Rattle.check_line.specs.Lines.{IsGermOfLine}

-- what cannot be is told by `false`
pub never : {P : Type 0} → (P → ⊥) → IsTrue false ↔ P
never h = (λ t. absurd (true≢false (sym t)), λ p. absurd (h p))

-- the same test of two items that hold together
pub tested_by : {P Q H K : Type 0} (t : Tested) → P ↔ Q → (H → K) → IsTested P H t → IsTested Q K t
tested_by tested.Holds e k h = e.0 h
tested_by tested.Fails e k h = λ q. h (e.1 q)
tested_by tested.High e k h = k h

-- ---- lines that are read

pub germ_read : (bytes : List ℕ) (limit : ℕ) (g : Germ) → IsLineGerm bytes limit g → IsRead bytes
germ_read bytes limit g h = record { line = h.is_germ.line; spells = h.is_germ.critical.spells; small = h.is_germ.critical.small }

pub high_read : (bytes : List ℕ) (limit : ℕ) → IsReadHigh bytes limit → IsRead bytes
high_read bytes limit h = record { line = h.line; spells = h.spells; small = h.small }

pub linear_read : (bytes : List ℕ) (v : Name) → IsLinearIn bytes v → IsRead bytes
linear_read bytes v h = record { line = h.linear.line; spells = h.linear.spells; small = h.linear.small }

pub high_line : (bytes : List ℕ) (limit : ℕ) → IsReadHigh bytes limit → IsHighLine bytes limit
unfolding high_read
high_line bytes limit h = record { read = high_read bytes limit h; is_high = h.is_high }

-- ---- syntax

pub literal_no_syntax : (bytes : List ℕ) (found column : ℕ) (what : What) → IsLiteralAt bytes found → IsSyntaxAt bytes column what → ⊥
literal_no_syntax bytes found column what r h =
    let s = large_line bytes r.before r.error in grammar_excludes bytes column what s.line_is s.spells h

-- a line is refused at one column, with one kind
pub one_syntax : (bytes : List ℕ) (found column : ℕ) (kind what : What) → IsSyntaxAt bytes found kind → ((found ≡ column) × (kind ≡ what)) ↔ IsSyntaxAt bytes column what
one_syntax bytes found column kind what r = (
  λ e. record { before = r.before; error = r.error; column_is = sym e.0 ∙ r.column_is; what_is = sym e.1 ∙ r.what_is },
  λ h.
      let front = one_front bytes r.before h.before r.error h.error in
      (r.column_is ∙ ap (λ n. n + 1) front ∙ sym h.column_is, r.what_is ∙ ap (what_at bytes) front ∙ sym h.what_is),
)

-- ---- numbers that are too large

pub read_no_literal : (bytes : List ℕ) (column : ℕ) → IsRead bytes → IsLiteralAt bytes column → ⊥
read_no_literal bytes column r h = small_excludes bytes column r.line r.spells r.small h

pub syntax_no_literal : (bytes : List ℕ) (found column : ℕ) (kind : What) → IsSyntaxAt bytes found kind → IsLiteralAt bytes column → ⊥
syntax_no_literal bytes found column kind r h =
    let s = large_spelled bytes column h in r.error.outside (s.line_is, s.spells)

pub one_literal_column : (bytes : List ℕ) (found column : ℕ) → IsLiteralAt bytes found → IsTrue (found == column) ↔ IsLiteralAt bytes column
one_literal_column bytes found column r = (
  λ e. record { before = r.before; error = r.error; column_is = sym (eqb-true found column e) ∙ r.column_is },
  λ h. eq-eqb found column (r.column_is ∙ ap (λ n. n + 1) (one_literal bytes r.before h.before r.error h.error) ∙ sym h.column_is),
)

-- ---- linear terms

pub germ_no_linear : (bytes : List ℕ) (limit : ℕ) (g : Germ) (w : Name) → IsLineGerm bytes limit g → IsLinearIn bytes w → ⊥
germ_no_linear bytes limit g w r h = critical_excludes bytes r.is_germ.line w r.is_germ.critical h

pub literal_no_linear : (bytes : List ℕ) (found : ℕ) (w : Name) → IsLiteralAt bytes found → IsLinearIn bytes w → ⊥
literal_no_linear bytes found w r h =
    let s = large_line bytes r.before r.error in
    s.not_small (subst (λ l. IsTrue (has_small_literals l)) (one_line bytes h.linear.line s.line_is h.linear.spells s.spells) h.linear.small)

-- the first variable with a linear coefficient is one
pub one_linear : (bytes : List ℕ) (v w : Name) → IsLinearIn bytes v → (v ≡ w) ↔ IsLinearIn bytes w
one_linear bytes v w h = (λ e. subst (IsLinearIn bytes) e h, one_variable_name bytes v w h)

-- ---- critical lines

pub literal_no_germ : (bytes : List ℕ) (found : ℕ) → IsLiteralAt bytes found → (l : Line) → IsCritical bytes l → ⊥
literal_no_germ bytes found r l h =
    let s = large_line bytes r.before r.error in
    s.not_small (subst (λ z. IsTrue (has_small_literals z)) (one_line bytes l s.line_is h.spells s.spells) h.small)

pub linear_no_germ : (bytes : List ℕ) (v : Name) → IsLinearIn bytes v → (l : Line) → IsCritical bytes l → ⊥
linear_no_germ bytes v r l h = critical_excludes bytes l v h r

-- the answer of the reader is the germ of the one line that the bytes spell
pub germ_of_line : (bytes : List ℕ) (limit : ℕ) (g : Germ) → IsLineGerm bytes limit g → IsGermOfLine bytes limit g
germ_of_line bytes limit g h =
    let line = h.is_germ.line in
    let words : list_all is_name h.names ≡ true = subst (λ ns. list_all is_name ns ≡ true) h.is_germ.names_are (line_names line h.is_germ.critical.spells.is_line) in
    record {
      line = line;
      critical = h.is_germ.critical;
      only = λ l s. one_line bytes l line s h.is_germ.critical.spells;
      valid = ap (list_all is_valid_name) h.names_are ∙ names_of_words h.names words;
      names = ap (map name_text) h.names_are ∙ words_of_names h.names words ∙ sym h.is_germ.names_are;
      order = h.order_is ∙ ap (λ ns. order_limit limit (length ns)) (sym h.is_germ.names_are);
      germ = h.is_germ.is_germ;
    }

-- ---- the shape

small_order : (n order : ℕ) (b : Bool) → b ≡ (nat_lt n 5 || nat_le order 12) → IsTrue b ↔ (5 ≤ n → order ≤ 12)
small_order n order b e = (
  λ t many. grind (arith, nat_tests),
  λ h. grind (arith, nat_tests),
)

pub shape_is : (c : Carried) (names : List Name) (l : Line) (same low : Bool) → IsWellFormedCarried c → IsTrue (list_all is_valid_name names) → map name_text names ≡ names_of l
    → IsTrue same ↔ (names ≡ c.names) → IsTrue low ↔ (5 ≤ length c.names → c.order ≤ 12) → IsTrue (same && low) ↔ IsShape l c
shape_is c names l same low w valid of_line s o = (
  λ t.
      let is_same = s.0 (and_left same low t) in
      record {
        names = ap (map name_text) (sym is_same) ∙ of_line;
        parts = w.parts_count;
        corank = w.corank;
        order = o.0 (and_right same low t);
      },
  λ h. and_both same low (s.1 (one_list_of_names names c.names valid w.names (of_line ∙ sym h.names))) (o.1 h.order),
)
