-- What is known of an answer with a jet when some of its lines are read, and the texts that follow.
use Rattle.std.specs.Prelude.{◌≡◌, ℕ, ◌<◌, ◌≤◌, ◌^◌, IsTrue, List, ◌++◌, length, decimal}
use Rattle.mono_exp.specs.declared.exponent.Exp.{Exp}
use Rattle.normal_forms.specs.declared.family.Family.{Family}
use Rattle.cert_text.specs.declared.report.Carried.{Carried}
use Rattle.cert_text.specs.declared.report.Named as named_type
use Rattle.cert_text.specs.declared.report.Unresolved as unresolved_type
use Rattle.cert_text.specs.declared.word.Word.TheVariants as words
use Rattle.cert_text.specs.Text.{line, word_line, carried_text, unit_text, modulus_text, mather_text, table_text, basis_inside}
use Rattle.cert_text.specs.WellFormed.{IsWellFormedCarried, IsWellFormedNamed, is_valid_modulus, IsFamily}
use Rattle.row_reader.specs.Values.{IsUnitPair, AreResidual}
use Rattle.report_reader.specs.declared.frame.Frame.{Frame}
use Rattle.report_reader.specs.declared.named.Front.{Front}
use Rattle.report_reader.specs.Rows.{AreAtMost, counted_text}

-- the order, the algebra and the corank
abbrev pub frame_of : Carried → Frame
frame_of c = record { order = c.order; algebra = c.algebra; corank = c.corank }

-- at least one residual monomial
pub record IsBasis (corank : ℕ) (ms : List Exp) : Type 0 where
  pub some : 1 ≤ length ms
  pub few : length ms ≤ 1140
  pub residual : AreResidual corank ms

abbrev pub basis_line : List Exp → List ℕ
basis_line ms = line (basis_inside ms)

-- ---- named

-- the lines up to the Milnor number say something valid
pub record IsFront (f : Front) : Type 0 where
  pub family : IsFamily f.family
  pub carried : IsWellFormedCarried f.carried
  pub units : AreAtMost (IsUnitPair f.carried.algebra) 1140 f.units
  pub modulus : IsTrue (is_valid_modulus f.carried.algebra f.modulus)
  pub milnor : f.milnor < 2 ^ 32

-- a named report that begins so
pub record IsNamedAs (f : Front) (r : named_type.Named) : Type 0 where
  pub valid : IsWellFormedNamed r
  pub family : r.family ≡ f.family
  pub carried : r.carried ≡ f.carried
  pub units : r.units ≡ f.units
  pub modulus : r.modulus ≡ f.modulus
  pub milnor : r.milnor ≡ f.milnor

-- a named report of this family
abbrev pub IsOfFamily : Family → named_type.Named → Type 0
IsOfFamily family r = IsWellFormedNamed r × (r.family ≡ family)

-- the lines behind the basis, behind Mather's rows, behind the Milnor number
abbrev pub table_rest : named_type.Named → List ℕ
table_rest r = counted_text words.Table table_text r.quotient.table

unfoldable pub basis_rest : named_type.Named → List ℕ
basis_rest r = basis_line r.quotient.basis ++ table_rest r

unfoldable pub mather_rest : named_type.Named → List ℕ
mather_rest r = counted_text words.Mather mather_text r.mather ++ basis_rest r

-- the lines behind the modulus, behind the units, behind the carried lines, behind the name
unfoldable pub milnor_rest : named_type.Named → List ℕ
milnor_rest r = word_line words.Milnor (decimal r.milnor) ++ mather_rest r

unfoldable pub modulus_rest : named_type.Named → List ℕ
modulus_rest r = word_line words.Modulus (modulus_text r.modulus) ++ milnor_rest r

unfoldable pub units_rest : named_type.Named → List ℕ
units_rest r = counted_text words.Units unit_text r.units ++ modulus_rest r

unfoldable pub named_rest : named_type.Named → List ℕ
named_rest r = carried_text words.Form r.carried ++ units_rest r

-- ---- unresolved

unfoldable pub unresolved_rest : unresolved_type.Unresolved → List ℕ
unresolved_rest r = carried_text words.Jet r.carried ++ counted_text words.Mather mather_text r.mather
