-- What is known of the value of a block when some of its lines are read, and the texts that follow.
use Rattle.std.specs.Prelude.{◌≡◌, ℕ, ◌<◌, ◌≤◌, IsTrue, List, [], ◌∷◌, ◌++◌, length}
use Rattle.std.specs.List.{AllByRecursion, list_all}
use Rattle.std.specs.Borrow.{Bor}
use Rattle.ring_law.specs.declared.fraction.Frac.{Frac}
use Rattle.ext_algebra.specs.declared.algebra.Ext.{Ext}
use Rattle.ext_algebra.specs.Algebra.{is_algebra}
use Rattle.jet_poly.specs.JetTerms.{JetTerms}
use Rattle.poly_text.specs.declared.name.Name.{Name}
use Rattle.poly_text.specs.Polynomials.{jet_text}
use Rattle.cert_text.specs.declared.report.Carried.{Carried}
use Rattle.cert_text.specs.declared.word.Word.{Word}
use Rattle.cert_text.specs.declared.word.Word.TheVariants as words
use Rattle.cert_text.specs.Words.{word_text}
use Rattle.cert_text.specs.Text.{line, word_line, parts_text, part_text, rows_text}
use Rattle.cert_text.specs.WellFormed.{is_valid_name, IsPartOf, IsWellFormedCarried}
use Rattle.row_reader.specs.Rows.{IsNamedPart}
use Rattle.report_reader.specs.declared.frame.Frame.{Frame}
use Rattle.report_reader.specs.declared.frame.Parts.{Parts}
use Rattle.report_reader.specs.Blocks.{IsNotAtFront}

-- an order, a valid algebra and a corank as reports have them
pub record IsFrame (f : Frame) : Type 0 where
  pub order_at_least : 2 ≤ f.order
  pub order_at_most : f.order ≤ 16
  pub algebra : IsTrue (is_algebra f.algebra)
  pub corank : f.corank ≤ 8

-- the first three lines agree with what was read
pub record IsFramed (f : Frame) (c : Carried) : Type 0 where
  pub valid : IsWellFormedCarried c
  pub order : c.order ≡ f.order
  pub algebra : c.algebra ≡ f.algebra
  pub corank : c.corank ≡ f.corank

-- ---- the parts of a change

-- the line of a part
abbrev pub part_line : Name × JetTerms (Ext Frac) → List ℕ
part_line p = part_text p.0 p.1

-- as many parts as names, in n variables
pub record ArePartsIn (f : Frame) (n : ℕ) (p : Parts) : Type 0 where
  pub names : IsTrue (list_all is_valid_name p.names)
  pub count : length p.parts ≡ length p.names
  pub parts : AllByRecursion (IsPartOf n f.order f.algebra) p.parts

-- their lines
abbrev pub lines_of : Parts → List ℕ
lines_of p = parts_text p.names p.parts

-- the same, and the line `inverse`
unfoldable pub change_text : Parts → List ℕ
change_text p = lines_of p ++ line (word_text words.Inverse)

-- parts in as many variables as there are, at least one and at most eight, and not fewer than the corank
pub record AreParts (f : Frame) (p : Parts) : Type 0 where
  pub some_name : 1 ≤ length p.names
  pub few_names : length p.names ≤ 8
  pub corank : f.corank ≤ length p.names
  pub parts : ArePartsIn f (length p.names) p

-- so many parts in n variables
pub record AreSoMany (f : Frame) (n count : ℕ) (p : Parts) : Type 0 where
  pub parts : ArePartsIn f n p
  pub long : length p.names ≡ count

-- one more part
abbrev pub pushed : Parts → Name × JetTerms (Ext Frac) → Parts
pushed p part = record { names = p.names ++ part.0 ∷ []; parts = p.parts ++ part.1 ∷ [] }

-- the lines at the front that are parts in eight variables, at most eight of them, and what stands behind these
pub record ArePassed (f : Frame) (bytes : List ℕ) (found : ℕ × Bor (List ℕ)) : Type 0 where
  pub passed : Parts
  pub parts : AreSoMany f 8 found.0 passed
  pub few : found.0 ≤ 8
  pub text : lines_of passed ++ found.1.now ≡ bytes
  pub next : found.0 < 8 → IsNotAtFront (IsNamedPart f.algebra 8 f.order) part_line found.1.now

-- the parts of a report
abbrev pub parts_of : Carried → Parts
parts_of c = record { names = c.names; parts = c.change.parts }

-- ---- the whole change

-- the lines after `change`
unfoldable pub change_rest : Word → Carried → List ℕ
change_rest word c = change_text (parts_of c) ++ (rows_text c.change.n c.change.n c.change.inverse ++ word_line word (jet_text c.jet))
