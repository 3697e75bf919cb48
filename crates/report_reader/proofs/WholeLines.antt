-- The text of an answer, and of a report, ends with a newline.
use Rattle.std.proofs.Common.{◌≡◌, ℕ, List, [], ◌∷◌, ◌++◌, refl, sym, ap, ◌∙◌, append_assoc, inr}
use Rattle.std.proofs.lemmas.List.{append-nil}
use Rattle.std.specs.Prelude.{decimal, flat_map, length}
use Rattle.ring_law.specs.declared.fraction.Frac.{Frac}
use Rattle.ext_algebra.specs.declared.algebra.Ext.{Ext}
use Rattle.determinacy.specs.declared.row.MatherRow.{MatherRow}
use Rattle.cert_text.specs.declared.report.Answer.{Answer}
use Rattle.cert_text.specs.declared.report.Answer.TheVariants as answers
use Rattle.cert_text.specs.declared.report.Report.{Report}
use Rattle.cert_text.specs.declared.report.Report.TheVariants as reports
use Rattle.cert_text.specs.declared.report.Carried.{Carried}
use Rattle.cert_text.specs.declared.word.Word.{Word}
use Rattle.cert_text.specs.declared.word.Word.TheVariants as words
use Rattle.cert_text.specs.BadText.{IsWholeLines}
use Rattle.cert_text.specs.Words.{word_text}
use Rattle.cert_text.specs.Text.{line, word_line, carried_text, mather_text, mather_lines, table_text, front_text, evidence_text, named_text, outside_text, functional_text, limit_text, unresolved_text, answer_text, report_text}
use Rattle.poly_text.specs.Polynomials.{jet_text}

-- a newline is the last byte
pub record EndsInLine (bytes : List ℕ) : Type 0 where
  pub front : List ℕ
  pub is : bytes ≡ front ++ 10 ∷ []

ends_after : (a b : List ℕ) → EndsInLine b → EndsInLine (a ++ b)
ends_after a b h = record { front = a ++ h.front; is = ap (λ (z : List ℕ). a ++ z) h.is ∙ sym (append_assoc a h.front (10 ∷ [])) }

ends_line : (t : List ℕ) → EndsInLine (line t)
unfolding line
ends_line t = record { front = t; is = refl }

ends_word : (w : Word) (t : List ℕ) → EndsInLine (word_line w t)
unfolding word_line
ends_word w t = ends_line (word_text w ++ 32 ∷ t)

-- rows behind such bytes
ends_rows : {A : Type 0} (text : A → List ℕ) → ((a : A) → EndsInLine (text a)) → (head : List ℕ) → EndsInLine head → (xs : List A) → EndsInLine (head ++ flat_map text xs)
ends_rows text lines head h [] = record { front = h.front; is = append-nil head ∙ h.is }
ends_rows text lines head h (x ∷ xs) =
    let q = ends_rows text lines (head ++ text x) (ends_after head (text x) (lines x)) xs in
    record { front = q.front; is = sym (append_assoc head (text x) (flat_map text xs)) ∙ q.is }

ends_carried : (w : Word) (c : Carried) → EndsInLine (carried_text w c)
unfolding carried_text
ends_carried w c = ends_after _ (word_line w (jet_text c.jet)) (ends_word w (jet_text c.jet))

ends_mather : (rows : List (MatherRow (Ext Frac))) → EndsInLine (mather_lines rows)
unfolding mather_lines mather_text
ends_mather rows = ends_rows mather_text (λ row. ends_line _) (word_line words.Mather (decimal (length rows))) (ends_word words.Mather (decimal (length rows))) rows

pub ends_answer : (a : Answer) → EndsInLine (answer_text a)
unfolding answer_text named_text evidence_text outside_text limit_text unresolved_text table_text functional_text
ends_answer (answers.Syntax column what) = ends_word words.Syntax _
ends_answer (answers.Literal column) = ends_word words.Literal _
ends_answer (answers.NotCritical variable) = ends_word words.NotCritical _
ends_answer (answers.Range phase) = ends_word words.Range _
ends_answer answers.Unbuilt = ends_line _
ends_answer (answers.Named r) =
    ends_after (front_text r) (evidence_text r) (ends_rows table_text (λ row. ends_line _) _ (ends_after _ (word_line words.Table (decimal (length r.quotient.table))) (ends_word words.Table (decimal (length r.quotient.table)))) r.quotient.table)
ends_answer (answers.Outside r) = ends_after _ (carried_text words.Jet r.carried) (ends_carried words.Jet r.carried)
ends_answer (answers.Limit r) = ends_rows functional_text (λ v. ends_line _) _ (ends_after _ _ (ends_word words.Functional _)) r.functional
ends_answer (answers.Unresolved r) = ends_after _ (mather_lines r.mather) (ends_mather r.mather)

pub ends_report : (r : Report) → EndsInLine (report_text r)
unfolding report_text
ends_report (reports.Long n) = ends_after _ (line (word_text words.End)) (ends_line (word_text words.End))
ends_report (reports.Line l a) = ends_after _ (line (word_text words.End)) (ends_line (word_text words.End))

pub whole_of : (bytes : List ℕ) → EndsInLine bytes → IsWholeLines bytes
whole_of bytes h = inr (h.front, h.is)
