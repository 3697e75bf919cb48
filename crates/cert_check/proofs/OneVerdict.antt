-- No two verdicts are true of a report, since its bytes spell one line.
use Rattle.std.proofs.Common.{◌≡◌, ℕ, inl, inr, List, [], ◌∷◌, ◌++◌, get_or, drop, sym, ap, subst, ◌∙◌}
use Rattle.std.specs.List.{AllByRecursion}
use Rattle.line_syntax.specs.Syntax.{Line}
use Rattle.line_syntax.proofs.OneLine.{one_line}
use Rattle.germ_law.specs.Germ.{IsCritical}
use Rattle.cert_text.specs.declared.report.Answer.{Answer}
use Rattle.cert_text.specs.declared.report.Answer.TheVariants as answers
use Rattle.cert_text.specs.declared.report.Report.{Report}
use Rattle.cert_text.specs.declared.report.Report.TheVariants as reports
use Rattle.report_law.specs.declared.item.Item.{Item}
use Rattle.report_law.specs.declared.item.Item.TheVariants as items
use Rattle.report_law.specs.Valid.{IsValid, IsValidAnswer, NamedItem, OutsideItem, LimitItem, UnresolvedItem, named_items, outside_items, limit_items, unresolved_items}
use Rattle.report_law.specs.Verdicts.{IsUnchecked, IsUncheckedAnswer, IsInvalid, IsInvalidAnswer, IsFirstFalse, IsFirstFalseOf}
use Rattle.cert_check.specs.Laws.{OneVerdict}

-- ---- lists of items

module _ (Holds : Item → Type 0) where
  -- an item of a list in which all hold
  at : (before after : List Item) (item : Item) → AllByRecursion Holds (before ++ item ∷ after) → Holds item
  at [] after item h = h.0
  at (i ∷ before) after item h = at before after item h.1

  -- the first item that does not hold is one
  same_first : (b a c d : List Item) (i j : Item) → AllByRecursion Holds b → AllByRecursion Holds c → (Holds i → ⊥) → (Holds j → ⊥) → b ++ i ∷ a ≡ c ++ j ∷ d → i ≡ j
  same_first [] a [] d i j hb hc no_i no_j e = ap (λ l. get_or l 0 items.Germ) e
  same_first [] a (y ∷ c) d i j hb hc no_i no_j e = absurd (no_i (subst Holds (sym (ap (λ l. get_or l 0 items.Germ) e)) hc.0))
  same_first (x ∷ b) a [] d i j hb hc no_i no_j e = absurd (no_j (subst Holds (ap (λ l. get_or l 0 items.Germ) e) hb.0))
  same_first (x ∷ b) a (y ∷ c) d i j hb hc no_i no_j e = same_first b a c d i j hb.1 hc.1 no_i no_j (ap (drop 1) e)

  all_or_false : (list : List Item) (item : Item) → AllByRecursion Holds list → IsFirstFalse Holds list item → ⊥
  all_or_false list item h f = f.1 (at f.0.0 f.0.1 item (subst (AllByRecursion Holds) f.0.2 h))

  one_false : (list : List Item) (i j : Item) → IsFirstFalse Holds list i → IsFirstFalse Holds list j → i ≡ j
  one_false list i j f g = same_first f.0.0 f.0.1 g.0.0 g.0.1 i j f.0.3 g.0.3 f.1 g.1 (sym f.0.2 ∙ g.0.2)

-- ---- certificates

same_line : (bytes : List ℕ) (l m : Line) → IsCritical bytes l → IsCritical bytes m → l ≡ m
same_line bytes l m h k = one_line bytes l m h.spells k.spells

module _ (bytes : List ℕ) (Holds : Line → Item → Type 0) (list : List Item) (germ : (l : Line) → Holds l items.Germ → IsCritical bytes l) where
  valid_or_false : (item : Item) → (l : Line) × AllByRecursion (Holds l) (items.Germ ∷ list) → IsFirstFalseOf bytes Holds (items.Germ ∷ list) item → ⊥
  valid_or_false item h (inl f) = f.1 h.0 (germ h.0 h.1.0)
  valid_or_false item h (inr f) =
      all_or_false (Holds f.0) (items.Germ ∷ list) item
      (subst (λ l. AllByRecursion (Holds l) (items.Germ ∷ list)) (same_line bytes h.0 f.0 (germ h.0 h.1.0) f.1) h.1) f.2

one_false_of : (bytes : List ℕ) (Holds : Line → Item → Type 0) (list : List Item) (i j : Item) → IsFirstFalseOf bytes Holds list i → IsFirstFalseOf bytes Holds list j → i ≡ j
one_false_of bytes Holds list i j (inl f) (inl g) = f.0 ∙ sym g.0
one_false_of bytes Holds list i j (inl f) (inr g) = absurd (f.1 g.0 g.1)
one_false_of bytes Holds list i j (inr f) (inl g) = absurd (g.1 f.0 f.1)
one_false_of bytes Holds list i j (inr f) (inr g) =
    one_false (Holds g.0) list i j (subst (λ l. IsFirstFalse (Holds l) list i) (same_line bytes f.0 g.0 f.1 g.1) f.2) g.2

-- ---- answers

answer_valid_or_unchecked : (bytes : List ℕ) (a : Answer) → IsValidAnswer bytes a → IsUncheckedAnswer a → ⊥
answer_valid_or_unchecked bytes (answers.Syntax column what) h k = k
answer_valid_or_unchecked bytes (answers.Literal column) h k = k
answer_valid_or_unchecked bytes (answers.NotCritical variable) h k = k
answer_valid_or_unchecked bytes (answers.Range phase) h k = h
answer_valid_or_unchecked bytes answers.Unbuilt h k = h
answer_valid_or_unchecked bytes (answers.Named r) h k = k
answer_valid_or_unchecked bytes (answers.Outside r) h k = k
answer_valid_or_unchecked bytes (answers.Limit r) h k = k
answer_valid_or_unchecked bytes (answers.Unresolved r) h k = k

answer_valid_or_invalid : (bytes : List ℕ) (a : Answer) (item : Item) → IsValidAnswer bytes a → IsInvalidAnswer bytes a item → ⊥
answer_valid_or_invalid bytes (answers.Syntax column what) item h k = k.1 h
answer_valid_or_invalid bytes (answers.Literal column) item h k = k.1 h
answer_valid_or_invalid bytes (answers.NotCritical variable) item h k = k.1 h
answer_valid_or_invalid bytes (answers.Range phase) item h k = h
answer_valid_or_invalid bytes answers.Unbuilt item h k = h
answer_valid_or_invalid bytes (answers.Named r) item h k =
    valid_or_false bytes (λ l. NamedItem bytes l r) (drop 1 named_items) (λ l g. g) item h k
answer_valid_or_invalid bytes (answers.Outside r) item h k =
    valid_or_false bytes (λ l. OutsideItem bytes l r) (drop 1 outside_items) (λ l g. g) item h k
answer_valid_or_invalid bytes (answers.Limit r) item h k =
    valid_or_false bytes (λ l. LimitItem bytes l r) (drop 1 limit_items) (λ l g. g) item h k
answer_valid_or_invalid bytes (answers.Unresolved r) item h k =
    valid_or_false bytes (λ l. UnresolvedItem bytes l r) (drop 1 unresolved_items) (λ l g. g) item h k

answer_unchecked_or_invalid : (bytes : List ℕ) (a : Answer) (item : Item) → IsUncheckedAnswer a → IsInvalidAnswer bytes a item → ⊥
answer_unchecked_or_invalid bytes (answers.Syntax column what) item h k = h
answer_unchecked_or_invalid bytes (answers.Literal column) item h k = h
answer_unchecked_or_invalid bytes (answers.NotCritical variable) item h k = h
answer_unchecked_or_invalid bytes (answers.Range phase) item h k = k
answer_unchecked_or_invalid bytes answers.Unbuilt item h k = k
answer_unchecked_or_invalid bytes (answers.Named r) item h k = h
answer_unchecked_or_invalid bytes (answers.Outside r) item h k = h
answer_unchecked_or_invalid bytes (answers.Limit r) item h k = h
answer_unchecked_or_invalid bytes (answers.Unresolved r) item h k = h

one_answer_item : (bytes : List ℕ) (a : Answer) (i j : Item) → IsInvalidAnswer bytes a i → IsInvalidAnswer bytes a j → i ≡ j
one_answer_item bytes (answers.Syntax column what) i j h k = h.0 ∙ sym k.0
one_answer_item bytes (answers.Literal column) i j h k = h.0 ∙ sym k.0
one_answer_item bytes (answers.NotCritical variable) i j h k = h.0 ∙ sym k.0
one_answer_item bytes (answers.Range phase) i j h k = absurd h
one_answer_item bytes answers.Unbuilt i j h k = absurd h
one_answer_item bytes (answers.Named r) i j h k = one_false_of bytes (λ l. NamedItem bytes l r) named_items i j h k
one_answer_item bytes (answers.Outside r) i j h k = one_false_of bytes (λ l. OutsideItem bytes l r) outside_items i j h k
one_answer_item bytes (answers.Limit r) i j h k = one_false_of bytes (λ l. LimitItem bytes l r) limit_items i j h k
one_answer_item bytes (answers.Unresolved r) i j h k = one_false_of bytes (λ l. UnresolvedItem bytes l r) unresolved_items i j h k

-- ---- reports

valid_or_unchecked : (r : Report) → IsValid r → IsUnchecked r → ⊥
valid_or_unchecked (reports.Long size) h k = k
valid_or_unchecked (reports.Line bytes a) h k = answer_valid_or_unchecked bytes a h k

valid_or_invalid : (r : Report) (item : Item) → IsValid r → IsInvalid r item → ⊥
valid_or_invalid (reports.Long size) item h k = k.1 h
valid_or_invalid (reports.Line bytes a) item h k = answer_valid_or_invalid bytes a item h k

unchecked_or_invalid : (r : Report) (item : Item) → IsUnchecked r → IsInvalid r item → ⊥
unchecked_or_invalid (reports.Long size) item h k = h
unchecked_or_invalid (reports.Line bytes a) item h k = answer_unchecked_or_invalid bytes a item h k

one_item : (r : Report) (i j : Item) → IsInvalid r i → IsInvalid r j → i ≡ j
one_item (reports.Long size) i j h k = h.0 ∙ sym k.0
one_item (reports.Line bytes a) i j h k = one_answer_item bytes a i j h k

pub one_verdict : OneVerdict
one_verdict = record {
  valid_or_unchecked = valid_or_unchecked;
  valid_or_invalid = valid_or_invalid;
  unchecked_or_invalid = unchecked_or_invalid;
  one_item = one_item;
}
