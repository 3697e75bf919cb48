-- Which lines get which answer: two kinds of answers exclude each other, since bytes spell one line.
use Rattle.std.proofs.Common.{true, true≢false, ◌≡◌, ℕ, ◌+◌, ◌<◌, ◌≤◌, ◌⊎◌, inl, inr, List, length, refl, sym, ap, ap₂, subst, ◌∙◌, arith}
use Rattle.line_syntax.specs.Syntax.{Line}
use Rattle.poly_text.specs.declared.name.Name.{Name}
use Rattle.poly_text.specs.declared.what.What.{What}
use Rattle.cert_text.specs.declared.report.Answer.{Answer}
use Rattle.cert_text.specs.declared.report.Answer.TheVariants as answers
use Rattle.cert_text.specs.declared.report.Limit as limit_type
use Rattle.cert_text.specs.declared.report.Named as named_type
use Rattle.cert_text.specs.declared.report.Outside as outside_type
use Rattle.cert_text.specs.declared.report.Unresolved as unresolved_type
use Rattle.cert_text.specs.declared.report.Phase.TheVariants as phases
use Rattle.cert_text.specs.declared.report.Phase.{Phase}
use Rattle.cert_text.specs.declared.report.Report.{Report}
use Rattle.cert_text.specs.declared.report.Report.TheVariants as reports
use Rattle.report_law.proofs.Exclusions.{large_spelled, small_excludes, grammar_excludes, critical_excludes, one_front, one_variable_name}
use Rattle.line_syntax.proofs.OneLine.{one_line}
use Rattle.report_law.specs.Right.{IsRead, IsRightAnswer}
use Rattle.line_germ.specs.Answers.{what_at}
use Rattle.line_germ.specs.Reads.{IsSyntaxAt, IsLiteralAt, IsLinearIn}
use Rattle.germ_law.specs.Germ.{IsCritical}
use Rattle.planned_law.specs.Planned.{IsUnbuilt, corank_of_line, is_unbuilt}
use Rattle.determinator.specs.Lines.{IsAnswer}
use Rattle.determinator.specs.Exact.{IsTooLongExactly, IsSyntaxExactly, IsLiteralAnswer, IsLiteralExactly, IsNotCriticalExactly, IsUnbuiltExactly, IsDecided, IsDecidedExactly, IsExact, named, outside, undecided, unresolved, high}

-- ---- the report of a line

-- a report that answers a line
data Form (limit : ℕ) (line : List ℕ) (r : Report) : Type 0 where
  long : 65536 < length line → r ≡ reports.Long (length line) → Form limit line r
  short : (a : Answer) → length line ≤ 65536 → r ≡ reports.Line line a → IsRightAnswer (IsUnbuilt limit) line limit a → Form limit line r

form_of : (limit : ℕ) (line : List ℕ) (r : Report) → IsAnswer limit line r → Form limit line r
form_of limit line (reports.Long n) h = long h.right.truthful.1 (ap (λ k. reports.Long k) h.right.truthful.0)
form_of limit line (reports.Line held a) h = short a h.right.truthful.0 (ap (λ b. reports.Line b a) h.right.truthful.1) h.right.truthful.2

pub too_long : IsTooLongExactly
too_long limit line r h n = (λ e. was (form_of limit line r h) e, λ k. now (form_of limit line r h) k)
  where
    was : Form limit line r → r ≡ reports.Long n → (65536 < length line) × (n ≡ length line)
    was (long above is) e = (above, cc)
    was (short a low is right) e = absurd cc

    now : Form limit line r → (65536 < length line) × (n ≡ length line) → r ≡ reports.Long n
    now (long above is) k = is ∙ ap (λ j. reports.Long j) (sym k.1)
    now (short a low is right) k = let above = k.0 in absurd (omega arith)

-- ---- the kinds of answers to a line of at most 65,536 bytes

-- a name, a pattern past the list, a limit, or no name
data Decided (a : Answer) : Type 0 where
  by_name : (n : named_type.Named) → a ≡ answers.Named n → Decided a
  by_pattern : (n : outside_type.Outside) → a ≡ answers.Outside n → Decided a
  by_limit : (n : limit_type.Limit) → a ≡ answers.Limit n → Decided a
  by_no_name : (n : unresolved_type.Unresolved) → a ≡ answers.Unresolved n → Decided a

-- an answer, and what is true of the line where it is right
data Kind (limit : ℕ) (line : List ℕ) (a : Answer) : Type 0 where
  no_line : (column : ℕ) (what : What) → a ≡ answers.Syntax column what → IsSyntaxAt line column what → Kind limit line a
  large : (column : ℕ) → a ≡ answers.Literal column → IsLiteralAt line column → Kind limit line a
  linear : (name : Name) → a ≡ answers.NotCritical name → IsLinearIn line name → Kind limit line a
  not_read : a ≡ answers.Range phases.Line → IsRead line → Kind limit line a
  past : (phase : Phase) → a ≡ answers.Range phase → (l : Line) → IsCritical line l → Kind limit line a
  many : a ≡ answers.Unbuilt → IsUnbuilt limit line → Kind limit line a
  one : (l : Line) → IsCritical line l → (IsUnbuilt limit line → ⊥) → Decided a → Kind limit line a

kind_of : (limit : ℕ) (line : List ℕ) (a : Answer) → IsRightAnswer (IsUnbuilt limit) line limit a → Kind limit line a
kind_of limit line (answers.Syntax column what) h = no_line column what refl h
kind_of limit line (answers.Literal column) h = large column refl h
kind_of limit line (answers.NotCritical name) h = linear name refl h
kind_of limit line answers.Unbuilt h = many refl h
kind_of limit line (answers.Named n) h = one h.0.0 h.0.1.0 h.2 (by_name n refl)
kind_of limit line (answers.Outside n) h = one h.0.0 h.0.1.0 h.2 (by_pattern n refl)
kind_of limit line (answers.Limit n) h = one h.0.0 h.0.1.0 h.3 (by_limit n refl)
kind_of limit line (answers.Unresolved n) h = one h.0.0 h.0.1.0 h.2 (by_no_name n refl)
kind_of limit line (answers.Range phases.Line) h = not_read refl h.read
kind_of limit line (answers.Range phases.Hessian) h = past phases.Hessian refl h.0 h.1
kind_of limit line (answers.Range phases.Split) h = past phases.Split refl h.0 h.1
kind_of limit line (answers.Range phases.Shape) h = past phases.Shape refl h.0 h.1
kind_of limit line (answers.Range phases.Kill) h = past phases.Kill refl h.0 h.1
kind_of limit line (answers.Range phases.Mather) h = past phases.Mather refl h.0 h.1
kind_of limit line (answers.Range phases.Finish) h = past phases.Finish refl h.0 h.1
kind_of limit line (answers.Range phases.Milnor) h = past phases.Milnor refl h.0 h.1

-- the report of a line of at most 65,536 bytes, by its kind
record Short (limit : ℕ) (line : List ℕ) (r : Report) : Type 0 where
  pub answer : Answer
  pub report_is : r ≡ reports.Line line answer
  pub kind : Kind limit line answer

short_of : (limit : ℕ) (line : List ℕ) (r : Report) → length line ≤ 65536 → IsAnswer limit line r → Short limit line r
short_of limit line r few h = by_form (form_of limit line r h)
  where
    by_form : Form limit line r → Short limit line r
    by_form (long above is) = absurd (omega arith)
    by_form (short a low is right) = record { answer = a; report_is = is; kind = kind_of limit line a right }

-- ---- the laws

pub syntax : IsSyntaxExactly
syntax limit line r h column what = (λ e. was (form_of limit line r h) e, λ k. now k.1 (short_of limit line r k.0 h))
  where
    was : Form limit line r → r ≡ reports.Line line (answers.Syntax column what) → (length line ≤ 65536) × IsSyntaxAt line column what
    was (long above is) e = absurd cc
    was (short a low is right) e =
        let same : a ≡ answers.Syntax column what = cc in
        (low, subst (IsRightAnswer (IsUnbuilt limit) line limit) same right)

    now : IsSyntaxAt line column what → Short limit line r → r ≡ reports.Line line (answers.Syntax column what)
    now k s = by_kind s.kind
      where
        by_kind : Kind limit line s.answer → r ≡ reports.Line line (answers.Syntax column what)
        by_kind (no_line c w is refusal) =
            let front = one_front line refusal.before k.before refusal.error k.error in
            let columns : c ≡ column = refusal.column_is ∙ ap (λ n. n + 1) front ∙ sym k.column_is in
            let words : w ≡ what = refusal.what_is ∙ ap (what_at line) front ∙ sym k.what_is in
            s.report_is ∙ ap (reports.Line line) (is ∙ ap₂ answers.Syntax columns words)
        by_kind (large c is refusal) = let spelled = large_spelled line c refusal in absurd (grammar_excludes line column what spelled.line_is spelled.spells k)
        by_kind (linear name is refusal) = absurd (grammar_excludes line column what refusal.linear.line refusal.linear.spells k)
        by_kind (not_read is read) = absurd (grammar_excludes line column what read.line read.spells k)
        by_kind (past p is l o) = absurd (grammar_excludes line column what l o.spells k)
        by_kind (many is m) = absurd (grammar_excludes line column what m.line m.critical.spells k)
        by_kind (one l o u d) = absurd (grammar_excludes line column what l o.spells k)

pub literal : IsLiteralExactly
literal limit line r h = (λ k. (was (form_of limit line r h) k, (k.column, k.refusal)), λ k. now k.1.0 k.1.1 (short_of limit line r k.0 h))
  where
    was : Form limit line r → IsLiteralAnswer line r → length line ≤ 65536
    was (long above is) k = let e = k.report_is in absurd cc
    was (short a low is right) k = low

    now : (column : ℕ) → IsLiteralAt line column → Short limit line r → IsLiteralAnswer line r
    now column k s = by_kind s.kind
      where
        by_kind : Kind limit line s.answer → IsLiteralAnswer line r
        by_kind (no_line c w is refusal) = let spelled = large_spelled line column k in absurd (grammar_excludes line c w spelled.line_is spelled.spells refusal)
        by_kind (large c is refusal) = record { column = c; report_is = s.report_is ∙ ap (reports.Line line) is; refusal = refusal }
        by_kind (linear name is refusal) = absurd (small_excludes line column refusal.linear.line refusal.linear.spells refusal.linear.small k)
        by_kind (not_read is read) = absurd (small_excludes line column read.line read.spells read.small k)
        by_kind (past p is l o) = absurd (small_excludes line column l o.spells o.small k)
        by_kind (many is m) = absurd (small_excludes line column m.line m.critical.spells m.critical.small k)
        by_kind (one l o u d) = absurd (small_excludes line column l o.spells o.small k)

pub not_critical : IsNotCriticalExactly
not_critical = record { only = λ limit line r h w k. was limit line r w (form_of limit line r h) k; answered = λ limit line r h w few k. now limit line r w k (short_of limit line r few h) }
  where
    was : (limit : ℕ) (line : List ℕ) (r : Report) (w : Name) → Form limit line r → r ≡ reports.Line line (answers.NotCritical w) → IsLinearIn line w
    was limit line r w (long above is) e = absurd cc
    was limit line r w (short a low is right) e = let same : a ≡ answers.NotCritical w = cc in subst (IsRightAnswer (IsUnbuilt limit) line limit) same right

    now : (limit : ℕ) (line : List ℕ) (r : Report) (w : Name) → IsLinearIn line w → Short limit line r → (r ≡ reports.Line line (answers.NotCritical w)) ⊎ (r ≡ reports.Line line (answers.Range phases.Line))
    now limit line r w k s = by_kind s.kind
      where
        by_kind : Kind limit line s.answer → (r ≡ reports.Line line (answers.NotCritical w)) ⊎ (r ≡ reports.Line line (answers.Range phases.Line))
        by_kind (no_line c v is refusal) = absurd (grammar_excludes line c v k.linear.line k.linear.spells refusal)
        by_kind (large c is refusal) = absurd (small_excludes line c k.linear.line k.linear.spells k.linear.small refusal)
        by_kind (linear name is refusal) = inl (s.report_is ∙ ap (reports.Line line) (is ∙ ap answers.NotCritical (one_variable_name line name w refusal k)))
        by_kind (not_read is read) = inr (s.report_is ∙ ap (reports.Line line) is)
        by_kind (past p is l o) = absurd (critical_excludes line l w o k)
        by_kind (many is m) = absurd (critical_excludes line m.line w m.critical k)
        by_kind (one l o u d) = absurd (critical_excludes line l w o k)

pub unbuilt : IsUnbuiltExactly
unbuilt = record { only = λ limit line r h e. was limit line r (form_of limit line r h) e; answered = λ limit line r h m. now limit line r m (short_of limit line r m.critical.short h) }
  where
    was : (limit : ℕ) (line : List ℕ) (r : Report) → Form limit line r → r ≡ reports.Line line answers.Unbuilt → IsUnbuilt limit line
    was limit line r (long above is) e = absurd cc
    was limit line r (short a low is right) e = let same : a ≡ answers.Unbuilt = cc in subst (IsRightAnswer (IsUnbuilt limit) line limit) same right

    now : (limit : ℕ) (line : List ℕ) (r : Report) → IsUnbuilt limit line → Short limit line r → (r ≡ reports.Line line answers.Unbuilt) ⊎ ((phase : Phase) × (r ≡ reports.Line line (answers.Range phase)))
    now limit line r m s = by_kind s.kind
      where
        by_kind : Kind limit line s.answer → (r ≡ reports.Line line answers.Unbuilt) ⊎ ((phase : Phase) × (r ≡ reports.Line line (answers.Range phase)))
        by_kind (no_line c v is refusal) = absurd (grammar_excludes line c v m.line m.critical.spells refusal)
        by_kind (large c is refusal) = absurd (small_excludes line c m.line m.critical.spells m.critical.small refusal)
        by_kind (linear name is refusal) = absurd (critical_excludes line m.line name m.critical refusal)
        by_kind (not_read is read) = inr (phases.Line, s.report_is ∙ ap (reports.Line line) is)
        by_kind (past p is l o) = inr (p, s.report_is ∙ ap (reports.Line line) is)
        by_kind (many is n) = inl (s.report_is ∙ ap (reports.Line line) is)
        by_kind (one l o u d) = absurd (u m)

pub decided : IsDecidedExactly
decided limit line r h l o built = by_kind s.kind
  where
    s : Short limit line r
    s = short_of limit line r o.short h

    by_decided : Decided s.answer → IsDecided line r
    by_decided (by_name n is) = named n (s.report_is ∙ ap (reports.Line line) is)
    by_decided (by_pattern n is) = outside n (s.report_is ∙ ap (reports.Line line) is)
    by_decided (by_limit n is) = undecided n (s.report_is ∙ ap (reports.Line line) is)
    by_decided (by_no_name n is) = unresolved n (s.report_is ∙ ap (reports.Line line) is)

    not_unbuilt : IsUnbuilt limit line → ⊥
    not_unbuilt m =
        let same : m.line ≡ l = one_line line m.line l m.critical.spells o.spells in
        true≢false (sym (subst (λ x. is_unbuilt (corank_of_line x) ≡ true) same m.corank) ∙ built)

    by_kind : Kind limit line s.answer → IsDecided line r
    by_kind (no_line c v is refusal) = absurd (grammar_excludes line c v l o.spells refusal)
    by_kind (large c is refusal) = absurd (small_excludes line c l o.spells o.small refusal)
    by_kind (linear name is refusal) = absurd (critical_excludes line l name o refusal)
    by_kind (not_read is read) = high phases.Line (s.report_is ∙ ap (reports.Line line) is)
    by_kind (past p is k q) = high p (s.report_is ∙ ap (reports.Line line) is)
    by_kind (many is m) = absurd (not_unbuilt m)
    by_kind (one k q u d) = by_decided d

pub exact : IsExact
exact = record { too_long = too_long; syntax = syntax; literal = literal; not_critical = not_critical; unbuilt = unbuilt; decided = decided }
