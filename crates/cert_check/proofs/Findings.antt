-- What is found of lists of items, joined, and as verdicts.
use Rattle.std.proofs.Common.{◌≡◌, ℕ, ◌≤◌, ◌&&◌, eqb-true, eq-eqb, leb-true, le-leb, Bool, true, false, IsTrue, ◌↔◌, inl, inr, List, [], ◌∷◌, ◌++◌, Result, Ok, Err, IfOk, refl, sym, ap, subst, ◌∙◌, true≢false}
use Rattle.std.specs.Prelude.{◌==◌, nat_le}
use Rattle.std.specs.List.{AllByRecursion}
use Rattle.ring_law.specs.declared.fraction.Fault.{Fault}
use Rattle.ring_law.specs.declared.fraction.Fault.TheVariants as fault
use Rattle.ring_law.specs.Refusals.{OnFault}
use Rattle.line_syntax.specs.Syntax.{Line}
use Rattle.germ_law.specs.Germ.{IsCritical}
use Rattle.line_syntax.proofs.Bools.{and_left, and_right}
use Rattle.normal_forms.specs.Patterns.{order_of}
use Rattle.cert_text.specs.declared.report.Named as named_type
use Rattle.cert_text.specs.declared.report.Outside as outside_type
use Rattle.cert_text.specs.declared.report.Limit as limit_type
use Rattle.cert_text.specs.declared.report.Unresolved as unresolved_type
use Rattle.cert_text.specs.declared.report.Answer.TheVariants as answers
use Rattle.cert_text.specs.declared.report.Report.TheVariants as reports
use Rattle.report_law.specs.declared.item.Item.{Item}
use Rattle.report_law.specs.declared.item.Item.TheVariants as items
use Rattle.report_law.specs.Items.{IsShape}
use Rattle.report_law.specs.Valid.{NamedItem, OutsideItem, LimitItem, UnresolvedItem}
use Rattle.report_law.proofs.Splitting.{and_both}
use Rattle.report_law.specs.Verdicts.{IsVerdictOn, IsReached, IsFirstFalse, IsFirstFalseOf, IsReachedOf}
use Rattle.check_line.specs.declared.tested.Tested.{Tested}
use Rattle.check_line.specs.declared.tested.Tested.TheVariants as tested
use Rattle.check_line.specs.Tests.{IsTested}
use Rattle.cert_check.specs.declared.found.Found.{Found}
use Rattle.cert_check.specs.declared.found.Found.TheVariants as found
use Rattle.cert_check.specs.Found.{IsFirstFalseIn, IsHighIn, IsFound, IsLineFound}
use Rattle.cert_check.specs.Items.{CarriedItem, carried_items, named_on, outside_on, limit_on, unresolved_on}
use Rattle.cert_check.specs.Heights.{IsCarriedHigh, IsNamedHigh, IsOutsideHigh, IsLimitHigh, IsUnresolvedHigh, IsItemHigh}
use Rattle.cert_check.specs.Outcomes.{IsTestOf, tested_by, verdict_of}

-- ---- tests

exactly : (b : Bool) (P : Type 0) → IsTrue b ↔ P → IsTested P ⊥ (tested_by b)
exactly true P e = e.0 refl
exactly false P e = λ p. true≢false (sym (e.1 p))

-- the answer of a call that may refuse, as a test
pub tested_is : (P H : Type 0) (r : Result Bool Fault) → IfOk r (λ b. IsTrue b ↔ P) → OnFault r H → (t : Tested) → IsTestOf r t → IsTested P H t
tested_is P H r h o tested.Holds e = let k : IfOk {E = Fault} (Ok true) (λ b. IsTrue b ↔ P) = subst (λ z. IfOk z (λ b. IsTrue b ↔ P)) e h in k.0 refl
tested_is P H r h o tested.Fails e = let k : IfOk {E = Fault} (Ok false) (λ b. IsTrue b ↔ P) = subst (λ z. IfOk z (λ b. IsTrue b ↔ P)) e h in λ p. true≢false (sym (k.1 p))
tested_is P H r h o tested.High e = let k : OnFault {T = Bool} (Err (fault.Range e.0)) H = subst (λ z. OnFault z H) e.1 o in k.only.1

-- ---- lists of items

module _ (Holds High : Item → Type 0) where
  -- an item that holds, before a list
  pub found_then : (i : Item) (list : List Item) → Holds i → (f : Found) → IsFound Holds High list f → IsFound Holds High (i ∷ list) f
  found_then i list h found.Passed k = (h, k)
  found_then i list h (found.Fails item) k = inr (h, k)
  found_then i list h (found.High item) k = inr (h, k)

  -- the first false item stands in the list, after items that hold
  pub first_false : (list : List Item) (item : Item) → IsFirstFalseIn Holds list item → IsFirstFalse Holds list item
  first_false [] item h = absurd h
  first_false (i ∷ list) item (inl h) = (([], list, ap (λ j. j ∷ list) (sym h.0), tt), λ k. h.1 (subst Holds h.0 k))
  first_false (i ∷ list) item (inr h) =
      let rest = first_false list item h.1 in
      ((i ∷ rest.0.0, rest.0.1, ap (λ l. i ∷ l) rest.0.2, (h.0, rest.0.3)), rest.1)

  -- and so does one that is high
  pub high_reached : (list : List Item) (item : Item) → IsHighIn Holds High list item → IsReached Holds list item × High item
  high_reached [] item h = absurd h
  high_reached (i ∷ list) item (inl h) = (([], list, ap (λ j. j ∷ list) (sym h.0), tt), subst High (sym h.0) h.1)
  high_reached (i ∷ list) item (inr h) =
      let rest = high_reached list item h.1 in
      ((i ∷ rest.0.0, rest.0.1, ap (λ l. i ∷ l) rest.0.2, (h.0, rest.0.3)), rest.1)

-- an item means the same for two kinds of report
pub record IsSame (Holds High Holds' High' : Item → Type 0) (i : Item) : Type 0 where
  pub to : Holds i → Holds' i
  pub from : Holds' i → Holds i
  pub high : High i → High' i

module _ (Holds High Holds' High' : Item → Type 0) (rest : List Item) where
  abbrev pub Same : List Item → Type 0
  Same list = AllByRecursion (IsSame Holds High Holds' High') list

  passed_then : (list : List Item) → Same list → AllByRecursion Holds list → (f : Found) → IsFound Holds' High' rest f → IsFound Holds' High' (list ++ rest) f
  passed_then [] s h f k = k
  passed_then (i ∷ list) s h f k = found_then Holds' High' i (list ++ rest) (s.0.to h.0) f (passed_then list s.1 h.1 f k)

  false_wider : (list : List Item) → Same list → (item : Item) → IsFirstFalseIn Holds list item → IsFirstFalseIn Holds' (list ++ rest) item
  false_wider [] s item h = absurd h
  false_wider (i ∷ list) s item (inl h) = inl (h.0, λ k. h.1 (s.0.from k))
  false_wider (i ∷ list) s item (inr h) = inr (s.0.to h.0, false_wider list s.1 item h.1)

  high_wider : (list : List Item) → Same list → (item : Item) → IsHighIn Holds High list item → IsHighIn Holds' High' (list ++ rest) item
  high_wider [] s item h = absurd h
  high_wider (i ∷ list) s item (inl h) = inl (h.0, s.0.high h.1)
  high_wider (i ∷ list) s item (inr h) = inr (s.0.to h.0, high_wider list s.1 item h.1)

-- ---- of a line

module _ (bytes : List ℕ) (Holds Holds' : Line → Item → Type 0) (High High' : Item → Type 0) (list rest : List Item)
    (same : (l : Line) → AllByRecursion (IsSame (Holds l) High (Holds' l) High') list) (germ : High items.Germ → High' items.Germ) where
  -- where the first items hold, what is found of the rest is found of all
  pub line_then : IsLineFound bytes Holds High list found.Passed → (f : Found) → ((l : Line) → IsFound (Holds' l) High' rest f) → IsLineFound bytes Holds' High' (list ++ rest) f
  line_then h found.Passed k = (h.0, h.1, passed_then (Holds h.0) High (Holds' h.0) High' rest list (same h.0) h.2 found.Passed (k h.0))
  line_then h (found.Fails item) k = inr (h.0, h.1, passed_then (Holds h.0) High (Holds' h.0) High' rest list (same h.0) h.2 (found.Fails item) (k h.0))
  line_then h (found.High item) k = inr (h.0, h.1, passed_then (Holds h.0) High (Holds' h.0) High' rest list (same h.0) h.2 (found.High item) (k h.0))

  -- a false item among the first ones is the first of all
  pub line_false : (item : Item) → IsLineFound bytes Holds High list (found.Fails item) → IsLineFound bytes Holds' High' (list ++ rest) (found.Fails item)
  line_false item (inl h) = inl h
  line_false item (inr h) = inr (h.0, h.1, false_wider (Holds h.0) High (Holds' h.0) High' rest list (same h.0) item h.2)

  -- and so is one that is high
  pub line_high : (item : Item) → IsLineFound bytes Holds High list (found.High item) → IsLineFound bytes Holds' High' (list ++ rest) (found.High item)
  line_high item (inl h) = inl (h.0, germ h.1)
  line_high item (inr h) = inr (h.0, h.1, high_wider (Holds h.0) High (Holds' h.0) High' rest list (same h.0) item h.2)

-- with the germ before them, the items that follow are those of a report
module _ (bytes : List ℕ) (Holds : Line → Item → Type 0) (High : Item → Type 0) (list : List Item) (germ : (l : Line) → IsCritical bytes l → Holds l items.Germ) where
  pub all_hold : IsLineFound bytes Holds High list found.Passed → (l : Line) × AllByRecursion (Holds l) (items.Germ ∷ list)
  all_hold h = (h.0, (germ h.0 h.1, h.2))

  pub false_of : (item : Item) → IsLineFound bytes Holds High list (found.Fails item) → IsFirstFalseOf bytes Holds (items.Germ ∷ list) item
  false_of item (inl h) = inl h
  false_of item (inr h) = inr (h.0, h.1, first_false (Holds h.0) High (items.Germ ∷ list) item (inr (germ h.0 h.1, h.2)))

  pub high_of : (item : Item) → IsLineFound bytes Holds High list (found.High item) → IsReachedOf bytes Holds (items.Germ ∷ list) item × High item
  high_of item (inl h) = (inl h.0, subst High (sym h.0) h.1)
  high_of item (inr h) =
      let reached = high_reached (Holds h.0) High (items.Germ ∷ list) item (inr (germ h.0 h.1, h.2)) in
      (inr (h.0, h.1, reached.0), reached.1)

-- ---- what fits a kind of answer

at_most : (a b : ℕ) → IsTrue (nat_le a b) ↔ (a ≤ b)
at_most a b = (λ t. leb-true a b t, λ h. le-leb a b h)

equal : (a b : ℕ) → IsTrue (a == b) ↔ (a ≡ b)
equal a b = (λ t. eqb-true a b t, λ h. eq-eqb a b h)

two : (a b : Bool) (P Q : Type 0) → IsTrue a ↔ P → IsTrue b ↔ Q → IsTrue (a && b) ↔ (P × Q)
two a b P Q p q = (λ t. (p.0 (and_left a b t), q.0 (and_right a b t)), λ h. and_both a b (p.1 h.0) (q.1 h.1))

same_shape : (A P Q : Type 0) → P ↔ Q → (A × P) ↔ (A × Q)
same_shape A P Q e = (λ h. (h.0, e.0 h.1), λ h. (h.0, e.1 h.1))

-- of a name
pub named_same : (bytes : List ℕ) (r : named_type.Named) (l : Line)
    → AllByRecursion (IsSame (CarriedItem l r.carried (nat_le r.carried.corank 3)) (IsCarriedHigh bytes r.carried) (NamedItem bytes l r) (IsNamedHigh bytes r)) carried_items
named_same bytes r l =
    let shape = same_shape (IsShape l r.carried) (IsTrue (nat_le r.carried.corank 3)) (r.carried.corank ≤ 3) (at_most r.carried.corank 3) in (
      record { to = shape.0; from = shape.1; high = λ h. h },
      (
        record { to = λ h. h; from = λ h. h; high = λ h. h },
        (record { to = λ h. h; from = λ h. h; high = λ h. h }, tt),
      ),
    )

-- of a jet outside the list
pub outside_same : (bytes : List ℕ) (r : outside_type.Outside) (fits : Bool) → fits ≡ (r.carried.order == order_of r.pattern) → (l : Line)
    → AllByRecursion (IsSame (CarriedItem l r.carried fits) (IsCarriedHigh bytes r.carried) (OutsideItem bytes l r) (IsOutsideHigh bytes r)) carried_items
outside_same bytes r fits e l =
    let right = equal r.carried.order (order_of r.pattern) in
    let shape = same_shape (IsShape l r.carried) (IsTrue fits) (r.carried.order ≡ order_of r.pattern) (λ t. right.0 (sym e ∙ t), λ h. e ∙ right.1 h) in (
      record { to = shape.0; from = shape.1; high = λ h. h },
      (
        record { to = λ h. h; from = λ h. h; high = λ h. h },
        (record { to = λ h. h; from = λ h. h; high = λ h. h }, tt),
      ),
    )

-- of a jet that is not decided
pub limit_same : (bytes : List ℕ) (r : limit_type.Limit) (fits : Bool) → fits ≡ (nat_le r.carried.corank 3 && nat_le 3 r.carried.order) → (l : Line)
    → AllByRecursion (IsSame (CarriedItem l r.carried fits) (IsCarriedHigh bytes r.carried) (LimitItem bytes l r) (IsLimitHigh bytes r)) carried_items
limit_same bytes r fits e l =
    let right = two (nat_le r.carried.corank 3) (nat_le 3 r.carried.order) (r.carried.corank ≤ 3) (3 ≤ r.carried.order) (at_most r.carried.corank 3) (at_most 3 r.carried.order) in (
      record {
        to = λ h. let sizes = right.0 (sym e ∙ h.1) in (h.0, sizes.0, sizes.1);
        from = λ h. (h.0, e ∙ right.1 (h.1, h.2));
        high = λ h. h;
      },
      (
        record { to = λ h. h; from = λ h. h; high = λ h. h },
        (record { to = λ h. h; from = λ h. h; high = λ h. h }, tt),
      ),
    )

-- of a determined jet without a name
pub unresolved_same : (bytes : List ℕ) (r : unresolved_type.Unresolved) (l : Line)
    → AllByRecursion (IsSame (CarriedItem l r.carried (nat_le r.carried.corank 3)) (IsCarriedHigh bytes r.carried) (UnresolvedItem bytes l r) (IsUnresolvedHigh bytes r)) carried_items
unresolved_same bytes r l =
    let shape = same_shape (IsShape l r.carried) (IsTrue (nat_le r.carried.corank 3)) (r.carried.corank ≤ 3) (at_most r.carried.corank 3) in (
      record { to = shape.0; from = shape.1; high = λ h. h },
      (
        record { to = λ h. h; from = λ h. h; high = λ h. h },
        (record { to = λ h. h; from = λ h. h; high = λ h. h }, tt),
      ),
    )

-- ---- verdicts

pub named_verdict_is : (bytes : List ℕ) (r : named_type.Named) (f : Found) → IsLineFound bytes (λ l. NamedItem bytes l r) (IsNamedHigh bytes r) named_on f
    → IsVerdictOn IsItemHigh (reports.Line bytes (answers.Named r)) (verdict_of f)
named_verdict_is bytes r found.Passed h = all_hold bytes (λ l. NamedItem bytes l r) (IsNamedHigh bytes r) named_on (λ l k. k) h
named_verdict_is bytes r (found.Fails item) h = false_of bytes (λ l. NamedItem bytes l r) (IsNamedHigh bytes r) named_on (λ l k. k) item h
named_verdict_is bytes r (found.High item) h = high_of bytes (λ l. NamedItem bytes l r) (IsNamedHigh bytes r) named_on (λ l k. k) item h

pub outside_verdict_is : (bytes : List ℕ) (r : outside_type.Outside) (f : Found) → IsLineFound bytes (λ l. OutsideItem bytes l r) (IsOutsideHigh bytes r) outside_on f
    → IsVerdictOn IsItemHigh (reports.Line bytes (answers.Outside r)) (verdict_of f)
outside_verdict_is bytes r found.Passed h = all_hold bytes (λ l. OutsideItem bytes l r) (IsOutsideHigh bytes r) outside_on (λ l k. k) h
outside_verdict_is bytes r (found.Fails item) h = false_of bytes (λ l. OutsideItem bytes l r) (IsOutsideHigh bytes r) outside_on (λ l k. k) item h
outside_verdict_is bytes r (found.High item) h = high_of bytes (λ l. OutsideItem bytes l r) (IsOutsideHigh bytes r) outside_on (λ l k. k) item h

pub limit_verdict_is : (bytes : List ℕ) (r : limit_type.Limit) (f : Found) → IsLineFound bytes (λ l. LimitItem bytes l r) (IsLimitHigh bytes r) limit_on f
    → IsVerdictOn IsItemHigh (reports.Line bytes (answers.Limit r)) (verdict_of f)
limit_verdict_is bytes r found.Passed h = all_hold bytes (λ l. LimitItem bytes l r) (IsLimitHigh bytes r) limit_on (λ l k. k) h
limit_verdict_is bytes r (found.Fails item) h = false_of bytes (λ l. LimitItem bytes l r) (IsLimitHigh bytes r) limit_on (λ l k. k) item h
limit_verdict_is bytes r (found.High item) h = high_of bytes (λ l. LimitItem bytes l r) (IsLimitHigh bytes r) limit_on (λ l k. k) item h

pub unresolved_verdict_is : (bytes : List ℕ) (r : unresolved_type.Unresolved) (f : Found) → IsLineFound bytes (λ l. UnresolvedItem bytes l r) (IsUnresolvedHigh bytes r) unresolved_on f
    → IsVerdictOn IsItemHigh (reports.Line bytes (answers.Unresolved r)) (verdict_of f)
unresolved_verdict_is bytes r found.Passed h = all_hold bytes (λ l. UnresolvedItem bytes l r) (IsUnresolvedHigh bytes r) unresolved_on (λ l k. k) h
unresolved_verdict_is bytes r (found.Fails item) h = false_of bytes (λ l. UnresolvedItem bytes l r) (IsUnresolvedHigh bytes r) unresolved_on (λ l k. k) item h
unresolved_verdict_is bytes r (found.High item) h = high_of bytes (λ l. UnresolvedItem bytes l r) (IsUnresolvedHigh bytes r) unresolved_on (λ l k. k) item h
