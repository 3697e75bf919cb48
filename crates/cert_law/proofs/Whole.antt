-- Whole reports: the kind of an answer by its word, and the line.
use Rattle.std.proofs.Common.{◌≡◌, ℕ, ◌+◌, ◌*◌, ◌<◌, ◌^◌, Bool, true, false, ltb, eqb, ◌&&◌, List, [], ◌∷◌, ◌++◌, get_or, refl, sym, ap, ◌∙◌, subst, append_assoc, arith}
use Rattle.std.specs.Prelude.{decimal, not}
use Rattle.std.specs.List.{AllByRecursion, flat_map}
use Rattle.poly_text.specs.declared.what.What.{What}
use Rattle.poly_text.specs.Polynomials.{name_text}
use Rattle.cert_text.specs.declared.report.Answer.{Answer}
use Rattle.cert_text.specs.declared.report.Answer.TheVariants as answers
use Rattle.cert_text.specs.declared.report.Report.{Report}
use Rattle.cert_text.specs.declared.report.Report.TheVariants as reports
use Rattle.cert_text.specs.declared.word.Word.TheVariants as words
use Rattle.cert_text.specs.Words.{word_text}
use Rattle.cert_text.specs.Names.{what_text, phase_text}
use Rattle.cert_text.specs.Text.{line, word_line, front_text, named_text, limit_text, outside_text, unresolved_text, answer_text, report_text}
use Rattle.cert_text.specs.WellFormed.{IsWellFormedAnswer, IsOneLine, IsWellFormed}
use Rattle.cert_law.proofs.Cut.{head, cut, same_front}
use Rattle.cert_law.proofs.Numbers.{number_one, NoDigit}
use Rattle.cert_law.proofs.Letters.{phase_one, what_one}
use Rattle.cert_law.proofs.Valid.{both, all_from}
use Rattle.cert_law.proofs.Parts.{name_one}
use Rattle.cert_law.proofs.Carrying.{word_rest, number_line}
use Rattle.cert_law.proofs.Reporting.{named_one, limit_one, outside_one, unresolved_one}

-- ---- the kind of an answer, by the first and the third letter behind `answer`

abbrev answer_in : List ℕ → ℕ
answer_in x = get_or x 7 0 * 256 + get_or x 9 0

abbrev answer_index : Answer → ℕ
answer_index (answers.Syntax column what) = 29550
answer_index (answers.Literal column) = 27764
answer_index (answers.NotCritical variable) = 28276
answer_index (answers.Range phase) = 29294
answer_index answers.Unbuilt = 30050
answer_index (answers.Named r) = 28269
answer_index (answers.Outside r) = 28532
answer_index (answers.Limit r) = 27757
answer_index (answers.Unresolved r) = 30066

answer_index_is : (a : Answer) (x : List ℕ) → answer_in (answer_text a ++ x) ≡ answer_index a
unfolding answer_text named_text front_text outside_text limit_text unresolved_text word_line line word_text
answer_index_is (answers.Syntax column what) x = refl
answer_index_is (answers.Literal column) x = refl
answer_index_is (answers.NotCritical variable) x = refl
answer_index_is (answers.Range phase) x = refl
answer_index_is answers.Unbuilt x = refl
answer_index_is (answers.Named r) x = refl
answer_index_is (answers.Outside r) x = refl
answer_index_is (answers.Limit r) x = refl
answer_index_is (answers.Unresolved r) x = refl

-- ---- answers of one line

blank_ends : NoDigit 32
blank_ends = λ d. omega (arith, d.0)

syntax_is : (m n : ℕ) (v w : What) → m ≡ n → v ≡ w → answers.Syntax m v ≡ answers.Syntax n w
syntax_is m n v w a b = λ i. answers.Syntax (a i) (b i)

pub syntax_one : (m n : ℕ) (v w : What) (x y : List ℕ) → m < 2 ^ 32 → n < 2 ^ 32 → word_line words.Syntax (decimal m ++ 32 ∷ what_text v) ++ x ≡ word_line words.Syntax (decimal n ++ 32 ∷ what_text w) ++ y → (m ≡ n) × (v ≡ w) × (x ≡ y)
syntax_one m n v w x y lm ln e =
    let rest = word_rest words.Syntax (decimal m ++ 32 ∷ what_text v) (decimal n ++ 32 ∷ what_text w) x y e in
    let a = number_one m n (32 ∷ (what_text v ++ (10 ∷ x))) (32 ∷ (what_text w ++ (10 ∷ y))) (omega (arith, lm)) (omega (arith, ln)) blank_ends blank_ends
    (sym (append_assoc (decimal m) (32 ∷ what_text v) (10 ∷ x)) ∙ rest ∙ append_assoc (decimal n) (32 ∷ what_text w) (10 ∷ y)) in
    let b = what_one v w (10 ∷ x) (10 ∷ y) (head 32 32 _ _ a.1).1 in
    (a.0, b.0, (head 10 10 x y b.1).1)

answers_one : (a b : Answer) (x y : List ℕ) → IsWellFormedAnswer a → IsWellFormedAnswer b → answer_index a ≡ answer_index b → answer_text a ++ x ≡ answer_text b ++ y → (a ≡ b) × (x ≡ y)
unfolding answer_text
answers_one (answers.Syntax m v) (answers.Syntax n w) x y wa wb i e = let h = syntax_one m n v w x y wa wb e in (syntax_is m n v w h.0 h.1, h.2)
answers_one (answers.Literal m) (answers.Literal n) x y wa wb i e = let h = number_line words.Literal m n x y (omega (arith, wa)) (omega (arith, wb)) e in (ap answers.Literal h.0, h.1)
answers_one (answers.NotCritical m) (answers.NotCritical n) x y wa wb i e =
    let h = name_one m n (10 ∷ x) (10 ∷ y) wa wb (omega arith) (omega arith) (word_rest words.NotCritical (name_text m) (name_text n) x y e) in
    (ap answers.NotCritical h.0, (head 10 10 x y h.1).1)
answers_one (answers.Range p) (answers.Range q) x y wa wb i e =
    let h = phase_one p q (10 ∷ x) (10 ∷ y) (word_rest words.Range (phase_text p) (phase_text q) x y e) in
    (ap answers.Range h.0, (head 10 10 x y h.1).1)
answers_one answers.Unbuilt answers.Unbuilt x y wa wb i e = (refl, same_front (line (word_text words.Unbuilt)) x y e)
answers_one (answers.Named r) (answers.Named s) x y wa wb i e = let h = named_one r s x y wa wb e in (ap answers.Named h.0, h.1)
answers_one (answers.Outside r) (answers.Outside s) x y wa wb i e = let h = outside_one r s x y wa wb e in (ap answers.Outside h.0, h.1)
answers_one (answers.Limit r) (answers.Limit s) x y wa wb i e = let h = limit_one r s x y wa wb e in (ap answers.Limit h.0, h.1)
answers_one (answers.Unresolved r) (answers.Unresolved s) x y wa wb i e = let h = unresolved_one r s x y wa wb e in (ap answers.Unresolved h.0, h.1)
answers_one (answers.Syntax m v) b x y wa wb i e = absurd (omega (arith, i))
answers_one (answers.Literal m) b x y wa wb i e = absurd (omega (arith, i))
answers_one (answers.NotCritical m) b x y wa wb i e = absurd (omega (arith, i))
answers_one (answers.Range p) b x y wa wb i e = absurd (omega (arith, i))
answers_one answers.Unbuilt b x y wa wb i e = absurd (omega (arith, i))
answers_one (answers.Named r) b x y wa wb i e = absurd (omega (arith, i))
answers_one (answers.Outside r) b x y wa wb i e = absurd (omega (arith, i))
answers_one (answers.Limit r) b x y wa wb i e = absurd (omega (arith, i))
answers_one (answers.Unresolved r) b x y wa wb i e = absurd (omega (arith, i))

pub answer_one : (a b : Answer) (x y : List ℕ) → IsWellFormedAnswer a → IsWellFormedAnswer b → answer_text a ++ x ≡ answer_text b ++ y → (a ≡ b) × (x ≡ y)
answer_one a b x y wa wb e = answers_one a b x y wa wb (sym (answer_index_is a x) ∙ ap answer_in e ∙ answer_index_is b y) e

-- ---- reports

abbrev InLine : ℕ → Type 0
InLine b = b ≡ 10 → ⊥

abbrev AtEnd : ℕ → Type 0
AtEnd b = b ≡ 10

not_true : (t : Bool) → not t ≡ true → t ≡ true → ⊥
not_true true h e = cc
not_true false h e = cc

pub in_line : (b : ℕ) → (ltb b 256 && not (eqb b 10)) ≡ true → InLine b
in_line b h e = not_true (eqb b 10) (both (ltb b 256) (not (eqb b 10)) h).1 (subst (λ (k : ℕ). eqb k 10 ≡ true) (sym e) refl)

line_is : (l m : List ℕ) (a b : Answer) → l ≡ m → a ≡ b → reports.Line l a ≡ reports.Line m b
line_is l m a b p q = λ i. reports.Line (p i) (q i)

regroup_line : (l : List ℕ) (a : Answer) (x : List ℕ) → report_text (reports.Line l a) ++ x ≡ word_line words.Germ l ++ (answer_text a ++ (line (word_text words.End) ++ x))
unfolding report_text
regroup_line l a x = simp append_assoc

line_one : (l m : List ℕ) (a b : Answer) (x y : List ℕ) → IsOneLine l → IsOneLine m → IsWellFormedAnswer a → IsWellFormedAnswer b
    → report_text (reports.Line l a) ++ x ≡ report_text (reports.Line m b) ++ y → (reports.Line l a ≡ reports.Line m b) × (x ≡ y)
line_one l m a b x y ol om wa wb e =
    let rest = word_rest words.Germ l m _ _ (sym (regroup_line l a x) ∙ e ∙ regroup_line m b y) in
    let h1 = cut InLine AtEnd (λ c i o. i o) l m _ _ (all_from (λ c. ltb c 256 && not (eqb c 10)) InLine in_line l ol.are_bytes) (all_from (λ c. ltb c 256 && not (eqb c 10)) InLine in_line m om.are_bytes) refl refl rest in
    let h2 = answer_one a b _ _ wa wb (head 10 10 _ _ h1.1).1 in
    (line_is l m a b h1.0 h2.0, same_front (line (word_text words.End)) x y h2.1)

long_one : (m n : ℕ) (x y : List ℕ) → m < 2 ^ 64 → n < 2 ^ 64 → report_text (reports.Long m) ++ x ≡ report_text (reports.Long n) ++ y → (m ≡ n) × (x ≡ y)
unfolding report_text
long_one m n x y lm ln e =
    let left : report_text (reports.Long m) ++ x ≡ word_line words.Long (decimal m) ++ (line (word_text words.TooLong) ++ (line (word_text words.End) ++ x)) = simp append_assoc in
    let right : report_text (reports.Long n) ++ y ≡ word_line words.Long (decimal n) ++ (line (word_text words.TooLong) ++ (line (word_text words.End) ++ y)) = simp append_assoc in
    let h = number_line words.Long m n _ _ (omega (arith, lm)) (omega (arith, ln)) (sym left ∙ e ∙ right) in
    (h.0, same_front (line (word_text words.End)) x y (same_front (line (word_text words.TooLong)) _ _ h.1))

mixed : (n : ℕ) (l : List ℕ) (a : Answer) (x y : List ℕ) → report_text (reports.Long n) ++ x ≡ report_text (reports.Line l a) ++ y → ⊥
unfolding report_text word_line line word_text
mixed n l a x y e = let h = (head 108 103 _ _ e).0 in omega (arith, h)

pub report_one : (r s : Report) (x y : List ℕ) → IsWellFormed r → IsWellFormed s → report_text r ++ x ≡ report_text s ++ y → (r ≡ s) × (x ≡ y)
report_one (reports.Long m) (reports.Long n) x y wr ws e = let h = long_one m n x y wr ws e in (ap reports.Long h.0, h.1)
report_one (reports.Long m) (reports.Line l b) x y wr ws e = absurd (mixed m l b x y e)
report_one (reports.Line l a) (reports.Long n) x y wr ws e = absurd (mixed n l a y x (sym e))
report_one (reports.Line l a) (reports.Line m b) x y wr ws e = line_one l m a b x y wr.0 ws.0 wr.1 ws.1 e

-- ---- the reports of an output

some_text : (r : Report) (z x : List ℕ) → report_text r ++ z ++ x ≡ [] → ⊥
unfolding report_text word_line line word_text
some_text (reports.Long n) z x e = cc
some_text (reports.Line l a) z x e = cc

pub reports_one : (rs ss : List Report) → AllByRecursion IsWellFormed rs → AllByRecursion IsWellFormed ss → flat_map report_text rs ≡ flat_map report_text ss → rs ≡ ss
reports_one [] [] wr ws e = refl
reports_one [] (s ∷ ss) wr ws e = absurd (some_text s (flat_map report_text ss) [] (ap (λ (z : List ℕ). z ++ []) (sym e)))
reports_one (r ∷ rs) [] wr ws e = absurd (some_text r (flat_map report_text rs) [] (ap (λ (z : List ℕ). z ++ []) e))
reports_one (r ∷ rs) (s ∷ ss) wr ws e =
    let h = report_one r s (flat_map report_text rs) (flat_map report_text ss) wr.0 ws.0 e in
    let others = reports_one rs ss wr.1 ws.1 h.1 in
    cc (h.0, others)
