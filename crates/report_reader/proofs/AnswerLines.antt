-- Answers by their lines.
use Rattle.std.proofs.Common.{◌≡◌, ℕ, suc, ◌+◌, ◌*◌, ◌≤◌, ◌⊎◌, inl, inr, List, [], ◌++◌, length, get_or, refl, sym, ap, ◌∙◌, append_assoc, append-nil, arith}
use Rattle.std.specs.Prelude.{decimal, IsTrue}
use Rattle.std.proofs.lemmas.Bool.{cases_lt}
use Rattle.normal_forms.specs.declared.family.Family.{Family}
use Rattle.normal_forms.specs.declared.pattern.Pattern.{Pattern}
use Rattle.poly_text.specs.Polynomials.{name_text}
use Rattle.cert_text.specs.declared.report.Carried.{Carried}
use Rattle.cert_text.specs.declared.report.Named as named_type
use Rattle.cert_text.specs.declared.report.Limit as limit_type
use Rattle.cert_text.specs.declared.report.Unresolved as unresolved_type
use Rattle.cert_text.specs.declared.report.Answer.{Answer}
use Rattle.cert_text.specs.declared.report.Answer.TheVariants as answers
use Rattle.cert_text.specs.declared.word.Word.TheVariants as words
use Rattle.cert_text.specs.Words.{word_text}
use Rattle.cert_text.specs.Names.{phase_text, family_text, pattern_text}
use Rattle.cert_text.specs.Text.{line, word_line, answer_text, carried_text, named_text, front_text, evidence_text, mather_lines, outside_text, limit_text, unresolved_text}
use Rattle.cert_text.specs.WellFormed.{is_valid_name, IsWellFormedAnswer, IsWellFormedCarried, IsWellFormedLimit, IsWellFormedUnresolved, IsFamily}
use Rattle.cert_law.proofs.Letters.{pattern_one}
use Rattle.cert_law.proofs.Carrying.{word_rest}
use Rattle.cert_law.proofs.Reporting as reporting
use Rattle.text_reader.specs.Reading.{IsAny}
use Rattle.text_reader.proofs.Visible.{digits_lack}
use Rattle.report_reader.specs.Lines.{IsWithin, IsPlace, place_text}
use Rattle.report_reader.specs.Blocks.{IsStop, IsNotAtFront}
use Rattle.report_reader.specs.Evidence.{IsOfFamily, named_rest, units_rest, modulus_rest, milnor_rest, mather_rest, basis_rest, unresolved_rest}
use Rattle.report_reader.specs.Answers.{IsPlaced, IsUnplaced, kind_of, IsFromKind, limit_rest}
use Rattle.report_reader.proofs.Fronts.{line-word, line-word_line}
use Rattle.report_reader.proofs.CleanTexts.{family_clean, pattern_clean, phase_clean, place_clean, name_clean}
use Rattle.report_reader.proofs.Stops.{IsLine, IsApart, apart_fronts, stop_here, stop_behind, stop_before, whole-line}
use Rattle.report_reader.proofs.CarriedLines.{some_carried}

pub no_placed : (bytes : List ℕ) → IsNotAtFront IsPlace (λ v. word_line words.Syntax (place_text v)) bytes → IsNotAtFront (IsWithin 0 4294967295) (λ n. word_line words.Literal (decimal n)) bytes
    → IsNotAtFront (λ name. IsTrue (is_valid_name name)) (λ v. word_line words.NotCritical (name_text v)) bytes → IsNotAtFront IsPlaced answer_text bytes
unfolding answer_text
no_placed bytes a b d (answers.Syntax column what) more ok e = a (column, what) more ok e
no_placed bytes a b d (answers.Literal column) more ok e = b column more (omega arith, omega (arith, ok)) e
no_placed bytes a b d (answers.NotCritical variable) more ok e = d variable more ok e
no_placed bytes a b d _ more ok e = ok

pub no_unplaced : (bytes : List ℕ) → IsNotAtFront IsAny (λ v. word_line words.Range (phase_text v)) bytes
    → ((more : List ℕ) → line (word_text words.Unbuilt) ++ more ≡ bytes → ⊥) → IsNotAtFront IsUnplaced answer_text bytes
unfolding answer_text
no_unplaced bytes a d (answers.Range phase) more ok e = a phase more tt e
no_unplaced bytes a d answers.Unbuilt more ok e = d more e
no_unplaced bytes a d _ more ok e = ok

-- ---- the kind of an answer, by the first and the third letter behind `answer`

letters_in : List ℕ → ℕ
letters_in x = get_or x 7 0 * 256 + get_or x 9 0

letters_of : Answer → ℕ
letters_of (answers.Syntax column what) = 29550
letters_of (answers.Literal column) = 27764
letters_of (answers.NotCritical variable) = 28276
letters_of (answers.Range phase) = 29294
letters_of answers.Unbuilt = 30050
letters_of (answers.Named r) = 28269
letters_of (answers.Outside r) = 28532
letters_of (answers.Limit r) = 27757
letters_of (answers.Unresolved r) = 30066

letters_are : (a : Answer) (x : List ℕ) → letters_in (answer_text a ++ x) ≡ letters_of a
unfolding letters_in letters_of answer_text named_text front_text outside_text limit_text unresolved_text word_line line word_text
letters_are (answers.Syntax column what) x = refl
letters_are _ x = refl

word_letters : (t x : List ℕ) → (letters_in (word_line words.Named t ++ x) ≡ 28269) × (letters_in (word_line words.Outside t ++ x) ≡ 28532) × (letters_in (line (word_text words.Limit) ++ x) ≡ 27757) × (letters_in (line (word_text words.Unresolved) ++ x) ≡ 30066)
unfolding letters_in word_line line word_text
word_letters t x = (refl, refl, refl, refl)

same_letters : (a : Answer) (x y w : List ℕ) (k : ℕ) → letters_in (w ++ y) ≡ k → answer_text a ++ x ≡ w ++ y → letters_of a ≡ k
same_letters a x y w k is e = sym (letters_are a x) ∙ ap letters_in e ∙ is

-- ---- an answer goes on behind its first line

named_split : (r : named_type.Named) → named_text r ≡ word_line words.Named (family_text r.family) ++ named_rest r
unfolding word_text named_text front_text evidence_text mather_lines named_rest units_rest modulus_rest milnor_rest mather_rest basis_rest
named_split r = simp append_assoc

limit_split : (r : limit_type.Limit) → limit_text r ≡ line (word_text words.Limit) ++ limit_rest r
unfolding limit_text limit_rest
limit_split r = simp append_assoc

unresolved_split : (r : unresolved_type.Unresolved) → unresolved_text r ≡ line (word_text words.Unresolved) ++ unresolved_rest r
unfolding unresolved_text unresolved_rest mather_lines
unresolved_split r = simp append_assoc

named_out : (family : Family) (a : Answer) (x y : List ℕ) → IsFamily family → IsWellFormedAnswer a → letters_of a ≡ 28269 → answer_text a ++ x ≡ word_line words.Named (family_text family) ++ y → (r : named_type.Named) × IsOfFamily family r × (answer_text a ≡ word_line words.Named (family_text family) ++ named_rest r)
unfolding letters_of answer_text
named_out family (answers.Named r) x y w h k e =
    let f = reporting.family_line r.family family (named_rest r ++ x) y h.family w (sym (append_assoc (word_line words.Named (family_text r.family)) (named_rest r) x) ∙ ap (λ (z : List ℕ). z ++ x) (sym (named_split r)) ∙ e) in
    (r, (h, f.0), named_split r ∙ ap (λ (z : Family). word_line words.Named (family_text z) ++ named_rest r) f.0)
named_out family _ x y w h k e = absurd (omega (arith, k))

outside_out : (pattern : Pattern) (a : Answer) (x y : List ℕ) → IsWellFormedAnswer a → letters_of a ≡ 28532 → answer_text a ++ x ≡ word_line words.Outside (pattern_text pattern) ++ y
    → (c : Carried) × IsWellFormedCarried c × (answer_text a ≡ word_line words.Outside (pattern_text pattern) ++ carried_text words.Jet c)
unfolding letters_of answer_text outside_text
outside_out pattern (answers.Outside r) x y h k e =
    let f = pattern_one r.pattern pattern (carried_text words.Jet r.carried ++ x) y (word_rest words.Outside (pattern_text r.pattern) (pattern_text pattern) (carried_text words.Jet r.carried ++ x) y (sym (append_assoc (word_line words.Outside (pattern_text r.pattern)) (carried_text words.Jet r.carried) x) ∙ e)) in
    (r.carried, h, ap (λ (z : Pattern). word_line words.Outside (pattern_text z) ++ carried_text words.Jet r.carried) f.0)
outside_out pattern _ x y h k e = absurd (omega (arith, k))

limit_out : (a : Answer) → IsWellFormedAnswer a → letters_of a ≡ 27757 → (r : limit_type.Limit) × IsWellFormedLimit r × (answer_text a ≡ line (word_text words.Limit) ++ limit_rest r)
unfolding letters_of answer_text
limit_out (answers.Limit r) h k = (r, h, limit_split r)
limit_out _ h k = absurd (omega (arith, k))

unresolved_out : (a : Answer) → IsWellFormedAnswer a → letters_of a ≡ 30066 → (r : unresolved_type.Unresolved) × IsWellFormedUnresolved r × (answer_text a ≡ line (word_text words.Unresolved) ++ unresolved_rest r)
unfolding letters_of answer_text
unresolved_out (answers.Unresolved r) h k = (r, h, unresolved_split r)
unresolved_out _ h k = absurd (omega (arith, k))

-- ---- stops behind the first line

pub stop_in_named : (family : Family) (bytes behind : List ℕ) (left : ℕ) → IsFamily family → word_line words.Named (family_text family) ++ behind ≡ bytes → IsStop (IsOfFamily family) named_rest behind left → IsStop (IsFromKind 1) answer_text bytes left
unfolding answer_text
stop_in_named family bytes behind left w e s =
    stop_behind (IsFromKind 1) answer_text (IsOfFamily family) named_rest bytes (word_line words.Named (family_text family)) behind left (whole-line (word_line words.Named (family_text family)) (line-word_line words.Named (family_text family) (family_clean family w))) e
    (λ r h. (answers.Named r, (h.0, omega arith), named_split r ∙ ap (λ (z : Family). word_line words.Named (family_text z) ++ named_rest r) h.1))
    (λ a x y h q. named_out family a x y w h.0 (same_letters a x y (word_line words.Named (family_text family)) 28269 (word_letters (family_text family) y).0 q) q) s

pub named_is : (family : Family) (r : named_type.Named) (bytes behind end : List ℕ) → word_line words.Named (family_text family) ++ behind ≡ bytes → IsOfFamily family r → named_rest r ++ end ≡ behind → IsFromKind 1 (answers.Named r) × (answer_text (answers.Named r) ++ end ≡ bytes)
unfolding answer_text
named_is family r bytes behind end e h d =
    ((h.0, omega arith), ap (λ (z : List ℕ). z ++ end) (named_split r ∙ ap (λ (z : Family). word_line words.Named (family_text z) ++ named_rest r) h.1) ∙ append_assoc (word_line words.Named (family_text family)) (named_rest r) end ∙ ap (λ (z : List ℕ). word_line words.Named (family_text family) ++ z) d ∙ e)

pub stop_in_outside : (pattern : Pattern) (bytes behind : List ℕ) (left : ℕ) → word_line words.Outside (pattern_text pattern) ++ behind ≡ bytes → IsStop IsWellFormedCarried (carried_text words.Jet) behind left → IsStop (IsFromKind 2) answer_text bytes left
unfolding answer_text outside_text
stop_in_outside pattern bytes behind left e s =
    stop_behind (IsFromKind 2) answer_text IsWellFormedCarried (carried_text words.Jet) bytes (word_line words.Outside (pattern_text pattern)) behind left (whole-line (word_line words.Outside (pattern_text pattern)) (line-word_line words.Outside (pattern_text pattern) (pattern_clean pattern tt))) e
    (λ c h. (answers.Outside (record { pattern = pattern; carried = c }), (h, omega arith), refl))
    (λ a x y h q. outside_out pattern a x y h.0 (same_letters a x y (word_line words.Outside (pattern_text pattern)) 28532 (word_letters (pattern_text pattern) y).1 q) q) s

pub outside_is : (pattern : Pattern) (c : Carried) (bytes behind end : List ℕ) → word_line words.Outside (pattern_text pattern) ++ behind ≡ bytes → IsWellFormedCarried c → carried_text words.Jet c ++ end ≡ behind
    → IsFromKind 2 (answers.Outside (record { pattern = pattern; carried = c })) × (answer_text (answers.Outside (record { pattern = pattern; carried = c })) ++ end ≡ bytes)
unfolding answer_text outside_text
outside_is pattern c bytes behind end e h d = ((h, omega arith), append_assoc (word_line words.Outside (pattern_text pattern)) (carried_text words.Jet c) end ∙ ap (λ (z : List ℕ). word_line words.Outside (pattern_text pattern) ++ z) d ∙ e)

pub stop_in_limit : (bytes behind : List ℕ) (left : ℕ) → line (word_text words.Limit) ++ behind ≡ bytes → IsStop IsWellFormedLimit limit_rest behind left → IsStop (IsFromKind 3) answer_text bytes left
unfolding answer_text
stop_in_limit bytes behind left e s =
    stop_behind (IsFromKind 3) answer_text IsWellFormedLimit limit_rest bytes (line (word_text words.Limit)) behind left (whole-line (line (word_text words.Limit)) (line-word words.Limit)) e
    (λ r h. (answers.Limit r, (h, omega arith), limit_split r))
    (λ a x y h q. limit_out a h.0 (same_letters a x y (line (word_text words.Limit)) 27757 (word_letters [] y).2 q)) s

pub limit_is : (r : limit_type.Limit) (bytes behind end : List ℕ) → line (word_text words.Limit) ++ behind ≡ bytes → IsWellFormedLimit r → limit_rest r ++ end ≡ behind → IsFromKind 3 (answers.Limit r) × (answer_text (answers.Limit r) ++ end ≡ bytes)
unfolding answer_text
limit_is r bytes behind end e h d = ((h, omega arith), ap (λ (z : List ℕ). z ++ end) (limit_split r) ∙ append_assoc (line (word_text words.Limit)) (limit_rest r) end ∙ ap (λ (z : List ℕ). line (word_text words.Limit) ++ z) d ∙ e)

pub stop_in_last : (bytes behind : List ℕ) (left : ℕ) → line (word_text words.Unresolved) ++ behind ≡ bytes → IsStop IsWellFormedUnresolved unresolved_rest behind left → IsStop (IsFromKind 4) answer_text bytes left
unfolding answer_text
stop_in_last bytes behind left e s =
    stop_behind (IsFromKind 4) answer_text IsWellFormedUnresolved unresolved_rest bytes (line (word_text words.Unresolved)) behind left (whole-line (line (word_text words.Unresolved)) (line-word words.Unresolved)) e
    (λ r h. (answers.Unresolved r, (h, omega arith), unresolved_split r))
    (λ a x y h q. unresolved_out a h.0 (same_letters a x y (line (word_text words.Unresolved)) 30066 (word_letters [] y).3 q)) s

pub last_is : (r : unresolved_type.Unresolved) (bytes behind end : List ℕ) → line (word_text words.Unresolved) ++ behind ≡ bytes → IsWellFormedUnresolved r → unresolved_rest r ++ end ≡ behind → IsFromKind 4 (answers.Unresolved r) × (answer_text (answers.Unresolved r) ++ end ≡ bytes)
unfolding answer_text
last_is r bytes behind end e h d = ((h, omega arith), ap (λ (z : List ℕ). z ++ end) (unresolved_split r) ∙ append_assoc (line (word_text words.Unresolved)) (unresolved_rest r) end ∙ ap (λ (z : List ℕ). line (word_text words.Unresolved) ++ z) d ∙ e)

-- ---- an answer whose first line does not stand at the front

split_apart : (text first tail bytes : List ℕ) → text ≡ first ++ tail → IsLine first → ((more : List ℕ) → first ++ more ≡ bytes → ⊥) → IsApart text bytes
split_apart text first tail bytes is line never = record { first = first; tail = tail; line = line; is = is; never = never }

-- the last kind, where its line is not there
pub stop_at_last : (bytes : List ℕ) → ((more : List ℕ) → line (word_text words.Unresolved) ++ more ≡ bytes → ⊥) → IsStop (IsFromKind 4) answer_text bytes (length bytes)
unfolding answer_text
stop_at_last bytes none = stop_here (IsFromKind 4) answer_text bytes (answers.Unresolved (record { carried = some_carried.0; mather = [] })) (record { carried = some_carried.1; mather = record { few = omega arith; each = tt } }, omega arith)
    (λ a h. last_apart a h.0 h.1)
  where
    last_apart : (a : Answer) → IsWellFormedAnswer a → 4 ≤ kind_of a → IsApart (answer_text a) bytes
    last_apart (answers.Unresolved r) h k = split_apart (unresolved_text r) (line (word_text words.Unresolved)) (unresolved_rest r) bytes (unresolved_split r) (line-word words.Unresolved) none
    last_apart _ h k = absurd (omega (arith, k))

either : (kind n : ℕ) → kind ≤ n → (n ≡ kind) ⊎ (suc kind ≤ n)
either kind n le = elim (cases_lt kind n) [ inl lt ↦ inr (omega (arith, lt)) | inr ge ↦ inl (omega (arith, ge, le)) ]

-- a stop among the later kinds, where no answer of this kind has a first line that stands at the front
pub stop_later : (kind : ℕ) (bytes : List ℕ) (left : ℕ) → ((a : Answer) → IsWellFormedAnswer a → kind_of a ≡ kind → IsApart (answer_text a) bytes) → IsStop (IsFromKind (suc kind)) answer_text bytes left → IsStop (IsFromKind kind) answer_text bytes left
stop_later kind bytes left apart s = record {
  seen = s.seen;
  rest = s.rest;
  parted = s.parted;
  long = s.long;
  lines = s.lines;
  begins = (let b = s.begins in let k = b.1.1 in (b.0, (b.1.0, omega (arith, k)), b.2));
  none = λ a more h e. elim (either kind (kind_of a) h.1) [
    | inl same ↦ (let p = apart a h.0 same in p.never (p.tail ++ more) (sym (append_assoc p.first p.tail more) ∙ ap (λ (z : List ℕ). z ++ more) (sym p.is) ∙ e))
    | inr le ↦ s.none a more (h.0, le) e
  ];
  longest = λ a front more next h is p q lt. elim (either kind (kind_of a) h.1) [
    | inl same ↦ apart_fronts (answer_text a) bytes front more next (apart a h.0 same) is p q (omega (arith, lt))
    | inr le ↦ s.longest a front more next (h.0, le) is p q lt
  ];
}

pub limit_apart : (bytes : List ℕ) → ((more : List ℕ) → line (word_text words.Limit) ++ more ≡ bytes → ⊥) → (a : Answer) → IsWellFormedAnswer a → kind_of a ≡ 3 → IsApart (answer_text a) bytes
unfolding answer_text
limit_apart bytes none (answers.Limit r) h k = split_apart (limit_text r) (line (word_text words.Limit)) (limit_rest r) bytes (limit_split r) (line-word words.Limit) none
limit_apart bytes none _ h k = absurd (omega (arith, k))

pub outside_apart : (bytes : List ℕ) → IsNotAtFront IsAny (λ v. word_line words.Outside (pattern_text v)) bytes → (a : Answer) → IsWellFormedAnswer a → kind_of a ≡ 2 → IsApart (answer_text a) bytes
unfolding answer_text outside_text
outside_apart bytes none (answers.Outside r) h k = split_apart (word_line words.Outside (pattern_text r.pattern) ++ carried_text words.Jet r.carried) (word_line words.Outside (pattern_text r.pattern)) (carried_text words.Jet r.carried) bytes refl (line-word_line words.Outside (pattern_text r.pattern) (pattern_clean r.pattern tt)) (λ more e. none r.pattern more tt e)
outside_apart bytes none _ h k = absurd (omega (arith, k))

pub named_apart : (bytes : List ℕ) → IsNotAtFront IsFamily (λ v. word_line words.Named (family_text v)) bytes → (a : Answer) → IsWellFormedAnswer a → kind_of a ≡ 1 → IsApart (answer_text a) bytes
unfolding answer_text
named_apart bytes none (answers.Named r) h k = split_apart (named_text r) (word_line words.Named (family_text r.family)) (named_rest r) bytes (named_split r) (line-word_line words.Named (family_text r.family) (family_clean r.family h.family)) (λ more e. none r.family more h.family e)
named_apart bytes none _ h k = absurd (omega (arith, k))

one_line : (text bytes : List ℕ) → IsLine text → ((more : List ℕ) → text ++ more ≡ bytes → ⊥) → IsApart text bytes
one_line text bytes line none = split_apart text text [] bytes (sym (append-nil text)) line none

pub short_apart : (bytes : List ℕ) → IsNotAtFront IsPlaced answer_text bytes → IsNotAtFront IsUnplaced answer_text bytes → (a : Answer) → IsWellFormedAnswer a → kind_of a ≡ 0 → IsApart (answer_text a) bytes
unfolding answer_text
short_apart bytes p u (answers.Syntax column what) h k = one_line (answer_text (answers.Syntax column what)) bytes (line-word_line words.Syntax (place_text (column, what)) (place_clean (column, what) h)) (λ more e. p (answers.Syntax column what) more h e)
short_apart bytes p u (answers.Literal column) h k = one_line (answer_text (answers.Literal column)) bytes (line-word_line words.Literal (decimal column) (digits_lack 10 column (omega arith) (omega (arith, h)))) (λ more e. p (answers.Literal column) more h e)
short_apart bytes p u (answers.NotCritical variable) h k = one_line (answer_text (answers.NotCritical variable)) bytes (line-word_line words.NotCritical (name_text variable) (name_clean variable h)) (λ more e. p (answers.NotCritical variable) more h e)
short_apart bytes p u (answers.Range phase) h k = one_line (answer_text (answers.Range phase)) bytes (line-word_line words.Range (phase_text phase) (phase_clean phase tt)) (λ more e. u (answers.Range phase) more tt e)
short_apart bytes p u answers.Unbuilt h k = one_line (answer_text answers.Unbuilt) bytes (line-word words.Unbuilt) (λ more e. u answers.Unbuilt more tt e)
short_apart bytes p u _ h k = absurd (omega (arith, k))

-- any kind
pub stop_any : (bytes : List ℕ) (left : ℕ) → IsStop (IsFromKind 0) answer_text bytes left → IsStop IsWellFormedAnswer answer_text bytes left
stop_any bytes left s = stop_before (IsFromKind 0) answer_text IsWellFormedAnswer answer_text bytes left
    (λ a h. (a, h.0, ([], sym (append-nil (answer_text a))))) (λ a h. (a, (h, omega arith), ([], sym (append-nil (answer_text a))))) s

pub placed_is : (a : Answer) → IsPlaced a → IsWellFormedAnswer a
placed_is (answers.Syntax column what) h = h
placed_is (answers.Literal column) h = h
placed_is (answers.NotCritical variable) h = h
placed_is _ h = absurd h

pub unplaced_is : (a : Answer) → IsUnplaced a → IsWellFormedAnswer a
unplaced_is (answers.Range phase) h = tt
unplaced_is answers.Unbuilt h = tt
unplaced_is _ h = absurd h

-- a later kind is of any earlier one
pub later_is : (kind : ℕ) (a : Answer) → IsFromKind (suc kind) a → IsFromKind kind a
later_is kind a h = let k = h.1 in (h.0, omega (arith, k))
