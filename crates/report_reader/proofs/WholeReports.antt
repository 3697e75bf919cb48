-- Whole reports: where they stop, and texts that are none.
use Rattle.std.proofs.Common.{◌≡◌, ℕ, zero, suc, ◌+◌, ◌-◌, ◌<◌, ◌≤◌, ◌^◌, true, not, ◌&&◌, List, [], ◌∷◌, ◌++◌, length, length-append, take, drop, get_or, Fits, Fits-lit, w8, lt-ltb, lit<, refl, sym, ap, ◌∙◌, subst, append_assoc, arith}
use Rattle.std.proofs.lemmas.Bool.{ne_eqb}
use Rattle.std.proofs.lemmas.List.{append-nil, length-take-le, take-append-drop, take_at}
use Rattle.std.specs.List.{list_all}
use Rattle.std.specs.Prelude.{decimal, nat_lt, ◌==◌}
use Rattle.std.specs.Cmp.Derive.{both_true}
use Rattle.cert_text.specs.declared.report.Answer.{Answer}
use Rattle.cert_text.specs.declared.report.Report.{Report}
use Rattle.cert_text.specs.declared.report.Report.TheVariants as reports
use Rattle.cert_text.specs.declared.word.Word.{Word}
use Rattle.cert_text.specs.declared.word.Word.TheVariants as words
use Rattle.cert_text.specs.BadText.{IsBadText, IsWholeLines}
use Rattle.cert_text.specs.Words.{word_text}
use Rattle.cert_text.specs.Text.{line, word_line, answer_text, report_text}
use Rattle.cert_text.specs.WellFormed.{IsOneLine, IsWellFormed, IsWellFormedAnswer}
use Rattle.cert_law.proofs.Carrying.{number_line, word_rest}
use Rattle.cert_law.proofs.Cut.{head}
use Rattle.cert_law.proofs.Valid.{all_from}
use Rattle.cert_law.proofs.Whole.{answer_one, in_line, report_one}
use Rattle.text_reader.specs.Reading.{IsAny}
use Rattle.text_reader.proofs.Visible.{cut_at}
use Rattle.report_reader.specs.Blocks.{IsNotAtFront, IsStop}
use Rattle.report_reader.specs.Lines.{IsClean, IsWithin}
use Rattle.report_reader.specs.Wholes.{ended_text, too_long_rest}
use Rattle.report_reader.proofs.Fronts.{line-word, line-word_line, line_absent, value_at, within_clean, word_line_text}
use Rattle.report_reader.proofs.Stops.{IsApart, IsPair, pair_first, pair_second, shorter_front, stop_behind, stop_here, whole-line}
use Rattle.report_reader.proofs.WholeLines.{ends_answer, ends_report, whole_of}

-- ---- the line of a germ

-- bytes without newline, each below 256
plain : (text : List ℕ) → ((i : ℕ) → Fits w8 (get_or text i 0)) → IsClean text → list_all (λ b. nat_lt b 256 && not (b == 10)) text ≡ true
plain [] fits clean = refl
plain (b ∷ bs) fits clean =
    both_true (both_true (lt-ltb b 256 (fits 0).fits) (ap not (ne_eqb b 10 clean.0)))
    (plain bs (λ i. fits (suc i)) clean.1)

pub one_line : (text : List ℕ) → ((i : ℕ) → Fits w8 (get_or text i 0)) → IsClean text → length text ≤ 65536 → IsOneLine text
one_line text fits clean short = record { short = short; are_bytes = plain text fits clean }

fits_after : (a b : List ℕ) → ((i : ℕ) → Fits w8 (get_or (a ++ b) i 0)) → (i : ℕ) → Fits w8 (get_or b i 0)
fits_after [] b h = h
fits_after (x ∷ a) b h = fits_after a b (λ i. h (suc i))

fits_front : (a b : List ℕ) → ((i : ℕ) → Fits w8 (get_or (a ++ b) i 0)) → (i : ℕ) → Fits w8 (get_or a i 0)
fits_front [] b h i = Fits-lit tt
fits_front (x ∷ a) b h zero = h 0
fits_front (x ∷ a) b h (suc i) = fits_front a b (λ j. h (suc j)) i

-- each byte of the line is a byte
pub germ_fits : (text rest bytes : List ℕ) → word_line words.Germ text ++ rest ≡ bytes → ((i : ℕ) → Fits w8 (get_or bytes i 0)) → (i : ℕ) → Fits w8 (get_or text i 0)
germ_fits text rest bytes e h =
    let P : List ℕ → Type 0 = λ z. (i : ℕ) → Fits w8 (get_or z i 0) in
    let all = subst P (sym (sym (word_line_text words.Germ text rest) ∙ e)) h in
    let behind = fits_after (word_text words.Germ) (32 ∷ (text ++ 10 ∷ rest)) all in
    fits_front text (10 ∷ rest) (λ i. behind (suc i))

one_clean : (text : List ℕ) → IsOneLine text → IsClean text
one_clean text h = all_from (λ b. nat_lt b 256 && not (b == 10)) (λ b. b ≡ 10 → ⊥) in_line text h.are_bytes

pub no_germ : (bytes : List ℕ) → IsNotAtFront IsClean (word_line words.Germ) bytes → IsNotAtFront IsOneLine (word_line words.Germ) bytes
no_germ bytes none = line_absent IsOneLine (λ v. v) words.Germ bytes one_clean none

pub no_short_germ : (bytes body rest : List ℕ) → IsClean body → word_line words.Germ body ++ rest ≡ bytes → 65536 < length body → IsNotAtFront IsOneLine (word_line words.Germ) bytes
no_short_germ bytes body rest clean e long = value_at IsOneLine (λ v. v) words.Germ bytes body rest one_clean clean e (λ v ok is. let short = ok.short in let n = ap (λ (z : List ℕ). length z) is in omega (arith, short, n, long))

-- ---- lines that are one word

pub word_stop : (w : Word) (rest : List ℕ) → ((more : List ℕ) → line (word_text w) ++ more ≡ rest → ⊥) → IsStop {A = ℕ} IsAny (λ n. line (word_text w)) rest (length rest)
word_stop w rest none = stop_here IsAny (λ n. line (word_text w)) rest 0 tt (λ n _. record { first = line (word_text w); tail = []; line = line-word w; is = sym (append-nil (line (word_text w))); never = none })

pub too_long_stop : (bytes : List ℕ) → ((more : List ℕ) → line (word_text words.TooLong) ++ more ≡ bytes → ⊥) → IsStop {A = ℕ} IsAny (λ n. too_long_rest) bytes (length bytes)
too_long_stop bytes none =
    stop_here IsAny (λ n. too_long_rest) bytes 0 tt (λ n _. record { first = line (word_text words.TooLong); tail = line (word_text words.End); line = line-word words.TooLong; is = refl; never = none })

pub too_long_end : (bytes rest : List ℕ) → line (word_text words.TooLong) ++ rest ≡ bytes → ((more : List ℕ) → line (word_text words.End) ++ more ≡ rest → ⊥) → IsStop {A = ℕ} IsAny (λ n. too_long_rest) bytes (length rest)
too_long_end bytes rest e none =
    stop_behind {A = ℕ} {B = ℕ} IsAny (λ n. too_long_rest) IsAny (λ n. line (word_text words.End)) bytes (line (word_text words.TooLong)) rest (length rest) (whole-line (line (word_text words.TooLong)) (line-word words.TooLong)) e
    (λ n _. (n, tt, refl)) (λ n x y _ _. (n, tt, refl)) (word_stop words.End rest none)

-- ---- an answer and the line `end`

ended_pair : IsPair {A = Answer} {B = ℕ} {C = Answer} IsWellFormedAnswer answer_text (λ a n. IsAny n) (λ n. line (word_text words.End)) IsWellFormedAnswer ended_text
ended_pair = record {
  lines = λ a ok. whole_of (answer_text a) (ends_answer a);
  told = record { one = answer_one };
  some = λ a ok. (0, tt);
  join = λ a n ok _. (a, ok, refl);
  part = λ a ok. (a, ok, (0, tt, refl));
}

pub answer_stop : (bytes : List ℕ) (left : ℕ) → IsStop IsWellFormedAnswer answer_text bytes left → IsStop IsWellFormedAnswer ended_text bytes left
answer_stop bytes left s = pair_first IsWellFormedAnswer answer_text (λ a (n : ℕ). IsAny n) (λ n. line (word_text words.End)) IsWellFormedAnswer ended_text bytes left ended_pair s

pub end_stop : (a : Answer) (bytes rest : List ℕ) → IsWellFormedAnswer a → answer_text a ++ rest ≡ bytes → ((more : List ℕ) → line (word_text words.End) ++ more ≡ rest → ⊥) → IsStop IsWellFormedAnswer ended_text bytes (length rest)
end_stop a bytes rest ok e none =
    pair_second IsWellFormedAnswer answer_text (λ a (n : ℕ). IsAny n) (λ n. line (word_text words.End)) IsWellFormedAnswer ended_text a bytes rest (length rest) ended_pair ok e (word_stop words.End rest none)

-- ---- reports

long_split : (n : ℕ) → report_text (reports.Long n) ≡ word_line words.Long (decimal n) ++ too_long_rest
unfolding report_text
long_split n = append_assoc (word_line words.Long (decimal n)) (line (word_text words.TooLong)) (line (word_text words.End))

line_split : (l : List ℕ) (a : Answer) → report_text (reports.Line l a) ≡ word_line words.Germ l ++ ended_text a
unfolding report_text
line_split l a = append_assoc (word_line words.Germ l) (answer_text a) (line (word_text words.End))

apart_words : (t u x y : List ℕ) → word_line words.Long t ++ x ≡ word_line words.Germ u ++ y → ⊥
unfolding word_line line word_text
apart_words t u x y e = let h = (head 108 103 _ _ e).0 in omega (arith, h)

long_line : (n : ℕ) → n < 2 ^ 64 → IsWholeLines (word_line words.Long (decimal n))
long_line n lt = whole-line (word_line words.Long (decimal n)) (line-word_line words.Long (decimal n) (within_clean 0 18446744073709551615 (lit< tt) n (omega arith, omega (arith, lt))))

germ_line : (l : List ℕ) → IsOneLine l → IsWholeLines (word_line words.Germ l)
germ_line l ok = whole-line (word_line words.Germ l) (line-word_line words.Germ l (one_clean l ok))

-- neither first line stands at the front
pub report_stop : (bytes : List ℕ) → IsNotAtFront (IsWithin 0 18446744073709551615) (λ n. word_line words.Long (decimal n)) bytes → IsNotAtFront IsOneLine (word_line words.Germ) bytes → IsStop IsWellFormed report_text bytes (length bytes)
report_stop bytes no_long no_line = stop_here IsWellFormed report_text bytes (reports.Long 0) (lit< tt) apart
  where
    apart : (r : Report) → IsWellFormed r → IsApart (report_text r) bytes
    apart (reports.Long n) lt = record {
      first = word_line words.Long (decimal n);
      tail = too_long_rest;
      line = line-word_line words.Long (decimal n) (within_clean 0 18446744073709551615 (lit< tt) n (omega arith, omega (arith, lt)));
      is = long_split n;
      never = λ more e. no_long n more (omega arith, omega (arith, lt)) e;
    }
    apart (reports.Line l a) ok = record {
      first = word_line words.Germ l;
      tail = ended_text a;
      line = line-word_line words.Germ l (one_clean l ok.0);
      is = line_split l a;
      never = λ more e. no_line l more ok.0 e;
    }

pub long_stop : (n : ℕ) (bytes rest : List ℕ) → n < 2 ^ 64 → word_line words.Long (decimal n) ++ rest ≡ bytes → (left : ℕ) → IsStop {A = ℕ} IsAny (λ k. too_long_rest) rest left → IsStop IsWellFormed report_text bytes left
long_stop n bytes rest lt e left s =
    stop_behind {A = Report} {B = ℕ} IsWellFormed report_text IsAny (λ k. too_long_rest) bytes (word_line words.Long (decimal n)) rest left (long_line n lt) e (λ k _. (reports.Long n, lt, long_split n)) out s
  where
    out : (r : Report) (x y : List ℕ) → IsWellFormed r → report_text r ++ x ≡ word_line words.Long (decimal n) ++ y → (k : ℕ) × Unit {0} × (report_text r ≡ word_line words.Long (decimal n) ++ too_long_rest)
    out (reports.Long m) x y small f =
        let whole : word_line words.Long (decimal m) ++ (too_long_rest ++ x) ≡ word_line words.Long (decimal n) ++ y = sym (append_assoc (word_line words.Long (decimal m)) too_long_rest x) ∙ ap (λ (z : List ℕ). z ++ x) (sym (long_split m)) ∙ f in
        let same = (number_line words.Long m n (too_long_rest ++ x) y (omega (arith, small)) (omega (arith, lt)) whole).0 in
        (0, tt, long_split m ∙ ap (λ (k : ℕ). word_line words.Long (decimal k) ++ too_long_rest) same)
    out (reports.Line l a) x y ok f =
        absurd (apart_words (decimal n) l y (ended_text a ++ x) (sym f ∙ ap (λ (z : List ℕ). z ++ x) (line_split l a) ∙ append_assoc (word_line words.Germ l) (ended_text a) x))

pub line_stop : (l bytes rest : List ℕ) → IsOneLine l → word_line words.Germ l ++ rest ≡ bytes → (left : ℕ) → IsStop IsWellFormedAnswer ended_text rest left → IsStop IsWellFormed report_text bytes left
line_stop l bytes rest one e left s =
    stop_behind {A = Report} {B = Answer} IsWellFormed report_text IsWellFormedAnswer ended_text bytes (word_line words.Germ l) rest left (germ_line l one) e (λ a ok. (reports.Line l a, (one, ok), line_split l a)) out s
  where
    out : (r : Report) (x y : List ℕ) → IsWellFormed r → report_text r ++ x ≡ word_line words.Germ l ++ y → (a : Answer) × IsWellFormedAnswer a × (report_text r ≡ word_line words.Germ l ++ ended_text a)
    out (reports.Long m) x y small f =
        absurd (apart_words (decimal m) l (too_long_rest ++ x) y (sym (append_assoc (word_line words.Long (decimal m)) too_long_rest x) ∙ ap (λ (z : List ℕ). z ++ x) (sym (long_split m)) ∙ f))
    out (reports.Line k a) x y ok f =
        let whole : word_line words.Germ k ++ (ended_text a ++ x) ≡ word_line words.Germ l ++ y = sym (append_assoc (word_line words.Germ k) (ended_text a) x) ∙ ap (λ (z : List ℕ). z ++ x) (sym (line_split k a)) ∙ f in
        let same = (cut_at 10 k l (ended_text a ++ x) y (one_clean k ok.0) (one_clean l one) (word_rest words.Germ k l (ended_text a ++ x) y whole)).0 in
        (a, ok.1, line_split k a ∙ ap (λ (z : List ℕ). word_line words.Germ z ++ ended_text a) same)

pub long_read : (n : ℕ) (bytes one rest : List ℕ) → word_line words.Long (decimal n) ++ one ≡ bytes → too_long_rest ++ rest ≡ one → report_text (reports.Long n) ++ rest ≡ bytes
long_read n bytes one rest e f = ap (λ (z : List ℕ). z ++ rest) (long_split n) ∙ append_assoc (word_line words.Long (decimal n)) too_long_rest rest ∙ ap (λ (z : List ℕ). word_line words.Long (decimal n) ++ z) f ∙ e

pub line_read : (l : List ℕ) (a : Answer) (bytes one rest : List ℕ) → word_line words.Germ l ++ one ≡ bytes → ended_text a ++ rest ≡ one → report_text (reports.Line l a) ++ rest ≡ bytes
line_read l a bytes one rest e f = ap (λ (z : List ℕ). z ++ rest) (line_split l a) ∙ append_assoc (word_line words.Germ l) (ended_text a) rest ∙ ap (λ (z : List ℕ). word_line words.Germ l ++ z) f ∙ e

pub line_found : (l text : List ℕ) (a : Answer) (bytes one rest : List ℕ) → l ≡ text → IsOneLine text → IsWellFormedAnswer a → word_line words.Germ text ++ one ≡ bytes → ended_text a ++ rest ≡ one
    → (IsOneLine l × IsWellFormedAnswer a) × (report_text (reports.Line l a) ++ rest ≡ bytes)
line_found l text a bytes one rest same short ok e f =
    let P : List ℕ → Type 0 = λ z. (IsOneLine z × IsWellFormedAnswer a) × (report_text (reports.Line z a) ++ rest ≡ bytes) in
    subst P (sym same) ((short, ok), line_read text a bytes one rest e f)

-- ---- bytes that are the text of no report

front_of : (front rest bytes : List ℕ) → bytes ≡ front ++ rest → take (length front) bytes ≡ front
front_of front rest bytes e = ap (λ (z : List ℕ). take (length front) z) e ∙ take_at front rest (length front) refl

-- where the reading of a report stopped
pub stop_bad : (bytes : List ℕ) (left offset : ℕ) → IsStop IsWellFormed report_text bytes left → offset ≡ length bytes - left → IsBadText bytes offset
stop_bad bytes left offset s is =
    let sizes : length bytes ≡ length s.seen + length s.rest = ap (λ (z : List ℕ). length z) s.parted ∙ length-append s.seen s.rest in
    let long = s.long in
    let at : offset ≡ length s.seen = omega (arith, is, sizes, long) in
    let P : ℕ → Type 0 = λ k. IsBadText bytes k in
    let same : s.seen ≡ take (length s.seen) bytes = sym (front_of s.seen s.rest bytes s.parted) in
    let b = s.begins in
    subst P (sym at)
    (record {
      none = λ r ok e. s.none r [] ok (append-nil (report_text r) ∙ e);
      within = omega (arith, sizes);
      lines = subst IsWholeLines same s.lines;
      begins = (b.0, b.1, (b.2.0, b.2.1 ∙ ap (λ (z : List ℕ). z ++ b.2.0) same));
      longest = λ k lt le whole begins.
          let n : length (take k bytes) ≡ k = length-take-le k bytes le in
          s.longest begins.0 (take k bytes) (drop k bytes) begins.2.0 begins.1 whole (sym (take-append-drop k bytes)) begins.2.1 (omega (arith, lt, n));
    })

-- something stands behind a report
pub rest_bad : (r : Report) (bytes rest : List ℕ) (offset : ℕ) → IsWellFormed r → report_text r ++ rest ≡ bytes → 0 < length rest → offset ≡ length bytes - length rest → IsBadText bytes offset
rest_bad r bytes rest offset ok e some is =
    let sizes : length bytes ≡ length (report_text r) + length rest = ap (λ (z : List ℕ). length z) (sym e) ∙ length-append (report_text r) rest in
    let at : offset ≡ length (report_text r) = omega (arith, is, sizes) in
    let P : ℕ → Type 0 = λ k. IsBadText bytes k in
    let same : report_text r ≡ take (length (report_text r)) bytes = sym (front_of (report_text r) rest bytes (sym e)) in
    subst P (sym at)
    (record {
      none = λ s os f. let h = (report_one s r [] rest os ok (append-nil (report_text s) ∙ f ∙ sym e)).1 in let n = ap (λ (z : List ℕ). length z) h in omega (arith, n, some);
      within = omega (arith, sizes);
      lines = subst IsWholeLines same (whole_of (report_text r) (ends_report r));
      begins = (r, ok, ([], sym (append-nil (take (length (report_text r)) bytes) ∙ sym same)));
      longest = λ k lt le whole begins.
          let n : length (take k bytes) ≡ k = length-take-le k bytes le in
          let g = shorter_front (report_text r) rest (take k bytes) (drop k bytes) (e ∙ sym (take-append-drop k bytes)) (omega (arith, lt, n)) in
          let text : report_text begins.0 ++ [] ≡ report_text r ++ (g.more ++ begins.2.0) =
          append-nil (report_text begins.0) ∙ begins.2.1 ∙ ap (λ (z : List ℕ). z ++ begins.2.0) g.long ∙ append_assoc (report_text r) g.more begins.2.0 in
          let nothing = ap (λ (z : List ℕ). length z) (report_one begins.0 r [] (g.more ++ begins.2.0) begins.1 ok text).1 in
          let parts = length-append g.more begins.2.0 in
          let longer = ap (λ (z : List ℕ). length z) g.long ∙ length-append (report_text r) g.more in
          omega (arith, nothing, parts, longer, lt, n);
    })
