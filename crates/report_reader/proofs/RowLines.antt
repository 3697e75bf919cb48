-- Rows, a line each, and rows with their count before them.
use Rattle.std.proofs.Common.{◌≡◌, ℕ, zero, suc, ◌+◌, ◌<◌, ◌≤◌, ◌^◌, List, [], ◌∷◌, ◌++◌, length, refl, sym, ap, ◌∙◌, subst, append_assoc, append-nil, length-append, arith, inl}
use Rattle.std.specs.Prelude.{decimal}
use Rattle.std.specs.List.{AllByRecursion, flat_map}
use Rattle.std.proofs.lemmas.List.Concat.{flat_map-append}
use Rattle.cert_text.specs.declared.word.Word.{Word}
use Rattle.cert_text.specs.Text.{word_line}
use Rattle.cert_text.specs.BadText.{IsWholeLines}
use Rattle.cert_law.specs.Unique.{IsSelfEnding}
use Rattle.cert_law.proofs.Carrying.{number_line}
use Rattle.report_reader.specs.Lines.{IsWithin}
use Rattle.report_reader.specs.Blocks.{IsStop, IsNotAtFront}
use Rattle.report_reader.specs.Rows.{AreMany, AreAtMost, counted_text}
use Rattle.report_reader.proofs.Fronts.{line-word_line, within_clean}
use Rattle.report_reader.proofs.Stops.{IsLine, IsApart, IsPair, stop_here, stop_behind, pair_first, pair_second, whole-line, whole-append}
use Rattle.jet_poly.proofs.Output.{all-push}

-- a line that is not there stops a block of one line
pub line_stop : {A : Type 0} (valid : A → Type 0) (text : A → List ℕ) (bytes : List ℕ) (v : A) → valid v → ((w : A) → valid w → IsLine (text w)) → IsNotAtFront valid text bytes → IsStop valid text bytes (length bytes)
line_stop valid text bytes v ok lines none = stop_here valid text bytes v ok (λ w is. record { first = text w; tail = []; line = lines w is; is = sym (append-nil (text w)); never = λ more e. none w more is e })

-- one field of a value, in front of the others
pub field_pair : {A C : Type 0} (first : A → Type 0) (front : A → List ℕ) (valid : C → Type 0) (text : C → List ℕ) (field : C → A) (tail : C → List ℕ)
    → ((a : A) → first a → IsWholeLines (front a)) → IsSelfEnding first front → ((a : A) → first a → (c : C) × valid c × (field c ≡ a)) → ((c : C) → valid c → first (field c))
    → ((c : C) → valid c → text c ≡ front (field c) ++ tail c) → IsPair first front (λ a c. valid c × (field c ≡ a)) tail valid text
field_pair first front valid text field tail lines told some each split = record {
  lines = lines;
  told = told;
  some = λ a ok. let c = some a ok in (c.0, (c.1, c.2));
  join = λ a c ok s. (c, s.0, split c s.0 ∙ ap (λ z. front z ++ tail c) s.1);
  part = λ c ok. (field c, each c ok, (c, (ok, refl), split c ok));
}

-- a number in a line of its own
pub numbers_told : (w : Word) (least most : ℕ) → most < 2 ^ 64 → IsSelfEnding (IsWithin least most) (λ n. word_line w (decimal n))
numbers_told w least most lt = record { one = λ m n x y om on e. let a = om.1 in let b = on.1 in number_line w m n x y (omega (arith, a, lt)) (omega (arith, b, lt)) e }

pub number_is_line : (w : Word) (least most : ℕ) → most < 2 ^ 64 → (n : ℕ) → IsWithin least most n → IsLine (word_line w (decimal n))
number_is_line w least most lt n h = line-word_line w (decimal n) (within_clean least most lt n h)

-- ---- rows

copies : {A : Type 0} → ℕ → A → List A
copies zero x = []
copies (suc k) x = x ∷ copies k x

pub many_copies : {A : Type 0} (valid : A → Type 0) (k : ℕ) (x : A) → valid x → (xs : List A) × AreMany valid k xs
unfolding copies
many_copies valid zero x ok = ([], (refl, tt))
many_copies valid (suc k) x ok =
    let r = many_copies valid k x ok in
    let size = r.1.0 in
    (x ∷ r.0, (omega (arith, size), (ok, r.1.1)))

rest_apart : {A : Type 0} (valid : A → Type 0) (text : A → List ℕ) (n : ℕ) (rest : List ℕ) (xs : List A) → ((a : A) → valid a → IsLine (text a)) → 0 < n → AreMany valid n xs → IsNotAtFront valid text rest → IsApart (flat_map text xs) rest
rest_apart valid text n rest [] lines lt ok none = let size = ok.0 in absurd (omega (arith, size, lt))
rest_apart valid text n rest (x ∷ xs) lines lt ok none = record { first = text x; tail = flat_map text xs; line = lines x ok.1.0; is = refl; never = λ more e. none x more ok.1.0 e }

-- rows stop where the next line is no row
pub rows_stop : {A : Type 0} (valid : A → Type 0) (text : A → List ℕ) (n : ℕ) (done : List A) (bytes rest : List ℕ) (some : A) → valid some → IsSelfEnding valid text → ((a : A) → valid a → IsLine (text a))
    → AllByRecursion valid done → length done < n → flat_map text done ++ rest ≡ bytes → IsNotAtFront valid text rest → IsStop (AreMany valid n) (flat_map text) bytes (length rest)
rows_stop valid text n [] bytes rest some ok told lines each lt e none =
    let filled = many_copies valid n some ok in
    subst (λ (z : List ℕ). IsStop (AreMany valid n) (flat_map text) z (length rest)) e (stop_here (AreMany valid n) (flat_map text) rest filled.0 filled.1 (λ xs is. rest_apart valid text n rest xs lines lt is none))
rows_stop valid text zero (d ∷ done) bytes rest some ok told lines each lt e none = absurd (omega (arith, lt))
rows_stop {A} valid text (suc n) (d ∷ done) bytes rest some ok told lines each lt e none =
    stop_behind (AreMany valid (suc n)) (flat_map text) (AreMany valid n) (flat_map text) bytes (text d) (flat_map text done ++ rest) (length rest) (whole-line (text d) (lines d each.0)) (sym (append_assoc (text d) (flat_map text done) rest) ∙ e)
    (λ xs is. let size = is.0 in (d ∷ xs, (omega (arith, size), (each.0, is.1)), refl))
    (λ xs x y is f. out xs x y is f)
    (rows_stop valid text n done (flat_map text done ++ rest) rest some ok told lines each.1 (omega (arith, lt)) refl none)
  where
    out : (xs : List A) (x y : List ℕ) → AreMany valid (suc n) xs → flat_map text xs ++ x ≡ text d ++ y → (ys : List A) × AreMany valid n ys × (flat_map text xs ≡ text d ++ flat_map text ys)
    out [] x y is f = let size = is.0 in absurd (omega (arith, size))
    out (v ∷ xs) x y is f =
        let h = told.one v d (flat_map text xs ++ x) y is.1.0 each.0 (sym (append_assoc (text v) (flat_map text xs) x) ∙ f) in
        let size = is.0 in
        (xs, (omega (arith, size), is.1.1), ap (λ (z : A). text z ++ flat_map text xs) h.0)

pub rows_whole : {A : Type 0} (valid : A → Type 0) (text : A → List ℕ) → ((a : A) → valid a → IsLine (text a)) → (xs : List A) → AllByRecursion valid xs → IsWholeLines (flat_map text xs)
rows_whole valid text lines [] h = inl refl
rows_whole valid text lines (x ∷ xs) h = whole-append (text x) (flat_map text xs) (whole-line (text x) (lines x h.0)) (rows_whole valid text lines xs h.1)

-- one more row
flat_push : {A : Type 0} (text : A → List ℕ) (xs : List A) (x : A) → flat_map text (xs ++ x ∷ []) ≡ flat_map text xs ++ text x
flat_push text xs x = flat_map-append text xs (x ∷ []) ∙ ap (λ (z : List ℕ). flat_map text xs ++ z) (append-nil (text x))

pub pushed_text : {A : Type 0} (text : A → List ℕ) (xs : List A) (x : A) (rest after bytes : List ℕ) → flat_map text xs ++ rest ≡ bytes → text x ++ after ≡ rest → flat_map text (xs ++ x ∷ []) ++ after ≡ bytes
pushed_text text xs x rest after bytes e a = ap (λ (z : List ℕ). z ++ after) (flat_push text xs x) ∙ append_assoc (flat_map text xs) (text x) after ∙ ap (λ (z : List ℕ). flat_map text xs ++ z) a ∙ e

pub many_more : {A : Type 0} (valid : A → Type 0) (text : A → List ℕ) (k : ℕ) (xs ys : List A) (x : A) (rest after bytes : List ℕ) → AreMany valid k xs → flat_map text xs ++ rest ≡ bytes → valid x → text x ++ after ≡ rest → ys ≡ xs ++ x ∷ []
    → AreMany valid (k + 1) ys × (flat_map text ys ++ after ≡ bytes)
many_more {A} valid text k xs ys x rest after bytes is e ok a same =
    let size = length-append xs (x ∷ []) in
    let old = is.0 in
    let more : AreMany valid (k + 1) (xs ++ x ∷ []) = (omega (arith, size, old), all-push valid xs x is.1 ok) in (
      subst (AreMany valid (k + 1)) (sym same) more,
      ap (λ (z : List A). flat_map text z ++ after) same ∙ pushed_text text xs x rest after bytes e a,
    )

-- the count of rows, and the rows
pub counted_pair : {A : Type 0} (w : Word) (most : ℕ) (valid : A → Type 0) (text : A → List ℕ) → most < 2 ^ 64 → ((k : ℕ) → k ≤ most → (xs : List A) × AreMany valid k xs)
    → IsPair (IsWithin 0 most) (λ k. word_line w (decimal k)) (AreMany valid) (flat_map text) (AreAtMost valid most) (counted_text w text)
counted_pair w most valid text lt some = record {
  lines = λ k h. whole-line (word_line w (decimal k)) (number_is_line w 0 most lt k h);
  told = numbers_told w 0 most lt;
  some = λ k h. some k h.1;
  join = λ k xs h is. let size = is.0 in let le = h.1 in (xs, (omega (arith, size, le), is.1), ap (λ (z : ℕ). word_line w (decimal z) ++ flat_map text xs) size);
  part = λ xs is. (length xs, (omega arith, is.0), (xs, (refl, is.1), refl));
}

pub counted_stop : {A : Type 0} (w : Word) (most : ℕ) (valid : A → Type 0) (text : A → List ℕ) (bytes : List ℕ) → most < 2 ^ 64 → ((k : ℕ) → k ≤ most → (xs : List A) × AreMany valid k xs)
    → IsNotAtFront (IsWithin 0 most) (λ k. word_line w (decimal k)) bytes → IsStop (AreAtMost valid most) (counted_text w text) bytes (length bytes)
counted_stop w most valid text bytes lt some none = pair_first (IsWithin 0 most) (λ k. word_line w (decimal k)) (AreMany valid) (flat_map text) (AreAtMost valid most) (counted_text w text) bytes (length bytes) (counted_pair w most valid text lt some)
    (line_stop (IsWithin 0 most) (λ k. word_line w (decimal k)) bytes 0 (omega arith, omega arith) (number_is_line w 0 most lt) none)

pub behind_count : {A : Type 0} (w : Word) (most : ℕ) (valid : A → Type 0) (text : A → List ℕ) (k : ℕ) (bytes rest : List ℕ) (left : ℕ) → most < 2 ^ 64 → ((k : ℕ) → k ≤ most → (xs : List A) × AreMany valid k xs)
    → IsWithin 0 most k → word_line w (decimal k) ++ rest ≡ bytes → IsStop (AreMany valid k) (flat_map text) rest left → IsStop (AreAtMost valid most) (counted_text w text) bytes left
behind_count w most valid text k bytes rest left lt some h e s = pair_second (IsWithin 0 most) (λ k. word_line w (decimal k)) (AreMany valid) (flat_map text) (AreAtMost valid most) (counted_text w text) k bytes rest left (counted_pair w most valid text lt some) h e s

pub counted_read : {A : Type 0} (w : Word) (most : ℕ) (valid : A → Type 0) (text : A → List ℕ) (k : ℕ) (xs : List A) (bytes rest end : List ℕ) → IsWithin 0 most k → word_line w (decimal k) ++ rest ≡ bytes → AreMany valid k xs → flat_map text xs ++ end ≡ rest
    → AreAtMost valid most xs × (counted_text w text xs ++ end ≡ bytes)
counted_read w most valid text k xs bytes rest end h e is d =
    let size = is.0 in
    let le = h.1 in
    ((omega (arith, size, le), is.1), append_assoc (word_line w (decimal (length xs))) (flat_map text xs) end ∙ ap (λ (z : List ℕ). word_line w (decimal (length xs)) ++ z) d ∙ ap (λ (z : ℕ). word_line w (decimal z) ++ rest) size ∙ e)

pub many_none : {A : Type 0} (valid : A → Type 0) (text : A → List ℕ) (xs : List A) (bytes : List ℕ) → xs ≡ [] → AreMany valid 0 xs × (flat_map text xs ++ bytes ≡ bytes)
many_none {A} valid text xs bytes e = let start : AreMany valid 0 [] = (refl, tt) in (subst (AreMany valid 0) (sym e) start, ap (λ (z : List A). flat_map text z ++ bytes) e)
