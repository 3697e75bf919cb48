-- A matrix by its rows.
use Rattle.std.proofs.Common.{◌≡◌, ℕ, zero, suc, ◌+◌, ◌*◌, ◌<◌, ◌≤◌, Bool, true, List, [], ◌∷◌, ◌++◌, length, take, drop, refl, sym, ap, ◌∙◌, subst, append_assoc, append-nil, length-append, length-drop, arith}
use Rattle.std.specs.List.{AllByRecursion, flat_map, list_all}
use Rattle.std.proofs.lemmas.List.{length-take-le, take-append-drop}
use Rattle.std.specs.Cmp.Derive.{both_true}
use Rattle.std.proofs.lemmas.List.Folds.{list_all-append}
use Rattle.std.proofs.Math.Seq.{take-append_seam, drop-append_seam}
use Rattle.std.specs.Prelude.{IsTrue}
use Rattle.ring_theory.specs.Gcd as gcds
use Rattle.ext_algebra.specs.declared.algebra.Algebra.{Algebra}
use Rattle.ext_algebra.specs.declared.algebra.Algebra.TheVariants.{Rational, Quadratic, Cubic, Tower}
use Rattle.ext_algebra.specs.Algebra.{is_element}
use Rattle.poly_text.specs.Numbers.{element_text}
use Rattle.cert_text.specs.Text.{line, spaced, rows_text, values_text}
use Rattle.cert_text.specs.BadText.{IsWholeLines}
use Rattle.cert_law.specs.Unique.{IsSelfEnding}
use Rattle.cert_law.specs.Fields.{Element, IsSmallElement}
use Rattle.cert_law.proofs.Cut.{head}
use Rattle.cert_law.proofs.Valid.{both, all_from, element_by}
use Rattle.cert_law.proofs.Series.{spaced_one, rows_one}
use Rattle.row_reader.specs.Values.{AreElements}
use Rattle.row_reader.proofs.ValueTexts.{all_list, list_each}
use Rattle.report_reader.specs.declared.frame.Frame.{Frame}
use Rattle.report_reader.specs.Lines.{IsClean}
use Rattle.report_reader.specs.Blocks.{IsStop, IsNotAtFront}
use Rattle.report_reader.specs.Rows.{AreMany}
use Rattle.report_reader.proofs.Fronts.{clean-append, line-line, line_text, clean-flat_map}
use Rattle.report_reader.proofs.Stops.{IsLine, stop_before}
use Rattle.report_reader.proofs.RowLines.{rows_stop, many_copies, rows_whole}
use Rattle.report_reader.proofs.CleanTexts.{element_clean}
use Rattle.text_reader.proofs.ElementTexts.{zero_element}

-- the line of a row
abbrev pub row_line : List Element → List ℕ
row_line es = line (spaced es)

small : (a : Algebra) (n : ℕ) (es : List Element) → AreElements a n es → AllByRecursion IsSmallElement es
small a n es h = all_from (is_element a) IsSmallElement (element_by a) es h.elements

pub values_clean : (a : Algebra) (es : List Element) → IsTrue (list_all (is_element a) es) → IsClean (values_text es)
values_clean a es h = clean-flat_map (λ e. IsTrue (is_element a e)) (λ v. 32 ∷ element_text v) (λ e k. ((λ q. omega (arith, q)), element_clean a e k)) es (list_each (is_element a) es h)

pub row_clean : (a : Algebra) (n : ℕ) (es : List Element) → AreElements a n es → IsClean (spaced es)
unfolding spaced
row_clean a n [] h = tt
row_clean a n (e ∷ es) h =
    let p = both (is_element a e) (list_all (is_element a) es) h.elements in
    clean-append (element_text e) (values_text es) (element_clean a e p.0) (values_clean a es p.1)

pub row_is_line : (a : Algebra) (n : ℕ) (es : List Element) → AreElements a n es → IsLine (row_line es)
row_is_line a n es h = line-line (spaced es) (row_clean a n es h)

pub row_told : (a : Algebra) (n : ℕ) → IsSelfEnding (AreElements a n) row_line
row_told a n = record {
  one = λ us vs x y ou ov e.
      let h = spaced_one us vs (10 ∷ x) (10 ∷ y) (ou.count_is ∙ sym ov.count_is) (small a n us ou) (small a n vs ov) (omega arith) (omega arith) (sym (line_text (spaced us) x) ∙ e ∙ line_text (spaced vs) y) in
      (h.0, (head 10 10 x y h.1).1);
}

-- ---- the elements of a matrix, and its rows

abbrev pub joined : List (List Element) → List Element
joined rows = flat_map (λ row. row) rows

tests_take : (t : Element → Bool) (n : ℕ) (xs : List Element) → list_all t xs ≡ true → (list_all t (take n xs) ≡ true) × (list_all t (drop n xs) ≡ true)
tests_take t n xs h = both (list_all t (take n xs)) (list_all t (drop n xs)) (sym (list_all-append t (take n xs) (drop n xs)) ∙ ap (list_all t) (take-append-drop n xs) ∙ h)

-- the matrix of its rows
pub joined_rows : (f : Frame) (r n : ℕ) (rows : List (List Element)) → AreMany (AreElements f.algebra n) r rows → AreElements f.algebra (r * n) (joined rows) × (rows_text r n (joined rows) ≡ flat_map row_line rows)
unfolding rows_text
joined_rows f zero n [] h = (record { count_is = omega arith; elements = refl }, refl)
joined_rows f zero n (row ∷ rows) h = let z = h.0 in absurd (omega (arith, z))
joined_rows f (suc r) n [] h = let z = h.0 in absurd (omega (arith, z))
joined_rows f (suc r) n (row ∷ rows) h =
    let size = h.0 in
    let first = h.1.0 in
    let others = joined_rows f r n rows (omega (arith, size), h.1.1) in
    let long = first.count_is in
    let whole = length-append row (joined rows) in
    let more = others.0.count_is in
    let step : suc r * n ≡ n + r * n = omega arith in (
      record {
        count_is = omega (arith, whole, long, more, step);
        elements = list_all-append (is_element f.algebra) row (joined rows) ∙ both_true first.elements others.0.elements;
      },
      ap (λ (z : List Element). row_line z ++ rows_text r n (drop n (row ++ joined rows))) (ap (λ (k : ℕ). take k (row ++ joined rows)) (sym long) ∙ take-append_seam row (joined rows))
          ∙ ap (λ (z : List Element). row_line row ++ rows_text r n z) (ap (λ (k : ℕ). drop k (row ++ joined rows)) (sym long) ∙ drop-append_seam row (joined rows))
          ∙ ap (λ (z : List ℕ). row_line row ++ z) others.1,
    )

-- the rows of a matrix
pub parted_rows : (f : Frame) (r n : ℕ) (es : List Element) → AreElements f.algebra (r * n) es → (rows : List (List Element)) × AreMany (AreElements f.algebra n) r rows × (rows_text r n es ≡ flat_map row_line rows)
unfolding rows_text
parted_rows f zero n es h = ([], (refl, tt), refl)
parted_rows f (suc r) n es h =
    let step : suc r * n ≡ n + r * n = omega arith in
    let size = h.count_is in
    let enough : n ≤ length es = omega (arith, size, step) in
    let t = tests_take (is_element f.algebra) n es h.elements in
    let dropped = length-drop n es in
    let others = parted_rows f r n (drop n es) (record { count_is = omega (arith, dropped, size, step); elements = t.1 }) in
    let many = others.1.0 in
    (take n es ∷ others.0, (omega (arith, many), (record { count_is = length-take-le n es enough; elements = t.0 }, others.1.1)), ap (λ (z : List ℕ). row_line (take n es) ++ z) others.2)

pub zero_valid : (a : Algebra) → is_element a zero_element ≡ true
unfolding is_element gcds.gcd
zero_valid Rational = refl
zero_valid (Quadratic m1 m0) = refl
zero_valid (Cubic m2 m1 m0) = refl
zero_valid (Tower m2 m1 m0 d) = refl

-- so many zeros
pub some_elements : (a : Algebra) (k : ℕ) → (es : List Element) × AreElements a k es
some_elements a k =
    let r = many_copies (λ e. IsTrue (is_element a e)) k zero_element (zero_valid a) in
    (r.0, record { count_is = r.1.0; elements = all_list (is_element a) r.0 r.1.1 })

-- a matrix stops where the next line is no row
pub matrix_stop : (f : Frame) (count n : ℕ) (done : List (List Element)) (bytes rest : List ℕ) → AreMany (AreElements f.algebra n) count done → count < n → flat_map row_line done ++ rest ≡ bytes
    → IsNotAtFront (AreElements f.algebra n) row_line rest → IsStop (AreElements f.algebra (n * n)) (rows_text n n) bytes (length rest)
matrix_stop f count n done bytes rest h lt e none =
    let size = h.0 in
    let some = some_elements f.algebra n in
    stop_before (AreMany (AreElements f.algebra n) n) (flat_map row_line) (AreElements f.algebra (n * n)) (rows_text n n) bytes (length rest)
    (λ rows is. let j = joined_rows f n n rows is in (joined rows, j.0, ([], j.1 ∙ sym (append-nil (flat_map row_line rows)))))
    (λ es is. let p = parted_rows f n n es is in (p.0, p.1, ([], p.2 ∙ sym (append-nil (flat_map row_line p.0)))))
    (rows_stop (AreElements f.algebra n) row_line n done bytes rest some.0 some.1 (row_told f.algebra n) (row_is_line f.algebra n) h.1 (omega (arith, size, lt)) e none)

pub matrix_read : (f : Frame) (n : ℕ) (rows : List (List Element)) (es : List Element) (bytes rest : List ℕ) → AreMany (AreElements f.algebra n) n rows → es ≡ joined rows → flat_map row_line rows ++ rest ≡ bytes → AreElements f.algebra (n * n) es × (rows_text n n es ++ rest ≡ bytes)
matrix_read f n rows es bytes rest h same e =
    let j = joined_rows f n n rows h in
    (subst (AreElements f.algebra (n * n)) (sym same) j.0, ap (λ (z : List Element). rows_text n n z ++ rest) same ∙ ap (λ (z : List ℕ). z ++ rest) j.1 ∙ e)

-- one more row
pub joined_more : (rows : List (List Element)) (row es more : List Element) → es ≡ joined rows → more ≡ es ++ row → more ≡ joined (rows ++ row ∷ [])
joined_more rows row es more a b = b ∙ ap (λ (z : List Element). z ++ row) a ∙ sym (push rows row)
  where
    push : (rows : List (List Element)) (row : List Element) → joined (rows ++ row ∷ []) ≡ joined rows ++ row
    push [] row = append-nil row
    push (r ∷ rows) row = ap (λ (z : List Element). r ++ z) (push rows row) ∙ sym (append_assoc r (joined rows) row)

pub matrix_whole : (f : Frame) (r n : ℕ) (es : List Element) → AreElements f.algebra (r * n) es → IsWholeLines (rows_text r n es)
matrix_whole f r n es h = let p = parted_rows f r n es h in subst IsWholeLines (sym p.2) (rows_whole (AreElements f.algebra n) row_line (row_is_line f.algebra n) p.0 p.1.1)

pub rows_told : (f : Frame) (r n : ℕ) → IsSelfEnding (AreElements f.algebra (r * n)) (rows_text r n)
rows_told f r n = record {
  one = λ us vs x y ou ov e. rows_one r n us vs x y ou.count_is ov.count_is (small f.algebra (r * n) us ou) (small f.algebra (r * n) vs ov) e;
}
