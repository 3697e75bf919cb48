-- One step of the loops over parts and over the rows of a matrix.
use Rattle.std.proofs.Common.{◌≡◌, ℕ, suc, ◌+◌, ◌-◌, ◌<◌, ◌≤◌, List, [], ◌∷◌, ◌++◌, length, take, drop, get_or, refl, sym, ap, ◌∙◌, arith}
use Rattle.std.proofs.lemmas.List.{drop_more, drop_all}
use Rattle.ring_law.specs.declared.fraction.Frac.{Frac}
use Rattle.ext_algebra.specs.declared.algebra.Ext.{Ext}
use Rattle.jet_poly.specs.JetTerms.{JetTerms}
use Rattle.poly_text.specs.declared.name.Name.{Name}
use Rattle.poly_text.proofs.Factors.{goes_on}
use Rattle.cert_text.specs.Text.{line, spaced, part_text, parts_text, rows_text}

rows_step : (i n : ℕ) (width : ℕ) (elements : List (Ext Frac)) → i < n → rows_text (n - i) width elements ≡ line (spaced (take width elements)) ++ rows_text (n - (i + 1)) width (drop width elements)
unfolding rows_text
rows_step i n width elements lt =
    let k : n - i ≡ suc (n - (i + 1)) = omega arith in
    rw k refl

-- a row was written
pub rows_go : (first out all new : List ℕ) (i n : ℕ) (elements row after : List (Ext Frac)) → i < n → out ++ rows_text (n - i) n elements ≡ first ++ all
    → row ≡ take n elements → after ≡ drop n elements → new ≡ out ++ line (spaced row) → new ++ rows_text (n - (i + 1)) n after ≡ first ++ all
rows_go first out all new i n elements row after lt so_far row-is after-is wrote =
    goes_on first out (line (spaced row)) (rows_text (n - i) n elements) (rows_text (n - (i + 1)) n after) all new so_far (rw (row-is, after-is) (rows_step i n n elements lt)) wrote

-- a name with its part
pub parts_step : (i : ℕ) (names : List Name) (parts : List (JetTerms (Ext Frac))) (d : Name) (part : JetTerms (Ext Frac)) → i < length names → i < length parts → part ≡ get_or parts i part
    → parts_text (drop i names) (drop i parts) ≡ part_text (get_or names i d) part ++ parts_text (drop (i + 1) names) (drop (i + 1) parts)
unfolding parts_text
parts_step i names parts d part a b part-is =
    let p : drop i parts ≡ part ∷ drop (i + 1) parts = drop_more parts i part b ∙ ap (λ (x : JetTerms (Ext Frac)). x ∷ drop (i + 1) parts) (sym part-is) in
    rw (drop_more names i d a, p) refl

parts_none : (names : List Name) → parts_text names [] ≡ []
unfolding parts_text
parts_none [] = refl
parts_none (name ∷ names) = refl

-- a name past the last part
pub parts_past : (i : ℕ) (names : List Name) (parts : List (JetTerms (Ext Frac))) → length parts ≤ i → parts_text (drop i names) (drop i parts) ≡ parts_text (drop (i + 1) names) (drop (i + 1) parts)
parts_past i names parts le =
    let a : drop i parts ≡ [] = drop_all i parts le in
    let b : drop (i + 1) parts ≡ [] = drop_all (i + 1) parts (omega arith) in
    rw (a, b) (parts_none (drop i names) ∙ sym (parts_none (drop (i + 1) names)))
