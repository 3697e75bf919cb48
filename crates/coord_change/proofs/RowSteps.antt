-- Rows that are made one after the other.
use Rattle.std.proofs.Common.{◌≡◌, ℕ, zero, suc, ◌+◌, ◌<◌, inl, inr, Result, Ok, Err, IfOk, List, [], ◌∷◌, ◌++◌, length, map, get_or, length-append, ap, sym, ◌∙◌, subst, arith}
use Rattle.ring_theory.specs.Scalars.{Meaning}
use Rattle.lin_row.specs.Lines.{IsLine, EachOf}
use Rattle.lin_row.specs.Rows.{AreRows, rows_of}
use Rattle.lin_row.specs.declared.row.Row.{Row}
use Rattle.lin_row.proofs.BuildLaws
use Rattle.lin_row.proofs.StageLaws
use Rattle.jet_subst.proofs.Tables.{at-map}
use Rattle.jet_subst.proofs.PowerLemmas.{at-append, at-last, before_or_last}
use Rattle.coord_change.proofs.Matrices.{element}

module _ {E : Type 0} where
  pub rows-push : (rows : List (Row E)) (r : Row E) → rows_of (rows ++ (r ∷ [])) ≡ rows_of rows ++ (r.entries ∷ [])
  rows-push rows r = BuildLaws.rows-append rows (r ∷ [])

  pub count_more : (rows : List (Row E)) (r : Row E) (i : ℕ) → length (rows_of rows) ≡ i → length (rows_of (rows ++ (r ∷ []))) ≡ i + 1
  count_more rows r i e = ap length (rows-push rows r) ∙ length-append (rows_of rows) (r.entries ∷ []) ∙ ap (λ z. z + 1) e

  pub each_more : (P : List (ℕ × E) → Type 0) (rows : List (Row E)) (r : Row E) → EachOf P (rows_of rows) → P r.entries → EachOf P (rows_of (rows ++ (r ∷ [])))
  each_more P rows r all here = subst (EachOf P) (sym (rows-push rows r)) (StageLaws.each_push P (rows_of rows) r.entries all here)

  pub at_more : (P : ℕ → List (ℕ × E) → Type 0) (rows : List (Row E)) (r : Row E) (i : ℕ) → length (rows_of rows) ≡ i → ((j : ℕ) → j < i → P j (get_or (rows_of rows) j [])) → P i r.entries
      → (j : ℕ) → j < i + 1 → P j (get_or (rows_of (rows ++ (r ∷ []))) j [])
  at_more P rows r i e old new j h = subst (λ zs. P j (get_or zs j [])) (sym (rows-push rows r)) (elim (before_or_last j i h) [
    | inl b ↦ subst (P j) (sym (at-append (rows_of rows) r.entries [] j (omega arith))) (old j b)
    | inr q ↦ subst (P j) (sym (ap (λ z. get_or (rows_of rows ++ (r.entries ∷ [])) z []) (q ∙ sym e) ∙ at-last (rows_of rows) r.entries [])) (subst (λ z. P z r.entries) (sym q) new)
  ])

  -- a row among others
  pub row-at : (rows : List (Row E)) (k : ℕ) (r : Row E) → k < length rows → r ≡ get_or rows k r → get_or (rows_of rows) k [] ≡ r.entries
  row-at [] k r h e = absurd (omega arith)
  row-at (x ∷ rows) zero r h e = let q : r ≡ x = e in ap (λ (y : Row E). y.entries) (sym q)
  row-at (x ∷ rows) (suc k) r h e = row-at rows k r (omega arith) e

module _ {E V : Type 0} (m : Meaning E V) where
  pub lines_more : (rows : List (Row E)) (r : Row E) → AreRows m rows → IsLine m r.entries → AreRows m (rows ++ (r ∷ []))
  lines_more [] r all h = (h, tt)
  lines_more (x ∷ rows) r all h = (all.0, lines_more rows r all.1 h)

  pub line-at : (rows : List (Row E)) (k : ℕ) (r : Row E) → k < length rows → r ≡ get_or rows k r → AreRows m rows → IsLine m r.entries
  line-at rows k r h e all = BuildLaws.valid-at m rows k r h e all

  -- values by their places
  pub values-at : (items : List E) (n : ℕ) (w : ℕ → V) → length items ≡ n → ((k : ℕ) (e : E) → k < n → m.value (get_or items k e) ≡ w k) → (d : ℕ) → d < n → get_or (map m.value items) d m.scalars.ops.zero ≡ w d
  values-at items n w size each d h =
      let x : (x : E) × (x ≡ get_or items d x) = element items d (omega arith) in
      at-map m.value items d x.0 (omega arith) x.1 m.scalars.ops.zero ∙ ap m.value x.1 ∙ each d x.0 h

  -- one value more
  pub values_more : (all new : List E) (x : E) (w : ℕ → V) (d : ℕ) → length all ≡ d → new ≡ all ++ (x ∷ []) → m.value x ≡ w d → ((k : ℕ) (e : E) → k < d → m.value (get_or all k e) ≡ w k)
      → (k : ℕ) (e : E) → k < d + 1 → m.value (get_or new k e) ≡ w k
  values_more all new x w d size items value old k e h =
      ap (λ zs. m.value (get_or zs k e)) items ∙ elim (before_or_last k d h) [
        | inl b ↦ ap m.value (at-append all x e k (omega arith)) ∙ old k e b
        | inr q ↦ ap (λ z. m.value (get_or (all ++ (x ∷ [])) z e)) (q ∙ sym size) ∙ ap m.value (at-last all x e) ∙ value ∙ ap w (sym q)
      ]

-- three facts of one value
pub if_ok_three : {T X : Type 0} {P Q R S : T → Type 0} (r : Result T X) → ((x : T) → P x → Q x → R x → S x) → IfOk r P → IfOk r Q → IfOk r R → IfOk r S
if_ok_three (Ok x) f p q s = f x p q s
if_ok_three (Err e) f p q s = tt
