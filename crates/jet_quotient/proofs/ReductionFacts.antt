-- What the reduced echelon form says of combinations of rows: one that is 0 in the column of each pivot is 0.
use Rattle.std.proofs.Common.{◌≡◌, ◌≢◌, ℕ, zero, suc, List, [], ◌∷◌, map, refl, sym, ap, ap₂, subst, ◌∙◌, arith}
use Rattle.std.proofs.Math.Decide.{dec_le}
use Rattle.ring_theory.specs.Ring.{IsCommRing}
use Rattle.ring_theory.specs.Scalars.{Meaning}
use Rattle.poly_law.proofs.Sums
use Rattle.lin_row.specs.Lines.{AllAfter, EachOf, IsRising, lead_of, dot, unit_at}
use Rattle.lin_row.specs.System.{IsPivot, ArePivots, RowsVanish, combination, dot_at}
use Rattle.lin_row.specs.Forms.{IsCombination, IsReducedForm}
use Rattle.lin_row.proofs.LineLaws
use Rattle.lin_row.proofs.SystemLaws

-- a linear form is a multiple of the row and one that meets P
pub record Splits {E V : Type 0} (m : Meaning E V) (row : List (ℕ × E)) (P : ((ℕ → V) → V) → Type 0) (z : (ℕ → V) → V) : Type 0 where
  pub factor : V
  pub rest : (ℕ → V) → V
  pub sum : (w : ℕ → V) → z w ≡ m.scalars.ops.add (m.scalars.ops.mul factor (dot m row w)) (rest w)
  pub spanned : P rest

-- a linear form is a combination of the rows
abbrev pub IsSpanned : {E V : Type 0} → Meaning E V → List (List (ℕ × E)) → ((ℕ → V) → V) → Type 0
IsSpanned {E} {V} m [] z = (w : ℕ → V) → z w ≡ m.scalars.ops.zero
IsSpanned m (row ∷ rows) z = Splits m row (IsSpanned m rows) z

module _ {E V : Type 0} (m : Meaning E V) (c : IsCommRing m.scalars.ops) where
  open m.scalars.ops use {add, mul, neg}

  abbrev nought : V
  nought = m.scalars.ops.zero

  pub span_zero : (rows : List (List (ℕ × E))) (z : (ℕ → V) → V) → ((w : ℕ → V) → z w ≡ nought) → IsSpanned m rows z
  span_zero [] z h = h
  span_zero (row ∷ rows) z h = record {
    factor = nought;
    rest = z;
    sum = λ w. sym (ap (λ x. add x (z w)) (Sums.zero_mul m.scalars.ops c (dot m row w)) ∙ Sums.zero_add m.scalars.ops c (z w));
    spanned = span_zero rows z h;
  }

  pub span_add : (rows : List (List (ℕ × E))) (y z t : (ℕ → V) → V) → ((w : ℕ → V) → t w ≡ add (y w) (z w)) → IsSpanned m rows y → IsSpanned m rows z → IsSpanned m rows t
  span_add [] y z t e hy hz = λ w. e w ∙ ap₂ add (hy w) (hz w) ∙ c.add_zero nought
  span_add (row ∷ rows) y z t e hy hz = record {
    factor = add hy.factor hz.factor;
    rest = λ w. add (hy.rest w) (hz.rest w);
    sum = λ w. e w ∙ ap₂ add (hy.sum w) (hz.sum w)
        ∙ Sums.add_swap m.scalars.ops c (mul hy.factor (dot m row w)) (hy.rest w) (mul hz.factor (dot m row w)) (hz.rest w)
        ∙ ap (λ x. add x (add (hy.rest w) (hz.rest w))) (sym (Sums.distrib_right m.scalars.ops c hy.factor hz.factor (dot m row w)));
    spanned = span_add rows hy.rest hz.rest (λ w. add (hy.rest w) (hz.rest w)) (λ w. refl) hy.spanned hz.spanned;
  }

  pub span_mul : (rows : List (List (ℕ × E))) (a : V) (z t : (ℕ → V) → V) → ((w : ℕ → V) → t w ≡ mul a (z w)) → IsSpanned m rows z → IsSpanned m rows t
  span_mul [] a z t e h = λ w. e w ∙ ap (mul a) (h w) ∙ Sums.mul_zero m.scalars.ops c a
  span_mul (row ∷ rows) a z t e h = record {
    factor = mul a h.factor;
    rest = λ w. mul a (h.rest w);
    sum = λ w. e w ∙ ap (mul a) (h.sum w) ∙ Sums.distrib_left m.scalars.ops c a (mul h.factor (dot m row w)) (h.rest w)
        ∙ ap (λ x. add x (mul a (h.rest w))) (sym (c.mul_assoc a h.factor (dot m row w)));
    spanned = span_mul rows a h.rest (λ w. mul a (h.rest w)) (λ w. refl) h.spanned;
  }

  pub span_neg : (rows : List (List (ℕ × E))) (z t : (ℕ → V) → V) → ((w : ℕ → V) → t w ≡ neg (z w)) → IsSpanned m rows z → IsSpanned m rows t
  span_neg rows z t e h = span_mul rows (neg m.scalars.ops.one) z t (λ w. e w ∙ sym (Sums.neg_mul m.scalars.ops c m.scalars.ops.one (z w) ∙ ap neg (c.mul_comm m.scalars.ops.one (z w) ∙ c.mul_one (z w)))) h

  pub span_combination : (rows : List (List (ℕ × E))) (xs : List V) (z : (ℕ → V) → V) → ((w : ℕ → V) → z w ≡ combination m xs rows w) → IsSpanned m rows z
  span_combination [] [] z e = e
  span_combination [] (x ∷ xs) z e = e
  span_combination (row ∷ rows) [] z e = span_zero (row ∷ rows) z e
  span_combination (row ∷ rows) (x ∷ xs) z e = record { factor = x; rest = combination m xs rows; sum = e; spanned = span_combination rows xs (combination m xs rows) (λ w. refl) }

  -- a given row, and a combination of them, where each is a combination of the rows of the form
  pub span_at : (form given : List (List (ℕ × E))) → EachOf (IsCombination m form) given → (j : ℕ) → IsSpanned m form (dot_at m given j)
  span_at form [] each j = span_zero form (dot_at m [] j) (λ w. refl)
  span_at form (row ∷ given) each zero = span_combination form each.0.coefficients (dot_at m (row ∷ given) 0) (λ w. sym (each.0.sum w))
  span_at form (row ∷ given) each (suc j) = span_at form given each.1 j

  pub span_dot : (form given : List (List (ℕ × E))) → EachOf (IsCombination m form) given → (cs : List (ℕ × E)) → IsSpanned m form (λ w. dot m cs (λ j. dot_at m given j w))
  span_dot form given each [] = span_zero form (λ w. nought) (λ w. refl)
  span_dot form given each (t ∷ cs) =
      span_add form (λ w. mul (m.value t.1) (dot_at m given t.0 w)) (λ w. dot m cs (λ j. dot_at m given j w)) (λ w. dot m (t ∷ cs) (λ j. dot_at m given j w)) (λ w. refl)
      (span_mul form (m.value t.1) (dot_at m given t.0) (λ w. mul (m.value t.1) (dot_at m given t.0 w)) (λ w. refl) (span_at form given each t.0))
      (span_dot form given each cs)

  -- where the rows are 0, so is a combination of them
  span_vanish : (rows : List (List (ℕ × E))) (z : (ℕ → V) → V) (w : ℕ → V) → RowsVanish m rows w → IsSpanned m rows z → z w ≡ nought
  span_vanish [] z w all h = h w
  span_vanish (row ∷ rows) z w all h =
      h.sum w ∙ ap₂ add (ap (mul h.factor) all.0 ∙ Sums.mul_zero m.scalars.ops c h.factor) (span_vanish rows h.rest w all.1 h.spanned) ∙ c.add_zero nought

  -- the pivot of a row is the column in which it begins
  pivot-lead : m.scalars.ops.one ≢ nought → (row : List (ℕ × E)) (p : ℕ) → IsPivot m p row → lead_of row ≡ p
  pivot-lead nontrivial [] p is = absurd (nontrivial (sym is.one))
  pivot-lead nontrivial (t ∷ ts) p is =
      elim (dec_le t.0 p) [
        | yes h ↦
            elim (dec_le p t.0) [
              | yes k ↦ omega arith
              | no k ↦ absurd (is.line.units.0.1 (sym (LineLaws.entry-first m c t ts is.line.rising.0) ∙ is.before t.0 (omega arith)))
            ]
        | no h ↦ absurd (nontrivial (sym is.one ∙ SystemLaws.before_lead m c (t ∷ ts) p is.line.rising (omega arith)))
      ]

  later_vanish : (ps : List (ℕ × List (ℕ × E))) (p : ℕ) → AllAfter p ps → ArePivots m ps → RowsVanish m (map (λ q. q.1) ps) (unit_at m.scalars.ops p)
  later_vanish [] p after all = tt
  later_vanish (q ∷ ps) p after all = (all.0.before p after.0, later_vanish ps p after.1 all.1)

  pivots_zero : m.scalars.ops.one ≢ nought → (ps : List (ℕ × List (ℕ × E))) (z : (ℕ → V) → V) → ArePivots m ps → IsRising ps → IsSpanned m (map (λ q. q.1) ps) z
      → EachOf (λ row. z (unit_at m.scalars.ops (lead_of row)) ≡ nought) (map (λ q. q.1) ps) → (w : ℕ → V) → z w ≡ nought
  pivots_zero nontrivial [] z all rising h each w = h w
  pivots_zero nontrivial (p ∷ ps) z all rising h each w = same w ∙ pivots_zero nontrivial ps h.rest all.1 rising.1 h.spanned (others (map (λ q. q.1) ps) each.1) w
    where
      unit : ℕ → V
      unit = unit_at m.scalars.ops p.0

      factor-zero : h.factor ≡ nought
      factor-zero =
          sym (c.mul_one h.factor) ∙ ap (mul h.factor) (sym all.0.one) ∙ sym (c.add_zero (mul h.factor (dot m p.1 unit)))
          ∙ ap (add (mul h.factor (dot m p.1 unit))) (sym (span_vanish (map (λ q. q.1) ps) h.rest unit (later_vanish ps p.0 rising.0 all.1) h.spanned))
          ∙ sym (h.sum unit) ∙ ap (λ d. z (unit_at m.scalars.ops d)) (sym (pivot-lead nontrivial p.1 p.0 all.0)) ∙ each.0

      same : (w : ℕ → V) → z w ≡ h.rest w
      same w = h.sum w ∙ ap (λ x. add (mul x (dot m p.1 w)) (h.rest w)) factor-zero ∙ ap (λ x. add x (h.rest w)) (Sums.zero_mul m.scalars.ops c (dot m p.1 w)) ∙ Sums.zero_add m.scalars.ops c (h.rest w)

      others : (rows : List (List (ℕ × E))) → EachOf (λ row. z (unit_at m.scalars.ops (lead_of row)) ≡ nought) rows → EachOf (λ row. h.rest (unit_at m.scalars.ops (lead_of row)) ≡ nought) rows
      others [] e = tt
      others (row ∷ rows) e = (sym (same (unit_at m.scalars.ops (lead_of row))) ∙ e.0, others rows e.1)

  -- a combination of the rows of a reduced form that is 0 where each of them begins is 0
  pub form_zero : m.scalars.ops.one ≢ nought → (given form : List (List (ℕ × E))) → IsReducedForm m given form → (z : (ℕ → V) → V) → IsSpanned m form z
      → EachOf (λ row. z (unit_at m.scalars.ops (lead_of row)) ≡ nought) form → (w : ℕ → V) → z w ≡ nought
  form_zero nontrivial given form is z h each =
      let ps = is.form.pivots in
      let e = is.form.rows_are in
      pivots_zero nontrivial ps z is.form.echelon.pivots is.form.echelon.rising (subst (λ rows. IsSpanned m rows z) (sym e) h) (subst (λ rows. EachOf (λ row. z (unit_at m.scalars.ops (lead_of row)) ≡ nought) rows) (sym e) each)
