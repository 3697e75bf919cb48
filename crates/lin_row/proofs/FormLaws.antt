-- The reduced form: which rows it spans, and the kernel.
use Rattle.std.proofs.Common.{◌≡◌, ℕ, suc, ◌+◌, ◌-◌, ◌<◌, ◌≤◌, Bool, true, false, cond, nat_lt, List, [], ◌∷◌, ◌++◌, map, append_assoc, refl, sym, ap, ap₂, ◌∙◌, arith, subst}
use Rattle.std.proofs.Math.Decide.{dec_le}
use Rattle.ring_theory.specs.Ring.{IsCommRing}
use Rattle.ring_theory.specs.Scalars.{Meaning}
use Rattle.ring_theory.proofs.RingSolver
use Rattle.lin_row.specs.Lines.{AllAfter, AllBelow, AllUnits, IsRising, IsLine, EachOf, given_part, dot, unit_at, entry}
use Rattle.lin_row.specs.System.{IsPivot, ArePivots, AreEchelon, AreReduced, IsCleared, AllVanish, RowsVanish, IsSystem, ZeroAtPivots, against, dot_at, combination}
use Rattle.lin_row.specs.Forms.{IsCombination, IsReducedForm}
use Rattle.lin_row.proofs.RingFacts
use Rattle.lin_row.proofs.LineLaws
use Rattle.lin_row.proofs.SystemLaws
use Rattle.lin_row.proofs.BuildLaws
use Rattle.lin_row.proofs.ExcludedLaws

module _ {E V : Type 0} (m : Meaning E V) (laws : IsCommRing m.scalars.ops) where
  open m.scalars.ops use {add, mul, neg}

  -- ---- clearing upwards
  vanish_unit : (ps : List (ℕ × List (ℕ × E))) (c d : ℕ) → d ≤ c → AllAfter c ps → ArePivots m ps → AllVanish m ps (unit_at m.scalars.ops d)
  vanish_unit [] c d le after all = tt
  vanish_unit (p ∷ ps) c d le after all = (all.0.before d (let h : c < p.0 = after.0 in omega arith), vanish_unit ps c d le after.1 all.1)

  -- a pivot's row less multiples of the later ones is a pivot's row
  pub up_pivot : (ps : List (ℕ × List (ℕ × E))) (c : ℕ) (row left : List (ℕ × E)) → ArePivots m ps → AllAfter c ps → IsPivot m c row → IsLine m left → ((w : ℕ → V) → AllVanish m ps w → dot m left w ≡ dot m row w) → IsPivot m c left
  up_pivot ps c row left all after is line same = record {
    line = line;
    one = same (unit_at m.scalars.ops c) (vanish_unit ps c c (omega arith) after all) ∙ is.one;
    before = λ d less. same (unit_at m.scalars.ops d) (vanish_unit ps c d (omega arith) after all) ∙ is.before d less;
  }

  -- ---- the part of a row before the unit columns
  -- w on the columns below u, and 0 from there on
  abbrev pub within : ℕ → (ℕ → V) → ℕ → V
  within u w d = cond (nat_lt d u) (w d) m.scalars.ops.zero

  pub within_low : (u : ℕ) (w : ℕ → V) (d : ℕ) → d < u → within u w d ≡ w d
  within_low u w d h = ap (λ b. cond b (w d) m.scalars.ops.zero) (BuildLaws.is_below d u h)

  pub within_high : (u : ℕ) (w : ℕ → V) (d : ℕ) → u ≤ d → within u w d ≡ m.scalars.ops.zero
  within_high u w d h = ap (λ b. cond b (w d) m.scalars.ops.zero) (BuildLaws.not_below d u h)

  pub given-dot : (xs : List (ℕ × E)) (u : ℕ) (w : ℕ → V) → IsRising xs → dot m (given_part u xs) w ≡ dot m xs (within u w)
  given-dot [] u w rising = refl
  given-dot (t ∷ ts) u w rising = step (given-dot ts u w rising.1) (nat_lt t.0 u) refl
    where
      step : dot m (given_part u ts) w ≡ dot m ts (within u w) → (b : Bool) → nat_lt t.0 u ≡ b → dot m (cond b (t ∷ given_part u ts) []) w ≡ add (mul (m.value t.1) (within u w t.0)) (dot m ts (within u w))
      step before true e = ap₂ add (ap (λ c. mul (m.value t.1) (cond c (w t.0) m.scalars.ops.zero)) (sym e)) before
      step before false e = sym (BuildLaws.dot-from m laws (t ∷ ts) u (within u w) (λ d h. within_high u w d h) (BuildLaws.from_first (t ∷ ts) u t (omega arith) refl (BuildLaws.from_test t.0 u e) rising))

  given-after : (xs : List (ℕ × E)) (u a : ℕ) → AllAfter a xs → AllAfter a (given_part u xs)
  given-after [] u a all = tt
  given-after (t ∷ ts) u a all = step (given-after ts u a all.1) (nat_lt t.0 u)
    where
      step : AllAfter a (given_part u ts) → (b : Bool) → AllAfter a (cond b (t ∷ given_part u ts) [])
      step before true = (all.0, before)
      step before false = tt

  given-rising : (ys : List (ℕ × E)) (u : ℕ) → IsRising ys → IsRising (given_part u ys)
  given-rising [] u h = tt
  given-rising (t ∷ ts) u h = step (given-after ts u t.0 h.0, given-rising ts u h.1) (nat_lt t.0 u)
    where
      step : AllAfter t.0 (given_part u ts) × IsRising (given_part u ts) → (b : Bool) → IsRising (cond b (t ∷ given_part u ts) [])
      step before true = before
      step before false = tt

  given-units : (ys : List (ℕ × E)) (u : ℕ) → AllUnits m ys → AllUnits m (given_part u ys)
  given-units [] u h = tt
  given-units (t ∷ ts) u h = step (given-units ts u h.1) (nat_lt t.0 u)
    where
      step : AllUnits m (given_part u ts) → (b : Bool) → AllUnits m (cond b (t ∷ given_part u ts) [])
      step before true = (h.0, before)
      step before false = tt

  pub given-line : (xs : List (ℕ × E)) (u : ℕ) → IsLine m xs → IsLine m (given_part u xs)
  given-line xs u line = record { rising = given-rising xs u line.rising; units = given-units xs u line.units }

  pub given-entry : (xs : List (ℕ × E)) (u d : ℕ) → IsRising xs → d < u → entry m (given_part u xs) d ≡ entry m xs d
  given-entry xs u d rising low = given-dot xs u (unit_at m.scalars.ops d) rising ∙ ExcludedLaws.dot-same m laws xs (within u (unit_at m.scalars.ops d)) (unit_at m.scalars.ops d) same
    where
      same : (e : ℕ) → within u (unit_at m.scalars.ops d) e ≡ unit_at m.scalars.ops d e
      same e = elim (dec_le u e) [
        | yes h ↦ within_high u (unit_at m.scalars.ops d) e h ∙ sym (LineLaws.unit_other m laws d e (λ k. omega arith))
        | no h ↦ within_low u (unit_at m.scalars.ops d) e (omega arith)
      ]

  -- a row below u is its own part
  pub given-own : (xs : List (ℕ × E)) (u : ℕ) → AllBelow u xs → given_part u xs ≡ xs
  given-own [] u below = refl
  given-own (t ∷ ts) u below = ap (λ b. cond b (t ∷ given_part u ts) []) (BuildLaws.is_below t.0 u below.0) ∙ ap (λ ys. t ∷ ys) (given-own ts u below.1)

  -- ---- the pivots without unit columns
  abbrev pub given_pivots : ℕ → List (ℕ × List (ℕ × E)) → List (ℕ × List (ℕ × E))
  given_pivots u [] = []
  given_pivots u (p ∷ ps) = (p.0, given_part u p.1) ∷ given_pivots u ps

  pub given_pivots-rows : (u : ℕ) (ps : List (ℕ × List (ℕ × E))) → map (λ p. p.1) (given_pivots u ps) ≡ map (λ p. given_part u p.1) ps
  given_pivots-rows u [] = refl
  given_pivots-rows u (p ∷ ps) = ap (λ ys. given_part u p.1 ∷ ys) (given_pivots-rows u ps)

  module _ (u : ℕ) where
    given_are : (ps : List (ℕ × List (ℕ × E))) → AllBelow u ps → ArePivots m ps → ArePivots m (given_pivots u ps)
    given_are [] below all = tt
    given_are (p ∷ ps) below all = (
      record {
        line = given-line p.1 u all.0.line;
        one = given-entry p.1 u p.0 all.0.line.rising below.0 ∙ all.0.one;
        before = λ d less. given-entry p.1 u d all.0.line.rising (let h : p.0 < u = below.0 in omega arith) ∙ all.0.before d less;
      },
      given_are ps below.1 all.1,
    )

    given_rising : (ps : List (ℕ × List (ℕ × E))) → IsRising ps → IsRising (given_pivots u ps)
    given_rising [] h = tt
    given_rising (p ∷ ps) h = (after ps h.0, given_rising ps h.1)
      where
        after : (qs : List (ℕ × List (ℕ × E))) → AllAfter p.0 qs → AllAfter p.0 (given_pivots u qs)
        after [] k = tt
        after (q ∷ qs) k = (k.0, after qs k.1)

    given_reduced : (ps : List (ℕ × List (ℕ × E))) → AllBelow u ps → ArePivots m ps → AreReduced m ps → AreReduced m (given_pivots u ps)
    given_reduced [] below all h = tt
    given_reduced (p ∷ ps) below all h = (cleared ps below.1 h.0, given_reduced ps below.1 all.1 h.1)
      where
        cleared : (qs : List (ℕ × List (ℕ × E))) → AllBelow u qs → IsCleared m qs p.1 → IsCleared m (given_pivots u qs) (given_part u p.1)
        cleared [] low k = tt
        cleared (q ∷ qs) low k = (given-entry p.1 u q.0 all.0.line.rising low.0 ∙ k.0, cleared qs low.1 k.1)

  -- ---- each row of the form is a combination of the given rows
  pub dot_add : (xs : List (ℕ × E)) (v w : ℕ → V) → dot m xs (λ d. add (v d) (w d)) ≡ add (dot m xs v) (dot m xs w)
  dot_add [] v w = sym (laws.add_zero m.scalars.ops.zero)
  dot_add (x ∷ xs) v w =
      ap₂ add (RingSolver.distrib_left m.scalars.ops laws (m.value x.1) (v x.0) (w x.0)) (dot_add xs v w)
      ∙ RingSolver.add_swap m.scalars.ops laws (mul (m.value x.1) (v x.0)) (mul (m.value x.1) (w x.0)) (dot m xs v) (dot m xs w)

  pub dot_neg : (xs : List (ℕ × E)) (w : ℕ → V) → dot m xs (λ d. neg (w d)) ≡ neg (dot m xs w)
  dot_neg [] w = sym (RingSolver.neg_zero m.scalars.ops laws)
  dot_neg (x ∷ xs) w = ap₂ add (RingFacts.mul_neg m.scalars.ops laws (m.value x.1) (w x.0)) (dot_neg xs w) ∙ sym (RingSolver.neg_add m.scalars.ops laws (mul (m.value x.1) (w x.0)) (dot m xs w))

  abbrev unit_coefficients : List (ℕ × E) → ℕ → List (List (ℕ × E)) → List V
  unit_coefficients row u [] = []
  unit_coefficients row u (r ∷ rows) = entry m row u ∷ unit_coefficients row (suc u) rows

  combination-entries : (row : List (ℕ × E)) (u : ℕ) (rows : List (List (ℕ × E))) (w : ℕ → V) → combination m (unit_coefficients row u rows) rows w ≡ neg (dot m row (ExcludedLaws.unit_values m laws u rows w))
  combination-entries row u [] w = sym (ap neg (ExcludedLaws.dot-zero m laws row) ∙ RingSolver.neg_zero m.scalars.ops laws)
  combination-entries row u (r ∷ rows) w =
      let e = entry m row u in
      let x = dot m r w in
      ap₂ add (sym (RingSolver.neg_neg m.scalars.ops laws (mul e x)) ∙ ap neg (sym (RingFacts.mul_neg m.scalars.ops laws e x))) (combination-entries row (suc u) rows w)
      ∙ sym (RingSolver.neg_add m.scalars.ops laws (mul e (neg x)) (dot m row (ExcludedLaws.unit_values m laws (suc u) rows w)))
      ∙ ap neg (sym (ExcludedLaws.dot-plus m laws row u (neg x) (ExcludedLaws.unit_values m laws (suc u) rows w)))

  against-split : (u : ℕ) (rows : List (List (ℕ × E))) (w : ℕ → V) (d : ℕ) → against m u rows w d ≡ add (within u w d) (ExcludedLaws.unit_values m laws u rows w d)
  against-split u rows w d = elim (dec_le u d) [
    | yes h ↦
        let whole : d ≡ u + (d - u) = omega arith in
        ap (λ b. cond b (w d) (neg (dot_at m rows (d - u) w))) (BuildLaws.not_below d u h)
        ∙ sym (ap₂ add (within_high u w d h) (ap (ExcludedLaws.unit_values m laws u rows w) whole ∙ ExcludedLaws.unit_value m laws u (d - u) rows w) ∙ RingSolver.zero_add m.scalars.ops laws (neg (dot_at m rows (d - u) w)))
    | no h ↦
        let low : d < u = omega arith in
        ap (λ b. cond b (w d) (neg (dot_at m rows (d - u) w))) (BuildLaws.is_below d u low)
        ∙ sym (ap₂ add (within_low u w d low) (ExcludedLaws.early_zero m laws u rows w d low) ∙ laws.add_zero (w d))
  ]

  pub spanned : (u : ℕ) (given : List (List (ℕ × E))) (row : List (ℕ × E)) → IsRising row → ((w : ℕ → V) → dot m row (against m u given w) ≡ m.scalars.ops.zero) → IsCombination m given (given_part u row)
  spanned u given row rising evidence = record {
    coefficients = unit_coefficients row u given;
    sum = λ w.
        let units = ExcludedLaws.unit_values m laws u given w in
        let both : add (dot m row (within u w)) (dot m row units) ≡ m.scalars.ops.zero = sym (dot_add row (within u w) units) ∙ ExcludedLaws.dot-same m laws row (λ d. add (within u w d) (units d)) (against m u given w) (λ d. sym (against-split u given w d)) ∙ evidence w in
        combination-entries row u given w
        ∙ sym (RingSolver.neg_unique m.scalars.ops laws (dot m row units) (dot m row (within u w)) (laws.add_comm (dot m row units) (dot m row (within u w)) ∙ both))
        ∙ sym (given-dot row u w rising);
  }

  -- ---- each given row is a combination of the rows of the form
  abbrev pivot_coefficients : List (ℕ × E) → List (ℕ × List (ℕ × E)) → List V
  pivot_coefficients xs [] = []
  pivot_coefficients xs (p ∷ ps) = entry m xs p.0 ∷ pivot_coefficients xs ps

  -- the value of each pivot's row, at the pivot
  abbrev correction : ℕ → List (ℕ × List (ℕ × E)) → (ℕ → V) → ℕ → V
  correction u [] w d = m.scalars.ops.zero
  correction u (p ∷ ps) w d = add (mul (unit_at m.scalars.ops p.0 d) (dot m (given_part u p.1) w)) (correction u ps w d)

  dot-correction : (xs : List (ℕ × E)) (u : ℕ) (ps : List (ℕ × List (ℕ × E))) (w : ℕ → V) → dot m xs (correction u ps w) ≡ combination m (pivot_coefficients xs ps) (map (λ p. given_part u p.1) ps) w
  dot-correction xs u [] w = ExcludedLaws.dot-zero m laws xs
  dot-correction xs u (p ∷ ps) w = ExcludedLaws.dot-plus m laws xs p.0 (dot m (given_part u p.1) w) (correction u ps w) ∙ ap (add (mul (entry m xs p.0) (dot m (given_part u p.1) w))) (dot-correction xs u ps w)

  correction_high : (u : ℕ) (ps : List (ℕ × List (ℕ × E))) (w : ℕ → V) (d : ℕ) → u ≤ d → AllBelow u ps → correction u ps w d ≡ m.scalars.ops.zero
  correction_high u [] w d h below = refl
  correction_high u (p ∷ ps) w d h below =
      ap₂ add (ap (λ z. mul z (dot m (given_part u p.1) w)) (LineLaws.unit_other m laws p.0 d (λ e. let k : p.0 < u = below.0 in omega arith)) ∙ RingSolver.zero_mul m.scalars.ops laws (dot m (given_part u p.1) w)) (correction_high u ps w d h below.1)
      ∙ laws.add_zero m.scalars.ops.zero

  combination-zero : (xs : List (ℕ × E)) (u : ℕ) (ps : List (ℕ × List (ℕ × E))) (w : ℕ → V) → ZeroAtPivots m.scalars ps (entry m xs) → combination m (pivot_coefficients xs ps) (map (λ p. given_part u p.1) ps) w ≡ m.scalars.ops.zero
  combination-zero xs u [] w zeros = refl
  combination-zero xs u (p ∷ ps) w zeros = ap₂ add (ap (λ z. mul z (dot m (given_part u p.1) w)) zeros.0 ∙ RingSolver.zero_mul m.scalars.ops laws (dot m (given_part u p.1) w)) (combination-zero xs u ps w zeros.1) ∙ laws.add_zero m.scalars.ops.zero

  -- at a row of the form itself
  combination-own : (u : ℕ) (ps qs : List (ℕ × List (ℕ × E))) (p : ℕ × List (ℕ × E)) (w : ℕ → V) → ZeroAtPivots m.scalars ps (entry m p.1) → ZeroAtPivots m.scalars qs (entry m p.1) → entry m p.1 p.0 ≡ m.scalars.ops.one
      → combination m (pivot_coefficients p.1 (ps ++ (p ∷ qs))) (map (λ r. given_part u r.1) (ps ++ (p ∷ qs))) w ≡ dot m (given_part u p.1) w
  combination-own u [] qs p w before after one =
      ap₂ add (ap (λ z. mul z (dot m (given_part u p.1) w)) one ∙ RingSolver.one_mul m.scalars.ops laws (dot m (given_part u p.1) w)) (combination-zero p.1 u qs w after) ∙ laws.add_zero (dot m (given_part u p.1) w)
  combination-own u (q ∷ ps) qs p w before after one =
      ap₂ add (ap (λ z. mul z (dot m (given_part u q.1) w)) before.0 ∙ RingSolver.zero_mul m.scalars.ops laws (dot m (given_part u q.1) w)) (combination-own u ps qs p w before.1 after one) ∙ RingSolver.zero_add m.scalars.ops laws (dot m (given_part u p.1) w)

  module _ (u : ℕ) (given : List (List (ℕ × E))) (ps : List (ℕ × List (ℕ × E))) (system : IsSystem m u given given ps) (reduced : AreReduced m ps) where
    corrected : (ℕ → V) → ℕ → V
    corrected w d = add (within u w d) (neg (correction u ps w d))

    dot-corrected : (xs : List (ℕ × E)) (w : ℕ → V) → dot m xs (corrected w) ≡ add (dot m xs (within u w)) (neg (combination m (pivot_coefficients xs ps) (map (λ p. given_part u p.1) ps) w))
    unfolding corrected
    dot-corrected xs w = dot_add xs (within u w) (λ d. neg (correction u ps w d)) ∙ ap (add (dot m xs (within u w))) (dot_neg xs (correction u ps w) ∙ ap neg (dot-correction xs u ps w))

    corrected_high : (w : ℕ → V) (d : ℕ) → u ≤ d → corrected w d ≡ m.scalars.ops.zero
    unfolding corrected
    corrected_high w d h = ap₂ add (within_high u w d h) (ap neg (correction_high u ps w d h system.below) ∙ RingSolver.neg_zero m.scalars.ops laws) ∙ laws.add_zero m.scalars.ops.zero

    corrected_vanish : (xs ys : List (ℕ × List (ℕ × E))) → ps ≡ xs ++ ys → (w : ℕ → V) → AllVanish m ys (corrected w)
    corrected_vanish xs [] split w = tt
    corrected_vanish xs (p ∷ ys) split w =
        let triangular = SystemLaws.triangular m laws (xs ++ (p ∷ ys)) (subst (AreEchelon m) split system.echelon) in
        let pivot = SystemLaws.pivot_in m laws xs ys p triangular in
        let own : combination m (pivot_coefficients p.1 ps) (map (λ r. given_part u r.1) ps) w ≡ dot m (given_part u p.1) w =
        ap (λ qs. combination m (pivot_coefficients p.1 qs) (map (λ r. given_part u r.1) qs) w) split
        ∙ combination-own u xs ys p w (ExcludedLaws.zero_cleared m laws xs p.1 (SystemLaws.later_cleared m laws xs ys p triangular)) (ExcludedLaws.zero_cleared m laws ys p.1 (ExcludedLaws.reduced_at m laws xs ys p (subst (AreReduced m) split reduced))) pivot.one in (
          dot-corrected p.1 w ∙ ap₂ (λ a b. add a (neg b)) (sym (given-dot p.1 u w pivot.line.rising)) own ∙ laws.add_neg (dot m (given_part u p.1) w),
          corrected_vanish (xs ++ (p ∷ [])) ys (split ∙ sym (append_assoc xs (p ∷ []) ys)) w,
        )

    row_combination : (row : List (ℕ × E)) → IsRising row → AllBelow u row → ((w : ℕ → V) → dot m row (corrected w) ≡ m.scalars.ops.zero) → IsCombination m (map (λ p. given_part u p.1) ps) row
    row_combination row rising below none = record {
      coefficients = pivot_coefficients row ps;
      sum = λ w.
          let c = combination m (pivot_coefficients row ps) (map (λ p. given_part u p.1) ps) w in
          sym (RingSolver.eq_of_sub m.scalars.ops laws (dot m row (within u w)) c (sym (dot-corrected row w) ∙ none w)) ∙ sym (given-dot row u w rising) ∙ ap (λ ys. dot m ys w) (given-own row u below);
    }

    rows_combine : (rows : List (List (ℕ × E))) → EachOf (IsLine m) rows → EachOf (AllBelow u) rows → ((w : ℕ → V) → RowsVanish m rows (corrected w)) → EachOf (IsCombination m (map (λ p. given_part u p.1) ps)) rows
    rows_combine [] lines below none = tt
    rows_combine (row ∷ rows) lines below none = (row_combination row lines.0.rising below.0 (λ w. (none w).0), rows_combine rows lines.1 below.1 (λ w. (none w).1))

    all_spanned : (qs : List (ℕ × List (ℕ × E))) → ArePivots m qs → ((w : ℕ → V) → AllVanish m qs (against m u given w)) → EachOf (IsCombination m given) (map (λ p. given_part u p.1) qs)
    all_spanned [] pivots evidence = tt
    all_spanned (q ∷ qs) pivots evidence = (spanned u given q.1 pivots.0.line.rising (λ w. (evidence w).0), all_spanned qs pivots.1 (λ w. (evidence w).1))

    pub reduced_form : EachOf (IsLine m) given → EachOf (AllBelow u) given → IsReducedForm m given (map (λ p. given_part u p.1) ps)
    reduced_form lines below = record {
      form = record {
        pivots = given_pivots u ps;
        rows_are = given_pivots-rows u ps;
        echelon = record { pivots = given_are u ps system.below system.echelon.pivots; rising = given_rising u ps system.echelon.rising };
        reduced = given_reduced u ps system.below system.echelon.pivots reduced;
      };
      spanned = all_spanned ps system.echelon.pivots system.evidence;
      spans = rows_combine given lines below (λ w. system.spans (corrected w) (corrected_high w) (corrected_vanish [] ps refl w));
    }
