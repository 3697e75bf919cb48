-- A basis of the kernel by the vectors of the columns without pivot.
use Rattle.std.proofs.Common.{◌≡◌, ◌≢◌, ℕ, zero, suc, ◌-◌, ◌<◌, ◌≤◌, ◌⊎◌, inl, inr, cond, List, [], ◌∷◌, ◌++◌, map, append_assoc, refl, sym, ap, ap₂, ◌∙◌, arith, subst}
use Rattle.std.proofs.Math.Decide.{dec_le}
use Rattle.ring_theory.specs.Ring.{IsCommRing}
use Rattle.ring_theory.specs.Scalars.{Meaning}
use Rattle.ring_theory.proofs.RingSolver
use Rattle.lin_row.specs.Lines.{AllAfter, AllBelow, AllUnits, IsRising, IsLine, EachOf, given_part, dot, unit_at, entry}
use Rattle.lin_row.specs.System.{AreEchelon, AreReduced, IsAbsent, IsPresent, AllVanish, RowsVanish, IsSystem, ZeroAtPivots, against, dot_at}
use Rattle.lin_row.specs.Forms.{IsKernelBasis, IsKernelVector, IsKernelPart, AreKernelParts, kernel_sum}
use Rattle.lin_row.proofs.RingFacts
use Rattle.lin_row.proofs.LineLaws
use Rattle.lin_row.proofs.SystemLaws
use Rattle.lin_row.proofs.BuildLaws
use Rattle.lin_row.proofs.StageLaws
use Rattle.lin_row.proofs.ExcludedLaws
use Rattle.lin_row.proofs.FormLaws

same_or : (a b : ℕ) → (a ≡ b) ⊎ (a ≢ b)
same_or a b = elim (dec_le a b) [
  | yes h ↦ elim (dec_le b a) [ yes k ↦ inl (omega arith) | no k ↦ inr (λ e. omega arith) ]
  | no h ↦ inr (λ e. omega arith)
]

-- ---- one column more
module _ {E V : Type 0} (m : Meaning E V) (ps bs : List (ℕ × List (ℕ × E))) (n : ℕ) (h : AreKernelParts m ps n bs) where
  absent_left : (xs : List (ℕ × List (ℕ × E))) (b : ℕ × List (ℕ × E)) (d : ℕ) → IsAbsent d (xs ++ (b ∷ [])) → IsAbsent d xs × (b.0 ≢ d)
  absent_left [] b d k = (tt, k.0)
  absent_left (x ∷ xs) b d k = ((k.0, (absent_left xs b d k.1).0), (absent_left xs b d k.1).1)

  pub parts_pivot : (IsAbsent n ps → ⊥) → AreKernelParts m ps (suc n) bs
  parts_pivot pivot = record {
    parts = h.parts;
    rising = h.rising;
    below = SystemLaws.below_bigger bs n (suc n) (omega arith) h.below;
    complete = λ d low free absent. elim (same_or d n) [
      | inl e ↦ pivot (subst (λ k. IsAbsent k ps) e free)
      | inr e ↦ h.complete d (omega arith) free absent
    ];
  }

  pub parts_push : (v : List (ℕ × E)) → IsKernelPart m ps (n, v) → AreKernelParts m ps (suc n) (bs ++ ((n, v) ∷ []))
  parts_push v part = record {
    parts = StageLaws.each_push (IsKernelPart m ps) bs (n, v) h.parts part;
    rising = BuildLaws.rising_push bs n (n, v) (omega arith) h.below h.rising;
    below = BuildLaws.below_push bs (suc n) (n, v) (SystemLaws.below_bigger bs n (suc n) (omega arith) h.below) (omega arith);
    complete = λ d low free absent. elim (same_or d n) [
      | inl e ↦ (absent_left bs (n, v) d absent).1 (sym e)
      | inr e ↦ h.complete d (omega arith) free (absent_left bs (n, v) d absent).0
    ];
  }

module _ {E V : Type 0} (m : Meaning E V) (laws : IsCommRing m.scalars.ops) where
  open m.scalars.ops use {add, mul, neg}

  dot_mul : (xs : List (ℕ × E)) (a : V) (w : ℕ → V) → dot m xs (λ d. mul a (w d)) ≡ mul a (dot m xs w)
  dot_mul [] a w = sym (RingFacts.mul_zero m.scalars.ops laws a)
  dot_mul (x ∷ xs) a w =
      ap₂ add (sym (laws.mul_assoc (m.value x.1) a (w x.0)) ∙ ap (λ z. mul z (w x.0)) (laws.mul_comm (m.value x.1) a) ∙ laws.mul_assoc a (m.value x.1) (w x.0)) (dot_mul xs a w)
      ∙ sym (RingSolver.distrib_left m.scalars.ops laws a (mul (m.value x.1) (w x.0)) (dot m xs w))

  dot_within : (xs : List (ℕ × E)) (n : ℕ) (w : ℕ → V) → AllBelow n xs → dot m xs (FormLaws.within m laws n w) ≡ dot m xs w
  dot_within [] n w below = refl
  dot_within (x ∷ xs) n w below = ap₂ add (ap (mul (m.value x.1)) (FormLaws.within_low m laws n w x.0 below.0)) (dot_within xs n w below.1)

  rows_within : (rows : List (List (ℕ × E))) (n : ℕ) (w : ℕ → V) → EachOf (AllBelow n) rows → RowsVanish m rows w → RowsVanish m rows (FormLaws.within m laws n w)
  rows_within [] n w below all = tt
  rows_within (r ∷ rows) n w below all = (dot_within r n w below.0 ∙ all.0, rows_within rows n w below.1 all.1)

  dot_at_zero : (rows : List (List (ℕ × E))) (j : ℕ) (w : ℕ → V) → RowsVanish m rows w → dot_at m rows j w ≡ m.scalars.ops.zero
  dot_at_zero [] j w all = refl
  dot_at_zero (r ∷ rows) zero w all = all.0
  dot_at_zero (r ∷ rows) (suc j) w all = dot_at_zero rows j w all.1

  vanish_same : (ps : List (ℕ × List (ℕ × E))) (v w : ℕ → V) → ((d : ℕ) → v d ≡ w d) → AllVanish m ps v → AllVanish m ps w
  vanish_same [] v w same all = tt
  vanish_same (p ∷ ps) v w same all = (sym (ExcludedLaws.dot-same m laws p.1 v w same) ∙ all.0, vanish_same ps v w same all.1)

  -- a row whose other columns meet zeros of w
  dot-single : (xs : List (ℕ × E)) (c : ℕ) (w : ℕ → V) → EachOf (λ t. t.0 ≢ c → w t.0 ≡ m.scalars.ops.zero) xs → dot m xs w ≡ mul (entry m xs c) (w c)
  dot-single [] c w zeros = sym (RingSolver.zero_mul m.scalars.ops laws (w c))
  dot-single (t ∷ ts) c w zeros = ap₂ add (first (same_or t.0 c)) (dot-single ts c w zeros.1) ∙ sym (laws.distrib (mul (m.value t.1) (unit_at m.scalars.ops c t.0)) (entry m ts c) (w c))
    where
      first : (t.0 ≡ c) ⊎ (t.0 ≢ c) → mul (m.value t.1) (w t.0) ≡ mul (mul (m.value t.1) (unit_at m.scalars.ops c t.0)) (w c)
      first (inl e) =
          ap (λ k. mul (m.value t.1) (w k)) e
          ∙ sym (ap (λ z. mul z (w c)) (ap (λ k. mul (m.value t.1) (unit_at m.scalars.ops c k)) e ∙ ap (mul (m.value t.1)) (LineLaws.unit_self m laws c) ∙ laws.mul_one (m.value t.1)))
      first (inr ne) =
          ap (mul (m.value t.1)) (zeros.0 ne) ∙ RingFacts.mul_zero m.scalars.ops laws (m.value t.1)
          ∙ sym (ap (λ z. mul z (w c)) (ap (mul (m.value t.1)) (LineLaws.unit_other m laws c t.0 (λ e. ne (sym e))) ∙ RingFacts.mul_zero m.scalars.ops laws (m.value t.1)) ∙ RingSolver.zero_mul m.scalars.ops laws (w c))

  -- no entry of a row is 0 in its own column
  own_entries : (xs : List (ℕ × E)) → IsLine m xs → EachOf (λ t. entry m xs t.0 ≢ m.scalars.ops.zero) xs
  own_entries xs line = go xs line.units (λ t present. SystemLaws.entry-present m laws xs t.0 t.1 line.rising present)
    where
      go : (ts : List (ℕ × E)) → AllUnits m ts → ((t : ℕ × E) → IsPresent t.0 t.1 ts → entry m xs t.0 ≡ m.value t.1) → EachOf (λ t. entry m xs t.0 ≢ m.scalars.ops.zero) ts
      go [] units is = tt
      go (t ∷ ts) units is = ((λ e. units.0.1 (sym (is t (inl (refl, refl))) ∙ e)), go ts units.1 (λ u present. is u (inr present)))

  no_pivot : (qs : List (ℕ × List (ℕ × E))) (row : List (ℕ × E)) (e : ℕ) → ZeroAtPivots m.scalars qs (entry m row) → entry m row e ≢ m.scalars.ops.zero → IsAbsent e qs
  no_pivot [] row e zeros some = tt
  no_pivot (q ∷ qs) row e zeros some = ((λ k. some (sym (ap (entry m row) k) ∙ zeros.0)), no_pivot qs row e zeros.1 some)

  absent_join : (xs ys : List (ℕ × List (ℕ × E))) (p : ℕ × List (ℕ × E)) (e : ℕ) → IsAbsent e xs → p.0 ≢ e → IsAbsent e ys → IsAbsent e (xs ++ (p ∷ ys))
  absent_join [] ys p e a b c = (b, c)
  absent_join (x ∷ xs) ys p e a b c = (a.0, absent_join xs ys p e a.1 b c)

  -- ---- the sum over the vectors
  kernel_sum-zero : (bs : List (ℕ × List (ℕ × E))) (w : ℕ → V) (d : ℕ) → EachOf (λ b. entry m b.1 d ≡ m.scalars.ops.zero) bs → kernel_sum m bs w d ≡ m.scalars.ops.zero
  kernel_sum-zero [] w d zeros = refl
  kernel_sum-zero (b ∷ bs) w d zeros = ap₂ add (ap (mul (w b.0)) zeros.0 ∙ RingFacts.mul_zero m.scalars.ops laws (w b.0)) (kernel_sum-zero bs w d zeros.1) ∙ laws.add_zero m.scalars.ops.zero

  dot-kernel_sum : (xs : List (ℕ × E)) (bs : List (ℕ × List (ℕ × E))) (w : ℕ → V) → EachOf (λ b. dot m xs (entry m b.1) ≡ m.scalars.ops.zero) bs → dot m xs (kernel_sum m bs w) ≡ m.scalars.ops.zero
  dot-kernel_sum xs [] w zeros = ExcludedLaws.dot-zero m laws xs
  dot-kernel_sum xs (b ∷ bs) w zeros =
      FormLaws.dot_add m laws xs (λ d. mul (w b.0) (entry m b.1 d)) (kernel_sum m bs w)
      ∙ ap₂ add (dot_mul xs (w b.0) (entry m b.1) ∙ ap (mul (w b.0)) zeros.0 ∙ RingFacts.mul_zero m.scalars.ops laws (w b.0)) (dot-kernel_sum xs bs w zeros.1) ∙ laws.add_zero m.scalars.ops.zero

  sum_vanish : (ps bs : List (ℕ × List (ℕ × E))) (w : ℕ → V) → EachOf (λ b. AllVanish m ps (entry m b.1)) bs → AllVanish m ps (kernel_sum m bs w)
  sum_vanish [] bs w all = tt
  sum_vanish (p ∷ ps) bs w all = (
    dot-kernel_sum p.1 bs w (StageLaws.each_weaker (λ b. AllVanish m (p ∷ ps) (entry m b.1)) (λ b. dot m p.1 (entry m b.1) ≡ m.scalars.ops.zero) bs (λ b h. h.0) all),
    sum_vanish ps bs w (StageLaws.each_weaker (λ b. AllVanish m (p ∷ ps) (entry m b.1)) (λ b. AllVanish m ps (entry m b.1)) bs (λ b h. h.1) all),
  )

  -- at a column of one of the vectors: w there
  sum_other : (bs : List (ℕ × List (ℕ × E))) (w : ℕ → V) (e : ℕ) → EachOf (λ b. entry m b.1 e ≡ unit_at m.scalars.ops e b.0) bs → AllAfter e bs → kernel_sum m bs w e ≡ m.scalars.ops.zero
  sum_other [] w e units after = refl
  sum_other (b ∷ bs) w e units after =
      ap₂ add (ap (mul (w b.0)) (units.0 ∙ LineLaws.unit_other m laws e b.0 (λ k. let h : e < b.0 = after.0 in omega arith)) ∙ RingFacts.mul_zero m.scalars.ops laws (w b.0)) (sum_other bs w e units.1 after.1) ∙ laws.add_zero m.scalars.ops.zero

  sum_own : (bs : List (ℕ × List (ℕ × E))) (w : ℕ → V) (e : ℕ) → IsRising bs → EachOf (λ b. entry m b.1 e ≡ unit_at m.scalars.ops e b.0) bs → (IsAbsent e bs → ⊥) → kernel_sum m bs w e ≡ w e
  sum_own [] w e rising units among = absurd (among tt)
  sum_own (b ∷ bs) w e rising units among = go (λ left. sum_own bs w e rising.1 units.1 left) (same_or b.0 e)
    where
      go : ((IsAbsent e bs → ⊥) → kernel_sum m bs w e ≡ w e) → (b.0 ≡ e) ⊎ (b.0 ≢ e) → kernel_sum m (b ∷ bs) w e ≡ w e
      go later (inl k) =
          ap₂ add (ap (mul (w b.0)) (units.0 ∙ ap (unit_at m.scalars.ops e) k ∙ LineLaws.unit_self m laws e) ∙ laws.mul_one (w b.0) ∙ ap w k) (sum_other bs w e units.1 (subst (λ a. AllAfter a bs) k rising.0)) ∙ laws.add_zero (w e)
      go later (inr ne) =
          ap₂ add (ap (mul (w b.0)) (units.0 ∙ LineLaws.unit_other m laws e b.0 (λ k. ne (sym k))) ∙ RingFacts.mul_zero m.scalars.ops laws (w b.0)) (later (λ absent. among (ne, absent))) ∙ RingSolver.zero_add m.scalars.ops laws (w e)

  -- ---- the basis
  module _ (given : List (List (ℕ × E))) (ps bs : List (ℕ × List (ℕ × E))) (u n : ℕ) (small : n ≤ u) (system : IsSystem m u given given ps) (reduced : AreReduced m ps) (low : EachOf (AllBelow n) given) (h : AreKernelParts m ps n bs) where
    units_at : (e : ℕ) → IsAbsent e ps → (cs : List (ℕ × List (ℕ × E))) → EachOf (IsKernelPart m ps) cs → EachOf (λ b. entry m b.1 e ≡ unit_at m.scalars.ops e b.0) cs
    units_at e free [] parts = tt
    units_at e free (c ∷ cs) parts = (parts.0.same (unit_at m.scalars.ops e) (ExcludedLaws.absent_zero m laws ps e free), units_at e free cs parts.1)

    zeros_at : (e : ℕ) → n ≤ e → (cs : List (ℕ × List (ℕ × E))) → EachOf (IsKernelPart m ps) cs → AllBelow n cs → EachOf (λ b. entry m b.1 e ≡ m.scalars.ops.zero) cs
    zeros_at e high [] parts below = tt
    zeros_at e high (c ∷ cs) parts below = (parts.0.last e (let k : c.0 < n = below.0 in omega arith), zeros_at e high cs parts.1 below.1)

    vanish_all : (cs : List (ℕ × List (ℕ × E))) → EachOf (IsKernelPart m ps) cs → EachOf (λ b. AllVanish m ps (entry m b.1)) cs
    vanish_all [] parts = tt
    vanish_all (c ∷ cs) parts = (parts.0.vanish, vanish_all cs parts.1)

    module _ (w : ℕ → V) (all : RowsVanish m given w) where
      -- w on the columns below n less the sum over the vectors
      rest : ℕ → V
      rest e = add (FormLaws.within m laws n w e) (neg (kernel_sum m bs w e))

      abbrev kept : ℕ → V
      kept = FormLaws.within m laws n w

      kept_same : (d : ℕ) → against m u given kept d ≡ kept d
      kept_same d = elim (dec_le u d) [
        | yes k ↦
            ap (λ b. cond b (kept d) (neg (dot_at m given (d - u) kept))) (BuildLaws.not_below d u k) ∙ ap neg (dot_at_zero given (d - u) kept (rows_within given n w low all)) ∙ RingSolver.neg_zero m.scalars.ops laws
            ∙ sym (FormLaws.within_high m laws n w d (omega arith))
        | no k ↦ ap (λ b. cond b (kept d) (neg (dot_at m given (d - u) kept))) (BuildLaws.is_below d u (omega arith))
      ]

      within_vanish : AllVanish m ps kept
      within_vanish = vanish_same ps (against m u given kept) kept kept_same (system.evidence kept)

      rest_vanish : (qs : List (ℕ × List (ℕ × E))) → AllVanish m qs (FormLaws.within m laws n w) → AllVanish m qs (kernel_sum m bs w) → AllVanish m qs rest
      unfolding rest
      rest_vanish [] a b = tt
      rest_vanish (q ∷ qs) a b = (
        FormLaws.dot_add m laws q.1 (FormLaws.within m laws n w) (λ d. neg (kernel_sum m bs w d)) ∙ ap₂ add a.0 (FormLaws.dot_neg m laws q.1 (kernel_sum m bs w) ∙ ap neg b.0 ∙ RingSolver.neg_zero m.scalars.ops laws) ∙ laws.add_zero m.scalars.ops.zero,
        rest_vanish qs a.1 b.1,
      )

      rest_free : (e : ℕ) → IsAbsent e ps → rest e ≡ m.scalars.ops.zero
      unfolding rest
      rest_free e free = elim (dec_le n e) [
        | yes high ↦
            ap₂ add (FormLaws.within_high m laws n w e high) (ap neg (kernel_sum-zero bs w e (zeros_at e high bs h.parts h.below)) ∙ RingSolver.neg_zero m.scalars.ops laws) ∙ laws.add_zero m.scalars.ops.zero
        | no below ↦
            let less : e < n = omega arith in
            ap₂ (λ a b. add a (neg b)) (FormLaws.within_low m laws n w e less) (sum_own bs w e h.rising (units_at e free bs h.parts) (h.complete e less free)) ∙ laws.add_neg (w e)
      ]

      rest_pivots : (xs ys : List (ℕ × List (ℕ × E))) → ps ≡ xs ++ ys → AllVanish m ys rest → ZeroAtPivots m.scalars ys rest
      rest_pivots xs [] split vanish = tt
      rest_pivots xs (p ∷ ys) split vanish =
          let triangular = SystemLaws.triangular m laws (xs ++ (p ∷ ys)) (subst (AreEchelon m) split system.echelon) in
          let pivot = SystemLaws.pivot_in m laws xs ys p triangular in
          let before = ExcludedLaws.zero_cleared m laws xs p.1 (SystemLaws.later_cleared m laws xs ys p triangular) in
          let after = ExcludedLaws.zero_cleared m laws ys p.1 (ExcludedLaws.reduced_at m laws xs ys p (subst (AreReduced m) split reduced)) in
          let others = StageLaws.each_weaker (λ t. entry m p.1 t.0 ≢ m.scalars.ops.zero) (λ t. t.0 ≢ p.0 → rest t.0 ≡ m.scalars.ops.zero) p.1
          (λ t some differ. rest_free t.0 (subst (IsAbsent t.0) (sym split) (absent_join xs ys p t.0 (no_pivot xs p.1 t.0 before some) (λ e. differ (sym e)) (no_pivot ys p.1 t.0 after some)))) (own_entries p.1 pivot.line) in (
            sym (RingSolver.one_mul m.scalars.ops laws (rest p.0)) ∙ ap (λ z. mul z (rest p.0)) (sym pivot.one) ∙ sym (dot-single p.1 p.0 rest others) ∙ vanish.0,
            rest_pivots (xs ++ (p ∷ [])) ys (split ∙ sym (append_assoc xs (p ∷ []) ys)) vanish.1,
          )

      rest_all : (d : ℕ) (qs : List (ℕ × List (ℕ × E))) → ZeroAtPivots m.scalars qs rest → (IsAbsent d qs → rest d ≡ m.scalars.ops.zero) → rest d ≡ m.scalars.ops.zero
      rest_all d [] zeros free = free tt
      rest_all d (q ∷ qs) zeros free = elim (same_or q.0 d) [ inl e ↦ sym (ap rest e) ∙ zeros.0 | inr ne ↦ rest_all d qs zeros.1 (λ absent. free (ne, absent)) ]

      spans_at : (d : ℕ) → d < n → w d ≡ kernel_sum m bs w d
      unfolding rest
      spans_at d less =
          sym (FormLaws.within_low m laws n w d less)
          ∙ RingSolver.eq_of_sub m.scalars.ops laws (FormLaws.within m laws n w d) (kernel_sum m bs w d)
          (rest_all d ps (rest_pivots [] ps refl (rest_vanish ps within_vanish (sum_vanish ps bs w (vanish_all bs h.parts)))) (rest_free d))

    vector_of : (b : ℕ × List (ℕ × E)) → IsKernelPart m ps b → b.0 < n → IsKernelVector m given bs b.0 b.1
    vector_of b part less = record {
      line = part.line;
      rows = system.spans (entry m b.1) (λ d high. part.last d (omega arith)) part.vanish;
      one = part.same (unit_at m.scalars.ops b.0) (ExcludedLaws.absent_zero m laws ps b.0 part.free) ∙ LineLaws.unit_self m laws b.0;
      last = part.last;
      others = others bs h.parts;
    }
      where
        others : (cs : List (ℕ × List (ℕ × E))) → EachOf (IsKernelPart m ps) cs → EachOf (λ c. c.0 ≢ b.0 → entry m b.1 c.0 ≡ m.scalars.ops.zero) cs
        others [] parts = tt
        others (c ∷ cs) parts = ((λ differ. part.same (unit_at m.scalars.ops c.0) (ExcludedLaws.absent_zero m laws ps c.0 parts.0.free) ∙ LineLaws.unit_other m laws c.0 b.0 differ), others cs parts.1)

    vectors_of : (cs : List (ℕ × List (ℕ × E))) → EachOf (IsKernelPart m ps) cs → AllBelow n cs → EachOf (λ b. IsKernelVector m given bs b.0 b.1) cs
    vectors_of [] parts below = tt
    vectors_of (c ∷ cs) parts below = (vector_of c parts.0 below.0, vectors_of cs parts.1 below.1)

    rows_are : (cs : List (ℕ × List (ℕ × E))) → EachOf (IsKernelPart m ps) cs → AllBelow n cs → map (λ b. b.1) cs ≡ map (λ b. given_part u b.1) cs
    rows_are [] parts below = refl
    rows_are (c ∷ cs) parts below =
        let own = FormLaws.given-own m laws c.1 u (ExcludedLaws.below_high m laws c.1 u parts.0.line (λ d high. parts.0.last d (let k : c.0 < n = below.0 in omega arith))) in
        ap₂ (λ x xs. x ∷ xs) (sym own) (rows_are cs parts.1 below.1)

    pub kernel_basis : IsKernelBasis m given n (map (λ b. given_part u b.1) bs)
    kernel_basis = record {
      basis = bs;
      vectors_are = rows_are bs h.parts h.below;
      rising = h.rising;
      below = h.below;
      each = vectors_of bs h.parts h.below;
      spans = spans_at;
    }
