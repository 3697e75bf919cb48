-- What solves a system, and what excludes it.
use Rattle.std.proofs.Common.{◌≡◌, ◌≢◌, ℕ, zero, suc, ◌+◌, ◌-◌, ◌<◌, ◌≤◌, ◌^◌, ◌⊎◌, inl, inr, cond, List, [], ◌∷◌, ◌++◌, length, take, drop, get_or, map, append_assoc, refl, sym, ap, ap₂, ◌∙◌, arith, subst, Vec, Global, Option, None, Some, IfSome, MatchOption}
use Rattle.std.proofs.lemmas.List.{take_more}
use Rattle.std.proofs.Math.Decide.{dec_le}
use Rattle.std.specs.Prelude.{⊤}
use Rattle.ring_theory.specs.Ring.{IsCommRing}
use Rattle.ring_theory.specs.Scalars.{Meaning}
use Rattle.ring_theory.proofs.RingSolver
use Rattle.lin_row.proofs.RingFacts
use Rattle.lin_row.proofs.LineLaws
use Rattle.lin_row.proofs.SystemLaws
use Rattle.lin_row.proofs.BuildLaws
use Rattle.lin_row.specs.Plain.{Among, DivisionIsHigh}
use Rattle.lin_row.specs.Stages.{functions_of}
use Rattle.lin_row.specs.Lines.{AllAfter, AllUnits, AllFrom, AllBelow, EachOf, IsRising, IsLine, StartsFrom, lead_of, dot, unit_at, entry}
use Rattle.lin_row.specs.System.{IsPivot, ArePivots, AreEchelon, AllZeroAt, AreTriangular, AreReduced, IsCleared, AllVanish, dot_at, against, combination, AreNegated, Settles, ZeroAtPivots, IsAbsent, IsPresent, lines_of, Excludes, front_value}

module _ {E V : Type 0} (m : Meaning E V) (laws : IsCommRing m.scalars.ops) where
  open m.scalars.ops use {add, mul, neg}

  -- a row is linear in the values
  pub dot-plus : (xs : List (ℕ × E)) (c : ℕ) (a : V) (h : ℕ → V) → dot m xs (λ d. add (mul (unit_at m.scalars.ops c d) a) (h d)) ≡ add (mul (entry m xs c) a) (dot m xs h)
  dot-plus [] c a h = sym (laws.add_zero (mul m.scalars.ops.zero a) ∙ RingSolver.zero_mul m.scalars.ops laws a)
  dot-plus (x ∷ xs) c a h =
      let v = m.value x.1 in
      let e = unit_at m.scalars.ops c x.0 in
      ap₂ add (RingSolver.distrib_left m.scalars.ops laws v (mul e a) (h x.0) ∙ ap (λ z. add z (mul v (h x.0))) (sym (laws.mul_assoc v e a))) (dot-plus xs c a h)
      ∙ RingSolver.add_swap m.scalars.ops laws (mul (mul v e) a) (mul v (h x.0)) (mul (entry m xs c) a) (dot m xs h)
      ∙ ap (λ z. add z (add (mul v (h x.0)) (dot m xs h))) (sym (laws.distrib (mul v e) (entry m xs c) a))

  pub dot-zero : (xs : List (ℕ × E)) → dot m xs (λ d. m.scalars.ops.zero) ≡ m.scalars.ops.zero
  dot-zero [] = refl
  dot-zero (x ∷ xs) = ap₂ add (RingFacts.mul_zero m.scalars.ops laws (m.value x.1)) (dot-zero xs) ∙ laws.add_zero m.scalars.ops.zero

  pub dot-same : (xs : List (ℕ × E)) (v w : ℕ → V) → ((d : ℕ) → v d ≡ w d) → dot m xs v ≡ dot m xs w
  dot-same [] v w same = refl
  dot-same (x ∷ xs) v w same = ap₂ add (ap (mul (m.value x.1)) (same x.0)) (dot-same xs v w same)

  unit-swap : (c d : ℕ) → unit_at m.scalars.ops c d ≡ unit_at m.scalars.ops d c
  unit-swap c d = ap (λ b. cond b m.scalars.ops.one m.scalars.ops.zero) (RingFacts.eqb_swap c d)

  -- the rows' entries and values may change places
  pub dot-swap : (xs ys : List (ℕ × E)) → dot m xs (entry m ys) ≡ dot m ys (entry m xs)
  dot-swap xs [] = dot-zero xs
  dot-swap xs (y ∷ ys) =
      dot-same xs (entry m (y ∷ ys)) (λ d. add (mul (unit_at m.scalars.ops y.0 d) (m.value y.1)) (entry m ys d)) (λ d. ap (λ z. add z (entry m ys d)) (laws.mul_comm (m.value y.1) (unit_at m.scalars.ops d y.0) ∙ ap (λ z. mul z (m.value y.1)) (unit-swap d y.0)))
      ∙ dot-plus xs y.0 (m.value y.1) (entry m ys) ∙ ap₂ add (laws.mul_comm (entry m xs y.0) (m.value y.1)) (dot-swap xs ys)

  -- the new value at the pivot's column makes its row vanish
  pub settled : (c : ℕ) (row old new unit : List (ℕ × E)) (one : E) (f y : V) → unit ≡ (c, one) ∷ [] → m.value one ≡ m.scalars.ops.one → entry m row c ≡ m.scalars.ops.one → y ≡ dot m row (entry m old) → f ≡ neg y
      → ((w : ℕ → V) → dot m new w ≡ add (dot m old w) (mul f (dot m unit w))) → Settles m c row old new
  settled c row old new unit one f y is_unit is_one pivot at_old is_neg value =
      let changed = λ (w : ℕ → V). value w ∙ ap (λ z. add (dot m old w) (mul f z)) (ap (λ ys. dot m ys w) is_unit ∙ laws.add_zero (mul (m.value one) (w c)) ∙ ap (λ z. mul z (w c)) is_one ∙ laws.mul_comm m.scalars.ops.one (w c) ∙ laws.mul_one (w c)) in
      record {
        change = f;
        value = changed;
        vanish = dot-swap row new ∙ changed (entry m row) ∙ ap₂ add (dot-swap old row ∙ sym at_old) (ap₂ mul is_neg pivot ∙ laws.mul_one (neg y)) ∙ laws.add_neg y;
      }

  -- the other rows, with entry 0 there, stay as they were
  pub still_vanish : (ps : List (ℕ × List (ℕ × E))) (c : ℕ) (row old new : List (ℕ × E)) → Settles m c row old new → AllZeroAt m c ps → AllVanish m ps (entry m old) → AllVanish m ps (entry m new)
  still_vanish [] c row old new h zeros all = tt
  still_vanish (p ∷ ps) c row old new h zeros all = (
    dot-swap p.1 new ∙ h.value (entry m p.1) ∙ ap₂ add (dot-swap old p.1 ∙ all.0) (ap (mul h.change) zeros.0 ∙ RingFacts.mul_zero m.scalars.ops laws h.change) ∙ laws.add_zero m.scalars.ops.zero,
    still_vanish ps c row old new h zeros.1 all.1,
  )

  pub same_settled : (c : ℕ) (row old new : List (ℕ × E)) (w : ℕ → V) → Settles m c row old new → w c ≡ m.scalars.ops.zero → dot m new w ≡ dot m old w
  same_settled c row old new w h none = h.value w ∙ ap (λ z. add (dot m old w) (mul h.change z)) none ∙ ap (add (dot m old w)) (RingFacts.mul_zero m.scalars.ops laws h.change) ∙ laws.add_zero (dot m old w)

  -- the values of unit columns: the negative of row j at u + j
  abbrev pub unit_values : ℕ → List (List (ℕ × E)) → (ℕ → V) → ℕ → V
  unit_values u [] w d = m.scalars.ops.zero
  unit_values u (row ∷ rows) w d = add (mul (unit_at m.scalars.ops u d) (neg (dot m row w))) (unit_values (suc u) rows w d)

  pub combination-units : (left : List (ℕ × E)) (u : ℕ) (rows : List (List (ℕ × E))) (xs : List E) (w : ℕ → V) → length xs ≡ length rows → AreNegated m left u xs → combination m (map m.value xs) rows w ≡ dot m left (unit_values u rows w)
  combination-units left u [] [] w same all = sym (dot-zero left)
  combination-units left u (row ∷ rows) [] w same all = absurd (omega (arith, same))
  combination-units left u [] (x ∷ xs) w same all = absurd (omega (arith, same))
  combination-units left u (row ∷ rows) (x ∷ xs) w same all =
      ap₂ add (ap (λ z. mul z (dot m row w)) all.0 ∙ RingSolver.neg_mul m.scalars.ops laws (entry m left u) (dot m row w) ∙ sym (RingFacts.mul_neg m.scalars.ops laws (entry m left u) (dot m row w)))
      (combination-units left (suc u) rows xs w (omega (arith, same)) all.1)
      ∙ sym (dot-plus left u (neg (dot m row w)) (unit_values (suc u) rows w))

  -- the value of an entry that may be there
  pub some_elem : (ys : List (ℕ × E)) (c : ℕ) (y : Option E) → AllUnits m ys → MatchOption y (IsAbsent c ys) (λ x. IsPresent c x ys) → IfSome y m.is_elem
  some_elem ys c None all h = tt
  some_elem ys c (Some x) all h = SystemLaws.elem_present m laws ys c x all h

  pub some_value : (ys : List (ℕ × E)) (c : ℕ) (y : Option E) (s v x : V) → IsRising ys → MatchOption y (IsAbsent c ys) (λ z. IsPresent c z ys) → MatchOption y (s ≡ v) (λ z. s ≡ add v (mul x (m.value z))) → s ≡ add v (mul x (entry m ys c))
  some_value ys c None s v x rising h e = e ∙ sym (ap (λ z. add v (mul x z)) (SystemLaws.entry-absent m laws ys c h) ∙ ap (add v) (RingFacts.mul_zero m.scalars.ops laws x) ∙ laws.add_zero v)
  some_value ys c (Some z) s v x rising h e = e ∙ ap (λ u. add v (mul x u)) (sym (SystemLaws.entry-present m laws ys c z rising h))

  pub summed : (row : List (ℕ × E)) (i : ℕ) (t : ℕ × E) (w : ℕ → V) (v s : V) → i < length row → t ≡ get_or row i t → v ≡ dot m (take i row) w → s ≡ add v (mul (m.value t.1) (w t.0)) → s ≡ dot m (take (i + 1) row) w
  summed row i t w v s within read before next =
      next ∙ ap (λ z. add z (mul (m.value t.1) (w t.0))) before ∙ sym (LineLaws.dot-push m laws (take i row) t w)
      ∙ ap (λ ys. dot m ys w) (ap (λ u. take i row ++ (u ∷ [])) read ∙ sym (take_more row i t within))

  -- rows after a pivot have entry 0 there
  pub zero_after : (ps qs : List (ℕ × List (ℕ × E))) (p : ℕ × List (ℕ × E)) → AreTriangular m (ps ++ (p ∷ qs)) → AllZeroAt m p.0 qs
  zero_after [] qs p h = h.1.0
  zero_after (q ∷ ps) qs p h = zero_after ps qs p h.1.1

  pub zero_in_place : {X : Type 0} (ps qs : List (ℕ × X)) (p : ℕ × X) (w : ℕ → V) → ZeroAtPivots m.scalars (ps ++ (p ∷ qs)) w → w p.0 ≡ m.scalars.ops.zero
  zero_in_place [] qs p w h = h.0
  zero_in_place (q ∷ ps) qs p w h = zero_in_place ps qs p w h.1

  -- the loop over the pivots, from the last to the first
  module _ (ps : List (ℕ × Vec (ℕ × E) Global)) (i : ℕ) (p : ℕ × Vec (ℕ × E) Global) (within : i < length ps) (read : p ≡ get_or ps i p) where
    pub settled_vanish : (j : ℕ) (old new : List (ℕ × E)) → j ≡ suc i → AreTriangular m (lines_of ps) → Settles m p.0 p.1.items old new → AllVanish m (lines_of (drop j ps)) (entry m old) → AllVanish m (lines_of (drop i ps)) (entry m new)
    settled_vanish j old new next all h before =
        let around = subst (λ ys. AreTriangular m ys) (SystemLaws.lines-around ps i p within read) all in
        let one_more : suc i ≡ i + 1 = omega arith in
        let back : j ≡ i + 1 = omega arith in
        subst (λ ys. AllVanish m (lines_of ys) (entry m new)) (sym (LineLaws.next_at ps i p within read)) (
          h.vanish,
          still_vanish (lines_of (drop (i + 1) ps)) p.0 p.1.items old new h
              (subst (λ k. AllZeroAt m p.0 (lines_of (drop k ps))) one_more (zero_after (lines_of (take i ps)) _ _ around))
              (subst (λ k. AllVanish m (lines_of (drop k ps)) (entry m old)) back before),
        )

    pub settled_same : (old new : List (ℕ × E)) (w : ℕ → V) (total : V) → Settles m p.0 p.1.items old new → ZeroAtPivots m.scalars (lines_of ps) w → dot m old w ≡ total → dot m new w ≡ total
    settled_same old new w total h zeros before =
        same_settled p.0 p.1.items old new w h (zero_in_place (lines_of (take i ps)) _ _ w (subst (λ ys. ZeroAtPivots m.scalars ys w) (SystemLaws.lines-around ps i p within read) zeros)) ∙ before

  pub negated_push : (left : List (ℕ × E)) (c j : ℕ) (xs : List E) (x : E) → j ≡ length xs → AreNegated m left c xs → m.value x ≡ neg (entry m left (c + j)) → AreNegated m left c (xs ++ (x ∷ []))
  negated_push left c j [] x same all e = let z : c + j ≡ c = omega (arith, same) in (e ∙ ap (λ k. neg (entry m left k)) z, tt)
  negated_push left c j (y ∷ xs) x same all e =
      let z : c + j ≡ suc c + length xs = omega (arith, same) in
      (all.0, negated_push left (suc c) (length xs) xs x refl all.1 (e ∙ ap (λ k. neg (entry m left k)) z))

  -- from u on, the values of unit columns are those that rows are taken against
  pub early_zero : (u : ℕ) (rows : List (List (ℕ × E))) (w : ℕ → V) (d : ℕ) → d < u → unit_values u rows w d ≡ m.scalars.ops.zero
  early_zero u [] w d less = refl
  early_zero u (row ∷ rows) w d less =
      ap₂ add (ap (λ z. mul z (neg (dot m row w))) (LineLaws.unit_other m laws u d (λ e. omega arith)) ∙ RingSolver.zero_mul m.scalars.ops laws (neg (dot m row w))) (early_zero (suc u) rows w d (omega arith)) ∙ laws.add_zero m.scalars.ops.zero

  pub unit_value : (u j : ℕ) (rows : List (List (ℕ × E))) (w : ℕ → V) → unit_values u rows w (u + j) ≡ neg (dot_at m rows j w)
  unit_value u j [] w = sym (RingSolver.neg_zero m.scalars.ops laws)
  unit_value u zero (row ∷ rows) w =
      let here : u + 0 ≡ u = omega arith in
      ap (unit_values u (row ∷ rows) w) here
      ∙ ap₂ add (ap (λ z. mul z (neg (dot m row w))) (LineLaws.unit_self m laws u) ∙ laws.mul_comm m.scalars.ops.one (neg (dot m row w)) ∙ laws.mul_one (neg (dot m row w))) (early_zero (suc u) rows w u (omega arith)) ∙ laws.add_zero (neg (dot m row w))
  unit_value u (suc j) (row ∷ rows) w =
      let next : u + suc j ≡ suc u + j = omega arith in
      ap₂ add (ap (λ z. mul z (neg (dot m row w))) (LineLaws.unit_other m laws u (u + suc j) (λ e. omega arith)) ∙ RingSolver.zero_mul m.scalars.ops laws (neg (dot m row w)))
      (ap (unit_values (suc u) rows w) next ∙ unit_value (suc u) j rows w) ∙ RingSolver.zero_add m.scalars.ops laws (neg (dot_at m rows j w))

  pub units-against : (left : List (ℕ × E)) (u : ℕ) (rows : List (List (ℕ × E))) (w : ℕ → V) → AllFrom u left → dot m left (unit_values u rows w) ≡ dot m left (against m u rows w)
  units-against [] u rows w all = refl
  units-against (x ∷ xs) u rows w all =
      let whole : x.0 ≡ u + (x.0 - u) = (let h : u ≤ x.0 = all.0 in omega arith) in
      ap₂ add (ap (mul (m.value x.1)) (ap (unit_values u rows w) whole ∙ unit_value u (x.0 - u) rows w ∙ sym (BuildLaws.against-unit m laws u (x.0 - u) rows w) ∙ ap (against m u rows w) (sym whole))) (units-against xs u rows w all.1)

  -- what is left of a target has unit columns alone: their negatives are the coefficients
  pub solves : (left target : List (ℕ × E)) (u : ℕ) (rows : List (List (ℕ × E))) (xs : List E) (w : ℕ → V) → length xs ≡ length rows → AreNegated m left u xs → AllFrom u left → AllBelow u target
      → dot m left (against m u rows w) ≡ dot m target (against m u rows w) → combination m (map m.value xs) rows w ≡ dot m target w
  solves left target u rows xs w same all from below e = combination-units left u rows xs w same all ∙ units-against left u rows w from ∙ e ∙ BuildLaws.dot-below m laws target u rows w below

  pub zero_cleared : (ps : List (ℕ × List (ℕ × E))) (row : List (ℕ × E)) → IsCleared m ps row → ZeroAtPivots m.scalars ps (entry m row)
  zero_cleared [] row all = tt
  zero_cleared (p ∷ ps) row all = (all.0, zero_cleared ps row all.1)

  pub zero_beyond : (ps : List (ℕ × List (ℕ × E))) (u d : ℕ) → u ≤ d → AllBelow u ps → ZeroAtPivots m.scalars ps (unit_at m.scalars.ops d)
  zero_beyond [] u d high all = tt
  zero_beyond (p ∷ ps) u d high all = (LineLaws.unit_other m laws d p.0 (λ e. let h : p.0 < u = all.0 in omega arith), zero_beyond ps u d high all.1)

  pub dot-one : (c : ℕ) (x : E) (w : ℕ → V) → dot m ((c, x) ∷ []) w ≡ mul (m.value x) (w c)
  dot-one c x w = laws.add_zero (mul (m.value x) (w c))

  -- values that began as x at a column without pivot exclude what is left of a target, with x its inverse entry there
  pub excludes : (ps : List (ℕ × List (ℕ × E))) (left v : List (ℕ × E)) (c : ℕ) (x : V) → c ≡ lead_of left → IsCleared m ps left → mul (entry m left c) x ≡ m.scalars.ops.one → IsLine m v → AllVanish m ps (entry m v)
      → ((w : ℕ → V) → ZeroAtPivots m.scalars ps w → dot m v w ≡ mul x (w c)) → Excludes m ps left v
  excludes ps left v c x is_lead cleared unit is_line vanish same =
      record {
        line = is_line;
        vanish = vanish;
        one = dot-swap left v ∙ same (entry m left) (zero_cleared ps left cleared) ∙ laws.mul_comm x (entry m left c) ∙ unit;
        beyond = λ a below low d high. same (unit_at m.scalars.ops d) (zero_beyond ps a d high below) ∙ ap (mul x) (LineLaws.unit_other m laws d c (λ e. omega arith)) ∙ RingFacts.mul_zero m.scalars.ops laws x;
      }

  pub inverse_unit : (nontrivial : m.scalars.ops.one ≢ m.scalars.ops.zero) (v f : V) → mul v f ≡ m.scalars.ops.one → f ≢ m.scalars.ops.zero
  inverse_unit nontrivial v f unit e = nontrivial (sym unit ∙ ap (mul v) e ∙ RingFacts.mul_zero m.scalars.ops laws v)

  pub absent_zero : {X : Type 0} (ps : List (ℕ × X)) (d : ℕ) → IsAbsent d ps → ZeroAtPivots m.scalars ps (unit_at m.scalars.ops d)
  absent_zero [] d all = tt
  absent_zero (p ∷ ps) d all = (LineLaws.unit_other m laws d p.0 (λ e. all.0 (sym e)), absent_zero ps d all.1)

  -- ---- values made of the front of reduced rows
  pub front_zero : (ps : List (ℕ × List (ℕ × E))) (c : ℕ) (w : ℕ → V) → ZeroAtPivots m.scalars ps w → front_value m ps c w ≡ m.scalars.ops.zero
  front_zero [] c w zeros = refl
  front_zero (p ∷ ps) c w zeros = ap₂ add (ap (mul (neg (entry m p.1 c))) zeros.0 ∙ RingFacts.mul_zero m.scalars.ops laws (neg (entry m p.1 c))) (front_zero ps c w zeros.1) ∙ laws.add_zero m.scalars.ops.zero

  pub front_value-append : (ps qs : List (ℕ × List (ℕ × E))) (c : ℕ) (w : ℕ → V) → front_value m (ps ++ qs) c w ≡ add (front_value m ps c w) (front_value m qs c w)
  front_value-append [] qs c w = sym (RingSolver.zero_add m.scalars.ops laws (front_value m qs c w))
  front_value-append (p ∷ ps) qs c w = ap (add (mul (neg (entry m p.1 c)) (w p.0))) (front_value-append ps qs c w) ∙ sym (laws.add_assoc _ _ _)

  -- the sum of the front and the value at the column itself
  abbrev pub kernel_form : List (ℕ × List (ℕ × E)) → ℕ → (ℕ → V) → V
  kernel_form ps c w = add (front_value m ps c w) (w c)

  pub form_free : (ps : List (ℕ × List (ℕ × E))) (c : ℕ) (w : ℕ → V) → ZeroAtPivots m.scalars ps w → kernel_form ps c w ≡ w c
  form_free ps c w zeros = ap (λ z. add z (w c)) (front_zero ps c w zeros) ∙ RingSolver.zero_add m.scalars.ops laws (w c)

  -- at a row of its own it is 0
  form_own : (ps qs : List (ℕ × List (ℕ × E))) (p : ℕ × List (ℕ × E)) (c : ℕ) → ZeroAtPivots m.scalars ps (entry m p.1) → ZeroAtPivots m.scalars qs (entry m p.1) → entry m p.1 p.0 ≡ m.scalars.ops.one → kernel_form (ps ++ (p ∷ qs)) c (entry m p.1) ≡ m.scalars.ops.zero
  form_own ps qs p c before after one =
      let x = neg (entry m p.1 c) in
      let own : front_value m (p ∷ qs) c (entry m p.1) ≡ x = ap₂ add (ap (mul x) one ∙ laws.mul_one x) (front_zero qs c (entry m p.1) after) ∙ laws.add_zero x in
      ap (λ z. add z (entry m p.1 c)) (front_value-append ps (p ∷ qs) c (entry m p.1) ∙ ap₂ add (front_zero ps c (entry m p.1) before) own ∙ RingSolver.zero_add m.scalars.ops laws x)
      ∙ laws.add_comm x (entry m p.1 c) ∙ laws.add_neg (entry m p.1 c)

  cleared_left : (xs ys : List (ℕ × List (ℕ × E))) (row : List (ℕ × E)) → IsCleared m (xs ++ ys) row → IsCleared m xs row
  cleared_left [] ys row h = tt
  cleared_left (x ∷ xs) ys row h = (h.0, cleared_left xs ys row h.1)

  reduced_left : (xs ys : List (ℕ × List (ℕ × E))) → AreReduced m (xs ++ ys) → AreReduced m xs
  reduced_left [] ys h = tt
  reduced_left (x ∷ xs) ys h = (cleared_left xs ys x.1 h.0, reduced_left xs ys h.1)

  pub reduced_at : (xs ys : List (ℕ × List (ℕ × E))) (p : ℕ × List (ℕ × E)) → AreReduced m (xs ++ (p ∷ ys)) → IsCleared m ys p.1
  reduced_at [] ys p h = h.0
  reduced_at (x ∷ xs) ys p h = reduced_at xs ys p h.1

  pivots_left : (xs ys : List (ℕ × List (ℕ × E))) → ArePivots m (xs ++ ys) → ArePivots m xs
  pivots_left [] ys h = tt
  pivots_left (x ∷ xs) ys h = (h.0, pivots_left xs ys h.1)

  pivots_right : (xs ys : List (ℕ × List (ℕ × E))) → ArePivots m (xs ++ ys) → ArePivots m ys
  pivots_right [] ys h = h
  pivots_right (x ∷ xs) ys h = pivots_right xs ys h.1

  pub echelon_left : (xs ys : List (ℕ × List (ℕ × E))) → AreEchelon m (xs ++ ys) → AreEchelon m xs
  echelon_left xs ys h = record { pivots = pivots_left xs ys h.pivots; rising = LineLaws.rising_left xs ys h.rising }

  zero_before : (ps : List (ℕ × List (ℕ × E))) (c : ℕ) (row : List (ℕ × E)) (d : ℕ) → IsPivot m d row → c ≤ d → AllBelow c ps → ZeroAtPivots m.scalars ps (entry m row)
  zero_before [] c row d is le below = tt
  zero_before (p ∷ ps) c row d is le below = (is.before p.0 (let h : p.0 < c = below.0 in omega arith), zero_before ps c row d is le below.1)

  -- the columns of pivots before c, those of the pivots after c
  module _ (front after : List (ℕ × List (ℕ × E))) (c : ℕ) (echelon : AreEchelon m (front ++ after)) (reduced : AreReduced m (front ++ after)) (below : AllBelow c front) (next : StartsFrom c after) (free : IsAbsent c (front ++ after)) where
    absent_right : (xs ys : List (ℕ × List (ℕ × E))) → IsAbsent c (xs ++ ys) → IsAbsent c ys
    absent_right [] ys h = h
    absent_right (x ∷ xs) ys h = absent_right xs ys h.1

    after_all : AllAfter c after
    after_all = BuildLaws.after_starts after c (LineLaws.rising_right front after echelon.rising) next (absent_right front after free)

    front_forms : (P : List (ℕ × List (ℕ × E)) → Type 0) → (xs ys : List (ℕ × List (ℕ × E))) → front ≡ xs ++ ys → (v : List (ℕ × E)) (x : V) → ((w : ℕ → V) → dot m v w ≡ mul x (kernel_form front c w)) → AllVanish m ys (entry m v)
    front_forms P xs [] split v x value = tt
    front_forms P xs (p ∷ ys) split v x value =
        let here = subst (λ fs. AreEchelon m fs) split (echelon_left front after echelon) in
        let triangular = SystemLaws.triangular m laws (xs ++ (p ∷ ys)) here in
        let own = form_own xs ys p c (zero_cleared xs p.1 (SystemLaws.later_cleared m laws xs ys p triangular)) (zero_cleared ys p.1 (reduced_at xs ys p (subst (AreReduced m) split (reduced_left front after reduced)))) (SystemLaws.pivot_in m laws xs ys p triangular).one in (
          dot-swap p.1 v ∙ value (entry m p.1) ∙ ap (mul x) (ap (λ fs. kernel_form fs c (entry m p.1)) split ∙ own) ∙ RingFacts.mul_zero m.scalars.ops laws x,
          front_forms P (xs ++ (p ∷ [])) ys (split ∙ sym (append_assoc xs (p ∷ []) ys)) v x value,
        )

    after_forms : (ys : List (ℕ × List (ℕ × E))) (v : List (ℕ × E)) (x : V) → ArePivots m ys → AllAfter c ys → ((w : ℕ → V) → dot m v w ≡ mul x (kernel_form front c w)) → AllVanish m ys (entry m v)
    after_forms [] v x pivots later value = tt
    after_forms (p ∷ ys) v x pivots later value = (
      dot-swap p.1 v ∙ value (entry m p.1)
          ∙ ap (mul x) (form_free front c (entry m p.1) (zero_before front c p.1 p.0 pivots.0 (let h : c < p.0 = later.0 in omega arith) below) ∙ pivots.0.before c later.0) ∙ RingFacts.mul_zero m.scalars.ops laws x,
      after_forms ys v x pivots.1 later.1 value,
    )

    pub front_vanish : (v : List (ℕ × E)) (x : V) → ((w : ℕ → V) → dot m v w ≡ mul x (kernel_form front c w)) → AllVanish m (front ++ after) (entry m v)
    front_vanish v x value = join front (front_forms (λ _. ⊤) [] front refl v x value)
      where
        join : (xs : List (ℕ × List (ℕ × E))) → AllVanish m xs (entry m v) → AllVanish m (xs ++ after) (entry m v)
        join [] all = after_forms after v x (pivots_right front after echelon.pivots) after_all value
        join (p ∷ xs) all = (all.0, join xs all.1)

    zero_left : {X : Type 0} (xs ys : List (ℕ × X)) (w : ℕ → V) → ZeroAtPivots m.scalars (xs ++ ys) w → ZeroAtPivots m.scalars xs w
    zero_left [] ys w h = tt
    zero_left (x ∷ xs) ys w h = (h.0, zero_left xs ys w h.1)

    pub front_same : (v : List (ℕ × E)) (x : V) → ((w : ℕ → V) → dot m v w ≡ mul x (kernel_form front c w)) → (w : ℕ → V) → ZeroAtPivots m.scalars (front ++ after) w → dot m v w ≡ mul x (w c)
    front_same v x value w zeros = value w ∙ ap (mul x) (form_free front c w (zero_left front after w zeros))

  -- entries in other columns than those of a row are 0
  pub entry_beyond : (xs : List (ℕ × E)) (c d : ℕ) → AllBelow c xs → c ≤ d → entry m xs d ≡ m.scalars.ops.zero
  entry_beyond [] c d below le = refl
  entry_beyond (x ∷ xs) c d below le = LineLaws.entry-later m laws x xs d (λ e. let h : x.0 < c = below.0 in omega arith) ∙ entry_beyond xs c d below.1 le

  -- a row that is 0 from u on has columns below u alone
  pub below_high : (xs : List (ℕ × E)) (u : ℕ) → IsLine m xs → ((d : ℕ) → u ≤ d → entry m xs d ≡ m.scalars.ops.zero) → AllBelow u xs
  below_high [] u line high = tt
  below_high (x ∷ xs) u line high =
      let low : x.0 < u = elim (dec_le u x.0) [ yes h ↦ absurd (line.units.0.1 (sym (LineLaws.entry-first m laws x xs line.rising.0) ∙ high x.0 h)) | no h ↦ omega arith ] in
      (low, below_high xs u (record { rising = line.rising.1; units = line.units.1 }) (λ d le. sym (LineLaws.entry-later m laws x xs d (λ e. omega arith)) ∙ high d le))

  -- a high product with an entry of the front is one with an entry in the column
  pub front_high : (f : V) (c : ℕ) (ps : List (ℕ × List (ℕ × E))) (xs : List (ℕ × E)) → EachOf (λ t. Among (λ p. m.value t.1 ≡ neg (entry m p.1 c)) ps) xs → Among (λ t. 2 ^ 120 ≤ m.scalars.product_height f (m.value t.1)) xs
      → Among (λ p. 2 ^ 120 ≤ m.scalars.product_height f (neg (p.1 c))) (functions_of m ps)
  front_high f c ps [] all high = absurd high
  front_high f c ps (x ∷ xs) all (inl h) = go ps all.0
    where
      go : (qs : List (ℕ × List (ℕ × E))) → Among (λ p. m.value x.1 ≡ neg (entry m p.1 c)) qs → Among (λ p. 2 ^ 120 ≤ m.scalars.product_height f (neg (p.1 c))) (functions_of m qs)
      go [] k = absurd k
      go (q ∷ qs) (inl e) = inl (subst (λ z. 2 ^ 120 ≤ m.scalars.product_height f z) e h)
      go (q ∷ qs) (inr k) = inr (go qs k)
  front_high f c ps (x ∷ xs) all (inr h) = front_high f c ps xs all.1 h

  -- the front and 1 at the column itself
  pub kernel-value : (front : List (ℕ × E)) (ps : List (ℕ × List (ℕ × E))) (c : ℕ) (one : E) → m.value one ≡ m.scalars.ops.one → (w : ℕ → V) → dot m front w ≡ front_value m ps c w → dot m (front ++ ((c, one) ∷ [])) w ≡ kernel_form ps c w
  kernel-value front ps c one is_one w value =
      LineLaws.dot-push m laws front (c, one) w ∙ ap₂ add value (ap (λ z. mul z (w c)) is_one ∙ RingSolver.one_mul m.scalars.ops laws (w c))

  -- the same times x
  pub divided-value : (divided front : List (ℕ × E)) (ps : List (ℕ × List (ℕ × E))) (c : ℕ) (x : E) (w : ℕ → V) → dot m divided w ≡ mul (m.value x) (dot m front w) → dot m front w ≡ front_value m ps c w
      → dot m (divided ++ ((c, x) ∷ [])) w ≡ mul (m.value x) (kernel_form ps c w)
  divided-value divided front ps c x w times value =
      LineLaws.dot-push m laws divided (c, x) w ∙ ap (λ z. add z (mul (m.value x) (w c))) (times ∙ ap (mul (m.value x)) value) ∙ sym (RingSolver.distrib_left m.scalars.ops laws (m.value x) (front_value m ps c w) (w c))

  pub division_high : (ps : List (ℕ × List (ℕ × E))) (left : List (ℕ × E)) → IsLine m left → lead_of left < 4294967296
      → (2 ^ 120 ≤ m.scalars.inverse_height (entry m left (lead_of left))) ⊎ Among (λ p. 2 ^ 120 ≤ m.scalars.product_height (m.scalars.inverse (entry m left (lead_of left))) (neg (p.1 (lead_of left)))) (functions_of m ps)
      → DivisionIsHigh m.scalars 4294967296 (functions_of m ps) (entry m left)
  division_high ps left line given high =
      record {
        column = lead_of left;
        given = given;
        entry = SystemLaws.lead_entry m laws left line (omega arith);
        first = λ d less. SystemLaws.before_lead m laws left d line.rising less;
        high = high;
      }

  pub divided_high : (ps : List (ℕ × List (ℕ × E))) (left : List (ℕ × E)) (c : ℕ) (f : V) (xs : List (ℕ × E)) → c ≡ lead_of left → f ≡ m.scalars.inverse (entry m left (lead_of left)) → EachOf (λ t. Among (λ p. m.value t.1 ≡ neg (entry m p.1 c)) ps) xs
      → Among (λ t. 2 ^ 120 ≤ m.scalars.product_height f (m.value t.1)) xs → Among (λ p. 2 ^ 120 ≤ m.scalars.product_height (m.scalars.inverse (entry m left (lead_of left))) (neg (p.1 (lead_of left)))) (functions_of m ps)
  divided_high ps left c f xs is_column is_inverse entries high =
      subst (λ k. Among (λ (p : ℕ × (ℕ → V)). 2 ^ 120 ≤ m.scalars.product_height (m.scalars.inverse (entry m left (lead_of left))) (neg (p.1 k))) (functions_of m ps)) is_column
      (subst (λ z. Among (λ (p : ℕ × (ℕ → V)). 2 ^ 120 ≤ m.scalars.product_height z (neg (p.1 c))) (functions_of m ps)) is_inverse (front_high f c ps xs entries high))

  -- what is left of a target begins at no pivot
  pub lead_absent : (ps : List (ℕ × List (ℕ × E))) (left : List (ℕ × E)) (c : ℕ) → IsCleared m ps left → IsLine m left → c ≡ lead_of left → lead_of left < 4294967296 → IsAbsent c ps
  lead_absent [] left c cleared line is given = tt
  lead_absent (p ∷ ps) left c cleared line is given =
      ((λ e. SystemLaws.lead_entry m laws left line (omega arith) (ap (entry m left) (sym is ∙ sym e) ∙ cleared.0)), lead_absent ps left c cleared.1 line is given)

-- ---- the loop that makes the front
module _ {E V : Type 0} (m : Meaning E V) (laws : IsCommRing m.scalars.ops) (ps : List (ℕ × Vec (ℕ × E) Global)) (i : ℕ) (p : ℕ × Vec (ℕ × E) Global) (within : i < length ps) (read : p ≡ get_or ps i p) (c : ℕ) where
  pub front_step : (so_far : V) (w : ℕ → V) (x : V) → so_far ≡ front_value m (lines_of (take i ps)) c w → x ≡ m.scalars.ops.neg (entry m p.1.items c) → m.scalars.ops.add so_far (m.scalars.ops.mul x (w p.0)) ≡ front_value m (lines_of (take (i + 1) ps)) c w
  front_step so_far w x before e =
      ap₂ m.scalars.ops.add before (ap (λ z. m.scalars.ops.mul z (w p.0)) e ∙ sym (laws.add_zero _))
      ∙ sym (ap (λ qs. front_value m qs c w) (SystemLaws.lines-more ps i p within read) ∙ front_value-append m laws (lines_of (take i ps)) ((p.0, p.1.items) ∷ []) c w)

  pub pivot_among : (v : V) → v ≡ m.scalars.ops.neg (entry m p.1.items c) → Among (λ q. v ≡ m.scalars.ops.neg (entry m q.1 c)) (lines_of ps)
  pivot_among v e = subst (Among (λ (q : ℕ × List (ℕ × E)). v ≡ m.scalars.ops.neg (entry m q.1 c))) (sym (SystemLaws.at_place ps i p within read)) (go (lines_of (take i ps)))
    where
      go : (qs : List (ℕ × List (ℕ × E))) → Among (λ (q : ℕ × List (ℕ × E)). v ≡ m.scalars.ops.neg (entry m q.1 c)) (qs ++ ((p.0, p.1.items) ∷ lines_of (drop (i + 1) ps)))
      go [] = inl e
      go (q ∷ qs) = inr (go qs)

  pub below_take : (a : ℕ) → AllBelow a (lines_of (take (i + 1) ps)) → AllBelow a (lines_of (take i ps)) × (p.0 < a)
  below_take a all = split (lines_of (take i ps)) (subst (AllBelow a) (SystemLaws.lines-more ps i p within read) all)
    where
      split : (qs : List (ℕ × List (ℕ × E))) → AllBelow a (qs ++ ((p.0, p.1.items) ∷ [])) → AllBelow a qs × (p.0 < a)
      split [] h = (tt, h.0)
      split (q ∷ qs) h = ((h.0, (split qs h.1).0), (split qs h.1).1)

  pub below_own : IsRising (lines_of ps) → AllBelow p.0 (lines_of (take i ps))
  below_own rising = SystemLaws.below_mid (lines_of (take i ps)) _ (p.0, p.1.items) (subst (λ qs. IsRising qs) (SystemLaws.at_place ps i p within read) rising)
