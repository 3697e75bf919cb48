-- Systems of rows with pivots: what a cleared row says.
use Rattle.std.proofs.Common.{◌≡◌, ◌≢◌, ℕ, zero, suc, ◌+◌, ◌<◌, ◌≤◌, ◌^◌, ◌⊎◌, inl, inr, List, [], ◌∷◌, ◌++◌, length, take, drop, get_or, refl, sym, ap, ap₂, ◌∙◌, arith, add-one, subst, take-append-drop, Result, Ok, Err, IfOk, Vec, Global}
use Rattle.std.proofs.lemmas.List.{take_more}
use Rattle.ring_theory.specs.Ring.{IsCommRing}
use Rattle.ring_theory.specs.Scalars.{Meaning}
use Rattle.ring_theory.proofs.RingSolver
use Rattle.lin_row.proofs.RingFacts
use Rattle.lin_row.proofs.LineLaws
use Rattle.lin_row.specs.Lines.{AllAfter, AllUnits, IsRising, IsLine, dot, unit_at, entry}
use mathlib.Core.Path.{fun_ext}
use Rattle.std.proofs.Math.Decide.{dec_le}
use Rattle.std.proofs.lemmas.List.{drop_all}
use Rattle.lin_row.specs.Lines.{AllBelow, StartsFrom, EachOf, lead_of, SumIsRefused}
use Rattle.lin_row.specs.Plain.{cleared, reduced_target, ClearingIsHigh, InSome, Among}
use Rattle.lin_row.specs.Stages.{functions_of}
use Rattle.lin_row.specs.System.{AddsMultiple, IsClearing, IsPivot, ArePivots, AreEchelon, AllZeroAt, AreTriangular, IsCleared, AllVanish, RowsVanish, IsAbsent, IsPresent, combination, lines_of}

module _ {E : Type 0} where
  pub absent_more : (xs : List (ℕ × E)) (i c : ℕ) (t : ℕ × E) → i < length xs → t ≡ get_or xs i t → t.0 ≢ c → IsAbsent c (take i xs) → IsAbsent c (take (i + 1) xs)
  absent_more xs i c t within read differ all = rw add-one (more xs i within read all)
    where
      more : (ys : List (ℕ × E)) (j : ℕ) → j < length ys → t ≡ get_or ys j t → IsAbsent c (take j ys) → IsAbsent c (take (suc j) ys)
      more [] j inside at h = tt
      more (y ∷ ys) zero inside at h = let e : t ≡ y = at in ((λ k. differ (ap (λ u. u.0) e ∙ k)), tt)
      more (y ∷ ys) (suc j) inside at h = (h.0, more ys j (omega (arith, inside)) at h.1)

  pub present_here : (xs : List (ℕ × E)) (i c : ℕ) (x : E) (t : ℕ × E) → i < length xs → t ≡ get_or xs i t → t.0 ≡ c → t.1 ≡ x → IsPresent c x xs
  present_here [] i c x t within read e f = absurd (omega (arith, within))
  present_here (y ∷ ys) zero c x t within read e f = let k : t ≡ y = read in inl (sym (ap (λ u. u.0) k) ∙ e, sym (ap (λ u. u.1) k) ∙ f)
  present_here (y ∷ ys) (suc i) c x t within read e f = inr (present_here ys i c x t (omega (arith, within)) read e f)

  -- an entry that stands in a column after a is in no earlier one
  pub present_after : (xs : List (ℕ × E)) (a c : ℕ) (x : E) → AllAfter a xs → IsPresent c x xs → a < c
  present_after [] a c x all h = absurd h
  present_after (t ∷ ts) a c x all (inl h) = let less : a < t.0 = all.0 in let e : t.0 ≡ c = h.0 in omega arith
  present_after (t ∷ ts) a c x all (inr h) = present_after ts a c x all.1 h

module _ {E V : Type 0} (m : Meaning E V) (laws : IsCommRing m.scalars.ops) where
  open m.scalars.ops use {add, mul, neg}

  pub entry-absent : (xs : List (ℕ × E)) (c : ℕ) → IsAbsent c xs → entry m xs c ≡ m.scalars.ops.zero
  entry-absent [] c all = refl
  entry-absent (t ∷ ts) c all = LineLaws.entry-later m laws t ts c (λ e. all.0 (sym e)) ∙ entry-absent ts c all.1

  pub entry-present : (xs : List (ℕ × E)) (c : ℕ) (x : E) → IsRising xs → IsPresent c x xs → entry m xs c ≡ m.value x
  entry-present [] c x rising h = absurd h
  entry-present (t ∷ ts) c x rising (inl h) = subst (λ d. entry m (t ∷ ts) d ≡ m.value x) h.0 (LineLaws.entry-first m laws t ts rising.0 ∙ ap m.value h.1)
  entry-present (t ∷ ts) c x rising (inr h) =
      let later : t.0 < c = present_after ts t.0 c x rising.0 h in
      LineLaws.entry-later m laws t ts c (λ e. omega arith) ∙ entry-present ts c x rising.1 h

  -- where the pivot's row is 0, so is what was added
  pub same_where : (row pivot new : List (ℕ × E)) (w : ℕ → V) → AddsMultiple m row pivot new → dot m pivot w ≡ m.scalars.ops.zero → dot m new w ≡ dot m row w
  same_where row pivot new w h none =
      h.value w ∙ ap (λ z. add (dot m row w) (mul h.factor z)) none ∙ ap (add (dot m row w)) (RingFacts.mul_zero m.scalars.ops laws h.factor) ∙ laws.add_zero (dot m row w)

  -- pivots that were cleared stay so
  pub stays_cleared : (ps : List (ℕ × List (ℕ × E))) (row pivot new : List (ℕ × E)) → AddsMultiple m row pivot new → IsCleared m ps pivot → IsCleared m ps row → IsCleared m ps new
  stays_cleared [] row pivot new h a b = tt
  stays_cleared (p ∷ ps) row pivot new h a b = (same_where row pivot new (unit_at m.scalars.ops p.0) h a.0 ∙ b.0, stays_cleared ps row pivot new h a.1 b.1)

  pub cleared_push : (ps : List (ℕ × List (ℕ × E))) (p : ℕ × List (ℕ × E)) (row : List (ℕ × E)) → IsCleared m ps row → entry m row p.0 ≡ m.scalars.ops.zero → IsCleared m (ps ++ (p ∷ [])) row
  cleared_push [] p row a b = (b, tt)
  cleared_push (q ∷ ps) p row a b = (a.0, cleared_push ps p row a.1 b)

  -- a later row is cleared at the earlier pivots
  pub later_cleared : (ps qs : List (ℕ × List (ℕ × E))) (p : ℕ × List (ℕ × E)) → AreTriangular m (ps ++ (p ∷ qs)) → IsCleared m ps p.1
  later_cleared [] qs p h = tt
  later_cleared (q ∷ ps) qs p h = (zero_in ps h.1.0, later_cleared ps qs p h.1.1)
    where
      zero_in : (rs : List (ℕ × List (ℕ × E))) → AllZeroAt m q.0 (rs ++ (p ∷ qs)) → entry m p.1 q.0 ≡ m.scalars.ops.zero
      zero_in [] k = k.0
      zero_in (r ∷ rs) k = zero_in rs k.1

  pub pivot_in : (ps qs : List (ℕ × List (ℕ × E))) (p : ℕ × List (ℕ × E)) → AreTriangular m (ps ++ (p ∷ qs)) → IsPivot m p.0 p.1
  pivot_in [] qs p h = h.0
  pivot_in (q ∷ ps) qs p h = pivot_in ps qs p h.1.1

  pub vanish_in : (ps qs : List (ℕ × List (ℕ × E))) (p : ℕ × List (ℕ × E)) (w : ℕ → V) → AllVanish m (ps ++ (p ∷ qs)) w → dot m p.1 w ≡ m.scalars.ops.zero
  vanish_in [] qs p w h = h.0
  vanish_in (q ∷ ps) qs p w h = vanish_in ps qs p w h.1

  pub elem_present : (xs : List (ℕ × E)) (c : ℕ) (x : E) → AllUnits m xs → IsPresent c x xs → m.is_elem x
  elem_present [] c x all h = absurd h
  elem_present (t ∷ ts) c x all (inl h) = subst m.is_elem h.1 all.0.0
  elem_present (t ∷ ts) c x all (inr h) = elem_present ts c x all.1 h

  -- a clearing adds a multiple of the pivot's row
  pub clearing_adds : (c : ℕ) (pivot old new : List (ℕ × E)) → IsClearing m c pivot old new → AddsMultiple m old pivot new
  clearing_adds c pivot old new h = record { factor = neg (entry m old c); value = h.value }

  -- where the pivot's row has 1 the new row has 0
  pub clearing_zero : (c : ℕ) (pivot old new : List (ℕ × E)) → IsClearing m c pivot old new → entry m pivot c ≡ m.scalars.ops.one → entry m new c ≡ m.scalars.ops.zero
  clearing_zero c pivot old new h one =
      h.value (unit_at m.scalars.ops c) ∙ ap (add (entry m old c)) (ap (mul (neg (entry m old c))) one ∙ laws.mul_one (neg (entry m old c))) ∙ laws.add_neg (entry m old c)

  -- the new row by its entries
  pub clearing-entries : (c : ℕ) (pivot old new : List (ℕ × E)) → IsClearing m c pivot old new → entry m new ≡ cleared m.scalars c (entry m pivot) (entry m old)
  clearing-entries c pivot old new h = fun_ext λ d. h.value (unit_at m.scalars.ops d)

  -- a row without entry at the column stays as it is
  pub clears_nothing : (c : ℕ) (pivot row : List (ℕ × E)) → IsLine m row → IsAbsent c row → IsClearing m c pivot row row
  clears_nothing c pivot row line absent =
      record {
        line = line;
        value = λ w. sym (ap (λ z. add (dot m row w) (mul z (dot m pivot w))) (ap neg (entry-absent row c absent) ∙ RingSolver.neg_zero m.scalars.ops laws) ∙ ap (add (dot m row w)) (RingSolver.zero_mul m.scalars.ops laws (dot m pivot w)) ∙ laws.add_zero (dot m row w));
      }

  -- a sum with the multiple by -x, where x is the entry at the column
  pub ok_clearing : {X : Type 0} (row pivot a : List (ℕ × E)) (c : ℕ) (x : E) (f : V) (r : Result (Vec (ℕ × E) Global) X) → f ≡ neg (m.value x) → IsRising row → IsPresent c x row → a ≡ row
      → IfOk r (λ v. IsLine m v.items) → IfOk r (λ v. (w : ℕ → V) → dot m v.items w ≡ add (dot m a w) (mul f (dot m pivot w))) → IfOk r (λ v. IsClearing m c pivot row v.items)
  ok_clearing row pivot a c x f (Ok v) negated rising present same line value =
      record { line = line; value = λ w. value w ∙ ap₂ (λ ys z. add (dot m ys w) (mul z (dot m pivot w))) same (negated ∙ ap neg (sym (entry-present row c x rising present))) }
  ok_clearing row pivot a c x f (Err e) negated rising present same line value = tt

  -- entries before the first column are 0
  pub before_lead : (xs : List (ℕ × E)) (d : ℕ) → IsRising xs → d < lead_of xs → entry m xs d ≡ m.scalars.ops.zero
  before_lead [] d rising less = refl
  before_lead (t ∷ ts) d rising less = LineLaws.entry-after m laws (t ∷ ts) d (less, LineLaws.after_trans ts d t.0 less rising.0)

  -- a row begins after the columns in which it is 0
  pub lead_after : (xs : List (ℕ × E)) (c : ℕ) → IsLine m xs → c < 18446744073709551615 → ((d : ℕ) → d ≤ c → entry m xs d ≡ m.scalars.ops.zero) → c < lead_of xs
  lead_after [] c line low zeros = low
  lead_after (t ∷ ts) c line low zeros =
      elim (dec_le t.0 c) [
        | yes h ↦ absurd (line.units.0.1 (sym (LineLaws.entry-first m laws t ts line.rising.0) ∙ zeros t.0 h))
        | no h ↦ omega arith
      ]

  -- the entry at the first column is not 0
  pub lead_entry : (xs : List (ℕ × E)) → IsLine m xs → lead_of xs < 18446744073709551615 → entry m xs (lead_of xs) ≢ m.scalars.ops.zero
  lead_entry [] line low = absurd (omega (arith, low))
  lead_entry (t ∷ ts) line low = λ e. line.units.0.1 (sym (LineLaws.entry-first m laws t ts line.rising.0) ∙ e)

  -- a row that is cleared where it begins begins later
  pub clearing_later : (c : ℕ) (pivot old new : List (ℕ × E)) → IsClearing m c pivot old new → IsPivot m c pivot → IsRising old → c ≤ lead_of old → c < 4294967296 → c < lead_of new
  clearing_later c pivot old new h is rising low given = lead_after new c h.line (omega arith) zeros
    where
      zeros : (d : ℕ) → d ≤ c → entry m new d ≡ m.scalars.ops.zero
      zeros d le = elim (dec_le c d) [
        | yes k ↦ let e : d ≡ c = omega arith in subst (λ x. entry m new x ≡ m.scalars.ops.zero) (sym e) (clearing_zero c pivot old new h is.one)
        | no k ↦
            let less : d < c = omega arith in
            let early : d < lead_of old = omega arith in
            h.value (unit_at m.scalars.ops d) ∙ ap₂ (λ y z. add y (mul (neg (entry m old c)) z)) (before_lead old d rising early) (is.before d less)
            ∙ ap (add m.scalars.ops.zero) (RingFacts.mul_zero m.scalars.ops laws (neg (entry m old c))) ∙ laws.add_zero m.scalars.ops.zero
      ]

  -- rows after a pivot have entry 0 there
  zeros_after : (ps : List (ℕ × List (ℕ × E))) (c : ℕ) → AllAfter c ps → ArePivots m ps → AllZeroAt m c ps
  zeros_after [] c after all = tt
  zeros_after (p ∷ ps) c after all = (all.0.before c after.0, zeros_after ps c after.1 all.1)

  -- an echelon form is triangular
  pub triangular : (ps : List (ℕ × List (ℕ × E))) → AreEchelon m ps → AreTriangular m ps
  triangular ps h = go ps h.pivots h.rising
    where
      go : (qs : List (ℕ × List (ℕ × E))) → ArePivots m qs → IsRising qs → AreTriangular m qs
      go [] all rising = tt
      go (q ∷ qs) all rising = (all.0, (zeros_after qs q.0 rising.0 all.1, go qs all.1 rising.1))

  pub some_negated : (left : List (ℕ × E)) (c : ℕ) (x : E) (v : V) → IsRising left → IsPresent c x left → v ≡ neg (m.value x) → v ≡ neg (entry m left c)
  some_negated left c x v rising h e = e ∙ ap neg (sym (entry-present left c x rising h))

  pub none_negated : (left : List (ℕ × E)) (c : ℕ) (v : V) → IsAbsent c left → v ≡ m.scalars.ops.zero → v ≡ neg (entry m left c)
  none_negated left c v h e = e ∙ sym (RingSolver.neg_zero m.scalars.ops laws) ∙ ap neg (sym (entry-absent left c h))

  -- where the rows vanish, so does each combination
  pub combination-vanish : (xs : List V) (rows : List (List (ℕ × E))) (w : ℕ → V) → RowsVanish m rows w → combination m xs rows w ≡ m.scalars.ops.zero
  combination-vanish [] rows w all = refl
  combination-vanish (x ∷ xs) [] w all = refl
  combination-vanish (x ∷ xs) (row ∷ rows) w all = ap₂ add (ap (mul x) all.0 ∙ RingFacts.mul_zero m.scalars.ops laws x) (combination-vanish xs rows w all.1) ∙ laws.add_zero m.scalars.ops.zero

  -- a product with an entry is high at its column
  pub entry_high : (row : List (ℕ × E)) (f : V) → IsRising row → Among (λ t. 2 ^ 120 ≤ m.scalars.product_height f (m.value t.1)) row → InSome (λ d. 2 ^ 120 ≤ m.scalars.product_height f (entry m row d))
  entry_high row f rising high = go row high (λ t present. entry-present row t.0 t.1 rising present)
    where
      go : (ts : List (ℕ × E)) → Among (λ t. 2 ^ 120 ≤ m.scalars.product_height f (m.value t.1)) ts → ((t : ℕ × E) → IsPresent t.0 t.1 ts → entry m row t.0 ≡ m.value t.1) → InSome (λ d. 2 ^ 120 ≤ m.scalars.product_height f (entry m row d))
      go [] h is = absurd h
      go (t ∷ ts) (inl h) is = record { column = t.0; holds = subst (λ z. 2 ^ 120 ≤ m.scalars.product_height f z) (sym (is t (inl (refl, refl)))) h }
      go (t ∷ ts) (inr h) is = go ts h (λ u present. is u (inr present))

  dot-take-more : (row : List (ℕ × E)) (i : ℕ) (t : ℕ × E) (w : ℕ → V) → i < length row → t ≡ get_or row i t → dot m (take (i + 1) row) w ≡ add (dot m (take i row) w) (mul (m.value t.1) (w t.0))
  dot-take-more row i t w within read =
      sym (ap (λ ys. dot m ys w) (ap (λ u. take i row ++ (u ∷ [])) read ∙ sym (take_more row i t within))) ∙ LineLaws.dot-push m laws (take i row) t w

  -- an entry of the product with a row
  pub scaled_step : (row : List (ℕ × E)) (i : ℕ) (t : ℕ × E) (w : ℕ → V) (f so_far product : V) → i < length row → t ≡ get_or row i t → so_far ≡ mul f (dot m (take i row) w) → product ≡ mul f (m.value t.1)
      → add so_far (mul product (w t.0)) ≡ mul f (dot m (take (i + 1) row) w)
  scaled_step row i t w f so_far product within read before next =
      ap₂ add before (ap (λ z. mul z (w t.0)) next ∙ laws.mul_assoc f (m.value t.1) (w t.0)) ∙ sym (RingSolver.distrib_left m.scalars.ops laws f (dot m (take i row) w) (mul (m.value t.1) (w t.0))) ∙ ap (mul f) (sym (dot-take-more row i t w within read))

-- an element that meets P, among the list
pub among_get : {X : Type 0} (P : X → Type 0) (xs : List X) (i : ℕ) (t : X) → i < length xs → t ≡ get_or xs i t → P t → Among P xs
among_get P [] i t within read h = absurd (omega (arith, within))
among_get P (x ∷ xs) zero t within read h = let e : t ≡ x = read in inl (subst P e h)
among_get P (x ∷ xs) (suc i) t within read h = inr (among_get P xs i t (omega (arith, within)) read h)

-- a column of a row below a
pub below_get : {X : Type 0} (xs : List (ℕ × X)) (i a : ℕ) (t : ℕ × X) → i < length xs → t ≡ get_or xs i t → AllBelow a xs → t.0 < a
below_get [] i a t within read all = absurd (omega (arith, within))
below_get (x ∷ xs) zero a t within read all = let e : t ≡ x = read in subst (λ k. k < a) (sym (ap (λ u. u.0) e)) all.0
below_get (x ∷ xs) (suc i) a t within read all = below_get xs i a t (omega (arith, within)) read all.1

-- a row, or the row and one entry more
module _ {X : Type 0} (old new : List (ℕ × X)) (t : ℕ × X) (items : (new ≡ old) ⊎ (new ≡ old ++ (t ∷ []))) where
  pub perhaps_below : (a : ℕ) → AllBelow a old → t.0 < a → AllBelow a new
  perhaps_below a all low = elim items [ inl e ↦ subst (AllBelow a) (sym e) all | inr e ↦ subst (AllBelow a) (sym e) (push old all) ]
    where
      push : (xs : List (ℕ × X)) → AllBelow a xs → AllBelow a (xs ++ (t ∷ []))
      push [] h = (low, tt)
      push (x ∷ xs) h = (h.0, push xs h.1)

  pub perhaps_rising : IsRising old → AllBelow t.0 old → IsRising new
  perhaps_rising rising below = elim items [ inl e ↦ subst (λ ys. IsRising ys) (sym e) rising | inr e ↦ subst (λ ys. IsRising ys) (sym e) (push old rising below) ]
    where
      push : (xs : List (ℕ × X)) → IsRising xs → AllBelow t.0 xs → IsRising (xs ++ (t ∷ []))
      push [] h b = (tt, tt)
      push (x ∷ xs) h b = (LineLaws.after_append xs (t ∷ []) x.0 h.0 (b.0, tt), push xs h.1 b.1)

  pub perhaps_each : (P : ℕ × X → Type 0) → EachOf P old → P t → EachOf P new
  perhaps_each P all here = elim items [ inl e ↦ subst (EachOf P) (sym e) all | inr e ↦ subst (EachOf P) (sym e) (push old all) ]
    where
      push : (xs : List (ℕ × X)) → EachOf P xs → EachOf P (xs ++ (t ∷ []))
      push [] h = (here, tt)
      push (x ∷ xs) h = (h.0, push xs h.1)

-- what holds of an answer
pub ok_weaker : {T X : Type 0} {P Q : T → Type 0} (r : Result T X) → ((x : T) → P x → Q x) → IfOk r P → IfOk r Q
ok_weaker (Ok x) f h = f x h
ok_weaker (Err e) f h = tt

-- a place in the list of pivots
pub lines-around : {E : Type 0} (ps : List (ℕ × Vec (ℕ × E) Global)) (i : ℕ) (p : ℕ × Vec (ℕ × E) Global) → i < length ps → p ≡ get_or ps i p → lines_of ps ≡ lines_of (take i ps) ++ ((p.0, p.1.items) ∷ lines_of (drop (suc i) ps))
lines-around [] i p within read = absurd (omega (arith, within))
lines-around (q ∷ ps) zero p within read = let e : p ≡ q = read in ap (λ u. (u.0, u.1.items) ∷ lines_of ps) (sym e)
lines-around (q ∷ ps) (suc i) p within read = ap (λ ys. (q.0, q.1.items) ∷ ys) (lines-around ps i p (omega (arith, within)) read)

pub lines-push : {E : Type 0} (ps : List (ℕ × Vec (ℕ × E) Global)) (p : ℕ × Vec (ℕ × E) Global) → lines_of (ps ++ (p ∷ [])) ≡ lines_of ps ++ ((p.0, p.1.items) ∷ [])
lines-push [] p = refl
lines-push (q ∷ ps) p = ap (λ ys. (q.0, q.1.items) ∷ ys) (lines-push ps p)

pub lines-more : {E : Type 0} (ps : List (ℕ × Vec (ℕ × E) Global)) (i : ℕ) (p : ℕ × Vec (ℕ × E) Global) → i < length ps → p ≡ get_or ps i p → lines_of (take (i + 1) ps) ≡ lines_of (take i ps) ++ ((p.0, p.1.items) ∷ [])
lines-more ps i p within read = ap lines_of (take_more ps i p within) ∙ lines-push (take i ps) (get_or ps i p) ∙ ap (λ u. lines_of (take i ps) ++ ((u.0, u.1.items) ∷ [])) (sym read)

-- the loop over the pivots
module _ {E V : Type 0} (m : Meaning E V) (laws : IsCommRing m.scalars.ops) (ps : List (ℕ × Vec (ℕ × E) Global)) (i : ℕ) (p : ℕ × Vec (ℕ × E) Global) (within : i < length ps) (read : p ≡ get_or ps i p) (all : AreTriangular m (lines_of ps)) where
  triangular_around : AreTriangular m (lines_of (take i ps) ++ ((p.0, p.1.items) ∷ lines_of (drop (suc i) ps)))
  triangular_around = subst (λ ys. AreTriangular m ys) (lines-around ps i p within read) all

  pub next_pivot : IsPivot m p.0 p.1.items
  next_pivot = pivot_in m laws (lines_of (take i ps)) _ _ triangular_around

  pub next_cleared : (left new : List (ℕ × E)) → AddsMultiple m left p.1.items new → entry m new p.0 ≡ m.scalars.ops.zero → IsCleared m (lines_of (take i ps)) left → IsCleared m (lines_of (take (i + 1) ps)) new
  next_cleared left new h here before =
      subst (λ ys. IsCleared m ys new) (sym (lines-more ps i p within read))
      (cleared_push m laws (lines_of (take i ps)) (p.0, p.1.items) new (stays_cleared m laws (lines_of (take i ps)) left p.1.items new h (later_cleared m laws (lines_of (take i ps)) _ _ triangular_around) before) here)

  pub next_same : (left new : List (ℕ × E)) (w : ℕ → V) (total : V) → AddsMultiple m left p.1.items new → AllVanish m (lines_of ps) w → dot m left w ≡ total → dot m new w ≡ total
  next_same left new w total h vanish before =
      same_where m laws left p.1.items new w h (vanish_in m laws (lines_of (take i ps)) _ _ w (subst (λ ys. AllVanish m ys w) (lines-around ps i p within read) vanish)) ∙ before

pub lines-drop : {E : Type 0} (ps : List (ℕ × Vec (ℕ × E) Global)) (i : ℕ) (p : ℕ × Vec (ℕ × E) Global) → i < length ps → p ≡ get_or ps i p → lines_of (drop i ps) ≡ (p.0, p.1.items) ∷ lines_of (drop (i + 1) ps)
lines-drop ps i p within read = ap lines_of (LineLaws.next_at ps i p within read)

pub lines-append : {E : Type 0} (ps qs : List (ℕ × Vec (ℕ × E) Global)) → lines_of (ps ++ qs) ≡ lines_of ps ++ lines_of qs
lines-append [] qs = refl
lines-append (p ∷ ps) qs = ap (λ ys. (p.0, p.1.items) ∷ ys) (lines-append ps qs)

pub lines-split : {E : Type 0} (ps : List (ℕ × Vec (ℕ × E) Global)) (i : ℕ) → lines_of ps ≡ lines_of (take i ps) ++ lines_of (drop i ps)
lines-split ps i = ap lines_of (sym (take-append-drop i ps)) ∙ lines-append (take i ps) (drop i ps)

-- the loop that reduces a target
module _ {E V : Type 0} (m : Meaning E V) (laws : IsCommRing m.scalars.ops) (ps : List (ℕ × Vec (ℕ × E) Global)) (i : ℕ) where
  module _ (p : ℕ × Vec (ℕ × E) Global) (within : i < length ps) (read : p ≡ get_or ps i p) (left : List (ℕ × E)) where
    pub first_high : SumIsRefused m.scalars (entry m left) (m.scalars.ops.neg (entry m left p.0)) (entry m p.1.items) → ClearingIsHigh m.scalars (functions_of m (lines_of (drop i ps))) (entry m left)
    first_high h = subst (λ qs. ClearingIsHigh m.scalars (functions_of m qs) (entry m left)) (sym (lines-drop ps i p within read)) (inl h)

    module _ (new : List (ℕ × E)) (e : entry m new ≡ cleared m.scalars p.0 (entry m p.1.items) (entry m left)) where
      pub step-entries : reduced_target m.scalars (functions_of m (lines_of (drop (i + 1) ps))) (entry m new) ≡ reduced_target m.scalars (functions_of m (lines_of (drop i ps))) (entry m left)
      step-entries = ap (reduced_target m.scalars (functions_of m (lines_of (drop (i + 1) ps)))) e ∙ sym (ap (λ qs. reduced_target m.scalars (functions_of m qs) (entry m left)) (lines-drop ps i p within read))

      pub later_high : ClearingIsHigh m.scalars (functions_of m (lines_of (drop (i + 1) ps))) (entry m new) → ClearingIsHigh m.scalars (functions_of m (lines_of (drop i ps))) (entry m left)
      later_high h = subst (λ qs. ClearingIsHigh m.scalars (functions_of m qs) (entry m left)) (sym (lines-drop ps i p within read)) (inr (subst (ClearingIsHigh m.scalars (functions_of m (lines_of (drop (i + 1) ps)))) e h))

  pub end-entries : (left : List (ℕ × E)) (total : ℕ → V) → length ps ≤ i → reduced_target m.scalars (functions_of m (lines_of (drop i ps))) (entry m left) ≡ total → entry m left ≡ total
  end-entries left total end before = ap (λ qs. reduced_target m.scalars (functions_of m (lines_of qs)) (entry m left)) (sym (drop_all i ps end)) ∙ before

-- places among rising pivots
module _ {X : Type 0} where
  pub below_bigger : (qs : List (ℕ × X)) (c d : ℕ) → c ≤ d → AllBelow c qs → AllBelow d qs
  below_bigger [] c d le all = tt
  below_bigger (q ∷ qs) c d le all = ((let h : q.0 < c = all.0 in omega arith), below_bigger qs c d le all.1)

  pub below_mid : (ps qs : List (ℕ × X)) (p : ℕ × X) → IsRising (ps ++ (p ∷ qs)) → AllBelow p.0 ps
  below_mid [] qs p rising = tt
  below_mid (q ∷ ps) qs p rising = (after_mid ps rising.0, below_mid ps qs p rising.1)
    where
      after_mid : (rs : List (ℕ × X)) → AllAfter q.0 (rs ++ (p ∷ qs)) → q.0 < p.0
      after_mid [] h = h.0
      after_mid (r ∷ rs) h = after_mid rs h.1

  pub absent_next : (qs : List (ℕ × X)) (c l k : ℕ) → AllBelow c qs → IsAbsent l qs → ((d : ℕ) → d < c → d ≢ l → d ≢ k) → IsAbsent k qs
  absent_next [] c l k below absent stays = tt
  absent_next (q ∷ qs) c l k below absent stays = (stays q.0 below.0 absent.0, absent_next qs c l k below.1 absent.1 stays)

  pub absent_push : (qs : List (ℕ × X)) (p : ℕ × X) (k : ℕ) → IsAbsent k qs → p.0 ≢ k → IsAbsent k (qs ++ (p ∷ []))
  absent_push [] p k all h = (h, tt)
  absent_push (q ∷ qs) p k all h = (all.0, absent_push qs p k all.1 h)

  pub below_in : (ps qs : List (ℕ × X)) (p : ℕ × X) (u : ℕ) → AllBelow u (ps ++ (p ∷ qs)) → p.0 < u
  below_in [] qs p u h = h.0
  below_in (q ∷ ps) qs p u h = below_in ps qs p u h.1

-- the pivots of code around a place
module _ {E : Type 0} (ps : List (ℕ × Vec (ℕ × E) Global)) (i : ℕ) (p : ℕ × Vec (ℕ × E) Global) (within : i < length ps) (read : p ≡ get_or ps i p) where
  pub at_place : lines_of ps ≡ lines_of (take i ps) ++ ((p.0, p.1.items) ∷ lines_of (drop (i + 1) ps))
  at_place = lines-split ps i ∙ ap (λ ys. lines_of (take i ps) ++ ys) (lines-drop ps i p within read)

  pub below_here : (u : ℕ) → AllBelow u (lines_of ps) → p.0 < u
  below_here u all = below_in (lines_of (take i ps)) _ (p.0, p.1.items) u (subst (λ ys. AllBelow u ys) at_place all)

  pub below_place : (c : ℕ) → AllBelow c (lines_of (take i ps)) → p.0 < c → AllBelow c (lines_of (take (i + 1) ps))
  below_place c all h = subst (λ ys. AllBelow c ys) (sym (lines-more ps i p within read)) (push (lines_of (take i ps)) all)
    where
      push : (qs : List (ℕ × List (ℕ × E))) → AllBelow c qs → AllBelow c (qs ++ ((p.0, p.1.items) ∷ []))
      push [] k = (h, tt)
      push (q ∷ qs) k = (k.0, push qs k.1)

  pub starts_place : (c : ℕ) → c ≤ p.0 → StartsFrom c (lines_of (drop i ps))
  starts_place c h = subst (λ ys. StartsFrom c ys) (sym (lines-drop ps i p within read)) h

-- the loop that clears leading entries
module _ {E V : Type 0} (m : Meaning E V) (laws : IsCommRing m.scalars.ops) (ps : List (ℕ × Vec (ℕ × E) Global)) (i : ℕ) (p : ℕ × Vec (ℕ × E) Global) (within : i < length ps) (read : p ≡ get_or ps i p) where
  pub pivot_here : AreEchelon m (lines_of ps) → IsPivot m p.0 p.1.items
  pivot_here h = go (lines_of (take i ps)) (subst (λ ys. ArePivots m ys) (at_place ps i p within read) h.pivots)
    where
      go : (qs : List (ℕ × List (ℕ × E))) → ArePivots m (qs ++ ((p.0, p.1.items) ∷ lines_of (drop (i + 1) ps))) → IsPivot m p.0 p.1.items
      go [] k = k.0
      go (q ∷ qs) k = go qs k.1

  pub vanish_here : (w : ℕ → V) → AllVanish m (lines_of ps) w → dot m p.1.items w ≡ m.scalars.ops.zero
  vanish_here w all = vanish_in m laws (lines_of (take i ps)) _ (p.0, p.1.items) w (subst (λ ys. AllVanish m ys w) (at_place ps i p within read) all)

  pub next_absent : (l k : ℕ) → AreEchelon m (lines_of ps) → IsAbsent l (lines_of (take i ps)) → p.0 ≢ k → ((d : ℕ) → d < p.0 → d ≢ l → d ≢ k) → IsAbsent k (lines_of (take (i + 1) ps))
  next_absent l k h absent own stays =
      subst (λ ys. IsAbsent k ys) (sym (lines-more ps i p within read))
      (absent_push (lines_of (take i ps)) (p.0, p.1.items) k (absent_next (lines_of (take i ps)) p.0 l k (below_mid (lines_of (take i ps)) _ (p.0, p.1.items) (subst (λ ys. IsRising ys) (at_place ps i p within read) h.rising)) absent stays) own)
