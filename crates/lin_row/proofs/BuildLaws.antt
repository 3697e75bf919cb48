-- One row more in a system.
use Rattle.std.proofs.Common.{◌≡◌, ◌≢◌, ℕ, zero, suc, ◌+◌, ◌-◌, ◌<◌, ◌≤◌, true, false, cond, nat_lt, List, [], ◌∷◌, ◌++◌, length, take, drop, get_or, refl, sym, ap, ap₂, ◌∙◌, arith, subst}
use Rattle.std.proofs.lemmas.List.{take_more}
use Rattle.std.proofs.lemmas.Bool.Decides.{nat_tests}
use Rattle.ring_theory.specs.Ring.{IsCommRing}
use Rattle.ring_theory.specs.Scalars.{Meaning, HasInverses}
use Rattle.lin_row.specs.Rows.{rows_of, AreRows}
use Rattle.lin_row.specs.declared.row.Row.{Row}
use Rattle.lin_row.proofs.RingFacts
use Rattle.lin_row.proofs.LineLaws
use Rattle.lin_row.proofs.SystemLaws
use Rattle.lin_row.specs.Lines.{AllAfter, AllFrom, AllBelow, StartsFrom, IsRising, IsLine, lead_of, dot, unit_at, entry}
use Rattle.lin_row.specs.System.{IsPivot, ArePivots, AreEchelon, IsAbsent, AllVanish, dot_at, against}

pub is_below : (d u : ℕ) → d < u → nat_lt d u ≡ true
is_below d u h = grind (arith, nat_tests)

pub from_test : (d u : ℕ) → nat_lt d u ≡ false → u ≤ d
from_test d u h = grind (arith, nat_tests)

pub not_below : (d u : ℕ) → u ≤ d → nat_lt d u ≡ false
not_below d u h = grind (arith, nat_tests)

module _ {E : Type 0} where
  from_after : (ts : List (ℕ × E)) (a u : ℕ) → u ≤ a → AllAfter a ts → AllFrom u ts
  from_after [] a u low all = tt
  from_after (t ∷ ts) a u low all = ((let h : a < t.0 = all.0 in omega arith), from_after ts a u low all.1)

  pub from_first : (xs : List (ℕ × E)) (u : ℕ) (t : ℕ × E) → 0 < length xs → t ≡ get_or xs 0 t → u ≤ t.0 → IsRising xs → AllFrom u xs
  from_first [] u t some read low rising = tt
  from_first (x ∷ xs) u t some read low rising =
      let e : t ≡ x = read in
      let first : u ≤ x.0 = subst (λ (p : ℕ × E). u ≤ p.0) e low in
      (first, from_after xs x.0 u first rising.0)

  pub from_none : (xs : List (ℕ × E)) (u : ℕ) → length xs ≡ 0 → AllFrom u xs
  from_none [] u none = tt
  from_none (x ∷ xs) u none = absurd (omega (arith, none))

  pub after_starts : (qs : List (ℕ × E)) (c : ℕ) → IsRising qs → StartsFrom c qs → IsAbsent c qs → AllAfter c qs
  after_starts [] c rising starts absent = tt
  after_starts (q ∷ qs) c rising starts absent =
      let less : c < q.0 = (let differ : q.0 ≢ c = absent.0 in let le : c ≤ q.0 = starts in omega arith) in
      (less, LineLaws.after_trans qs c q.0 less rising.0)

  -- a column more among rising ones
  pub rising_insert : (ps qs : List (ℕ × E)) (p : ℕ × E) → IsRising (ps ++ qs) → AllBelow p.0 ps → StartsFrom p.0 qs → IsAbsent p.0 (ps ++ qs) → IsRising (ps ++ (p ∷ qs))
  rising_insert [] qs p rising below starts absent = (after_starts qs p.0 rising starts absent, rising)
  rising_insert (q ∷ ps) qs p rising below starts absent =
      (LineLaws.after_append ps (p ∷ qs) q.0 (LineLaws.after_left ps qs q.0 rising.0) (below.0, LineLaws.after_right ps qs q.0 rising.0), rising_insert ps qs p rising.1 below.1 starts absent.1)

  pub below_insert : (ps qs : List (ℕ × E)) (p : ℕ × E) (u : ℕ) → AllBelow u (ps ++ qs) → p.0 < u → AllBelow u (ps ++ (p ∷ qs))
  below_insert [] qs p u all low = (low, all)
  below_insert (q ∷ ps) qs p u all low = (all.0, below_insert ps qs p u all.1 low)

  pub below_push : (xs : List (ℕ × E)) (u : ℕ) (t : ℕ × E) → AllBelow u xs → t.0 < u → AllBelow u (xs ++ (t ∷ []))
  below_push [] u t all low = (low, tt)
  below_push (x ∷ xs) u t all low = (all.0, below_push xs u t all.1 low)

  pub lead-first : (xs : List (ℕ × E)) (t : ℕ × E) → 0 < length xs → t ≡ get_or xs 0 t → lead_of xs ≡ t.0
  lead-first [] t some read = absurd (omega (arith, some))
  lead-first (x ∷ xs) t some read = let e : t ≡ x = read in ap (λ u. u.0) (sym e)

  pub lead_some : (xs : List (ℕ × E)) → lead_of xs < 18446744073709551615 → 0 < length xs
  lead_some [] low = absurd (omega (arith, low))
  lead_some (x ∷ xs) low = omega arith

  pub lead-none : (xs : List (ℕ × E)) → length xs ≡ 0 → lead_of xs ≡ 18446744073709551615
  lead-none [] none = refl
  lead-none (x ∷ xs) none = absurd (omega (arith, none))

  pub rising_push : (xs : List (ℕ × E)) (u : ℕ) (t : ℕ × E) → u ≤ t.0 → AllBelow u xs → IsRising xs → IsRising (xs ++ (t ∷ []))
  rising_push [] u t low below rising = (tt, tt)
  rising_push (x ∷ xs) u t low below rising =
      (LineLaws.after_append xs (t ∷ []) x.0 rising.0 ((let h : x.0 < u = below.0 in omega arith), tt), rising_push xs u t low below.1 rising.1)

module _ {E V : Type 0} (m : Meaning E V) (laws : IsCommRing m.scalars.ops) where
  open m.scalars.ops use {add, mul, neg}

  -- a row of columns below u does not see the others
  pub dot-below : (xs : List (ℕ × E)) (u : ℕ) (rows : List (List (ℕ × E))) (w : ℕ → V) → AllBelow u xs → dot m xs (against m u rows w) ≡ dot m xs w
  dot-below [] u rows w below = refl
  dot-below (x ∷ xs) u rows w below =
      ap₂ add (ap (λ b. mul (m.value x.1) (cond b (w x.0) (neg (dot_at m rows (x.0 - u) w)))) (is_below x.0 u below.0)) (dot-below xs u rows w below.1)

  pub against-unit : (u k : ℕ) (rows : List (List (ℕ × E))) (w : ℕ → V) → against m u rows w (u + k) ≡ neg (dot_at m rows k w)
  against-unit u k rows w =
      let same : u + k - u ≡ k = omega arith in
      ap (λ b. cond b (w (u + k)) (neg (dot_at m rows (u + k - u) w))) (not_below (u + k) u (omega arith)) ∙ ap (λ j. neg (dot_at m rows j w)) same

  -- a row of unit columns alone is 0 where these are
  pub dot-from : (xs : List (ℕ × E)) (u : ℕ) (w : ℕ → V) → ((d : ℕ) → u ≤ d → w d ≡ m.scalars.ops.zero) → AllFrom u xs → dot m xs w ≡ m.scalars.ops.zero
  dot-from [] u w none all = refl
  dot-from (x ∷ xs) u w none all =
      ap₂ add (ap (mul (m.value x.1)) (none x.0 all.0) ∙ RingFacts.mul_zero m.scalars.ops laws (m.value x.1)) (dot-from xs u w none all.1) ∙ laws.add_zero m.scalars.ops.zero

  -- a row more among the pivots
  pub vanish_insert : (ps qs : List (ℕ × List (ℕ × E))) (p : ℕ × List (ℕ × E)) (w : ℕ → V) → AllVanish m (ps ++ qs) w → dot m p.1 w ≡ m.scalars.ops.zero → AllVanish m (ps ++ (p ∷ qs)) w
  vanish_insert [] qs p w all here = (here, all)
  vanish_insert (q ∷ ps) qs p w all here = (all.0, vanish_insert ps qs p w all.1 here)

  pub vanish_without : (ps qs : List (ℕ × List (ℕ × E))) (p : ℕ × List (ℕ × E)) (w : ℕ → V) → AllVanish m (ps ++ (p ∷ qs)) w → AllVanish m (ps ++ qs) w
  vanish_without [] qs p w all = all.1
  vanish_without (q ∷ ps) qs p w all = (all.0, vanish_without ps qs p w all.1)

  pivots_insert : (ps qs : List (ℕ × List (ℕ × E))) (p : ℕ × List (ℕ × E)) → ArePivots m (ps ++ qs) → IsPivot m p.0 p.1 → ArePivots m (ps ++ (p ∷ qs))
  pivots_insert [] qs p all here = (here, all)
  pivots_insert (q ∷ ps) qs p all here = (all.0, pivots_insert ps qs p all.1 here)

  pub echelon_insert : (ps qs : List (ℕ × List (ℕ × E))) (p : ℕ × List (ℕ × E)) → AreEchelon m (ps ++ qs) → AllBelow p.0 ps → StartsFrom p.0 qs → IsAbsent p.0 (ps ++ qs) → IsPivot m p.0 p.1 → AreEchelon m (ps ++ (p ∷ qs))
  echelon_insert ps qs p h below starts absent pivot = record { pivots = pivots_insert ps qs p h.pivots pivot; rising = rising_insert ps qs p h.rising below starts absent }

  -- a multiple of a row
  module _ (row new : List (ℕ × E)) (f : V) (times : (w : ℕ → V) → dot m new w ≡ mul f (dot m row w)) where
    pub multiple_zero : (w : ℕ → V) → dot m row w ≡ m.scalars.ops.zero → dot m new w ≡ m.scalars.ops.zero
    multiple_zero w none = times w ∙ ap (mul f) none ∙ RingFacts.mul_zero m.scalars.ops laws f

    pub multiple_one : (c : ℕ) (v : V) → entry m row c ≡ v → mul v f ≡ m.scalars.ops.one → entry m new c ≡ m.scalars.ops.one
    multiple_one c v here unit = times (unit_at m.scalars.ops c) ∙ ap (mul f) here ∙ laws.mul_comm f v ∙ unit

    pub multiple_back : (v : V) (w : ℕ → V) → mul v f ≡ m.scalars.ops.one → dot m new w ≡ m.scalars.ops.zero → dot m row w ≡ m.scalars.ops.zero
    multiple_back v w unit none =
        sym (laws.mul_comm m.scalars.ops.one (dot m row w) ∙ laws.mul_one (dot m row w)) ∙ ap (λ z. mul z (dot m row w)) (sym unit) ∙ laws.mul_assoc v f (dot m row w)
        ∙ ap (mul v) (sym (times w) ∙ none) ∙ RingFacts.mul_zero m.scalars.ops laws v

  -- the first row of those that are left
  pub row_at : (rows : List (List (ℕ × E))) (k : ℕ) (row : List (ℕ × E)) (w : ℕ → V) → k < length rows → row ≡ get_or rows k row → dot_at m rows k w ≡ dot m row w
  row_at [] k row w within read = absurd (omega (arith, within))
  row_at (r ∷ rows) zero row w within read = let e : row ≡ r = read in ap (λ x. dot m x w) (sym e)
  row_at (r ∷ rows) (suc k) row w within read = row_at rows k row w (omega (arith, within)) read

  -- a row with its own unit column is 0 against the rows
  pub own_zero : (rows : List (List (ℕ × E))) (u k : ℕ) (row ext : List (ℕ × E)) (w : ℕ → V) → k < length rows → row ≡ get_or rows k row → AllBelow u row
      → dot m ext (against m u rows w) ≡ add (dot m row (against m u rows w)) (against m u rows w (u + k)) → dot m ext (against m u rows w) ≡ m.scalars.ops.zero
  own_zero rows u k row ext w within read below value =
      value ∙ ap₂ add (dot-below row u rows w below) (against-unit u k rows w ∙ ap neg (row_at rows k row w within read)) ∙ laws.add_neg (dot m row w)

  -- the first entry of a row times its inverse
  pub times_inverse : (inverses : HasInverses m.scalars) (row : List (ℕ × E)) (first : ℕ × E) (f : V) → 0 < length row → first ≡ get_or row 0 first → IsLine m row → f ≡ m.scalars.inverse (m.value first.1) → mul (m.value first.1) f ≡ m.scalars.ops.one
  times_inverse inverses row first f some read line inverse =
      ap (mul (m.value first.1)) inverse ∙ inverses.mul_inverse (m.value first.1) (LineLaws.units_at m laws row 0 first some read line.units).1

  -- the entry at the first column
  pub lead-value : (row : List (ℕ × E)) (first : ℕ × E) → 0 < length row → first ≡ get_or row 0 first → IsRising row → entry m row (lead_of row) ≡ m.value first.1
  lead-value row first some read rising = ap (entry m row) (lead-first row first some read) ∙ LineLaws.entry-here m laws row 0 first some read rising

  -- a row scaled to 1 at its first column is a pivot's row
  pub scaled_pivot : (inverses : HasInverses m.scalars) (row new : List (ℕ × E)) (first : ℕ × E) (f : V) → 0 < length row → first ≡ get_or row 0 first → IsLine m row → IsLine m new
      → ((w : ℕ → V) → dot m new w ≡ mul f (dot m row w)) → f ≡ m.scalars.inverse (m.value first.1) → IsPivot m first.0 new
  scaled_pivot inverses row new first f some read line new_line times inverse =
      record {
        line = new_line;
        one = multiple_one row new f times first.0 (m.value first.1) (LineLaws.entry-here m laws row 0 first some read line.rising) (times_inverse inverses row first f some read line inverse);
        before = λ d less. multiple_zero row new f times (unit_at m.scalars.ops d) (SystemLaws.before_lead m laws row d line.rising (let e : lead_of row ≡ first.0 = lead-first row first some read in omega arith));
      }

  -- what a row says, from what is left of it
  pub row_zero : (row ext left : List (ℕ × E)) (w : ℕ → V) (x : V) → dot m ext w ≡ add (dot m row w) x → x ≡ m.scalars.ops.zero → dot m left w ≡ dot m ext w → dot m left w ≡ m.scalars.ops.zero → dot m row w ≡ m.scalars.ops.zero
  row_zero row ext left w x value none same zero_left = sym (laws.add_zero (dot m row w)) ∙ ap (add (dot m row w)) (sym none) ∙ sym value ∙ sym same ∙ zero_left

-- the rows of code, at a place
pub rows-next : {E : Type 0} (rows : List (Row E)) (k j : ℕ) (r : Row E) → k < length rows → j ≡ k + 1 → r ≡ get_or rows k r → rows_of (drop k rows) ≡ r.entries ∷ rows_of (drop j rows)
rows-next rows k j r within next read = ap rows_of (LineLaws.next_at rows k r within read) ∙ ap (λ i. r.entries ∷ rows_of (drop i rows)) (sym next)

pub rows-length : {E : Type 0} (rows : List (Row E)) → length (rows_of rows) ≡ length rows
rows-length [] = refl
rows-length (r ∷ rows) = ap suc (rows-length rows)

pub rows-at : {E : Type 0} (rows : List (Row E)) (k : ℕ) (r : Row E) → k < length rows → r ≡ get_or rows k r → r.entries ≡ get_or (rows_of rows) k r.entries
rows-at [] k r within read = absurd (omega (arith, within))
rows-at (q ∷ rows) zero r within read = let e : r ≡ q = read in ap (λ x. x.entries) e
rows-at (q ∷ rows) (suc k) r within read = rows-at rows k r (omega (arith, within)) read

pub valid-at : {E V : Type 0} (m : Meaning E V) (rows : List (Row E)) (k : ℕ) (r : Row E) → k < length rows → r ≡ get_or rows k r → AreRows m rows → IsLine m r.entries
valid-at m [] k r within read all = absurd (omega (arith, within))
valid-at {E = E} m (q ∷ rows) zero r within read all = let e : r ≡ q = read in subst (λ (x : Row E). IsLine m x.entries) (sym e) all.0
valid-at m (q ∷ rows) (suc k) r within read all = valid-at m rows k r (omega (arith, within)) read all.1

pub rows-append : {E : Type 0} (rows more : List (Row E)) → rows_of (rows ++ more) ≡ rows_of rows ++ rows_of more
rows-append [] more = refl
rows-append (r ∷ rows) more = ap (λ ys. r.entries ∷ ys) (rows-append rows more)

pub rows-more : {E : Type 0} (rows : List (Row E)) (k : ℕ) (r : Row E) → k < length rows → r ≡ get_or rows k r → rows_of (take (k + 1) rows) ≡ rows_of (take k rows) ++ (r.entries ∷ [])
rows-more rows k r within read = ap rows_of (take_more rows k r within ∙ ap (λ u. take k rows ++ (u ∷ [])) (sym read)) ∙ rows-append (take k rows) (r ∷ [])

pub rows-length-take : {E : Type 0} (rows : List (Row E)) (k : ℕ) → k ≤ length rows → length (rows_of (take k rows)) ≡ k
rows-length-take rows zero le = refl
rows-length-take [] (suc k) le = absurd (omega (arith, le))
rows-length-take (r ∷ rows) (suc k) le = ap suc (rows-length-take rows k (omega (arith, le)))
