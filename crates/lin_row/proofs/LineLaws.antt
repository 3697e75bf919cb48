-- Rows of entries: sums, orders, and the entry at a column.
use Rattle.std.proofs.Common.{◌≡◌, ◌≢◌, ℕ, zero, suc, ◌+◌, ◌<◌, ◌≤◌, ◌^◌, inl, inr, cond, List, [], ◌∷◌, ◌++◌, length, take, drop, get_or, refl, sym, ap, ap₂, ◌∙◌, arith, add-one, drop-cons, append_assoc, take-append-drop, take_all, length-drop, ◌-◌, subst, ne_eqb, eq-eqb}
use Rattle.std.proofs.lemmas.List.{drop_all}
use Rattle.ring_theory.specs.Ring.{IsCommRing}
use Rattle.ring_theory.specs.Scalars.{Meaning}
use Rattle.ring_theory.proofs.Sums.{two_high}
use Rattle.ring_theory.proofs.RingSolver
use Rattle.lin_row.proofs.RingFacts
use Rattle.lin_row.specs.Lines.{AllAfter, IsRising, AllUnits, dot, unit_at, entry, SumIsRefused, StartsFrom, EntryRefused}

-- what is left at a place begins with the element there
pub next_at : {X : Type 0} (xs : List X) (i : ℕ) (x : X) → i < length xs → x ≡ get_or xs i x → drop i xs ≡ x ∷ drop (i + 1) xs
next_at xs i x within read = rw add-one (drop-cons xs i x within ∙ ap (λ y. y ∷ drop (suc i) xs) (sym read))

-- the whole list around a place
pub around : {X : Type 0} (xs : List X) (i : ℕ) (x : X) → i < length xs → x ≡ get_or xs i x → xs ≡ take i xs ++ (x ∷ drop (i + 1) xs)
around xs i x within read = sym (take-append-drop i xs) ∙ ap (λ ys. take i xs ++ ys) (next_at xs i x within read)

-- all that is left at a place
pub rest_whole : {X : Type 0} (i : ℕ) (xs : List X) → take (length xs - i) (drop i xs) ≡ drop i xs
rest_whole i xs = take_all (length xs - i) (drop i xs) (omega (arith, length-drop i xs))

-- two readings of one place
pub same_read : {X : Type 0} (xs : List X) (i : ℕ) (x y : X) → i < length xs → x ≡ get_or xs i x → y ≡ get_or xs i y → x ≡ y
same_read xs i x y within p q = let e : x ∷ drop (i + 1) xs ≡ y ∷ drop (i + 1) xs = sym (next_at xs i x within p) ∙ next_at xs i y within q in cc e

-- ---- orders
module _ {E : Type 0} where
  pub after_trans : (ts : List (ℕ × E)) (a b : ℕ) → a < b → AllAfter b ts → AllAfter a ts
  after_trans [] a b less all = tt
  after_trans (t ∷ ts) a b less all = ((let h : b < t.0 = all.0 in omega arith), after_trans ts a b less all.1)

  pub after_append : (xs ys : List (ℕ × E)) (a : ℕ) → AllAfter a xs → AllAfter a ys → AllAfter a (xs ++ ys)
  after_append [] ys a p q = q
  after_append (x ∷ xs) ys a p q = (p.0, after_append xs ys a p.1 q)

  pub after_left : (xs ys : List (ℕ × E)) (a : ℕ) → AllAfter a (xs ++ ys) → AllAfter a xs
  after_left [] ys a p = tt
  after_left (x ∷ xs) ys a p = (p.0, after_left xs ys a p.1)

  pub after_right : (xs ys : List (ℕ × E)) (a : ℕ) → AllAfter a (xs ++ ys) → AllAfter a ys
  after_right [] ys a p = p
  after_right (x ∷ xs) ys a p = after_right xs ys a p.1

  pub rising_left : (xs ys : List (ℕ × E)) → IsRising (xs ++ ys) → IsRising xs
  rising_left [] ys p = tt
  rising_left (x ∷ xs) ys p = (after_left xs ys x.0 p.0, rising_left xs ys p.1)

  pub rising_right : (xs ys : List (ℕ × E)) → IsRising (xs ++ ys) → IsRising ys
  rising_right [] ys p = p
  rising_right (x ∷ xs) ys p = rising_right xs ys p.1

  -- an entry between two parts
  pub rising_between : (xs ys zs : List (ℕ × E)) (y z : ℕ × E) → y.0 < z.0 → IsRising (xs ++ (y ∷ ys)) → IsRising (xs ++ (z ∷ zs)) → IsRising (xs ++ (y ∷ (z ∷ zs)))
  rising_between [] ys zs y z less p q = ((less, after_trans zs y.0 z.0 less q.0), q)
  rising_between (x ∷ xs) ys zs y z less p q = (
    after_append xs (y ∷ (z ∷ zs)) x.0 (after_left xs (y ∷ ys) x.0 p.0) ((after_right xs (y ∷ ys) x.0 p.0).0, after_right xs (z ∷ zs) x.0 q.0),
    rising_between xs ys zs y z less p.1 q.1,
  )

  -- the same for the end of a part: nothing follows yet
  pub rising_drop : (xs ys : List (ℕ × E)) (y : ℕ × E) → IsRising (xs ++ (y ∷ ys)) → IsRising (xs ++ ys)
  rising_drop [] ys y p = p.1
  rising_drop (x ∷ xs) ys y p = (after_append xs ys x.0 (after_left xs (y ∷ ys) x.0 p.0) ((after_right xs (y ∷ ys) x.0 p.0).1), rising_drop xs ys y p.1)

  -- another entry in the same column
  pub rising_same : (xs ys : List (ℕ × E)) (y z : ℕ × E) → y.0 ≡ z.0 → IsRising (xs ++ (y ∷ ys)) → IsRising (xs ++ (z ∷ ys))
  rising_same [] ys y z same p = (rw same at p.0, p.1)
  rising_same (x ∷ xs) ys y z same p = (
    after_append xs (z ∷ ys) x.0 (after_left xs (y ∷ ys) x.0 p.0) ((let h : x.0 < y.0 = (after_right xs (y ∷ ys) x.0 p.0).0 in omega arith), (after_right xs (y ∷ ys) x.0 p.0).1),
    rising_same xs ys y z same p.1,
  )

  -- a part goes on after an entry, as another does
  pub rising_swap : (xs ys zs : List (ℕ × E)) (y z : ℕ × E) → y.0 ≡ z.0 → IsRising (xs ++ (y ∷ ys)) → IsRising (xs ++ (z ∷ zs)) → IsRising (xs ++ (y ∷ zs))
  rising_swap xs ys zs y z same p q = rising_same xs zs z y (sym same) q

module _ {E V : Type 0} (m : Meaning E V) (laws : IsCommRing m.scalars.ops) where
  open m.scalars.ops use {add, mul, neg}

  pub units_append : (xs ys : List (ℕ × E)) → AllUnits m xs → AllUnits m ys → AllUnits m (xs ++ ys)
  units_append [] ys p q = q
  units_append (x ∷ xs) ys p q = (p.0, units_append xs ys p.1 q)

  pub units_drop : (i : ℕ) (xs : List (ℕ × E)) → AllUnits m xs → AllUnits m (drop i xs)
  units_drop zero xs p = p
  units_drop (suc i) [] p = tt
  units_drop (suc i) (x ∷ xs) p = units_drop i xs p.1

  pub units_at : (xs : List (ℕ × E)) (i : ℕ) (t : ℕ × E) → i < length xs → t ≡ get_or xs i t → AllUnits m xs → m.is_elem t.1 × (m.value t.1 ≢ m.scalars.ops.zero)
  units_at [] i t within read all = absurd (omega (arith, within))
  units_at (x ∷ xs) zero t within read all = rw read all.0
  units_at (x ∷ xs) (suc i) t within read all = units_at xs i t (omega (arith, within)) read all.1

  pub dot-append : (xs ys : List (ℕ × E)) (w : ℕ → V) → dot m (xs ++ ys) w ≡ add (dot m xs w) (dot m ys w)
  dot-append [] ys w = sym (RingSolver.zero_add m.scalars.ops laws (dot m ys w))
  dot-append (x ∷ xs) ys w = ap (add (mul (m.value x.1) (w x.0))) (dot-append xs ys w) ∙ sym (laws.add_assoc _ _ _)

  pub dot-push : (xs : List (ℕ × E)) (x : ℕ × E) (w : ℕ → V) → dot m (xs ++ (x ∷ [])) w ≡ add (dot m xs w) (mul (m.value x.1) (w x.0))
  dot-push xs x w = dot-append xs (x ∷ []) w ∙ ap (add (dot m xs w)) (laws.add_zero _)

  pub unit_other : (c d : ℕ) → c ≢ d → unit_at m.scalars.ops c d ≡ m.scalars.ops.zero
  unit_other c d differ = ap (λ b. cond b m.scalars.ops.one m.scalars.ops.zero) (ne_eqb c d differ)

  pub unit_self : (c : ℕ) → unit_at m.scalars.ops c c ≡ m.scalars.ops.one
  unit_self c = ap (λ b. cond b m.scalars.ops.one m.scalars.ops.zero) (eq-eqb c c refl)

  -- the entry in another column than the first
  pub entry-later : (x : ℕ × E) (xs : List (ℕ × E)) (c : ℕ) → c ≢ x.0 → entry m (x ∷ xs) c ≡ entry m xs c
  entry-later x xs c differ =
      ap (λ z. add (mul (m.value x.1) z) (entry m xs c)) (unit_other c x.0 differ) ∙ ap (λ z. add z (entry m xs c)) (RingFacts.mul_zero m.scalars.ops laws (m.value x.1)) ∙ RingSolver.zero_add m.scalars.ops laws (entry m xs c)

  -- where only later columns stand there is nothing at c
  pub entry-after : (xs : List (ℕ × E)) (c : ℕ) → AllAfter c xs → entry m xs c ≡ m.scalars.ops.zero
  entry-after [] c all = refl
  entry-after (x ∷ xs) c all = entry-later x xs c (λ e. let h : c < x.0 = all.0 in omega arith) ∙ entry-after xs c all.1

  -- the entry in the column of the first
  pub entry-first : (x : ℕ × E) (xs : List (ℕ × E)) → AllAfter x.0 xs → entry m (x ∷ xs) x.0 ≡ m.value x.1
  entry-first x xs all =
      ap (λ z. add (mul (m.value x.1) z) (entry m xs x.0)) (unit_self x.0) ∙ ap₂ add (laws.mul_one (m.value x.1)) (entry-after xs x.0 all) ∙ laws.add_zero (m.value x.1)

  after_at : (a : ℕ) (ys : List (ℕ × E)) (j : ℕ) (u : ℕ × E) → j < length ys → u ≡ get_or ys j u → AllAfter a ys → a < u.0
  after_at a [] j u inside at all = absurd (omega (arith, inside))
  after_at a (y ∷ ys) zero u inside at all = let e : u ≡ y = at in rw e all.0
  after_at a (y ∷ ys) (suc j) u inside at all = after_at a ys j u (omega (arith, inside)) at all.1

  -- an entry of a row is the row's entry in its column
  pub entry-here : (xs : List (ℕ × E)) (i : ℕ) (t : ℕ × E) → i < length xs → t ≡ get_or xs i t → IsRising xs → entry m xs t.0 ≡ m.value t.1
  entry-here [] i t within read rising = absurd (omega (arith, within))
  entry-here (x ∷ xs) zero t within read rising = let e : t ≡ x = read in subst (λ u. entry m (x ∷ xs) u.0 ≡ m.value u.1) (sym e) (entry-first x xs rising.0)
  entry-here (x ∷ xs) (suc i) t within read rising =
      let later : x.0 < t.0 = after_at x.0 xs i t (omega (arith, within)) read rising.0 in
      entry-later x xs t.0 (λ e. omega arith) ∙ entry-here xs i t (omega (arith, within)) read rising.1

-- ---- what the steps of a sum of rows do
module _ {E : Type 0} where
  pub copied_items : (line from : List (ℕ × E)) (i : ℕ) (t : ℕ × E) → i < length from → t ≡ get_or from i t → (line ++ (t ∷ [])) ++ drop (i + 1) from ≡ line ++ drop i from
  copied_items line from i t within read = append_assoc line (t ∷ []) (drop (i + 1) from) ∙ ap (λ ys. line ++ ys) (sym (next_at from i t within read))

  -- an entry of the first row goes over, below the column of the next one
  pub copied_rising : (line from rest : List (ℕ × E)) (i : ℕ) (t y : ℕ × E) → i < length from → t ≡ get_or from i t → t.0 < y.0 → IsRising (line ++ drop i from) → IsRising (line ++ (y ∷ rest)) → IsRising ((line ++ (t ∷ [])) ++ (y ∷ rest))
  copied_rising line from rest i t y within read less p q =
      subst (λ ys. IsRising ys) (sym (append_assoc line (t ∷ []) (y ∷ rest)))
      (rising_between line (drop (i + 1) from) rest t y less (subst (λ ys. IsRising (line ++ ys)) (next_at from i t within read) p) q)

  pub starts_at : (from : List (ℕ × E)) (i : ℕ) (t : ℕ × E) (c : ℕ) → i < length from → t ≡ get_or from i t → c ≤ t.0 → StartsFrom c (drop i from)
  starts_at from i t c within read low = subst (λ ys. StartsFrom c ys) (sym (next_at from i t within read)) low

  pub starts_nowhere : (from : List (ℕ × E)) (i c : ℕ) → length from ≤ i → StartsFrom c (drop i from)
  starts_nowhere from i c end = subst (λ ys. StartsFrom c ys) (sym (drop_all i from end)) tt

  pub both_left : (line from : List (ℕ × E)) (i : ℕ) (t y : ℕ × E) → i < length from → t ≡ get_or from i t → t.0 ≡ y.0 → IsRising (line ++ drop i from) → IsRising (line ++ (y ∷ drop (i + 1) from))
  both_left line from i t y within read same p = rising_same line (drop (i + 1) from) t y same (subst (λ ys. IsRising (line ++ ys)) (next_at from i t within read) p)

  pub single_some : (line from rest : List (ℕ × E)) (i : ℕ) (t x y : ℕ × E) → i < length from → t ≡ get_or from i t → t.0 ≢ x.0 → y.0 ≡ x.0 → StartsFrom x.0 (drop i from) → IsRising (line ++ drop i from) → IsRising (line ++ (y ∷ rest)) → IsRising (line ++ (x ∷ drop i from))
  single_some line from rest i t x y within read differ same starts p q =
      let next = next_at from i t within read in
      let low : x.0 ≤ t.0 = subst (λ ys. StartsFrom x.0 ys) next starts in
      let less : x.0 < t.0 = omega arith in
      subst (λ ys. IsRising (line ++ (x ∷ ys))) (sym next)
      (rising_between line rest (drop (i + 1) from) x t less (rising_same line rest y x same q) (subst (λ ys. IsRising (line ++ ys)) next p))

  pub single_none : (line from rest : List (ℕ × E)) (i : ℕ) (x y : ℕ × E) → length from ≤ i → y.0 ≡ x.0 → IsRising (line ++ (y ∷ rest)) → IsRising (line ++ (x ∷ drop i from))
  single_none line from rest i x y end same q =
      subst (λ ys. IsRising (line ++ (x ∷ ys))) (sym (drop_all i from end))
      (rising_left (line ++ (x ∷ [])) rest (subst (λ ys. IsRising ys) (sym (append_assoc line (x ∷ []) rest)) (rising_same line rest y x same q)))

module _ {E V : Type 0} (m : Meaning E V) (laws : IsCommRing m.scalars.ops) where
  open m.scalars.ops use {add, mul, neg}

  pub units_left : (xs ys : List (ℕ × E)) → AllUnits m (xs ++ ys) → AllUnits m xs
  units_left [] ys p = tt
  units_left (x ∷ xs) ys p = (p.0, units_left xs ys p.1)

  -- what was copied is valid, since what was there and is to come is
  pub units_copied : (old new xs ys : List (ℕ × E)) → new ++ ys ≡ old ++ xs → AllUnits m old → AllUnits m xs → AllUnits m new
  units_copied old new xs ys e p q = units_left new ys (subst (λ zs. AllUnits m zs) (sym e) (units_append m laws old xs p q))

  -- one entry of b more
  pub added_value : (f t w d s : V) → add (add s (mul (mul f t) w)) (mul f d) ≡ add s (mul f (add (mul t w) d))
  added_value f t w d s =
      laws.add_assoc s (mul (mul f t) w) (mul f d) ∙ ap (λ z. add s (add z (mul f d))) (laws.mul_assoc f t w) ∙ ap (add s) (sym (RingSolver.distrib_left m.scalars.ops laws f (mul t w) d))

  pub added_step : (sum sum1 sum2 a b : List (ℕ × E)) (i i1 i2 j : ℕ) (t : ℕ × E) (f p total : V) (w : ℕ → V) → j < length b → t ≡ get_or b j t → p ≡ mul f (m.value t.1)
      → sum1 ++ drop i1 a ≡ sum ++ drop i a
      → add (dot m sum2 w) (dot m (drop i2 a) w) ≡ add (add (dot m sum1 w) (dot m (drop i1 a) w)) (mul p (w t.0))
      → add (add (dot m sum w) (dot m (drop i a) w)) (mul f (dot m (drop j b) w)) ≡ total
      → add (add (dot m sum2 w) (dot m (drop i2 a) w)) (mul f (dot m (drop (j + 1) b) w)) ≡ total
  added_step sum sum1 sum2 a b i i1 i2 j t f p total w within read product items next before =
      let d = dot m (drop (j + 1) b) w in
      let s = add (dot m sum w) (dot m (drop i a) w) in
      let same : add (dot m sum1 w) (dot m (drop i1 a) w) ≡ s = sym (dot-append m laws sum1 (drop i1 a) w) ∙ ap (λ zs. dot m zs w) items ∙ dot-append m laws sum (drop i a) w in
      let here : dot m (drop j b) w ≡ add (mul (m.value t.1) (w t.0)) d = ap (λ zs. dot m zs w) (next_at b j t within read) in
      ap (λ z. add z (mul f d)) (next ∙ ap₂ add same (ap (λ z. mul z (w t.0)) product)) ∙ added_value f (m.value t.1) (w t.0) d s ∙ ap (λ z. add s (mul f z)) (sym here) ∙ before

  pub added_end : (sum a b : List (ℕ × E)) (i j : ℕ) (f total : V) (w : ℕ → V) → length b ≤ j
      → add (add (dot m sum w) (dot m (drop i a) w)) (mul f (dot m (drop j b) w)) ≡ total
      → dot m (sum ++ drop i a) w ≡ total
  added_end sum a b i j f total w end before =
      let s = add (dot m sum w) (dot m (drop i a) w) in
      let nothing : mul f (dot m (drop j b) w) ≡ m.scalars.ops.zero = ap (λ zs. mul f (dot m zs w)) (drop_all j b end) ∙ RingFacts.mul_zero m.scalars.ops laws f in
      dot-append m laws sum (drop i a) w ∙ sym (laws.add_zero s) ∙ ap (add s) (sym nothing) ∙ before

  pub product_refused : (a b : List (ℕ × E)) (j : ℕ) (t : ℕ × E) (f : V) → j < length b → t ≡ get_or b j t → IsRising b → 2 ^ 120 ≤ m.scalars.product_height f (m.value t.1) → SumIsRefused m.scalars (entry m a) f (entry m b)
  product_refused a b j t f within read rising high =
      record { column = t.0; high = inl (subst (λ z. 2 ^ 120 ≤ m.scalars.product_height f z) (sym (entry-here m laws b j t within read rising)) high) }

  pub entry_refused : (a b : List (ℕ × E)) (j : ℕ) (t : ℕ × E) (f p : V) → j < length b → t ≡ get_or b j t → IsRising a → IsRising b → p ≡ mul f (m.value t.1) → EntryRefused m a t.0 p → SumIsRefused m.scalars (entry m a) f (entry m b)
  entry_refused a b j t f p within read rising_a rising_b product r =
      let in_b : p ≡ mul f (entry m b t.0) = product ∙ ap (mul f) (sym (entry-here m laws b j t within read rising_b)) in
      let in_a : m.value r.at.1 ≡ entry m a t.0 = sym (entry-here m laws a r.place r.at r.within r.read rising_a) ∙ ap (entry m a) r.column in
      record { column = t.0; high = inr (subst (λ z. 2 ^ 120 ≤ m.scalars.sum_height (z ∷ mul f (entry m b t.0) ∷ [])) in_a (subst (λ z. 2 ^ 120 ≤ m.scalars.sum_height (m.value r.at.1 ∷ z ∷ [])) in_b (two_high m.scalars laws (m.value r.at.1) p r.high))) }
