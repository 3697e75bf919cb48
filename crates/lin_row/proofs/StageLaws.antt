-- Lists of rows, and the search for the next row of the plain reduction.
use Rattle.std.proofs.Common.{◌≡◌, ◌≢◌, ℕ, zero, suc, ◌+◌, ◌<◌, ◌≤◌, inl, inr, min, List, [], ◌∷◌, ◌++◌, length, take, drop, get_or, map, refl, sym, ap, ◌∙◌, arith, subst, Vec, Global, Option, None, Some, IfSome, MatchOption}
use Rattle.std.proofs.lemmas.List.{take_more}
use Rattle.ring_theory.specs.Scalars.{Meaning}
use Rattle.lin_row.specs.Lines.{EachOf, lead_of, entry}
use Rattle.lin_row.specs.System.{IsClearing, lines_of}
use Rattle.lin_row.specs.Plain.{Among}
use Rattle.lin_row.specs.Stages.{items_of, functions_of, AreCleared, ArePivotsCleared, IsLeast}
use Rattle.lin_row.proofs.SystemLaws

module _ {X : Type 0} where
  pub each_push : (P : X → Type 0) (xs : List X) (x : X) → EachOf P xs → P x → EachOf P (xs ++ (x ∷ []))
  each_push P [] x all h = (h, tt)
  each_push P (y ∷ xs) x all h = (all.0, each_push P xs x all.1 h)

  pub each_left : (P : X → Type 0) (xs ys : List X) → EachOf P (xs ++ ys) → EachOf P xs
  each_left P [] ys all = tt
  each_left P (x ∷ xs) ys all = (all.0, each_left P xs ys all.1)

  pub each_right : (P : X → Type 0) (xs ys : List X) → EachOf P (xs ++ ys) → EachOf P ys
  each_right P [] ys all = all
  each_right P (x ∷ xs) ys all = each_right P xs ys all.1

  pub each_append : (P : X → Type 0) (xs ys : List X) → EachOf P xs → EachOf P ys → EachOf P (xs ++ ys)
  each_append P [] ys a b = b
  each_append P (x ∷ xs) ys a b = (a.0, each_append P xs ys a.1 b)

  pub each_weaker : (P Q : X → Type 0) (xs : List X) → ((x : X) → P x → Q x) → EachOf P xs → EachOf Q xs
  each_weaker P Q [] f all = tt
  each_weaker P Q (x ∷ xs) f all = (f x all.0, each_weaker P Q xs f all.1)

module _ {E : Type 0} where
  pub items-append : (vs ws : List (Vec (ℕ × E) Global)) → items_of (vs ++ ws) ≡ items_of vs ++ items_of ws
  items-append [] ws = refl
  items-append (v ∷ vs) ws = ap (λ ys. v.items ∷ ys) (items-append vs ws)

  pub items-length : (vs : List (Vec (ℕ × E) Global)) → length (items_of vs) ≡ length vs
  items-length [] = refl
  items-length (v ∷ vs) = ap suc (items-length vs)

  pub items-take : (i : ℕ) (vs : List (Vec (ℕ × E) Global)) → take i (items_of vs) ≡ items_of (take i vs)
  items-take zero vs = refl
  items-take (suc i) [] = refl
  items-take (suc i) (v ∷ vs) = ap (λ ys. v.items ∷ ys) (items-take i vs)

  pub items-drop : (i : ℕ) (vs : List (Vec (ℕ × E) Global)) → drop i (items_of vs) ≡ items_of (drop i vs)
  items-drop zero vs = refl
  items-drop (suc i) [] = refl
  items-drop (suc i) (v ∷ vs) = items-drop i vs

module _ {E : Type 0} (vs : List (Vec (ℕ × E) Global)) (i : ℕ) (v : Vec (ℕ × E) Global) (within : i < length vs) (read : v ≡ get_or vs i v) where
  pub items-more : items_of (take (i + 1) vs) ≡ items_of (take i vs) ++ (v.items ∷ [])
  items-more = ap items_of (take_more vs i v within ∙ ap (λ u. take i vs ++ (u ∷ [])) (sym read)) ∙ items-append (take i vs) (v ∷ [])

  pub items-at : get_or (items_of vs) i [] ≡ v.items
  items-at = go vs i within read
    where
      go : (ws : List (Vec (ℕ × E) Global)) (j : ℕ) → j < length ws → v ≡ get_or ws j v → get_or (items_of ws) j [] ≡ v.items
      go [] j inside at = absurd (omega (arith, inside))
      go (w ∷ ws) zero inside at = let e : v ≡ w = at in ap (λ (u : Vec (ℕ × E) Global). u.items) (sym e)
      go (w ∷ ws) (suc j) inside at = go ws j (omega (arith, inside)) at

  pub each_at : (P : List (ℕ × E) → Type 0) → EachOf P (items_of vs) → P v.items
  each_at P all = go vs i within read all
    where
      go : (ws : List (Vec (ℕ × E) Global)) (j : ℕ) → j < length ws → v ≡ get_or ws j v → EachOf P (items_of ws) → P v.items
      go [] j inside at h = absurd (omega (arith, inside))
      go (w ∷ ws) zero inside at h = let e : v ≡ w = at in subst (λ (u : Vec (ℕ × E) Global). P u.items) (sym e) h.0
      go (w ∷ ws) (suc j) inside at h = go ws j (omega (arith, inside)) at h.1

  pub each_more : (P : List (ℕ × E) → Type 0) → EachOf P (items_of (take i vs)) → P v.items → EachOf P (items_of (take (i + 1) vs))
  each_more P all h = subst (EachOf P) (sym items-more) (each_push P (items_of (take i vs)) v.items all h)

  -- the least of the first columns so far
  pub least_more : (a b : ℕ) → b ≡ min a (lead_of v.items) → EachOf (λ r. a ≤ lead_of r) (items_of (take i vs)) → EachOf (λ r. b ≤ lead_of r) (items_of (take (i + 1) vs))
  least_more a b e all = each_more (λ r. b ≤ lead_of r) (each_weaker (λ r. a ≤ lead_of r) (λ r. b ≤ lead_of r) (items_of (take i vs)) (λ r h. omega arith) all) (omega arith)

  pub least_some : (a b u : ℕ) → b ≡ min a (lead_of v.items) → (EachOf (λ r. lead_of r ≢ a) (items_of (take i vs)) → a ≡ u) → EachOf (λ r. lead_of r ≢ b) (items_of (take (i + 1) vs)) → b ≡ u
  least_some a b u e before all =
      let split = subst (EachOf (λ r. lead_of r ≢ b)) items-more all in
      let own : lead_of v.items ≢ b = (each_right (λ r. lead_of r ≢ b) (items_of (take i vs)) (v.items ∷ []) split).0 in
      let same : b ≡ a = omega arith in
      same ∙ before (subst (λ x. EachOf (λ r. lead_of r ≢ x) (items_of (take i vs))) same (each_left (λ r. lead_of r ≢ b) (items_of (take i vs)) (v.items ∷ []) split))

-- the first row that begins in the least column
pub next_least : {E : Type 0} (rows : List (Vec (ℕ × E) Global)) (o : Option ℕ) (u least : ℕ) → least < u → EachOf (λ r. least ≤ lead_of r) (items_of rows) → (EachOf (λ r. lead_of r ≢ least) (items_of rows) → least ≡ u)
    → MatchOption o (EachOf (λ r. lead_of r ≢ least) (items_of rows)) (λ i. i < length rows) → IfSome o (λ i. lead_of (get_or (items_of rows) i []) ≡ least) → IfSome o (λ i. EachOf (λ r. lead_of r ≢ least) (take i (items_of rows)))
    → MatchOption o (EachOf (λ r. u ≤ lead_of r) (items_of rows)) (IsLeast u (items_of rows))
next_least rows None u least low all some none found first = absurd (let e : least ≡ u = some none in omega arith)
next_least rows (Some i) u least low all some within found first =
    record {
      within = omega (arith, items-length rows, within);
      given = subst (λ x. x < u) (sym found) low;
      first = subst (λ x. EachOf (λ r. lead_of r ≢ x) (take i (items_of rows))) (sym found) first;
      least = subst (λ x. EachOf (λ r. x ≤ lead_of r) (items_of rows)) (sym found) all;
    }

module _ {E V : Type 0} (m : Meaning E V) (c : ℕ) (pivot : List (ℕ × E)) where
  cleared_push : (xs ys : List (List (ℕ × E))) (x y : List (ℕ × E)) → AreCleared m c pivot xs ys → IsClearing m c pivot x y → AreCleared m c pivot (xs ++ (x ∷ [])) (ys ++ (y ∷ []))
  cleared_push [] [] x y all h = (h, tt)
  cleared_push [] (z ∷ ys) x y all h = absurd all
  cleared_push (z ∷ xs) [] x y all h = absurd all
  cleared_push (z ∷ xs) (t ∷ ys) x y all h = (all.0, cleared_push xs ys x y all.1 h)

  pub cleared_more : (vs ws : List (Vec (ℕ × E) Global)) (i : ℕ) (v w : Vec (ℕ × E) Global) → i < length vs → v ≡ get_or vs i v → AreCleared m c pivot (items_of (take i vs)) (items_of ws) → IsClearing m c pivot v.items w.items
      → AreCleared m c pivot (items_of (take (i + 1) vs)) (items_of (ws ++ (w ∷ [])))
  cleared_more vs ws i v w within read all h =
      subst (λ xs. AreCleared m c pivot xs (items_of (ws ++ (w ∷ [])))) (sym (items-more vs i v within read))
      (subst (AreCleared m c pivot (items_of (take i vs) ++ (v.items ∷ []))) (sym (items-append ws (w ∷ []))) (cleared_push (items_of (take i vs)) (items_of ws) v.items w.items all h))

  pivots_push : (xs ys : List (ℕ × List (ℕ × E))) (x y : ℕ × List (ℕ × E)) → ArePivotsCleared m c pivot xs ys → y.0 ≡ x.0 → IsClearing m c pivot x.1 y.1 → ArePivotsCleared m c pivot (xs ++ (x ∷ [])) (ys ++ (y ∷ []))
  pivots_push [] [] x y all e h = ((e, h), tt)
  pivots_push [] (z ∷ ys) x y all e h = absurd all
  pivots_push (z ∷ xs) [] x y all e h = absurd all
  pivots_push (z ∷ xs) (t ∷ ys) x y all e h = (all.0, pivots_push xs ys x y all.1 e h)

  pub pivots_more : (vs ws : List (ℕ × Vec (ℕ × E) Global)) (i : ℕ) (v : ℕ × Vec (ℕ × E) Global) (w : Vec (ℕ × E) Global) → i < length vs → v ≡ get_or vs i v → ArePivotsCleared m c pivot (lines_of (take i vs)) (lines_of ws) → IsClearing m c pivot v.1.items w.items
      → ArePivotsCleared m c pivot (lines_of (take (i + 1) vs)) (lines_of (ws ++ ((v.0, w) ∷ [])))
  pivots_more vs ws i v w within read all h =
      subst (λ xs. ArePivotsCleared m c pivot xs (lines_of (ws ++ ((v.0, w) ∷ [])))) (sym (SystemLaws.lines-more vs i v within read))
      (subst (ArePivotsCleared m c pivot (lines_of (take i vs) ++ ((v.0, v.1.items) ∷ []))) (sym (SystemLaws.lines-push ws (v.0, w))) (pivots_push (lines_of (take i vs)) (lines_of ws) (v.0, v.1.items) (v.0, w.items) all refl h))

-- a row of code that meets P, among the rows' entries
module _ {E V : Type 0} (m : Meaning E V) where
  pub among_at : (P : (ℕ → V) → Type 0) (vs : List (Vec (ℕ × E) Global)) (i : ℕ) (v : Vec (ℕ × E) Global) → i < length vs → v ≡ get_or vs i v → P (entry m v.items) → Among P (map (entry m) (items_of vs))
  among_at P [] i v within read h = absurd (omega (arith, within))
  among_at P (x ∷ vs) zero v within read h = let e : v ≡ x = read in inl (subst (λ (y : Vec (ℕ × E) Global). P (entry m y.items)) e h)
  among_at P (x ∷ vs) (suc i) v within read h = inr (among_at P vs i v (omega (arith, within)) read h)

  pub among_pivots : (P : ℕ × (ℕ → V) → Type 0) (vs : List (ℕ × Vec (ℕ × E) Global)) (i : ℕ) (v : ℕ × Vec (ℕ × E) Global) → i < length vs → v ≡ get_or vs i v → P (v.0, entry m v.1.items) → Among P (functions_of m (lines_of vs))
  among_pivots P [] i v within read h = absurd (omega (arith, within))
  among_pivots P (x ∷ vs) zero v within read h = let e : v ≡ x = read in inl (subst (λ (y : ℕ × Vec (ℕ × E) Global). P (y.0, entry m y.1.items)) e h)
  among_pivots P (x ∷ vs) (suc i) v within read h = inr (among_pivots P vs i v (omega (arith, within)) read h)

  pub pivot_line_at : (P : List (ℕ × E) → Type 0) (vs : List (ℕ × Vec (ℕ × E) Global)) (i : ℕ) (v : ℕ × Vec (ℕ × E) Global) → i < length vs → v ≡ get_or vs i v → EachOf (λ p. P p.1) (lines_of vs) → P v.1.items
  pivot_line_at P [] i v within read h = absurd (omega (arith, within))
  pivot_line_at P (x ∷ vs) zero v within read h = let e : v ≡ x = read in subst (λ (y : ℕ × Vec (ℕ × E) Global). P y.1.items) (sym e) h.0
  pivot_line_at P (x ∷ vs) (suc i) v within read h = pivot_line_at P vs i v (omega (arith, within)) read h.1
