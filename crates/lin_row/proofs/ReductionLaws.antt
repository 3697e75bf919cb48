-- Targets reduced by a system: the coefficients by unit columns, and what the reduced form says of what is left.
use Rattle.std.proofs.Common.{◌≡◌, ◌≢◌, ℕ, zero, suc, ◌+◌, ◌-◌, ◌<◌, ◌≤◌, ◌⊎◌, inl, inr, Bool, true, false, cond, nat_lt, List, [], ◌∷◌, ◌++◌, length, take, drop, get_or, map, refl, sym, ap, ap₂, ◌∙◌, arith, subst}
use Rattle.std.proofs.lemmas.List.{take_more}
use Rattle.std.proofs.Math.Decide.{dec_le}
use Rattle.ring_theory.specs.Ring.{IsCommRing}
use Rattle.ring_theory.specs.Scalars.{Meaning}
use Rattle.ring_theory.proofs.RingSolver
use Rattle.lin_row.specs.Lines.{AllBelow, AllUnits, IsRising, EachOf, IsLine, lead_of, given_part, dot, entry}
use Rattle.lin_row.specs.System.{ArePivots, IsCleared, against, dot_at}
use Rattle.lin_row.specs.Plain.{Among, ClearingIsHigh, RemainderIsHigh}
use Rattle.lin_row.specs.Stages.{IsEnd, functions_of}
use Rattle.lin_row.specs.Reductions.{after_units, IsRemainder, AreRemainders}
use Rattle.lin_row.specs.declared.row.Row.{Row}
use Rattle.lin_row.specs.declared.row.Remainder.{Remainder}
use Rattle.lin_row.proofs.RingFacts
use Rattle.lin_row.proofs.LineLaws
use Rattle.lin_row.proofs.SystemLaws
use Rattle.lin_row.proofs.BuildLaws
use Rattle.lin_row.proofs.ExcludedLaws
use Rattle.lin_row.proofs.FormLaws

module _ {E V : Type 0} (m : Meaning E V) (laws : IsCommRing m.scalars.ops) where
  open m.scalars.ops use {add, mul, neg}

  -- ---- the coefficients
  abbrev after : ℕ → (ℕ → V) → ℕ → V
  after u w = after_units m.scalars.ops u w

  -- there is no row from the number of rows on
  pub no_row : (rows : List (List (ℕ × E))) (w : ℕ → V) (j : ℕ) → length rows ≤ j → dot_at m rows j w ≡ m.scalars.ops.zero
  no_row [] w j h = refl
  no_row (row ∷ rows) w zero h = absurd (omega (arith, h))
  no_row (row ∷ rows) w (suc j) h = no_row rows w j (omega (arith, h))

  dot-against : (xs : List (ℕ × E)) (u : ℕ) (rows : List (List (ℕ × E))) (w : ℕ → V)
      → dot m xs (against m u rows w) ≡ add (dot m xs (FormLaws.within m laws u w)) (neg (dot m xs (after u (λ j. dot_at m rows j w))))
  dot-against xs u rows w =
      ExcludedLaws.dot-same m laws xs (against m u rows w) (λ d. add (FormLaws.within m laws u w d) (neg (after u (λ j. dot_at m rows j w) d))) (λ d. split (nat_lt d u) (w d) (dot_at m rows (d - u) w))
      ∙ FormLaws.dot_add m laws xs (FormLaws.within m laws u w) (λ d. neg (after u (λ j. dot_at m rows j w) d))
      ∙ ap (add (dot m xs (FormLaws.within m laws u w))) (FormLaws.dot_neg m laws xs (after u (λ j. dot_at m rows j w)))
    where
      split : (b : Bool) (x y : V) → cond b x (neg y) ≡ add (cond b x m.scalars.ops.zero) (neg (cond b m.scalars.ops.zero y))
      split true x y = sym (ap (add x) (RingSolver.neg_zero m.scalars.ops laws) ∙ laws.add_zero x)
      split false x y = sym (RingSolver.zero_add m.scalars.ops laws (neg y))

  -- a target is what is left of it and the combination that was taken away
  pub rest_sum : (left target coefficients : List (ℕ × E)) (u : ℕ) (rows : List (List (ℕ × E))) (w : ℕ → V) → IsRising left → AllBelow u target
      → dot m coefficients (λ j. dot_at m rows j w) ≡ neg (dot m left (after u (λ j. dot_at m rows j w))) → dot m left (against m u rows w) ≡ dot m target (against m u rows w)
      → dot m target w ≡ add (dot m (given_part u left) w) (dot m coefficients (λ j. dot_at m rows j w))
  rest_sum left target coefficients u rows w rising below negated same =
      sym (BuildLaws.dot-below m laws target u rows w below) ∙ sym same ∙ dot-against left u rows w ∙ ap₂ add (sym (FormLaws.given-dot m laws left u w rising)) (sym negated)

  -- what is left keeps its zeros without the unit columns
  pub given_cleared : (u : ℕ) (ps : List (ℕ × List (ℕ × E))) (left : List (ℕ × E)) → IsRising left → AllBelow u ps → IsCleared m ps left → IsCleared m ps (given_part u left)
  given_cleared u [] left rising below all = tt
  given_cleared u (p ∷ ps) left rising below all = (FormLaws.given-entry m laws left u p.0 rising below.0 ∙ all.0, given_cleared u ps left rising below.1 all.1)

  -- ---- the loop over the entries
  negative_unit : (v w : V) → w ≡ neg v → v ≢ m.scalars.ops.zero → w ≢ m.scalars.ops.zero
  negative_unit v w is some none = some (sym (RingSolver.neg_neg m.scalars.ops laws v) ∙ ap neg (sym is ∙ none) ∙ RingSolver.neg_zero m.scalars.ops laws)

  module _ (xs : List (ℕ × E)) (line : IsLine m xs) (i : ℕ) (t : ℕ × E) (within : i < length xs) (read : t ≡ get_or xs i t) (u : ℕ) where
    taken : take (i + 1) xs ≡ take i xs ++ (t ∷ [])
    taken = take_more xs i t within ∙ ap (λ y. take i xs ++ (y ∷ [])) (sym read)

    dot-taken : (w : ℕ → V) → dot m (take (i + 1) xs) w ≡ add (dot m (take i xs) w) (mul (m.value t.1) (w t.0))
    dot-taken w = ap (λ ys. dot m ys w) taken ∙ LineLaws.dot-push m laws (take i xs) t w

    pub before_taken : (a : ℕ) → AllBelow a (take (i + 1) xs) → AllBelow a (take i xs) × (t.0 < a)
    before_taken a all = go (take i xs) (subst (AllBelow a) taken all)
      where
        go : (ys : List (ℕ × E)) → AllBelow a (ys ++ (t ∷ [])) → AllBelow a ys × (t.0 < a)
        go [] h = (tt, h.0)
        go (y ∷ ys) h = let rest = go ys h.1 in ((h.0, rest.0), rest.1)

    taken_below : AllBelow t.0 (take i xs)
    taken_below = SystemLaws.below_mid (take i xs) (drop (i + 1) xs) t (subst (λ ys. IsRising ys) (LineLaws.around xs i t within read) line.rising)

    module _ (all : List (ℕ × E)) (count : ℕ) where
      -- an entry of another column
      pub other_value : (w : ℕ → V) → ((j : ℕ) → count ≤ j → w j ≡ m.scalars.ops.zero) → (t.0 < u) ⊎ (u + count ≤ t.0) → dot m all w ≡ neg (dot m (take i xs) (after u w)) → dot m all w ≡ neg (dot m (take (i + 1) xs) (after u w))
      other_value w none where_is before =
          before ∙ ap neg (sym (dot-taken (after u w) ∙ ap (λ z. add (dot m (take i xs) (after u w)) (mul (m.value t.1) z)) zero_there ∙ ap (add (dot m (take i xs) (after u w))) (RingFacts.mul_zero m.scalars.ops laws (m.value t.1)) ∙ laws.add_zero (dot m (take i xs) (after u w))))
        where
          zero_there : after u w t.0 ≡ m.scalars.ops.zero
          zero_there = elim where_is [
            | inl h ↦ ap (λ b. cond b m.scalars.ops.zero (w (t.0 - u))) (BuildLaws.is_below t.0 u h)
            | inr h ↦ ap (λ b. cond b m.scalars.ops.zero (w (t.0 - u))) (BuildLaws.not_below t.0 u (omega arith)) ∙ none (t.0 - u) (omega arith)
          ]

      -- a coefficient more
      module _ (j : ℕ) (x : E) (column : t.0 ≡ u + j) (negated : m.value x ≡ neg (m.value t.1)) where
        pub own_value : (w : ℕ → V) → dot m all w ≡ neg (dot m (take i xs) (after u w)) → dot m (all ++ ((j, x) ∷ [])) w ≡ neg (dot m (take (i + 1) xs) (after u w))
        own_value w before =
            let d = dot m (take i xs) (after u w) in
            let here : after u w t.0 ≡ w j = ap (λ b. cond b m.scalars.ops.zero (w (t.0 - u))) (BuildLaws.not_below t.0 u (omega arith)) ∙ ap w (let e : t.0 - u ≡ j = omega arith in e) in
            LineLaws.dot-push m laws all (j, x) w
            ∙ ap₂ add before (ap (λ z. mul z (w j)) negated ∙ RingSolver.neg_mul m.scalars.ops laws (m.value t.1) (w j))
            ∙ sym (ap neg (dot-taken (after u w) ∙ ap (λ z. add d (mul (m.value t.1) z)) here) ∙ RingSolver.neg_add m.scalars.ops laws d (mul (m.value t.1) (w j)))

        pub own_rising : IsRising all → ((a : ℕ) → AllBelow (u + a) (take i xs) → AllBelow a all) → IsRising (all ++ ((j, x) ∷ []))
        own_rising rising before = BuildLaws.rising_push all j (j, x) (let e : j ≤ j = omega arith in e) (before j (subst (λ k. AllBelow k (take i xs)) column taken_below)) rising

        pub own_units : m.is_elem x → AllUnits m all → AllUnits m (all ++ ((j, x) ∷ []))
        own_units elem units = LineLaws.units_append m laws all ((j, x) ∷ []) units ((elem, negative_unit (m.value t.1) (m.value x) negated (LineLaws.units_at m laws xs i t within read line.units).1), tt)

        pub own_before : ((a : ℕ) → AllBelow (u + a) (take i xs) → AllBelow a all) → (a : ℕ) → AllBelow (u + a) (take (i + 1) xs) → AllBelow a (all ++ ((j, x) ∷ []))
        own_before before a low =
            let both = before_taken (u + a) low in
            let first : t.0 < u + a = both.1 in
            BuildLaws.below_push all a (j, x) (before a both.0) (let h : j < a = omega arith in h)

  -- ---- the leads of the reduced form
  lead-pivot : m.scalars.ops.one ≢ m.scalars.ops.zero → (row : List (ℕ × E)) (c : ℕ) → c < 4294967296 → IsLine m row → entry m row c ≡ m.scalars.ops.one → ((d : ℕ) → d < c → entry m row d ≡ m.scalars.ops.zero) → lead_of row ≡ c
  lead-pivot nontrivial row c small line one before =
      elim (dec_le (lead_of row) c) [
        | yes h ↦
            elim (dec_le c (lead_of row)) [
              | yes k ↦ omega arith
              | no k ↦ absurd (SystemLaws.lead_entry m laws row line (omega arith) (before (lead_of row) (omega arith)))
            ]
        | no h ↦ absurd (nontrivial (sym one ∙ SystemLaws.before_lead m laws row c line.rising (omega arith)))
      ]

  pub leads_cleared : m.scalars.ops.one ≢ m.scalars.ops.zero → (ps : List (ℕ × List (ℕ × E))) (left : List (ℕ × E)) → ArePivots m ps → AllBelow 4294967296 ps → IsCleared m ps left → EachOf (λ row. entry m left (lead_of row) ≡ m.scalars.ops.zero) (map (λ p. given_part 4294967296 p.1) ps)
  leads_cleared nontrivial [] left all below cleared = tt
  leads_cleared nontrivial (p ∷ ps) left all below cleared =
      let row = given_part 4294967296 p.1 in
      let lead : lead_of row ≡ p.0 =
      lead-pivot nontrivial row p.0 below.0 (FormLaws.given-line m laws p.1 4294967296 all.0.line) (FormLaws.given-entry m laws p.1 4294967296 p.0 all.0.line.rising below.0 ∙ all.0.one)
      (λ d less. FormLaws.given-entry m laws p.1 4294967296 d all.0.line.rising (let h : p.0 < 4294967296 = below.0 in omega arith) ∙ all.0.before d less) in
      (ap (entry m left) lead ∙ cleared.0, leads_cleared nontrivial ps left all.1 below.1 cleared.1)

-- ---- a target more
remainders_push : {E V : Type 0} (m : Meaning E V) (given form : List (List (ℕ × E))) (ts : List (Row E)) (rs : List (Remainder E)) (t : Row E) (r : Remainder E)
    → AreRemainders m given form ts rs → IsRemainder m given form t.entries r → AreRemainders m given form (ts ++ (t ∷ [])) (rs ++ (r ∷ []))
remainders_push m given form [] [] t r all h = (h, tt)
remainders_push m given form [] (x ∷ rs) t r all h = absurd all
remainders_push m given form (y ∷ ts) [] t r all h = absurd all
remainders_push m given form (y ∷ ts) (x ∷ rs) t r all h = (all.0, remainders_push m given form ts rs t r all.1 h)

pub remainders_more : {E V : Type 0} (m : Meaning E V) (given form : List (List (ℕ × E))) (targets : List (Row E)) (i : ℕ) (t : Row E) (rs : List (Remainder E)) (r : Remainder E) → i < length targets → t ≡ get_or targets i t
    → AreRemainders m given form (take i targets) rs → IsRemainder m given form t.entries r → AreRemainders m given form (take (i + 1) targets) (rs ++ (r ∷ []))
remainders_more m given form targets i t rs r within read all h =
    subst (λ ts. AreRemainders m given form ts (rs ++ (r ∷ []))) (sym (take_more targets i t within ∙ ap (λ u. take i targets ++ (u ∷ [])) (sym read))) (remainders_push m given form (take i targets) rs t r all h)

-- an element that meets P, in a list that was mapped
pub among_mapped : {X Y : Type 0} (P : Y → Type 0) (f : X → Y) (xs : List X) (i : ℕ) (x : X) → i < length xs → x ≡ get_or xs i x → P (f x) → Among P (map f xs)
among_mapped P f [] i x within read h = absurd (omega (arith, within))
among_mapped P f (y ∷ ys) zero x within read h = let e : x ≡ y = read in inl (subst (λ z. P (f z)) e h)
among_mapped P f (y ∷ ys) (suc i) x within read h = inr (among_mapped P f ys i x (omega (arith, within)) read h)

-- the reduction of a target by the rows of the plain reduction at its end
pub remainder_high : {E V : Type 0} (m : Meaning E V) (rows : List (ℕ → V)) (ps : List (ℕ × List (ℕ × E))) (t : ℕ → V) → IsEnd m 4294967296 rows ps → ClearingIsHigh m.scalars (functions_of m ps) t → RemainderIsHigh m.scalars 4294967296 rows t
remainder_high m rows ps t end high = record { stage = record { done = functions_of m ps; rest = end.rest }; reached = end.reached; finished = end.finished; high = high }
