-- One step of the plain row reduction, and its end.
use Rattle.std.proofs.Common.{◌≡◌, ◌≢◌, ℕ, zero, suc, ◌+◌, ◌<◌, ◌≤◌, ◌^◌, ◌⊎◌, inl, inr, List, [], ◌∷◌, ◌++◌, length, take, drop, get_or, map, refl, sym, ap, ap₂, ◌∙◌, arith, subst, cond, Vec, Global}
use Rattle.std.proofs.lemmas.List.{map-append}
use mathlib.Core.Path.{fun_ext}
use Rattle.ring_theory.specs.Ring.{IsCommRing}
use Rattle.ring_theory.specs.Scalars.{Meaning}
use Rattle.lin_row.specs.Lines.{IsLine, IsRising, AllAfter, AllBelow, AllFrom, EachOf, lead_of, dot, entry, unit_at, SumIsRefused}
use Rattle.lin_row.specs.System.{IsClearing, IsPivot, ArePivots, AreEchelon, AreReduced, IsCleared, AllVanish, RowsVanish, IsSystem, against}
use Rattle.lin_row.specs.Plain.{scaled, cleared, cleared_pivot, AllZeroIn, Among, InSome, IsNext, Reached, start, step, ReductionIsHigh, ClearingIsHigh, DivisionIsHigh, TargetIsHigh, reduced_target, with_units}
use Rattle.lin_row.specs.Stages.{items_of, functions_of, AreCleared, ArePivotsCleared, IsStage, IsLeast, IsStart, IsStep, StepIsRefused, IsEnd, others_of}
use Rattle.lin_row.proofs.RingFacts
use Rattle.lin_row.proofs.SystemLaws
use Rattle.lin_row.proofs.BuildLaws
use Rattle.lin_row.proofs.StageLaws

-- the rows around a place
pub rows-around : {X : Type 0} (rest : List X) (i : ℕ) (d : X) → i < length rest → rest ≡ take i rest ++ (get_or rest i d ∷ drop (suc i) rest)
rows-around [] i d within = absurd (omega (arith, within))
rows-around (x ∷ rest) zero d within = refl
rows-around (x ∷ rest) (suc i) d within = ap (λ ys. x ∷ ys) (rows-around rest i d (omega (arith, within)))

pub others-length : {X : Type 0} (rest : List X) (i : ℕ) → i < length rest → suc (length (others_of rest i)) ≡ length rest
others-length [] i within = absurd (omega (arith, within))
others-length (x ∷ rest) zero within = refl
others-length (x ∷ rest) (suc i) within = ap suc (others-length rest i (omega (arith, within)))

pub others_each : {X : Type 0} (P : X → Type 0) (rest : List X) (i : ℕ) → EachOf P rest → EachOf P (others_of rest i)
others_each P [] zero all = tt
others_each P [] (suc i) all = tt
others_each P (x ∷ rest) zero all = all.1
others_each P (x ∷ rest) (suc i) all = (all.0, others_each P rest i all.1)

pub each_get : {X : Type 0} (P : X → Type 0) (rest : List X) (i : ℕ) (d : X) → i < length rest → EachOf P rest → P (get_or rest i d)
each_get P [] i d within all = absurd (omega (arith, within))
each_get P (x ∷ rest) zero d within all = all.0
each_get P (x ∷ rest) (suc i) d within all = each_get P rest i d (omega (arith, within)) all.1

each_both : {X : Type 0} (P Q R : X → Type 0) (xs : List X) → ((x : X) → P x → Q x → R x) → EachOf P xs → EachOf Q xs → EachOf R xs
each_both P Q R [] f a b = tt
each_both P Q R (x ∷ xs) f a b = (f x a.0 b.0, each_both P Q R xs f a.1 b.1)

module _ {E V : Type 0} (m : Meaning E V) (laws : IsCommRing m.scalars.ops) where
  open m.scalars.ops use {add, mul, neg}

  zeros_in : (d : ℕ) (rows : List (List (ℕ × E))) → EachOf (IsLine m) rows → EachOf (λ r. d < lead_of r) rows → AllZeroIn m.scalars (map (entry m) rows) d
  zeros_in d [] lines later = tt
  zeros_in d (r ∷ rows) lines later = (SystemLaws.before_lead m laws r d lines.0.rising later.0, zeros_in d rows lines.1 later.1)

  rows_vanish_append : (xs ys : List (List (ℕ × E))) (w : ℕ → V) → RowsVanish m xs w → RowsVanish m ys w → RowsVanish m (xs ++ ys) w
  rows_vanish_append [] ys w a b = b
  rows_vanish_append (x ∷ xs) ys w a b = (a.0, rows_vanish_append xs ys w a.1 b)

  rows_vanish_left : (xs ys : List (List (ℕ × E))) (w : ℕ → V) → RowsVanish m (xs ++ ys) w → RowsVanish m xs w
  rows_vanish_left [] ys w a = tt
  rows_vanish_left (x ∷ xs) ys w a = (a.0, rows_vanish_left xs ys w a.1)

  rows_vanish_right : (xs ys : List (List (ℕ × E))) (w : ℕ → V) → RowsVanish m (xs ++ ys) w → RowsVanish m ys w
  rows_vanish_right [] ys w a = a
  rows_vanish_right (x ∷ xs) ys w a = rows_vanish_right xs ys w a.1

  pub functions_of-append : (ps qs : List (ℕ × List (ℕ × E))) → functions_of m (ps ++ qs) ≡ functions_of m ps ++ functions_of m qs
  functions_of-append [] qs = refl
  functions_of-append (p ∷ ps) qs = ap (λ ys. (p.0, entry m p.1) ∷ ys) (functions_of-append ps qs)

  -- ---- rows cleared at the column c of a pivot
  module _ (c : ℕ) (pivot : List (ℕ × E)) where
    pub cleared_lines : (xs ys : List (List (ℕ × E))) → AreCleared m c pivot xs ys → EachOf (IsLine m) ys
    cleared_lines [] [] all = tt
    cleared_lines [] (y ∷ ys) all = absurd all
    cleared_lines (x ∷ xs) [] all = tt
    cleared_lines (x ∷ xs) (y ∷ ys) all = (all.0.line, cleared_lines xs ys all.1)

    pub cleared-length : (xs ys : List (List (ℕ × E))) → AreCleared m c pivot xs ys → length ys ≡ length xs
    cleared-length [] [] all = refl
    cleared-length [] (y ∷ ys) all = absurd all
    cleared-length (x ∷ xs) [] all = absurd all
    cleared-length (x ∷ xs) (y ∷ ys) all = ap suc (cleared-length xs ys all.1)

    pub cleared-entries : (xs ys : List (List (ℕ × E))) → AreCleared m c pivot xs ys → map (entry m) ys ≡ map (cleared m.scalars c (entry m pivot)) (map (entry m) xs)
    cleared-entries [] [] all = refl
    cleared-entries [] (y ∷ ys) all = absurd all
    cleared-entries (x ∷ xs) [] all = absurd all
    cleared-entries (x ∷ xs) (y ∷ ys) all = ap₂ (λ f fs. f ∷ fs) (SystemLaws.clearing-entries m laws c pivot x y all.0) (cleared-entries xs ys all.1)

    pub pivots-entries : (xs ys : List (ℕ × List (ℕ × E))) → ArePivotsCleared m c pivot xs ys → functions_of m ys ≡ map (cleared_pivot m.scalars c (entry m pivot)) (functions_of m xs)
    pivots-entries [] [] all = refl
    pivots-entries [] (y ∷ ys) all = absurd all
    pivots-entries (x ∷ xs) [] all = absurd all
    pivots-entries (x ∷ xs) (y ∷ ys) all =
        ap₂ (λ (f : ℕ × (ℕ → V)) (fs : List (ℕ × (ℕ → V))). f ∷ fs) (λ i. (all.0.0 i, SystemLaws.clearing-entries m laws c pivot x.1 y.1 all.0.1 i)) (pivots-entries xs ys all.1)

    pub pivots_below : (b : ℕ) (xs ys : List (ℕ × List (ℕ × E))) → ArePivotsCleared m c pivot xs ys → AllBelow b xs → AllBelow b ys
    pivots_below b [] [] all h = tt
    pivots_below b [] (y ∷ ys) all h = absurd all
    pivots_below b (x ∷ xs) [] all h = tt
    pivots_below b (x ∷ xs) (y ∷ ys) all h = (subst (λ d. d < b) (sym all.0.0) h.0, pivots_below b xs ys all.1 h.1)

    pivots_after : (a : ℕ) (xs ys : List (ℕ × List (ℕ × E))) → ArePivotsCleared m c pivot xs ys → AllAfter a xs → AllAfter a ys
    pivots_after a [] [] all h = tt
    pivots_after a [] (y ∷ ys) all h = absurd all
    pivots_after a (x ∷ xs) [] all h = tt
    pivots_after a (x ∷ xs) (y ∷ ys) all h = (subst (λ d. a < d) (sym all.0.0) h.0, pivots_after a xs ys all.1 h.1)

    pub pivots_rising : (xs ys : List (ℕ × List (ℕ × E))) → ArePivotsCleared m c pivot xs ys → IsRising xs → IsRising ys
    pivots_rising [] [] all h = tt
    pivots_rising [] (y ∷ ys) all h = absurd all
    pivots_rising (x ∷ xs) [] all h = tt
    pivots_rising (x ∷ xs) (y ∷ ys) all h = (subst (λ a. AllAfter a ys) (sym all.0.0) (pivots_after x.0 xs ys all.1 h.0), pivots_rising xs ys all.1 h.1)

    -- where the pivot's row is 0, old and new rows agree
    pub rows_forward : (xs ys : List (List (ℕ × E))) (w : ℕ → V) → AreCleared m c pivot xs ys → dot m pivot w ≡ m.scalars.ops.zero → RowsVanish m xs w → RowsVanish m ys w
    rows_forward [] [] w all none h = tt
    rows_forward [] (y ∷ ys) w all none h = absurd all
    rows_forward (x ∷ xs) [] w all none h = tt
    rows_forward (x ∷ xs) (y ∷ ys) w all none h = (SystemLaws.same_where m laws x pivot y w (SystemLaws.clearing_adds m laws c pivot x y all.0) none ∙ h.0, rows_forward xs ys w all.1 none h.1)

    pub rows_back : (xs ys : List (List (ℕ × E))) (w : ℕ → V) → AreCleared m c pivot xs ys → dot m pivot w ≡ m.scalars.ops.zero → RowsVanish m ys w → RowsVanish m xs w
    rows_back [] [] w all none h = tt
    rows_back [] (y ∷ ys) w all none h = absurd all
    rows_back (x ∷ xs) [] w all none h = absurd all
    rows_back (x ∷ xs) (y ∷ ys) w all none h = (sym (SystemLaws.same_where m laws x pivot y w (SystemLaws.clearing_adds m laws c pivot x y all.0) none) ∙ h.0, rows_back xs ys w all.1 none h.1)

    pub pivots_forward : (xs ys : List (ℕ × List (ℕ × E))) (w : ℕ → V) → ArePivotsCleared m c pivot xs ys → dot m pivot w ≡ m.scalars.ops.zero → AllVanish m xs w → AllVanish m ys w
    pivots_forward [] [] w all none h = tt
    pivots_forward [] (y ∷ ys) w all none h = absurd all
    pivots_forward (x ∷ xs) [] w all none h = tt
    pivots_forward (x ∷ xs) (y ∷ ys) w all none h = (SystemLaws.same_where m laws x.1 pivot y.1 w (SystemLaws.clearing_adds m laws c pivot x.1 y.1 all.0.1) none ∙ h.0, pivots_forward xs ys w all.1 none h.1)

    pub pivots_back : (xs ys : List (ℕ × List (ℕ × E))) (w : ℕ → V) → ArePivotsCleared m c pivot xs ys → dot m pivot w ≡ m.scalars.ops.zero → AllVanish m ys w → AllVanish m xs w
    pivots_back [] [] w all none h = tt
    pivots_back [] (y ∷ ys) w all none h = absurd all
    pivots_back (x ∷ xs) [] w all none h = absurd all
    pivots_back (x ∷ xs) (y ∷ ys) w all none h = (sym (SystemLaws.same_where m laws x.1 pivot y.1 w (SystemLaws.clearing_adds m laws c pivot x.1 y.1 all.0.1) none) ∙ h.0, pivots_back xs ys w all.1 none h.1)

    module _ (is : IsPivot m c pivot) where
      -- an entry before c stays
      stays : (x y : List (ℕ × E)) (d : ℕ) → IsClearing m c pivot x y → d < c → entry m y d ≡ entry m x d
      stays x y d h less = SystemLaws.same_where m laws x pivot y (unit_at m.scalars.ops d) (SystemLaws.clearing_adds m laws c pivot x y h) (is.before d less)

      pub pivots_stay : (xs ys : List (ℕ × List (ℕ × E))) → ArePivotsCleared m c pivot xs ys → AllBelow c xs → ArePivots m xs → ArePivots m ys
      pivots_stay [] [] all below h = tt
      pivots_stay [] (y ∷ ys) all below h = absurd all
      pivots_stay (x ∷ xs) [] all below h = tt
      pivots_stay (x ∷ xs) (y ∷ ys) all below h = (
        subst (λ d. IsPivot m d y.1) (sym all.0.0) (record {
          line = all.0.1.line;
          one = stays x.1 y.1 x.0 all.0.1 below.0 ∙ h.0.one;
          before = λ d less. (let low : d < c = (let k : x.0 < c = below.0 in omega arith) in stays x.1 y.1 d all.0.1 low) ∙ h.0.before d less;
        }),
        pivots_stay xs ys all.1 below.1 h.1,
      )

      cleared_stay : (zs ts : List (ℕ × List (ℕ × E))) (x y : List (ℕ × E)) → ArePivotsCleared m c pivot zs ts → AllBelow c zs → IsClearing m c pivot x y → IsCleared m zs x → IsCleared m ts y
      cleared_stay [] [] x y all below h k = tt
      cleared_stay [] (t ∷ ts) x y all below h k = absurd all
      cleared_stay (z ∷ zs) [] x y all below h k = tt
      cleared_stay (z ∷ zs) (t ∷ ts) x y all below h k =
          (ap (entry m y) all.0.0 ∙ stays x y z.0 h below.0 ∙ k.0, cleared_stay zs ts x y all.1 below.1 h k.1)

      pub reduced_stay : (xs ys : List (ℕ × List (ℕ × E))) → ArePivotsCleared m c pivot xs ys → AllBelow c xs → AreReduced m xs → AreReduced m (ys ++ ((c, pivot) ∷ []))
      reduced_stay [] [] all below h = (tt, tt)
      reduced_stay [] (y ∷ ys) all below h = absurd all
      reduced_stay (x ∷ xs) [] all below h = absurd all
      reduced_stay (x ∷ xs) (y ∷ ys) all below h =
          (SystemLaws.cleared_push m laws ys (c, pivot) y.1 (cleared_stay xs ys x.1 y.1 all.1 below.1 all.0.1 h.0) (SystemLaws.clearing_zero m laws c pivot x.1 y.1 all.0.1 is.one), reduced_stay xs ys all.1 below.1 h.1)

      pivots_end : (ys : List (ℕ × List (ℕ × E))) → ArePivots m ys → ArePivots m (ys ++ ((c, pivot) ∷ []))
      pivots_end [] h = (is, tt)
      pivots_end (y ∷ ys) h = (h.0, pivots_end ys h.1)

      pub echelon_step : (xs ys : List (ℕ × List (ℕ × E))) → ArePivotsCleared m c pivot xs ys → AllBelow c xs → AreEchelon m xs → AreEchelon m (ys ++ ((c, pivot) ∷ []))
      echelon_step xs ys all below h =
          record {
            pivots = pivots_end ys (pivots_stay xs ys all below h.pivots);
            rising = BuildLaws.rising_push ys c (c, pivot) (omega arith) (pivots_below c xs ys all below) (pivots_rising xs ys all h.rising);
          }

      pub later_step : (xs ys : List (List (ℕ × E))) → AreCleared m c pivot xs ys → c < 4294967296 → EachOf (IsLine m) xs → EachOf (λ r. c ≤ lead_of r) xs → EachOf (λ r. c < lead_of r) ys
      later_step [] [] all low lines h = tt
      later_step [] (y ∷ ys) all low lines h = absurd all
      later_step (x ∷ xs) [] all low lines h = tt
      later_step (x ∷ xs) (y ∷ ys) all low lines h = (SystemLaws.clearing_later m laws c pivot x y all.0 is lines.0.rising h.0 low, later_step xs ys all.1 low lines.1 h.1)

  vanish_push : (ps : List (ℕ × List (ℕ × E))) (p : ℕ × List (ℕ × E)) (w : ℕ → V) → AllVanish m ps w → dot m p.1 w ≡ m.scalars.ops.zero → AllVanish m (ps ++ (p ∷ [])) w
  vanish_push [] p w all here = (here, tt)
  vanish_push (q ∷ ps) p w all here = (all.0, vanish_push ps p w all.1 here)

  vanish_left : (ps qs : List (ℕ × List (ℕ × E))) (w : ℕ → V) → AllVanish m (ps ++ qs) w → AllVanish m ps w
  vanish_left [] qs w all = tt
  vanish_left (p ∷ ps) qs w all = (all.0, vanish_left ps qs w all.1)

  abbrev StageOf : List (ℕ → V) → List (ℕ × (ℕ → V)) → List (ℕ → V) → Type 0
  StageOf extended done rest = Reached m.scalars 4294967296 extended (record { done = done; rest = rest })

  -- ---- a step
  module _ (extended : List (ℕ → V)) (given : List (List (ℕ × E))) (done : List (ℕ × List (ℕ × E))) (rest : List (List (ℕ × E))) (i : ℕ) (stage : IsStage m 4294967296 extended given done rest) (least : IsLeast 4294967296 rest i) where
    abbrev row : List (ℕ × E)
    row = get_or rest i []

    abbrev column : ℕ
    column = lead_of (get_or rest i [])

    row_line : IsLine m row
    row_line = each_get (IsLine m) rest i [] least.within stage.lines

    row_later : AllBelow column done
    row_later = each_get (λ r. AllBelow (lead_of r) done) rest i [] least.within stage.later

    next : IsNext m.scalars 4294967296 (map (entry m) rest) (map (entry m) (take i rest)) (entry m row) (map (entry m) (drop (suc i) rest)) column
    next =
        let around = rows-around rest i [] least.within in
        let front_lines = StageLaws.each_left (IsLine m) (take i rest) _ (subst (EachOf (IsLine m)) around stage.lines) in
        let front_least = StageLaws.each_left (λ r. column ≤ lead_of r) (take i rest) _ (subst (EachOf (λ r. column ≤ lead_of r)) around least.least) in
        record {
          parts = ap (map (entry m)) around ∙ map-append (entry m) (take i rest) (row ∷ drop (suc i) rest);
          given = least.given;
          entry = SystemLaws.lead_entry m laws row row_line (let low : column < 4294967296 = least.given in omega arith);
          first_row = zeros_in column (take i rest) front_lines (each_both (λ r. lead_of r ≢ column) (λ r. column ≤ lead_of r) (λ r. column < lead_of r) (take i rest) (λ r differ le. omega arith) least.first front_least);
          first_column = λ d less. zeros_in d rest stage.lines (StageLaws.each_weaker (λ r. column ≤ lead_of r) (λ r. d < lead_of r) rest (λ r le. omega arith) least.least);
        }

    -- a refused step is a step of the reduction that is high
    pub reduction_high : StepIsRefused m done rest i → ReductionIsHigh m.scalars 4294967296 extended
    reduction_high refused =
        record {
          stage = record { done = functions_of m done; rest = map (entry m) rest };
          reached = stage.reached;
          high = record {
            before = map (entry m) (take i rest);
            after = map (entry m) (drop (suc i) rest);
            pivot = entry m row;
            column = column;
            next = next;
            high = split refused;
          };
        }
      where
        others : Among (λ x. SumIsRefused m.scalars x (neg (x column)) (scaled m.scalars column (entry m row))) (map (entry m) (others_of rest i))
            → Among (λ x. SumIsRefused m.scalars x (neg (x column)) (scaled m.scalars column (entry m row))) (map (entry m) (take i rest) ++ map (entry m) (drop (suc i) rest))
        others h = subst (Among (λ x. SumIsRefused m.scalars x (neg (x column)) (scaled m.scalars column (entry m row)))) (map-append (entry m) (take i rest) (drop (suc i) rest)) h

        split : StepIsRefused m done rest i → (2 ^ 120 ≤ m.scalars.inverse_height (entry m row column))
            ⊎ ((InSome (λ d. 2 ^ 120 ≤ m.scalars.product_height (m.scalars.inverse (entry m row column)) (entry m row d)))
            ⊎ (Among (λ x. SumIsRefused m.scalars x.1 (neg (x.1 column)) (scaled m.scalars column (entry m row))) (functions_of m done)
            ⊎ Among (λ x. SumIsRefused m.scalars x (neg (x column)) (scaled m.scalars column (entry m row))) (map (entry m) (take i rest) ++ map (entry m) (drop (suc i) rest))))
        split (inl h) = inl h
        split (inr (inl h)) = inr (inl h)
        split (inr (inr (inl h))) = inr (inr (inl h))
        split (inr (inr (inr h))) = inr (inr (inr (others h)))

    module _ (done_next : List (ℕ × List (ℕ × E))) (rest_next : List (List (ℕ × E))) (is : IsStep m done rest i done_next rest_next) where
      pivot_is : IsPivot m column is.pivot
      pivot_is = record {
        line = is.line;
        one = is.times (unit_at m.scalars.ops column) ∙ laws.mul_comm is.factor (entry m row column) ∙ is.unit;
        before = λ d less. is.times (unit_at m.scalars.ops d) ∙ ap (mul is.factor) (SystemLaws.before_lead m laws row d row_line.rising less) ∙ RingFacts.mul_zero m.scalars.ops laws is.factor;
      }

      pivot-entries : entry m is.pivot ≡ scaled m.scalars column (entry m row)
      pivot-entries = fun_ext λ d. is.times (unit_at m.scalars.ops d) ∙ ap (λ f. mul f (entry m row d)) is.factor_is

      next_done : functions_of m done_next ≡ map (cleared_pivot m.scalars column (scaled m.scalars column (entry m row))) (functions_of m done) ++ ((column, scaled m.scalars column (entry m row)) ∷ [])
      next_done =
          ap (functions_of m) is.done_is ∙ functions_of-append is.done_cleared ((column, is.pivot) ∷ [])
          ∙ ap (λ fs. fs ++ ((column, entry m is.pivot) ∷ [])) (pivots-entries column is.pivot done is.done_cleared is.clears_done)
          ∙ ap (λ q. map (cleared_pivot m.scalars column q) (functions_of m done) ++ ((column, q) ∷ [])) pivot-entries

      next_rest : map (entry m) rest_next ≡ map (cleared m.scalars column (scaled m.scalars column (entry m row))) (map (entry m) (take i rest) ++ map (entry m) (drop (suc i) rest))
      next_rest =
          cleared-entries column is.pivot (others_of rest i) rest_next is.clears_rest
          ∙ ap₂ (λ q fs. map (cleared m.scalars column q) fs) pivot-entries (map-append (entry m) (take i rest) (drop (suc i) rest))

      next_reached : StageOf extended (functions_of m done_next) (map (entry m) rest_next)
      next_reached =
          subst (λ fs. StageOf extended fs (map (entry m) rest_next)) (sym next_done)
          (subst (λ fs. StageOf extended (map (cleared_pivot m.scalars column (scaled m.scalars column (entry m row))) (functions_of m done) ++ ((column, scaled m.scalars column (entry m row)) ∷ [])) fs) (sym next_rest) (step stage.reached next))

      pivot_back : (w : ℕ → V) → dot m is.pivot w ≡ m.scalars.ops.zero → dot m row w ≡ m.scalars.ops.zero
      pivot_back w none = BuildLaws.multiple_back m laws row is.pivot is.factor is.times (entry m row column) w is.unit none

      around_vanish : (w : ℕ → V) → RowsVanish m rest w → (dot m row w ≡ m.scalars.ops.zero) × RowsVanish m (others_of rest i) w
      around_vanish w all =
          let k = subst (λ rs. RowsVanish m rs w) (rows-around rest i [] least.within) all in
          let right = rows_vanish_right (take i rest) (row ∷ drop (suc i) rest) w k in
          (right.0, rows_vanish_append (take i rest) (drop (suc i) rest) w (rows_vanish_left (take i rest) (row ∷ drop (suc i) rest) w k) right.1)

      vanish_around : (w : ℕ → V) → dot m row w ≡ m.scalars.ops.zero → RowsVanish m (others_of rest i) w → RowsVanish m rest w
      vanish_around w here all =
          subst (λ rs. RowsVanish m rs w) (sym (rows-around rest i [] least.within))
          (rows_vanish_append (take i rest) (row ∷ drop (suc i) rest) w (rows_vanish_left (take i rest) (drop (suc i) rest) w all) (here, rows_vanish_right (take i rest) (drop (suc i) rest) w all))

      next_later : EachOf (λ r. column < lead_of r) rest_next
      next_later = later_step column is.pivot pivot_is (others_of rest i) rest_next is.clears_rest least.given (others_each (IsLine m) rest i stage.lines) (others_each (λ r. column ≤ lead_of r) rest i least.least)

      done_below : AllBelow (suc column) done_next
      done_below = subst (AllBelow (suc column)) (sym is.done_is) (BuildLaws.below_push is.done_cleared (suc column) (column, is.pivot) (SystemLaws.below_bigger is.done_cleared column (suc column) (omega arith) (pivots_below column is.pivot column done is.done_cleared is.clears_done row_later)) (omega arith))

      pub next_stage : IsStage m 4294967296 extended given done_next rest_next
      next_stage = record {
        reached = next_reached;
        echelon = subst (AreEchelon m) (sym is.done_is) (echelon_step column is.pivot pivot_is done is.done_cleared is.clears_done row_later stage.echelon);
        reduced = subst (AreReduced m) (sym is.done_is) (reduced_stay column is.pivot pivot_is done is.done_cleared is.clears_done row_later stage.reduced);
        below = SystemLaws.below_bigger done_next (suc column) 4294967296 (let low : column < 4294967296 = least.given in omega arith) done_below;
        lines = cleared_lines column is.pivot (others_of rest i) rest_next is.clears_rest;
        later = StageLaws.each_weaker (λ r. column < lead_of r) (λ r. AllBelow (lead_of r) done_next) rest_next (λ r less. SystemLaws.below_bigger done_next (suc column) (lead_of r) (omega arith) done_below) next_later;
        done_evidence = λ w.
            let v = against m 4294967296 given w in
            let here = (around_vanish v (stage.rest_evidence w)).0 in
            let zero_pivot = BuildLaws.multiple_zero m laws row is.pivot is.factor is.times v here in
            subst (λ ps. AllVanish m ps v) (sym is.done_is) (vanish_push is.done_cleared (column, is.pivot) v (pivots_forward column is.pivot done is.done_cleared v is.clears_done zero_pivot (stage.done_evidence w)) zero_pivot);
        rest_evidence = λ w.
            let v = against m 4294967296 given w in
            let k = around_vanish v (stage.rest_evidence w) in
            rows_forward column is.pivot (others_of rest i) rest_next v is.clears_rest (BuildLaws.multiple_zero m laws row is.pivot is.factor is.times v k.0) k.1;
        spans = λ w none all rows.
            let split = subst (λ ps. AllVanish m ps w) is.done_is all in
            let zero_pivot = SystemLaws.vanish_in m laws is.done_cleared [] (column, is.pivot) w split in
            stage.spans w none (pivots_back column is.pivot done is.done_cleared w is.clears_done zero_pivot (vanish_left is.done_cleared _ w split))
            (vanish_around w (pivot_back w zero_pivot) (rows_back column is.pivot (others_of rest i) rest_next w is.clears_rest zero_pivot rows));
        low = stage.low;
      }

      pub next_smaller : length rest_next < length rest
      next_smaller = omega (arith, cleared-length column is.pivot (others_of rest i) rest_next is.clears_rest, others-length rest i least.within)

  -- ---- a step, by what code has
  module _ (done : List (ℕ × List (ℕ × E))) (rest : List (List (ℕ × E))) (i : ℕ) (row : List (ℕ × E)) (column : ℕ) (is_row : row ≡ get_or rest i []) (is_column : column ≡ lead_of row) where
    at_row : (P : List (ℕ × E) → Type 0) → P row → P (get_or rest i [])
    at_row P h = subst P is_row h

    at_column : (P : ℕ → Type 0) → P column → P (lead_of (get_or rest i []))
    at_column P h = subst P (is_column ∙ ap lead_of is_row) h

    pub refused_inverse : 2 ^ 120 ≤ m.scalars.inverse_height (entry m row (lead_of row)) → StepIsRefused m done rest i
    refused_inverse high = inl (at_row (λ r. 2 ^ 120 ≤ m.scalars.inverse_height (entry m r (lead_of r))) high)

    module _ (f : V) (is_inverse : f ≡ m.scalars.inverse (entry m row (lead_of row))) where
      pub refused_product : InSome (λ d. 2 ^ 120 ≤ m.scalars.product_height f (entry m row d)) → StepIsRefused m done rest i
      refused_product high =
          inr (inl (at_row (λ r. InSome (λ d. 2 ^ 120 ≤ m.scalars.product_height (m.scalars.inverse (entry m r (lead_of r))) (entry m r d))) (subst (λ z. InSome (λ d. 2 ^ 120 ≤ m.scalars.product_height z (entry m row d))) is_inverse high)))

      module _ (pivot : List (ℕ × E)) (times : (w : ℕ → V) → dot m pivot w ≡ mul f (dot m row w)) where
        pivot-scaled : entry m pivot ≡ scaled m.scalars column (entry m row)
        pivot-scaled = fun_ext λ d. times (unit_at m.scalars.ops d) ∙ ap (λ z. mul z (entry m row d)) (is_inverse ∙ ap (λ c. m.scalars.inverse (entry m row c)) (sym is_column))

        abbrev Refused : List (ℕ × E) → ℕ → Type 0
        Refused r c = Among (λ x. SumIsRefused m.scalars x.1 (neg (x.1 c)) (scaled m.scalars c (entry m r))) (functions_of m done)

        abbrev OthersRefused : List (ℕ × E) → ℕ → Type 0
        OthersRefused r c = Among (λ x. SumIsRefused m.scalars x (neg (x c)) (scaled m.scalars c (entry m r))) (map (entry m) (others_of rest i))

        pub refused_done : Among (λ x. SumIsRefused m.scalars x.1 (neg (x.1 column)) (entry m pivot)) (functions_of m done) → StepIsRefused m done rest i
        refused_done high =
            inr (inr (inl (at_column (Refused (get_or rest i [])) (at_row (λ r. Refused r column) (subst (λ (q : ℕ → V). Among (λ (x : ℕ × (ℕ → V)). SumIsRefused m.scalars x.1 (neg (x.1 column)) q) (functions_of m done)) pivot-scaled high)))))

        pub refused_rest : Among (λ x. SumIsRefused m.scalars x (neg (x column)) (entry m pivot)) (map (entry m) (others_of rest i)) → StepIsRefused m done rest i
        refused_rest high =
            inr (inr (inr (at_column (OthersRefused (get_or rest i [])) (at_row (λ r. OthersRefused r column) (subst (λ (q : ℕ → V). Among (λ (x : ℕ → V). SumIsRefused m.scalars x (neg (x column)) q) (map (entry m) (others_of rest i))) pivot-scaled high)))))

        pub make_step : (unit : mul (entry m row (lead_of row)) f ≡ m.scalars.ops.one) (line : IsLine m pivot) (done_cleared done_next : List (ℕ × List (ℕ × E))) (rest_next : List (List (ℕ × E)))
            → ArePivotsCleared m column pivot done done_cleared → done_next ≡ done_cleared ++ ((column, pivot) ∷ []) → AreCleared m column pivot (others_of rest i) rest_next → IsStep m done rest i done_next rest_next
        make_step unit line done_cleared done_next rest_next clears_done done_is clears_rest =
            record {
              factor = f;
              factor_is = at_row (λ r. f ≡ m.scalars.inverse (entry m r (lead_of r))) is_inverse;
              unit = at_row (λ r. mul (entry m r (lead_of r)) f ≡ m.scalars.ops.one) unit;
              pivot = pivot;
              line = line;
              times = at_row (λ r. (w : ℕ → V) → dot m pivot w ≡ mul f (dot m r w)) times;
              done_cleared = done_cleared;
              clears_done = at_column (λ c. ArePivotsCleared m c pivot done done_cleared) clears_done;
              done_is = at_column (λ c. done_next ≡ done_cleared ++ ((c, pivot) ∷ [])) done_is;
              clears_rest = at_column (λ c. AreCleared m c pivot (others_of rest i) rest_next) clears_rest;
            }

  -- ---- the first rows, one after the other
  with_units-push : (u k : ℕ) (rows : List (List (ℕ × E))) (row : List (ℕ × E)) → with_units m u k (rows ++ (row ∷ [])) ≡ with_units m u k rows ++ ((λ d. add (entry m row d) (unit_at m.scalars.ops (u + (k + length rows)) d)) ∷ [])
  with_units-push u k [] row = let e : k ≡ k + 0 = omega arith in ap (λ j. (λ d. add (entry m row d) (unit_at m.scalars.ops (u + j) d)) ∷ []) e
  with_units-push u k (r ∷ rows) row =
      let e : suc k + length rows ≡ k + suc (length rows) = omega arith in
      ap (λ fs. (λ d. add (entry m r d) (unit_at m.scalars.ops (u + k) d)) ∷ fs)
      (with_units-push u (suc k) rows row ∙ ap (λ j. with_units m u (suc k) rows ++ ((λ d. add (entry m row d) (unit_at m.scalars.ops (u + j) d)) ∷ [])) e)

  unit-swap : (c d : ℕ) → unit_at m.scalars.ops c d ≡ unit_at m.scalars.ops d c
  unit-swap c d = ap (λ b. cond b m.scalars.ops.one m.scalars.ops.zero) (RingFacts.eqb_swap c d)

  pub start_push : (given first rest : List (List (ℕ × E))) (row ext : List (ℕ × E)) (k : ℕ) → k ≡ length first → k < length given → row ≡ get_or given k row → AllBelow 4294967296 row → IsLine m ext
      → ((w : ℕ → V) → dot m ext w ≡ add (dot m row w) (w (4294967296 + k))) → IsStart m 4294967296 given first rest → IsStart m 4294967296 given (first ++ (row ∷ [])) (rest ++ (ext ∷ []))
  start_push given first rest row ext k count within read below line value h =
      record {
        lines = StageLaws.each_push (IsLine m) rest ext h.lines line;
        entries = map-append (entry m) rest (ext ∷ [])
            ∙ ap₂ (λ fs f. fs ++ (f ∷ [])) h.entries (fun_ext λ d. value (unit_at m.scalars.ops d) ∙ ap (add (entry m row d)) (unit-swap d (4294967296 + k) ∙ ap (λ j. unit_at m.scalars.ops (4294967296 + j) d) (let e : k ≡ 0 + length first = omega (arith, count) in e)))
            ∙ sym (with_units-push 4294967296 0 first row);
        evidence = λ w. rows_vanish_append rest (ext ∷ []) (against m 4294967296 given w) (h.evidence w) (BuildLaws.own_zero m laws given 4294967296 k row ext w within read below (value (against m 4294967296 given w)), tt);
        spans = λ w none all.
            let here = (rows_vanish_right rest (ext ∷ []) w all).0 in
            rows_vanish_append first (row ∷ []) w (h.spans w none (rows_vanish_left rest (ext ∷ []) w all))
            (BuildLaws.row_zero m laws row ext ext w (w (4294967296 + k)) (value w) (none (4294967296 + k) (omega arith)) refl here, tt);
        low = StageLaws.each_push (AllBelow 4294967296) first row h.low below;
      }

  pub pivot_lines : (ps : List (ℕ × List (ℕ × E))) → ArePivots m ps → EachOf (λ p. IsLine m p.1) ps
  pivot_lines [] all = tt
  pivot_lines (p ∷ ps) all = (all.0.line, pivot_lines ps all.1)

  -- ---- the beginning and the end
  pub first_stage : (given rest : List (List (ℕ × E))) → IsStart m 4294967296 given given rest → IsStage m 4294967296 (with_units m 4294967296 0 given) given [] rest
  first_stage given rest h = record {
    reached = subst (λ fs. StageOf (with_units m 4294967296 0 given) [] fs) (sym h.entries) start;
    echelon = record { pivots = tt; rising = tt };
    reduced = tt;
    below = tt;
    lines = h.lines;
    later = StageLaws.each_weaker (IsLine m) (λ r. AllBelow {E = List (ℕ × E)} (lead_of r) []) rest (λ r line. tt) h.lines;
    done_evidence = λ w. tt;
    rest_evidence = h.evidence;
    spans = λ w none all rows. h.spans w none rows;
    low = h.low;
  }

  pub from_lead : (xs : List (ℕ × E)) (u : ℕ) → IsRising xs → u ≤ lead_of xs → AllFrom u xs
  from_lead [] u rising h = tt
  from_lead (x ∷ xs) u rising h = BuildLaws.from_first (x ∷ xs) u x (omega arith) refl h rising

  late_vanish : (rows : List (List (ℕ × E))) (w : ℕ → V) → ((d : ℕ) → 4294967296 ≤ d → w d ≡ m.scalars.ops.zero) → EachOf (IsLine m) rows → EachOf (λ r. 4294967296 ≤ lead_of r) rows → RowsVanish m rows w
  late_vanish [] w none lines late = tt
  late_vanish (r ∷ rows) w none lines late = (BuildLaws.dot-from m laws r 4294967296 w none (from_lead r 4294967296 lines.0.rising late.0), late_vanish rows w none lines.1 late.1)

  module _ (extended : List (ℕ → V)) (given : List (List (ℕ × E))) (done : List (ℕ × List (ℕ × E))) (rest : List (List (ℕ × E))) (stage : IsStage m 4294967296 extended given done rest) (late : EachOf (λ r. 4294967296 ≤ lead_of r) rest) where
    pub end_system : IsSystem m 4294967296 given given done
    end_system = record { echelon = stage.echelon; below = stage.below; evidence = stage.done_evidence; spans = λ w none all. stage.spans w none all (late_vanish rest w none stage.lines late); low = stage.low }

    pub end_stage : IsEnd m 4294967296 extended done
    end_stage = record {
      rest = map (entry m) rest;
      reached = stage.reached;
      finished = λ d low. zeros_in d rest stage.lines (StageLaws.each_weaker (λ r. 4294967296 ≤ lead_of r) (λ r. d < lead_of r) rest (λ r h. omega arith) late);
      reduced = stage.reduced;
    }

-- a high number in the reduction of a target by the rows of the end
pub target_high : {E V : Type 0} (m : Meaning E V) (extended : List (ℕ → V)) (ps : List (ℕ × List (ℕ × E))) (t : ℕ → V) → IsEnd m 4294967296 extended ps
    → ClearingIsHigh m.scalars (functions_of m ps) t ⊎ DivisionIsHigh m.scalars 4294967296 (functions_of m ps) (reduced_target m.scalars (functions_of m ps) t) → TargetIsHigh m.scalars 4294967296 extended t
target_high m extended ps t end high = record { stage = record { done = functions_of m ps; rest = end.rest }; reached = end.reached; finished = end.finished; high = high }

-- the rows of code but one
pub items-others : {E : Type 0} (vs : List (Vec (ℕ × E) Global)) (i : ℕ) → items_of (take i vs ++ drop (suc i) vs) ≡ others_of (items_of vs) i
items-others vs i = StageLaws.items-append (take i vs) (drop (suc i) vs) ∙ ap₂ (λ a b. a ++ b) (sym (StageLaws.items-take i vs)) (sym (StageLaws.items-drop (suc i) vs))
