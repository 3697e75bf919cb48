-- Two row reductions whose rows have the same entries in other columns behind the first n go alike.
use Rattle.std.proofs.Common.{◌≡◌, ◌≢◌, ℕ, ◌<◌, ◌≤◌, ◌^◌, ◌⊎◌, inl, inr, List, [], ◌∷◌, ◌++◌, map, ap, ap₂, sym, ◌∙◌, refl, subst, arith}
use Rattle.std.proofs.lemmas.List.{map-append}
use Rattle.std.proofs.Math.Decide.{dec_le}
use Rattle.ring_theory.specs.Scalars.{Scalars}
use Rattle.lin_row.specs.Lines.{EachOf, SumIsRefused}
use Rattle.lin_row.specs.Plain.{Stage, plus_multiple, scaled, cleared, cleared_pivot, AllZeroIn, InSome, Among, IsNext, Reached, start, step, StepIsHigh, ReductionIsHigh}

-- a list of images, as parts around one of them
record Parts {X Y : Type 0} (f : X → Y) (xs : List X) (before : List Y) (p : Y) (after : List Y) : Type 0 where
  first : List X
  here : X
  last : List X
  parts : xs ≡ first ++ (here ∷ last)
  first_is : map f first ≡ before
  here_is : f here ≡ p
  last_is : map f last ≡ after

parts_of : {X Y : Type 0} (f : X → Y) (xs : List X) (before : List Y) (p : Y) (after : List Y) → map f xs ≡ before ++ (p ∷ after) → Parts f xs before p after
parts_of f [] [] p after e = cc
parts_of f [] (b ∷ before) p after e = cc
parts_of f (x ∷ xs) [] p after e = record { first = []; here = x; last = xs; parts = refl; first_is = refl; here_is = cc; last_is = cc }
parts_of {X} f (x ∷ xs) (b ∷ before) p after e = more (parts_of f xs before p after (cc)) (cc)
  where
    more : Parts f xs before p after → f x ≡ b → Parts f (x ∷ xs) (b ∷ before) p after
    more q here = record {
      first = x ∷ q.first;
      here = q.here;
      last = q.last;
      parts = ap (λ (ys : List X). x ∷ ys) q.parts;
      first_is = ap₂ (λ y ys. y ∷ ys) here q.first_is;
      here_is = q.here_is;
      last_is = q.last_is;
    }

-- the entries of x in other columns
abbrev pub in_columns : {V : Type 0} → (ℕ → ℕ) → (ℕ → V) → ℕ → V
in_columns column x d = x (column d)

module _ {V : Type 0} (s : Scalars V) where
  -- a number that a step forms with the pivot's row p is high
  abbrev NumberIsHigh : ℕ → (ℕ → V) → List (ℕ × (ℕ → V)) → List (ℕ → V) → Type 0
  NumberIsHigh c p done rest = (2 ^ 120 ≤ s.inverse_height (p c))
      ⊎ ((InSome (λ d. 2 ^ 120 ≤ s.product_height (s.inverse (p c)) (p d)))
      ⊎ (Among (λ x. SumIsRefused s x.1 (s.ops.neg (x.1 c)) (scaled s c p)) done
      ⊎ Among (λ x. SumIsRefused s x (s.ops.neg (x c)) (scaled s c p)) rest))

  zero_here : (before : List (ℕ → V)) (p : ℕ → V) (after : List (ℕ → V)) (d : ℕ) → AllZeroIn s (before ++ (p ∷ after)) d → p d ≡ s.ops.zero
  zero_here [] p after d h = h.0
  zero_here (x ∷ before) p after d h = zero_here before p after d h.1

  pub each_parts : (P : (ℕ → V) → Type 0) (before : List (ℕ → V)) (p : ℕ → V) (after : List (ℕ → V)) → EachOf P (before ++ (p ∷ after)) → P p × EachOf P (before ++ after)
  each_parts P [] p after h = h
  each_parts P (x ∷ before) p after h = let r = each_parts P before p after h.1 in (r.0, (h.0, r.1))

  each_map : (P Q : (ℕ → V) → Type 0) (f : (ℕ → V) → ℕ → V) (xs : List (ℕ → V)) → ((x : ℕ → V) → P x → Q (f x)) → EachOf P xs → EachOf Q (map f xs)
  each_map P Q f [] h all = tt
  each_map P Q f (x ∷ xs) h all = (h x all.0, each_map P Q f xs h all.1)

  -- what holds of the rows and of multiples and sums holds of the rows without pivot at each stage
  pub rest_each : (n : ℕ) (P : (ℕ → V) → Type 0) → ((x : ℕ → V) (a : V) → P x → P (λ d. s.ops.mul a (x d))) → ((x y : ℕ → V) (a : V) → P x → P y → P (plus_multiple s x a y))
      → (rows : List (ℕ → V)) → EachOf P rows → (g : Stage V) → Reached s n rows g → EachOf P g.rest
  rest_each n P times plus rows all g start = all
  rest_each n P times plus rows all g (step {g = h} {before = before} {after = after} {p = p} {c = c} r next) =
      let old : EachOf P (before ++ (p ∷ after)) = subst (EachOf P) next.parts (rest_each n P times plus rows all h r) in
      let split = each_parts P before p after old in
      each_map P P (cleared s c (scaled s c p)) (before ++ after) (λ x k. plus x (scaled s c p) (s.ops.neg (x c)) k (times p (s.inverse (p c)) split.0)) split.1

  module _ (n u : ℕ) (column : ℕ → ℕ) (keeps : (d : ℕ) → d < n → column d ≡ d) where
    abbrev pub moved : (ℕ → V) → ℕ → V
    moved = in_columns column

    abbrev moved_pivot : ℕ × (ℕ → V) → ℕ × (ℕ → V)
    moved_pivot p = (p.0, moved p.1)

    abbrev moved_stage : Stage V → Stage V
    moved_stage g = record { done = map moved_pivot g.done; rest = map moved g.rest }

    zero_back : (xs : List (ℕ → V)) (d : ℕ) → column d ≡ d → AllZeroIn s (map moved xs) d → AllZeroIn s xs d
    zero_back [] d e h = tt
    zero_back (x ∷ xs) d e h = (ap x (sym e) ∙ h.0, zero_back xs d e h.1)

    module _ (c : ℕ) (fixed : column c ≡ c) where
      scaled-moved : (p : ℕ → V) → scaled s c (moved p) ≡ moved (scaled s c p)
      scaled-moved p = ap (λ z d. s.ops.mul (s.inverse (p z)) (p (column d))) fixed

      cleared-moved : (p x : ℕ → V) → cleared s c (moved p) (moved x) ≡ moved (cleared s c p x)
      cleared-moved p x = ap (λ z d. s.ops.add (x (column d)) (s.ops.mul (s.ops.neg (x z)) (p (column d)))) fixed

      rest-moved : (p : ℕ → V) (xs : List (ℕ → V)) → map (cleared s c (moved p)) (map moved xs) ≡ map moved (map (cleared s c p) xs)
      rest-moved p [] = refl
      rest-moved p (x ∷ xs) = ap₂ (λ (y : ℕ → V) ys. y ∷ ys) (cleared-moved p x) (rest-moved p xs)

      done-moved : (p : ℕ → V) (xs : List (ℕ × (ℕ → V))) → map (cleared_pivot s c (moved p)) (map moved_pivot xs) ≡ map moved_pivot (map (cleared_pivot s c p) xs)
      done-moved p [] = refl
      done-moved p (x ∷ xs) = ap₂ (λ (y : ℕ → V) ys. (x.0, y) ∷ ys) (cleared-moved p x.1) (done-moved p xs)

      refused_back : (p x : ℕ → V) → SumIsRefused s (moved x) (s.ops.neg (moved x c)) (scaled s c (moved p)) → SumIsRefused s x (s.ops.neg (x c)) (scaled s c p)
      refused_back p x h =
          let y : SumIsRefused s (moved x) (s.ops.neg (x c)) (moved (scaled s c p)) =
          subst (λ z. SumIsRefused s (moved x) (s.ops.neg (x z)) (moved (scaled s c p))) fixed (subst (SumIsRefused s (moved x) (s.ops.neg (moved x c))) (scaled-moved p) h) in
          record { column = column y.column; high = y.high }

      rest_refused : (p : ℕ → V) (xs : List (ℕ → V)) → Among (λ x. SumIsRefused s x (s.ops.neg (x c)) (scaled s c (moved p))) (map moved xs) → Among (λ x. SumIsRefused s x (s.ops.neg (x c)) (scaled s c p)) xs
      rest_refused p [] h = absurd h
      rest_refused p (x ∷ xs) (inl h) = inl (refused_back p x h)
      rest_refused p (x ∷ xs) (inr h) = inr (rest_refused p xs h)

      done_refused : (p : ℕ → V) (xs : List (ℕ × (ℕ → V))) → Among (λ x. SumIsRefused s x.1 (s.ops.neg (x.1 c)) (scaled s c (moved p))) (map moved_pivot xs) → Among (λ x. SumIsRefused s x.1 (s.ops.neg (x.1 c)) (scaled s c p)) xs
      done_refused p [] h = absurd h
      done_refused p (x ∷ xs) (inl h) = inl (refused_back p x.1 h)
      done_refused p (x ∷ xs) (inr h) = inr (done_refused p xs h)

    -- no row without pivot has its first entry behind the first n columns
    module _ (rows : List (ℕ → V))
        (low : (g : Stage V) → Reached s n rows g → (before after : List (ℕ → V)) (p : ℕ → V) → g.rest ≡ before ++ (p ∷ after) → ((d : ℕ) → d < n → p d ≡ s.ops.zero) → (c : ℕ) → n ≤ c → c < u → p (column c) ≢ s.ops.zero → ⊥) where
      record NextBack (g : Stage V) (before : List (ℕ → V)) (p : ℕ → V) (after : List (ℕ → V)) (c : ℕ) : Type 0 where
        first : List (ℕ → V)
        here : ℕ → V
        last : List (ℕ → V)
        first_is : map moved first ≡ before
        here_is : moved here ≡ p
        last_is : map moved last ≡ after
        fixed : column c ≡ c
        next : IsNext s n g.rest first here last c

      next_back : (g : Stage V) → Reached s n rows g → (before : List (ℕ → V)) (p : ℕ → V) (after : List (ℕ → V)) (c : ℕ) → IsNext s u (map moved g.rest) before p after c → NextBack g before p after c
      next_back g reached before p after c next = back (parts_of moved g.rest before p after next.parts)
        where
          back : Parts moved g.rest before p after → NextBack g before p after c
          back q = record {
            first = q.first;
            here = q.here;
            last = q.last;
            first_is = q.first_is;
            here_is = q.here_is;
            last_is = q.last_is;
            fixed = keeps c inside;
            next = record {
              parts = q.parts;
              given = inside;
              entry = λ z. next.entry (entry_is c (keeps c inside) ∙ z);
              first_row = zero_back q.first c (keeps c inside) (subst (λ xs. AllZeroIn s xs c) (sym q.first_is) next.first_row);
              first_column = λ d h. zero_back g.rest d (keeps d (let i : c < n = inside in omega arith)) (next.first_column d h);
            };
          }
            where
              entry_is : (d : ℕ) → column d ≡ d → p d ≡ q.here d
              entry_is d e = ap (λ (x : ℕ → V). x d) (sym q.here_is) ∙ ap q.here e

              inside : c < n
              inside = elim (dec_le n c) [
                | yes h ↦ absurd (low g reached q.first q.last q.here q.parts
                    (λ d k. sym (entry_is d (keeps d k)) ∙ zero_here before p after d (subst (λ xs. AllZeroIn s xs d) next.parts (next.first_column d (omega arith)))) c h next.given
                    (λ z. next.entry (ap (λ (x : ℕ → V). x c) (sym q.here_is) ∙ z)))
                | no h ↦ omega arith
              ]

      record StageBack (g : Stage V) : Type 0 where
        stage : Stage V
        reached : Reached s n rows stage
        is : moved_stage stage ≡ g

      stage_back : (g : Stage V) → Reached s u (map moved rows) g → StageBack g
      stage_back g start = record { stage = record { done = []; rest = rows }; reached = start; is = refl }
      stage_back g (step {g = h} {before = before} {after = after} {p = p} {c = c} r next) = more (stage_back h r)
        where
          more : StageBack h → StageBack (record { done = map (cleared_pivot s c (scaled s c p)) h.done ++ ((c, scaled s c p) ∷ []); rest = map (cleared s c (scaled s c p)) (before ++ after) })
          more b = of_next (next_back b.stage b.reached before p after c (subst (λ (g : Stage V). IsNext s u g.rest before p after c) (sym b.is) next))
            where
              of_next : NextBack b.stage before p after c → StageBack (record { done = map (cleared_pivot s c (scaled s c p)) h.done ++ ((c, scaled s c p) ∷ []); rest = map (cleared s c (scaled s c p)) (before ++ after) })
              of_next q = record {
                stage = record { done = map (cleared_pivot s c (scaled s c q.here)) b.stage.done ++ ((c, scaled s c q.here) ∷ []); rest = map (cleared s c (scaled s c q.here)) (q.first ++ q.last) };
                reached = step b.reached q.next;
                is = ap₂ (λ done rest. record { done = done; rest = rest }) done_is rest_is;
              }
                where
                  pivot_is : moved (scaled s c q.here) ≡ scaled s c p
                  pivot_is = sym (scaled-moved c q.fixed q.here) ∙ ap (scaled s c) q.here_is

                  done_is : map moved_pivot (map (cleared_pivot s c (scaled s c q.here)) b.stage.done ++ ((c, scaled s c q.here) ∷ [])) ≡ map (cleared_pivot s c (scaled s c p)) h.done ++ ((c, scaled s c p) ∷ [])
                  done_is =
                      map-append moved_pivot (map (cleared_pivot s c (scaled s c q.here)) b.stage.done) ((c, scaled s c q.here) ∷ [])
                      ∙ ap₂ (λ (xs : List (ℕ × (ℕ → V))) (y : ℕ → V). xs ++ ((c, y) ∷ []))
                      (sym (done-moved c q.fixed (scaled s c q.here) b.stage.done) ∙ ap₂ (λ (y : ℕ → V) xs. map (cleared_pivot s c y) xs) pivot_is (ap (λ (g : Stage V). g.done) b.is)) pivot_is

                  rest_is : map moved (map (cleared s c (scaled s c q.here)) (q.first ++ q.last)) ≡ map (cleared s c (scaled s c p)) (before ++ after)
                  rest_is =
                      sym (rest-moved c q.fixed (scaled s c q.here) (q.first ++ q.last))
                      ∙ ap₂ (λ (y : ℕ → V) xs. map (cleared s c y) xs) pivot_is (map-append moved q.first q.last ∙ ap₂ (λ (xs ys : List (ℕ → V)). xs ++ ys) q.first_is q.last_is)

      step_back : (g : Stage V) → Reached s n rows g → StepIsHigh s u (moved_stage g) → StepIsHigh s n g
      step_back g reached h = of_next (next_back g reached h.before h.pivot h.after h.column h.next)
        where
          of_next : NextBack g h.before h.pivot h.after h.column → StepIsHigh s n g
          of_next q = record { before = q.first; after = q.last; pivot = q.here; column = h.column; next = q.next; high = high_back moved_high }
            where
              moved_high : NumberIsHigh h.column (moved q.here) (map moved_pivot g.done) (map moved (q.first ++ q.last))
              moved_high =
                  subst (NumberIsHigh h.column (moved q.here) (map moved_pivot g.done)) (sym (map-append moved q.first q.last ∙ ap₂ (λ (xs ys : List (ℕ → V)). xs ++ ys) q.first_is q.last_is))
                  (subst (λ p. NumberIsHigh h.column p (map moved_pivot g.done) (h.before ++ h.after)) (sym q.here_is) h.high)

              high_back : NumberIsHigh h.column (moved q.here) (map moved_pivot g.done) (map moved (q.first ++ q.last)) → NumberIsHigh h.column q.here g.done (q.first ++ q.last)
              high_back (inl k) = inl (subst (λ z. 2 ^ 120 ≤ s.inverse_height (q.here z)) q.fixed k)
              high_back (inr (inl k)) = inr (inl (record { column = column k.column; holds = subst (λ z. 2 ^ 120 ≤ s.product_height (s.inverse (q.here z)) (q.here (column k.column))) q.fixed k.holds }))
              high_back (inr (inr (inl k))) = inr (inr (inl (done_refused h.column q.fixed q.here g.done k)))
              high_back (inr (inr (inr k))) = inr (inr (inr (rest_refused h.column q.fixed q.here (q.first ++ q.last) k)))

      -- the reduction of the rows with moved columns is high only where that of the rows is
      pub reduction_back : ReductionIsHigh s u (map moved rows) → ReductionIsHigh s n rows
      reduction_back h = of_stage (stage_back h.stage h.reached)
        where
          of_stage : StageBack h.stage → ReductionIsHigh s n rows
          of_stage b = record { stage = b.stage; reached = b.reached; high = step_back b.stage b.reached (subst (StepIsHigh s u) (sym b.is) h.high) }
