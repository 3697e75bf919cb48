-- The loops that make the reduced form and the kernel.
use Rattle.std.proofs.lemmas.List.{take_more}
use Rattle.std.proofs.Common.{◌≡◌, ◌≢◌, ℕ, zero, suc, ◌+◌, ◌<◌, ◌≤◌, cond, List, [], ◌∷◌, ◌++◌, length, take, drop, get_or, map, append_assoc, append-nil, sym, ap, ap₂, ◌∙◌, arith, subst, Vec, Global, Result, Ok, Err, IfOk}
use Rattle.std.proofs.lemmas.List.{map-append, drop_all}
use Rattle.ring_theory.specs.Scalars.{Meaning}
use Rattle.lin_row.specs.Lines.{AllBelow, IsLine, EachOf, given_part}
use Rattle.lin_row.specs.System.{AreEchelon, AllVanish, IsSystem, IsAbsent, lines_of}
use Rattle.lin_row.specs.Rows.{AreRows, AreSolutions, IsSolution, rows_of}
use Rattle.lin_row.specs.declared.row.Row.{Row}
use Rattle.lin_row.specs.declared.row.Solution.{Solution}
use Rattle.lin_row.proofs.LineLaws
use Rattle.lin_row.proofs.SystemLaws
use Rattle.lin_row.proofs.BuildLaws

module _ {E : Type 0} (u : ℕ) where
  -- an entry more of the part before the unit columns
  pub given_step : (all xs : List (ℕ × E)) (i : ℕ) (t : ℕ × E) → i < length xs → t ≡ get_or xs i t → t.0 < u → all ++ given_part u (drop i xs) ≡ given_part u xs → (all ++ (t ∷ [])) ++ given_part u (drop (i + 1) xs) ≡ given_part u xs
  given_step all xs i t within read low before =
      append_assoc all (t ∷ []) (given_part u (drop (i + 1) xs))
      ∙ ap (λ ys. all ++ ys) (sym (ap (given_part u) (LineLaws.next_at xs i t within read) ∙ ap (λ b. cond b (t ∷ given_part u (drop (i + 1) xs)) []) (BuildLaws.is_below t.0 u low))) ∙ before

  pub given_stop : (all xs : List (ℕ × E)) (i : ℕ) (t : ℕ × E) → i < length xs → t ≡ get_or xs i t → u ≤ t.0 → all ++ given_part u (drop i xs) ≡ given_part u xs → all ≡ given_part u xs
  given_stop all xs i t within read high before =
      sym (append-nil all) ∙ ap (λ ys. all ++ ys) (sym (ap (given_part u) (LineLaws.next_at xs i t within read) ∙ ap (λ b. cond b (t ∷ given_part u (drop (i + 1) xs)) []) (BuildLaws.not_below t.0 u high))) ∙ before

  pub given_end : (all xs : List (ℕ × E)) (i : ℕ) → length xs ≤ i → all ++ given_part u (drop i xs) ≡ given_part u xs → all ≡ given_part u xs
  given_end all xs i end before = sym (append-nil all) ∙ ap (λ ys. all ++ given_part u ys) (sym (drop_all i xs end)) ∙ before

  pub given_rows_step : (ps : List (ℕ × Vec (ℕ × E) Global)) (i : ℕ) (p : ℕ × Vec (ℕ × E) Global) (all : List (Row E)) (r : Row E) → i < length ps → p ≡ get_or ps i p → r.entries ≡ given_part u p.1.items
      → rows_of all ≡ map (λ q. given_part u q.1) (lines_of (take i ps)) → rows_of (all ++ (r ∷ [])) ≡ map (λ q. given_part u q.1) (lines_of (take (i + 1) ps))
  given_rows_step ps i p all r within read entries before =
      BuildLaws.rows-append all (r ∷ []) ∙ ap₂ (λ xs x. xs ++ (x ∷ [])) before entries
      ∙ sym (ap (map (λ q. given_part u q.1)) (SystemLaws.lines-more ps i p within read) ∙ map-append (λ q. given_part u q.1) (lines_of (take i ps)) ((p.0, p.1.items) ∷ []))

pub rows_lines : {E V : Type 0} (m : Meaning E V) (rows : List (Row E)) → AreRows m rows → EachOf (IsLine m) (rows_of rows)
rows_lines m [] all = tt
rows_lines m (r ∷ rows) all = (all.0, rows_lines m rows all.1)

-- a system whose pivots were cleared upwards
pub ok_system : {E V X : Type 0} (m : Meaning E V) (u : ℕ) (given : List (List (ℕ × E))) (ps : List (ℕ × List (ℕ × E))) (r : Result (Vec (ℕ × Vec (ℕ × E) Global) Global) X) → IsSystem m u given given ps
    → IfOk r (λ v. AreEchelon m (lines_of v.items)) → IfOk r (λ v. (a : ℕ) → AllBelow a ps → AllBelow a (lines_of v.items)) → IfOk r (λ v. (w : ℕ → V) → AllVanish m ps w → AllVanish m (lines_of v.items) w)
    → IfOk r (λ v. (w : ℕ → V) → AllVanish m (lines_of v.items) w → AllVanish m ps w) → IfOk r (λ v. IsSystem m u given given (lines_of v.items))
ok_system m u given ps (Ok v) system echelon below down up =
    record {
      echelon = echelon;
      below = below u system.below;
      evidence = λ w. down _ (system.evidence w);
      spans = λ w none all. system.spans w none (up w all);
      low = system.low;
    }
ok_system m u given ps (Err e) system echelon below down up = tt

-- the pivots that were looked at
pub absent_more : {E : Type 0} (ps : List (ℕ × Vec (ℕ × E) Global)) (i c : ℕ) (p : ℕ × Vec (ℕ × E) Global) → i < length ps → p ≡ get_or ps i p → p.0 ≢ c → IsAbsent c (lines_of (take i ps)) → IsAbsent c (lines_of (take (i + 1) ps))
absent_more ps i c p within read differ all = subst (IsAbsent c) (sym (SystemLaws.lines-more ps i p within read)) (SystemLaws.absent_push (lines_of (take i ps)) (p.0, p.1.items) c all differ)

pub pivot_among : {E : Type 0} (ps : List (ℕ × Vec (ℕ × E) Global)) (i c : ℕ) (p : ℕ × Vec (ℕ × E) Global) → i < length ps → p ≡ get_or ps i p → p.0 ≡ c → IsAbsent c (lines_of ps) → ⊥
pivot_among [] i c p within read e absent = omega (arith, within)
pivot_among (q ∷ ps) zero c p within read e absent = let k : p ≡ q = read in absent.0 (sym (ap (λ u. u.0) k) ∙ e)
pivot_among (q ∷ ps) (suc i) c p within read e absent = pivot_among ps i c p (omega (arith, within)) read e absent.1

-- a target more, with its answer
solutions_push : {E V : Type 0} (m : Meaning E V) (rows ts : List (Row E)) (ss : List (Solution E)) (t : Row E) (s : Solution E) → AreSolutions m rows ts ss → IsSolution m rows t.entries s → AreSolutions m rows (ts ++ (t ∷ [])) (ss ++ (s ∷ []))
solutions_push m rows [] [] t s all h = (h, tt)
solutions_push m rows [] (x ∷ ss) t s all h = absurd all
solutions_push m rows (y ∷ ts) [] t s all h = absurd all
solutions_push m rows (y ∷ ts) (x ∷ ss) t s all h = (all.0, solutions_push m rows ts ss t s all.1 h)

pub solutions_more : {E V : Type 0} (m : Meaning E V) (rows targets : List (Row E)) (i : ℕ) (t : Row E) (ss : List (Solution E)) (s : Solution E) → i < length targets → t ≡ get_or targets i t → AreSolutions m rows (take i targets) ss → IsSolution m rows t.entries s
    → AreSolutions m rows (take (i + 1) targets) (ss ++ (s ∷ []))
solutions_more m rows targets i t ss s within read all h =
    subst (λ ts. AreSolutions m rows ts (ss ++ (s ∷ []))) (sym (take_more targets i t within ∙ ap (λ u. take i targets ++ (u ∷ [])) (sym read))) (solutions_push m rows (take i targets) ss t s all h)
