-- The stages of the plain row reduction in code.
use Rattle.std.specs.Prelude.{◌≡◌, ◌≢◌, ℕ, suc, ◌<◌, ◌≤◌, ◌^◌, ◌⊎◌, List, [], ◌∷◌, ◌++◌, ⊤, map, length, take, drop, get_or}
use Rattle.std.proofs.Common.{Vec, Global}
use Rattle.ring_theory.specs.Scalars.{Meaning}
use Rattle.lin_row.specs.Lines.{IsLine, AllBelow, EachOf, lead_of, dot, entry, SumIsRefused}
use Rattle.lin_row.specs.System.{IsClearing, AreEchelon, AreReduced, AllVanish, RowsVanish, against}
use Rattle.lin_row.specs.Plain.{Reached, AllZeroIn, InSome, Among, scaled, with_units}

-- rows of code as lists
abbrev pub items_of : {E : Type 0} → List (Vec (ℕ × E) Global) → List (List (ℕ × E))
items_of [] = []
items_of (v ∷ vs) = v.items ∷ items_of vs

-- each pivot's row by its entries
abbrev pub functions_of : {E V : Type 0} → Meaning E V → List (ℕ × List (ℕ × E)) → List (ℕ × (ℕ → V))
functions_of m [] = []
functions_of m (p ∷ ps) = (p.0, entry m p.1) ∷ functions_of m ps

-- each new row is the old one in its place, cleared at the column c
abbrev pub AreCleared : {E V : Type 0} → Meaning E V → ℕ → List (ℕ × E) → List (List (ℕ × E)) → List (List (ℕ × E)) → Type 0
AreCleared m c pivot [] [] = ⊤
AreCleared m c pivot [] (y ∷ ys) = ⊥
AreCleared m c pivot (x ∷ xs) [] = ⊥
AreCleared m c pivot (x ∷ xs) (y ∷ ys) = IsClearing m c pivot x y × AreCleared m c pivot xs ys

-- the same of rows with their pivots, which stay
abbrev pub ArePivotsCleared : {E V : Type 0} → Meaning E V → ℕ → List (ℕ × E) → List (ℕ × List (ℕ × E)) → List (ℕ × List (ℕ × E)) → Type 0
ArePivotsCleared m c pivot [] [] = ⊤
ArePivotsCleared m c pivot [] (y ∷ ys) = ⊥
ArePivotsCleared m c pivot (x ∷ xs) [] = ⊥
ArePivotsCleared m c pivot (x ∷ xs) (y ∷ ys) = ((y.0 ≡ x.0) × IsClearing m c pivot x.1 y.1) × ArePivotsCleared m c pivot xs ys

-- a stage of the plain row reduction of the rows: the pivots' rows are reduced, the others begin after all pivots, each row has its combination
-- in the columns from u on, and every value that all of them vanish at the given rows do too
pub record IsStage {E V : Type 0} (m : Meaning E V) (u : ℕ) (extended : List (ℕ → V)) (given : List (List (ℕ × E))) (done : List (ℕ × List (ℕ × E))) (rest : List (List (ℕ × E))) : Type 0 where
  pub reached : Reached m.scalars u extended (record { done = functions_of m done; rest = map (entry m) rest })
  pub echelon : AreEchelon m done
  pub reduced : AreReduced m done
  pub below : AllBelow u done
  pub lines : EachOf (IsLine m) rest
  pub later : EachOf (λ r. AllBelow (lead_of r) done) rest
  pub done_evidence : (w : ℕ → V) → AllVanish m done (against m u given w)
  pub rest_evidence : (w : ℕ → V) → RowsVanish m rest (against m u given w)
  pub spans : (w : ℕ → V) → ((d : ℕ) → u ≤ d → w d ≡ m.scalars.ops.zero) → AllVanish m done w → RowsVanish m rest w → RowsVanish m given w
  pub low : EachOf (AllBelow u) given

-- the row with number i is the first that begins in the lowest column in which a row begins, and that column is below u
pub record IsLeast {E : Type 0} (u : ℕ) (rest : List (List (ℕ × E))) (i : ℕ) : Type 0 where
  pub within : i < length rest
  pub given : lead_of (get_or rest i []) < u
  pub first : EachOf (λ r. lead_of r ≢ lead_of (get_or rest i [])) (take i rest)
  pub least : EachOf (λ r. lead_of (get_or rest i []) ≤ lead_of r) rest

-- the pivots' rows are those of the plain row reduction at its end
pub record IsEnd {E V : Type 0} (m : Meaning E V) (u : ℕ) (extended : List (ℕ → V)) (pivots : List (ℕ × List (ℕ × E))) : Type 0 where
  pub rest : List (ℕ → V)
  pub reached : Reached m.scalars u extended (record { done = functions_of m pivots; rest = rest })
  pub finished : (d : ℕ) → d < u → AllZeroIn m.scalars rest d
  pub reduced : AreReduced m pivots

-- the first rows, each with its own unit column
pub record IsStart {E V : Type 0} (m : Meaning E V) (u : ℕ) (given first : List (List (ℕ × E))) (rest : List (List (ℕ × E))) : Type 0 where
  pub lines : EachOf (IsLine m) rest
  pub entries : map (entry m) rest ≡ with_units m u 0 first
  pub evidence : (w : ℕ → V) → RowsVanish m rest (against m u given w)
  pub spans : (w : ℕ → V) → ((d : ℕ) → u ≤ d → w d ≡ m.scalars.ops.zero) → RowsVanish m rest w → RowsVanish m first w
  pub low : EachOf (AllBelow u) first

-- the rows but the one with number i
abbrev pub others_of : {X : Type 0} → List X → ℕ → List X
others_of rows i = take i rows ++ drop (suc i) rows

-- the row with number i is scaled to 1 at its first column, and all others are cleared there
pub record IsStep {E V : Type 0} (m : Meaning E V) (done : List (ℕ × List (ℕ × E))) (rest : List (List (ℕ × E))) (i : ℕ) (done_next : List (ℕ × List (ℕ × E))) (rest_next : List (List (ℕ × E))) : Type 0 where
  pub factor : V
  pub factor_is : factor ≡ m.scalars.inverse (entry m (get_or rest i []) (lead_of (get_or rest i [])))
  pub unit : m.scalars.ops.mul (entry m (get_or rest i []) (lead_of (get_or rest i []))) factor ≡ m.scalars.ops.one
  pub pivot : List (ℕ × E)
  pub line : IsLine m pivot
  pub times : (w : ℕ → V) → dot m pivot w ≡ m.scalars.ops.mul factor (dot m (get_or rest i []) w)
  pub done_cleared : List (ℕ × List (ℕ × E))
  pub clears_done : ArePivotsCleared m (lead_of (get_or rest i [])) pivot done done_cleared
  pub done_is : done_next ≡ done_cleared ++ ((lead_of (get_or rest i []), pivot) ∷ [])
  pub clears_rest : AreCleared m (lead_of (get_or rest i [])) pivot (others_of rest i) rest_next

-- a number that the step forms is high
abbrev pub StepIsRefused : {E V : Type 0} → Meaning E V → List (ℕ × List (ℕ × E)) → List (List (ℕ × E)) → ℕ → Type 0
StepIsRefused m done rest i =
    let p = entry m (get_or rest i []) in
    let c = lead_of (get_or rest i []) in
    let s = m.scalars in
    (2 ^ 120 ≤ s.inverse_height (p c))
    ⊎ ((InSome (λ d. 2 ^ 120 ≤ s.product_height (s.inverse (p c)) (p d)))
    ⊎ (Among (λ x. SumIsRefused s x.1 (s.ops.neg (x.1 c)) (scaled s c p)) (functions_of m done)
    ⊎ Among (λ x. SumIsRefused s x (s.ops.neg (x c)) (scaled s c p)) (map (entry m) (others_of rest i))))
