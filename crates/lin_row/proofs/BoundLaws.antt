-- The columns of a system are below each bound of the columns of its rows.
use Rattle.std.proofs.Common.{◌≡◌, ◌≢◌, ℕ, zero, suc, ◌-◌, ◌<◌, ◌≤◌, cond, List, [], ◌∷◌, refl, sym, ap, ◌∙◌, arith}
use Rattle.std.proofs.Math.Decide.{dec_le}
use Rattle.ring_theory.specs.Ring.{IsCommRing}
use Rattle.ring_theory.specs.Scalars.{Meaning}
use Rattle.ring_theory.proofs.RingSolver
use Rattle.lin_row.specs.Lines.{AllBelow, EachOf, IsLine, lead_of, dot, unit_at}
use Rattle.lin_row.specs.System.{ArePivots, AllVanish, IsSystem, against, dot_at}
use Rattle.lin_row.proofs.LineLaws
use Rattle.lin_row.proofs.SystemLaws
use Rattle.lin_row.proofs.BuildLaws
use Rattle.lin_row.proofs.ExcludedLaws

module _ {E V : Type 0} (m : Meaning E V) (laws : IsCommRing m.scalars.ops) where
  open m.scalars.ops use {neg}

  -- rows below a are 0 at the unit vector of a column from a on
  dot_at-beyond : (rows : List (List (ℕ × E))) (a d j : ℕ) → EachOf (AllBelow a) rows → a ≤ d → dot_at m rows j (unit_at m.scalars.ops d) ≡ m.scalars.ops.zero
  dot_at-beyond [] a d j below le = refl
  dot_at-beyond (row ∷ rows) a d zero below le = ExcludedLaws.entry_beyond m laws row a d below.0 le
  dot_at-beyond (row ∷ rows) a d (suc j) below le = dot_at-beyond rows a d j below.1 le

  vanish_same : (ps : List (ℕ × List (ℕ × E))) (v w : ℕ → V) → ((d : ℕ) → v d ≡ w d) → AllVanish m ps v → AllVanish m ps w
  vanish_same [] v w same all = tt
  vanish_same (p ∷ ps) v w same all = (sym (ExcludedLaws.dot-same m laws p.1 v w same) ∙ all.0, vanish_same ps v w same all.1)

  module _ (u : ℕ) (given : List (List (ℕ × E))) (ps : List (ℕ × List (ℕ × E))) (system : IsSystem m u given given ps) (a : ℕ) (below : EachOf (AllBelow a) given) where
    -- so are the pivots' rows
    beyond : (d : ℕ) → a ≤ d → d < u → AllVanish m ps (unit_at m.scalars.ops d)
    beyond d le low = vanish_same ps (against m u given (unit_at m.scalars.ops d)) (unit_at m.scalars.ops d) same (system.evidence (unit_at m.scalars.ops d))
      where
        same : (e : ℕ) → against m u given (unit_at m.scalars.ops d) e ≡ unit_at m.scalars.ops d e
        same e = elim (dec_le u e) [
          | yes h ↦
              ap (λ b. cond b (unit_at m.scalars.ops d e) (neg (dot_at m given (e - u) (unit_at m.scalars.ops d)))) (BuildLaws.not_below e u h)
              ∙ ap neg (dot_at-beyond given a d (e - u) below le) ∙ RingSolver.neg_zero m.scalars.ops laws ∙ sym (LineLaws.unit_other m laws d e (λ k. omega arith))
          | no h ↦ ap (λ b. cond b (unit_at m.scalars.ops d e) (neg (dot_at m given (e - u) (unit_at m.scalars.ops d)))) (BuildLaws.is_below e u (omega arith))
        ]

    -- a row that the pivots' rows make of a target below a begins below a
    pub lead_below : (left target : List (ℕ × E)) → IsLine m left → lead_of left < u → u ≤ 18446744073709551615 → AllBelow a target → ((w : ℕ → V) → AllVanish m ps w → dot m left w ≡ dot m target w) → lead_of left < a
    lead_below left target line low small low_target same =
        elim (dec_le a (lead_of left)) [
          | yes h ↦ absurd (SystemLaws.lead_entry m laws left line (omega arith) (same (unit_at m.scalars.ops (lead_of left)) (beyond (lead_of left) h low) ∙ ExcludedLaws.entry_beyond m laws target a (lead_of left) low_target h))
          | no h ↦ omega arith
        ]

    -- the pivots are below a
    pub pivots_below : m.scalars.ops.one ≢ m.scalars.ops.zero → AllBelow a ps
    pivots_below nontrivial = go ps system.echelon.pivots system.below beyond
      where
        go : (qs : List (ℕ × List (ℕ × E))) → ArePivots m qs → AllBelow u qs → ((d : ℕ) → a ≤ d → d < u → AllVanish m qs (unit_at m.scalars.ops d)) → AllBelow a qs
        go [] all low vanish = tt
        go (q ∷ qs) all low vanish =
            let first : q.0 < a = elim (dec_le a q.0) [ yes h ↦ absurd (nontrivial (sym all.0.one ∙ (vanish q.0 h low.0).0)) | no h ↦ omega arith ] in
            (first, go qs all.1 low.1 (λ d le less. (vanish d le less).1))
