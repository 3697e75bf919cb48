-- A germ that is carried by moves one after the other is, up to the order, the germ with their composite substituted.
use Rattle.std.proofs.Common.{ℕ, zero, suc, ◌<◌, ◌≤◌, List, [], ◌∷◌, map, get_or, length, refl, sym, ◌∙◌, arith}
use Rattle.std.specs.List.{AllByRecursion}
use Rattle.ring_theory.specs.Scalars.{Scalars, ScalarLaws}
use Rattle.ring_theory.proofs.ValueSet.{values_are_set}
use Rattle.poly_law.specs.ExpList.{exps}
use Rattle.poly_law.specs.Polynomials.{Polynomial, SameToIn, HaveNoConstant, substitute}
use Rattle.poly_law.proofs.ExpLists.{exps_are}
use Rattle.poly_law.proofs.SubstOrder
use Rattle.poly_law.proofs.LawsOverRings as over_rings
use Rattle.jet_law.specs.Canonical.{jet}
use Rattle.germ_law.proofs.Canonical
use Rattle.coord_change.specs.Moves.{Move, put}
use Rattle.coord_change.specs.Carries.{carry, carry_all, compose, compose_all, composite}
use Rattle.carry_law.proofs.CarryLemmas

module _ {V : Type 0} (n : ℕ) (s : Scalars V) (l : ScalarLaws s) (k : ℕ) (one : 1 ≤ k) where
  abbrev pub IsLow : Move n V → Type 0
  IsLow m = HaveNoConstant n s.ops n (put n s m)

  abbrev after : Move n V → Polynomial n V → Polynomial n V
  after m f = substitute n n s.ops (put n s m) f

  -- what a move puts after another one
  put_carried : (m first : Move n V) (i : ℕ) → SameToIn n s.ops k (get_or (map (carry n s k m) first) i []) (after m (get_or first i []))
  put_carried m [] i b d = refl
  put_carried m (p ∷ ps) zero b d = CarryLemmas.carry_same_to n s l k m p b d
  put_carried m (p ∷ ps) (suc i) b d = put_carried m ps i b d

  put_composed : (first m : Move n V) (i : ℕ) → SameToIn n s.ops k (put n s (compose n s k first m) i) (after m (put n s first i))
  unfolding compose
  put_composed first m i = put_carried m first i

  -- a composition has no constant terms
  composed_low : (first m : Move n V) → IsLow first → IsLow m → IsLow (compose n s k first m)
  composed_low first m lf lm i h b d =
      put_composed first m i b (omega arith)
      ∙ SubstOrder.starts_subst (exps n) (exps_are n) (exps n) (exps_are n) s.ops l.ring (values_are_set s l) (put n s m) lm 1 (put n s first i) (lf i h) b d

  -- substituting it is substituting the first one and then the second
  composed_same : (first m : Move n V) (f : Polynomial n V) → SameToIn n s.ops k (after (compose n s k first m) f) (after m (after first f))
  composed_same first m f b d =
      SubstOrder.parts_same_to (exps n) (exps_are n) (exps n) (exps_are n) s.ops l.ring (values_are_set s l) k (put n s (compose n s k first m)) (λ i. after m (put n s first i))
      (λ i h. put_composed first m i) f b d
      ∙ sym (over_rings.subst_compose s.ops l.ring (values_are_set s l) n n n (put n s first) (put n s m) f b)

  after_same : (m : Move n V) → IsLow m → (f g : Polynomial n V) → SameToIn n s.ops k f g → SameToIn n s.ops k (after m f) (after m g)
  after_same m low f g e = SubstOrder.subst_same_to (exps n) (exps_are n) (exps n) (exps_are n) s.ops l.ring (values_are_set s l) (put n s m) low k f g e

  carried_composed : (ms : List (Move n V)) → AllByRecursion IsLow ms → (first : Move n V) → IsLow first → (f h : Polynomial n V) → SameToIn n s.ops k h (after first f)
      → SameToIn n s.ops k (carry_all n s k ms h) (after (compose_all n s k first ms) f)
  carried_composed [] low first lf f h q = q
  carried_composed (m ∷ ms) low first lf f h q =
      carried_composed ms low.1 (compose n s k first m) (composed_low first m lf low.0) f (carry n s k m h)
      (λ b d. CarryLemmas.carry_same_to n s l k m h b d ∙ after_same m low.0 h (after first f) q b d ∙ sym (composed_same first m f b d))

  put_jet : (m : Move n V) (i : ℕ) → SameToIn n s.ops k (get_or (map (jet n s k) m) i []) (get_or m i [])
  put_jet [] i b d = refl
  put_jet (p ∷ ps) zero b d = Canonical.jet_same_to n s l k p b d
  put_jet (p ∷ ps) (suc i) b d = put_jet ps i b d

  pub carried_by_composite : (ms : List (Move n V)) → 0 < length ms → AllByRecursion IsLow ms → (f : Polynomial n V)
      → SameToIn n s.ops k (carry_all n s k ms (jet n s k f)) (substitute n n s.ops (put n s (composite n s k ms)) f)
  unfolding composite
  carried_by_composite [] some low f = absurd (omega arith)
  carried_by_composite (m ∷ ms) some low f =
      carried_composed ms low.1 (map (jet n s k) m) (λ i h b d. put_jet m i b (omega arith) ∙ low.0 i h b d) f (carry n s k m (jet n s k f))
      (λ b d.
      CarryLemmas.carry_same_to n s l k m (jet n s k f) b d ∙ after_same m low.0 (jet n s k f) f (Canonical.jet_same_to n s l k f) b d
      ∙ sym (SubstOrder.parts_same_to (exps n) (exps_are n) (exps n) (exps_are n) s.ops l.ring (values_are_set s l) k (put n s (map (jet n s k) m)) (put n s m) (λ i h. put_jet m i) f b d))
