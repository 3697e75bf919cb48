-- Carrying by moves: one degree further changes nothing below.
use Rattle.std.proofs.Common.{◌≡◌, ℕ, zero, suc, ◌≤◌, List, [], ◌∷◌, take, refl, sym, ◌∙◌, subst, arith}
use Rattle.std.specs.List.{AllByRecursion}
use Rattle.ring_theory.specs.Scalars.{Scalars, ScalarLaws, Meaning}
use Rattle.ring_theory.proofs.ValueSet.{values_are_set}
use Rattle.poly_law.specs.Polynomials.{Polynomial, SameIn, SameToIn, HaveNoConstant, cut_in, substitute}
use Rattle.poly_law.proofs.LawsOverRings as over_rings
use Rattle.jet_law.specs.Canonical.{jet}
use Rattle.germ_law.proofs.Canonical
use Rattle.coord_change.specs.Moves.{Move, put}
use Rattle.coord_change.specs.Carries.{carry, carry_all}
use Rattle.coord_change.specs.declared.change.Change.{Change}
use Rattle.coord_change.specs.Chains.{AreMoves}
use Rattle.coord_change.proofs.Canonicals.{jet_of_same}
use Rattle.coord_change.proofs.CompositeLemmas.{no_constant}

module _ {V : Type 0} (n : ℕ) (s : Scalars V) (l : ScalarLaws s) where
  pub carry_is : (k : ℕ) (m : Move n V) (f : Polynomial n V) → SameIn n s.ops (carry n s k m f) (cut_in n s.ops k (substitute n n s.ops (put n s m) f))
  unfolding carry
  carry_is k m f = Canonical.jet_is_cut n s l k (substitute n n s.ops (put n s m) f)

  pub carry_same_to : (k : ℕ) (m : Move n V) (f : Polynomial n V) → SameToIn n s.ops k (carry n s k m f) (substitute n n s.ops (put n s m) f)
  unfolding carry
  carry_same_to k m f = Canonical.jet_same_to n s l k (substitute n n s.ops (put n s m) f)

  pub carry_same : (o k : ℕ) → o ≤ k → (m : Move n V) → HaveNoConstant n s.ops n (put n s m) → (f g : Polynomial n V) → SameToIn n s.ops o f g
      → SameToIn n s.ops o (carry n s k m f) (carry n s o m g)
  carry_same o k le m low f g e a d =
      carry_same_to k m f a (omega arith)
      ∙ over_rings.subst_cut s.ops l.ring (values_are_set s l) n n o (put n s m) (put n s m) low (λ i h b q. refl) f g e a d
      ∙ sym (carry_same_to o m g a d)

  -- polynomials that agree up to the order are carried to one jet
  pub carry_of_same : (o : ℕ) → (m : Move n V) → HaveNoConstant n s.ops n (put n s m) → (f g : Polynomial n V) → SameToIn n s.ops o f g → carry n s o m f ≡ carry n s o m g
  unfolding carry
  carry_of_same o m low f g e =
      jet_of_same n s l o (substitute n n s.ops (put n s m) f) (substitute n n s.ops (put n s m) g)
      (over_rings.subst_cut s.ops l.ring (values_are_set s l) n n o (put n s m) (put n s m) low (λ i h b q. refl) f g e)

  -- carrying to a greater order agrees with carrying to a smaller one, up to the smaller
  pub carry_all_same : (o k : ℕ) → o ≤ k → (ms : List (Move n V)) → AllByRecursion (λ m. HaveNoConstant n s.ops n (put n s m)) ms → (f g : Polynomial n V)
      → SameToIn n s.ops o f g → SameToIn n s.ops o (carry_all n s k ms f) (carry_all n s o ms g)
  carry_all_same o k le [] low f g e = e
  carry_all_same o k le (m ∷ ms) low f g e = carry_all_same o k le ms low.1 (carry n s k m f) (carry n s o m g) (carry_same o k le m low.0 f g e)

  pub jets_same : (o k : ℕ) → o ≤ k → (g : Polynomial n V) → SameToIn n s.ops o (jet n s k g) (jet n s o g)
  jets_same o k le g a d = Canonical.jet_same_to n s l k g a (omega arith) ∙ sym (Canonical.jet_same_to n s l o g a d)

-- what the first moves of a chain put has no constant terms
pub no_constants : {E V : Type 0} (m : Meaning E V) (n last : ℕ) (ms : List (Move n V)) (cs : List (Change E)) → AreMoves m n last ms cs → (i : ℕ) → AllByRecursion (λ mv. HaveNoConstant n m.scalars.ops n (put n m.scalars mv)) (take i ms)
no_constants m n last ms cs a zero = tt
no_constants m n last [] cs a (suc i) = tt
no_constants m n last (mv ∷ ms) [] a (suc i) = absurd a
no_constants m n last (mv ∷ ms) (c ∷ cs) a (suc i) = (
  subst (λ w. HaveNoConstant n m.scalars.ops n (put n m.scalars w)) a.0.exactly.parts (no_constant m n c a.0.exactly.change a.0.exactly.variables),
  no_constants m n last ms cs a.1 i,
)
