-- The composite of changes of the program as the composite of moves.
use Rattle.std.proofs.Common.{◌≡◌, ℕ, ◌+◌, ◌<◌, inl, inr, List, [], map, length, get_or, All, ap, sym, ◌∙◌, subst, arith}
use Rattle.std.proofs.lemmas.List.{get_or-map, length-map, same_lists}
use Rattle.ring_theory.specs.Scalars.{Meaning, ScalarLaws}
use Rattle.ring_theory.proofs.ValueSet.{values_are_set}
use Rattle.poly_law.specs.Exps.{variable}
use Rattle.poly_law.specs.ExpList.{exps}
use Rattle.poly_law.specs.Poly.{coefficient, IsInvertible}
use Rattle.poly_law.specs.Polynomials.{Polynomial, SameIn, cut_in, substitute}
use Rattle.poly_law.proofs.ExpLists.{exps_are}
use Rattle.poly_law.proofs.Order
use Rattle.jet_law.specs.Terms.{poly_of}
use Rattle.jet_poly.specs.JetTerms.{JetTerms, IsRising}
use Rattle.jet_poly.specs.Jets.{IsJet}
use Rattle.jet_subst.specs.Parts.{IsPart, part_of, jet_at}
use Rattle.jet_subst.specs.Substitutions.{IsSubstHigh}
use Rattle.coord_change.specs.declared.change.Change.{Change}
use Rattle.coord_change.specs.Changes.{IsChange, IsCompositionHigh, IsMatrixHigh, entry_of}
use Rattle.coord_change.specs.Inverses.{IsInverseMatrix}
use Rattle.coord_change.specs.Moves.{Move, put, move_from, linear_part}
use Rattle.coord_change.specs.Carries.{carry, compose}
use Rattle.coord_change.specs.CarryHeights.{IsCarryHigh, IsComposeHigh}
use Rattle.coord_change.proofs.InverseLemmas
use Rattle.coord_change.proofs.InverseSteps
use Rattle.mono_exp.specs.declared.exponent.Exp.{Exp}
use Rattle.jet_subst.proofs.PowerLemmas.{any_default, before_or_last}
use Rattle.coord_change.specs.MoveJets.{IsMoveExactly}
use Rattle.hessian_rank.specs.Stages.{PutsSame}
use Rattle.hessian_rank.proofs.CanonicalJets.{canonical}

module _ {E V : Type 0} (m : Meaning E V) (laws : ScalarLaws m.scalars) (n : ℕ) where
  -- what a change puts is what its move puts
  pub put_from : (c : Change E) (i : ℕ) → i < length c.parts → put n m.scalars (move_from m n c) i ≡ part_of n m.value c.parts i
  put_from c i h = get_or-map (λ (p : JetTerms E). poly_of n m.value p.terms) c.parts i (record { n = 0; order = 0; terms = [] }) [] h

  -- the inverse of the linear part of a change, for a move that puts the same
  inverse_for : (move : Move n V) (c : Change E) → ((i : ℕ) → i < n → SameIn n m.scalars.ops (part_of n m.value c.parts i) (put n m.scalars move i)) → IsInvertible (exps n) m.scalars.ops (part_of n m.value c.parts) (entry_of m n c.inverse)
      → IsInverseMatrix m.scalars.ops n (linear_part n m.scalars move) (entry_of m n c.inverse)
  inverse_for move c same inv =
      InverseLemmas.inverse_of_same m.scalars.ops laws.ring n (λ i j. coefficient (exps n) m.scalars.ops (part_of n m.value c.parts i) (variable (exps n) j)) (linear_part n m.scalars move)
      (λ i j h g. same i h (variable (exps n) j)) (entry_of m n c.inverse) (record { left = inv.left; right = inv.right })

  module _ (move : Move n V) (next : Change E) (puts : PutsSame m n move next) where
    -- what is put for variables, substituted in f
    substituted : (f : Polynomial n V) → SameIn n m.scalars.ops (substitute n n m.scalars.ops (part_of n m.value next.parts) f) (substitute n n m.scalars.ops (put n m.scalars move) f)
    substituted f = InverseSteps.subst_same (exps n) (exps_are n) (exps n) (exps_are n) m.scalars.ops laws.ring (values_are_set m.scalars laws) (part_of n m.value next.parts) (put n m.scalars move) puts.parts f

    -- a jet that is f carried by the change is f carried by the move
    pub carried_is : (k : ℕ) (h : JetTerms E) (f : Polynomial n V) → IsJet m h → h.n ≡ n → h.order ≡ k → IsRising h.terms
        → SameIn n m.scalars.ops (poly_of n m.value h.terms) (cut_in n m.scalars.ops k (substitute n n m.scalars.ops (part_of n m.value next.parts) f)) → poly_of n m.value h.terms ≡ carry n m.scalars k move f
    unfolding carry
    carried_is k h f j en eo rising e =
        canonical m laws n k h (substitute n n m.scalars.ops (put n m.scalars move) f) j en eo rising
        (λ b low. e b ∙ Order.cut_same_to (exps n) (exps_are n) m.scalars.ops laws.ring k (substitute n n m.scalars.ops (part_of n m.value next.parts) f) b low ∙ substituted f b)

    -- carrying by the change is high only where carrying by the move is
    pub carry_high : (k : ℕ) (f : Polynomial n V) → IsSubstHigh (exps n) (exps n) m.scalars k (part_of n m.value next.parts) f → IsCarryHigh n m.scalars k move f
    carry_high k f high = InverseSteps.subst_high_same (exps n) (exps_are n) (exps n) (exps_are n) m.scalars laws.ring (values_are_set m.scalars laws) (part_of n m.value next.parts) (put n m.scalars move) puts.parts k f high

    module _ (first : Change E) (change : IsChange m first) (en : first.n ≡ n) where
      -- a change has a part for each variable
      long : length first.parts ≡ n
      long = change.count ∙ en

      -- the composite, part after part
      pub composed_is : (c : Change E) → length c.parts ≡ n → All (IsPart m n) c.parts → All (λ p. p.order ≡ 16) c.parts → All (λ (p : JetTerms E). IsRising p.terms) c.parts
          → ((i : ℕ) → i < n → SameIn n m.scalars.ops (part_of n m.value c.parts i) (cut_in n m.scalars.ops 16 (substitute n n m.scalars.ops (part_of n m.value next.parts) (part_of n m.value first.parts i))))
          → move_from m n c ≡ compose n m.scalars 16 (move_from m n first) move
      unfolding compose
      composed_is c count parts orders rising values =
          same_lists (move_from m n c) (map (carry n m.scalars 16 move) (move_from m n first))
          (length-map c.parts (λ (p : JetTerms E). poly_of n m.value p.terms) ∙ count ∙ sym long ∙ sym (length-map first.parts (λ (p : JetTerms E). poly_of n m.value p.terms)) ∙ sym (length-map (move_from m n first) (carry n m.scalars 16 move)))
          (λ k d h. at k d (let l = length-map c.parts (λ (p : JetTerms E). poly_of n m.value p.terms) in omega arith))
        where
          at : (k : ℕ) (d : Polynomial n V) → k < n → get_or (move_from m n c) k d ≡ get_or (map (carry n m.scalars 16 move) (move_from m n first)) k d
          at k d h =
              let here : k < length c.parts = omega arith in
              let there : k < length first.parts = (let l = long in omega arith) in
              let p : JetTerms E = jet_at c.parts k in
              let part : IsPart m n p = parts k (record { n = 0; order = 0; terms = [] }) here in
              get_or-map (λ (p : JetTerms E). poly_of n m.value p.terms) c.parts k (record { n = 0; order = 0; terms = [] }) d here
              ∙ carried_is 16 p (part_of n m.value first.parts k) part.jet part.variables (orders k (record { n = 0; order = 0; terms = [] }) here) (rising k (record { n = 0; order = 0; terms = [] }) here) (values k h)
              ∙ ap (carry n m.scalars 16 move) (sym (put_from first k there))
              ∙ sym (get_or-map (carry n m.scalars 16 move) (move_from m n first) k [] d (let l = length-map first.parts (λ (p : JetTerms E). poly_of n m.value p.terms) in omega arith))

      -- composing the changes is high only where composing the moves is
      pub compose_high : next.n ≡ n → IsCompositionHigh m 16 first next → IsComposeHigh n m.scalars 16 (move_from m n first) move
      compose_high ex high = step (subst (λ z. IsInvertible (exps z) m.scalars.ops (part_of z m.value first.parts) (entry_of m z first.inverse)) en change.invertible)
          (subst (λ z. IsInvertible (exps z) m.scalars.ops (part_of z m.value next.parts) (entry_of m z next.inverse)) ex puts.change.invertible) en high
        where
          step : IsInvertible (exps n) m.scalars.ops (part_of n m.value first.parts) (entry_of m n first.inverse) → IsInvertible (exps n) m.scalars.ops (part_of n m.value next.parts) (entry_of m n next.inverse)
              → first.n ≡ n → IsCompositionHigh m 16 first next → IsComposeHigh n m.scalars 16 (move_from m n first) move
          step a b e (inl p) =
              let inside : p.part < n = subst (λ z. p.part < z) e p.inside in
              inl (record {
                variable = p.part;
                inside = inside;
                high = subst (IsCarryHigh n m.scalars 16 move) (sym (put_from first p.part (let l = long in omega arith)))
                    (carry_high 16 (part_of n m.value first.parts p.part) (subst (λ z. IsSubstHigh (exps z) (exps z) m.scalars 16 (part_of z m.value next.parts) (part_of z m.value first.parts p.part)) e p.high));
              })
          step a b e (inr q) = inr (record {
            first_inverse = entry_of m n first.inverse;
            next_inverse = entry_of m n next.inverse;
            first_is = inverse_for (move_from m n first) first (λ i h b. ap (λ z. coefficient (exps n) m.scalars.ops z b) (sym (put_from first i (let l = long in omega arith)))) a;
            next_is = inverse_for move next puts.parts b;
            high = subst (λ z. IsMatrixHigh m.scalars z (entry_of m z next.inverse) (entry_of m z first.inverse)) e q;
          })

      -- the composite as a change
      pub exactly : (c : Change E) → IsChange m c → c.n ≡ n → c.order ≡ 16
          → ((i : ℕ) → i < n → SameIn n m.scalars.ops (part_of n m.value c.parts i) (cut_in n m.scalars.ops 16 (substitute n n m.scalars.ops (part_of n m.value next.parts) (part_of n m.value first.parts i))))
          → All (λ (p : JetTerms E). IsRising p.terms) c.parts → IsMoveExactly m n 16 (compose n m.scalars 16 (move_from m n first) move) c
      exactly c is ec eo values rising = record {
        change = is;
        variables = ec;
        order = eo;
        parts = composed_is c (is.count ∙ ec) (subst (λ z. All (IsPart m z) c.parts) ec is.parts) (subst (λ z. All (λ p. p.order ≡ z) c.parts) eo is.orders) rising values;
      }

-- one jet more whose terms rise
pub rising_more : {E V : Type 0} (m : Meaning E V) (parts items : List (JetTerms E)) (i : ℕ) (p : JetTerms E) (terms : List (Exp × E)) → items ≡ parts → i < length items → p ≡ get_or items i p → terms ≡ p.terms → IsRising terms
    → ((k : ℕ) (d : JetTerms E) → k < i → IsRising (get_or parts k d).terms) → (k : ℕ) (d : JetTerms E) → k < i + 1 → IsRising (get_or parts k d).terms
rising_more {E} m parts items i p terms e h is et rising old k d less = elim (before_or_last k i less) [
  | inl b ↦ old k d b
  | inr q ↦
      let here : p ≡ get_or parts i p = is ∙ ap (λ zs. get_or zs i p) e in
      let there : get_or parts k d ≡ p = ap (λ z. get_or parts z d) q ∙ any_default parts i d p (subst (λ (zs : List (JetTerms E)). i < length zs) e h) ∙ sym here in
      subst (λ (u : JetTerms E). IsRising u.terms) (sym there) (subst IsRising et rising)
]
