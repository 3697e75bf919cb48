-- Changes of the program as linear moves of matrices.
use Rattle.std.proofs.Common.{◌≡◌, ℕ, ◌+◌, ◌<◌, inl, inr, List, [], map, length, get_or, sym, ap, ap₂, subst, ◌∙◌, arith}
use Rattle.std.specs.List.{All}
use Rattle.std.proofs.lemmas.List.{get_or-map, length-map, same_lists}
use Rattle.ring_theory.specs.Scalars.{Scalars, ScalarLaws, Meaning, HasInverses}
use Rattle.poly_law.specs.Exps.{variable}
use Rattle.poly_law.specs.ExpList.{exps}
use Rattle.poly_law.specs.Poly.{coefficient, IsInvertible}
use Rattle.poly_law.specs.Polynomials.{Polynomial, SameIn}
use Rattle.poly_law.proofs.Sums
use Rattle.jet_law.specs.Terms.{poly_of}
use Rattle.jet_poly.specs.JetTerms.{JetTerms, IsRising}
use Rattle.mono_exp.specs.declared.exponent.Exp.{Exp}
use Rattle.jet_subst.proofs.PowerLemmas.{any_default, before_or_last}
use Rattle.jet_subst.specs.Parts.{IsPart, jet_at, part_of}
use Rattle.coord_change.specs.declared.change.Change.{Change}
use Rattle.coord_change.specs.Changes.{IsChange, IsCompositionHigh, entry_of}
use Rattle.coord_change.specs.Inverses.{IsInKernel, InverseIsHigh}
use Rattle.coord_change.specs.Linear.{linear_form}
use Rattle.coord_change.specs.Moves.{Move, move_from, linear_part}
use Rattle.coord_change.specs.Carries.{carry, compose}
use Rattle.coord_change.specs.CarryHeights.{IsCarryHigh, IsComposeHigh}
use Rattle.coord_change.specs.MoveJets.{IsJetFor, IsMoveExactly}
use Rattle.coord_change.proofs.Canonicals
use Rattle.coord_change.proofs.CompositeLemmas
use Rattle.coord_change.proofs.InverseLemmas
use Rattle.move_law.specs.Work as work
use Rattle.move_law.specs.Work.{IsWorkHigh}
use Rattle.ternary_law.specs.Matrices.{Matrix, places, entry, matrix_product, form_of_row, linear_move, moved, AreInverse}
use Rattle.tern_cubic.specs.Moving.{IsSingular, AreEntries, IsMoving}
use Rattle.tern_cubic.specs.Moving as moving
use Rattle.tern_cubic.proofs.LinearMoves
use Rattle.tern_cubic.proofs.Inverses3

-- one jet more whose terms rise
pub rising_more : {E : Type 0} (parts items : List (JetTerms E)) (i : ℕ) (p : JetTerms E) (terms : List (Exp × E)) → items ≡ parts → i < length items → p ≡ get_or items i p → terms ≡ p.terms → IsRising terms
    → ((k : ℕ) (d : JetTerms E) → k < i → IsRising (get_or parts k d).terms) → (k : ℕ) (d : JetTerms E) → k < i + 1 → IsRising (get_or parts k d).terms
rising_more {E} parts items i p terms e h is et rising old k d less = elim (before_or_last k i less) [
  | inl b ↦ old k d b
  | inr q ↦
      let here : p ≡ get_or parts i p = is ∙ ap (λ zs. get_or zs i p) e in
      let there : get_or parts k d ≡ p = ap (λ z. get_or parts z d) q ∙ any_default parts i d p (subst (λ (zs : List (JetTerms E)). i < length zs) e h) ∙ sym here in
      subst (λ (u : JetTerms E). IsRising u.terms) (sym there) (subst IsRising et rising)
]

module _ {E V : Type 0} (m : Meaning E V) (laws : ScalarLaws m.scalars) where
  abbrev s : Scalars V
  s = m.scalars

  -- ---- the change of a matrix

  module _ (w : Matrix V) (flat : List E) (is : AreEntries m w flat) where
    -- a part with the linear form of row i
    part_is : (i : ℕ) → i < 3 → (p : JetTerms E) → IsPart m 3 p → p.order ≡ 16 → IsRising p.terms → SameIn 3 s.ops (poly_of 3 m.value p.terms) (linear_form 3 s.ops (entry_of m 3 flat i))
        → poly_of 3 m.value p.terms ≡ form_of_row 3 s (LinearMoves.row_of s laws w i)
    part_is i h p part eo rises e =
        let row = LinearMoves.row_of s laws w i in
        (Canonicals.is_jet_for m 3 laws 16 p (form_of_row 3 s row) part.jet part.variables eo rises (λ b low. e b ∙ LinearMoves.is_form s laws (entry_of m 3 flat i) row (λ j g. is.are i j h g) b)).polynomial
        ∙ sym (LinearMoves.form_jet s laws row)

    parts_are : (parts : List (JetTerms E)) → length parts ≡ 3 → All (IsPart m 3) parts → All (λ (p : JetTerms E). p.order ≡ 16) parts → All (λ (p : JetTerms E). IsRising p.terms) parts
        → ((i : ℕ) → i < 3 → SameIn 3 s.ops (part_of 3 m.value parts i) (linear_form 3 s.ops (entry_of m 3 flat i)))
        → map (λ p. poly_of 3 m.value p.terms) parts ≡ linear_move 3 s w
    parts_are parts count jets orders rising values =
        same_lists (map (λ (p : JetTerms E). poly_of 3 m.value p.terms) parts) (map (λ i. form_of_row 3 s (LinearMoves.row_of s laws w i)) places)
        (length-map parts (λ (p : JetTerms E). poly_of 3 m.value p.terms) ∙ count)
        (λ k d h. at k d (let l = length-map parts (λ (p : JetTerms E). poly_of 3 m.value p.terms) in omega arith))
        ∙ sym (LinearMoves.linear_rows s laws w)
      where
        at : (k : ℕ) (d : Polynomial 3 V) → k < 3 → get_or (map (λ (p : JetTerms E). poly_of 3 m.value p.terms) parts) k d ≡ get_or (map (λ i. form_of_row 3 s (LinearMoves.row_of s laws w i)) places) k d
        at k d h =
            let none : JetTerms E = record { n = 0; order = 0; terms = [] } in
            let here : k < length parts = omega arith in
            get_or-map (λ (p : JetTerms E). poly_of 3 m.value p.terms) parts k none d here
            ∙ part_is k h (jet_at parts k) (jets k none here) (orders k none here) (rising k none here) (values k h)
            ∙ sym (Inverses3.at_place (λ i. form_of_row 3 s (LinearMoves.row_of s laws w i)) k d h)

    -- the linear change of the entries is the linear move of the matrix
    pub change_is : (c : Change E) → IsChange m c → c.n ≡ 3 → c.order ≡ 16 → All (λ (p : JetTerms E). IsRising p.terms) c.parts
        → ((i : ℕ) → i < 3 → SameIn 3 s.ops (part_of 3 m.value c.parts i) (linear_form 3 s.ops (entry_of m 3 flat i))) → IsMoveExactly m 3 16 (linear_move 3 s w) c
    change_is c change en eo rising values = record {
      change = change;
      variables = en;
      order = eo;
      parts = parts_are c.parts (change.count ∙ en) (subst (λ z. All (IsPart m z) c.parts) en change.parts) (subst (λ z. All (λ (p : JetTerms E). p.order ≡ z) c.parts) eo change.orders) rising values;
    }

    -- a vector other than 0 that the entries take to 0
    pub no_inverse : HasInverses s → (v : List E) → IsInKernel m 3 (entry_of m 3 flat) v → IsSingular s w
    no_inverse inverts v q =
        Inverses3.singular s laws inverts w (λ d. get_or (map m.value v) d s.ops.zero) q.place q.inside q.other
        (λ i h. sym (InverseLemmas.same_image s.ops laws.ring 3 (entry_of m 3 flat) (entry s w) is.are (λ d. get_or (map m.value v) d s.ops.zero) i h) ∙ q.kernel i h)

    pub inversion_high : InverseIsHigh s 3 (entry_of m 3 flat) → IsWorkHigh 3 s (work.inverted (linear_move 3 s w))
    inversion_high high =
        InverseLemmas.high_of_same s laws.ring 3 (entry_of m 3 flat) (linear_part 3 s (linear_move 3 s w)) (λ i j h g. is.are i j h g ∙ sym (LinearMoves.linear_part_is s laws w i j h g)) high

  -- ---- the inverse matrix of a change

  module _ (w : Matrix V) (c : Change E) (is : IsMoveExactly m 3 16 (linear_move 3 s w) c) where
    abbrev inverse_at : ℕ → ℕ → V
    inverse_at = entry_of m 3 c.inverse

    invertible : IsInvertible (exps 3) s.ops (part_of 3 m.value c.parts) inverse_at
    invertible = subst (λ z. IsInvertible (exps z) s.ops (part_of z m.value c.parts) (entry_of m z c.inverse)) is.variables is.change.invertible

    linear_at : (i j : ℕ) → i < 3 → j < 3 → coefficient (exps 3) s.ops (part_of 3 m.value c.parts i) (variable (exps 3) j) ≡ entry s w i j
    linear_at i j h g =
        ap (λ parts. coefficient (exps 3) s.ops (parts i) (variable (exps 3) j)) (sym (Canonicals.put-move_from m 3 c))
        ∙ ap (λ move. linear_part 3 s move i j) is.parts ∙ LinearMoves.linear_part_is s laws w i j h g

    pub are_inverse : AreInverse s w (moving.inverse_matrix m c)
    are_inverse = record {
      right = Inverses3.are_unit s laws w (moving.inverse_matrix m c) (λ i k h g.
          Sums.sum_to-cong s.ops 3 (λ j. s.ops.mul (entry s w i j) (entry s (moving.inverse_matrix m c) j k)) (λ j. s.ops.mul (coefficient (exps 3) s.ops (part_of 3 m.value c.parts i) (variable (exps 3) j)) (inverse_at j k))
          (λ j y. ap₂ s.ops.mul (sym (linear_at i j h y)) (Inverses3.entry_is s laws inverse_at j k y g))
          ∙ invertible.right i k h g);
      left = Inverses3.are_unit s laws (moving.inverse_matrix m c) w (λ i k h g.
          Sums.sum_to-cong s.ops 3 (λ j. s.ops.mul (entry s (moving.inverse_matrix m c) i j) (entry s w j k)) (λ j. s.ops.mul (inverse_at i j) (coefficient (exps 3) s.ops (part_of 3 m.value c.parts j) (variable (exps 3) k)))
          (λ j y. ap₂ s.ops.mul (Inverses3.entry_is s laws inverse_at i j h y) (sym (linear_at j k y g)))
          ∙ invertible.left i k h g);
      size = Inverses3.matrix_same s laws (entry s (moving.inverse_matrix m c)) inverse_at (λ i k h g. Inverses3.entry_is s laws inverse_at i k h g);
    }

  -- ---- one move after another

  module _ (w : Matrix V) (next : Change E) (is : IsMoveExactly m 3 16 (linear_move 3 s w) next) where
    -- a cubic that is carried by the change
    pub carried_is : (g : Polynomial 3 V) (f : JetTerms E) → poly_of 3 m.value f.terms ≡ g → (h : JetTerms E)
        → IsJetFor m next.n 3 (carry next.n s 3 (move_from m next.n next) (poly_of next.n m.value f.terms)) h → IsJetFor m 3 3 (moved s w g) h
    carried_is g f e h j =
        subst (λ p. IsJetFor m 3 3 p h) (λ t. carry 3 s 3 (is.parts t) (e t))
        (subst (λ n. IsJetFor m n 3 (carry n s 3 (move_from m n next) (poly_of n m.value f.terms)) h) is.variables j)

    pub carrying_high : (g : Polynomial 3 V) (f : JetTerms E) → poly_of 3 m.value f.terms ≡ g
        → IsCarryHigh next.n s 3 (move_from m next.n next) (poly_of next.n m.value f.terms) → IsWorkHigh 3 s (work.carried 3 (linear_move 3 s w) g)
    carrying_high g f e high =
        subst (λ (p : Polynomial 3 V). IsCarryHigh 3 s 3 (linear_move 3 s w) p) e (subst (λ (move : Move 3 V). IsCarryHigh 3 s 3 move (poly_of 3 m.value f.terms)) is.parts
        (subst (λ n. IsCarryHigh n s 3 (move_from m n next) (poly_of n m.value f.terms)) is.variables high))

    module _ (v : Matrix V) (first : Change E) (was : IsMoveExactly m 3 16 (linear_move 3 s v) first) where
      pub composed_is : (c : Change E) → IsChange m c → c.n ≡ first.n → c.order ≡ 16 → move_from m first.n c ≡ compose first.n s 16 (move_from m first.n first) (move_from m first.n next)
          → IsMoveExactly m 3 16 (linear_move 3 s (matrix_product s v w)) c
      composed_is c change en eo e = record {
        change = change;
        variables = en ∙ was.variables;
        order = eo;
        parts = subst (λ n. move_from m n c ≡ compose n s 16 (move_from m n first) (move_from m n next)) was.variables e
            ∙ (λ t. compose 3 s 16 (was.parts t) (is.parts t)) ∙ LinearMoves.compose_linear s laws v w;
      }

      pub composing_high : IsCompositionHigh m 16 first next → IsWorkHigh 3 s (work.composed 16 (linear_move 3 s v) (linear_move 3 s w))
      composing_high high =
          subst (λ (move : Move 3 V). IsComposeHigh 3 s 16 move (linear_move 3 s w)) was.parts (subst (λ (move : Move 3 V). IsComposeHigh 3 s 16 (move_from m 3 first) move) is.parts
          (CompositeLemmas.composition_high m 3 16 first next was.change is.change was.variables is.variables high))
