-- A move as it is made has the linear part of the move.
use Rattle.std.proofs.Common.{◌≡◌, ℕ, zero, suc, ◌⊎◌, inl, inr, [], ◌∷◌, refl, sym, ap, ◌∙◌, arith}
use Rattle.ring_theory.specs.Scalars.{Scalars, ScalarLaws}
use Rattle.poly_law.specs.Exps.{variable}
use Rattle.poly_law.specs.ExpList.{exps}
use Rattle.poly_law.specs.Poly.{coefficient}
use Rattle.poly_law.specs.Polynomials.{SameToIn}
use Rattle.poly_law.proofs.ExpLists.{exps_are}
use Rattle.poly_law.proofs.ExpLaws
use Rattle.jet_law.specs.Canonical.{jet}
use Rattle.germ_law.proofs.Canonical.{jet_same_to}
use Rattle.coord_change.specs.Inverses.{InverseIsHigh}
use Rattle.coord_change.specs.Moves.{Move, put, linear_part}
use Rattle.coord_change.proofs.InverseLemmas
use Rattle.move_law.specs.Moves.{made}

module _ {V : Type 0} (n : ℕ) (s : Scalars V) (laws : ScalarLaws s) where
  -- what a move puts as it is made
  put_made : (move : Move n V) (i : ℕ) → (put n s (made n s move) i ≡ jet n s 16 (put n s move i)) ⊎ (put n s (made n s move) i ≡ put n s move i)
  put_made [] zero = inr refl
  put_made [] (suc i) = inr refl
  put_made (p ∷ ps) zero = inl refl
  put_made (p ∷ ps) (suc i) = put_made ps i

  -- it agrees with the move up to degree 16
  pub made_same : (move : Move n V) (i : ℕ) → SameToIn n s.ops 16 (put n s (made n s move) i) (put n s move i)
  made_same move i b h = elim (put_made move i) [
    | inl e ↦ ap (λ f. coefficient (exps n) s.ops f b) e ∙ jet_same_to n s laws 16 (put n s move i) b h
    | inr e ↦ ap (λ f. coefficient (exps n) s.ops f b) e
  ]

  -- the inverse of the linear part is high together
  pub made_inverse_high : (move : Move n V) → InverseIsHigh s n (linear_part n s move) → InverseIsHigh s n (linear_part n s (made n s move))
  made_inverse_high move high =
      InverseLemmas.high_of_same s laws.ring n (linear_part n s move) (linear_part n s (made n s move))
      (λ i j h g. sym (made_same move i (variable (exps n) j) (let d = ExpLaws.degree-variable (exps n) (exps_are n) j g in omega arith))) high
