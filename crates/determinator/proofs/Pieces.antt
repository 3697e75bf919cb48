-- When a piece of a phase is high.
use Rattle.std.proofs.Common.{ℕ, inl, inr, List, [], ◌∷◌, ◌++◌, refl}
use Rattle.ext_algebra.specs.declared.algebra.Algebra.{Algebra}
use Rattle.ext_algebra.specs.Algebra.{Value, scalars}
use Rattle.poly_law.specs.Polynomials.{Polynomial}
use Rattle.lin_row.specs.Plain.{Among}
use Rattle.cert_text.specs.declared.report.Phase.{Phase}
use Rattle.coord_change.specs.Moves.{Move}
use Rattle.coord_change.specs.Carries.{carry, compose}
use Rattle.coord_change.specs.CarryHeights.{IsCarryAllHigh, IsComposeAllHigh, IsCompositeHigh}
use Rattle.move_law.specs.Work.{Work, carrying_work, composing_from, composing_work}
use Rattle.split_lemma.specs.Splits.{AnyHigh}
use Rattle.ring_theory.specs.Scalars.{Scalars}
use Rattle.plan_law.specs.Pieces.{HasHigh, pieces_over}

pub among_left : {X : Type 0} (P : X → Type 0) (xs ys : List X) → Among P xs → Among P (xs ++ ys)
among_left P [] ys h = absurd h
among_left P (x ∷ xs) ys (inl h) = inl h
among_left P (x ∷ xs) ys (inr h) = inr (among_left P xs ys h)

pub among_right : {X : Type 0} (P : X → Type 0) (xs ys : List X) → Among P ys → Among P (xs ++ ys)
among_right P [] ys h = h
among_right P (x ∷ xs) ys h = inr (among_right P xs ys h)

-- an operation over an algebra is high
pub high_over : {n : ℕ} (p : Phase) (a : Algebra) (works : List (Work n (Value a))) → AnyHigh n (scalars a) works → HasHigh p (pieces_over p a works)
high_over p a [] h = absurd h
high_over p a (w ∷ ws) (inl h) = inl (refl, h)
high_over p a (w ∷ ws) (inr h) = inr (high_over p a ws h)

module _ {V : Type 0} (n : ℕ) (s : Scalars V) where
  -- carrying by several moves is high where one of the operations is
  pub carrying_high : (k : ℕ) (ms : List (Move n V)) (f : Polynomial n V) → IsCarryAllHigh n s k ms f → AnyHigh n s (carrying_work n s k ms f)
  carrying_high k [] f h = absurd h
  carrying_high k (m ∷ ms) f (inl h) = inl h
  carrying_high k (m ∷ ms) f (inr h) = inr (carrying_high k ms (carry n s k m f) h)

  composing_all_high : (k : ℕ) (first : Move n V) (ms : List (Move n V)) → IsComposeAllHigh n s k first ms → AnyHigh n s (composing_from n s k first ms)
  composing_all_high k first [] h = absurd h
  composing_all_high k first (m ∷ ms) (inl h) = inl h
  composing_all_high k first (m ∷ ms) (inr h) = inr (composing_all_high k (compose n s k first m) ms h)

  -- and so is the composite
  pub composing_high : (k : ℕ) (ms : List (Move n V)) → IsCompositeHigh n s k ms → AnyHigh n s (composing_work n s k ms)
  composing_high k [] h = absurd h
  composing_high k (m ∷ ms) h = composing_all_high k m ms h
