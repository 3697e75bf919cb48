-- Heights of quotients by multiples.
use Rattle.std.proofs.Common.{◌≡◌, ℕ, ◌≤◌, ◌^◌, inl, inr, [], ◌∷◌, subst}
use Rattle.ring_theory.specs.Scalars.{Scalars}
use Rattle.move_law.specs.Moves.{whole}
use Rattle.move_law.specs.Shapes.{over_work}
use Rattle.move_law.specs.Work as work
use Rattle.split_lemma.specs.Splits.{AnyHigh}

module _ {V : Type 0} (n : ℕ) (s : Scalars V) where
  -- a product of equal numbers
  pub product_high : (a b a' b' : V) → a ≡ a' → b ≡ b' → 2 ^ 120 ≤ s.product_height a b → 2 ^ 120 ≤ s.product_height a' b'
  product_high a b a' b' ea eb h = subst (λ z. 2 ^ 120 ≤ s.product_height z b') ea (subst (λ z. 2 ^ 120 ≤ s.product_height a z) eb h)

  pub multiple_high : (k : ℕ) (b b' : V) → b ≡ b' → AnyHigh 0 s (work.product (whole s k) b ∷ []) → 2 ^ 120 ≤ s.product_height (whole s k) b'
  multiple_high k b b' e (inl h) = subst (λ z. 2 ^ 120 ≤ s.product_height (whole s k) z) e h
  multiple_high k b b' e (inr h) = absurd h

  -- the inverse and the product
  pub quotient_high : (a b a' b' : V) → a ≡ a' → b ≡ b' → AnyHigh 0 s (work.inverse b ∷ work.product a (s.inverse b) ∷ []) → AnyHigh n s (over_work s n a' b')
  quotient_high a b a' b' ea eb h = subst (λ z. AnyHigh n s (over_work s n z b')) ea (subst (λ z. AnyHigh n s (over_work s n a z)) eb h)
