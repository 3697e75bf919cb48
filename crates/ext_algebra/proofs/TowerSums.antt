-- A high sum of one of the six components of two numbers of the tower is a high sum.
use Rattle.std.proofs.Common.{arith, refl}
use Rattle.ring_theory.specs.Scalars.{Scalars, SumIsHigh}
use Rattle.ext_theory.specs.Extension.{Quadratic, Cubic}
use Rattle.ext_theory.specs.ExtensionScalars.{quadratic_scalars, cubic_scalars}
use Rattle.ext_theory.specs.Tower.{square_scalars, tower_scalars}
use Rattle.ext_algebra.proofs.Components.{image_high}

module _ {V : Type 0} (s : Scalars V) where
  low_high : (n : Quadratic V) (x y : Quadratic V) → SumIsHigh s x.c0 y.c0 → SumIsHigh (quadratic_scalars s n) x y
  unfolding quadratic_scalars
  low_high n x y high = image_high (quadratic_scalars s n) s (λ a. a.c0) refl (λ p q. refl) (λ xs. omega arith) x y high

  steep_high : (n : Quadratic V) (x y : Quadratic V) → SumIsHigh s x.c1 y.c1 → SumIsHigh (quadratic_scalars s n) x y
  unfolding quadratic_scalars
  steep_high n x y high = image_high (quadratic_scalars s n) s (λ a. a.c1) refl (λ p q. refl) (λ xs. omega arith) x y high

  cubic_high0 : (m : Cubic V) (x y : Cubic V) → SumIsHigh s x.c0 y.c0 → SumIsHigh (cubic_scalars s m) x y
  unfolding cubic_scalars
  cubic_high0 m x y high = image_high (cubic_scalars s m) s (λ a. a.c0) refl (λ p q. refl) (λ xs. omega arith) x y high

  cubic_high1 : (m : Cubic V) (x y : Cubic V) → SumIsHigh s x.c1 y.c1 → SumIsHigh (cubic_scalars s m) x y
  unfolding cubic_scalars
  cubic_high1 m x y high = image_high (cubic_scalars s m) s (λ a. a.c1) refl (λ p q. refl) (λ xs. omega arith) x y high

  cubic_high2 : (m : Cubic V) (x y : Cubic V) → SumIsHigh s x.c2 y.c2 → SumIsHigh (cubic_scalars s m) x y
  unfolding cubic_scalars
  cubic_high2 m x y high = image_high (cubic_scalars s m) s (λ a. a.c2) refl (λ p q. refl) (λ xs. omega arith) x y high

module _ {V : Type 0} (s : Scalars V) (m : Cubic V) (d : V) (x y : Cubic (Quadratic V)) where
  pub high0 : SumIsHigh s x.c0.c0 y.c0.c0 → SumIsHigh (tower_scalars s m d) x y
  high0 h = cubic_high0 (square_scalars s d) _ x y (low_high s _ x.c0 y.c0 h)

  pub high1 : SumIsHigh s x.c1.c0 y.c1.c0 → SumIsHigh (tower_scalars s m d) x y
  high1 h = cubic_high1 (square_scalars s d) _ x y (low_high s _ x.c1 y.c1 h)

  pub high2 : SumIsHigh s x.c2.c0 y.c2.c0 → SumIsHigh (tower_scalars s m d) x y
  high2 h = cubic_high2 (square_scalars s d) _ x y (low_high s _ x.c2 y.c2 h)

  pub high3 : SumIsHigh s x.c0.c1 y.c0.c1 → SumIsHigh (tower_scalars s m d) x y
  high3 h = cubic_high0 (square_scalars s d) _ x y (steep_high s _ x.c0 y.c0 h)

  pub high4 : SumIsHigh s x.c1.c1 y.c1.c1 → SumIsHigh (tower_scalars s m d) x y
  high4 h = cubic_high1 (square_scalars s d) _ x y (steep_high s _ x.c1 y.c1 h)

  pub high5 : SumIsHigh s x.c2.c1 y.c2.c1 → SumIsHigh (tower_scalars s m d) x y
  high5 h = cubic_high2 (square_scalars s d) _ x y (steep_high s _ x.c2 y.c2 h)
