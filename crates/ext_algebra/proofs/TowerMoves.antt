-- Products and inverses in the tower, by the moduli of the code.
use Rattle.std.proofs.Common.{◌≡◌, ◌≤◌, ◌^◌, ap, ap₂, ◌∙◌, subst}
use Rattle.ring_theory.specs.Scalars.{Scalars}
use Rattle.ext_theory.specs.Extension.{Quadratic, Cubic, cubic_norm, cubic_inv}
use Rattle.ext_theory.specs.ExtensionScalars.{quadratic_scalars, cubic_scalars, cubic_inverse_height}
use Rattle.ext_theory.specs.Tower.{square_modulus, square_scalars, lifted_modulus, tower_scalars}
use Rattle.ext_theory.proofs.TowerParts.{tower_of_moduli}

-- a modulus n that is s^2 - d, and a modulus k that is m over the ring of s
module _ {V : Type 0} (s : Scalars V) (m : Cubic V) (d : V) (n : Quadratic V) (k : Cubic (Quadratic V)) (p : n ≡ square_modulus s.ops d) (q : k ≡ lifted_modulus s.ops m) where
  pub product_is : (x y z x0 y0 : Cubic (Quadratic V)) → x0 ≡ x → y0 ≡ y → z ≡ (cubic_scalars (quadratic_scalars s n) k).ops.mul x0 y0 → z ≡ (tower_scalars s m d).ops.mul x y
  product_is x y z x0 y0 hx hy h =
      h ∙ ap₂ (cubic_scalars (quadratic_scalars s n) k).ops.mul hx hy ∙ ap (λ (t : Scalars (Cubic (Quadratic V))). t.ops.mul x y) (tower_of_moduli s m d n k p q)

  pub product_high : (x y x0 y0 : Cubic (Quadratic V)) → x0 ≡ x → y0 ≡ y → 2 ^ 120 ≤ (cubic_scalars (quadratic_scalars s n) k).product_height x0 y0 → 2 ^ 120 ≤ (tower_scalars s m d).product_height x y
  product_high x y x0 y0 hx hy h =
      subst (λ (t : Scalars (Cubic (Quadratic V))). 2 ^ 120 ≤ t.product_height x y) (tower_of_moduli s m d n k p q)
      (subst (λ z. 2 ^ 120 ≤ (cubic_scalars (quadratic_scalars s n) k).product_height x z) hy
      (subst (λ z. 2 ^ 120 ≤ (cubic_scalars (quadratic_scalars s n) k).product_height z y0) hx h))

  module _ (x0 x : Cubic (Quadratic V)) (hx : x0 ≡ x) where
    pub norm_same : cubic_norm (quadratic_scalars s n).ops k x0 ≡ cubic_norm (square_scalars s d).ops (lifted_modulus s.ops m) x
    norm_same = λ i. cubic_norm (quadratic_scalars s (p i)).ops (q i) (hx i)

    pub zero_same : (quadratic_scalars s n).ops.zero ≡ (square_scalars s d).ops.zero
    zero_same = λ i. (quadratic_scalars s (p i)).ops.zero

    pub inverse_is : (z : Cubic (Quadratic V)) → z ≡ cubic_inv (quadratic_scalars s n).ops (quadratic_scalars s n).inverse k x0 → z ≡ (tower_scalars s m d).inverse x
    unfolding cubic_scalars
    inverse_is z h = h ∙ (λ i. cubic_inv (quadratic_scalars s (p i)).ops (quadratic_scalars s (p i)).inverse (q i) (hx i))

    pub inverse_high : 2 ^ 120 ≤ cubic_inverse_height (quadratic_scalars s n) k x0 → 2 ^ 120 ≤ (tower_scalars s m d).inverse_height x
    unfolding cubic_scalars
    inverse_high h = subst (λ h. 2 ^ 120 ≤ h) (λ i. cubic_inverse_height (quadratic_scalars s (p i)) (q i) (hx i)) h
