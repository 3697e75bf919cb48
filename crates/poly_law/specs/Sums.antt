-- Sums, products, powers and multiples in a commutative ring.
use Rattle.ring_theory.specs.Ring.{RingOps}
use Rattle.std.specs.Prelude.{ℕ, zero, suc, cond, eqb, List, [], ◌∷◌}

-- the sum of w(t) over the entries t of a list
abbrev pub total : {X V : Type 0} → RingOps V → (X → V) → List X → V
total r w [] = r.zero
total r w (t ∷ ts) = r.add (w t) (total r w ts)

-- w(0) + .. + w(n - 1)
abbrev pub sum_to : {V : Type 0} → RingOps V → ℕ → (ℕ → V) → V
sum_to r zero w = r.zero
sum_to r (suc n) w = r.add (sum_to r n w) (w n)

-- w(0) * .. * w(n - 1)
abbrev pub product_to : {V : Type 0} → RingOps V → ℕ → (ℕ → V) → V
product_to r zero w = r.one
product_to r (suc n) w = r.mul (product_to r n w) (w n)

-- the power a^k
abbrev pub power : {V : Type 0} → RingOps V → V → ℕ → V
power r a zero = r.one
power r a (suc k) = r.mul (power r a k) a

-- the multiple k*a by a whole number: a + .. + a, k times
abbrev pub multiple : {V : Type 0} → RingOps V → ℕ → V → V
multiple r zero a = r.zero
multiple r (suc k) a = r.add (multiple r k a) a

-- the monomial u(0)^a(0) * .. * u(n - 1)^a(n - 1) in elements u(i) of the ring
abbrev pub monomial : {V : Type 0} → RingOps V → ℕ → (ℕ → V) → (ℕ → ℕ) → V
monomial r n u a = product_to r n (λ i. power r (u i) (a i))

-- the entries of the identity matrix: 1 where i = j, and 0 elsewhere
abbrev pub unit_at : {V : Type 0} → RingOps V → ℕ → ℕ → V
unit_at r i j = cond (eqb i j) r.one r.zero
