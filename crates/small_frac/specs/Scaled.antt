-- The whole coefficients d m2, d^2 m1 and d^3 m0 of a cubic whose roots are d times those of t^3 + m2 t^2 + m1 t + m0.
use Rattle.std.specs.Prelude.{◌≡◌, ℕ, ◌/◌, ◌<◌, ◌^◌, ℤ, pos, ◌*ℤ◌, unsigned_abs}
use Rattle.root_search.specs.Cubic.{IsSmall}
use Rattle.ring_law.specs.declared.fraction.Frac.{Frac}
use Rattle.small_frac.specs.Roots.{cubic_of, cubic_den}
use Rattle.small_frac.specs.declared.root.Scaled.{Scaled}

-- q d, for a multiple d of the denominator of q
abbrev pub multiple_of : Frac → ℕ → ℤ
multiple_of q d = q.num *ℤ pos (d / unsigned_abs q.den)

-- s holds the least common denominator d and the coefficients d m2, d^2 m1 and d^3 m0, all below 2^120 in absolute value
pub record IsScaled (m2 m1 m0 : Frac) (s : Scaled) : Type 0 where
  pub den_is : s.den ≡ cubic_den (cubic_of m2 m1 m0)
  pub den_small : s.den < 2 ^ 120
  pub small : IsSmall s.a s.b s.c
  pub a_is : s.a ≡ multiple_of m2 s.den
  pub b_is : s.b ≡ multiple_of m1 s.den *ℤ pos s.den
  pub c_is : s.c ≡ multiple_of m0 s.den *ℤ pos s.den *ℤ pos s.den
