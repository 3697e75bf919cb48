-- The patterns outside the list: corank, order, and the test of each monomial of the residual part.
use Rattle.std.specs.Prelude.{ℕ, ◌+◌, ◌*◌, Bool, false, ◌&&◌, nat_le, ◌==◌}
use Rattle.normal_forms.specs.declared.pattern.Pattern.{Pattern}
use Rattle.normal_forms.specs.declared.pattern.Pattern.TheVariants as patterns

-- c is a corank of the pattern
abbrev pub has_corank : Pattern → ℕ → Bool
has_corank patterns.O c = nat_le 4 c && nat_le c 8
has_corank patterns.V c = c == 3
has_corank patterns.N c = c == 2
has_corank patterns.J3 c = c == 2
has_corank patterns.Z1 c = c == 2
has_corank patterns.W1 c = c == 2
has_corank patterns.Q2 c = c == 3
has_corank patterns.S1 c = c == 3
has_corank patterns.U1 c = c == 3

-- the order at which the pattern is decided
abbrev pub order_of : Pattern → ℕ
order_of patterns.O = 2
order_of patterns.V = 3
order_of patterns.N = 4
order_of patterns.J3 = 8
order_of patterns.Z1 = 6
order_of patterns.W1 = 5
order_of patterns.Q2 = 5
order_of patterns.S1 = 4
order_of patterns.U1 = 4

-- x^i y^k z^l may stand in a jet of the pattern
abbrev pub admits : Pattern → (i k l : ℕ) → Bool
admits patterns.O i k l = false
admits patterns.V i k l = nat_le 2 i
admits patterns.N i k l = false
admits patterns.J3 i k l = nat_le 9 (3 * i + k)
admits patterns.Z1 i k l = nat_le 7 (2 * i + k)
admits patterns.W1 i k l = nat_le 12 (3 * i + 2 * k)
admits patterns.Q2 i k l = nat_le 12 (4 * i + 2 * k + 5 * l)
admits patterns.S1 i k l = nat_le 10 (2 * i + 3 * k + 4 * l)
admits patterns.U1 i k l = nat_le 9 (3 * i + 3 * k + 2 * l)
