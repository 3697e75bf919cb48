-- The ring of the integers.
use Rattle.std.specs.Prelude.{ℕ, suc, ◌/◌, ℤ, pos, negsuc, ◌+ℤ◌, ◌*ℤ◌, neg_ℤ}
use Rattle.ring_theory.specs.Ring.{RingOps}

abbrev pub int_ops : RingOps ℤ
int_ops = record { zero = pos 0; one = pos 1; add = ◌+ℤ◌; mul = ◌*ℤ◌; neg = neg_ℤ }

-- n / g, rounded toward zero
abbrev pub int_quotient : ℤ → ℕ → ℤ
int_quotient (pos n) g = pos (n / g)
int_quotient (negsuc n) g = neg_ℤ (pos (suc n / g))
