-- The chains that a line makes.
use Rattle.std.specs.Prelude.{◌≡◌, ℕ}
use Rattle.ring_theory.specs.Scalars.{Meaning}
use Rattle.coord_change.specs.Chains.{ChainParts, IsStanding}

-- the chain stands over the ring of m, and its germ is a jet of this order in n variables
pub record IsChained {E V : Type 0} (m : Meaning E V) (n order : ℕ) (c : ChainParts E) : Type 0 where
  pub stands : IsStanding m c
  pub variables : c.germ.n ≡ n
  pub last : c.germ.order ≡ order
