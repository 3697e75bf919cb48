-- A further move of a finish, which puts two jets for two variables.
use Rattle.std.specs.Prelude.{ℕ, [], ◌∷◌}
use Rattle.ring_theory.specs.Scalars.{Meaning}
use Rattle.poly_law.specs.Polynomials.{Polynomial, StartsAtIn}
use Rattle.jet_poly.specs.JetTerms.{JetTerms}
use Rattle.coord_change.specs.Inverses.{HasNoKernel}
use Rattle.coord_change.specs.Moves.{move_of, linear_part}
use Rattle.kill_table.specs.Moves.{IsPutFor}
use Rattle.rules_corank2.specs.declared.finish_state.Finishing as code
use Rattle.rules_corank2.specs.Following.{IsMovedBy, IsMovingHigh}

-- p and q are the jets of order o of what a move puts for the variables i and j: both without constant terms, and the linear part of the move is regular
pub record ArePut {E V : Type 0} (m : Meaning E V) (n o i j : ℕ) (p q : JetTerms E) : Type 0 where
  pub first : Polynomial n V
  pub second : Polynomial n V
  pub first_is : IsPutFor m n o first p
  pub second_is : IsPutFor m n o second q
  pub first_low : StartsAtIn n m.scalars.ops 1 first
  pub second_low : StartsAtIn n m.scalars.ops 1 second
  pub regular : HasNoKernel m.scalars.ops n (linear_part n m.scalars (move_of n m.scalars ((i, first) ∷ (j, second) ∷ [])))

module _ {E V : Type 0} (m : Meaning E V) (state : code.Finishing E) (i j : ℕ) (p q : JetTerms E) where
  -- the program makes each move of which p and q are the jets of order o of what it puts for the variables i and j
  abbrev pub IsPutNext : code.Finishing E → Type 0
  IsPutNext next = (f h : Polynomial state.form.n V) → IsPutFor m state.form.n state.form.order f p → IsPutFor m state.form.n state.form.order h q
      → IsMovedBy m state (move_of state.form.n m.scalars ((i, f) ∷ (j, h) ∷ [])) next

  -- or making it forms a number of height at least 2^120
  abbrev pub IsPuttingHigh : Type 0
  IsPuttingHigh = (f h : Polynomial state.form.n V) → IsPutFor m state.form.n state.form.order f p → IsPutFor m state.form.n state.form.order h q
      → IsMovingHigh m state (move_of state.form.n m.scalars ((i, f) ∷ (j, h) ∷ []))
