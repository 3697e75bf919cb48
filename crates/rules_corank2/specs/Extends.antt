-- The base kill of a degree, and its operations.
use Rattle.std.specs.Prelude.{ℕ, List, [], ◌∷◌}
use Rattle.ring_theory.specs.Scalars.{Scalars}
use Rattle.poly_law.specs.Polynomials.{Polynomial}
use Rattle.kill_law.specs.declared.part.Part.{Part}
use Rattle.kill_law.specs.Kill.{letters_of}
use Rattle.kill_law.specs.Taken.{kill_move}
use Rattle.coord_change.specs.Moves.{Move}
use Rattle.move_law.specs.Moves.{made}
use Rattle.move_law.specs.Work as work
use Rattle.move_law.specs.Work.{Work}

module _ {V : Type 0} (n : ℕ) (s : Scalars V) (p : Part) (d : ℕ) (f : Polynomial n V) where
  -- the kill move of degree d of the part, with the letters that f has, as it is made
  abbrev pub base_kill : Move n V
  base_kill = made n s (kill_move n s (letters_of n s p f) p d f)

  -- its operations: the kill, and the inverse of its linear part
  abbrev pub base_kill_work : List (Work n V)
  base_kill_work = work.killed p d f ∷ work.inverted base_kill ∷ []
