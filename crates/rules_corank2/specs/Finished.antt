-- The finish of a base part as the program answers it, and what it may not divide by.
use Rattle.std.specs.Prelude.{◌≡◌, ℕ, Bool, true, false, IsTrue, Option, List}
use Rattle.ring_theory.specs.Scalars.{Scalars, Meaning}
use Rattle.poly_law.specs.Polynomials.{Polynomial}
use Rattle.kill_law.specs.declared.part.Part.{Part}
use Rattle.kill_law.specs.declared.part.Part.TheVariants as parts
use Rattle.kill_law.specs.Kill.{first}
use Rattle.move_law.specs.Moves.{is_there}
use Rattle.move_law.specs.Finish.{Finishing, Choice}
use Rattle.normal_forms.specs.declared.family.Family.{Family}
use Rattle.rules_corank2.specs.declared.finish_base.Finish as code
use Rattle.rules_corank2.specs.Finishes.{IsUnderWay}

-- the program answers this finish: its moves and its jet as it keeps them, and the family that the jet may be a form of
pub record IsFinished {E V : Type 0} (m : Meaning E V) (n o : ℕ) (finish : Finishing n V × Option Family) (answer : code.Finish E) : Type 0 where
  pub reached : IsUnderWay m n o finish.0 answer.reached
  pub family : answer.family ≡ finish.1

-- a part in two variables whose finish makes no move
unfoldable pub is_still : Part → Bool
is_still parts.D4 = true
is_still parts.D = true
is_still parts.X9 = true
is_still parts.X = true
is_still _ = false

abbrev pub IsStill : Part → Type 0
IsStill p = IsTrue (is_still p)

-- the first choice whose monomial is there
abbrev pub deciding : {V : Type 0} (n : ℕ) → Scalars V → List Choice → Polynomial n V → Option Choice
deciding n s choices f = first (λ c. is_there n s f c.monomial) choices
