-- A calculation that stopped.
use Rattle.std.proofs.Common.{◌≡◌, List, [], ◌∷◌, None, refl}
use Rattle.line_syntax.specs.Value.{Arithmetic}
use Rattle.line_reader.specs.declared.step.Step.{Step}
use Rattle.line_reader.specs.Calculation.{on_steps}

-- it stays so
pub none_stays : {V : Type 0} (ops : Arithmetic V) (xs : List Step) → on_steps ops None xs ≡ None
none_stays ops [] = refl
none_stays ops (x ∷ xs) = refl
