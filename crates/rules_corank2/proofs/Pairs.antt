-- Lists of two numbers.
use Rattle.std.proofs.Common.{◌≡◌, ℕ, List, [], ◌∷◌, length, get_or, refl, arith}
use Rattle.move_law.specs.Patterns.{two}

-- a list of two numbers, by its elements
pub pair_of : (e : List ℕ) → length e ≡ 2 → e ≡ two (get_or e 0 0) (get_or e 1 0)
pair_of [] h = absurd (omega arith)
pair_of (x ∷ []) h = absurd (omega arith)
pair_of (x ∷ y ∷ []) h = refl
pair_of (x ∷ y ∷ z ∷ e) h = absurd (omega arith)
