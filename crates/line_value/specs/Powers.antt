-- What is asked of powers.
use Rattle.std.specs.Prelude.{◌≡◌, ℕ, ◌+◌}
use Rattle.line_syntax.specs.Value.{Arithmetic}

-- v^0 = 1, v^1 = v for the values of valid elements, and v^(a + b) = v^a * v^b
pub record PowerLaws {E V : Type 0} (ops : Arithmetic V) (is_elem : E → Type 0) (value : E → V) : Type 0 where
  pub none : (v : V) → ops.power v 0 ≡ ops.number 1
  pub one : (e : E) → is_elem e → ops.power (value e) 1 ≡ value e
  pub together : (v : V) (a b : ℕ) → ops.power v (a + b) ≡ ops.mul (ops.power v a) (ops.power v b)
