-- What a line is about: a field whose elements are those of an algebra, at most eight variables, and an order of at most 17.
use Rattle.std.specs.Prelude.{ℕ, ◌≤◌}
use Rattle.ring_theory.specs.Scalars.{Meaning}
use Rattle.ring_law.specs.declared.fraction.Frac.{Frac}
use Rattle.ext_algebra.specs.declared.algebra.Algebra.{Algebra}
use Rattle.ext_algebra.specs.declared.algebra.Ext.{Ext}
use Rattle.ext_algebra.specs.Algebra.{IsElement}

-- the field is valid, so is each element of the algebra in it, and the line is about at most eight variables and an order of at most 17
pub record IsOver {V : Type 0} (is_field : Type 0) (m : Meaning (Ext Frac) V) (a : Algebra) (n order : ℕ) : Type 0 where
  pub field : is_field
  pub elements : (e : Ext Frac) → IsElement a e → m.is_elem e
  pub few : n ≤ 8
  pub low : order ≤ 17
