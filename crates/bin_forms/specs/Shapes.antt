-- What the shape of a binary cubic says of it, in words of algebra, and what the program answers.
use Rattle.std.specs.Prelude.{◌≡◌, ◌≢◌, List, [], ◌∷◌, map}
use Rattle.std.specs.List.{All}
use Rattle.ring_theory.specs.Scalars.{Scalars, Meaning}
use Rattle.move_law.specs.Shapes as shapes
use Rattle.move_law.specs.Shapes.{CubicShape, zero_cubic, cube, double, distinct, cubic_shape, cubic_test}
use Rattle.bin_forms.specs.declared.cubic.Cubic.{Cubic}
use Rattle.bin_forms.specs.declared.cubic.Cubic.TheVariants as cubics
use Rattle.bin_forms.specs.Forms.{power_of, IsMultiple, IsExactPower}
use Rattle.bin_forms.specs.Lines.{line_value}

module _ {V : Type 0} (s : Scalars V) where
  -- the coefficients of a line, at x and at y
  abbrev pub line_form : shapes.Line V → List V
  line_form shapes.vertical = s.ops.zero ∷ s.ops.one ∷ []
  line_form (shapes.slope a) = s.ops.one ∷ a ∷ []

  -- what the shape of a cubic says: it is zero; a multiple, not zero, of the cube of the line; exactly the square of the line divides it; the
  -- discriminant, up to a factor, is not zero
  abbrev pub IsCubicOf : List V → CubicShape V → Type 0
  IsCubicOf c zero_cubic = All (λ v. v ≡ s.ops.zero) c
  IsCubicOf c (cube l) = IsMultiple s.ops (power_of s.ops (line_form l) 3) c
  IsCubicOf c (double l) = IsExactPower s.ops (line_form l) 2 c
  IsCubicOf c distinct = cubic_test s c ≢ s.ops.zero

-- the shape that the program's shape stands for
abbrev pub cubic_value : {E V : Type 0} → (E → V) → Cubic E → CubicShape V
cubic_value value cubics.Zero = zero_cubic
cubic_value value (cubics.Cube l) = cube (line_value value l)
cubic_value value (cubics.Double l) = double (line_value value l)
cubic_value value cubics.Distinct = distinct

-- the numbers of a shape are valid elements
abbrev pub IsCubicOver : {E : Type 0} → (E → Type 0) → Cubic E → Type 0
IsCubicOver is_elem cubics.Zero = Unit {0}
IsCubicOver is_elem (cubics.Cube l) = is_elem l.lambda
IsCubicOver is_elem (cubics.Double l) = is_elem l.lambda
IsCubicOver is_elem cubics.Distinct = Unit {0}

-- the answer on the cubic with these coefficients: it is the plan's shape, and what it says holds
pub record IsCubicAnswer {E V : Type 0} (m : Meaning E V) (c : List E) (t : Cubic E) : Type 0 where
  pub elems : IsCubicOver m.is_elem t
  pub shape : cubic_value m.value t ≡ cubic_shape m.scalars (map m.value c)
  pub says : IsCubicOf m.scalars (map m.value c) (cubic_value m.value t)
