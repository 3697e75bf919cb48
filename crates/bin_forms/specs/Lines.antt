-- The lines of the program, as those of the plan, and the operations of a difference.
use Rattle.std.specs.Prelude.{List, [], ◌∷◌, if◌then◌else◌}
use Rattle.ring_theory.specs.Scalars.{Scalars}
use Rattle.move_law.specs.Work as work
use Rattle.move_law.specs.Work.{Work}
use Rattle.move_law.specs.Shapes as shapes
use Rattle.bin_forms.specs.declared.line.Line.{Line}

-- the line that the program's line stands for
abbrev pub line_value : {E V : Type 0} → (E → V) → Line E → shapes.Line V
line_value value l = if l.vertical then shapes.vertical else shapes.slope (value l.lambda)

-- the operations of x - w y
abbrev pub less_work : {V : Type 0} → Scalars V → (w x y : V) → List (Work 2 V)
less_work s w x y = work.product w y ∷ work.sum (x ∷ s.ops.neg (s.ops.mul w y) ∷ []) ∷ []
