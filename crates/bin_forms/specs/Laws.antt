-- What a discriminant that is not zero says over every larger ring.
use Rattle.std.specs.Prelude.{◌≡◌, ◌≢◌, List, [], ◌∷◌, map, length}
use Rattle.ring_theory.specs.Ring.{RingOps}
use Rattle.ring_theory.specs.Scalars.{Scalars, IsRingMap}
use Rattle.normal_forms.specs.Units.{quartic_discriminant}
use Rattle.move_law.specs.Shapes.{cubic_test, quartic_shape}
use Rattle.bin_forms.specs.Forms.{power_of, Divides}
use Rattle.bin_forms.specs.Quartics.{IsQuarticOf}

-- in no ring to which the field maps the square of a line p x + q y divides the form
abbrev pub HasNoSquareIn : {V W : Type 0} → RingOps V → RingOps W → List V → Type 0
HasNoSquareIn {V} {W} a b f = (g : V → W) → IsRingMap a b g → (p q : W) → ¬ Divides b (power_of b (p ∷ q ∷ []) 2) (map g f)

-- a cubic of the shape `distinct`
abbrev pub DistinctCubics : {V W : Type 0} → Scalars V → RingOps W → Type 0
DistinctCubics {V} s b = (f : List V) → length f ≡ 4 → cubic_test s f ≢ s.ops.zero → HasNoSquareIn s.ops b f

-- a quartic of the shape `distinct_lines`
abbrev pub DistinctQuartics : {V W : Type 0} → Scalars V → RingOps W → Type 0
DistinctQuartics {V} s b = (f : List V) → length f ≡ 5 → quartic_discriminant s f ≢ s.ops.zero → HasNoSquareIn s.ops b f

-- what the plan's shape of a quartic says holds
abbrev pub QuarticsAreAsShaped : {V : Type 0} → Scalars V → Type 0
QuarticsAreAsShaped {V} s = (f : List V) → length f ≡ 5 → IsQuarticOf s f (quartic_shape s f)
