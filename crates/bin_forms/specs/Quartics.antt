-- What the shape of a binary quartic says of it, in words of algebra, and what the program answers.
use Rattle.std.specs.Prelude.{◌≡◌, ◌≢◌, true, false, ◌&&◌, List, [], ◌∷◌, map}
use Rattle.std.specs.List.{All}
use Rattle.ring_theory.specs.Scalars.{Scalars, Meaning}
use Rattle.ring_formula.specs.Formulas.{formula_value}
use Rattle.normal_forms.specs.Units.{quartic_i, quartic_j, quartic_discriminant}
use Rattle.move_law.specs.declared.covariant.TheConstants.{CUBIC_TEST}
use Rattle.move_law.specs.Shapes.{QuarticShape, zero_quartic, distinct_lines, fourth, triple, double_line, two_doubles, quartic_shape, are_zero, quartic_hessian, quartic_rest}
use Rattle.bin_forms.specs.declared.quartic.Quartic.{Quartic}
use Rattle.bin_forms.specs.declared.quartic.Quartic.TheVariants as quartics
use Rattle.bin_forms.specs.Forms.{scaled, power_of, Divides, IsMultiple, IsExactPower}
use Rattle.bin_forms.specs.Lines.{line_value}
use Rattle.bin_forms.specs.Shapes.{line_form}

module _ {V : Type 0} (s : Scalars V) where
  -- each line p x + r y whose square divides f is a multiple of the line g
  abbrev pub HasNoOtherSquare : (g f : List V) → Type 0
  HasNoOtherSquare g f = (p r : V) → Divides s.ops (power_of s.ops (p ∷ r ∷ []) 2) f → (a : V) × ((p ∷ r ∷ []) ≡ scaled s.ops a g)

  -- q1^2 - 4 q0 q2 of q0 x^2 + q1 x y + q2 y^2
  abbrev pub pair_discriminant : (q0 q1 q2 : V) → V
  pair_discriminant q0 q1 q2 = formula_value s (q0 ∷ q1 ∷ q2 ∷ []) CUBIC_TEST

  -- what the shape of a quartic says: it is zero; its discriminant, up to a factor, is not zero; it is a multiple, not zero, of the fourth power of the
  -- line; exactly the cube, or the square, of the line divides it, and no other line stands squared; it is a multiple, not zero, of the square of a
  -- quadratic form whose discriminant is not zero
  abbrev pub IsQuarticOf : List V → QuarticShape V → Type 0
  IsQuarticOf q zero_quartic = All (λ v. v ≡ s.ops.zero) q
  IsQuarticOf q distinct_lines = quartic_discriminant s q ≢ s.ops.zero
  IsQuarticOf q (fourth l) = IsMultiple s.ops (power_of s.ops (line_form s l) 4) q
  IsQuarticOf q (triple l) = IsExactPower s.ops (line_form s l) 3 q × HasNoOtherSquare (line_form s l) q
  IsQuarticOf q (double_line l) = IsExactPower s.ops (line_form s l) 2 q × HasNoOtherSquare (line_form s l) q
  IsQuarticOf q (two_doubles q0 q1 q2) = IsMultiple s.ops (power_of s.ops (q0 ∷ q1 ∷ q2 ∷ []) 2) q × (pair_discriminant q0 q1 q2 ≢ s.ops.zero)

  -- ---- the cases that lead to a shape

  -- the quartic is not zero, and its discriminant is
  pub record IsDegenerate (q : List V) : Type 0 where
    pub nonzero : are_zero s q ≡ false
    pub discriminant : s.is_zero (quartic_discriminant s q) ≡ true

  -- moreover its Hessian is not zero, nor are both I and J
  pub record IsSquared (q : List V) : Type 0 where
    pub degenerate : IsDegenerate q
    pub hessian : are_zero s (quartic_hessian s q) ≡ false
    pub invariants : (s.is_zero (quartic_i s q) && s.is_zero (quartic_j s q)) ≡ false

  -- moreover its Hessian is a multiple of it
  pub record IsSquare (q : List V) : Type 0 where
    pub squared : IsSquared q
    pub rest : are_zero s (quartic_rest s q) ≡ true

-- the shape that the program's shape stands for
abbrev pub quartic_value : {E V : Type 0} → (E → V) → Quartic E → QuarticShape V
quartic_value value quartics.Zero = zero_quartic
quartic_value value quartics.Distinct = distinct_lines
quartic_value value (quartics.Fourth l) = fourth (line_value value l)
quartic_value value (quartics.Triple l) = triple (line_value value l)
quartic_value value (quartics.Double l) = double_line (line_value value l)
quartic_value value (quartics.TwoDoubles q0 q1 q2) = two_doubles (value q0) (value q1) (value q2)

-- the numbers of a shape are valid elements
abbrev pub IsQuarticOver : {E : Type 0} → (E → Type 0) → Quartic E → Type 0
IsQuarticOver is_elem quartics.Zero = Unit {0}
IsQuarticOver is_elem quartics.Distinct = Unit {0}
IsQuarticOver is_elem (quartics.Fourth l) = is_elem l.lambda
IsQuarticOver is_elem (quartics.Triple l) = is_elem l.lambda
IsQuarticOver is_elem (quartics.Double l) = is_elem l.lambda
IsQuarticOver is_elem (quartics.TwoDoubles q0 q1 q2) = is_elem q0 × is_elem q1 × is_elem q2

-- the answer on the quartic with these coefficients: it is the plan's shape, and what it says holds
pub record IsQuarticAnswer {E V : Type 0} (m : Meaning E V) (q : List E) (t : Quartic E) : Type 0 where
  pub elems : IsQuarticOver m.is_elem t
  pub shape : quartic_value m.value t ≡ quartic_shape m.scalars (map m.value q)
  pub says : IsQuarticOf m.scalars (map m.value q) (quartic_value m.value t)
