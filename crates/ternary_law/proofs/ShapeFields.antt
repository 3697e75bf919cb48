-- The algebra of the linear move of each shape is a field.
use Rattle.std.proofs.Common.{List}
use Rattle.ring_theory.specs.Rational.{Rational}
use Rattle.ext_algebra.specs.Algebra.{IsIrreducible}
use Rattle.move_law.proofs.AlgebraFields.{quadratic_field, cubic_field, tower_field}
use Rattle.ternary_law.specs.Pairs.{Pair, corner, roots, over_root, IsPair, pair_algebra, monic}
use Rattle.ternary_law.specs.Triangle.{Points, at_corner, at_rational, cyclic, in_tower, IsWay, algebra_of, modulus, discriminant, quotient_by_y, quotient_by, plane_section}
use Rattle.ternary_law.specs.Routes.{pair_of}
use Rattle.ternary_law.specs.Rules.{concurrent_route, node_route, secant_route}
use Rattle.ternary_law.specs.Shapes.{Shape, no_form, repeated, concurrent, smooth, node, cusp, conic_secant, conic_tangent, triangle, other, form, ByRule, is_zero, is_cube, is_repeated, is_concurrent, is_smooth, is_node, is_cusp, is_conic_secant, is_conic_tangent, is_triangle, HasShape, by_rule, by_none}

pair_field : (c : List Rational) (p : Pair) → IsPair c p → IsIrreducible (pair_algebra c p)
pair_field c corner h = tt
pair_field c (roots low high) h = tt
pair_field c over_root h = quadratic_field (monic c) h.1

way_field : (r : List Rational) (way : Points) → IsWay r way → IsIrreducible (algebra_of r way)
way_field r (at_corner p) h = pair_field (quotient_by_y r) p h.1.1
way_field r (at_rational θ p) h = pair_field (quotient_by r θ) p h.2.1
way_field r (cyclic σ) h = cubic_field (modulus r) h.1
way_field r in_tower h = tower_field (modulus r) (discriminant r) h.1 h.2

-- the algebra of a shape's move is a field
abbrev pub ShapeField : Shape → Type 0
ShapeField no_form = Unit {0}
ShapeField (repeated matrix inverse) = Unit {0}
ShapeField (concurrent m) = IsIrreducible m.algebra
ShapeField smooth = Unit {0}
ShapeField (node m) = IsIrreducible m.algebra
ShapeField (cusp m) = IsIrreducible m.algebra
ShapeField (conic_secant m) = IsIrreducible m.algebra
ShapeField (conic_tangent m) = IsIrreducible m.algebra
ShapeField (triangle m) = IsIrreducible m.algebra
ShapeField other = Unit {0}

module _ (c : List Rational) where
  rule_field : {t : Shape} → ByRule c t → ShapeField t
  rule_field (is_zero z) = tt
  rule_field (is_cube i k p) = tt
  rule_field (is_repeated v i k e p) = tt
  rule_field (is_concurrent v p i k e a) = pair_field (pair_of (form c) (concurrent_route (form c) v)) p a.is_pair
  rule_field (is_smooth k) = tt
  rule_field (is_node w p i k a) = pair_field (pair_of (form c) (node_route (form c) w)) p a.is_pair
  rule_field (is_cusp v i k a) = tt
  rule_field (is_conic_secant l p i k a) = pair_field (pair_of (form c) (secant_route (form c) l)) p a.is_pair
  rule_field (is_conic_tangent i k a) = tt
  rule_field (is_triangle m way i k a) = way_field (plane_section (form c) m) way a.is_way

  -- of each shape that a cubic has
  pub shape_field : (t : Shape) → HasShape c t → ShapeField t
  shape_field t (by_rule h) = rule_field h
  shape_field _ (by_none none) = tt
