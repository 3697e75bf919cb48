-- Rational numbers and polynomials as elements and polynomials of any algebra.
use Rattle.std.specs.Prelude.{List, map, pos}
use Rattle.ring_law.specs.declared.fraction.Frac.{Frac}
use Rattle.ext_algebra.specs.declared.algebra.Ext.{Ext}
use Rattle.mono_exp.specs.declared.exponent.Exp.{Exp}

-- the element q, with the components q, 0, 0, 0, 0, 0
abbrev pub lifted_element : Frac → Ext Frac
lifted_element q = let zero : Frac = record { num = pos 0; den = pos 1 } in record { c0 = q; c1 = zero; c2 = zero; c3 = zero; c4 = zero; c5 = zero }

-- the terms with their coefficients as elements
unfoldable pub lifted_terms : List (Exp × Frac) → List (Exp × Ext Frac)
lifted_terms terms = map (λ t. (t.0, lifted_element t.1)) terms
