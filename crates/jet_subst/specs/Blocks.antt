-- The terms of one degree of a substitution.
use Rattle.std.specs.Prelude.{◌≡◌, ℕ, ◌++◌, List, length, map, flat_map, All}
use Rattle.ring_theory.specs.Scalars.{Meaning}
use Rattle.poly_law.specs.ExpList.{ExpList, exps}
use Rattle.poly_law.specs.Poly.{scale, monomial_of}
use Rattle.poly_law.specs.Polynomials.{Polynomial}
use Rattle.mono_exp.specs.Exponents.{IsIn}
use Rattle.mono_exp.specs.declared.exponent.Exp.{Exp}
use Rattle.jet_law.specs.Terms.{exp_of, poly_of}
use Rattle.jet_poly.specs.JetTerms.{JetTerms}
use Rattle.jet_poly.specs.Jets.{component}
use Rattle.jet_subst.specs.Powers.{IsTruncation}
use Rattle.jet_subst.specs.Parts.{part_of}
use Rattle.jet_subst.specs.Substitutions.{Summand}

-- the terms that are added are those of degree k of v*φ^a, for the term t = v*x^a
pub record AddsBlock {E V : Type 0} (m : Meaning E V) (n k : ℕ) (parts : List (JetTerms E)) (t : Exp × E) (old new : List (Exp × E)) : Type 0 where
  pub power : Polynomial n V
  pub power_is : IsTruncation (exps n) m.scalars.ops k (monomial_of (exps (length parts)) (exps n) m.scalars.ops (part_of n m.value parts) (exp_of (length parts) t.0)) power
  pub adds : poly_of n m.value new ≡ poly_of n m.value old ++ scale (exps n) m.scalars.ops (m.value t.1) (component n k power)

-- all is the list of the terms of degree k that the first terms of a jet give: those of the multiples v*φ^a for its terms v*x^a, one after the other
pub record AreBlocks {E V : Type 0} (m : Meaning E V) (n k : ℕ) (parts : List (JetTerms E)) (front all : List (Exp × E)) : Type 0 where
  pub summands : List (Summand (ExpList (length parts)) (ExpList n) V)
  pub terms : map (λ u. (u.exponent, u.factor)) summands ≡ poly_of (length parts) m.value front
  pub powers : All (λ u. IsTruncation (exps n) m.scalars.ops k (monomial_of (exps (length parts)) (exps n) m.scalars.ops (part_of n m.value parts) u.exponent) u.power) summands
  pub blocks : poly_of n m.value all ≡ flat_map (λ u. scale (exps n) m.scalars.ops u.factor (component n k u.power)) summands
  pub elems : All (λ t. m.is_elem t.1) all
  pub variables : All (λ t. IsIn n t.0.e) all
