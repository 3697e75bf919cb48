-- Forms of families and jets of patterns.
use Rattle.std.specs.Prelude.{◌≡◌, ℕ, Bool, IsTrue, List, map, get_or}
use Rattle.std.specs.List.{list_all}
use Rattle.mono_exp.specs.declared.exponent.Exp.{Exp}
use Rattle.normal_forms.specs.declared.family.Family.{Family}
use Rattle.normal_forms.specs.declared.pattern.Pattern.{Pattern}
use Rattle.normal_forms.specs.Families.{corank_of, sum_of}
use Rattle.normal_forms.specs.Patterns.{has_corank, admits}
use Rattle.normal_forms.specs.Monomials.{in_eight, is_one_of, monomials_in, is_split, residual_terms}

-- terms in n variables, the first c of them residual, are a form of the family: c is the family's corank, the terms are split, and those
-- without square variables have only monomials of the family's sum
pub record IsFormOf {E : Type 0} (family : Family) (n c : ℕ) (terms : List (Exp × E)) : Type 0 where
  pub corank : c ≡ corank_of family
  pub split : IsTrue (is_split n c terms)
  pub monomials : IsTrue (list_all (is_one_of (map in_eight (sum_of family))) (monomials_in (residual_terms c terms)))

-- x^i y^k z^l, by its exponents, may stand in a jet of the pattern
abbrev pub admits_monomial : Pattern → Exp → Bool
admits_monomial pattern m = admits pattern (get_or m.e 0 0) (get_or m.e 1 0) (get_or m.e 2 0)

-- terms in n variables, the first c of them residual, are in the pattern: c is a corank of the pattern, the terms are split, and each
-- monomial without square variables meets the pattern's test
pub record IsPatternOf {E : Type 0} (pattern : Pattern) (n c : ℕ) (terms : List (Exp × E)) : Type 0 where
  pub corank : IsTrue (has_corank pattern c)
  pub split : IsTrue (is_split n c terms)
  pub monomials : IsTrue (list_all (admits_monomial pattern) (monomials_in (residual_terms c terms)))
