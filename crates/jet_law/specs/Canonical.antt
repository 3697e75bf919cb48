-- Polynomials up to a degree in canonical form: the one list of terms in the monomial order, without zeros.
use Rattle.std.specs.Prelude.{ℕ, suc, not, List, map, filter, get_or}
use Rattle.ring_theory.specs.Scalars.{Scalars}
use Rattle.poly_law.specs.ExpList.{ExpList, exps}
use Rattle.poly_law.specs.ExpList as lists
use Rattle.poly_law.specs.Poly.{coefficient, cut}
use Rattle.poly_law.specs.Polynomials.{Polynomial}
use Rattle.mono_exp.specs.Exponents.{monomials_of, monomials_below}

-- a list of exponents as a monomial in n variables
abbrev pub monomial_in : (n : ℕ) → List ℕ → ExpList n
monomial_in n e = lists.exp_of n (λ i. get_or e i 0)

module _ {V : Type 0} (n : ℕ) (s : Scalars V) where
  -- the terms of f at some monomials, in the order of that list, and none with coefficient zero
  abbrev pub terms_at : Polynomial n V → List (List ℕ) → Polynomial n V
  terms_at f es = filter (λ t. not (s.is_zero t.1)) (map (λ e. (monomial_in n e, coefficient (exps n) s.ops f (monomial_in n e))) es)

  -- the jet of order k: the terms of degree at most k, in the monomial order, each once and none with coefficient zero
  unfoldable pub jet : ℕ → Polynomial n V → Polynomial n V
  jet k f = terms_at (cut (exps n) s.ops k f) (monomials_below n (suc k))

  -- the homogeneous component of degree d
  unfoldable pub part : ℕ → Polynomial n V → Polynomial n V
  part d f = terms_at f (monomials_of n d)
