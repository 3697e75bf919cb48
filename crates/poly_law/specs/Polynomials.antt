-- Polynomials in n variables over a ring r, with lists of n whole numbers as exponent vectors: the words of Poly at these.
use Rattle.std.specs.Prelude.{ℕ, ◌<◌}
use Rattle.ring_theory.specs.Ring.{RingOps}
use Rattle.poly_law.specs.ExpList.{ExpList, exps}
use Rattle.poly_law.specs.Poly.{Terms, coefficient, Same, SameTo, StartsAt, times, poly_ops, term, derivative, cut, subst_in}

-- a polynomial in n variables with coefficients in V
abbrev pub Polynomial : ℕ → Type 0 → Type 0
Polynomial n V = Terms (ExpList n) V

module _ {V : Type 0} (n : ℕ) (r : RingOps V) where
  -- the coefficient of f at m
  abbrev pub coefficient_in : Polynomial n V → ExpList n → V
  coefficient_in = coefficient (exps n) r

  -- f and g are equal
  abbrev pub SameIn : Polynomial n V → Polynomial n V → Type 0
  SameIn = Same (exps n) r

  -- f and g are equal modulo the terms of degree above k
  abbrev pub SameToIn : ℕ → Polynomial n V → Polynomial n V → Type 0
  SameToIn = SameTo (exps n) r

  -- f has no term of degree below d
  abbrev pub StartsAtIn : ℕ → Polynomial n V → Type 0
  StartsAtIn = StartsAt (exps n) r

  -- none of the polynomials φ(0), .., φ(count - 1) has a constant term
  abbrev pub HaveNoConstant : ℕ → (ℕ → Polynomial n V) → Type 0
  HaveNoConstant count parts = (i : ℕ) → i < count → StartsAtIn 1 (parts i)

  -- the ring of the polynomials in n variables
  abbrev pub poly_in : RingOps (Polynomial n V)
  poly_in = poly_ops (exps n) r

  -- the product
  abbrev pub times_in : Polynomial n V → Polynomial n V → Polynomial n V
  times_in = times (exps n) r

  -- the monomial a with coefficient 1
  abbrev pub term_in : ExpList n → Polynomial n V
  term_in = term (exps n) r

  -- the partial derivative in variable j
  abbrev pub derivative_in : ℕ → Polynomial n V → Polynomial n V
  derivative_in = derivative (exps n) r

  -- the truncation at k
  abbrev pub cut_in : ℕ → Polynomial n V → Polynomial n V
  cut_in = cut (exps n) r

-- f(φ), for f in m variables and polynomials φ(0), .., φ(m - 1) in n variables
abbrev pub substitute : {V : Type 0} (m n : ℕ) → RingOps V → (ℕ → Polynomial n V) → Polynomial m V → Polynomial n V
substitute m n r = subst_in (exps m) (exps n) r
