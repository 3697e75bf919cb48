-- Polynomials as finite sums of terms over a commutative ring; changes of coordinates; Mather's condition; the truncated Milnor algebra.
-- Sources: J. Mather, Stability of C-infinity mappings III: finitely determined map-germs (1968);
-- V. I. Arnold, S. M. Gusein-Zade, A. N. Varchenko, Singularities of Differentiable Maps, volume 1.
-- x stands for the variables (0, .., x.count - 1), r for the ring of coefficients, k for the degree of truncation.
use Rattle.std.specs.Prelude.{◌≡◌, ℕ, ◌+◌, ◌≤◌, ◌<◌, cond, leb, ltb, List, [], ◌∷◌, ◌++◌, map, filter, flat_map}
use Rattle.ring_theory.specs.Ring.{RingOps}
use Rattle.poly_law.specs.Sums.{total, sum_to, monomial, multiple, unit_at}
use Rattle.poly_law.specs.Exps.{Exps, plus, none, lower, variable, same, degree}

-- a polynomial is a finite sum of terms v*m, each an exponent vector m with a coefficient v; terms may come in any order, and several may
-- have the same exponents
abbrev pub Terms : Type 0 → Type 0 → Type 0
Terms E V = List (E × V)

module _ {E V : Type 0} (x : Exps E) (r : RingOps V) where
  -- the coefficient of f at m: the sum of the v over the terms v*m of f at m
  abbrev pub coefficient : Terms E V → E → V
  coefficient f m = total r (λ t. cond (same x t.0 m) t.1 r.zero) f

  -- two polynomials are equal where all their coefficients are
  abbrev pub Same : Terms E V → Terms E V → Type 0
  Same f g = (m : E) → coefficient f m ≡ coefficient g m

  -- two polynomials are equal modulo the terms of degree above k
  abbrev pub SameTo : ℕ → Terms E V → Terms E V → Type 0
  SameTo k f g = (m : E) → degree x m ≤ k → coefficient f m ≡ coefficient g m

  -- f is in the d-th power of the ideal of the polynomials without constant term: no coefficient of degree below d
  abbrev pub StartsAt : ℕ → Terms E V → Type 0
  StartsAt d f = (m : E) → degree x m < d → coefficient f m ≡ r.zero

  -- a*f for an element a of the ring
  abbrev pub scale : V → Terms E V → Terms E V
  scale a f = map (λ t. (t.0, r.mul a t.1)) f

  -- the product of the term s and f
  abbrev pub times_term : E × V → Terms E V → Terms E V
  times_term s f = map (λ t. (plus x s.0 t.0, r.mul s.1 t.1)) f

  -- the product f*g: the sum of s*t over the terms s of f and t of g
  abbrev pub times : Terms E V → Terms E V → Terms E V
  times f g = flat_map (λ s. times_term s g) f

  -- the constant polynomial a
  abbrev pub constant : V → Terms E V
  constant a = (none x, a) ∷ []

  -- the monomial a, with coefficient 1
  abbrev pub term : E → Terms E V
  term a = (a, r.one) ∷ []

  -- the operations of the ring of polynomials; the sum of f and g has the terms of both
  abbrev pub poly_ops : RingOps (Terms E V)
  poly_ops = record {
    zero = [];
    one = constant r.one;
    add = λ f g. f ++ g;
    mul = times;
    neg = map (λ t. (t.0, r.neg t.1));
  }

  -- the partial derivative in variable j: the sum of (a(j)*v) * x^a / x(j) over the terms v*x^a of f
  abbrev pub derivative : ℕ → Terms E V → Terms E V
  derivative j f = map (λ t. (lower x j t.0, multiple r (x.at t.0 j) t.1)) f

  -- the truncation of f at k: its terms of degree at most k
  abbrev pub cut : ℕ → Terms E V → Terms E V
  cut k f = filter (λ t. leb (degree x t.0) k) f

  -- a change of coordinates (φ(0), .., φ(n - 1)), n = x.count, with the matrix M: no φ(i) has a constant term, and M is inverse on both
  -- sides to the linear part L, whose row i holds the linear coefficients of φ(i)
  pub record IsInvertible (parts : ℕ → Terms E V) (matrix : ℕ → ℕ → V) : Type 0 where
    pub no_constant : (i : ℕ) → i < x.count → StartsAt 1 (parts i)
    pub left : (i k : ℕ) → i < x.count → k < x.count → sum_to r x.count (λ j. r.mul (matrix i j) (coefficient (parts j) (variable x k))) ≡ unit_at r i k
    pub right : (i k : ℕ) → i < x.count → k < x.count → sum_to r x.count (λ j. r.mul (coefficient (parts i) (variable x j)) (matrix j k)) ≡ unit_at r i k

  -- the element a(0)*∂g/∂x(0) + .. + a(n - 1)*∂g/∂x(n - 1) of the Jacobian ideal of g, n = x.count
  abbrev pub combination : (ℕ → Terms E V) → Terms E V → Terms E V
  combination multiplier g = sum_to poly_ops x.count (λ i. times (multiplier i) (derivative i g))

  -- a row of Mather's test at k: the monomial m, of degree k + 1, is the combination of the partials of g with these multipliers modulo degree
  -- k + 2, and each multiplier is in the square of the maximal ideal
  pub record IsMatherRow (k : ℕ) (g : Terms E V) (m : E) (multiplier : ℕ → Terms E V) : Type 0 where
    pub order_two : (i : ℕ) → i < x.count → StartsAt 2 (multiplier i)
    pub adds_up : SameTo (k + 1) (combination multiplier g) (term m)

  -- m has a row of Mather's test at k
  pub record MatherRow (k : ℕ) (g : Terms E V) (m : E) : Type 0 where
    pub multiplier : ℕ → Terms E V
    pub is_row : IsMatherRow k g m multiplier

  -- Mather's condition at k, for the maximal ideal M and the Jacobian ideal J of g: M^(k+1) is in M^2*J + M^(k+2);
  -- each monomial of degree k + 1 has a row
  abbrev pub MatherRows : ℕ → Terms E V → Type 0
  MatherRows k g = (m : E) → degree x m ≡ k + 1 → MatherRow k g m

  -- the linear functional that is v on each monomial m of the list of pairs (m, v), and 0 on the others
  abbrev pub value_on : Terms E V → Terms E V → V
  value_on values f = total r (λ t. r.mul t.1 (coefficient f t.0)) values

  -- Mather's condition fails at k: the functional is 0 on a*∂g/∂x(i) cut at k + 1, for each monomial a of degree at least 2 and each i,
  -- and 1 on the monomial m of degree k + 1
  pub record MatherFails (k : ℕ) (g : Terms E V) (values : Terms E V) (m : E) : Type 0 where
    pub of_degree : degree x m ≡ k + 1
    pub zero_on : (a : E) (i : ℕ) → 2 ≤ degree x a → i < x.count → value_on values (cut (k + 1) (times (term a) (derivative i g))) ≡ r.zero
    pub one_on : value_on values (term m) ≡ r.one

  -- v(0)*b(0) + .. + v(size - 1)*b(size - 1) for monomials b(j)
  abbrev pub of_basis : ℕ → (ℕ → E) → (ℕ → V) → Terms E V
  of_basis size basis v = sum_to poly_ops size (λ j. scale (v j) (term (basis j)))

  -- the map T of a table of rows, which takes the monomial a to the values row(a), extended linearly, at f cut at k: entry j
  abbrev pub values_of : (E → ℕ → V) → ℕ → Terms E V → ℕ → V
  values_of row k f j = total r (λ t. r.mul t.1 (row t.0 j)) (cut k f)

  -- f is in the Jacobian ideal of g modulo degree k + 1
  pub record InIdeal (k : ℕ) (g f : Terms E V) : Type 0 where
    pub multiplier : ℕ → Terms E V
    pub adds_up : SameTo k f (combination multiplier g)

  -- the truncated Milnor algebra: the k-jets modulo the Jacobian ideal of g, with a basis of monomials and a table of rows of values. The
  -- basis has degree at most k, T takes basis monomial i to unit vector i, T is 0 on a*∂g/∂x(i) for each monomial a and each i, and each
  -- monomial of degree at most k less the combination of the basis with its row is in the ideal modulo degree k + 1
  pub record IsQuotient (k : ℕ) (g : Terms E V) (size : ℕ) (basis : ℕ → E) (row : E → ℕ → V) : Type 0 where
    pub low : (i : ℕ) → i < size → degree x (basis i) ≤ k
    pub units : (i j : ℕ) → i < size → j < size → row (basis i) j ≡ unit_at r i j
    pub zero_on : (a : E) (i j : ℕ) → i < x.count → j < size → values_of row k (times (term a) (derivative i g)) j ≡ r.zero
    pub spans : (a : E) → degree x a ≤ k → InIdeal k g (term a ++ poly_ops.neg (of_basis size basis (row a)))

  -- the same with the multipliers of each monomial: a less the combination of the basis with row(a) is the combination of the partials
  -- with multiplier(a), modulo degree k + 1
  pub record IsQuotientTable (k : ℕ) (g : Terms E V) (size : ℕ) (basis : ℕ → E) (row : E → ℕ → V) (multiplier : E → ℕ → Terms E V) : Type 0 where
    pub low : (i : ℕ) → i < size → degree x (basis i) ≤ k
    pub units : (i j : ℕ) → i < size → j < size → row (basis i) j ≡ unit_at r i j
    pub zero_on : (a : E) (i j : ℕ) → i < x.count → j < size → values_of row k (times (term a) (derivative i g)) j ≡ r.zero
    pub adds_up : (a : E) → degree x a ≤ k → SameTo k (term a ++ poly_ops.neg (of_basis size basis (row a))) (combination (multiplier a) g)

-- substitution of polynomials φ(i) in the variables of y for the variables of x
module _ {E F V : Type 0} (x : Exps E) (y : Exps F) (r : RingOps V) where
  -- φ(0)^a(0) * .. * φ(n - 1)^a(n - 1), n = x.count
  abbrev pub monomial_of : (ℕ → Terms F V) → E → Terms F V
  monomial_of parts a = monomial (poly_ops y r) x.count parts (x.at a)

  -- f(φ): the sum of v * φ(0)^a(0) * .. * φ(n - 1)^a(n - 1) over the terms v*x^a of f
  abbrev pub subst_in : (ℕ → Terms F V) → Terms E V → Terms F V
  subst_in parts f = flat_map (λ t. scale y r t.1 (monomial_of parts t.0)) f

-- f is split: the first y.count variables of x are the residual ones, and the others, the square variables, stand in f by squares alone
module _ {E F V : Type 0} (x : Exps E) (y : Exps F) (r : RingOps V) where
  -- a monomial in the residual variables, as one in all variables
  abbrev pub place : F → E
  place b = x.make (λ i. cond (ltb i y.count) (y.at b i) 0)

  -- the square of variable w
  abbrev pub square : ℕ → E
  square w = plus x (variable x w) (variable x w)

  -- f is g in the residual variables plus a sum of c(w)*x(w)^2 over the square variables w: g is the residual part of f
  pub record IsSplit (f : Terms E V) (g : Terms F V) : Type 0 where
    pub residual : (b : F) → coefficient y r g b ≡ coefficient x r f (place b)
    pub others : (m : E) (w : ℕ) → y.count ≤ w → w < x.count → 0 < x.at m w → (m ≡ square w → ⊥) → coefficient x r f m ≡ r.zero
