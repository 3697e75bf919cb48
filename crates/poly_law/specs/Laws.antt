-- The laws of polynomials over a commutative ring r, in any numbers of variables.
use Rattle.std.specs.Prelude.{◌≡◌, ℕ, ◌<◌, ◌≤◌, ◌↔◌, ◌++◌, cond}
use Rattle.ring_theory.specs.Ring.{RingOps}
use Rattle.poly_law.specs.Sums.{sum_to, multiple}
use Rattle.poly_law.specs.Exps.{variable, same}
use Rattle.poly_law.specs.ExpList.{ExpList, exps}
use Rattle.poly_law.specs.Poly.{IsInvertible, MatherRows, MatherFails, IsSplit, square, coefficient, IsQuotient, IsQuotientTable, InIdeal, of_basis, values_of, place}
use Rattle.poly_law.specs.Polynomials.{Polynomial, SameIn, SameToIn, HaveNoConstant, poly_in, times_in, term_in, derivative_in, cut_in, substitute}

-- the laws of a commutative ring, for operations that respect a relation in place of equality
pub record IsCommRingUpTo {A : Type 0} (Equal : A → A → Type 0) (p : RingOps A) : Type 0 where
  pub add_equal : (f f' g g' : A) → Equal f f' → Equal g g' → Equal (p.add f g) (p.add f' g')
  pub mul_equal : (f f' g g' : A) → Equal f f' → Equal g g' → Equal (p.mul f g) (p.mul f' g')
  pub neg_equal : (f f' : A) → Equal f f' → Equal (p.neg f) (p.neg f')
  pub add_assoc : (f g h : A) → Equal (p.add (p.add f g) h) (p.add f (p.add g h))
  pub add_comm : (f g : A) → Equal (p.add f g) (p.add g f)
  pub add_zero : (f : A) → Equal (p.add f p.zero) f
  pub add_neg : (f : A) → Equal (p.add f (p.neg f)) p.zero
  pub mul_assoc : (f g h : A) → Equal (p.mul (p.mul f g) h) (p.mul f (p.mul g h))
  pub mul_comm : (f g : A) → Equal (p.mul f g) (p.mul g f)
  pub mul_one : (f : A) → Equal (p.mul f p.one) f
  pub distrib : (f g h : A) → Equal (p.mul (p.add f g) h) (p.add (p.mul f h) (p.mul g h))

-- a map respects equality, one, sums and products, up to a relation in place of equality
pub record IsRingMapUpTo {A B : Type 0} (EqualA : A → A → Type 0) (EqualB : B → B → Type 0) (p : RingOps A) (q : RingOps B) (s : A → B) : Type 0 where
  pub equal : (f g : A) → EqualA f g → EqualB (s f) (s g)
  pub one : EqualB (s p.one) q.one
  pub add : (f g : A) → EqualB (s (p.add f g)) (q.add (s f) (s g))
  pub mul : (f g : A) → EqualB (s (p.mul f g)) (q.mul (s f) (s g))

module _ {V : Type 0} (r : RingOps V) where
  -- the polynomials in n variables are a commutative ring
  abbrev pub PolynomialRing : Type 0
  PolynomialRing = (n : ℕ) → IsCommRingUpTo (SameIn n r) (poly_in n r)

  -- a truncated product needs its factors up to the degree of truncation only
  abbrev pub CutTimes : Type 0
  CutTimes = (n k : ℕ) (f g : Polynomial n V) → SameIn n r (cut_in n r k (times_in n r f g)) (cut_in n r k (times_in n r (cut_in n r k f) (cut_in n r k g)))

  -- the truncation at k is equal to f modulo the terms of degree above k, and polynomials that are equal so have equal truncations
  abbrev pub CutIsSameTo : Type 0
  CutIsSameTo = (n k : ℕ) (f g : Polynomial n V) → SameToIn n r k (cut_in n r k f) f × (SameToIn n r k f g → SameIn n r (cut_in n r k f) (cut_in n r k g))

  -- ∂(f*g)/∂x(j) = (∂f/∂x(j))*g + f*(∂g/∂x(j))
  abbrev pub Leibniz : Type 0
  Leibniz = (n j : ℕ) → j < n → (f g : Polynomial n V)
      → SameIn n r (derivative_in n r j (times_in n r f g)) (times_in n r (derivative_in n r j f) g ++ times_in n r f (derivative_in n r j g))

  -- substitution is a map of rings: it respects sums and products
  abbrev pub SubstIsRingMap : Type 0
  SubstIsRingMap = (m n : ℕ) (parts : ℕ → Polynomial n V) → IsRingMapUpTo (SameIn m r) (SameIn n r) (poly_in m r) (poly_in n r) (substitute m n r parts)

  -- (f*g)(φ) cut at k is f(φ) cut at k times g(φ) cut at k, cut at k
  abbrev pub SubstMul : Type 0
  SubstMul = (m n k : ℕ) (parts : ℕ → Polynomial n V) (f g : Polynomial m V)
      → SameIn n r (cut_in n r k (substitute m n r parts (times_in m r f g)))
      (cut_in n r k (times_in n r (cut_in n r k (substitute m n r parts f)) (cut_in n r k (substitute m n r parts g))))

  -- f(φ)(ψ) is f(φ(ψ)), where φ(ψ) has the parts φ(i)(ψ)
  abbrev pub SubstCompose : Type 0
  SubstCompose = (l m n : ℕ) (first : ℕ → Polynomial m V) (next : ℕ → Polynomial n V) (f : Polynomial l V)
      → SameIn n r (substitute m n r next (substitute l m r first f)) (substitute l n r (λ i. substitute m n r next (first i)) f)

  -- the same with all steps cut at k: f(φ) cut at k, with ψ substituted, is f with the φ(i)(ψ) cut at k substituted, cut at k, where no
  -- ψ(j) has a constant term
  abbrev pub SubstComposeCut : Type 0
  SubstComposeCut = (l m n k : ℕ) (first : ℕ → Polynomial m V) (next : ℕ → Polynomial n V) → HaveNoConstant n r m next → (f : Polynomial l V)
      → SameIn n r (cut_in n r k (substitute m n r next (cut_in m r k (substitute l m r first f))))
      (cut_in n r k (substitute l n r (λ i. cut_in n r k (substitute m n r next (first i))) f))

  -- f(φ) modulo the terms of degree above k needs f and the φ(i) modulo these alone, where no φ(i) has a constant term
  abbrev pub SubstCut : Type 0
  SubstCut = (m n k : ℕ) (first next : ℕ → Polynomial n V) → HaveNoConstant n r m first → ((i : ℕ) → i < m → SameToIn n r k (first i) (next i))
      → (f g : Polynomial m V) → SameToIn m r k f g → SameToIn n r k (substitute m n r first f) (substitute m n r next g)

  -- ∂f(φ)/∂x(j) is the sum of (∂f/∂x(i))(φ) * ∂φ(i)/∂x(j) over i
  abbrev pub ChainRule : Type 0
  ChainRule = (m n : ℕ) (parts : ℕ → Polynomial n V) (j : ℕ) → j < n → (f : Polynomial m V)
      → SameIn n r (derivative_in n r j (substitute m n r parts f))
      (sum_to (poly_in n r) m (λ i. times_in n r (substitute m n r parts (derivative_in m r i f)) (derivative_in n r j (parts i))))

  -- one change of coordinates after the other is a change of coordinates; the inverse of its linear part is the product of the two
  abbrev pub ComposeInvertible : Type 0
  ComposeInvertible = (n : ℕ) (first next : ℕ → Polynomial n V) (a b : ℕ → ℕ → V) → IsInvertible (exps n) r first a → IsInvertible (exps n) r next b
      → IsInvertible (exps n) r (λ i. substitute n n r next (first i)) (λ i k. sum_to r n (λ j. r.mul (b i j) (a j k)))

  -- ψ is inverse to the change φ modulo the terms of degree above k: φ(i)(ψ) and ψ(i)(φ) are variable i
  pub record IsInverse (n : ℕ) (parts : ℕ → Polynomial n V) (k : ℕ) (inverse : ℕ → Polynomial n V) : Type 0 where
    pub no_constant : HaveNoConstant n r n inverse
    pub right : (i : ℕ) → i < n → SameToIn n r k (substitute n n r inverse (parts i)) (term_in n r (variable (exps n) i))
    pub left : (i : ℕ) → i < n → SameToIn n r k (substitute n n r parts (inverse i)) (term_in n r (variable (exps n) i))

  -- each change of coordinates has an inverse modulo the terms of degree above k, for each k
  abbrev pub InverseExists : Type 0
  InverseExists = (n : ℕ) (parts : ℕ → Polynomial n V) (matrix : ℕ → ℕ → V) → IsInvertible (exps n) r parts matrix
      → (k : ℕ) → 1 ≤ k → (inverse : ℕ → Polynomial n V) × IsInverse n parts k inverse

  -- a change of coordinates that carries f to h up to order k keeps Mather's condition at k
  abbrev pub MatherKept : Type 0
  MatherKept = (n : ℕ) (parts : ℕ → Polynomial n V) (matrix : ℕ → ℕ → V) → IsInvertible (exps n) r parts matrix
      → (k : ℕ) (f h : Polynomial n V) → SameToIn n r k h (substitute n n r parts f) → MatherRows (exps n) r k f ↔ MatherRows (exps n) r k h

  -- Mather's condition at k is that at each higher order as well
  abbrev pub MatherUp : Type 0
  MatherUp = (n k k' : ℕ) → k ≤ k' → (g : Polynomial n V) → MatherRows (exps n) r k g → MatherRows (exps n) r k' g

  -- the coefficients of the squares of f, in the variables from c on, are units, and 2 is one: i(w) is inverse to twice that of x(w)^2
  abbrev pub InvertSquares : (n c : ℕ) → Polynomial n V → (ℕ → V) → Type 0
  InvertSquares n c f inverse = (w : ℕ) → c ≤ w → w < n → r.mul (inverse w) (multiple r 2 (coefficient (exps n) r f (square (exps n) (exps c) r w))) ≡ r.one

  -- Mather's condition of a split polynomial is that of its residual part, in the first c variables, where the squares' coefficients are units
  abbrev pub MatherSplit : Type 0
  MatherSplit = (n c : ℕ) → c ≤ n → (f : Polynomial n V) (g : Polynomial c V) → IsSplit (exps n) (exps c) r f g → (k : ℕ) → 2 ≤ k
      → (MatherRows (exps n) r k f → MatherRows (exps c) r k g)
      × ((inverse : ℕ → V) → InvertSquares n c f inverse → MatherRows (exps c) r k g → MatherRows (exps n) r k f)

  -- where a change of coordinates carries a germ up to order k to a split jet, and a functional shows that Mather's condition fails at k for the
  -- residual part, the germ does not meet Mather's condition at k or below
  abbrev pub LimitMeans : Type 0
  LimitMeans = (n c : ℕ) → c ≤ n → (parts : ℕ → Polynomial n V) (matrix : ℕ → ℕ → V) → IsInvertible (exps n) r parts matrix
      → (k : ℕ) (germ jet : Polynomial n V) → SameToIn n r k jet (substitute n n r parts germ)
      → (residual : Polynomial c V) → IsSplit (exps n) (exps c) r jet residual
      → (values : Polynomial c V) (at : ExpList c) → MatherFails (exps c) r k residual values at
      → (k' : ℕ) → k' ≤ k → MatherRows (exps n) r k' germ → ⊥

  -- the k-jets modulo the Jacobian ideal are free with the basis of the table: each polynomial is, modulo the ideal and degree k + 1, the
  -- combination of the basis with its values, and a combination that is in the ideal is 0
  abbrev pub QuotientFree : Type 0
  QuotientFree = (n k : ℕ) (g : Polynomial n V) (size : ℕ) (basis : ℕ → ExpList n) (row : ExpList n → ℕ → V) → IsQuotient (exps n) r k g size basis row
      → ((f : Polynomial n V) → InIdeal (exps n) r k g (f ++ (poly_in n r).neg (of_basis (exps n) r size basis (values_of (exps n) r row k f))))
      × ((v : ℕ → V) → InIdeal (exps n) r k g (of_basis (exps n) r size basis v) → (j : ℕ) → j < size → v j ≡ r.zero)

  -- a table with its multipliers is one without
  abbrev pub QuotientOfTable : Type 0
  QuotientOfTable = (n k : ℕ) (g : Polynomial n V) (size : ℕ) (basis : ℕ → ExpList n) (row : ExpList n → ℕ → V) (multiplier : ExpList n → ℕ → Polynomial n V)
      → IsQuotientTable (exps n) r k g size basis row multiplier → IsQuotient (exps n) r k g size basis row

  -- the basis of the residual part of a split polynomial, and its rows, with 0 at the monomials with a square variable, are those of the split
  -- polynomial
  abbrev pub QuotientOfSplit : Type 0
  QuotientOfSplit = (n c : ℕ) → c ≤ n → (f : Polynomial n V) (g : Polynomial c V) → IsSplit (exps n) (exps c) r f g
      → (inverse : ℕ → V) → InvertSquares n c f inverse
      → (k size : ℕ) (basis : ℕ → ExpList c) (row : ExpList c → ℕ → V) → IsQuotient (exps c) r k g size basis row
      → IsQuotient (exps n) r k f size (λ i. place (exps n) (exps c) r (basis i))
      (λ a j. let b = (exps c).make ((exps n).at a) in cond (same (exps n) a (place (exps n) (exps c) r b)) (row b j) r.zero)
