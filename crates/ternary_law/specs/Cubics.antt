-- Ternary cubics: their coefficients, the rows of their partials, and the rows of the products of quadratic monomials with the partials.
use Rattle.std.specs.Prelude.{◌≡◌, ◌≢◌, ℕ, suc, ◌+◌, ◌<◌, ◌==◌, if◌then◌else◌, List, [], ◌∷◌, map, flat_map, zip, get_or}
use Rattle.std.specs.Str.{bytes_eq}
use Rattle.ring_theory.specs.Scalars.{Scalars, sum_of}
use Rattle.poly_law.specs.Polynomials.{Polynomial, derivative_in, term_in, times_in}
use Rattle.mono_exp.specs.Exponents.{monomials_of}
use Rattle.jet_law.specs.Canonical.{monomial_in, jet}
use Rattle.coord_change.specs.Moves.{at}
use Rattle.lin_row.specs.Lines.{EachOf}
use Rattle.ternary_law.specs.Linear.{IsKernelOf}
use Rattle.ternary_law.specs.Matrices.{places}

-- the ten monomials of degree 3 in the first three variables, in order
abbrev pub cubic_monomials : List (List ℕ)
cubic_monomials = monomials_of 3 3

-- the exponents of x^i y^j z^k
abbrev pub exponents3 : (i j k : ℕ) → List ℕ
exponents3 i j k = i ∷ j ∷ k ∷ []

module _ {V : Type 0} (s : Scalars V) where
  -- the cubic with these ten coefficients, as a jet
  unfoldable pub cubic_of : List V → Polynomial 3 V
  cubic_of c = jet 3 s 3 (map (λ p. (monomial_in 3 p.0, p.1)) (zip cubic_monomials c))

  -- the ten coefficients of the first three variables' cubic terms
  abbrev pub cubic_coefficients : (n : ℕ) → Polynomial n V → List V
  cubic_coefficients n f = map (at n s f) cubic_monomials

  -- the coefficient of x^i y^j z^k
  abbrev pub coef : Polynomial 3 V → (i j k : ℕ) → V
  coef f i j k = at 3 s f (exponents3 i j k)

  -- for each quadratic monomial the row of its coefficients in the three partials: a vector v is in the kernel of these rows
  -- exactly where v0*∂f/∂x + v1*∂f/∂y + v2*∂f/∂z = 0
  abbrev pub partial_rows : Polynomial 3 V → List (ℕ → V)
  partial_rows f = map (λ m i. at 3 s (derivative_in 3 s.ops i f) m) (monomials_of 3 2)

  -- the quartic monomial of column j
  abbrev pub quartic_at : ℕ → List ℕ
  quartic_at j = get_or (monomials_of 3 4) j []

  -- the row of a quartic form: its coefficients at the quartic monomials, in order
  abbrev pub quartic_row : Polynomial 3 V → ℕ → V
  quartic_row f j = at 3 s f (quartic_at j)

  -- the 18 products of quadratic monomials with the partials, monomial by monomial and within these by variable: the functionals on quartics that are 0 on
  -- the products are the vectors in the kernel of these rows
  abbrev pub product_rows : Polynomial 3 V → List (ℕ → V)
  product_rows f =
      flat_map (λ m. map (λ i. quartic_row (times_in 3 s.ops (term_in 3 s.ops (monomial_in 3 m)) (derivative_in 3 s.ops i f))) places) (monomials_of 3 2)

-- the place of a monomial in a list of monomials, and the length of the list where it is not there
abbrev pub place_in : List (List ℕ) → List ℕ → ℕ
place_in [] e = 0
place_in (m ∷ ms) e = if bytes_eq m e then 0 else suc (place_in ms e)

-- the exponents of a*b for a monomial a and the variable i
abbrev pub raised : List ℕ → ℕ → List ℕ
raised e i = map (λ k. get_or e k 0 + (if k == i then 1 else 0)) places

-- the value of a functional on quartics, by its values w at the columns, at the monomial e of degree 4
abbrev pub value_at : {V : Type 0} → (ℕ → V) → List ℕ → V
value_at w e = w (place_in (monomials_of 3 4) e)

module _ {V : Type 0} (s : Scalars V) (f : Polynomial 3 V) where
  -- w(l*m) = 0 for the linear form l = l0 x + l1 y + l2 z, each cubic monomial m and each functional w on quartics that is 0 on the products
  abbrev pub IsCommonLine : (ℕ → V) → Type 0
  IsCommonLine l =
      (w : ℕ → V) → IsKernelOf s.ops 15 (product_rows s f) w → EachOf (λ m. sum_of s.ops (map (λ i. s.ops.mul (l i) (value_at w (raised m i))) places) ≡ s.ops.zero) cubic_monomials

  -- these linear forms have dimension 1 and are spanned by l
  pub record SpansCommonLines (l : ℕ → V) : Type 0 where
    pub is_common : IsCommonLine l
    pub place : ℕ
    pub inside : place < 3
    pub other : l place ≢ s.ops.zero
    pub spans : (k : ℕ → V) → IsCommonLine k → (c : V) × ((i : ℕ) → i < 3 → k i ≡ s.ops.mul c (l i))

-- h is a multiple of c, coefficient by coefficient
abbrev pub IsMultiple : {V : Type 0} → Scalars V → List V → List V → Type 0
IsMultiple {V} s h c = (q : V) × (h ≡ map (s.ops.mul q) c)

-- the monomials of a jet in three variables are exactly these, in the monomial order
abbrev pub HasMonomials : {V : Type 0} → List (List ℕ) → Polynomial 3 V → Type 0
HasMonomials es f = map (λ t. t.0.entries) f ≡ es
