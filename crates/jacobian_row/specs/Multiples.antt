-- The multiples x^a * ∂g/∂x(i) of the partials of a polynomial g, by their factors a and their variables i.
use Rattle.std.specs.Prelude.{◌≡◌, ℕ, suc, List, length, map, flat_map, filter, All, leb, sum}
use Rattle.ring_theory.specs.Ring.{RingOps}
use Rattle.poly_law.specs.ExpList.{ExpList}
use Rattle.poly_law.specs.Polynomials.{Polynomial, term_in, times_in, derivative_in, cut_in}
use Rattle.mono_exp.specs.Exponents.{IsIn, exponents, monomials_below, numbers_below}
use Rattle.jacobian_row.specs.declared.multiple.Multiple.{Multiple}

-- all monomials in n variables of degree low to high, in the monomial order
unfoldable pub monomials_between : ℕ → ℕ → ℕ → List (List ℕ)
monomials_between n low high = filter (λ a. leb low (sum a)) (monomials_below n (suc high))

-- the pairs of a monomial of these degrees and a variable: monomial by monomial in the order, and within these variable by variable
abbrev pub pairs_between : ℕ → ℕ → ℕ → List (List ℕ × ℕ)
pairs_between n low high = flat_map (λ a. map (λ i. (a, i)) (numbers_below n)) (monomials_between n low high)

-- the pair of a multiple
abbrev pub pair_of : ℕ → Multiple → List ℕ × ℕ
pair_of n u = (exponents n u.factor.e, u.variable)

-- the multiples by all monomials of degree low to high, in order
pub record AreMultiples (n low high : ℕ) (multiples : List Multiple) : Type 0 where
  pub list : map (pair_of n) multiples ≡ pairs_between n low high
  pub unused : All (λ u. IsIn n u.factor.e) multiples
  pub long : All (λ u. length u.factor.e ≡ 8) multiples

-- x^a * f cut at k
abbrev pub product_to : {V : Type 0} (n : ℕ) → RingOps V → ℕ → ExpList n → Polynomial n V → Polynomial n V
product_to n r k a f = cut_in n r k (times_in n r (term_in n r a) f)

-- x^a * ∂g/∂x(i) cut at k
abbrev pub multiple_to : {V : Type 0} (n : ℕ) → RingOps V → ℕ → Polynomial n V → ExpList n → ℕ → Polynomial n V
multiple_to n r k g a i = product_to n r k a (derivative_in n r i g)
