-- Exponent vectors of monomials in a number of variables.
use Rattle.std.specs.Prelude.{◌≡◌, ℕ, zero, suc, ◌+◌, ◌-◌, ◌<◌, Bool, true, cond, ◌&&◌, eqb}

-- a type E of exponent vectors for variables 0, .., count - 1: `at a i` is the exponent of variable i in a, and
-- `make f` is the vector with the exponents f(0), .., f(count - 1)
pub record Exps (E : Type 0) : Type 0 where
  pub count : ℕ
  pub at : E → ℕ → ℕ
  pub make : (ℕ → ℕ) → E

-- `make f` has the exponents f, and two vectors with the same exponents are equal
pub record IsExps {E : Type 0} (x : Exps E) : Type 0 where
  pub at_make : (f : ℕ → ℕ) (i : ℕ) → i < x.count → x.at (x.make f) i ≡ f i
  pub same_at : (a b : E) → ((i : ℕ) → i < x.count → x.at a i ≡ x.at b i) → a ≡ b

-- whether p holds for 0, .., n - 1
abbrev pub all_to : ℕ → (ℕ → Bool) → Bool
all_to zero p = true
all_to (suc n) p = all_to n p && p n

-- the whole number w(0) + .. + w(n - 1)
abbrev pub nat_sum_to : ℕ → (ℕ → ℕ) → ℕ
nat_sum_to zero w = 0
nat_sum_to (suc n) w = nat_sum_to n w + w n

module _ {E : Type 0} (x : Exps E) where
  -- the product of two monomials: exponents a(i) + b(i)
  abbrev pub plus : E → E → E
  plus a b = x.make (λ i. x.at a i + x.at b i)

  -- the monomial 1: all exponents 0
  abbrev pub none : E
  none = x.make (λ i. 0)

  -- the exponents of a, but one less at variable j (0 stays 0)
  abbrev pub lower : ℕ → E → E
  lower j a = x.make (λ i. cond (eqb i j) (x.at a i - 1) (x.at a i))

  -- the monomial that is variable j: exponent 1 at j, and 0 elsewhere
  abbrev pub variable : ℕ → E
  variable j = x.make (λ i. cond (eqb i j) 1 0)

  -- whether a and b have the same exponents
  abbrev pub same : E → E → Bool
  same a b = all_to x.count (λ i. eqb (x.at a i) (x.at b i))

  -- the degree a(0) + .. + a(count - 1) of a monomial
  abbrev pub degree : E → ℕ
  degree a = nat_sum_to x.count (x.at a)
