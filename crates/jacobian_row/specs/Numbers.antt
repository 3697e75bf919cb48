-- Polynomials as rows: the entry in a column is the coefficient at the monomial with that number.
use Rattle.std.specs.Prelude.{ℕ, suc, length}
use Rattle.ring_theory.specs.Ring.{RingOps}
use Rattle.poly_law.specs.Sums.{total, unit_at}
use Rattle.poly_law.specs.ExpList.{ExpList}
use Rattle.poly_law.specs.Polynomials.{Polynomial}
use Rattle.mono_exp.specs.Exponents.{monomials_below, rank_of}

-- the number of a monomial in n variables: how many stand before it
abbrev pub number : (n : ℕ) → ExpList n → ℕ
number n a = rank_of n a.entries

-- how many monomials in n variables have degree at most k
abbrev pub count_to : ℕ → ℕ → ℕ
count_to n k = length (monomials_below n (suc k))

-- the row of a polynomial at values w of the columns: the sum of v * w(number of a) over its terms v*a
abbrev pub form_of : {V : Type 0} (n : ℕ) → RingOps V → Polynomial n V → (ℕ → V) → V
form_of n r f w = total r (λ t. r.mul t.1 (w (number n t.0))) f

-- the entries of that row
abbrev pub entries_of : {V : Type 0} (n : ℕ) → RingOps V → Polynomial n V → ℕ → V
entries_of n r f d = form_of n r f (unit_at r d)
