-- The polynomial of a list of terms of the code.
use Rattle.std.specs.Prelude.{ℕ, List, map, get_or}
use Rattle.poly_law.specs.ExpList.{ExpList}
use Rattle.poly_law.specs.ExpList as lists
use Rattle.poly_law.specs.Polynomials.{Polynomial}
use Rattle.mono_exp.specs.declared.exponent.Exp.{Exp}

-- the exponents of the first n variables
abbrev pub exp_of : (n : ℕ) → Exp → ExpList n
exp_of n a = lists.exp_of n (λ i. get_or a.e i 0)

-- the polynomial of a list of terms, by the values of their coefficients
abbrev pub poly_of : {E V : Type 0} (n : ℕ) → (E → V) → List (Exp × E) → Polynomial n V
poly_of n value terms = map (λ t. (exp_of n t.0, value t.1)) terms
