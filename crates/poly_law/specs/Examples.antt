-- Worked examples of the definitions, in two variables x and y over the rational numbers.
use Rattle.std.specs.Prelude.{ℕ, ℤ, pos, negsuc, [], ◌∷◌, ◌++◌, get_or}
use Rattle.ring_theory.specs.Rational.{Rational, rational, rational_ops}
use Rattle.poly_law.specs.ExpList.{ExpList, exp_of, exps}
use Rattle.poly_law.specs.Poly.{MatherRows, MatherFails}
use Rattle.poly_law.specs.Polynomials.{Polynomial, SameIn, SameToIn, times_in, derivative_in, substitute}

-- the monomial x^a*y^b
abbrev pub monomial_xy : ℕ → ℕ → ExpList 2
monomial_xy a b = exp_of 2 (λ i. get_or (a ∷ b ∷ []) i 0)

-- the polynomial (n/d)*x^a*y^b
abbrev pub term_xy : ℤ → ℕ → ℕ → ℕ → Polynomial 2 Rational
term_xy n d a b = (monomial_xy a b, rational n d) ∷ []

-- (x + y)^2 = x^2 + 2*x*y + y^2
abbrev pub SquareOfSum : Type 0
SquareOfSum =
    let sum = term_xy (pos 1) 1 1 0 ++ term_xy (pos 1) 1 0 1 in
    SameIn 2 rational_ops (times_in 2 rational_ops sum sum) (term_xy (pos 1) 1 2 0 ++ term_xy (pos 2) 1 1 1 ++ term_xy (pos 1) 1 0 2)

-- the polynomial x^3 + x*y^3, the germ E7
abbrev pub e7 : Polynomial 2 Rational
e7 = term_xy (pos 1) 1 3 0 ++ term_xy (pos 1) 1 1 3

-- ∂e7/∂x = 3*x^2 + y^3 and ∂e7/∂y = 3*x*y^2
abbrev pub PartialsOfE7 : Type 0
PartialsOfE7 = SameIn 2 rational_ops (derivative_in 2 rational_ops 0 e7) (term_xy (pos 3) 1 2 0 ++ term_xy (pos 1) 1 0 3)
    × SameIn 2 rational_ops (derivative_in 2 rational_ops 1 e7) (term_xy (pos 3) 1 1 2)

-- the change of coordinates x = v - u^2, y = u, in the variables 0 (u) and 1 (v)
abbrev pub square_parts : ℕ → Polynomial 2 Rational
square_parts i = get_or ((term_xy (pos 1) 1 0 1 ++ term_xy (negsuc 0) 1 2 0) ∷ term_xy (pos 1) 1 1 0 ∷ []) i []

-- it completes the square of x^2 + 2*x*y^2 + y^5, which becomes v^2 - u^4 up to degree 4
abbrev pub SquareCompleted : Type 0
SquareCompleted = SameToIn 2 rational_ops 4 (substitute 2 2 rational_ops square_parts (term_xy (pos 1) 1 2 0 ++ term_xy (pos 2) 1 1 2 ++ term_xy (pos 1) 1 0 5))
    (term_xy (pos 1) 1 0 2 ++ term_xy (negsuc 0) 1 4 0)

-- the functional that is 1 on y^5 and -1/3 on x^2*y^2 shows that Mather's condition fails at 4 for e7
abbrev pub E7FailsAt4 : Type 0
E7FailsAt4 = MatherFails (exps 2) rational_ops 4 e7 (term_xy (negsuc 0) 3 2 2 ++ term_xy (pos 1) 1 0 5) (monomial_xy 0 5)

-- Mather's condition holds at 5 for e7
abbrev pub E7HoldsAt5 : Type 0
E7HoldsAt5 = MatherRows (exps 2) rational_ops 5 e7

-- and it does not hold at 4 or below
abbrev pub E7HasNoRowsAt4 : Type 0
E7HasNoRowsAt4 = MatherRows (exps 2) rational_ops 4 e7 → ⊥
