-- Moves: changes of coordinates by what is put for each variable.
use Rattle.std.specs.Prelude.{ℕ, ◌==◌, if◌then◌else◌, List, [], ◌∷◌, map, get_or}
use Rattle.ring_theory.specs.Scalars.{Scalars, Meaning}
use Rattle.poly_law.specs.Exps.{variable}
use Rattle.poly_law.specs.ExpList.{exps}
use Rattle.poly_law.specs.Polynomials.{Polynomial, coefficient_in}
use Rattle.mono_exp.specs.Exponents.{numbers_below}
use Rattle.jet_law.specs.Terms.{poly_of}
use Rattle.jet_law.specs.Canonical.{monomial_in}
use Rattle.coord_change.specs.declared.change.Change.{Change}

-- a change of coordinates: what is put for each of the n variables, in order
abbrev pub Move : ℕ → Type 0 → Type 0
Move n V = List (Polynomial n V)

-- the move of a change of the program: the polynomials of its parts
abbrev pub move_from : {E V : Type 0} → Meaning E V → (n : ℕ) → Change E → Move n V
move_from m n c = map (λ p. poly_of n m.value p.terms) c.parts

module _ {V : Type 0} (n : ℕ) (s : Scalars V) where
  -- the coefficient of f at the monomial with these exponents
  abbrev pub at : Polynomial n V → List ℕ → V
  at f e = coefficient_in n s.ops f (monomial_in n e)

  -- the variable i
  abbrev pub variable_of : ℕ → Polynomial n V
  variable_of i = (variable (exps n) i, s.ops.one) ∷ []

  -- what a move puts for variable i
  abbrev pub put : Move n V → ℕ → Polynomial n V
  put move i = get_or move i []

  -- the first polynomial that a list of pairs has for variable i, else the variable itself
  abbrev assigned : List (ℕ × Polynomial n V) → ℕ → Polynomial n V
  assigned [] i = variable_of i
  assigned (p ∷ ps) i = if p.0 == i then p.1 else assigned ps i

  -- the move that puts these polynomials for these variables, while all others stay
  unfoldable pub move_of : List (ℕ × Polynomial n V) → Move n V
  move_of ps = map (assigned ps) (numbers_below n)

  -- the move that puts each variable for itself
  abbrev pub identity : Move n V
  identity = map variable_of (numbers_below n)

  -- the linear part of a move: the coefficient of variable j in what is put for variable i
  abbrev pub linear_part : Move n V → ℕ → ℕ → V
  linear_part move i j = coefficient_in n s.ops (put move i) (variable (exps n) j)
