-- What stays true of the open and the closed variables, and linear moves by their matrices.
use Rattle.std.specs.Prelude.{◌≡◌, ◌≢◌, ℕ, ◌+◌, ◌<◌, ◌⊎◌, List, [], ◌∷◌, length}
use Rattle.ring_theory.specs.Scalars.{Scalars}
use Rattle.poly_law.specs.Exps.{variable}
use Rattle.poly_law.specs.ExpList.{exps}
use Rattle.poly_law.specs.Poly.{coefficient, derivative, StartsAt}
use Rattle.poly_law.specs.Polynomials.{Polynomial, SameIn}
use Rattle.mono_exp.proofs.Lists.{Each}
use Rattle.lin_row.specs.Plain.{Among}
use Rattle.coord_change.specs.Linear.{linear_form}
use Rattle.coord_change.specs.Moves.{Move, put}
use Rattle.move_law.specs.Hessian.{Squares}

-- i is among the numbers of a list
abbrev pub Has : List ℕ → ℕ → Type 0
Has xs i = Among (λ j. j ≡ i) xs

-- no number stands twice
abbrev pub Distinct : List ℕ → Type 0
Distinct [] = Unit {0}
Distinct (x ∷ xs) = Each (λ y. x ≢ y) xs × Distinct xs

-- what a move puts for each variable is the linear form with a row of w as coefficients
pub record IsLinear {V : Type 0} (n : ℕ) (s : Scalars V) (w : ℕ → ℕ → V) (move : Move n V) : Type 0 where
  pub long : length move ≡ n
  pub forms : (a : ℕ) → a < n → SameIn n s.ops (put n s move a) (linear_form n s.ops (w a))

-- the second partial at 0
abbrev pub partial : {V : Type 0} (n : ℕ) → Scalars V → Polynomial n V → ℕ → ℕ → V
partial n s f i j = coefficient (exps n) s.ops (derivative (exps n) s.ops i f) (variable (exps n) j)

-- each variable is open or closed, and a closed one stands in the terms of degree 2 by its square alone
pub record IsSound {V : Type 0} (n : ℕ) (s : Scalars V) (q : Squares n V) : Type 0 where
  pub opened_inside : Each (λ i. i < n) q.opened
  pub closed_inside : Each (λ i. i < n) q.closed
  pub opened_distinct : Distinct q.opened
  pub closed_distinct : Distinct q.closed
  pub apart : (i : ℕ) → Has q.opened i → Has q.closed i → ⊥
  pub covers : (i : ℕ) → i < n → Has q.opened i ⊎ Has q.closed i
  pub count : length q.opened + length q.closed ≡ n
  pub low : StartsAt (exps n) s.ops 2 q.form
  pub products : (i j : ℕ) → Has q.closed i → j < n → i ≢ j → partial n s q.form i j ≡ s.ops.zero
  pub squares : (i : ℕ) → Has q.closed i → partial n s q.form i i ≢ s.ops.zero
