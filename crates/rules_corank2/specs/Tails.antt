-- The two moves of the tail of J, and their operations.
use Rattle.std.specs.Prelude.{ℕ, ◌⊎◌, List, [], ◌∷◌}
use Rattle.ring_theory.specs.Scalars.{Scalars, Meaning}
use Rattle.poly_law.specs.Polynomials.{Polynomial}
use Rattle.coord_change.specs.Moves.{at}
use Rattle.move_law.specs.Moves.{whole, over}
use Rattle.move_law.specs.Patterns.{two}
use Rattle.move_law.specs.Shapes.{over_work}
use Rattle.move_law.specs.Finish.{Finishing, with_move, triple_root_move, triple_root_work, twice, thrice, tail_move}
use Rattle.move_law.specs.Work as work
use Rattle.move_law.specs.Work.{Work}
use Rattle.split_lemma.specs.Splits.{AnyHigh}
use Rattle.rules_corank2.specs.declared.finish_state.Finishing as code
use Rattle.rules_corank2.specs.Following.{IsMovingHigh}

module _ {V : Type 0} (n : ℕ) (s : Scalars V) where
  -- 2 p, with p the coefficient of x y^4
  abbrev pub double_root : Polynomial n V → V
  double_root f = s.ops.mul (whole s 2) (at n s f (two 1 4))

  -- 3 q/(2 p), with q the coefficient of y^6
  abbrev pub root_shift : Polynomial n V → V
  root_shift f = over s (s.ops.mul (whole s 3) (at n s f (two 0 6))) (double_root f)

  -- the first move: x goes to x - 3 q/(2 p) y^2
  abbrev pub by_root : ℕ → Finishing n V → Finishing n V
  by_root o g = with_move n s o (triple_root_work n s o g.form) (triple_root_move n s o g.form) g

  -- 2 b r c
  abbrev pub tail_divided : (b c : V) → ℕ → V
  tail_divided b c r = s.ops.mul (s.ops.mul (twice n s 0 b) (whole s r)) c

  -- the operations of e/(2 b r c)
  abbrev pub factor_work : (b c e : V) → ℕ → List (Work n V)
  factor_work b c e r = work.product (whole s 2) b ∷ work.product (twice n s 0 b) (whole s r) ∷ work.product (s.ops.mul (twice n s 0 b) (whole s r)) c ∷ over_work s n e (tail_divided b c r)

  -- those of the coefficients of the second move
  abbrev pub tail_products : (a b v : V) → List (Work n V)
  tail_products a b v = work.product (twice n s 0 b) v ∷ work.product (whole s 3) a ∷ work.product v (thrice n s 0 a) ∷ work.product v (twice n s 0 b) ∷ []

-- making the second move forms a number of height at least 2^120: 2 b, or a product of its coefficients, or making the move
abbrev pub IsTailMoveHigh : {E V : Type 0} (m : Meaning E V) → code.Finishing E → (a b v : V) → Type 0
IsTailMoveHigh m state a b v =
    AnyHigh state.form.n m.scalars (work.product (whole m.scalars 2) b ∷ tail_products state.form.n m.scalars a b v)
    ⊎ IsMovingHigh m state (tail_move state.form.n m.scalars state.form.order a b v)
