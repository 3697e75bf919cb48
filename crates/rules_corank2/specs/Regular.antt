-- What the finish of a base part divides by, and that none of it is zero.
use Rattle.std.specs.Prelude.{◌≡◌, ◌≢◌, ℕ, ◌+◌, ◌≤◌, true, false, Some, []}
use Rattle.ring_theory.specs.Scalars.{Scalars}
use Rattle.poly_law.specs.Polynomials.{Polynomial}
use Rattle.coord_change.specs.Moves.{at}
use Rattle.kill_law.specs.declared.part.Part.{Part}
use Rattle.kill_law.specs.declared.part.Part.TheVariants as parts
use Rattle.normal_forms.specs.Units.{triple_discriminant}
use Rattle.move_law.specs.Patterns.{two}
use Rattle.move_law.specs.Finish.{Choice, choices, begin_finish, with_move, graded_kill, least, triple_coefficients, tail_factor, tail_move}
use Rattle.rules_corank2.specs.Finishes.{IsGradedKillRegular}
use Rattle.rules_corank2.specs.Finished.{deciding}
use Rattle.rules_corank2.specs.Tails.{double_root, tail_divided, by_root}

module _ {V : Type 0} (n : ℕ) (s : Scalars V) (o : ℕ) where
  -- ---- T(2,3,r)

  -- the jet after the double root has gone to 0, and after the graded kill that follows
  abbrev pub rooted : Polynomial n V → Polynomial n V
  rooted f = (by_root n s o (begin_finish n s o f)).form

  abbrev pub root_killed : Polynomial n V → Polynomial n V
  root_killed f = (graded_kill n s o parts.JT (begin_finish n s o (rooted f))).form

  -- what the coefficient e of y^(r+1) is divided by: 2 b r c, with b and c the coefficients of x^2 y^2 and y^r
  abbrev pub tail_divisor : ℕ → Polynomial n V → V
  tail_divisor r f = tail_divided n s (at n s f (two 2 2)) (at n s f (two 0 r)) r

  -- the jet after the second move of the tail
  abbrev pub tail_moved : ℕ → Polynomial n V → Polynomial n V
  tail_moved r f =
      let b = at n s f (two 2 2) in
      let v = tail_factor n s o b (at n s f (two 0 r)) (at n s f (two 0 (r + 1))) r in
      (with_move n s o [] (tail_move n s o (at n s f (two 3 0)) b v) (begin_finish n s o f)).form

  -- nothing that the second move of the tail and its graded kill divide by is zero, where there is such a move
  pub record IsSecondRegular (r : ℕ) (f : Polynomial n V) : Type 0 where
    pub divisor : r + 1 ≤ o → at n s f (two 0 (r + 1)) ≢ s.ops.zero → tail_divisor r f ≢ s.ops.zero
    pub killed : r + 1 ≤ o → at n s f (two 0 (r + 1)) ≢ s.ops.zero → IsGradedKillRegular n s o parts.JT (tail_moved r f)

  -- nothing that the tail of J divides by is zero
  pub record IsTailRegular (f : Polynomial n V) : Type 0 where
    pub root : double_root n s f ≢ s.ops.zero
    pub killed : IsGradedKillRegular n s o parts.JT (rooted f)
    pub second : (r : ℕ) → least n s o 1 (root_killed f) ≡ Some r → IsSecondRegular r (root_killed f)

  -- nor what the finish of a graded part does: of J10 the tail where its discriminant is 0
  pub record IsGradedRegular (p : Part) (f : Polynomial n V) : Type 0 where
    pub plain : (p ≡ parts.J10 → s.is_zero (triple_discriminant s (triple_coefficients n s o f)) ≡ false) → IsGradedKillRegular n s o p f
    pub tail : p ≡ parts.J10 → s.is_zero (triple_discriminant s (triple_coefficients n s o f)) ≡ true → IsTailRegular f

  -- ---- the parts

  -- nothing that the finish of the part of the first choice whose monomial is there divides by is zero
  abbrev pub IsChosenRegular : Part → Polynomial n V → Type 0
  IsChosenRegular p f = (ch : Choice) → deciding n s (choices p) f ≡ Some ch → IsGradedRegular ch.part f
