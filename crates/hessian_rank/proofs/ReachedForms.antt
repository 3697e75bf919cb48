-- The terms of degree 2 that the moves so far reach are those of f with these moves substituted.
use Rattle.std.proofs.Common.{◌≡◌, ℕ, ◌<◌, [], length, ap, sym, ◌∙◌, arith}
use Rattle.std.proofs.lemmas.List.{get_or-map, length-map}
use Rattle.ring_theory.specs.Scalars.{Scalars, ScalarLaws}
use Rattle.ring_theory.proofs.ValueSet.{values_are_set}
use Rattle.poly_law.specs.ExpList.{exps}
use Rattle.poly_law.specs.Poly.{coefficient, SameTo}
use Rattle.poly_law.specs.Polynomials.{Polynomial, substitute}
use Rattle.poly_law.proofs.ExpLists.{exps_are}
use Rattle.poly_law.proofs.Compose
use Rattle.poly_law.proofs.Near
use Rattle.poly_law.proofs.SubstOrder
use Rattle.mono_exp.specs.Exponents.{numbers_below}
use Rattle.mono_exp.proofs.Lists.{length-numbers_below, get_or-numbers_below}
use Rattle.jet_law.specs.Canonical.{jet}
use Rattle.germ_law.proofs.Canonical
use Rattle.coord_change.specs.Moves.{Move, put, identity, variable_of}
use Rattle.coord_change.specs.Carries.{carry, compose}
use Rattle.hessian_rank.specs.Sound.{IsLinear}
use Rattle.hessian_rank.proofs.SquareSteps

module _ {V : Type 0} (n : ℕ) (s : Scalars V) (laws : ScalarLaws s) where
  -- what a composite puts
  pub put_composed : (k : ℕ) (first next : Move n V) (i : ℕ) → i < length first → put n s (compose n s k first next) i ≡ carry n s k next (put n s first i)
  unfolding compose
  put_composed k first next i h = get_or-map (carry n s k next) first i [] [] h

  -- a composite puts as many polynomials as the first move
  pub length-composed : (k : ℕ) (first next : Move n V) → length (compose n s k first next) ≡ length first
  unfolding compose
  length-composed k first next = length-map first (carry n s k next)

  -- the identity puts each variable for itself
  pub put_identity : (i : ℕ) → i < n → put n s (identity n s) i ≡ variable_of n s i
  put_identity i h = get_or-map (variable_of n s) (numbers_below n) i 0 [] (let l = length-numbers_below n in omega arith) ∙ ap (variable_of n s) (get_or-numbers_below n i 0 h)

  -- carrying is substitution up to its degree
  carried_to : (k : ℕ) (move : Move n V) (f : Polynomial n V) → SameTo (exps n) s.ops k (carry n s k move f) (substitute n n s.ops (put n s move) f)
  unfolding carry
  carried_to k move f = Canonical.jet_same_to n s laws k (substitute n n s.ops (put n s move) f)

  -- the moves reach a form from f, up to degree 2
  pub record Reaches (f : Polynomial n V) (change : Move n V) (form : Polynomial n V) : Type 0 where
    pub long : length change ≡ n
    pub same : SameTo (exps n) s.ops 2 form (substitute n n s.ops (put n s change) f)

  -- the identity reaches the terms of degree 2 of f
  pub start_reaches : (f : Polynomial n V) → Reaches f (identity n s) (jet n s 2 f)
  start_reaches f = record {
    long = length-map (numbers_below n) (variable_of n s) ∙ length-numbers_below n;
    same = λ b h. Canonical.jet_same_to n s laws 2 f b h
        ∙ sym (Near.subst_variables (exps n) (exps_are n) s.ops laws.ring (values_are_set s laws) f b)
        ∙ SubstOrder.parts_same_to (exps n) (exps_are n) (exps n) (exps_are n) s.ops laws.ring (values_are_set s laws) 2 (variable_of n s) (put n s (identity n s))
        (λ i hi a g. ap (λ z. coefficient (exps n) s.ops z a) (sym (put_identity i hi))) f b h;
  }

  -- one linear move more
  pub step_reaches : (w : ℕ → ℕ → V) (move : Move n V) → IsLinear n s w move → (f : Polynomial n V) (change : Move n V) (form : Polynomial n V) → Reaches f change form
      → SameTo (exps n) s.ops 2 (carry n s 2 move form) (substitute n n s.ops (put n s (compose n s 16 change move)) f)
  step_reaches w move is f change form r b h =
      carried_to 2 move form b h
      ∙ SubstOrder.subst_same_to (exps n) (exps_are n) (exps n) (exps_are n) s.ops laws.ring (values_are_set s laws) (put n s move) (SquareSteps.no_constant n s laws w move is) 2 form (substitute n n s.ops (put n s change) f) r.same b h
      ∙ Compose.subst_twice (exps n) (exps_are n) (exps n) (exps_are n) (exps n) (exps_are n) s.ops laws.ring (values_are_set s laws) (put n s change) (put n s move) f b
      ∙ SubstOrder.parts_same_to (exps n) (exps_are n) (exps n) (exps_are n) s.ops laws.ring (values_are_set s laws) 2 (λ i. substitute n n s.ops (put n s move) (put n s change i)) (put n s (compose n s 16 change move))
      (λ i hi a g. sym (carried_to 16 move (put n s change i) a (omega arith)) ∙ ap (λ z. coefficient (exps n) s.ops z a) (sym (put_composed 16 change move i (let l = r.long in omega arith)))) f b h

  -- so the moves reach, one after the other
  pub moved_reaches : (w : ℕ → ℕ → V) (move : Move n V) → IsLinear n s w move → (f : Polynomial n V) (change : Move n V) (form : Polynomial n V) → Reaches f change form → Reaches f (compose n s 16 change move) (carry n s 2 move form)
  moved_reaches w move is f change form r = record { long = length-composed 16 change move ∙ r.long; same = step_reaches w move is f change form r }

  -- f carried by the whole is the form carried by the last move
  pub last_move : (w : ℕ → ℕ → V) (move : Move n V) → IsLinear n s w move → (f : Polynomial n V) (change : Move n V) (form : Polynomial n V) → Reaches f change form
      → SameTo (exps n) s.ops 2 (carry n s 2 (compose n s 16 change move) f) (carry n s 2 move form)
  last_move w move is f change form r b h = carried_to 2 (compose n s 16 change move) f b h ∙ sym (step_reaches w move is f change form r b h)
