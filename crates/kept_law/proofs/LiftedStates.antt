-- Substitution over the rational numbers and over an algebra: what lifted moves make of a lifted polynomial is what the moves make of it, lifted.
use mathlib.Core.Path.{fun_ext}
use Rattle.std.proofs.Common.{◌≡◌, ℕ, zero, suc, List, [], ◌∷◌, ◌++◌, map, refl, ap, ap₂, subst, ◌∙◌}
use Rattle.ring_theory.specs.Rational.{Rational, rational_ops}
use Rattle.ring_theory.specs.Height.{rational_scalars}
use Rattle.ext_algebra.specs.declared.algebra.Algebra.{Algebra}
use Rattle.ext_algebra.specs.declared.algebra.Algebra.TheVariants as algebras
use Rattle.ext_algebra.specs.Algebra.{ops, scalars}
use Rattle.ext_algebra.specs.AlgebraLaws.{algebra_scalar_laws}
use Rattle.poly_law.specs.Exps.{none, plus}
use Rattle.poly_law.specs.ExpList.{ExpList, exps}
use Rattle.poly_law.specs.Poly.{scale, times_term, monomial_of}
use Rattle.poly_law.specs.Polynomials.{Polynomial, StartsAtIn, poly_in, times_in, substitute}
use Rattle.poly_law.proofs.Hom.{IsHom, of_monomial}
use Rattle.jet_law.specs.Canonical.{jet}
use Rattle.coord_change.specs.Moves.{Move, put}
use Rattle.coord_change.specs.Carries.{carry}
use Rattle.move_law.specs.Algebras.{lifted, lifted_move}
use Rattle.chain_lift.proofs.LiftedElements.{jet-lifted, starts_at-lifted}
use Rattle.kept_law.specs.KeptParts.{HaveNoConstants}
use Rattle.kept_law.specs.PlanStates.{carried_jets, jets_at}

module _ (n : ℕ) (a : Algebra) where
  -- sums and products
  lifted_sum : (f g : Polynomial n Rational) → lifted a (f ++ g) ≡ lifted a f ++ lifted a g
  unfolding lifted
  lifted_sum [] g = refl
  lifted_sum (t ∷ f) g = ap (λ rest. (t.0, (scalars a).rational t.1) ∷ rest) (lifted_sum f g)

  lifted_times_term : (t : ExpList n × Rational) (f : Polynomial n Rational)
      → lifted a (times_term (exps n) rational_ops t f) ≡ times_term (exps n) (ops a) (t.0, (scalars a).rational t.1) (lifted a f)
  unfolding lifted
  lifted_times_term t [] = refl
  lifted_times_term t (u ∷ f) =
      ap₂ (λ v rest. (plus (exps n) t.0 u.0, v) ∷ rest) ((algebra_scalar_laws a).embeds.mul t.1 u.1) (lifted_times_term t f)

  lifted_times : (f g : Polynomial n Rational) → lifted a (times_in n rational_ops f g) ≡ times_in n (ops a) (lifted a f) (lifted a g)
  unfolding lifted
  lifted_times [] g = refl
  lifted_times (t ∷ f) g =
      lifted_sum (times_term (exps n) rational_ops t g) (times_in n rational_ops f g)
      ∙ ap₂ (λ x y. x ++ y) (lifted_times_term t g) (lifted_times f g)

  lifted_scale : (v : Rational) (f : Polynomial n Rational) → lifted a (scale (exps n) rational_ops v f) ≡ scale (exps n) (ops a) ((scalars a).rational v) (lifted a f)
  unfolding lifted
  lifted_scale v [] = refl
  lifted_scale v (t ∷ f) = ap₂ (λ x rest. (t.0, x) ∷ rest) ((algebra_scalar_laws a).embeds.mul v t.1) (lifted_scale v f)

  respects : IsHom (poly_in n rational_ops) (poly_in n (ops a)) (lifted a)
  unfolding lifted
  respects = record {
    of_zero = refl;
    of_one = ap (λ v. (none (exps n), v) ∷ []) (algebra_scalar_laws a).embeds.one;
    of_add = lifted_sum;
    of_mul = lifted_times;
  }

  lifted_substitute : (parts : ℕ → Polynomial n Rational) (f : Polynomial n Rational)
      → lifted a (substitute n n rational_ops parts f) ≡ substitute n n (ops a) (λ i. lifted a (parts i)) (lifted a f)
  unfolding lifted
  lifted_substitute parts [] = refl
  lifted_substitute parts (t ∷ f) =
      lifted_sum (scale (exps n) rational_ops t.1 (monomial_of (exps n) (exps n) rational_ops parts t.0)) (substitute n n rational_ops parts f)
      ∙ ap₂ (λ x y. x ++ y)
      (lifted_scale t.1 (monomial_of (exps n) (exps n) rational_ops parts t.0)
      ∙ ap (scale (exps n) (ops a) ((scalars a).rational t.1)) (of_monomial (poly_in n rational_ops) (poly_in n (ops a)) (lifted a) respects n parts ((exps n).at t.0)))
      (lifted_substitute parts f)

  -- what a lifted move puts for a variable
  put_lifted : (m : Move n Rational) (i : ℕ) → lifted a (put n rational_scalars m i) ≡ put n (scalars a) (lifted_move a m) i
  unfolding lifted lifted_move
  put_lifted [] i = refl
  put_lifted (p ∷ m) zero = refl
  put_lifted (p ∷ m) (suc i) = put_lifted m i

  carry_lifted : (k : ℕ) (m : Move n Rational) (f : Polynomial n Rational) → lifted a (carry n rational_scalars k m f) ≡ carry n (scalars a) k (lifted_move a m) (lifted a f)
  unfolding carry
  carry_lifted k m f =
      jet-lifted n a k (substitute n n rational_ops (put n rational_scalars m) f)
      ∙ ap (jet n (scalars a) k)
      (lifted_substitute (put n rational_scalars m) f ∙ ap (λ parts. substitute n n (ops a) parts (lifted a f)) (fun_ext λ i. put_lifted m i))

  jets_lifted : (k : ℕ) (ms : List (Move n Rational)) (f : Polynomial n Rational)
      → map (lifted a) (carried_jets n rational_scalars k ms f) ≡ carried_jets n (scalars a) k (map (lifted_move a) ms) (lifted a f)
  jets_lifted k [] f = refl
  jets_lifted k (m ∷ ms) f =
      ap (λ rest. lifted a f ∷ rest)
      (jets_lifted k ms (carry n rational_scalars k m f) ∙ ap (carried_jets n (scalars a) k (map (lifted_move a) ms)) (carry_lifted k m f))

  low_moves : (ms : List (Move n Rational)) → HaveNoConstants n rational_scalars ms → HaveNoConstants n (scalars a) (map (lifted_move a) ms)
  low_moves [] low = tt
  low_moves (m ∷ ms) low = (
    λ i inside. subst (λ f. StartsAtIn n (ops a) 1 f) (put_lifted m i) (starts_at-lifted n a 1 (put n rational_scalars m i) (low.0 i inside)),
    low_moves ms low.1,
  )

-- polynomials and moves over the rational numbers as an algebra
pub lifted_same : (n : ℕ) (f : Polynomial n Rational) → lifted algebras.Rational f ≡ f
unfolding lifted scalars
lifted_same n [] = refl
lifted_same n (t ∷ f) = ap (λ rest. t ∷ rest) (lifted_same n f)

move_same : (n : ℕ) (m : Move n Rational) → lifted_move algebras.Rational m ≡ m
unfolding lifted_move
move_same n [] = refl
move_same n (p ∷ m) = ap₂ (λ x rest. x ∷ rest) (lifted_same n p) (move_same n m)

pub moves_same : (n : ℕ) (ms : List (Move n Rational)) → map (lifted_move algebras.Rational) ms ≡ ms
moves_same n [] = refl
moves_same n (m ∷ ms) = ap₂ (λ x rest. x ∷ rest) (move_same n m) (moves_same n ms)

-- lifted moves have no constant terms where the moves have none
pub none_lifted : (n : ℕ) (a : Algebra) (ms : List (Move n Rational)) → HaveNoConstants n (scalars algebras.Rational) ms → HaveNoConstants n (scalars a) (map (lifted_move a) ms)
unfolding scalars
none_lifted n a ms low = low_moves n a ms low

-- the jets of a state over the rational numbers, lifted, are those by the lifted moves
pub states_lifted : (n c : ℕ) (germ : Polynomial n Rational) (a : Algebra) (o : ℕ) (moves : List (Move n Rational))
    → map (lifted a) (jets_at n c germ algebras.Rational o moves) ≡ jets_at n c germ a o (map (lifted_move a) moves)
unfolding scalars
states_lifted n c germ a o moves =
    ap (λ f. map (lifted a) (carried_jets n rational_scalars o moves (jet n rational_scalars o f))) (lifted_same n germ)
    ∙ jets_lifted n a o moves (jet n rational_scalars o germ)
    ∙ ap (carried_jets n (scalars a) o (map (lifted_move a) moves)) (jet-lifted n a o germ)
