-- Moves over the rational numbers, by their first matrix and the steps after it.
use Rattle.std.proofs.Common.{◌≡◌, ◌≢◌, ℕ, suc, ◌<◌, inl, inr, flat_map, Option, Some, None, Result, Ok, Err, List, [], ◌∷◌, ◌++◌, map, length, get_or, refl, sym, ap, ap₂, ◌∙◌, arith}
use Rattle.std.specs.List.{slice_get}
use Rattle.std.proofs.lemmas.List.{get_or-map}
use Rattle.std.proofs.lemmas.Option.{get_or_from_slice_get}
use Rattle.std.specs.Prelude.{IfOk}
use Rattle.ring_law.specs.declared.fraction.Fault.{Fault}
use Rattle.ring_theory.specs.Height.{rational_scalars}
use Rattle.ring_theory.specs.Rational.{Rational, rational_ops}
use Rattle.ring_theory.proofs.RationalLaws.{rational_scalar_laws}
use Rattle.ring_law.specs.Fraction.{frac_value, rational_meaning}
use Rattle.ring_law.specs.declared.fraction.Frac.{Frac}
use Rattle.poly_law.specs.Polynomials.{Polynomial}
use Rattle.lin_row.specs.Lines.{EachOf}
use Rattle.lin_row.specs.Plain.{Among}
use Rattle.mono_exp.specs.Exponents.{exponents}
use Rattle.mono_exp.specs.declared.exponent.Exp.{Exp}
use Rattle.jet_law.specs.Terms.{poly_of}
use Rattle.coord_change.specs.declared.change.Change.{Change}
use Rattle.move_law.specs.Work as work
use Rattle.move_law.specs.Work.{Work, IsWorkHigh}
use Rattle.move_law.specs.Shapes.{over_work}
use Rattle.ternary_law.specs.Steps.{axis_matrix, last_place}
use Rattle.ternary_law.specs.Rules.{axis_step}
use Rattle.ternary_law.specs.Matrices.{Matrix, places, linear_move, moved}
use Rattle.ternary_law.specs.Routes.{Step, fixed, matrix_after, divisors, work_after, AreStepsHigh}
use Rattle.tern_cubic.specs.declared.moving.Moving.{Moving}
use Rattle.tern_cubic.specs.Moving.{AfterSteps, beginning_work}
use Rattle.tern_cubic.specs.Reaching.{IsReachedBy, IsRationalMove}
use Rattle.tern_cubic.proofs.MovingLemmas
use Rattle.tern_cubic.proofs.SteppingLemmas.{among_first, among_last, each_last, each_both}

-- the monomials of a list of terms, by their exponents
pub monomials_are : {E V : Type 0} (value : E → V) (ts : List (Exp × E)) → map (λ t. t.0.entries) (poly_of 3 value ts) ≡ map (λ t. exponents 3 t.0.e) ts
monomials_are value [] = refl
monomials_are value (t ∷ ts) = ap (λ es. exponents 3 t.0.e ∷ es) (monomials_are value ts)

module _ (g : Polynomial 3 Rational) (a : Matrix Rational) (steps : List (Step Rational)) (monomials : List (List ℕ)) where
  -- the steps are made, and the monomials are those
  pub is_reached : (w : Moving Frac) → AfterSteps rational_meaning steps a (moved rational_scalars a g) (Some w)
      → map (λ t. exponents 3 t.0.e) w.form.terms ≡ monomials → IsReachedBy g a steps monomials (Some w.change)
  is_reached w h e = (h.0.change, h.1, ap (map (λ t. t.0.entries)) (sym h.0.form.polynomial) ∙ monomials_are frac_value w.form.terms ∙ e)

  -- they are others
  pub is_missed : (w : Moving Frac) → AfterSteps rational_meaning steps a (moved rational_scalars a g) (Some w)
      → (map (λ t. exponents 3 t.0.e) w.form.terms ≡ monomials → ⊥) → IsReachedBy g a steps monomials None
  is_missed w h other divisors e = absurd (other (sym (ap (map (λ t. t.0.entries)) (sym h.0.form.polynomial) ∙ monomials_are frac_value w.form.terms) ∙ e))

  -- a matrix is singular or a divisor zero
  pub is_stopped : AfterSteps rational_meaning steps a (moved rational_scalars a g) None → IsReachedBy g a steps monomials None
  is_stopped h divisors e = h divisors

  -- the rule whose first step has this matrix
  module _ (ds : List Rational) (ws : List (Work 3 Rational)) where
    abbrev all_steps : List (Step Rational)
    all_steps = fixed rational_scalars a ds ws ∷ steps

    -- its divisors are not zero
    pub is_move : EachOf (λ d. d ≢ rational_ops.zero) ds → (r : Option (Change Frac)) → IsReachedBy g a steps monomials r → IsRationalMove g all_steps monomials r
    is_move possible (Some c) h = (
      h.0,
      record {
        passable = record {
          divisors = each_both (λ d. d ≢ rational_ops.zero) ds (divisors rational_scalars steps (moved rational_scalars a g)) possible h.1;
          invertible = MovingLemmas.are_inverse rational_meaning rational_scalar_laws (matrix_after rational_scalars a steps (moved rational_scalars a g)) c h.0;
        };
        form = h.2;
      },
    )
    is_move possible None h = λ inverse r.
        h (each_last (λ d. d ≢ rational_ops.zero) ds (divisors rational_scalars steps (moved rational_scalars a g)) r.passable.divisors) r.form inverse r.passable.invertible.right

    abbrev AreHigh : List (Work 3 Rational) → Type 0
    AreHigh = Among (IsWorkHigh 3 rational_scalars)

    -- its operations: those of its first step, and those of the others
    abbrev first_work : List (Work 3 Rational)
    first_work = ws ++ (work.inverted (linear_move 3 rational_scalars a) ∷ [])

    abbrev carried_work : List (Work 3 Rational)
    carried_work = work.carried 3 (linear_move 3 rational_scalars a) g ∷ []

    abbrev other_work : List (Work 3 Rational)
    other_work = work_after rational_scalars a steps (moved rational_scalars a g)

    pub first_high : AreHigh ws → AreStepsHigh g all_steps
    first_high h = among_first (IsWorkHigh 3 rational_scalars) (first_work ++ carried_work) other_work
        (among_first (IsWorkHigh 3 rational_scalars) first_work carried_work (among_first (IsWorkHigh 3 rational_scalars) ws (work.inverted (linear_move 3 rational_scalars a) ∷ []) h))

    pub steps_high : AreHigh (beginning_work rational_scalars a g ++ other_work) → AreStepsHigh g all_steps
    steps_high (inl h) = among_first (IsWorkHigh 3 rational_scalars) (first_work ++ carried_work) other_work
        (among_first (IsWorkHigh 3 rational_scalars) first_work carried_work (among_last (IsWorkHigh 3 rational_scalars) ws (work.inverted (linear_move 3 rational_scalars a) ∷ []) (inl h)))
    steps_high (inr (inl h)) = among_first (IsWorkHigh 3 rational_scalars) (first_work ++ carried_work) other_work (among_last (IsWorkHigh 3 rational_scalars) first_work carried_work (inl h))
    steps_high (inr (inr h)) = among_last (IsWorkHigh 3 rational_scalars) (first_work ++ carried_work) other_work h

-- the rules that begin with the axis rule for the vector v
module _ (g : Polynomial 3 Rational) (p : ℕ) (v : ℕ → Rational) (steps : List (Step Rational)) where
  abbrev first_matrix : Matrix Rational
  first_matrix = axis_matrix rational_scalars p v

  abbrev divisor : Rational
  divisor = v (last_place rational_scalars v)

  abbrev quotients : List (Work 3 Rational)
  quotients = flat_map (λ i. over_work rational_scalars 3 (v i) divisor) places

  pub axis_move : (monomials : List (List ℕ)) → divisor ≢ rational_ops.zero → (r : Option (Change Frac)) → IsReachedBy g first_matrix steps monomials r → IsRationalMove g (axis_step rational_scalars p v ∷ steps) monomials r
  axis_move monomials other r h = is_move g first_matrix steps monomials (divisor ∷ []) quotients (other, tt) r h

  pub axis_answer : (monomials : List (List ℕ)) → divisor ≢ rational_ops.zero → (r : Result (Option (Change Frac)) Fault) → IfOk r (IsReachedBy g first_matrix steps monomials)
      → IfOk r (IsRationalMove g (axis_step rational_scalars p v ∷ steps) monomials)
  axis_answer monomials other (Ok r) h = axis_move monomials other r h
  axis_answer monomials other (Err e) h = tt

  pub axis_first_high : Among (IsWorkHigh 3 rational_scalars) quotients → AreStepsHigh g (axis_step rational_scalars p v ∷ steps)
  axis_first_high h = first_high g first_matrix steps [] (divisor ∷ []) quotients h

  pub axis_steps_high : Among (IsWorkHigh 3 rational_scalars) (beginning_work rational_scalars first_matrix g ++ work_after rational_scalars first_matrix steps (moved rational_scalars first_matrix g))
      → AreStepsHigh g (axis_step rational_scalars p v ∷ steps)
  axis_steps_high h = steps_high g first_matrix steps [] (divisor ∷ []) quotients h

-- ---- lists of exponents

-- lists of one length that agree at each place
pub same_exponents : (xs ys : List (List ℕ)) → length xs ≡ length ys → ((k : ℕ) → k < length ys → get_or xs k [] ≡ get_or ys k []) → xs ≡ ys
same_exponents [] [] e h = refl
same_exponents [] (y ∷ ys) e h = absurd (omega (arith, e))
same_exponents (x ∷ xs) [] e h = absurd (omega (arith, e))
same_exponents (x ∷ xs) (y ∷ ys) e h = ap₂ (λ z zs. z ∷ zs) (h 0 (omega arith)) (same_exponents xs ys (omega (arith, e)) (λ k l. h (suc k) (omega arith)))

-- the exponents of a term
pub exponents_at : {E : Type 0} (ts : List (Exp × E)) (i : ℕ) (t : Exp × E) → slice_get ts i ≡ Some t → i < length ts → get_or (map (λ t. exponents 3 t.0.e) ts) i [] ≡ exponents 3 t.0.e
exponents_at ts i t e h = get_or-map (λ t. exponents 3 t.0.e) ts i t [] h ∙ ap (λ t. exponents 3 t.0.e) (get_or_from_slice_get ts i t t e)
