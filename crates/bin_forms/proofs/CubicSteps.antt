-- The cases of the shape of a cubic, and of its operations.
use Rattle.std.proofs.Common.{◌≡◌, ℕ, ◌<◌, Bool, true, false, inl, inr, List, [], ◌∷◌, map, length, get_or, sym, ap, ap₂, subst, ◌∙◌}
use Rattle.std.specs.Bool.{if◌then◌else◌}
use Rattle.std.specs.List.{list_all}
use Rattle.std.proofs.lemmas.List.{length-map}
use Rattle.lin_row.specs.Plain.{Among}
use Rattle.ring_theory.specs.Scalars.{Scalars, Meaning, ScalarLaws, HasInverses}
use Rattle.ring_formula.proofs.Steps.{letter_is}
use Rattle.move_law.specs.declared.covariant.TheConstants.{CUBIC_H0, CUBIC_H1, CUBIC_H2, CUBIC_TEST}
use Rattle.move_law.specs.Work as work
use Rattle.move_law.specs.Work.{Work}
use Rattle.move_law.specs.Shapes.{CubicShape, zero_cubic, cube, double, distinct, cubic_shape, cubic_hessian, cubic_test, cubic_work, power_line, power_line_work, nth}
use Rattle.bin_forms.specs.declared.cubic.Cubic.{Cubic}
use Rattle.bin_forms.specs.Shapes.{IsCubicAnswer, IsCubicOf, IsCubicOver, cubic_value}
use Rattle.bin_forms.proofs.CubicShapes.{cubic_is}

-- an entry of a list of elements whose values are known
pub entry_of : {E V : Type 0} (s : Scalars V) (value : E → V) (h : List E) (ys : List V) (i : ℕ) (x : E) → map value h ≡ ys → i < length ys → x ≡ get_or h i x → value x ≡ nth s ys i
entry_of s value h ys i x e within is =
    letter_is s value h i x (subst (λ k. i < k) (sym (sym (length-map h value) ∙ ap length e)) within) is ∙ ap (λ z. nth s z i) e

-- the answer is right where it is the plan's shape
pub answered : {E V : Type 0} (m : Meaning E V) → ScalarLaws m.scalars → HasInverses m.scalars → (c : List E) → length c ≡ 4 → (t : Cubic E) → IsCubicOver m.is_elem t
    → cubic_value m.value t ≡ cubic_shape m.scalars (map m.value c) → IsCubicAnswer m c t
answered m laws inverts c four t elems shape = record {
  elems = elems;
  shape = shape;
  says = subst (IsCubicOf m.scalars (map m.value c)) (sym shape) (cubic_is m.scalars laws inverts (map m.value c) (length-map c m.value ∙ four));
}

-- the operations of a line, by equal coefficients
pub line_work_at : {V : Type 0} (s : Scalars V) (P : Work 2 V → Type 0) (k : ℕ) {x x' y y' : V} → x ≡ x' → y ≡ y' → Among P (power_line_work s 2 k x y) → Among P (power_line_work s 2 k x' y')
line_work_at s P k ex ey h = subst (Among P) (ap₂ (power_line_work s 2 k) ex ey) h

module _ {V : Type 0} (s : Scalars V) (f : List V) where
  abbrev h : List V
  h = cubic_hessian s f

  abbrev by_test : Bool → CubicShape V
  by_test t = if t then double (power_line s 2 (nth s h 0) (nth s h 1)) else distinct

  abbrev by_hessian : Bool → CubicShape V
  by_hessian t = if t then cube (power_line s 3 (nth s f 0) (nth s f 1)) else by_test (s.is_zero (cubic_test s f))

  abbrev by_form : Bool → CubicShape V
  by_form t = if t then zero_cubic else by_hessian (list_all s.is_zero h)

  pub zero_shape : true ≡ list_all s.is_zero f → zero_cubic ≡ cubic_shape s f
  unfolding cubic_shape
  zero_shape e = ap by_form e

  pub cube_shape : false ≡ list_all s.is_zero f → true ≡ list_all s.is_zero h → cube (power_line s 3 (nth s f 0) (nth s f 1)) ≡ cubic_shape s f
  unfolding cubic_shape
  cube_shape e k = ap by_hessian k ∙ ap by_form e

  pub double_shape : false ≡ list_all s.is_zero f → false ≡ list_all s.is_zero h → true ≡ s.is_zero (cubic_test s f) → double (power_line s 2 (nth s h 0) (nth s h 1)) ≡ cubic_shape s f
  unfolding cubic_shape
  double_shape e k l = ap by_test l ∙ ap by_hessian k ∙ ap by_form e

  pub distinct_shape : false ≡ list_all s.is_zero f → false ≡ list_all s.is_zero h → false ≡ s.is_zero (cubic_test s f) → distinct ≡ cubic_shape s f
  unfolding cubic_shape
  distinct_shape e k l = ap by_test l ∙ ap by_hessian k ∙ ap by_form e

  -- ---- the operations

  module _ (P : Work 2 V → Type 0) where
    abbrev test_work : Bool → List (Work 2 V)
    test_work t = if t then power_line_work s 2 2 (nth s h 0) (nth s h 1) else []

    abbrev hessian_work : Bool → List (Work 2 V)
    hessian_work t = if t then power_line_work s 2 3 (nth s f 0) (nth s f 1) else (work.formula h CUBIC_TEST ∷ test_work (s.is_zero (cubic_test s f)))

    abbrev form_work : Bool → List (Work 2 V)
    form_work t = if t then [] else (work.formula f CUBIC_H0 ∷ work.formula f CUBIC_H1 ∷ work.formula f CUBIC_H2 ∷ hessian_work (list_all s.is_zero h))

    in_work : false ≡ list_all s.is_zero f → Among P (form_work false) → Among P (cubic_work s 2 f)
    unfolding cubic_work
    in_work e k = subst (λ t. Among P (form_work t)) e k

    pub hessian_high : false ≡ list_all s.is_zero f → Among P (work.formula f CUBIC_H0 ∷ work.formula f CUBIC_H1 ∷ work.formula f CUBIC_H2 ∷ []) → Among P (cubic_work s 2 f)
    hessian_high e k = in_work e (step k)
      where
        step : Among P (work.formula f CUBIC_H0 ∷ work.formula f CUBIC_H1 ∷ work.formula f CUBIC_H2 ∷ []) → Among P (form_work false)
        step (inl x) = inl x
        step (inr (inl x)) = inr (inl x)
        step (inr (inr (inl x))) = inr (inr (inl x))
        step (inr (inr (inr x))) = absurd x

    pub cube_high : false ≡ list_all s.is_zero f → true ≡ list_all s.is_zero h → Among P (power_line_work s 2 3 (nth s f 0) (nth s f 1)) → Among P (cubic_work s 2 f)
    cube_high e k l = in_work e (inr (inr (inr (subst (λ t. Among P (hessian_work t)) k l))))

    pub test_high : false ≡ list_all s.is_zero f → false ≡ list_all s.is_zero h → P (work.formula h CUBIC_TEST) → Among P (cubic_work s 2 f)
    test_high e k l = in_work e (inr (inr (inr (subst (λ t. Among P (hessian_work t)) k (inl l)))))

    pub double_high : false ≡ list_all s.is_zero f → false ≡ list_all s.is_zero h → true ≡ s.is_zero (cubic_test s f) → Among P (power_line_work s 2 2 (nth s h 0) (nth s h 1)) → Among P (cubic_work s 2 f)
    double_high e k l x = in_work e (inr (inr (inr (subst (λ t. Among P (hessian_work t)) k (inr (subst (λ t. Among P (test_work t)) l x))))))
