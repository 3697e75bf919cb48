-- The cases of the shape of a quartic, and of its operations.
use Rattle.std.proofs.Common.{◌≡◌, ◌≢◌, ℕ, Bool, true, false, ◌&&◌, not, inl, inr, List, [], ◌∷◌, ◌++◌, map, length, refl, sym, ap, subst, ◌∙◌, arith}
use Rattle.std.specs.Bool.{if◌then◌else◌}
use Rattle.std.specs.List.{list_all}
use Rattle.std.proofs.lemmas.List.{length-map}
use Rattle.lin_row.specs.Plain.{Among}
use Rattle.ring_theory.specs.Scalars.{Scalars, Meaning, ScalarLaws, HasInverses}
use Rattle.ring_theory.proofs.RingReify.{by_ring, reify}
use Rattle.normal_forms.specs.declared.kind.Kind.TheVariants as kinds
use Rattle.normal_forms.specs.Units.{quartic_i, quartic_j, quartic_discriminant, quartic_letters}
use Rattle.move_law.specs.declared.covariant.TheConstants.{QUARTIC_H0, QUARTIC_H1, QUARTIC_H2, QUARTIC_H3, QUARTIC_H4}
use Rattle.move_law.specs.Moves.{whole, over, minus}
use Rattle.move_law.specs.Work as work
use Rattle.move_law.specs.Work.{Work}
use Rattle.move_law.specs.Shapes.{QuarticShape, zero_quartic, distinct_lines, fourth, triple, double_line, two_doubles, quartic_shape, quartic_hessian, less_multiple, quartic_rest, quartic_ratio, pair_of, quartic_work, power_line, power_line_work, over_work, over_multiple_work, nth}
use Rattle.bin_forms.specs.declared.quartic.Quartic.{Quartic}
use Rattle.bin_forms.specs.Forms.{scaled, power_of}
use Rattle.bin_forms.specs.Lines.{less_work}
use Rattle.bin_forms.specs.Quartics.{IsQuarticAnswer, IsQuarticOf, IsQuarticOver, IsDegenerate, IsSquared, IsSquare, quartic_value}
use Rattle.bin_forms.proofs.Zeros.{at_zero}
use Rattle.bin_forms.proofs.QuarticShapes.{quartic_is, some_i, discriminant_value}

-- an operation among the first, or among the last, of a list
among_left : {X : Type 0} (P : X → Type 0) (xs ys : List X) → Among P xs → Among P (xs ++ ys)
among_left P [] ys a = absurd a
among_left P (x ∷ xs) ys (inl p) = inl p
among_left P (x ∷ xs) ys (inr a) = inr (among_left P xs ys a)

among_right : {X : Type 0} (P : X → Type 0) (xs ys : List X) → Among P ys → Among P (xs ++ ys)
among_right P [] ys a = a
among_right P (x ∷ xs) ys a = inr (among_right P xs ys a)

-- the answer is right where it is the plan's shape
pub answered : {E V : Type 0} (m : Meaning E V) → ScalarLaws m.scalars → HasInverses m.scalars → (q : List E) → length q ≡ 5 → (t : Quartic E) → IsQuarticOver m.is_elem t
    → quartic_value m.value t ≡ quartic_shape m.scalars (map m.value q) → IsQuarticAnswer m q t
answered m laws inverts q five t elems shape = record {
  elems = elems;
  shape = shape;
  says = subst (IsQuarticOf m.scalars (map m.value q)) (sym shape) (quartic_is m.scalars laws inverts (map m.value q) (length-map q m.value ∙ five));
}

-- a list of five coefficients
five_are : {V : Type 0} (Q : List V → Type 0) → ((a b c d e : V) → Q (a ∷ b ∷ c ∷ d ∷ e ∷ [])) → (f : List V) → length f ≡ 5 → Q f
five_are Q there [] e = absurd (omega arith)
five_are Q there (a ∷ []) e = absurd (omega arith)
five_are Q there (a ∷ b ∷ []) e = absurd (omega arith)
five_are Q there (a ∷ b ∷ c ∷ []) e = absurd (omega arith)
five_are Q there (a ∷ b ∷ c ∷ d ∷ []) e = absurd (omega arith)
five_are Q there (a ∷ b ∷ c ∷ d ∷ u ∷ []) e = there a b c d u
five_are Q there (a ∷ b ∷ c ∷ d ∷ u ∷ v ∷ f) e = absurd (omega arith)

-- the five coefficients of h - w q
abbrev entries : {V : Type 0} → Scalars V → V → List V → List V → List V
entries s w h q =
    minus s (nth s h 0) (s.ops.mul w (nth s q 0)) ∷ minus s (nth s h 1) (s.ops.mul w (nth s q 1)) ∷ minus s (nth s h 2) (s.ops.mul w (nth s q 2))
    ∷ minus s (nth s h 3) (s.ops.mul w (nth s q 3)) ∷ minus s (nth s h 4) (s.ops.mul w (nth s q 4)) ∷ []

pub differences_are : {V : Type 0} (s : Scalars V) (w : V) (h q : List V) → length h ≡ 5 → length q ≡ 5 → entries s w h q ≡ less_multiple s w h q
differences_are s w h q five_h five_q =
    five_are (λ h. entries s w h q ≡ less_multiple s w h q) (λ a b c d e. five_are (λ q. entries s w (a ∷ b ∷ c ∷ d ∷ e ∷ []) q ≡ less_multiple s w (a ∷ b ∷ c ∷ d ∷ e ∷ []) q) (λ a' b' c' d' e'. refl) q five_q) h five_h

-- the rest has five coefficients
pub rest_length : {V : Type 0} (s : Scalars V) (f : List V) → length f ≡ 5 → length (quartic_rest s f) ≡ 5
rest_length s f five = five_are (λ f. length (quartic_rest s f) ≡ 5) (λ a b c d e. refl) f five

-- the same operations, by equal numbers
pub differences_at : {V : Type 0} (s : Scalars V) (P : Work 2 V → Type 0) (f : List V) {w w' : V} {h h' : List V} → w ≡ w' → h ≡ h'
    → Among (λ i. Among P (less_work s w (nth s h i) (nth s f i))) (0 ∷ 1 ∷ 2 ∷ 3 ∷ 4 ∷ [])
    → Among (λ i. Among P (less_work s w' (nth s h' i) (nth s f i))) (0 ∷ 1 ∷ 2 ∷ 3 ∷ 4 ∷ [])
differences_at s P f {w'} {h} ew eh a =
    subst (λ h. Among (λ i. Among P (less_work s w' (nth s h i) (nth s f i))) (0 ∷ 1 ∷ 2 ∷ 3 ∷ 4 ∷ [])) eh
    (subst (λ w. Among (λ i. Among P (less_work s w (nth s h i) (nth s f i))) (0 ∷ 1 ∷ 2 ∷ 3 ∷ 4 ∷ [])) ew a)

module _ {V : Type 0} (s : Scalars V) (f : List V) where
  abbrev h : List V
  h = quartic_hessian s f

  abbrev k : List V
  k = quartic_rest s f

  abbrev first : V
  first = quartic_i s f

  abbrev second : V
  second = quartic_j s f

  -- ---- the shapes

  abbrev by_rest : Bool → QuarticShape V
  by_rest t = if not t then double_line (power_line s 4 (nth s k 0) (nth s k 1)) else pair_of s f

  abbrev by_invariants : Bool → QuarticShape V
  by_invariants t = if t then triple (power_line s 4 (nth s h 0) (nth s h 1)) else by_rest (list_all s.is_zero k)

  abbrev by_hessian : Bool → QuarticShape V
  by_hessian t = if t then fourth (power_line s 4 (nth s f 0) (nth s f 1)) else by_invariants (s.is_zero first && s.is_zero second)

  abbrev by_discriminant : Bool → QuarticShape V
  by_discriminant t = if not t then distinct_lines else by_hessian (list_all s.is_zero h)

  abbrev by_form : Bool → QuarticShape V
  by_form t = if t then zero_quartic else by_discriminant (s.is_zero (quartic_discriminant s f))

  pub zero_shape : list_all s.is_zero f ≡ true → zero_quartic ≡ quartic_shape s f
  unfolding quartic_shape
  zero_shape e = sym (ap by_form e)

  pub distinct_shape : list_all s.is_zero f ≡ false → s.is_zero (quartic_discriminant s f) ≡ false → distinct_lines ≡ quartic_shape s f
  unfolding quartic_shape
  distinct_shape e d = sym (ap by_form e ∙ ap by_discriminant d)

  degenerate_shape : IsDegenerate s f → by_hessian (list_all s.is_zero h) ≡ quartic_shape s f
  unfolding quartic_shape
  degenerate_shape c = sym (ap by_form c.nonzero ∙ ap by_discriminant c.discriminant)

  pub fourth_shape : IsDegenerate s f → list_all s.is_zero h ≡ true → fourth (power_line s 4 (nth s f 0) (nth s f 1)) ≡ quartic_shape s f
  fourth_shape c e = sym (ap by_hessian e) ∙ degenerate_shape c

  pub triple_shape : IsDegenerate s f → list_all s.is_zero h ≡ false → (s.is_zero first && s.is_zero second) ≡ true → triple (power_line s 4 (nth s h 0) (nth s h 1)) ≡ quartic_shape s f
  triple_shape c e i = sym (ap by_hessian e ∙ ap by_invariants i) ∙ degenerate_shape c

  squared_shape : IsSquared s f → by_rest (list_all s.is_zero k) ≡ quartic_shape s f
  squared_shape c = sym (ap by_hessian c.hessian ∙ ap by_invariants c.invariants) ∙ degenerate_shape c.degenerate

  pub double_shape : IsSquared s f → list_all s.is_zero k ≡ false → double_line (power_line s 4 (nth s k 0) (nth s k 1)) ≡ quartic_shape s f
  double_shape c e = sym (ap by_rest e) ∙ squared_shape c

  square_shape : IsSquare s f → pair_of s f ≡ quartic_shape s f
  square_shape c = sym (ap by_rest c.rest) ∙ squared_shape c.squared

  -- the quadratic form whose square the quartic is a multiple of
  abbrev corner : V
  corner = over s (nth s f 3) (s.ops.mul (whole s 2) (nth s f 2))

  abbrev pub half : V
  half = over s (nth s f 1) (s.ops.mul (whole s 2) (nth s f 0))

  abbrev pub ratio : V
  ratio = over s (nth s f 2) (nth s f 0)

  abbrev last : V
  last = over s (minus s ratio (s.ops.mul half half)) (whole s 2)

  abbrev by_first : Bool → QuarticShape V
  by_first t = if t then two_doubles s.ops.zero s.ops.one corner else two_doubles s.ops.one half last

  pub corner_shape : IsSquare s f → s.is_zero (nth s f 0) ≡ true → two_doubles s.ops.zero s.ops.one corner ≡ quartic_shape s f
  corner_shape c e = sym (ap by_first e) ∙ square_shape c

  pub pair_shape : IsSquare s f → s.is_zero (nth s f 0) ≡ false → two_doubles s.ops.one half last ≡ quartic_shape s f
  pair_shape c e = sym (ap by_first e) ∙ square_shape c

  -- ---- the operations

  abbrev units : Work 2 V
  units = work.units kinds.QuarticForm f

  abbrev hessians : List (Work 2 V)
  hessians =
      work.formula (quartic_letters s f) QUARTIC_H0 ∷ work.formula (quartic_letters s f) QUARTIC_H1 ∷ work.formula (quartic_letters s f) QUARTIC_H2
      ∷ work.formula (quartic_letters s f) QUARTIC_H3 ∷ work.formula (quartic_letters s f) QUARTIC_H4 ∷ []

  abbrev ratio_work : List (Work 2 V)
  ratio_work = work.product (whole s 3) second ∷ over_multiple_work s 2 2 (s.ops.mul (whole s 3) second) first

  abbrev less_at : ℕ → List (Work 2 V)
  less_at i = less_work s (quartic_ratio s f) (nth s h i) (nth s f i)

  abbrev differences : List (Work 2 V)
  differences = less_at 0 ++ (less_at 1 ++ (less_at 2 ++ (less_at 3 ++ less_at 4)))

  abbrev half_work : List (Work 2 V)
  half_work = over_multiple_work s 2 2 (nth s f 1) (nth s f 0)

  abbrev quotient_work : List (Work 2 V)
  quotient_work = over_work s 2 (nth s f 2) (nth s f 0)

  abbrev last_work : List (Work 2 V)
  last_work = over_work s 2 (minus s ratio (s.ops.mul half half)) (whole s 2)

  abbrev first_work : Bool → List (Work 2 V)
  first_work t = if t then over_multiple_work s 2 2 (nth s f 3) (nth s f 2) else (half_work ++ (quotient_work ++ (less_work s half ratio half ++ last_work)))

  abbrev rest_work : Bool → List (Work 2 V)
  rest_work t = if not t then power_line_work s 2 4 (nth s k 0) (nth s k 1) else first_work (s.is_zero (nth s f 0))

  abbrev invariants_work : Bool → List (Work 2 V)
  invariants_work t = if t then power_line_work s 2 4 (nth s h 0) (nth s h 1) else (ratio_work ++ (differences ++ rest_work (list_all s.is_zero k)))

  abbrev hessian_work : Bool → List (Work 2 V)
  hessian_work t = if t then power_line_work s 2 4 (nth s f 0) (nth s f 1) else invariants_work (s.is_zero first && s.is_zero second)

  abbrev discriminant_work : Bool → List (Work 2 V)
  discriminant_work t = if not t then [] else (hessians ++ hessian_work (list_all s.is_zero h))

  abbrev form_work : Bool → List (Work 2 V)
  form_work t = if t then [] else (units ∷ discriminant_work (s.is_zero (quartic_discriminant s f)))

work_is : {V : Type 0} (s : Scalars V) (f : List V) → length f ≡ 5 → form_work s f (list_all s.is_zero f) ≡ quartic_work s 2 f
unfolding quartic_work
work_is s f five = five_are (λ f. form_work s f (list_all s.is_zero f) ≡ quartic_work s 2 f) (λ a b c d e. refl) f five

module _ {V : Type 0} (s : Scalars V) (P : Work 2 V → Type 0) (f : List V) (five : length f ≡ 5) where
  in_work : list_all s.is_zero f ≡ false → Among P (form_work s f false) → Among P (quartic_work s 2 f)
  in_work e a = subst (Among P) (work_is s f five) (subst (λ t. Among P (form_work s f t)) (sym e) a)

  pub units_high : list_all s.is_zero f ≡ false → P (work.units kinds.QuarticForm f) → Among P (quartic_work s 2 f)
  units_high e p = in_work e (inl p)

  in_degenerate : IsDegenerate s f → Among P (units s f ∷ discriminant_work s f true) → Among P (quartic_work s 2 f)
  in_degenerate c a = in_work c.nonzero (subst (λ t. Among P (units s f ∷ discriminant_work s f t)) (sym c.discriminant) a)

  pub hessian_high : IsDegenerate s f → Among P (units s f ∷ hessians s f) → Among P (quartic_work s 2 f)
  hessian_high c a = in_degenerate c (among_left P (units s f ∷ hessians s f) (hessian_work s f (list_all s.is_zero (h s f))) a)

  in_hessian : IsDegenerate s f → (t : Bool) → list_all s.is_zero (h s f) ≡ t → Among P (hessian_work s f t) → Among P (quartic_work s 2 f)
  in_hessian c t e a = in_degenerate c (among_right P (units s f ∷ hessians s f) (hessian_work s f (list_all s.is_zero (h s f))) (subst (λ t. Among P (hessian_work s f t)) (sym e) a))

  pub fourth_high : IsDegenerate s f → list_all s.is_zero (h s f) ≡ true → Among P (power_line_work s 2 4 (nth s f 0) (nth s f 1)) → Among P (quartic_work s 2 f)
  fourth_high c e a = in_hessian c true e a

  pub triple_high : IsDegenerate s f → list_all s.is_zero (h s f) ≡ false → (s.is_zero (quartic_i s f) && s.is_zero (quartic_j s f)) ≡ true
      → Among P (power_line_work s 2 4 (nth s (h s f) 0) (nth s (h s f) 1)) → Among P (quartic_work s 2 f)
  triple_high c e i a = in_hessian c false e (subst (λ t. Among P (invariants_work s f t)) (sym i) a)

  in_squared : IsSquared s f → Among P (invariants_work s f false) → Among P (quartic_work s 2 f)
  in_squared c a = in_hessian c.degenerate false c.hessian (subst (λ t. Among P (invariants_work s f t)) (sym c.invariants) a)

  pub ratio_high : IsSquared s f → Among P (ratio_work s f) → Among P (quartic_work s 2 f)
  ratio_high c a = in_squared c (among_left P (ratio_work s f) (differences s f ++ rest_work s f (list_all s.is_zero (k s f))) a)

  pub differences_high : IsSquared s f → Among (λ i. Among P (less_at s f i)) (0 ∷ 1 ∷ 2 ∷ 3 ∷ 4 ∷ []) → Among P (quartic_work s 2 f)
  differences_high c a = in_squared c (among_right P (ratio_work s f) (differences s f ++ rest_work s f (list_all s.is_zero (k s f))) (among_left P (differences s f) (rest_work s f (list_all s.is_zero (k s f))) (step a)))
    where
      step : Among (λ i. Among P (less_at s f i)) (0 ∷ 1 ∷ 2 ∷ 3 ∷ 4 ∷ []) → Among P (differences s f)
      step (inl x) = among_left P (less_at s f 0) (less_at s f 1 ++ (less_at s f 2 ++ (less_at s f 3 ++ less_at s f 4))) x
      step (inr (inl x)) = among_right P (less_at s f 0) (less_at s f 1 ++ (less_at s f 2 ++ (less_at s f 3 ++ less_at s f 4))) (among_left P (less_at s f 1) (less_at s f 2 ++ (less_at s f 3 ++ less_at s f 4)) x)
      step (inr (inr (inl x))) =
          among_right P (less_at s f 0 ++ less_at s f 1) (less_at s f 2 ++ (less_at s f 3 ++ less_at s f 4)) (among_left P (less_at s f 2) (less_at s f 3 ++ less_at s f 4) x)
      step (inr (inr (inr (inl x)))) = among_right P (less_at s f 0 ++ (less_at s f 1 ++ less_at s f 2)) (less_at s f 3 ++ less_at s f 4) (among_left P (less_at s f 3) (less_at s f 4) x)
      step (inr (inr (inr (inr (inl x))))) = among_right P (less_at s f 0 ++ (less_at s f 1 ++ (less_at s f 2 ++ less_at s f 3))) (less_at s f 4) x
      step (inr (inr (inr (inr (inr x))))) = absurd x

  in_rest : IsSquared s f → (t : Bool) → list_all s.is_zero (k s f) ≡ t → Among P (rest_work s f t) → Among P (quartic_work s 2 f)
  in_rest c t e a = in_squared c (among_right P (ratio_work s f ++ differences s f) (rest_work s f (list_all s.is_zero (k s f))) (subst (λ t. Among P (rest_work s f t)) (sym e) a))

  pub double_high : IsSquared s f → list_all s.is_zero (k s f) ≡ false → Among P (power_line_work s 2 4 (nth s (k s f) 0) (nth s (k s f) 1)) → Among P (quartic_work s 2 f)
  double_high c e a = in_rest c false e a

  in_square : IsSquare s f → (t : Bool) → s.is_zero (nth s f 0) ≡ t → Among P (first_work s f t) → Among P (quartic_work s 2 f)
  in_square c t e a = in_rest c.squared true c.rest (subst (λ t. Among P (first_work s f t)) (sym e) a)

  pub corner_high : IsSquare s f → s.is_zero (nth s f 0) ≡ true → Among P (over_multiple_work s 2 2 (nth s f 3) (nth s f 2)) → Among P (quartic_work s 2 f)
  corner_high c e a = in_square c true e a

  pub half_high : IsSquare s f → s.is_zero (nth s f 0) ≡ false → Among P (half_work s f) → Among P (quartic_work s 2 f)
  half_high c e a = in_square c false e (among_left P (half_work s f) (quotient_work s f ++ (less_work s (half s f) (ratio s f) (half s f) ++ last_work s f)) a)

  pub quotient_high : IsSquare s f → s.is_zero (nth s f 0) ≡ false → Among P (quotient_work s f) → Among P (quartic_work s 2 f)
  quotient_high c e a = in_square c false e (among_right P (half_work s f) (quotient_work s f ++ (less_work s (half s f) (ratio s f) (half s f) ++ last_work s f)) (among_left P (quotient_work s f) (less_work s (half s f) (ratio s f) (half s f) ++ last_work s f) a))

  pub difference_high : IsSquare s f → s.is_zero (nth s f 0) ≡ false → Among P (less_work s (half s f) (ratio s f) (half s f)) → Among P (quartic_work s 2 f)
  difference_high c e a = in_square c false e (among_right P (half_work s f ++ quotient_work s f) (less_work s (half s f) (ratio s f) (half s f) ++ last_work s f) (among_left P (less_work s (half s f) (ratio s f) (half s f)) (last_work s f) a))

  pub last_high : IsSquare s f → s.is_zero (nth s f 0) ≡ false → Among P (last_work s f) → Among P (quartic_work s 2 f)
  last_high c e a = in_square c false e (among_right P (half_work s f ++ (quotient_work s f ++ less_work s (half s f) (ratio s f) (half s f))) (last_work s f) a)

-- ---- what is not zero

-- both tests at once
pub both_zero : {V : Type 0} (s : Scalars V) (x y : V) → list_all s.is_zero (x ∷ y ∷ []) ≡ (s.is_zero x && s.is_zero y)
both_zero s x y = step (s.is_zero x) (s.is_zero y)
  where
    step : (b c : Bool) → (b && (c && true)) ≡ (b && c)
    step true true = refl
    step true false = refl
    step false c = refl

module _ {V : Type 0} (s : Scalars V) (laws : ScalarLaws s) (inverts : HasInverses s) (f : List V) where
  pub first_nonzero : IsSquared s f → quartic_i s f ≢ s.ops.zero
  first_nonzero c =
      some_i s laws inverts (quartic_i s f) (quartic_j s f) (sym (discriminant_value s laws inverts (quartic_i s f) (quartic_j s f)) ∙ at_zero s laws c.degenerate.discriminant) c.invariants

  pub third_nonzero : length f ≡ 5 → IsSquare s f → s.is_zero (nth s f 0) ≡ true → nth s f 2 ≢ s.ops.zero
  third_nonzero five c e z =
      let v = over s (nth s f 3) (s.ops.mul (whole s 2) (nth s f 2)) in
      let says : IsQuarticOf s f (two_doubles s.ops.zero s.ops.one v) = subst (IsQuarticOf s f) (sym (corner_shape s f c e)) (quartic_is s laws inverts f five) in
      says.0.nonzero (third says.0.factor v ∙ sym (ap (λ g. nth s g 2) says.0.is_product) ∙ z)
    where
      third : (x v : V) → x ≡ nth s (scaled s.ops x (power_of s.ops (s.ops.zero ∷ s.ops.one ∷ v ∷ []) 2)) 2
      third x v = by_ring laws.ring (x ∷ v ∷ []) (search reify depth 60 fits 20000) tt
