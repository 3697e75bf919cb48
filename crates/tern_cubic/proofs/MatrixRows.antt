-- Matrices of the program from their rows and entries.
use Rattle.std.proofs.Common.{◌≡◌, ℕ, zero, suc, ◌==◌, if◌then◌else◌, List, [], ◌∷◌, map, get_or, refl, Bool, true, false, ap, ap₂, subst, ◌∙◌, arith}
use Rattle.std.specs.List.{All}
use Rattle.std.proofs.lemmas.List.Elements.{All-from_recursion}
use Rattle.ring_theory.specs.Scalars.{Meaning}
use Rattle.poly_law.specs.Polynomials.{Polynomial, coefficient_in}
use Rattle.mono_exp.specs.Exponents.{IsIn}
use Rattle.mono_exp.specs.declared.exponent.Exp.{Exp}
use Rattle.jet_law.specs.Terms.{exp_of, poly_of}
use Rattle.jet_poly.specs.JetTerms.{JetTerms}
use Rattle.move_law.specs.Moves.{over, whole}
use Rattle.ternary_law.specs.Matrices.{Matrix, places, unit_row, unit_matrix, with_row, two_in_row}
use Rattle.ternary_law.specs.Steps.{axis_matrix, plane_matrix, first_place, last_place, less_row, shear, node_step, secant_step, cusp_second, cusp_third, tangent_second, tangent_third, swap_step}
use Rattle.ternary_law.specs.Cubics.{coef}
use Rattle.ternary_law.specs.Rules.{swap_work}
use Rattle.lin_row.specs.Plain.{Among}
use Rattle.move_law.specs.Shapes.{over_multiple_work}
use Rattle.move_law.specs.Work.{IsWorkHigh}
use Rattle.tern_cubic.specs.Matrices.{IsRow, IsMatrix, axis_entry_of, pivot_entry_of}

-- x^i y^j z^k in eight variables
abbrev pub three_exponents : (i j k : ℕ) → Exp
three_exponents i j k = record { e = i ∷ j ∷ k ∷ 0 ∷ 0 ∷ 0 ∷ 0 ∷ 0 ∷ [] }

-- it has no other variable
three_in : (i j k : ℕ) → IsIn 3 (three_exponents i j k).e
three_in i j k zero h = absurd (omega arith)
three_in i j k (suc zero) h = absurd (omega arith)
three_in i j k (suc (suc zero)) h = absurd (omega arith)
three_in i j k (suc (suc (suc n))) h = past n
  where
    past : (n : ℕ) → ◌≡◌ {A = ℕ} (get_or (0 ∷ 0 ∷ 0 ∷ 0 ∷ 0 ∷ []) n 0) 0
    past zero = refl
    past (suc zero) = refl
    past (suc (suc zero)) = refl
    past (suc (suc (suc zero))) = refl
    past (suc (suc (suc (suc zero)))) = refl
    past (suc (suc (suc (suc (suc n))))) = refl

module _ {E V : Type 0} (m : Meaning E V) where
  -- a row by its three entries
  pub three_entries : (w : ℕ → V) (a b c : E) → m.is_elem a → m.is_elem b → m.is_elem c → m.value a ≡ w 0 → m.value b ≡ w 1 → m.value c ≡ w 2
      → IsRow m (map w places) (a ∷ b ∷ c ∷ [])
  three_entries w a b c ha hb hc ea eb ec = record {
    elems = All-from_recursion m.is_elem (a ∷ b ∷ c ∷ []) (ha, (hb, (hc, tt)));
    values = λ k. ea k ∷ eb k ∷ ec k ∷ [];
  }

  -- a matrix by its three rows
  pub three_rows : (w0 w1 w2 : List V) (r0 r1 r2 : List E) → IsRow m w0 r0 → IsRow m w1 r1 → IsRow m w2 r2 → IsMatrix m (w0 ∷ w1 ∷ w2 ∷ []) (r0 ∷ r1 ∷ r2 ∷ [])
  three_rows w0 w1 w2 r0 r1 r2 h0 h1 h2 = record {
    elems = All-from_recursion (All m.is_elem) (r0 ∷ r1 ∷ r2 ∷ []) (h0.elems, (h1.elems, (h2.elems, tt)));
    values = λ k. h0.values k ∷ h1.values k ∷ h2.values k ∷ [];
  }

  -- the rows with x, y and z in the column p
  axis_rows : (p j : ℕ) → V → V → V → Matrix V
  axis_rows p j x y z =
      map (axis_entry_of m.scalars p j x 0) places ∷ map (axis_entry_of m.scalars p j y 1) places ∷ map (axis_entry_of m.scalars p j z 2) places ∷ []

  -- the matrix of the axis rule, whose place is found first
  pub axis_matrix_is : (p j : ℕ) (w : ℕ → V) (x y z : V) (r0 r1 r2 : List E) → j ≡ last_place m.scalars w
      → x ≡ over m.scalars (w 0) (w j) → y ≡ over m.scalars (w 1) (w j) → z ≡ over m.scalars (w 2) (w j)
      → IsRow m (map (axis_entry_of m.scalars p j x 0) places) r0 → IsRow m (map (axis_entry_of m.scalars p j y 1) places) r1
      → IsRow m (map (axis_entry_of m.scalars p j z 2) places) r2 → IsMatrix m (axis_matrix m.scalars p w) (r0 ∷ r1 ∷ r2 ∷ [])
  unfolding axis_rows axis_matrix
  axis_matrix_is p j w x y z r0 r1 r2 ej ex ey ez h0 h1 h2 =
      let same : axis_rows p j x y z ≡ axis_matrix m.scalars p w =
      λ k. axis_rows p (ej k) ((ex ∙ ap (λ d. over m.scalars (w 0) (w d)) ej) k) ((ey ∙ ap (λ d. over m.scalars (w 1) (w d)) ej) k)
      ((ez ∙ ap (λ d. over m.scalars (w 2) (w d)) ej) k) in
      subst (λ a. IsMatrix m a (r0 ∷ r1 ∷ r2 ∷ [])) same (three_rows _ _ _ r0 r1 r2 h0 h1 h2)

  -- a row with two entries, by what these are
  pub two_row_is : (i j : ℕ) (a b c d : V) (r : List E) → a ≡ c → b ≡ d → IsRow m (two_in_row m.scalars i a j b) r → IsRow m (two_in_row m.scalars i c j d) r
  two_row_is i j a b c d r ea eb h =
      let same : two_in_row m.scalars i a j b ≡ two_in_row m.scalars i c j d = λ k. two_in_row m.scalars i (ea k) j (eb k) in subst (λ w. IsRow m w r) same h

  -- a shear, by what its two numbers are
  pub shear_is : (i j k : ℕ) (a b c d : V) (rows : List (List E)) → a ≡ c → b ≡ d → IsMatrix m (shear m.scalars i j k a b) rows → IsMatrix m (shear m.scalars i j k c d) rows
  shear_is i j k a b c d rows ea eb h =
      let same : shear m.scalars i j k a b ≡ shear m.scalars i j k c d = λ t. shear m.scalars i j k (ea t) (eb t) in subst (λ w. IsMatrix m w rows) same h

  -- the last step of a node
  pub node_step_is : (f : Polynomial 3 V) (k a b : V) (rows : List (List E)) → k ≡ coef m.scalars f 1 1 1
      → a ≡ over m.scalars (coef m.scalars f 2 1 0) k → b ≡ over m.scalars (coef m.scalars f 1 2 0) k
      → IsMatrix m (shear m.scalars 2 0 1 a b) rows → IsMatrix m (node_step m.scalars f) rows
  unfolding node_step
  node_step_is f k a b rows ek ea eb h =
      shear_is 2 0 1 a b _ _ rows (ea ∙ ap (over m.scalars (coef m.scalars f 2 1 0)) ek) (eb ∙ ap (over m.scalars (coef m.scalars f 1 2 0)) ek) h

  -- the last step of a cusp
  pub cusp_third_is : (f : Polynomial 3 V) (k a b : V) (rows : List (List E)) → k ≡ coef m.scalars f 0 1 2
      → a ≡ over m.scalars (coef m.scalars f 1 0 2) k → b ≡ over m.scalars (coef m.scalars f 0 0 3) k
      → IsMatrix m (shear m.scalars 1 0 2 a b) rows → IsMatrix m (cusp_third m.scalars f) rows
  unfolding cusp_third
  cusp_third_is f k a b rows ek ea eb h =
      shear_is 1 0 2 a b _ _ rows (ea ∙ ap (over m.scalars (coef m.scalars f 1 0 2)) ek) (eb ∙ ap (over m.scalars (coef m.scalars f 0 0 3)) ek) h

  -- the last step of a conic with a tangent
  pub tangent_third_is : (f : Polynomial 3 V) (k a b : V) (rows : List (List E)) → k ≡ coef m.scalars f 1 0 2
      → a ≡ over m.scalars (coef m.scalars f 0 0 3) k → b ≡ m.scalars.ops.zero → IsMatrix m (shear m.scalars 0 2 1 a b) rows → IsMatrix m (tangent_third m.scalars f) rows
  unfolding tangent_third
  tangent_third_is f k a b rows ek ea eb h = shear_is 0 2 1 a b _ _ rows (ea ∙ ap (over m.scalars (coef m.scalars f 0 0 3)) ek) eb h

  -- a row that takes two numbers from its variable, by what these are
  pub less_row_is : (i j k : ℕ) (a b c d : V) (r : List E) → a ≡ c → b ≡ d → IsRow m (less_row m.scalars i j k a b) r → IsRow m (less_row m.scalars i j k c d) r
  less_row_is i j k a b c d r ea eb h =
      let same : less_row m.scalars i j k a b ≡ less_row m.scalars i j k c d = λ t. less_row m.scalars i j k (ea t) (eb t) in subst (λ w. IsRow m w r) same h

  -- the rows of the last step of a conic with a secant
  abbrev pub secant_row : Polynomial 3 V → ℕ → List V
  secant_row f o =
      let k = coef m.scalars f 1 1 1 in
      if o == 1 then less_row m.scalars 1 0 2 (over m.scalars (coef m.scalars f 2 0 1) k) m.scalars.ops.zero
      else (if o == 2 then less_row m.scalars 2 0 1 (over m.scalars (coef m.scalars f 2 1 0) k) m.scalars.ops.zero else unit_row m.scalars o)

  -- the last step of a conic with a secant
  pub secant_step_is : (f : Polynomial 3 V) (r0 r1 r2 : List E) → IsRow m (secant_row f 0) r0 → IsRow m (secant_row f 1) r1 → IsRow m (secant_row f 2) r2
      → IsMatrix m (secant_step m.scalars f) (r0 ∷ r1 ∷ r2 ∷ [])
  unfolding secant_step
  secant_step_is f r0 r1 r2 h0 h1 h2 = three_rows _ _ _ r0 r1 r2 h0 h1 h2

  -- the second step of a cusp
  pub cusp_second_is : (f : Polynomial 3 V) (x k a b : V) (rows : List (List E)) → x ≡ coef m.scalars f 2 0 1 → k ≡ coef m.scalars f 3 0 0
      → a ≡ over m.scalars x (m.scalars.ops.mul (whole m.scalars 3) k) → b ≡ m.scalars.ops.zero
      → IsMatrix m (shear m.scalars 0 2 1 a b) rows → IsMatrix m (cusp_second m.scalars f) rows
  unfolding cusp_second
  cusp_second_is f x k a b rows ex ek ea eb h =
      shear_is 0 2 1 a b _ _ rows (ea ∙ ap₂ (λ y d. over m.scalars y (m.scalars.ops.mul (whole m.scalars 3) d)) ex ek) eb h

  -- the second step of a conic with a tangent
  pub tangent_second_is : (f : Polynomial 3 V) (x k a b : V) (rows : List (List E)) → x ≡ coef m.scalars f 0 1 2 → k ≡ coef m.scalars f 0 2 1
      → a ≡ over m.scalars x (m.scalars.ops.mul (whole m.scalars 2) k) → b ≡ m.scalars.ops.zero
      → IsMatrix m (shear m.scalars 1 2 0 a b) rows → IsMatrix m (tangent_second m.scalars f) rows
  unfolding tangent_second
  tangent_second_is f x k a b rows ex ek ea eb h =
      shear_is 1 2 0 a b _ _ rows (ea ∙ ap₂ (λ y d. over m.scalars y (m.scalars.ops.mul (whole m.scalars 2) d)) ex ek) eb h

  module _ (p : ℕ) (q0 q1 : V) where
    -- half of q1/q0
    abbrev pub half : V
    half = over m.scalars q1 (m.scalars.ops.mul (whole m.scalars 2) q0)

    -- the step of a quadratic form, by whether q0 is 0
    swapped : Bool → Matrix V
    swapped t =
        if t then unit_matrix m.scalars
        else with_row m.scalars 0 (two_in_row m.scalars 0 (m.scalars.ops.neg half) p m.scalars.ops.one) (with_row m.scalars p (unit_row m.scalars 0) (unit_matrix m.scalars))

    pub unit_swap : (rows : List (List E)) → true ≡ m.scalars.is_zero q0 → IsMatrix m (unit_matrix m.scalars) rows → IsMatrix m (swap_step m.scalars p q0 q1) rows
    unfolding swap_step swapped
    unit_swap rows e h = subst (λ t. IsMatrix m (swapped t) rows) e h

    -- row o of the step where q0 is not 0
    abbrev pub swap_row : ℕ → List V
    swap_row o =
        if o == 0 then two_in_row m.scalars 0 (m.scalars.ops.neg half) p m.scalars.ops.one else (if o == p then unit_row m.scalars 0 else unit_row m.scalars o)

    pub other_swap : (r0 r1 r2 : List E) → false ≡ m.scalars.is_zero q0 → IsRow m (swap_row 0) r0 → IsRow m (swap_row 1) r1 → IsRow m (swap_row 2) r2
        → IsMatrix m (swap_step m.scalars p q0 q1) (r0 ∷ r1 ∷ r2 ∷ [])
    unfolding swap_step swapped
    other_swap r0 r1 r2 e h0 h1 h2 = subst (λ t. IsMatrix m (swapped t) (r0 ∷ r1 ∷ r2 ∷ [])) e (three_rows _ _ _ r0 r1 r2 h0 h1 h2)

    pub swap_high : false ≡ m.scalars.is_zero q0 → Among (IsWorkHigh 3 m.scalars) (over_multiple_work m.scalars 3 2 q1 q0) → Among (IsWorkHigh 3 m.scalars) (swap_work m.scalars q0 q1)
    swap_high e h = subst (λ t. Among (IsWorkHigh 3 m.scalars) (if t then [] else over_multiple_work m.scalars 3 2 q1 q0)) e h

  -- the step of a quadratic form, by what its first two coefficients are
  pub swap_is : (p : ℕ) (a b c d : V) (rows : List (List E)) → a ≡ c → b ≡ d → IsMatrix m (swap_step m.scalars p a b) rows → IsMatrix m (swap_step m.scalars p c d) rows
  swap_is p a b c d rows ea eb h =
      let same : swap_step m.scalars p a b ≡ swap_step m.scalars p c d = λ t. swap_step m.scalars p (ea t) (eb t) in subst (λ w. IsMatrix m w rows) same h

  -- the same of its operations
  pub swap_work_is : (a b c d : V) → a ≡ c → b ≡ d → Among (IsWorkHigh 3 m.scalars) (swap_work m.scalars a b) → Among (IsWorkHigh 3 m.scalars) (swap_work m.scalars c d)
  swap_work_is a b c d ea eb h =
      let same : swap_work m.scalars a b ≡ swap_work m.scalars c d = λ t. swap_work m.scalars (ea t) (eb t) in subst (Among (IsWorkHigh 3 m.scalars)) same h

  -- a coefficient of a jet in three variables
  pub coefficient_in_three : (f : JetTerms E) (i j k : ℕ) (x : V) → f.n ≡ 3
      → (IsIn f.n (three_exponents i j k).e → x ≡ coefficient_in f.n m.scalars.ops (poly_of f.n m.value f.terms) (exp_of f.n (three_exponents i j k)))
      → x ≡ coef m.scalars (poly_of 3 m.value f.terms) i j k
  coefficient_in_three f i j k x e value =
      subst (λ n. IsIn n (three_exponents i j k).e → x ≡ coefficient_in n m.scalars.ops (poly_of n m.value f.terms) (exp_of n (three_exponents i j k))) e value
      (three_in i j k)

  -- row o of the plane rule
  abbrev pub plane_row_of : (p i : ℕ) → (ℕ → V) → ℕ → List V
  plane_row_of p i w o = map (λ k. if o == i then pivot_entry_of m.scalars p i w k else axis_entry_of m.scalars p i m.scalars.ops.zero o k) places

  -- the matrix of the plane rule, whose place is found first
  pub plane_matrix_is : (p i : ℕ) (w : ℕ → V) (r0 r1 r2 : List E) → i ≡ first_place m.scalars w
      → IsRow m (plane_row_of p i w 0) r0 → IsRow m (plane_row_of p i w 1) r1 → IsRow m (plane_row_of p i w 2) r2
      → IsMatrix m (plane_matrix m.scalars p w) (r0 ∷ r1 ∷ r2 ∷ [])
  unfolding plane_matrix
  plane_matrix_is p i w r0 r1 r2 ei h0 h1 h2 =
      subst (λ j. IsMatrix m (map (plane_row_of p j w) places) (r0 ∷ r1 ∷ r2 ∷ [])) ei (three_rows _ _ _ r0 r1 r2 h0 h1 h2)
