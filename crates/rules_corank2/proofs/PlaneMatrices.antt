-- Linear moves of the first two variables, and their changes.
use Rattle.std.proofs.Common.{◌≡◌, ℕ, zero, suc, ◌+◌, ◌*◌, ◌<◌, ◌≤◌, inl, inr, false, ◌&&◌, cond, eqb, ne_eqb, List, [], ◌∷◌, map, length, get_or, set, ap, ap₂, sym, ◌∙◌, refl, subst, arith}
use Rattle.std.proofs.lemmas.List.{get_or-map, length-map, same_lists}
use Rattle.ring_theory.specs.Scalars.{Scalars, ScalarLaws, Meaning}
use Rattle.poly_law.specs.Sums.{sum_to, unit_at}
use Rattle.poly_law.specs.Exps.{variable, degree, same}
use Rattle.poly_law.specs.ExpList.{exps}
use Rattle.poly_law.specs.Poly.{coefficient, scale, term}
use Rattle.poly_law.specs.Polynomials.{Polynomial, SameIn, poly_in}
use Rattle.poly_law.proofs.ExpLists.{exps_are}
use Rattle.poly_law.proofs.ExpLaws
use Rattle.poly_law.proofs.Sums
use Rattle.jet_law.specs.Terms.{poly_of}
use Rattle.jet_law.specs.Canonical.{jet}
use Rattle.jet_subst.specs.Parts.{part_of}
use Rattle.coord_change.specs.declared.change.Change.{Change}
use Rattle.coord_change.specs.Changes.{IsChange, entry_of}
use Rattle.coord_change.specs.Inverses.{HasNoKernel, InverseIsHigh}
use Rattle.coord_change.specs.Linear.{linear_form}
use Rattle.coord_change.specs.Moves.{Move, move_of, move_from, put, variable_of, linear_part}
use Rattle.coord_change.specs.MoveJets.{IsMoveExactly}
use Rattle.coord_change.proofs.Canonicals
use Rattle.coord_change.proofs.InverseLemmas
use Rattle.move_law.specs.Moves.{linear}
use Rattle.mono_exp.proofs.Lists.{Each}
use Rattle.hessian_rank.specs.Sound.{Has, Distinct, IsLinear}
use Rattle.hessian_rank.proofs.LinearMoves
use Rattle.hessian_rank.proofs.MatrixMoves
use Rattle.hessian_rank.proofs.MatrixMoves.{changed}
use Rattle.kill_table.specs.Moves.{IsMoveTo}
use Rattle.rules_corank2.specs.Planes.{row_of_two, plane_of, IsRegularPlane, HasMatrix}

-- numbers past 1 are neither 0 nor 1
far_0 : (j : ℕ) → eqb 0 (suc (suc j)) ≡ false
far_0 j = ne_eqb 0 (suc (suc j)) (λ e. omega arith)

far_1 : (j : ℕ) → eqb 1 (suc (suc j)) ≡ false
far_1 j = ne_eqb 1 (suc (suc j)) (λ e. omega arith)

far_from_0 : (j : ℕ) → eqb (suc (suc j)) 0 ≡ false
far_from_0 j = ne_eqb (suc (suc j)) 0 (λ e. omega arith)

far_from_1 : (j : ℕ) → eqb (suc (suc j)) 1 ≡ false
far_from_1 j = ne_eqb (suc (suc j)) 1 (λ e. omega arith)

module _ {V : Type 0} (n : ℕ) (s : Scalars V) (l : ScalarLaws s) (two : 2 ≤ n) where
  -- ---- the matrix

  image-row : (u v : V) (x : ℕ → V) → sum_to s.ops n (λ j. s.ops.mul (row_of_two s u v j) (x j)) ≡ s.ops.add (s.ops.mul u (x 0)) (s.ops.mul v (x 1))
  image-row u v x =
      Sums.sum_to-front s.ops l.ring 2 n (λ j. s.ops.mul (row_of_two s u v j) (x j)) two rest
      ∙ ap (λ z. s.ops.add z (s.ops.mul v (x 1))) (Sums.zero_add s.ops l.ring (s.ops.mul u (x 0)))
    where
      rest : (j : ℕ) → 2 ≤ j → j < n → s.ops.mul (row_of_two s u v j) (x j) ≡ s.ops.zero
      rest zero h g = absurd (omega arith)
      rest (suc zero) h g = absurd (omega arith)
      rest (suc (suc j)) h g = Sums.zero_mul s.ops l.ring (x (suc (suc j)))

  image-unit : (i : ℕ) → i < n → (x : ℕ → V) → sum_to s.ops n (λ j. s.ops.mul (unit_at s.ops i j) (x j)) ≡ x i
  image-unit i h x =
      Sums.sum_to-cong s.ops n (λ j. s.ops.mul (unit_at s.ops i j) (x j)) (λ j. s.ops.mul (x j) (unit_at s.ops j i))
      (λ j g. l.ring.mul_comm (unit_at s.ops i j) (x j) ∙ ap (s.ops.mul (x j)) (Sums.unit_at-swap s.ops i j))
      ∙ Sums.sum_to-unit s.ops l.ring n i x h

  -- a regular matrix has no kernel
  pub plane_regular : (a b c d : V) → IsRegularPlane s a b c d → HasNoKernel s.ops n (plane_of s a b c d)
  plane_regular a b c d regular x zeros = each
    where
      both : (x 0 ≡ s.ops.zero) × (x 1 ≡ s.ops.zero)
      both = regular (x 0) (x 1) (sym (image-row a b x) ∙ zeros 0 (omega arith)) (sym (image-row c d x) ∙ zeros 1 (omega arith))

      each : (i : ℕ) → i < n → x i ≡ s.ops.zero
      each zero h = both.0
      each (suc zero) h = both.1
      each (suc (suc i)) h = sym (image-unit (suc (suc i)) h x) ∙ zeros (suc (suc i)) h

  -- ---- linear forms in two variables

  one_degree : (i : ℕ) → i < n → degree (exps n) (variable (exps n) i) ≡ 1
  one_degree i h = ExpLaws.degree-variable (exps n) (exps_are n) i h

  pub form_two : (u v : V) → SameIn n s.ops (linear n s ((u, 0) ∷ (v, 1) ∷ [])) (linear_form n s.ops (row_of_two s u v))
  form_two u v = LinearMoves.is_form n s l (linear n s ((u, 0) ∷ (v, 1) ∷ [])) (one_degree 0 (omega arith), (one_degree 1 (omega arith), tt)) (row_of_two s u v) at
    where
      js : List ℕ
      js = 0 ∷ 1 ∷ []

      inside : Each (λ j. j < n) js
      inside = (omega arith, (omega arith, tt))

      distinct : Distinct js
      distinct = (((λ e. omega arith), tt), (tt, tt))

      at : (b : ℕ) → b < n → coefficient (exps n) s.ops (linear n s ((u, 0) ∷ (v, 1) ∷ [])) (variable (exps n) b) ≡ row_of_two s u v b
      at zero h = LinearMoves.there n s l (row_of_two s u v) js inside distinct 0 h (inl refl)
      at (suc zero) h = LinearMoves.there n s l (row_of_two s u v) js inside distinct 1 h (inr (inl refl))
      at (suc (suc b)) h = LinearMoves.absent n s l (row_of_two s u v) js inside (suc (suc b)) h none
        where
          none : Has js (suc (suc b)) → ⊥
          none (inl e) = omega arith
          none (inr (inl e)) = omega arith
          none (inr (inr e)) = e

  pub form_two_back : (u v : V) → SameIn n s.ops (linear n s ((v, 1) ∷ (u, 0) ∷ [])) (linear_form n s.ops (row_of_two s u v))
  form_two_back u v = LinearMoves.is_form n s l (linear n s ((v, 1) ∷ (u, 0) ∷ [])) (one_degree 1 (omega arith), (one_degree 0 (omega arith), tt)) (row_of_two s u v) at
    where
      js : List ℕ
      js = 1 ∷ 0 ∷ []

      inside : Each (λ j. j < n) js
      inside = (omega arith, (omega arith, tt))

      distinct : Distinct js
      distinct = (((λ e. omega arith), tt), (tt, tt))

      at : (b : ℕ) → b < n → coefficient (exps n) s.ops (linear n s ((v, 1) ∷ (u, 0) ∷ [])) (variable (exps n) b) ≡ row_of_two s u v b
      at zero h = LinearMoves.there n s l (row_of_two s u v) js inside distinct 0 h (inr (inl refl))
      at (suc zero) h = LinearMoves.there n s l (row_of_two s u v) js inside distinct 1 h (inl refl)
      at (suc (suc b)) h = LinearMoves.absent n s l (row_of_two s u v) js inside (suc (suc b)) h none
        where
          none : Has js (suc (suc b)) → ⊥
          none (inl e) = omega arith
          none (inr (inl e)) = omega arith
          none (inr (inr e)) = e

  form_unit : (i : ℕ) → i < n → SameIn n s.ops (variable_of n s i) (linear_form n s.ops (unit_at s.ops i))
  form_unit i h = LinearMoves.is_form n s l (variable_of n s i) (one_degree i h, tt) (unit_at s.ops i) (λ b g. LinearMoves.variable_at n s l i b h g)

  pub form_x : SameIn n s.ops (variable_of n s 0) (linear_form n s.ops (row_of_two s s.ops.one s.ops.zero))
  form_x = LinearMoves.is_form n s l (variable_of n s 0) (one_degree 0 (omega arith), tt) (row_of_two s s.ops.one s.ops.zero) (λ b g. LinearMoves.variable_at n s l 0 b (omega arith) g ∙ at b)
    where
      at : (b : ℕ) → unit_at s.ops 0 b ≡ row_of_two s s.ops.one s.ops.zero b
      at zero = refl
      at (suc zero) = refl
      at (suc (suc b)) = ap (λ z. cond z s.ops.one s.ops.zero) (far_0 b)

  pub form_y : SameIn n s.ops (variable_of n s 1) (linear_form n s.ops (row_of_two s s.ops.zero s.ops.one))
  form_y = LinearMoves.is_form n s l (variable_of n s 1) (one_degree 1 (omega arith), tt) (row_of_two s s.ops.zero s.ops.one) (λ b g. LinearMoves.variable_at n s l 1 b (omega arith) g ∙ at b)
    where
      at : (b : ℕ) → unit_at s.ops 1 b ≡ row_of_two s s.ops.zero s.ops.one b
      at zero = refl
      at (suc zero) = refl
      at (suc (suc b)) = ap (λ z. cond z s.ops.one s.ops.zero) (far_1 b)

  -- ---- the moves

  module _ (a b c d : V) (p q : Polynomial n V) where
    abbrev row_p : Type 0
    row_p = SameIn n s.ops p (linear_form n s.ops (row_of_two s a b))

    abbrev row_q : Type 0
    row_q = SameIn n s.ops q (linear_form n s.ops (row_of_two s c d))

    -- what the move puts for x, for y, and for the others
    linear_by : (move : Move n V) → length move ≡ n → row_p → row_q → ((i : ℕ) → i < n → put n s move i ≡ cond (eqb 0 i) p (cond (eqb 1 i) q (variable_of n s i))) → IsLinear n s (plane_of s a b c d) move
    linear_by move long hp hq puts = record { long = long; forms = λ i h e. ap (λ z. coefficient (exps n) s.ops z e) (puts i h) ∙ each i h e }
      where
        each : (i : ℕ) → i < n → SameIn n s.ops (cond (eqb 0 i) p (cond (eqb 1 i) q (variable_of n s i))) (linear_form n s.ops (plane_of s a b c d i))
        each zero h = hp
        each (suc zero) h = hq
        each (suc (suc i)) h =
            subst (λ z. SameIn n s.ops z (linear_form n s.ops (unit_at s.ops (suc (suc i)))))
            (sym (ap₂ (λ y z. cond y p (cond z q (variable_of n s (suc (suc i))))) (far_0 i) (far_1 i))) (form_unit (suc (suc i)) h)

    -- for both variables
    pub linear_both : row_p → row_q → IsLinear n s (plane_of s a b c d) (move_of n s ((0, p) ∷ (1, q) ∷ []))
    linear_both hp hq = linear_by (move_of n s ((0, p) ∷ (1, q) ∷ [])) (LinearMoves.length-move_of n s l ((0, p) ∷ (1, q) ∷ [])) hp hq
        (λ i h. LinearMoves.put_first n s l (0, p) ((1, q) ∷ []) i h ∙ ap (cond (eqb 0 i) p) (LinearMoves.put_first n s l (1, q) [] i h ∙ ap (cond (eqb 1 i) q) (LinearMoves.put_nothing n s l i h)))

  -- for x alone
  pub linear_x : (a b : V) (p : Polynomial n V) → SameIn n s.ops p (linear_form n s.ops (row_of_two s a b)) → IsLinear n s (plane_of s a b s.ops.zero s.ops.one) (move_of n s ((0, p) ∷ []))
  linear_x a b p hp = linear_by a b s.ops.zero s.ops.one p (variable_of n s 1) (move_of n s ((0, p) ∷ [])) (LinearMoves.length-move_of n s l ((0, p) ∷ [])) hp form_y
      (λ i h. LinearMoves.put_first n s l (0, p) [] i h ∙ ap (cond (eqb 0 i) p) (LinearMoves.put_nothing n s l i h ∙ own i))
    where
      own : (i : ℕ) → variable_of n s i ≡ cond (eqb 1 i) (variable_of n s 1) (variable_of n s i)
      own zero = refl
      own (suc zero) = refl
      own (suc (suc i)) = sym (ap (λ z. cond z (variable_of n s 1) (variable_of n s (suc (suc i)))) (far_1 i))

  -- for y alone
  pub linear_y : (c d : V) (q : Polynomial n V) → SameIn n s.ops q (linear_form n s.ops (row_of_two s c d)) → IsLinear n s (plane_of s s.ops.one s.ops.zero c d) (move_of n s ((1, q) ∷ []))
  linear_y c d q hq = linear_by s.ops.one s.ops.zero c d (variable_of n s 0) q (move_of n s ((1, q) ∷ [])) (LinearMoves.length-move_of n s l ((1, q) ∷ [])) form_x hq
      (λ i h. LinearMoves.put_first n s l (1, q) [] i h ∙ ap (cond (eqb 1 i) q) (LinearMoves.put_nothing n s l i h) ∙ own i)
    where
      own : (i : ℕ) → cond (eqb 1 i) q (variable_of n s i) ≡ cond (eqb 0 i) (variable_of n s 0) (cond (eqb 1 i) q (variable_of n s i))
      own zero = refl
      own (suc zero) = refl
      own (suc (suc i)) = sym (ap (λ z. cond z (variable_of n s 0) (cond (eqb 1 (suc (suc i))) q (variable_of n s (suc (suc i))))) (far_0 i))

-- ---- changes

-- moves that put the same up to degree k are made the same
pub made_same : {V : Type 0} (n : ℕ) (s : Scalars V) → ScalarLaws s → (k : ℕ) (u v : Move n V) → length u ≡ n → length v ≡ n → ((i : ℕ) → i < n → SameIn n s.ops (put n s u i) (put n s v i)) → map (jet n s k) u ≡ map (jet n s k) v
made_same {V} n s l k u v hu hv e =
    same_lists (map (jet n s k) u) (map (jet n s k) v) (length-map u (jet n s k) ∙ hu ∙ sym hv ∙ sym (length-map v (jet n s k))) at
  where
    at : (i : ℕ) (d : Polynomial n V) → i < length (map (jet n s k) u) → get_or (map (jet n s k) u) i d ≡ get_or (map (jet n s k) v) i d
    at i d h =
        let inside : i < n = (let a = length-map u (jet n s k) in omega arith) in
        get_or-map (jet n s k) u i [] d (omega arith)
        ∙ Canonicals.jet_of_same n s l k (put n s u i) (put n s v i) (λ b g. e i inside b)
        ∙ sym (get_or-map (jet n s k) v i [] d (omega arith))

module _ {E V : Type 0} (m : Meaning E V) (l : ScalarLaws m.scalars) (n : ℕ) (w : ℕ → ℕ → V) where
  module _ (entries : List E) (has : HasMatrix m n w entries) where
    -- a matrix without kernel
    pub matrix_regular : HasNoKernel m.scalars.ops n w → HasNoKernel m.scalars.ops n (entry_of m n entries)
    matrix_regular regular x zeros d h = regular x (λ i k. sym (InverseLemmas.same_image m.scalars.ops l.ring n (entry_of m n entries) w has.same x i k) ∙ zeros i k) d h

    module _ (move : Move n V) (is : IsLinear n m.scalars w move) where
      -- the inverse
      pub matrix_high : InverseIsHigh m.scalars n (entry_of m n entries) → InverseIsHigh m.scalars n (linear_part n m.scalars move)
      matrix_high high =
          InverseLemmas.high_of_same m.scalars l.ring n (entry_of m n entries) (linear_part n m.scalars move)
          (λ i j hi hj. has.same i j hi hj ∙ sym (LinearMoves.entries n m.scalars l w move is i j hi hj)) high

      form_same : (i : ℕ) → i < n → SameIn n m.scalars.ops (linear_form n m.scalars.ops (entry_of m n entries i)) (put n m.scalars move i)
      form_same i h b =
          ap (λ z. coefficient (exps n) m.scalars.ops z b)
          (Sums.sum_to-cong (poly_in n m.scalars.ops) n (λ j. scale (exps n) m.scalars.ops (entry_of m n entries i j) (term (exps n) m.scalars.ops (variable (exps n) j))) (λ j. scale (exps n) m.scalars.ops (w i j) (term (exps n) m.scalars.ops (variable (exps n) j)))
          (λ j g. ap (λ v. scale (exps n) m.scalars.ops v (term (exps n) m.scalars.ops (variable (exps n) j))) (has.same i j h g)))
          ∙ sym (is.forms i h b)

      -- the change of the matrix, cut, makes the move
      pub change_made : (change c : Change E) → IsChange m change → change.n ≡ n → ((i : ℕ) → i < n → SameIn n m.scalars.ops (part_of n m.value change.parts i) (linear_form n m.scalars.ops (entry_of m n entries i)))
          → IsMoveExactly m change.n 16 (map (jet change.n m.scalars 16) (move_from m change.n change)) c → IsMoveTo m n 16 move c
      change_made change c is_change en parts exactly =
          subst (λ z. IsMoveExactly m n 16 z c)
          (made_same n m.scalars l 16 (move_from m n change) move (length-map change.parts (λ p. poly_of n m.value p.terms) ∙ is_change.count ∙ en) is.long
          (λ i h b. ap (λ (u : ℕ → Polynomial n V). coefficient (exps n) m.scalars.ops (u i) b) (Canonicals.put-move_from m n change) ∙ parts i h b ∙ form_same i h b))
          (subst (λ z. IsMoveExactly m z 16 (map (jet z m.scalars 16) (move_from m z change)) c) en exactly)

-- ---- the matrix of the program

module _ {E V : Type 0} (m : Meaning E V) (l : ScalarLaws m.scalars) (n : ℕ) where
  -- an entry that is set
  set_entry : (w : ℕ → ℕ → V) (entries : List E) (i j p : ℕ) (x : E) → p ≡ n * i + j → i < n → j < n → m.is_elem x → HasMatrix m n w entries → HasMatrix m n (changed m l n w i j (m.value x)) (set entries p x)
  set_entry w entries i j p x e hi hj valid h =
      let r = MatrixMoves.set_entry m l n w entries i j x hi hj valid (record { elems = h.elems; count = h.count; same = h.same }) in
      subst (λ z. HasMatrix m n (changed m l n w i j (m.value x)) (set entries z x)) (sym e) (record { elems = r.elems; count = r.count; same = r.same })

  -- the identity with four entries that are set
  pub plane_entries : 2 ≤ n → (entries : List E) (a b c d : E) → m.is_elem a → m.is_elem b → m.is_elem c → m.is_elem d → HasMatrix m n (unit_at m.scalars.ops) entries
      → (k : ℕ) → k ≡ n → HasMatrix m n (plane_of m.scalars (m.value a) (m.value b) (m.value c) (m.value d)) (set (set (set (set entries 0 a) 1 b) k c) (k + 1) d)
  plane_entries two entries a b c d va vb vc vd unit k e =
      let e1 = set_entry (unit_at m.scalars.ops) entries 0 0 0 a (omega arith) (omega arith) (omega arith) va unit in
      let e2 = set_entry (changed m l n (unit_at m.scalars.ops) 0 0 (m.value a)) (set entries 0 a) 0 1 1 b (omega arith) (omega arith) (omega arith) vb e1 in
      let e3 = set_entry (changed m l n (changed m l n (unit_at m.scalars.ops) 0 0 (m.value a)) 0 1 (m.value b)) (set (set entries 0 a) 1 b) 1 0 k c (omega arith) (omega arith) (omega arith) vc e2 in
      let e4 = set_entry (changed m l n (changed m l n (changed m l n (unit_at m.scalars.ops) 0 0 (m.value a)) 0 1 (m.value b)) 1 0 (m.value c)) (set (set (set entries 0 a) 1 b) k c) 1 1 (k + 1) d (omega arith) (omega arith) (omega arith) vd e3 in
      record { elems = e4.elems; count = e4.count; same = λ i j hi hj. e4.same i j hi hj ∙ each i j }
    where
      each : (i j : ℕ) → cond (eqb i 1 && eqb j 1) (m.value d) (cond (eqb i 1 && eqb j 0) (m.value c) (cond (eqb i 0 && eqb j 1) (m.value b) (cond (eqb i 0 && eqb j 0) (m.value a) (unit_at m.scalars.ops i j))))
          ≡ plane_of m.scalars (m.value a) (m.value b) (m.value c) (m.value d) i j
      each zero zero = refl
      each zero (suc zero) = refl
      each zero (suc (suc j)) = rw (far_from_0 j, far_from_1 j, far_0 j) refl
      each (suc zero) zero = refl
      each (suc zero) (suc zero) = refl
      each (suc zero) (suc (suc j)) = rw (far_from_0 j, far_from_1 j, far_1 j) refl
      each (suc (suc i)) j = rw (far_from_0 i, far_from_1 i) refl
