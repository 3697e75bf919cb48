-- Jets of terms that stand in the monomial order.
use Rattle.std.proofs.Common.{◌≡◌, ◌≢◌, ℕ, ◌≤◌, Bool, true, false, IsTrue, ◌↔◌, not, cond, List, [], ◌∷◌, sum, refl, sym, ap, subst, ◌∙◌}
use Rattle.std.specs.List.{filter}
use Rattle.ring_theory.specs.Scalars.{ScalarLaws, Meaning}
use Rattle.poly_law.specs.Exps.{same}
use Rattle.poly_law.specs.ExpList.{ExpList, exps}
use Rattle.poly_law.specs.Poly.{coefficient}
use Rattle.poly_law.proofs.Sums
use Rattle.mono_exp.specs.declared.exponent.Exp.{Exp}
use Rattle.mono_exp.specs.Exponents.{IsIn}
use Rattle.jet_law.specs.Terms.{exp_of, poly_of}
use Rattle.jet_poly.specs.JetTerms.{JetTerms}
use Rattle.jet_poly.proofs.KeptTerms.{kept-rising, kept-all}
use Rattle.kill_table.specs.Moves.{IsPutFor}
use Rattle.coord_change.proofs.Canonicals
use Rattle.rules_corank2.specs.Ordered.{AreOrdered}

-- whether the coefficient of a term is other than zero
abbrev pub has_unit : {E V : Type 0} → Meaning E V → Exp × E → Bool
has_unit m t = not (m.scalars.is_zero (m.value t.1))

module _ {E V : Type 0} (m : Meaning E V) (l : ScalarLaws m.scalars) where
  abbrev is_kept : Exp × E → Bool
  is_kept = has_unit m

  kept_unit : (t : Exp × E) → is_kept t ≡ true → m.value t.1 ≢ m.scalars.ops.zero
  kept_unit t e z = bad (sym e ∙ ap not ((l.zero_test (m.value t.1)).1 z))
    where
      bad : true ≡ false → ⊥
      bad q = cc q

  -- whether a number is zero, by a comparison with zero
  pub zero_true : (v : V) (r : Bool) (z : V) → z ≡ m.scalars.ops.zero → (IsTrue r ↔ (v ≡ z)) → r ≡ true → m.scalars.is_zero v ≡ true
  zero_true v r z none same e = (l.zero_test v).1 (same.0 e ∙ none)

  pub zero_false : (v : V) (r : Bool) (z : V) → z ≡ m.scalars.ops.zero → (IsTrue r ↔ (v ≡ z)) → r ≡ false → m.scalars.is_zero v ≡ false
  zero_false v r z none same e = step (m.scalars.is_zero v) refl
    where
      step : (b : Bool) → m.scalars.is_zero v ≡ b → m.scalars.is_zero v ≡ false
      step true q = let bad : true ≡ false = sym (same.1 ((l.zero_test v).0 q ∙ sym none)) ∙ e in cc bad
      step false q = q

  pub is_not : (v : V) → m.scalars.is_zero v ≡ false → v ≢ m.scalars.ops.zero
  is_not v e z = bad (sym ((l.zero_test v).1 z) ∙ e)
    where
      bad : true ≡ false → ⊥
      bad q = cc q

  pub unit_true : (t : Exp × E) (r : Bool) (z : V) → z ≡ m.scalars.ops.zero → (IsTrue r ↔ (m.value t.1 ≡ z)) → r ≡ false → has_unit m t ≡ true
  unit_true t r z none same e = ap not (zero_false (m.value t.1) r z none same e)

  pub unit_false : (t : Exp × E) (r : Bool) (z : V) → z ≡ m.scalars.ops.zero → (IsTrue r ↔ (m.value t.1 ≡ z)) → r ≡ true → has_unit m t ≡ false
  unit_false t r z none same e = ap not (zero_true (m.value t.1) r z none same e)

  module _ (n : ℕ) where
    -- terms without coefficients that are zero are the same polynomial
    kept_same : (f : List (Exp × E)) (b : ExpList n) → coefficient (exps n) m.scalars.ops (poly_of n m.value (filter is_kept f)) b ≡ coefficient (exps n) m.scalars.ops (poly_of n m.value f) b
    kept_same [] b = refl
    kept_same (t ∷ f) b = step (m.scalars.is_zero (m.value t.1)) refl (kept_same f b)
      where
        zero_here : (c : Bool) → m.value t.1 ≡ m.scalars.ops.zero → cond c (m.value t.1) m.scalars.ops.zero ≡ m.scalars.ops.zero
        zero_here true z = z
        zero_here false z = refl

        step : (c : Bool) → m.scalars.is_zero (m.value t.1) ≡ c → coefficient (exps n) m.scalars.ops (poly_of n m.value (filter is_kept f)) b ≡ coefficient (exps n) m.scalars.ops (poly_of n m.value f) b
            → coefficient (exps n) m.scalars.ops (poly_of n m.value (cond (not c) (t ∷ filter is_kept f) (filter is_kept f))) b
            ≡ m.scalars.ops.add (cond (same (exps n) (exp_of n t.0) b) (m.value t.1) m.scalars.ops.zero) (coefficient (exps n) m.scalars.ops (poly_of n m.value f) b)
        step true e rest =
            rest ∙ sym (Sums.zero_add m.scalars.ops l.ring (coefficient (exps n) m.scalars.ops (poly_of n m.value f) b))
            ∙ ap (λ z. m.scalars.ops.add z (coefficient (exps n) m.scalars.ops (poly_of n m.value f) b)) (sym (zero_here (same (exps n) (exp_of n t.0) b) ((l.zero_test (m.value t.1)).0 e)))
        step false e rest = ap (m.scalars.ops.add (cond (same (exps n) (exp_of n t.0) b) (m.value t.1) m.scalars.ops.zero)) rest

    -- the jet of terms in the monomial order, none above the order
    pub ordered_jet : (order : ℕ) (f : List (Exp × E)) → AreOrdered m n order f → (h : JetTerms E) → h ≡ record { n = n; order = order; terms = filter is_kept f } → IsPutFor m n order (poly_of n m.value f) h
    ordered_jet order f are h e =
        subst (IsPutFor m n order (poly_of n m.value f)) (sym e)
        (Canonicals.is_jet_for m n l order (record { n = n; order = order; terms = filter is_kept f }) (poly_of n m.value f)
        (record {
          variables = kept-all is_kept (λ t. IsIn n t.0.e) (λ t. IsIn n t.0.e) (λ t h e. h) f are.variables;
          degrees = kept-all is_kept (λ t. sum t.0.e ≤ order) (λ t. sum t.0.e ≤ order) (λ t h e. h) f are.degrees;
          elems = kept-all is_kept (λ t. m.is_elem t.1) (λ t. m.is_elem t.1) (λ t h e. h) f are.elems;
          units = kept-all is_kept (λ t. m.is_elem t.1) (λ t. m.value t.1 ≢ m.scalars.ops.zero) (λ t h e. kept_unit t e) f are.elems;
        }) refl refl (kept-rising is_kept f are.rising) (λ b d. kept_same f b))
