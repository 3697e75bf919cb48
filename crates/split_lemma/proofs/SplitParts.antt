-- The parts of a split move as the parts of a change of coordinates.
use Rattle.std.proofs.Common.{◌≡◌, ℕ, zero, suc, ◌+◌, ◌-◌, ◌*◌, ◌<◌, ◌≤◌, Bool, true, false, cond, leb, List, [], ◌∷◌, ◌++◌, map, length, get_or, All, refl, sym, ap, ap₂, subst, ◌∙◌, append-nil, add-one, arith}
use Rattle.std.specs.List.{flat_map}
use Rattle.std.specs.Prelude.{nat_lt}
use Rattle.std.proofs.lemmas.List.{map-append, get_or-map, length-map}
use Rattle.jet_law.proofs.Gather.{filter-append}
use Rattle.std.proofs.lemmas.Bool.{lt-leb}
use Rattle.ring_theory.specs.Scalars.{Scalars, ScalarLaws, Meaning, MeaningLaws}
use Rattle.ring_theory.proofs.ValueSet.{values_are_set}
use Rattle.poly_law.specs.Sums.{unit_at}
use Rattle.poly_law.specs.Exps.{variable, degree, lower}
use Rattle.poly_law.specs.ExpList.{exps}
use Rattle.poly_law.specs.Poly.{coefficient, term, cut, SameTo}
use Rattle.poly_law.specs.Polynomials.{Polynomial}
use Rattle.poly_law.proofs.ExpLists.{exps_are}
use Rattle.poly_law.proofs.ExpLaws
use Rattle.poly_law.proofs.Order
use Rattle.mono_exp.specs.declared.exponent.Exp.{Exp}
use Rattle.mono_exp.specs.Exponents.{numbers_below}
use Rattle.mono_exp.proofs.Lists.{length-numbers_below, get_or-numbers_below}
use Rattle.jet_law.specs.Terms.{poly_of}
use Rattle.jet_poly.specs.JetTerms.{JetTerms}
use Rattle.jet_subst.specs.Parts.{IsPart, part_of}
use Rattle.coord_change.specs.Changes.{entry_of}
use Rattle.coord_change.specs.Linear.{one_at}
use Rattle.coord_change.specs.Moves.{variable_of}
use Rattle.coord_change.proofs.ChangeLemmas
use Rattle.lin_row.specs.Plain.{Among}
use Rattle.move_law.specs.Split.{belongs_to, half_inverse, completed_by, completed, split_put, split_work_at, split_move, split_work}
use Rattle.move_law.specs.Work.{IsWorkHigh}
use Rattle.coord_change.specs.MoveJets.{IsJetFor, IsMoveExactly}
use Rattle.split_lemma.proofs.Belonging.{belongs_facts}
use Rattle.split_lemma.proofs.CompletedTerms.{among_mapped}

-- the variable alone, as a jet of order k
pub variable_part : {E V : Type 0} (m : Meaning E V) → MeaningLaws m → (n k i : ℕ) → i < n → n ≤ 8 → 1 ≤ k → (f : JetTerms E) (a : Exp) (one : E) → a.e ≡ one_at i → m.is_elem one → m.value one ≡ m.scalars.ops.one
    → f ≡ record { n = n; order = k; terms = (a, one) ∷ [] } → IsJetFor m n k (variable_of n m.scalars i) f
variable_part m laws n k i h e o f a one ea valid is q =
    let same = ap (λ z. record { n = n; order = k; terms = (record { e = z }, one) ∷ [] }) ea in
    subst (IsJetFor m n k (variable_of n m.scalars i)) (sym (q ∙ same))
    (record {
      jet = ChangeLemmas.variable_jet m laws n k i h e o one valid is;
      variables = refl;
      order = refl;
      polynomial = ChangeLemmas.variable_value m n i h e one is;
    })

module _ {E V : Type 0} (m : Meaning E V) (n k : ℕ) where
  -- the jets are those of the polynomials, one for each, in order
  abbrev pub AreJetsFor : List (Polynomial n V) → List (JetTerms E) → Type 0
  AreJetsFor [] [] = Unit {0}
  AreJetsFor [] (f ∷ fs) = ⊥
  AreJetsFor (p ∷ ps) [] = ⊥
  AreJetsFor (p ∷ ps) (f ∷ fs) = IsJetFor m n k p f × AreJetsFor ps fs

  are-push : (ps : List (Polynomial n V)) (fs : List (JetTerms E)) (p : Polynomial n V) (f : JetTerms E) → AreJetsFor ps fs → IsJetFor m n k p f → AreJetsFor (ps ++ p ∷ []) (fs ++ f ∷ [])
  are-push [] [] p f a h = (h, tt)
  are-push [] (g ∷ fs) p f a h = absurd a
  are-push (q ∷ ps) [] p f a h = absurd a
  are-push (q ∷ ps) (g ∷ fs) p f a h = (a.0, are-push ps fs p f a.1 h)

  -- one jet more
  pub are_more : (put : ℕ → Polynomial n V) (w : ℕ) (fs : List (JetTerms E)) (f : JetTerms E) → AreJetsFor (map put (numbers_below w)) fs → IsJetFor m n k (put w) f
      → AreJetsFor (map put (numbers_below (w + 1))) (fs ++ f ∷ [])
  are_more put w fs f a h = subst (λ ps. AreJetsFor ps (fs ++ f ∷ [])) (sym (one_more put w)) (are-push (map put (numbers_below w)) fs (put w) f a h)
    where
      one_more : {X : Type 0} (g : ℕ → X) (w : ℕ) → map g (numbers_below (w + 1)) ≡ map g (numbers_below w) ++ g w ∷ []
      one_more g w = rw add-one (map-append g (numbers_below w) (w ∷ []))

  polynomials : (ps : List (Polynomial n V)) (fs : List (JetTerms E)) → AreJetsFor ps fs → map (λ f. poly_of n m.value f.terms) fs ≡ ps
  polynomials [] [] a = refl
  polynomials [] (f ∷ fs) a = absurd a
  polynomials (p ∷ ps) [] a = absurd a
  polynomials (p ∷ ps) (f ∷ fs) a = ap₂ (λ x y. x ∷ y) a.0.polynomial (polynomials ps fs a.1)

  each : (P : JetTerms E → Type 0) → ((p : Polynomial n V) (f : JetTerms E) → IsJetFor m n k p f → P f) → (ps : List (Polynomial n V)) (fs : List (JetTerms E)) → AreJetsFor ps fs → All P fs
  each P g [] [] a i d h = absurd (omega arith)
  each P g [] (f ∷ fs) a i d h = absurd a
  each P g (p ∷ ps) [] a i d h = absurd a
  each P g (p ∷ ps) (f ∷ fs) a zero d h = g p f a.0
  each P g (p ∷ ps) (f ∷ fs) a (suc i) d h = each P g ps fs a.1 i d (omega arith)

  lengths : (ps : List (Polynomial n V)) (fs : List (JetTerms E)) → AreJetsFor ps fs → length fs ≡ length ps
  lengths [] [] a = refl
  lengths [] (f ∷ fs) a = absurd a
  lengths (p ∷ ps) [] a = absurd a
  lengths (p ∷ ps) (f ∷ fs) a = ap suc (lengths ps fs a.1)

  at : (ps : List (Polynomial n V)) (fs : List (JetTerms E)) → AreJetsFor ps fs → (i : ℕ) → i < length ps → part_of n m.value fs i ≡ get_or ps i []
  at [] [] a i h = absurd (omega arith)
  at [] (f ∷ fs) a i h = absurd a
  at (p ∷ ps) [] a i h = absurd a
  at (p ∷ ps) (f ∷ fs) a zero h = a.0.polynomial
  at (p ∷ ps) (f ∷ fs) a (suc i) h = at ps fs a.1 i (omega arith)

-- ---- up to degree 1 each part is its variable

module _ {V : Type 0} (s : Scalars V) (n c d : ℕ) where
  -- what the terms that belong to w give has degree d - 1
  low_gone : 3 ≤ d → (inverse : V) (w : ℕ) → w < n → (f : Polynomial n V) → cut (exps n) s.ops 1 (flat_map (completed_by n s c d inverse w) f) ≡ []
  low_gone three inverse w inside [] = refl
  low_gone three inverse w inside (t ∷ f) = step (low_gone three inverse w inside f) (belongs_to n c d w t.0) refl
    where
      high : belongs_to n c d w t.0 ≡ true → leb (degree (exps n) (lower (exps n) w t.0)) 1 ≡ false
      high e =
          let own = belongs_facts n c d w t.0 e in
          let down = ExpLaws.degree-lower (exps n) (exps_are n) w t.0 own.0 inside in
          let total = own.1 in
          lt-leb (degree (exps n) (lower (exps n) w t.0)) 1 (omega arith)

      step : cut (exps n) s.ops 1 (flat_map (completed_by n s c d inverse w) f) ≡ [] → (b : Bool) → belongs_to n c d w t.0 ≡ b
          → cut (exps n) s.ops 1 (cond b ((lower (exps n) w t.0, s.ops.neg (s.ops.mul t.1 inverse)) ∷ []) [] ++ flat_map (completed_by n s c d inverse w) f) ≡ []
      step rest false e = rest
      step rest true e =
          ap (λ b. cond b ((lower (exps n) w t.0, s.ops.neg (s.ops.mul t.1 inverse)) ∷ cut (exps n) s.ops 1 (flat_map (completed_by n s c d inverse w) f)) (cut (exps n) s.ops 1 (flat_map (completed_by n s c d inverse w) f))) (high e) ∙ rest

  cut_put : 3 ≤ d → (squares : List V) (f : Polynomial n V) (w : ℕ) → w < n → cut (exps n) s.ops 1 (split_put n s c d squares f w) ≡ cut (exps n) s.ops 1 (variable_of n s w)
  unfolding completed
  cut_put three squares f w inside = step (nat_lt w c)
    where
      step : (b : Bool) → cut (exps n) s.ops 1 (cond b (variable_of n s w) (variable_of n s w ++ completed n s c d (get_or squares (w - c) s.ops.zero) w f)) ≡ cut (exps n) s.ops 1 (variable_of n s w)
      step true = refl
      step false =
          filter-append (λ t. leb (degree (exps n) t.0) 1) (variable_of n s w) (flat_map (completed_by n s c d (half_inverse s (get_or squares (w - c) s.ops.zero)) w) f)
          ∙ ap (λ z. cut (exps n) s.ops 1 (variable_of n s w) ++ z) (low_gone three (half_inverse s (get_or squares (w - c) s.ops.zero)) w inside f)
          ∙ append-nil (cut (exps n) s.ops 1 (variable_of n s w))

  pub put_near : ScalarLaws s → 3 ≤ d → (squares : List V) (f : Polynomial n V) (w : ℕ) → w < n → SameTo (exps n) s.ops 1 (term (exps n) s.ops (variable (exps n) w)) (split_put n s c d squares f w)
  put_near laws three squares f w inside b low =
      sym (Order.cut_same_to (exps n) (exps_are n) s.ops laws.ring 1 (variable_of n s w) b low)
      ∙ ap (λ z. coefficient (exps n) s.ops z b) (sym (cut_put three squares f w inside))
      ∙ Order.cut_same_to (exps n) (exps_are n) s.ops laws.ring 1 (split_put n s c d squares f w) b low

-- the change with these parts and the identity matrix is the split move
pub split_is : {E V : Type 0} (m : Meaning E V) → MeaningLaws m → (n c d : ℕ) → 1 ≤ n → n ≤ 8 → 3 ≤ d → (squares : List V) (f : Polynomial n V) (parts : List (JetTerms E)) (inverse : List E)
    → AreJetsFor m n 16 (map (split_put n m.scalars c d squares f) (numbers_below n)) parts
    → All m.is_elem inverse → length inverse ≡ n * n → ((i j : ℕ) → i < n → j < n → entry_of m n inverse i j ≡ unit_at m.scalars.ops i j)
    → IsMoveExactly m n 16 (split_move n m.scalars c d squares f) (record { n = n; order = 16; parts = parts; inverse = inverse })
unfolding split_move
split_is {E} {V} m laws n c d given few three squares f parts inverse are elems entries identity =
    let put = split_put n m.scalars c d squares f in
    let ps = map put (numbers_below n) in
    let long : length ps ≡ n = length-map (numbers_below n) put ∙ length-numbers_below n in
    record {
      change = record {
        given = given;
        at_most_8_variables = few;
        order_at_most_17 = omega arith;
        count = lengths m n 16 ps parts are ∙ long;
        parts = each m n 16 (IsPart m n) (λ p q h. record { jet = h.jet; variables = h.variables }) ps parts are;
        orders = each m n 16 (λ p. p.order ≡ 16) (λ p q h. h.order) ps parts are;
        elems = elems;
        entries = entries;
        invertible = ChangeLemmas.invertible_same_to (exps n) (exps_are n) m.scalars.ops laws.numbers.ring (λ i. term (exps n) m.scalars.ops (variable (exps n) i)) (part_of n m.value parts) (unit_at m.scalars.ops) (entry_of m n inverse)
            (λ i h b low. put_near m.scalars n c d laws.numbers three squares f i h b low ∙ sym (ap (λ z. coefficient (exps n) m.scalars.ops z b)
            (at m n 16 ps parts are i (omega (arith, long)) ∙ get_or-map put (numbers_below n) i 0 [] (let l = length-numbers_below n in omega arith) ∙ ap put (get_or-numbers_below n i 0 h))))
            (λ i j h g. sym (identity i j h g))
            (ChangeLemmas.identity_invertible (exps n) (exps_are n) m.scalars.ops laws.numbers.ring (values_are_set m.scalars laws.numbers));
      };
      variables = refl;
      order = refl;
      parts = polynomials m n 16 ps parts are;
    }

-- the operations of one part are among those of the move
pub part_high : {V : Type 0} (s : Scalars V) (n c d : ℕ) (squares : List V) (f : Polynomial n V) (w : ℕ) → w < n → Among (IsWorkHigh n s) (split_work_at n s c d squares f w) → Among (IsWorkHigh n s) (split_work n s c d squares f)
unfolding split_work
part_high s n c d squares f w h high =
    among_mapped (IsWorkHigh n s) (split_work_at n s c d squares f) (numbers_below n) w w (let l = length-numbers_below n in omega arith) (sym (get_or-numbers_below n w w h)) high
