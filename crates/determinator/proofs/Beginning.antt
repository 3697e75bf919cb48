-- The first step of the run.
use Rattle.std.proofs.Common.{◌≡◌, ◌≢◌, ℕ, zero, suc, ◌+◌, ◌<◌, ◌≤◌, ◌⊎◌, Bool, true, false, cond, ◌||◌, nat_le, eqb, eqb-true, eq-eqb, ne_eqb, le-leb, inl, inr, List, [], ◌∷◌, map, refl, sym, ◌∙◌, ap, ap₂, subst, true≢false, arith}
use Rattle.std.specs.Prelude.{◌-◌}
use Rattle.std.specs.List.{AllByRecursion}
use Rattle.ring_theory.specs.Rational.{Rational}
use Rattle.ring_theory.specs.Scalars.{Scalars}
use Rattle.ring_theory.specs.Height.{rational_scalars}
use Rattle.ring_theory.proofs.RationalLaws.{rational_scalar_laws, rational_inverts}
use Rattle.ring_law.specs.declared.fraction.Frac.{Frac}
use Rattle.ring_law.specs.Fraction.{rational_meaning}
use Rattle.ext_algebra.specs.declared.algebra.Algebra.TheVariants as algebras
use Rattle.ext_algebra.specs.declared.algebra.Ext.{Ext}
use Rattle.ext_algebra.specs.Algebra.{scalars}
use Rattle.poly_law.specs.Exps.{degree, variable, plus, lower}
use Rattle.poly_law.specs.ExpList.{ExpList, exps}
use Rattle.poly_law.specs.Poly.{square}
use Rattle.poly_law.specs.Polynomials.{Polynomial, StartsAtIn, coefficient_in}
use Rattle.poly_law.proofs.ExpLists.{exps_are}
use Rattle.poly_law.proofs.ExpLaws
use Rattle.mono_exp.specs.Exponents.{numbers_below}
use Rattle.mono_exp.proofs.Lists.{Each, numbers_are_below}
use Rattle.jet_law.specs.Canonical.{jet}
use Rattle.jet_poly.specs.JetTerms.{JetTerms}
use Rattle.jet_poly.specs.Jets.{polynomial_of}
use Rattle.germ_law.proofs.Canonical
use Rattle.poly_text.specs.declared.name.Name.{Name}
use Rattle.cert_text.specs.declared.report.Answer.{Answer}
use Rattle.cert_text.specs.declared.report.Phase.TheVariants as phases
use Rattle.normal_forms.specs.declared.pattern.Pattern.TheVariants as patterns
use Rattle.coord_change.specs.declared.change.Change.{Change}
use Rattle.coord_change.specs.Moves.{at}
use Rattle.move_law.specs.Moves.{pair_exponents}
use Rattle.move_law.specs.Hessian.{hessian_move, hessian_work, corank}
use Rattle.coord_change.specs.Chains.{ChainParts}
use Rattle.split_lemma.specs.Splits.{AnyHigh}
use Rattle.coord_change.specs.MoveJets.{IsMoveExactly}
use Rattle.planned_law.specs.Planned.{is_unbuilt}
use Rattle.hessian_rank.specs.Diagonals.{IsSumOfSquares}
use Rattle.hessian_rank.proofs.PairExponents.{pair_is}
use Rattle.hessian_rank.proofs.SumOfSquares as sums
use Rattle.plan_law.specs.Outcomes as outcomes
use Rattle.plan_law.specs.Pieces.{HasHigh}
use Rattle.plan_law.specs.Plan.{IsPhaseHigh, corank_of_germ, started, first_move, first_jet}
use Rattle.plan_law.specs.Run as run
use Rattle.plan_law.specs.Run.{IsHighFrom, in_end, ends, tests, searching, brought, carried_by, composing_pieces}
use Rattle.report_law.proofs.Splitting.{and_both}
use Rattle.determinator.specs.Carried.{IsPastList}
use Rattle.determinator.specs.Places.{IsPlace}
use Rattle.determinator.specs.Reports.{IsReport}
use Rattle.split_lemma.specs.SplitForms.{IsSplitUpTo, HasSquares}
use Rattle.determinator.specs.Starts.{IsGermJet, IsJetOfGerm, IsFirstChain, IsBegun}
use Rattle.determinator.specs.declared.start.Begun.TheVariants as begun
use Rattle.determinator.specs.Turns.{IsStep, ended, in_search}
use Rattle.determinator.specs.declared.step.Step.TheVariants as steps
use Rattle.determinator.proofs.Starting.{scalars_same, first_jet_is, low_part, high_hessian}

-- ---- a sum of squares

small : (d : ℕ) → d ≤ 2 → (d ≡ 0) ⊎ ((d ≡ 1) ⊎ (d ≡ 2))
small d h = grind arith

either : (i c : ℕ) → (i < c) ⊎ (c ≤ i)
either i c = grind arith

-- a monomial of degree 2 is the product of two variables
pub two_variables : (n : ℕ) (m : ExpList n) → degree (exps n) m ≡ 2 → (i : ℕ) × (j : ℕ) × (i < n) × (j < n) × (m ≡ plus (exps n) (variable (exps n) i) (variable (exps n) j))
two_variables n m d =
    let x = exps n in
    let first = ExpLaws.positive_term n (x.at m) (let two : degree x m ≡ 2 = d in omega arith) in
    let i : ℕ = first.0 in
    let rest = ExpLaws.variable_of_degree x (exps_are n) (lower x i m) (let l = ExpLaws.degree-lower x (exps_are n) i m first.2 first.1 in omega arith) in
    (i, rest.0, first.1, rest.1, sym (ExpLaws.variable-lower x (exps_are n) i m first.2) ∙ ap (plus x (variable x i)) rest.2)

module _ (n c : ℕ) (g : Polynomial n Rational) (h : IsSumOfSquares n rational_scalars c g) where
  -- at a monomial of degree at most 2 that is no square of a square variable there is nothing
  nothing_at : (m : ExpList n) → degree (exps n) m ≤ 2 → ((w : ℕ) → c ≤ w → w < n → m ≡ square (exps n) (exps c) rational_scalars.ops w → ⊥) → coefficient_in n rational_scalars.ops g m ≡ rational_scalars.ops.zero
  nothing_at m le apart = cases (small (degree (exps n) m) le)
    where
      pair : (i j : ℕ) → i < n → j < n → m ≡ plus (exps n) (variable (exps n) i) (variable (exps n) j) → coefficient_in n rational_scalars.ops g m ≡ rational_scalars.ops.zero
      pair i j hi hj e = step (eqb i j) refl
        where
          here : (i' j' : ℕ) → m ≡ plus (exps n) (variable (exps n) i') (variable (exps n) j') → coefficient_in n rational_scalars.ops g m ≡ at n rational_scalars g (pair_exponents n i' j')
          here i' j' q = ap (coefficient_in n rational_scalars.ops g) (q ∙ pair_is n i' j')

          step : (b : Bool) → eqb i j ≡ b → coefficient_in n rational_scalars.ops g m ≡ rational_scalars.ops.zero
          step true q =
              let same : m ≡ plus (exps n) (variable (exps n) i) (variable (exps n) i) = e ∙ ap (λ k. plus (exps n) (variable (exps n) i) (variable (exps n) k)) (sym (eqb-true i j q)) in
              elim (either i c) [ inl l ↦ here i i same ∙ h.residual i l | inr l ↦ absurd (apart i l hi same) ]
          step false q = here i j e ∙ h.products i j hi hj (λ p. true≢false (sym (eq-eqb i j p) ∙ q))

      cases : (degree (exps n) m ≡ 0) ⊎ ((degree (exps n) m ≡ 1) ⊎ (degree (exps n) m ≡ 2)) → coefficient_in n rational_scalars.ops g m ≡ rational_scalars.ops.zero
      cases (inl z) = h.low m (omega arith)
      cases (inr (inl z)) = h.low m (omega arith)
      cases (inr (inr z)) = let two = two_variables n m z in pair two.0 two.1 two.2 two.3 two.4

  pub splits : IsSplitUpTo n rational_scalars c 2 g
  splits m w le lt some apart d = nothing_at m d other
    where
      at_square : (v : ℕ) → v < n → 0 < (exps n).at (square (exps n) (exps c) rational_scalars.ops v) w → w ≡ v
      at_square v hv some' = step (eqb w v) refl
        where
          step : (b : Bool) → eqb w v ≡ b → w ≡ v
          step true q = eqb-true w v q
          step false q =
              let one : (exps n).at (variable (exps n) v) w ≡ 0 = ExpLaws.at-variable (exps n) (exps_are n) v w lt ∙ ap (λ b. cond b 1 0) q in
              let two = ExpLaws.at-plus (exps n) (exps_are n) (variable (exps n) v) (variable (exps n) v) w lt in
              absurd (omega arith)

      other : (v : ℕ) → c ≤ v → v < n → m ≡ square (exps n) (exps c) rational_scalars.ops v → ⊥
      other v cv hv e = apart (e ∙ ap (square (exps n) (exps c) rational_scalars.ops) (sym (at_square v hv (subst (λ z. 0 < (exps n).at z w) e some))))

  pub has_squares : HasSquares n rational_scalars c g
  has_squares = all (numbers_below (n - c)) (numbers_are_below (n - c))
    where
      all : (is : List ℕ) → Each (λ i. i < n - c) is → AllByRecursion (λ v. v ≢ rational_scalars.ops.zero) (map (λ i. at n rational_scalars g (pair_exponents n (c + i) (c + i))) is)
      all [] b = tt
      all (i ∷ is) b = (h.squares (c + i) (omega arith) (let lt = b.0 in omega arith), all is b.1)

  pub without_residual : (m : ExpList n) → ((i : ℕ) → c ≤ i → i < n → (exps n).at m i ≡ 0) → degree (exps n) m ≤ 2 → coefficient_in n rational_scalars.ops g m ≡ rational_scalars.ops.zero
  without_residual m none le = nothing_at m le λ w cw hw e.
      let one : (exps n).at (variable (exps n) w) w ≡ 1 = ExpLaws.at-variable (exps n) (exps_are n) w w hw ∙ ap (λ b. cond b 1 0) (eq-eqb w w refl) in
      let two : (exps n).at m w ≡ (exps n).at (variable (exps n) w) w + (exps n).at (variable (exps n) w) w =
      ap (λ z. (exps n).at z w) e ∙ ExpLaws.at-plus (exps n) (exps_are n) (variable (exps n) w) (variable (exps n) w) w hw in
      let zero = none w cw hw in
      omega arith

-- ---- the move of the Hessian

module _ (n : ℕ) (g : Polynomial n Rational) (low : StartsAtIn n rational_scalars.ops 2 g) where
  -- the jet that it makes of the germ is a sum of squares
  pub is_sum : IsSumOfSquares n rational_scalars (corank_of_germ n g) (first_jet n g)
  is_sum = (sums.diagonalised n rational_scalars rational_scalar_laws rational_inverts (jet n rational_scalars 2 g) (λ m d. Canonical.jet_same_to n rational_scalars rational_scalar_laws 2 g m (omega arith) ∙ low m d)).sum

  pub corank_low : corank_of_germ n g ≤ n
  corank_low = (sums.diagonalised n rational_scalars rational_scalar_laws rational_inverts (jet n rational_scalars 2 g) (λ m d. Canonical.jet_same_to n rational_scalars rational_scalar_laws 2 g m (omega arith) ∙ low m d)).corank_at_most_n

-- the place after the move of the Hessian
pub first_place : (f : JetTerms Frac) (g : Polynomial f.n Rational) → IsJetOfGerm f g → (c : ℕ) → c ≡ corank_of_germ f.n g → (chain : ChainParts (Ext Frac))
    → IsFirstChain f g chain → IsPlace f.n c f.order g algebras.Rational 2 (first_move f.n g ∷ []) chain
first_place f g j c e chain first =
    let sum : IsSumOfSquares f.n rational_scalars c (first_jet f.n g) = subst (λ z. IsSumOfSquares f.n rational_scalars z (first_jet f.n g)) (sym e) (is_sum f.n g j.low) in
    record {
      corank = subst (λ z. z ≤ f.n) (sym e) (corank_low f.n g j.low);
      some = omega arith;
      chain_is = first;
      squares = subst (λ p. HasSquares f.n (scalars algebras.Rational) c p) (sym (first_jet_is f.n c g))
          (subst (λ (s : Scalars Rational). HasSquares f.n s c (first_jet f.n g)) (sym scalars_same) (has_squares f.n c (first_jet f.n g) sum));
      split = subst (λ p. IsSplitUpTo f.n (scalars algebras.Rational) c 2 p) (sym (first_jet_is f.n c g))
          (subst (λ (s : Scalars Rational). IsSplitUpTo f.n s c 2 (first_jet f.n g)) (sym scalars_same) (splits f.n c (first_jet f.n g) sum));
    }

-- from corank 4 on the jet is past the list: nothing residual is left in degree 2
pub first_past : (f : JetTerms Frac) → IsGermJet f → (g : Polynomial f.n Rational) → IsJetOfGerm f g → (c : ℕ) → c ≡ corank_of_germ f.n g → 4 ≤ c
    → IsPastList f.n c 2 algebras.Rational patterns.O (brought f.n c g algebras.Rational 2 (first_move f.n g ∷ []))
unfolding scalars
first_past f h g j c e many =
    let sum : IsSumOfSquares f.n rational_scalars c (first_jet f.n g) = subst (λ z. IsSumOfSquares f.n rational_scalars z (first_jet f.n g)) (sym e) (is_sum f.n g j.low) in
    let within = corank_low f.n g j.low in
    let few = h.at_most_8_variables in
    subst (IsPastList f.n c 2 algebras.Rational patterns.O) (sym (first_jet_is f.n c g)) (record {
      corank = and_both (nat_le 4 c) (nat_le c 8) (le-leb 4 c many) (le-leb c 8 (omega arith));
      order = refl;
      admitted = λ m none le no. without_residual f.n c (first_jet f.n g) sum m none le;
    })

module _ (names : List Name) (n last : ℕ) (g : Polynomial n Rational) where
  -- the first step, by whether the corank is at least 4
  abbrev first_step : ℕ → Bool → run.Step n
  first_step c b =
      cond b (ends (outcomes.outside patterns.O (carried_by n c g algebras.Rational 2 (first_move n g ∷ []) (first_jet n g))) (composing_pieces algebras.Rational 2 (first_move n g ∷ [])))
      (tests (searching (first_move n g ∷ [])) (first_jet n g))

  started_is : started n g ≡ first_step (corank_of_germ n g) (nat_le 4 (corank_of_germ n g))
  started_is = refl

  pub starts_searching : (c : ℕ) (chain : ChainParts (Ext Frac)) → c ≡ corank_of_germ n g → nat_le 4 c ≡ false → c ≤ 1 → IsPlace n c last g algebras.Rational 2 (first_move n g ∷ []) chain
      → IsStep names n (corank_of_germ n g) last g 2 (started n g) (steps.Searching chain)
  starts_searching c chain e few low place =
      subst (λ z. IsStep names n z last g 2 (first_step z (nat_le 4 z)) (steps.Searching chain)) e
      (subst (λ b. IsStep names n c last g 2 (first_step c b) (steps.Searching chain)) (sym few)
      (subst (λ f. IsStep names n c last g 2 (tests (searching (first_move n g ∷ [])) f) (steps.Searching chain)) (first_jet_is n c g) (in_search low place)))

  pub starts_outside : (c : ℕ) (answer : Answer) → c ≡ corank_of_germ n g → nat_le 4 c ≡ true
      → IsReport names n last g answer (outcomes.outside patterns.O (carried_by n c g algebras.Rational 2 (first_move n g ∷ []) (brought n c g algebras.Rational 2 (first_move n g ∷ []))))
      → IsStep names n (corank_of_germ n g) last g 2 (started n g) (steps.Ends answer)
  starts_outside c answer e many r =
      subst (λ z. IsStep names n z last g 2 (first_step z (nat_le 4 z)) (steps.Ends answer)) e
      (subst (λ b. IsStep names n c last g 2 (first_step c b) (steps.Ends answer)) (sym many)
      (ended (subst (λ f. IsReport names n last g answer (outcomes.outside patterns.O (carried_by n c g algebras.Rational 2 (first_move n g ∷ []) f))) (first_jet_is n c g) r)))

  pub high_outside : (c : ℕ) → c ≡ corank_of_germ n g → nat_le 4 c ≡ true → HasHigh phases.Finish (composing_pieces {n = n} algebras.Rational 2 (first_move n g ∷ [])) → IsPhaseHigh n g last phases.Finish
  high_outside c e many h =
      inr (subst (λ z. IsHighFrom n z g last phases.Finish 2 (first_step z (nat_le 4 z))) e
      (subst (λ b. IsHighFrom n c g last phases.Finish 2 (first_step c b)) (sym many) (in_end h)))

-- ---- the answer of the code

few : (k : ℕ) → k < 2 → nat_le 4 k ≡ false
few k h = grind arith

pub many : (k : ℕ) → 4 ≤ k → nat_le 4 k ≡ true
many k h = grind arith

built_few : (k : ℕ) → k < 2 → is_unbuilt k ≡ false
built_few zero h = refl
built_few (suc zero) h = refl
built_few (suc (suc k)) h = absurd (omega arith)

built_many : (k : ℕ) → 4 ≤ k → is_unbuilt k ≡ false
built_many k h = ap₂ (λ a b. a || b) (ne_eqb k 2 (λ e. omega arith)) (ne_eqb k 3 (λ e. omega arith))

unbuilt_is : (k : ℕ) → (k ≡ 2) ⊎ (k ≡ 3) → is_unbuilt k ≡ true
unbuilt_is k (inl e) = ap is_unbuilt e
unbuilt_is k (inr e) = ap is_unbuilt e

module _ (f : JetTerms Frac) (h : IsGermJet f) (g : Polynomial f.n Rational) (j : IsJetOfGerm f g) where
  pub corank_is : (c : ℕ) → c ≡ corank f.n rational_scalars (jet f.n rational_scalars 2 (polynomial_of rational_meaning f)) → c ≡ corank_of_germ f.n g
  corank_is c e = e ∙ ap (corank f.n rational_scalars) (low_part f g h j)

  pub move_is : (change : Change Frac) → IsMoveExactly rational_meaning f.n 16 (hessian_move f.n rational_scalars (jet f.n rational_scalars 2 (polynomial_of rational_meaning f))) change
      → IsMoveExactly rational_meaning f.n 16 (first_move f.n g) change
  move_is change m = subst (λ (q : Polynomial f.n Rational). IsMoveExactly rational_meaning f.n 16 (hessian_move f.n rational_scalars q) change) (low_part f g h j) m

  pub work_is : AnyHigh f.n rational_scalars (hessian_work f.n rational_scalars (jet f.n rational_scalars 2 (polynomial_of rational_meaning f))) → IsPhaseHigh f.n g f.order phases.Hessian
  work_is high = inl (high_hessian f.n g (subst (λ (q : Polynomial f.n Rational). AnyHigh f.n rational_scalars (hessian_work f.n rational_scalars q)) (low_part f g h j) high))

  pub begin_searching : (names : List Name) (c : ℕ) → c ≡ corank_of_germ f.n g → c < 2 → (chain : ChainParts (Ext Frac)) → IsFirstChain f g chain
      → IsBegun names f g (begun.First (record { corank = c; step = steps.Searching chain }))
  begin_searching names c e lt chain first =
      (subst (λ z. is_unbuilt z ≡ false) e (built_few c lt), e, starts_searching names f.n f.order g c chain e (few c lt) (omega arith) (first_place f g j c e chain first))

  pub begin_outside : (names : List Name) (c : ℕ) → c ≡ corank_of_germ f.n g → 4 ≤ c → (answer : Answer)
      → IsReport names f.n f.order g answer (outcomes.outside patterns.O (carried_by f.n c g algebras.Rational 2 (first_move f.n g ∷ []) (brought f.n c g algebras.Rational 2 (first_move f.n g ∷ []))))
      → IsBegun names f g (begun.First (record { corank = c; step = steps.Ends answer }))
  begin_outside names c e le answer r = (subst (λ z. is_unbuilt z ≡ false) e (built_many c le), e, starts_outside names f.n f.order g c answer e (many c le) r)

  pub begin_unbuilt : (names : List Name) (c : ℕ) → c ≡ corank_of_germ f.n g → (c ≡ 2) ⊎ (c ≡ 3) → IsBegun names f g begun.Unbuilt
  begin_unbuilt names c e b = subst (λ z. is_unbuilt z ≡ true) e (unbuilt_is c b)
