-- The moves of x and y that a finish makes: what they put, and that their linear parts are regular.
use Rattle.std.proofs.Common.{◌≡◌, ◌≢◌, ℕ, ◌+◌, ◌<◌, ◌≤◌, Bool, true, false, cond, eqb, eqb-true, ne_eqb, [], ◌∷◌, ◌++◌, refl, sym, ap, ap₂, subst, ◌∙◌, arith}
use Rattle.ring_theory.specs.Scalars.{Scalars, ScalarLaws, Meaning}
use Rattle.poly_law.specs.Sums.{unit_at}
use Rattle.poly_law.specs.Exps.{same, variable}
use Rattle.poly_law.specs.ExpList.{ExpList, exps}
use Rattle.poly_law.specs.Poly.{coefficient}
use Rattle.poly_law.specs.Polynomials.{Polynomial, SameToIn, StartsAtIn}
use Rattle.poly_law.proofs.ExpLists.{exps_are}
use Rattle.poly_law.proofs.ExpLaws
use Rattle.poly_law.proofs.Order
use Rattle.poly_law.proofs.Sums
use Rattle.mono_exp.specs.Exponents.{numbers_below}
use Rattle.mono_exp.proofs.Lists.{map-same, numbers_are_below}
use Rattle.jet_law.specs.Canonical.{monomial_in}
use Rattle.jet_poly.specs.JetTerms.{JetTerms}
use Rattle.coord_change.specs.MoveJets.{IsJetFor}
use Rattle.coord_change.specs.Moves.{move_of, variable_of}
use Rattle.coord_change.proofs.Canonicals.{jet_of_same}
use Rattle.kill_table.specs.Moves.{IsPutFor}
use Rattle.hessian_rank.proofs.LinearMoves.{variable_at}
use Rattle.move_law.specs.Moves.{term_of}
use Rattle.move_law.specs.Patterns.{two}
use Rattle.rules_corank2.specs.Puts.{ArePut}
use Rattle.rules_corank2.proofs.PlaneTerms.{x_is, degree-two}
use Rattle.rules_corank2.proofs.TwoPuts.{starts-term, starts-variable, starts-more, more_at, pair_regular, swap_regular}

-- polynomials with one jet are put alike
pub put_same : {E V : Type 0} (m : Meaning E V) → ScalarLaws m.scalars → (n o : ℕ) (f g : Polynomial n V) → SameToIn n m.scalars.ops o f g → (p : JetTerms E) → IsPutFor m n o f p → IsPutFor m n o g p
put_same m l n o f g e p = subst (λ z. IsJetFor m n o z p) (jet_of_same n m.scalars l o f g e)

-- a move that puts something for x alone
pub alone : {V : Type 0} (n : ℕ) (s : Scalars V) (f : Polynomial n V) → move_of n s ((0, f) ∷ []) ≡ move_of n s ((0, f) ∷ (1, variable_of n s 1) ∷ [])
unfolding move_of
alone n s f = map-same (λ k. k < n) (λ k. cond (eqb 0 k) f (variable_of n s k)) (λ k. cond (eqb 0 k) f (cond (eqb 1 k) (variable_of n s 1) (variable_of n s k))) (λ k g. step k (eqb 0 k) (eqb 1 k) refl) (numbers_below n) (numbers_are_below n)
  where
    step : (k : ℕ) (a b : Bool) → eqb 1 k ≡ b → cond a f (variable_of n s k) ≡ cond a f (cond b (variable_of n s 1) (variable_of n s k))
    step k true b e = refl
    step k false true e = ap (variable_of n s) (sym (eqb-true 1 k e))
    step k false false e = refl

module _ {V : Type 0} (n : ℕ) (s : Scalars V) (l : ScalarLaws s) where
  -- two terms in each other's place
  pub exchanged_terms : (k : ℕ) (t u : ExpList n × V) (f : Polynomial n V) → SameToIn n s.ops k (t ∷ u ∷ f) (u ∷ t ∷ f)
  exchanged_terms k t u f b d =
      Sums.add_left_comm s.ops l.ring (cond (same (exps n) t.0 b) t.1 s.ops.zero) (cond (same (exps n) u.0 b) u.1 s.ops.zero) (coefficient (exps n) s.ops f b)

  module _ (wide : 2 ≤ n) where
    high-two : (v : V) (i k : ℕ) → 2 ≤ i + k → StartsAtIn n s.ops 2 (term_of n s v (two i k))
    high-two v i k h = starts-term n s l 2 (monomial_in n (two i k)) v (let d = degree-two n i k wide in omega arith)

    -- x and a multiple of y^2 are without
    differ : (b : ℕ) → b ≢ 0 → variable (exps n) 0 ≡ variable (exps n) b → ⊥
    differ b ne e =
        let here : (exps n).at (variable (exps n) 0) 0 ≡ 1 = ExpLaws.at-variable (exps n) (exps_are n) 0 0 (omega arith) in
        let there : (exps n).at (variable (exps n) b) 0 ≡ 0 = ExpLaws.at-variable (exps n) (exps_are n) b 0 (omega arith) ∙ ap (λ z. cond {A = ℕ} z 1 0) (ne_eqb 0 b (λ q. ne (sym q))) in
        let both : (exps n).at (variable (exps n) 0) 0 ≡ (exps n).at (variable (exps n) b) 0 = ap (λ z. (exps n).at z 0) e in
        let bad : 1 ≡ 0 = sym here ∙ both ∙ there in
        absurd (omega arith)

    -- y, a multiple of x and one of y^2
    module _ (c d : V) where
      abbrev pub bent : Polynomial n V
      bent = variable_of n s 1 ++ term_of n s c (two 1 0) ++ term_of n s d (two 0 2)

      bent_rest : (b : ℕ) → b < n → b ≢ 0 → coefficient (exps n) s.ops bent (variable (exps n) b) ≡ unit_at s.ops 1 b
      bent_rest b g ne =
          Order.coefficient-append (exps n) (exps_are n) s.ops l.ring (variable_of n s 1) (term_of n s c (two 1 0) ++ term_of n s d (two 0 2)) (variable (exps n) b)
          ∙ ap₂ s.ops.add (variable_at n s l 1 b (omega arith) g)
          (ap₂ s.ops.add (ap (λ z. cond z c s.ops.zero) (ExpLaws.same-no (exps n) (exps_are n) (monomial_in n (two 1 0)) (variable (exps n) b) (λ e. differ b ne (sym (x_is n) ∙ e))))
          (high-two d 0 2 (omega arith) (variable (exps n) b) (let q = ExpLaws.degree-variable (exps n) (exps_are n) b g in omega arith))
          ∙ l.ring.add_zero s.ops.zero)
          ∙ l.ring.add_zero (unit_at s.ops 1 b)

      bent_low : StartsAtIn n s.ops 1 bent
      bent_low =
          Order.starts_append (exps n) (exps_are n) s.ops l.ring 1 (variable_of n s 1) (term_of n s c (two 1 0) ++ term_of n s d (two 0 2)) (starts-variable n s l 1 (omega arith))
          (Order.starts_append (exps n) (exps_are n) s.ops l.ring 1 (term_of n s c (two 1 0)) (term_of n s d (two 0 2)) (starts-term n s l 1 (monomial_in n (two 1 0)) c (let q = degree-two n 1 0 wide in omega arith))
          (λ b q. high-two d 0 2 (omega arith) b (omega arith)))

module _ {E V : Type 0} (m : Meaning E V) (l : ScalarLaws m.scalars) (n o : ℕ) (wide : 2 ≤ n) (p q : JetTerms E) where
  -- x and a multiple of y^2, and y
  pub root_put : (v : V) → IsPutFor m n o (variable_of n m.scalars 0 ++ term_of n m.scalars v (two 0 2)) p → IsPutFor m n o (variable_of n m.scalars 1) q → ArePut m n o 0 1 p q
  root_put v f_is h_is = record {
    first = variable_of n m.scalars 0 ++ term_of n m.scalars v (two 0 2);
    second = variable_of n m.scalars 1;
    first_is = f_is;
    second_is = h_is;
    first_low = starts-more n m.scalars l 0 (omega arith) (term_of n m.scalars v (two 0 2)) (high-two n m.scalars l wide v 0 2 (omega arith));
    second_low = starts-variable n m.scalars l 1 (omega arith);
    regular =
        pair_regular n m.scalars l 0 1 (variable_of n m.scalars 0 ++ term_of n m.scalars v (two 0 2)) (variable_of n m.scalars 1) (omega arith) (omega arith) (λ e. omega arith)
        (more_at n m.scalars l 0 (omega arith) (term_of n m.scalars v (two 0 2)) (high-two n m.scalars l wide v 0 2 (omega arith)))
        (λ b g ne. variable_at n m.scalars l 1 b (omega arith) g);
  }

  -- x and a multiple of x y, and y with multiples of x and y^2
  pub tail_put : (u c d : V) → IsPutFor m n o (variable_of n m.scalars 0 ++ term_of n m.scalars u (two 1 1)) p → IsPutFor m n o (bent n m.scalars l wide c d) q → ArePut m n o 0 1 p q
  tail_put u c d f_is h_is = record {
    first = variable_of n m.scalars 0 ++ term_of n m.scalars u (two 1 1);
    second = bent n m.scalars l wide c d;
    first_is = f_is;
    second_is = h_is;
    first_low = starts-more n m.scalars l 0 (omega arith) (term_of n m.scalars u (two 1 1)) (high-two n m.scalars l wide u 1 1 (omega arith));
    second_low = bent_low n m.scalars l wide c d;
    regular =
        pair_regular n m.scalars l 0 1 (variable_of n m.scalars 0 ++ term_of n m.scalars u (two 1 1)) (bent n m.scalars l wide c d) (omega arith) (omega arith) (λ e. omega arith)
        (more_at n m.scalars l 0 (omega arith) (term_of n m.scalars u (two 1 1)) (high-two n m.scalars l wide u 1 1 (omega arith))) (bent_rest n m.scalars l wide c d);
  }

  -- y and x
  pub swap_put : IsPutFor m n o (variable_of n m.scalars 1) p → IsPutFor m n o (variable_of n m.scalars 0) q → ArePut m n o 0 1 p q
  swap_put f_is h_is = record {
    first = variable_of n m.scalars 1;
    second = variable_of n m.scalars 0;
    first_is = f_is;
    second_is = h_is;
    first_low = starts-variable n m.scalars l 1 (omega arith);
    second_low = starts-variable n m.scalars l 0 (omega arith);
    regular =
        swap_regular n m.scalars l 0 1 (variable_of n m.scalars 1) (variable_of n m.scalars 0) (omega arith) (omega arith) (λ e. omega arith)
        (λ b g. variable_at n m.scalars l 1 b (omega arith) g) (λ b g. variable_at n m.scalars l 0 b (omega arith) g);
  }
