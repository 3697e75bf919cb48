-- The inverse of a change, one degree after the other.
use mathlib.Core.Path.{fun_ext}
use Rattle.std.proofs.Common.{◌≡◌, ◌≢◌, ℕ, zero, suc, ◌+◌, ◌-◌, ◌<◌, ◌≤◌, ◌⊎◌, inl, inr, Bool, true, false, cond, eqb, eqb-true, eq-eqb, ne_eqb, leb, List, ◌++◌, get_or, sum, All, ap, ap₂, sym, ◌∙◌, refl, subst, arith}
use Rattle.std.proofs.lemmas.Bool.{lt-leb}
use Rattle.std.proofs.Math.Decide.{dec_le}
use Rattle.ring_theory.specs.Ring.{RingOps, IsCommRing}
use Rattle.ring_theory.specs.Scalars.{Scalars, Meaning}
use Rattle.poly_law.specs.Sums.{sum_to}
use Rattle.poly_law.specs.Exps.{Exps, IsExps, variable, degree}
use Rattle.poly_law.specs.ExpList.{ExpList, exps}
use Rattle.poly_law.specs.Poly.{Terms, coefficient, scale, cut, term, Same, SameTo, StartsAt, monomial_of, subst_in, IsInvertible}
use Rattle.poly_law.specs.Polynomials.{Polynomial, SameIn, poly_in, substitute}
use Rattle.poly_law.specs.Laws.{IsInverse}
use Rattle.poly_law.proofs.ExpLists.{exps_are}
use Rattle.poly_law.proofs.ExpLaws
use Rattle.poly_law.proofs.Sums
use Rattle.poly_law.proofs.Pair
use Rattle.poly_law.proofs.Pair.{pair, at_only}
use Rattle.poly_law.proofs.Order
use Rattle.poly_law.proofs.Near
use Rattle.poly_law.proofs.Linear
use Rattle.poly_law.proofs.SubstOrder
use Rattle.poly_law.proofs.Change
use Rattle.poly_law.proofs.Inverse
use Rattle.mono_exp.specs.declared.exponent.Exp.{Exp}
use Rattle.mono_exp.specs.Exponents.{IsIn}
use Rattle.jet_law.specs.Terms.{exp_of, poly_of}
use Rattle.jet_law.proofs.TermLemmas.{degree-exp_of}
use Rattle.jet_poly.specs.JetTerms.{JetTerms, IsRising}
use Rattle.jet_poly.specs.Jets.{IsJet, component}
use Rattle.jet_subst.specs.Powers.{IsTruncation}
use Rattle.jet_subst.specs.Substitutions.{Summand, IsSubstHigh}
use Rattle.jet_subst.proofs.Reduced
use Rattle.jet_subst.proofs.Tables.{at-map, length-mapped}
use Rattle.jet_subst.proofs.PowerLemmas.{any_default}
use Rattle.coord_change.specs.Linear.{linear_form}
use Rattle.coord_change.specs.InverseChanges.{IsComponent, combination_of, corrected, inverse_to, SubstitutionIsHigh, CorrectionIsHigh}
use Rattle.coord_change.proofs.Dimension.{same_or}

-- ---- substitutions of polynomials that are equal
module _ {E F V : Type 0} (x : Exps E) (l : IsExps x) (y : Exps F) (m : IsExps y) (r : RingOps V) (c : IsCommRing r) (s : IsSet V) (u v : ℕ → Terms F V) (same : (i : ℕ) → i < x.count → Same y r (u i) (v i)) where
  pub subst_same : (f : Terms E V) → Same y r (subst_in x y r u f) (subst_in x y r v f)
  subst_same f b = SubstOrder.parts_same_to x l y m r c s (degree y b) u v (λ i h a g. same i h a) f b (omega arith)

  image-term : (w : ℕ → Terms F V) (a : E) → Same y r (subst_in x y r w (term x r a)) (monomial_of x y r w a)
  image-term w a b = SubstOrder.coefficient-subst x l y m r c s w (term x r a) b ∙ Near.pair-term x l r c s a (λ a. coefficient y r (monomial_of x y r w a) b)

  monomial_same : (a : E) → Same y r (monomial_of x y r u a) (monomial_of x y r v a)
  monomial_same a b = sym (image-term u a b) ∙ subst_same (term x r a) b ∙ image-term v a b

  truncation_same : (k : ℕ) (a : E) (p : Terms F V) → IsTruncation y r k (monomial_of x y r u a) p → IsTruncation y r k (monomial_of x y r v a) p
  truncation_same k a p = Reduced.truncation_same_to y m r c k (monomial_of x y r u a) (monomial_of x y r v a) p (λ b h. monomial_same a b)

module _ {E F V : Type 0} (x : Exps E) (l : IsExps x) (y : Exps F) (m : IsExps y) (s : Scalars V) (c : IsCommRing s.ops) (set : IsSet V) (u v : ℕ → Terms F V) (same : (i : ℕ) → i < x.count → Same y s.ops (u i) (v i)) (k : ℕ) (f : Terms E V) where
  -- their heights are the same
  pub subst_high_same : IsSubstHigh x y s k u f → IsSubstHigh x y s k v f
  subst_high_same (inl h) = inl (record {
    exponent = h.exponent;
    stands = h.stands;
    high = record {
      first = h.high.first;
      second = h.high.second;
      rest = h.high.rest;
      divides = h.high.divides;
      left = h.high.left;
      right = h.high.right;
      left_is = truncation_same x l y m s.ops c set u v same k h.high.first h.high.left h.high.left_is;
      right_is = truncation_same x l y m s.ops c set u v same k h.high.second h.high.right h.high.right_is;
      high = h.high.high;
    };
  })
  subst_high_same (inr (inl h)) = inr (inl (record { exponent = h.exponent; stands = h.stands; power = h.power; power_is = truncation_same x l y m s.ops c set u v same k h.exponent h.power h.power_is; high = h.high }))
  subst_high_same (inr (inr h)) = inr (inr (record {
    summands = h.summands;
    are = record {
      reduced = h.are.reduced;
      equal = h.are.equal;
      powers = λ i (d : Summand E F V) g. truncation_same x l y m s.ops c set u v same k _ _ (h.are.powers i d g);
    };
    high = h.high;
  }))

-- ---- components and combinations
module _ {V : Type 0} (n : ℕ) (r : RingOps V) (c : IsCommRing r) where
  pub coefficient-component : (d : ℕ) (f : Polynomial n V) (b : ExpList n) → coefficient (exps n) r (component n d f) b ≡ cond (eqb (degree (exps n) b) d) (coefficient (exps n) r f b) r.zero
  coefficient-component d f b = Order.coefficient-filter (exps n) (exps_are n) r c (λ a. eqb (degree (exps n) a) d) f b

  component_same : (d : ℕ) (f g : Polynomial n V) → SameIn n r f g → SameIn n r (component n d f) (component n d g)
  component_same d f g e b = coefficient-component d f b ∙ ap (λ z. cond (eqb (degree (exps n) b) d) z r.zero) (e b) ∙ sym (coefficient-component d g b)

  -- it is that of the truncation
  pub component-cut : (d : ℕ) (f : Polynomial n V) → SameIn n r (component n d (cut (exps n) r d f)) (component n d f)
  component-cut d f b = coefficient-component d (cut (exps n) r d f) b ∙ step (eqb (degree (exps n) b) d) refl ∙ sym (coefficient-component d f b)
    where
      step : (t : Bool) → eqb (degree (exps n) b) d ≡ t → cond t (coefficient (exps n) r (cut (exps n) r d f) b) r.zero ≡ cond t (coefficient (exps n) r f b) r.zero
      step true e = Order.cut_same_to (exps n) (exps_are n) r c d f b (let q = eqb-true (degree (exps n) b) d e in omega arith)
      step false e = refl

  component_low : (d : ℕ) (f : Polynomial n V) (b : ExpList n) → degree (exps n) b < d → coefficient (exps n) r (component n d f) b ≡ r.zero
  component_low d f b h = coefficient-component d f b ∙ ap (λ t. cond t (coefficient (exps n) r f b) r.zero) (ne_eqb (degree (exps n) b) d (λ e. omega arith))

  component_here : (d : ℕ) (f : Polynomial n V) (b : ExpList n) → degree (exps n) b ≡ d → coefficient (exps n) r (component n d f) b ≡ coefficient (exps n) r f b
  component_here d f b h = coefficient-component d f b ∙ ap (λ t. cond t (coefficient (exps n) r f b) r.zero) (eq-eqb (degree (exps n) b) d h)

  pub component_starts : (d : ℕ) (f e : Polynomial n V) → IsComponent n r d f e → StartsAt (exps n) r d e
  component_starts d f e q b h = q.equal b ∙ component_low d f b h

  pub component_of_same : (d : ℕ) (f g e : Polynomial n V) → SameIn n r f g → IsComponent n r d f e → IsComponent n r d g e
  component_of_same d f g e same q = record { reduced = q.reduced; equal = λ b. q.equal b ∙ component_same d f g same b }

  other_degree : (a b : ExpList n) → (degree (exps n) a ≡ degree (exps n) b → ⊥) → at_only (exps n) r b a ≡ r.zero
  other_degree a b ne = ap (λ t. cond t r.one r.zero) (ExpLaws.same-no (exps n) (exps_are n) a b (λ e. ne (ap (degree (exps n)) e)))

  coefficient-scale : (a : V) (f : Polynomial n V) (b : ExpList n) → coefficient (exps n) r (scale (exps n) r a f) b ≡ r.mul a (coefficient (exps n) r f b)
  coefficient-scale a f b = Pair.coefficient_is (exps n) r c (scale (exps n) r a f) b ∙ Pair.pair-scale (exps n) r c a f (at_only (exps n) r b) ∙ ap (r.mul a) (sym (Pair.coefficient_is (exps n) r c f b))

  pub coefficient-combination : (a : ℕ → V) (e : ℕ → Polynomial n V) (b : ExpList n) → coefficient (exps n) r (combination_of n r a e) b ≡ sum_to r n (λ t. r.mul (a t) (coefficient (exps n) r (e t) b))
  coefficient-combination a e b = Linear.coefficient-sum_to (exps n) (exps_are n) r c n (λ t. scale (exps n) r (a t) (e t)) b ∙ ap (sum_to r n) (fun_ext λ t. coefficient-scale (a t) (e t) b)

  pub combination_same : (a : ℕ → V) (e e' : ℕ → Polynomial n V) (b : ExpList n) → ((t : ℕ) → t < n → coefficient (exps n) r (e t) b ≡ coefficient (exps n) r (e' t) b)
      → coefficient (exps n) r (combination_of n r a e) b ≡ coefficient (exps n) r (combination_of n r a e') b
  combination_same a e e' b same =
      coefficient-combination a e b
      ∙ Sums.sum_to-cong r n (λ t. r.mul (a t) (coefficient (exps n) r (e t) b)) (λ t. r.mul (a t) (coefficient (exps n) r (e' t) b)) (λ t h. ap (r.mul (a t)) (same t h))
      ∙ sym (coefficient-combination a e' b)

  pub combination_starts : (a : ℕ → V) (e : ℕ → Polynomial n V) (d : ℕ) → ((t : ℕ) → t < n → StartsAt (exps n) r d (e t)) → StartsAt (exps n) r d (combination_of n r a e)
  combination_starts a e d starts b h = coefficient-combination a e b ∙ Sums.sum_to-nothing r c n (λ t. r.mul (a t) (coefficient (exps n) r (e t) b)) (λ t g. ap (r.mul (a t)) (starts t g b h) ∙ Sums.mul_zero r c (a t))

  pub cut_starts : (k d : ℕ) (f : Polynomial n V) → StartsAt (exps n) r d f → StartsAt (exps n) r d (cut (exps n) r k f)
  cut_starts k d f starts b h = Order.coefficient-cut (exps n) (exps_are n) r c k f b ∙ step (leb (degree (exps n) b) k)
    where
      step : (t : Bool) → cond t (coefficient (exps n) r f b) r.zero ≡ r.zero
      step true = starts b h
      step false = refl

  -- f less one combination or another
  pub less_same : (f f' : Polynomial n V) (a : ℕ → V) (e e' : ℕ → Polynomial n V) (b : ExpList n) → coefficient (exps n) r f b ≡ coefficient (exps n) r f' b → ((t : ℕ) → t < n → coefficient (exps n) r (e t) b ≡ coefficient (exps n) r (e' t) b)
      → coefficient (exps n) r (f ++ (poly_in n r).neg (combination_of n r a e)) b ≡ coefficient (exps n) r (f' ++ (poly_in n r).neg (combination_of n r a e')) b
  less_same f f' a e e' b first same =
      Order.coefficient-append (exps n) (exps_are n) r c f ((poly_in n r).neg (combination_of n r a e)) b
      ∙ ap₂ r.add first (Order.coefficient-neg (exps n) (exps_are n) r c (combination_of n r a e) b ∙ ap r.neg (combination_same a e e' b same) ∙ sym (Order.coefficient-neg (exps n) (exps_are n) r c (combination_of n r a e') b))
      ∙ sym (Order.coefficient-append (exps n) (exps_are n) r c f' ((poly_in n r).neg (combination_of n r a e')) b)

  -- a combination of components, cut at their degree
  combination-cut : (a : ℕ → V) (e f : ℕ → Polynomial n V) (d : ℕ) → ((t : ℕ) → t < n → IsComponent n r d (f t) (e t)) → SameIn n r (cut (exps n) r d (combination_of n r a e)) (combination_of n r a (λ t. component n d (f t)))
  combination-cut a e f d are b = elim (dec_le (degree (exps n) b) d) [
    | yes h ↦ Order.cut_same_to (exps n) (exps_are n) r c d (combination_of n r a e) b h ∙ combination_same a e (λ t. component n d (f t)) b (λ t g. (are t g).equal b)
    | no h ↦ Order.coefficient-cut (exps n) (exps_are n) r c d (combination_of n r a e) b ∙ ap (λ t. cond t (coefficient (exps n) r (combination_of n r a e) b) r.zero) (lt-leb (degree (exps n) b) d (omega arith))
        ∙ sym (coefficient-combination a (λ t. component n d (f t)) b
        ∙ Sums.sum_to-nothing r c n (λ t. r.mul (a t) (coefficient (exps n) r (component n d (f t)) b))
        (λ t g. ap (r.mul (a t)) (coefficient-component d (f t) b ∙ ap (λ t'. cond t' (coefficient (exps n) r (f t) b) r.zero) (ne_eqb (degree (exps n) b) d (λ q. omega arith))) ∙ Sums.mul_zero r c (a t)))
  ]

  -- what is corrected by a combination of components
  pub corrected_made : (a : ℕ → V) (psi g next : Polynomial n V) (e f : ℕ → Polynomial n V) (d : ℕ) → ((t : ℕ) → t < n → IsComponent n r d (f t) (e t)) → SameIn n r g (cut (exps n) r d (combination_of n r a e)) → next ≡ psi ++ (poly_in n r).neg g
      → SameIn n r next (psi ++ (poly_in n r).neg (combination_of n r a (λ t. component n d (f t))))
  corrected_made a psi g next e f d are value is b =
      ap (λ z. coefficient (exps n) r z b) is
      ∙ Order.coefficient-append (exps n) (exps_are n) r c psi ((poly_in n r).neg g) b
      ∙ ap (r.add (coefficient (exps n) r psi b)) (Order.coefficient-neg (exps n) (exps_are n) r c g b ∙ ap r.neg (value b ∙ combination-cut a e f d are b)
      ∙ sym (Order.coefficient-neg (exps n) (exps_are n) r c (combination_of n r a (λ t. component n d (f t))) b))
      ∙ sym (Order.coefficient-append (exps n) (exps_are n) r c psi ((poly_in n r).neg (combination_of n r a (λ t. component n d (f t)))) b)

  module _ (s : IsSet V) (parts : ℕ → Polynomial n V) (matrix : ℕ → ℕ → V) where
    -- polynomials that are equal are corrected to equal ones
    pub corrected_same : (u v : ℕ → Polynomial n V) → ((i : ℕ) → i < n → SameIn n r (u i) (v i)) → (d i : ℕ) → i < n → SameIn n r (corrected n r parts matrix u d i) (corrected n r parts matrix v d i)
    corrected_same u v same d i h b = less_same (u i) (v i) (matrix i) (λ t. component n d (substitute n n r u (parts t))) (λ t. component n d (substitute n n r v (parts t))) b (same i h b)
        (λ t g. component_same d (substitute n n r u (parts t)) (substitute n n r v (parts t)) (subst_same (exps n) (exps_are n) (exps n) (exps_are n) r c s u v same (parts t)) b)

    pub inverse_to-next : (d u : ℕ) → 1 ≤ d → inverse_to n r parts matrix (d + 1) u ≡ corrected n r parts matrix (inverse_to n r parts matrix d) (d + 1) u
    unfolding inverse_to
    inverse_to-next zero u h = absurd (omega arith)
    inverse_to-next (suc d) u h = subst (λ z. inverse_to n r parts matrix z u ≡ corrected n r parts matrix (inverse_to n r parts matrix (suc d)) z u) (let e : suc (suc d) ≡ suc d + 1 = omega arith in e) refl

    pub inverse_to-one : (u : ℕ) → inverse_to n r parts matrix 1 u ≡ linear_form n r (matrix u)
    unfolding inverse_to
    inverse_to-one u = refl

    module _ (q : IsInvertible (exps n) r parts matrix) where
      -- no constant terms, and the parts at psi are the variables up to degree d
      pub record IsRightTo (d : ℕ) (psi : ℕ → Polynomial n V) : Type 0 where
        pub none : (i : ℕ) → i < n → StartsAt (exps n) r 1 (psi i)
        pub right : (i : ℕ) → i < n → SameTo (exps n) r d (substitute n n r psi (parts i)) (term (exps n) r (variable (exps n) i))

      first : IsRightTo 1 (λ u. linear_form n r (matrix u))
      unfolding Change.back
      first = record {
        none = λ i h. Change.back_starts (exps n) (exps_are n) r c s parts matrix q i h;
        right = λ i h. Change.back_and_there (exps n) (exps_are n) r c s parts matrix q i h;
      }

      -- one more degree
      module _ (j : ℕ) (psi : ℕ → Polynomial n V) (old : IsRightTo (1 + j) psi) where
        abbrev better : ℕ → Polynomial n V
        better = Inverse.better (exps n) (exps_are n) r c s parts matrix q j psi old.none old.right

        abbrev wrong : ℕ → Polynomial n V
        wrong t = substitute n n r psi (parts t) ++ (poly_in n r).neg (term (exps n) r (variable (exps n) t))

        coefficient-wrong : (t : ℕ) (b : ExpList n) → coefficient (exps n) r (wrong t) b ≡ r.add (coefficient (exps n) r (substitute n n r psi (parts t)) b) (r.neg (coefficient (exps n) r (term (exps n) r (variable (exps n) t)) b))
        coefficient-wrong t b = Order.coefficient-append (exps n) (exps_are n) r c (substitute n n r psi (parts t)) ((poly_in n r).neg (term (exps n) r (variable (exps n) t))) b
            ∙ ap (r.add (coefficient (exps n) r (substitute n n r psi (parts t)) b)) (Order.coefficient-neg (exps n) (exps_are n) r c (term (exps n) r (variable (exps n) t)) b)

        -- taking away the terms of one degree more takes away all that is wrong up to it
        next_is : (i : ℕ) → i < n → SameTo (exps n) r (2 + j) (corrected n r parts matrix psi (2 + j) i) (better i)
        next_is i h b low = less_same (psi i) (psi i) (matrix i) (λ t. component n (2 + j) (substitute n n r psi (parts t))) wrong b refl errors
          where
            errors : (t : ℕ) → t < n → coefficient (exps n) r (component n (2 + j) (substitute n n r psi (parts t))) b ≡ coefficient (exps n) r (wrong t) b
            errors t g = elim (same_or (degree (exps n) b) (2 + j)) [
              | inl e ↦ component_here (2 + j) (substitute n n r psi (parts t)) b e
                  ∙ sym (coefficient-wrong t b
                  ∙ ap (λ z. r.add (coefficient (exps n) r (substitute n n r psi (parts t)) b) (r.neg z)) (Near.coefficient-term (exps n) (exps_are n) r c s (variable (exps n) t) b ∙ other_degree (variable (exps n) t) b (λ q. let z = ExpLaws.degree-variable (exps n) (exps_are n) t g in omega arith))
                  ∙ ap (r.add (coefficient (exps n) r (substitute n n r psi (parts t)) b)) (Sums.neg_zero r c) ∙ c.add_zero (coefficient (exps n) r (substitute n n r psi (parts t)) b))
              | inr ne ↦ component_low (2 + j) (substitute n n r psi (parts t)) b (below (degree (exps n) b) j low ne)
                  ∙ sym (Order.difference_starts (exps n) (exps_are n) r c (1 + j) (substitute n n r psi (parts t)) (term (exps n) r (variable (exps n) t)) (old.right t g) b (let z = below (degree (exps n) b) j low ne in omega arith))
            ]
              where
                below : (d j : ℕ) → d ≤ 2 + j → d ≢ 2 + j → d < 2 + j
                below d j h ne = grind arith

        next : IsRightTo (2 + j) (corrected n r parts matrix psi (2 + j))
        next = record {
          none = λ i h. Inverse.next_none (exps n) (exps_are n) r c s parts matrix q j psi old.none old.right (corrected n r parts matrix psi (2 + j)) next_is i h;
          right = λ i h. Inverse.next_right (exps n) (exps_are n) r c s parts matrix q j psi old.none old.right (corrected n r parts matrix psi (2 + j)) next_is i h;
        }

      right_same : (d : ℕ) (u v : ℕ → Polynomial n V) → ((i : ℕ) → i < n → SameIn n r (u i) (v i)) → IsRightTo d u → IsRightTo d v
      right_same d u v same h = record {
        none = λ i g b low. sym (same i g b) ∙ h.none i g b low;
        right = λ i g b low. sym (subst_same (exps n) (exps_are n) (exps n) (exps_are n) r c s u v same (parts i) b) ∙ h.right i g b low;
      }

      -- the inverse up to degree d is one on the right up to degree d
      right_to : (j : ℕ) → IsRightTo (1 + j) (inverse_to n r parts matrix (1 + j))
      right_to zero = right_same 1 (λ u. linear_form n r (matrix u)) (inverse_to n r parts matrix 1) (λ i h b. ap (λ z. coefficient (exps n) r z b) (sym (inverse_to-one i))) first
      right_to (suc j) = right_same (1 + suc j) (corrected n r parts matrix (inverse_to n r parts matrix (1 + j)) (1 + suc j)) (inverse_to n r parts matrix (1 + suc j))
          (λ i h b. ap (λ z. coefficient (exps n) r z b) (sym (at_next i)))
          (subst (λ z. IsRightTo z (corrected n r parts matrix (inverse_to n r parts matrix (1 + j)) z)) (let e : 2 + j ≡ 1 + suc j = omega arith in e) (next j (inverse_to n r parts matrix (1 + j)) (right_to j)))
        where
          at_next : (i : ℕ) → inverse_to n r parts matrix (1 + suc j) i ≡ corrected n r parts matrix (inverse_to n r parts matrix (1 + j)) (1 + suc j) i
          at_next i = subst (λ z. inverse_to n r parts matrix z i ≡ corrected n r parts matrix (inverse_to n r parts matrix (1 + j)) z i) (let e : (1 + j) + 1 ≡ 1 + suc j = omega arith in e) (inverse_to-next (1 + j) i (omega arith))

      -- polynomials that are equal to it are an inverse on both sides up to degree k, whose own inverse matrix is the linear part of the change
      module _ (k : ℕ) (one : 1 ≤ k) (psi : ℕ → Polynomial n V) (is : (i : ℕ) → i < n → SameIn n r (psi i) (inverse_to n r parts matrix k i)) where
        right_inverse : IsRightTo k psi
        right_inverse = right_same k (inverse_to n r parts matrix k) psi (λ i h b. sym (is i h b)) (subst (λ z. IsRightTo z (inverse_to n r parts matrix z)) (let e : 1 + (k - 1) ≡ k = omega arith in e) (right_to (k - 1)))

        pub inverse : IsInverse r n parts k psi
        inverse = record {
          no_constant = right_inverse.none;
          right = right_inverse.right;
          left = Inverse.both_sides (exps n) (exps_are n) r c s parts matrix q k one psi right_inverse.none right_inverse.right;
        }

        pub inverse_invertible : IsInvertible (exps n) r psi (λ i j. coefficient (exps n) r (parts i) (variable (exps n) j))
        inverse_invertible = Inverse.inverse_invertible (exps n) (exps_are n) r c s parts matrix q k one psi right_inverse.none right_inverse.right

-- ---- heights at polynomials that are equal
module _ {V : Type 0} (n : ℕ) (s : Scalars V) (c : IsCommRing s.ops) (set : IsSet V) (parts : ℕ → Polynomial n V) (matrix : ℕ → ℕ → V) (u v : ℕ → Polynomial n V) (same : (i : ℕ) → i < n → SameIn n s.ops (u i) (v i)) (d : ℕ) where
  pub step_high_same : SubstitutionIsHigh n s parts u d ⊎ CorrectionIsHigh n s parts matrix u d → SubstitutionIsHigh n s parts v d ⊎ CorrectionIsHigh n s parts matrix v d
  step_high_same (inl h) = inl (record { part = h.part; inside = h.inside; high = subst_high_same (exps n) (exps_are n) (exps n) (exps_are n) s c set u v same d (parts h.part) h.high })
  step_high_same (inr h) = inr (record {
    terms = h.terms;
    are = λ t g. component_of_same n s.ops c d (substitute n n s.ops u (parts t)) (substitute n n s.ops v (parts t)) (h.terms t) (subst_same (exps n) (exps_are n) (exps n) (exps_are n) s.ops c set u v same (parts t)) (h.are t g);
    row = h.row;
    inside = h.inside;
    high = h.high;
  })

-- ---- jets
module _ {E V : Type 0} (m : Meaning E V) (c : IsCommRing m.scalars.ops) (n d : ℕ) where
  -- the component of a jet that is a substitution cut at its degree
  pub component_made : (carried made : JetTerms E) (f : Polynomial n V) → carried.n ≡ n → made.n ≡ n → IsJet m made → IsRising made.terms → SameIn n m.scalars.ops (poly_of n m.value carried.terms) (cut (exps n) m.scalars.ops d f)
      → SameIn carried.n m.scalars.ops (poly_of carried.n m.value made.terms) (component carried.n d (poly_of carried.n m.value carried.terms)) → IsComponent n m.scalars.ops d f (poly_of n m.value made.terms)
  component_made carried made f en em jet rising value part = record {
    reduced = Reduced.reduced_of_rising n m.value m.scalars.ops made.terms (subst (λ z. All (λ t. IsIn z t.0.e) made.terms) em jet.variables) rising jet.units;
    equal = λ b. subst (λ z. SameIn z m.scalars.ops (poly_of z m.value made.terms) (component z d (poly_of z m.value carried.terms))) en part b
        ∙ component_same n m.scalars.ops c d (poly_of n m.value carried.terms) (cut (exps n) m.scalars.ops d f) value b
        ∙ component-cut n m.scalars.ops c d f b;
  }

  -- the terms of a jet that is equal to a polynomial without terms below degree d
  pub degrees_from : (ts : List (Exp × E)) (p : Polynomial n V) → All (λ t. IsIn n t.0.e) ts → IsRising ts → All (λ t. m.value t.1 ≢ m.scalars.ops.zero) ts → SameIn n m.scalars.ops (poly_of n m.value ts) p → StartsAt (exps n) m.scalars.ops d p
      → All (λ t. d ≤ sum t.0.e) ts
  degrees_from ts p inside rising units same starts k t h = elim (dec_le d (sum (get_or ts k t).0.e)) [
    | yes g ↦ g
    | no g ↦ absurd (units k t h (here ∙ same (exp_of n (get_or ts k t).0) ∙ starts (exp_of n (get_or ts k t).0) (let z = degree-exp_of n (get_or ts k t).0 (inside k t h) in omega arith)))
  ]
    where
      here : m.value (get_or ts k t).1 ≡ coefficient (exps n) m.scalars.ops (poly_of n m.value ts) (exp_of n (get_or ts k t).0)
      here = sym (Reduced.coefficient-reduced (exps n) (exps_are n) m.scalars.ops c (poly_of n m.value ts) (Reduced.reduced_of_rising n m.value m.scalars.ops ts inside rising units) k
          (exp_of n (get_or ts k t).0, m.value (get_or ts k t).1) (subst (λ z. k < z) (sym (length-mapped (λ t. (exp_of n t.0, m.value t.1)) ts)) h)
          (sym (at-map (λ t. (exp_of n t.0, m.value t.1)) ts k (get_or ts k t) h (any_default ts k t (get_or ts k t) h) (exp_of n (get_or ts k t).0, m.value (get_or ts k t).1))))
