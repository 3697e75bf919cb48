-- A change of coordinates of polynomials is a change of the ring of polynomials.
use mathlib.Core.Path.{fun_ext}
use mathlib.Core.Quot.{mk, sound}
use Rattle.std.proofs.Common.{◌≡◌, ℕ, ◌<◌, [], ◌++◌, Bool, true, false, cond, eqb, ap, sym, ◌∙◌, refl, ap₂, arith}
use Rattle.ring_theory.specs.Ring.{RingOps, IsCommRing}
use Rattle.poly_law.specs.Sums.{sum_to, power, unit_at}
use Rattle.poly_law.specs.Exps.{Exps, IsExps, plus, none, variable, same}
use Rattle.poly_law.specs.Poly.{Terms, coefficient, times, constant, poly_ops, derivative, Same, SameTo, StartsAt, monomial_of, subst_in, term, IsInvertible}
use Rattle.poly_law.proofs.Sums
use Rattle.poly_law.proofs.ExpLaws
use Rattle.poly_law.proofs.Pair
use Rattle.poly_law.proofs.Pair.{pair, at_only}
use Rattle.poly_law.proofs.PolyRing
use Rattle.poly_law.proofs.PolyRing.{Poly, poly_ring, poly_is_ring}
use Rattle.poly_law.proofs.Derivative.{partial, partial_is}
use Rattle.poly_law.proofs.Order
use Rattle.poly_law.proofs.Subst
use Rattle.poly_law.proofs.SubstOrder
use Rattle.poly_law.proofs.Near
use Rattle.poly_law.proofs.Linear
use Rattle.poly_law.proofs.Compose
use Rattle.poly_law.proofs.Chain
use Rattle.poly_law.proofs.Filtration.{IsFiltration}
use Rattle.poly_law.proofs.Mather.{HasPartials, IsChange}

module _ {E V : Type 0} (x : Exps E) (l : IsExps x) (r : RingOps V) (c : IsCommRing r) (s : IsSet V) where
  abbrev pub ring : RingOps (Poly x r)
  ring = poly_ring x l r c

  abbrev pub laws : IsCommRing ring
  laws = poly_is_ring x l r c

  -- a polynomial that is given by a list which starts at degree d
  pub record Ord (d : ℕ) (p : Poly x r) : Type 0 where
    pub list : Terms E V
    pub is : ◌≡◌ {A = Poly x r} (mk list) p
    pub starts : StartsAt x r d list

  pub ord_filtration : IsFiltration ring Ord
  ord_filtration = record {
    zero_in = λ d. record { list = []; is = refl; starts = λ m h. refl };
    add_in = λ d a b u v. record { list = u.list ++ v.list; is = ap₂ ring.add u.is v.is; starts = Order.starts_append x l r c d u.list v.list u.starts v.starts };
    neg_in = λ d a u. record { list = (poly_ops x r).neg u.list; is = ap ring.neg u.is; starts = Order.starts_neg x l r c d u.list u.starts };
    mul_in = λ d e a b u v. record { list = times x r u.list v.list; is = ap₂ ring.mul u.is v.is; starts = Order.starts_times x l r c d e u.list v.list u.starts v.starts };
    lower_in = λ d e a h u. record { list = u.list; is = u.is; starts = λ m g. u.starts m (omega arith) };
  }

  pub starts_none : (f : Terms E V) → StartsAt x r 0 f
  starts_none f m h = absurd (omega arith)

  partial_neg : (j : ℕ) → j < x.count → (p : Poly x r) → partial x l r c j (ring.neg p) ≡ ring.neg (partial x l r c j p)
  partial_neg j h p = Sums.neg_unique ring laws (partial x l r c j p) (partial x l r c j (ring.neg p))
      (sym ((partial_is x l r c j h).of_add p (ring.neg p)) ∙ ap (partial x l r c j) (laws.add_neg p))

  pub partials : HasPartials ring Ord x.count (partial x l r c)
  partials = record {
    of_sub = λ j a b h. (partial_is x l r c j h).of_add a (ring.neg b) ∙ ap (ring.add (partial x l r c j a)) (partial_neg j h b);
    down_in = λ j e a h u. record { list = derivative x r j u.list; is = ap (partial x l r c j) u.is; starts = Order.starts_derivative x l r c j e u.list h u.starts };
    stays_in = λ j a h u. record { list = derivative x r j u.list; is = ap (partial x l r c j) u.is; starts = starts_none (derivative x r j u.list) };
  }

  -- the image of a variable is its part
  pub image_variable : (parts : ℕ → Terms E V) (j : ℕ) → j < x.count → Same x r (monomial_of x x r parts (variable x j)) (parts j)
  image_variable parts j h = Subst.same_from_path x l r c s (monomial_of x x r parts (variable x j)) (parts j)
      (Subst.mk_monomial x l x l r c s parts (variable x j)
      ∙ Sums.product_to-one ring laws x.count j (λ i. power ring (mk (parts i)) (x.at (variable x j) i)) h
      (λ i g ne. ap (power ring (mk (parts i))) (ExpLaws.at-variable x l j i g ∙ ExpLaws.unit_no i j ne))
      ∙ ap (power ring (mk (parts j))) (ExpLaws.at-variable x l j j h ∙ ExpLaws.unit_yes j j refl)
      ∙ laws.mul_comm ring.one (mk (parts j)) ∙ laws.mul_one (mk (parts j)))

  abbrev pub variables : ℕ → Terms E V
  variables i = term x r (variable x i)

  pub coefficient-variables : (i k : ℕ) → i < x.count → k < x.count → coefficient x r (variables i) (variable x k) ≡ unit_at r i k
  coefficient-variables i k g h = Near.coefficient-term x l r c s (variable x i) (variable x k) ∙ Linear.at_only-variable x l r c i k g h

  module _ (parts : ℕ → Terms E V) (matrix : ℕ → ℕ → V) (q : IsInvertible x r parts matrix) where
    -- the linear change of the matrix
    unfoldable pub back : ℕ → Terms E V
    back i = Linear.linear x l r c (matrix i)

    pub back_starts : (i : ℕ) → i < x.count → StartsAt x r 1 (back i)
    unfolding back
    back_starts i h = Linear.starts_linear x l r c (matrix i)

    -- first back and then the parts
    there_and_back : (i : ℕ) → i < x.count → SameTo x r 1 (subst_in x x r parts (back i)) (variables i)
    unfolding back
    there_and_back i h = Linear.same_to_one x l r c (subst_in x x r parts (back i)) (variables i)
        (SubstOrder.starts_subst x l x l r c s parts q.no_constant 1 (back i) (back_starts i h)) (Near.variables_start x l r c s i h) λ k g.
        SubstOrder.coefficient-subst x l x l r c s parts (back i) (variable x k)
        ∙ Linear.pair-linear x l r c (matrix i) (λ a. coefficient x r (monomial_of x x r parts a) (variable x k))
        ∙ Sums.sum_to-cong r x.count (λ j. r.mul (matrix i j) (coefficient x r (monomial_of x x r parts (variable x j)) (variable x k))) (λ j. r.mul (matrix i j) (coefficient x r (parts j) (variable x k)))
        (λ j y. ap (r.mul (matrix i j)) (image_variable parts j y (variable x k)))
        ∙ q.left i k h g
        ∙ sym (coefficient-variables i k h g)

    -- first the parts and then back
    pub back_and_there : (i : ℕ) → i < x.count → SameTo x r 1 (subst_in x x r back (parts i)) (variables i)
    unfolding back
    back_and_there i h = Linear.same_to_one x l r c (subst_in x x r back (parts i)) (variables i)
        (SubstOrder.starts_subst x l x l r c s back back_starts 1 (parts i) (q.no_constant i h)) (Near.variables_start x l r c s i h) λ k g.
        SubstOrder.subst_same_to x l x l r c s back back_starts 1 (parts i) (Linear.linear x l r c (λ j. coefficient x r (parts i) (variable x j))) (Linear.linear_part x l r c (parts i) (q.no_constant i h))
        (variable x k) (let e = ExpLaws.degree-variable x l k g in omega arith)
        ∙ SubstOrder.coefficient-subst x l x l r c s back (Linear.linear x l r c (λ j. coefficient x r (parts i) (variable x j))) (variable x k)
        ∙ Linear.pair-linear x l r c (λ j. coefficient x r (parts i) (variable x j)) (λ a. coefficient x r (monomial_of x x r back a) (variable x k))
        ∙ Sums.sum_to-cong r x.count (λ j. r.mul (coefficient x r (parts i) (variable x j)) (coefficient x r (monomial_of x x r back (variable x j)) (variable x k))) (λ j. r.mul (coefficient x r (parts i) (variable x j)) (matrix j k))
        (λ j y. ap (r.mul (coefficient x r (parts i) (variable x j))) (image_variable back j y (variable x k) ∙ Linear.coefficient-linear x l r c (matrix j) k g))
        ∙ q.right i k h g
        ∙ sym (coefficient-variables i k h g)

    -- the changes of the ring
    abbrev pub forth_map : Poly x r → Poly x r
    forth_map = Subst.at_parts x l x l r c s parts

    pub back_map : Poly x r → Poly x r
    back_map = Subst.at_parts x l x l r c s back

    -- twice a change, where the composed parts are near the variables
    near_twice : (u v : ℕ → Terms E V) → ((i : ℕ) → i < x.count → StartsAt x r 1 (u i)) → ((i : ℕ) → i < x.count → StartsAt x r 1 (v i))
        → ((i : ℕ) → i < x.count → SameTo x r 1 (subst_in x x r v (u i)) (variables i))
        → (e : ℕ) (f : Terms E V) → StartsAt x r e f → SameTo x r e (subst_in x x r v (subst_in x x r u f)) f
    near_twice u v u_starts v_starts near e f t m h =
        Compose.subst_twice x l x l x l r c s u v f m
        ∙ Near.near_identity x l r c s (λ i. subst_in x x r v (u i)) (λ i g. SubstOrder.starts_subst x l x l r c s v v_starts 1 (u i) (u_starts i g)) near e f t m h

    pub back_near : (e : ℕ) (f : Terms E V) → StartsAt x r e f → SameTo x r e (subst_in x x r back (subst_in x x r parts f)) f
    back_near e f t = near_twice parts back q.no_constant back_starts back_and_there e f t

    pub back_starts_at : (e : ℕ) (f : Terms E V) → StartsAt x r e f → StartsAt x r e (subst_in x x r back f)
    back_starts_at e f t = SubstOrder.starts_subst x l x l r c s back back_starts e f t

    chain_map : (j : ℕ) (p : Poly x r) → j < x.count → partial x l r c j (forth_map p) ≡ sum_to ring x.count (λ i. ring.mul (forth_map (partial x l r c i p)) (partial x l r c j (mk (parts i))))
    chain_map j p h = PolyRing.same_one x r (λ p. partial x l r c j (forth_map p)) (λ p. sum_to ring x.count (λ i. ring.mul (forth_map (partial x l r c i p)) (partial x l r c j (mk (parts i)))))
        (λ f. sound (Chain.chain_rule x l x l r c s parts j h f) ∙ Subst.mk_sum_to x l r c s x.count (λ i. times x r (subst_in x x r parts (derivative x r i f)) (derivative x r j (parts i)))) p

    -- the Jacobian matrix times the printed inverse is the identity in the constant terms
    entry : ℕ → ℕ → Terms E V
    entry i k = sum_to (poly_ops x r) x.count (λ j. times x r (derivative x r j (parts i)) (constant x r (matrix j k)))

    coefficient-times_constant : (f : Terms E V) (a : V) (m : E) → coefficient x r (times x r f (constant x r a)) m ≡ r.mul (coefficient x r f m) a
    coefficient-times_constant f a m =
        Pair.coefficient_is x r c (times x r f (constant x r a)) m ∙ Pair.pair-times x r c f (constant x r a) (at_only x r m)
        ∙ ap (pair r f) (fun_ext λ b. c.add_zero (r.mul a (at_only x r m (plus x b (none x)))) ∙ ap (λ z. r.mul a (at_only x r m z)) (ExpLaws.plus-none x l b))
        ∙ Pair.pair-mul r c f a (at_only x r m)
        ∙ c.mul_comm a (pair r f (at_only x r m))
        ∙ ap (λ z. r.mul z a) (sym (Pair.coefficient_is x r c f m))

    coefficient-unit : (i k : ℕ) → coefficient x r (unit_at (poly_ops x r) i k) (none x) ≡ unit_at r i k
    coefficient-unit i k = step (eqb i k)
      where
        step : (b : Bool) → coefficient x r (cond b (poly_ops x r).one (poly_ops x r).zero) (none x) ≡ cond b r.one r.zero
        step true = c.add_zero (cond (same x (none x) (none x)) r.one r.zero) ∙ ap (λ b. cond b r.one r.zero) (ExpLaws.same_refl x l (none x))
        step false = refl

    entry_starts : (i k : ℕ) → i < x.count → k < x.count → StartsAt x r 1 (entry i k ++ (poly_ops x r).neg (unit_at (poly_ops x r) i k))
    unfolding entry
    entry_starts i k g h m y =
        let at_none : m ≡ none x = ExpLaws.none_of_degree x l m (omega arith) in
        ap (coefficient x r (entry i k ++ (poly_ops x r).neg (unit_at (poly_ops x r) i k))) at_none
        ∙ Order.coefficient-append x l r c (entry i k) ((poly_ops x r).neg (unit_at (poly_ops x r) i k)) (none x)
        ∙ ap₂ r.add
        (Linear.coefficient-sum_to x l r c x.count (λ j. times x r (derivative x r j (parts i)) (constant x r (matrix j k))) (none x)
        ∙ Sums.sum_to-cong r x.count (λ j. coefficient x r (times x r (derivative x r j (parts i)) (constant x r (matrix j k))) (none x)) (λ j. r.mul (coefficient x r (parts i) (variable x j)) (matrix j k))
        (λ j z. coefficient-times_constant (derivative x r j (parts i)) (matrix j k) (none x) ∙ ap (λ w. r.mul w (matrix j k)) (Linear.coefficient-derivative_none x l r c j z (parts i)))
        ∙ q.right i k g h)
        (Order.coefficient-neg x l r c (unit_at (poly_ops x r) i k) (none x) ∙ ap r.neg (coefficient-unit i k))
        ∙ c.add_neg (unit_at r i k)

    mk_unit : (i k : ℕ) → ◌≡◌ {A = Poly x r} (mk (unit_at (poly_ops x r) i k)) (unit_at ring i k)
    mk_unit i k = step (eqb i k)
      where
        step : (b : Bool) → ◌≡◌ {A = Poly x r} (mk (cond b (poly_ops x r).one (poly_ops x r).zero)) (cond b ring.one ring.zero)
        step true = refl
        step false = refl

    pub change : IsChange ring Ord x.count (partial x l r c) (λ i. mk (parts i)) (λ j k. mk (constant x r (matrix j k))) forth_map back_map
    unfolding back_map entry back
    change = record {
      s_is = Subst.at_parts_is x l x l r c s parts;
      t_is = Subst.at_parts_is x l x l r c s back;
      s_in = λ e a u. record { list = subst_in x x r parts u.list; is = ap forth_map u.is; starts = SubstOrder.starts_subst x l x l r c s parts q.no_constant e u.list u.starts };
      t_in = λ e a u. record { list = subst_in x x r back u.list; is = ap back_map u.is; starts = SubstOrder.starts_subst x l x l r c s back back_starts e u.list u.starts };
      s-t = λ e a u. record {
        list = subst_in x x r parts (subst_in x x r back u.list) ++ (poly_ops x r).neg u.list;
        is = ap (λ p. ring.add (forth_map (back_map p)) (ring.neg p)) u.is;
        starts = Order.difference_starts x l r c e (subst_in x x r parts (subst_in x x r back u.list)) u.list (near_twice back parts back_starts q.no_constant there_and_back e u.list u.starts);
      };
      t-s = λ e a u. record {
        list = subst_in x x r back (subst_in x x r parts u.list) ++ (poly_ops x r).neg u.list;
        is = ap (λ p. ring.add (back_map (forth_map p)) (ring.neg p)) u.is;
        starts = Order.difference_starts x l r c e (subst_in x x r back (subst_in x x r parts u.list)) u.list (near_twice parts back q.no_constant back_starts back_and_there e u.list u.starts);
      };
      u_in = λ i. record { list = parts i; is = refl; starts = starts_none (parts i) };
      v_in = λ i j. record { list = constant x r (matrix i j); is = refl; starts = starts_none (constant x r (matrix i j)) };
      chain = chain_map;
      inverse = λ i k g h. record {
        list = entry i k ++ (poly_ops x r).neg (unit_at (poly_ops x r) i k);
        is = ap₂ ring.add (Subst.mk_sum_to x l r c s x.count (λ j. times x r (derivative x r j (parts i)) (constant x r (matrix j k)))) (ap ring.neg (mk_unit i k));
        starts = entry_starts i k g h;
      };
    }
