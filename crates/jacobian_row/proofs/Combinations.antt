-- Combinations of rows of multiples as combinations of partials with multipliers.
use mathlib.Core.Path.{fun_ext}
use Rattle.std.proofs.Common.{◌≡◌, ℕ, zero, suc, ◌<◌, ◌≤◌, Bool, true, false, cond, eqb, eq-eqb, ne_eqb, List, [], ◌∷◌, length, map, refl, sym, ap, ap₂, ◌∙◌, arith}
use Rattle.std.specs.List.{filter, AllByRecursion, All}
use Rattle.ring_theory.specs.Ring.{RingOps, IsCommRing}
use Rattle.ring_theory.specs.Scalars.{Meaning}
use Rattle.poly_law.specs.Sums.{total, sum_to, unit_at}
use Rattle.poly_law.specs.Exps.{plus, same, degree}
use Rattle.poly_law.specs.ExpList.{ExpList, exps}
use Rattle.poly_law.specs.Poly.{coefficient, Same, StartsAt, times, term, derivative, combination, poly_ops}
use Rattle.poly_law.specs.Polynomials.{Polynomial}
use Rattle.poly_law.proofs.ExpLists.{exps_are}
use Rattle.poly_law.proofs.ExpLaws
use Rattle.poly_law.proofs.Sums
use Rattle.poly_law.proofs.Pair
use Rattle.poly_law.proofs.Pair.{pair, at_only}
use Rattle.poly_law.proofs.PolyRing
use Rattle.poly_law.proofs.Order
use Rattle.poly_law.proofs.Near
use Rattle.jet_law.specs.Terms.{exp_of, poly_of}
use Rattle.jet_poly.specs.JetTerms.{JetTerms}
use Rattle.lin_row.specs.Lines.{AllBelow, dot}
use Rattle.lin_row.specs.System.{dot_at}
use Rattle.lin_row.specs.Rows.{rows_of}
use Rattle.lin_row.specs.declared.row.Row.{Row}
use Rattle.jacobian_row.specs.Numbers.{number, form_of, entries_of}
use Rattle.jacobian_row.specs.Multiples.{product_to, multiple_to}
use Rattle.jacobian_row.specs.Rows.{AreRowsOf, ArePartials, polynomial_at}
use Rattle.jacobian_row.specs.Multipliers.{multiple_at, terms_of, AreMultipliers}
use Rattle.jacobian_row.specs.declared.multiple.Multiple.{Multiple}
use Rattle.jacobian_row.proofs.NumberLemmas.{number_injective}

-- equal numbers are numbers of equal monomials
pub number-same : (n : ℕ) (a b : ExpList n) → eqb (number n a) (number n b) ≡ same (exps n) a b
number-same n a b = step (same (exps n) a b) refl
  where
    step : (t : Bool) → same (exps n) a b ≡ t → eqb (number n a) (number n b) ≡ t
    step true e = eq-eqb (number n a) (number n b) (ap (number n) (ExpLaws.same-eq (exps n) (exps_are n) a b e))
    step false e = ne_eqb (number n a) (number n b) (λ q. let bad : ⊥ = (let z : false ≡ true = sym e ∙ ap (same (exps n) a) (sym (number_injective n a b q)) ∙ ExpLaws.same_refl (exps n) (exps_are n) a in cc z) in absurd bad)

default : Multiple
default = record { factor = record { e = [] }; variable = 0 }

module _ {V : Type 0} (r : RingOps V) (c : IsCommRing r) (s : IsSet V) (n : ℕ) where
  -- the entry at the number of a monomial is the coefficient there
  pub entries-coefficient : (f : Polynomial n V) (b : ExpList n) → entries_of n r f (number n b) ≡ coefficient (exps n) r f b
  entries-coefficient f b =
      ap (λ k. total r k f) (fun_ext λ t. ap (λ q. r.mul t.1 (cond q r.one r.zero)) (number-same n b t.0 ∙ same-swap t.0))
      ∙ sym (Pair.coefficient_is (exps n) r c f b)
    where
      same-swap : (a : ExpList n) → same (exps n) b a ≡ same (exps n) a b
      same-swap a = sym (number-same n b a) ∙ Sums.eqb_swap (number n b) (number n a) ∙ number-same n a b

  -- equal polynomials have equal rows
  pub form_same : (f g : Polynomial n V) → Same (exps n) r f g → (w : ℕ → V) → form_of n r f w ≡ form_of n r g w
  form_same f g e w = Pair.pair_same (exps n) (exps_are n) r c f g e (λ a. w (number n a))

  pub product_same : (k : ℕ) (a : ExpList n) (f g : Polynomial n V) → Same (exps n) r f g → Same (exps n) r (product_to n r k a f) (product_to n r k a g)
  product_same k a f g e =
      Order.same-cut (exps n) (exps_are n) r c k (times (exps n) r (term (exps n) r a) f) (times (exps n) r (term (exps n) r a) g)
      (λ m h. PolyRing.times_right (exps n) (exps_are n) r c (term (exps n) r a) f g e m)

  -- x^a * f, paired with w
  pub product-value : (a : ExpList n) (f : Polynomial n V) (w : ExpList n → V) → pair r (times (exps n) r (term (exps n) r a) f) w ≡ pair r f (λ b. w (plus (exps n) a b))
  product-value a f w = Pair.pair-times (exps n) r c (term (exps n) r a) f w ∙ Near.pair-term (exps n) (exps_are n) r c s a (λ a. pair r f (λ b. w (plus (exps n) a b)))

  pair-sum_to : (k : ℕ) (f : ℕ → Polynomial n V) (w : ExpList n → V) → pair r (sum_to (poly_ops (exps n) r) k f) w ≡ sum_to r k (λ i. pair r (f i) w)
  pair-sum_to zero f w = refl
  pair-sum_to (suc k) f w = Pair.pair-append r c (sum_to (poly_ops (exps n) r) k f) (f k) w ∙ ap (λ z. r.add z (pair r (f k) w)) (pair-sum_to k f w)

  -- the combination of the partials, paired with w
  pub combination-value : (multiplier : ℕ → Polynomial n V) (g : Polynomial n V) (w : ExpList n → V)
      → pair r (combination (exps n) r multiplier g) w ≡ sum_to r n (λ i. pair r (multiplier i) (λ a. pair r (derivative (exps n) r i g) (λ b. w (plus (exps n) a b))))
  combination-value multiplier g w =
      pair-sum_to n (λ i. times (exps n) r (multiplier i) (derivative (exps n) r i g)) w
      ∙ Sums.sum_to-cong r n (λ i. pair r (times (exps n) r (multiplier i) (derivative (exps n) r i g)) w) (λ i. pair r (multiplier i) (λ a. pair r (derivative (exps n) r i g) (λ b. w (plus (exps n) a b))))
      (λ i h. Pair.pair-times (exps n) r c (multiplier i) (derivative (exps n) r i g) w)

  -- terms of degree at least d
  pub starts_terms : (d : ℕ) (f : Polynomial n V) → AllByRecursion (λ t. d ≤ degree (exps n) t.0) f → StartsAt (exps n) r d f
  starts_terms d [] all m low = refl
  starts_terms d (t ∷ f) all m low =
      ap₂ (λ b z. r.add (cond b t.1 r.zero) z)
      (ExpLaws.same-no (exps n) (exps_are n) t.0 m (λ e. let q : degree (exps n) t.0 ≡ degree (exps n) m = ap (degree (exps n)) e in let h : d ≤ degree (exps n) t.0 = all.0 in omega arith))
      (starts_terms d f all.1 m low)
      ∙ c.add_zero r.zero

module _ {E V : Type 0} (m : Meaning E V) (c : IsCommRing m.scalars.ops) (s : IsSet V) (n : ℕ) where
  abbrev r : RingOps V
  r = m.scalars.ops

  -- ---- the rows
  module _ (bound k : ℕ) (partials : List (JetTerms E)) (g : Polynomial n V) (are : ArePartials m n g partials) where
    -- the product with a partial is the multiple
    pub partial_same : (a : ExpList n) (i : ℕ) → i < n → (w : ℕ → V) → form_of n r (product_to n r k a (polynomial_at n m.value partials i)) w ≡ form_of n r (multiple_to n r k g a i) w
    partial_same a i h w =
        form_same r c s n (product_to n r k a (polynomial_at n m.value partials i)) (multiple_to n r k g a i)
        (product_same r c s n k a (polynomial_at n m.value partials i) (derivative (exps n) r i g) (are.each i (record { n = 0; order = 0; terms = [] }) (let e = are.count in omega arith)).derivative) w

    pub rows-value : (us : List Multiple) (rows : List (Row E)) → AreRowsOf m n bound k partials us rows → All (λ u. u.variable < n) us → (j : ℕ) → j < length us → (w : ℕ → V)
        → dot_at m (rows_of rows) j w ≡ form_of n r (multiple_to n r k g (exp_of n (multiple_at us j).factor) (multiple_at us j).variable) w
    rows-value [] rows all variables j h w = absurd (omega arith)
    rows-value (u ∷ us) [] all variables j h w = absurd all
    rows-value (u ∷ us) (row ∷ rows) all variables zero h w = all.0.value w ∙ partial_same (exp_of n u.factor) u.variable (variables 0 u (omega arith)) w
    rows-value (u ∷ us) (row ∷ rows) all variables (suc j) h w = rows-value us rows all.1 (λ k d l. variables (suc k) d (omega arith)) j (omega arith) w

  -- ---- the multipliers
  dot_within : (cs : List (ℕ × E)) (bound : ℕ) (v w : ℕ → V) → AllBelow bound cs → ((j : ℕ) → j < bound → v j ≡ w j) → dot m cs v ≡ dot m cs w
  dot_within [] bound v w below same = refl
  dot_within (t ∷ cs) bound v w below same = ap₂ (λ x y. r.add (r.mul (m.value t.1) x) y) (same t.0 below.0) (dot_within cs bound v w below.1 same)

  -- the terms of all multipliers, paired with values of the monomials by variable
  terms-value : (us : List Multiple) (cs : List (ℕ × E)) (h : ℕ → ExpList n → V) → All (λ u. u.variable < n) us → AllBelow (length us) cs
      → sum_to r n (λ i. pair r (poly_of n m.value (terms_of us cs i)) (h i)) ≡ dot m cs (λ j. h (multiple_at us j).variable (exp_of n (multiple_at us j).factor))
  terms-value us [] h variables below = Sums.sum_to-zero r c n
  terms-value us (t ∷ cs) h variables below =
      let u = multiple_at us t.0 in
      let v = m.value t.1 in
      let a = exp_of n u.factor in
      let within : u.variable < n = variables t.0 (record { factor = record { e = [] }; variable = 0 }) below.0 in
      Sums.sum_to-cong r n (λ i. pair r (poly_of n m.value (terms_of us (t ∷ cs) i)) (h i)) (λ i. r.add (r.mul (cond (eqb i u.variable) v r.zero) (h i a)) (pair r (poly_of n m.value (terms_of us cs i)) (h i))) (λ i l. split i (eqb u.variable i) refl)
      ∙ Sums.sum_to-add r c n (λ i. r.mul (cond (eqb i u.variable) v r.zero) (h i a)) (λ i. pair r (poly_of n m.value (terms_of us cs i)) (h i))
      ∙ ap₂ r.add (Sums.sum_to-one r c n u.variable (λ i. h i a) v within) (terms-value us cs h variables below.1)
    where
      split : (i : ℕ) (b : Bool) → eqb (multiple_at us t.0).variable i ≡ b
          → pair r (poly_of n m.value (map (λ t. ((multiple_at us t.0).factor, t.1)) (cond b (t ∷ filter (λ t. eqb (multiple_at us t.0).variable i) cs) (filter (λ t. eqb (multiple_at us t.0).variable i) cs)))) (h i)
          ≡ r.add (r.mul (cond (eqb i (multiple_at us t.0).variable) (m.value t.1) r.zero) (h i (exp_of n (multiple_at us t.0).factor))) (pair r (poly_of n m.value (terms_of us cs i)) (h i))
      split i true e = ap (λ b. r.add (r.mul (cond b (m.value t.1) r.zero) (h i (exp_of n (multiple_at us t.0).factor))) (pair r (poly_of n m.value (terms_of us cs i)) (h i))) (sym e ∙ Sums.eqb_swap (multiple_at us t.0).variable i)
      split i false e =
          sym (ap (λ b. r.add (r.mul (cond b (m.value t.1) r.zero) (h i (exp_of n (multiple_at us t.0).factor))) (pair r (poly_of n m.value (terms_of us cs i)) (h i))) (Sums.eqb_swap i (multiple_at us t.0).variable ∙ e)
          ∙ ap (λ z. r.add z (pair r (poly_of n m.value (terms_of us cs i)) (h i))) (Sums.zero_mul r c (h i (exp_of n (multiple_at us t.0).factor)))
          ∙ Sums.zero_add r c (pair r (poly_of n m.value (terms_of us cs i)) (h i)))

  module _ (k order : ℕ) (us : List Multiple) (cs : List (ℕ × E)) (multipliers : List (JetTerms E)) (is : AreMultipliers n order us cs multipliers) where
    -- a multiplier of the list
    multiplier-is : (i : ℕ) → i < n → polynomial_at n m.value multipliers i ≡ poly_of n m.value (terms_of us cs i)
    multiplier-is i h = ap (λ f. poly_of n m.value f.terms) (is.each i (record { n = 0; order = 0; terms = [] }) (let e = is.count in omega arith))

    -- the combination of the rows is, up to degree k, that of the partials with the multipliers
    pub combined : (bound : ℕ) (partials : List (JetTerms E)) (g : Polynomial n V) (rows : List (Row E)) → ArePartials m n g partials → AreRowsOf m n bound k partials us rows → All (λ u. u.variable < n) us → AllBelow (length us) cs
        → (b : ExpList n) → degree (exps n) b ≤ k → dot m cs (λ j. dot_at m (rows_of rows) j (unit_at r (number n b))) ≡ coefficient (exps n) r (combination (exps n) r (polynomial_at n m.value multipliers) g) b
    combined bound partials g rows are rows_are variables below b low =
        dot_within cs (length us) (λ j. dot_at m (rows_of rows) j (unit_at r (number n b))) (λ j. h (multiple_at us j).variable (exp_of n (multiple_at us j).factor)) below at
        ∙ sym (terms-value us cs h variables below)
        ∙ Sums.sum_to-cong r n (λ i. pair r (poly_of n m.value (terms_of us cs i)) (h i)) (λ i. pair r (polynomial_at n m.value multipliers i) (h i)) (λ i l. ap (λ f. pair r f (h i)) (sym (multiplier-is i l)))
        ∙ sym (combination-value r c s n (polynomial_at n m.value multipliers) g (at_only (exps n) r b))
        ∙ sym (Pair.coefficient_is (exps n) r c (combination (exps n) r (polynomial_at n m.value multipliers) g) b)
      where
        h : ℕ → ExpList n → V
        h i a = pair r (derivative (exps n) r i g) (λ d. at_only (exps n) r b (plus (exps n) a d))

        at : (j : ℕ) → j < length us → dot_at m (rows_of rows) j (unit_at r (number n b)) ≡ h (multiple_at us j).variable (exp_of n (multiple_at us j).factor)
        at j within =
            let a = exp_of n (multiple_at us j).factor in
            let i = (multiple_at us j).variable in
            rows-value bound k partials g are us rows rows_are variables j within (unit_at r (number n b))
            ∙ entries-coefficient r c s n (multiple_to n r k g a i) b
            ∙ Order.cut_same_to (exps n) (exps_are n) r c k (times (exps n) r (term (exps n) r a) (derivative (exps n) r i g)) b low
            ∙ Pair.coefficient_is (exps n) r c (times (exps n) r (term (exps n) r a) (derivative (exps n) r i g)) b
            ∙ product-value r c s n a (derivative (exps n) r i g) (at_only (exps n) r b)
