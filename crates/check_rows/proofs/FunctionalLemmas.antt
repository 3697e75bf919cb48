-- The values of a functional at multiples of partials.
use Rattle.std.proofs.Common.{◌≡◌, ℕ, ◌+◌, ◌<◌, ◌≤◌, ◌⊎◌, inl, inr, Bool, true, false, cond, List, [], ◌∷◌, map, get_or, sum, IsTrue, ◌↔◌, refl, sym, ap, ap₂, subst, ◌∙◌, append-nil, arith}
use Rattle.std.specs.List.{All, AllByRecursion}
use Rattle.std.proofs.lemmas.Bool.{cases_lt}
use Rattle.std.proofs.lemmas.List.Elements.{All-head, All-tail}
use Rattle.ring_theory.specs.Ring.{RingOps, IsCommRing}
use Rattle.ring_theory.specs.Scalars.{Meaning, ScalarLaws, sum_of}
use Rattle.poly_law.specs.Sums.{total}
use Rattle.poly_law.specs.Exps.{same, plus, none, degree}
use Rattle.poly_law.specs.ExpList.{ExpList, exps}
use Rattle.poly_law.specs.Poly.{coefficient, times_term, Same, SameTo, value_on, MatherFails}
use Rattle.poly_law.specs.Polynomials.{Polynomial, term_in, times_in, derivative_in}
use Rattle.poly_law.proofs.ExpLists.{exps_are}
use Rattle.poly_law.proofs.ExpLaws
use Rattle.poly_law.proofs.Sums
use Rattle.poly_law.proofs.Order
use Rattle.poly_law.proofs.PolyRing
use Rattle.mono_exp.specs.declared.exponent.Exp.{Exp}
use Rattle.mono_exp.specs.Exponents.{IsIn, IsProduct, Divides}
use Rattle.jet_law.specs.Heights.{IsHigh}
use Rattle.jet_law.specs.Terms.{exp_of, poly_of}
use Rattle.jet_law.proofs.TermLemmas.{at-exp_of, degree-exp_of, exp_of-product}
use Rattle.jet_poly.specs.JetTerms.{JetTerms}
use Rattle.jet_poly.specs.Jets.{polynomial_of}
use Rattle.jacobian_row.specs.Multiples.{AreMultiples, multiple_to}
use Rattle.jacobian_row.specs.Multipliers.{multiple_at}
use Rattle.jacobian_row.specs.Rows.{polynomial_at, ArePartials}
use Rattle.jacobian_row.specs.declared.multiple.Multiple.{Multiple}
use Rattle.jacobian_row.proofs.MultipleOrder.{pair_is}
use Rattle.jacobian_row.proofs.NumberLemmas.{sum-entries}
use Rattle.check_rows.specs.Functionals.{with_coefficients, value_heights, IsMultipleHigh, IsZeroOn, IsZeroHigh}
use Rattle.check_rows.proofs.Multiples.{holds_of_all, all_hold}

-- ---- multiples by a monomial

-- 1 v is v
pub one_mul : {V : Type 0} (r : RingOps V) → IsCommRing r → (v : V) → r.mul r.one v ≡ v
one_mul r c v = c.mul_comm r.one v ∙ c.mul_one v

module _ {V : Type 0} (n : ℕ) (r : RingOps V) (c : IsCommRing r) where
  abbrev C : Polynomial n V → ExpList n → V
  C f b = coefficient (exps n) r f b

  -- the exponents of a product determine the other factor
  plus_cancel : (a b d : ExpList n) → plus (exps n) a b ≡ plus (exps n) a d → b ≡ d
  plus_cancel a b d e = (exps_are n).same_at b d λ i h.
      (let p = ExpLaws.at-plus (exps n) (exps_are n) a b i h in
      let q = ExpLaws.at-plus (exps n) (exps_are n) a d i h in
      let s = ap (λ z. (exps n).at z i) e in
      omega arith)

  contradiction : true ≡ false → ⊥
  contradiction e = cc e

  same_plus : (a b d : ExpList n) → same (exps n) (plus (exps n) a b) (plus (exps n) a d) ≡ same (exps n) b d
  same_plus a b d = step (same (exps n) b d) refl
    where
      step : (t : Bool) → same (exps n) b d ≡ t → same (exps n) (plus (exps n) a b) (plus (exps n) a d) ≡ t
      step true e = ap (λ z. same (exps n) (plus (exps n) a b) (plus (exps n) a z)) (sym (ExpLaws.same-eq (exps n) (exps_are n) b d e)) ∙ ExpLaws.same_refl (exps n) (exps_are n) (plus (exps n) a b)
      step false e = ExpLaws.same-no (exps n) (exps_are n) (plus (exps n) a b) (plus (exps n) a d)
          (λ q. contradiction (sym (ap (λ z. same (exps n) b z) (sym (plus_cancel a b d q)) ∙ ExpLaws.same_refl (exps n) (exps_are n) b) ∙ e))

  -- the coefficient of x^a * f at a*q is that of f at q
  pub at_multiple : (a q : ExpList n) (f : Polynomial n V) → C (times_in n r (term_in n r a) f) (plus (exps n) a q) ≡ C f q
  at_multiple a q f = ap (λ z. C z (plus (exps n) a q)) (append-nil (times_term (exps n) r (a, r.one) f)) ∙ go f
    where
      go : (f : Polynomial n V) → C (times_term (exps n) r (a, r.one) f) (plus (exps n) a q) ≡ C f q
      go [] = refl
      go (t ∷ f) = ap₂ r.add (ap₂ (λ b v. cond b v r.zero) (same_plus a t.0 q) (one_mul r c t.1)) (go f)

  -- and at a monomial that is no multiple of a it is 0
  pub no_multiple : (a b : ExpList n) (f : Polynomial n V) → ((q : ExpList n) → b ≡ plus (exps n) a q → ⊥) → C (times_in n r (term_in n r a) f) b ≡ r.zero
  no_multiple a b f no_factor = ap (λ z. C z b) (append-nil (times_term (exps n) r (a, r.one) f)) ∙ go f
    where
      go : (f : Polynomial n V) → C (times_term (exps n) r (a, r.one) f) b ≡ r.zero
      go [] = refl
      go (t ∷ f) =
          ap₂ (λ s v. r.add (cond s (r.mul r.one t.1) r.zero) v) (ExpLaws.same-no (exps n) (exps_are n) (plus (exps n) a t.0) b (λ e. no_factor t.0 (sym e))) (go f) ∙ c.add_zero r.zero

-- a total is the sum of the list of its summands
pub total_is : {X V : Type 0} (r : RingOps V) (w : X → V) (xs : List X) → total r w xs ≡ sum_of r (map w xs)
total_is r w [] = refl
total_is r w (x ∷ xs) = ap (r.add (w x)) (total_is r w xs)

-- the quotient of monomials of code
pub product_is : (n : ℕ) (t a q : Exp) → IsProduct t.e q.e a.e → exp_of n t ≡ plus (exps n) (exp_of n a) (exp_of n q)
product_is n t a q p = exp_of-product n a q t (λ i. p i ∙ (let e : get_or q.e i 0 + get_or a.e i 0 ≡ get_or a.e i 0 + get_or q.e i 0 = omega arith in e))

-- what a does not divide is no multiple of a
pub divides_if : (n : ℕ) (t a : Exp) → IsIn n a.e → (q : ExpList n) → exp_of n t ≡ plus (exps n) (exp_of n a) q → Divides a.e t.e
divides_if n t a unused q e i = step (cases_lt i n)
  where
    step : (i < n) ⊎ (n ≤ i) → get_or a.e i 0 ≤ get_or t.e i 0
    step (inl h) =
        let p = ExpLaws.at-plus (exps n) (exps_are n) (exp_of n a) q i h in
        let s = ap (λ z. (exps n).at z i) e in
        let x = at-exp_of n t i h in
        let y = at-exp_of n a i h in
        omega arith
    step (inr h) = let z = unused i h in omega arith

-- ---- values of polynomials that agree up to a degree

module _ {E V : Type 0} (m : Meaning E V) (laws : ScalarLaws m.scalars) (n : ℕ) where
  abbrev r : RingOps V
  r = m.scalars.ops

  abbrev P : List (Exp × E) → Polynomial n V
  P f = poly_of n m.value f

  pub same_coefficients : {X : Type 0} (w : V → V → X) (d : ℕ) (values : List (Exp × E)) (f g : Polynomial n V) → All (λ t. IsIn n t.0.e) values → All (λ t. sum t.0.e ≤ d) values → SameTo (exps n) r d f g
      → with_coefficients n r w (P values) f ≡ with_coefficients n r w (P values) g
  same_coefficients w d [] f g u l e = refl
  same_coefficients w d (t ∷ ts) f g u l e =
      ap₂ (λ x xs. x ∷ xs) (ap (w (m.value t.1)) (e (exp_of n t.0) (subst (λ z. z ≤ d) (sym (degree-exp_of n t.0 (All-head (λ t. IsIn n t.0.e) t ts u))) (All-head (λ t. sum t.0.e ≤ d) t ts l))))
      (same_coefficients w d ts f g (All-tail (λ t. IsIn n t.0.e) t ts u) (All-tail (λ t. sum t.0.e ≤ d) t ts l) e)

  -- the value is the sum of the products
  pub value_is : (values : Polynomial n V) (f : Polynomial n V) → value_on (exps n) r values f ≡ sum_of r (with_coefficients n r r.mul values f)
  value_is values f = total_is r (λ t. r.mul t.1 (coefficient (exps n) r f t.0)) values

  pub same_value : (d : ℕ) (values : List (Exp × E)) (f g : Polynomial n V) → All (λ t. IsIn n t.0.e) values → All (λ t. sum t.0.e ≤ d) values → SameTo (exps n) r d f g → value_on (exps n) r (P values) f ≡ value_on (exps n) r (P values) g
  same_value d values f g u l e = value_is (P values) f ∙ ap (sum_of r) (same_coefficients r.mul d values f g u l e) ∙ sym (value_is (P values) g)

  pub same_heights : (d : ℕ) (values : List (Exp × E)) (f g : Polynomial n V) → All (λ t. IsIn n t.0.e) values → All (λ t. sum t.0.e ≤ d) values → SameTo (exps n) r d f g → value_heights n m.scalars (P values) f ≡ value_heights n m.scalars (P values) g
  same_heights d values f g u l e =
      ap₂ (λ x y. m.scalars.sum_height x ∷ y) (same_coefficients r.mul d values f g u l e) (same_coefficients m.scalars.product_height d values f g u l e)

  -- a functional of degree at most d is 0 on what starts above d
  pub value_high : (d : ℕ) (values : List (Exp × E)) (f : Polynomial n V) → All (λ t. IsIn n t.0.e) values → All (λ t. sum t.0.e ≤ d) values → SameTo (exps n) r d f [] → value_on (exps n) r (P values) f ≡ r.zero
  value_high d values f u l e = same_value d values f [] u l e ∙ nothing values
    where
      nothing : (values : List (Exp × E)) → value_on (exps n) r (P values) [] ≡ r.zero
      nothing [] = refl
      nothing (t ∷ ts) = ap₂ r.add (Sums.mul_zero r laws.ring (m.value t.1)) (nothing ts) ∙ laws.ring.add_zero r.zero

  -- ---- the multiples of the partials

  -- x^a times the jet of a partial, up to degree d
  pub multiple_same : (d : ℕ) (g : Polynomial n V) (a : ExpList n) (i : ℕ) (f : Polynomial n V) → Same (exps n) r f (derivative_in n r i g) → SameTo (exps n) r d (times_in n r (term_in n r a) f) (multiple_to n r d g a i)
  multiple_same d g a i f e b h =
      PolyRing.times_right (exps n) (exps_are n) r laws.ring (term_in n r a) f (derivative_in n r i g) e b
      ∙ sym (Order.cut_same_to (exps n) (exps_are n) r laws.ring d (times_in n r (term_in n r a) (derivative_in n r i g)) b h)

  -- x^a of a degree above d has no multiple up to degree d
  pub high_multiple : (d : ℕ) (g : Polynomial n V) (a : ExpList n) (i : ℕ) → d < degree (exps n) a → SameTo (exps n) r d (multiple_to n r d g a i) []
  high_multiple d g a i h b l =
      Order.cut_same_to (exps n) (exps_are n) r laws.ring d (times_in n r (term_in n r a) (derivative_in n r i g)) b l
      ∙ no_multiple n r laws.ring a b (derivative_in n r i g) (λ q e. (let s = ap (degree (exps n)) e ∙ ExpLaws.degree-plus (exps n) (exps_are n) a q in absurd (omega arith)))

  -- x^0 times f is f
  pub times_none : (f : Polynomial n V) (a : ExpList n) → a ≡ none (exps n) → Same (exps n) r (times_in n r (term_in n r a) f) f
  times_none f a e b =
      ap (λ z. coefficient (exps n) r (times_in n r (term_in n r z) f) b) e
      ∙ PolyRing.times_comm (exps n) (exps_are n) r laws.ring (term_in n r (none (exps n))) f b
      ∙ PolyRing.times_one (exps n) (exps_are n) r laws.ring f b

  -- ---- all multiples

  module _ (k : ℕ) (g : Polynomial n V) (partials : ℕ → Polynomial n V) (values : List (Exp × E)) (unused : All (λ t. IsIn n t.0.e) values) (low : All (λ t. sum t.0.e ≤ k + 1) values)
      (are : (i : ℕ) → i < n → Same (exps n) r (partials i) (derivative_in n r i g)) where
    -- the functional is 0 on x^a times the partial in variable i
    abbrev IsZeroAt : ExpList n → ℕ → Type 0
    IsZeroAt a i = value_on (exps n) r (P values) (times_in n r (term_in n r a) (partials i)) ≡ r.zero

    at_multiple_of : (a : ExpList n) (i : ℕ) → i < n → value_on (exps n) r (P values) (times_in n r (term_in n r a) (partials i)) ≡ value_on (exps n) r (P values) (multiple_to n r (k + 1) g a i)
    at_multiple_of a i within = same_value (k + 1) values (times_in n r (term_in n r a) (partials i)) (multiple_to n r (k + 1) g a i) unused low (multiple_same (k + 1) g a i (partials i) (are i within))

    -- zero on the multiples of the list is zero on all
    pub zero_on_all : (us : List Multiple) → AreMultiples n 2 (k + 1) us → AllByRecursion (IsZeroOn n r (P values) partials) us
        → (a : ExpList n) (i : ℕ) → 2 ≤ degree (exps n) a → i < n → value_on (exps n) r (P values) (multiple_to n r (k + 1) g a i) ≡ r.zero
    zero_on_all us list all a i from within = step (cases_lt (k + 1) (degree (exps n) a))
      where
        step : (k + 1 < degree (exps n) a) ⊎ (degree (exps n) a ≤ k + 1) → value_on (exps n) r (P values) (multiple_to n r (k + 1) g a i) ≡ r.zero
        step (inl high) = value_high (k + 1) values (multiple_to n r (k + 1) g a i) unused low (high_multiple (k + 1) g a i high)
        step (inr to) = sym (at_multiple_of a i within) ∙ holds_of_all n 2 (k + 1) IsZeroAt us list all a i from to within

    -- and the other way round
    pub zero_on_each : (us : List Multiple) → AreMultiples n 2 (k + 1) us → ((a : ExpList n) (i : ℕ) → 2 ≤ degree (exps n) a → i < n → value_on (exps n) r (P values) (multiple_to n r (k + 1) g a i) ≡ r.zero)
        → AllByRecursion (IsZeroOn n r (P values) partials) us
    zero_on_each us list vanishes = all_hold n 2 (k + 1) IsZeroAt us list (λ a i from to within. at_multiple_of a i within ∙ vanishes a i from within)

    -- where the value at a multiple of the list is high, some value is
    pub multiple_high : (us : List Multiple) → AreMultiples n 2 (k + 1) us → IsZeroHigh n m.scalars (P values) partials us → IsMultipleHigh n m.scalars k g (P values)
    multiple_high us list high =
        let u = multiple_at us high.place in
        let is = pair_is n 2 (k + 1) us list high.place (record { factor = record { e = [] }; variable = 0 }) high.within in
        record {
          factor = exp_of n u.factor;
          variable = u.variable;
          from = (let s = sum-entries n (exp_of n (multiple_at us high.place).factor) in let f = is.from in omega arith);
          within = is.variable;
          high = subst IsHigh (same_heights (k + 1) values (times_in n m.scalars.ops (term_in n m.scalars.ops (exp_of n u.factor)) (partials u.variable)) (multiple_to n m.scalars.ops (k + 1) g (exp_of n u.factor) u.variable) unused low
              (multiple_same (k + 1) g (exp_of n u.factor) u.variable (partials u.variable) (are u.variable is.variable))) high.high;
        }

    -- the answers about the parts decide whether the functional excludes the test
    pub failure_decided : (us : List Multiple) → AreMultiples n 2 (k + 1) us → AllByRecursion (IsZeroOn n r (P values) partials) us → (at : ExpList n) → degree (exps n) at ≡ k + 1
        → (v : V) → v ≡ value_on (exps n) r (P values) (term_in n r at) → (b : Bool) → IsTrue b ↔ (v ≡ r.one) → IsTrue b ↔ MatherFails (exps n) r k g (P values) at
    failure_decided us list all at degree_is v value b decides = (
      (λ yes. record { of_degree = degree_is; zero_on = λ a i from within. zero_on_all us list all a i from within; one_on = sym value ∙ decides.0 yes }),
      (λ fails. decides.1 (value ∙ fails.one_on)),
    )

-- a quotient has no other variables
pub quotient_in : (n : ℕ) (t a q : List ℕ) → IsProduct t q a → IsIn n t → IsIn n q
quotient_in n t a q p unused i h = let e = p i in let z = unused i h in omega arith

-- ---- at the number of variables of the jet

module _ {E V : Type 0} (m : Meaning E V) (laws : ScalarLaws m.scalars) (g : JetTerms E) (k : ℕ) (partials : List (JetTerms E)) (values : List (Exp × E)) where
  partials_are : ArePartials m g.n (polynomial_of m g) partials → (i : ℕ) → i < g.n → Same (exps g.n) m.scalars.ops (polynomial_at g.n m.value partials i) (derivative_in g.n m.scalars.ops i (polynomial_of m g))
  partials_are are i h = (are.each i (record { n = 0; order = 0; terms = [] }) (subst (λ l. i < l) (sym are.count) h)).derivative

  abbrev High : List Multiple → ℕ → Type 0
  High us n = AreMultiples n 2 (k + 1) us → IsZeroHigh n m.scalars (poly_of n m.value values) (polynomial_at n m.value partials) us → IsMultipleHigh g.n m.scalars k (polynomial_of m g) (poly_of g.n m.value values)

  pub zeros_high : (us : List Multiple) (n : ℕ) → n ≡ g.n → ArePartials m g.n (polynomial_of m g) partials → All (λ t. IsIn g.n t.0.e) values → All (λ t. sum t.0.e ≤ k + 1) values → High us n
  zeros_high us n e are unused low = subst (High us) (sym e) (λ list high. multiple_high m laws g.n k (polynomial_of m g) (polynomial_at g.n m.value partials) values unused low (partials_are are) us list high)

  abbrev Vanishes : List Multiple → ExpList g.n → ℕ → Type 0
  Vanishes us at n = AreMultiples n 2 (k + 1) us → MatherFails (exps g.n) m.scalars.ops k (polynomial_of m g) (poly_of g.n m.value values) at
      → AllByRecursion (IsZeroOn n m.scalars.ops (poly_of n m.value values) (polynomial_at n m.value partials)) us

  pub must_vanish : (us : List Multiple) (at : ExpList g.n) (n : ℕ) → n ≡ g.n → ArePartials m g.n (polynomial_of m g) partials → All (λ t. IsIn g.n t.0.e) values → All (λ t. sum t.0.e ≤ k + 1) values → Vanishes us at n
  must_vanish us at n e are unused low = subst (Vanishes us at) (sym e)
      (λ list fails. zero_on_each m laws g.n k (polynomial_of m g) (polynomial_at g.n m.value partials) values unused low (partials_are are) us list (λ a i from within. fails.zero_on a i from within))

  -- the value at x^0 times the jet of the monomial is the value at the monomial
  one_value : (n : ℕ) (at : ExpList n) (f : Polynomial n V) (a : Exp) → f ≡ term_in n m.scalars.ops at → ((i : ℕ) → get_or a.e i 0 ≡ 0)
      → (All (λ t. IsIn n t.0.e) values) → All (λ t. sum t.0.e ≤ k + 1) values → SameTo (exps n) m.scalars.ops (k + 1) (times_in n m.scalars.ops (term_in n m.scalars.ops (exp_of n a)) f) (term_in n m.scalars.ops at)
  one_value n at f a e zeros unused low b h =
      times_none m laws n f (exp_of n a) ((exps_are n).same_at (exp_of n a) (none (exps n)) (λ i l. at-exp_of n a i l ∙ zeros i ∙ sym (ExpLaws.at-none (exps n) (exps_are n) i l))) b
      ∙ ap (λ z. coefficient (exps n) m.scalars.ops z b) e

  abbrev Decided : List Multiple → Exp → Bool → E → JetTerms E → Exp → ℕ → Type 0
  Decided us at b v monomial a n = AreMultiples n 2 (k + 1) us → AllByRecursion (IsZeroOn n m.scalars.ops (poly_of n m.value values) (polynomial_at n m.value partials)) us
      → poly_of n m.value monomial.terms ≡ term_in n m.scalars.ops (exp_of n at)
      → m.value v ≡ value_on (exps n) m.scalars.ops (poly_of n m.value values) (times_in n m.scalars.ops (term_in n m.scalars.ops (exp_of n a)) (poly_of n m.value monomial.terms))
      → IsTrue b ↔ MatherFails (exps g.n) m.scalars.ops k (polynomial_of m g) (poly_of g.n m.value values) (exp_of g.n at)

  pub functional_decided : (us : List Multiple) (at : Exp) (b : Bool) (v : E) (monomial : JetTerms E) (a : Exp) (n : ℕ) → n ≡ g.n → ArePartials m g.n (polynomial_of m g) partials → All (λ t. IsIn g.n t.0.e) values
      → All (λ t. sum t.0.e ≤ k + 1) values → IsIn g.n at.e → sum at.e ≡ k + 1 → ((i : ℕ) → get_or a.e i 0 ≡ 0) → IsTrue b ↔ (m.value v ≡ m.scalars.ops.one) → Decided us at b v monomial a n
  functional_decided us at b v monomial a n e are unused low inside degree_is zeros decides = subst (Decided us at b v monomial a) (sym e) (λ list all one value.
      failure_decided m laws g.n k (polynomial_of m g) (polynomial_at g.n m.value partials) values unused low (partials_are are) us list all (exp_of g.n at) (degree-exp_of g.n at inside ∙ degree_is) (m.value v)
      (value ∙ same_value m laws g.n (k + 1) values (times_in g.n m.scalars.ops (term_in g.n m.scalars.ops (exp_of g.n a)) (poly_of g.n m.value monomial.terms)) (term_in g.n m.scalars.ops (exp_of g.n at)) unused low
      (one_value g.n (exp_of g.n at) (poly_of g.n m.value monomial.terms) a one zeros unused low)) b decides)

  abbrev OneHigh : Exp → JetTerms E → Exp → ℕ → Type 0
  OneHigh at monomial a n = poly_of n m.value monomial.terms ≡ term_in n m.scalars.ops (exp_of n at)
      → IsHigh (value_heights n m.scalars (poly_of n m.value values) (times_in n m.scalars.ops (term_in n m.scalars.ops (exp_of n a)) (poly_of n m.value monomial.terms)))
      → IsHigh (value_heights g.n m.scalars (poly_of g.n m.value values) (term_in g.n m.scalars.ops (exp_of g.n at)))

  pub one_high : (at : Exp) (monomial : JetTerms E) (a : Exp) (n : ℕ) → n ≡ g.n → All (λ t. IsIn g.n t.0.e) values → All (λ t. sum t.0.e ≤ k + 1) values → ((i : ℕ) → get_or a.e i 0 ≡ 0) → OneHigh at monomial a n
  one_high at monomial a n e unused low zeros = subst (OneHigh at monomial a) (sym e) (λ one high.
      subst IsHigh (same_heights m laws g.n (k + 1) values (times_in g.n m.scalars.ops (term_in g.n m.scalars.ops (exp_of g.n a)) (poly_of g.n m.value monomial.terms)) (term_in g.n m.scalars.ops (exp_of g.n at)) unused low
      (one_value g.n (exp_of g.n at) (poly_of g.n m.value monomial.terms) a one zeros unused low)) high)
