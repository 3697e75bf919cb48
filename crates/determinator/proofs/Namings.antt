-- The family that the finish without a part looks for: one of the series A, with a small number.
use Rattle.std.proofs.Common.{◌≡◌, ℕ, zero, suc, ◌+◌, ◌-◌, ◌<◌, ◌≤◌, Bool, true, false, cond, Option, Some, None, List, [], ◌∷◌, filter, nat_le, lt-ltb, leb-true, refl, sym, ap, ap₂, subst, ◌∙◌, arith}
use Rattle.ring_theory.specs.Scalars.{Scalars}
use Rattle.ext_algebra.specs.declared.algebra.Algebra.{Algebra}
use Rattle.ext_algebra.specs.declared.algebra.Algebra.TheVariants as algebras
use Rattle.ext_algebra.specs.Algebra.{scalars, value_in}
use Rattle.poly_law.specs.Polynomials.{Polynomial}
use Rattle.mono_exp.specs.Exponents.{numbers_below}
use Rattle.mono_exp.proofs.Lists.{Each, numbers_are_below}
use Rattle.jet_law.specs.Terms.{poly_of}
use Rattle.normal_forms.specs.declared.family.Family.{Family}
use Rattle.normal_forms.specs.declared.family.Family.TheVariants as families
use Rattle.normal_forms.specs.declared.kind.Kind.TheVariants as kinds
use Rattle.normal_forms.specs.Families.{kind_of}
use Rattle.cert_text.specs.declared.report.Carried.{Carried}
use Rattle.cert_text.specs.WellFormed.{has_small_numbers, IsWellFormedCarried}
use Rattle.report_law.specs.Items.{variables_of, jet_of}
use Rattle.report_jet.proofs.ReportJets.{terms_in-poly_of}
use Rattle.kill_law.specs.Kill.{first}
use Rattle.move_law.specs.Moves.{is_there, power_exponents}
use Rattle.move_law.specs.Finish.{finish, from_to, least}
use Rattle.certificate.specs.Moduli.{IsRationalForm}
use Rattle.determinator.specs.Naming.{family_found}

-- the first that passes a test is one of the list
first_among : {A : Type 0} (P : A → Type 0) (p : A → Bool) (xs : List A) (x : A) → first p xs ≡ Some x → Each P xs → P x
first_among P p [] x e all = let bad : ⊥ = cc e in absurd bad
first_among P p (y ∷ ys) x e all = step (p y) (first_among P p ys x) e
  where
    same : Some y ≡ Some x → y ≡ x
    same q = cc q

    step : (b : Bool) → (first p ys ≡ Some x → Each P ys → P x) → cond b (Some y) (first p ys) ≡ Some x → P x
    step true rest h = subst P (same h) all.0
    step false rest h = rest h all.1

each_kept : {A : Type 0} (P : A → Type 0) (p : A → Bool) (xs : List A) → Each P xs → Each P (filter p xs)
each_kept P p [] all = tt
each_kept P p (x ∷ xs) all = step (p x) (each_kept P p xs all.1)
  where
    step : (b : Bool) → Each P (filter p xs) → Each P (cond b (x ∷ filter p xs) (filter p xs))
    step true rest = (all.0, rest)
    step false rest = rest

-- a family of the series A with a number below 256
pub record IsOfA (family : Family) : Type 0 where
  pub number : ℕ
  pub small : number < 256
  pub is : family ≡ families.A number

module _ {V : Type 0} (n : ℕ) (s : Scalars V) (o : ℕ) (small : o ≤ 16) (f : Polynomial n V) where
  least_small : (m : ℕ) → least n s o 0 f ≡ Some m → m < o + 1
  least_small m e =
      first_among (λ i. i < o + 1) (λ i. is_there n s f (power_exponents n 0 i)) (from_to 2 o) m e
      (each_kept (λ i. i < o + 1) (nat_le 2) (numbers_below (o + 1)) (numbers_are_below (o + 1)))

  pub found_of_A : (c : ℕ) → c ≤ 3 → (family : Family) → (finish n s o c None f).1 ≡ Some family → IsOfA family
  unfolding finish
  found_of_A zero h family e = record { number = 1; small = omega arith; is = same e }
    where
      same : Some (families.A 1) ≡ Some family → family ≡ families.A 1
      same q = cc q
  found_of_A (suc zero) h family e = step (least n s o 0 f) refl e
    where
      step : (m : Option ℕ) → least n s o 0 f ≡ m → elim m [ Some k ↦ Some (families.A (k - 1)) | None ↦ None ] ≡ Some family → IsOfA family
      step None q r = let bad : ⊥ = cc r in absurd bad
      step (Some m) q r = let b = least_small m q in record { number = m - 1; small = omega arith; is = same r }
        where
          same : Some (families.A (m - 1)) ≡ Some family → family ≡ families.A (m - 1)
          same z = cc z
  found_of_A (suc (suc zero)) h family e = none e
    where
      none : None ≡ Some family → IsOfA family
      none q = absurd (cc q)
  found_of_A (suc (suc (suc zero))) h family e = none e
    where
      none : None ≡ Some family → IsOfA family
      none q = absurd (cc q)
  found_of_A (suc (suc (suc (suc c)))) h family e = absurd (omega arith)

pub simple_of : (family : Family) → IsOfA family → kind_of family ≡ kinds.Simple
simple_of family h = subst (λ x. kind_of x ≡ kinds.Simple) (sym h.is) refl

pub numbers_of : (family : Family) → IsOfA family → has_small_numbers family ≡ true
numbers_of family h = subst (λ x. has_small_numbers x ≡ true) (sym h.is) (lt-ltb h.number 256 h.small)

-- such a form has no j invariant
simple_rational : (a : Algebra) → IsRationalForm a kinds.Simple
simple_rational algebras.Rational = tt
simple_rational (algebras.Quadratic m1 m0) = tt
simple_rational (algebras.Cubic m2 m1 m0) = tt
simple_rational (algebras.Tower m2 m1 m0 d) = tt

pub found_rational : (c : Carried) → c.order ≤ 16 → c.corank ≤ 3 → (family : Family) → family_found c ≡ Some family → IsRationalForm c.algebra (kind_of family)
found_rational c small low family e =
    subst (IsRationalForm c.algebra) (sym (simple_of family (found_of_A (variables_of c) (scalars c.algebra) c.order small (jet_of c) c.corank low family e))) (simple_rational c.algebra)

-- ---- what the code looks for

passing : {A : Type 0} (p : A → Bool) (xs : List A) → Each (λ x. p x ≡ true) (filter p xs)
passing p [] = tt
passing p (x ∷ xs) = step (p x) refl (passing p xs)
  where
    step : (b : Bool) → p x ≡ b → Each (λ x. p x ≡ true) (filter p xs) → Each (λ x. p x ≡ true) (cond b (x ∷ filter p xs) (filter p xs))
    step true e rest = (e, rest)
    step false e rest = rest

-- the least power is at least 2
pub least_at_2 : {V : Type 0} (n : ℕ) (s : Scalars V) (o : ℕ) (f : Polynomial n V) (m : ℕ) → least n s o 0 f ≡ Some m → 2 ≤ m
least_at_2 n s o f m e =
    leb-true 2 m (first_among (λ i. nat_le 2 i ≡ true) (λ i. is_there n s f (power_exponents n 0 i)) (from_to 2 o) m e (passing (nat_le 2) (numbers_below (o + 1))))

-- the family by the least power
abbrev by_power : Option ℕ → Option Family
by_power found = elim found [ Some m ↦ Some (families.A (m - 1)) | None ↦ None ]

module _ (c : Carried) where
  abbrev found_in : ℕ → Option Family
  found_in k = (finish (variables_of c) (scalars c.algebra) c.order k None (jet_of c)).1

  none_residual : found_in 0 ≡ Some (families.A 1)
  unfolding finish
  none_residual = refl

  one_residual : found_in 1 ≡ by_power (least (variables_of c) (scalars c.algebra) c.order 0 (jet_of c))
  unfolding finish
  one_residual = refl

  pub found_0 : c.corank ≡ 0 → Some (families.A 1) ≡ family_found c
  found_0 e = sym (ap found_in e ∙ none_residual)

  more_residual : (k : ℕ) → 1 < k → k ≤ 3 → found_in k ≡ None
  unfolding finish
  more_residual zero h g = absurd (omega arith)
  more_residual (suc zero) h g = absurd (omega arith)
  more_residual (suc (suc zero)) h g = refl
  more_residual (suc (suc (suc zero))) h g = refl
  more_residual (suc (suc (suc (suc k)))) h g = absurd (omega arith)

  pub found_more : 1 < c.corank → c.corank ≤ 3 → None ≡ family_found c
  found_more some few = sym (more_residual c.corank some few)

  module _ (formed : IsWellFormedCarried c) where
    -- the jet of the report, as one of the program
    least_same : least c.jet.n (scalars c.algebra) c.jet.order 0 (poly_of c.jet.n (value_in c.algebra) c.jet.terms) ≡ least (variables_of c) (scalars c.algebra) c.order 0 (jet_of c)
    least_same =
        ap₂ (λ z k. least z (scalars c.algebra) k 0 (poly_of z (value_in c.algebra) c.jet.terms)) formed.jet.variables formed.jet.order_is
        ∙ ap (least (variables_of c) (scalars c.algebra) c.order 0) (sym (terms_in-poly_of (variables_of c) c.algebra c.jet.terms))

    pub found_1 : c.corank ≡ 1 → (found : Option ℕ) → found ≡ least c.jet.n (scalars c.algebra) c.jet.order 0 (poly_of c.jet.n (value_in c.algebra) c.jet.terms) → by_power found ≡ family_found c
    found_1 one found e = ap by_power (e ∙ least_same) ∙ sym (ap found_in one ∙ one_residual)
