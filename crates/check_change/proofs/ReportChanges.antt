-- The change of a report and its germ over the ring of its algebra.
use mathlib.Core.Path.{fun_ext}
use Rattle.std.proofs.Common.{◌≡◌, ℕ, zero, suc, ◌+◌, ◌*◌, ◌<◌, ◌≤◌, Bool, true, false, IsTrue, ◌↔◌, cond, List, [], ◌∷◌, length, get_or, All, sum, refl, sym, ap, ap₂, subst, ◌∙◌, arith}
use Rattle.std.specs.Prelude.{nat_lt, slice_index_or}
use Rattle.std.specs.List.{AllByRecursion, list_all}
use Rattle.std.proofs.lemmas.Bool.{ltb-true}
use Rattle.std.proofs.lemmas.List.Elements.{All-from_recursion, All-head, All-tail}
use Rattle.line_syntax.proofs.Bools.{and_left, and_right}
use Rattle.ring_theory.specs.Rational.{Rational, rational_ops}
use Rattle.ring_theory.specs.Scalars.{ScalarLaws}
use Rattle.ring_theory.proofs.ValueSet.{values_are_set}
use Rattle.ring_law.specs.declared.fraction.Frac.{Frac}
use Rattle.ring_law.specs.Fraction.{frac_value}
use Rattle.ext_theory.specs.ExtensionScalars.{quadratic_scalars, cubic_scalars}
use Rattle.ext_algebra.specs.declared.algebra.Algebra.{Algebra}
use Rattle.ext_algebra.specs.declared.algebra.Algebra.TheVariants as algebras
use Rattle.ext_algebra.specs.declared.algebra.Ext.{Ext}
use Rattle.ext_algebra.specs.Algebra.{ops, scalars, value_in, algebra_meaning}
use Rattle.poly_law.specs.Exps.{degree, same, variable}
use Rattle.poly_law.specs.ExpList.{ExpList, exps}
use Rattle.poly_law.specs.Poly.{IsInvertible}
use Rattle.poly_law.specs.Polynomials.{Polynomial, StartsAtIn, HaveNoConstant, SameToIn, coefficient_in, substitute}
use Rattle.poly_law.proofs.ExpLists.{exps_are}
use Rattle.poly_law.proofs.SubstOrder
use Rattle.mono_exp.specs.declared.exponent.Exp.{Exp}
use Rattle.mono_exp.specs.Exponents.{IsIn}
use Rattle.jet_law.specs.Terms.{poly_of}
use Rattle.jet_law.proofs.TermLemmas.{degree-exp_of}
use Rattle.jet_poly.specs.JetTerms.{JetTerms}
use Rattle.jacobian_row.proofs.Combinations
use Rattle.jet_subst.specs.Parts.{IsPart}
use Rattle.jet_subst.specs.Parts as jets
use Rattle.jet_subst.specs.Substitutions.{IsSubstHigh}
use Rattle.coord_change.specs.Changes.{entry_of}
use Rattle.coord_change.specs.Inverses.{IsInverseMatrix}
use Rattle.coord_change.specs.Linear.{linear_part_of}
use Rattle.coord_change.proofs.ChangeLemmas
use Rattle.line_jet_law.specs.LineJets.{rational_polynomial}
use Rattle.cert_text.specs.declared.report.Carried.{Carried}
use Rattle.cert_text.specs.WellFormed.{IsWellFormedCarried, IsPartOf}
use Rattle.report_law.specs.Polynomials.{PolynomialOver, jet_at, value_at, lifted}
use Rattle.report_law.specs.Items.{variables_of, ring_of, jet_of, part_of, matrix_of, IsInvertibleChange}
use Rattle.report_jet.proofs.ReportJets.{jet_valid, terms_in-poly_of, get_or-values}
use Rattle.check_change.specs.Heights.{AreProductsHigh, IsInverseHigh, IsCarryHigh}

-- ---- parts and matrices by their places

same_jet : (n : ℕ) (parts : List (JetTerms (Ext Frac))) (i : ℕ) → (jets.jet_at parts i).terms ≡ (slice_index_or parts i (record { n = n; order = 0; terms = [] })).terms
same_jet n [] i = refl
same_jet n (p ∷ ps) zero = refl
same_jet n (p ∷ ps) (suc i) = same_jet n ps i

-- part i of a change as a report has it
pub parts_are : (n : ℕ) (a : Algebra) (parts : List (JetTerms (Ext Frac))) → jets.part_of n (value_in a) parts ≡ jet_at n a parts
unfolding jet_at
parts_are n a parts = fun_ext λ i. ap (poly_of n (value_in a)) (same_jet n parts i) ∙ sym (terms_in-poly_of n a (slice_index_or parts i (record { n = n; order = 0; terms = [] })).terms)

-- the entries of a matrix as a report has them
pub entries_are : (n : ℕ) (a : Algebra) (es : List (Ext Frac)) → entry_of (algebra_meaning a) n es ≡ (λ i k. value_at a es (n * i + k))
entries_are n a es = fun_ext λ i. fun_ext λ k. get_or-values a es (n * i + k)

-- ---- what well-formedness says of the change

low_terms : {V : Type 0} (n : ℕ) (value : Ext Frac → V) (ts : List (Exp × Ext Frac)) → All (λ t. IsIn n t.0.e) ts → list_all (λ t. nat_lt 0 (sum t.0.e)) ts ≡ true → AllByRecursion (λ t. 1 ≤ degree (exps n) t.0) (poly_of n value ts)
low_terms n value [] inside low = tt
low_terms n value (t ∷ ts) inside low = (
  (let d = degree-exp_of n t.0 (All-head (λ t. IsIn n t.0.e) t ts inside) in
      let h : 0 < sum t.0.e = ltb-true 0 (sum t.0.e) (and_left (nat_lt 0 (sum t.0.e)) (list_all (λ t. nat_lt 0 (sum t.0.e)) ts) low) in
      omega arith),
  low_terms n value ts (All-tail (λ t. IsIn n t.0.e) t ts inside) (and_right (nat_lt 0 (sum t.0.e)) (list_all (λ t. nat_lt 0 (sum t.0.e)) ts) low),
)

module _ (n k : ℕ) (a : Algebra) where
  part_valid : (f : JetTerms (Ext Frac)) → IsPartOf n k a f → IsPart (algebra_meaning a) n f
  part_valid f h = record { jet = jet_valid n k a f h.jet; variables = h.jet.variables }

  -- the parts are jets
  pub parts_valid : (fs : List (JetTerms (Ext Frac))) → AllByRecursion (IsPartOf n k a) fs → All (IsPart (algebra_meaning a) n) fs
  parts_valid fs h = All-from_recursion (IsPart (algebra_meaning a) n) fs (each fs h)
    where
      each : (fs : List (JetTerms (Ext Frac))) → AllByRecursion (IsPartOf n k a) fs → AllByRecursion (IsPart (algebra_meaning a) n) fs
      each [] h = tt
      each (f ∷ fs) h = (part_valid f h.0, each fs h.1)

  -- without constant terms
  pub no_constants : ScalarLaws (scalars a) → (fs : List (JetTerms (Ext Frac))) → AllByRecursion (IsPartOf n k a) fs → (i : ℕ) → i < length fs → StartsAtIn n (ops a) 1 (jets.part_of n (value_in a) fs i)
  no_constants laws [] h i l = absurd (omega arith)
  no_constants laws (f ∷ fs) h zero l =
      let inside : All (λ t. IsIn n t.0.e) f.terms = subst (λ z. All (λ t. IsIn z t.0.e) f.terms) h.0.jet.variables (jet_valid n k a f h.0.jet).variables in
      Combinations.starts_terms (ops a) laws.ring (values_are_set (scalars a) laws) n 1 (poly_of n (value_in a) f.terms) (low_terms n (value_in a) f.terms inside h.0.no_constant)
  no_constants laws (f ∷ fs) h (suc i) l = no_constants laws fs h.1 i (omega arith)

-- ---- the item Inverse

-- the change of a well-formed report is invertible exactly where the matrix is the inverse of the linear part
module _ (c : Carried) (w : IsWellFormedCarried c) (laws : ScalarLaws (scalars c.algebra)) where
  no_constant_terms : HaveNoConstant (variables_of c) (ring_of c) (variables_of c) (jets.part_of (variables_of c) (value_in c.algebra) c.change.parts)
  no_constant_terms i h = no_constants (variables_of c) c.order c.algebra laws c.change.parts w.parts i (let e = w.parts_count in omega arith)

  pub invertible_of : IsInverseMatrix (ring_of c) (variables_of c) (linear_part_of (algebra_meaning c.algebra) (variables_of c) c.change.parts) (entry_of (algebra_meaning c.algebra) (variables_of c) c.change.inverse) → IsInvertibleChange c
  invertible_of q =
      subst (λ p. IsInvertible (exps (variables_of c)) (ring_of c) p (matrix_of c)) (parts_are (variables_of c) c.algebra c.change.parts)
      (subst (λ e. IsInvertible (exps (variables_of c)) (ring_of c) (jets.part_of (variables_of c) (value_in c.algebra) c.change.parts) e) (entries_are (variables_of c) c.algebra c.change.inverse)
      (record { no_constant = no_constant_terms; left = q.left; right = q.right }))

  pub inverse_of : IsInvertibleChange c → IsInverseMatrix (ring_of c) (variables_of c) (linear_part_of (algebra_meaning c.algebra) (variables_of c) c.change.parts) (entry_of (algebra_meaning c.algebra) (variables_of c) c.change.inverse)
  inverse_of q =
      let p : IsInvertible (exps (variables_of c)) (ring_of c) (jets.part_of (variables_of c) (value_in c.algebra) c.change.parts) (entry_of (algebra_meaning c.algebra) (variables_of c) c.change.inverse) =
      subst (λ e. IsInvertible (exps (variables_of c)) (ring_of c) (jets.part_of (variables_of c) (value_in c.algebra) c.change.parts) e) (sym (entries_are (variables_of c) c.algebra c.change.inverse))
      (subst (λ p. IsInvertible (exps (variables_of c)) (ring_of c) p (matrix_of c)) (sym (parts_are (variables_of c) c.algebra c.change.parts)) q) in
      record { left = p.left; right = p.right }

-- ---- the germ over the algebra

rational_zero : (a : Algebra) → (scalars a).rational rational_ops.zero ≡ (ops a).zero
unfolding value_in scalars quadratic_scalars cubic_scalars
rational_zero algebras.Rational = refl
rational_zero (algebras.Quadratic m1 m0) = refl
rational_zero (algebras.Cubic m2 m1 m0) = refl
rational_zero (algebras.Tower m2 m1 m0 d) = refl

-- the coefficients of a polynomial over the algebra are those over the rational numbers
coefficient-lifted : (n : ℕ) (a : Algebra) → ScalarLaws (scalars a) → (f : Polynomial n Rational) (b : ExpList n) → coefficient_in n (ops a) (lifted n a f) b ≡ (scalars a).rational (coefficient_in n rational_ops f b)
unfolding lifted
coefficient-lifted n a laws [] b = sym (rational_zero a)
coefficient-lifted n a laws (t ∷ f) b =
    ap₂ (ops a).add (step (same (exps n) t.0 b)) (coefficient-lifted n a laws f b)
    ∙ sym (laws.embeds.add (cond (same (exps n) t.0 b) t.1 rational_ops.zero) (coefficient_in n rational_ops f b))
  where
    step : (h : Bool) → cond h ((scalars a).rational t.1) (ops a).zero ≡ (scalars a).rational (cond h t.1 rational_ops.zero)
    step true = refl
    step false = sym (rational_zero a)

-- polynomials that agree up to a degree agree over the algebra, also with the change substituted
pub substituted_same_to : (n k : ℕ) (a : Algebra) → ScalarLaws (scalars a) → (parts : ℕ → PolynomialOver n a) → HaveNoConstant n (ops a) n parts → (f g : Polynomial n Rational) → SameToIn n rational_ops k f g
    → SameToIn n (ops a) k (substitute n n (ops a) parts (lifted n a f)) (substitute n n (ops a) parts (lifted n a g))
substituted_same_to n k a laws parts low f g e =
    SubstOrder.subst_same_to (exps n) (exps_are n) (exps n) (exps_are n) (ops a) laws.ring (values_are_set (scalars a) laws) parts low k (lifted n a f) (lifted n a g)
    (λ b h. coefficient-lifted n a laws f b ∙ ap (scalars a).rational (e b h) ∙ sym (coefficient-lifted n a laws g b))

-- ---- the items by their tests

module _ (c : Carried) (w : IsWellFormedCarried c) (ps : List (JetTerms (Ext Frac))) (eps : ps ≡ c.change.parts) where
  -- the parts as they are passed on, in the variables of the report
  pub parts_here : (n : ℕ) → n ≡ variables_of c → All (IsPart (algebra_meaning c.algebra) n) ps
  parts_here n e = subst (λ z. All (IsPart (algebra_meaning c.algebra) z) ps) (sym e)
      (subst (λ (zs : List (JetTerms (Ext Frac))). All (IsPart (algebra_meaning c.algebra) (variables_of c)) zs) (sym eps) (parts_valid (variables_of c) c.order c.algebra c.change.parts w.parts))

  pub sized : jets.variables_of ps ≡ variables_of c
  sized = ChangeLemmas.variables_are (algebra_meaning c.algebra) (variables_of c) ps
      (subst (λ (zs : List (JetTerms (Ext Frac))). 0 < length zs) (sym eps) (let e = w.parts_count in let h = w.some_name in omega arith)) (parts_here (variables_of c) refl)

  -- the printed jet
  pub jet_here : IsPart (algebra_meaning c.algebra) (jets.variables_of ps) c.jet
  jet_here = record { jet = jet_valid (variables_of c) c.order c.algebra c.jet w.jet; variables = w.jet.variables ∙ sym sized }

  -- the test of the matrix
  module _ (laws : ScalarLaws (scalars c.algebra)) (n : ℕ) (en : n ≡ variables_of c) (es : List (Ext Frac)) (ees : es ≡ c.change.inverse) where
    pub inverse_test : (b : Bool) → (IsTrue b ↔ IsInverseMatrix (ring_of c) n (linear_part_of (algebra_meaning c.algebra) n ps) (entry_of (algebra_meaning c.algebra) n es)) → IsTrue b ↔ IsInvertibleChange c
    inverse_test b test =
        let here : IsTrue b ↔ IsInverseMatrix (ring_of c) (variables_of c) (linear_part_of (algebra_meaning c.algebra) (variables_of c) c.change.parts) (entry_of (algebra_meaning c.algebra) (variables_of c) c.change.inverse) =
        subst (λ z. IsTrue b ↔ IsInverseMatrix (ring_of c) z (linear_part_of (algebra_meaning c.algebra) z c.change.parts) (entry_of (algebra_meaning c.algebra) z c.change.inverse)) en
        (subst (λ (zs : List (JetTerms (Ext Frac))). IsTrue b ↔ IsInverseMatrix (ring_of c) n (linear_part_of (algebra_meaning c.algebra) n zs) (entry_of (algebra_meaning c.algebra) n c.change.inverse)) eps
        (subst (λ (zs : List (Ext Frac)). IsTrue b ↔ IsInverseMatrix (ring_of c) n (linear_part_of (algebra_meaning c.algebra) n ps) (entry_of (algebra_meaning c.algebra) n zs)) ees test)) in
        (λ t. invertible_of c w laws (here.0 t), λ q. here.1 (inverse_of c w laws q))

    -- the height of its products
    pub inverse_high : AreProductsHigh (scalars c.algebra) n (linear_part_of (algebra_meaning c.algebra) n ps) (entry_of (algebra_meaning c.algebra) n es) → IsInverseHigh c
    inverse_high high =
        subst (λ p. AreProductsHigh (scalars c.algebra) (variables_of c) (λ i j. coefficient_in (variables_of c) (ring_of c) (p i) (variable (exps (variables_of c)) j)) (matrix_of c)) (parts_are (variables_of c) c.algebra c.change.parts)
        (subst (AreProductsHigh (scalars c.algebra) (variables_of c) (linear_part_of (algebra_meaning c.algebra) (variables_of c) c.change.parts)) (entries_are (variables_of c) c.algebra c.change.inverse)
        (subst (λ z. AreProductsHigh (scalars c.algebra) z (linear_part_of (algebra_meaning c.algebra) z c.change.parts) (entry_of (algebra_meaning c.algebra) z c.change.inverse)) en
        (subst (λ (zs : List (JetTerms (Ext Frac))). AreProductsHigh (scalars c.algebra) n (linear_part_of (algebra_meaning c.algebra) n zs) (entry_of (algebra_meaning c.algebra) n c.change.inverse)) eps
        (subst (λ (zs : List (Ext Frac)). AreProductsHigh (scalars c.algebra) n (linear_part_of (algebra_meaning c.algebra) n ps) (entry_of (algebra_meaning c.algebra) n zs)) ees high))))

  -- the test of the carried jet, for the germ as a jet and its lift f
  module _ (germ : JetTerms Frac) (f : JetTerms (Ext Frac)) (en : f.n ≡ germ.n) (same : germ.n ≡ variables_of c)
      (lift : poly_of germ.n (value_in c.algebra) f.terms ≡ lifted germ.n c.algebra (poly_of germ.n frac_value germ.terms)) where
    lift_here : poly_of (variables_of c) (value_in c.algebra) f.terms ≡ lifted (variables_of c) c.algebra (rational_polynomial (variables_of c) germ)
    lift_here = subst (λ z. poly_of z (value_in c.algebra) f.terms ≡ lifted z c.algebra (poly_of z frac_value germ.terms)) same lift

    jet_test : (b : Bool) → (IsTrue b ↔ SameToIn (jets.variables_of ps) (ring_of c) c.order (poly_of (jets.variables_of ps) (value_in c.algebra) c.jet.terms)
        (substitute f.n (jets.variables_of ps) (ring_of c) (jets.part_of (jets.variables_of ps) (value_in c.algebra) ps) (poly_of f.n (value_in c.algebra) f.terms)))
        → IsTrue b ↔ SameToIn (variables_of c) (ring_of c) c.order (jet_of c) (substitute (variables_of c) (variables_of c) (ring_of c) (part_of c) (lifted (variables_of c) c.algebra (rational_polynomial (variables_of c) germ)))
    jet_test b test =
        subst (λ j. IsTrue b ↔ SameToIn (variables_of c) (ring_of c) c.order j (substitute (variables_of c) (variables_of c) (ring_of c) (part_of c) (lifted (variables_of c) c.algebra (rational_polynomial (variables_of c) germ)))) (sym (terms_in-poly_of (variables_of c) c.algebra c.jet.terms))
        (subst (λ q. IsTrue b ↔ SameToIn (variables_of c) (ring_of c) c.order (poly_of (variables_of c) (value_in c.algebra) c.jet.terms) (substitute (variables_of c) (variables_of c) (ring_of c) (part_of c) q)) lift_here
        (subst (λ p. IsTrue b ↔ SameToIn (variables_of c) (ring_of c) c.order (poly_of (variables_of c) (value_in c.algebra) c.jet.terms) (substitute (variables_of c) (variables_of c) (ring_of c) p (poly_of (variables_of c) (value_in c.algebra) f.terms))) (parts_are (variables_of c) c.algebra c.change.parts)
        (subst (λ (zs : List (JetTerms (Ext Frac))). IsTrue b ↔ SameToIn (variables_of c) (ring_of c) c.order (poly_of (variables_of c) (value_in c.algebra) c.jet.terms) (substitute (variables_of c) (variables_of c) (ring_of c) (jets.part_of (variables_of c) (value_in c.algebra) zs) (poly_of (variables_of c) (value_in c.algebra) f.terms))) eps
        (subst (λ z. IsTrue b ↔ SameToIn (variables_of c) (ring_of c) c.order (poly_of (variables_of c) (value_in c.algebra) c.jet.terms) (substitute z (variables_of c) (ring_of c) (jets.part_of (variables_of c) (value_in c.algebra) ps) (poly_of z (value_in c.algebra) f.terms))) (en ∙ same)
        (subst (λ z. IsTrue b ↔ SameToIn z (ring_of c) c.order (poly_of z (value_in c.algebra) c.jet.terms) (substitute f.n z (ring_of c) (jets.part_of z (value_in c.algebra) ps) (poly_of f.n (value_in c.algebra) f.terms))) sized test)))))

    -- the same for each polynomial that the germ agrees with up to the order
    pub carry_test : ScalarLaws (scalars c.algebra) → (b : Bool) → (IsTrue b ↔ SameToIn (jets.variables_of ps) (ring_of c) c.order (poly_of (jets.variables_of ps) (value_in c.algebra) c.jet.terms)
        (substitute f.n (jets.variables_of ps) (ring_of c) (jets.part_of (jets.variables_of ps) (value_in c.algebra) ps) (poly_of f.n (value_in c.algebra) f.terms)))
        → (g : Polynomial (variables_of c) Rational) → SameToIn (variables_of c) rational_ops c.order (rational_polynomial (variables_of c) germ) g
        → IsTrue b ↔ SameToIn (variables_of c) (ring_of c) c.order (jet_of c) (substitute (variables_of c) (variables_of c) (ring_of c) (part_of c) (lifted (variables_of c) c.algebra g))
    carry_test laws b test g e =
        let here = jet_test b test in
        let low : HaveNoConstant (variables_of c) (ring_of c) (variables_of c) (part_of c) = subst (HaveNoConstant (variables_of c) (ring_of c) (variables_of c)) (parts_are (variables_of c) c.algebra c.change.parts) (no_constant_terms c w laws) in
        let agree = substituted_same_to (variables_of c) c.order c.algebra laws (part_of c) low (rational_polynomial (variables_of c) germ) g e in
        (λ t m h. here.0 t m h ∙ agree m h, λ q. here.1 (λ m h. q m h ∙ sym (agree m h)))

    -- the height of the substitution
    pub carry_high : IsSubstHigh (exps f.n) (exps (jets.variables_of ps)) (scalars c.algebra) c.order (jets.part_of (jets.variables_of ps) (value_in c.algebra) ps) (poly_of f.n (value_in c.algebra) f.terms) → IsCarryHigh c (rational_polynomial (variables_of c) germ)
    carry_high high =
        subst (IsSubstHigh (exps (variables_of c)) (exps (variables_of c)) (scalars c.algebra) c.order (part_of c)) lift_here
        (subst (λ p. IsSubstHigh (exps (variables_of c)) (exps (variables_of c)) (scalars c.algebra) c.order p (poly_of (variables_of c) (value_in c.algebra) f.terms)) (parts_are (variables_of c) c.algebra c.change.parts)
        (subst (λ (zs : List (JetTerms (Ext Frac))). IsSubstHigh (exps (variables_of c)) (exps (variables_of c)) (scalars c.algebra) c.order (jets.part_of (variables_of c) (value_in c.algebra) zs) (poly_of (variables_of c) (value_in c.algebra) f.terms)) eps
        (subst (λ z. IsSubstHigh (exps z) (exps (variables_of c)) (scalars c.algebra) c.order (jets.part_of (variables_of c) (value_in c.algebra) ps) (poly_of z (value_in c.algebra) f.terms)) (en ∙ same)
        (subst (λ z. IsSubstHigh (exps f.n) (exps z) (scalars c.algebra) c.order (jets.part_of z (value_in c.algebra) ps) (poly_of f.n (value_in c.algebra) f.terms)) sized high))))
