-- What is read off a jet that is a form of a family, as units of a report.
use Rattle.std.proofs.Common.{◌≡◌, ℕ, ◌+◌, ◌-◌, ◌≤◌, ◌^◌, inl, inr, Bool, true, false, not, cond, IsTrue, List, [], ◌∷◌, ◌++◌, map, length, get_or, refl, sym, ap, ap₂, subst, ◌∙◌, arith, true≢false}
use Rattle.std.specs.Prelude.{Option, Some, IfSome, Vec, drop}
use Rattle.std.specs.Global.{Global}
use Rattle.std.specs.List.{All, AllByRecursion, list_all}
use Rattle.std.proofs.lemmas.List.Elements.{All-tail}
use Rattle.std.proofs.lemmas.List.{length-map, length-append, length-take-le}
use Rattle.line_syntax.proofs.Bools.{and_left, and_right}
use Rattle.ring_theory.specs.Scalars.{Scalars}
use Rattle.ring_law.specs.declared.fraction.Frac.{Frac}
use Rattle.ext_algebra.specs.declared.algebra.Ext.{Ext}
use Rattle.ext_algebra.specs.Algebra.{Value, IsElement, IsInverse, IsIrreducible, is_element, ops, scalars, value_in, algebra_meaning}
use Rattle.ext_algebra.specs.AlgebraLaws.{algebra_scalar_laws, algebra_inverts}
use Rattle.ext_algebra.proofs.ElementTests.{is_element-IsElement}
use Rattle.mono_exp.proofs.Lists.{map-map, length-numbers_below}
use Rattle.lin_row.specs.Plain.{Among}
use Rattle.normal_forms.specs.declared.family.Family.{Family}
use Rattle.normal_forms.specs.declared.family.Family.TheVariants as families
use Rattle.normal_forms.specs.Families.{is_family, sum_of, kind_of}
use Rattle.normal_forms.specs.Forms.{IsFormOf}
use Rattle.normal_forms.specs.declared.kind.Kind.{Kind}
use Rattle.normal_forms.specs.declared.kind.Kind.TheVariants as kinds
use Rattle.normal_forms.specs.Units.{unit_values}
use Rattle.normal_forms.specs.Coefficients.{coefficients_in_sum, coefficients_of_squares, unit_values_in}
use Rattle.normal_forms.specs.Monomials.{residual_terms, square_of, square_variables, numbers_below}
use Rattle.poly_law.specs.Polynomials.{coefficient_in}
use Rattle.jet_law.specs.Terms.{exp_of, poly_of}
use Rattle.jet_law.specs.Canonical.{monomial_in}
use Rattle.move_law.specs.Work as work
use Rattle.move_law.specs.Work.{IsWorkHigh}
use Rattle.cert_text.specs.declared.report.Carried.{Carried}
use Rattle.cert_text.specs.declared.report.Named as named_type
use Rattle.cert_text.specs.WellFormed.{is_unit_pair, list_limit, IsWellFormedCarried}
use Rattle.report_law.specs.Items.{coefficients_of, squares_of}
use Rattle.report_law.proofs.Splitting.{and_both}
use Rattle.certificate.specs.Readings.{is_read_as, units_in, AreUnitsRead, IsUnitHigh}
use Rattle.certificate.proofs.Inverses.{inverse_valid}
use Rattle.certificate.proofs.Readings.{read_by, read_is_form, form_has, units_same}

-- an inverse that is high is an operation that is
among_inverses : {V : Type 0} (n : ℕ) (s : Scalars V) (xs : List V) → Among (λ x. 2 ^ 120 ≤ s.inverse_height x) xs → Among (IsWorkHigh n s) (map (λ u. work.inverse u) xs)
among_inverses n s [] h = elim h [ ]
among_inverses n s (x ∷ xs) (inl h) = inl h
among_inverses n s (x ∷ xs) (inr h) = inr (among_inverses n s xs h)

-- a sum of a family has at most ten monomials
few_in_sum : (f : Family) → length (sum_of f) ≤ 10
few_in_sum (families.A m) = step (m + 1) (Rattle.std.proofs.Common.eqb m 1)
  where
    step : (k : ℕ) (b : Bool) → length (cond b [] ((k ∷ []) ∷ [])) ≤ 10
    step k true = omega arith
    step k false = omega arith
few_in_sum (families.T p q r) = step (Rattle.std.proofs.Common.eqb p 2) (Rattle.std.proofs.Common.eqb q 3) (Rattle.std.proofs.Common.eqb q 4)
  where
    step : (a b d : Bool) → length (cond a (cond b ((3 ∷ 0 ∷ []) ∷ (2 ∷ 2 ∷ []) ∷ (0 ∷ r ∷ []) ∷ []) (cond d ((4 ∷ 0 ∷ []) ∷ (2 ∷ 2 ∷ []) ∷ (0 ∷ r ∷ []) ∷ []) ((2 ∷ 2 ∷ []) ∷ (q ∷ 0 ∷ []) ∷ (0 ∷ r ∷ []) ∷ [])))
        ((1 ∷ 1 ∷ 1 ∷ []) ∷ (p ∷ 0 ∷ 0 ∷ []) ∷ (0 ∷ q ∷ 0 ∷ []) ∷ (0 ∷ 0 ∷ r ∷ []) ∷ [])) ≤ 10
    step true true d = omega arith
    step true false true = omega arith
    step true false false = omega arith
    step false b d = omega arith
few_in_sum _ = omega arith

few_units : {V : Type 0} (s : Scalars V) (k : Kind) (coefs : List V) → length coefs ≤ 10 → length (unit_values s k coefs) ≤ 10
few_units s kinds.Simple coefs h = h
few_units s kinds.Hyperbolic coefs h = h
few_units s kinds.CubicForm coefs h = omega arith
few_units s kinds.QuarticForm coefs h = omega arith
few_units s kinds.Triple coefs h = omega arith
few_units s kinds.Exceptional coefs h = let t = length-take-le (length coefs - 1) coefs in omega arith

-- the unit values of the jet are those of the report
values_are : (r : named_type.Named) → unit_values_in (algebra_meaning r.carried.algebra) r.family (length r.carried.names) r.carried.corank r.carried.jet.terms
    ≡ unit_values (scalars r.carried.algebra) (kind_of r.family) (coefficients_of r.carried r.family) ++ squares_of r.carried
unfolding Rattle.report_law.specs.Polynomials.terms_in Rattle.report_law.specs.Polynomials.residual_part Rattle.report_law.specs.Polynomials.coefficient_at
values_are r = refl

module _ (family : Family) (c : Carried) (w : IsWellFormedCarried c) where
  -- a form in the variables of the jet is one in as many as there are names
  pub form_in_names : IsFormOf family c.jet.n c.corank c.jet.terms → IsFormOf family (length c.names) c.corank c.jet.terms
  form_in_names = subst (λ k. IsFormOf family k c.corank c.jet.terms) w.jet.variables

  -- a jet that is no form is not read
  pub not_form : (IsFormOf family c.jet.n c.corank c.jet.terms → IsTrue false) → is_read_as family c ≡ false
  not_form h = step (is_read_as family c) refl
    where
      step : (b : Bool) → is_read_as family c ≡ b → is_read_as family c ≡ false
      step true q = absurd (true≢false (sym (h (subst (λ k. IsFormOf family k c.corank c.jet.terms) (sym w.jet.variables) (read_is_form family c w q)))))
      step false q = q

  -- the values that were found
  pub values_in_names : (o : Option (Vec (Ext Frac) Global)) (v : Vec (Ext Frac) Global) → o ≡ Some v
      → IfSome o (λ v. map (value_in c.algebra) v.items ≡ unit_values_in (algebra_meaning c.algebra) family c.jet.n c.corank c.jet.terms)
      → map (value_in c.algebra) v.items ≡ unit_values_in (algebra_meaning c.algebra) family (length c.names) c.corank c.jet.terms
  values_in_names o v e h =
      inverse_valid (λ (v : Vec (Ext Frac) Global). map (value_in c.algebra) v.items ≡ unit_values_in (algebra_meaning c.algebra) family c.jet.n c.corank c.jet.terms) o v e h
      ∙ ap (λ k. unit_values_in (algebra_meaning c.algebra) family k c.corank c.jet.terms) w.jet.variables

module _ (family : Family) (c : Carried) (w : IsWellFormedCarried c) (known : is_family family ≡ true) (form : IsFormOf family (length c.names) c.corank c.jet.terms) where
  abbrev s : Scalars (Value c.algebra)
  s = scalars c.algebra

  -- the units by their elements
  module _ (values : List (Ext Frac)) (are : map (value_in c.algebra) values ≡ unit_values_in (algebra_meaning c.algebra) family (length c.names) c.corank c.jet.terms) where
    same : map (value_in c.algebra) values ≡ units_in family c
    same = are ∙ sym (units_same family c w form.corank)

    -- the jet is read exactly where none of them is 0
    pub read_where : (b : Bool) → b ≡ list_all (λ v. not (s.is_zero v)) (map (value_in c.algebra) values) → is_read_as family c ≡ b
    read_where b e = read_by family c w b (form_has family c w known form) (e ∙ ap (list_all (λ v. not (s.is_zero v))) same)

    -- an inverse that is high
    pub inverse_high : list_all (λ v. not (s.is_zero v)) (map (value_in c.algebra) values) ≡ true → Among (λ x. 2 ^ 120 ≤ s.inverse_height x) (map (value_in c.algebra) values) → IsUnitHigh family c
    inverse_high units high = inr (read_where true (sym units), among_inverses (length c.names) s (units_in family c) (subst (Among (λ x. 2 ^ 120 ≤ s.inverse_height x)) same high))

    module _ (irreducible : IsIrreducible c.algebra) (units : list_all (λ v. not (s.is_zero v)) (map (value_in c.algebra) values) ≡ true) (pairs : List (Ext Frac × Ext Frac))
        (elems : All (λ u. IsElement c.algebra u.0 × IsElement c.algebra u.1) pairs)
        (inverses : map {B = Value c.algebra × Value c.algebra} (λ u. (value_in c.algebra u.0, value_in c.algebra u.1)) pairs
        ≡ map {B = Value c.algebra × Value c.algebra} (λ x. (value_in c.algebra x, s.inverse (value_in c.algebra x))) values) where
      firsts : map (λ u. value_in c.algebra u.0) pairs ≡ map (value_in c.algebra) values
      firsts = sym (map-map (λ (p : Value c.algebra × Value c.algebra). p.0) (λ (u : Ext Frac × Ext Frac). (value_in c.algebra u.0, value_in c.algebra u.1)) pairs)
          ∙ ap (map (λ (p : Value c.algebra × Value c.algebra). p.0)) inverses
          ∙ map-map (λ (p : Value c.algebra × Value c.algebra). p.0) (λ x. (value_in c.algebra x, s.inverse (value_in c.algebra x))) values

      -- a number other than 0 beside its inverse
      inverse_pair : (p : Ext Frac × Ext Frac) (v : Ext Frac) → not (s.is_zero (value_in c.algebra v)) ≡ true → value_in c.algebra p.0 ≡ value_in c.algebra v → value_in c.algebra p.1 ≡ s.inverse (value_in c.algebra v) → IsInverse c.algebra p.0 p.1
      inverse_pair p v u e f =
          ap₂ (ops c.algebra).mul e f
          ∙ (algebra_inverts c.algebra irreducible).mul_inverse (value_in c.algebra v) (λ z. true≢false (sym u ∙ ap not (((algebra_scalar_laws c.algebra).zero_test (value_in c.algebra v)).1 z)))

      -- each pair is a number other than 0 with its inverse
      inverse_pairs : (ps : List (Ext Frac × Ext Frac)) (vs : List (Ext Frac)) → list_all (λ v. not (s.is_zero v)) (map (value_in c.algebra) vs) ≡ true
          → map {B = Value c.algebra × Value c.algebra} (λ u. (value_in c.algebra u.0, value_in c.algebra u.1)) ps ≡ map {B = Value c.algebra × Value c.algebra} (λ x. (value_in c.algebra x, s.inverse (value_in c.algebra x))) vs
          → AllByRecursion (λ u. IsInverse c.algebra u.0 u.1) ps
      inverse_pairs [] vs u e = tt
      inverse_pairs (p ∷ ps) [] u e = absurd (let l = ap (λ (l : List (Value c.algebra × Value c.algebra)). length l) e in omega arith)
      inverse_pairs (p ∷ ps) (v ∷ vs) u e =
          let d : Value c.algebra × Value c.algebra = (value_in c.algebra v, s.inverse (value_in c.algebra v)) in (
            inverse_pair p v (and_left (not (s.is_zero (value_in c.algebra v))) (list_all (λ v. not (s.is_zero v)) (map (value_in c.algebra) vs)) u)
                (ap (λ (l : List (Value c.algebra × Value c.algebra)). (get_or l 0 d).0) e) (ap (λ (l : List (Value c.algebra × Value c.algebra)). (get_or l 0 d).1) e),
            inverse_pairs ps vs (and_right (not (s.is_zero (value_in c.algebra v))) (list_all (λ v. not (s.is_zero v)) (map (value_in c.algebra) vs)) u) (ap (λ (l : List (Value c.algebra × Value c.algebra)). drop 1 l) e),
          )

      few_pairs : length pairs ≤ list_limit
      few_pairs =
          let a = length-map pairs (λ (u : Ext Frac × Ext Frac). value_in c.algebra u.0) in
          let b = ap (λ (l : List (Value c.algebra)). length l) (firsts ∙ are) in
          let coefs = coefficients_in_sum (algebra_meaning c.algebra) family c.corank c.jet.terms in
          let d = length-append (unit_values s (kind_of family) coefs) (coefficients_of_squares (algebra_meaning c.algebra) (length c.names) c.corank c.jet.terms) in
          let e = few_units s (kind_of family) coefs (let l = length-map (sum_of family) (λ e. coefficient_in c.corank (ops c.algebra) (poly_of c.corank (value_in c.algebra) (residual_terms c.corank c.jet.terms)) (monomial_in c.corank e)) in let f = few_in_sum family in omega arith) in
          let g = length-map (square_variables (length c.names) c.corank) (λ i. coefficient_in (length c.names) (ops c.algebra) (poly_of (length c.names) (value_in c.algebra) c.jet.terms) (exp_of (length c.names) (square_of i))) in
          let h = length-map (numbers_below (length c.names - c.corank)) (λ i. c.corank + i) in
          let k = length-numbers_below (length c.names - c.corank) in
          let n = w.few_names in
          omega arith

      elem_pairs : (ps : List (Ext Frac × Ext Frac)) → All (λ u. IsElement c.algebra u.0 × IsElement c.algebra u.1) ps → list_all (is_unit_pair c.algebra) ps ≡ true
      elem_pairs [] all = refl
      elem_pairs (p ∷ ps) all =
          let here = all 0 p (omega arith) in
          and_both (is_unit_pair c.algebra p) (list_all (is_unit_pair c.algebra) ps)
          (and_both (is_element c.algebra p.0) (is_element c.algebra p.1) ((is_element-IsElement c.algebra p.0).1 here.0) ((is_element-IsElement c.algebra p.1).1 here.1))
          (elem_pairs ps (All-tail (λ (u : Ext Frac × Ext Frac). IsElement c.algebra u.0 × IsElement c.algebra u.1) p ps all))

      -- the units as a report holds them
      pub units_read : AreUnitsRead family c pairs
      units_read = record {
        read = read_where true (sym units);
        form = form;
        values = inverses ∙ sym (map-map {Z = Value c.algebra × Value c.algebra} (λ v. (v, s.inverse v)) (value_in c.algebra) values) ∙ ap (map {B = Value c.algebra × Value c.algebra} (λ v. (v, s.inverse v))) same;
        units_are = λ r. record {
          values = firsts ∙ are ∙ values_are (record r { family = family; carried = c; units = pairs });
          inverses = inverse_pairs pairs values units inverses;
        };
        few = few_pairs;
        elems = elem_pairs pairs elems;
      }
