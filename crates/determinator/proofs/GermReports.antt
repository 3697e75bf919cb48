-- The reports without a name are true of the germ.
use Rattle.std.proofs.Common.{◌≡◌, ◌≢◌, ℕ, ◌≤◌, inl, inr, Bool, true, false, not, ◌||◌, IsTrue, List, [], ◌∷◌, get_or, length, sum, refl, sym, ap, ap₂, subst, ◌∙◌, arith}
use Rattle.std.specs.List.{All, AllByRecursion, list_all}
use Rattle.std.proofs.lemmas.List.Elements.{recursion_from_All}
use Rattle.ring_theory.specs.Rational.{Rational}
use Rattle.ring_law.specs.declared.fraction.Frac.{Frac}
use Rattle.ext_algebra.specs.declared.algebra.Algebra.{Algebra}
use Rattle.ext_algebra.specs.declared.algebra.Ext.{Ext}
use Rattle.ext_algebra.specs.Algebra.{Value, ops, value_in, algebra_meaning, IsFieldAlgebra}
use Rattle.ext_algebra.specs.AlgebraLaws.{algebra_scalar_laws}
use Rattle.poly_law.specs.Polynomials.{Polynomial, coefficient_in}
use Rattle.mono_exp.specs.declared.exponent.Exp.{Exp}
use Rattle.mono_exp.specs.Exponents.{IsIn}
use Rattle.jet_law.specs.Terms.{exp_of, poly_of}
use Rattle.jet_law.proofs.TermLemmas.{at-exp_of, degree-exp_of}
use Rattle.jet_poly.specs.JetTerms.{JetTerms}
use Rattle.coord_change.specs.declared.change.Change.{Change}
use Rattle.coord_change.specs.Moves.{Move}
use Rattle.determinacy.specs.declared.row.MatherRow.{MatherRow}
use Rattle.determinacy.specs.Tests.{IsMonomialIn}
use Rattle.normal_forms.specs.declared.pattern.Pattern.{Pattern}
use Rattle.normal_forms.specs.Patterns.{admits}
use Rattle.normal_forms.specs.Monomials.{is_split, is_residual}
use Rattle.normal_forms.specs.Forms.{admits_monomial}
use Rattle.normal_forms.proofs.Members.{residual_all}
use Rattle.normal_forms.proofs.Residual.{residual_in}
use Rattle.poly_text.specs.declared.name.Name.{Name}
use Rattle.cert_text.specs.declared.report.Carried as carried_type
use Rattle.report_law.specs.Polynomials.{terms_in, residual_part}
use Rattle.report_law.specs.Items.{residual_of}
use Rattle.report_law.proofs.Splitting.{and_both}
use Rattle.kept_law.proofs.PartDegrees.{past_end}
use Rattle.coord_change.specs.Chains.{ChainParts, carried_in}
use Rattle.coord_change.specs.MoveJets.{IsJetFor}
use Rattle.move_law.specs.Algebras as algebras_law
use Rattle.plan_law.specs.Run.{brought}
use Rattle.determinator.specs.Carried.{with_parts, IsCarriedFrom, IsPastList}
use Rattle.determinator.specs.Jets.{IsListed, residual_jet, AreRowsFor, IsFailureFor}
use Rattle.determinator.specs.Places.{IsPlace}
use Rattle.determinator.specs.Reports.{AreNames, IsLimitGerm, IsOutsideGerm, IsUnresolvedGerm}
use Rattle.determinator.proofs.Carrying.{carried_germ}
use Rattle.determinacy.specs.Tests as tests
use Rattle.determinacy.specs.declared.row.MatherTest.{MatherTest}
use Rattle.determinacy.specs.declared.row.MatherTest.TheVariants as mather
use Rattle.certificate.specs.Evidence.{AreReportedRows, IsReportedTest}
use Rattle.certificate.proofs.Answered
use Rattle.determinator.proofs.Chained
use Rattle.determinator.proofs.SplitTests
use Rattle.determinator.proofs.SplitTests.{below_or_past}
use Rattle.determinator.proofs.Terms

-- the exponents of a monomial are read in its list
entries_of : (n : ℕ) (t : Exp) → IsIn n t.e → (k : ℕ) → get_or (exp_of n t).entries k 0 ≡ get_or t.e k 0
entries_of n t inside k = elim (below_or_past k n) [
  | inl g ↦ at-exp_of n t k g
  | inr g ↦ past_end (exp_of n t).entries k (let l = (exp_of n t).long in omega arith) ∙ sym (inside k g)
]

-- ---- a place, and its jet

module _ (names : List Name) (n : ℕ) (are : AreNames n names) (c last : ℕ) (germ : Polynomial n Rational) (a : Algebra) (field : IsFieldAlgebra a) (o : ℕ) (moves : List (Move n (Value a))) (chain : ChainParts (Ext Frac))
    (place_is : IsPlace n c last germ a o moves chain) (change : Change (Ext Frac)) (listed : IsListed (carried_in chain)) (from : IsCarriedFrom names n c a o moves chain (with_parts names a o c change (carried_in chain))) where
  abbrev f : JetTerms (Ext Frac)
  f = carried_in chain

  abbrev R : carried_type.Carried
  R = with_parts names a o c change f

  pub jet_is : IsJetFor (algebra_meaning a) n o (brought n c germ a o moves) f
  jet_is = Chained.carried_is (algebra_meaning a) n last (algebras_law.lifted a germ) o moves chain place_is.chain_is

  few : n ≤ 8
  few = place_is.chain_is.at_most_8_variables

  split_here : is_split n c f.terms ≡ true
  split_here = SplitTests.split_test a n c o (brought n c germ a o moves) f few place_is.corank jet_is listed place_is.split place_is.squares

  -- in as many variables as there are names
  pub is_split_jet : IsTrue (is_split (length names) c f.terms)
  is_split_jet = subst (λ z. is_split z c f.terms ≡ true) (sym are.count) split_here

  -- the residual part of the report is the residual jet
  pub residual_same : residual_of R ≡ poly_of c (value_in a) (residual_jet c f).terms
  unfolding terms_in residual_part
  residual_same = refl

  residual_terms_are : poly_of c (value_in a) (residual_jet c f).terms ≡ residual_of R
  residual_terms_are = sym residual_same

  -- what the test answers, a report can hold, and it is true of it
  module _ (low_corank : c ≤ 3) where
    reported : (answer : MatherTest (Ext Frac)) → tests.IsAnswer (algebra_meaning a) (residual_jet c f) f.order answer → IsReportedTest R answer
    reported answer is =
        Answered.test_of_carried R (carried_germ names n are c last germ a field o moves chain place_is R from).well_formed low_corank (residual_jet c f) refl residual_terms_are answer
        (subst (λ k. tests.IsAnswer (algebra_meaning a) (residual_jet c f) k answer) jet_is.order is)

    -- ---- the limit

    pub limit_germ : o ≡ last → 3 ≤ o → (functional : List (Exp × Ext Frac)) (at : Exp) → IsFailureFor a c f functional at → IsLimitGerm names n last germ (record { carried = R; at = at; functional = functional })
    limit_germ at_last three functional at failure =
        let carried = carried_germ names n are c last germ a field o moves chain place_is R from in
        let h = reported (mather.Fails functional at) failure in
        record {
          well_formed = record { carried = carried.well_formed; at = h.at_residual; few = h.few; rising = h.rising; functional = h.values };
          carried = carried;
          corank = low_corank;
          at_least_3 = three;
          at_last = at_last;
          functional = record { split = is_split_jet; low = h.low; functional = h.fails };
        }

    -- ---- without a name

    module _ (rows : List (MatherRow (Ext Frac))) (rows_are : AreRowsFor a c f rows) where
      pub rows_reported : AreReportedRows R rows
      rows_reported = reported (mather.Holds rows) rows_are

      pub unresolved_germ : IsUnresolvedGerm names n last germ (record { carried = R; mather = rows })
      unresolved_germ =
          let carried = carried_germ names n are c last germ a field o moves chain place_is R from in
          record {
            well_formed = record { carried = carried.well_formed; mather = rows_reported.well_formed };
            carried = carried;
            corank = low_corank;
            determined = record { split = is_split_jet; rows = rows_reported.each };
          }

  -- ---- past the list

  module _ (pattern : Pattern) (past : IsPastList n c o a pattern (brought n c germ a o moves)) where
    -- each residual term is admitted
    terms_admitted : (ts : List (Exp × Ext Frac)) → AllByRecursion (λ t. IsIn n t.0.e) ts → AllByRecursion (λ t. sum t.0.e ≤ o) ts → AllByRecursion (λ t. value_in a t.1 ≢ (ops a).zero) ts
        → AllByRecursion (λ t. coefficient_in n (ops a) (brought n c germ a o moves) (exp_of n t.0) ≡ value_in a t.1) ts → list_all (λ t. not (is_residual c t.0) || admits_monomial pattern t.0) ts ≡ true
    terms_admitted [] i d u e = refl
    terms_admitted (t ∷ ts) i d u e =
        and_both (not (is_residual c t.0) || admits_monomial pattern t.0) (list_all (λ t. not (is_residual c t.0) || admits_monomial pattern t.0) ts)
        (step (is_residual c t.0) refl (admits_monomial pattern t.0) refl) (terms_admitted ts i.1 d.1 u.1 e.1)
      where
        entry : (k : ℕ) → get_or (exp_of n t.0).entries k 0 ≡ get_or t.0.e k 0
        entry k = entries_of n t.0 i.0 k

        read : admits pattern (get_or (exp_of n t.0).entries 0 0) (get_or (exp_of n t.0).entries 1 0) (get_or (exp_of n t.0).entries 2 0) ≡ admits_monomial pattern t.0
        read =
            ap (λ k. admits pattern k (get_or (exp_of n t.0).entries 1 0) (get_or (exp_of n t.0).entries 2 0)) (entry 0)
            ∙ ap₂ (λ k l. admits pattern (get_or t.0.e 0 0) k l) (entry 1) (entry 2)

        step : (b : Bool) → is_residual c t.0 ≡ b → (q : Bool) → admits_monomial pattern t.0 ≡ q → (not (is_residual c t.0) || admits_monomial pattern t.0) ≡ true
        step false e1 q e2 = ap (λ b. not b || admits_monomial pattern t.0) e1
        step true e1 true e2 = ap₂ (λ b q. not b || q) e1 e2
        step true e1 false e2 =
            absurd (u.0 (sym e.0 ∙ past.admitted (exp_of n t.0) (λ k ck kn. at-exp_of n t.0 k kn ∙ residual_in c t.0 e1 k ck) (let l = d.0 in let s = degree-exp_of n t.0 i.0 in omega arith) (read ∙ e2)))

    pub outside_germ : IsOutsideGerm names n last germ (record { pattern = pattern; carried = R })
    outside_germ =
        let inside = subst (λ z. All (λ (t : Exp × Ext Frac). IsIn z t.0.e) f.terms) jet_is.variables jet_is.jet.variables in
        let low = subst (λ z. All (λ (t : Exp × Ext Frac). sum t.0.e ≤ z) f.terms) jet_is.order jet_is.jet.degrees in
        let own = subst (λ q. AllByRecursion (λ (t : Exp × Ext Frac). coefficient_in n (ops a) q (exp_of n t.0) ≡ value_in a t.1) f.terms) jet_is.polynomial
        (Terms.own_coefficients (algebra_meaning a) (algebra_scalar_laws a).ring n f.terms inside listed.rising) in
        record {
          carried = carried_germ names n are c last germ a field o moves chain place_is R from;
          order = past.order;
          pattern = record {
            corank = past.corank;
            split = is_split_jet;
            monomials = residual_all (admits_monomial pattern) c f.terms
                ∙ terms_admitted f.terms (recursion_from_All (λ t. IsIn n t.0.e) f.terms inside) (recursion_from_All (λ t. sum t.0.e ≤ o) f.terms low) (recursion_from_All (λ t. value_in a t.1 ≢ (ops a).zero) f.terms jet_is.jet.units) own;
          };
        }
