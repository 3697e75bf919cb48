-- A jet that is compared with a polynomial cut at a degree, by its terms.
use Rattle.std.proofs.Common.{◌≡◌, ℕ, ◌≤◌, Bool, IsTrue, ◌↔◌, cond, List, [], ◌∷◌, sum, refl, ap, sym, ◌∙◌, subst, arith}
use Rattle.std.specs.List.{All}
use Rattle.std.proofs.lemmas.List.Elements.{All-head, All-tail}
use Rattle.std.proofs.lemmas.Bool.{le-leb}
use Rattle.ring_theory.specs.Ring.{IsCommRing}
use Rattle.ring_theory.specs.Scalars.{Meaning}
use Rattle.poly_law.specs.Exps.{degree}
use Rattle.poly_law.specs.ExpList.{exps}
use Rattle.poly_law.specs.Polynomials.{Polynomial, SameIn, SameToIn, coefficient_in, cut_in}
use Rattle.poly_law.proofs.ExpLists.{exps_are}
use Rattle.poly_law.proofs.Order
use Rattle.mono_exp.specs.declared.exponent.Exp.{Exp}
use Rattle.mono_exp.specs.Exponents.{IsIn}
use Rattle.jet_law.specs.Terms.{exp_of, poly_of}
use Rattle.jet_law.proofs.TermLemmas.{degree-exp_of}
use Rattle.jet_poly.specs.JetTerms.{JetTerms, IsRising}
use Rattle.jet_subst.specs.Parts.{IsPart}
use Rattle.report_jet.proofs.OneJet.{one_jet, same_test}

module _ {E V : Type 0} (m : Meaning E V) (c : IsCommRing m.scalars.ops) (n : ℕ) where
  -- the terms of a jet are their own truncation
  cut_all : (k : ℕ) (f : List (Exp × E)) → All (λ t. IsIn n t.0.e) f → All (λ t. sum t.0.e ≤ k) f → cut_in n m.scalars.ops k (poly_of n m.value f) ≡ poly_of n m.value f
  cut_all k [] all low = refl
  cut_all k (t ∷ f) all low =
      let here : degree (exps n) (exp_of n t.0) ≤ k = subst (λ d. d ≤ k) (sym (degree-exp_of n t.0 (All-head (λ t. IsIn n t.0.e) t f all))) (All-head (λ t. sum t.0.e ≤ k) t f low) in
      ap (λ b. cond b ((exp_of n t.0, m.value t.1) ∷ cut_in n m.scalars.ops k (poly_of n m.value f)) (cut_in n m.scalars.ops k (poly_of n m.value f))) (le-leb (degree (exps n) (exp_of n t.0)) k here)
      ∙ ap (λ z. (exp_of n t.0, m.value t.1) ∷ z) (cut_all k f (All-tail (λ t. IsIn n t.0.e) t f all) (All-tail (λ t. sum t.0.e ≤ k) t f low))

  module _ (k : ℕ) (f g : JetTerms E) (jf : IsPart m n f) (jg : IsPart m n g) (low : f.order ≤ k) (p : Polynomial n V) (e : SameIn n m.scalars.ops (poly_of n m.value g.terms) (cut_in n m.scalars.ops k p)) where
    -- where g is p cut at k, a jet of order at most k with the terms of g agrees with p up to degree k
    pub same_to_of_terms : poly_of n m.value f.terms ≡ poly_of n m.value g.terms → SameToIn n m.scalars.ops k (poly_of n m.value f.terms) p
    same_to_of_terms q a h = ap (λ z. coefficient_in n m.scalars.ops z a) q ∙ e a ∙ Order.cut_same_to (exps n) (exps_are n) m.scalars.ops c k p a h

    -- and only such a jet
    pub terms_of_same_to : IsRising f.terms → IsRising g.terms → SameToIn n m.scalars.ops k (poly_of n m.value f.terms) p → poly_of n m.value f.terms ≡ poly_of n m.value g.terms
    terms_of_same_to rf rg q = one_jet m c n f g jf.variables jg.variables jf.jet jg.jet rf rg λ a.
        ap (λ z. coefficient_in n m.scalars.ops z a) (sym (cut_all k f.terms inside degrees))
        ∙ Order.same-cut (exps n) (exps_are n) m.scalars.ops c k (poly_of n m.value f.terms) p q a ∙ sym (e a)
      where
        inside : All (λ t. IsIn n t.0.e) f.terms
        inside = subst (λ z. All (λ t. IsIn z t.0.e) f.terms) jf.variables jf.jet.variables

        degrees : All (λ t. sum t.0.e ≤ k) f.terms
        degrees i d h = let here = jf.jet.degrees i d h in omega arith

  -- a test whether the terms are the same is one whether f agrees with p up to degree k
  pub carried_test : (b : Bool) (z k : ℕ) (fs gs : List (Exp × E)) (f g : JetTerms E) (p : Polynomial n V) → z ≡ n → fs ≡ f.terms → gs ≡ g.terms → IsRising fs → IsRising gs → IsPart m n f → IsPart m n g → f.order ≤ k
      → SameIn n m.scalars.ops (poly_of n m.value g.terms) (cut_in n m.scalars.ops k p) → (IsTrue b ↔ (poly_of z m.value fs ≡ poly_of z m.value gs)) → IsTrue b ↔ SameToIn n m.scalars.ops k (poly_of n m.value f.terms) p
  carried_test b z k fs gs f g p ez ef eg rf rg jf jg low e test =
      let same = same_test m c n b z fs gs f g ez ef eg test in (
        λ t. same_to_of_terms k f g jf jg low p e (same.0 t),
        λ q. same.1 (terms_of_same_to k f g jf jg low p e (subst IsRising ef rf) (subst IsRising eg rg) q),
      )
