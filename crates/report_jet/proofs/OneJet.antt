-- Equal jets have the same terms.
use Rattle.std.proofs.Common.{◌≡◌, ◌≢◌, ℕ, Bool, IsTrue, ◌↔◌, List, [], ◌∷◌, subst}
use Rattle.std.specs.List.{All}
use Rattle.std.proofs.lemmas.List.Elements.{All-head, All-tail}
use Rattle.ring_theory.specs.Ring.{IsCommRing}
use Rattle.ring_theory.specs.Scalars.{Meaning}
use Rattle.poly_law.specs.ExpList.{exps}
use Rattle.poly_law.specs.Polynomials.{SameIn}
use Rattle.poly_law.specs.Sorted.{HasNoZero}
use Rattle.poly_law.specs.Sorted as sorted
use Rattle.poly_law.proofs.ExpLists.{exps_are}
use Rattle.poly_law.proofs.OneList.{one_list}
use Rattle.mono_exp.specs.declared.exponent.Exp.{Exp}
use Rattle.mono_exp.specs.Exponents.{IsIn}
use Rattle.jet_law.specs.Terms.{exp_of, poly_of}
use Rattle.jet_poly.specs.JetTerms.{JetTerms, IsRising, AllAfter}
use Rattle.jet_poly.specs.Jets.{IsJet}
use Rattle.germ_law.proofs.Canonical.{stands_before, is_order}
use Rattle.line_jet_law.proofs.Bridge.{before_in}

module _ {E V : Type 0} (m : Meaning E V) (c : IsCommRing m.scalars.ops) (n : ℕ) where
  after_in : (a : Exp) (f : List (Exp × E)) → IsIn n a.e → All (λ t. IsIn n t.0.e) f → AllAfter a f → sorted.AllAfter (stands_before n) (exp_of n a) (poly_of n m.value f)
  after_in a [] i all h = tt
  after_in a (t ∷ f) i all h = (before_in n a t.0 i (All-head (λ t. IsIn n t.0.e) t f all) h.0, after_in a f i (All-tail (λ t. IsIn n t.0.e) t f all) h.1)

  -- the terms of a jet rise
  pub rising_in : (f : List (Exp × E)) → All (λ t. IsIn n t.0.e) f → IsRising f → sorted.IsRising (stands_before n) (poly_of n m.value f)
  rising_in [] all h = tt
  rising_in (t ∷ f) all h = (after_in t.0 f (All-head (λ t. IsIn n t.0.e) t f all) (All-tail (λ t. IsIn n t.0.e) t f all) h.0, rising_in f (All-tail (λ t. IsIn n t.0.e) t f all) h.1)

  -- they have no zero
  pub no_zero_in : (f : List (Exp × E)) → All (λ t. m.value t.1 ≢ m.scalars.ops.zero) f → HasNoZero m.scalars.ops.zero (poly_of n m.value f)
  no_zero_in [] all = tt
  no_zero_in (t ∷ f) all = (All-head (λ t. m.value t.1 ≢ m.scalars.ops.zero) t f all, no_zero_in f (All-tail (λ t. m.value t.1 ≢ m.scalars.ops.zero) t f all))

  -- jets that are equal as polynomials have the same terms
  pub one_jet : (f g : JetTerms E) → f.n ≡ n → g.n ≡ n → IsJet m f → IsJet m g → IsRising f.terms → IsRising g.terms → SameIn n m.scalars.ops (poly_of n m.value f.terms) (poly_of n m.value g.terms)
      → poly_of n m.value f.terms ≡ poly_of n m.value g.terms
  one_jet f g fn gn jf jg rf rg e =
      one_list (exps n) (exps_are n) m.scalars.ops c (stands_before n) (is_order n) (poly_of n m.value f.terms) (poly_of n m.value g.terms)
      (rising_in f.terms (subst (λ z. All (λ t. IsIn z t.0.e) f.terms) fn jf.variables) rf) (rising_in g.terms (subst (λ z. All (λ t. IsIn z t.0.e) g.terms) gn jg.variables) rg)
      (no_zero_in f.terms jf.units) (no_zero_in g.terms jg.units) e

  -- a test whether the terms are the same, as they are read
  pub same_test : (b : Bool) (z : ℕ) (fs gs : List (Exp × E)) (f g : JetTerms E) → z ≡ n → fs ≡ f.terms → gs ≡ g.terms → (IsTrue b ↔ (poly_of z m.value fs ≡ poly_of z m.value gs))
      → IsTrue b ↔ (poly_of n m.value f.terms ≡ poly_of n m.value g.terms)
  same_test b z fs gs f g ez ef eg test =
      subst (λ z. IsTrue b ↔ (poly_of z m.value f.terms ≡ poly_of z m.value g.terms)) ez
      (subst (λ ts. IsTrue b ↔ (poly_of z m.value ts ≡ poly_of z m.value g.terms)) ef
      (subst (λ ts. IsTrue b ↔ (poly_of z m.value fs ≡ poly_of z m.value ts)) eg test))
