-- Sums and products of jets of the code, as operations on polynomials.
use Rattle.std.proofs.Common.{◌≡◌, ℕ, min, ◌++◌, refl, ap₂, subst, ◌∙◌, arith}
use Rattle.ring_theory.specs.Rational.{rational_ops}
use Rattle.ring_theory.specs.Height.{rational_scalars}
use Rattle.ring_theory.proofs.RationalLaws.{rational_laws}
use Rattle.ring_law.specs.declared.fraction.Frac.{Frac}
use Rattle.ring_law.specs.Fraction.{frac_value, rational_meaning}
use Rattle.poly_law.specs.ExpList.{exps}
use Rattle.poly_law.specs.Polynomials.{SameIn, cut_in, times_in}
use Rattle.poly_law.proofs.ExpLists.{exps_are}
use Rattle.poly_law.proofs.Order
use Rattle.jet_law.specs.Terms.{poly_of}
use Rattle.jet_law.specs.Heights.{IsHigh, coefficient_heights, sums_heights, sum_heights, product_heights}
use Rattle.jet_law.proofs.High.{high_right}
use Rattle.jet_poly.specs.JetTerms.{JetTerms, IsRising}
use Rattle.jet_poly.specs.Jets.{IsJet}
use Rattle.germ_law.specs.Jets.{jets, high_jets}
use Rattle.germ_law.proofs.JetLaws.{power_none, power_one, power_together}
use Rattle.line_value.specs.Powers.{PowerLaws}
use Rattle.line_jet_law.specs.LineJets.{IsRationalJet, rational_polynomial}
use Rattle.line_jet_law.proofs.Bridge.{as_jet}

-- powers of jets
pub jet_powers : (n k : ℕ) → PowerLaws (jets n k) (IsRationalJet n k) (rational_polynomial n)
jet_powers n k = record {
  none = power_none n k;
  one = λ f j. power_one n k (rational_polynomial n f) (as_jet n k f (rational_polynomial n f) j (λ m d. refl));
  together = power_together n k;
}

min_self : (k : ℕ) → min k k ≡ k
min_self k = grind arith

-- both jets have the order k
pub same_order : (n k : ℕ) (f g : JetTerms Frac) → IsRationalJet n k f → IsRationalJet n k g → min f.order g.order ≡ k
same_order n k f g a b = ap₂ min a.order_is b.order_is ∙ min_self k

-- the jet that a sum answers
pub sum_jet : (n k : ℕ) (f g h : JetTerms Frac) → IsRationalJet n k f → IsRationalJet n k g → IsJet rational_meaning h → IsRising h.terms → h.n ≡ f.n → h.order ≡ min f.order g.order → IsRationalJet n k h
sum_jet n k f g h a b j rises en eo = record { is_jet = j; rising = rises; n_is = en ∙ a.n_is; order_is = eo ∙ same_order n k f g a b }

-- the value of a sum
pub sum-value : (n k : ℕ) (f g h : JetTerms Frac) → IsRationalJet n k f → IsRationalJet n k g → IsRationalJet n k h
    → SameIn f.n rational_ops (poly_of f.n frac_value h.terms) (cut_in f.n rational_ops (min f.order g.order) (poly_of f.n frac_value f.terms ++ poly_of f.n frac_value g.terms))
    → rational_polynomial n h ≡ (jets n k).add (rational_polynomial n f) (rational_polynomial n g)
sum-value n k f g h a b c e =
    let here : SameIn n rational_ops (rational_polynomial n h) (cut_in n rational_ops (min f.order g.order) (rational_polynomial n f ++ rational_polynomial n g)) = subst
    (λ m. SameIn m rational_ops (poly_of m frac_value h.terms) (cut_in m rational_ops (min f.order g.order) (poly_of m frac_value f.terms ++ poly_of m frac_value g.terms))) a.n_is e in
    let cut : SameIn n rational_ops (rational_polynomial n h) (cut_in n rational_ops k (rational_polynomial n f ++ rational_polynomial n g)) = subst
    (λ o. SameIn n rational_ops (rational_polynomial n h) (cut_in n rational_ops o (rational_polynomial n f ++ rational_polynomial n g))) (same_order n k f g a b) here in
    as_jet n k h (rational_polynomial n f ++ rational_polynomial n g) c (λ m d. cut m ∙ Order.cut_same_to (exps n) (exps_are n) rational_ops rational_laws k (rational_polynomial n f ++ rational_polynomial n g) m d)

-- a high sum
pub sum_high : (n k : ℕ) (f g : JetTerms Frac) → IsRationalJet n k f → IsRationalJet n k g
    → IsHigh (sums_heights (exps f.n) rational_scalars (cut_in f.n rational_ops (min f.order g.order) (poly_of f.n frac_value f.terms ++ poly_of f.n frac_value g.terms)))
    → (high_jets n k).sum (rational_polynomial n f) (rational_polynomial n g)
unfolding sum_heights
sum_high n k f g a b e =
    let here : IsHigh (sums_heights (exps n) rational_scalars (cut_in n rational_ops (min f.order g.order) (rational_polynomial n f ++ rational_polynomial n g))) = subst
    (λ m. IsHigh (sums_heights (exps m) rational_scalars (cut_in m rational_ops (min f.order g.order) (poly_of m frac_value f.terms ++ poly_of m frac_value g.terms)))) a.n_is e in
    let cut : IsHigh (sums_heights (exps n) rational_scalars (cut_in n rational_ops k (rational_polynomial n f ++ rational_polynomial n g))) = subst
    (λ o. IsHigh (sums_heights (exps n) rational_scalars (cut_in n rational_ops o (rational_polynomial n f ++ rational_polynomial n g)))) (same_order n k f g a b) here in
    high_right (coefficient_heights (exps n) rational_scalars (rational_polynomial n f) ++ coefficient_heights (exps n) rational_scalars (rational_polynomial n g)) _ cut

-- the jet that a product answers
pub product_jet : (n k : ℕ) (f h : JetTerms Frac) → IsRationalJet n k f → IsJet rational_meaning h → IsRising h.terms → h.n ≡ f.n → h.order ≡ k → IsRationalJet n k h
product_jet n k f h a j rises en eo = record { is_jet = j; rising = rises; n_is = en ∙ a.n_is; order_is = eo }

-- the value of a product
pub product-value : (n k : ℕ) (f g h : JetTerms Frac) → IsRationalJet n k f → IsRationalJet n k h
    → SameIn f.n rational_ops (poly_of f.n frac_value h.terms) (cut_in f.n rational_ops k (times_in f.n rational_ops (poly_of f.n frac_value f.terms) (poly_of f.n frac_value g.terms)))
    → rational_polynomial n h ≡ (jets n k).mul (rational_polynomial n f) (rational_polynomial n g)
product-value n k f g h a c e =
    let here : SameIn n rational_ops (rational_polynomial n h) (cut_in n rational_ops k (times_in n rational_ops (rational_polynomial n f) (rational_polynomial n g))) = subst
    (λ m. SameIn m rational_ops (poly_of m frac_value h.terms) (cut_in m rational_ops k (times_in m rational_ops (poly_of m frac_value f.terms) (poly_of m frac_value g.terms)))) a.n_is e in
    as_jet n k h (times_in n rational_ops (rational_polynomial n f) (rational_polynomial n g)) c
    (λ m d. here m ∙ Order.cut_same_to (exps n) (exps_are n) rational_ops rational_laws k (times_in n rational_ops (rational_polynomial n f) (rational_polynomial n g)) m d)

-- a high product
pub product_high : (n k : ℕ) (f g : JetTerms Frac) → IsRationalJet n k f → IsHigh (product_heights (exps f.n) rational_scalars k (poly_of f.n frac_value f.terms) (poly_of f.n frac_value g.terms))
    → (high_jets n k).product (rational_polynomial n f) (rational_polynomial n g)
product_high n k f g a e = subst (λ m. IsHigh (product_heights (exps m) rational_scalars k (poly_of m frac_value f.terms) (poly_of m frac_value g.terms))) a.n_is e
