-- Jets and changes over the rational numbers, over the algebra of the rational numbers.
use mathlib.Core.Path.{fun_ext}
use Rattle.std.proofs.Common.{◌≡◌, ℕ, ◌*◌, ◌+◌, ◌<◌, List, [], ◌∷◌, ◌++◌, map, length, get_or, take, refl, sym, ap, ap₂, subst, ◌∙◌}
use Rattle.std.specs.List.{All}
use Rattle.std.proofs.lemmas.List.{length-map, take_more, map-append}
use Rattle.ring_theory.specs.Rational.{Rational}
use Rattle.ring_law.specs.declared.fraction.Frac.{Frac}
use Rattle.ring_law.specs.Fraction.{frac_value, rational_meaning}
use Rattle.ext_algebra.specs.declared.algebra.Algebra.TheVariants as algebras
use Rattle.ext_algebra.specs.declared.algebra.Ext.{Ext}
use Rattle.ext_algebra.specs.Algebra.{scalars, value_in, algebra_meaning, IsElement}
use Rattle.poly_law.specs.ExpList.{exps}
use Rattle.poly_law.specs.Poly.{IsInvertible}
use Rattle.poly_law.specs.Polynomials.{Polynomial}
use Rattle.jet_law.specs.Terms.{poly_of}
use Rattle.jet_poly.specs.JetTerms.{JetTerms}
use Rattle.jet_poly.specs.Jets.{IsJet}
use Rattle.jet_subst.specs.Parts.{IsPart, part_of}
use Rattle.coord_change.specs.declared.change.Change.{Change}
use Rattle.coord_change.specs.Changes.{IsChange, entry_of}
use Rattle.coord_change.specs.Moves.{Move}
use Rattle.report_law.specs.Polynomials.{lifted}
use Rattle.mono_exp.proofs.ListLemmas.{all-push}
use Rattle.report_jet.specs.Lifted.{lifted_element}
use Rattle.report_jet.proofs.LiftedJets.{lifted_elem}
use Rattle.coord_change.specs.MoveJets.{IsJetFor, IsMoveExactly}
use Rattle.determinator.specs.Lifted.{AreLiftedParts, AreLiftedEntries}
use Rattle.determinator.proofs.Chained
use Rattle.determinator.proofs.ReportParts.{get_same}

-- over the rational numbers themselves a polynomial stays
lifted_same : (n : ℕ) (f : Polynomial n Rational) → lifted n algebras.Rational f ≡ f
unfolding lifted scalars
lifted_same n [] = refl
lifted_same n (t ∷ f) = ap (λ rest. t ∷ rest) (lifted_same n f)

-- the lifted jet stands for the same polynomial
pub lifted_for : (f : JetTerms Frac) (g : JetTerms (Ext Frac)) → IsJet (algebra_meaning algebras.Rational) g → g.n ≡ f.n → g.order ≡ f.order → poly_of f.n (value_in algebras.Rational) g.terms ≡ lifted f.n algebras.Rational (poly_of f.n frac_value f.terms)
    → (n k : ℕ) (p : Polynomial n Rational) → IsJetFor rational_meaning n k p f → IsJetFor (algebra_meaning algebras.Rational) n k p g
lifted_for f g jet variables order same n k p h = record {
  jet = jet;
  variables = variables ∙ h.variables;
  order = order ∙ h.order;
  polynomial = subst (λ z. poly_of z (value_in algebras.Rational) g.terms ≡ poly_of z frac_value f.terms) h.variables (same ∙ lifted_same f.n (poly_of f.n frac_value f.terms)) ∙ h.polynomial;
}

value_is : (q : Frac) → value_in algebras.Rational (lifted_element q) ≡ frac_value q
unfolding value_in
value_is q = refl

-- ---- what is made so far

all_append : {X : Type 0} (P : X → Type 0) (xs : List X) (x : X) → All P xs → P x → All P (xs ++ x ∷ [])
all_append P xs x a p = all-push P xs x a p

-- one part more
pub part_more : (c : Change Frac) → IsChange rational_meaning c → (i : ℕ) (p : JetTerms Frac) (made : List (JetTerms (Ext Frac))) (g : JetTerms (Ext Frac)) → i < length c.parts → p ≡ get_or c.parts i p
    → ((n k : ℕ) (q : Polynomial n Rational) → IsJetFor rational_meaning n k q p → IsJetFor (algebra_meaning algebras.Rational) n k q g) → AreLiftedParts c (take i c.parts) made → AreLiftedParts c (take (i + 1) c.parts) (made ++ g ∷ [])
part_more c h i p made g within read lifts so_far =
    let part : IsPart rational_meaning c.n p = subst (IsPart rational_meaning c.n) (sym read) (h.parts i p within) in
    let order : p.order ≡ c.order = subst (λ (q : JetTerms Frac). q.order ≡ c.order) (sym read) (h.orders i p within) in
    let now = lifts c.n c.order (poly_of c.n frac_value p.terms) (record { jet = part.jet; variables = part.variables; order = order; polynomial = refl }) in
    record {
      jets = all_append (IsPart (algebra_meaning algebras.Rational) c.n) made g so_far.jets (record { jet = now.jet; variables = now.variables });
      orders = all_append (λ (q : JetTerms (Ext Frac)). q.order ≡ c.order) made g so_far.orders now.order;
      polynomials = map-append (λ (h : JetTerms (Ext Frac)). poly_of c.n (value_in algebras.Rational) h.terms) made (g ∷ [])
          ∙ ap₂ (λ xs x. xs ++ x ∷ []) so_far.polynomials now.polynomial
          ∙ sym (ap (map (λ (q : JetTerms Frac). poly_of c.n frac_value q.terms)) (take_more c.parts i p within ∙ ap (λ u. take i c.parts ++ u ∷ []) (sym read)) ∙ map-append (λ (q : JetTerms Frac). poly_of c.n frac_value q.terms) (take i c.parts) (p ∷ []));
    }

-- one entry more
pub entry_more : (given : List Frac) → All (rational_meaning).is_elem given → (i : ℕ) (q : Frac) (made : List (Ext Frac)) → i < length given → q ≡ get_or given i q → AreLiftedEntries (take i given) made
    → AreLiftedEntries (take (i + 1) given) (made ++ lifted_element q ∷ [])
entry_more given valid i q made within read so_far = record {
  elems = all_append (IsElement algebras.Rational) made (lifted_element q) so_far.elems (lifted_elem algebras.Rational q (subst (rational_meaning).is_elem (sym read) (valid i q within)));
  values = map-append (value_in algebras.Rational) made (lifted_element q ∷ [])
      ∙ ap₂ (λ xs x. xs ++ x ∷ []) so_far.values (value_is q)
      ∙ sym (ap (map frac_value) (take_more given i q within ∙ ap (λ u. take i given ++ u ∷ []) (sym read)) ∙ map-append frac_value (take i given) (q ∷ []));
}

-- the same, as the loop reads it
pub entry_at : (given : List Frac) → All (rational_meaning).is_elem given → (i : ℕ) (d : Frac) (made : List (Ext Frac)) → i < length given → AreLiftedEntries (take i given) made
    → AreLiftedEntries (take (i + 1) given) (made ++ lifted_element (get_or given i d) ∷ [])
entry_at given valid i d made within so_far = entry_more given valid i (get_or given i d) made within (get_same given i d (get_or given i d) within) so_far

-- ---- the whole change

mapped_at : {X Y Z : Type 0} (f : X → Z) (g : Y → Z) (xs : List X) (ys : List Y) → map f xs ≡ map g ys → length xs ≡ length ys
mapped_at f g xs ys e = sym (length-map xs f) ∙ ap (λ (l : List _). length l) e ∙ length-map ys g

pub lifted_change : (c : Change Frac) → IsChange rational_meaning c → (parts : List (JetTerms (Ext Frac))) (inverse : List (Ext Frac)) → AreLiftedParts c c.parts parts → AreLiftedEntries c.inverse inverse
    → IsChange (algebra_meaning algebras.Rational) (record { n = c.n; order = c.order; parts = parts; inverse = inverse })
unfolding scalars
lifted_change c h parts inverse made entries = record {
  given = h.given;
  at_most_8_variables = h.at_most_8_variables;
  order_at_most_17 = h.order_at_most_17;
  count = mapped_at (λ (g : JetTerms (Ext Frac)). poly_of c.n (value_in algebras.Rational) g.terms) (λ (p : JetTerms Frac). poly_of c.n frac_value p.terms) parts c.parts made.polynomials ∙ h.count;
  parts = made.jets;
  orders = made.orders;
  elems = entries.elems;
  entries = mapped_at (value_in algebras.Rational) frac_value inverse c.inverse entries.values ∙ h.entries;
  invertible =
      subst (λ p. IsInvertible (exps c.n) (scalars algebras.Rational).ops p (entry_of (algebra_meaning algebras.Rational) c.n inverse)) parts_are
      (subst (IsInvertible (exps c.n) (scalars algebras.Rational).ops (part_of c.n frac_value c.parts)) entries_are h.invertible);
}
  where
    parts_are : part_of c.n frac_value c.parts ≡ part_of c.n (value_in algebras.Rational) parts
    parts_are = fun_ext λ i.
        sym (Chained.part_is_put rational_meaning c.n c.parts i) ∙ ap (λ (l : List (Polynomial c.n Rational)). get_or l i []) (sym made.polynomials) ∙ Chained.part_is_put (algebra_meaning algebras.Rational) c.n parts i

    entries_are : entry_of rational_meaning c.n c.inverse ≡ entry_of (algebra_meaning algebras.Rational) c.n inverse
    entries_are = fun_ext λ i. fun_ext λ k. ap (λ (l : List Rational). get_or l (c.n * i + k) rational_meaning.scalars.ops.zero) (sym entries.values)

pub lifted_move : (c : Change Frac) (parts : List (JetTerms (Ext Frac))) (inverse : List (Ext Frac)) → AreLiftedParts c c.parts parts → AreLiftedEntries c.inverse inverse
    → (n k : ℕ) (move : Move n Rational) → IsMoveExactly rational_meaning n k move c → IsMoveExactly (algebra_meaning algebras.Rational) n k move (record { n = c.n; order = c.order; parts = parts; inverse = inverse })
lifted_move c parts inverse made entries n k move h = record {
  change = lifted_change c h.change parts inverse made entries;
  variables = h.variables;
  order = h.order;
  parts = subst (λ z. map (λ (g : JetTerms (Ext Frac)). poly_of z (value_in algebras.Rational) g.terms) parts ≡ map (λ (p : JetTerms Frac). poly_of z frac_value p.terms) c.parts) h.variables made.polynomials ∙ h.parts;
}
