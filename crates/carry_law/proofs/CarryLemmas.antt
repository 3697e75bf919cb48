-- Carrying by moves: heights, and jets that are their own truncations.
use Rattle.std.proofs.Common.{◌≡◌, ℕ, Bool, true, false, cond, leb, inl, inr, List, [], ◌∷◌, refl, sym, ap, ◌∙◌, subst}
use Rattle.ring_theory.specs.Scalars.{Scalars, ScalarLaws}
use Rattle.poly_law.specs.Exps.{degree}
use Rattle.poly_law.specs.ExpList.{exps}
use Rattle.poly_law.specs.Polynomials.{Polynomial, SameIn, coefficient_in, cut_in, substitute}
use Rattle.poly_law.proofs.ExpLists.{exps_are}
use Rattle.poly_law.proofs.Order
use Rattle.jet_law.specs.Canonical.{jet}
use Rattle.germ_law.proofs.Canonical
use Rattle.jet_subst.specs.Substitutions.{IsSubstHigh, IsMultipleHigh}
use Rattle.coord_change.specs.Moves.{Move, put}
use Rattle.coord_change.specs.Carries.{carry, carry_all}
pub use Rattle.coord_change.proofs.CarryLemmas.{carry_is, carry_same_to, carry_all_same, jets_same, no_constants}

module _ {V : Type 0} (n : ℕ) (s : Scalars V) (l : ScalarLaws s) where
  -- of equal polynomials
  pub high_same : (k : ℕ) (parts : ℕ → Polynomial n V) (f g : Polynomial n V) → SameIn n s.ops f g → IsSubstHigh (exps n) (exps n) s k parts f → IsSubstHigh (exps n) (exps n) s k parts g
  high_same k parts f g e q = elim q [
    | inl p ↦ inl (record { exponent = p.exponent; stands = λ z. p.stands (e p.exponent ∙ z); high = p.high })
    | inr r ↦ elim r [
      | inl p ↦ inr (inl (record {
        exponent = p.exponent;
        stands = λ z. p.stands (e p.exponent ∙ z);
        power = p.power;
        power_is = p.power_is;
        high = subst (λ z. IsMultipleHigh s z p.power) (e p.exponent) p.high;
      }))
      | inr p ↦ inr (inr (record {
        summands = p.summands;
        are = record { reduced = p.are.reduced; equal = λ b. p.are.equal b ∙ e b; powers = p.are.powers };
        high = p.high;
      }))
    ]
  ]

  -- a jet of order k is its own truncation at k
  pub jet_cut : (k : ℕ) (f : Polynomial n V) → SameIn n s.ops (cut_in n s.ops k (jet n s k f)) (jet n s k f)
  jet_cut k f b = Order.coefficient-cut (exps n) (exps_are n) s.ops l.ring k (jet n s k f) b ∙ step (leb (degree (exps n) b) k) refl
    where
      step : (t : Bool) → leb (degree (exps n) b) k ≡ t → cond t (coefficient_in n s.ops (jet n s k f) b) s.ops.zero ≡ coefficient_in n s.ops (jet n s k f) b
      step true e = refl
      step false e = sym (Canonical.jet_is_cut n s l k f b ∙ Order.coefficient-cut (exps n) (exps_are n) s.ops l.ring k f b ∙ ap (λ z. cond z (coefficient_in n s.ops f b) s.ops.zero) e)

  carry_cut : (k : ℕ) (m : Move n V) (f : Polynomial n V) → SameIn n s.ops (cut_in n s.ops k (carry n s k m f)) (carry n s k m f)
  unfolding carry
  carry_cut k m f = jet_cut k (substitute n n s.ops (put n s m) f)

  pub carried_cut : (k : ℕ) (ms : List (Move n V)) (f : Polynomial n V) → SameIn n s.ops (cut_in n s.ops k f) f → SameIn n s.ops (cut_in n s.ops k (carry_all n s k ms f)) (carry_all n s k ms f)
  carried_cut k [] f h = h
  carried_cut k (m ∷ ms) f h = carried_cut k ms (carry n s k m f) (carry_cut k m f)
