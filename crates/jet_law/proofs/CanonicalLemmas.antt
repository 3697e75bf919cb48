-- Equal polynomials have one jet.
use mathlib.Core.Path.{fun_ext}
use Rattle.std.proofs.Common.{◌≡◌, ℕ, suc, not, map, ap}
use Rattle.std.specs.List.{filter}
use Rattle.ring_theory.specs.Ring.{IsCommRing}
use Rattle.ring_theory.specs.Scalars.{Scalars}
use Rattle.poly_law.specs.ExpList.{exps}
use Rattle.poly_law.specs.Poly.{SameTo}
use Rattle.poly_law.specs.Polynomials.{Polynomial}
use Rattle.poly_law.proofs.ExpLists.{exps_are}
use Rattle.poly_law.proofs.Order
use Rattle.mono_exp.specs.Exponents.{monomials_below}
use Rattle.jet_law.specs.Canonical.{monomial_in, jet}

module _ {V : Type 0} (n : ℕ) (s : Scalars V) (c : IsCommRing s.ops) where
  -- polynomials that agree up to degree k have the same jet of order k
  pub jet_same : (k : ℕ) (f g : Polynomial n V) → SameTo (exps n) s.ops k f g → jet n s k f ≡ jet n s k g
  unfolding jet
  jet_same k f g e =
      ap (λ co. filter (λ t. not (s.is_zero t.1)) (map (λ e. (monomial_in n e, co (monomial_in n e))) (monomials_below n (suc k)))) (fun_ext (Order.same-cut (exps n) (exps_are n) s.ops c k f g e))
