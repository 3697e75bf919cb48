-- Substituting twice is substituting the composed parts.
use mathlib.Core.Path.{fun_ext}
use mathlib.Core.Quot.{mk}
use Rattle.std.proofs.Common.{◌≡◌, ℕ, ap, sym, ◌∙◌}
use Rattle.ring_theory.specs.Ring.{RingOps, IsCommRing}
use Rattle.poly_law.specs.Exps.{Exps, IsExps}
use Rattle.poly_law.specs.Poly.{Terms, Same, monomial_of, subst_in}
use Rattle.poly_law.proofs.Pair
use Rattle.poly_law.proofs.Pair.{pair}
use Rattle.poly_law.proofs.PolyRing.{Poly, poly_ring}
use Rattle.poly_law.proofs.Hom
use Rattle.poly_law.proofs.Subst

module _ {E F G V : Type 0} (x : Exps E) (l : IsExps x) (y : Exps F) (m : IsExps y) (z : Exps G) (n : IsExps z) (r : RingOps V) (c : IsCommRing r) (s : IsSet V)
    (first : ℕ → Terms F V) (next : ℕ → Terms G V) where
  abbrev pub composed : ℕ → Terms G V
  composed i = subst_in y z r next (first i)

  image_composed : (a : E) → ◌≡◌ {A = Poly z r} (mk (subst_in y z r next (monomial_of x y r first a))) (mk (monomial_of x z r composed a))
  image_composed a =
      ap (Subst.at_parts y m z n r c s next) (Subst.mk_monomial x l y m r c s first a)
      ∙ Hom.of_monomial (poly_ring y m r c) (poly_ring z n r c) (Subst.at_parts y m z n r c s next) (Subst.at_parts_is y m z n r c s next) x.count (λ i. mk (first i)) (x.at a)
      ∙ sym (Subst.mk_monomial x l z n r c s composed a)

  pub subst_twice : (f : Terms E V) → Same z r (subst_in y z r next (subst_in x y r first f)) (subst_in x z r composed f)
  subst_twice f = Pair.same_from_pair z n r c (subst_in y z r next (subst_in x y r first f)) (subst_in x z r composed f) λ w.
      Subst.pair-subst y m z n r c s next (subst_in x y r first f) w
      ∙ Subst.pair-subst x l y m r c s first f (λ b. pair r (monomial_of y z r next b) w)
      ∙ ap (pair r f) (fun_ext λ a.
      sym (Subst.pair-subst y m z n r c s next (monomial_of x y r first a) w)
      ∙ Subst.pair_from_path z n r c s (subst_in y z r next (monomial_of x y r first a)) (monomial_of x z r composed a) (image_composed a) w)
      ∙ sym (Subst.pair-subst x l z n r c s composed f w)
