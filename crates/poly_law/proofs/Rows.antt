-- Rows of Mather's test with multipliers at every index: those at and above the number of variables do not count.
use Rattle.std.proofs.Common.{◌≡◌, ℕ, ◌+◌, [], Bool, true, false, cond, ltb, ltb-true, lt-ltb, ap, ◌∙◌, refl}
use Rattle.ring_theory.specs.Ring.{RingOps}
use Rattle.poly_law.specs.Exps.{Exps}
use Rattle.poly_law.specs.Poly.{Terms, coefficient, times, poly_ops, derivative, SameTo, StartsAt, term, combination, MatherRow}
use Rattle.poly_law.proofs.Sums

module _ {E V : Type 0} (x : Exps E) (r : RingOps V) (k : ℕ) (g : Terms E V) (m : E) where
  pub record Row : Type 0 where
    pub multiplier : ℕ → Terms E V
    pub order_two : (i : ℕ) → StartsAt x r 2 (multiplier i)
    pub adds_up : SameTo x r (k + 1) (combination x r multiplier g) (term x r m)

  pub mather_row : Row → MatherRow x r k g m
  mather_row w = record { multiplier = w.multiplier; is_row = record { order_two = λ i h. w.order_two i; adds_up = w.adds_up } }

  -- 0 at and above the number of variables
  pub row_of : MatherRow x r k g m → Row
  row_of w = record {
    multiplier = below;
    order_two = λ i. step i (ltb i x.count) refl;
    adds_up = λ a h. ap (λ f. coefficient x r f a)
        (Sums.sum_to-cong (poly_ops x r) x.count (λ i. times x r (below i) (derivative x r i g)) (λ i. times x r (w.multiplier i) (derivative x r i g))
        (λ i h'. ap (λ t. times x r (cond t (w.multiplier i) []) (derivative x r i g)) (lt-ltb i x.count h')))
        ∙ w.is_row.adds_up a h;
  }
    where
      below : ℕ → Terms E V
      below i = cond (ltb i x.count) (w.multiplier i) []

      step : (i : ℕ) (t : Bool) → ltb i x.count ≡ t → StartsAt x r 2 (cond t (w.multiplier i) [])
      step i true e = w.is_row.order_two i (ltb-true i x.count e)
      step i false e = λ a h. refl
