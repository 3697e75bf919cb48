-- Values with a test of zero are a set.
use mathlib.Core.HLevel.{Discrete, hedberg}
use Rattle.std.proofs.Common.{◌≡◌, Bool, true, false, ap, sym, ◌∙◌, refl}
use Rattle.ring_theory.specs.Scalars.{Scalars, ScalarLaws}
use Rattle.ring_theory.proofs.RingSolver.{eq_of_sub}

decide : {V : Type 0} (s : Scalars V) (l : ScalarLaws s) → Discrete V
decide s l a b = step (s.is_zero (s.ops.add a (s.ops.neg b))) refl
  where
    step : (t : Bool) → s.is_zero (s.ops.add a (s.ops.neg b)) ≡ t → Dec (a ≡ b)
    step true e = yes (eq_of_sub s.ops l.ring a b ((l.zero_test (s.ops.add a (s.ops.neg b))).0 e))
    step false e = no (λ q. bad (sym e ∙ (l.zero_test (s.ops.add a (s.ops.neg b))).1 (ap (λ z. s.ops.add z (s.ops.neg b)) q ∙ l.ring.add_neg b)))
      where
        bad : false ≡ true → ⊥
        bad e = cc e

pub values_are_set : {V : Type 0} (s : Scalars V) (l : ScalarLaws s) → IsSet V
values_are_set s l = hedberg (decide s l)
