-- The parts of a split move as jets of the program.
use Rattle.std.specs.Prelude.{◌≡◌, ℕ, List, ◌∷◌, flat_map}
use Rattle.ring_theory.specs.Scalars.{Scalars, Meaning}
use Rattle.poly_law.specs.Polynomials.{Polynomial}
use Rattle.mono_exp.specs.declared.exponent.Exp.{Exp}
use Rattle.jet_law.specs.Terms.{poly_of}
use Rattle.jet_poly.specs.JetTerms.{IsRising}
use Rattle.jet_poly.specs.Jets.{IsJet, whole}
use Rattle.lin_row.specs.Plain.{Among}
use Rattle.move_law.specs.Split.{half_inverse, completed_work}
use Rattle.move_law.specs.Work as work
use Rattle.move_law.specs.Work.{Work, IsWorkHigh}

module _ {E V : Type 0} (m : Meaning E V) (n : ℕ) where
  -- the terms are those of a jet of order k in n variables, and its polynomial is p
  pub record AreTermsOf (k : ℕ) (p : Polynomial n V) (terms : List (Exp × E)) : Type 0 where
    pub jet : IsJet m (record { n = n; order = k; terms = terms })
    pub rising : IsRising terms
    pub polynomial : poly_of n m.value terms ≡ p

-- some of the operations forms a number of height at least 2^120
abbrev pub AnyHigh : {V : Type 0} (n : ℕ) → Scalars V → List (Work n V) → Type 0
AnyHigh n s works = Among (IsWorkHigh n s) works

-- the operations that complete the square of one variable: twice its coefficient, the inverse of that, and the product with each coefficient
abbrev pub completing_work : {V : Type 0} (n : ℕ) → Scalars V → ℕ → ℕ → V → ℕ → Polynomial n V → List (Work n V)
completing_work n s c d square w f =
    work.product (whole s 2) square ∷ work.inverse (s.ops.mul (whole s 2) square) ∷ flat_map (completed_work n s c d (half_inverse s square) w) f
