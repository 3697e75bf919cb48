-- The inverse of a change of coordinates, one degree after the other, and which of the numbers that this forms are high.
use Rattle.std.specs.Prelude.{◌≡◌, ℕ, zero, suc, ◌+◌, ◌<◌, ◌≤◌, ◌⊎◌, ⊤, List, [], ◌∷◌, ◌++◌}
use Rattle.ring_theory.specs.Ring.{RingOps}
use Rattle.ring_theory.specs.Scalars.{Scalars, Meaning}
use Rattle.poly_law.specs.ExpList.{exps}
use Rattle.poly_law.specs.Poly.{scale}
use Rattle.poly_law.specs.Polynomials.{Polynomial, SameIn, poly_in, cut_in, substitute}
use Rattle.poly_law.specs.Sums.{sum_to}
use Rattle.mono_exp.specs.declared.exponent.Exp.{Exp}
use Rattle.jet_law.specs.Heights.{IsHigh, sums_heights}
use Rattle.jet_poly.specs.Jets.{component}
use Rattle.jet_subst.specs.Powers.{IsReduced}
use Rattle.jet_subst.specs.Substitutions.{IsMultipleHigh, IsSubstHigh}
use Rattle.coord_change.specs.Linear.{linear_form}

-- e is the homogeneous component of degree d of f, as a reduced list
pub record IsComponent {V : Type 0} (n : ℕ) (r : RingOps V) (d : ℕ) (f e : Polynomial n V) : Type 0 where
  pub reduced : IsReduced (exps n) r e
  pub equal : SameIn n r e (component n d f)

-- the combination a(0)*e(0) + .. + a(n - 1)*e(n - 1) of polynomials
abbrev pub combination_of : {V : Type 0} (n : ℕ) → RingOps V → (ℕ → V) → (ℕ → Polynomial n V) → Polynomial n V
combination_of n r a e = sum_to (poly_in n r) n (λ t. scale (exps n) r (a t) (e t))

-- for the change φ with the inverse matrix M of its linear part
module _ {V : Type 0} (n : ℕ) (r : RingOps V) (parts : ℕ → Polynomial n V) (matrix : ℕ → ℕ → V) where
  -- ψ less, in part u, row u of M times the terms of degree d of the φ(t)(ψ)
  abbrev pub corrected : (ℕ → Polynomial n V) → ℕ → ℕ → Polynomial n V
  corrected ψ d u = ψ u ++ (poly_in n r).neg (combination_of n r (matrix u) (λ t. component n d (substitute n n r ψ (parts t))))

  -- the inverse of φ up to degree k: the linear change of M up to degree 1, and up to each further degree the one before, corrected in that degree
  unfoldable pub inverse_to : ℕ → ℕ → Polynomial n V
  inverse_to zero u = []
  inverse_to (suc zero) u = linear_form n r (matrix u)
  inverse_to (suc (suc i)) u = corrected (inverse_to (suc i)) (suc (suc i)) u

module _ {V : Type 0} (n : ℕ) (s : Scalars V) where
  -- a product of some a(t) and a coefficient of e(t), or the sum of such products at a monomial, is high
  pub record CombinationIsHigh (a : ℕ → V) (e : ℕ → Polynomial n V) (d : ℕ) : Type 0 where
    pub high : ((t : ℕ) × (t < n) × IsMultipleHigh s (a t) (e t)) ⊎ IsHigh (sums_heights (exps n) s (cut_in n s.ops d (combination_of n s.ops a e)))

  module _ (parts : ℕ → Polynomial n V) where
    -- the substitution of ψ into some part of φ, cut at d, is high
    pub record SubstitutionIsHigh (ψ : ℕ → Polynomial n V) (d : ℕ) : Type 0 where
      pub part : ℕ
      pub inside : part < n
      pub high : IsSubstHigh (exps n) (exps n) s d ψ (parts part)

    module _ (matrix : ℕ → ℕ → V) where
      -- the combination of the terms of degree d of the φ(t)(ψ) with some row of M is high
      pub record CorrectionIsHigh (ψ : ℕ → Polynomial n V) (d : ℕ) : Type 0 where
        pub terms : ℕ → Polynomial n V
        pub are : (t : ℕ) → t < n → IsComponent n s.ops d (substitute n n s.ops ψ (parts t)) (terms t)
        pub row : ℕ
        pub inside : row < n
        pub high : CombinationIsHigh (matrix row) terms d

      -- finding the inverse up to degree k is high: for some degree d below k, correcting the inverse up to degree d in degree d + 1 is
      pub record IsInversionHigh (k : ℕ) : Type 0 where
        pub degree : ℕ
        pub positive : 1 ≤ degree
        pub below : degree < k
        pub high : SubstitutionIsHigh (inverse_to n s.ops parts matrix degree) (degree + 1) ⊎ CorrectionIsHigh (inverse_to n s.ops parts matrix degree) (degree + 1)

-- the terms of the second list have the monomials of the first, and the negatives of its coefficients
abbrev pub AreNegatives : {E V : Type 0} → Meaning E V → List (Exp × E) → List (Exp × E) → Type 0
AreNegatives m [] [] = ⊤
AreNegatives m [] (u ∷ us) = ⊥
AreNegatives m (t ∷ ts) [] = ⊥
AreNegatives m (t ∷ ts) (u ∷ us) = ((u.0 ≡ t.0) × (m.is_elem u.1) × (m.value u.1 ≡ m.scalars.ops.neg (m.value t.1))) × AreNegatives m ts us

-- the new terms are the old ones and the negatives of others
pub record PushesNegatives {E V : Type 0} (m : Meaning E V) (others old new : List (Exp × E)) : Type 0 where
  pub more : List (Exp × E)
  pub items : new ≡ old ++ more
  pub negatives : AreNegatives m others more
