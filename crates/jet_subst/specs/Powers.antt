-- Reduced lists of terms, and which powers of a polynomial are high.
use Rattle.std.specs.Prelude.{◌≡◌, ◌≢◌, ℕ, ◌+◌, ◌≤◌, filter, length, All}
use Rattle.ring_theory.specs.Ring.{RingOps}
use Rattle.ring_theory.specs.Scalars.{Scalars, Meaning}
use Rattle.poly_law.specs.Sums.{power}
use Rattle.poly_law.specs.Exps.{Exps, same}
use Rattle.poly_law.specs.ExpList.{exps}
use Rattle.poly_law.specs.Poly.{Terms, Same, cut, poly_ops}
use Rattle.poly_law.specs.Polynomials.{Polynomial}
use Rattle.jet_law.specs.Heights.{IsHigh, product_heights}
use Rattle.jet_poly.specs.JetTerms.{JetTerms}
use Rattle.jet_law.specs.Terms.{poly_of}
use Rattle.jet_poly.specs.Jets.{IsJet}

module _ {E V : Type 0} (x : Exps E) (r : RingOps V) where
  -- each monomial stands at most once in the list, and no coefficient is zero
  pub record IsReduced (f : Terms E V) : Type 0 where
    pub once : (m : E) → length (filter (λ t. same x t.0 m) f) ≤ 1
    pub units : All (λ t. t.1 ≢ r.zero) f

  -- p is f cut at k, as a reduced list
  pub record IsTruncation (k : ℕ) (f p : Terms E V) : Type 0 where
    pub reduced : IsReduced p
    pub equal : Same x r p (cut x r k f)

-- a jet of order k in n variables that is f cut at k
pub record IsTruncatedJet {E V : Type 0} (m : Meaning E V) (n k : ℕ) (f : Polynomial n V) (p : JetTerms E) : Type 0 where
  pub jet : IsJet m p
  pub variables : p.n ≡ n
  pub order : p.order ≡ k
  pub truncation : IsTruncation (exps n) m.scalars.ops k f (poly_of n m.value p.terms)

-- the powers of p up to the exponent e, all cut at k, are high: for some a + b ≤ e, the product of p^a and p^b cut at k is
pub record ArePowersHigh {E V : Type 0} (x : Exps E) (s : Scalars V) (k : ℕ) (p : Terms E V) (e : ℕ) : Type 0 where
  pub first : ℕ
  pub second : ℕ
  pub together : first + second ≤ e
  pub left : Terms E V
  pub right : Terms E V
  pub left_is : IsTruncation x s.ops k (power (poly_ops x s.ops) p first) left
  pub right_is : IsTruncation x s.ops k (power (poly_ops x s.ops) p second) right
  pub high : IsHigh (product_heights x s k left right)
