-- The numbers in the names of families.
use Rattle.std.specs.Prelude.{ℕ, ◌<◌, ◌≤◌, IsTrue, List, [], ◌∷◌, ◌++◌, decimal}
use Rattle.normal_forms.specs.declared.family.Family.{Family}
use Rattle.normal_forms.specs.declared.family.Family.TheVariants as families
use Rattle.normal_forms.specs.Families.{is_family}

-- three numbers with commas between them, and a parenthesis behind them
abbrev pub three_text : ℕ × ℕ × ℕ → List ℕ
three_text t = decimal t.0 ++ 44 ∷ decimal t.1 ++ 44 ∷ decimal t.2 ++ 41 ∷ []

-- all three are bytes
abbrev pub AreSmall : ℕ × ℕ × ℕ → Type 0
AreSmall t = (t.0 < 256) × (t.1 < 256) × (t.2 < 256)

-- a family T of the list with small numbers
abbrev pub IsHyperbolic : Family → Type 0
IsHyperbolic (families.A m) = ⊥
IsHyperbolic (families.D m) = ⊥
IsHyperbolic families.E6 = ⊥
IsHyperbolic families.E7 = ⊥
IsHyperbolic families.E8 = ⊥
IsHyperbolic families.P8 = ⊥
IsHyperbolic families.X9 = ⊥
IsHyperbolic families.J10 = ⊥
IsHyperbolic (families.T p q r) = IsTrue (is_family (families.T p q r)) × AreSmall (p, q, r)
IsHyperbolic families.E12 = ⊥
IsHyperbolic families.E13 = ⊥
IsHyperbolic families.E14 = ⊥
IsHyperbolic families.Z11 = ⊥
IsHyperbolic families.Z12 = ⊥
IsHyperbolic families.Z13 = ⊥
IsHyperbolic families.W12 = ⊥
IsHyperbolic families.W13 = ⊥
IsHyperbolic families.Q10 = ⊥
IsHyperbolic families.Q11 = ⊥
IsHyperbolic families.Q12 = ⊥
IsHyperbolic families.S11 = ⊥
IsHyperbolic families.S12 = ⊥
IsHyperbolic families.U12 = ⊥

-- a family A, D or T of the list with small numbers
abbrev pub IsSeries : Family → Type 0
IsSeries (families.A m) = (1 ≤ m) × (m < 256)
IsSeries (families.D m) = (4 ≤ m) × (m < 256)
IsSeries families.E6 = ⊥
IsSeries families.E7 = ⊥
IsSeries families.E8 = ⊥
IsSeries families.P8 = ⊥
IsSeries families.X9 = ⊥
IsSeries families.J10 = ⊥
IsSeries (families.T p q r) = IsHyperbolic (families.T p q r)
IsSeries families.E12 = ⊥
IsSeries families.E13 = ⊥
IsSeries families.E14 = ⊥
IsSeries families.Z11 = ⊥
IsSeries families.Z12 = ⊥
IsSeries families.Z13 = ⊥
IsSeries families.W12 = ⊥
IsSeries families.W13 = ⊥
IsSeries families.Q10 = ⊥
IsSeries families.Q11 = ⊥
IsSeries families.Q12 = ⊥
IsSeries families.S11 = ⊥
IsSeries families.S12 = ⊥
IsSeries families.U12 = ⊥
