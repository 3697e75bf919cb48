-- The text of the names of families, patterns, phases and kinds of refusal.
use Rattle.std.specs.Prelude.{ℕ, List, [], ◌∷◌, ◌++◌, codes, decimal}
use Rattle.normal_forms.specs.declared.family.Family.{Family}
use Rattle.normal_forms.specs.declared.family.Family.TheVariants as families
use Rattle.normal_forms.specs.declared.pattern.Pattern.{Pattern}
use Rattle.normal_forms.specs.declared.pattern.Pattern.TheVariants as patterns
use Rattle.poly_text.specs.declared.what.What.{What}
use Rattle.poly_text.specs.declared.what.What.TheVariants as whats
use Rattle.cert_text.specs.declared.report.Phase.{Phase}
use Rattle.cert_text.specs.declared.report.Phase.TheVariants as phases

-- the front of a family's name, which is the whole of it but for A, D and T
unfoldable pub family_letters : Family → List ℕ
family_letters (families.A m) = codes "A"
family_letters (families.D m) = codes "D"
family_letters families.E6 = codes "E6"
family_letters families.E7 = codes "E7"
family_letters families.E8 = codes "E8"
family_letters families.P8 = codes "P8"
family_letters families.X9 = codes "X9"
family_letters families.J10 = codes "J10"
family_letters (families.T p q r) = codes "T("
family_letters families.E12 = codes "E12"
family_letters families.E13 = codes "E13"
family_letters families.E14 = codes "E14"
family_letters families.Z11 = codes "Z11"
family_letters families.Z12 = codes "Z12"
family_letters families.Z13 = codes "Z13"
family_letters families.W12 = codes "W12"
family_letters families.W13 = codes "W13"
family_letters families.Q10 = codes "Q10"
family_letters families.Q11 = codes "Q11"
family_letters families.Q12 = codes "Q12"
family_letters families.S11 = codes "S11"
family_letters families.S12 = codes "S12"
family_letters families.U12 = codes "U12"

-- the numbers of A, D and T, as in `A2`, `D6` and `T(2,3,7)`
unfoldable pub family_numbers : Family → List ℕ
family_numbers (families.A m) = decimal m
family_numbers (families.D m) = decimal m
family_numbers (families.T p q r) = decimal p ++ 44 ∷ decimal q ++ 44 ∷ decimal r ++ 41 ∷ []
family_numbers families.E6 = []
family_numbers families.E7 = []
family_numbers families.E8 = []
family_numbers families.P8 = []
family_numbers families.X9 = []
family_numbers families.J10 = []
family_numbers families.E12 = []
family_numbers families.E13 = []
family_numbers families.E14 = []
family_numbers families.Z11 = []
family_numbers families.Z12 = []
family_numbers families.Z13 = []
family_numbers families.W12 = []
family_numbers families.W13 = []
family_numbers families.Q10 = []
family_numbers families.Q11 = []
family_numbers families.Q12 = []
family_numbers families.S11 = []
family_numbers families.S12 = []
family_numbers families.U12 = []

unfoldable pub family_text : Family → List ℕ
family_text family = family_letters family ++ family_numbers family

unfoldable pub pattern_text : Pattern → List ℕ
pattern_text patterns.O = codes "O"
pattern_text patterns.V = codes "V"
pattern_text patterns.N = codes "N"
pattern_text patterns.J3 = codes "J3"
pattern_text patterns.Z1 = codes "Z1"
pattern_text patterns.W1 = codes "W1"
pattern_text patterns.Q2 = codes "Q2"
pattern_text patterns.S1 = codes "S1"
pattern_text patterns.U1 = codes "U1"

unfoldable pub phase_text : Phase → List ℕ
phase_text phases.Line = codes "line"
phase_text phases.Hessian = codes "hessian"
phase_text phases.Split = codes "split"
phase_text phases.Shape = codes "shape"
phase_text phases.Kill = codes "kill"
phase_text phases.Mather = codes "mather"
phase_text phases.Finish = codes "finish"
phase_text phases.Milnor = codes "milnor"

unfoldable pub what_text : What → List ℕ
what_text whats.Byte = codes "byte"
what_text whats.End = codes "end"
