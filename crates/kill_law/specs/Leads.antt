-- What the table of the leads says: each lead is the sum of its cofactors times the partial derivatives of the form of its part, plus its tail.
use Rattle.std.specs.Prelude.{◌≡◌, ℕ, List, [], ◌∷◌, ◌++◌, map, zip, length, Contains}
use Rattle.ring_theory.specs.Scalars.{Scalars}
use Rattle.poly_law.specs.ExpList.{exps}
use Rattle.poly_law.specs.Poly.{combination}
use Rattle.poly_law.specs.Polynomials.{Polynomial, SameIn, term_in}
use Rattle.jet_law.specs.Canonical.{monomial_in}
use Rattle.kill_law.specs.declared.lead.Entry.{Entry}
use Rattle.kill_law.specs.declared.lead.Lead.{Lead}
use Rattle.kill_law.specs.declared.part.Part.{Part}
use Rattle.kill_law.specs.Table.{row}
use Rattle.kill_law.specs.Kill.{cofactor, tail_of, divisor_value, polynomial}

-- all entries of a lead
abbrev pub entries_of : Lead → List Entry
entries_of l = cofactor l 0 ++ cofactor l 1 ++ cofactor l 2 ++ tail_of l

module _ {V : Type 0} (s : Scalars V) (letters : List V) where
  -- what the entries of a lead are divided by is invertible
  abbrev pub HasInvertibleDivisors : Lead → Type 0
  HasInvertibleDivisors l = (e : Entry) → Contains (entries_of l) e → s.ops.mul (divisor_value s letters e.divisor) (s.inverse (divisor_value s letters e.divisor)) ≡ s.ops.one

  -- the form of a part with these letters
  abbrev pub form_of : (n : ℕ) → Part → Polynomial n V
  form_of n p = zip (map (monomial_in n) (row p).form) letters

  -- l is the sum of its cofactors times the partial derivatives of the form, plus its tail
  abbrev pub IsLeadOf : (n : ℕ) → Polynomial n V → Lead → Type 0
  IsLeadOf n form l = SameIn n s.ops (term_in n s.ops (monomial_in n l.monomial))
      (combination (exps n) s.ops (λ i. polynomial s letters n (cofactor l i)) form ++ polynomial s letters n (tail_of l))

-- so is each lead of each part, for all letters for which its divisors are invertible
abbrev pub LeadsAreRight : {V : Type 0} → Scalars V → Type 0
LeadsAreRight {V} s = (p : Part) (l : Lead) → Contains (row p).leads l → (a b c : V) → HasInvertibleDivisors s (a ∷ b ∷ c ∷ []) l
    → let n = length (row p).weights in IsLeadOf s (a ∷ b ∷ c ∷ []) n (form_of s (a ∷ b ∷ c ∷ []) n p) l
