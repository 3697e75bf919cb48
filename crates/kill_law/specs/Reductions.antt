-- What a reduction leaves: the terms of a form change by what is taken from the variables, each times the partial derivative of the part's form in it.
use Rattle.std.specs.Prelude.{◌≡◌, ℕ, zero, suc, ◌*◌, ◌<◌, ◌≤◌, ◌==◌, true, Option, Some, None, List, [], ◌∷◌, ◌++◌, filter, flat_map, length, Contains, All}
use Rattle.std.specs.List.{AllByRecursion}
use Rattle.ring_theory.specs.Scalars.{Scalars}
use Rattle.poly_law.specs.ExpList.{ExpList, exps}
use Rattle.poly_law.specs.Poly.{combination}
use Rattle.poly_law.specs.Polynomials.{Polynomial, SameIn, coefficient_in, substitute}
use Rattle.mono_exp.specs.Exponents.{weighted_degree_of}
use Rattle.jet_law.specs.Canonical.{monomial_in}
use Rattle.kill_law.specs.declared.lead.Lead.{Lead}
use Rattle.kill_law.specs.declared.part.Part.{Part}
use Rattle.kill_law.specs.Table.{row}
use Rattle.kill_law.specs.Kill.{first_lead, divides}
use Rattle.kill_law.specs.Leads.{HasInvertibleDivisors, form_of}
use Rattle.kill_law.specs.Taken.{Step, first_step, left_by, steps_of, taken_by, killed}

module _ {V : Type 0} (s : Scalars V) (letters : List V) {n : ℕ} where
  -- what is left where a step was found, or none
  abbrev pub left_from : (Polynomial n V → Polynomial n V) → Polynomial n V → Option (Step n V × Polynomial n V) → Polynomial n V
  left_from later h None = h
  left_from later h (Some u) = later (left_by s letters u)

  -- what is left of h after its reduction, in k steps at most
  abbrev pub left_of : ℕ → List Lead → Polynomial n V → Polynomial n V
  left_of zero leads h = h
  left_of (suc k) leads h = left_from (left_of k leads) h (first_step leads h)

  -- what the reduction takes from variable i
  abbrev pub taken : ℕ → List Lead → Polynomial n V → ℕ → Polynomial n V
  taken k leads h i = flat_map (λ u. taken_by s letters i u.0) (steps_of s letters k leads h)

-- h and what is taken from the variables times the partial derivatives of the form of a part, together, are what is left of h
abbrev pub ReductionsAreRight : {V : Type 0} → Scalars V → Type 0
ReductionsAreRight {V} s = (p : Part) (a b c : V) → ((l : Lead) → Contains (row p).leads l → HasInvertibleDivisors s (a ∷ b ∷ c ∷ []) l)
    → let n = length (row p).weights in (k : ℕ) (h : Polynomial n V)
    → SameIn n s.ops (h ++ combination (exps n) s.ops (taken s (a ∷ b ∷ c ∷ []) k (row p).leads h) (form_of s (a ∷ b ∷ c ∷ []) n p)) (left_of s (a ∷ b ∷ c ∷ []) k (row p).leads h)

-- after as many steps as a reduction makes, no lead divides a term
abbrev pub ReductionsEnd : {V : Type 0} → Scalars V → Type 0
ReductionsEnd {V} s = (p : Part) (letters : List V) → let n = length (row p).weights in (h : Polynomial n V)
    → All (λ t. first_lead n (row p).leads t.0 ≡ None) (left_of s letters (3 * length h) (row p).leads h)

-- what the kill move of a grade leaves of f, where each term of f has at least the weighted degree of the form of the part, and those of this degree are the form: all of
-- lower grade is unchanged, and in the grade there is no monomial that a lead divides
abbrev pub KillsLeaveReduced : {V : Type 0} → Scalars V → Type 0
KillsLeaveReduced {V} s = (p : Part) (a b c : V) → ((l : Lead) → Contains (row p).leads l → HasInvertibleDivisors s (a ∷ b ∷ c ∷ []) l)
    → let n = length (row p).weights in let letters : List V = a ∷ b ∷ c ∷ [] in let weight : ExpList n → ℕ = λ m. weighted_degree_of (row p).weights m.entries in
    (grade : ℕ) → (row p).degree < grade → (f : Polynomial n V) → AllByRecursion (λ t. (row p).degree ≤ weight t.0) f
    → SameIn n s.ops (filter (λ t. weight t.0 == (row p).degree) f) (form_of s letters n p)
    → (m : ExpList n) → let left = coefficient_in n s.ops (substitute n n s.ops (killed n s letters p grade f) f) m in
    (weight m < grade → left ≡ coefficient_in n s.ops f m)
    × (weight m ≡ grade → (l : Lead) → Contains (row p).leads l → divides n (monomial_in n l.monomial) m ≡ true → left ≡ s.ops.zero)
