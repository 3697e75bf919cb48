-- Steps of a reduction as the program keeps them, and the terms that they give.
use Rattle.std.specs.Prelude.{◌≡◌, ◌≢◌, ℕ, ◌+◌, ◌<◌, ◌⊎◌, ◌==◌, ◌&&◌, Bool, List, [], ◌∷◌, ◌++◌, map, flat_map, length, get_or, take, drop, Some, None, Contains}
use Rattle.std.specs.List.{AllByRecursion, list_all}
use Rattle.ring_theory.specs.Scalars.{Meaning}
use Rattle.poly_law.specs.Exps.{variable}
use Rattle.poly_law.specs.ExpList.{exps}
use Rattle.poly_law.specs.Polynomials.{Polynomial, cut_in}
use Rattle.mono_exp.specs.declared.exponent.Exp.{Exp}
use Rattle.mono_exp.specs.Exponents.{IsIn, IsProduct, HasProduct, weighted_degree_of}
use Rattle.jet_law.specs.Heights.{IsHigh, sums_heights}
use Rattle.jet_law.specs.Terms.{exp_of, poly_of}
use Rattle.kill_law.specs.declared.lead.Entry.{Entry}
use Rattle.kill_law.specs.declared.lead.Lead.{Lead}
use Rattle.kill_law.specs.declared.part.Part.{Part}
use Rattle.kill_law.specs.Table.{row}
use Rattle.kill_law.specs.Kill.{first_lead, cofactor, tail_of, divisor_value}
use Rattle.kill_law.specs.Leads.{entries_of}
use Rattle.kill_law.specs.Taken as law
use Rattle.kill_law.specs.Taken.{multiplied, multiplied_heights, taken_by, left_by, tail_heights, reduction}
use Rattle.kill_table.specs.declared.reduction.Step.{Step}
use Rattle.kill_table.specs.Terms.{AreIn, IsOfGrade, AreOfGrade}

-- the step in n variables
abbrev pub step_of : {E V : Type 0} → Meaning E V → (n : ℕ) → Step E → law.Step n V
step_of m n u = record { lead = u.lead; rest = exp_of n u.rest; coefficient = m.value u.coefficient }

-- a list without the element at a place
abbrev pub without : {A : Type 0} → ℕ → List A → List A
without k xs = take k xs ++ drop (k + 1) xs

-- a monomial of a grade of a part, in the variables of the part alone
abbrev pub is_graded : Part → ℕ → List ℕ → Bool
is_graded p grade e = (weighted_degree_of (row p).weights e == grade) && list_all (λ k. k == 0) (drop (length (row p).weights) e)

-- the place of the first term that a lead divides, with the step that reduces it by the first lead that does
pub record IsFirstStep {E : Type 0} (n : ℕ) (leads : List Lead) (terms : List (Exp × E)) (p : ℕ × Step E) : Type 0 where
  pub inside : p.0 < length terms
  pub earlier : (j : ℕ) → j < p.0 → (d : Exp × E) → first_lead n leads (exp_of n (get_or terms j d).0) ≡ None
  pub term : Exp × E
  pub read : term ≡ get_or terms p.0 term
  pub lead : first_lead n leads (exp_of n term.0) ≡ Some p.1.lead
  pub among : Contains leads p.1.lead
  pub quotient : IsProduct term.0.e p.1.rest.e p.1.lead.monomial
  pub coefficient : p.1.coefficient ≡ term.1

module _ {E V : Type 0} (m : Meaning E V) (letters : List V) where
  -- t is the quotient of the step times the entry e, with the coefficient of the step
  pub record IsTermBy (u : Step E) (e : Entry) (t : Exp × E) : Type 0 where
    pub elem : m.is_elem t.1
    pub long : length t.0.e ≡ 8
    pub product : IsProduct t.0.e u.rest.e e.monomial
    pub value : m.value t.1 ≡ multiplied m.scalars letters (m.value u.coefficient) e

  -- a step in n variables whose entries can be multiplied: nothing is divided by zero, and no exponent passes 255
  pub record IsReady (n : ℕ) (u : Step E) : Type 0 where
    pub elem : m.is_elem u.coefficient
    pub variables : IsIn n u.rest.e
    pub divisors : (e : Entry) → Contains (entries_of u.lead) e → divisor_value m.scalars letters e.divisor ≢ m.scalars.ops.zero
    pub fits : (e : Entry) → Contains (entries_of u.lead) e → HasProduct u.rest.e e.monomial
    pub within : (e : Entry) → Contains (entries_of u.lead) e → IsIn n e.monomial

  -- the terms of some entries are added with the sign turned
  pub record Takes (u : Step E) (es : List Entry) (old new : List (Exp × E)) : Type 0 where
    pub added : List (Exp × E)
    pub items : new ≡ old ++ added
    pub elems : AllByRecursion (λ t. m.is_elem t.1) added
    pub variables : (n : ℕ) → IsIn n u.rest.e → ((e : Entry) → Contains es e → IsIn n e.monomial) → AllByRecursion (λ t. IsIn n t.0.e) added
    pub polynomial : (n : ℕ) → poly_of n m.value added ≡ map (λ e. ((law.term_of m.scalars letters (step_of m n u) e).0, m.scalars.ops.neg (law.term_of m.scalars letters (step_of m n u) e).1)) es

  -- what a step leaves of the other terms: its tail is put in
  pub record IsLeft (u : Step E) (others new : List (Exp × E)) : Type 0 where
    pub left : (n : ℕ) → AreIn n others → IsIn n u.rest.e → ((e : Entry) → Contains (tail_of u.lead) e → IsIn n e.monomial) → poly_of n m.value new ≡ left_by m.scalars letters (step_of m n u, poly_of n m.value others)
    pub kept : (ws : List ℕ) (grade : ℕ) → AreOfGrade m ws grade others → ((e : Entry) → Contains (tail_of u.lead) e → (t : Exp × E) → IsTermBy u e t → IsOfGrade m ws grade t) → AreOfGrade m ws grade new

  -- a number that the tail of a step forms among the other terms is high
  abbrev pub IsLeavingHigh : Step E → List (Exp × E) → Type 0
  IsLeavingHigh u others = (n : ℕ) → AreIn n others → IsIn n u.rest.e → ((e : Entry) → Contains (tail_of u.lead) e → IsIn n e.monomial)
      → IsHigh (flat_map (tail_heights m.scalars letters (step_of m n u) (poly_of n m.value others)) (tail_of u.lead))

  -- the weighted degrees of the quotient and of the lead of a step add up to the grade
  pub record IsWeighed (p : Part) (grade : ℕ) (u : Step E) : Type 0 where
    pub among : Contains (row p).leads u.lead
    pub weight : weighted_degree_of (row p).weights u.rest.e + weighted_degree_of (row p).weights u.lead.monomial ≡ grade

  -- the steps of the reduction of the terms of a grade of f
  pub record IsReduction (n : ℕ) (p : Part) (grade : ℕ) (f : Polynomial n V) (steps : List (Step E)) : Type 0 where
    pub ready : AllByRecursion (IsReady n) steps
    pub weighed : AllByRecursion (IsWeighed p grade) steps
    pub same : map (step_of m n) steps ≡ map (λ u. u.0) (reduction n m.scalars letters p grade f)

  -- what some steps put for variable i
  abbrev pub put_by : (n : ℕ) → List (Step E) → ℕ → Polynomial n V
  put_by n steps i = (variable (exps n) i, m.scalars.ops.one) ∷ flat_map (λ u. taken_by m.scalars letters i (step_of m n u)) steps

  -- a product that a step forms for variable i is high
  pub record IsTakingHigh (steps : List (Step E)) (i : ℕ) : Type 0 where
    pub step : Step E
    pub among : Contains steps step
    pub high : IsHigh (flat_map (multiplied_heights m.scalars letters (m.value step.coefficient)) (cofactor step.lead i))

  -- such a product is high, or a sum in what the steps put for variable i, up to degree 16
  abbrev pub IsPuttingHigh : (n : ℕ) → List (Step E) → ℕ → Type 0
  IsPuttingHigh n steps i = IsTakingHigh steps i ⊎ IsHigh (sums_heights (exps n) m.scalars (cut_in n m.scalars.ops 16 (put_by n steps i)))
