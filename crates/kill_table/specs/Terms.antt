-- Terms of one weighted degree, in the monomial order, to which terms are added.
use Rattle.std.specs.Prelude.{◌≡◌, ℕ, ◌+◌, ◌≤◌, ◌^◌, Bool, false, not, cond, List, [], ◌∷◌, ◌++◌, take, drop, get_or, length}
use Rattle.std.specs.List.{AllByRecursion}
use Rattle.ring_theory.specs.Scalars.{Meaning, SumIsHigh}
use Rattle.poly_law.specs.ExpList.{exps}
use Rattle.mono_exp.specs.declared.exponent.Exp.{Exp}
use Rattle.mono_exp.specs.Exponents.{IsIn, is_before, weighted_degree_of}
use Rattle.jet_law.specs.Heights.{summands_at}
use Rattle.jet_law.specs.Terms.{exp_of, poly_of}
use Rattle.kill_law.specs.Taken.{put}

-- the terms are in the first n variables, each with eight exponents
abbrev pub AreIn : {E : Type 0} → ℕ → List (Exp × E) → Type 0
AreIn n terms = AllByRecursion (λ t. (length t.0.e ≡ 8) × IsIn n t.0.e) terms

-- a valid term in the variables that have the weights ws, of weighted degree `grade`
pub record IsOfGrade {E V : Type 0} (m : Meaning E V) (ws : List ℕ) (grade : ℕ) (t : Exp × E) : Type 0 where
  pub elem : m.is_elem t.1
  pub long : length t.0.e ≡ 8
  pub variables : IsIn (length ws) t.0.e
  pub weight : weighted_degree_of ws t.0.e ≡ grade

abbrev pub AreOfGrade : {E V : Type 0} → Meaning E V → List ℕ → ℕ → List (Exp × E) → Type 0
AreOfGrade m ws grade terms = AllByRecursion (IsOfGrade m ws grade) terms

-- the first of some terms is not after the monomial a
abbrev pub is_met_by : {E : Type 0} → Exp → List (Exp × E) → Bool
is_met_by a [] = false
is_met_by a (t ∷ ts) = not (is_before a.e t.0.e)

-- c is added to the coefficient of the term at a place: the new terms have the sum there, or no term where the sum is zero
pub record IsSumAt {E V : Type 0} (m : Meaning E V) (old : List (Exp × E)) (place : ℕ) (c : E) (new : List (Exp × E)) : Type 0 where
  pub term : Exp × E
  pub read : term ≡ get_or old place term
  pub number : E
  pub elem : m.is_elem number
  pub sum : m.value number ≡ m.scalars.ops.add (m.value term.1) (m.value c)
  pub changed : new ≡ take place old ++ (cond (m.scalars.is_zero (m.value number)) [] ((term.0, number) ∷ []) ++ drop (place + 1) old)

-- the sum of c and the coefficient of the term at a place may be refused
pub record IsRefusedAt {E V : Type 0} (m : Meaning E V) (old : List (Exp × E)) (place : ℕ) (c : E) : Type 0 where
  pub term : Exp × E
  pub read : term ≡ get_or old place term
  pub high : SumIsHigh m.scalars (m.value term.1) (m.value c)

-- the term t is put among the old terms as the definition puts it, and all terms stay of the grade that they have
pub record IsAdded {E V : Type 0} (m : Meaning E V) (t : Exp × E) (old new : List (Exp × E)) : Type 0 where
  pub put : (n : ℕ) → AreIn n (t ∷ old) → poly_of n m.value new ≡ put m.scalars (exp_of n t.0, m.value t.1) (poly_of n m.value old)
  pub kept : (ws : List ℕ) (grade : ℕ) → AreOfGrade m ws grade (t ∷ old) → AreOfGrade m ws grade new

-- the sum of the term t with the old terms that have its monomial is high
abbrev pub IsAddingHigh : {E V : Type 0} → Meaning E V → Exp × E → List (Exp × E) → Type 0
IsAddingHigh m t old = (n : ℕ) → AreIn n (t ∷ old)
    → 2 ^ 120 ≤ m.scalars.sum_height (summands_at (exps n) m.scalars (poly_of n m.value old ++ (exp_of n t.0, m.value t.1) ∷ []) (exp_of n t.0))
