-- Products of powers of jets that are kept, by the numbers of their monomials.
use Rattle.std.specs.Prelude.{◌≡◌, ℕ, ◌+◌, ◌<◌, ◌≤◌, IsSome, List, [], ◌∷◌, length, get_or, set, nat_eq, All}
use Rattle.std.specs.List.{AllByRecursion}
use Rattle.std.specs.Map.{lookup}
use Rattle.ring_theory.specs.Scalars.{Meaning}
use Rattle.poly_law.specs.ExpList.{exps}
use Rattle.poly_law.specs.Poly.{monomial_of}
use Rattle.mono_exp.specs.Exponents.{IsIn, rank_of, exponents}
use Rattle.mono_exp.specs.declared.exponent.Exp.{Exp}
use Rattle.jet_poly.specs.JetTerms.{JetTerms}
use Rattle.jet_poly.specs.Gathered.{numbered}
use Rattle.jet_subst.specs.declared.keeping.Kept.{Kept}
use Rattle.jet_subst.specs.Powers.{IsTruncatedJet}
use Rattle.jet_subst.specs.Parts.{part_of, IsPart}

-- each of the jets is the product of powers of the parts, cut at k, for the monomial with its number
abbrev pub ArePowersOf : {E V : Type 0} → Meaning E V → (n k : ℕ) → List (JetTerms E) → List (ℕ × JetTerms E) → Type 0
ArePowersOf m n k parts powers = AllByRecursion (λ s. IsTruncatedJet m n k (monomial_of (exps (length parts)) (exps n) m.scalars.ops (part_of n m.value parts) (numbered (length parts) s.0)) s.1) powers

-- the product for the monomial e in as many variables as there are parts is among them
abbrev pub IsHeld : {E : Type 0} → ℕ → Exp → List (ℕ × JetTerms E) → Type 0
IsHeld count e powers = IsSome (lookup (nat_eq (rank_of count (exponents count e.e))) powers)

-- one to eight parts in at most eight variables, each kept product the one of these parts: so it stands over the ring of m
pub record IsKept {E V : Type 0} (m : Meaning E V) (c : Kept E) : Type 0 where
  pub given : 0 < length c.parts
  pub at_most_8_parts : length c.parts ≤ 8
  pub at_most_8_variables : c.n ≤ 8
  pub order_at_most_17 : c.order ≤ 17
  pub parts : All (IsPart m c.n) c.parts
  pub powers : ArePowersOf m c.n c.order c.parts c.powers.entries

-- two kept products have the same parts and the same degree
pub record KeepsParts {E : Type 0} (old new : Kept E) : Type 0 where
  pub n : new.n ≡ old.n
  pub order : new.order ≡ old.order
  pub parts : new.parts ≡ old.parts

-- the exponents of the monomial 1 in eight variables
abbrev pub zeros : List ℕ
zeros = 0 ∷ 0 ∷ 0 ∷ 0 ∷ 0 ∷ 0 ∷ 0 ∷ 0 ∷ []

-- the monomial next is current times variable i, which current has less often than e
pub record IsFollowing (current e : List ℕ) (i : ℕ) (next : List ℕ) : Type 0 where
  pub inside : i < 8
  pub below : get_or current i 0 < get_or e i 0
  pub times : next ≡ set current i (get_or current i 0 + 1)

-- the monomial next is current times variable i, one of n
pub record IsStep (n : ℕ) (current : List ℕ) (i : ℕ) (next : List ℕ) : Type 0 where
  pub variables : IsIn n current
  pub long : length current ≡ 8
  pub inside : i < n
  pub within : n ≤ 8
  pub times : next ≡ set current i (get_or current i 0 + 1)
