-- What the table says of the base parts in two variables: their weights, and which letters their leads are divided by.
use Rattle.std.proofs.Common.{◌≡◌, ◌≢◌, ℕ, zero, suc, ◌<◌, Bool, true, false, ◌&&◌, ◌||◌, eqb, eqb-true, IsTrue, List, [], ◌∷◌, get_or, length, refl, sym, subst, true≢false, arith}
use Rattle.std.specs.List.{AllByRecursion, list_all}
use Rattle.ring_theory.specs.Scalars.{Scalars, ScalarLaws, HasInverses}
use Rattle.poly_law.specs.Polynomials.{Polynomial}
use Rattle.kill_law.specs.declared.part.Part.{Part}
use Rattle.kill_law.specs.declared.part.Part.TheVariants as parts
use Rattle.kill_law.specs.Table.{row}
use Rattle.kill_law.specs.Kill.{letters_of}
use Rattle.kill_table.specs.Divisors.{HasNonzeroDivisors, HasUnits, dividing_letters}
use Rattle.kill_table.proofs.Units
use Rattle.kept_law.specs.KeptParts.{IsBasePart, LeadsAreInvertible}
use Rattle.line_syntax.proofs.Bools.{and_left, and_right}
use Rattle.rules_corank2.specs.Parts.{IsBase2, is_base2, has_a, has_b, HaveUnits}

pub no : {X : Type 0} → false ≡ true → X
no h = absurd (true≢false (sym h))

-- how many letters are units, where the second one is only where the first is
abbrev unit_letters : Bool → Bool → ℕ
unit_letters true true = 2
unit_letters true false = 1
unit_letters false w = 0

-- two weights, each of them 1; the leads are divided by the letters that are units; and where there is no letter, there are no leads
base_facts : (p : Part) → IsBase2 p
    → (eqb (length (row p).weights) 2 && (list_all (λ w. eqb w 1) (row p).weights && (eqb (dividing_letters p) (unit_letters (has_a p) (has_b p)) && (has_a p || eqb (length (row p).leads) 0)))) ≡ true
unfolding row is_base2 has_a has_b
base_facts parts.D4 h = refl
base_facts parts.D h = refl
base_facts parts.J h = refl
base_facts parts.X9 h = refl
base_facts parts.X h = refl
base_facts parts.Y h = refl
base_facts parts.Z h = refl
base_facts parts.W h = refl
base_facts parts.P8 h = no h
base_facts parts.Q h = no h
base_facts parts.S h = no h
base_facts parts.U h = no h
base_facts parts.T h = no h
base_facts parts.E6 h = no h
base_facts parts.E7 h = no h
base_facts parts.E8 h = no h
base_facts parts.J10 h = no h
base_facts parts.E12 h = no h
base_facts parts.E13 h = no h
base_facts parts.E14 h = no h
base_facts parts.Z11 h = no h
base_facts parts.Z12 h = no h
base_facts parts.Z13 h = no h
base_facts parts.W12 h = no h
base_facts parts.W13 h = no h
base_facts parts.Q10 h = no h
base_facts parts.Q11 h = no h
base_facts parts.Q12 h = no h
base_facts parts.S11 h = no h
base_facts parts.S12 h = no h
base_facts parts.U12 h = no h
base_facts parts.JT h = no h

module _ (p : Part) (base : IsBase2 p) where
  abbrev two : Bool
  two = eqb (length (row p).weights) 2

  abbrev ones : Bool
  ones = list_all (λ w. eqb w 1) (row p).weights

  abbrev divided : Bool
  divided = eqb (dividing_letters p) (unit_letters (has_a p) (has_b p))

  abbrev lettered : Bool
  lettered = has_a p || eqb (length (row p).leads) 0

  pub two_weights : length (row p).weights ≡ 2
  two_weights = eqb-true (length (row p).weights) 2 (and_left two (ones && (divided && lettered)) (base_facts p base))

  pub is_base_part : IsBasePart p
  is_base_part = each (row p).weights (and_left ones (divided && lettered) (and_right two (ones && (divided && lettered)) (base_facts p base)))
    where
      each : (ws : List ℕ) → list_all (λ w. eqb w 1) ws ≡ true → AllByRecursion (λ w. w ≡ 1) ws
      each [] h = tt
      each (w ∷ ws) h = (eqb-true w 1 (and_left (eqb w 1) (list_all (λ w. eqb w 1) ws) h), each ws (and_right (eqb w 1) (list_all (λ w. eqb w 1) ws) h))

  others : (divided && lettered) ≡ true
  others = and_right ones (divided && lettered) (and_right two (ones && (divided && lettered)) (base_facts p base))

  units_divide : dividing_letters p ≡ unit_letters (has_a p) (has_b p)
  units_divide = eqb-true (dividing_letters p) (unit_letters (has_a p) (has_b p)) (and_left divided lettered others)

  -- X9 has neither letters nor leads
  pub without_leads : has_a p ≡ false → length (row p).leads ≡ 0
  without_leads e = eqb-true (length (row p).leads) 0 (subst (λ b. (b || eqb (length (row p).leads) 0) ≡ true) e (and_right divided lettered others))

  not_j10 : p ≡ parts.J10 → ⊥
  unfolding is_base2
  not_j10 e = no (subst IsBase2 e base)

  module _ {V : Type 0} (n : ℕ) (s : Scalars V) (f : Polynomial n V) (units : HaveUnits n s p f) where
    letter_nonzero : (u w : Bool) → (IsTrue u → get_or (letters_of n s p f) 0 s.ops.zero ≢ s.ops.zero) → (IsTrue w → get_or (letters_of n s p f) 1 s.ops.zero ≢ s.ops.zero)
        → (i : ℕ) → i < unit_letters u w → get_or (letters_of n s p f) i s.ops.zero ≢ s.ops.zero
    letter_nonzero true true a b zero h = a refl
    letter_nonzero true true a b (suc zero) h = b refl
    letter_nonzero true true a b (suc (suc i)) h = absurd (omega arith)
    letter_nonzero true false a b zero h = a refl
    letter_nonzero true false a b (suc i) h = absurd (omega arith)
    letter_nonzero false w a b i h = absurd (omega arith)

    has_units : HasUnits s (letters_of n s p f) p
    has_units = record {
      nonzero = λ i h. letter_nonzero (has_a p) (has_b p) units.a units.b i (subst (λ k. i < k) units_divide h);
      regular = λ e. absurd (not_j10 e);
    }

    -- what the leads are divided by is not zero
    nonzero_divisors : ScalarLaws s → HasInverses s → HasNonzeroDivisors s (letters_of n s p f) p
    unfolding letters_of
    nonzero_divisors laws inverts = Units.units_are_enough s laws inverts p _ _ _ has_units

    -- and so it is invertible
    pub invertible : ScalarLaws s → HasInverses s → LeadsAreInvertible s (letters_of n s p f) p
    invertible laws inverts l among e listed = inverts.mul_inverse _ (nonzero_divisors laws inverts l among e listed)
