-- Where the letters of a base part in two variables are not zero, what its leads are divided by is not zero.
use Rattle.std.proofs.Common.{◌≡◌, ◌≢◌, ℕ, zero, suc, ◌<◌, Bool, true, false, ◌&&◌, eqb, eqb-true, pos, negsuc, ℤ, IsTrue, List, [], ◌∷◌, get_or, length, refl, sym, ap, ◌∙◌, subst, arith}
use Rattle.std.specs.Prelude.{Contains}
use Rattle.std.specs.List.{list_all}
use Rattle.std.proofs.lemmas.Int.{ints}
use Rattle.std.proofs.lemmas.List.Sums.{AllPass-from_list_all}
use Rattle.ring_theory.specs.Rational.{rational, rational_mul}
use Rattle.ring_theory.specs.Scalars.{Scalars, ScalarLaws, HasInverses}
use Rattle.ring_theory.proofs.RationalLaws.{unique, rational_is, mul_is}
use Rattle.poly_law.proofs.Sums
use Rattle.poly_law.specs.Polynomials.{Polynomial}
use Rattle.ring_formula.specs.Formulas.{multiplied, formula_value}
use Rattle.kill_law.specs.declared.part.Part.{Part}
use Rattle.kill_law.specs.declared.part.Part.TheVariants as parts
use Rattle.kill_law.specs.declared.lead.Divisor.{Divisor}
use Rattle.kill_law.specs.declared.lead.Divisor.TheVariants as divisors
use Rattle.kill_law.specs.declared.lead.Entry.{Entry}
use Rattle.kill_law.specs.Table.{row}
use Rattle.kill_law.specs.Kill.{divisor_value, letters_of}
use Rattle.kill_law.specs.Leads.{entries_of}
use Rattle.kill_table.specs.Divisors.{HasNonzeroDivisors}
use Rattle.rules_corank2.specs.Parts.{is_base2, IsBase2, has_a, has_b, HaveUnits}

-- a whole number above 0
abbrev is_positive : ℤ → Bool
is_positive (pos zero) = false
is_positive (pos (suc k)) = true
is_positive (negsuc k) = false

-- no power of a letter, unless the letter is a unit
abbrev is_free : Bool → ℕ → Bool
is_free true k = true
is_free false k = eqb k 0

-- a whole number above 0 times powers of letters that are units
abbrev is_unit : Bool → Bool → Divisor → Bool
is_unit a b (divisors.One p) = is_positive p.0 && (is_free a (get_or p.1 0 0) && (is_free b (get_or p.1 1 0) && eqb (get_or p.1 2 0) 0))
is_unit a b (divisors.Two p q) = false

-- false is not true
no : {X : Type 0} → false ≡ true → X
no h = let bad : ⊥ = cc h in absurd bad

-- both hold
both : (a b : Bool) → a && b ≡ true → (a ≡ true) × (b ≡ true)
both true b h = (refl, h)
both false b h = no h

-- what a list's test says of its elements
passes : {A : Type 0} (p : A → Bool) (xs : List A) (x : A) → list_all p xs ≡ true → Contains xs x → p x ≡ true
passes p xs x h k = subst (λ z. p z ≡ true) k.2 (AllPass-from_list_all p xs h k.0 x k.1)

-- the divisors of the leads of the base parts are such products
leads_are_units : (p : Part) → IsBase2 p → list_all (λ l. list_all (λ e. is_unit (has_a p) (has_b p) e.divisor) (entries_of l)) (row p).leads ≡ true
unfolding row is_base2 has_a has_b
leads_are_units parts.D4 h = refl
leads_are_units parts.D h = refl
leads_are_units parts.J h = refl
leads_are_units parts.X9 h = refl
leads_are_units parts.X h = refl
leads_are_units parts.Y h = refl
leads_are_units parts.Z h = refl
leads_are_units parts.W h = refl
leads_are_units parts.P8 h = no h
leads_are_units parts.Q h = no h
leads_are_units parts.S h = no h
leads_are_units parts.U h = no h
leads_are_units parts.T h = no h
leads_are_units parts.E6 h = no h
leads_are_units parts.E7 h = no h
leads_are_units parts.E8 h = no h
leads_are_units parts.J10 h = no h
leads_are_units parts.E12 h = no h
leads_are_units parts.E13 h = no h
leads_are_units parts.E14 h = no h
leads_are_units parts.Z11 h = no h
leads_are_units parts.Z12 h = no h
leads_are_units parts.Z13 h = no h
leads_are_units parts.W12 h = no h
leads_are_units parts.W13 h = no h
leads_are_units parts.Q10 h = no h
leads_are_units parts.Q11 h = no h
leads_are_units parts.Q12 h = no h
leads_are_units parts.S11 h = no h
leads_are_units parts.S12 h = no h
leads_are_units parts.U12 h = no h
leads_are_units parts.JT h = no h

-- a base part in two variables has weights for two
pub two_weights : (p : Part) → IsBase2 p → length (row p).weights ≡ 2
unfolding row is_base2
two_weights parts.D4 h = refl
two_weights parts.D h = refl
two_weights parts.J h = refl
two_weights parts.X9 h = refl
two_weights parts.X h = refl
two_weights parts.Y h = refl
two_weights parts.Z h = refl
two_weights parts.W h = refl
two_weights parts.P8 h = no h
two_weights parts.Q h = no h
two_weights parts.S h = no h
two_weights parts.U h = no h
two_weights parts.T h = no h
two_weights parts.E6 h = no h
two_weights parts.E7 h = no h
two_weights parts.E8 h = no h
two_weights parts.J10 h = no h
two_weights parts.E12 h = no h
two_weights parts.E13 h = no h
two_weights parts.E14 h = no h
two_weights parts.Z11 h = no h
two_weights parts.Z12 h = no h
two_weights parts.Z13 h = no h
two_weights parts.W12 h = no h
two_weights parts.W13 h = no h
two_weights parts.Q10 h = no h
two_weights parts.Q11 h = no h
two_weights parts.Q12 h = no h
two_weights parts.S11 h = no h
two_weights parts.S12 h = no h
two_weights parts.U12 h = no h
two_weights parts.JT h = no h

whole_inverse : (k : ℕ) → 0 < k → rational_mul (rational (pos k) 1) (rational (pos 1) k) ≡ rational (pos 1) 1
whole_inverse k h = unique (mul_is (rational_is (pos k) 1 (omega arith)) (rational_is (pos 1) k h)) (rational_is (pos 1) 1 (omega arith)) (omega (arith, ints))

module _ {V : Type 0} (s : Scalars V) (laws : ScalarLaws s) (inverts : HasInverses s) where
  -- a whole number above 0 is not zero
  pub whole_nonzero : (k : ℕ) → 0 < k → s.rational (rational (pos k) 1) ≢ s.ops.zero
  whole_nonzero k h e =
      laws.nontrivial
      (sym (sym (laws.embeds.mul (rational (pos k) 1) (rational (pos 1) k)) ∙ ap s.rational (whole_inverse k h) ∙ laws.embeds.one)
      ∙ ap (λ z. s.ops.mul z (s.rational (rational (pos 1) k))) e ∙ Sums.zero_mul s.ops laws.ring (s.rational (rational (pos 1) k)))

  -- a product of numbers that are not zero
  pub product_nonzero : (x y : V) → x ≢ s.ops.zero → y ≢ s.ops.zero → s.ops.mul x y ≢ s.ops.zero
  product_nonzero x y hx hy e =
      hy (sym (laws.ring.mul_one y)
      ∙ ap (s.ops.mul y) (sym (inverts.mul_inverse x hx))
      ∙ sym (laws.ring.mul_assoc y x (s.inverse x))
      ∙ ap (λ z. s.ops.mul z (s.inverse x)) (laws.ring.mul_comm y x ∙ e)
      ∙ Sums.zero_mul s.ops laws.ring (s.inverse x))

  powers_nonzero : (v x : V) (k : ℕ) → v ≢ s.ops.zero → x ≢ s.ops.zero → multiplied s v x k ≢ s.ops.zero
  powers_nonzero v x zero hv hx = hv
  powers_nonzero v x (suc k) hv hx = product_nonzero (multiplied s v x k) x (powers_nonzero v x k hv hx) hx

  free_nonzero : (u : Bool) (v x : V) (k : ℕ) → (IsTrue u → x ≢ s.ops.zero) → is_free u k ≡ true → v ≢ s.ops.zero → multiplied s v x k ≢ s.ops.zero
  free_nonzero true v x k hx f hv = powers_nonzero v x k hv (hx refl)
  free_nonzero false v x k hx f hv = subst (λ z. multiplied s v x z ≢ s.ops.zero) (sym (eqb-true k 0 f)) hv

  number_nonzero : (z : ℤ) → is_positive z ≡ true → s.rational (rational z 1) ≢ s.ops.zero
  number_nonzero (pos zero) h = no h
  number_nonzero (pos (suc k)) h = whole_nonzero (suc k) (omega arith)
  number_nonzero (negsuc k) h = no h

  module _ (u w : Bool) (a b c : V) (ha : IsTrue u → a ≢ s.ops.zero) (hb : IsTrue w → b ≢ s.ops.zero) where
    unit_nonzero : (d : Divisor) → is_unit u w d ≡ true → divisor_value s (a ∷ b ∷ c ∷ []) d ≢ s.ops.zero
    unfolding formula_value
    unit_nonzero (divisors.One p) h =
        let q = both (is_positive p.0) (is_free u (get_or p.1 0 0) && (is_free w (get_or p.1 1 0) && eqb (get_or p.1 2 0) 0)) h in
        let r = both (is_free u (get_or p.1 0 0)) (is_free w (get_or p.1 1 0) && eqb (get_or p.1 2 0) 0) q.1 in
        let t = both (is_free w (get_or p.1 1 0)) (eqb (get_or p.1 2 0) 0) r.1 in
        let value = multiplied s (multiplied s (s.rational (rational p.0 1)) a (get_or p.1 0 0)) b (get_or p.1 1 0) in
        let first = free_nonzero u (s.rational (rational p.0 1)) a (get_or p.1 0 0) ha r.0 (number_nonzero p.0 q.0) in
        let second : value ≢ s.ops.zero = free_nonzero w (multiplied s (s.rational (rational p.0 1)) a (get_or p.1 0 0)) b (get_or p.1 1 0) hb t.0 first in
        let third = free_nonzero false value c (get_or p.1 2 0) (λ z. no z) t.1 second in
        λ e. third (sym (laws.ring.add_zero (multiplied s value c (get_or p.1 2 0))) ∙ e)
    unit_nonzero (divisors.Two p q) h = no h

  letters_shape : (n : ℕ) (p : Part) (f : Polynomial n V) → letters_of n s p f ≡ get_or (letters_of n s p f) 0 s.ops.zero ∷ get_or (letters_of n s p f) 1 s.ops.zero ∷ get_or (letters_of n s p f) 2 s.ops.zero ∷ []
  unfolding letters_of
  letters_shape n p f = refl

  pub nonzero_divisors : (n : ℕ) (p : Part) (f : Polynomial n V) → IsBase2 p → HaveUnits n s p f → HasNonzeroDivisors s (letters_of n s p f) p
  nonzero_divisors n p f base units l hl e he =
      let lead = passes (λ l. list_all (λ e. is_unit (has_a p) (has_b p) e.divisor) (entries_of l)) (row p).leads l (leads_are_units p base) hl in
      let entry = passes (λ (e : Entry). is_unit (has_a p) (has_b p) e.divisor) (entries_of l) e lead he in
      subst (λ z. divisor_value s z e.divisor ≢ s.ops.zero) (sym (letters_shape n p f))
      (unit_nonzero (has_a p) (has_b p) (get_or (letters_of n s p f) 0 s.ops.zero) (get_or (letters_of n s p f) 1 s.ops.zero) (get_or (letters_of n s p f) 2 s.ops.zero) units.a units.b e.divisor entry)
