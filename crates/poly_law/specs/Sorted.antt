-- Terms in rising order without zeros: the form in which each polynomial has exactly one list.
use Rattle.std.specs.Prelude.{◌≡◌, ◌≢◌, Bool, true, false, ◌⊎◌, [], ◌∷◌}
use Rattle.poly_law.specs.Poly.{Terms}

-- a strict total order of the exponent vectors: a monomial order
pub record IsStrictOrder {E : Type 0} (before : E → E → Bool) : Type 0 where
  pub irreflexive : (a : E) → before a a ≡ false
  pub transitive : (a b d : E) → before a b ≡ true → before b d ≡ true → before a d ≡ true
  pub total : (a b : E) → (a ≡ b → ⊥) → (before a b ≡ true) ⊎ (before b a ≡ true)

-- e is before the exponents of all terms of f
abbrev pub AllAfter : {E V : Type 0} → (E → E → Bool) → E → Terms E V → Type 0
AllAfter before e [] = Unit {0}
AllAfter before e (t ∷ f) = (before e t.0 ≡ true) × AllAfter before e f

-- each term is before those that follow it
abbrev pub IsRising : {E V : Type 0} → (E → E → Bool) → Terms E V → Type 0
IsRising before [] = Unit {0}
IsRising before (t ∷ f) = AllAfter before t.0 f × IsRising before f

-- no term has the coefficient zero
abbrev pub HasNoZero : {E V : Type 0} → V → Terms E V → Type 0
HasNoZero none [] = Unit {0}
HasNoZero none (t ∷ f) = (t.1 ≢ none) × HasNoZero none f
