-- The pieces of a sum that are still to be read.
use Rattle.std.specs.Prelude.{◌≡◌, ◌≢◌, ℕ, ◌≤◌, ◌⊎◌, Bool, ◌&&◌, ◌||◌, ◌==◌, IsTrue, pos, negsuc, Option, Some, None, List, [], ◌∷◌, ◌++◌, length}
use Rattle.std.specs.List.{AllByRecursion, flat_map, zip}
use Rattle.std.specs.Borrow.{Bor}
use Rattle.ring_law.specs.declared.fraction.Frac.{Frac}
use Rattle.ext_algebra.specs.declared.algebra.Ext.{Ext}
use Rattle.ext_algebra.specs.Fractions.{is_frac}
use Rattle.poly_text.specs.Numbers.{component_text, is_whole, numbers, piece_text}
use Rattle.cert_law.specs.Unique.{Starts}

-- a sum by its first sign and what stands behind it; nothing for no piece
abbrev pub joined : Option (ℕ × Bor (List ℕ)) → List ℕ
joined None = []
joined (Some p) = p.0 ∷ p.1.now

-- `+` or `-`
abbrev pub IsSign : ℕ → Type 0
IsSign b = (b ≡ 43) ⊎ (b ≡ 45)

abbrev pub is_sign : ℕ → Bool
is_sign b = b == 43 || b == 45

-- a valid fraction other than 0
abbrev pub IsCoefficient : Frac → Type 0
IsCoefficient q = IsTrue (is_frac q) × (q.num ≢ pos 0)

-- 1 or -1
abbrev pub is_unit_of : Frac → Bool
is_unit_of q = is_whole q.den (pos 1) && (is_whole q.num (pos 1) || is_whole q.num (negsuc 0))

-- a letter at the front
abbrev pub IsLetters : List ℕ → Type 0
IsLetters [] = ⊥
IsLetters (b ∷ bs) = 97 ≤ b

-- the pieces that follow have their signs, and the first of them has not this body
pub record Follows (body rest : List ℕ) : Type 0 where
  pub starts : Starts IsSign rest
  pub other : (q : Frac) (x : List ℕ) → IsCoefficient q → Starts IsSign x → piece_text (q, body) ++ x ≡ rest → ⊥

-- the first of the pieces that follow has none of these bodies
abbrev pub FollowsAll : List (List ℕ) → List ℕ → Type 0
FollowsAll bodies rest = AllByRecursion (λ body. Follows body rest) bodies

-- all are valid fractions
abbrev pub AreValid : List Frac → Type 0
AreValid qs = AllByRecursion (λ q. IsTrue (is_frac q)) qs

-- the numbers of the element are valid fractions
abbrev pub AreFractions : Ext Frac → Type 0
AreFractions e = AreValid (numbers e)

-- q is the number before this body at the front of a sum, 0 where there is none, and behind is what follows
pub record IsTaken (body : List ℕ) (q : Frac) (sum behind : List ℕ) : Type 0 where
  pub valid : IsTrue (is_frac q)
  pub front : sum ≡ component_text (q, body) ++ behind
  pub found : (p : Frac) (rest : List ℕ) → IsTrue (is_frac p) → Follows body rest → sum ≡ component_text (p, body) ++ rest → (q ≡ p) × (behind ≡ rest)

-- qs are the numbers before these bodies, in their order, and behind is what follows
pub record AreTaken (bodies : List (List ℕ)) (qs : List Frac) (sum behind : List ℕ) : Type 0 where
  pub valid : AreValid qs
  pub front : sum ≡ flat_map component_text (zip qs bodies) ++ behind
  pub found : (ps : List Frac) (rest : List ℕ) → length ps ≡ length bodies → AreValid ps → FollowsAll bodies rest → sum ≡ flat_map component_text (zip ps bodies) ++ rest → (qs ≡ ps) × (behind ≡ rest)
