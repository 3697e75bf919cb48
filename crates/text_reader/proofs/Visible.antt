-- Bytes that do not stand in a text, and cuts at them.
use Rattle.std.proofs.Common.{◌≡◌, ◌≢◌, ℕ, ◌<◌, ◌≤◌, ◌^◌, List, [], ◌∷◌, ◌++◌, refl, sym, subst, arith}
use Rattle.std.specs.Prelude.{decimal}
use Rattle.std.specs.List.{AllByRecursion}
use Rattle.cert_law.proofs.Cut.{head, cut}
use Rattle.cert_law.proofs.Numbers.{IsDigit, digits}
use Rattle.cert_law.proofs.Valid.{all_to}

-- a text is cut at the first such byte
pub cut_at : (byte : ℕ) (a b x y : List ℕ) → AllByRecursion (λ c. c ≢ byte) a → AllByRecursion (λ c. c ≢ byte) b → a ++ byte ∷ x ≡ b ++ byte ∷ y → (a ≡ b) × (x ≡ y)
cut_at byte a b x y ha hb e =
    let h = cut (λ c. c ≢ byte) (λ c. c ≡ byte) (λ c i o. i o) a b (byte ∷ x) (byte ∷ y) ha hb refl refl e in
    (h.0, (head byte byte x y h.1).1)

lacks : (byte : ℕ) (a x : List ℕ) → AllByRecursion (λ c. c ≢ byte) (a ++ byte ∷ x) → ⊥
lacks byte [] x h = h.0 refl
lacks byte (b ∷ a) x h = lacks byte a x h.1

-- bytes without this byte are not cut at it
pub unsplit : (byte : ℕ) (a x bytes : List ℕ) → AllByRecursion (λ c. c ≢ byte) bytes → a ++ byte ∷ x ≡ bytes → ⊥
unsplit byte a x bytes free e = lacks byte a x (subst (AllByRecursion (λ c. c ≢ byte)) (sym e) free)

-- a byte above a blank and all signs of texts but letters, digits and the signs of formulas
abbrev pub IsVisible : ℕ → Type 0
IsVisible b = 40 ≤ b

-- visible bytes are none below 40
pub no_byte : (byte : ℕ) → byte < 40 → (xs : List ℕ) → AllByRecursion IsVisible xs → AllByRecursion (λ b. b ≢ byte) xs
no_byte byte lt xs h = all_to IsVisible (λ b. b ≢ byte) (λ b le e. omega (arith, lt, le, e)) xs h

-- the digits of a number are no such byte
pub digits_lack : (byte n : ℕ) → byte < 48 → n < 10 ^ 64 → AllByRecursion (λ b. b ≢ byte) (decimal n)
digits_lack byte n low lt = all_to IsDigit (λ b. b ≢ byte) (λ b d e. omega (arith, low, d.0, e)) (decimal n) (digits n lt)
