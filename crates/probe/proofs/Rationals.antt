-- Coefficients that are rational, and discriminants of equal coefficients.
use Rattle.std.proofs.Common.{◌≡◌, ◌≢◌, ◌↔◌, IsTrue, Bool, false, pos, List, [], ◌∷◌, sym, ap, subst, ◌∙◌}
use Rattle.std.proofs.lemmas.List.Elements.{All-nil, All-cons}
use Rattle.std.specs.List.{All}
use Rattle.ring_theory.specs.Rational.{Rational, rational}

-- what holds of three values holds of each of their list
pub all_three : {X : Type 0} (P : X → Type 0) (a b c : X) → P a → P b → P c → All P (a ∷ b ∷ c ∷ [])
all_three P a b c ha hb hc = All-cons P a (b ∷ c ∷ []) ha (All-cons P b (c ∷ []) hb (All-cons P c [] hc (All-nil P)))

-- and of five values
pub all_five : {X : Type 0} (P : X → Type 0) (a b c d e : X) → P a → P b → P c → P d → P e → All P (a ∷ b ∷ c ∷ d ∷ e ∷ [])
all_five P a b c d e ha hb hc hd he = All-cons P a (b ∷ c ∷ d ∷ e ∷ []) ha (All-cons P b (c ∷ d ∷ e ∷ []) hb (all_three P c d e hc hd he))

pub three_lists : {X : Type 0} (a b c a' b' c' : X) → a ≡ a' → b ≡ b' → c ≡ c' → a ∷ b ∷ c ∷ [] ≡ a' ∷ b' ∷ c' ∷ []
three_lists a b c a' b' c' p q r = cc

pub five_lists : {X : Type 0} (a b c d e a' b' c' d' e' : X) → a ≡ a' → b ≡ b' → c ≡ c' → d ≡ d' → e ≡ e' → a ∷ b ∷ c ∷ d ∷ e ∷ [] ≡ a' ∷ b' ∷ c' ∷ d' ∷ e' ∷ []
five_lists a b c d e a' b' c' d' e' p q r s t = cc

-- a discriminant that was found not to be 0 is not 0 at equal coefficients
pub not_zero : (discriminant_of : List Rational → Rational) (xs ys : List Rational) (d zero : Rational) (is_zero : Bool)
    → xs ≡ ys → d ≡ discriminant_of ys → zero ≡ rational (pos 0) 1 → is_zero ≡ false → (IsTrue is_zero ↔ (d ≡ zero)) → discriminant_of xs ≢ rational (pos 0) 1
not_zero discriminant_of xs ys d zero is_zero same value zero_is false_is test at_zero =
    let yes : IsTrue is_zero = test.1 (value ∙ ap discriminant_of (sym same) ∙ at_zero ∙ sym zero_is) in
    let no : IsTrue false = subst IsTrue false_is yes in
    cc
