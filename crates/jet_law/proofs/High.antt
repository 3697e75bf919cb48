-- Where a height of a list is high, the list is.
use Rattle.std.proofs.Common.{◌≡◌, ℕ, zero, suc, ◌<◌, ◌≤◌, ◌^◌, max, Bool, true, false, cond, ◌⊎◌, inl, inr, List, [], ◌∷◌, ◌++◌, map, length, get_or, sym, ap, subst, ◌∙◌, arith}
use Rattle.std.specs.List.{filter, flat_map}
use Rattle.ring_theory.specs.Height.{most}
use Rattle.jet_law.specs.Heights.{IsHigh}

max_left : (c a b : ℕ) → c ≤ a → c ≤ max a b
max_left c a b h = omega arith

max_right : (c a b : ℕ) → c ≤ b → c ≤ max a b
max_right c a b h = omega arith

max_case : (c a b : ℕ) → c ≤ max a b → (c ≤ a) ⊎ (c ≤ b)
max_case c a b h = grind arith

pub high_head : (h : ℕ) (hs : List ℕ) → 2 ^ 120 ≤ h → IsHigh (h ∷ hs)
unfolding most
high_head h hs e = max_left (2 ^ 120) h (most hs) e

pub high_tail : (h : ℕ) (hs : List ℕ) → IsHigh hs → IsHigh (h ∷ hs)
unfolding most
high_tail h hs e = max_right (2 ^ 120) h (most hs) e

pub high_left : (gs hs : List ℕ) → IsHigh gs → IsHigh (gs ++ hs)
unfolding most
high_left [] hs e = absurd (bad e)
  where
    bad : 2 ^ 120 ≤ 0 → ⊥
    bad e = omega arith
high_left (g ∷ gs) hs e = step (high_left gs hs) (max_case (2 ^ 120) g (most gs) e)
  where
    step : (IsHigh gs → IsHigh (gs ++ hs)) → (2 ^ 120 ≤ g) ⊎ (2 ^ 120 ≤ most gs) → IsHigh (g ∷ (gs ++ hs))
    step rest (inl a) = high_head g (gs ++ hs) a
    step rest (inr b) = high_tail g (gs ++ hs) (rest b)

pub high_right : (gs hs : List ℕ) → IsHigh hs → IsHigh (gs ++ hs)
high_right [] hs e = e
high_right (g ∷ gs) hs e = high_tail g (gs ++ hs) (high_right gs hs e)

-- the heights of those that pass a test, at one of them
pub high_kept : {X : Type 0} (p : X → Bool) (g : X → ℕ) (xs : List X) (i : ℕ) (x : X) → i < length xs → x ≡ get_or xs i x → p x ≡ true → 2 ^ 120 ≤ g x → IsHigh (map g (filter p xs))
high_kept p g [] i x h e t high = absurd (omega arith)
high_kept p g (y ∷ ys) zero x h e t high = step (p y) (ap p (sym e) ∙ t)
  where
    step : (b : Bool) → b ≡ true → IsHigh (map g (cond b (y ∷ filter p ys) (filter p ys)))
    step true q = high_head (g y) (map g (filter p ys)) (subst (λ z. 2 ^ 120 ≤ g z) e high)
    step false q = let bad : ⊥ = cc q in absurd bad
high_kept p g (y ∷ ys) (suc i) x h e t high = step (p y) (high_kept p g ys i x (omega arith) e t high)
  where
    step : (b : Bool) → IsHigh (map g (filter p ys)) → IsHigh (map g (cond b (y ∷ filter p ys) (filter p ys)))
    step true q = high_tail (g y) (map g (filter p ys)) q
    step false q = q

pub high_mapped : {X : Type 0} (g : X → ℕ) (xs : List X) (i : ℕ) (x : X) → i < length xs → x ≡ get_or xs i x → 2 ^ 120 ≤ g x → IsHigh (map g xs)
high_mapped g [] i x h e high = absurd (omega arith)
high_mapped g (y ∷ ys) zero x h e high = high_head (g y) (map g ys) (subst (λ z. 2 ^ 120 ≤ g z) e high)
high_mapped g (y ∷ ys) (suc i) x h e high = high_tail (g y) (map g ys) (high_mapped g ys i x (omega arith) e high)

pub high_in : {X : Type 0} (g : X → List ℕ) (xs : List X) (i : ℕ) (x : X) → i < length xs → x ≡ get_or xs i x → IsHigh (g x) → IsHigh (flat_map g xs)
high_in g [] i x h e high = absurd (omega arith)
high_in g (y ∷ ys) zero x h e high = high_left (g y) (flat_map g ys) (subst (λ z. IsHigh (g z)) e high)
high_in g (y ∷ ys) (suc i) x h e high = high_right (g y) (flat_map g ys) (high_in g ys i x (omega arith) e high)
