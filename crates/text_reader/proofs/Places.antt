-- The place of the first byte of a kind, and what stands before and behind it.
use Rattle.std.proofs.Common.{◌≡◌, ◌≢◌, ℕ, suc, ◌+◌, ◌-◌, ◌<◌, Bool, true, false, not, cond, eqb, ltb, List, [], ◌∷◌, ◌++◌, length, get_or, take, drop, Some, None, refl, sym, ap, ◌∙◌, subst, arith, length-drop}
use Rattle.std.specs.Prelude.{position}
use Rattle.std.specs.List.{AllByRecursion, position_or_len}
use Rattle.std.proofs.lemmas.Bool.{ltb-true, ltb-false, eqb-true, eq-eqb}
use Rattle.std.proofs.lemmas.List.{take_all}
use Rattle.std.proofs.lemmas.List.Sums.{split_at_first, passes_at_first}

some_of : (t : Bool) (m k : ℕ) → cond t (Some m) None ≡ Some k → (t ≡ true) × (m ≡ k)
some_of true m k e = (refl, cc)
some_of false m k e = absurd cc

none_of : (t : Bool) (m : ℕ) → cond t (Some m) None ≡ None → t ≡ false
none_of true m e = absurd cc
none_of false m e = refl

-- the bytes before the first that passes fail
fails : (p : ℕ → Bool) (xs : List ℕ) → AllByRecursion (λ b. p b ≡ false) (take (position_or_len p xs) xs)
fails p [] = tt
fails p (x ∷ xs) = step (p x) refl (fails p xs)
  where
    step : (t : Bool) → p x ≡ t → AllByRecursion (λ b. p b ≡ false) (take (position_or_len p xs) xs) → AllByRecursion (λ b. p b ≡ false) (take (cond (not t) (1 + position_or_len p xs) 0) (x ∷ xs))
    step true e h = tt
    step false e h = let one : 1 + position_or_len p xs ≡ suc (position_or_len p xs) = omega arith in rw one (e, h)

-- a cut of the bytes at the first that passes
pub record IsCutAt (p : ℕ → Bool) (xs front : List ℕ) (b : ℕ) (rest : List ℕ) : Type 0 where
  pub whole : xs ≡ front ++ b ∷ rest
  pub before : AllByRecursion (λ b. p b ≡ false) front
  pub passes : p b ≡ true

pub place_some : (p : ℕ → Bool) (xs : List ℕ) (at : ℕ) → Some at ≡ position p xs → IsCutAt p xs (take at xs) (get_or xs at 0) (take (length xs - (at + 1)) (drop (at + 1) xs))
place_some p xs at e =
    let is = some_of (ltb (position_or_len p xs) (length xs)) (position_or_len p xs) at (sym e) in
    let lt : position_or_len p xs < length xs = ltb-true _ _ is.0 in
    let cut : IsCutAt p xs (take (position_or_len p xs) xs) (get_or xs (position_or_len p xs) 0) (drop (position_or_len p xs + 1) xs) = record { whole = split_at_first p xs 0 lt; before = fails p xs; passes = passes_at_first p xs 0 lt } in
    let here : IsCutAt p xs (take at xs) (get_or xs at 0) (drop (at + 1) xs) = subst (λ n. IsCutAt p xs (take n xs) (get_or xs n 0) (drop (n + 1) xs)) is.1 cut in
    let all : take (length xs - (at + 1)) (drop (at + 1) xs) ≡ drop (at + 1) xs = take_all (length xs - (at + 1)) (drop (at + 1) xs) (omega (arith, length-drop (at + 1) xs)) in
    subst (λ z. IsCutAt p xs (take at xs) (get_or xs at 0) z) (sym all) here

pub place_none : (p : ℕ → Bool) (xs : List ℕ) → None ≡ position p xs → AllByRecursion (λ b. p b ≡ false) xs
place_none p xs e =
    let no = ltb-false _ _ (none_of (ltb (position_or_len p xs) (length xs)) (position_or_len p xs) (sym e)) in
    subst (AllByRecursion (λ b. p b ≡ false)) (take_all (position_or_len p xs) xs no) (fails p xs)

-- ---- one byte

other : (byte : ℕ) (xs : List ℕ) → AllByRecursion (λ b. eqb b byte ≡ false) xs → AllByRecursion (λ b. b ≢ byte) xs
other byte [] h = tt
other byte (x ∷ xs) h = ((λ e. let yes = eq-eqb x byte e in absurd (cc (h.0, yes))), other byte xs h.1)

pub byte_some : (byte : ℕ) (xs : List ℕ) (at : ℕ) → Some at ≡ position (λ b. eqb b byte) xs
    → (xs ≡ take at xs ++ byte ∷ take (length xs - (at + 1)) (drop (at + 1) xs)) × AllByRecursion (λ b. b ≢ byte) (take at xs)
byte_some byte xs at e =
    let cut = place_some (λ b. eqb b byte) xs at e in
    (cut.whole ∙ ap (λ b. take at xs ++ b ∷ take (length xs - (at + 1)) (drop (at + 1) xs)) (eqb-true (get_or xs at 0) byte cut.passes), other byte (take at xs) cut.before)

pub byte_none : (byte : ℕ) (xs : List ℕ) → None ≡ position (λ b. eqb b byte) xs → AllByRecursion (λ b. b ≢ byte) xs
byte_none byte xs e = other byte xs (place_none (λ b. eqb b byte) xs e)
