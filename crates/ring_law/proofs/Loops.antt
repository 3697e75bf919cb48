-- A loop that sums the values of a list's elements, a step at a time.
use Rattle.std.proofs.Common.{◌≡◌, ℕ, suc, ◌+◌, ◌<◌, ◌≤◌, ◌^◌, List, [], ◌∷◌, ◌++◌, length, map, take, drop, get_or, sym, ap, ◌∙◌, take-append-drop, add-one, drop-cons}
use Rattle.std.proofs.lemmas.List.{take_more, map-append}
use Rattle.ring_theory.specs.Ring.{IsCommRing}
use Rattle.ring_theory.specs.Scalars.{Scalars, SumIsHigh, sum_of}
use Rattle.ring_theory.proofs.Sums.{sum_of-push, next_high}

module _ {E V : Type 0} (s : Scalars V) (laws : IsCommRing s.ops) (value : E → V) (xs : List E) (i : ℕ) (x sum : E) (within : i < length xs) (read : x ≡ get_or xs i x) (so_far : value sum ≡ sum_of s.ops (map value (take i xs))) where
  pub step_sum : (next : E) → value next ≡ s.ops.add (value sum) (value x) → value next ≡ sum_of s.ops (map value (take (i + 1) xs))
  step_sum next e =
      let one_more : take (i + 1) xs ≡ take i xs ++ (x ∷ []) = take_more xs i x within ∙ ap (λ y. take i xs ++ (y ∷ [])) (sym read) in
      e ∙ ap (λ v. s.ops.add v (value x)) so_far ∙ sym (sum_of-push s laws (map value (take i xs)) (value x)) ∙ sym (ap (sum_of s.ops) (ap (map value) one_more ∙ map-append value (take i xs) (x ∷ [])))

  pub step_high : SumIsHigh s (value sum) (value x) → 2 ^ 120 ≤ s.sum_height (map value xs)
  step_high high =
      let rest : drop i xs ≡ x ∷ drop (i + 1) xs = rw (add-one, drop-cons xs i x) (ap (λ y. y ∷ drop (suc i) xs) (sym read)) in
      let whole : map value xs ≡ map value (take i xs) ++ (value x ∷ map value (drop (i + 1) xs)) =
      ap (map value) (sym (take-append-drop i xs) ∙ ap (λ ys. take i xs ++ ys) rest) ∙ map-append value (take i xs) (x ∷ drop (i + 1) xs) in
      rw whole (next_high s laws (map value (take i xs)) (value x) _ (rw so_far at high))
