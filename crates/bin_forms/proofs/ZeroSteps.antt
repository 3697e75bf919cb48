-- Steps of the test whether all elements are zero.
use Rattle.std.proofs.Common.{◌≡◌, ℕ, ◌+◌, ◌<◌, ◌≤◌, Bool, true, false, ◌&&◌, List, map, length, get_or, take, sym, ap, ap₂, ◌∙◌, take_all}
use Rattle.std.specs.List.{list_all}
use Rattle.std.proofs.lemmas.List.Folds.{list_all-map, list_all_at, list_all_more}
use Rattle.ring_theory.specs.Scalars.{Meaning}

module _ {E V : Type 0} (m : Meaning E V) where
  abbrev test : E → Bool
  test x = m.scalars.is_zero (m.value x)

  pub zeros_more : (xs : List E) (i : ℕ) (x : E) → i < length xs → x ≡ get_or xs i x → true ≡ test x → list_all test (take i xs) ≡ true → list_all test (take (i + 1) xs) ≡ true
  zeros_more xs i x h e z so_far = list_all_more test xs i x h ∙ ap₂ ◌&&◌ so_far (ap test (sym e) ∙ sym z)

  pub found_nonzero : (xs : List E) (i : ℕ) (x : E) → i < length xs → x ≡ get_or xs i x → false ≡ test x → false ≡ list_all m.scalars.is_zero (map m.value xs)
  found_nonzero xs i x h e z = sym (list_all-map m.scalars.is_zero m.value xs ∙ list_all_at test xs i x h (ap test (sym e) ∙ sym z))

  pub all_zero : (xs : List E) (i : ℕ) → length xs ≤ i → list_all test (take i xs) ≡ true → true ≡ list_all m.scalars.is_zero (map m.value xs)
  all_zero xs i h so_far = sym (list_all-map m.scalars.is_zero m.value xs ∙ ap (list_all test) (sym (take_all i xs h)) ∙ so_far)
