-- Exponent vectors in n variables as lists of n whole numbers.
use Rattle.std.specs.Prelude.{◌≡◌, ℕ, List, length, get_or, map}
use Rattle.std.specs.List.{range_with_len}
use Rattle.std.proofs.lemmas.List.FromFn.{length-map-range_with_len}
use Rattle.poly_law.specs.Exps.{Exps}

-- a list of n whole numbers
pub record ExpList (n : ℕ) : Type 0 where
  pub entries : List ℕ
  pub long : length entries ≡ n

-- the list f(0), .., f(n - 1)
abbrev pub exp_of : (n : ℕ) → (ℕ → ℕ) → ExpList n
exp_of n f = record { entries = map f (range_with_len 0 n); long = length-map-range_with_len f 0 n }

-- lists of n whole numbers are the exponent vectors of the monomials in n variables
abbrev pub exps : (n : ℕ) → Exps (ExpList n)
exps n = record { count = n; at = λ a i. get_or a.entries i 0; make = exp_of n }
