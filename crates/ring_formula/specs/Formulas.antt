-- Formulas: sums of whole numbers times products of powers of letters, and the heights of the numbers that they form.
use Rattle.std.specs.Prelude.{ℕ, zero, suc, List, [], ◌∷◌, ◌++◌, map, flat_map, get_or, length}
use Rattle.ring_theory.specs.Rational.{rational}
use Rattle.ring_theory.specs.Scalars.{Scalars, sum_of}
use Rattle.mono_exp.specs.Exponents.{numbers_below}
use Rattle.ring_formula.specs.declared.Summand.{Summand}

module _ {V : Type 0} (s : Scalars V) where
  -- v x^k, multiplied from the left: v x .. x
  abbrev pub multiplied : V → V → ℕ → V
  multiplied v x zero = v
  multiplied v x (suc k) = s.ops.mul (multiplied v x k) x

  -- the heights of its k products
  abbrev pub multiplied_heights : V → V → ℕ → List ℕ
  multiplied_heights v x k = map (λ i. s.product_height (multiplied v x i) x) (numbers_below k)

  module _ (letters : List V) where
    abbrev pub letter : ℕ → V
    letter i = get_or letters i s.ops.zero

    -- the number of a summand times the powers of the first k letters
    abbrev pub first_factors : Summand → ℕ → V
    first_factors e zero = s.rational (rational e.number 1)
    first_factors e (suc k) = multiplied (first_factors e k) (letter k) (get_or e.exponents k 0)

    -- the number times the powers of all letters
    abbrev pub summand_value : Summand → V
    summand_value e = first_factors e (length letters)

    -- the heights of its products, from left to right
    abbrev pub summand_heights : Summand → List ℕ
    summand_heights e = flat_map (λ k. multiplied_heights (first_factors e k) (letter k) (get_or e.exponents k 0)) (numbers_below (length letters))

    -- the sum of the summands
    unfoldable pub formula_value : List Summand → V
    formula_value es = sum_of s.ops (map summand_value es)

    -- the heights of all products, and of the sum of all summands
    unfoldable pub formula_heights : List Summand → List ℕ
    formula_heights es = flat_map summand_heights es ++ s.sum_height (map summand_value es) ∷ []
