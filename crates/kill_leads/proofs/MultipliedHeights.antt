-- Which of the heights of a multiplied entry is high.
use Rattle.std.proofs.Common.{ℕ, ◌^◌, ◌≤◌, List, [], ◌∷◌, ◌++◌}
use Rattle.ring_theory.specs.Scalars.{Scalars}
use Rattle.jet_law.specs.Heights.{IsHigh}
use Rattle.jet_law.proofs.High.{high_head, high_left, high_right}
use Rattle.ring_formula.specs.Formulas.{formula_value, formula_heights}
use Rattle.kill_law.specs.declared.lead.Entry.{Entry}
use Rattle.kill_law.specs.Kill.{summand_of, divisor_value, over_heights, entry_value, entry_heights}
use Rattle.kill_law.specs.Taken.{multiplied_heights}

module _ {V : Type 0} (s : Scalars V) (letters : List V) (v : V) (e : Entry) where
  abbrev number : V
  number = formula_value s letters (summand_of e.number ∷ [])

  abbrev front : List ℕ
  front = formula_heights s letters (summand_of e.number ∷ [])

  abbrev product : ℕ
  product = s.product_height number (s.inverse (divisor_value s letters e.divisor))

  abbrev last : ℕ
  last = s.product_height v (entry_value s letters e)

  pub over-high : IsHigh (over_heights s letters e.divisor) → IsHigh (multiplied_heights s letters v e)
  over-high h = high_left (entry_heights s letters e) (last ∷ []) (high_left (front ++ over_heights s letters e.divisor) (product ∷ []) (high_right front (over_heights s letters e.divisor) h))

  pub number-high : IsHigh front → IsHigh (multiplied_heights s letters v e)
  number-high h = high_left (entry_heights s letters e) (last ∷ []) (high_left (front ++ over_heights s letters e.divisor) (product ∷ []) (high_left front (over_heights s letters e.divisor) h))

  pub product-high : 2 ^ 120 ≤ product → IsHigh (multiplied_heights s letters v e)
  product-high h = high_left (entry_heights s letters e) (last ∷ []) (high_right (front ++ over_heights s letters e.divisor) (product ∷ []) (high_head product [] h))

  pub last-high : 2 ^ 120 ≤ last → IsHigh (multiplied_heights s letters v e)
  last-high h = high_right (entry_heights s letters e) (last ∷ []) (high_head last [] h)
