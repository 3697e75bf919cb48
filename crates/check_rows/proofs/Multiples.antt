-- What holds of the multiples in a list holds of each monomial of their degrees with each variable.
use Rattle.std.proofs.Common.{ℕ, ◌<◌, ◌≤◌, List, [], ◌∷◌, get_or, sym, subst, arith}
use Rattle.std.specs.List.{AllByRecursion}
use Rattle.std.proofs.lemmas.List.Elements.{recursion_from_All}
use Rattle.poly_law.specs.Exps.{degree}
use Rattle.poly_law.specs.ExpList.{ExpList, exps}
use Rattle.mono_exp.proofs.Lists.{Each, each-map}
use Rattle.jet_law.specs.Canonical.{monomial_in}
use Rattle.jet_law.specs.Terms.{exp_of}
use Rattle.jacobian_row.specs.Multiples.{AreMultiples, pair_of}
use Rattle.jacobian_row.specs.declared.multiple.Multiple.{Multiple}
use Rattle.jacobian_row.proofs.Membership.{at_pair}
use Rattle.jacobian_row.proofs.MultipleOrder.{pair_is}
use Rattle.jacobian_row.proofs.NumberLemmas.{exp_of-entries, sum-entries}
use Rattle.jacobian_row.proofs.RowFacts.{monomial-exponents}

module _ (n low high : ℕ) (P : ExpList n → ℕ → Type 0) where
  -- P holds of the monomial and the variable of a multiple
  abbrev HoldsOf : Multiple → Type 0
  HoldsOf u = P (exp_of n u.factor) u.variable

  abbrev AtPair : List ℕ × ℕ → Type 0
  AtPair p = P (monomial_in n p.0) p.1

  by_pairs : (us : List Multiple) → AllByRecursion HoldsOf us → Each (λ u. AtPair (pair_of n u)) us
  by_pairs [] h = tt
  by_pairs (u ∷ us) h = (subst (λ a. P a u.variable) (sym (monomial-exponents n u.factor)) h.0, by_pairs us h.1)

  -- what holds of the multiples by all monomials of degree low to high holds of each such monomial and each variable
  pub holds_of_all : (us : List Multiple) → AreMultiples n low high us → AllByRecursion (λ u. P (exp_of n u.factor) u.variable) us
      → (a : ExpList n) (i : ℕ) → low ≤ degree (exps n) a → degree (exps n) a ≤ high → i < n → P a i
  holds_of_all us list each a i from to within =
      subst (λ b. P b i) (exp_of-entries n a) (at_pair AtPair n low high (subst (Each AtPair) list.list (each-map AtPair (pair_of n) us (by_pairs us each))) a i from to within)

  -- and the other way round
  pub all_hold : (us : List Multiple) → AreMultiples n low high us → ((a : ExpList n) (i : ℕ) → low ≤ degree (exps n) a → degree (exps n) a ≤ high → i < n → P a i)
      → AllByRecursion (λ u. P (exp_of n u.factor) u.variable) us
  all_hold us list holds = recursion_from_All HoldsOf us λ j d h.
      let is = pair_is n low high us list j d h in
      let s = sum-entries n (exp_of n (get_or us j d).factor) in
      holds (exp_of n (get_or us j d).factor) (get_or us j d).variable (let f = is.from in omega arith) (let t = is.to in omega arith) is.variable
