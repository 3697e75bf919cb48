-- A table with a row for each monomial up to a degree, in order: the row of a monomial is the one with its number.
use Rattle.std.proofs.Common.{◌≡◌, ℕ, suc, ◌<◌, ◌≤◌, List, map, length, get_or, sym, ap, subst, ◌∙◌, arith}
use Rattle.std.specs.List.{AllByRecursion}
use Rattle.std.proofs.lemmas.List.{length-map, get_or-map, get_or_default}
use Rattle.std.proofs.lemmas.List.Elements.{All-from_recursion, recursion_from_All}
use Rattle.poly_law.specs.ExpList.{ExpList, exps}
use Rattle.poly_law.specs.Exps.{degree, same}
use Rattle.poly_law.proofs.ExpLists.{exps_are}
use Rattle.poly_law.proofs.ExpLaws
use Rattle.mono_exp.specs.declared.exponent.Exp.{Exp}
use Rattle.mono_exp.specs.Exponents.{exponents, monomials_below}
use Rattle.mono_exp.proofs.Lists.{map-map}
use Rattle.jet_law.specs.Terms.{exp_of}
use Rattle.jacobian_row.specs.Numbers.{number}
use Rattle.jacobian_row.proofs.NumberLemmas.{number_injective, number_below}
use Rattle.determinacy.proofs.FailureLemmas.{degree_below}
use Rattle.jacobian_row.proofs.MonomialLists
use Rattle.milnor_alg.specs.declared.quotient.TableRow.{TableRow}
use Rattle.milnor_alg.specs.Rows.{no_row, row_of}

module _ {E : Type 0} (n k : ℕ) (table : List (TableRow E)) (whole : map (λ row. exponents n row.monomial.e) table ≡ monomials_below n (suc k)) where
  abbrev none : TableRow E
  none = no_row

  abbrev monomials : List Exp
  monomials = map (λ row. row.monomial) table

  list : map (λ a. exponents n a.e) monomials ≡ monomials_below n (suc k)
  list = map-map (λ (a : Exp). exponents n a.e) (λ (row : TableRow E). row.monomial) table ∙ whole

  size : length monomials ≡ length table
  size = length-map table (λ (row : TableRow E). row.monomial)

  monomial_at : (i : ℕ) → i < length table → (a : Exp) → get_or monomials i a ≡ (get_or table i none).monomial
  monomial_at i h a = get_or-map (λ (row : TableRow E). row.monomial) table i none a h

  number_at : (i : ℕ) → i < length table → number n (exp_of n (get_or table i none).monomial) ≡ i
  number_at i h =
      ap (λ a. number n (exp_of n a)) (sym (monomial_at i h none.monomial))
      ∙ MonomialLists.number-at n (suc k) monomials list i none.monomial (let e = size in omega arith)

  -- a monomial of degree at most k has a row
  pub place_within : (b : ExpList n) → degree (exps n) b ≤ k → number n b < length table
  place_within b low = let e = MonomialLists.count-list n (suc k) monomials list in let h = number_below n k b low in let s = size in omega arith

  monomial_is : (b : ExpList n) → degree (exps n) b ≤ k → exp_of n (get_or table (number n b) none).monomial ≡ b
  monomial_is b low = number_injective n (exp_of n (get_or table (number n b) none).monomial) b (number_at (number n b) (place_within b low))

  -- the row of a monomial is the one with its number
  row_is : (b : ExpList n) → degree (exps n) b ≤ k → row_of n table b ≡ get_or table (number n b) none
  row_is b low =
      MonomialLists.found_first (λ row. same (exps n) (exp_of n row.monomial) b) table (number n b) none none (place_within b low)
      (ap (λ x. same (exps n) x b) (monomial_is b low) ∙ ExpLaws.same_refl (exps n) (exps_are n) b)
      (λ i less. ExpLaws.same-no (exps n) (exps_are n) (exp_of n (get_or table i none).monomial) b (λ e.
      let w = place_within b low in
      let inside : i < length table = omega arith in
      let f : number n b ≡ i = ap (number n) (sym e) ∙ number_at i inside in
      omega arith))

  degree_at : (i : ℕ) → i < length table → degree (exps n) (exp_of n (get_or table i none).monomial) ≤ k
  degree_at i h =
      degree_below n k (exp_of n (get_or table i none).monomial)
      (let e = number_at i h in let c = MonomialLists.count-list n (suc k) monomials list in let s = size in omega arith)

  row_self : (i : ℕ) → i < length table → row_of n table (exp_of n (get_or table i none).monomial) ≡ get_or table i none
  row_self i h =
      row_is (exp_of n (get_or table i none).monomial) (degree_at i h) ∙ ap (λ j. get_or table j none) (number_at i h)

  -- what holds of each row with its monomial holds of each monomial with its row
  pub of_rows : (Q : ExpList n → TableRow E → Type 0) → AllByRecursion (λ row. Q (exp_of n row.monomial) row) table → (b : ExpList n) → degree (exps n) b ≤ k → Q b (row_of n table b)
  of_rows Q all b low =
      let row = get_or table (number n b) none in
      subst (Q b) (sym (row_is b low))
      (subst (λ x. Q x row) (monomial_is b low) (All-from_recursion (λ row. Q (exp_of n row.monomial) row) table all (number n b) none (place_within b low)))

  -- and the other way round
  pub to_rows : (Q : ExpList n → TableRow E → Type 0) → ((b : ExpList n) → degree (exps n) b ≤ k → Q b (row_of n table b)) → AllByRecursion (λ row. Q (exp_of n row.monomial) row) table
  to_rows Q h =
      recursion_from_All (λ row. Q (exp_of n row.monomial) row) table (λ i d l.
      subst (λ row. Q (exp_of n row.monomial) row) (get_or_default table i none d l)
      (subst (Q (exp_of n (get_or table i none).monomial)) (row_self i l) (h (exp_of n (get_or table i none).monomial) (degree_at i l))))
