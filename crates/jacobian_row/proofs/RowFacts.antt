-- What the lists of rows have in common: valid lines, a bound of their columns, their number, their entries.
use mathlib.Core.Path.{fun_ext}
use Rattle.std.proofs.Common.{◌≡◌, ℕ, zero, suc, ◌<◌, List, [], ◌∷◌, length, get_or, map, sum, refl, sym, ap, ap₂, subst, ◌∙◌, arith}
use Rattle.std.specs.List.{All}
use Rattle.ring_theory.specs.Ring.{RingOps, IsCommRing}
use Rattle.ring_theory.specs.Scalars.{Meaning}
use Rattle.poly_law.specs.Sums.{unit_at}
use Rattle.poly_law.specs.Polynomials.{Polynomial, term_in}
use Rattle.poly_law.proofs.ExpLists.{exps_are}
use Rattle.mono_exp.specs.declared.exponent.Exp.{Exp}
use Rattle.mono_exp.specs.Exponents.{IsIn, exponents, monomials_of}
use Rattle.mono_exp.proofs.Lists.{Each}
use Rattle.mono_exp.proofs.Counting.{IsOf, monomials_are_of}
use Rattle.mono_exp.proofs.NumberLemmas.{get_or-exponents, sum-exponents}
use Rattle.jet_law.specs.Terms.{exp_of}
use Rattle.jet_law.specs.Canonical.{monomial_in}
use Rattle.jet_law.proofs.TermLemmas.{at-exp_of}
use Rattle.jet_poly.specs.JetTerms.{JetTerms}
use Rattle.lin_row.specs.Lines.{AllBelow, EachOf, entry}
use Rattle.lin_row.specs.Rows.{AreRows, rows_of}
use Rattle.lin_row.specs.declared.row.Row.{Row}
use Rattle.jacobian_row.specs.Numbers.{entries_of}
use Rattle.jacobian_row.specs.Multiples.{AreMultiples, pairs_between, pair_of, multiple_to}
use Rattle.jacobian_row.specs.Rows.{IsRowOf, AreRowsOf, AreMonomialRows, ArePartials}
use Rattle.jacobian_row.specs.declared.multiple.Multiple.{Multiple}
use Rattle.jacobian_row.proofs.Combinations
use Rattle.jacobian_row.proofs.Membership.{each_unmap}
use Rattle.jacobian_row.proofs.MultipleOrder.{pair_is}

-- a monomial of code by its exponents
pub monomial-exponents : (n : ℕ) (a : Exp) → monomial_in n (exponents n a.e) ≡ exp_of n a
monomial-exponents n a = (exps_are n).same_at (monomial_in n (exponents n a.e)) (exp_of n a) (λ i h.
    (exps_are n).at_make (λ i. get_or (exponents n a.e) i 0) i h ∙ get_or-exponents n a.e i h ∙ sym (at-exp_of n a i h))

-- the variables of the multiples
pub variables_within : (n low high : ℕ) (us : List Multiple) → AreMultiples n low high us → All (λ u. u.variable < n) us
variables_within n low high us are j d within = (pair_is n low high us are j d within).variable

module _ {E V : Type 0} (m : Meaning E V) (n bound : ℕ) where
  module _ (k : ℕ) (partials : List (JetTerms E)) where
    pub rows_lines : (us : List Multiple) (rows : List (Row E)) → AreRowsOf m n bound k partials us rows → AreRows m rows
    rows_lines [] [] all = tt
    rows_lines [] (r ∷ rs) all = absurd all
    rows_lines (u ∷ us) [] all = absurd all
    rows_lines (u ∷ us) (r ∷ rs) all = (all.0.line, rows_lines us rs all.1)

    pub rows_below : (us : List Multiple) (rows : List (Row E)) → AreRowsOf m n bound k partials us rows → EachOf (AllBelow bound) (rows_of rows)
    rows_below [] [] all = tt
    rows_below [] (r ∷ rs) all = absurd all
    rows_below (u ∷ us) [] all = absurd all
    rows_below (u ∷ us) (r ∷ rs) all = (all.0.below, rows_below us rs all.1)

    pub rows_length : (us : List Multiple) (rows : List (Row E)) → AreRowsOf m n bound k partials us rows → length rows ≡ length us
    rows_length [] [] all = refl
    rows_length [] (r ∷ rs) all = absurd all
    rows_length (u ∷ us) [] all = absurd all
    rows_length (u ∷ us) (r ∷ rs) all = ap suc (rows_length us rs all.1)

  pub monomials_lines : (ms : List Exp) (rows : List (Row E)) → AreMonomialRows m n bound ms rows → AreRows m rows
  monomials_lines [] [] all = tt
  monomials_lines [] (r ∷ rs) all = absurd all
  monomials_lines (a ∷ ms) [] all = absurd all
  monomials_lines (a ∷ ms) (r ∷ rs) all = (all.0.line, monomials_lines ms rs all.1)

  pub monomials_length : (ms : List Exp) (rows : List (Row E)) → AreMonomialRows m n bound ms rows → length rows ≡ length ms
  monomials_length [] [] all = refl
  monomials_length [] (r ∷ rs) all = absurd all
  monomials_length (a ∷ ms) [] all = absurd all
  monomials_length (a ∷ ms) (r ∷ rs) all = ap suc (monomials_length ms rs all.1)

  -- the row of the monomial with number i
  pub monomial_at : (ms : List Exp) (rows : List (Row E)) → AreMonomialRows m n bound ms rows → (i : ℕ) (a : Exp) (r : Row E) → i < length ms → IsRowOf m n bound (term_in n m.scalars.ops (exp_of n (get_or ms i a))) (get_or rows i r).entries
  monomial_at [] rows all i a r h = absurd (omega arith)
  monomial_at (b ∷ ms) [] all i a r h = absurd all
  monomial_at (b ∷ ms) (q ∷ rs) all zero a r h = all.0
  monomial_at (b ∷ ms) (q ∷ rs) all (suc i) a r h = monomial_at ms rs all.1 i a r (omega arith)

-- ---- the rows by their entries
module _ {E V : Type 0} (m : Meaning E V) (c : IsCommRing m.scalars.ops) (s : IsSet V) (n bound : ℕ) where
  abbrev r : RingOps V
  r = m.scalars.ops

  row-entries : (k : ℕ) (partials : List (JetTerms E)) (g : Polynomial n V) → ArePartials m n g partials → (us : List Multiple) (rows : List (Row E)) → AreRowsOf m n bound k partials us rows → All (λ u. u.variable < n) us
      → map (entry m) (rows_of rows) ≡ map (λ p. entries_of n r (multiple_to n r k g (monomial_in n p.0) p.1)) (map (pair_of n) us)
  row-entries k partials g are [] [] all within = refl
  row-entries k partials g are [] (q ∷ rs) all within = absurd all
  row-entries k partials g are (u ∷ us) [] all within = absurd all
  row-entries k partials g are (u ∷ us) (q ∷ rs) all within =
      ap₂ (λ x xs. x ∷ xs)
      (fun_ext λ d. all.0.value (unit_at r d) ∙ Combinations.partial_same m c s n bound k partials g are (exp_of n u.factor) u.variable (within 0 u (omega arith)) (unit_at r d)
      ∙ ap (λ a. entries_of n r (multiple_to n r k g a u.variable) d) (sym (monomial-exponents n u.factor)))
      (row-entries k partials g are us rs all.1 (λ j d h. within (suc j) d (omega arith)))

  -- of all multiples
  pub multiples-entries : (low high k : ℕ) (partials : List (JetTerms E)) (g : Polynomial n V) → ArePartials m n g partials → (us : List Multiple) (rows : List (Row E)) → AreMultiples n low high us → AreRowsOf m n bound k partials us rows
      → map (entry m) (rows_of rows) ≡ map (λ p. entries_of n r (multiple_to n r k g (monomial_in n p.0) p.1)) (pairs_between n low high)
  multiples-entries low high k partials g are us rows multiples all =
      row-entries k partials g are us rows all (variables_within n low high us multiples) ∙ ap (map (λ p. entries_of n r (multiple_to n r k g (monomial_in n p.0) p.1))) multiples.list

  -- and of monomials
  pub monomials-entries : (ms : List Exp) (rows : List (Row E)) → AreMonomialRows m n bound ms rows → map (λ t. entry m t.entries) rows ≡ map (λ a. entries_of n r (term_in n r (monomial_in n a))) (map (λ a. exponents n a.e) ms)
  monomials-entries [] [] all = refl
  monomials-entries [] (q ∷ rs) all = absurd all
  monomials-entries (a ∷ ms) [] all = absurd all
  monomials-entries (a ∷ ms) (q ∷ rs) all =
      ap₂ (λ x xs. x ∷ xs) (fun_ext λ d. all.0.value (unit_at r d) ∙ ap (λ b. entries_of n r (term_in n r b) d) (sym (monomial-exponents n a))) (monomials-entries ms rs all.1)

-- ---- monomials of one degree
pub degrees_are : (n d : ℕ) (ms : List Exp) → map (λ a. exponents n a.e) ms ≡ monomials_of n d → All (λ a. IsIn n a.e) ms → All (λ a. sum a.e ≡ d) ms
degrees_are n d ms list unused = go ms (each_unmap (IsOf n d) (λ (a : Exp). exponents n a.e) ms (subst (Each (IsOf n d)) (sym list) (monomials_are_of n d))) unused
  where
    go : (bs : List Exp) → Each (λ a. IsOf n d (exponents n a.e)) bs → All (λ a. IsIn n a.e) bs → All (λ a. sum a.e ≡ d) bs
    go [] each all j e h = absurd (omega arith)
    go (a ∷ bs) each all zero e h = sym (sum-exponents n a.e (all 0 a (omega arith))) ∙ each.0.degree
    go (a ∷ bs) each all (suc j) e h = go bs each.1 (λ j d h. all (suc j) d (omega arith)) j e (omega arith)
