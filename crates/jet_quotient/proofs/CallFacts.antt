-- What the calls of the quotient ask, and the causes of a refusal by entries.
use Rattle.std.proofs.Common.{◌≡◌, ℕ, suc, ◌+◌, inr, List, [], ◌∷◌, length, map, refl, sym, ap, subst, ◌∙◌, arith}
use Rattle.ring_theory.specs.Ring.{IsCommRing}
use Rattle.ring_theory.specs.Scalars.{Meaning}
use Rattle.poly_law.specs.Polynomials.{term_in}
use Rattle.mono_exp.specs.declared.exponent.Exp.{Exp}
use Rattle.mono_exp.specs.Exponents.{exponents, monomials_below}
use Rattle.jet_law.specs.Terms.{poly_of}
use Rattle.jet_law.specs.Canonical.{monomial_in}
use Rattle.jet_poly.specs.JetTerms.{JetTerms}
use Rattle.lin_row.specs.Lines.{EachOf, AllBelow, entry}
use Rattle.lin_row.specs.Plain.{ReductionOfIsHigh}
use Rattle.lin_row.specs.Rows.{rows_of}
use Rattle.lin_row.specs.Reductions.{AreRemainders, RemaindersAreHigh}
use Rattle.lin_row.specs.declared.row.Row.{Row}
use Rattle.lin_row.specs.declared.row.Remainder.{Remainder}
use Rattle.jacobian_row.specs.Numbers.{count_to, entries_of}
use Rattle.jacobian_row.specs.Multiples.{AreMultiples}
use Rattle.jacobian_row.specs.Rows.{AreRowsOf, AreMonomialRows, ArePartials}
use Rattle.jacobian_row.specs.declared.multiple.Multiple.{Multiple}
use Rattle.jacobian_row.proofs.RowFacts
use Rattle.jet_quotient.specs.Answers.{IsReadable}
use Rattle.jet_quotient.specs.Quotients.{IsQuotientHigh, quotient_targets, quotient_rows}

module _ {E V : Type 0} (m : Meaning E V) where
  pub rows-count : (rs : List (Row E)) → length (rows_of rs) ≡ length rs
  rows-count [] = refl
  rows-count (q ∷ rs) = ap suc (rows-count rs)

  pub remainders_length : (given form : List (List (ℕ × E))) (ts : List (Row E)) (rs : List (Remainder E)) → AreRemainders m given form ts rs → length rs ≡ length ts
  remainders_length given form [] [] all = refl
  remainders_length given form [] (s ∷ rs) all = absurd all
  remainders_length given form (t ∷ ts) [] all = absurd all
  remainders_length given form (t ∷ ts) (s ∷ rs) all = ap suc (remainders_length given form ts rs all.1)

  pub remainders_readable : (given form : List (List (ℕ × E))) (count : ℕ) → length given ≡ count → (ts : List (Row E)) (rs : List (Remainder E)) → AreRemainders m given form ts rs → EachOf (IsReadable m count) rs
  remainders_readable given form count e [] [] all = tt
  remainders_readable given form count e [] (s ∷ rs) all = absurd all
  remainders_readable given form count e (t ∷ ts) [] all = absurd all
  remainders_readable given form count e (t ∷ ts) (s ∷ rs) all = (
    record { line = all.0.rest.line; coefficients = all.0.rest.coefficients; within = subst (λ b. AllBelow b s.coefficients) e all.0.rest.within },
    remainders_readable given form count e ts rs all.1,
  )

  -- where the reduction of the quotient is high, the quotient is
  pub quotient_high : IsCommRing m.scalars.ops → IsSet V → (g : JetTerms E) (k n : ℕ) → n ≡ g.n → (partials : List (JetTerms E)) → ArePartials m g.n (poly_of g.n m.value g.terms) partials
      → (us : List Multiple) → AreMultiples n 0 k us → (rows : List (Row E)) → AreRowsOf m n (count_to n k) k partials us rows
      → (ms : List Exp) → map (λ a. exponents n a.e) ms ≡ monomials_below n (suc k) → (targets : List (Row E)) → AreMonomialRows m n (count_to n k) ms targets
      → RemaindersAreHigh m rows targets → IsQuotientHigh g.n m.scalars k (poly_of g.n m.value g.terms)
  quotient_high c set g k n e partials are us multiples rows all ms list targets all_targets high =
      subst (λ i. IsQuotientHigh i m.scalars k (poly_of i m.value g.terms)) e
      (inr (subst (λ xs. ReductionOfIsHigh m.scalars xs (quotient_targets n m.scalars k)) rows_are (subst (ReductionOfIsHigh m.scalars (map (entry m) (rows_of rows))) targets_are high)))
    where
      rows_are : map (entry m) (rows_of rows) ≡ quotient_rows n m.scalars k (poly_of n m.value g.terms)
      rows_are = RowFacts.multiples-entries m c set n (count_to n k) 0 k k partials (poly_of n m.value g.terms) (subst (λ i. ArePartials m i (poly_of i m.value g.terms) partials) (sym e) are) us rows multiples all

      targets_are : map (λ t. entry m t.entries) targets ≡ quotient_targets n m.scalars k
      targets_are = RowFacts.monomials-entries m c set n (count_to n k) ms targets all_targets
          ∙ ap (map (λ a. entries_of n m.scalars.ops (term_in n m.scalars.ops (monomial_in n a)))) (list ∙ ap (monomials_below n) (let q : suc k ≡ k + 1 = omega arith in q))
