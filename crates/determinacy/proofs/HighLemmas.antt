-- The causes of a refusal, by entries.
use Rattle.std.proofs.Common.{◌≡◌, ℕ, ◌+◌, inl, inr, List, [], ◌∷◌, map, sym, ap, subst, ◌∙◌}
use Rattle.ring_theory.specs.Ring.{IsCommRing}
use Rattle.ring_theory.specs.Scalars.{Meaning}
use Rattle.mono_exp.specs.declared.exponent.Exp.{Exp}
use Rattle.mono_exp.specs.Exponents.{exponents, monomials_of}
use Rattle.jet_law.specs.Terms.{poly_of}
use Rattle.jet_law.specs.Canonical.{monomial_in}
use Rattle.jet_poly.specs.JetTerms.{JetTerms}
use Rattle.poly_law.specs.Polynomials.{term_in}
use Rattle.lin_row.specs.Lines.{entry}
use Rattle.lin_row.specs.Plain.{Among, EliminationIsHigh}
use Rattle.lin_row.specs.Rows.{rows_of}
use Rattle.lin_row.specs.Systems.{SolvingIsHigh, SolvingAnyIsHigh}
use Rattle.lin_row.specs.declared.row.Row.{Row}
use Rattle.jacobian_row.specs.Numbers.{count_to, entries_of}
use Rattle.jacobian_row.specs.Multiples.{AreMultiples}
use Rattle.jacobian_row.specs.Rows.{AreRowsOf, AreMonomialRows, ArePartials}
use Rattle.jacobian_row.specs.declared.multiple.Multiple.{Multiple}
use Rattle.jacobian_row.proofs.RowFacts
use Rattle.determinacy.specs.Tests.{IsTestHigh, test_rows, test_targets}

-- the causes of a solution of several targets, by entries
pub solving_any_high : {E V : Type 0} (m : Meaning E V) (rows targets : List (Row E)) → SolvingAnyIsHigh m rows targets → EliminationIsHigh m.scalars (map (entry m) (rows_of rows)) (map (λ t. entry m t.entries) targets)
solving_any_high m rows targets (inl high) = inl high
solving_any_high {E} m rows targets (inr high) = go targets high
  where
    go : (ts : List (Row E)) → Among (λ t. SolvingIsHigh m rows t.entries) ts → EliminationIsHigh m.scalars (map (entry m) (rows_of rows)) (map (λ t. entry m t.entries) ts)
    go [] h = absurd h
    go (t ∷ ts) (inl (inl h)) = inl h
    go (t ∷ ts) (inl (inr h)) = inr (inl h)
    go (t ∷ ts) (inr h) = elim (go ts h) [ inl k ↦ inl k | inr k ↦ inr (inr k) ]

-- where the elimination of the test is high, the test is
pub test_high : {E V : Type 0} (m : Meaning E V) (c : IsCommRing m.scalars.ops) (set : IsSet V) (g : JetTerms E) (k n : ℕ) → n ≡ g.n → (partials : List (JetTerms E)) → ArePartials m g.n (poly_of g.n m.value g.terms) partials
    → (us : List Multiple) → AreMultiples n 2 k us → (rows : List (Row E)) → AreRowsOf m n (count_to n (k + 1)) (k + 1) partials us rows
    → (ms : List Exp) → map (λ a. exponents n a.e) ms ≡ monomials_of n (k + 1) → (targets : List (Row E)) → AreMonomialRows m n (count_to n (k + 1)) ms targets
    → SolvingAnyIsHigh m rows targets → IsTestHigh g.n m.scalars k (poly_of g.n m.value g.terms)
test_high m c set g k n e partials are us multiples rows all ms list targets all_targets high =
    subst (λ i. IsTestHigh i m.scalars k (poly_of i m.value g.terms)) e
    (inr (subst (λ xs. EliminationIsHigh m.scalars xs (test_targets n m.scalars k)) rows_are (subst (EliminationIsHigh m.scalars (map (entry m) (rows_of rows))) targets_are (solving_any_high m rows targets high))))
  where
    rows_are : map (entry m) (rows_of rows) ≡ test_rows n m.scalars k (poly_of n m.value g.terms)
    rows_are = RowFacts.multiples-entries m c set n (count_to n (k + 1)) 2 k (k + 1) partials (poly_of n m.value g.terms) (subst (λ i. ArePartials m i (poly_of i m.value g.terms) partials) (sym e) are) us rows multiples all

    targets_are : map (λ t. entry m t.entries) targets ≡ test_targets n m.scalars k
    targets_are = RowFacts.monomials-entries m c set n (count_to n (k + 1)) ms targets all_targets ∙ ap (map (λ a. entries_of n m.scalars.ops (term_in n m.scalars.ops (monomial_in n a)))) list
