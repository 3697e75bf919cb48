-- No jet has both rows and a functional that excludes them.
use Rattle.std.proofs.Common.{◌≡◌, ◌≢◌, ℕ, ◌+◌, List, [], ◌∷◌, map, sum, sym, subst, ◌∙◌}
use Rattle.std.specs.List.{AllByRecursion}
use Rattle.ring_theory.specs.Ring.{IsCommRing}
use Rattle.ring_theory.specs.Scalars.{Meaning}
use Rattle.poly_law.specs.ExpList.{exps}
use Rattle.poly_law.specs.Poly.{MatherRow}
use Rattle.poly_law.proofs.ExpLists.{exps_are}
use Rattle.poly_law.proofs.Functional
use Rattle.mono_exp.specs.Exponents.{exponents, monomials_of}
use Rattle.mono_exp.proofs.Lists.{Each, each-at}
use Rattle.mono_exp.proofs.OrderLaws.{whole}
use Rattle.mono_exp.proofs.NumberLemmas.{length-exponents, sum-exponents}
use Rattle.jet_law.specs.Terms.{exp_of, poly_of}
use Rattle.jet_law.proofs.TermLemmas.{degree-exp_of}
use Rattle.jacobian_row.proofs.RowFacts.{monomial-exponents}
use Rattle.determinacy.specs.Tests.{IsRow, AnswersExclude}
use Rattle.determinacy.specs.declared.row.MatherRow as rows

pub answers_exclude : {E V : Type 0} (m : Meaning E V) → IsCommRing m.scalars.ops → IsSet V → m.scalars.ops.one ≢ m.scalars.ops.zero → AnswersExclude m
answers_exclude {E} {V} m c s nontrivial g k made functional at are fail = nontrivial (sym (Functional.no_row (exps g.n) (exps_are g.n) m.scalars.ops c s k (poly_of g.n m.value g.terms) (poly_of g.n m.value functional) (exp_of g.n at) fail.fails row))
  where
    HasRow : List ℕ → Type 0
    HasRow e = MatherRow (exps g.n) m.scalars.ops k (poly_of g.n m.value g.terms) (exp_of g.n (record { e = e }))

    each_row : (xs : List (rows.MatherRow E)) → AllByRecursion (IsRow m g k) xs → Each HasRow (map (λ row. exponents g.n row.monomial.e) xs)
    each_row [] h = tt
    each_row (x ∷ xs) h = (
      subst (MatherRow (exps g.n) m.scalars.ops k (poly_of g.n m.value g.terms)) (sym (monomial-exponents g.n x.monomial)) (record { multiplier = _; is_row = h.0.is_row }),
      each_row xs h.1,
    )

    degree : sum (exponents g.n at.e) ≡ k + 1
    degree = sum-exponents g.n at.e fail.monomial.unused ∙ sym (degree-exp_of g.n at fail.monomial.unused) ∙ fail.fails.of_degree

    row : MatherRow (exps g.n) m.scalars.ops k (poly_of g.n m.value g.terms) (exp_of g.n at)
    row =
        let found = whole g.n (k + 1) (exponents g.n at.e) (length-exponents g.n at.e) degree in
        let here = each-at HasRow (monomials_of g.n (k + 1)) found.0 (exponents g.n at.e) found.1 (subst (Each HasRow) are.monomials (each_row made are.each)) in
        subst (MatherRow (exps g.n) m.scalars.ops k (poly_of g.n m.value g.terms)) (monomial-exponents g.n at) (subst HasRow found.2 here)
