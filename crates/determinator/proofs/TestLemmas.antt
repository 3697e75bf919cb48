-- What the answer of Mather's test says of the condition, and what the test needs.
use Rattle.std.proofs.Common.{◌≡◌, ℕ, ◌+◌, ◌≤◌, List, [], ◌∷◌, map, refl, sym, subst, ◌∙◌, arith}
use Rattle.std.specs.List.{AllByRecursion}
use Rattle.ring_theory.specs.Rational.{Rational}
use Rattle.ring_theory.specs.Scalars.{ScalarLaws, Meaning}
use Rattle.ring_theory.proofs.ValueSet.{values_are_set}
use Rattle.ext_algebra.specs.declared.algebra.Algebra.{Algebra}
use Rattle.ext_algebra.specs.declared.algebra.Ext.{Ext}
use Rattle.ext_algebra.specs.Algebra.{Value, scalars, ops, value_in, algebra_meaning}
use Rattle.ext_algebra.specs.AlgebraLaws.{algebra_scalar_laws}
use Rattle.ring_law.specs.declared.fraction.Frac.{Frac}
use Rattle.poly_law.specs.ExpList.{ExpList, exps}
use Rattle.poly_law.specs.Poly.{MatherRow, MatherRows}
use Rattle.poly_law.specs.Polynomials.{Polynomial, StartsAtIn}
use Rattle.poly_law.proofs.ExpLists.{exps_are, same_entries}
use Rattle.poly_law.proofs.Functional
use Rattle.mono_exp.specs.Exponents.{exponents, monomials_of}
use Rattle.mono_exp.specs.declared.exponent.Exp.{Exp}
use Rattle.mono_exp.proofs.Lists.{Each, each-at}
use Rattle.mono_exp.proofs.OrderLaws.{whole}
use Rattle.jet_law.specs.Terms.{exp_of, poly_of}
use Rattle.jet_poly.specs.JetTerms.{JetTerms}
use Rattle.jet_poly.specs.Jets.{IsJet, polynomial_of}
use Rattle.germ_law.proofs.Canonical
use Rattle.coord_change.specs.Moves.{Move}
use Rattle.determinacy.specs.Tests.{IsRow, AreRows, IsFailure, IsAnswer, IsTestHigh}
use Rattle.determinacy.specs.declared.row.MatherRow as rows
use Rattle.determinacy.specs.declared.row.MatherTest.{MatherTest}
use Rattle.determinacy.specs.declared.row.MatherTest.TheVariants as mather
use Rattle.move_law.specs.Algebras as algebras_law
use Rattle.move_law.specs.Moves.{residual}
use Rattle.coord_change.specs.Chains.{ChainParts, carried_in}
use Rattle.coord_change.specs.MoveJets.{IsJetFor}
use Rattle.plan_law.specs.Run.{brought, IsDetermined}
use Rattle.determinator.specs.Jets.{IsListed, residual_jet}
use Rattle.determinator.specs.Places.{IsPlace}
use Rattle.determinator.proofs.Chained
use Rattle.determinator.proofs.Laws
use Rattle.determinator.proofs.SplitTests

module _ {E V : Type 0} (m : Meaning E V) (l : ScalarLaws m.scalars) where
  module _ (g : JetTerms E) (k : ℕ) where
    abbrev HasRow : List ℕ → Type 0
    HasRow e = (a : ExpList g.n) → a.entries ≡ e → MatherRow (exps g.n) m.scalars.ops k (poly_of g.n m.value g.terms) a

    each_row : (xs : List (rows.MatherRow E)) → AllByRecursion (IsRow m g k) xs → Each HasRow (map (λ row. exponents g.n row.monomial.e) xs)
    each_row [] h = tt
    each_row (x ∷ xs) h = (
      (λ a e. subst (MatherRow (exps g.n) m.scalars.ops k (poly_of g.n m.value g.terms)) (sym (same_entries g.n a (exp_of g.n x.monomial) e)) (record { multiplier = _; is_row = h.0.is_row })),
      each_row xs h.1,
    )

    -- rows for all monomials of degree k + 1
    pub rows_mean : (made : List (rows.MatherRow E)) → AreRows m g k made → MatherRows (exps g.n) m.scalars.ops k (poly_of g.n m.value g.terms)
    rows_mean made are a d =
        let found = whole g.n (k + 1) a.entries a.long (sym (Canonical.degree-entries g.n a) ∙ d) in
        subst HasRow found.2 (each-at HasRow (monomials_of g.n (k + 1)) found.0 a.entries found.1 (subst (Each HasRow) are.monomials (each_row made are.each))) a refl

    -- a functional that excludes them
    pub failure_means : (functional : List (Exp × E)) (at : Exp) → IsFailure m g k functional at → MatherRows (exps g.n) m.scalars.ops k (poly_of g.n m.value g.terms) → ⊥
    failure_means functional at fail all =
        l.nontrivial (sym (Functional.no_row (exps g.n) (exps_are g.n) m.scalars.ops l.ring (values_are_set m.scalars l) k (poly_of g.n m.value g.terms) (poly_of g.n m.value functional)
        (exp_of g.n at) fail.fails (all (exp_of g.n at) fail.fails.of_degree)))

module _ (n c last : ℕ) (germ : Polynomial n Rational) (a : Algebra) (o : ℕ) (moves : List (Move n (Value a))) (chain : ChainParts (Ext Frac)) (place : IsPlace n c last germ a o moves chain) (listed : IsListed (carried_in chain)) where
  abbrev f : JetTerms (Ext Frac)
  f = carried_in chain

  abbrev p : Polynomial n (Value a)
  p = brought n c germ a o moves

  jet_is : IsJetFor (algebra_meaning a) n o p f
  jet_is = Chained.carried_is (algebra_meaning a) n last (algebras_law.lifted a germ) o moves chain place.chain_is

  residual_same : poly_of c (value_in a) (residual_jet c f).terms ≡ residual n (scalars a) c o p
  residual_same = SplitTests.residual_is a n c o p f place.chain_is.at_most_8_variables place.corank jet_is listed place.split place.squares

  pub residual_is_jet : IsJet (algebra_meaning a) (residual_jet c f)
  residual_is_jet = SplitTests.residual_is_jet a n c o p f place.chain_is.at_most_8_variables place.corank jet_is listed place.split place.squares

  pub few : c ≤ 8
  few = let e = place.chain_is.at_most_8_variables in let w = place.corank in omega arith

  pub at_least_2 : 2 ≤ f.order
  at_least_2 = let e = jet_is.order in let two = place.chain_is.order_at_least_2 in omega arith

  pub at_most_16 : f.order ≤ 16
  at_most_16 = let e = jet_is.order in let b = place.chain_is.order_at_most_last in let t = place.chain_is.last_at_most_16 in omega arith

  pub residual_low : StartsAtIn c (ops a) 2 (polynomial_of (algebra_meaning a) (residual_jet c f))
  residual_low =
      let two = place.chain_is.order_at_least_2 in
      subst (StartsAtIn c (ops a) 2) (sym residual_same)
      (Laws.residual_low a n c o 2 place.corank p (Chained.carried_low (algebra_meaning a) n last (algebras_law.lifted a germ) o moves chain place.chain_is (algebra_scalar_laws a) o (omega arith)))

  -- the test of the residual jet is that of the plan
  pub test_high : IsTestHigh c (scalars a) f.order (poly_of c (value_in a) (residual_jet c f).terms) → IsTestHigh c (scalars a) o (residual n (scalars a) c o p)
  test_high h = subst (λ k. IsTestHigh c (scalars a) k (residual n (scalars a) c o p)) jet_is.order (subst (IsTestHigh c (scalars a) f.order) residual_same h)

  -- rows show the condition, a functional refutes it
  abbrev pub Says : MatherTest (Ext Frac) → Type 0
  Says (mather.Holds made) = IsDetermined n c germ a o p
  Says (mather.Fails functional at) = IsDetermined n c germ a o p → ⊥

  pub tested_of : (t : MatherTest (Ext Frac)) → IsAnswer (algebra_meaning a) (residual_jet c f) f.order t → Says t
  tested_of (mather.Holds made) q =
      subst (λ k. MatherRows (exps c) (ops a) k (residual n (scalars a) c o p)) jet_is.order
      (subst (MatherRows (exps c) (ops a) f.order) residual_same (rows_mean (algebra_meaning a) (algebra_scalar_laws a) (residual_jet c f) f.order made q))
  tested_of (mather.Fails functional at) q = λ d.
      failure_means (algebra_meaning a) (algebra_scalar_laws a) (residual_jet c f) f.order functional at q
      (subst (MatherRows (exps c) (ops a) f.order) (sym residual_same) (subst (λ k. MatherRows (exps c) (ops a) k (residual n (scalars a) c o p)) (sym jet_is.order) d))
