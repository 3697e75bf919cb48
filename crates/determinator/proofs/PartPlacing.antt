-- The places of a chain where a base part is known: before and after the base kill of an order.
use Rattle.std.proofs.Common.{◌≡◌, ◌≢◌, ℕ, suc, true, cond, nat_lt, lt-ltb, inl, inr, List, [], ◌∷◌, ◌++◌, sym, subst, ◌∙◌, arith}
use Rattle.std.specs.List.{AllByRecursion}
use Rattle.std.proofs.lemmas.List.{length-append}
use Rattle.ring_theory.specs.Rational.{Rational}
use Rattle.ring_law.specs.declared.fraction.Frac.{Frac}
use Rattle.ext_algebra.specs.declared.algebra.Algebra.{Algebra}
use Rattle.ext_algebra.specs.declared.algebra.Ext.{Ext}
use Rattle.ext_algebra.specs.Algebra.{Value, scalars, algebra_meaning, IsFieldAlgebra}
use Rattle.ext_algebra.specs.AlgebraLaws.{algebra_scalar_laws, algebra_inverts}
use Rattle.poly_law.specs.Polynomials.{Polynomial}
use Rattle.jet_law.specs.Canonical.{jet}
use Rattle.jet_law.specs.Terms.{poly_of}
use Rattle.jet_poly.specs.JetTerms.{JetTerms}
use Rattle.jet_poly.specs.Jets.{polynomial_of}
use Rattle.cert_text.specs.declared.report.Phase.TheVariants as phases
use Rattle.kill_law.specs.declared.part.Part.{Part}
use Rattle.kill_law.specs.Table.{row}
use Rattle.coord_change.specs.declared.change.Change.{Change}
use Rattle.coord_change.specs.Moves.{Move}
use Rattle.coord_change.specs.Carries.{carry}
use Rattle.coord_change.specs.CarryHeights.{IsCarryHigh}
use Rattle.coord_change.specs.Chains.{ChainParts, carried_in, IsChain}
use Rattle.coord_change.specs.MoveJets.{IsJetFor, IsMoveExactly}
use Rattle.move_law.specs.Work as work
use Rattle.move_law.specs.Work.{Work, IsWorkHigh}
use Rattle.move_law.specs.Algebras.{lifted}
use Rattle.split_lemma.specs.Splits.{AnyHigh}
use Rattle.split_lemma.specs.SplitForms.{IsSplitUpTo, HasSquares}
use Rattle.kept_law.specs.KeptParts.{kill_off}
use Rattle.rules_corank2.specs.Extends.{base_kill, base_kill_work}
use Rattle.rules_corank2.specs.Parts.{HaveUnits}
use Rattle.plan_law.specs.Pieces.{HasHigh, pieces_over}
use Rattle.plan_law.specs.Run as run
use Rattle.plan_law.specs.Run.{brought, brought_at, killing, kill_at, kill_pieces, splitting, split_at}
use Rattle.determinator.specs.Places.{IsPlace}
use Rattle.determinator.specs.PartPlaces.{HasBasePart, IsKillPlace, IsReducedPlace}
use Rattle.determinator.proofs.Chained
use Rattle.determinator.proofs.Chained.{carry_all_append}
use Rattle.determinator.proofs.Pieces.{among_left, high_over}
use Rattle.determinator.proofs.Laws
use Rattle.determinator.proofs.PartLemmas
use Rattle.determinator.proofs.SplitLemmas.{at_jet}

-- the jet of a chain at a place
pub jet_at_place : (n c last : ℕ) (germ : Polynomial n Rational) (a : Algebra) (o : ℕ) (moves : List (Move n (Value a))) (chain : ChainParts (Ext Frac)) → IsPlace n c last germ a o moves chain
    → (f : JetTerms (Ext Frac)) → f ≡ carried_in chain → IsJetFor (algebra_meaning a) n o (brought n c germ a o moves) f
jet_at_place n c last germ a o moves chain place f e =
    subst (IsJetFor (algebra_meaning a) n o (brought n c germ a o moves)) (sym e) (Chained.carried_is (algebra_meaning a) n last (lifted a germ) o moves chain place.chain_is)

module _ (n c last : ℕ) (germ : Polynomial n Rational) (a : Algebra) (p : Part) (o : ℕ) (moves : List (Move n (Value a))) where
  abbrev pub next : Polynomial n (Value a)
  next = brought n c germ a (suc o) moves

  -- the base kill of order o + 1
  abbrev pub kill : Move n (Value a)
  kill = killing n c germ a (suc o) p next

  module _ (old : ChainParts (Ext Frac)) (h : IsKillPlace n c last germ a p o moves old) where
    pub jet_here : (f : JetTerms (Ext Frac)) → f ≡ carried_in old → IsJetFor (algebra_meaning a) n (suc o) next f
    jet_here f e = jet_at_place n c last germ a (suc o) moves old h.place f e

    -- the letters of the jet are units
    pub units_here : (f : JetTerms (Ext Frac)) → f ≡ carried_in old → HaveUnits f.n (scalars a) p (polynomial_of (algebra_meaning a) f)
    units_here f e =
        let jet = jet_here f e in
        subst (λ z. HaveUnits z (scalars a) p (poly_of z (algebra_meaning a).value f.terms)) (sym jet.variables) (subst (HaveUnits n (scalars a) p) (sym jet.polynomial) h.part.units)

    above : nat_lt (row p).degree (suc o) ≡ true
    above = lt-ltb (row p).degree (suc o) (let d = h.part.degree in omega arith)

    -- the jet after it
    killed_is : brought n c germ a (suc o) (moves ++ kill ∷ []) ≡ kill_off n (scalars a) c (suc o) p next
    killed_is =
        carry_all_append n (scalars a) (suc o) moves kill (jet n (scalars a) (suc o) (lifted a germ))
        ∙ PartLemmas.kill_carried n (scalars a) (algebra_scalar_laws a) p o (let x = h.place.chain_is.order_at_most_last in let y = h.place.chain_is.last_at_most_16 in omega arith) c next

    -- the place after it
    pub placed_after : IsFieldAlgebra a → (new : ChainParts (Ext Frac)) → IsChain (algebra_meaning a) n last (lifted a germ) (suc o) (moves ++ kill ∷ []) new
        → IsReducedPlace n c last germ a p (suc o) (kill_at n c germ a (suc o) p (brought_at n c germ a (suc o) moves)).moves new
    placed_after field new chain =
        let laws = algebra_scalar_laws a in
        let kept = PartLemmas.kept n (scalars a) laws c h.place.corank p o next h.place.split h.part in
        let after : IsReducedPlace n c last germ a p (suc o) (moves ++ kill ∷ []) new = record {
          place = record {
            corank = h.place.corank;
            some = (let l = length-append moves (kill ∷ []) in omega arith);
            chain_is = chain;
            squares = subst (HasSquares n (scalars a) c) (sym killed_is) (subst (AllByRecursion (λ v. v ≢ (scalars a).ops.zero)) (sym kept.squares) h.place.squares);
            split = subst (IsSplitUpTo n (scalars a) c (suc o)) (sym killed_is) kept.split;
          };
          part = subst (HasBasePart n (scalars a) c (suc o) (suc o) p) (sym killed_is)
              (PartLemmas.part_killed n (scalars a) laws c h.place.corank p o next h.place.split h.part (algebra_inverts a field.irreducible));
        } in
        subst (λ b. IsReducedPlace n c last germ a p (suc o) (cond b (run.moved n (scalars a) (suc o) kill (brought_at n c germ a (suc o) moves)) (brought_at n c germ a (suc o) moves)).moves new)
        (sym above) after

    -- the base kill of the code is that of the plan
    pub kill_is : (f : JetTerms (Ext Frac)) (d : ℕ) (change : Change (Ext Frac)) → f ≡ carried_in old → d ≡ f.order
        → IsMoveExactly (algebra_meaning a) f.n 16 (base_kill f.n (scalars a) p d (polynomial_of (algebra_meaning a) f)) change → IsMoveExactly (algebra_meaning a) n 16 kill change
    kill_is f d change e k q =
        at_jet (algebra_meaning a) n (suc o) next f (jet_here f e) (λ z j w. IsMoveExactly (algebra_meaning a) z 16 (base_kill z (scalars a) p j w) change)
        (subst (λ j. IsMoveExactly (algebra_meaning a) f.n 16 (base_kill f.n (scalars a) p j (polynomial_of (algebra_meaning a) f)) change) k q)

    abbrev killing_work : List (Work n (Value a))
    killing_work = work.killed p (suc o) next ∷ work.inverted kill ∷ work.carried (suc o) kill next ∷ []

    high_here : AnyHigh n (scalars a) killing_work → HasHigh phases.Kill (kill_pieces n c germ a (suc o) p next)
    high_here high = subst (λ b. HasHigh phases.Kill (cond b (pieces_over phases.Kill a killing_work) [])) (sym above) (high_over phases.Kill a killing_work high)

    -- an operation of the base kill is high
    pub high_kill : (f : JetTerms (Ext Frac)) (d : ℕ) → f ≡ carried_in old → d ≡ f.order
        → AnyHigh f.n (scalars a) (base_kill_work f.n (scalars a) p d (polynomial_of (algebra_meaning a) f)) → HasHigh phases.Kill (kill_pieces n c germ a (suc o) p next)
    high_kill f d e k q =
        high_here
        (among_left (IsWorkHigh n (scalars a)) (work.killed p (suc o) next ∷ work.inverted kill ∷ []) (work.carried (suc o) kill next ∷ [])
        (at_jet (algebra_meaning a) n (suc o) next f (jet_here f e) (λ z j w. AnyHigh z (scalars a) (base_kill_work z (scalars a) p j w))
        (subst (λ j. AnyHigh f.n (scalars a) (base_kill_work f.n (scalars a) p j (polynomial_of (algebra_meaning a) f))) k q)))

    -- carrying by it is high
    pub high_push : IsCarryHigh n (scalars a) (suc o) kill next → HasHigh phases.Kill (kill_pieces n c germ a (suc o) p next)
    high_push high = high_here (inr (inr (inl high)))

  -- the part after the split move of the next order
  pub split_part : (old new : ChainParts (Ext Frac)) → IsFieldAlgebra a → IsReducedPlace n c last germ a p o moves old
      → IsPlace n c last germ a (suc o) (split_at n c germ a (suc o) moves).moves new → IsKillPlace n c last germ a p o (split_at n c germ a (suc o) moves).moves new
  split_part old new field h place =
      let laws = algebra_scalar_laws a in
      let here = carry_all_append n (scalars a) (suc o) moves (splitting n c germ a (suc o) next) (jet n (scalars a) (suc o) (lifted a germ)) in
      let low = Chained.carried_low (algebra_meaning a) n last (lifted a germ) o moves old h.place.chain_is laws (suc o) (omega arith) in
      let below = (Laws.split_keeps a field n c o h.place.corank h.place.chain_is.order_at_least_2 next low).below in
      let grown = Chained.next_agrees (algebra_meaning a) n last (lifted a germ) o moves old h.place.chain_is laws in
      record {
        place = place;
        part = subst (HasBasePart n (scalars a) c (suc o) o p) (sym here)
            (PartLemmas.part_stays n (scalars a) laws c h.place.corank p o (carry n (scalars a) (suc o) (splitting n c germ a (suc o) next) next) (brought n c germ a o moves) (λ m d. below m d ∙ grown m d) h.part);
      }
