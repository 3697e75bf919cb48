-- How an order begins where a base part is known: the split move, the base kill, and the test of the part.
use Rattle.std.proofs.Common.{◌≡◌, ℕ, Bool, true, false, cond, nat_lt, Option, Some, None, List, [], ◌∷◌, ◌++◌, refl, sym, ap, subst, ◌∙◌}
use Rattle.ring_theory.specs.Rational.{Rational}
use Rattle.ring_law.specs.declared.fraction.Frac.{Frac}
use Rattle.ext_algebra.specs.declared.algebra.Algebra.{Algebra}
use Rattle.ext_algebra.specs.declared.algebra.Ext.{Ext}
use Rattle.ext_algebra.specs.Algebra.{Value, scalars, algebra_meaning}
use Rattle.poly_law.specs.Polynomials.{Polynomial}
use Rattle.jet_law.specs.Canonical.{jet}
use Rattle.jet_poly.specs.JetTerms.{JetTerms}
use Rattle.jet_poly.specs.Jets.{polynomial_of}
use Rattle.normal_forms.specs.declared.pattern.Pattern.{Pattern}
use Rattle.poly_text.specs.declared.name.Name.{Name}
use Rattle.cert_text.specs.declared.report.Answer.{Answer}
use Rattle.cert_text.specs.declared.report.Phase.{Phase}
use Rattle.cert_text.specs.declared.report.Phase.TheVariants as phases
use Rattle.kill_law.specs.declared.part.Part.{Part}
use Rattle.kill_law.specs.Table.{row}
use Rattle.coord_change.specs.Moves.{Move}
use Rattle.coord_change.specs.Chains.{ChainParts, carried_in}
use Rattle.move_law.specs.Algebras.{lifted}
use Rattle.move_law.specs.Patterns.{pattern_of}
use Rattle.plan_law.specs.Outcomes as outcomes
use Rattle.plan_law.specs.Pieces.{HasHigh}
use Rattle.plan_law.specs.Run as run
use Rattle.plan_law.specs.Run.{Position, IsHighFrom, brought, brought_at, carried_by, composing_pieces, ends, extended, extending, in_end, kill_at, kill_pieces, killing, reduced, split_at, split_pieces, splitting, tested, tests}
use Rattle.determinator.specs.PartPlaces.{IsReducedPlace}
use Rattle.determinator.specs.PartSteps.{IsExtension, past_list, reaches}
use Rattle.determinator.specs.Reports.{IsReport}
use Rattle.determinator.specs.Turns.{IsOpeningHigh, in_pieces, in_step}
use Rattle.determinator.specs.declared.extending.Extension.{Extension}
use Rattle.determinator.specs.declared.extending.Extension.TheVariants as extensions
use Rattle.determinator.proofs.Chained.{carry_all_append}
use Rattle.determinator.proofs.PartPlacing.{jet_at_place}
use Rattle.determinator.proofs.Pieces.{among_left, among_right}
use Rattle.determinator.proofs.SplitLemmas.{at_jet}

module _ (n c last : ℕ) (germ : Polynomial n Rational) (a : Algebra) (p : Part) where
  -- ---- the test of the part

  module _ (o : ℕ) (moves : List (Move n (Value a))) where
    abbrev here : Polynomial n (Value a)
    here = brought n c germ a o moves

    -- the pattern that the code finds is that of the plan
    pub pattern_is : (chain : ChainParts (Ext Frac)) → IsReducedPlace n c last germ a p o moves chain → (f : JetTerms (Ext Frac)) (d : ℕ) (x : Option Pattern) → f ≡ carried_in chain → d ≡ chain.order
        → x ≡ pattern_of f.n (scalars a) p d (polynomial_of (algebra_meaning a) f) → x ≡ pattern_of n (scalars a) p o here
    pattern_is chain place f d x e k q =
        at_jet (algebra_meaning a) n o here f (jet_at_place n c last germ a o moves chain place.place f e) (λ z j w. x ≡ pattern_of z (scalars a) p o w)
        (subst (λ j. x ≡ pattern_of f.n (scalars a) p j (polynomial_of (algebra_meaning a) f)) (k ∙ place.place.chain_is.order_is) q)

    abbrev after_test : Option Pattern → run.Step n
    after_test x = elim x [
      | Some pattern ↦ ends (outcomes.outside pattern (carried_by n c germ a o moves here)) (composing_pieces a o moves)
      | None ↦ tests (reduced a p moves) here
    ]

    pub goes_to_test : (names : List Name) (chain : ChainParts (Ext Frac)) → pattern_of n (scalars a) p o here ≡ None → IsReducedPlace n c last germ a p o moves chain
        → IsExtension names n c last germ a p o (tested n c germ a o p (brought_at n c germ a o moves)) (extensions.Reduced chain)
    goes_to_test names chain e place = subst (λ x. IsExtension names n c last germ a p o (after_test x) (extensions.Reduced chain)) (sym e) (reaches place)

    pub goes_outside : (names : List Name) (pattern : Pattern) (answer : Answer) → pattern_of n (scalars a) p o here ≡ Some pattern
        → IsReport names n last germ answer (outcomes.outside pattern (carried_by n c germ a o moves here))
        → IsExtension names n c last germ a p o (tested n c germ a o p (brought_at n c germ a o moves)) (extensions.Outside answer)
    goes_outside names pattern answer e r = subst (λ x. IsExtension names n c last germ a p o (after_test x) (extensions.Outside answer)) (sym e) (past_list r)

    pub high_pattern : (pattern : Pattern) → pattern_of n (scalars a) p o here ≡ Some pattern → HasHigh phases.Finish (composing_pieces {n = n} a o moves)
        → IsHighFrom n c germ last phases.Finish o (tested n c germ a o p (brought_at n c germ a o moves))
    high_pattern pattern e h = subst (λ x. IsHighFrom n c germ last phases.Finish o (after_test x)) (sym e) (in_end h)

  -- ---- the moves of an order

  -- a position is that of its moves
  abbrev position : List (Move n (Value a)) → Polynomial n (Value a) → Position n (Value a)
  position ms f = record { moves = ms; jet = f }

  split_same : (o : ℕ) (moves : List (Move n (Value a))) → split_at n c germ a o moves ≡ brought_at n c germ a o (split_at n c germ a o moves).moves
  split_same o moves =
      ap (position (split_at n c germ a o moves).moves)
      (sym (carry_all_append n (scalars a) o moves (splitting n c germ a o (brought n c germ a o moves)) (jet n (scalars a) o (lifted a germ))))

  abbrev killed_or : Bool → ℕ → List (Move n (Value a)) → Position n (Value a)
  killed_or b o moves =
      cond b (run.moved n (scalars a) o (killing n c germ a o p (brought n c germ a o moves)) (brought_at n c germ a o moves)) (brought_at n c germ a o moves)

  killed_same : (b : Bool) (o : ℕ) (moves : List (Move n (Value a))) → killed_or b o moves ≡ brought_at n c germ a o (killed_or b o moves).moves
  killed_same true o moves =
      ap (position (moves ++ killing n c germ a o p (brought n c germ a o moves) ∷ []))
      (sym (carry_all_append n (scalars a) o moves (killing n c germ a o p (brought n c germ a o moves)) (jet n (scalars a) o (lifted a germ))))
  killed_same false o moves = refl

  -- the moves after the split move, and after the base kill
  abbrev pub split_moves : ℕ → List (Move n (Value a)) → List (Move n (Value a))
  split_moves o moves = (split_at n c germ a o moves).moves

  abbrev pub kill_moves : ℕ → List (Move n (Value a)) → List (Move n (Value a))
  kill_moves o moves = (kill_at n c germ a o p (brought_at n c germ a o (split_moves o moves))).moves

  position_same : (o : ℕ) (moves : List (Move n (Value a))) → kill_at n c germ a o p (split_at n c germ a o moves) ≡ brought_at n c germ a o (kill_moves o moves)
  position_same o moves = ap (kill_at n c germ a o p) (split_same o moves) ∙ killed_same (nat_lt (row p).degree o) o (split_moves o moves)

  pub extends : (names : List Name) (o : ℕ) (moves : List (Move n (Value a))) (r : Extension)
      → IsExtension names n c last germ a p o (tested n c germ a o p (brought_at n c germ a o (kill_moves o moves))) r → IsExtension names n c last germ a p o (extended n c germ a o p moves) r
  extends names o moves r h = subst (λ at. IsExtension names n c last germ a p o (tested n c germ a o p at) r) (sym (position_same o moves)) h

  -- ---- what is high

  pub high_in_test : (q : Phase) (o : ℕ) (moves : List (Move n (Value a))) → IsHighFrom n c germ last q o (tested n c germ a o p (brought_at n c germ a o (kill_moves o moves)))
      → IsOpeningHigh n c last germ q o (reduced a p moves)
  high_in_test q o moves h = in_step extending (subst (λ at. IsHighFrom n c germ last q o (tested n c germ a o p at)) (sym (position_same o moves)) h)

  pub high_in_split : (q : Phase) (o : ℕ) (moves : List (Move n (Value a))) → HasHigh q (split_pieces n c germ a o moves) → IsOpeningHigh n c last germ q o (reduced a p moves)
  high_in_split q o moves h = in_pieces (among_left _ (split_pieces n c germ a o moves) (kill_pieces n c germ a o p (split_at n c germ a o moves).jet) h)

  pub high_in_kill : (q : Phase) (o : ℕ) (moves : List (Move n (Value a))) → HasHigh q (kill_pieces n c germ a o p (brought n c germ a o (split_moves o moves)))
      → IsOpeningHigh n c last germ q o (reduced a p moves)
  high_in_kill q o moves h =
      in_pieces (among_right _ (split_pieces n c germ a o moves) (kill_pieces n c germ a o p (split_at n c germ a o moves).jet)
      (subst (λ (at : Position n (Value a)). HasHigh q (kill_pieces n c germ a o p at.jet)) (sym (split_same o moves)) h))
