-- A move more after a finish under way: the composite of its moves, and when that is high.
use Rattle.std.proofs.Common.{◌≡◌, ℕ, zero, suc, ◌<◌, ◌≤◌, ◌⊎◌, inl, inr, Option, Some, List, [], ◌∷◌, ◌++◌, length, map, All, take_all, refl, sym, ap, ap₂, subst, ◌∙◌, arith}
use Rattle.std.specs.Prelude.{Result, Ok, Err, IfOk}
use Rattle.ring_law.specs.declared.fraction.Fault.{Fault}
use Rattle.ring_theory.specs.Scalars.{Scalars, ScalarLaws, Meaning}
use Rattle.poly_law.specs.Poly.{coefficient}
use Rattle.poly_law.specs.ExpList.{exps}
use Rattle.poly_law.specs.Polynomials.{SameIn, HaveNoConstant, cut_in, substitute}
use Rattle.jet_law.specs.Canonical.{jet}
use Rattle.jet_law.specs.Terms.{poly_of}
use Rattle.jet_poly.specs.JetTerms.{JetTerms, IsRising}
use Rattle.jet_poly.specs.Jets.{IsJet}
use Rattle.jet_subst.specs.Parts.{part_of}
use Rattle.jet_subst.specs.Substitutions.{IsSubstHigh}
use Rattle.lin_row.specs.Plain.{Among}
use Rattle.coord_change.specs.declared.change.Change.{Change}
use Rattle.coord_change.specs.Changes.{IsChange, IsCompositionHigh}
use Rattle.coord_change.specs.Moves.{Move, move_from, put}
use Rattle.coord_change.specs.Carries.{carry, compose, compose_all, composite}
use Rattle.coord_change.specs.CarryHeights.{IsCarryHigh, IsComposeHigh}
use Rattle.coord_change.specs.MoveJets.{IsJetFor, IsMoveExactly}
use Rattle.coord_change.proofs.Canonicals
use Rattle.coord_change.proofs.CompositeLemmas
use Rattle.coord_change.proofs.CompositeLemmas.{composed_to}
use Rattle.kill_table.specs.Moves.{IsMoveTo}
use Rattle.move_law.specs.Moves.{made}
use Rattle.move_law.specs.Work as work
use Rattle.move_law.specs.Work.{Work, IsWorkHigh, composing_from, composing_work}
use Rattle.move_law.specs.Finish.{Finishing, with_move}
use Rattle.split_lemma.specs.Splits.{AnyHigh}
use Rattle.split_lemma.proofs.CompletedTerms.{among_left, among_right}
use Rattle.rules_corank2.specs.declared.finish_state.Finishing as code
use Rattle.rules_corank2.specs.Finishes.{IsCompositeOf, IsUnderWay, IsFinishingHigh}
use Rattle.rules_corank2.proofs.FinishHeights.{carry-truncated, high_truncated, compose_high, put_same}

all-more : {X : Type 0} (P : X → Type 0) (xs : List X) (y : X) → All P xs → P y → All P (xs ++ y ∷ [])
all-more P [] y a h zero d g = h
all-more P [] y a h (suc i) d g = absurd (omega arith)
all-more P (x ∷ xs) y a h zero d g = a 0 d (omega arith)
all-more P (x ∷ xs) y a h (suc i) d g = all-more P xs y (λ j e f. a (suc j) e (omega arith)) h i d (omega arith)

module _ {V : Type 0} (n : ℕ) (s : Scalars V) (k : ℕ) where
  compose_all-last : (first : Move n V) (ms : List (Move n V)) (m : Move n V) → compose_all n s k first (ms ++ m ∷ []) ≡ compose n s k (compose_all n s k first ms) m
  compose_all-last first [] m = refl
  compose_all-last first (x ∷ ms) m = compose_all-last (compose n s k first x) ms m

  composing_from-last : (first : Move n V) (ms : List (Move n V)) (m : Move n V) → composing_from n s k first (ms ++ m ∷ []) ≡ composing_from n s k first ms ++ work.composed k (compose_all n s k first ms) m ∷ []
  composing_from-last first [] m = refl
  composing_from-last first (x ∷ ms) m = ap (λ z. work.composed k first x ∷ z) (composing_from-last (compose n s k first x) ms m)

  -- the composite of one move more
  composite-last : (ms : List (Move n V)) (m : Move n V) → 0 < length ms → composite n s k (ms ++ m ∷ []) ≡ compose n s k (composite n s k ms) m
  unfolding composite
  composite-last [] m h = absurd (omega arith)
  composite-last (x ∷ ms) m h = compose_all-last (map (jet n s k) x) ms m

  composite-one : (m : Move n V) → composite n s k (m ∷ []) ≡ map (jet n s k) m
  unfolding composite
  composite-one m = refl

  map-same : {X Y : Type 0} (f g : X → Y) → ((x : X) → f x ≡ g x) → (xs : List X) → map f xs ≡ map g xs
  map-same f g e [] = refl
  map-same f g e (x ∷ xs) = ap₂ (λ y ys. y ∷ ys) (e x) (map-same f g e xs)

  compose-truncated : ScalarLaws s → (first next : Move n V) → compose n s k first (map (jet n s k) next) ≡ compose n s k first next
  unfolding compose
  compose-truncated l first next = map-same (carry n s k (map (jet n s k) next)) (carry n s k next) (carry-truncated n s l k next) first

  -- composing with a further move is high
  composing_high : ScalarLaws s → 1 ≤ k → (ms : List (Move n V)) (m : Move n V) → 0 < length ms → All (λ mv. HaveNoConstant n s.ops n (put n s mv)) ms → HaveNoConstant n s.ops n (put n s m)
      → IsComposeHigh n s k (composite n s k ms) (map (jet n s k) m) → AnyHigh n s (composing_work n s k (ms ++ m ∷ []))
  composing_high l one [] m h lows low high = absurd (omega arith)
  composing_high l one (x ∷ ms) m h lows low high =
      let raw : Move n V = compose_all n s k x ms in
      let same : map (jet n s k) raw ≡ composite n s k (x ∷ ms) =
      ap (λ z. map (jet n s k) (compose_all n s k x z)) (sym (take_all (length ms) ms (omega arith)))
      ∙ CompositeLemmas.composite_of_all n s l k (length ms) (x ∷ ms) (omega arith) (omega arith) lows in
      subst (AnyHigh n s) (sym (composing_from-last x ms m))
      (among_right (IsWorkHigh n s) (composing_from n s k x ms) (work.composed k raw m ∷ [])
      (inl (compose_high n s l k one raw m low (subst (λ z. IsComposeHigh n s k z (map (jet n s k) m)) (sym same) high))))

  -- what is high stays so with a further move
  composing_more : (ms : List (Move n V)) (m : Move n V) → AnyHigh n s (composing_work n s k ms) → AnyHigh n s (composing_work n s k (ms ++ m ∷ []))
  composing_more [] m high = absurd high
  composing_more (x ∷ ms) m high =
      subst (AnyHigh n s) (sym (composing_from-last x ms m)) (among_left (IsWorkHigh n s) (composing_from n s k x ms) (work.composed k (compose_all n s k x ms) m ∷ []) high)

module _ {E V : Type 0} (m : Meaning E V) (l : ScalarLaws m.scalars) (n k : ℕ) where
  -- what a move puts has no constant terms where what its change puts has none
  pub low_move : (move : Move n V) (c : Change E) → IsMoveTo m n k move c → HaveNoConstant n m.scalars.ops n (put n m.scalars move)
  low_move move c to i h b d =
      sym (put_same n m.scalars l k move i b (omega arith))
      ∙ ap (λ z. coefficient (exps n) m.scalars.ops (put n m.scalars z i) b) (sym to.parts)
      ∙ CompositeLemmas.no_constant m n c to.change to.variables i h b d

  module _ (moves : List (Move n V)) (move : Move n V) (next : Change E) (to : IsMoveTo m n k move next) where
    -- the first move
    pub composed_first : moves ≡ [] → IsMoveExactly m n k (composite n m.scalars k (moves ++ move ∷ [])) next
    composed_first e =
        subst (λ z. IsMoveExactly m n k z next) (sym (composite-one n m.scalars k move) ∙ ap (λ ms. composite n m.scalars k (ms ++ move ∷ [])) (sym e)) to

    module _ (first : Change E) (of : IsCompositeOf m n k moves (Some first)) where
      -- a further move
      pub composed_next : (c : Change E) → IsChange m c → c.n ≡ first.n → c.order ≡ k → move_from m first.n c ≡ compose first.n m.scalars k (move_from m first.n first) (move_from m first.n next)
          → IsMoveExactly m n k (composite n m.scalars k (moves ++ move ∷ [])) c
      composed_next c q en eo e = record {
        change = q;
        variables = en ∙ of.1.variables;
        order = eo;
        parts =
            subst (λ z. move_from m z c ≡ compose z m.scalars k (move_from m z first) (move_from m z next)) of.1.variables e
            ∙ ap₂ (compose n m.scalars k) of.1.parts to.parts
            ∙ compose-truncated n m.scalars k l (composite n m.scalars k moves) move
            ∙ sym (composite-last n m.scalars k moves move of.0);
      }

      pub composed_high : 1 ≤ k → All (λ mv. HaveNoConstant n m.scalars.ops n (put n m.scalars mv)) moves → IsCompositionHigh m k first next → AnyHigh n m.scalars (composing_work n m.scalars k (moves ++ move ∷ []))
      composed_high one lows high =
          composing_high n m.scalars k l one moves move of.0 lows (low_move move next to)
          (subst (λ z. IsComposeHigh n m.scalars k z (map (jet n m.scalars k) move)) of.1.parts
          (subst (λ z. IsComposeHigh n m.scalars k (move_from m n first) z) to.parts
          (CompositeLemmas.composition_high m n k first next of.1.change to.change of.1.variables to.variables high)))

pub among_cases : {X : Type 0} (P : X → Type 0) (xs ys : List X) → Among P (xs ++ ys) → Among P xs ⊎ Among P ys
among_cases P [] ys h = inr h
among_cases P (x ∷ xs) ys (inl h) = inl (inl h)
among_cases P (x ∷ xs) ys (inr h) = elim (among_cases P xs ys h) [ inl a ↦ inl (inr a) | inr b ↦ inr b ]

pub composing_grows : {V : Type 0} (n : ℕ) (s : Scalars V) (o : ℕ) (g : Finishing n V) (move : Move n V) (finding : List (Work n V)) → IsFinishingHigh n s o g → IsFinishingHigh n s o (with_move n s o finding move g)
composing_grows n s o g move finding high = elim (among_cases (IsWorkHigh n s) g.works (composing_work n s o g.moves) high) [
  | inl a ↦ among_left (IsWorkHigh n s) (with_move n s o finding move g).works (composing_work n s o (g.moves ++ made n s move ∷ []))
      (among_left (IsWorkHigh n s) (g.works ++ finding) (work.inverted (made n s move) ∷ work.carried o (made n s move) g.form ∷ []) (among_left (IsWorkHigh n s) g.works finding a))
  | inr b ↦ among_right (IsWorkHigh n s) (with_move n s o finding move g).works (composing_work n s o (g.moves ++ made n s move ∷ [])) (composing_more n s o g.moves (made n s move) b)
]

-- a move as it is made, up to a degree of at most 16
pub made_to : {E V : Type 0} (m : Meaning E V) → ScalarLaws m.scalars → (n o : ℕ) → o ≤ 16 → (move : Move n V) (c : Change E) → IsMoveTo m n o move c → IsMoveTo m n o (made n m.scalars move) c
made_to {E} {V} m l n o h move c to = subst (λ z. IsMoveExactly m n o z c) (sym (map-jets move)) to
  where
    map-jets : (ps : Move n V) → map (jet n m.scalars o) (map (jet n m.scalars 16) ps) ≡ map (jet n m.scalars o) ps
    map-jets [] = refl
    map-jets (q ∷ ps) = ap₂ (λ x xs. x ∷ xs) (Canonicals.jet-jet n m.scalars l o 16 h q) (map-jets ps)

-- ---- a finish with a move more

module _ {E V : Type 0} (m : Meaning E V) (l : ScalarLaws m.scalars) (n o : ℕ) (g : Finishing n V) (move : Move n V) (finding : List (Work n V)) where
  -- composing the moves is high
  pub moved_composing_high : AnyHigh n m.scalars (composing_work n m.scalars o (g.moves ++ made n m.scalars move ∷ [])) → IsFinishingHigh n m.scalars o (with_move n m.scalars o finding move g)
  moved_composing_high high = among_right (IsWorkHigh n m.scalars) (with_move n m.scalars o finding move g).works (composing_work n m.scalars o (g.moves ++ made n m.scalars move ∷ [])) high

  -- an operation of the finding is
  pub moved_finding_high : AnyHigh n m.scalars finding → IsFinishingHigh n m.scalars o (with_move n m.scalars o finding move g)
  moved_finding_high high =
      among_left (IsWorkHigh n m.scalars) (with_move n m.scalars o finding move g).works (composing_work n m.scalars o (g.moves ++ made n m.scalars move ∷ []))
      (among_left (IsWorkHigh n m.scalars) (g.works ++ finding) (work.inverted (made n m.scalars move) ∷ work.carried o (made n m.scalars move) g.form ∷ []) (among_right (IsWorkHigh n m.scalars) g.works finding high))

  -- the inverse of the linear part, or carrying the jet, is
  pub moved_last_high : AnyHigh n m.scalars (work.inverted (made n m.scalars move) ∷ work.carried o (made n m.scalars move) g.form ∷ []) → IsFinishingHigh n m.scalars o (with_move n m.scalars o finding move g)
  moved_last_high high =
      among_left (IsWorkHigh n m.scalars) (with_move n m.scalars o finding move g).works (composing_work n m.scalars o (g.moves ++ made n m.scalars move ∷ []))
      (among_right (IsWorkHigh n m.scalars) (g.works ++ finding) (work.inverted (made n m.scalars move) ∷ work.carried o (made n m.scalars move) g.form ∷ []) high)

  pub moved_carrying_high : (c : Change E) → IsMoveTo m n o (made n m.scalars move) c → IsCarryHigh n m.scalars o (move_from m n c) g.form → IsFinishingHigh n m.scalars o (with_move n m.scalars o finding move g)
  moved_carrying_high c to high = moved_last_high (inr (inl (high_truncated n m.scalars l o (made n m.scalars move) g.form (subst (λ z. IsCarryHigh n m.scalars o z g.form) to.parts high))))

  -- what the program keeps then
  pub moved_is : (state next : code.Finishing E) (c d : Change E) → IsUnderWay m n o g state → IsMoveTo m n o (made n m.scalars move) c → IsJetFor m n o (carry n m.scalars o (move_from m n c) g.form) next.form
      → next.change ≡ Some d → IsMoveExactly m n o (composite n m.scalars o (g.moves ++ made n m.scalars move ∷ [])) d → IsUnderWay m n o (with_move n m.scalars o finding move g) next
  moved_is state next c d is to jet change exactly = record {
    given = is.given;
    at_most_8_variables = is.at_most_8_variables;
    order_at_least_2 = is.order_at_least_2;
    order_at_most_16 = is.order_at_most_16;
    form = subst (λ p. IsJetFor m n o p next.form) (ap (λ z. carry n m.scalars o z g.form) to.parts ∙ carry-truncated n m.scalars l o (made n m.scalars move) g.form) jet;
    change = subst (IsCompositeOf m n o (g.moves ++ made n m.scalars move ∷ [])) (sym change) (longer g.moves, exactly);
    no_constants = all-more (λ mv. HaveNoConstant n m.scalars.ops n (put n m.scalars mv)) g.moves (made n m.scalars move) is.no_constants (low_move m l n o (made n m.scalars move) c to);
  }
    where
      longer : (ms : List (Move n V)) → 0 < length (ms ++ made n m.scalars move ∷ [])
      longer [] = omega arith
      longer (x ∷ ms) = omega arith

-- ---- the calls that make a move more

module _ {E V : Type 0} (m : Meaning E V) (l : ScalarLaws m.scalars) (n k : ℕ) (first next : Change E) (all : Option (Change E)) (given : all ≡ Some first) where
  -- the composite of the moves and the next one
  pub composed_ok : (r : Result (Change E) Fault) → IfOk r (IsChange m) → IfOk r (λ c. c.n ≡ first.n) → IfOk r (λ c. c.order ≡ k)
      → IfOk r (λ c. move_from m first.n c ≡ compose first.n m.scalars k (move_from m first.n first) (move_from m first.n next))
      → IfOk r (λ c. (moves : List (Move n V)) (move : Move n V) → IsCompositeOf m n k moves all → IsMoveTo m n k move next → IsMoveExactly m n k (composite n m.scalars k (moves ++ move ∷ [])) c)
  composed_ok (Ok c) q en eo e = λ moves move of to. composed_next m l n k moves move next to first (subst (IsCompositeOf m n k moves) given of) c q en eo e
  composed_ok (Err x) q en eo e = tt

  pub composed_fault : 1 ≤ k → IsCompositionHigh m k first next → (moves : List (Move n V)) (move : Move n V) → All (λ mv. HaveNoConstant n m.scalars.ops n (put n m.scalars mv)) moves
      → IsCompositeOf m n k moves all → IsMoveTo m n k move next → AnyHigh n m.scalars (composing_work n m.scalars k (moves ++ move ∷ []))
  composed_fault one high moves move lows of to = composed_high m l n k moves move next to first (subst (IsCompositeOf m n k moves) given of) one lows high

module _ {E V : Type 0} (m : Meaning E V) (l : ScalarLaws m.scalars) (n o : ℕ) (state : code.Finishing E) (c : Change E) (g : Finishing n V) (move : Move n V) (finding : List (Work n V))
    (is : IsUnderWay m n o g state) (plain : IsMoveTo m n o move c) where
  to : IsMoveTo m n o (made n m.scalars move) c
  to = made_to m l n o is.order_at_most_16 move c plain

  -- carrying the jet is high
  pub carry_fault : (k : ℕ) → k ≡ o → c.n ≡ n → IsSubstHigh (exps c.n) (exps c.n) m.scalars k (part_of c.n m.value c.parts) (poly_of c.n m.value state.form.terms) → IsFinishingHigh n m.scalars o (with_move n m.scalars o finding move g)
  carry_fault k e en high =
      moved_carrying_high m l n o g move finding c to
      (subst (λ f. IsSubstHigh (exps n) (exps n) m.scalars o (put n m.scalars (move_from m n c)) f) is.form.polynomial
      (subst (λ parts. IsSubstHigh (exps n) (exps n) m.scalars o parts (poly_of n m.value state.form.terms)) (sym (Canonicals.put-move_from m n c))
      (subst (λ z. IsSubstHigh (exps z) (exps z) m.scalars o (part_of z m.value c.parts) (poly_of z m.value state.form.terms)) en
      (subst (λ z. IsSubstHigh (exps c.n) (exps c.n) m.scalars z (part_of c.n m.value c.parts) (poly_of c.n m.value state.form.terms)) e high))))

  -- the state with the carried jet and the composite
  pub moved_ok : (k : ℕ) → k ≡ o → c.n ≡ n → (h : JetTerms E) → IsJet m h → h.n ≡ c.n → h.order ≡ k → IsRising h.terms
      → SameIn c.n m.scalars.ops (poly_of c.n m.value h.terms) (cut_in c.n m.scalars.ops k (substitute c.n c.n m.scalars.ops (part_of c.n m.value c.parts) (poly_of c.n m.value state.form.terms)))
      → (d : Change E) → IsMoveExactly m n k (composite n m.scalars k (g.moves ++ made n m.scalars move ∷ [])) d → IsUnderWay m n o (with_move n m.scalars o finding move g) (record { change = Some d; form = h })
  moved_ok k e en h j eh eo rises value d exactly =
      moved_is m l n o g move finding state (record { change = Some d; form = h }) c d is to
      (subst (λ f. IsJetFor m n o (carry n m.scalars o (move_from m n c) f) h) is.form.polynomial
      (subst (λ z. IsJetFor m n z (carry n m.scalars z (move_from m n c) (poly_of n m.value state.form.terms)) h) e
      (Canonicals.carried_for m n l k c (poly_of n m.value state.form.terms) h j (eh ∙ en) eo rises
      (subst (λ z. SameIn z m.scalars.ops (poly_of z m.value h.terms) (cut_in z m.scalars.ops k (substitute z z m.scalars.ops (part_of z m.value c.parts) (poly_of z m.value state.form.terms)))) en value))))
      refl (subst (λ z. IsMoveExactly m n z (composite n m.scalars z (g.moves ++ made n m.scalars move ∷ [])) d) e exactly)

  -- composing the moves is high
  pub composing_fault : (k : ℕ) → k ≡ o → (h : ℕ) → h ≡ n
      → ((moves : List (Move h V)) (mv : Move h V) → All (λ w. HaveNoConstant h m.scalars.ops h (put h m.scalars w)) moves → IsCompositeOf m h k moves state.change → IsMoveTo m h k mv c
      → AnyHigh h m.scalars (composing_work h m.scalars k (moves ++ mv ∷ []))) → IsFinishingHigh n m.scalars o (with_move n m.scalars o finding move g)
  composing_fault k e h eh f =
      moved_composing_high m l n o g move finding
      (subst (λ z. (moves : List (Move z V)) (mv : Move z V) → All (λ w. HaveNoConstant z m.scalars.ops z (put z m.scalars w)) moves → IsCompositeOf m z o moves state.change → IsMoveTo m z o mv c
      → AnyHigh z m.scalars (composing_work z m.scalars o (moves ++ mv ∷ []))) eh
      (subst (λ z. (moves : List (Move h V)) (mv : Move h V) → All (λ w. HaveNoConstant h m.scalars.ops h (put h m.scalars w)) moves → IsCompositeOf m h z moves state.change → IsMoveTo m h z mv c
      → AnyHigh h m.scalars (composing_work h m.scalars z (moves ++ mv ∷ []))) e f) g.moves (made n m.scalars move) is.no_constants is.change to)

  -- the composite with the move
  pub composing_ok : (k : ℕ) → k ≡ o → (h : ℕ) → h ≡ n → (d : Change E)
      → ((moves : List (Move h V)) (mv : Move h V) → IsCompositeOf m h k moves state.change → IsMoveTo m h k mv c → IsMoveExactly m h k (composite h m.scalars k (moves ++ mv ∷ [])) d)
      → IsMoveExactly m n k (composite n m.scalars k (g.moves ++ made n m.scalars move ∷ [])) d
  composing_ok k e h eh d f =
      subst (λ z. (moves : List (Move z V)) (mv : Move z V) → IsCompositeOf m z k moves state.change → IsMoveTo m z k mv c → IsMoveExactly m z k (composite z m.scalars k (moves ++ mv ∷ [])) d) eh f g.moves (made n m.scalars move)
      (subst (λ z. IsCompositeOf m n z g.moves state.change) (sym e) is.change) (subst (λ z. IsMoveTo m n z (made n m.scalars move) c) (sym e) to)
