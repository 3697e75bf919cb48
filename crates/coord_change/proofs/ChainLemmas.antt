-- Chains: a move more, an order more, and the composite of the moves.
use Rattle.std.proofs.Common.{◌≡◌, ℕ, zero, suc, ◌+◌, ◌<◌, ◌≤◌, ◌⊎◌, inl, inr, Bool, true, eqb, eqb-true, List, [], ◌∷◌, ◌++◌, map, length, get_or, take, take_all, length-append, length-take-le, All, refl, sym, ap, ap₂, subst, ◌∙◌, arith}
use Rattle.std.proofs.lemmas.List.{take_more}
use Rattle.ring_theory.specs.Scalars.{Scalars, ScalarLaws, Meaning}
use Rattle.poly_law.specs.Polynomials.{Polynomial, StartsAtIn}
use Rattle.poly_law.proofs.LawsOverRings as over_rings
use Rattle.jet_law.specs.Terms.{poly_of}
use Rattle.jet_law.specs.Canonical.{jet}
use Rattle.jet_poly.specs.JetTerms.{JetTerms}
use Rattle.jet_subst.specs.Parts.{jet_at}
use Rattle.jet_subst.proofs.PowerLemmas.{at-append, at-last}
use Rattle.jet_subst.proofs.Tables.{at-map, length-mapped}
use Rattle.coord_change.specs.declared.change.Change.{Change}
use Rattle.coord_change.specs.Changes.{IsChange}
use Rattle.coord_change.specs.Moves.{Move, move_from}
use Rattle.coord_change.specs.Carries.{carry, carry_all}
use Rattle.coord_change.specs.CarryHeights.{IsCarryHigh, IsCarryAllHigh}
use Rattle.coord_change.specs.MoveJets.{IsJetFor, IsMoveExactly}
use Rattle.coord_change.specs.Chains.{ChainParts, IsMoveFrom, AreMoves, IsChain, AreCarried}
use Rattle.coord_change.proofs.Canonicals.{jet-jet}

take-front : {X : Type 0} (i : ℕ) (xs : List X) (y : X) → i ≤ length xs → take i (xs ++ y ∷ []) ≡ take i xs
take-front zero xs y h = refl
take-front (suc i) [] y h = absurd (omega arith)
take-front (suc i) (x ∷ xs) y h = ap (λ zs. x ∷ zs) (take-front i xs y (omega arith))

pub none_left : {X : Type 0} (xs : List X) (b : Bool) → b ≡ eqb (length xs) 0 → b ≡ true → xs ≡ []
none_left [] b e h = refl
none_left (x ∷ xs) b e h = let z = eqb-true (length (x ∷ xs)) 0 (sym e ∙ h) in absurd (omega arith)

up_to_or_more : (i n : ℕ) → (i ≤ n) ⊎ (n < i)
up_to_or_more i n = grind arith

module _ {V : Type 0} (n : ℕ) (s : Scalars V) where
  -- one move more
  pub carry_all-next : (k i : ℕ) (ms : List (Move n V)) (mv : Move n V) → i < length ms → mv ≡ get_or ms i mv → (f : Polynomial n V)
      → carry_all n s k (take (suc i) ms) f ≡ carry n s k mv (carry_all n s k (take i ms) f)
  carry_all-next k i [] mv h e f = absurd (omega arith)
  carry_all-next k zero (m ∷ ms) mv h e f = ap (λ z. carry n s k z f) (sym e)
  carry_all-next k (suc i) (m ∷ ms) mv h e f = carry_all-next k i ms mv (omega arith) e (carry n s k m f)

  pub carry_all-last : (k : ℕ) (ms : List (Move n V)) (mv : Move n V) (f : Polynomial n V) → carry_all n s k (ms ++ mv ∷ []) f ≡ carry n s k mv (carry_all n s k ms f)
  carry_all-last k [] mv f = refl
  carry_all-last k (m ∷ ms) mv f = carry_all-last k ms mv (carry n s k m f)

  -- a substitution on the way is high
  pub high_at : (k i : ℕ) (ms : List (Move n V)) (mv : Move n V) → i < length ms → mv ≡ get_or ms i mv → (f : Polynomial n V) → IsCarryHigh n s k mv (carry_all n s k (take i ms) f) → IsCarryAllHigh n s k ms f
  high_at k i [] mv h e f high = absurd (omega arith)
  high_at k zero (m ∷ ms) mv h e f high = inl (subst (λ z. IsCarryHigh n s k z f) e high)
  high_at k (suc i) (m ∷ ms) mv h e f high = inr (high_at k i ms mv (omega arith) e (carry n s k m f) high)

module _ {E V : Type 0} (m : Meaning E V) (n : ℕ) where
  abbrev moves_of : List (Change E) → List (Move n V)
  moves_of cs = map (move_from m n) cs

  -- the moves are those of the changes
  pub moves_are : (last : ℕ) (ms : List (Move n V)) (cs : List (Change E)) → AreMoves m n last ms cs → moves_of cs ≡ ms
  moves_are last [] [] a = refl
  moves_are last [] (c ∷ cs) a = absurd a
  moves_are last (mv ∷ ms) [] a = absurd a
  moves_are last (mv ∷ ms) (c ∷ cs) a = ap₂ (λ x y. x ∷ y) a.0.exactly.parts (moves_are last ms cs a.1)

  pub moves_count : (last : ℕ) (ms : List (Move n V)) (cs : List (Change E)) → AreMoves m n last ms cs → length cs ≡ length ms
  moves_count last [] [] a = refl
  moves_count last [] (c ∷ cs) a = absurd a
  moves_count last (mv ∷ ms) [] a = absurd a
  moves_count last (mv ∷ ms) (c ∷ cs) a = ap suc (moves_count last ms cs a.1)

  moves_push : (last : ℕ) (ms : List (Move n V)) (cs : List (Change E)) (mv : Move n V) (c : Change E) → AreMoves m n last ms cs → IsMoveFrom m n last mv c → AreMoves m n last (ms ++ mv ∷ []) (cs ++ c ∷ [])
  moves_push last [] [] mv c a h = (h, tt)
  moves_push last [] (d ∷ cs) mv c a h = absurd a
  moves_push last (w ∷ ms) [] mv c a h = absurd a
  moves_push last (w ∷ ms) (d ∷ cs) mv c a h = (a.0, moves_push last ms cs mv c a.1 h)

  each_move : (last : ℕ) (P : Change E → Type 0) → ((mv : Move n V) (c : Change E) → IsMoveFrom m n last mv c → P c) → (ms : List (Move n V)) (cs : List (Change E)) → AreMoves m n last ms cs → All P cs
  each_move last P f [] [] a i d h = absurd (omega arith)
  each_move last P f [] (c ∷ cs) a i d h = absurd a
  each_move last P f (mv ∷ ms) [] a i d h = absurd a
  each_move last P f (mv ∷ ms) (c ∷ cs) a zero d h = f mv c a.0
  each_move last P f (mv ∷ ms) (c ∷ cs) a (suc i) d h = each_move last P f ms cs a.1 i d (omega arith)

  pub changes : (last : ℕ) (ms : List (Move n V)) (cs : List (Change E)) → AreMoves m n last ms cs → All (IsChange m) cs
  changes last ms cs a = each_move last (IsChange m) (λ mv c q. q.exactly.change) ms cs a

  pub variables : (last : ℕ) (ms : List (Move n V)) (cs : List (Change E)) → AreMoves m n last ms cs → All (λ c. c.n ≡ n) cs
  variables last ms cs a = each_move last (λ c. c.n ≡ n) (λ mv c q. q.exactly.variables) ms cs a

  -- the last jet
  pub last_jet : (k : ℕ) (ms : List (Move n V)) (f : Polynomial n V) (jets : List (JetTerms E)) → AreCarried m n k ms f jets → IsJetFor m n k (carry_all n m.scalars k ms f) (jet_at jets (length ms))
  last_jet k ms f jets a = subst (λ z. IsJetFor m n k (carry_all n m.scalars k z f) (jet_at jets (length ms))) (take_all (length ms) ms (omega arith)) (a.each (length ms) (omega arith))

  -- one move more
  pub carried_push : (k : ℕ) (ms : List (Move n V)) (f : Polynomial n V) (jets : List (JetTerms E)) (mv : Move n V) (h : JetTerms E) → AreCarried m n k ms f jets → IsJetFor m n k (carry n m.scalars k mv (carry_all n m.scalars k ms f)) h
      → AreCarried m n k (ms ++ mv ∷ []) f (jets ++ h ∷ [])
  carried_push k ms f jets mv h a new = record {
    count = let x = length-append jets (h ∷ []) in let y = length-append ms (mv ∷ []) in let z = a.count in omega arith;
    each = λ i b. elim (up_to_or_more i (length ms)) [
      | inl low ↦
          subst (λ (u : JetTerms E). IsJetFor m n k (carry_all n m.scalars k (take i (ms ++ mv ∷ [])) f) u) (sym (at-append jets h _ i (let z = a.count in omega arith)))
          (subst (λ z. IsJetFor m n k (carry_all n m.scalars k z f) (jet_at jets i)) (sym (take-front i ms mv low)) (a.each i low))
      | inr high ↦
          let w = length-append ms (mv ∷ []) in
          let at : i ≡ length jets = let z = a.count in omega arith in
          subst (λ (u : JetTerms E). IsJetFor m n k (carry_all n m.scalars k (take i (ms ++ mv ∷ [])) f) u) (sym (ap (λ z. jet_at (jets ++ h ∷ []) z) at ∙ at-last jets h _))
          (subst (λ z. IsJetFor m n k (carry_all n m.scalars k z f) h) (sym (take_all i (ms ++ mv ∷ []) (omega arith)))
          (subst (λ p. IsJetFor m n k p h) (sym (carry_all-last n m.scalars k ms mv f)) new))
    ];
  }

  -- the jet that the first i moves make
  pub before_is : (k i : ℕ) (cs : List (Change E)) (f : Polynomial n V) (jets : List (JetTerms E)) → i ≤ length cs → AreCarried m n k (take i (moves_of cs)) f jets → IsJetFor m n k (carry_all n m.scalars k (take i (moves_of cs)) f) (jet_at jets i)
  before_is k i cs f jets h a =
      subst (λ z. IsJetFor m n k (carry_all n m.scalars k (take i (moves_of cs)) f) (jet_at jets z)) (length-take-le i (moves_of cs) (let y = length-mapped (move_from m n) cs in omega arith))
      (last_jet k (take i (moves_of cs)) f jets a)

  pub place_inside : (k i : ℕ) (cs : List (Change E)) (f : Polynomial n V) (jets : List (JetTerms E)) → i ≤ length cs → AreCarried m n k (take i (moves_of cs)) f jets → i < length jets
  place_inside k i cs f jets h a = let x = a.count in let z = length-take-le i (moves_of cs) (let y = length-mapped (move_from m n) cs in omega arith) in omega arith

  -- what is said of the jet that the first i moves make is said of it as the program has it
  pub at_move_back : (k i : ℕ) (cs : List (Change E)) (change : Change E) (f : Polynomial n V) (jets : List (JetTerms E)) (before : JetTerms E) → i ≤ length cs → change.n ≡ n → before ≡ jet_at jets i
      → AreCarried m n k (take i (moves_of cs)) f jets → (P : (z : ℕ) → Move z V → Polynomial z V → Type 0) → P n (move_from m n change) (carry_all n m.scalars k (take i (moves_of cs)) f) → P change.n (move_from m change.n change) (poly_of change.n m.value before.terms)
  at_move_back k i cs change f jets before inside en here a P p =
      subst (λ z. P z (move_from m z change) (poly_of z m.value before.terms)) (sym en)
      (subst (P n (move_from m n change)) (sym (ap (λ (u : JetTerms E). poly_of n m.value u.terms) here ∙ (before_is k i cs f jets inside a).polynomial)) p)

  module _ (k i : ℕ) (cs : List (Change E)) (change : Change E) (f : Polynomial n V) (jets : List (JetTerms E)) (before : JetTerms E) (inside : i < length cs) (read : change ≡ get_or cs i change) (en : change.n ≡ n)
      (here : before ≡ jet_at jets i) (a : AreCarried m n k (take i (moves_of cs)) f jets) where
    at_move : (P : (z : ℕ) → Move z V → Polynomial z V → Type 0) → P change.n (move_from m change.n change) (poly_of change.n m.value before.terms) → P n (move_from m n change) (carry_all n m.scalars k (take i (moves_of cs)) f)
    at_move P p =
        subst (P n (move_from m n change)) (ap (λ (u : JetTerms E). poly_of n m.value u.terms) here ∙ (before_is k i cs f jets (omega arith) a).polynomial)
        (subst (λ z. P z (move_from m z change) (poly_of z m.value before.terms)) en p)

    pub carried_next : (h : JetTerms E) → IsJetFor m change.n k (carry change.n m.scalars k (move_from m change.n change) (poly_of change.n m.value before.terms)) h → AreCarried m n k (take (i + 1) (moves_of cs)) f (jets ++ h ∷ [])
    carried_next h j =
        subst (λ ms. AreCarried m n k ms f (jets ++ h ∷ [])) (sym (take_more (moves_of cs) i (move_from m n change) (let y = length-mapped (move_from m n) cs in omega arith) ∙ ap (λ z. take i (moves_of cs) ++ z ∷ []) (at-map (move_from m n) cs i change inside read (move_from m n change))))
        (carried_push k (take i (moves_of cs)) f jets (move_from m n change) h a (at_move (λ z w p. IsJetFor m z k (carry z m.scalars k w p) h) j))

    pub high_next : IsCarryHigh change.n m.scalars k (move_from m change.n change) (poly_of change.n m.value before.terms) → IsCarryAllHigh n m.scalars k (moves_of cs) f
    high_next high =
        high_at n m.scalars k i (moves_of cs) (move_from m n change) (let y = length-mapped (move_from m n) cs in omega arith) (sym (at-map (move_from m n) cs i change inside read (move_from m n change))) f
        (at_move (λ z w p. IsCarryHigh z m.scalars k w p) high)

  pub carried_first : (k : ℕ) (f : Polynomial n V) (h : JetTerms E) → IsJetFor m n k f h → AreCarried m n k [] f (h ∷ [])
  carried_first k f h j = record { count = refl; each = λ i b. subst (λ z. IsJetFor m n k (carry_all n m.scalars k (take z []) f) (jet_at (h ∷ []) z)) (let e : 0 ≡ i = omega arith in e) j }

  pub carried_is : (last o : ℕ) (g : Polynomial n V) (ms : List (Move n V)) (c : ChainParts E) → IsChain m n last g o ms c → IsJetFor m n o (carry_all n m.scalars o ms (jet n m.scalars o g)) (jet_at c.jets (length c.moves))
  carried_is last o g ms c q =
      subst (λ i. IsJetFor m n o (carry_all n m.scalars o ms (jet n m.scalars o g)) (jet_at c.jets i)) (sym (moves_count last ms c.moves q.moves_are))
      (last_jet o ms (jet n m.scalars o g) c.jets (record { count = q.count; each = q.jets_are }))

  -- what is said of the changes is said of the moves
  pub as_moves : (last o : ℕ) (g : Polynomial n V) (ms : List (Move n V)) (c : ChainParts E) → IsChain m n last g o ms c → (P : (i z : ℕ) → List (Move z V) → Type 0) (z i : ℕ) (cs : List (Change E)) → z ≡ c.germ.n → i ≡ c.order → cs ≡ c.moves
      → P i z (map (move_from m z) cs) → P o n ms
  as_moves last o g ms c q P z i cs ez ei ec p =
      subst (λ w. P o n w) (moves_are last ms c.moves q.moves_are)
      (subst (λ ds. P o n (map (move_from m n) ds)) ec
      (subst (λ j. P j n (map (move_from m n) cs)) (ei ∙ q.order_is)
      (subst (λ y. P i y (map (move_from m y) cs)) (ez ∙ q.germ_is.variables) p)))

  -- what carrying the last jet by a change makes, or forms, is what the move makes of the carried germ
  module _ (last o k : ℕ) (g : Polynomial n V) (ms : List (Move n V)) (mv : Move n V) (c : ChainParts E) (change : Change E) (q : IsChain m n last g o ms c) (e : IsMoveExactly m n k mv change) where
    abbrev before : JetTerms E
    before = jet_at c.jets (length c.moves)

    pub as_move : (P : ℕ → (z : ℕ) → Move z V → Polynomial z V → Type 0) → P c.order change.n (move_from m change.n change) (poly_of change.n m.value before.terms) → P o n mv (carry_all n m.scalars o ms (jet n m.scalars o g))
    as_move P p =
        let j = carried_is last o g ms c q in
        subst (λ f. P o n mv f) j.polynomial
        (subst (λ w. P o n w (poly_of n m.value before.terms)) e.parts
        (subst (λ z. P o z (move_from m z change) (poly_of z m.value before.terms)) e.variables
        (subst (λ i. P i change.n (move_from m change.n change) (poly_of change.n m.value before.terms)) q.order_is p)))

    pub pushed : last ≤ k → (h : JetTerms E) → IsJetFor m change.n c.order (carry change.n m.scalars c.order (move_from m change.n change) (poly_of change.n m.value before.terms)) h
        → IsChain m n last g o (ms ++ mv ∷ []) (record { germ = c.germ; order = c.order; moves = c.moves ++ change ∷ []; jets = c.jets ++ h ∷ [] })
    pushed le h j =
        let new : IsJetFor m n o (carry n m.scalars o mv (carry_all n m.scalars o ms (jet n m.scalars o g))) h = as_move (λ i z w f. IsJetFor m z i (carry z m.scalars i w f) h) j in
        let more = carried_push o ms (jet n m.scalars o g) c.jets mv h (record { count = q.count; each = q.jets_are }) new in
        record {
          given = q.given;
          at_most_8_variables = q.at_most_8_variables;
          last_at_most_16 = q.last_at_most_16;
          order_at_least_2 = q.order_at_least_2;
          order_at_most_last = q.order_at_most_last;
          germ_is = q.germ_is;
          low = q.low;
          order_is = q.order_is;
          moves_are = moves_push last ms c.moves mv change q.moves_are (record { order = k; at_least = le; exactly = e });
          count = more.count;
          jets_are = more.each;
        }

  -- what is said of the moves and the germ is said of the changes and the jet of the program
  pub of_changes : ScalarLaws m.scalars → (last o k : ℕ) (g : Polynomial n V) (ms : List (Move n V)) (c : ChainParts E) → IsChain m n last g o ms c → k ≡ o → (P : (i z : ℕ) → List (Move z V) → Polynomial z V → Type 0) (germ : JetTerms E) (cs : List (Change E))
      → germ ≡ c.germ → cs ≡ c.moves → P o n ms (jet n m.scalars o g) → P k germ.n (map (move_from m germ.n) cs) (jet germ.n m.scalars k (poly_of germ.n m.value germ.terms))
  of_changes l last o k g ms c q ek P germ cs eg ec p =
      let own = ap (map (move_from m n)) ec ∙ moves_are last ms c.moves q.moves_are in
      let start : jet n m.scalars o (poly_of n m.value germ.terms) ≡ jet n m.scalars o g = ap (λ (u : JetTerms E). jet n m.scalars o (poly_of n m.value u.terms)) eg ∙ ap (jet n m.scalars o) q.germ_is.polynomial ∙ jet-jet n m.scalars l o last q.order_at_most_last g in
      subst (λ z. P k z (map (move_from m z) cs) (jet z m.scalars k (poly_of z m.value germ.terms))) (sym (ap (λ (u : JetTerms E). u.n) eg ∙ q.germ_is.variables))
      (subst (λ i. P i n (map (move_from m n) cs) (jet n m.scalars i (poly_of n m.value germ.terms))) (sym ek)
      (subst (λ w. P o n w (jet n m.scalars o (poly_of n m.value germ.terms))) (sym own) (subst (λ f. P o n ms f) (sym start) p)))

  -- what is made of the germ by the changes up to degree k = o + 1 is made of it by the moves
  module _ (l : ScalarLaws m.scalars) (last o k : ℕ) (g : Polynomial n V) (ms : List (Move n V)) (c : ChainParts E) (q : IsChain m n last g o ms c) (next : k ≡ o + 1) (le : k ≤ last) where
    next_order : k ≡ suc o
    next_order = omega arith

    pub as_germ : (P : (i z : ℕ) → List (Move z V) → Polynomial z V → Type 0) (germ : JetTerms E) (cs : List (Change E)) → germ ≡ c.germ → cs ≡ c.moves
        → P k germ.n (map (move_from m germ.n) cs) (jet germ.n m.scalars k (poly_of germ.n m.value germ.terms)) → P (suc o) n ms (jet n m.scalars (suc o) g)
    as_germ P germ cs eg ec p =
        let own = ap (map (move_from m n)) ec ∙ moves_are last ms c.moves q.moves_are in
        let start : jet n m.scalars k (poly_of n m.value germ.terms) ≡ jet n m.scalars k g = ap (λ (u : JetTerms E). jet n m.scalars k (poly_of n m.value u.terms)) eg ∙ ap (jet n m.scalars k) q.germ_is.polynomial ∙ jet-jet n m.scalars l k last le g in
        subst (λ i. P i n ms (jet n m.scalars i g)) next_order
        (subst (λ f. P k n ms f) start
        (subst (λ w. P k n w (jet n m.scalars k (poly_of n m.value germ.terms))) own
        (subst (λ z. P k z (map (move_from m z) cs) (jet z m.scalars k (poly_of z m.value germ.terms))) (ap (λ (u : JetTerms E). u.n) eg ∙ q.germ_is.variables) p)))

    -- the jets of the next order
    pub grown : (germ : JetTerms E) (cs : List (Change E)) (jets : List (JetTerms E)) → germ ≡ c.germ → cs ≡ c.moves → AreCarried m germ.n k (map (move_from m germ.n) cs) (jet germ.n m.scalars k (poly_of germ.n m.value germ.terms)) jets
        → IsChain m n last g (suc o) ms (record { germ = c.germ; order = k; moves = c.moves; jets = jets })
    grown germ cs jets eg ec a =
        let b = as_germ (λ i z w f. AreCarried m z i w f jets) germ cs eg ec a in
        record {
          given = q.given;
          at_most_8_variables = q.at_most_8_variables;
          last_at_most_16 = q.last_at_most_16;
          order_at_least_2 = let z = q.order_at_least_2 in omega arith;
          order_at_most_last = omega arith;
          germ_is = q.germ_is;
          low = q.low;
          order_is = next_order;
          moves_are = q.moves_are;
          count = b.count;
          jets_are = b.each;
        }

  -- a chain without moves
  pub started : ScalarLaws m.scalars → (last : ℕ) (g : Polynomial n V) (germ copied h : JetTerms E) (moves : List (Change E)) (jets : List (JetTerms E)) → copied ≡ germ → moves ≡ [] → jets ≡ h ∷ []
      → 0 < germ.n → germ.n ≤ 8 → 2 ≤ germ.order → germ.order ≤ 16 → IsJetFor m germ.n 2 (jet germ.n m.scalars 2 (poly_of germ.n m.value germ.terms)) h
      → StartsAtIn n m.scalars.ops 2 g → IsJetFor m n last (jet n m.scalars last g) germ → IsChain m n last g 2 [] (record { germ = copied; order = 2; moves = moves; jets = jets })
  started l last g germ copied h moves jets ec em ej given few two most j low q =
      let start : jet n m.scalars 2 (poly_of n m.value germ.terms) ≡ jet n m.scalars 2 g = ap (jet n m.scalars 2) q.polynomial ∙ jet-jet n m.scalars l 2 last (let z = q.order in omega arith) g in
      let first : IsJetFor m n 2 (jet n m.scalars 2 g) h = subst (λ f. IsJetFor m n 2 f h) start (subst (λ z. IsJetFor m z 2 (jet z m.scalars 2 (poly_of z m.value germ.terms)) h) q.variables j) in
      let b = carried_first 2 (jet n m.scalars 2 g) h first in
      subst (λ z. IsChain m n last g 2 [] (record { germ = z; order = 2; moves = moves; jets = jets })) (sym ec)
      (subst (λ z. IsChain m n last g 2 [] (record { germ = germ; order = 2; moves = z; jets = jets })) (sym em)
      (subst (λ z. IsChain m n last g 2 [] (record { germ = germ; order = 2; moves = []; jets = z })) (sym ej)
      (record {
        given = subst (λ z. 0 < z) q.variables given;
        at_most_8_variables = subst (λ z. z ≤ 8) q.variables few;
        last_at_most_16 = subst (λ z. z ≤ 16) q.order most;
        order_at_least_2 = omega arith;
        order_at_most_last = subst (λ z. 2 ≤ z) q.order two;
        germ_is = q;
        low = low;
        order_is = refl;
        moves_are = tt;
        count = b.count;
        jets_are = b.each;
      })))
