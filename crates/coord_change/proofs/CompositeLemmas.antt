-- The composite of the moves of several changes.
use Rattle.std.proofs.Common.{◌≡◌, ℕ, zero, suc, ◌+◌, ◌*◌, ◌<◌, ◌≤◌, inl, inr, List, [], ◌∷◌, map, length, get_or, take, take_all, ext_get_or, All, refl, sym, ap, ap₂, subst, ◌∙◌, arith}
use Rattle.ring_theory.specs.Scalars.{Scalars, ScalarLaws, Meaning}
use Rattle.ring_theory.proofs.ValueSet.{values_are_set}
use Rattle.poly_law.specs.ExpList.{exps}
use Rattle.poly_law.specs.Exps.{variable}
use Rattle.poly_law.specs.Poly.{coefficient, IsInvertible}
use Rattle.poly_law.specs.Polynomials.{Polynomial, SameToIn, HaveNoConstant, substitute}
use Rattle.poly_law.proofs.ExpLists.{exps_are}
use Rattle.poly_law.proofs.LawsOverRings as over_rings
use Rattle.mono_exp.specs.Exponents.{numbers_below}
use Rattle.mono_exp.proofs.Lists.{length-numbers_below, get_or-numbers_below}
use Rattle.jet_law.specs.Terms.{poly_of}
use Rattle.jet_law.specs.Canonical.{jet}
use Rattle.germ_law.proofs.Canonical.{jet_same_to}
use Rattle.jet_poly.specs.JetTerms.{JetTerms}
use Rattle.jet_subst.specs.Parts.{IsPart, part_of}
use Rattle.jet_subst.specs.Substitutions.{IsSubstHigh}
use Rattle.jet_subst.proofs.Tables.{at-map, length-mapped}
use Rattle.coord_change.specs.declared.change.Change.{Change}
use Rattle.coord_change.specs.Changes.{IsChange, entry_of, IsMatrixHigh, IsCompositionHigh}
use Rattle.coord_change.specs.Moves.{Move, move_from, put, variable_of, identity, linear_part}
use Rattle.coord_change.specs.Carries.{carry, compose, compose_all, composite}
use Rattle.coord_change.specs.CarryHeights.{IsComposeHigh, IsComposeAllHigh, IsCompositeHigh}
use Rattle.coord_change.specs.Inverses.{IsInverseMatrix}
use Rattle.coord_change.specs.MoveJets.{IsMoveExactly}
use Rattle.coord_change.proofs.Canonicals
use Rattle.coord_change.proofs.ChangeLemmas

cons-head : {X : Type 0} {x y : X} {xs ys : List X} → (x ∷ xs) ≡ (y ∷ ys) → x ≡ y
cons-head e = cc e

cons-tail : {X : Type 0} {x y : X} {xs ys : List X} → (x ∷ xs) ≡ (y ∷ ys) → xs ≡ ys
cons-tail e = cc e

map-map : {X Y Z : Type 0} (f : Y → Z) (g : X → Y) (xs : List X) → map f (map g xs) ≡ map (λ x. f (g x)) xs
map-map f g [] = refl
map-map f g (x ∷ xs) = ap (λ z. f (g x) ∷ z) (map-map f g xs)

map-same : {X Y : Type 0} (f g : X → Y) → ((x : X) → f x ≡ g x) → (xs : List X) → map f xs ≡ map g xs
map-same f g e [] = refl
map-same f g e (x ∷ xs) = ap₂ (λ y ys. y ∷ ys) (e x) (map-same f g e xs)

-- all parts of the first, carried by the next
pub composed : {E V : Type 0} (m : Meaning E V) (n k : ℕ) (first : Change E) (next : Move n V) (i : ℕ) → length first.parts ≤ i
    → map (λ p. carry n m.scalars k next (poly_of n m.value p.terms)) (take i first.parts) ≡ compose n m.scalars k (move_from m n first) next
unfolding compose
composed m n k first next i h =
    ap (map (λ p. carry n m.scalars k next (poly_of n m.value p.terms))) (take_all i first.parts h)
    ∙ sym (map-map (carry n m.scalars k next) (λ (p : JetTerms _). poly_of n m.value p.terms) first.parts)

module _ {V : Type 0} (n : ℕ) (s : Scalars V) where
  -- the first of the moves composed with the next i, the first as it stands
  abbrev pub composed_to : ℕ → ℕ → List (Move n V) → Move n V
  composed_to k i [] = []
  composed_to k i (m ∷ ms) = compose_all n s k m (take i ms)

  -- one move more
  pub compose_all-next : (k i : ℕ) (first : Move n V) (ms : List (Move n V)) (mv : Move n V) → i < length ms → mv ≡ get_or ms i mv
      → compose_all n s k first (take (suc i) ms) ≡ compose n s k (compose_all n s k first (take i ms)) mv
  compose_all-next k i first [] mv h e = absurd (omega arith)
  compose_all-next k zero first (m ∷ ms) mv h e = ap (compose n s k first) (sym e)
  compose_all-next k (suc i) first (m ∷ ms) mv h e = compose_all-next k i (compose n s k first m) ms mv (omega arith) e

  -- a composition on the way is high
  pub high_at : (k i : ℕ) (first : Move n V) (ms : List (Move n V)) (mv : Move n V) → i < length ms → mv ≡ get_or ms i mv
      → IsComposeHigh n s k (compose_all n s k first (take i ms)) mv → IsComposeAllHigh n s k first ms
  high_at k i first [] mv h e q = absurd (omega arith)
  high_at k zero first (m ∷ ms) mv h e q = inl (subst (IsComposeHigh n s k first) e q)
  high_at k (suc i) first (m ∷ ms) mv h e q = inr (high_at k i (compose n s k first m) ms mv (omega arith) e q)

  pub composed_to-next : (k i : ℕ) (ms : List (Move n V)) (mv : Move n V) → suc i < length ms → mv ≡ get_or ms (suc i) mv → composed_to k (suc i) ms ≡ compose n s k (composed_to k i ms) mv
  composed_to-next k i [] mv h e = absurd (omega arith)
  composed_to-next k i (m ∷ ms) mv h e = compose_all-next k i m ms mv (omega arith) e

  pub composed_high_at : (k i : ℕ) (ms : List (Move n V)) (mv : Move n V) → suc i < length ms → mv ≡ get_or ms (suc i) mv → IsComposeHigh n s k (composed_to k i ms) mv → IsCompositeHigh n s k ms
  composed_high_at k i [] mv h e q = absurd (omega arith)
  composed_high_at k i (m ∷ ms) mv h e q = high_at k i m ms mv (omega arith) e q

  module _ (l : ScalarLaws s) where
    carry_same_to : (k : ℕ) (m : Move n V) (f : Polynomial n V) → SameToIn n s.ops k (carry n s k m f) (substitute n n s.ops (put n s m) f)
    unfolding carry
    carry_same_to k m f = jet_same_to n s l k (substitute n n s.ops (put n s m) f)

    -- what is cut off before does not count
    carry-jet : (k : ℕ) (m : Move n V) → HaveNoConstant n s.ops n (put n s m) → (f : Polynomial n V) → carry n s k m (jet n s k f) ≡ carry n s k m f
    unfolding carry
    carry-jet k m low f =
        Canonicals.jet_of_same n s l k (substitute n n s.ops (put n s m) (jet n s k f)) (substitute n n s.ops (put n s m) f)
        (λ a d. over_rings.subst_cut s.ops l.ring (values_are_set s l) n n k (put n s m) (put n s m) low (λ i h b q. refl) (jet n s k f) f (jet_same_to n s l k f) a d)

    jet-carry : (k : ℕ) (m : Move n V) (f : Polynomial n V) → jet n s k (carry n s k m f) ≡ carry n s k m f
    unfolding carry
    jet-carry k m f = Canonicals.jet-jet n s l k k (omega arith) (substitute n n s.ops (put n s m) f)

    compose-jet : (k : ℕ) (first next : Move n V) → HaveNoConstant n s.ops n (put n s next) → compose n s k (map (jet n s k) first) next ≡ compose n s k first next
    unfolding compose
    compose-jet k first next low = map-map (carry n s k next) (jet n s k) first ∙ map-same (λ f. carry n s k next (jet n s k f)) (carry n s k next) (carry-jet k next low) first

    jet-compose : (k : ℕ) (first next : Move n V) → map (jet n s k) (compose n s k first next) ≡ compose n s k first next
    unfolding compose
    jet-compose k first next = map-map (jet n s k) (carry n s k next) first ∙ map-same (λ f. jet n s k (carry n s k next f)) (carry n s k next) (jet-carry k next) first

    -- the composite may be cut at its end in place of its beginning
    cut_last : (k : ℕ) (first : Move n V) (ms : List (Move n V)) → All (λ mv. HaveNoConstant n s.ops n (put n s mv)) ms → map (jet n s k) (compose_all n s k first ms) ≡ compose_all n s k (map (jet n s k) first) ms
    cut_last k first [] low = refl
    cut_last k first (m ∷ ms) low =
        cut_last k (compose n s k first m) ms (λ i d h. low (suc i) d (omega arith))
        ∙ ap (λ z. compose_all n s k z ms) (jet-compose k first m ∙ sym (compose-jet k first m (low 0 m (omega arith))))

    -- the composite is all of them composed, cut at last
    pub composite_of_all : (k i : ℕ) (ms : List (Move n V)) → 0 < length ms → length ms ≤ suc i → All (λ mv. HaveNoConstant n s.ops n (put n s mv)) ms → map (jet n s k) (composed_to k i ms) ≡ composite n s k ms
    unfolding composite
    composite_of_all k i [] h e low = absurd (omega arith)
    composite_of_all k i (m ∷ ms) h e low = ap (λ zs. map (jet n s k) (compose_all n s k m zs)) (take_all i ms (omega arith)) ∙ cut_last k m ms (λ j d g. low (suc j) d (omega arith))

module _ {E V : Type 0} (m : Meaning E V) (n : ℕ) where
  pub no_constant : (c : Change E) → IsChange m c → c.n ≡ n → HaveNoConstant n m.scalars.ops n (put n m.scalars (move_from m n c))
  no_constant c q e = subst (HaveNoConstant n m.scalars.ops n) (sym (Canonicals.put-move_from m n c)) (subst (λ z. HaveNoConstant z m.scalars.ops z (part_of z m.value c.parts)) e q.invertible.no_constant)

  -- the matrix of a change is the inverse of the linear part of its move
  inverse_of : (c : Change E) → IsChange m c → c.n ≡ n → IsInverseMatrix m.scalars.ops n (linear_part n m.scalars (move_from m n c)) (entry_of m n c.inverse)
  inverse_of c q e =
      subst (λ (parts : ℕ → Polynomial n V). IsInverseMatrix m.scalars.ops n (λ i j. coefficient (exps n) m.scalars.ops (parts i) (variable (exps n) j)) (entry_of m n c.inverse)) (sym (Canonicals.put-move_from m n c))
      (let w : IsInvertible (exps n) m.scalars.ops (part_of n m.value c.parts) (entry_of m n c.inverse) = subst (λ z. IsInvertible (exps z) m.scalars.ops (part_of z m.value c.parts) (entry_of m z c.inverse)) e q.invertible in
      record { left = w.left; right = w.right })

  -- composing two changes is high only where composing their moves is
  pub composition_high : (k : ℕ) (first next : Change E) → IsChange m first → IsChange m next → first.n ≡ n → next.n ≡ n → IsCompositionHigh m k first next → IsComposeHigh n m.scalars k (move_from m n first) (move_from m n next)
  composition_high k first next qa qb ea eb high = elim high [
    | inl p ↦ inl (record {
      variable = p.part;
      inside = subst (λ z. p.part < z) ea p.inside;
      high =
          subst (λ parts. IsSubstHigh (exps n) (exps n) m.scalars k parts (put n m.scalars (move_from m n first) p.part)) (sym (Canonicals.put-move_from m n next))
          (subst (λ f. IsSubstHigh (exps n) (exps n) m.scalars k (part_of n m.value next.parts) f) (sym (ap (λ parts. parts p.part) (Canonicals.put-move_from m n first)))
          (subst (λ z. IsSubstHigh (exps z) (exps z) m.scalars k (part_of z m.value next.parts) (part_of z m.value first.parts p.part)) ea p.high));
    })
    | inr p ↦ inr (record {
      first_inverse = entry_of m n first.inverse;
      next_inverse = entry_of m n next.inverse;
      first_is = inverse_of first qa ea;
      next_is = inverse_of next qb eb;
      high = subst (λ z. IsMatrixHigh m.scalars z (entry_of m z next.inverse) (entry_of m z first.inverse)) ea p;
    })
  ]

  map-at : (f : Polynomial n V → Polynomial n V) (ps qs : List (JetTerms E)) → map (λ (p : JetTerms E). poly_of n m.value p.terms) qs ≡ map (λ (p : JetTerms E). f (poly_of n m.value p.terms)) ps
      → (i : ℕ) → i < length ps → part_of n m.value qs i ≡ f (part_of n m.value ps i)
  map-at f [] qs e i h = absurd (omega arith)
  map-at f (p ∷ ps) [] e i h = let bad : ⊥ = cc e in absurd bad
  map-at f (p ∷ ps) (q ∷ qs) e zero h = cons-head e
  map-at f (p ∷ ps) (q ∷ qs) e (suc i) h = map-at f ps qs (cons-tail e) i (omega arith)

  -- a change with its parts cut at degree k
  pub change_cut : ScalarLaws m.scalars → (k : ℕ) → 1 ≤ k → k ≤ 17 → (c : Change E) (parts : List (JetTerms E)) → IsChange m c → c.n ≡ n → length parts ≡ length c.parts → All (IsPart m n) parts → All (λ p. p.order ≡ k) parts
      → map (λ p. poly_of n m.value p.terms) parts ≡ map (λ p. jet n m.scalars k (poly_of n m.value p.terms)) c.parts
      → IsMoveExactly m n k (map (jet n m.scalars k) (move_from m n c)) (record { n = n; order = k; parts = parts; inverse = c.inverse })
  change_cut l k one few c parts q en count jets orders e = record {
    change = record {
      given = subst (λ z. 0 < z) en q.given;
      at_most_8_variables = subst (λ z. z ≤ 8) en q.at_most_8_variables;
      order_at_most_17 = few;
      count = count ∙ q.count ∙ en;
      parts = jets;
      orders = orders;
      elems = q.elems;
      entries = subst (λ z. length c.inverse ≡ z * z) en q.entries;
      invertible = ChangeLemmas.invertible_same_to (exps n) (exps_are n) m.scalars.ops l.ring (part_of n m.value c.parts) (part_of n m.value parts) (entry_of m n c.inverse) (entry_of m n c.inverse)
          (λ i h a d.
          sym (ap (λ f. coefficient (exps n) m.scalars.ops f a) (map-at (jet n m.scalars k) c.parts parts e i (let z = q.count in omega arith)) ∙ jet_same_to n m.scalars l k (part_of n m.value c.parts i) a (omega arith)))
          (λ i j h g. refl)
          (subst (λ z. IsInvertible (exps z) m.scalars.ops (part_of z m.value c.parts) (entry_of m z c.inverse)) en q.invertible);
    };
    variables = refl;
    order = refl;
    parts = e ∙ sym (map-map (jet n m.scalars k) (λ (p : JetTerms E). poly_of n m.value p.terms) c.parts);
  }

  abbrev moves_of : List (Change E) → List (Move n V)
  moves_of cs = map (move_from m n) cs

  -- the first alone
  pub composed_first : (k : ℕ) (cs : List (Change E)) (c : Change E) → 0 < length cs → c ≡ get_or cs 0 c → move_from m n c ≡ composed_to n m.scalars k 0 (moves_of cs)
  composed_first k [] c h e = absurd (omega arith)
  composed_first k (d ∷ cs) c h e = ap (move_from m n) e

  module _ (k i j : ℕ) (cs : List (Change E)) (all next : Change E) (ej : j ≡ i + 1) (more : j < length cs) (here : next ≡ get_or cs j next) (en : all.n ≡ n) (so_far : move_from m n all ≡ composed_to n m.scalars k i (moves_of cs)) where
    one_more : j ≡ suc i
    one_more = omega arith

    inside : suc i < length cs
    inside = omega arith

    read : next ≡ get_or cs (suc i) next
    read = here ∙ ap (λ z. get_or cs z next) one_more

    within : suc i < length (moves_of cs)
    within = let y = length-mapped (move_from m n) cs in omega arith

    at : move_from m n next ≡ get_or (moves_of cs) (suc i) (move_from m n next)
    at = sym (at-map (move_from m n) cs (suc i) next inside read (move_from m n next))

    pub longer_is : (longer : Change E) → move_from m all.n longer ≡ compose all.n m.scalars k (move_from m all.n all) (move_from m all.n next) → move_from m n longer ≡ composed_to n m.scalars k j (moves_of cs)
    longer_is longer e =
        subst (λ z. move_from m z longer ≡ compose z m.scalars k (move_from m z all) (move_from m z next)) en e
        ∙ ap (λ w. compose n m.scalars k w (move_from m n next)) so_far
        ∙ sym (composed_to-next n m.scalars k i (moves_of cs) (move_from m n next) within at)
        ∙ ap (λ z. composed_to n m.scalars k z (moves_of cs)) (sym one_more)

    pub longer_high : IsChange m all → IsChange m next → next.n ≡ n → IsCompositionHigh m k all next → IsCompositeHigh n m.scalars k (moves_of cs)
    longer_high qa qb eb high =
        composed_high_at n m.scalars k i (moves_of cs) (move_from m n next) within at
        (subst (λ w. IsComposeHigh n m.scalars k w (move_from m n next)) so_far (composition_high k all next qa qb en eb high))

  pub none_constant : (cs : List (Change E)) → All (IsChange m) cs → All (λ c. c.n ≡ n) cs → All (λ mv. HaveNoConstant n m.scalars.ops n (put n m.scalars mv)) (moves_of cs)
  none_constant [] a b i d h = absurd (omega arith)
  none_constant (c ∷ cs) a b zero d h = no_constant c (a 0 c (omega arith)) (b 0 c (omega arith))
  none_constant (c ∷ cs) a b (suc i) d h = none_constant cs (λ j e g. a (suc j) e (omega arith)) (λ j e g. b (suc j) e (omega arith)) i d (omega arith)

  pub composite_of_moves : ScalarLaws m.scalars → (k i : ℕ) (cs : List (Change E)) → 0 < length cs → length cs ≤ i + 1 → All (IsChange m) cs → All (λ c. c.n ≡ n) cs → map (jet n m.scalars k) (composed_to n m.scalars k i (moves_of cs)) ≡ composite n m.scalars k (moves_of cs)
  composite_of_moves l k i cs given most a b =
      let y = length-mapped (move_from m n) cs in
      composite_of_all n m.scalars l k i (moves_of cs) (omega arith) (omega arith) (none_constant cs a b)

  -- the identity is the composite of no moves
  pub identity_is : (k : ℕ) (c : Change E) → IsChange m c → c.n ≡ n → c.order ≡ k → ((i : ℕ) → i < n → part_of n m.value c.parts i ≡ variable_of n m.scalars i) → IsMoveExactly m n k (composite n m.scalars k []) c
  unfolding composite
  identity_is k c q en eo e = record {
    change = q;
    variables = en;
    order = eo;
    parts =
        let count : length c.parts ≡ n = q.count ∙ en in
        let long = length-mapped (λ (p : JetTerms E). poly_of n m.value p.terms) c.parts in
        let all = length-mapped (variable_of n m.scalars) (numbers_below n) in
        let numbers = length-numbers_below n in
        ext_get_or [] (move_from m n c) (map (variable_of n m.scalars) (numbers_below n)) (omega arith)
        (λ i h.
        let inside : i < n = omega arith in
        ap (λ f. f i) (Canonicals.put-move_from m n c) ∙ e i inside
        ∙ sym (at-map (variable_of n m.scalars) (numbers_below n) i i (omega arith) (sym (get_or-numbers_below n i i inside)) []));
  }
