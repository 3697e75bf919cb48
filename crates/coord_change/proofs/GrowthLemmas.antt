-- A jet that is carried one degree further: the terms of that degree stand behind the others.
use Rattle.std.proofs.Common.{◌≡◌, ◌≢◌, ℕ, zero, suc, ◌+◌, ◌<◌, ◌≤◌, Bool, true, false, ◌&&◌, ◌||◌, cond, leb, ltb, eqb, eqb-true, List, [], ◌∷◌, ◌++◌, map, length, get_or, take, sum, All, refl, sym, ap, ap₂, subst, ◌∙◌, arith}
use Rattle.std.specs.List.{AllByRecursion}
use Rattle.std.proofs.lemmas.Bool.{lt-ltb}
use Rattle.std.proofs.lemmas.Bool.Decides.{nat_tests}
use Rattle.std.proofs.lemmas.List.{map-append}
use Rattle.std.proofs.lemmas.List.Elements.{All-append, All-head, All-tail, recursion_from_All, All-take}
use Rattle.ring_theory.specs.Ring.{RingOps, IsCommRing}
use Rattle.ring_theory.specs.Scalars.{ScalarLaws, Meaning}
use Rattle.poly_law.specs.Exps.{degree}
use Rattle.poly_law.specs.ExpList.{ExpList, exps}
use Rattle.poly_law.specs.Poly.{coefficient}
use Rattle.poly_law.specs.Polynomials.{Polynomial, SameIn, HaveNoConstant, cut_in, substitute}
use Rattle.poly_law.proofs.ExpLists.{exps_are}
use Rattle.poly_law.proofs.Order
use Rattle.poly_law.proofs.Sums
use Rattle.mono_exp.specs.declared.exponent.Exp.{Exp}
use Rattle.mono_exp.specs.Exponents.{IsIn, is_before, is_greater_first}
use Rattle.jet_law.specs.Terms.{exp_of, poly_of}
use Rattle.jet_law.specs.Canonical.{jet}
use Rattle.jet_law.proofs.TermLemmas.{degree-exp_of}
use Rattle.jet_poly.specs.JetTerms.{JetTerms, IsRising, AllAfter}
use Rattle.jet_poly.specs.Jets.{IsJet, component}
use Rattle.jet_subst.specs.Parts.{jet_at, part_of}
use Rattle.jet_subst.proofs.Reduced
use Rattle.jet_subst.proofs.Tables.{length-mapped, at-map}
use Rattle.coord_change.specs.declared.change.Change.{Change}
use Rattle.coord_change.specs.Changes.{IsChange}
use Rattle.coord_change.specs.Moves.{Move, move_from, put}
use Rattle.coord_change.specs.Carries.{carry, carry_all}
use Rattle.coord_change.specs.MoveJets.{IsJetFor}
use Rattle.coord_change.specs.Chains.{AreCarried}
use Rattle.coord_change.proofs.Canonicals
use Rattle.coord_change.proofs.CompositeLemmas.{no_constant, none_constant}
use Rattle.coord_change.proofs.CarryLemmas
use Rattle.coord_change.proofs.ChainLemmas
use Rattle.coord_change.proofs.InverseSteps.{coefficient-component}

-- ---- terms of greater degree stand behind the others

before_by_degree : (a b : Exp) → sum a.e < sum b.e → is_before a.e b.e ≡ true
before_by_degree a b h = ap (λ z. z || (eqb (sum a.e) (sum b.e) && is_greater_first a.e b.e)) (lt-ltb (sum a.e) (sum b.e) h)

all_after : {E : Type 0} (k : ℕ) (a : Exp) (f : List (Exp × E)) → sum a.e < k → All (λ t. sum t.0.e ≡ k) f → AllAfter a f
all_after k a [] low h = tt
all_after k a (t ∷ f) low h = (before_by_degree a t.0 (let z = All-head (λ t. sum t.0.e ≡ k) t f h in omega arith), all_after k a f low (All-tail (λ t. sum t.0.e ≡ k) t f h))

after_both : {E : Type 0} (a : Exp) (f g : List (Exp × E)) → AllAfter a f → AllAfter a g → AllAfter a (f ++ g)
after_both a [] g p q = q
after_both a (t ∷ f) g p q = (p.0, after_both a f g p.1 q)

pub rising_both : {E : Type 0} (k : ℕ) (f g : List (Exp × E)) → IsRising f → IsRising g → All (λ t. sum t.0.e < k) f → All (λ t. sum t.0.e ≡ k) g → IsRising (f ++ g)
rising_both k [] g p q low top = q
rising_both k (t ∷ f) g p q low top = (
  after_both t.0 f g p.0 (all_after k t.0 g (All-head (λ t. sum t.0.e < k) t f low) top),
  rising_both k f g p.1 q (All-tail (λ t. sum t.0.e < k) t f low) top,
)

own : {X : Type 0} (xs : List X) (i : ℕ) (d : X) → i < length xs → get_or xs i d ≡ get_or xs i (get_or xs i d)
own [] i d h = absurd (omega arith)
own (x ∷ xs) zero d h = refl
own (x ∷ xs) (suc i) d h = own xs i d (omega arith)

-- what is said of some variables, an order and parts is said of equal ones
pub read : {X : Type 0} (n n' k k' : ℕ) (ps ps' : X) (P : ℕ → ℕ → X → Type 0) → n ≡ n' → k ≡ k' → ps ≡ ps' → P n k ps → P n' k' ps'
read n n' k k' ps ps' P en ek ep p = subst (λ z. P z k' ps') en (subst (λ z. P n z ps') ek (subst (λ z. P n k z) ep p))

-- ---- the terms of one degree, and those below

leb-next : (d o : ℕ) → leb d (o + 1) ≡ (leb d o || eqb d (o + 1))
leb-next d o = grind (arith, nat_tests)

not_both : (d o : ℕ) → (leb d o && eqb d (o + 1)) ≡ false
not_both d o = grind (arith, nat_tests)

add_parts : {V : Type 0} (r : RingOps V) → IsCommRing r → (x : V) (a b : Bool) → (a && b) ≡ false → r.add (cond a x r.zero) (cond b x r.zero) ≡ cond (a || b) x r.zero
add_parts r c x true true h = let bad : ⊥ = cc h in absurd bad
add_parts r c x true false h = c.add_zero x
add_parts r c x false true h = Sums.zero_add r c x
add_parts r c x false false h = c.add_zero r.zero

module _ {E V : Type 0} (m : Meaning E V) (n : ℕ) (l : ScalarLaws m.scalars) where
  abbrev ops : RingOps V
  ops = m.scalars.ops

  -- the terms of a homogeneous component
  pub top_degrees : (k : ℕ) (h : JetTerms E) (f : Polynomial n V) → IsJet m h → h.n ≡ n → IsRising h.terms → SameIn n ops (poly_of n m.value h.terms) (component n k f) → All (λ t. sum t.0.e ≡ k) h.terms
  top_degrees k h f j en rises same i d lt = step (eqb (degree (exps n) at) k) refl
    where
      t : Exp × E
      t = get_or h.terms i d

      inside : All (λ t. IsIn n t.0.e) h.terms
      inside = subst (λ z. All (λ t. IsIn z t.0.e) h.terms) en j.variables

      at : ExpList n
      at = exp_of n t.0

      stands : coefficient (exps n) ops (poly_of n m.value h.terms) at ≡ m.value t.1
      stands = Reduced.coefficient-reduced (exps n) (exps_are n) ops l.ring (poly_of n m.value h.terms) (Reduced.reduced_of_rising n m.value ops h.terms inside rises j.units) i (at, m.value t.1)
          (subst (λ z. i < z) (sym (length-mapped (λ t. (exp_of n t.0, m.value t.1)) h.terms)) lt) (sym (at-map (λ t. (exp_of n t.0, m.value t.1)) h.terms i t lt (own h.terms i d lt) (at, m.value t.1)))

      step : (b : Bool) → eqb (degree (exps n) at) k ≡ b → sum t.0.e ≡ k
      step true e = sym (degree-exp_of n t.0 (inside i d lt)) ∙ eqb-true (degree (exps n) at) k e
      step false e = absurd (j.units i d lt (sym stands ∙ same at ∙ coefficient-component n ops l.ring k f at ∙ ap (λ z. cond z (coefficient (exps n) ops f at) ops.zero) e))

  -- what stands below a degree and the terms of that degree are what stands up to it
  pub joined_same : (o : ℕ) (lower top : List (Exp × E)) (f : Polynomial n V) → SameIn n ops (poly_of n m.value lower) (cut_in n ops o f) → SameIn n ops (poly_of n m.value top) (component n (o + 1) f)
      → SameIn n ops (poly_of n m.value (lower ++ top)) (cut_in n ops (o + 1) f)
  joined_same o lower top f low high b =
      ap (λ z. coefficient (exps n) ops z b) (map-append (λ t. (exp_of n t.0, m.value t.1)) lower top)
      ∙ Order.coefficient-append (exps n) (exps_are n) ops l.ring (poly_of n m.value lower) (poly_of n m.value top) b
      ∙ ap₂ ops.add (low b ∙ Order.coefficient-cut (exps n) (exps_are n) ops l.ring o f b) (high b ∙ coefficient-component n ops l.ring (o + 1) f b)
      ∙ add_parts ops l.ring (coefficient (exps n) ops f b) (leb (degree (exps n) b) o) (eqb (degree (exps n) b) (o + 1)) (not_both (degree (exps n) b) o)
      ∙ ap (λ z. cond z (coefficient (exps n) ops f b) ops.zero) (sym (leb-next (degree (exps n) b) o))
      ∙ sym (Order.coefficient-cut (exps n) (exps_are n) ops l.ring (o + 1) f b)

  module _ (o : ℕ) (c : Change E) (f : Polynomial n V) (lower top : JetTerms E) (low : IsJetFor m n o (carry n m.scalars o (move_from m n c) f) lower) (jet : IsJet m top) (en : top.n ≡ n) (eo : top.order ≡ o + 1) (rises : IsRising top.terms)
      (is : SameIn n ops (poly_of n m.value top.terms) (component n (o + 1) (substitute n n ops (part_of n m.value c.parts) f))) where
    pub degrees : All (λ t. sum t.0.e ≡ o + 1) top.terms
    degrees = top_degrees (o + 1) top (substitute n n ops (part_of n m.value c.parts) f) jet en rises is

    joined_jet : IsJet m (record { n = lower.n; order = o + 1; terms = lower.terms ++ top.terms })
    joined_jet = record {
      variables = All-append (λ t. IsIn lower.n t.0.e) lower.terms top.terms low.jet.variables (subst (λ z. All (λ t. IsIn z t.0.e) top.terms) (en ∙ sym low.variables) jet.variables);
      degrees = All-append (λ t. sum t.0.e ≤ o + 1) lower.terms top.terms (λ i d h. let z = low.jet.degrees i d h in let w = low.order in omega arith) (λ i d h. let z = degrees i d h in omega arith);
      elems = All-append (λ t. m.is_elem t.1) lower.terms top.terms low.jet.elems jet.elems;
      units = All-append (λ t. m.value t.1 ≢ ops.zero) lower.terms top.terms low.jet.units jet.units;
    }

    pub joined_is : IsRising (lower.terms ++ top.terms) → IsJetFor m n (o + 1) (carry n m.scalars (o + 1) (move_from m n c) f) (record { n = lower.n; order = o + 1; terms = lower.terms ++ top.terms })
    joined_is rising =
        let s = substitute n n ops (part_of n m.value c.parts) f in
        Canonicals.carried_for m n l (o + 1) c f (record { n = lower.n; order = o + 1; terms = lower.terms ++ top.terms }) joined_jet low.variables refl rising
        (joined_same o lower.terms top.terms s
        (λ b. ap (λ z. coefficient (exps n) ops z b) low.polynomial ∙ CarryLemmas.carry_is n m.scalars l o (move_from m n c) f b
        ∙ ap (λ parts. coefficient (exps n) ops (cut_in n ops o (substitute n n ops parts f)) b) (Canonicals.put-move_from m n c)) is)

  -- ---- the next of the jets of a lower order
  module _ (o i : ℕ) (cs : List (Change E)) (change : Change E) (f : Polynomial n V) (jets grown : List (JetTerms E)) (before after : JetTerms E) (changes : All (IsChange m) cs) (variables : All (λ c. c.n ≡ n) cs)
      (inside : i < length cs) (read : change ≡ get_or cs i change) (en : change.n ≡ n) (carried : AreCarried m n o (map (move_from m n) cs) (Rattle.jet_law.specs.Canonical.jet n m.scalars o f) jets)
      (a : AreCarried m n (o + 1) (take i (map (move_from m n) cs)) (Rattle.jet_law.specs.Canonical.jet n m.scalars (o + 1) f) grown) (here : before ≡ jet_at grown i) (there : after ≡ jet_at jets (i + 1)) where
    abbrev moves : List (Move n V)
    moves = map (move_from m n) cs

    low_moves : AllByRecursion (λ mv. HaveNoConstant n ops n (put n m.scalars mv)) (take i moves)
    low_moves = recursion_from_All (λ mv. HaveNoConstant n ops n (put n m.scalars mv)) (take i moves) (All-take (λ mv. HaveNoConstant n ops n (put n m.scalars mv)) i moves (none_constant m n cs changes variables))

    low_move : HaveNoConstant n ops n (put n m.scalars (move_from m n change))
    low_move = no_constant m n change (subst (IsChange m) (sym read) (changes i change inside)) en

    pub below : IsJetFor m change.n o (carry change.n m.scalars o (move_from m change.n change) (poly_of change.n m.value before.terms)) after
    below =
        let mv = move_from m n change in
        let size = length-mapped (move_from m n) cs in
        let start = Rattle.jet_law.specs.Canonical.jet n m.scalars o f in
        let next = Rattle.jet_law.specs.Canonical.jet n m.scalars (o + 1) f in
        let last : IsJetFor m n o (carry_all n m.scalars o (take (i + 1) moves) start) (jet_at jets (i + 1)) = carried.each (i + 1) (omega arith) in
        let step : carry_all n m.scalars o (take (i + 1) moves) start ≡ carry n m.scalars o mv (carry_all n m.scalars o (take i moves) start) =
        subst (λ z. carry_all n m.scalars o (take z moves) start ≡ carry n m.scalars o mv (carry_all n m.scalars o (take i moves) start)) (let e : suc i ≡ i + 1 = omega arith in e)
        (ChainLemmas.carry_all-next n m.scalars o i moves mv (omega arith) (sym (at-map (move_from m n) cs i change inside read mv)) start) in
        let same : carry n m.scalars o mv (carry_all n m.scalars (o + 1) (take i moves) next) ≡ carry n m.scalars o mv (carry_all n m.scalars o (take i moves) start) =
        CarryLemmas.carry_of_same n m.scalars l o mv low_move (carry_all n m.scalars (o + 1) (take i moves) next) (carry_all n m.scalars o (take i moves) start)
        (CarryLemmas.carry_all_same n m.scalars l o (o + 1) (omega arith) (take i moves) low_moves next start (CarryLemmas.jets_same n m.scalars l o (o + 1) (omega arith) f)) in
        ChainLemmas.at_move_back m n (o + 1) i cs change next grown before (omega arith) en here a (λ z w p. IsJetFor m z o (carry z m.scalars o w p) after)
        (subst (λ (u : JetTerms E). IsJetFor m n o (carry n m.scalars o mv (carry_all n m.scalars (o + 1) (take i moves) next)) u) (sym there)
        (subst (λ p. IsJetFor m n o p (jet_at jets (i + 1))) (step ∙ sym same) last))
