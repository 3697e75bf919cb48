-- Powers that are cut at a degree, one after the other.
use Rattle.std.proofs.Common.{◌≡◌, ℕ, zero, suc, ◌+◌, ◌<◌, ◌≤◌, ◌⊎◌, inl, inr, List, [], ◌∷◌, ◌++◌, length, get_or, ap, sym, ◌∙◌, refl, subst, length-append, arith}
use Rattle.ring_theory.specs.Ring.{RingOps, IsCommRing}
use Rattle.ring_theory.specs.Scalars.{Meaning}
use Rattle.poly_law.specs.Sums.{power}
use Rattle.poly_law.specs.Exps.{Exps, IsExps}
use Rattle.poly_law.specs.ExpList.{exps}
use Rattle.poly_law.specs.Poly.{Terms, Same, poly_ops, constant}
use Rattle.poly_law.specs.Polynomials.{Polynomial, poly_in, times_in}
use Rattle.poly_law.proofs.ExpLists.{exps_are}
use Rattle.poly_law.proofs.PolyRing
use Rattle.jet_law.specs.Heights.{IsHigh, product_heights}
use Rattle.jet_law.specs.Terms.{poly_of}
use Rattle.jet_poly.specs.JetTerms.{JetTerms}
use Rattle.jet_subst.specs.Powers.{IsTruncation, IsTruncatedJet, ArePowersHigh}
use Rattle.jet_subst.specs.Parts.{ArePowers, jet_at}
use Rattle.jet_subst.proofs.Reduced

module _ {E V : Type 0} (x : Exps E) (l : IsExps x) (r : RingOps V) (c : IsCommRing r) where
  -- the first power
  pub power-one : (f : Terms E V) → Same x r f (power (poly_ops x r) f 1)
  power-one f m = sym (PolyRing.times_comm x l r c (constant x r r.one) f m ∙ PolyRing.times_one x l r c f m)

  pub truncation_first : (k : ℕ) (f p : Terms E V) → IsTruncation x r k f p → IsTruncation x r k (power (poly_ops x r) f 1) p
  truncation_first k f p q = Reduced.truncation_same_to x l r c k f (power (poly_ops x r) f 1) p (λ m h. power-one f m) q

-- what stands in a longer list
pub at-append : {X : Type 0} (xs : List X) (y d : X) (j : ℕ) → j < length xs → get_or (xs ++ y ∷ []) j d ≡ get_or xs j d
at-append [] y d j h = absurd (omega arith)
at-append (x ∷ xs) y d zero h = refl
at-append (x ∷ xs) y d (suc j) h = at-append xs y d j (omega arith)

pub at-last : {X : Type 0} (xs : List X) (y d : X) → get_or (xs ++ y ∷ []) (length xs) d ≡ y
at-last [] y d = refl
at-last (x ∷ xs) y d = at-last xs y d

pub before_or_last : (j n : ℕ) → j < n + 1 → (j < n) ⊎ (j ≡ n)
before_or_last j n h = grind arith

module _ {E V : Type 0} (m : Meaning E V) (c : IsCommRing m.scalars.ops) (n k : ℕ) (p : Polynomial n V) where
  abbrev P : List (JetTerms E) → ℕ → Polynomial n V
  P all i = poly_of n m.value (jet_at all i).terms

  -- one power more
  pub more_powers : (all : List (JetTerms E)) (base next : JetTerms E) (i : ℕ) → length all ≡ i + 1 → ArePowers m n k p all → IsTruncatedJet m n k p base
      → IsTruncatedJet m n k (times_in n m.scalars.ops (P all i) (poly_of n m.value base.terms)) next → ArePowers m n k p (all ++ next ∷ [])
  more_powers all base next i e powers b q j h =
      elim (before_or_last j (length all) (let z = length-append all (next ∷ []) in omega arith)) [
        | inl before ↦ subst (IsTruncatedJet m n k (power (poly_in n m.scalars.ops) p j)) (sym (at-append all next _ j before)) (powers j before)
        | inr last ↦
            subst (λ j. IsTruncatedJet m n k (power (poly_in n m.scalars.ops) p j) (jet_at (all ++ next ∷ []) j)) (sym last)
            (subst (IsTruncatedJet m n k (power (poly_in n m.scalars.ops) p (length all))) (sym (at-last all next _)) of_next)
      ]
    where
      of_next : IsTruncatedJet m n k (power (poly_in n m.scalars.ops) p (length all)) next
      of_next = subst (λ z. IsTruncatedJet m n k (power (poly_in n m.scalars.ops) p z) next) (let z : suc i ≡ length all = omega arith in z) (record {
        jet = q.jet;
        variables = q.variables;
        order = q.order;
        truncation = Reduced.truncation_times (exps n) (exps_are n) m.scalars.ops c k (power (poly_in n m.scalars.ops) p i) p (P all i) (poly_of n m.value base.terms) (poly_of n m.value next.terms)
            ((powers i (omega arith)).truncation) b.truncation q.truncation;
      })

  pub first_power : (one : JetTerms E) → IsTruncatedJet m n k (poly_in n m.scalars.ops).one one → ArePowers m n k p (one ∷ [])
  first_power one q zero h = q
  first_power one q (suc j) h = absurd (omega arith)

  -- the product of a power and the first is high
  pub powers_high : (all : List (JetTerms E)) (base : JetTerms E) (i : ℕ) → length all ≡ i + 1 → ArePowers m n k p all → IsTruncatedJet m n k p base
      → IsHigh (product_heights (exps n) m.scalars k (P all i) (poly_of n m.value base.terms)) → ArePowersHigh (exps n) m.scalars k p (i + 1)
  powers_high all base i e powers b high = record {
    first = i;
    second = 1;
    together = omega arith;
    left = P all i;
    right = poly_of n m.value base.terms;
    left_is = (powers i (omega arith)).truncation;
    right_is = truncation_first (exps n) (exps_are n) m.scalars.ops c k p (poly_of n m.value base.terms) b.truncation;
    high = high;
  }

  -- of fewer powers are of more
  pub more_high : (e e' : ℕ) → e ≤ e' → ArePowersHigh (exps n) m.scalars k p e → ArePowersHigh (exps n) m.scalars k p e'
  more_high e e' h q = record {
    first = q.first;
    second = q.second;
    together = let z = q.together in omega arith;
    left = q.left;
    right = q.right;
    left_is = q.left_is;
    right_is = q.right_is;
    high = q.high;
  }

  -- the same, by a jet that stands at place i
  pub powers_high_at : (all : List (JetTerms E)) (base v : JetTerms E) (i : ℕ) → length all ≡ i + 1 → ArePowers m n k p all → IsTruncatedJet m n k p base → v ≡ jet_at all i
      → IsHigh (product_heights (exps v.n) m.scalars k (poly_of v.n m.value v.terms) (poly_of v.n m.value base.terms)) → ArePowersHigh (exps n) m.scalars k p (i + 1)
  powers_high_at all base v i e powers b q high = powers_high all base i e powers b
      (subst (λ z. IsHigh (product_heights (exps z) m.scalars k (poly_of z m.value (jet_at all i).terms) (poly_of z m.value base.terms))) ((powers i (omega arith)).variables)
      (subst (λ (u : JetTerms E). IsHigh (product_heights (exps u.n) m.scalars k (poly_of u.n m.value u.terms) (poly_of u.n m.value base.terms))) q high))

  pub more_powers_at : (all : List (JetTerms E)) (base v next : JetTerms E) (i : ℕ) → length all ≡ i + 1 → ArePowers m n k p all → IsTruncatedJet m n k p base → v ≡ jet_at all i
      → IsTruncatedJet m v.n k (times_in v.n m.scalars.ops (poly_of v.n m.value v.terms) (poly_of v.n m.value base.terms)) next → ArePowers m n k p (all ++ next ∷ [])
  more_powers_at all base v next i e powers b q w = more_powers all base next i e powers b
      (subst (λ z. IsTruncatedJet m z k (times_in z m.scalars.ops (poly_of z m.value (jet_at all i).terms) (poly_of z m.value base.terms)) next) ((powers i (omega arith)).variables)
      (subst (λ (u : JetTerms E). IsTruncatedJet m u.n k (times_in u.n m.scalars.ops (poly_of u.n m.value u.terms) (poly_of u.n m.value base.terms)) next) q w))

pub any_default : {X : Type 0} (xs : List X) (i : ℕ) (d d' : X) → i < length xs → get_or xs i d ≡ get_or xs i d'
any_default [] i d d' h = absurd (omega arith)
any_default (x ∷ xs) zero d d' h = refl
any_default (x ∷ xs) (suc i) d d' h = any_default xs i d d' (omega arith)

-- an element that was read is the jet at its place
pub at_index : {E : Type 0} (all : List (JetTerms E)) (i j : ℕ) (v : JetTerms E) → v ≡ get_or all j v → j ≡ i → i < length all → v ≡ jet_at all i
at_index all i j v e q h = e ∙ ap (λ z. get_or all z v) q ∙ any_default all i v _ h
