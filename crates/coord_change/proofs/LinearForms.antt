-- Linear forms as jets: variables stand in order, and one variable more.
use Rattle.std.proofs.Common.{◌≡◌, ℕ, zero, suc, ◌+◌, ◌<◌, ◌≤◌, true, ◌||◌, ◌&&◌, eqb, ltb, List, [], ◌∷◌, ◌++◌, set, sum, ap, ap₂, sym, ◌∙◌, refl, subst, arith}
use Rattle.ring_theory.specs.Scalars.{Meaning, ScalarLaws}
use Rattle.poly_law.specs.Sums.{sum_to}
use Rattle.poly_law.specs.Exps.{variable}
use Rattle.poly_law.specs.ExpList.{exps}
use Rattle.poly_law.specs.Poly.{coefficient, scale, term}
use Rattle.poly_law.specs.Polynomials.{SameIn, poly_in}
use Rattle.poly_law.proofs.ExpLists.{exps_are}
use Rattle.poly_law.proofs.PolyRing
use Rattle.mono_exp.specs.declared.exponent.Exp.{Exp}
use Rattle.mono_exp.specs.Exponents.{is_greater_first, is_before}
use Rattle.mono_exp.proofs.Lists.{sum-cons}
use Rattle.jet_law.specs.Terms.{exp_of, poly_of}
use Rattle.jet_poly.specs.Gathered.{nonzero}
use Rattle.jet_poly.proofs.Derived.{AreReady, ready-step}
use Rattle.jet_poly.proofs.Output.{same-push}
use Rattle.coord_change.specs.Linear.{one_at}
use Rattle.coord_change.proofs.ChangeLemmas

-- n zeros
zeros : ℕ → List ℕ
zeros zero = []
zeros (suc n) = 0 ∷ zeros n

sum-zeros : (n : ℕ) → sum (zeros n) ≡ 0
unfolding zeros
sum-zeros zero = refl
sum-zeros (suc n) = sum-cons 0 (zeros n) ∙ (let e = sum-zeros n in omega arith)

sum-one : (n i : ℕ) → i < n → sum (set (zeros n) i 1) ≡ 1
unfolding zeros
sum-one zero i h = absurd (omega arith)
sum-one (suc n) zero h = sum-cons 1 (zeros n) ∙ (let e = sum-zeros n in omega arith)
sum-one (suc n) (suc i) h = sum-cons 0 (set (zeros n) i 1) ∙ (let e = sum-one n i (omega arith) in omega arith)

greater-one : (n i j : ℕ) → i < j → j < n → is_greater_first (set (zeros n) i 1) (set (zeros n) j 1) ≡ true
unfolding zeros
greater-one zero i j l h = absurd (omega arith)
greater-one (suc n) i zero l h = absurd (omega arith)
greater-one (suc n) zero (suc j) l h = refl
greater-one (suc n) (suc i) (suc j) l h = greater-one n i j (omega arith) (omega arith)

pub sum-one_at : (i : ℕ) → i < 8 → sum (one_at i) ≡ 1
unfolding zeros
sum-one_at i h = sum-one 8 i h

-- variables stand in their order
pub before-one_at : (i j : ℕ) → i < j → j < 8 → is_before (one_at i) (one_at j) ≡ true
unfolding zeros
before-one_at i j l h =
    ap₂ (λ y z. ltb y z || ((eqb y z) && is_greater_first (one_at i) (one_at j))) (sum-one_at i (omega arith)) (sum-one_at j h)
    ∙ greater-one 8 i j l h

module _ {E V : Type 0} (n k : ℕ) (m : Meaning E V) (laws : ScalarLaws m.scalars) (few : n ≤ 8) where
  -- c times variable j, written unless it is zero
  pub ready_more : (j : ℕ) (f new : List (Exp × E)) (c : E) → j < n → 1 ≤ k → m.is_elem c → new ≡ f ++ nonzero m.scalars m.value ((record { e = one_at j }, c) ∷ []) → AreReady n k m one_at (λ j. Unit {0}) j n f → AreReady n k m one_at (λ j. Unit {0}) (j + 1) n new
  ready_more j f new c h one elem items r = subst (AreReady n k m one_at (λ j. Unit {0}) (j + 1) n) (sym items)
      (ready-step n k m laws one_at (λ j. Unit {0}) n (λ a b l g x y. before-one_at a b l (omega arith)) j f (record { e = one_at j }, c) h refl elem
      (λ nz. (tt, ChangeLemmas.one_at-in n j h few, (let e = sum-one_at j (omega arith) in omega arith))) r)

  pub sum_more : (w : ℕ → V) (j : ℕ) (f new : List (Exp × E)) (c : E) → j < n → new ≡ f ++ nonzero m.scalars m.value ((record { e = one_at j }, c) ∷ []) → m.value c ≡ w j
      → SameIn n m.scalars.ops (poly_of n m.value f) (sum_to (poly_in n m.scalars.ops) j (λ j. scale (exps n) m.scalars.ops (w j) (term (exps n) m.scalars.ops (variable (exps n) j))))
      → SameIn n m.scalars.ops (poly_of n m.value new) (sum_to (poly_in n m.scalars.ops) (j + 1) (λ j. scale (exps n) m.scalars.ops (w j) (term (exps n) m.scalars.ops (variable (exps n) j))))
  sum_more w j f new c h items value so_far b =
      ap (λ z. coefficient (exps n) m.scalars.ops (poly_of n m.value z) b) items
      ∙ same-push n m.scalars laws m.value f (record { e = one_at j }, c) b
      ∙ PolyRing.add_left (exps n) (exps_are n) m.scalars.ops laws.ring (poly_of n m.value f) (sum_to (poly_in n m.scalars.ops) j (λ j. scale (exps n) m.scalars.ops (w j) (term (exps n) m.scalars.ops (variable (exps n) j))))
      ((exp_of n (record { e = one_at j }), m.value c) ∷ []) so_far b
      ∙ ap₂ (λ y z. coefficient (exps n) m.scalars.ops (sum_to (poly_in n m.scalars.ops) j (λ j. scale (exps n) m.scalars.ops (w j) (term (exps n) m.scalars.ops (variable (exps n) j))) ++ (y, z) ∷ []) b)
      (ChangeLemmas.exp_of-one_at n j h few) (value ∙ sym (laws.ring.mul_one (w j)))
      ∙ ap (λ z. coefficient (exps n) m.scalars.ops (sum_to (poly_in n m.scalars.ops) z (λ j. scale (exps n) m.scalars.ops (w j) (term (exps n) m.scalars.ops (variable (exps n) j)))) b) (let e : suc j ≡ j + 1 = omega arith in e)
