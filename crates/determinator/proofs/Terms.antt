-- The terms of a polynomial in the monomial order, one by one: the coefficient at the monomial of a term is that of the term.
use Rattle.std.proofs.Common.{◌≡◌, ℕ, Bool, true, false, cond, ◌||◌, ◌+◌, ◌<◌, List, [], ◌∷◌, ◌++◌, map, length, get_or, take, refl, sym, ap, subst, ◌∙◌, true≢false}
use Rattle.std.specs.List.{All, AllByRecursion, list_any}
use Rattle.std.proofs.lemmas.List.{take_more}
use Rattle.ring_theory.specs.Ring.{RingOps, IsCommRing}
use Rattle.ring_theory.specs.Scalars.{Meaning}
use Rattle.poly_law.specs.Exps.{same}
use Rattle.poly_law.specs.ExpList.{ExpList, exps}
use Rattle.poly_law.specs.Poly.{coefficient}
use Rattle.poly_law.specs.Polynomials.{Polynomial}
use Rattle.poly_law.specs.Sorted as sorted
use Rattle.poly_law.proofs.ExpLists.{exps_are}
use Rattle.poly_law.proofs.ExpLaws
use Rattle.poly_law.proofs.Sums
use Rattle.mono_exp.proofs.ListLemmas.{all-push}
use Rattle.mono_exp.specs.declared.exponent.Exp.{Exp}
use Rattle.mono_exp.specs.Exponents.{IsIn}
use Rattle.jet_law.specs.Terms.{exp_of, poly_of}
use Rattle.jet_poly.specs.JetTerms.{IsRising}
use Rattle.germ_law.proofs.Canonical.{stands_before, is_order}
use Rattle.report_jet.proofs.OneJet

-- what holds of each image holds of each element
pub unmapped : {X Y : Type 0} (P : Y → Type 0) (g : X → Y) (xs : List X) → AllByRecursion P (map g xs) → AllByRecursion (λ x. P (g x)) xs
unmapped P g [] h = tt
unmapped P g (x ∷ xs) h = (h.0, unmapped P g xs h.1)

module _ {V : Type 0} (n : ℕ) (r : RingOps V) (laws : IsCommRing r) where
  abbrev at_monomial : Polynomial n V → ExpList n → V
  at_monomial = coefficient (exps n) r

  -- no term after m is at m
  after_none : (m : ExpList n) (f : Polynomial n V) → sorted.AllAfter (stands_before n) m f → at_monomial f m ≡ r.zero
  after_none m [] h = refl
  after_none m (t ∷ f) h =
      ap (λ b. r.add (cond b t.1 r.zero) (at_monomial f m))
      (ExpLaws.same-no (exps n) (exps_are n) t.0 m (λ e. true≢false (sym (subst (λ z. stands_before n m z ≡ true) e h.0) ∙ (is_order n).irreflexive m)))
      ∙ Sums.zero_add r laws (at_monomial f m) ∙ after_none m f h.1

  pub each_own : (f : Polynomial n V) → sorted.IsRising (stands_before n) f → AllByRecursion (λ t. at_monomial f t.0 ≡ t.1) f
  each_own [] h = tt
  each_own (t ∷ f) h = (
    ap (λ b. r.add (cond b t.1 r.zero) (at_monomial f t.0)) (ExpLaws.same_refl (exps n) (exps_are n) t.0) ∙ ap (r.add t.1) (after_none t.0 f h.0) ∙ laws.add_zero t.1,
    later f h.0 (each_own f h.1),
  )
    where
      later : (g : Polynomial n V) → sorted.AllAfter (stands_before n) t.0 g → AllByRecursion (λ u. at_monomial f u.0 ≡ u.1) g → AllByRecursion (λ u. at_monomial (t ∷ f) u.0 ≡ u.1) g
      later [] a b = tt
      later (u ∷ g) a b = (
        ap (λ b. r.add (cond b t.1 r.zero) (at_monomial f u.0))
            (ExpLaws.same-no (exps n) (exps_are n) t.0 u.0 (λ e. true≢false (sym (subst (λ z. stands_before n t.0 z ≡ true) (sym e) a.0) ∙ (is_order n).irreflexive t.0)))
            ∙ Sums.zero_add r laws (at_monomial f u.0) ∙ b.0,
        later g a.1 b.1,
      )

  -- without a term at m the coefficient is 0
  pub nothing_there : (f : Polynomial n V) (m : ExpList n) → list_any (λ t. same (exps n) t.0 m) f ≡ false → at_monomial f m ≡ r.zero
  nothing_there [] m h = refl
  nothing_there (t ∷ f) m h = step (same (exps n) t.0 m) refl (nothing_there f m) h
    where
      step : (b : Bool) → same (exps n) t.0 m ≡ b → (list_any (λ t. same (exps n) t.0 m) f ≡ false → at_monomial f m ≡ r.zero) → (b || list_any (λ t. same (exps n) t.0 m) f) ≡ false → at_monomial (t ∷ f) m ≡ r.zero
      step true e rest g = absurd (true≢false g)
      step false e rest g = ap (λ b. r.add (cond b t.1 r.zero) (at_monomial f m)) e ∙ Sums.zero_add r laws (at_monomial f m) ∙ rest g

-- of a jet of the program
module _ {E V : Type 0} (m : Meaning E V) (laws : IsCommRing m.scalars.ops) (n : ℕ) where
  pub own_coefficients : (f : List (Exp × E)) → All (λ t. IsIn n t.0.e) f → IsRising f → AllByRecursion (λ t. coefficient (exps n) m.scalars.ops (poly_of n m.value f) (exp_of n t.0) ≡ m.value t.1) f
  own_coefficients f inside rises =
      unmapped (λ t. coefficient (exps n) m.scalars.ops (poly_of n m.value f) t.0 ≡ t.1) (λ (t : Exp × E). (exp_of n t.0, m.value t.1)) f
      (each_own n m.scalars.ops laws (poly_of n m.value f) (OneJet.rising_in m laws n f inside rises))

-- ---- lists that are read one by one

-- what holds of the first elements, and of the next one, holds of one more
pub one_more : {X : Type 0} (P : X → Type 0) (xs : List X) (i : ℕ) (x : X) → i < length xs → x ≡ get_or xs i x → P x → All P (take i xs) → All P (take (i + 1) xs)
one_more P xs i x within read p so_far = subst (All P) (ap (λ u. take i xs ++ u ∷ []) read ∙ sym (take_more xs i x within)) (all-push P (take i xs) x so_far p)
