-- Jets as sorted lists of terms: the lowest degree; polynomials that are cut at a degree; answers of tests.
use Rattle.std.proofs.Common.{◌≡◌, ℕ, zero, suc, ◌<◌, ◌≤◌, ◌⊎◌, inl, inr, Bool, true, false, cond, le-leb, List, [], ◌∷◌, length, get_or, sum, IsTrue, ◌↔◌, refl, sym, ap, ap₂, subst, ◌∙◌, arith}
use Rattle.std.specs.List.{All, AllByRecursion}
use Rattle.std.proofs.lemmas.Bool.{cases_lt, ltb-true}
use Rattle.std.proofs.lemmas.List.Elements.{All-head, All-tail}
use Rattle.ring_theory.specs.Scalars.{Meaning, ScalarLaws}
use Rattle.poly_law.specs.Exps.{degree}
use Rattle.poly_law.specs.ExpList.{ExpList, exps}
use Rattle.poly_law.specs.Poly.{coefficient, cut, Same, SameTo, StartsAt, term}
use Rattle.poly_law.specs.Polynomials.{Polynomial}
use Rattle.poly_law.specs.Sorted as sorted
use Rattle.poly_law.specs.Sorted.{HasNoZero}
use Rattle.poly_law.proofs.ExpLists.{exps_are}
use Rattle.poly_law.proofs.ExpLaws
use Rattle.poly_law.proofs.Sums
use Rattle.poly_law.proofs.Order
use Rattle.mono_exp.specs.declared.exponent.Exp.{Exp}
use Rattle.mono_exp.specs.Exponents.{IsIn}
use Rattle.mono_exp.proofs.Counting.{place}
use Rattle.germ_law.proofs.Canonical.{stands_before}
use Rattle.jet_law.specs.Terms.{poly_of}
use Rattle.jet_law.proofs.TermLemmas.{degree-exp_of}
use Rattle.jet_poly.specs.JetTerms.{JetTerms, IsRising}
use Rattle.jet_poly.specs.Jets.{IsJet}
use Rattle.report_jet.proofs.OneJet.{rising_in, no_zero_in}

module _ {E V : Type 0} (n : ℕ) (m : Meaning E V) (laws : ScalarLaws m.scalars) where
  abbrev P : List (Exp × E) → Polynomial n V
  P f = poly_of n m.value f

  abbrev C : Polynomial n V → ExpList n → V
  C f a = coefficient (exps n) m.scalars.ops f a

  after_none : (e : ExpList n) (f : Polynomial n V) → sorted.AllAfter (stands_before n) e f → C f e ≡ m.scalars.ops.zero
  after_none e [] h = refl
  after_none e (t ∷ f) h =
      ap (λ b. m.scalars.ops.add (cond b t.1 m.scalars.ops.zero) (C f e))
      (ExpLaws.same-no (exps n) (exps_are n) t.0 e (λ q. let less = ltb-true (place e.entries) (place t.0.entries) h.0 in let same = ap (λ a. place a.entries) q in absurd (omega arith)))
      ∙ Sums.zero_add m.scalars.ops laws.ring (C f e) ∙ after_none e f h.1

  first_is : (t : ExpList n × V) (f : Polynomial n V) → sorted.AllAfter (stands_before n) t.0 f → C (t ∷ f) t.0 ≡ t.1
  first_is t f a =
      ap₂ (λ b z. m.scalars.ops.add (cond b t.1 m.scalars.ops.zero) z) (ExpLaws.same_refl (exps n) (exps_are n) t.0) (after_none t.0 f a) ∙ laws.ring.add_zero t.1

  passed : (t : ExpList n × V) (f : Polynomial n V) (b : ExpList n) → (t.0 ≡ b → ⊥) → C (t ∷ f) b ≡ C f b
  passed t f b ne = ap (λ z. m.scalars.ops.add (cond z t.1 m.scalars.ops.zero) (C f b)) (ExpLaws.same-no (exps n) (exps_are n) t.0 b ne) ∙ Sums.zero_add m.scalars.ops laws.ring (C f b)

  -- the degrees of the terms are at least d
  abbrev pub AllFrom : ℕ → Polynomial n V → Type 0
  AllFrom d f = AllByRecursion (λ t. d ≤ degree (exps n) t.0) f

  -- where the polynomial starts at a degree, its terms do
  starts_all : (d : ℕ) (f : Polynomial n V) → sorted.IsRising (stands_before n) f → HasNoZero m.scalars.ops.zero f → StartsAt (exps n) m.scalars.ops d f → AllFrom d f
  starts_all d [] r nz h = tt
  starts_all d (t ∷ f) r nz h = step (starts_all d f r.1 nz.1) (cases_lt (degree (exps n) t.0) d)
    where
      step : (StartsAt (exps n) m.scalars.ops d f → AllFrom d f) → (degree (exps n) t.0 < d) ⊎ (d ≤ degree (exps n) t.0) → (d ≤ degree (exps n) t.0) × AllFrom d f
      step rest (inl l) = absurd (nz.0 (sym (first_is t f r.0) ∙ h t.0 l))
      step rest (inr l) = (l, rest (λ b e. sym (passed t f b (λ q. let same = ap (degree (exps n)) q in absurd (omega arith))) ∙ h b e))

  all_starts : (d : ℕ) (f : Polynomial n V) → AllFrom d f → StartsAt (exps n) m.scalars.ops d f
  all_starts d [] h b e = refl
  all_starts d (t ∷ f) h b e = passed t f b (λ q. let same = ap (degree (exps n)) q in let l = h.0 in absurd (omega arith)) ∙ all_starts d f h.1 b e

  from_sums : (d : ℕ) (f : List (Exp × E)) → All (λ t. IsIn n t.0.e) f → All (λ t. d ≤ sum t.0.e) f → AllFrom d (P f)
  from_sums d [] u h = tt
  from_sums d (t ∷ f) u h = (
    subst (λ e. d ≤ e) (sym (degree-exp_of n t.0 (All-head (λ t. IsIn n t.0.e) t f u))) (All-head (λ t. d ≤ sum t.0.e) t f h),
    from_sums d f (All-tail (λ t. IsIn n t.0.e) t f u) (All-tail (λ t. d ≤ sum t.0.e) t f h),
  )

  sum_at : (d : ℕ) (f : List (Exp × E)) (i : ℕ) (t : Exp × E) → All (λ t. IsIn n t.0.e) f → AllFrom d (P f) → i < length f → t ≡ get_or f i t → d ≤ sum t.0.e
  sum_at d [] i t u h l e = absurd (omega arith)
  sum_at d (s ∷ f) zero t u h l e = subst (λ z. d ≤ sum z.0.e) (sym e) (subst (λ z. d ≤ z) (degree-exp_of n s.0 (All-head (λ t. IsIn n t.0.e) s f u)) h.0)
  sum_at d (s ∷ f) (suc i) t u h l e = sum_at d f i t (All-tail (λ t. IsIn n t.0.e) s f u) h.1 (omega arith) e

  -- a jet starts at d where the degrees of its terms are at least d
  pub starts_from : (d : ℕ) (f : JetTerms E) → f.n ≡ n → IsJet m f → All (λ t. d ≤ sum t.0.e) f.terms → StartsAt (exps n) m.scalars.ops d (P f.terms)
  starts_from d f fn j h = all_starts d (P f.terms) (from_sums d f.terms (subst (λ i. All (λ t. IsIn i t.0.e) f.terms) fn j.variables) h)

  -- and there only
  pub starts_at_term : (d : ℕ) (f : JetTerms E) (i : ℕ) (t : Exp × E) → f.n ≡ n → IsJet m f → IsRising f.terms → i < length f.terms → t ≡ get_or f.terms i t → StartsAt (exps n) m.scalars.ops d (P f.terms) → d ≤ sum t.0.e
  starts_at_term d f i t fn j r l e h =
      let u = subst (λ i. All (λ t. IsIn i t.0.e) f.terms) fn j.variables in
      sum_at d f.terms i t u (starts_all d (P f.terms) (rising_in m laws.ring n f.terms u r) (no_zero_in m laws.ring n f.terms j.units) h) l e

  -- a polynomial of degree at most k is equal to f cut at k where it is equal to f up to degree k
  pub cut_is : (k : ℕ) (f h g : Polynomial n V) → Same (exps n) m.scalars.ops h (cut (exps n) m.scalars.ops k f) → cut (exps n) m.scalars.ops k g ≡ g → Same (exps n) m.scalars.ops h g → SameTo (exps n) m.scalars.ops k f g
  cut_is k f h g e low s b d = sym (Order.cut_same_to (exps n) (exps_are n) m.scalars.ops laws.ring k f b d) ∙ sym (e b) ∙ s b

  pub is_cut : (k : ℕ) (f h g : Polynomial n V) → Same (exps n) m.scalars.ops h (cut (exps n) m.scalars.ops k f) → cut (exps n) m.scalars.ops k g ≡ g → SameTo (exps n) m.scalars.ops k f g → Same (exps n) m.scalars.ops h g
  is_cut k f h g e low s b = e b ∙ Order.same-cut (exps n) (exps_are n) m.scalars.ops laws.ring k f g s b ∙ ap (λ z. C z b) low

  -- a monomial of degree at most k is not cut at k
  pub cut_term : (k : ℕ) (a : ExpList n) → degree (exps n) a ≤ k → cut (exps n) m.scalars.ops k (term (exps n) m.scalars.ops a) ≡ term (exps n) m.scalars.ops a
  cut_term k a h = ap (λ b. cond b ((a, m.scalars.ops.one) ∷ []) []) (le-leb (degree (exps n) a) k h)

-- ---- answers of tests

-- false, where the fact does not hold
pub answer_no : {P : Type 0} → (P → ⊥) → IsTrue false ↔ P
answer_no contrary = ((λ e. absurd (bad e)), (λ p. absurd (contrary p)))
  where
    bad : false ≡ true → ⊥
    bad e = cc e

-- true, where it does
pub answer_yes : {P : Type 0} → P → IsTrue true ↔ P
answer_yes p = ((λ e. p), (λ q. refl))

pub not_both : (b : Bool) → b ≡ true → b ≡ false → ⊥
not_both b t f = bad (sym t ∙ f)
  where
    bad : true ≡ false → ⊥
    bad e = cc e
