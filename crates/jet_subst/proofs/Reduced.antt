-- Reduced lists of terms, and truncations.
use Rattle.std.proofs.Common.{◌≡◌, ◌≢◌, ℕ, zero, suc, ◌<◌, ◌≤◌, Bool, true, false, cond, ◌&&◌, ◌||◌, le-leb, ltb, ltb-true, ltb-false, le-ltb, ◌==◌, List, [], ◌∷◌, length, get_or, sum, All, ap, ap₂, sym, ◌∙◌, refl, subst, arith}
use Rattle.std.specs.List.{filter}
use Rattle.ring_theory.specs.Ring.{RingOps, IsCommRing}
use Rattle.ring_theory.specs.Scalars.{Meaning, MeaningLaws}
use Rattle.poly_law.specs.Polynomials.{Polynomial}
use Rattle.poly_law.specs.Exps.{Exps, IsExps, none, same, degree}
use Rattle.poly_law.specs.ExpList.{ExpList, exps}
use Rattle.poly_law.specs.Poly.{Terms, Same, SameTo, coefficient, constant, cut, times}
use Rattle.poly_law.proofs.ExpLists.{exps_are}
use Rattle.poly_law.proofs.ExpLaws
use Rattle.poly_law.proofs.Sums
use Rattle.poly_law.proofs.Order
use Rattle.mono_exp.specs.declared.exponent.Exp.{Exp}
use Rattle.mono_exp.specs.Exponents.{IsIn, is_before, is_greater_first}
use Rattle.jet_law.specs.Terms.{exp_of, poly_of}
use Rattle.jet_law.proofs.TermLemmas.{at-exp_of, degree-exp_of}
use Rattle.jet_poly.specs.JetTerms.{IsRising, AllAfter}
use Rattle.jet_poly.specs.JetTerms.{JetTerms}
use Rattle.jet_poly.specs.Jets.{IsJet}
use Rattle.jet_subst.specs.Powers.{IsReduced, IsTruncation, IsTruncatedJet}

-- ---- in the code's order no monomial comes twice

before-equal : (a b : List ℕ) → ((i : ℕ) → get_or a i 0 ≡ get_or b i 0) → is_greater_first a b ≡ false
before-equal [] b e = refl
before-equal (x ∷ a) [] e = refl
before-equal (x ∷ a) (y ∷ b) e =
    ap₂ (λ p q. p || q) (le-ltb y x (let z : x ≡ y = e 0 in omega arith))
    (ap (λ z. (x == y) && z) (before-equal a b (λ i. e (suc i))) ∙ no (x == y))
  where
    no : (t : Bool) → t && false ≡ false
    no true = refl
    no false = refl

same_entries : (n : ℕ) (a b : Exp) → IsIn n a.e → IsIn n b.e → exp_of n a ≡ exp_of n b → (i : ℕ) → get_or a.e i 0 ≡ get_or b.e i 0
same_entries n a b ha hb e i = step (ltb i n) refl
  where
    step : (t : Bool) → ltb i n ≡ t → get_or a.e i 0 ≡ get_or b.e i 0
    step true h = let h' : i < n = ltb-true i n h in sym (at-exp_of n a i h') ∙ ap (λ m. (exps n).at m i) e ∙ at-exp_of n b i h'
    step false h = let h' : n ≤ i = ltb-false i n h in ha i h' ∙ sym (hb i h')

not_before : (n : ℕ) (a b : Exp) → IsIn n a.e → IsIn n b.e → exp_of n a ≡ exp_of n b → is_before a.e b.e ≡ false
not_before n a b ha hb e =
    let d : sum a.e ≡ sum b.e = sym (degree-exp_of n a ha) ∙ ap (degree (exps n)) e ∙ degree-exp_of n b hb in
    ap₂ (λ p q. p || q) (le-ltb (sum a.e) (sum b.e) (omega arith))
    (ap (λ z. (sum a.e == sum b.e) && z) (before-equal a.e b.e (same_entries n a b ha hb e)) ∙ no (sum a.e == sum b.e))
  where
    no : (t : Bool) → t && false ≡ false
    no true = refl
    no false = refl

module _ {E V : Type 0} (n : ℕ) (value : E → V) where
  none_after : (a : Exp) (m : ExpList n) → IsIn n a.e → exp_of n a ≡ m → (ts : List (Exp × E)) → All (λ t. IsIn n t.0.e) ts → AllAfter a ts
      → filter (λ t. same (exps n) t.0 m) (poly_of n value ts) ≡ []
  none_after a m ha e [] hs after = refl
  none_after a m ha e (t ∷ ts) hs after = step (same (exps n) (exp_of n t.0) m) refl (none_after a m ha e ts (λ k d h. hs (suc k) d (omega arith)) after.1)
    where
      step : (b : Bool) → same (exps n) (exp_of n t.0) m ≡ b → filter (λ t. same (exps n) t.0 m) (poly_of n value ts) ≡ []
          → cond b ((exp_of n t.0, value t.1) ∷ filter (λ t. same (exps n) t.0 m) (poly_of n value ts)) (filter (λ t. same (exps n) t.0 m) (poly_of n value ts)) ≡ []
      step true q rest = absurd (bad (sym after.0 ∙ not_before n a t.0 ha (hs 0 t (omega arith)) (e ∙ sym (ExpLaws.same-eq (exps n) (exps_are n) (exp_of n t.0) m q))))
        where
          bad : true ≡ false → ⊥
          bad z = cc z
      step false q rest = rest

  once : (ts : List (Exp × E)) → All (λ t. IsIn n t.0.e) ts → IsRising ts → (m : ExpList n) → length (filter (λ t. same (exps n) t.0 m) (poly_of n value ts)) ≤ 1
  once [] hs rising m = omega arith
  once (t ∷ ts) hs rising m = step (same (exps n) (exp_of n t.0) m) refl (once ts (λ k d h. hs (suc k) d (omega arith)) rising.1 m)
    where
      step : (b : Bool) → same (exps n) (exp_of n t.0) m ≡ b → length (filter (λ t. same (exps n) t.0 m) (poly_of n value ts)) ≤ 1
          → length (cond b ((exp_of n t.0, value t.1) ∷ filter (λ t. same (exps n) t.0 m) (poly_of n value ts)) (filter (λ t. same (exps n) t.0 m) (poly_of n value ts))) ≤ 1
      step true q h = subst (λ z. suc (length z) ≤ 1)
          (sym (none_after t.0 m (hs 0 t (omega arith)) (ExpLaws.same-eq (exps n) (exps_are n) (exp_of n t.0) m q) ts (λ k d h. hs (suc k) d (omega arith)) rising.0)) (omega arith)
      step false q h = h

  units : (z : V) (ts : List (Exp × E)) → All (λ t. value t.1 ≢ z) ts → All (λ t. t.1 ≢ z) (poly_of n value ts)
  units z [] h k d g = absurd (omega arith)
  units z (t ∷ ts) h zero d g = h 0 t (omega arith)
  units z (t ∷ ts) h (suc k) d g = units z ts (λ k d g. h (suc k) d (omega arith)) k d (omega arith)

  -- the terms of a jet are reduced
  pub reduced_of_rising : (r : RingOps V) (ts : List (Exp × E)) → All (λ t. IsIn n t.0.e) ts → IsRising ts → All (λ t. value t.1 ≢ r.zero) ts → IsReduced (exps n) r (poly_of n value ts)
  reduced_of_rising r ts hs rising u = record { once = once ts hs rising; units = units r.zero ts u }

module _ {E V : Type 0} (x : Exps E) (l : IsExps x) (r : RingOps V) (c : IsCommRing r) where
  -- ---- the coefficient of a reduced list

  no_terms : (m : E) (f : Terms E V) → length (filter (λ t. same x t.0 m) f) ≤ 0 → coefficient x r f m ≡ r.zero
  no_terms m [] h = refl
  no_terms m (t ∷ f) h = step (same x t.0 m) h (λ g. no_terms m f g)
    where
      step : (b : Bool) → length (cond b (t ∷ filter (λ t. same x t.0 m) f) (filter (λ t. same x t.0 m) f)) ≤ 0
          → (length (filter (λ t. same x t.0 m) f) ≤ 0 → coefficient x r f m ≡ r.zero) → r.add (cond b t.1 r.zero) (coefficient x r f m) ≡ r.zero
      step true h rest = absurd (omega arith)
      step false h rest = ap (r.add r.zero) (rest h) ∙ c.add_zero r.zero

  one_term : (f : Terms E V) (k : ℕ) (t : E × V) → k < length f → t ≡ get_or f k t → 1 ≤ length (filter (λ u. same x u.0 t.0) f)
  one_term [] k t h e = absurd (omega arith)
  one_term (u ∷ f) zero t h e = subst (λ b. 1 ≤ length (cond b (u ∷ filter (λ u. same x u.0 t.0) f) (filter (λ u. same x u.0 t.0) f)))
      (sym (ap (λ v. same x v.0 t.0) (sym e) ∙ ExpLaws.same_refl x l t.0)) (omega arith)
  one_term (u ∷ f) (suc k) t h e = step (same x u.0 t.0) (one_term f k t (omega arith) e)
    where
      step : (b : Bool) → 1 ≤ length (filter (λ u. same x u.0 t.0) f) → 1 ≤ length (cond b (u ∷ filter (λ u. same x u.0 t.0) f) (filter (λ u. same x u.0 t.0) f))
      step true g = omega arith
      step false g = g

  single : (f : Terms E V) (k : ℕ) (t : E × V) → k < length f → t ≡ get_or f k t → length (filter (λ u. same x u.0 t.0) f) ≤ 1 → coefficient x r f t.0 ≡ t.1
  single [] k t h e o = absurd (omega arith)
  single (u ∷ f) zero t h e o = step (same x u.0 t.0) (ap (λ v. same x v.0 t.0) (sym e) ∙ ExpLaws.same_refl x l t.0) o
    where
      step : (b : Bool) → b ≡ true → length (cond b (u ∷ filter (λ u. same x u.0 t.0) f) (filter (λ u. same x u.0 t.0) f)) ≤ 1 → r.add (cond b u.1 r.zero) (coefficient x r f t.0) ≡ t.1
      step true q g = ap₂ r.add (ap (λ v. v.1) (sym e)) (no_terms t.0 f (omega arith)) ∙ c.add_zero t.1
      step false q g = let bad : ⊥ = cc q in absurd bad
  single (u ∷ f) (suc k) t h e o = step (same x u.0 t.0) o (one_term f k t (omega arith) e) (λ g. single f k t (omega arith) e g)
    where
      step : (b : Bool) → length (cond b (u ∷ filter (λ u. same x u.0 t.0) f) (filter (λ u. same x u.0 t.0) f)) ≤ 1 → 1 ≤ length (filter (λ u. same x u.0 t.0) f)
          → (length (filter (λ u. same x u.0 t.0) f) ≤ 1 → coefficient x r f t.0 ≡ t.1) → r.add (cond b u.1 r.zero) (coefficient x r f t.0) ≡ t.1
      step true g o rest = absurd (omega arith)
      step false g o rest = ap (r.add r.zero) (rest g) ∙ Sums.zero_add r c t.1

  -- it is the one that stands in the list
  pub coefficient-reduced : (f : Terms E V) → IsReduced x r f → (k : ℕ) (t : E × V) → k < length f → t ≡ get_or f k t → coefficient x r f t.0 ≡ t.1
  coefficient-reduced f q k t h e = single f k t h e (q.once t.0)

  -- ---- truncations

  pub same_to_truncation : (k : ℕ) (f p : Terms E V) → IsTruncation x r k f p → SameTo x r k p f
  same_to_truncation k f p q m h = q.equal m ∙ Order.cut_same_to x l r c k f m h

  -- of polynomials that are equal up to degree k
  pub truncation_same_to : (k : ℕ) (f g p : Terms E V) → SameTo x r k f g → IsTruncation x r k f p → IsTruncation x r k g p
  truncation_same_to k f g p e q = record { reduced = q.reduced; equal = λ m. q.equal m ∙ Order.same-cut x l r c k f g e m }

  -- of a product, by truncations of its factors
  pub truncation_times : (k : ℕ) (f g p q u : Terms E V) → IsTruncation x r k f p → IsTruncation x r k g q → IsTruncation x r k (times x r p q) u → IsTruncation x r k (times x r f g) u
  truncation_times k f g p q u a b = truncation_same_to k (times x r p q) (times x r f g) u
      (Order.times_same_to x l r c k p f q g (same_to_truncation k f p a) (same_to_truncation k g q b))

-- a jet with these terms is that truncation
pub truncated_jet : {E V : Type 0} (m : Meaning E V) (n k : ℕ) (f : Polynomial n V) (p : JetTerms E) → IsJet m p → p.n ≡ n → p.order ≡ k → IsRising p.terms
    → Same (exps n) m.scalars.ops (poly_of n m.value p.terms) (cut (exps n) m.scalars.ops k f) → IsTruncatedJet m n k f p
truncated_jet m n k f p jet en ek rising equal = record {
  jet = jet;
  variables = en;
  order = ek;
  truncation = record {
    reduced = reduced_of_rising n m.value m.scalars.ops p.terms (λ i d h. subst (λ z. IsIn z (get_or p.terms i d).0.e) en (jet.variables i d h)) rising jet.units;
    equal = equal;
  };
}

pub zeros : (i : ℕ) → ◌≡◌ {A = ℕ} (get_or (0 ∷ 0 ∷ 0 ∷ 0 ∷ 0 ∷ 0 ∷ 0 ∷ 0 ∷ []) i 0) 0
zeros zero = refl
zeros (suc zero) = refl
zeros (suc (suc zero)) = refl
zeros (suc (suc (suc zero))) = refl
zeros (suc (suc (suc (suc zero)))) = refl
zeros (suc (suc (suc (suc (suc zero))))) = refl
zeros (suc (suc (suc (suc (suc (suc zero)))))) = refl
zeros (suc (suc (suc (suc (suc (suc (suc zero))))))) = refl
zeros (suc (suc (suc (suc (suc (suc (suc (suc i)))))))) = refl

-- the jet of the one term 1
pub one_jet : {E V : Type 0} (m : Meaning E V) → MeaningLaws m → (n k : ℕ) (one : E) → m.is_elem one → m.value one ≡ m.scalars.ops.one
    → IsTruncatedJet m n k (constant (exps n) m.scalars.ops m.scalars.ops.one) (record { n = n; order = k; terms = (record { e = 0 ∷ 0 ∷ 0 ∷ 0 ∷ 0 ∷ 0 ∷ 0 ∷ 0 ∷ [] }, one) ∷ [] })
one_jet {E} {V} m laws n k one valid is = truncated_jet m n k (constant (exps n) m.scalars.ops m.scalars.ops.one) _ jet refl refl (tt, tt) equal
  where
    only : (P : Exp × E → Type 0) → P (record { e = 0 ∷ 0 ∷ 0 ∷ 0 ∷ 0 ∷ 0 ∷ 0 ∷ 0 ∷ [] }, one) → All P ((record { e = 0 ∷ 0 ∷ 0 ∷ 0 ∷ 0 ∷ 0 ∷ 0 ∷ 0 ∷ [] }, one) ∷ [])
    only P p zero d h = p
    only P p (suc i) d h = absurd (omega arith)

    jet : IsJet m (record { n = n; order = k; terms = (record { e = 0 ∷ 0 ∷ 0 ∷ 0 ∷ 0 ∷ 0 ∷ 0 ∷ 0 ∷ [] }, one) ∷ [] })
    jet = record {
      variables = only (λ t. IsIn n t.0.e) (λ i h. zeros i);
      degrees = only (λ t. sum t.0.e ≤ k) (omega arith);
      elems = only (λ t. m.is_elem t.1) valid;
      units = only (λ t. m.value t.1 ≢ m.scalars.ops.zero) (λ z. laws.numbers.nontrivial (sym is ∙ z));
    }

    none_is : exp_of n (record { e = 0 ∷ 0 ∷ 0 ∷ 0 ∷ 0 ∷ 0 ∷ 0 ∷ 0 ∷ [] }) ≡ none (exps n)
    none_is = (exps_are n).same_at _ _ λ i h. at-exp_of n (record { e = 0 ∷ 0 ∷ 0 ∷ 0 ∷ 0 ∷ 0 ∷ 0 ∷ 0 ∷ [] }) i h ∙ zeros i ∙ sym (ExpLaws.at-none (exps n) (exps_are n) i h)

    kept : (a : ExpList n) (v : V) → degree (exps n) a ≤ k → (a, v) ∷ [] ≡ cut (exps n) m.scalars.ops k ((a, v) ∷ [])
    kept a v h = ap (λ b. cond b ((a, v) ∷ []) []) (sym (le-leb (degree (exps n) a) k h))

    equal : Same (exps n) m.scalars.ops ((exp_of n (record { e = 0 ∷ 0 ∷ 0 ∷ 0 ∷ 0 ∷ 0 ∷ 0 ∷ 0 ∷ [] }), m.value one) ∷ []) (cut (exps n) m.scalars.ops k (constant (exps n) m.scalars.ops m.scalars.ops.one))
    equal a = ap (λ z. coefficient (exps n) m.scalars.ops z a)
        (ap₂ (λ y z. (y, z) ∷ []) none_is is ∙ kept (none (exps n)) m.scalars.ops.one (let z : degree (exps n) (none (exps n)) ≡ 0 = ExpLaws.degree-none (exps n) (exps_are n) in omega arith))

-- its terms are in the n variables
pub jet_variables : {E V : Type 0} (m : Meaning E V) (n k : ℕ) (f : Polynomial n V) (p : JetTerms E) → IsTruncatedJet m n k f p → All (λ t. IsIn n t.0.e) p.terms
jet_variables m n k f p q i d h = subst (λ z. IsIn z (get_or p.terms i d).0.e) q.variables (q.jet.variables i d h)
