-- Changes of coordinates: their parts as jets that are substituted, the identity, compositions.
use Rattle.std.proofs.Common.{◌≡◌, ℕ, zero, suc, ◌+◌, ◌<◌, ◌≤◌, List, [], ◌∷◌, length, get_or, Bool, true, false, cond, eqb, eqb-true, eq-eqb, ne_eqb, ◌++◌, inl, inr, sum, All, ◌≢◌, ap, ap₂, sym, ◌∙◌, refl, subst, arith}
use Rattle.std.proofs.lemmas.List.{get_or-set_same, get_or-set_other}
use Rattle.ring_theory.specs.Ring.{RingOps, IsCommRing}
use Rattle.ring_theory.specs.Scalars.{Meaning, MeaningLaws}
use Rattle.poly_law.specs.Sums.{sum_to, unit_at}
use Rattle.poly_law.specs.Exps.{Exps, IsExps, variable, degree}
use Rattle.poly_law.specs.ExpList.{exps}
use Rattle.poly_law.specs.Poly.{Terms, Same, SameTo, coefficient, cut, term, subst_in, IsInvertible}
use Rattle.poly_law.specs.Polynomials.{Polynomial, SameIn, cut_in, substitute}
use Rattle.poly_law.proofs.ExpLists.{exps_are}
use Rattle.poly_law.proofs.ExpLaws
use Rattle.poly_law.proofs.Sums
use Rattle.poly_law.proofs.Near
use Rattle.poly_law.proofs.Linear
use Rattle.poly_law.proofs.Order
use Rattle.poly_law.proofs.Inverse
use Rattle.mono_exp.specs.declared.exponent.Exp.{Exp}
use Rattle.mono_exp.specs.Exponents.{IsIn}
use Rattle.jet_law.specs.Terms.{exp_of, poly_of}
use Rattle.jet_law.proofs.TermLemmas.{at-exp_of, degree-exp_of}
use Rattle.jet_poly.specs.JetTerms.{JetTerms}
use Rattle.jet_poly.specs.Jets.{IsJet}
use Rattle.jet_subst.specs.Parts.{variables_of, jet_at, part_of, IsPart}
use Rattle.jet_subst.specs.Substitutions.{IsSubstHigh}
use Rattle.jet_subst.proofs.Reduced.{zeros}
use Rattle.coord_change.specs.Linear.{one_at}
use Rattle.jet_subst.proofs.PowerLemmas.{at-append, at-last, before_or_last}

module _ {E V : Type 0} (m : Meaning E V) where
  pub variables_are : (n : ℕ) (parts : List (JetTerms E)) → 0 < length parts → All (IsPart m n) parts → variables_of parts ≡ n
  variables_are n [] h p = absurd (omega arith)
  variables_are n (q ∷ qs) h p = (p 0 q (omega arith)).variables

  module _ (f : JetTerms E) (xs parts : List (JetTerms E)) (n k : ℕ) (ex : xs ≡ parts) (en : variables_of xs ≡ n) (ef : f.n ≡ n) where
    pub value_to : (h : List (Exp × E)) → SameIn (variables_of xs) m.scalars.ops (poly_of (variables_of xs) m.value h) (cut_in (variables_of xs) m.scalars.ops k (substitute f.n (variables_of xs) m.scalars.ops (part_of (variables_of xs) m.value xs) (poly_of f.n m.value f.terms)))
        → SameIn n m.scalars.ops (poly_of n m.value h) (cut_in n m.scalars.ops k (substitute n n m.scalars.ops (part_of n m.value parts) (poly_of n m.value f.terms)))
    value_to h p =
        subst (λ zs. SameIn n m.scalars.ops (poly_of n m.value h) (cut_in n m.scalars.ops k (substitute n n m.scalars.ops (part_of n m.value zs) (poly_of n m.value f.terms)))) ex
        (subst (λ z. SameIn n m.scalars.ops (poly_of n m.value h) (cut_in n m.scalars.ops k (substitute z n m.scalars.ops (part_of n m.value xs) (poly_of z m.value f.terms)))) ef
        (subst (λ z. SameIn z m.scalars.ops (poly_of z m.value h) (cut_in z m.scalars.ops k (substitute f.n z m.scalars.ops (part_of z m.value xs) (poly_of f.n m.value f.terms)))) en p))

    pub high_to : IsSubstHigh (exps f.n) (exps (variables_of xs)) m.scalars k (part_of (variables_of xs) m.value xs) (poly_of f.n m.value f.terms)
        → IsSubstHigh (exps n) (exps n) m.scalars k (part_of n m.value parts) (poly_of n m.value f.terms)
    high_to p =
        subst (λ zs. IsSubstHigh (exps n) (exps n) m.scalars k (part_of n m.value zs) (poly_of n m.value f.terms)) ex
        (subst (λ z. IsSubstHigh (exps z) (exps n) m.scalars k (part_of n m.value xs) (poly_of z m.value f.terms)) ef
        (subst (λ z. IsSubstHigh (exps f.n) (exps z) m.scalars k (part_of z m.value xs) (poly_of f.n m.value f.terms)) en p))

-- one part more
pub parts_more : {E V : Type 0} (m : Meaning E V) (n : ℕ) (P : ℕ → Polynomial n V → Type 0) (parts : List (JetTerms E)) (part : JetTerms E) (i : ℕ) → length parts ≡ i
    → ((j : ℕ) → j < i → P j (part_of n m.value parts j)) → P i (poly_of n m.value part.terms) → (j : ℕ) → j < i + 1 → P j (part_of n m.value (parts ++ part ∷ []) j)
parts_more {E} m n P parts part i e old new j h = elim (before_or_last j i h) [
  | inl b ↦ subst (λ (u : JetTerms E). P j (poly_of n m.value u.terms)) (sym (at-append parts part _ j (omega arith))) (old j b)
  | inr q ↦
      subst (λ (u : JetTerms E). P j (poly_of n m.value u.terms)) (sym (ap (λ z. jet_at (parts ++ part ∷ []) z) (q ∙ sym e) ∙ at-last parts part _))
      (subst (λ z. P z (poly_of n m.value part.terms)) (sym q) new)
]

module _ {E V : Type 0} (x : Exps E) (l : IsExps x) (r : RingOps V) (c : IsCommRing r) where
  -- what is asked of a change concerns its parts up to degree 1
  pub invertible_same_to : (parts parts' : ℕ → Terms E V) (a a' : ℕ → ℕ → V) → ((i : ℕ) → i < x.count → SameTo x r 1 (parts i) (parts' i))
      → ((i j : ℕ) → i < x.count → j < x.count → a i j ≡ a' i j) → IsInvertible x r parts a → IsInvertible x r parts' a'
  invertible_same_to parts parts' a a' e ea q = record {
    no_constant = λ i h b g. sym (e i h b (omega arith)) ∙ q.no_constant i h b g;
    left = λ i k h g.
        sym (Sums.sum_to-cong r x.count (λ j. r.mul (a i j) (coefficient x r (parts j) (variable x k))) (λ j. r.mul (a' i j) (coefficient x r (parts' j) (variable x k)))
        (λ j y. ap₂ r.mul (ea i j h y) (linear j k y g)))
        ∙ q.left i k h g;
    right = λ i k h g.
        sym (Sums.sum_to-cong r x.count (λ j. r.mul (coefficient x r (parts i) (variable x j)) (a j k)) (λ j. r.mul (coefficient x r (parts' i) (variable x j)) (a' j k))
        (λ j y. ap₂ r.mul (linear i j h y) (ea j k y g)))
        ∙ q.right i k h g;
  }
    where
      linear : (j k : ℕ) → j < x.count → k < x.count → coefficient x r (parts j) (variable x k) ≡ coefficient x r (parts' j) (variable x k)
      linear j k y g = e j y (variable x k) (let z = ExpLaws.degree-variable x l k g in omega arith)

  -- the variables and the identity matrix
  pub identity_invertible : IsSet V → IsInvertible x r (λ i. term x r (variable x i)) (unit_at r)
  identity_invertible s = record {
    no_constant = λ i h. Near.variables_start x l r c s i h;
    left = λ i k h g.
        Sums.sum_to-cong r x.count (λ j. r.mul (unit_at r i j) (coefficient x r (term x r (variable x j)) (variable x k))) (λ j. r.mul (unit_at r i j) (unit_at r j k)) (λ j y. ap (r.mul (unit_at r i j)) (linear j k y g))
        ∙ Sums.sum_to-unit r c x.count k (unit_at r i) g;
    right = λ i k h g.
        Sums.sum_to-cong r x.count (λ j. r.mul (coefficient x r (term x r (variable x i)) (variable x j)) (unit_at r j k)) (λ j. r.mul (unit_at r i j) (unit_at r j k)) (λ j y. ap (λ z. r.mul z (unit_at r j k)) (linear i j h y))
        ∙ Sums.sum_to-unit r c x.count k (unit_at r i) g;
  }
    where
      linear : (j k : ℕ) → j < x.count → k < x.count → coefficient x r (term x r (variable x j)) (variable x k) ≡ unit_at r j k
      linear j k y g = Near.coefficient-term x l r c s (variable x j) (variable x k) ∙ Linear.at_only-variable x l r c j k y g

  -- a composition, cut at k
  pub composition_invertible : IsSet V → (k : ℕ) → 1 ≤ k → (first next parts : ℕ → Terms E V) (a b d : ℕ → ℕ → V) → IsInvertible x r first a → IsInvertible x r next b
      → ((i : ℕ) → i < x.count → Same x r (parts i) (cut x r k (subst_in x x r next (first i))))
      → ((i j : ℕ) → i < x.count → j < x.count → d i j ≡ sum_to r x.count (λ t. r.mul (b i t) (a t j))) → IsInvertible x r parts d
  composition_invertible s k one first next parts a b d qa qb is id =
      invertible_same_to (λ i. subst_in x x r next (first i)) parts (λ i j. sum_to r x.count (λ t. r.mul (b i t) (a t j))) d
      (λ i h e g. sym (is i h e ∙ Order.cut_same_to x l r c k (subst_in x x r next (first i)) e (omega arith)))
      (λ i j h g. sym (id i j h g))
      (Inverse.compose_invertible x l r c s first next a b qa qb)

-- ---- the jet of a variable

one_at-at : (i j : ℕ) → i < 8 → get_or (one_at i) j 0 ≡ cond (eqb j i) 1 0
one_at-at i j h = step (eqb j i) refl
  where
    step : (b : Bool) → eqb j i ≡ b → get_or (one_at i) j 0 ≡ cond b 1 0
    step true e = ap (λ z. get_or (one_at i) z 0) (eqb-true j i e) ∙ get_or-set_same (0 ∷ 0 ∷ 0 ∷ 0 ∷ 0 ∷ 0 ∷ 0 ∷ 0 ∷ []) i 1 0 h
    step false e = get_or-set_other (0 ∷ 0 ∷ 0 ∷ 0 ∷ 0 ∷ 0 ∷ 0 ∷ 0 ∷ []) i j 1 0 (λ q. let bad : true ≡ false = sym (eq-eqb j i q) ∙ e in cc bad) ∙ zeros j

pub one_at-in : (n i : ℕ) → i < n → n ≤ 8 → IsIn n (one_at i)
one_at-in n i h e j g = one_at-at i j (omega arith) ∙ ap (λ b. cond {A = ℕ} b 1 0) (ne_eqb j i (λ q. omega arith))

pub exp_of-one_at : (n i : ℕ) → i < n → n ≤ 8 → exp_of n (record { e = one_at i }) ≡ variable (exps n) i
exp_of-one_at n i h e = (exps_are n).same_at (exp_of n (record { e = one_at i })) (variable (exps n) i) λ j g.
    at-exp_of n (record { e = one_at i }) j g ∙ one_at-at i j (omega arith) ∙ sym ((exps_are n).at_make (λ j. cond (eqb j i) 1 0) j g)

-- the one term that is variable i is a jet
pub variable_jet : {E V : Type 0} (m : Meaning E V) → MeaningLaws m → (n order i : ℕ) → i < n → n ≤ 8 → 1 ≤ order → (one : E) → m.is_elem one → m.value one ≡ m.scalars.ops.one
    → IsJet m (record { n = n; order = order; terms = (record { e = one_at i }, one) ∷ [] })
variable_jet {E} {V} m laws n order i h e o one valid is = record {
  variables = only (λ t. IsIn n t.0.e) (one_at-in n i h e);
  degrees = only (λ t. sum t.0.e ≤ order) (let d = degree-exp_of n (record { e = one_at i }) (one_at-in n i h e) in
      let q : degree (exps n) (exp_of n (record { e = one_at i })) ≡ 1 = ap (degree (exps n)) (exp_of-one_at n i h e) ∙ ExpLaws.degree-variable (exps n) (exps_are n) i h in omega arith);
  elems = only (λ t. m.is_elem t.1) valid;
  units = only (λ t. m.value t.1 ≢ m.scalars.ops.zero) (λ z. laws.numbers.nontrivial (sym is ∙ z));
}
  where
    only : (P : Exp × E → Type 0) → P (record { e = one_at i }, one) → All P ((record { e = one_at i }, one) ∷ [])
    only P p zero d h = p
    only P p (suc j) d h = absurd (omega arith)

pub variable_value : {E V : Type 0} (m : Meaning E V) (n i : ℕ) → i < n → n ≤ 8 → (one : E) → m.value one ≡ m.scalars.ops.one
    → poly_of n m.value ((record { e = one_at i }, one) ∷ []) ≡ term (exps n) m.scalars.ops (variable (exps n) i)
variable_value m n i h e one is = ap₂ (λ y z. (y, z) ∷ []) (exp_of-one_at n i h e) is
