-- The multiples of products of powers that a substitution adds up.
use Rattle.std.proofs.Common.{◌≡◌, ◌≢◌, ℕ, suc, ◌+◌, ◌<◌, ◌≤◌, ◌^◌, inl, inr, List, [], ◌∷◌, ◌++◌, map, flat_map, length, get_or, take, All, ap, ap₂, sym, ◌∙◌, refl, subst, append_assoc, append-nil, arith}
use Rattle.std.proofs.lemmas.List.{map-append}
use Rattle.ring_theory.specs.Ring.{IsCommRing}
use Rattle.ring_theory.specs.Scalars.{Meaning}
use Rattle.poly_law.specs.ExpList.{ExpList, exps}
use Rattle.poly_law.specs.Poly.{SameTo, coefficient, scale, monomial_of, subst_in}
use Rattle.poly_law.specs.Polynomials.{Polynomial, SameIn, cut_in, substitute}
use Rattle.poly_law.proofs.ExpLists.{exps_are}
use Rattle.poly_law.proofs.Pair
use Rattle.poly_law.proofs.Pair.{at_only}
use Rattle.poly_law.proofs.Order
use Rattle.mono_exp.specs.declared.exponent.Exp.{Exp}
use Rattle.mono_exp.specs.Exponents.{IsIn}
use Rattle.jet_law.specs.Heights.{IsHigh, sums_heights}
use Rattle.jet_law.specs.Terms.{exp_of, poly_of}
use Rattle.jet_law.proofs.TermLemmas.{poly_of-take, poly_of-push}
use Rattle.jet_poly.specs.JetTerms.{JetTerms, IsRising}
use Rattle.jet_poly.specs.Jets.{IsJet}
use Rattle.jet_subst.specs.Powers.{IsReduced, IsTruncation}
use Rattle.jet_subst.specs.Parts.{part_of, AreMultiples, AddsMultiples, IsMultipleAmongHigh, IsTermHigh}
use Rattle.jet_subst.specs.Substitutions.{Summand, IsSubstHigh, IsMultipleHigh}
use Rattle.jet_subst.proofs.Reduced
use Rattle.jet_subst.proofs.Tables.{all_push, at-map, length-mapped}

pub flat_map-append : {X Y : Type 0} (f : X → List Y) (xs ys : List X) → flat_map f (xs ++ ys) ≡ flat_map f xs ++ flat_map f ys
flat_map-append f [] ys = refl
flat_map-append f (x ∷ xs) ys = ap (λ z. f x ++ z) (flat_map-append f xs ys) ∙ sym (append_assoc (f x) (flat_map f xs) (flat_map f ys))

-- one multiple more of given terms
pub scaled_more : {E V : Type 0} (m : Meaning E V) (n : ℕ) (old all new : List (Exp × E)) (a : E) (terms : List (Exp × E)) (idx : ℕ) (u : Exp × E) (v : E) → idx < length terms → u ≡ get_or terms idx u
    → poly_of n m.value all ≡ poly_of n m.value old ++ scale (exps n) m.scalars.ops (m.value a) (poly_of n m.value (take idx terms))
    → new ≡ all ++ (u.0, v) ∷ [] → m.value v ≡ m.scalars.ops.mul (m.value a) (m.value u.1)
    → poly_of n m.value new ≡ poly_of n m.value old ++ scale (exps n) m.scalars.ops (m.value a) (poly_of n m.value (take (idx + 1) terms))
scaled_more m n old all new a terms idx u v h e so_far items product =
    let r = m.scalars.ops in
    ap (poly_of n m.value) items ∙ poly_of-push n m.value all (u.0, v)
    ∙ ap₂ (λ y z. y ++ (exp_of n u.0, z) ∷ []) so_far product
    ∙ append_assoc (poly_of n m.value old) (scale (exps n) r (m.value a) (poly_of n m.value (take idx terms))) ((exp_of n u.0, r.mul (m.value a) (m.value u.1)) ∷ [])
    ∙ ap (λ z. poly_of n m.value old ++ z)
    (sym (map-append (λ t. (t.0, r.mul (m.value a) t.1)) (poly_of n m.value (take idx terms)) ((exp_of n u.0, m.value u.1) ∷ []))
    ∙ ap (scale (exps n) r (m.value a)) (sym (poly_of-take n m.value terms idx u h e)))

-- the product with one of them is high
pub scaled_high : {E V : Type 0} (m : Meaning E V) (a : E) (terms : List (Exp × E)) (idx : ℕ) (u : Exp × E) → idx < length terms → u ≡ get_or terms idx u
    → 2 ^ 120 ≤ m.scalars.product_height (m.value a) (m.value u.1) → (n : ℕ) → IsMultipleHigh m.scalars (m.value a) (poly_of n m.value terms)
scaled_high m a terms idx u h e high n = record {
  term = (exp_of n u.0, m.value u.1);
  among = (idx, subst (λ z. idx < z) (sym (length-mapped (λ t. (exp_of n t.0, m.value t.1)) terms)) h, at-map (λ t. (exp_of n t.0, m.value t.1)) terms idx u h e (exp_of n u.0, m.value u.1));
  high = high;
}

module _ {E V : Type 0} (m : Meaning E V) (c : IsCommRing m.scalars.ops) (n k : ℕ) (parts : List (JetTerms E)) where
  abbrev count : ℕ
  count = length parts

  abbrev image : ExpList count → Polynomial n V
  image = monomial_of (exps count) (exps n) m.scalars.ops (part_of n m.value parts)

  abbrev multiple_of : Summand (ExpList count) (ExpList n) V → Polynomial n V
  multiple_of u = scale (exps n) m.scalars.ops u.factor u.power

  abbrev term_of : Summand (ExpList count) (ExpList n) V → ExpList count × V
  term_of u = (u.exponent, u.factor)

  pub no_multiples : AreMultiples m n k parts [] []
  no_multiples = record {
    summands = [];
    terms = refl;
    powers = λ i d h. absurd (omega arith);
    multiples = refl;
    elems = λ i d h. absurd (omega arith);
    variables = λ i d h. absurd (omega arith);
  }

  pub more_multiples : (terms all new : List (Exp × E)) (idx : ℕ) (t : Exp × E) → idx < length terms → t ≡ get_or terms idx t → AreMultiples m n k parts (take idx terms) all
      → All (λ u. m.is_elem u.1) new → All (λ u. IsIn n u.0.e) new → AddsMultiples m n k parts t all new → AreMultiples m n k parts (take (idx + 1) terms) new
  more_multiples terms all new idx t h e q elems variables a =
      let u : Summand (ExpList count) (ExpList n) V = record { exponent = exp_of count t.0; factor = m.value t.1; power = a.power } in
      record {
        summands = q.summands ++ u ∷ [];
        terms = map-append term_of q.summands (u ∷ []) ∙ ap (λ z. z ++ (exp_of count t.0, m.value t.1) ∷ []) q.terms ∙ sym (poly_of-take count m.value terms idx t h e);
        powers = all_push (λ u. IsTruncation (exps n) m.scalars.ops k (image u.exponent) u.power) q.summands u q.powers a.power_is;
        multiples = a.adds ∙ ap (λ z. z ++ multiple_of u) q.multiples ∙ ap (λ z. flat_map multiple_of q.summands ++ z) (sym (append-nil (multiple_of u))) ∙ sym (flat_map-append multiple_of q.summands (u ∷ []));
        elems = elems;
        variables = variables;
      }

  coefficient-scale : (a : V) (f : Polynomial n V) (b : ExpList n) → coefficient (exps n) m.scalars.ops (scale (exps n) m.scalars.ops a f) b ≡ m.scalars.ops.mul a (coefficient (exps n) m.scalars.ops f b)
  coefficient-scale a f b =
      Pair.coefficient_is (exps n) m.scalars.ops c (scale (exps n) m.scalars.ops a f) b ∙ Pair.pair-scale (exps n) m.scalars.ops c a f (at_only (exps n) m.scalars.ops b)
      ∙ ap (m.scalars.ops.mul a) (sym (Pair.coefficient_is (exps n) m.scalars.ops c f b))

  -- up to degree k, the multiples add up to the substitution
  pub adds_up : (us : List (Summand (ExpList count) (ExpList n) V)) → All (λ u. IsTruncation (exps n) m.scalars.ops k (image u.exponent) u.power) us
      → SameTo (exps n) m.scalars.ops k (flat_map multiple_of us) (subst_in (exps count) (exps n) m.scalars.ops (part_of n m.value parts) (map term_of us))
  adds_up [] p b h = refl
  adds_up (u ∷ us) p b h =
      Order.coefficient-append (exps n) (exps_are n) m.scalars.ops c (multiple_of u) (flat_map multiple_of us) b
      ∙ ap₂ m.scalars.ops.add
      (coefficient-scale u.factor u.power b ∙ ap (m.scalars.ops.mul u.factor) (Reduced.same_to_truncation (exps n) (exps_are n) m.scalars.ops c k (image u.exponent) u.power (p 0 u (omega arith)) b h) ∙ sym (coefficient-scale u.factor (image u.exponent) b))
      (adds_up us (λ i d g. p (suc i) d (omega arith)) b h)
      ∙ sym (Order.coefficient-append (exps n) (exps_are n) m.scalars.ops c (scale (exps n) m.scalars.ops u.factor (image u.exponent)) (subst_in (exps count) (exps n) m.scalars.ops (part_of n m.value parts) (map term_of us)) b)

  pub multiples-cut : (front all : List (Exp × E)) → AreMultiples m n k parts front all
      → SameIn n m.scalars.ops (cut_in n m.scalars.ops k (poly_of n m.value all)) (cut_in n m.scalars.ops k (substitute count n m.scalars.ops (part_of n m.value parts) (poly_of count m.value front)))
  multiples-cut front all q = Order.same-cut (exps n) (exps_are n) m.scalars.ops c k (poly_of n m.value all) (substitute count n m.scalars.ops (part_of n m.value parts) (poly_of count m.value front)) λ b h.
      ap (λ z. coefficient (exps n) m.scalars.ops z b) q.multiples
      ∙ adds_up q.summands q.powers b h
      ∙ ap (λ z. coefficient (exps n) m.scalars.ops (substitute count n m.scalars.ops (part_of n m.value parts) z) b) q.terms

  module _ (terms : List (Exp × E)) (reduced : IsReduced (exps count) m.scalars.ops (poly_of count m.value terms)) (units : All (λ t. m.value t.1 ≢ m.scalars.ops.zero) terms) where
    abbrev High : Type 0
    High = IsSubstHigh (exps count) (exps n) m.scalars k (part_of n m.value parts) (poly_of count m.value terms)

    -- the coefficient at a term
    at_term : (i : ℕ) (t : Exp × E) → i < length terms → t ≡ get_or terms i t → coefficient (exps count) m.scalars.ops (poly_of count m.value terms) (exp_of count t.0) ≡ m.value t.1
    at_term i t h e = Reduced.coefficient-reduced (exps count) (exps_are count) m.scalars.ops c (poly_of count m.value terms) reduced i (exp_of count t.0, m.value t.1)
        (subst (λ z. i < z) (sym (length-mapped (λ t. (exp_of count t.0, m.value t.1)) terms)) h) (sym (at-map (λ t. (exp_of count t.0, m.value t.1)) terms i t h e (exp_of count t.0, m.value t.1)))

    stands : (i : ℕ) (t : Exp × E) → i < length terms → t ≡ get_or terms i t → coefficient (exps count) m.scalars.ops (poly_of count m.value terms) (exp_of count t.0) ≢ m.scalars.ops.zero
    stands i t h e z = units i t h (ap (λ (u : Exp × E). m.value u.1) (sym e) ∙ sym (at_term i t h e) ∙ z)

    pub table_high : IsTermHigh m n k parts terms → High
    table_high q = inl (record { exponent = exp_of count q.term.0; stands = stands q.among.0 q.term q.among.1 (sym q.among.2); high = q.high })

    pub multiple_high : (i : ℕ) (t : Exp × E) → i < length terms → t ≡ get_or terms i t → IsMultipleAmongHigh m n k parts t → High
    multiple_high i t h e q = elim (q.high) [
      | inl p ↦ inl (record { exponent = exp_of count t.0; stands = stands i t h e; high = p })
      | inr p ↦ inr (inl (record {
        exponent = exp_of count t.0;
        stands = stands i t h e;
        power = p.0;
        power_is = p.1;
        high = subst (λ z. IsMultipleHigh m.scalars z p.0) (sym (at_term i t h e)) p.2;
      }))
    ]

    pub sum_high : (all : List (Exp × E)) → AreMultiples m n k parts terms all → IsHigh (sums_heights (exps n) m.scalars (cut_in n m.scalars.ops k (poly_of n m.value all))) → High
    sum_high all q high = inr (inr (record {
      summands = q.summands;
      are = record {
        reduced = subst (IsReduced (exps count) m.scalars.ops) (sym q.terms) reduced;
        equal = λ b. ap (λ z. coefficient (exps count) m.scalars.ops z b) q.terms;
        powers = q.powers;
      };
      high = subst (λ z. IsHigh (sums_heights (exps n) m.scalars (cut_in n m.scalars.ops k z))) q.multiples high;
    }))

module _ {E V : Type 0} (m : Meaning E V) (f : JetTerms E) (parts : List (JetTerms E)) (ts : List (Exp × E)) (each : length parts ≡ f.n) (is : ts ≡ f.terms) where
  -- the terms of f, in as many variables as there are parts
  pub terms_reduced : IsJet m f → IsRising ts → IsReduced (exps (length parts)) m.scalars.ops (poly_of (length parts) m.value ts)
  terms_reduced jet rising = Reduced.reduced_of_rising (length parts) m.value m.scalars.ops ts
      (subst (All (λ t. IsIn (length parts) t.0.e)) (sym is) (λ i d h. subst (λ z. IsIn z (get_or f.terms i d).0.e) (sym each) (jet.variables i d h)))
      rising (subst (All (λ t. m.value t.1 ≢ m.scalars.ops.zero)) (sym is) jet.units)

  pub terms_units : IsJet m f → All (λ t. m.value t.1 ≢ m.scalars.ops.zero) ts
  terms_units jet = subst (All (λ t. m.value t.1 ≢ m.scalars.ops.zero)) (sym is) jet.units

  pub high_at : (n n' k : ℕ) → n ≡ n' → IsSubstHigh (exps (length parts)) (exps n) m.scalars k (part_of n m.value parts) (poly_of (length parts) m.value ts)
      → IsSubstHigh (exps f.n) (exps n') m.scalars k (part_of n' m.value parts) (poly_of f.n m.value f.terms)
  high_at n n' k e h =
      subst (λ z. IsSubstHigh (exps f.n) (exps z) m.scalars k (part_of z m.value parts) (poly_of f.n m.value f.terms)) e
      (subst (λ z. IsSubstHigh (exps f.n) (exps n) m.scalars k (part_of n m.value parts) (poly_of f.n m.value z)) is
      (subst (λ z. IsSubstHigh (exps z) (exps n) m.scalars k (part_of n m.value parts) (poly_of z m.value ts)) each h))

  pub value_at : (n n' k : ℕ) (h : List (Exp × E)) → n ≡ n' → SameIn n m.scalars.ops (poly_of n m.value h) (cut_in n m.scalars.ops k (substitute (length parts) n m.scalars.ops (part_of n m.value parts) (poly_of (length parts) m.value ts)))
      → SameIn n' m.scalars.ops (poly_of n' m.value h) (cut_in n' m.scalars.ops k (substitute f.n n' m.scalars.ops (part_of n' m.value parts) (poly_of f.n m.value f.terms)))
  value_at n n' k h e p =
      subst (λ z. SameIn z m.scalars.ops (poly_of z m.value h) (cut_in z m.scalars.ops k (substitute f.n z m.scalars.ops (part_of z m.value parts) (poly_of f.n m.value f.terms)))) e
      (subst (λ z. SameIn n m.scalars.ops (poly_of n m.value h) (cut_in n m.scalars.ops k (substitute f.n n m.scalars.ops (part_of n m.value parts) (poly_of f.n m.value z)))) is
      (subst (λ z. SameIn n m.scalars.ops (poly_of n m.value h) (cut_in n m.scalars.ops k (substitute z n m.scalars.ops (part_of n m.value parts) (poly_of z m.value ts)))) each p))
