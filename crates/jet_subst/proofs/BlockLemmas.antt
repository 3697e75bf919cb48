-- The terms of one degree of a substitution, and their heights.
use Rattle.std.proofs.Common.{◌≡◌, ℕ, zero, suc, ◌+◌, ◌<◌, ◌≤◌, ◌^◌, ◌⊎◌, inl, inr, Bool, true, false, cond, eqb, eqb-true, leb, List, [], ◌∷◌, ◌++◌, map, flat_map, length, get_or, take, sum, All, Contains, refl, sym, ap, ap₂, ◌∙◌, subst, append-nil, arith}
use Rattle.std.specs.List.{filter}
use Rattle.std.proofs.lemmas.List.Elements.{filter-append}
use Rattle.std.proofs.lemmas.List.{map-append}
use Rattle.ring_theory.specs.Ring.{IsCommRing}
use Rattle.ring_theory.specs.Height.{most}
use Rattle.ring_theory.specs.Scalars.{Scalars, Meaning}
use Rattle.poly_law.specs.Exps.{same, degree}
use Rattle.poly_law.specs.ExpList.{ExpList, exps}
use Rattle.poly_law.specs.Poly.{coefficient, cut, scale, monomial_of}
use Rattle.poly_law.specs.Polynomials.{Polynomial, SameIn, cut_in, substitute}
use Rattle.poly_law.proofs.ExpLists.{exps_are}
use Rattle.poly_law.proofs.ExpLaws
use Rattle.poly_law.proofs.Order
use Rattle.mono_exp.specs.declared.exponent.Exp.{Exp}
use Rattle.mono_exp.specs.Exponents.{IsIn}
use Rattle.jet_law.specs.Heights.{IsHigh, summands_at, sums_heights}
use Rattle.jet_law.specs.Terms.{exp_of, poly_of}
use Rattle.jet_law.proofs.TermLemmas.{poly_of-take}
use Rattle.jet_law.proofs.High.{high_head, high_tail}
use Rattle.jet_poly.specs.JetTerms.{JetTerms}
use Rattle.jet_poly.specs.Jets.{component}
use Rattle.jet_poly.proofs.KeptTerms.{filtered-by}
use Rattle.jet_subst.specs.Powers.{IsReduced, IsTruncation}
use Rattle.jet_subst.specs.Parts.{part_of}
use Rattle.jet_subst.specs.Blocks.{AddsBlock, AreBlocks}
use Rattle.jet_subst.specs.KeptPowers.{KeepsParts}
use Rattle.jet_subst.specs.declared.keeping.Kept.{Kept}
use Rattle.jet_subst.specs.Substitutions.{Summand, IsSubstHigh, IsMultipleHigh}
use Rattle.jet_subst.proofs.Multiples
use Rattle.jet_subst.proofs.Multiples.{flat_map-append}
use Rattle.jet_subst.proofs.Tables.{all_push}

-- ---- what passes a test

-- two tests in the other order
filter-swap : {X : Type 0} (p q : X → Bool) (xs : List X) → filter p (filter q xs) ≡ filter q (filter p xs)
filter-swap p q [] = refl
filter-swap p q (x ∷ xs) = step (filter-swap p q xs) (p x) (q x) refl refl
  where
    step : filter p (filter q xs) ≡ filter q (filter p xs) → (a b : Bool) → p x ≡ a → q x ≡ b → filter p (cond b (x ∷ filter q xs) (filter q xs)) ≡ filter q (cond a (x ∷ filter p xs) (filter p xs))
    step rest true true e d = ap (λ t. cond t (x ∷ filter p (filter q xs)) (filter p (filter q xs))) e ∙ ap (λ z. x ∷ z) rest ∙ sym (ap (λ t. cond t (x ∷ filter q (filter p xs)) (filter q (filter p xs))) d)
    step rest true false e d = rest ∙ sym (ap (λ t. cond t (x ∷ filter q (filter p xs)) (filter q (filter p xs))) d)
    step rest false true e d = ap (λ t. cond t (x ∷ filter p (filter q xs)) (filter p (filter q xs))) e ∙ rest
    step rest false false e d = rest

-- a test that another one implies
filter-implied : {X : Type 0} (p q : X → Bool) → ((x : X) → p x ≡ true → q x ≡ true) → (xs : List X) → filter p (filter q xs) ≡ filter p xs
filter-implied p q h [] = refl
filter-implied p q h (x ∷ xs) = step (filter-implied p q h xs) (p x) (q x) refl refl
  where
    step : filter p (filter q xs) ≡ filter p xs → (a b : Bool) → p x ≡ a → q x ≡ b → filter p (cond b (x ∷ filter q xs) (filter q xs)) ≡ cond a (x ∷ filter p xs) (filter p xs)
    step rest true true e d = ap (λ t. cond t (x ∷ filter p (filter q xs)) (filter p (filter q xs))) e ∙ ap (λ z. x ∷ z) rest
    step rest true false e d = let no : true ≡ false = sym (h x e) ∙ d in let bad : ⊥ = cc no in absurd bad
    step rest false true e d = ap (λ t. cond t (x ∷ filter p (filter q xs)) (filter p (filter q xs))) e ∙ rest
    step rest false false e d = rest

high_case : (h : ℕ) (hs : List ℕ) → IsHigh (h ∷ hs) → (2 ^ 120 ≤ h) ⊎ IsHigh hs
unfolding most
high_case h hs e = grind arith

-- heights of what passes a test are among those of all
high_filtered : {X : Type 0} (p : X → Bool) (g g' : X → ℕ) → ((x : X) → p x ≡ true → g x ≡ g' x) → (xs : List X) → IsHigh (map g (filter p xs)) → IsHigh (map g' xs)
high_filtered p g g' h [] e = e
high_filtered p g g' h (x ∷ xs) e = step (high_filtered p g g' h xs) (p x) refl e
  where
    step : (IsHigh (map g (filter p xs)) → IsHigh (map g' xs)) → (b : Bool) → p x ≡ b → IsHigh (map g (cond b (x ∷ filter p xs) (filter p xs))) → IsHigh (map g' (x ∷ xs))
    step rest true d q = elim (high_case (g x) (map g (filter p xs)) q) [
      | inl high ↦ high_head (g' x) (map g' xs) (subst (λ z. 2 ^ 120 ≤ z) (h x d) high)
      | inr high ↦ high_tail (g' x) (map g' xs) (rest high)
    ]
    step rest false d q = high_tail (g' x) (map g' xs) (rest q)

in_filtered : {X : Type 0} (p : X → Bool) (xs : List X) (x : X) (k : ℕ) → k < length (filter p xs) → get_or (filter p xs) k x ≡ x → Contains xs x
in_filtered p [] x k h e = absurd (omega arith)
in_filtered p (y ∷ ys) x k h e = step (in_filtered p ys x) (p y) k h e
  where
    later : Contains ys x → Contains (y ∷ ys) x
    later c = (suc c.0, let z = c.1 in omega arith, c.2)

    step : ((k : ℕ) → k < length (filter p ys) → get_or (filter p ys) k x ≡ x → Contains ys x) → (b : Bool) (k : ℕ) → k < length (cond b (y ∷ filter p ys) (filter p ys)) → get_or (cond b (y ∷ filter p ys) (filter p ys)) k x ≡ x → Contains (y ∷ ys) x
    step rest true zero h e = (0, omega arith, e)
    step rest true (suc k) h e = later (rest k (omega arith) e)
    step rest false k h e = later (rest k h e)

-- a multiple that is high in some terms is in all
multiple_in : {F V : Type 0} (s : Scalars V) (c : V) (p : F × V → Bool) (f : List (F × V)) → IsMultipleHigh s c (filter p f) → IsMultipleHigh s c f
multiple_in s c p f q = record { term = q.term; among = in_filtered p f q.term q.among.0 q.among.1 q.among.2; high = q.high }

-- what is said of kept products is said of those with the same parts and the same degree
pub as_kept : {E : Type 0} (old new : Kept E) (P : ℕ → ℕ → List (JetTerms E) → Type 0) → KeepsParts old new → P new.n new.order new.parts → P old.n old.order old.parts
as_kept old new P e p = subst (λ z. P z old.order old.parts) e.n (subst (λ z. P new.n z old.parts) e.order (subst (λ z. P new.n new.order z) e.parts p))

pub kept_on : {E : Type 0} (first old new : Kept E) → KeepsParts first old → KeepsParts old new → KeepsParts first new
kept_on first old new a b = record { n = b.n ∙ a.n; order = b.order ∙ a.order; parts = b.parts ∙ a.parts }

module _ {E V : Type 0} (m : Meaning E V) (n k : ℕ) where
  -- the terms of degree k of a jet are those of its polynomial
  pub block_of : (terms block : List (Exp × E)) → All (λ t. IsIn n t.0.e) terms → block ≡ filter (λ t. eqb (sum t.0.e) k) terms → poly_of n m.value block ≡ component n k (poly_of n m.value terms)
  block_of terms block inside e = ap (poly_of n m.value) e ∙ filtered-by m n (λ d. eqb d k) (λ d. eqb d k) terms (λ d. refl) inside

  pub block_high : (c : E) (terms block : List (Exp × E)) → All (λ t. IsIn n t.0.e) terms → block ≡ filter (λ t. eqb (sum t.0.e) k) terms
      → IsMultipleHigh m.scalars (m.value c) (poly_of n m.value block) → IsMultipleHigh m.scalars (m.value c) (poly_of n m.value terms)
  block_high c terms block inside e high = multiple_in m.scalars (m.value c) (λ t. eqb (degree (exps n) t.0) k) (poly_of n m.value terms) (subst (IsMultipleHigh m.scalars (m.value c)) (block_of terms block inside e) high)

module _ {E V : Type 0} (m : Meaning E V) (c : IsCommRing m.scalars.ops) (n k : ℕ) (parts : List (JetTerms E)) where
  abbrev count : ℕ
  count = length parts

  abbrev one_summand : Type 0
  one_summand = Summand (ExpList count) (ExpList n) V

  abbrev multiple_of : one_summand → Polynomial n V
  multiple_of u = scale (exps n) m.scalars.ops u.factor u.power

  abbrev block_in : one_summand → Polynomial n V
  block_in u = scale (exps n) m.scalars.ops u.factor (component n k u.power)

  abbrev term_of : one_summand → ExpList count × V
  term_of u = (u.exponent, u.factor)

  pub no_blocks : AreBlocks m n k parts [] []
  no_blocks = record {
    summands = [];
    terms = refl;
    powers = λ i d h. absurd (omega arith);
    blocks = refl;
    elems = λ i d h. absurd (omega arith);
    variables = λ i d h. absurd (omega arith);
  }

  pub more_blocks : (terms all new : List (Exp × E)) (idx : ℕ) (t : Exp × E) → idx < length terms → t ≡ get_or terms idx t → AreBlocks m n k parts (take idx terms) all
      → All (λ u. m.is_elem u.1) new → All (λ u. IsIn n u.0.e) new → AddsBlock m n k parts t all new → AreBlocks m n k parts (take (idx + 1) terms) new
  more_blocks terms all new idx t h e q elems variables a =
      let u : one_summand = record { exponent = exp_of count t.0; factor = m.value t.1; power = a.power } in
      record {
        summands = q.summands ++ u ∷ [];
        terms = map-append term_of q.summands (u ∷ []) ∙ ap (λ z. z ++ (exp_of count t.0, m.value t.1) ∷ []) q.terms ∙ sym (poly_of-take count m.value terms idx t h e);
        powers = all_push (λ u. IsTruncation (exps n) m.scalars.ops k (monomial_of (exps count) (exps n) m.scalars.ops (part_of n m.value parts) u.exponent) u.power) q.summands u q.powers a.power_is;
        blocks = a.adds ∙ ap (λ z. z ++ block_in u) q.blocks ∙ ap (λ z. flat_map block_in q.summands ++ z) (sym (append-nil (block_in u))) ∙ sym (flat_map-append block_in q.summands (u ∷ []));
        elems = elems;
        variables = variables;
      }

  component-scale : (a : V) (f : Polynomial n V) → component n k (scale (exps n) m.scalars.ops a f) ≡ scale (exps n) m.scalars.ops a (component n k f)
  component-scale a [] = refl
  component-scale a (t ∷ f) = step (component-scale a f) (eqb (degree (exps n) t.0) k)
    where
      step : component n k (scale (exps n) m.scalars.ops a f) ≡ scale (exps n) m.scalars.ops a (component n k f) → (b : Bool)
          → cond b ((t.0, m.scalars.ops.mul a t.1) ∷ component n k (scale (exps n) m.scalars.ops a f)) (component n k (scale (exps n) m.scalars.ops a f)) ≡ scale (exps n) m.scalars.ops a (cond b (t ∷ component n k f) (component n k f))
      step rest true = ap (λ z. (t.0, m.scalars.ops.mul a t.1) ∷ z) rest
      step rest false = rest

  blocks_are : (us : List one_summand) → flat_map block_in us ≡ component n k (flat_map multiple_of us)
  blocks_are [] = refl
  blocks_are (u ∷ us) = ap₂ (λ y z. y ++ z) (sym (component-scale u.factor u.power)) (blocks_are us) ∙ sym (filter-append (λ t. eqb (degree (exps n) t.0) k) (multiple_of u) (flat_map multiple_of us))

  -- the terms of degree k, cut at k, are those of what is cut at k
  cut_blocks : (us : List one_summand) → cut_in n m.scalars.ops k (flat_map block_in us) ≡ component n k (cut_in n m.scalars.ops k (flat_map multiple_of us))
  cut_blocks us =
      ap (cut_in n m.scalars.ops k) (blocks_are us)
      ∙ filter-swap (λ t. leb (degree (exps n) t.0) k) (λ t. eqb (degree (exps n) t.0) k) (flat_map multiple_of us)

  -- they are the terms of degree k of the substitution
  pub blocks_add : (front all : List (Exp × E)) → AreBlocks m n k parts front all
      → SameIn n m.scalars.ops (cut_in n m.scalars.ops k (poly_of n m.value all)) (component n k (substitute count n m.scalars.ops (part_of n m.value parts) (poly_of count m.value front)))
  blocks_add front all q b =
      ap (λ z. coefficient (exps n) m.scalars.ops z b) (ap (cut_in n m.scalars.ops k) q.blocks ∙ cut_blocks q.summands)
      ∙ Order.coefficient-filter (exps n) (exps_are n) m.scalars.ops c (λ a. eqb (degree (exps n) a) k) (cut_in n m.scalars.ops k (flat_map multiple_of q.summands)) b
      ∙ step (eqb (degree (exps n) b) k) refl
      ∙ sym (Order.coefficient-filter (exps n) (exps_are n) m.scalars.ops c (λ a. eqb (degree (exps n) a) k) whole b)
    where
      whole : Polynomial n V
      whole = substitute count n m.scalars.ops (part_of n m.value parts) (poly_of count m.value front)

      step : (t : Bool) → eqb (degree (exps n) b) k ≡ t → cond t (coefficient (exps n) m.scalars.ops (cut_in n m.scalars.ops k (flat_map multiple_of q.summands)) b) m.scalars.ops.zero ≡ cond t (coefficient (exps n) m.scalars.ops whole b) m.scalars.ops.zero
      step true e =
          let low = eqb-true (degree (exps n) b) k e in
          Order.cut_same_to (exps n) (exps_are n) m.scalars.ops c k (flat_map multiple_of q.summands) b (omega arith)
          ∙ Multiples.adds_up m c n k parts q.summands q.powers b (omega arith)
          ∙ ap (λ z. coefficient (exps n) m.scalars.ops (substitute count n m.scalars.ops (part_of n m.value parts) z) b) q.terms
      step false e = refl

  -- their sums are sums of the substitution
  height_same : (f : Polynomial n V) (t : ExpList n × V) → eqb (degree (exps n) t.0) k ≡ true → m.scalars.sum_height (summands_at (exps n) m.scalars (component n k f) t.0) ≡ m.scalars.sum_height (summands_at (exps n) m.scalars f t.0)
  height_same f t d =
      ap (λ z. m.scalars.sum_height (map (λ u. u.1) z))
      (filter-implied (λ u. same (exps n) u.0 t.0) (λ u. eqb (degree (exps n) u.0) k) (λ u e. ap (λ z. eqb (degree (exps n) z) k) (ExpLaws.same-eq (exps n) (exps_are n) u.0 t.0 e) ∙ d) f)

  sums_in : (f : Polynomial n V) → IsHigh (sums_heights (exps n) m.scalars (component n k f)) → IsHigh (sums_heights (exps n) m.scalars f)
  sums_in f high =
      high_filtered (λ t. eqb (degree (exps n) t.0) k) (λ t. m.scalars.sum_height (summands_at (exps n) m.scalars (component n k f) t.0)) (λ t. m.scalars.sum_height (summands_at (exps n) m.scalars f t.0))
      (height_same f) f high

  pub blocks_high : (terms all : List (Exp × E)) → IsReduced (exps count) m.scalars.ops (poly_of count m.value terms) → AreBlocks m n k parts terms all
      → IsHigh (sums_heights (exps n) m.scalars (cut_in n m.scalars.ops k (poly_of n m.value all)))
      → IsSubstHigh (exps count) (exps n) m.scalars k (part_of n m.value parts) (poly_of count m.value terms)
  blocks_high terms all reduced q high = inr (inr (record {
    summands = q.summands;
    are = record {
      reduced = subst (IsReduced (exps count) m.scalars.ops) (sym q.terms) reduced;
      equal = λ b. ap (λ z. coefficient (exps count) m.scalars.ops z b) q.terms;
      powers = q.powers;
    };
    high = sums_in (cut_in n m.scalars.ops k (flat_map multiple_of q.summands)) (subst (λ z. IsHigh (sums_heights (exps n) m.scalars z)) (ap (cut_in n m.scalars.ops k) q.blocks ∙ cut_blocks q.summands) high);
  }))

-- the terms of f, in as many variables as there are parts
pub block_at : {E V : Type 0} (m : Meaning E V) (f : JetTerms E) (parts : List (JetTerms E)) (ts h : List (Exp × E)) (n k : ℕ) → length parts ≡ f.n → ts ≡ f.terms
    → SameIn n m.scalars.ops (poly_of n m.value h) (component n k (substitute (length parts) n m.scalars.ops (part_of n m.value parts) (poly_of (length parts) m.value ts)))
    → SameIn n m.scalars.ops (poly_of n m.value h) (component n k (substitute f.n n m.scalars.ops (part_of n m.value parts) (poly_of f.n m.value f.terms)))
block_at m f parts ts h n k each is p =
    subst (λ z. SameIn n m.scalars.ops (poly_of n m.value h) (component n k (substitute f.n n m.scalars.ops (part_of n m.value parts) (poly_of f.n m.value z)))) is
    (subst (λ z. SameIn n m.scalars.ops (poly_of n m.value h) (component n k (substitute z n m.scalars.ops (part_of n m.value parts) (poly_of z m.value ts)))) each p)
