-- Kept products of powers: each is formed from the one with a variable less.
use mathlib.Core.Path.{fun_ext}
use Rattle.std.proofs.Common.{◌≡◌, ℕ, suc, ◌+◌, ◌-◌, ◌<◌, ◌≤◌, ◌⊎◌, inl, inr, Bool, true, false, cond, eqb, eqb-true, eq-eqb, ne_eqb, nat_eq, List, [], ◌∷◌, map, length, get_or, set, sum, Some, IfSome, IsSome, ap, ap₂, sym, ◌∙◌, refl, subst, arith}
use Rattle.std.specs.List.{AllByRecursion, range_with_len}
use Rattle.std.proofs.lemmas.List.{get_or-set_same, get_or-set_other, length-set}
use Rattle.std.specs.Map.{lookup}
use Rattle.indexmap.specs.IndexMap.{insert_entry}
use Rattle.ring_theory.specs.Ring.{IsCommRing}
use Rattle.ring_theory.specs.Scalars.{Meaning}
use Rattle.poly_law.specs.Exps.{plus, none, variable, degree}
use Rattle.poly_law.specs.ExpList.{ExpList, exps}
use Rattle.poly_law.specs.Poly.{Same, coefficient, times, constant, monomial_of}
use Rattle.poly_law.specs.Polynomials.{Polynomial, poly_in, times_in}
use Rattle.poly_law.proofs.ExpLists.{exps_are}
use Rattle.poly_law.proofs.ExpLaws
use Rattle.poly_law.proofs.PolyRing
use Rattle.poly_law.proofs.Subst
use Rattle.mono_exp.specs.declared.exponent.Exp.{Exp}
use Rattle.mono_exp.specs.Exponents.{IsIn, rank_of, exponents, monomials_below}
use Rattle.jet_law.specs.Heights.{IsHigh, product_heights}
use Rattle.jet_law.specs.Terms.{exp_of, poly_of}
use Rattle.jet_law.proofs.TermLemmas.{at-exp_of, degree-exp_of}
use Rattle.jet_poly.specs.JetTerms.{JetTerms}
use Rattle.jet_poly.specs.Gathered.{numbered}
use Rattle.jet_poly.proofs.GatheredLemmas.{numbered-rank, insert-all}
use Rattle.mono_exp.proofs.Lists.{sum-cons}
use Rattle.jet_subst.specs.Powers.{IsTruncation, IsTruncatedJet}
use Rattle.jet_subst.specs.Parts.{part_of, jet_at}
use Rattle.jet_subst.specs.Substitutions.{ArePowersOfHigh}
use Rattle.jet_subst.specs.KeptPowers.{ArePowersOf, IsHeld, IsFollowing, IsStep, zeros}
use Rattle.jet_subst.proofs.PowerLemmas.{power-one}
use Rattle.jet_subst.proofs.Reduced

-- what a key finds
held_at : {X : Type 0} (Q : ℕ → X → Type 0) (k : ℕ) (sums : List (ℕ × X)) → AllByRecursion (λ s. Q s.0 s.1) sums → IfSome (lookup (nat_eq k) sums) (Q k)
held_at Q k [] a = tt
held_at Q k (s ∷ sums) a = step (nat_eq k s.0) refl (held_at Q k sums a.1)
  where
    step : (b : Bool) → nat_eq k s.0 ≡ b → IfSome (lookup (nat_eq k) sums) (Q k) → IfSome (cond b (Some s.1) (lookup (nat_eq k) sums)) (Q k)
    step true e r = subst (λ z. Q z s.1) (sym (eqb-true k s.0 e)) a.0
    step false e r = r

below_or : (i n : ℕ) → (i < n) ⊎ (n ≤ i)
below_or i n = grind arith

-- a variable that e has is one of its n
pub variable_inside : (n i x : ℕ) (e : List ℕ) → IsIn n e → x < get_or e i 0 → i < n
variable_inside n i x e h p = elim (below_or i n) [ inl b ↦ b | inr b ↦ (let z = h i b in absurd (omega arith)) ]

set_is : (a : List ℕ) (i v j : ℕ) → i < length a → get_or (set a i v) j 0 ≡ cond (eqb j i) v (get_or a j 0)
set_is a i v j h = step (eqb j i) refl
  where
    step : (b : Bool) → eqb j i ≡ b → get_or (set a i v) j 0 ≡ cond b v (get_or a j 0)
    step true e = ap (λ z. get_or (set a i v) z 0) (eqb-true j i e) ∙ get_or-set_same a i v 0 h
    step false e = get_or-set_other a i j v 0 (λ q. let bad : true ≡ false = sym (eq-eqb j i q) ∙ e in cc bad)

module _ (n i : ℕ) (current next : Exp) (d : IsStep n current.e i next.e) where
  next_at : (j : ℕ) → get_or next.e j 0 ≡ cond (eqb j i) (get_or current.e i 0 + 1) (get_or current.e j 0)
  next_at j = ap (λ z. get_or z j 0) d.times ∙ set_is current.e i (get_or current.e i 0 + 1) j (let a = d.long in let b = d.inside in let w = d.within in omega arith)

  -- the monomial is the one before times x(i)
  pub again : plus (exps n) (exp_of n current) (variable (exps n) i) ≡ exp_of n next
  again = (exps_are n).same_at _ _ λ j h.
      ExpLaws.at-plus (exps n) (exps_are n) (exp_of n current) (variable (exps n) i) j h
      ∙ ap₂ (λ y z. y + z) (at-exp_of n current j h) (ExpLaws.at-variable (exps n) (exps_are n) i j h)
      ∙ step j (eqb j i) refl
      ∙ sym (at-exp_of n next j h ∙ next_at j)
    where
      step : (j : ℕ) (b : Bool) → eqb j i ≡ b → get_or current.e j 0 + cond {A = ℕ} b 1 0 ≡ cond b (get_or current.e i 0 + 1) (get_or current.e j 0)
      step j true e = ap (λ z. get_or current.e z 0 + 1) (eqb-true j i e)
      step j false e = omega arith

  pub next_in : IsIn n next.e
  next_in j h = next_at j ∙ ap (λ b. cond b (get_or current.e i 0 + 1) (get_or current.e j 0)) (ne_eqb j i (λ e. let z = d.inside in omega arith)) ∙ d.variables j h

  pub next_sum : sum next.e ≡ sum current.e + 1
  next_sum =
      let p = degree-exp_of n next next_in in
      let q = degree-exp_of n current d.variables in
      let r = ExpLaws.degree-plus (exps n) (exps_are n) (exp_of n current) (variable (exps n) i) in
      let s = ExpLaws.degree-variable (exps n) (exps_are n) i d.inside in
      let t : degree (exps n) (plus (exps n) (exp_of n current) (variable (exps n) i)) ≡ degree (exps n) (exp_of n next) = ap (degree (exps n)) again in
      omega arith

  pub next_long : length next.e ≡ 8
  next_long = ap length d.times ∙ length-set current.e i (get_or current.e i 0 + 1) ∙ d.long

  -- where it still divides e
  pub next_divides : (e : List ℕ) → get_or current.e i 0 < get_or e i 0 → ((j : ℕ) → get_or current.e j 0 ≤ get_or e j 0) → (j : ℕ) → get_or next.e j 0 ≤ get_or e j 0
  next_divides e below all j = step (eqb j i) refl (next_at j)
    where
      step : (b : Bool) → eqb j i ≡ b → get_or next.e j 0 ≡ cond b (get_or current.e i 0 + 1) (get_or current.e j 0) → get_or next.e j 0 ≤ get_or e j 0
      step true q z = let y : get_or next.e j 0 ≡ get_or current.e i 0 + 1 = z in let w : get_or e j 0 ≡ get_or e i 0 = ap (λ k. get_or e k 0) (eqb-true j i q) in omega arith
      step false q z = let y : get_or next.e j 0 ≡ get_or current.e j 0 = z in let w = all j in omega arith

-- a divisor has no greater degree, and no other variables
pub sum_divides : (a b : List ℕ) → length a ≡ length b → ((j : ℕ) → get_or a j 0 ≤ get_or b j 0) → sum a ≤ sum b
sum_divides [] [] e h = omega arith
sum_divides [] (y ∷ b) e h = absurd (omega arith)
sum_divides (x ∷ a) [] e h = absurd (omega arith)
sum_divides (x ∷ a) (y ∷ b) e h = let p = sum_divides a b (omega arith) (λ j. h (suc j)) in let q = h 0 in let r = sum-cons x a in let s = sum-cons y b in omega arith

pub in_divides : (n : ℕ) (a b : List ℕ) → IsIn n b → ((j : ℕ) → get_or a j 0 ≤ get_or b j 0) → IsIn n a
in_divides n a b h all j g = let p = h j g in let q = all j in omega arith

pub zero_at : (j : ℕ) → get_or zeros j 0 ≡ 0
zero_at j = Reduced.zeros j

pub zero_divides : (e : List ℕ) (j : ℕ) → get_or zeros j 0 ≤ get_or e j 0
zero_divides e j = let z = zero_at j in omega arith

-- a divisor of e times a variable that e has more often
module _ (count : ℕ) (current e next : Exp) (i : ℕ) (inside : IsIn count e.e) (eight : count ≤ 8) (long : length current.e ≡ 8) (divides : (j : ℕ) → get_or current.e j 0 ≤ get_or e.e j 0)
    (f : IsFollowing current.e e.e i next.e) where
  pub step_of : IsStep count current.e i next.e
  step_of = record {
    variables = in_divides count current.e e.e inside divides;
    long = long;
    inside = variable_inside count i (get_or current.e i 0) e.e inside f.below;
    within = eight;
    times = f.times;
  }

  pub still_divides : (j : ℕ) → get_or next.e j 0 ≤ get_or e.e j 0
  still_divides = next_divides count i current next step_of e.e f.below divides

  pub next_degree : length e.e ≡ 8 → sum next.e ≤ sum e.e
  next_degree e8 = sum_divides next.e e.e (next_long count i current next step_of ∙ sym e8) still_divides

  pub smaller : length e.e ≡ 8 → sum e.e - sum next.e < sum e.e - sum current.e
  smaller e8 = let a = next_degree e8 in let b = next_sum count i current next step_of in omega arith

-- monomials with the same exponents are held together
pub held_same : (count : ℕ) (a b : List ℕ) → ((j : ℕ) → get_or a j 0 ≡ get_or b j 0) → exponents count a ≡ exponents count b
held_same count a b h = ap (λ f. map f (range_with_len 0 count)) (fun_ext h)

pub held_at_last : {E : Type 0} (count : ℕ) (a b : Exp) (powers : List (ℕ × JetTerms E)) → ((j : ℕ) → get_or a.e j 0 ≡ get_or b.e j 0) → IsHeld count a powers → IsHeld count b powers
held_at_last count a b powers h q = subst (λ z. IsSome (lookup (nat_eq (rank_of count z)) powers)) (held_same count a.e b.e h) q

pub all_places : (count : ℕ) (a b : List ℕ) → count ≤ 8 → IsIn count b → ((j : ℕ) → get_or a j 0 ≤ get_or b j 0) → ((j : ℕ) → j < 8 → get_or b j 0 ≤ get_or a j 0) → (j : ℕ) → get_or a j 0 ≡ get_or b j 0
all_places count a b e h below above j = elim (below_or j 8) [
  | inl p ↦ (let x = below j in let y = above j p in omega arith)
  | inr p ↦ (let x = below j in let y = h j (omega arith) in omega arith)
]

module _ {E V : Type 0} (m : Meaning E V) (n k : ℕ) (parts : List (JetTerms E)) where
  abbrev count : ℕ
  count = length parts

  abbrev image : ExpList count → Polynomial n V
  image = monomial_of (exps count) (exps n) m.scalars.ops (part_of n m.value parts)

  abbrev Held : ℕ → JetTerms E → Type 0
  Held number p = IsTruncatedJet m n k (image (numbered count number)) p

  -- what stands at the number of a monomial is its product
  pub read : (powers : List (ℕ × JetTerms E)) (a : Exp) (number : ℕ) (p : JetTerms E) → ArePowersOf m n k parts powers → number ≡ rank_of count (exponents count a.e) → number < length (monomials_below count 18)
      → Some p ≡ lookup (nat_eq number) powers → IsTruncatedJet m n k (image (exp_of count a)) p
  read powers a number p all is within found =
      subst (λ z. IsTruncatedJet m n k (image z) p) (sym (numbered-rank count number a within (sym is)))
      (subst (λ o. IfSome o (Held number)) (sym found) (held_at Held number powers all))

  -- one product more
  pub keep_more : (powers new : List (ℕ × JetTerms E)) (a : Exp) (number : ℕ) (p : JetTerms E) → ArePowersOf m n k parts powers → number ≡ rank_of count (exponents count a.e) → number < length (monomials_below count 18)
      → new ≡ insert_entry nat_eq powers number p → IsTruncatedJet m n k (image (exp_of count a)) p → ArePowersOf m n k parts new
  keep_more powers new a number p all is within e q =
      subst (ArePowersOf m n k parts) (sym e)
      (insert-all (λ s. Held s.0 s.1) powers number p
      (λ i h. subst (λ z. Held z p) h (subst (λ z. IsTruncatedJet m n k (image z) p) (numbered-rank count number a within (sym is)) q)) all)

  module _ (c : IsCommRing m.scalars.ops) (s : IsSet V) where
    -- the product for 1
    pub one_image : (p : JetTerms E) → IsTruncatedJet m n k (poly_in n m.scalars.ops).one p → IsTruncatedJet m n k (image (exp_of count (record { e = zeros }))) p
    one_image p q = record {
      jet = q.jet;
      variables = q.variables;
      order = q.order;
      truncation = Reduced.truncation_same_to (exps n) (exps_are n) m.scalars.ops c k (constant (exps n) m.scalars.ops m.scalars.ops.one) (image (exp_of count (record { e = zeros }))) (poly_of n m.value p.terms)
          (λ b _. sym (ap (λ e. coefficient (exps n) m.scalars.ops (image e) b) is_none ∙ Subst.monomial_of-none (exps count) (exps_are count) (exps n) (exps_are n) m.scalars.ops c s (part_of n m.value parts) b)) q.truncation;
    }
      where
        is_none : exp_of count (record { e = zeros }) ≡ none (exps count)
        is_none = (exps_are count).same_at _ _ λ i h. at-exp_of count (record { e = zeros }) i h ∙ zero_at i ∙ sym (ExpLaws.at-none (exps count) (exps_are count) i h)

    -- the exponents of e less those of a
    abbrev left_over : Exp → Exp → ExpList count
    left_over a e = (exps count).make (λ j. get_or e.e j 0 - get_or a.e j 0)

    -- where forming a divisor of e is high
    pub divisor_high : (a e : Exp) → ((j : ℕ) → get_or a.e j 0 ≤ get_or e.e j 0) → ArePowersOfHigh (exps count) (exps n) m.scalars k (part_of n m.value parts) (exp_of count a)
        → ArePowersOfHigh (exps count) (exps n) m.scalars k (part_of n m.value parts) (exp_of count e)
    divisor_high a e h q = record {
      first = q.first;
      second = q.second;
      rest = plus (exps count) q.rest (left_over a e);
      divides =
          sym (ExpLaws.plus_assoc (exps count) (exps_are count) (plus (exps count) q.first q.second) q.rest (left_over a e))
          ∙ ap (λ z. plus (exps count) z (left_over a e)) q.divides
          ∙ whole;
      left = q.left;
      right = q.right;
      left_is = q.left_is;
      right_is = q.right_is;
      high = q.high;
    }
      where
        whole : plus (exps count) (exp_of count a) (left_over a e) ≡ exp_of count e
        whole = (exps_are count).same_at _ _ λ j g.
            ExpLaws.at-plus (exps count) (exps_are count) (exp_of count a) (left_over a e) j g
            ∙ ap₂ (λ y z. y + z) (at-exp_of count a j g) ((exps_are count).at_make (λ j. get_or e.e j 0 - get_or a.e j 0) j g)
            ∙ (let z = h j in let y : get_or a.e j 0 + (get_or e.e j 0 - get_or a.e j 0) ≡ get_or e.e j 0 = omega arith in y)
            ∙ sym (at-exp_of count e j g)

    module _ (low a : Exp) (i : ℕ) (d : IsStep count low.e i a.e) where
      abbrev step : ExpList count
      step = variable (exps count) i

      of_variable : Same (exps n) m.scalars.ops (image step) (part_of n m.value parts i)
      of_variable b =
          Subst.monomial_of-single (exps count) (exps_are count) (exps n) (exps_are n) m.scalars.ops c s (part_of n m.value parts) i 1 d.inside b
          ∙ sym (power-one (exps n) (exps_are n) m.scalars.ops c (part_of n m.value parts i) b)

      factor_is : (part factor : JetTerms E) → part ≡ jet_at parts i → part.n ≡ n → IsTruncatedJet m part.n k (poly_of part.n m.value part.terms) factor
          → IsTruncation (exps n) m.scalars.ops k (part_of n m.value parts i) (poly_of n m.value factor.terms)
      factor_is part factor e en q =
          subst (λ (u : JetTerms E). IsTruncation (exps n) m.scalars.ops k (poly_of n m.value u.terms) (poly_of n m.value factor.terms)) e
          ((subst (λ z. IsTruncatedJet m z k (poly_of z m.value part.terms) factor) en q).truncation)

      -- it is the product of the one below and part i
      pub formed_jet : (p part factor next : JetTerms E) → IsTruncatedJet m n k (image (exp_of count low)) p → part ≡ jet_at parts i → part.n ≡ n
          → IsTruncatedJet m part.n k (poly_of part.n m.value part.terms) factor → IsTruncatedJet m p.n k (times_in p.n m.scalars.ops (poly_of p.n m.value p.terms) (poly_of p.n m.value factor.terms)) next
          → IsTruncatedJet m n k (image (exp_of count a)) next
      formed_jet p part factor next q e en f product =
          let u : IsTruncatedJet m n k (times_in n m.scalars.ops (poly_of n m.value p.terms) (poly_of n m.value factor.terms)) next =
          subst (λ z. IsTruncatedJet m z k (times_in z m.scalars.ops (poly_of z m.value p.terms) (poly_of z m.value factor.terms)) next) q.variables product in
          record {
            jet = u.jet;
            variables = u.variables;
            order = u.order;
            truncation = Reduced.truncation_same_to (exps n) (exps_are n) m.scalars.ops c k (times (exps n) m.scalars.ops (image (exp_of count low)) (part_of n m.value parts i)) (image (exp_of count a)) (poly_of n m.value next.terms)
                (λ b _.
                sym (ap (λ z. coefficient (exps n) m.scalars.ops (image z) b) (sym (again count i low a d))
                ∙ Subst.monomial_of-plus (exps count) (exps_are count) (exps n) (exps_are n) m.scalars.ops c s (part_of n m.value parts) (exp_of count low) step b
                ∙ PolyRing.times_right (exps n) (exps_are n) m.scalars.ops c (image (exp_of count low)) (image step) (part_of n m.value parts i) of_variable b))
                (Reduced.truncation_times (exps n) (exps_are n) m.scalars.ops c k (image (exp_of count low)) (part_of n m.value parts i) (poly_of n m.value p.terms) (poly_of n m.value factor.terms) (poly_of n m.value next.terms)
                q.truncation (factor_is part factor e en f) u.truncation);
          }

      pub formed_high : (p part factor : JetTerms E) → IsTruncatedJet m n k (image (exp_of count low)) p → part ≡ jet_at parts i → part.n ≡ n
          → IsTruncatedJet m part.n k (poly_of part.n m.value part.terms) factor → IsHigh (product_heights (exps p.n) m.scalars k (poly_of p.n m.value p.terms) (poly_of p.n m.value factor.terms))
          → ArePowersOfHigh (exps count) (exps n) m.scalars k (part_of n m.value parts) (exp_of count a)
      formed_high p part factor q e en f high = record {
        first = exp_of count low;
        second = step;
        rest = none (exps count);
        divides = ExpLaws.plus-none (exps count) (exps_are count) (plus (exps count) (exp_of count low) step) ∙ again count i low a d;
        left = poly_of n m.value p.terms;
        right = poly_of n m.value factor.terms;
        left_is = q.truncation;
        right_is = Reduced.truncation_same_to (exps n) (exps_are n) m.scalars.ops c k (part_of n m.value parts i) (image step) (poly_of n m.value factor.terms) (λ b _. sym (of_variable b)) (factor_is part factor e en f);
        high = subst (λ z. IsHigh (product_heights (exps z) m.scalars k (poly_of z m.value p.terms) (poly_of z m.value factor.terms))) q.variables high;
      }
