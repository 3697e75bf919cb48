-- Lists of terms and of products, made one after the other.
use Rattle.std.proofs.Common.{◌≡◌, ℕ, ◌+◌, ◌<◌, ◌≤◌, ◌^◌, Bool, true, false, cond, leb, List, [], ◌∷◌, ◌++◌, map, length, get_or, take, refl, sym, ap, ap₂, subst, ◌∙◌, append_assoc, append-nil, add-one}
use Rattle.std.specs.List.{filter, flat_map}
use Rattle.std.proofs.lemmas.List.{length-map, get_or-map, map-append}
use Rattle.ring_theory.specs.Scalars.{Meaning}
use Rattle.poly_law.specs.Sums.{sum_to}
use Rattle.poly_law.specs.Exps.{degree, plus}
use Rattle.poly_law.specs.ExpList.{ExpList, exps}
use Rattle.poly_law.specs.Poly.{cut, times_term, times, poly_ops}
use Rattle.poly_law.specs.Polynomials.{Polynomial}
use Rattle.mono_exp.specs.declared.exponent.Exp.{Exp}
use Rattle.mono_exp.specs.Exponents.{IsIn}
use Rattle.jet_law.specs.Terms.{exp_of, poly_of}
use Rattle.jet_law.proofs.TermLemmas.{poly_of-take}
use Rattle.jet_law.proofs.Gather.{filter-append, flat_map-append}
use Rattle.jet_law.proofs.High.{high_kept, high_in, high_mapped}
use Rattle.jet_law.specs.Heights.{IsHigh, products_heights}
use Rattle.jet_poly.proofs.Output.{all-push}
use Rattle.check_rows.specs.Lists.{AreTermsIn}
use Rattle.check_rows.specs.Products.{multiple_heights, IsPairHigh}

module _ {E V : Type 0} (n : ℕ) (value : E → V) where
  abbrev term_of : Exp × E → ExpList n × V
  term_of t = (exp_of n t.0, value t.1)

  -- what is made of each term, and one more
  pub mapped_step : {X Y : Type 0} (read : X → Y) (w : ExpList n × V → Y) (f : List (Exp × E)) (i : ℕ) (t : Exp × E) (xs : List X) (x : X) → i < length f → t ≡ get_or f i t → read x ≡ w (exp_of n t.0, value t.1)
      → map read xs ≡ map w (poly_of n value (take i f)) → map read (xs ++ x ∷ []) ≡ map w (poly_of n value (take (i + 1) f))
  mapped_step read w f i t xs x h is e so_far =
      map-append read xs (x ∷ []) ∙ ap₂ (λ p q. p ++ q ∷ []) so_far e
      ∙ sym (ap (map w) (poly_of-take n value f i t h is) ∙ map-append w (poly_of n value (take i f)) (term_of t ∷ []))

  -- a height that is made of a term
  pub mapped_high : (w : ExpList n × V → ℕ) (f : List (Exp × E)) (i : ℕ) (t : Exp × E) → i < length f → t ≡ get_or f i t → 2 ^ 120 ≤ w (exp_of n t.0, value t.1) → IsHigh (map w (poly_of n value f))
  mapped_high w f i t h is high =
      high_mapped w (poly_of n value f) i (term_of t) (subst (λ l. i < l) (sym (length-map f term_of)) h) (sym (get_or-map term_of f i t (term_of t) h ∙ ap term_of (sym is))) high

module _ {E V : Type 0} (m : Meaning E V) (n : ℕ) where
  -- no terms are terms in n variables
  pub terms_none : (xs : List (Exp × E)) → xs ≡ [] → AreTermsIn m n xs
  terms_none xs e = subst (AreTermsIn m n) (sym e) (record { elems = tt; unused = tt })

  -- one term more
  pub terms_push : (xs : List (Exp × E)) (a : Exp) (x : E) → AreTermsIn m n xs → m.is_elem x → IsIn n a.e → AreTermsIn m n (xs ++ (a, x) ∷ [])
  terms_push xs a x valid el unused = record {
    elems = all-push (λ t. m.is_elem t.1) xs (a, x) valid.elems el;
    unused = all-push (λ t. IsIn n t.0.e) xs (a, x) valid.unused unused;
  }

  -- the products of u and one term more of h
  pub multiple_step : (k : ℕ) (old now next : Polynomial n V) (u : ExpList n × V) (h : List (Exp × E)) (i : ℕ) (t : Exp × E) → i < length h → t ≡ get_or h i t
      → now ≡ old ++ cut (exps n) m.scalars.ops k (times_term (exps n) m.scalars.ops u (poly_of n m.value (take i h)))
      → next ≡ now ++ cut (exps n) m.scalars.ops k ((plus (exps n) u.0 (exp_of n t.0), m.scalars.ops.mul u.1 (m.value t.1)) ∷ [])
      → next ≡ old ++ cut (exps n) m.scalars.ops k (times_term (exps n) m.scalars.ops u (poly_of n m.value (take (i + 1) h)))
  multiple_step k old now next u h i t within e so_far step =
      let keep = cut (exps n) m.scalars.ops k in
      let row = times_term (exps n) m.scalars.ops u in
      step ∙ ap (λ z. z ++ keep (row ((exp_of n t.0, m.value t.1) ∷ []))) so_far
      ∙ append_assoc old (keep (row (poly_of n m.value (take i h)))) (keep (row ((exp_of n t.0, m.value t.1) ∷ [])))
      ∙ ap (λ z. old ++ z)
      (sym (ap (λ z. keep (row z)) (poly_of-take n m.value h i t within e)
      ∙ ap keep (map-append (λ b. (plus (exps n) u.0 b.0, m.scalars.ops.mul u.1 b.1)) (poly_of n m.value (take i h)) ((exp_of n t.0, m.value t.1) ∷ []))
      ∙ filter-append (λ b. leb (degree (exps n) b.0) k) (row (poly_of n m.value (take i h))) (row ((exp_of n t.0, m.value t.1) ∷ []))))

  -- the products of one term more of f and the terms of h
  pub products_step : (k : ℕ) (old now next : Polynomial n V) (f : List (Exp × E)) (h : Polynomial n V) (i : ℕ) (u : Exp × E) → i < length f → u ≡ get_or f i u
      → now ≡ old ++ cut (exps n) m.scalars.ops k (times (exps n) m.scalars.ops (poly_of n m.value (take i f)) h)
      → next ≡ now ++ cut (exps n) m.scalars.ops k (times_term (exps n) m.scalars.ops (exp_of n u.0, m.value u.1) h)
      → next ≡ old ++ cut (exps n) m.scalars.ops k (times (exps n) m.scalars.ops (poly_of n m.value (take (i + 1) f)) h)
  products_step k old now next f h i u within e so_far step =
      let keep = cut (exps n) m.scalars.ops k in
      let row : ExpList n × V → Polynomial n V = λ s. times_term (exps n) m.scalars.ops s h in
      let one : ExpList n × V = (exp_of n u.0, m.value u.1) in
      step ∙ ap (λ z. z ++ keep (row one)) so_far
      ∙ append_assoc old (keep (flat_map row (poly_of n m.value (take i f)))) (keep (row one))
      ∙ ap (λ z. old ++ z)
      (sym (ap (λ z. keep (flat_map row z)) (poly_of-take n m.value f i u within e)
      ∙ ap keep (flat_map-append row (poly_of n m.value (take i f)) (one ∷ []) ∙ ap (λ z. flat_map row (poly_of n m.value (take i f)) ++ z) (append-nil (row one)))
      ∙ filter-append (λ b. leb (degree (exps n) b.0) k) (flat_map row (poly_of n m.value (take i f))) (row one)))

  -- one product of polynomials more
  pub sum_step : (k i : ℕ) (now next : Polynomial n V) (w : ℕ → Polynomial n V) → now ≡ cut (exps n) m.scalars.ops k (sum_to (poly_ops (exps n) m.scalars.ops) i w)
      → next ≡ now ++ cut (exps n) m.scalars.ops k (w i) → next ≡ cut (exps n) m.scalars.ops k (sum_to (poly_ops (exps n) m.scalars.ops) (i + 1) w)
  sum_step k i now next w so_far step =
      let keep = cut (exps n) m.scalars.ops k in
      let sum = sum_to (poly_ops (exps n) m.scalars.ops) in
      step ∙ ap (λ z. z ++ keep (w i)) so_far
      ∙ sym (filter-append (λ b. leb (degree (exps n) b.0) k) (sum i w) (w i))
      ∙ ap (λ j. keep (sum j w)) (sym (add-one i))

  abbrev one : Exp × E → ExpList n × V
  one t = (exp_of n t.0, m.value t.1)

  inside : (f : List (Exp × E)) (i : ℕ) → i < length f → i < length (poly_of n m.value f)
  inside f i h = subst (λ l. i < l) (sym (length-map f one)) h

  read : (f : List (Exp × E)) (i : ℕ) (t : Exp × E) → t ≡ get_or f i t → one t ≡ get_or (poly_of n m.value f) i (one t)
  read f i t e = ap one e ∙ sym (Rattle.std.proofs.Math.ListN.get_or-map one f i t)

  -- a product that is high is one of those of u
  pub multiple_high : (k : ℕ) (u : ExpList n × V) (h : List (Exp × E)) (i : ℕ) (t : Exp × E) → i < length h → t ≡ get_or h i t
      → IsPairHigh n m.scalars k u (one t) → IsHigh (multiple_heights n m.scalars k u (poly_of n m.value h))
  multiple_high k u h i t within e high =
      high_kept (λ b. leb (degree (exps n) (plus (exps n) u.0 b.0)) k) (λ b. m.scalars.product_height u.1 b.1) (poly_of n m.value h) i (one t) (inside h i within) (read h i t e) high.low high.high

  -- and one of those of f
  pub products_high : (k : ℕ) (f : List (Exp × E)) (h : Polynomial n V) (i : ℕ) (u : Exp × E) → i < length f → u ≡ get_or f i u
      → IsHigh (multiple_heights n m.scalars k (one u) h) → IsHigh (products_heights (exps n) m.scalars k (poly_of n m.value f) h)
  products_high k f h i u within e high = high_in (λ s. multiple_heights n m.scalars k s h) (poly_of n m.value f) i (one u) (inside f i within) (read f i u e) high

-- what is kept once is kept again
pub filter_twice : {X : Type 0} (p : X → Bool) (xs : List X) → filter p (filter p xs) ≡ filter p xs
filter_twice p [] = refl
filter_twice p (x ∷ xs) = step (p x) refl (filter_twice p xs)
  where
    step : (b : Bool) → p x ≡ b → filter p (filter p xs) ≡ filter p xs → filter p (cond b (x ∷ filter p xs) (filter p xs)) ≡ cond b (x ∷ filter p xs) (filter p xs)
    step true e rest = ap (λ b. cond b (x ∷ filter p (filter p xs)) (filter p (filter p xs))) e ∙ ap (λ z. x ∷ z) rest
    step false e rest = rest
