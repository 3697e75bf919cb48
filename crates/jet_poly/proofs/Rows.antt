-- The loops over the terms of two factors.
use Rattle.std.proofs.Common.{◌≡◌, ℕ, zero, suc, ◌+◌, ◌<◌, ◌≤◌, ◌^◌, Bool, true, false, ◌&&◌, ◌||◌, cond, leb, eqb, ltb, ◌⊎◌, inl, inr, List, [], ◌∷◌, ◌++◌, take, get_or, length, refl, sum, sym, ap, ap₂, subst, ◌∙◌, append_assoc, append-nil, true≢false, arith}
use Rattle.std.specs.List.{AllByRecursion, All}
use Rattle.std.proofs.lemmas.Bool.{le-ltb, ne_eqb}
use Rattle.std.proofs.lemmas.List.Elements.{recursion_from_All}
use Rattle.std.proofs.lemmas.List.{take_more, map-append, take-map, length-map}
use Rattle.std.proofs.Math.ListN.{get_or-map}
use Rattle.ring_theory.specs.Scalars.{Scalars, SumIsHigh}
use Rattle.ring_theory.specs.Ring.{IsCommRing}
use Rattle.poly_law.specs.Exps.{plus, degree}
use Rattle.poly_law.specs.ExpList.{ExpList, exps}
use Rattle.poly_law.specs.Poly.{Terms, coefficient, cut, times, times_term, Same}
use Rattle.poly_law.proofs.ExpLists.{exps_are}
use Rattle.poly_law.proofs.PolyRing
use Rattle.jet_law.specs.Heights.{IsHigh, product_heights}
use Rattle.jet_law.proofs.Gather
use Rattle.jet_law.proofs.Gather.{filter-append, flat_map-append}
use Rattle.mono_exp.specs.declared.exponent.Exp.{Exp}
use Rattle.mono_exp.specs.Exponents.{IsIn, is_before, is_greater_first}
use Rattle.jet_law.specs.Terms.{exp_of, poly_of}
use Rattle.jet_poly.specs.JetTerms.{IsRising, AllAfter}
use Rattle.jet_poly.specs.Gathered.{IsProductHigh, IsRowHigh}
use Rattle.jet_poly.proofs.Steps.{high-product}

-- a later monomial has no lower degree
before-degree : (a b : List ℕ) → is_before a b ≡ true → sum a ≤ sum b
before-degree a b early = step (cases (sum a) (sum b))
  where
    cases : (x y : ℕ) → (x ≤ y) ⊎ (y < x)
    cases x y = grind arith

    step : (sum a ≤ sum b) ⊎ (sum b < sum a) → sum a ≤ sum b
    step (inl low) = low
    step (inr high) =
        let down : sum b ≤ sum a = omega arith in
        absurd (true≢false (sym early ∙ ap₂ (λ t u. t || (u && is_greater_first a b)) (le-ltb (sum a) (sum b) down) (ne_eqb (sum a) (sum b) (λ e. (let same : sum a ≡ sum b = e in omega arith)))))

module _ {E V : Type 0} (n : ℕ) (s : Scalars V) (c : IsCommRing s.ops) (value : E → V) (k : ℕ) where
  -- h is the product of f and g cut at k
  abbrev IsProduct : (h f g : Terms (ExpList n) V) → Type 0
  IsProduct h f g = Same (exps n) s.ops h (cut (exps n) s.ops k (times (exps n) s.ops f g))

  abbrev S : Terms (ExpList n) V → Terms (ExpList n) V → Type 0
  S = Same (exps n) s.ops

  abbrev P : List (Exp × E) → Terms (ExpList n) V
  P ts = poly_of n value ts

  abbrev C : Terms (ExpList n) V → Terms (ExpList n) V
  C f = cut (exps n) s.ops k f

  abbrev one : Exp × E → ExpList n × V
  one t = (exp_of n t.0, value t.1)

  taken : (g : List (Exp × E)) (i : ℕ) (t : Exp × E) → i < length g → t ≡ get_or g i t → P (take (i + 1) g) ≡ P (take i g) ++ one t ∷ []
  taken g i t h e = ap P (take_more g i t h ∙ ap (λ z. take i g ++ z ∷ []) (sym e)) ∙ map-append one (take i g) (t ∷ [])

  pub row_more : (old now next : Terms (ExpList n) V) (u : ExpList n × V) (g : List (Exp × E)) (i : ℕ) (t : Exp × E) → i < length g → t ≡ get_or g i t
      → S now (old ++ C (times_term (exps n) s.ops u (P (take i g))))
      → S next (C ((plus (exps n) u.0 (exp_of n t.0), s.ops.mul u.1 (value t.1)) ∷ []) ++ now)
      → S next (old ++ C (times_term (exps n) s.ops u (P (take (i + 1) g))))
  row_more old now next u g i t h e so_far step m =
      let term = C ((plus (exps n) u.0 (exp_of n t.0), s.ops.mul u.1 (value t.1)) ∷ []) in
      let before = old ++ C (times_term (exps n) s.ops u (P (take i g))) in
      step m ∙ PolyRing.add_right (exps n) (exps_are n) s.ops c term now before so_far m
      ∙ PolyRing.append_comm (exps n) (exps_are n) s.ops c term before m
      ∙ ap (λ z. coefficient (exps n) s.ops z m)
      (append_assoc old (C (times_term (exps n) s.ops u (P (take i g)))) term
      ∙ ap (λ z. old ++ z)
      (sym (ap (λ z. C (times_term (exps n) s.ops u z)) (taken g i t h e)
      ∙ ap C (map-append (λ t. (plus (exps n) u.0 t.0, s.ops.mul u.1 t.1)) (P (take i g)) (one t ∷ []))
      ∙ filter-append (λ t. leb (degree (exps n) t.0) k) (times_term (exps n) s.ops u (P (take i g))) ((plus (exps n) u.0 (exp_of n t.0), s.ops.mul u.1 (value t.1)) ∷ []))))

  -- where the product of u and a term has a degree above k, the terms after it give nothing
  rest_is_cut : (u t : Exp) (x : V) (g : List (Exp × E)) → IsIn n u.e → AllByRecursion (λ w. IsIn n w.0.e) g → AllAfter t g → k < sum u.e + sum t.e
      → C (times_term (exps n) s.ops (exp_of n u, x) (P g)) ≡ []
  rest_is_cut u t x [] among all after high = refl
  rest_is_cut u t x (w ∷ g) among all after high =
      let le = before-degree t.e w.0.e after.0 in
      ap (λ b. cond b ((plus (exps n) (exp_of n u) (exp_of n w.0), s.ops.mul x (value w.1)) ∷ C (times_term (exps n) s.ops (exp_of n u, x) (P g))) (C (times_term (exps n) s.ops (exp_of n u, x) (P g))))
      (high-product n k u w.0 among all.0 (omega (arith, le, high))) ∙ rest_is_cut u t x g among all.1 after.1 high

  -- such a term and those after it give nothing
  row_is_cut : (u : Exp) (x : V) (g : List (Exp × E)) (i : ℕ) (t : Exp × E) → IsIn n u.e → AllByRecursion (λ w. IsIn n w.0.e) g → IsRising g → i < length g → t ≡ get_or g i t → k < sum u.e + sum t.0.e
      → C (times_term (exps n) s.ops (exp_of n u, x) (P (take i g))) ≡ C (times_term (exps n) s.ops (exp_of n u, x) (P g))
  row_is_cut u x [] i t among all rising inside e high = absurd (omega arith)
  row_is_cut u x (w ∷ g) zero t among all rising inside e high =
      let above : k < sum u.e + sum w.0.e = subst (λ z. k < sum u.e + sum z.0.e) e high in
      sym (ap (λ b. cond b ((plus (exps n) (exp_of n u) (exp_of n w.0), s.ops.mul x (value w.1)) ∷ C (times_term (exps n) s.ops (exp_of n u, x) (P g))) (C (times_term (exps n) s.ops (exp_of n u, x) (P g))))
      (high-product n k u w.0 among all.0 above) ∙ rest_is_cut u w.0 x g among all.1 rising.0 above)
  row_is_cut u x (w ∷ g) (suc i) t among all rising inside e high =
      let p : ExpList n × V = (plus (exps n) (exp_of n u) (exp_of n w.0), s.ops.mul x (value w.1)) in
      ap (λ z. cond (leb (degree (exps n) p.0) k) (p ∷ z) z) (row_is_cut u x g i t among all.1 rising.1 (omega arith) e high)

  -- a sum of products of u with the terms before such a term is that with all terms
  pub row_ends : (old now : Terms (ExpList n) V) (u : Exp) (x : V) (g : List (Exp × E)) (i : ℕ) (t : Exp × E) → IsIn n u.e → All (λ w. IsIn n w.0.e) g → IsRising g → i < length g → t ≡ get_or g i t → k < sum u.e + sum t.0.e
      → S now (old ++ C (times_term (exps n) s.ops (exp_of n u, x) (P (take i g)))) → S now (old ++ C (times_term (exps n) s.ops (exp_of n u, x) (P g)))
  row_ends old now u x g i t among all rising inside e high so_far =
      subst (λ z. S now (old ++ z)) (row_is_cut u x g i t among (recursion_from_All (λ w. IsIn n w.0.e) g all) rising inside e high) so_far

  inside : (g : List (Exp × E)) (i : ℕ) → i < length g → i < length (P g)
  inside g i h = subst (λ l. i < l) (sym (length-map g one)) h

  read : (g : List (Exp × E)) (i : ℕ) (t : Exp × E) → t ≡ get_or g i t → one t ≡ get_or (P g) i (one t)
  read g i t e = ap one e ∙ sym (get_or-map one g i t)

  take_P : (g : List (Exp × E)) (i : ℕ) → P (take i g) ≡ take i (P g)
  take_P g i = sym (take-map one i g)

  pub row_high : (old : Terms (ExpList n) V) (u : ExpList n × V) (g : List (Exp × E)) (i : ℕ) (t : Exp × E) (now : Terms (ExpList n) V) → i < length g → t ≡ get_or g i t
      → S now (old ++ C (times_term (exps n) s.ops u (P (take i g)))) → IsProductHigh n s k now u (one t) → IsRowHigh n s k old u (P g)
  row_high old u g i t now h e so_far high = record {
    place = i;
    inside = inside g i h;
    factor = one t;
    read = read g i t e;
    now = now;
    so_far = subst (λ z. S now (old ++ C (times_term (exps n) s.ops u z))) (take_P g i) so_far;
    high = high;
  }

  pub product_more : (now next : Terms (ExpList n) V) (f : List (Exp × E)) (g : Terms (ExpList n) V) (i : ℕ) (u : Exp × E) → i < length f → u ≡ get_or f i u
      → IsProduct now (P (take i f)) g → S next (now ++ C (times_term (exps n) s.ops (one u) g)) → IsProduct next (P (take (i + 1) f)) g
  product_more now next f g i u h e so_far step m =
      let row = times_term (exps n) s.ops (one u) g in
      let before = C (times (exps n) s.ops (P (take i f)) g) in
      step m ∙ PolyRing.add_left (exps n) (exps_are n) s.ops c now before (C row) so_far m
      ∙ ap (λ z. coefficient (exps n) s.ops z m)
      (sym (ap (λ z. C (times (exps n) s.ops z g)) (taken f i u h e)
      ∙ ap C (flat_map-append (λ t. times_term (exps n) s.ops t g) (P (take i f)) (one u ∷ []) ∙ ap (λ z. times (exps n) s.ops (P (take i f)) g ++ z) (append-nil row))
      ∙ filter-append (λ t. leb (degree (exps n) t.0) k) (times (exps n) s.ops (P (take i f)) g) row))

  pub product_high : (now : Terms (ExpList n) V) (f : List (Exp × E)) (g : Terms (ExpList n) V) (i : ℕ) (u : Exp × E) → i < length f → u ≡ get_or f i u
      → IsProduct now (P (take i f)) g → IsRowHigh n s k now (one u) g → IsHigh (product_heights (exps n) s k (P f) g)
  product_high now f g i u h e so_far row =
      step row.high.high
    where
      kept : leb (degree (exps n) (plus (exps n) (exp_of n u.0) row.factor.0)) k ≡ true
      kept = row.high.low

      all : S row.now (Gather.before (exps n) (exps_are n) s c k (take i (P f)) (take row.place g) g (one u))
      all m =
          row.so_far m
          ∙ PolyRing.add_left (exps n) (exps_are n) s.ops c now (C (times (exps n) s.ops (take i (P f)) g)) (C (times_term (exps n) s.ops (one u) (take row.place g)))
          (λ a. so_far a ∙ ap (λ z. coefficient (exps n) s.ops (C (times (exps n) s.ops z g)) a) (take_P f i)) m

      step : (2 ^ 120 ≤ s.product_height (value u.1) row.factor.1) ⊎ SumIsHigh s (coefficient (exps n) s.ops row.now (plus (exps n) (exp_of n u.0) row.factor.0)) (s.ops.mul (value u.1) row.factor.1) → IsHigh (product_heights (exps n) s k (P f) g)
      step (inl high) = Gather.mul_high (exps n) (exps_are n) s c k (P f) g i row.place (one u) row.factor (inside f i h) (read f i u e) row.inside row.read kept high
      step (inr high) = Gather.add_high (exps n) (exps_are n) s c k (P f) g row.now i row.place (one u) row.factor (inside f i h) (read f i u e) row.inside row.read kept all high
