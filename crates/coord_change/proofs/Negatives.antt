-- Jets and the negatives of others, one behind the other.
use Rattle.std.proofs.Common.{◌≡◌, ◌≢◌, ℕ, ◌+◌, ◌<◌, ◌≤◌, true, ◌||◌, ◌&&◌, eqb, lt-ltb, List, [], ◌∷◌, ◌++◌, length, take, get_or, sum, All, ap, ap₂, sym, ◌∙◌, refl, subst, append_assoc, append-nil, arith}
use Rattle.std.proofs.lemmas.List.{map-append, take_more}
use Rattle.std.specs.List.{AllByRecursion}
use Rattle.ring_theory.specs.Ring.{IsCommRing}
use Rattle.ring_theory.specs.Scalars.{Meaning}
use Rattle.ring_theory.proofs.RingSolver.{neg_neg, neg_zero}
use Rattle.poly_law.specs.Polynomials.{poly_in}
use Rattle.mono_exp.specs.declared.exponent.Exp.{Exp}
use Rattle.mono_exp.specs.Exponents.{is_before, is_greater_first, IsIn}
use Rattle.jet_law.specs.Terms.{exp_of, poly_of}
use Rattle.jet_poly.specs.JetTerms.{JetTerms, AllAfter, IsRising}
use Rattle.jet_poly.specs.Jets.{IsJet}
use Rattle.jet_poly.proofs.Output.{from-all, to-all}
use Rattle.coord_change.specs.InverseChanges.{AreNegatives, PushesNegatives}

module _ {E V : Type 0} (m : Meaning E V) where
  negatives_push : (ts us : List (Exp × E)) (t u : Exp × E) → AreNegatives m ts us → (u.0 ≡ t.0) × (m.is_elem u.1) × (m.value u.1 ≡ m.scalars.ops.neg (m.value t.1)) → AreNegatives m (ts ++ (t ∷ [])) (us ++ (u ∷ []))
  negatives_push [] [] t u all h = (h, tt)
  negatives_push [] (y ∷ us) t u all h = absurd all
  negatives_push (x ∷ ts) [] t u all h = absurd all
  negatives_push (x ∷ ts) (y ∷ us) t u all h = (all.0, negatives_push ts us t u all.1 h)

  pub pushed_none : (old : List (Exp × E)) → PushesNegatives m [] old old
  pushed_none old = record { more = []; items = sym (append-nil old); negatives = tt }

  -- one negative more
  pub pushed_more : (others old now new : List (Exp × E)) (i : ℕ) (t : Exp × E) (x : E) → i < length others → t ≡ get_or others i t → PushesNegatives m (take i others) old now → new ≡ now ++ ((t.0, x) ∷ []) → m.is_elem x
      → m.value x ≡ m.scalars.ops.neg (m.value t.1) → PushesNegatives m (take (i + 1) others) old new
  pushed_more others old now new i t x h e p items elem value = record {
    more = p.more ++ ((t.0, x) ∷ []);
    items = items ∙ ap (λ zs. zs ++ ((t.0, x) ∷ [])) p.items ∙ append_assoc old p.more ((t.0, x) ∷ []);
    negatives = subst (λ zs. AreNegatives m zs (p.more ++ ((t.0, x) ∷ []))) (sym (take_more others i t h ∙ ap (λ u. take i others ++ (u ∷ [])) (sym e)))
        (negatives_push (take i others) p.more t (t.0, x) p.negatives (refl, elem, value));
  }

  after_negatives : (a : Exp) (ts us : List (Exp × E)) → AreNegatives m ts us → AllAfter a ts → AllAfter a us
  after_negatives a [] [] all h = tt
  after_negatives a [] (y ∷ us) all h = absurd all
  after_negatives a (x ∷ ts) [] all h = tt
  after_negatives a (x ∷ ts) (y ∷ us) all h = (subst (λ (z : Exp). is_before a.e z.e ≡ true) (sym all.0.0) h.0, after_negatives a ts us all.1 h.1)

  rising_negatives : (ts us : List (Exp × E)) → AreNegatives m ts us → IsRising ts → IsRising us
  rising_negatives [] [] all h = tt
  rising_negatives [] (y ∷ us) all h = absurd all
  rising_negatives (x ∷ ts) [] all h = tt
  rising_negatives (x ∷ ts) (y ∷ us) all h = (subst (λ a. AllAfter a us) (sym all.0.0) (after_negatives x.0 ts us all.1 h.0), rising_negatives ts us all.1 h.1)

  -- what holds of the monomials holds of those of the negatives
  monomials_negatives : (P : Exp → Type 0) (ts us : List (Exp × E)) → AreNegatives m ts us → AllByRecursion (λ t. P t.0) ts → AllByRecursion (λ t. P t.0) us
  monomials_negatives P [] [] all h = tt
  monomials_negatives P [] (y ∷ us) all h = absurd all
  monomials_negatives P (x ∷ ts) [] all h = tt
  monomials_negatives P (x ∷ ts) (y ∷ us) all h = (subst P (sym all.0.0) h.0, monomials_negatives P ts us all.1 h.1)

  elems_negatives : (ts us : List (Exp × E)) → AreNegatives m ts us → AllByRecursion (λ t. m.is_elem t.1) us
  elems_negatives [] [] all = tt
  elems_negatives [] (y ∷ us) all = absurd all
  elems_negatives (x ∷ ts) [] all = tt
  elems_negatives (x ∷ ts) (y ∷ us) all = (all.0.1, elems_negatives ts us all.1)

  units_negatives : IsCommRing m.scalars.ops → (ts us : List (Exp × E)) → AreNegatives m ts us → AllByRecursion (λ t. m.value t.1 ≢ m.scalars.ops.zero) ts → AllByRecursion (λ t. m.value t.1 ≢ m.scalars.ops.zero) us
  units_negatives c [] [] all h = tt
  units_negatives c [] (y ∷ us) all h = absurd all
  units_negatives c (x ∷ ts) [] all h = tt
  units_negatives c (x ∷ ts) (y ∷ us) all h =
      ((λ z. h.0 (sym (neg_neg m.scalars.ops c (m.value x.1)) ∙ ap m.scalars.ops.neg (sym all.0.2 ∙ z) ∙ neg_zero m.scalars.ops c)), units_negatives c ts us all.1 h.1)

  poly-negatives : (n : ℕ) (ts us : List (Exp × E)) → AreNegatives m ts us → poly_of n m.value us ≡ (poly_in n m.scalars.ops).neg (poly_of n m.value ts)
  poly-negatives n [] [] all = refl
  poly-negatives n [] (y ∷ us) all = absurd all
  poly-negatives n (x ∷ ts) [] all = absurd all
  poly-negatives n (x ∷ ts) (y ∷ us) all = ap₂ (λ z zs. z ∷ zs) (ap₂ (λ a v. (exp_of n a, v)) all.0.0 all.0.2) (poly-negatives n ts us all.1)

  -- terms of higher degree stand after the others
  after_higher : (a : Exp) (d : ℕ) (us : List (Exp × E)) → sum a.e ≤ d → AllByRecursion (λ t. d < sum t.0.e) us → AllAfter a us
  after_higher a d [] low h = tt
  after_higher a d (u ∷ us) low h = (ap (λ b. b || ((eqb (sum a.e) (sum u.0.e)) && is_greater_first a.e u.0.e)) (lt-ltb (sum a.e) (sum u.0.e) (let g : d < sum u.0.e = h.0 in omega arith)), after_higher a d us low h.1)

  after_append : (a : Exp) (ts us : List (Exp × E)) → AllAfter a ts → AllAfter a us → AllAfter a (ts ++ us)
  after_append a [] us h g = g
  after_append a (t ∷ ts) us h g = (h.0, after_append a ts us h.1 g)

  rising_append : (d : ℕ) (ts us : List (Exp × E)) → IsRising ts → AllByRecursion (λ t. sum t.0.e ≤ d) ts → IsRising us → AllByRecursion (λ t. d < sum t.0.e) us → IsRising (ts ++ us)
  rising_append d [] us h low g high = g
  rising_append d (t ∷ ts) us h low g high = (after_append t.0 ts us h.0 (after_higher t.0 d us low.0 high), rising_append d ts us h.1 low.1 g high)

  all_append : (P : Exp × E → Type 0) (ts us : List (Exp × E)) → AllByRecursion P ts → AllByRecursion P us → AllByRecursion P (ts ++ us)
  all_append P [] us h g = g
  all_append P (t ∷ ts) us h g = (h.0, all_append P ts us h.1 g)

  weaker : (P Q : Exp × E → Type 0) → ((t : Exp × E) → P t → Q t) → (ts : List (Exp × E)) → AllByRecursion P ts → AllByRecursion Q ts
  weaker P Q f [] h = tt
  weaker P Q f (t ∷ ts) h = (f t h.0, weaker P Q f ts h.1)

  -- a jet and the negatives of another of higher degrees
  module _ (c : IsCommRing m.scalars.ops) (f g : JetTerms E) (us : List (Exp × E)) (left : IsJet m f) (right : IsJet m g) (same : g.n ≡ f.n) (orders : f.order ≤ g.order) (high : All (λ t. f.order < sum t.0.e) g.terms)
      (negatives : AreNegatives m g.terms us) where
    higher : AllByRecursion (λ (t : Exp × E). f.order < sum t.0.e) us
    higher = monomials_negatives (λ (a : Exp). f.order < sum a.e) g.terms us negatives (from-all (λ (t : Exp × E). f.order < sum t.0.e) g.terms high)

    pub less_rising : IsRising f.terms → IsRising g.terms → IsRising (f.terms ++ us)
    less_rising p q = rising_append f.order f.terms us p (from-all (λ (t : Exp × E). sum t.0.e ≤ f.order) f.terms left.degrees) (rising_negatives g.terms us negatives q) higher

    pub less_jet : IsJet m (record { n = f.n; order = g.order; terms = f.terms ++ us })
    less_jet = record {
      variables = to-all (λ t. IsIn f.n t.0.e) (f.terms ++ us) (all_append (λ t. IsIn f.n t.0.e) f.terms us (from-all (λ t. IsIn f.n t.0.e) f.terms left.variables)
          (monomials_negatives (λ a. IsIn f.n a.e) g.terms us negatives (subst (λ z. AllByRecursion (λ (t : Exp × E). IsIn z t.0.e) g.terms) same (from-all (λ t. IsIn g.n t.0.e) g.terms right.variables))));
      degrees = to-all (λ t. sum t.0.e ≤ g.order) (f.terms ++ us) (all_append (λ t. sum t.0.e ≤ g.order) f.terms us
          (weaker (λ t. sum t.0.e ≤ f.order) (λ t. sum t.0.e ≤ g.order) (λ t h. omega arith) f.terms (from-all (λ t. sum t.0.e ≤ f.order) f.terms left.degrees))
          (monomials_negatives (λ a. sum a.e ≤ g.order) g.terms us negatives (from-all (λ t. sum t.0.e ≤ g.order) g.terms right.degrees)));
      elems = to-all (λ t. m.is_elem t.1) (f.terms ++ us) (all_append (λ t. m.is_elem t.1) f.terms us (from-all (λ t. m.is_elem t.1) f.terms left.elems) (elems_negatives g.terms us negatives));
      units = to-all (λ t. m.value t.1 ≢ m.scalars.ops.zero) (f.terms ++ us) (all_append (λ t. m.value t.1 ≢ m.scalars.ops.zero) f.terms us (from-all (λ t. m.value t.1 ≢ m.scalars.ops.zero) f.terms left.units)
          (units_negatives c g.terms us negatives (from-all (λ t. m.value t.1 ≢ m.scalars.ops.zero) g.terms right.units)));
    }

    pub less_value : (n : ℕ) → poly_of n m.value (f.terms ++ us) ≡ poly_of n m.value f.terms ++ (poly_in n m.scalars.ops).neg (poly_of n m.value g.terms)
    less_value n = map-append (λ t. (exp_of n t.0, m.value t.1)) f.terms us ∙ ap (λ z. poly_of n m.value f.terms ++ z) (poly-negatives n g.terms us negatives)
