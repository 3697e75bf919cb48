-- Rows of products of a monomial and terms.
use Rattle.std.proofs.Common.{◌≡◌, ◌≢◌, ℕ, ◌+◌, ◌<◌, ◌≤◌, Bool, true, false, cond, leb, leb-true, List, [], ◌∷◌, ◌++◌, map, length, take, get_or, sum, refl, sym, ap, ap₂, subst, ◌∙◌, append-nil, arith}
use Rattle.std.specs.List.{AllByRecursion, All, filter}
use Rattle.std.proofs.lemmas.List.{take_more}
use Rattle.std.proofs.lemmas.List.Elements.{recursion_from_All}
use Rattle.ring_theory.specs.Ring.{RingOps, IsCommRing}
use Rattle.ring_theory.specs.Scalars.{Meaning}
use Rattle.ring_theory.proofs.RingSolver
use Rattle.poly_law.specs.Exps.{plus, degree}
use Rattle.poly_law.specs.ExpList.{ExpList, exps}
use Rattle.poly_law.specs.Polynomials.{Polynomial, term_in, times_in, cut_in}
use Rattle.poly_law.proofs.ExpLists.{exps_are}
use Rattle.poly_law.proofs.ExpLaws
use Rattle.mono_exp.specs.declared.exponent.Exp.{Exp}
use Rattle.mono_exp.specs.Exponents.{IsIn, IsProduct, HasProduct}
use Rattle.jet_law.specs.Terms.{exp_of, poly_of}
use Rattle.jet_law.proofs.TermLemmas.{degree-exp_of, exp_of-product, in-product}
use Rattle.jet_poly.specs.JetTerms as jets
use Rattle.jet_poly.specs.JetTerms.{JetTerms}
use Rattle.lin_row.specs.Lines.{AllAfter, AllBelow, AllUnits, IsRising, dot}
use Rattle.jacobian_row.specs.Numbers.{number, count_to, form_of}
use Rattle.jacobian_row.specs.Multiples.{product_to}
use Rattle.lin_row.specs.declared.row.Row.{Row}
use Rattle.jacobian_row.specs.Rows.{IsRowOf, AreRowsOf, AreMonomialRows, IsJetIn, polynomial_at}
use Rattle.jacobian_row.specs.declared.multiple.Multiple.{Multiple}
use Rattle.jacobian_row.proofs.ListSteps.{entry_small}
use Rattle.jacobian_row.proofs.NumberLemmas.{number_below, product_rises}

-- the degree of a product
pub sum-product : (n : ℕ) (a b d : Exp) → IsIn n a.e → IsIn n b.e → IsProduct d.e a.e b.e → sum d.e ≡ sum a.e + sum b.e
sum-product n a b d ia ib p =
    sym (degree-exp_of n d (in-product n a.e b.e d.e p ia ib)) ∙ ap (degree (exps n)) (exp_of-product n a b d p) ∙ ExpLaws.degree-plus (exps n) (exps_are n) (exp_of n a) (exp_of n b)
    ∙ ap₂ (λ x y. x + y) (degree-exp_of n a ia) (degree-exp_of n b ib)

-- monomials of small degree have a product
pub has_product : (a b : Exp) (k : ℕ) → k < 256 → sum a.e + sum b.e ≤ k → HasProduct a.e b.e
has_product a b k small h i = let x = entry_small a.e i in let y = entry_small b.e i in omega arith

-- the entries of the row of x^a times terms, cut at k
abbrev pub product_entries : {E : Type 0} (n k : ℕ) (a : Exp) → List (Exp × E) → List (ℕ × E)
product_entries n k a terms = map (λ t. (number n (plus (exps n) (exp_of n a) (exp_of n t.0)), t.1)) (filter (λ t. leb (sum a.e + sum t.0.e) k) terms)

module _ {E V : Type 0} (m : Meaning E V) (laws : IsCommRing m.scalars.ops) (n k : ℕ) (a : Exp) (unused : IsIn n a.e) where
  abbrev r : RingOps V
  r = m.scalars.ops

  abbrev product : ExpList n → ExpList n
  product x = plus (exps n) (exp_of n a) x

  -- x^a times f is the list of the products of x^a and the terms
  product-terms : (f : Polynomial n V) → times_in n r (term_in n r (exp_of n a)) f ≡ map (λ t. (product t.0, r.mul r.one t.1)) f
  product-terms f = append-nil (map (λ t. (product t.0, r.mul r.one t.1)) f)

  abbrev first : Exp × E → ExpList n × V
  first t = (product (exp_of n t.0), r.mul r.one (m.value t.1))

  abbrev rest : List (Exp × E) → Polynomial n V
  rest ts = cut_in n r k (map (λ t. (product t.0, r.mul r.one t.1)) (poly_of n m.value ts))

  degree-product : (t : Exp) → IsIn n t.e → degree (exps n) (product (exp_of n t)) ≡ sum a.e + sum t.e
  degree-product t h = ExpLaws.degree-plus (exps n) (exps_are n) (exp_of n a) (exp_of n t) ∙ ap₂ (λ x y. x + y) (degree-exp_of n a unused) (degree-exp_of n t h)

  row-value : (w : ℕ → V) (terms : List (Exp × E)) → AllByRecursion (λ t. IsIn n t.0.e) terms → dot m (product_entries n k a terms) w ≡ form_of n r (product_to n r k (exp_of n a) (poly_of n m.value terms)) w
  row-value w terms all = go terms all ∙ sym (ap (λ f. form_of n r (cut_in n r k f) w) (product-terms (poly_of n m.value terms)))
    where
      go : (ts : List (Exp × E)) → AllByRecursion (λ t. IsIn n t.0.e) ts → dot m (product_entries n k a ts) w ≡ form_of n r (cut_in n r k (map (λ t. (product t.0, r.mul r.one t.1)) (poly_of n m.value ts))) w
      go [] h = refl
      go (t ∷ ts) h = step (go ts h.1) (leb (sum a.e + sum t.0.e) k) ∙ ap (λ b. form_of n r (cond b (first t ∷ rest ts) (rest ts)) w) (ap (λ d. leb d k) (sym (degree-product t.0 h.0)))
        where
          step : dot m (product_entries n k a ts) w ≡ form_of n r (rest ts) w → (b : Bool)
              → dot m (map (λ t. (number n (product (exp_of n t.0)), t.1)) (cond b (t ∷ filter (λ t. leb (sum a.e + sum t.0.e) k) ts) (filter (λ t. leb (sum a.e + sum t.0.e) k) ts))) w ≡ form_of n r (cond b (first t ∷ rest ts) (rest ts)) w
          step before true = ap₂ (λ x y. r.add (r.mul x (w (number n (product (exp_of n t.0))))) y) (sym (RingSolver.one_mul r laws (m.value t.1))) before
          step before false = before

  -- ---- the entries make a row
  entries-after : (c : ℕ) (u : Exp) (ts : List (Exp × E)) → IsIn n u.e → c ≡ number n (product (exp_of n u)) → AllByRecursion (λ t. IsIn n t.0.e) ts → jets.AllAfter u ts → AllAfter c (product_entries n k a ts)
  entries-after c u [] hu e all after = tt
  entries-after c u (t ∷ ts) hu e all after = step (entries-after c u ts hu e all.1 after.1) (leb (sum a.e + sum t.0.e) k)
    where
      step : AllAfter c (product_entries n k a ts) → (b : Bool) → AllAfter c (map (λ t. (number n (product (exp_of n t.0)), t.1)) (cond b (t ∷ filter (λ t. leb (sum a.e + sum t.0.e) k) ts) (filter (λ t. leb (sum a.e + sum t.0.e) k) ts)))
      step before true = ((let h = product_rises n (exp_of n a) u t.0 hu all.0 after.0 in omega arith), before)
      step before false = before

  entries-rise : (ts : List (Exp × E)) → AllByRecursion (λ t. IsIn n t.0.e) ts → jets.IsRising ts → IsRising (product_entries n k a ts)
  entries-rise [] all rising = tt
  entries-rise (t ∷ ts) all rising = step (entries-after (number n (product (exp_of n t.0))) t.0 ts all.0 refl all.1 rising.0) (entries-rise ts all.1 rising.1) (leb (sum a.e + sum t.0.e) k)
    where
      step : AllAfter (number n (product (exp_of n t.0))) (product_entries n k a ts) → IsRising (product_entries n k a ts) → (b : Bool)
          → IsRising (map (λ t. (number n (product (exp_of n t.0)), t.1)) (cond b (t ∷ filter (λ t. leb (sum a.e + sum t.0.e) k) ts) (filter (λ t. leb (sum a.e + sum t.0.e) k) ts)))
      step after before true = (after, before)
      step after before false = before

  entries-units : (ts : List (Exp × E)) → AllByRecursion (λ t. m.is_elem t.1) ts → AllByRecursion (λ t. m.value t.1 ≢ r.zero) ts → AllUnits m (product_entries n k a ts)
  entries-units [] elems units = tt
  entries-units (t ∷ ts) elems units = step (entries-units ts elems.1 units.1) (leb (sum a.e + sum t.0.e) k)
    where
      step : AllUnits m (product_entries n k a ts) → (b : Bool) → AllUnits m (map (λ t. (number n (product (exp_of n t.0)), t.1)) (cond b (t ∷ filter (λ t. leb (sum a.e + sum t.0.e) k) ts) (filter (λ t. leb (sum a.e + sum t.0.e) k) ts)))
      step before true = ((elems.0, units.0), before)
      step before false = before

  entries-below : (ts : List (Exp × E)) → AllByRecursion (λ t. IsIn n t.0.e) ts → AllBelow (count_to n k) (product_entries n k a ts)
  entries-below [] all = tt
  entries-below (t ∷ ts) all = step (entries-below ts all.1) (leb (sum a.e + sum t.0.e) k) refl
    where
      step : AllBelow (count_to n k) (product_entries n k a ts) → (b : Bool) → leb (sum a.e + sum t.0.e) k ≡ b
          → AllBelow (count_to n k) (map (λ t. (number n (product (exp_of n t.0)), t.1)) (cond b (t ∷ filter (λ t. leb (sum a.e + sum t.0.e) k) ts) (filter (λ t. leb (sum a.e + sum t.0.e) k) ts)))
      step before true e = (number_below n k (product (exp_of n t.0)) (let d = degree-product t.0 all.0 in let l = leb-true (sum a.e + sum t.0.e) k e in omega arith), before)
      step before false e = before

  pub product_row : (f : JetTerms E) → IsJetIn m n f → jets.IsRising f.terms → IsRowOf m n (count_to n k) (product_to n r k (exp_of n a) (poly_of n m.value f.terms)) (product_entries n k a f.terms)
  product_row f h rising =
      let all = recursion_from_All (λ t. IsIn n t.0.e) f.terms (subst (λ i. All (λ t. IsIn i t.0.e) f.terms) h.variables h.jet.variables) in
      record {
        line = record {
          rising = entries-rise f.terms all rising;
          units = entries-units f.terms (recursion_from_All (λ t. m.is_elem t.1) f.terms h.jet.elems) (recursion_from_All (λ t. m.value t.1 ≢ r.zero) f.terms h.jet.units);
        };
        below = entries-below f.terms all;
        value = λ w. row-value w f.terms all;
      }

module _ {E V : Type 0} (m : Meaning E V) (laws : IsCommRing m.scalars.ops) (nontrivial : m.scalars.ops.one ≢ m.scalars.ops.zero) (n k : ℕ) where
  -- the row of a monomial
  pub monomial_row : (a : Exp) (c : ℕ) (x : E) → IsIn n a.e → sum a.e ≤ k → c ≡ number n (exp_of n a) → m.is_elem x → m.value x ≡ m.scalars.ops.one → IsRowOf m n (count_to n k) (term_in n m.scalars.ops (exp_of n a)) ((c, x) ∷ [])
  monomial_row a c x unused low number elem one = record {
    line = record { rising = (tt, tt); units = ((elem, λ e. nontrivial (sym one ∙ e)), tt) };
    below = (subst (λ i. i < count_to n k) (sym number) (number_below n k (exp_of n a) (let d = degree-exp_of n a unused in omega arith)), tt);
    value = λ w. ap₂ (λ y i. m.scalars.ops.add (m.scalars.ops.mul y (w i)) m.scalars.ops.zero) one number;
  }

-- ---- a row more
rows_push : {E V : Type 0} (m : Meaning E V) (n bound k : ℕ) (partials : List (JetTerms E)) (us : List Multiple) (rs : List (Row E)) (u : Multiple) (row : Row E) → AreRowsOf m n bound k partials us rs
    → IsRowOf m n bound (product_to n m.scalars.ops k (exp_of n u.factor) (polynomial_at n m.value partials u.variable)) row.entries → AreRowsOf m n bound k partials (us ++ (u ∷ [])) (rs ++ (row ∷ []))
rows_push m n bound k partials [] [] u row all h = (h, tt)
rows_push m n bound k partials [] (r ∷ rs) u row all h = absurd all
rows_push m n bound k partials (v ∷ us) [] u row all h = absurd all
rows_push m n bound k partials (v ∷ us) (r ∷ rs) u row all h = (all.0, rows_push m n bound k partials us rs u row all.1 h)

pub rows_more : {E V : Type 0} (m : Meaning E V) (n bound k : ℕ) (partials : List (JetTerms E)) (us : List Multiple) (i : ℕ) (d : Multiple) (rs : List (Row E)) (row : Row E) → i < length us → AreRowsOf m n bound k partials (take i us) rs
    → IsRowOf m n bound (product_to n m.scalars.ops k (exp_of n (get_or us i d).factor) (polynomial_at n m.value partials (get_or us i d).variable)) row.entries → AreRowsOf m n bound k partials (take (i + 1) us) (rs ++ (row ∷ []))
rows_more m n bound k partials us i d rs row within all h = subst (λ vs. AreRowsOf m n bound k partials vs (rs ++ (row ∷ []))) (sym (take_more us i d within)) (rows_push m n bound k partials (take i us) rs (get_or us i d) row all h)

monomials_push : {E V : Type 0} (m : Meaning E V) (n bound : ℕ) (ms : List Exp) (rs : List (Row E)) (a : Exp) (row : Row E) → AreMonomialRows m n bound ms rs
    → IsRowOf m n bound (term_in n m.scalars.ops (exp_of n a)) row.entries → AreMonomialRows m n bound (ms ++ (a ∷ [])) (rs ++ (row ∷ []))
monomials_push m n bound [] [] a row all h = (h, tt)
monomials_push m n bound [] (r ∷ rs) a row all h = absurd all
monomials_push m n bound (b ∷ ms) [] a row all h = absurd all
monomials_push m n bound (b ∷ ms) (r ∷ rs) a row all h = (all.0, monomials_push m n bound ms rs a row all.1 h)

pub monomials_more : {E V : Type 0} (m : Meaning E V) (n bound : ℕ) (ms : List Exp) (i : ℕ) (d : Exp) (rs : List (Row E)) (row : Row E) → i < length ms → AreMonomialRows m n bound (take i ms) rs
    → IsRowOf m n bound (term_in n m.scalars.ops (exp_of n (get_or ms i d))) row.entries → AreMonomialRows m n bound (take (i + 1) ms) (rs ++ (row ∷ []))
monomials_more m n bound ms i d rs row within all h = subst (λ bs. AreMonomialRows m n bound bs (rs ++ (row ∷ []))) (sym (take_more ms i d within)) (monomials_push m n bound (take i ms) rs (get_or ms i d) row all h)
