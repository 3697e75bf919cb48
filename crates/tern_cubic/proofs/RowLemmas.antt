-- Rows that are made entry by entry, and one after the other.
use mathlib.Core.Path.{fun_ext}
use native.Mathlib.Decide.{dec_lt}
use Rattle.std.proofs.Common.{◌≡◌, ℕ, zero, suc, ◌+◌, ◌<◌, ◌≤◌, false, cond, eqb, ltb, ne_eqb, eq-eqb, List, [], ◌∷◌, ◌++◌, All, map, take, length, get_or, sum, refl, sym, ap, ap₂, subst, ◌∙◌, arith}
use Rattle.std.proofs.lemmas.Bool.{lt-ltb, le-ltb}
use Rattle.std.proofs.lemmas.List.{get_or-map, length-map, map-append, take_more}
use Rattle.ring_theory.specs.Height.{rational_scalars}
use Rattle.ring_theory.specs.Rational.{Rational, rational_ops}
use Rattle.ring_theory.specs.Ring.{RingOps, IsCommRing}
use Rattle.ring_theory.proofs.RingSolver.{zero_mul}
use Rattle.ring_theory.proofs.RationalLaws.{rational_scalar_laws}
use Rattle.ring_law.specs.Fraction.{frac_value, rational_meaning}
use Rattle.ring_law.specs.declared.fraction.Frac.{Frac}
use Rattle.poly_law.specs.Exps.{plus, degree}
use Rattle.poly_law.specs.ExpList.{ExpList, exps}
use Rattle.poly_law.specs.Polynomials.{Polynomial, SameIn, coefficient_in, term_in, times_in, derivative_in}
use Rattle.poly_law.proofs.ExpLists.{exps_are}
use Rattle.poly_law.proofs.ExpLaws
use Rattle.mono_exp.specs.declared.exponent.Exp.{Exp}
use Rattle.mono_exp.specs.Exponents.{IsIn, exponents, monomials_of, monomials_below}
use Rattle.jet_law.specs.Canonical.{monomial_in}
use Rattle.jet_law.specs.Terms.{exp_of, poly_of}
use Rattle.jet_law.proofs.TermLemmas.{degree-exp_of}
use Rattle.jet_poly.specs.JetTerms.{JetTerms}
use Rattle.jacobian_row.specs.Multiples.{AreMultiples, pairs_between, pair_of, monomials_between}
use Rattle.jacobian_row.specs.Rows.{IsJetIn, ArePartials, polynomial_at}
use Rattle.jacobian_row.specs.Rows as jacobian
use Rattle.jacobian_row.specs.declared.multiple.Multiple.{Multiple}
use Rattle.jacobian_row.proofs.RowFacts.{monomial-exponents}
use Rattle.jacobian_row.proofs.ListSteps.{same_default}
use Rattle.jacobian_row.proofs.MultipleOrder.{factor_from}
use Rattle.lin_row.specs.Lines.{IsLine, AllBelow, entry}
use Rattle.lin_row.specs.Rows.{rows_of}
use Rattle.lin_row.specs.declared.row.Row.{Row}
use Rattle.coord_change.specs.Moves.{at}
use Rattle.coord_change.proofs.RowSteps
use Rattle.ternary_law.specs.Cubics.{quartic_at, quartic_row, partial_rows, product_rows}
use Rattle.ternary_law.specs.Heights.{IsPartialHigh}
use Rattle.tern_cubic.specs.Rows.{HaveEntries, monomial_at}
use Rattle.tern_cubic.proofs.Multiples

module _ {V : Type 0} (r : RingOps V) (c : IsCommRing r) where
  chosen_zero : (x : V) → r.mul x r.zero ≡ r.zero
  chosen_zero x = c.mul_comm x r.zero ∙ zero_mul r c x

  -- one entry more
  pub entry_more : (w : ℕ → V) (i d : ℕ) → r.add (cond (ltb d i) (w d) r.zero) (r.mul (w i) (cond (eqb d i) r.one r.zero)) ≡ cond (ltb d (i + 1)) (w d) r.zero
  entry_more w i d = elim (dec_lt d i) [
    | yes h ↦
        ap₂ (λ s t. r.add (cond s (w d) r.zero) (r.mul (w i) (cond t r.one r.zero))) (lt-ltb d i h) (ne_eqb d i (λ e. unlike e h))
        ∙ ap (r.add (w d)) (chosen_zero (w i)) ∙ c.add_zero (w d) ∙ ap (λ s. cond s (w d) r.zero) (sym (lt-ltb d (i + 1) (omega arith)))
    | no g ↦ elim (dec_lt i d) [
      | yes h ↦
          ap₂ (λ s t. r.add (cond s (w d) r.zero) (r.mul (w i) (cond t r.one r.zero))) (le-ltb d i (omega arith)) (ne_eqb d i (λ e. unlike (sym e) h))
          ∙ ap (r.add r.zero) (chosen_zero (w i)) ∙ c.add_zero r.zero ∙ ap (λ s. cond s (w d) r.zero) (sym (le-ltb d (i + 1) (omega arith)))
      | no k ↦
          let same : d ≡ i = omega arith in
          ap₂ (λ s t. r.add (cond s (w d) r.zero) (r.mul (w i) (cond t r.one r.zero))) (le-ltb d i (omega arith)) (eq-eqb d i same)
          ∙ ap (r.add r.zero) (c.mul_one (w i)) ∙ c.add_comm r.zero (w i) ∙ c.add_zero (w i) ∙ ap w (sym same)
          ∙ ap (λ s. cond s (w d) r.zero) (sym (lt-ltb d (i + 1) (omega arith)))
    ]
  ]
    where
      unlike : {a b : ℕ} → a ≡ b → a < b → ⊥
      unlike e h = omega arith

  -- entries up to n, past which there are none
  pub cut_off : (n : ℕ) (w : ℕ → V) → ((d : ℕ) → n ≤ d → w d ≡ r.zero) → (d : ℕ) → cond (ltb d n) (w d) r.zero ≡ w d
  cut_off n w past d = elim (dec_lt d n) [
    | yes h ↦ ap (λ s. cond s (w d) r.zero) (lt-ltb d n h)
    | no g ↦ ap (λ s. cond s (w d) r.zero) (le-ltb d n (omega arith)) ∙ sym (past d (omega arith))
  ]

-- ---- what is read

-- a jet of several, by its place
pub jet_read : (jets : List (JetTerms Frac)) (k i : ℕ) (f : JetTerms Frac) → k ≡ i → i < length jets → f ≡ get_or jets k f → All (IsJetIn rational_meaning 3) jets → IsJetIn rational_meaning 3 f
jet_read jets k i f e h here all = subst (IsJetIn rational_meaning 3) (sym (here ∙ ap (λ z. get_or jets z f) e)) (all i f h)

pub polynomial_read : (jets : List (JetTerms Frac)) (k i : ℕ) (f : JetTerms Frac) → k ≡ i → i < length jets → f ≡ get_or jets k f → poly_of 3 frac_value f.terms ≡ polynomial_at 3 frac_value jets i
polynomial_read jets k i f e h here =
    ap (λ (z : JetTerms Frac). poly_of 3 frac_value z.terms) (here ∙ ap (λ z. get_or jets z f) e ∙ same_default jets i f (record { n = 0; order = 0; terms = [] }) h)

-- a monomial of several, by its place
pub monomial_read : (all : List Exp) (k i : ℕ) (a : Exp) → k ≡ i → i < length all → get_or all k a ≡ monomial_at all i
monomial_read all k i a e h = ap (λ z. get_or all z a) e ∙ same_default all i a (record { e = [] }) h

-- a coefficient of a jet in three variables
pub coefficient_read : (f : JetTerms Frac) (a : Exp) (x : Rational) → f.n ≡ 3 → IsIn 3 a.e
    → (IsIn f.n a.e → x ≡ coefficient_in f.n rational_ops (poly_of f.n frac_value f.terms) (exp_of f.n a)) → x ≡ coefficient_in 3 rational_ops (poly_of 3 frac_value f.terms) (exp_of 3 a)
coefficient_read f a x e unused value =
    subst (λ n. IsIn n a.e → x ≡ coefficient_in n rational_ops (poly_of n frac_value f.terms) (exp_of n a)) e value unused

-- ---- one row more

-- no rows
pub no_rows : (n : ℕ) (rows : List (Row Frac)) → rows ≡ [] → HaveEntries n [] rows
no_rows n rows e = subst (HaveEntries n []) (sym e) (record { lines = tt; below = tt; are = refl })

pub rows_more : (n : ℕ) (entries : List (ℕ → Rational)) (rows new : List (Row Frac)) (r : Row Frac) (w : ℕ → Rational) → new ≡ rows ++ r ∷ [] → HaveEntries n entries rows
    → IsLine rational_meaning r.entries → AllBelow n r.entries → ((d : ℕ) → entry rational_meaning r.entries d ≡ w d) → HaveEntries n (entries ++ w ∷ []) new
rows_more n entries rows new r w items old line below are = subst (HaveEntries n (entries ++ w ∷ [])) (sym items) (record {
  lines = RowSteps.lines_more rational_meaning rows r old.lines line;
  below = RowSteps.each_more (AllBelow n) rows r old.below below;
  are = ap (map (entry rational_meaning)) (RowSteps.rows-push rows r) ∙ map-append (entry rational_meaning) (rows_of rows) (r.entries ∷ [])
      ∙ ap₂ (λ xs x. xs ++ x ∷ []) old.are (fun_ext are);
})

-- the images of one element more
pub images_more : {X Y : Type 0} (h : X → Y) (xs : List X) (i : ℕ) (d : X) → i < length xs → map h (take (i + 1) xs) ≡ map h (take i xs) ++ h (get_or xs i d) ∷ []
images_more h xs i d inside = ap (map h) (take_more xs i d inside) ∙ map-append h (take i xs) (get_or xs i d ∷ [])

-- ---- the columns past the last one

module _ (g : Polynomial 3 Rational) where
  -- the row of the partials at a monomial
  abbrev pub gradient_at : List ℕ → ℕ → Rational
  gradient_at m i = at 3 rational_scalars (derivative_in 3 rational_ops i g) m

  pub gradient_past : (m : List ℕ) (i : ℕ) → 3 ≤ i → gradient_at m i ≡ rational_ops.zero
  gradient_past m i h = Multiples.derivative_past 3 rational_ops rational_scalar_laws.ring i g (monomial_in 3 m) h

-- past the quartic monomials there is none
no_quartic : (j : ℕ) → 15 ≤ j → quartic_at rational_scalars j ≡ []
unfolding monomials_of
no_quartic j h = past (monomials_of 3 4) j h
  where
    past : (xs : List (List ℕ)) (i : ℕ) → length xs ≤ i → get_or xs i [] ≡ []
    past [] i k = refl
    past (x ∷ xs) zero k = absurd (omega arith)
    past (x ∷ xs) (suc i) k = past xs i (omega arith)

-- a multiple of a monomial other than 1 has no constant term
pub product_past : (a : ExpList 3) (g : Polynomial 3 Rational) (j : ℕ) → 0 < degree (exps 3) a → 15 ≤ j
    → at 3 rational_scalars (times_in 3 rational_ops (term_in 3 rational_ops a) g) (quartic_at rational_scalars j) ≡ rational_ops.zero
product_past a g j some h =
    ap (at 3 rational_scalars (times_in 3 rational_ops (term_in 3 rational_ops a) g)) (no_quartic j h)
    ∙ Multiples.no_multiple 3 rational_ops rational_scalar_laws.ring a (monomial_in 3 []) g (λ q e. positive q (ap (degree (exps 3)) e))
  where
    positive : (q : ExpList 3) → degree (exps 3) (monomial_in 3 []) ≡ degree (exps 3) (plus (exps 3) a q) → ⊥
    positive q e = (let s = ExpLaws.degree-plus (exps 3) (exps_are 3) a q in let z : degree (exps 3) (monomial_in 3 []) ≡ 0 = refl in omega arith)

-- ---- the partials of a jet in three variables

module _ (f : JetTerms Frac) (jet : IsJetIn rational_meaning 3 f) where
  -- its polynomial
  abbrev pub g : Polynomial 3 Rational
  g = poly_of 3 frac_value f.terms

  pub partials_in_three : (jets : List (JetTerms Frac)) → ArePartials rational_meaning f.n (poly_of f.n frac_value f.terms) jets → ArePartials rational_meaning 3 g jets
  partials_in_three jets are = subst (λ n. ArePartials rational_meaning n (poly_of n frac_value f.terms) jets) jet.variables are

  pub high_in_three : jacobian.IsPartialHigh f.n rational_scalars (poly_of f.n frac_value f.terms) → IsPartialHigh g
  high_in_three high =
      let h : jacobian.IsPartialHigh 3 rational_scalars g = subst (λ n. jacobian.IsPartialHigh n rational_scalars (poly_of n frac_value f.terms)) jet.variables high in
      record { variable = h.variable; inside = h.within; high = h.high }

module _ (g : Polynomial 3 Rational) (jets : List (JetTerms Frac)) (are : ArePartials rational_meaning 3 g jets) where
  pub jets_of : All (IsJetIn rational_meaning 3) jets
  jets_of i f h = (are.each i f h).jet

  -- the coefficient of a partial
  partial_at : (b : ExpList 3) (i : ℕ) → i < 3 → coefficient_in 3 rational_ops (polynomial_at 3 frac_value jets i) b ≡ coefficient_in 3 rational_ops (derivative_in 3 rational_ops i g) b
  partial_at b i h = (are.each i (record { n = 0; order = 0; terms = [] }) (let e = are.count in omega arith)).derivative b

  -- a jet of several is a partial
  pub partial_same : (k i : ℕ) (f : JetTerms Frac) → k ≡ i → i < 3 → f ≡ get_or jets k f → SameIn 3 rational_ops (poly_of 3 frac_value f.terms) (derivative_in 3 rational_ops i g)
  partial_same k i f e h here b =
      ap (λ z. coefficient_in 3 rational_ops z b) (polynomial_read jets k i f e (let n = are.count in omega arith) here) ∙ partial_at b i h

  -- the row of the partials at a monomial
  pub gradient_is : (a : Exp) (row : ℕ → Rational)
      → ((d : ℕ) → row d ≡ cond (ltb d 3) (coefficient_in 3 rational_ops (polynomial_at 3 frac_value jets d) (exp_of 3 a)) rational_ops.zero)
      → (d : ℕ) → row d ≡ gradient_at g (exponents 3 a.e) d
  gradient_is a row is d =
      is d ∙ elim (dec_lt d 3) [
        | yes h ↦ ap (λ v. cond (ltb d 3) v rational_ops.zero) (partial_at (exp_of 3 a) d h)
        | no h ↦ outside (le-ltb d 3 (omega arith))
      ]
      ∙ cut_off rational_ops rational_scalar_laws.ring 3 (λ d. coefficient_in 3 rational_ops (derivative_in 3 rational_ops d g) (exp_of 3 a))
      (λ i h. Multiples.derivative_past 3 rational_ops rational_scalar_laws.ring i g (exp_of 3 a) h) d
      ∙ ap (coefficient_in 3 rational_ops (derivative_in 3 rational_ops d g)) (sym (monomial-exponents 3 a))
    where
      outside : ltb d 3 ≡ false → cond (ltb d 3) (coefficient_in 3 rational_ops (polynomial_at 3 frac_value jets d) (exp_of 3 a)) rational_ops.zero
          ≡ cond (ltb d 3) (coefficient_in 3 rational_ops (derivative_in 3 rational_ops d g) (exp_of 3 a)) rational_ops.zero
      outside e = ap (λ s. cond s (coefficient_in 3 rational_ops (polynomial_at 3 frac_value jets d) (exp_of 3 a)) rational_ops.zero) e
          ∙ ap (λ s. cond s (coefficient_in 3 rational_ops (derivative_in 3 rational_ops d g) (exp_of 3 a)) rational_ops.zero) (sym e)

-- the rows of the partials, by the quadratic monomials
pub partial_rows_are : (g : Polynomial 3 Rational) (all : List Exp) → map (λ a. exponents 3 a.e) all ≡ monomials_of 3 2 → map (λ a. gradient_at g (exponents 3 a.e)) all ≡ partial_rows rational_scalars g
partial_rows_are g all e = map-twice all ∙ ap (map (gradient_at g)) e
  where
    map-twice : (all : List Exp) → map (λ a. gradient_at g (exponents 3 a.e)) all ≡ map (gradient_at g) (map (λ a. exponents 3 a.e) all)
    map-twice [] = refl
    map-twice (a ∷ all) = ap (λ z. gradient_at g (exponents 3 a.e) ∷ z) (map-twice all)

-- the row of one monomial more
pub gradient_more : (g : Polynomial 3 Rational) (all : List Exp) (i : ℕ) (d : Exp) (rows new : List (Row Frac)) (r : Row Frac) → i < length all → new ≡ rows ++ r ∷ []
    → HaveEntries 3 (map (λ a. gradient_at g (exponents 3 a.e)) (take i all)) rows → IsLine rational_meaning r.entries → AllBelow 3 r.entries
    → ((k : ℕ) → entry rational_meaning r.entries k ≡ gradient_at g (exponents 3 (get_or all i d).e) k) → HaveEntries 3 (map (λ a. gradient_at g (exponents 3 a.e)) (take (i + 1) all)) new
gradient_more g all i d rows new r inside items old line below are =
    subst (λ z. HaveEntries 3 z new) (sym (images_more (λ a. gradient_at g (exponents 3 a.e)) all i d inside))
    (rows_more 3 (map (λ a. gradient_at g (exponents 3 a.e)) (take i all)) rows new r (gradient_at g (exponents 3 (get_or all i d).e)) items old line below are)

-- the factor of a multiple is not 1
pub some_factor : (us : List Multiple) → AreMultiples 3 2 2 us → (j : ℕ) (d : Multiple) → j < length us → 0 < degree (exps 3) (exp_of 3 (get_or us j d).factor)
some_factor us are j d h =
    let s : degree (exps 3) (exp_of 3 (get_or us j d).factor) ≡ sum (get_or us j d).factor.e = degree-exp_of 3 (get_or us j d).factor (are.unused j d h) in
    let low : 2 ≤ sum (get_or us j d).factor.e = factor_from 3 2 2 us are j d h in
    omega arith

-- ---- the products

-- there are 15 quartic monomials
pub fifteen : (quartics : List Exp) → map (λ a. exponents 3 a.e) quartics ≡ monomials_of 3 4 → length quartics ≡ 15
unfolding monomials_of
fifteen quartics e = sym (length-map quartics (λ a. exponents 3 a.e)) ∙ ap length e

module _ (g : Polynomial 3 Rational) where
  -- the row of the product of a monomial and a partial
  abbrev pub product_at : List ℕ × ℕ → ℕ → Rational
  product_at p = quartic_row rational_scalars (times_in 3 rational_ops (term_in 3 rational_ops (monomial_in 3 p.0)) (derivative_in 3 rational_ops p.1 g))

  -- its entries, from those at the quartic monomials
  pub product_is_row : (quartics : List Exp) (factor : Exp) (i : ℕ) (row : ℕ → Rational) → map (λ a. exponents 3 a.e) quartics ≡ monomials_of 3 4 → 0 < degree (exps 3) (exp_of 3 factor)
      → ((d : ℕ) → row d ≡ cond (ltb d 15) (coefficient_in 3 rational_ops (times_in 3 rational_ops (term_in 3 rational_ops (exp_of 3 factor)) (derivative_in 3 rational_ops i g)) (exp_of 3 (monomial_at quartics d))) rational_ops.zero)
      → (d : ℕ) → row d ≡ product_at (exponents 3 factor.e, i) d
  product_is_row quartics factor i row all some is d =
      is d ∙ elim (dec_lt d 15) [
        | yes h ↦ ap (λ v. cond (ltb d 15) v rational_ops.zero) (ap product (place h))
        | no h ↦ outside (le-ltb d 15 (omega arith))
      ]
      ∙ cut_off rational_ops rational_scalar_laws.ring 15 (λ d. product (monomial_in 3 (quartic_at rational_scalars d))) (λ j h. product_past (exp_of 3 factor) (derivative_in 3 rational_ops i g) j some h) d
      ∙ ap (λ z. coefficient_in 3 rational_ops (times_in 3 rational_ops (term_in 3 rational_ops z) (derivative_in 3 rational_ops i g)) (monomial_in 3 (quartic_at rational_scalars d))) (sym (monomial-exponents 3 factor))
    where
      product : ExpList 3 → Rational
      product = coefficient_in 3 rational_ops (times_in 3 rational_ops (term_in 3 rational_ops (exp_of 3 factor)) (derivative_in 3 rational_ops i g))

      place : d < 15 → exp_of 3 (monomial_at quartics d) ≡ monomial_in 3 (quartic_at rational_scalars d)
      place h =
          sym (monomial-exponents 3 (monomial_at quartics d))
          ∙ ap (monomial_in 3) (sym (get_or-map (λ a. exponents 3 a.e) quartics d (record { e = [] }) [] (let n = fifteen quartics all in omega arith)) ∙ ap (λ z. get_or z d []) all)

      outside : ltb d 15 ≡ false → cond (ltb d 15) (product (exp_of 3 (monomial_at quartics d))) rational_ops.zero ≡ cond (ltb d 15) (product (monomial_in 3 (quartic_at rational_scalars d))) rational_ops.zero
      outside e = ap (λ s. cond s (product (exp_of 3 (monomial_at quartics d))) rational_ops.zero) e ∙ ap (λ s. cond s (product (monomial_in 3 (quartic_at rational_scalars d))) rational_ops.zero) (sym e)

  -- the rows of the products, by the pairs of a monomial and a variable
  pub product_rows_are : (all : List Multiple) → map (pair_of 3) all ≡ pairs_between 3 2 2 → map (λ u. product_at (pair_of 3 u)) all ≡ product_rows rational_scalars g
  unfolding monomials_of monomials_below monomials_between
  product_rows_are all e = map-twice all ∙ ap (map product_at) e
    where
      map-twice : (all : List Multiple) → map (λ u. product_at (pair_of 3 u)) all ≡ map product_at (map (pair_of 3) all)
      map-twice [] = refl
      map-twice (a ∷ all) = ap (λ z. product_at (pair_of 3 a) ∷ z) (map-twice all)

  -- the row of one pair more
  pub product_more : (all : List Multiple) (i : ℕ) (d : Multiple) (rows new : List (Row Frac)) (r : Row Frac) → i < length all → new ≡ rows ++ r ∷ []
      → HaveEntries 15 (map (λ u. product_at (pair_of 3 u)) (take i all)) rows → IsLine rational_meaning r.entries → AllBelow 15 r.entries
      → ((k : ℕ) → entry rational_meaning r.entries k ≡ product_at (pair_of 3 (get_or all i d)) k) → HaveEntries 15 (map (λ u. product_at (pair_of 3 u)) (take (i + 1) all)) new
  product_more all i d rows new r inside items old line below are =
      subst (λ z. HaveEntries 15 z new) (sym (images_more (λ u. product_at (pair_of 3 u)) all i d inside))
      (rows_more 15 (map (λ u. product_at (pair_of 3 u)) (take i all)) rows new r (product_at (pair_of 3 (get_or all i d))) items old line below are)
