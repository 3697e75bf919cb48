-- The table is that of the truncated Milnor algebra.
use Rattle.std.proofs.Common.{◌≡◌, ◌≢◌, ℕ, zero, suc, ◌<◌, ◌≤◌, Bool, true, false, cond, ◌||◌, eqb, leb, eq-eqb, ne_eqb, inl, inr, List, [], ◌∷◌, length, get_or, map, refl, sym, ap, ap₂, subst, ◌∙◌, arith}
use Rattle.std.specs.List.{AllByRecursion, All}
use Rattle.std.proofs.lemmas.Bool.{eqb-true, leb-true}
use Rattle.ring_theory.specs.Ring.{RingOps, IsCommRing}
use Rattle.ring_theory.specs.Scalars.{Meaning}
use Rattle.poly_law.specs.Sums.{total}
use Rattle.poly_law.specs.Exps.{degree}
use Rattle.poly_law.specs.ExpList.{ExpList, exps}
use Rattle.poly_law.specs.Poly.{times, term, derivative, cut, SameTo}
use Rattle.poly_law.specs.Polynomials.{Polynomial, term_in}
use Rattle.poly_law.proofs.ExpLists.{exps_are}
use Rattle.poly_law.proofs.Sums
use Rattle.poly_law.proofs.Order
use Rattle.mono_exp.specs.declared.exponent.Exp.{Exp}
use Rattle.mono_exp.specs.Exponents.{IsIn, exponents, monomials_below}
use Rattle.mono_exp.proofs.Lists.{Each, each-map}
use Rattle.jet_law.specs.Terms.{exp_of, poly_of}
use Rattle.jet_poly.specs.JetTerms.{JetTerms}
use Rattle.lin_row.specs.Lines.{EachOf, lead_of, dot, entry, unit_at}
use Rattle.lin_row.specs.System.{dot_at}
use Rattle.lin_row.specs.Rows.{rows_of}
use Rattle.lin_row.specs.Forms.{IsCombination, IsReducedForm}
use Rattle.lin_row.specs.Reductions.{IsRemainder, AreRemainders}
use Rattle.lin_row.specs.declared.row.Row.{Row}
use Rattle.lin_row.specs.declared.row.Remainder.{Remainder}
use Rattle.jacobian_row.specs.Numbers.{number, count_to, form_of}
use Rattle.jacobian_row.specs.Multiples.{AreMultiples, pair_of, multiple_to}
use Rattle.jacobian_row.specs.Rows.{AreRowsOf, AreMonomialRows, ArePartials}
use Rattle.jacobian_row.specs.declared.multiple.Multiple.{Multiple}
use Rattle.jacobian_row.proofs.NumberLemmas.{number_below, number_injective, exp_of-entries}
use Rattle.jacobian_row.proofs.Membership.{at_pair}
use Rattle.jacobian_row.proofs.RowFacts
use Rattle.jacobian_row.proofs.RowFacts.{monomial-exponents, variables_within}
use Rattle.jacobian_row.proofs.Combinations
use Rattle.determinacy.proofs.FailureLemmas.{low_or_high}
use Rattle.jet_quotient.specs.Answers.{begins_at, free_of}
use Rattle.jacobian_row.proofs.MonomialLists
use Rattle.jet_quotient.proofs.ReductionFacts
use Rattle.jet_quotient.proofs.ReductionFacts.{IsSpanned}

each_both : {X : Type 0} (P Q R : X → Type 0) → ((x : X) → P x → Q x → R x) → (xs : List X) → EachOf P xs → EachOf Q xs → EachOf R xs
each_both P Q R f [] p q = tt
each_both P Q R f (x ∷ xs) p q = (f x p.0 q.0, each_both P Q R f xs p.1 q.1)

each_always : {X : Type 0} (P : X → Type 0) → ((x : X) → P x) → (xs : List X) → EachOf P xs
each_always P f [] = tt
each_always P f (x ∷ xs) = (f x, each_always P f xs)

-- what is left of the monomials, by their numbers
pub record Reduced {E V : Type 0} (m : Meaning E V) (g : JetTerms E) (k n : ℕ) (multiples : List Multiple) (monomials : List Exp) (rests : List (Remainder E)) (basis : List Exp) : Type 0 where
  pub partials : List (JetTerms E)
  pub rows : List (Row E)
  pub targets : List (Row E)
  pub form : List (Row E)
  pub small : n ≤ 8
  pub are_partials : ArePartials m n (poly_of n m.value g.terms) partials
  pub are_multiples : AreMultiples n 0 k multiples
  pub are_rows : AreRowsOf m n (count_to n k) k partials multiples rows
  pub are_monomials : map (λ a. exponents n a.e) monomials ≡ monomials_below n (suc k)
  pub unused : All (λ a. IsIn n a.e) monomials
  pub are_targets : AreMonomialRows m n (count_to n k) monomials targets
  pub is_form : IsReducedForm m (rows_of rows) (rows_of form)
  pub are_rests : AreRemainders m (rows_of rows) (rows_of form) targets rests
  pub basis_is : basis ≡ free_of n form monomials

pub rest_at : {E V : Type 0} (m : Meaning E V) (given form : List (List (ℕ × E))) (ts : List (Row E)) (rs : List (Remainder E)) → AreRemainders m given form ts rs → (i : ℕ) (t : Row E) (s : Remainder E) → i < length ts → IsRemainder m given form (get_or ts i t).entries (get_or rs i s)
rest_at m given form [] rs all i t s h = absurd (omega arith)
rest_at m given form (u ∷ ts) [] all i t s h = absurd all
rest_at m given form (u ∷ ts) (v ∷ rs) all zero t s h = all.0
rest_at m given form (u ∷ ts) (v ∷ rs) all (suc i) t s h = rest_at m given form ts rs all.1 i t s (omega arith)

-- no row of a form begins in a column
never : {E : Type 0} (form : List (Row E)) (c : ℕ) → begins_at form c ≡ false → EachOf (λ row. lead_of row ≢ c) (rows_of form)
never [] c h = tt
never (row ∷ form) c h = go (λ q. never form c q) (eqb (lead_of row.entries) c) refl h
  where
    go : (begins_at form c ≡ false → EachOf (λ row. lead_of row ≢ c) (rows_of form)) → (b : Bool) → eqb (lead_of row.entries) c ≡ b → (b || begins_at form c) ≡ false → (lead_of row.entries ≢ c) × EachOf (λ row. lead_of row ≢ c) (rows_of form)
    go next true e q = absurd (let z : true ≡ false = q in cc z)
    go next false e q = ((λ s. let bad : ⊥ = (let z : false ≡ true = sym e ∙ eq-eqb (lead_of row.entries) c s in cc z) in absurd bad), next q)

-- where one does, what is left has entry 0
pub begun : {E V : Type 0} (m : Meaning E V) (left : List (ℕ × E)) (form : List (Row E)) (c : ℕ) → begins_at form c ≡ true → EachOf (λ row. entry m left (lead_of row) ≡ m.scalars.ops.zero) (rows_of form) → entry m left c ≡ m.scalars.ops.zero
begun m left [] c h all = absurd (let z : false ≡ true = h in cc z)
begun m left (row ∷ form) c h all = go (λ q. begun m left form c q all.1) (eqb (lead_of row.entries) c) refl h
  where
    go : (begins_at form c ≡ true → entry m left c ≡ m.scalars.ops.zero) → (b : Bool) → eqb (lead_of row.entries) c ≡ b → (b || begins_at form c) ≡ true → entry m left c ≡ m.scalars.ops.zero
    go next true e q = ap (entry m left) (sym (eqb-true (lead_of row.entries) c e)) ∙ all.0
    go next false e q = next q

module _ {E V : Type 0} (m : Meaning E V) (c : IsCommRing m.scalars.ops) (set : IsSet V) (nontrivial : m.scalars.ops.one ≢ m.scalars.ops.zero) (g : JetTerms E) (k n : ℕ) (multiples : List Multiple) (monomials : List Exp) (rests : List (Remainder E)) (basis : List Exp) (made : Reduced m g k n multiples monomials rests basis) where
  open m.scalars.ops use {add, mul, neg}
  open made use {partials, rows, targets, form}

  abbrev r : RingOps V
  r = m.scalars.ops

  abbrev gp : Polynomial n V
  gp = poly_of n m.value g.terms

  abbrev given : List (List (ℕ × E))
  given = rows_of rows

  abbrev lines : List (List (ℕ × E))
  lines = rows_of form

  abbrev none : Exp
  none = record { e = [] }

  abbrev pub rest : ExpList n → Remainder E
  rest b = get_or rests (number n b) (record { left = []; coefficients = [] })

  -- ---- the monomial with its number
  pub place_within : (b : ExpList n) → degree (exps n) b ≤ k → number n b < length monomials
  place_within b low = let e = MonomialLists.count-list n (suc k) monomials made.are_monomials in let h = number_below n k b low in omega arith

  pub monomial_is : (b : ExpList n) → degree (exps n) b ≤ k → (a : Exp) → exp_of n (get_or monomials (number n b) a) ≡ b
  monomial_is b low a = number_injective n (exp_of n (get_or monomials (number n b) a)) b (MonomialLists.number-at n (suc k) monomials made.are_monomials (number n b) a (place_within b low))

  pub remainder : (b : ExpList n) → degree (exps n) b ≤ k → IsRemainder m given lines (get_or targets (number n b) (record { entries = [] })).entries (rest b)
  remainder b low = rest_at m given lines targets rests made.are_rests (number n b) (record { entries = [] }) (record { left = []; coefficients = [] })
      (let e = RowFacts.monomials_length m n (count_to n k) monomials targets made.are_targets in let h = place_within b low in omega arith)

  abbrev pub taken : ExpList n → (ℕ → V) → V
  taken b w = dot m (rest b).coefficients (λ j. dot_at m given j w)

  -- a monomial is what is left of it and a combination of the rows
  pub parts : (b : ExpList n) → degree (exps n) b ≤ k → (w : ℕ → V) → w (number n b) ≡ add (dot m (rest b).left w) (taken b w)
  parts b low w =
      sym (c.add_zero (mul r.one (w (number n b))) ∙ c.mul_comm r.one (w (number n b)) ∙ c.mul_one (w (number n b)))
      ∙ ap (λ x. form_of n r (term_in n r x) w) (sym (monomial_is b low none))
      ∙ sym ((RowFacts.monomial_at m n (count_to n k) monomials targets made.are_targets (number n b) none (record { entries = [] }) (place_within b low)).value w)
      ∙ (remainder b low).rest.sum w

  taken_spanned : (b : ExpList n) → IsSpanned m lines (taken b)
  taken_spanned b = ReductionFacts.span_dot m c lines given made.is_form.spans (rest b).coefficients

  -- ---- what is left of a monomial of the basis
  pub basis_left : (b : ExpList n) → degree (exps n) b ≤ k → begins_at form (number n b) ≡ false → (w : ℕ → V) → dot m (rest b).left w ≡ w (number n b)
  basis_left b low free w =
      sym (parts b low w ∙ ap (add (dot m (rest b).left w)) (ReductionFacts.form_zero m c nontrivial given lines made.is_form (taken b) (taken_spanned b) at_leads w) ∙ c.add_zero (dot m (rest b).left w))
    where
      at_leads : EachOf (λ row. taken b (unit_at r (lead_of row)) ≡ r.zero) lines
      at_leads = each_both (λ row. entry m (rest b).left (lead_of row) ≡ r.zero) (λ row. lead_of row ≢ number n b) (λ row. taken b (unit_at r (lead_of row)) ≡ r.zero)
          (λ row z differ. sym (Sums.zero_add r c (taken b (unit_at r (lead_of row)))) ∙ ap (λ x. add x (taken b (unit_at r (lead_of row)))) (sym z)
          ∙ sym (parts b low (unit_at r (lead_of row))) ∙ ap (λ q. cond q r.one r.zero) (ne_eqb (lead_of row) (number n b) differ))
          lines (remainder b low).cleared (never form (number n b) free)

  -- ---- the sums of what is left
  abbrev pub left_sum : Polynomial n V → (ℕ → V) → V
  left_sum f w = total r (λ t. mul t.1 (dot m (rest t.0).left w)) f

  abbrev taken_sum : Polynomial n V → (ℕ → V) → V
  taken_sum f w = total r (λ t. mul t.1 (taken t.0 w)) f

  abbrev IsLow : Polynomial n V → Type 0
  IsLow f = AllByRecursion (λ t. degree (exps n) t.0 ≤ k) f

  sums : (f : Polynomial n V) → IsLow f → (w : ℕ → V) → form_of n r f w ≡ add (left_sum f w) (taken_sum f w)
  sums [] low w = sym (c.add_zero r.zero)
  sums (t ∷ f) low w =
      ap₂ add (ap (mul t.1) (parts t.0 low.0 w) ∙ Sums.distrib_left r c t.1 (dot m (rest t.0).left w) (taken t.0 w)) (sums f low.1 w)
      ∙ Sums.add_swap r c (mul t.1 (dot m (rest t.0).left w)) (mul t.1 (taken t.0 w)) (left_sum f w) (taken_sum f w)

  taken_sum-spanned : (f : Polynomial n V) → IsSpanned m lines (taken_sum f)
  taken_sum-spanned [] = ReductionFacts.span_zero m c lines (taken_sum []) (λ w. refl)
  taken_sum-spanned (t ∷ f) =
      ReductionFacts.span_add m c lines (λ w. mul t.1 (taken t.0 w)) (taken_sum f) (taken_sum (t ∷ f)) (λ w. refl)
      (ReductionFacts.span_mul m c lines t.1 (taken t.0) (λ w. mul t.1 (taken t.0 w)) (λ w. refl) (taken_spanned t.0)) (taken_sum-spanned f)

  left_sum-leads : (f : Polynomial n V) → IsLow f → EachOf (λ row. left_sum f (unit_at r (lead_of row)) ≡ r.zero) lines
  left_sum-leads [] low = each_always (λ row. left_sum [] (unit_at r (lead_of row)) ≡ r.zero) (λ row. refl) lines
  left_sum-leads (t ∷ f) low =
      each_both (λ row. entry m (rest t.0).left (lead_of row) ≡ r.zero) (λ row. left_sum f (unit_at r (lead_of row)) ≡ r.zero) (λ row. left_sum (t ∷ f) (unit_at r (lead_of row)) ≡ r.zero)
      (λ row z y. ap₂ add (ap (mul t.1) z ∙ Sums.mul_zero r c t.1) y ∙ c.add_zero r.zero) lines (remainder t.0 low.0).cleared (left_sum-leads f low.1)

  -- a polynomial whose row is a combination of the rows leaves nothing
  pub left_nothing : (f : Polynomial n V) → IsLow f → IsSpanned m lines (form_of n r f) → (w : ℕ → V) → left_sum f w ≡ r.zero
  left_nothing f low h =
      ReductionFacts.form_zero m c nontrivial given lines made.is_form (left_sum f)
      (ReductionFacts.span_add m c lines (form_of n r f) (λ w. neg (taken_sum f w)) (left_sum f)
      (λ w. sym (ap (λ x. add x (neg (taken_sum f w))) (sums f low w) ∙ c.add_assoc (left_sum f w) (taken_sum f w) (neg (taken_sum f w)) ∙ ap (add (left_sum f w)) (c.add_neg (taken_sum f w)) ∙ c.add_zero (left_sum f w)))
      h (ReductionFacts.span_neg m c lines (taken_sum f) (λ w. neg (taken_sum f w)) (λ w. refl) (taken_sum-spanned f)))
      (left_sum-leads f low)

  -- ---- the rows of the multiples are combinations of those of the form
  row_spanned : (us : List Multiple) (rs : List (Row E)) → AreRowsOf m n (count_to n k) k partials us rs → All (λ u. u.variable < n) us → EachOf (IsCombination m lines) (rows_of rs)
      → Each (λ u. IsSpanned m lines (form_of n r (multiple_to n r k gp (exp_of n u.factor) u.variable))) us
  row_spanned [] rs all within each = tt
  row_spanned (u ∷ us) [] all within each = absurd all
  row_spanned (u ∷ us) (row ∷ rs) all within each = (
    ReductionFacts.span_combination m c lines each.0.coefficients (form_of n r (multiple_to n r k gp (exp_of n u.factor) u.variable))
        (λ w. sym (all.0.value w ∙ Combinations.partial_same m c set n (count_to n k) k partials gp made.are_partials (exp_of n u.factor) u.variable (within 0 u (omega arith)) w) ∙ sym (each.0.sum w)),
    row_spanned us rs all.1 (λ j d h. within (suc j) d (omega arith)) each.1,
  )

  abbrev AtPair : List ℕ × ℕ → Type 0
  AtPair p = IsSpanned m lines (form_of n r (multiple_to n r k gp (exp_of n (record { e = p.0 })) p.1))

  each_pair : (vs : List Multiple) → Each (λ u. IsSpanned m lines (form_of n r (multiple_to n r k gp (exp_of n u.factor) u.variable))) vs → Each (λ u. AtPair (pair_of n u)) vs
  each_pair [] h = tt
  each_pair (u ∷ vs) h = (subst (λ b. IsSpanned m lines (form_of n r (multiple_to n r k gp b u.variable))) (sym (monomial-exponents n u.factor)) h.0, each_pair vs h.1)

  pub multiple_spanned : (a : ExpList n) (i : ℕ) → i < n → IsSpanned m lines (form_of n r (multiple_to n r k gp a i))
  multiple_spanned a i within = elim (low_or_high (degree (exps n) a) k) [
    | inl low ↦
        let by_factors = row_spanned multiples rows made.are_rows (variables_within n 0 k multiples made.are_multiples) made.is_form.spans in
        let by_pairs = subst (Each AtPair) made.are_multiples.list (each-map AtPair (pair_of n) multiples (each_pair multiples by_factors)) in
        subst (λ b. IsSpanned m lines (form_of n r (multiple_to n r k gp b i))) (exp_of-entries n a) (at_pair AtPair n 0 k by_pairs a i (omega arith) low within)
    | inr high ↦
        ReductionFacts.span_zero m c lines (form_of n r (multiple_to n r k gp a i))
        (Combinations.form_same r c set n (multiple_to n r k gp a i) []
        (Order.same-cut (exps n) (exps_are n) r c k (times (exps n) r (term (exps n) r a) (derivative (exps n) r i gp)) [] (nothing high)))
  ]
    where
      nothing : k < degree (exps n) a → SameTo (exps n) r k (times (exps n) r (term (exps n) r a) (derivative (exps n) r i gp)) []
      nothing high b low =
          Order.starts_times (exps n) (exps_are n) r c (degree (exps n) a) 0 (term (exps n) r a) (derivative (exps n) r i gp)
          (Combinations.starts_terms r c set n (degree (exps n) a) (term (exps n) r a) (omega arith, tt)) (λ d less. absurd (omega arith)) b (omega arith)

  pub cut_low : (f : Polynomial n V) → IsLow (cut (exps n) r k f)
  cut_low [] = tt
  cut_low (t ∷ f) = step (leb (degree (exps n) t.0) k) refl (cut_low f)
    where
      step : (b : Bool) → leb (degree (exps n) t.0) k ≡ b → IsLow (cut (exps n) r k f) → IsLow (cond b (t ∷ cut (exps n) r k f) (cut (exps n) r k f))
      step true e h = (leb-true (degree (exps n) t.0) k e, h)
      step false e h = h

  -- T is 0 on the multiples
  pub multiple_left : (a : ExpList n) (i : ℕ) → i < n → (w : ℕ → V) → left_sum (multiple_to n r k gp a i) w ≡ r.zero
  multiple_left a i within = left_nothing (multiple_to n r k gp a i) (cut_low (times (exps n) r (term (exps n) r a) (derivative (exps n) r i gp))) (multiple_spanned a i within)
