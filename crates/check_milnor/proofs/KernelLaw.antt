-- The table takes the multiples of the list to 0 exactly where it takes all multiples of the partials to 0.
use Rattle.std.proofs.Common.{◌≡◌, ℕ, ◌<◌, ◌≤◌, ◌⊎◌, inl, inr, false, cond, leb, List, [], ◌∷◌, refl, sym, ap, subst, ◌∙◌, append-nil, arith}
use Rattle.std.specs.List.{AllByRecursion}
use Rattle.std.proofs.lemmas.Bool.{cases_lt, lt-leb}
use Rattle.ring_theory.specs.Ring.{RingOps}
use Rattle.ring_theory.specs.Scalars.{Meaning, sum_of}
use Rattle.poly_law.specs.Sums.{total}
use Rattle.poly_law.specs.Exps.{plus, degree}
use Rattle.poly_law.specs.ExpList.{ExpList, exps}
use Rattle.poly_law.specs.Poly.{times_term, values_of, times, term, derivative, cut}
use Rattle.poly_law.specs.Polynomials.{Polynomial}
use Rattle.poly_law.proofs.ExpLists.{exps_are}
use Rattle.poly_law.proofs.ExpLaws
use Rattle.mono_exp.specs.declared.exponent.Exp.{Exp}
use Rattle.jacobian_row.specs.Multiples.{AreMultiples, product_to}
use Rattle.jacobian_row.specs.declared.multiple.Multiple.{Multiple}
use Rattle.milnor_alg.specs.declared.quotient.TableRow.{TableRow}
use Rattle.check_rows.specs.Lists.{ArePartialLists, list_at}
use Rattle.check_rows.proofs.FunctionalLemmas.{total_is}
use Rattle.check_rows.proofs.Multiples.{holds_of_all, all_hold}
use Rattle.check_quotient.specs.Tables.{value_in, image_products, IsInKernel, IsMultipleInKernel}

-- a multiple by a monomial of degree above k has no term of degree at most k
high_none : {V : Type 0} (n k : ℕ) (r : RingOps V) (a : ExpList n) → k < degree (exps n) a → (f : Polynomial n V) → cut (exps n) r k (times (exps n) r (term (exps n) r a) f) ≡ []
high_none {V} n k r a high f = ap (cut (exps n) r k) (append-nil (times_term (exps n) r (a, r.one) f)) ∙ go f
  where
    go : (f : Polynomial n V) → cut (exps n) r k (times_term (exps n) r (a, r.one) f) ≡ []
    go [] = refl
    go (t ∷ f) =
        let above : leb (degree (exps n) (plus (exps n) a t.0)) k ≡ false = lt-leb (degree (exps n) (plus (exps n) a t.0)) k (let s = ExpLaws.degree-plus (exps n) (exps_are n) a t.0 in omega arith) in
        ap (λ b. cond b ((plus (exps n) a t.0, r.mul r.one t.1) ∷ cut (exps n) r k (times_term (exps n) r (a, r.one) f)) (cut (exps n) r k (times_term (exps n) r (a, r.one) f))) above ∙ go f

module _ {E V : Type 0} (m : Meaning E V) (n k size : ℕ) (table : List (TableRow E)) (g : Polynomial n V) (partials : List (List (Exp × E))) (are : ArePartialLists m n g partials) where
  abbrev r : RingOps V
  r = m.scalars.ops

  abbrev lists : ℕ → Polynomial n V
  lists = list_at n m.value partials

  -- the table takes x^a times the partial in variable i, cut at k, to 0
  abbrev IsZeroAt : ExpList n → ℕ → Type 0
  IsZeroAt a i = IsInKernel m n table size (product_to n r k a (lists i))

  list_is : (i : ℕ) → i < n → lists i ≡ derivative (exps n) r i g
  list_is i h = (are.each i [] (subst (λ l. i < l) (sym are.count) h)).derivative

  -- the table takes all multiples of the partials to 0
  abbrev pub ZeroOnAll : Type 0
  ZeroOnAll = (a : ExpList n) (i j : ℕ) → i < n → j < size → values_of (exps n) r (value_in m n table) k (times (exps n) r (term (exps n) r a) (derivative (exps n) r i g)) j ≡ r.zero

  -- its value at such a multiple is the sum of the products at the list of the partial
  value_is : (a : ExpList n) (i j : ℕ) → i < n
      → values_of (exps n) r (value_in m n table) k (times (exps n) r (term (exps n) r a) (derivative (exps n) r i g)) j ≡ sum_of r (image_products m n table j (product_to n r k a (lists i)))
  value_is a i j h =
      total_is r (λ t. r.mul t.1 (value_in m n table t.0 j)) (product_to n r k a (derivative (exps n) r i g)) ∙ ap (λ f. sum_of r (image_products m n table j (product_to n r k a f))) (sym (list_is i h))

  -- zero on the multiples of the list is zero on all
  pub zero_on_all : (us : List Multiple) → AreMultiples n 0 k us → AllByRecursion (IsMultipleInKernel m n table size k lists) us → ZeroOnAll
  zero_on_all us list all a i j hi hj = step (cases_lt k (degree (exps n) a))
    where
      step : (k < degree (exps n) a) ⊎ (degree (exps n) a ≤ k) → values_of (exps n) r (value_in m n table) k (times (exps n) r (term (exps n) r a) (derivative (exps n) r i g)) j ≡ r.zero
      step (inl high) = ap (total r (λ t. r.mul t.1 (value_in m n table t.0 j))) (high_none n k r a high (derivative (exps n) r i g))
      step (inr to) = value_is a i j hi ∙ holds_of_all n 0 k IsZeroAt us list all a i (omega arith) to hi j hj

  -- and the other way round
  pub all_zero_on : (us : List Multiple) → AreMultiples n 0 k us → ZeroOnAll → AllByRecursion (IsMultipleInKernel m n table size k lists) us
  all_zero_on us list vanishes = all_hold n 0 k IsZeroAt us list (λ a i from to hi j hj. sym (value_is a i j hi) ∙ vanishes a i j hi hj)
