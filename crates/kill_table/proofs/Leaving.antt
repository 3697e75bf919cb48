-- The term that a step gives for an entry: what is taken for it, and what the tail of a lead leaves.
use Rattle.std.proofs.Common.{◌≡◌, ℕ, zero, suc, ◌+◌, ◌<◌, ◌≤◌, ◌^◌, Bool, true, false, cond, List, [], ◌∷◌, ◌++◌, map, length, get_or, take, refl, sym, ap, ap₂, subst, ◌∙◌, append-nil, ◌*◌, ◌⊎◌, inl, inr, arith}
use Rattle.std.specs.Prelude.{Some, None, Result, Ok, Err, OnOk, All, Contains, filter, filter_map, flat_map}
use Rattle.ring_theory.specs.Scalars.{Meaning}
use Rattle.poly_law.specs.ExpList.{ExpList, exps}
use Rattle.mono_exp.specs.declared.exponent.Exp.{Exp}
use Rattle.mono_exp.specs.Exponents.{IsIn, weighted_degree_of}
use Rattle.jet_law.specs.Heights.{IsHigh, summands_at}
use Rattle.jet_law.specs.Terms.{exp_of, poly_of}
use Rattle.jet_law.proofs.High.{high_head, high_left, high_right}
use Rattle.jet_law.proofs.Gather.{filter-append}
use Rattle.jet_law.proofs.TermLemmas.{exp_of-product}
use Rattle.kill_law.specs.declared.lead.Entry.{Entry}
use Rattle.kill_law.specs.declared.lead.Lead.{Lead}
use Rattle.kill_law.specs.Kill.{tail_of}
use Rattle.kill_law.specs.Taken.{term_of, multiplied_heights, tail_heights}
use Rattle.kill_table.specs.declared.reduction.Step.{Step}
use Rattle.kill_table.specs.Terms.{AreIn, AreOfGrade, IsAdded, IsAddingHigh}
use Rattle.kill_table.specs.Steps.{step_of, IsTermBy, IsLeft, IsLeavingHigh, Takes}

-- what holds of the new value of a call that succeeds
pub on_ok : {T F : Type 0} {P Q : Type 0} (r : Result T F) → (P → Q) → OnOk r P → OnOk r Q
on_ok (Ok x) f h = f h
on_ok (Err e) f h = tt

tail-some : (l : Lead) (e : Entry) → l.tail ≡ Some e → tail_of l ≡ e ∷ []
tail-some l e q = ap (λ o. filter_map (λ e. e) (o ∷ [])) q

tail-none : (l : Lead) → l.tail ≡ None → tail_of l ≡ []
tail-none l q = ap (λ o. filter_map (λ e. e) (o ∷ [])) q

-- the tail is among the entries of the tail
pub in-tail : (l : Lead) (e : Entry) → l.tail ≡ Some e → Contains (tail_of l) e
in-tail l e q = subst (λ es. Contains es e) (sym (tail-some l e q)) (0, omega arith, refl)

module _ {E V : Type 0} (m : Meaning E V) (letters : List V) (u : Step E) where
  pub left-none : (others new : List (Exp × E)) → u.lead.tail ≡ None → new ≡ others → IsLeft m letters u others new
  left-none others new q e = record {
    left = λ n a i w. ap (poly_of n m.value) e ∙ sym (ap (λ es. Rattle.kill_law.specs.Taken.put_all m.scalars (map (term_of m.scalars letters (step_of m n u)) es) (poly_of n m.value others)) (tail-none u.lead q));
    kept = λ ws grade a f. subst (AreOfGrade m ws grade) (sym e) a;
  }

  module _ (e : Entry) (t : Exp × E) (is : IsTermBy m letters u e t) where
    pub term-is : (n : ℕ) → (exp_of n t.0, m.value t.1) ≡ term_of m.scalars letters (step_of m n u) e
    term-is n = ap₂ (λ a v. (a, v)) (exp_of-product n u.rest (record { e = e.monomial }) t.0 is.product) is.value

    in-is : (n : ℕ) → IsIn n u.rest.e → IsIn n e.monomial → IsIn n t.0.e
    in-is n a b i h = let x = a i h in let y = b i h in let z = is.product i in omega arith

    -- the term with the sign turned is what is taken
    pub takes-one : (old new : List (Exp × E)) (x : E) → m.is_elem x → m.value x ≡ m.scalars.ops.neg (m.value t.1) → new ≡ old ++ (t.0, x) ∷ [] → Takes m letters u (e ∷ []) old new
    takes-one old new x valid value items = record {
      added = (t.0, x) ∷ [];
      items = items;
      elems = (valid, tt);
      variables = λ n i w. (in-is n i (w e (0, omega arith, refl)), tt);
      polynomial = λ n. ap (λ z. z ∷ []) (ap (λ v. (exp_of n t.0, v)) value ∙ ap (λ (y : ExpList n × V). (y.0, m.scalars.ops.neg y.1)) (term-is n));
    }

    module _ (tail : u.lead.tail ≡ Some e) (others : List (Exp × E)) where
      both-in : (n : ℕ) → AreIn n others → IsIn n u.rest.e → ((e : Entry) → Contains (tail_of u.lead) e → IsIn n e.monomial) → AreIn n (t ∷ others)
      both-in n a i w = ((is.long, in-is n i (w e (in-tail u.lead e tail))), a)

      pub left-some : (new : List (Exp × E)) → IsAdded m t others new → IsLeft m letters u others new
      left-some new added = record {
        left = λ n a i w. added.put n (both-in n a i w) ∙ ap (λ y. Rattle.kill_law.specs.Taken.put m.scalars y (poly_of n m.value others)) (term-is n)
            ∙ sym (ap (λ es. Rattle.kill_law.specs.Taken.put_all m.scalars (map (term_of m.scalars letters (step_of m n u)) es) (poly_of n m.value others)) (tail-some u.lead e tail));
        kept = λ ws grade a f. added.kept ws grade (f e (in-tail u.lead e tail) t is, a);
      }

      pub sum-high : IsAddingHigh m t others → IsLeavingHigh m letters u others
      sum-high high n a i w =
          subst (λ es. IsHigh (flat_map (tail_heights m.scalars letters (step_of m n u) (poly_of n m.value others)) es)) (sym (tail-some u.lead e tail))
          (high_left (tail_heights m.scalars letters (step_of m n u) (poly_of n m.value others) e) []
          (high_right (multiplied_heights m.scalars letters (m.value u.coefficient) e) (sum_at n ∷ [])
          (high_head (sum_at n) [] (subst (λ (y : ExpList n × V). 2 ^ 120 ≤ m.scalars.sum_height (summands_at (exps n) m.scalars (poly_of n m.value others ++ y ∷ []) y.0)) (term-is n) (high n (both-in n a i w))))))
        where
          sum_at : (n : ℕ) → ℕ
          sum_at n = m.scalars.sum_height (summands_at (exps n) m.scalars (poly_of n m.value others ++ term_of m.scalars letters (step_of m n u) e ∷ []) (term_of m.scalars letters (step_of m n u) e).0)

  pub product-high : (e : Entry) → u.lead.tail ≡ Some e → (others : List (Exp × E)) → IsHigh (multiplied_heights m.scalars letters (m.value u.coefficient) e) → IsLeavingHigh m letters u others
  product-high e tail others high n a i w =
      subst (λ es. IsHigh (flat_map (tail_heights m.scalars letters (step_of m n u) (poly_of n m.value others)) es)) (sym (tail-some u.lead e tail))
      (high_left (tail_heights m.scalars letters (step_of m n u) (poly_of n m.value others) e) []
      (high_left (multiplied_heights m.scalars letters (m.value u.coefficient) e)
      (m.scalars.sum_height (summands_at (exps n) m.scalars (poly_of n m.value others ++ term_of m.scalars letters (step_of m n u) e ∷ []) (term_of m.scalars letters (step_of m n u) e).0) ∷ []) high))

-- ---- the loops over terms

-- weights past the last one are 0
pub padded : (ws e : List ℕ) (k : ℕ) → weighted_degree_of (ws ++ Rattle.std.specs.Prelude.replicate k 0) e ≡ weighted_degree_of ws e
padded [] e zero = refl
padded [] [] (suc k) = refl
padded [] (x ∷ e) (suc k) = let a = padded [] e k in let b : 0 * x ≡ 0 = omega arith in omega arith
padded (w ∷ ws) [] k = refl
padded (w ∷ ws) (x ∷ e) k = ap (λ z. w * x + z) (padded ws e k)

take-next : {X : Type 0} (xs : List X) (k : ℕ) (x : X) → k < length xs → x ≡ get_or xs k x → take (k + 1) xs ≡ take k xs ++ x ∷ []
take-next [] k x h e = absurd (omega arith)
take-next (y ∷ ys) zero x h e = ap (λ z. z ∷ []) (sym e)
take-next (y ∷ ys) (suc k) x h e = subst (λ j. take j (y ∷ ys) ≡ y ∷ (take k ys ++ x ∷ [])) (let q : suc (k + 1) ≡ suc k + 1 = omega arith in q) (ap (λ z. y ∷ z) (take-next ys k x (omega arith) e))

module _ {X : Type 0} (p : X → Bool) (xs : List X) (k : ℕ) (x : X) (inside : k < length xs) (read : x ≡ get_or xs k x) (kept : List X) (so_far : kept ≡ filter p (take k xs)) where
  next : (b : Bool) → p x ≡ b → filter p (take (k + 1) xs) ≡ filter p (take k xs) ++ cond b (x ∷ []) []
  next b q = ap (filter p) (take-next xs k x inside read) ∙ filter-append p (take k xs) (x ∷ []) ∙ ap (λ b. filter p (take k xs) ++ cond b (x ∷ []) []) q

  pub keeps : p x ≡ true → kept ++ x ∷ [] ≡ filter p (take (k + 1) xs)
  keeps q = ap (λ z. z ++ x ∷ []) so_far ∙ sym (next true q)

  pub passes_over : p x ≡ false → kept ≡ filter p (take (k + 1) xs)
  passes_over q = so_far ∙ sym (append-nil (filter p (take k xs))) ∙ sym (next false q)

module _ {X : Type 0} (Q : X → Type 0) (xs : List X) (k : ℕ) where
  pub of-front : All Q (take k xs) → (j : ℕ) → j < k → k ≤ length xs → (d : X) → Q (get_or xs j d)
  of-front a j h g d = subst Q (Rattle.std.proofs.lemmas.List.get_or-take k xs j d h) (a j d (let l = Rattle.std.proofs.lemmas.List.length-take-le k xs g in omega arith))

  pub front-more : All Q (take k xs) → (x : X) → k < length xs → x ≡ get_or xs k x → Q x → All Q (take (k + 1) xs)
  front-more a x h read q = λ j d g.
      let l = Rattle.std.proofs.lemmas.List.length-take-le (k + 1) xs (omega arith) in
      subst Q (sym (Rattle.std.proofs.lemmas.List.get_or-take (k + 1) xs j d (omega arith))) (at j d (cases j k (omega arith)))
    where
      cases : (j k : ℕ) → j < k + 1 → (j < k) ⊎ (j ≡ k)
      cases j k h = grind arith

      at : (j : ℕ) (d : X) → (j < k) ⊎ (j ≡ k) → Q (get_or xs j d)
      at j d (inl g) = of-front a j g (omega arith) d
      at j d (inr e) = subst Q (read ∙ same xs k x d h ∙ ap (λ i. get_or xs i d) (sym e)) q
        where
          same : (xs : List X) (k : ℕ) (x d : X) → k < length xs → get_or xs k x ≡ get_or xs k d
          same [] k x d h = absurd (omega arith)
          same (y ∷ ys) zero x d h = refl
          same (y ∷ ys) (suc k) x d h = same ys k x d (omega arith)
