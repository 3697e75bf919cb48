-- The parts of the test's answer.
use Rattle.std.proofs.Common.{◌≡◌, ℕ, zero, suc, ◌+◌, ◌<◌, List, [], ◌∷◌, ◌++◌, length, take, get_or, map, refl, sym, ap, ap₂, subst, ◌∙◌, length-take, arith, Vec, Global, Result, Ok, Err, IfOk}
use Rattle.std.specs.List.{AllByRecursion}
use Rattle.std.proofs.lemmas.List.{take_more, map-append}
use Rattle.ring_theory.specs.Ring.{IsCommRing}
use Rattle.ring_theory.specs.Scalars.{Meaning}
use Rattle.poly_law.proofs.Sums
use Rattle.mono_exp.specs.declared.exponent.Exp.{Exp}
use Rattle.mono_exp.specs.Exponents.{IsIn, exponents, rank_of}
use Rattle.lin_row.specs.Lines.{dot}
use Rattle.lin_row.specs.System.{combination, dot_at}
use Rattle.lin_row.proofs.LineLaws
use Rattle.lin_row.specs.declared.row.Solution.{Solution}
use Rattle.lin_row.specs.declared.row.Solution.TheVariants.{Solved, Excluded}
use Rattle.jacobian_row.specs.declared.multiple.Multiple.{Multiple}
use Rattle.jacobian_row.proofs.ListSteps.{same_default}
use Rattle.determinacy.specs.Answers.{IsRowFrom, IsRowBy, AreByMonomials, IsFailureFrom, IsAnswerBy}
use Rattle.determinacy.specs.declared.row.MatherRow.{MatherRow}
use Rattle.determinacy.specs.declared.row.MatherTest.{MatherTest}
use Rattle.determinacy.specs.declared.row.MatherTest.TheVariants.{Holds, Fails}

-- the sum of x(i) * v(k + i)
abbrev pub weighted : {E V : Type 0} → Meaning E V → List E → ℕ → (ℕ → V) → V
weighted m [] k v = m.scalars.ops.zero
weighted m (x ∷ xs) k v = m.scalars.ops.add (m.scalars.ops.mul (m.value x) (v k)) (weighted m xs (suc k) v)

module _ {E V : Type 0} (m : Meaning E V) (laws : IsCommRing m.scalars.ops) where
  open m.scalars.ops use {add, mul}

  weighted-push : (xs : List E) (x : E) (k : ℕ) (v : ℕ → V) → weighted m (xs ++ (x ∷ [])) k v ≡ add (weighted m xs k v) (mul (m.value x) (v (k + length xs)))
  weighted-push [] x k v = laws.add_zero (mul (m.value x) (v k)) ∙ sym (Sums.zero_add m.scalars.ops laws (mul (m.value x) (v (k + 0))) ∙ ap (λ j. mul (m.value x) (v j)) (let e : k + 0 ≡ k = omega arith in e))
  weighted-push (y ∷ xs) x k v =
      ap (add (mul (m.value y) (v k))) (weighted-push xs x (suc k) v ∙ ap (λ j. add (weighted m xs (suc k) v) (mul (m.value x) (v j))) (let e : suc k + length xs ≡ k + suc (length xs) = omega arith in e))
      ∙ sym (laws.add_assoc (mul (m.value y) (v k)) (weighted m xs (suc k) v) (mul (m.value x) (v (k + suc (length xs)))))

  weighted-shift : (xs : List E) (k : ℕ) (v : ℕ → V) → weighted m xs (suc k) v ≡ weighted m xs k (λ j. v (suc j))
  weighted-shift [] k v = refl
  weighted-shift (x ∷ xs) k v = ap (add (mul (m.value x) (v (suc k)))) (weighted-shift xs (suc k) v)

  weighted-zero : (xs : List E) (k : ℕ) (v : ℕ → V) → ((j : ℕ) → v j ≡ m.scalars.ops.zero) → weighted m xs k v ≡ m.scalars.ops.zero
  weighted-zero [] k v none = refl
  weighted-zero (x ∷ xs) k v none = ap₂ add (ap (mul (m.value x)) (none k) ∙ Sums.mul_zero m.scalars.ops laws (m.value x)) (weighted-zero xs (suc k) v none) ∙ laws.add_zero m.scalars.ops.zero

  -- the combination of rows
  pub weighted-rows : (xs : List E) (rows : List (List (ℕ × E))) (w : ℕ → V) → weighted m xs 0 (λ j. dot_at m rows j w) ≡ combination m (map m.value xs) rows w
  weighted-rows [] rows w = refl
  weighted-rows (x ∷ xs) [] w = weighted-zero (x ∷ xs) 0 (λ j. m.scalars.ops.zero) (λ j. refl)
  weighted-rows (x ∷ xs) (row ∷ rows) w = ap (add (mul (m.value x) (dot m row w))) (weighted-shift xs 0 (λ j. dot_at m (row ∷ rows) j w) ∙ weighted-rows xs rows w)

  module _ (xs : List E) (j : ℕ) (x : E) (within : j < length xs) (read : x ≡ get_or xs j x) where
    weighted-more : (v : ℕ → V) → weighted m (take (j + 1) xs) 0 v ≡ add (weighted m (take j xs) 0 v) (mul (m.value x) (v j))
    weighted-more v =
        ap (λ ys. weighted m ys 0 v) (take_more xs j x within ∙ ap (λ y. take j xs ++ (y ∷ [])) (sym read)) ∙ weighted-push (take j xs) x 0 v
        ∙ ap (λ i. add (weighted m (take j xs) 0 v) (mul (m.value x) (v i))) (let e : 0 + length (take j xs) ≡ j = omega (arith, length-take j xs) in e)

    -- a coefficient that is zero, and one that is not
    pub zero_step : (all : List (ℕ × E)) → m.value x ≡ m.scalars.ops.zero → (v : ℕ → V) → dot m all v ≡ weighted m (take j xs) 0 v → dot m all v ≡ weighted m (take (j + 1) xs) 0 v
    zero_step all none v before =
        before ∙ sym (weighted-more v ∙ ap (add (weighted m (take j xs) 0 v)) (ap (λ z. mul z (v j)) none ∙ Sums.zero_mul m.scalars.ops laws (v j)) ∙ laws.add_zero (weighted m (take j xs) 0 v))

    pub nonzero_step : (all : List (ℕ × E)) (v : ℕ → V) → dot m all v ≡ weighted m (take j xs) 0 v → dot m (all ++ ((j, x) ∷ [])) v ≡ weighted m (take (j + 1) xs) 0 v
    nonzero_step all v before = LineLaws.dot-push m laws all (j, x) v ∙ ap (λ z. add z (mul (m.value x) (v j))) before ∙ sym (weighted-more v)

-- an element of those that meet P
pub each_at : {X : Type 0} (P : X → Type 0) (xs : List X) (i : ℕ) (x : X) → i < length xs → x ≡ get_or xs i x → Rattle.lin_row.specs.Lines.EachOf P xs → P x
each_at P [] i x within read all = absurd (omega arith)
each_at P (y ∷ xs) zero x within read all = subst P (sym read) all.0
each_at P (y ∷ xs) (suc i) x within read all = each_at P xs i x (omega arith) read all.1

all_push : {X : Type 0} (P : X → Type 0) (xs : List X) (x : X) → AllByRecursion P xs → P x → AllByRecursion P (xs ++ (x ∷ []))
all_push P [] x a p = (p, tt)
all_push P (y ∷ xs) x a p = (a.0, all_push P xs x a.1 p)

-- a value more by its monomial
pub by_monomials_step : {E : Type 0} (n : ℕ) (values : List (ℕ × E)) (i : ℕ) (t : ℕ × E) (all : List (Exp × E)) (a : Exp) → i < length values → t ≡ get_or values i t → rank_of n (exponents n a.e) ≡ t.0 → IsIn n a.e → length a.e ≡ 8
    → AreByMonomials n (take i values) all → AreByMonomials n (take (i + 1) values) (all ++ ((a, t.1) ∷ []))
by_monomials_step n values i t all a within read number unused long before = record {
  numbers = map-append (λ u. (rank_of n (exponents n u.0.e), u.1)) all ((a, t.1) ∷ [])
      ∙ ap₂ (λ xs r. xs ++ ((r, t.1) ∷ [])) before.numbers number
      ∙ sym (take_more values i t within ∙ ap (λ u. take i values ++ (u ∷ [])) (sym read));
  unused = all_push (λ u. IsIn n u.0.e) all (a, t.1) before.unused unused;
  long = all_push (λ u. length u.0.e ≡ 8) all (a, t.1) before.long long;
}

-- ---- the loop over the solutions
module _ {E V : Type 0} (m : Meaning E V) (n k : ℕ) (us : List Multiple) (monomials : List Exp) (solutions : List (Solution E)) (i : ℕ) (d : Exp) (x : Solution E) (in_monomials : i < length monomials) (in_solutions : i < length solutions) (read : x ≡ get_or solutions i x) where
  -- the row of a monomial that is solved
  pub row_here : (v : Vec E Global) (row : MatherRow E) (j : ℕ) → j ≡ i → x ≡ Solved v → IsRowFrom m n k us (get_or monomials i d) v.items row → (a : Exp) (s : Solution E) → IsRowBy m n k us (get_or monomials j a) (get_or solutions j s) row
  row_here v row j e solved h a s =
      subst (λ l. IsRowBy m n k us (get_or monomials l a) (get_or solutions l s) row) (sym e)
      (subst (λ y. IsRowBy m n k us (get_or monomials i a) y row) (sym solved ∙ read ∙ same_default solutions i x s in_solutions)
      (subst (λ b. IsRowFrom m n k us b v.items row) (same_default monomials i d a in_monomials) h))

  -- the failure at a monomial that is excluded
  pub failure_here : {X : Type 0} (v : Vec (ℕ × E) Global) (r : Result (MatherTest E) X) → x ≡ Excluded v → IfOk r (IsFailureFrom n (get_or monomials i d) v.items) → IfOk r (IsAnswerBy m n k us monomials solutions)
  failure_here v (Ok (Holds rows)) excluded h = absurd h
  failure_here v (Ok (Fails functional at)) excluded h =
      record {
        place = i;
        within = in_solutions;
        values = v;
        excluded = λ s. sym (sym excluded ∙ read ∙ same_default solutions i x s in_solutions);
        at_is = λ a. h.0 ∙ same_default monomials i d a in_monomials;
        failure = (refl, subst (λ (b : Exp). length b.e ≡ 8) (sym h.0) h.1, h.2);
      }
  failure_here v (Err e) excluded h = tt
