-- The steps of gathering terms, and of writing what was gathered.
use Rattle.std.proofs.Common.{◌≡◌, ◌≢◌, ℕ, zero, suc, ◌+◌, ◌<◌, ◌≤◌, ◌⊎◌, inl, inr, Bool, true, false, cond, leb, not, List, [], ◌∷◌, ◌++◌, length, get_or, take, drop, take_all, sum, Option, Some, nat_eq, refl, sym, ap, ap₂, subst, ◌∙◌, append_assoc, append-nil, arith, Result, Ok, Err}
use Rattle.std.specs.Prelude.{IfSome, IfOk, OnOk, slice_get}
use Rattle.std.specs.List.{IsDistinct, AllByRecursion}
use Rattle.std.specs.List.Sorted.{IsPermutation, IsSorted}
use Rattle.std.specs.Ordering.{nat_cmp}
use Rattle.std.specs.Map.{keys_of, lookup}
use Rattle.std.proofs.lemmas.Bool.{le-leb, lt-leb}
use Rattle.std.proofs.lemmas.List.{get_or-map, length-map, take_more, map-append}
use Rattle.std.proofs.lemmas.List.Elements.{All-from_recursion, recursion_from_All}
use Rattle.std.proofs.lemmas.List.Sorted.{All-permutation, IsNonDecreasingBy-from_sort}
use Rattle.std.proofs.lemmas.Map.Keys.{IsStrictlyIncreasing-from_distinct}
use Rattle.indexmap.specs.IndexMap.{insert_entry}
use Rattle.ring_theory.specs.Ring.{IsCommRing}
use Rattle.ring_theory.specs.Scalars.{Scalars, ScalarLaws, Meaning}
use Rattle.poly_law.specs.Exps.{degree, plus}
use Rattle.poly_law.specs.ExpList.{ExpList, exps}
use Rattle.poly_law.specs.Poly.{coefficient, cut, Same}
use Rattle.poly_law.specs.Polynomials.{Polynomial}
use Rattle.poly_law.proofs.ExpLists.{exps_are}
use Rattle.poly_law.proofs.ExpLaws
use Rattle.poly_law.proofs.PolyRing
use Rattle.mono_exp.specs.declared.exponent.Exp.{Exp}
use Rattle.mono_exp.specs.Exponents.{IsIn, exponents, rank_of, monomials_below}
use Rattle.jet_law.specs.Heights.{IsHigh, sums_heights}
use Rattle.jet_law.specs.Terms.{exp_of, poly_of}
use Rattle.jet_law.proofs.TermLemmas.{degree-exp_of, poly_of-take}
use Rattle.jet_law.proofs.Gather
use Rattle.jet_law.proofs.Gather.{filter-append, at_place}
use Rattle.jet_poly.specs.Gathered.{numbered, gathered, IsGathered, value_or, nonzero, IsTermHigh, IsSumHigh}
use Rattle.jet_poly.proofs.GatheredLemmas.{numbered-rank, gathered-insert, coefficient-gathered, gathered-permuted, insert-all, weaker}
use Rattle.jet_poly.proofs.Output.{AreWritten, written-push, written-higher, number-degree, numbers-le, same-push}

pub on_ok : {T E : Type 0} (o : Result T E) {P Q : Type 0} → (P → Q) → OnOk o P → OnOk o Q
on_ok (Ok x) f h = f h
on_ok (Err e) f h = tt

pub if_ok : {T E : Type 0} (o : Result T E) {P Q : T → Type 0} → ((x : T) → P x → Q x) → IfOk o P → IfOk o Q
if_ok (Ok x) f h = f x h
if_ok (Err e) f h = tt

-- a fact on a number of variables, a degree and two lists, at equal ones
pub at_same : {A : Type 0} (P : ℕ → ℕ → A → A → Type 0) {n n' k k' : ℕ} {f f' g g' : A} → n ≡ n' → k ≡ k' → f ≡ f' → g ≡ g' → P n k f g → P n' k' f' g'
at_same P {n} {n'} {k} {k'} {f} {f'} {g} {g'} en ek ef eg h = subst (λ z. P n' k' f' z) eg (subst (λ z. P n' k' z g) ef (subst (λ z. P n' z f g) ek (subst (λ z. P z k f g) en h)))

-- the test of the degree
pub low-term : (n k : ℕ) (a : Exp) → IsIn n a.e → sum a.e ≤ k → leb (degree (exps n) (exp_of n a)) k ≡ true
low-term n k a i h = subst (λ d. leb d k ≡ true) (sym (degree-exp_of n a i)) (le-leb (sum a.e) k h)

pub high-term : (n k : ℕ) (a : Exp) → IsIn n a.e → k < sum a.e → leb (degree (exps n) (exp_of n a)) k ≡ false
high-term n k a i h = subst (λ d. leb d k ≡ false) (sym (degree-exp_of n a i)) (lt-leb (sum a.e) k h)

degree-product : (n : ℕ) (a b : Exp) → IsIn n a.e → IsIn n b.e → degree (exps n) (plus (exps n) (exp_of n a) (exp_of n b)) ≡ sum a.e + sum b.e
degree-product n a b i j = ExpLaws.degree-plus (exps n) (exps_are n) (exp_of n a) (exp_of n b) ∙ ap₂ (λ y z. y + z) (degree-exp_of n a i) (degree-exp_of n b j)

-- and of the degree of a product
pub low-product : (n k : ℕ) (a b : Exp) → IsIn n a.e → IsIn n b.e → sum a.e + sum b.e ≤ k → leb (degree (exps n) (plus (exps n) (exp_of n a) (exp_of n b))) k ≡ true
low-product n k a b i j h = subst (λ d. leb d k ≡ true) (sym (degree-product n a b i j)) (le-leb (sum a.e + sum b.e) k h)

pub high-product : (n k : ℕ) (a b : Exp) → IsIn n a.e → IsIn n b.e → k < sum a.e + sum b.e → leb (degree (exps n) (plus (exps n) (exp_of n a) (exp_of n b))) k ≡ false
high-product n k a b i j h = subst (λ d. leb d k ≡ false) (sym (degree-product n a b i j)) (lt-leb (sum a.e + sum b.e) k h)

pub lookup-elem : {E : Type 0} (is_elem : E → Type 0) (test : ℕ → Bool) (sums : List (ℕ × E)) → AllByRecursion (λ s. is_elem s.1) sums → IfSome (lookup test sums) is_elem
lookup-elem is_elem test [] a = tt
lookup-elem is_elem test (s ∷ sums) a = step (test s.0) (lookup-elem is_elem test sums a.1)
  where
    step : (b : Bool) → IfSome (lookup test sums) is_elem → IfSome (cond b (Some s.1) (lookup test sums)) is_elem
    step true r = a.0
    step false r = r

module _ {E V : Type 0} (n k : ℕ) (m : Meaning E V) (laws : ScalarLaws m.scalars) where
  -- what stands at a monomial
  pub there : (sums : List (ℕ × E)) (a : Exp) (number : ℕ) (o : Option E) → k ≤ 17 → IsGathered n k m sums → number ≡ rank_of n (exponents n a.e) → number < length (monomials_below n 18)
      → o ≡ lookup (nat_eq number) sums → coefficient (exps n) m.scalars.ops (gathered n m.value sums) (exp_of n a) ≡ value_or m.value m.scalars.ops.zero o
  there sums a number o h i e w q =
      ap (coefficient (exps n) m.scalars.ops (gathered n m.value sums)) (numbered-rank n number a w (sym e))
      ∙ coefficient-gathered n m.scalars.ops laws.ring m.value sums number w
      (weaker (λ s. s.0 < length (monomials_below n (suc k))) (λ s. s.0 < length (monomials_below n 18)) (λ s l. (let b = numbers-le n k h in omega arith)) sums i.numbers) i.distinct
      ∙ ap (value_or m.value m.scalars.ops.zero) (sym q)

  -- one sum more
  pub insert-gathered : (sums new : List (ℕ × E)) (a : Exp) (number : ℕ) (x : E) → IsGathered n k m sums → IsIn n a.e → sum a.e ≤ k → number ≡ rank_of n (exponents n a.e) → m.is_elem x
      → new ≡ insert_entry nat_eq sums number x → IsDistinct nat_eq (keys_of new) → IsGathered n k m new
  insert-gathered sums new a number x i u d e el q distinct =
      let fits : number < length (monomials_below n (suc k)) = subst (λ r. r < length (monomials_below n (suc k))) (sym e) (number-degree n k a.e u d) in
      record {
        numbers = subst (AllByRecursion (λ s. s.0 < length (monomials_below n (suc k)))) (sym q)
            (insert-all (λ s. s.0 < length (monomials_below n (suc k))) sums number x (λ j p. subst (λ r. r < length (monomials_below n (suc k))) p fits) i.numbers);
        elems = subst (AllByRecursion (λ s. m.is_elem s.1)) (sym q) (insert-all (λ s. m.is_elem s.1) sums number x (λ j p. el) i.elems);
        distinct = distinct;
      }

  pub insert-sum : (sums new : List (ℕ × E)) (a : Exp) (number : ℕ) (o : Option E) (x c : E) → IsIn n a.e → sum a.e ≤ k → number ≡ rank_of n (exponents n a.e) → number < length (monomials_below n 18)
      → o ≡ lookup (nat_eq number) sums → m.value x ≡ m.scalars.ops.add (value_or m.value m.scalars.ops.zero o) (m.value c) → new ≡ insert_entry nat_eq sums number x
      → Same (exps n) m.scalars.ops (gathered n m.value new) (cut (exps n) m.scalars.ops k ((exp_of n a, m.value c) ∷ []) ++ gathered n m.value sums)
  insert-sum sums new a number o x c u d e w q v s b =
      ap (λ z. coefficient (exps n) m.scalars.ops (gathered n m.value z) b) s
      ∙ gathered-insert n m.scalars.ops laws.ring m.value sums number x (m.value c) (v ∙ ap (λ z. m.scalars.ops.add (value_or m.value m.scalars.ops.zero z) (m.value c)) q) b
      ∙ ap (λ i. coefficient (exps n) m.scalars.ops ((i, m.value c) ∷ gathered n m.value sums) b) (sym (numbered-rank n number a w (sym e)))
      ∙ ap (λ t. coefficient (exps n) m.scalars.ops (cond t ((exp_of n a, m.value c) ∷ []) [] ++ gathered n m.value sums) b) (sym (low-term n k a u d))

  -- ---- a loop that adds terms

  pub terms-more : (old now next : Polynomial n V) (f : List (Exp × E)) (i : ℕ) (t : Exp × E) → i < length f → t ≡ get_or f i t
      → Same (exps n) m.scalars.ops now (old ++ cut (exps n) m.scalars.ops k (poly_of n m.value (take i f)))
      → Same (exps n) m.scalars.ops next (cut (exps n) m.scalars.ops k ((exp_of n t.0, m.value t.1) ∷ []) ++ now)
      → Same (exps n) m.scalars.ops next (old ++ cut (exps n) m.scalars.ops k (poly_of n m.value (take (i + 1) f)))
  terms-more old now next f i t h e so_far step b =
      let term = cut (exps n) m.scalars.ops k ((exp_of n t.0, m.value t.1) ∷ []) in
      let before = old ++ cut (exps n) m.scalars.ops k (poly_of n m.value (take i f)) in
      step b ∙ PolyRing.add_right (exps n) (exps_are n) m.scalars.ops laws.ring term now before so_far b
      ∙ PolyRing.append_comm (exps n) (exps_are n) m.scalars.ops laws.ring term before b
      ∙ ap (λ z. coefficient (exps n) m.scalars.ops z b)
      (append_assoc old (cut (exps n) m.scalars.ops k (poly_of n m.value (take i f))) term
      ∙ ap (λ z. old ++ z)
      (sym (ap (cut (exps n) m.scalars.ops k) (poly_of-take n m.value f i t h e)
      ∙ filter-append (λ t. leb (degree (exps n) t.0) k) (poly_of n m.value (take i f)) ((exp_of n t.0, m.value t.1) ∷ []))))

  abbrev one : Exp × E → ExpList n × V
  one t = (exp_of n t.0, m.value t.1)

  pub inside : (f : List (Exp × E)) (i : ℕ) → i < length f → i < length (poly_of n m.value f)
  inside f i h = subst (λ l. i < l) (sym (length-map f one)) h

  pub read : (f : List (Exp × E)) (i : ℕ) (t : Exp × E) → t ≡ get_or f i t → one t ≡ get_or (poly_of n m.value f) i (one t)
  read f i t e = ap one e ∙ sym (Rattle.std.proofs.Math.ListN.get_or-map one f i t)

  pub take-poly_of : (f : List (Exp × E)) (i : ℕ) → poly_of n m.value (take i f) ≡ take i (poly_of n m.value f)
  take-poly_of f i = sym (Rattle.std.proofs.lemmas.List.take-map one i f)

  pub terms-high : (old now : Polynomial n V) (f : List (Exp × E)) (i : ℕ) (t : Exp × E) → i < length f → t ≡ get_or f i t
      → Same (exps n) m.scalars.ops now (old ++ cut (exps n) m.scalars.ops k (poly_of n m.value (take i f)))
      → IsTermHigh n m.scalars k now (exp_of n t.0, m.value t.1) → IsSumHigh n m.scalars k old (poly_of n m.value f)
  terms-high old now f i t h e so_far high = record {
    place = i;
    inside = inside f i h;
    term = one t;
    read = read f i t e;
    now = now;
    so_far = subst (λ z. Same (exps n) m.scalars.ops now (old ++ cut (exps n) m.scalars.ops k z)) (take-poly_of f i) so_far;
    high = high;
  }

-- a sum that is refused among others is a high one
pub sum-high : {V : Type 0} (n k : ℕ) (s : Scalars V) (c : IsCommRing s.ops) (old front rest f : Polynomial n V) → Same (exps n) s.ops old front → IsSumHigh n s k old f
    → IsHigh (sums_heights (exps n) s ((front ++ cut (exps n) s.ops k f) ++ rest))
sum-high n k s c old front rest f same h =
    let i = h.place in
    let t = h.term in
    let first = cut (exps n) s.ops k (take i f) in
    let last = cut (exps n) s.ops k (drop (i + 1) f) in
    let whole = ap (cut (exps n) s.ops k) (at_place f i t h.inside h.read)
    ∙ filter-append (λ t. leb (degree (exps n) t.0) k) (take i f) (t ∷ drop (i + 1) f)
    ∙ ap (λ b. first ++ cond b (t ∷ last) last) h.high.low in
    let all : (front ++ cut (exps n) s.ops k f) ++ rest ≡ (front ++ first) ++ t ∷ (last ++ rest) =
    ap (λ z. (front ++ z) ++ rest) whole ∙ ap (λ z. z ++ rest) (sym (append_assoc front first (t ∷ last))) ∙ append_assoc (front ++ first) (t ∷ last) rest in
    subst (λ z. IsHigh (sums_heights (exps n) s z)) (sym all)
    (Gather.sums_high (exps n) (exps_are n) s c h.now (front ++ first) (last ++ rest) t
    (λ b. h.so_far b ∙ PolyRing.add_left (exps n) (exps_are n) s.ops c old front first same b) h.high.high)

-- the same where nothing is there before and nothing comes after
pub collected-high : {V : Type 0} (n k : ℕ) (s : Scalars V) (c : IsCommRing s.ops) (old f : Polynomial n V) → Same (exps n) s.ops old [] → IsSumHigh n s k old f → IsHigh (sums_heights (exps n) s (cut (exps n) s.ops k f))
collected-high n k s c old f same h = subst (λ z. IsHigh (sums_heights (exps n) s z)) (append-nil (cut (exps n) s.ops k f)) (sum-high n k s c old [] [] f same h)

-- in the first and in the second of two lists
pub first-high : {V : Type 0} (n k : ℕ) (s : Scalars V) (c : IsCommRing s.ops) (old f g : Polynomial n V) → Same (exps n) s.ops old [] → IsSumHigh n s k old f → IsHigh (sums_heights (exps n) s (cut (exps n) s.ops k (f ++ g)))
first-high n k s c old f g same h =
    subst (λ z. IsHigh (sums_heights (exps n) s z)) (sym (filter-append (λ t. leb (degree (exps n) t.0) k) f g)) (sum-high n k s c old [] (cut (exps n) s.ops k g) f same h)

pub second-high : {V : Type 0} (n k : ℕ) (s : Scalars V) (c : IsCommRing s.ops) (old f g : Polynomial n V) → Same (exps n) s.ops old (cut (exps n) s.ops k f) → IsSumHigh n s k old g → IsHigh (sums_heights (exps n) s (cut (exps n) s.ops k (f ++ g)))
second-high n k s c old f g same h =
    subst (λ z. IsHigh (sums_heights (exps n) s z)) (append-nil (cut (exps n) s.ops k f ++ cut (exps n) s.ops k g) ∙ sym (filter-append (λ t. leb (degree (exps n) t.0) k) f g))
    (sum-high n k s c old (cut (exps n) s.ops k f) [] g same h)

-- ---- what was gathered is written in order

pub read-entry : {X : Type 0} (xs : List X) (i : ℕ) (x : X) → Some x ≡ slice_get xs i → x ≡ get_or xs i x
read-entry [] i x e = let bad : ⊥ = cc e in absurd bad
read-entry (y ∷ xs) zero x e = let q : x ≡ y = cc e in q
read-entry (y ∷ xs) (suc i) x e = read-entry xs i x e

module _ {E V : Type 0} (n k : ℕ) (m : Meaning E V) (laws : ScalarLaws m.scalars) where
  pub permuted-all : (P : ℕ × E → Type 0) (sums others : List (ℕ × E)) → IsPermutation sums others → AllByRecursion P sums → AllByRecursion P others
  permuted-all P sums others p a = recursion_from_All P others (All-permutation P sums others p (All-from_recursion P sums a))

  all-at : (P : ℕ × E → Type 0) (sums : List (ℕ × E)) (i : ℕ) (d : ℕ × E) → i < length sums → AllByRecursion P sums → P (get_or sums i d)
  all-at P [] i d h a = absurd (omega arith)
  all-at P (s ∷ sums) zero d h a = a.0
  all-at P (s ∷ sums) (suc i) d h a = all-at P sums i d (omega arith) a.1

  pub entry-holds : (P : ℕ × E → Type 0) (sums : List (ℕ × E)) (i : ℕ) (s : ℕ × E) → i < length sums → s ≡ get_or sums i s → AllByRecursion P sums → P s
  entry-holds P sums i s h e a = subst P (sym e) (all-at P sums i s h a)

  key-past : (sums : List (ℕ × E)) (i last : ℕ) → length sums ≤ i → get_or (keys_of sums) i last ≡ last
  key-past [] i last h = refl
  key-past (s ∷ sums) zero last h = absurd (omega arith)
  key-past (s ∷ sums) (suc i) last h = key-past sums i last (omega arith)

  pub key-at : (sums : List (ℕ × E)) (i : ℕ) (s : ℕ × E) (last : ℕ) → i < length sums → s ≡ get_or sums i s → get_or (keys_of sums) i last ≡ s.0
  key-at sums i s last h e = get_or-map (λ e. e.0) sums i s last h ∙ ap (λ z. z.0) (sym e)

  -- the next number is higher
  pub key-next : (sums : List (ℕ × E)) (i : ℕ) (s : ℕ × E) (last : ℕ) → i < length sums → s ≡ get_or sums i s → IsSorted nat_cmp (keys_of sums) → IsDistinct nat_eq (keys_of sums) → s.0 < last
      → suc s.0 ≤ get_or (keys_of sums) (i + 1) last
  key-next sums i s last h e sorted distinct below = step (cases (i + 1) (length sums))
    where
      cases : (j l : ℕ) → (j < l) ⊎ (l ≤ j)
      cases j l = grind arith

      long : length (keys_of sums) ≡ length sums
      long = length-map sums (λ e. e.0)

      default : (i : ℕ) → i < length sums → get_or (keys_of sums) i 0 ≡ get_or (keys_of sums) i last
      default i h = same (keys_of sums) i (subst (λ l. i < l) (sym long) h)
        where
          same : (xs : List ℕ) (i : ℕ) → i < length xs → get_or xs i 0 ≡ get_or xs i last
          same [] i h = absurd (omega arith)
          same (x ∷ xs) zero h = refl
          same (x ∷ xs) (suc i) h = same xs i (omega arith)

      step : (i + 1 < length sums) ⊎ (length sums ≤ i + 1) → suc s.0 ≤ get_or (keys_of sums) (i + 1) last
      step (inl l) =
          let rises = IsStrictlyIncreasing-from_distinct (keys_of sums) (IsNonDecreasingBy-from_sort (λ x. x) (keys_of sums) sorted) distinct in
          let up = rises i (subst (λ z. i + 1 < z) (sym long) l) in
          let a = default i h in
          let b = default (i + 1) l in
          let q = key-at sums i s last h e in
          omega arith
      step (inr l) = let q = key-past sums (i + 1) last l in omega arith

  -- one entry more is written
  pub written-step : (b next : ℕ) (f : List (Exp × E)) (t : Exp × E) → n ≤ 8 → AreWritten n k b m f → rank_of n (exponents n t.0.e) ≡ b → IsIn n t.0.e → length t.0.e ≡ 8 → sum t.0.e ≤ k → m.is_elem t.1 → suc b ≤ next
      → AreWritten n k next m (f ++ nonzero m.scalars m.value (t ∷ []))
  written-step b next f t h w q u l d el up = step (m.scalars.is_zero (m.value t.1)) refl
    where
      not_zero : m.scalars.is_zero (m.value t.1) ≡ false → m.value t.1 ≢ m.scalars.ops.zero
      not_zero e z = let bad : false ≡ true = sym e ∙ (laws.zero_test (m.value t.1)).1 z in contradiction bad
        where
          contradiction : false ≡ true → ⊥
          contradiction bad = cc bad

      step : (z : Bool) → m.scalars.is_zero (m.value t.1) ≡ z → AreWritten n k next m (f ++ cond (not z) (t ∷ []) [])
      step true e = subst (AreWritten n k next m) (sym (append-nil f)) (written-higher n k m b next f (omega arith) w)
      step false e = written-higher n k m (suc b) next (f ++ t ∷ []) up (written-push n k m b f t h w q u l d el (not_zero e))

  pub so-far-step : (sums : List (ℕ × E)) (i : ℕ) (s : ℕ × E) (f : List (Exp × E)) (a : Exp) → i < length sums → s ≡ get_or sums i s → exp_of n a ≡ numbered n s.0
      → Same (exps n) m.scalars.ops (poly_of n m.value f) (gathered n m.value (take i sums))
      → Same (exps n) m.scalars.ops (poly_of n m.value (f ++ nonzero m.scalars m.value ((a, s.1) ∷ []))) (gathered n m.value (take (i + 1) sums))
  so-far-step sums i s f a h e q so_far b =
      same-push n m.scalars laws m.value f (a, s.1) b
      ∙ PolyRing.add_left (exps n) (exps_are n) m.scalars.ops laws.ring (poly_of n m.value f) (gathered n m.value (take i sums)) ((exp_of n a, m.value s.1) ∷ []) so_far b
      ∙ ap (λ z. coefficient (exps n) m.scalars.ops z b)
      (ap (λ z. gathered n m.value (take i sums) ++ (z, m.value s.1) ∷ []) q
      ∙ sym (ap (gathered n m.value) (take_more sums i s h ∙ ap (λ z. take i sums ++ z ∷ []) (sym e)) ∙ map-append (λ s. (numbered n s.0, m.value s.1)) (take i sums) (s ∷ [])))

  pub finished-sum : (sums sorted : List (ℕ × E)) (i : ℕ) (f : List (Exp × E)) → length sorted ≤ i → IsPermutation sums sorted → Same (exps n) m.scalars.ops (poly_of n m.value f) (gathered n m.value (take i sorted))
      → Same (exps n) m.scalars.ops (poly_of n m.value f) (gathered n m.value sums)
  finished-sum sums sorted i f h p so_far b =
      so_far b ∙ ap (λ z. coefficient (exps n) m.scalars.ops (gathered n m.value z) b) (take_all i sorted h)
      ∙ gathered-permuted n m.scalars.ops laws.ring m.value sums sorted p b

  pub permuted-gathered : (sums others : List (ℕ × E)) → IsPermutation sums others → IsDistinct nat_eq (keys_of others) → IsGathered n k m sums → IsGathered n k m others
  permuted-gathered sums others p d i = record {
    numbers = permuted-all (λ s. s.0 < length (monomials_below n (suc k))) sums others p i.numbers;
    elems = permuted-all (λ s. m.is_elem s.1) sums others p i.elems;
    distinct = d;
  }
