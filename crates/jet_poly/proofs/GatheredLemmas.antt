-- Sums that are kept by the numbers of their monomials, as polynomials.
use Rattle.std.proofs.Common.{◌≡◌, ℕ, zero, suc, ◌<◌, Bool, true, false, cond, eqb, List, [], ◌∷◌, map, length, get_or, set, take, take_all, Some, nat_eq, refl, sym, ap, ap₂, subst, ◌∙◌, arith}
use Rattle.std.specs.List.{IsDistinct, AllByRecursion, swap}
use Rattle.std.specs.List.Sorted.{IsPermutation}
use Rattle.std.specs.Map.{keys_of, lookup}
use Rattle.std.proofs.lemmas.Bool.{eqb-true, eq-eqb}
use Rattle.std.proofs.lemmas.List.{get_or-map}
use Rattle.std.proofs.lemmas.List.Edits.{swap_is}
use Rattle.std.proofs.lemmas.List.Sorted.{IsPermutation-keeps}
use Rattle.std.proofs.lemmas.Map.Keys.{IsDistinct-head, IsDistinct-tail}
use Rattle.indexmap.specs.IndexMap.{insert_entry}
use Rattle.ring_theory.specs.Ring.{RingOps, IsCommRing}
use Rattle.poly_law.specs.Sums.{total}
use Rattle.poly_law.specs.Exps.{same}
use Rattle.poly_law.specs.ExpList.{ExpList, exps}
use Rattle.poly_law.specs.Poly.{coefficient, Same}
use Rattle.poly_law.proofs.ExpLists.{exps_are, same_entries}
use Rattle.poly_law.proofs.ExpLaws
use Rattle.poly_law.proofs.Sums
use Rattle.mono_exp.specs.declared.exponent.Exp.{Exp}
use Rattle.mono_exp.specs.Exponents.{exponents, monomials_below, rank_of}
use Rattle.mono_exp.proofs.Lists.{each-at, get_or-numbers_below}
use Rattle.mono_exp.proofs.Counting.{place, places, place-injective, rank_is_place, below_are_long}
use Rattle.mono_exp.proofs.NumberLemmas.{length-exponents, exponents-take}
use Rattle.mono_exp.proofs.Table.{length-monomials_below}
use Rattle.jet_law.specs.Terms.{exp_of}
use Rattle.jet_poly.specs.Gathered.{numbered, gathered, value_or}

-- ---- monomials by numbers

place-numbered : (n r : ℕ) → r < length (monomials_below n 18) → place (numbered n r).entries ≡ r
unfolding numbered
place-numbered n r h =
    let all = monomials_below n 18 in
    let long : length (get_or all r []) ≡ n = each-at (λ m. length m ≡ n) all r [] h (below_are_long n 18) in
    let whole : exponents n (get_or all r []) ≡ get_or all r [] = exponents-take n (get_or all r []) (omega arith) ∙ take_all n (get_or all r []) (omega arith) in
    ap place whole
    ∙ sym (get_or-map place all r [] 0 h)
    ∙ ap (λ z. get_or z r 0) (places n 18)
    ∙ get_or-numbers_below (Rattle.mono_exp.proofs.Counting.count_below n 18) r 0 (subst (λ k. r < k) (length-monomials_below n 18) h)

-- the monomial with this number
pub numbered-rank : (n r : ℕ) (a : Exp) → r < length (monomials_below n 18) → rank_of n (exponents n a.e) ≡ r → exp_of n a ≡ numbered n r
numbered-rank n r a h e =
    same_entries n (exp_of n a) (numbered n r)
    (place-injective (exponents n a.e) (numbered n r).entries (length-exponents n a.e ∙ sym (numbered n r).long)
    (sym (rank_is_place n (exponents n a.e) (length-exponents n a.e)) ∙ e ∙ sym (place-numbered n r h)))

numbered-injective : (n i j : ℕ) → i < length (monomials_below n 18) → j < length (monomials_below n 18) → numbered n i ≡ numbered n j → i ≡ j
numbered-injective n i j hi hj e = sym (place-numbered n i hi) ∙ ap (λ a. place a.entries) e ∙ place-numbered n j hj

module _ {E V : Type 0} (n : ℕ) (r : RingOps V) (c : IsCommRing r) (value : E → V) where
  abbrev G : List (ℕ × E) → List (ExpList n × V)
  G = gathered n value

  abbrev C : List (ℕ × E) → ExpList n → V
  C sums m = coefficient (exps n) r (G sums) m

  -- ---- one summand more

  raised : (b : Bool) (x y v w : V) → x ≡ r.add y v → r.add (cond b x r.zero) w ≡ r.add (cond b v r.zero) (r.add (cond b y r.zero) w)
  raised true x y v w q = ap (λ z. r.add z w) (q ∙ c.add_comm y v) ∙ c.add_assoc v y w
  raised false x y v w q = sym (Sums.zero_add r c (r.add r.zero w))

  pub gathered-insert : (sums : List (ℕ × E)) (k : ℕ) (x : E) (v : V) → value x ≡ r.add (value_or value r.zero (lookup (nat_eq k) sums)) v
      → Same (exps n) r (G (insert_entry nat_eq sums k x)) ((numbered n k, v) ∷ G sums)
  gathered-insert [] k x v q m = ap (λ z. r.add (cond (same (exps n) (numbered n k) m) z r.zero) r.zero) (q ∙ Sums.zero_add r c v)
  gathered-insert (s ∷ sums) k x v q m = step (nat_eq k s.0) refl q (gathered-insert sums k x v)
    where
      step : (b : Bool) → nat_eq k s.0 ≡ b → value x ≡ r.add (value_or value r.zero (cond b (Some s.1) (lookup (nat_eq k) sums))) v
          → (value x ≡ r.add (value_or value r.zero (lookup (nat_eq k) sums)) v → Same (exps n) r (G (insert_entry nat_eq sums k x)) ((numbered n k, v) ∷ G sums))
          → coefficient (exps n) r (G (cond b ((s.0, x) ∷ sums) (s ∷ insert_entry nat_eq sums k x))) m ≡ coefficient (exps n) r ((numbered n k, v) ∷ G (s ∷ sums)) m
      step true e q rest =
          raised (same (exps n) (numbered n s.0) m) (value x) (value s.1) v (C sums m) q
          ∙ ap (λ i. r.add (cond (same (exps n) (numbered n i) m) v r.zero) (C (s ∷ sums) m)) (sym (eqb-true k s.0 e))
      step false e q rest =
          ap (r.add (cond (same (exps n) (numbered n s.0) m) (value s.1) r.zero)) (rest q m)
          ∙ Sums.add_left_comm r c (cond (same (exps n) (numbered n s.0) m) (value s.1) r.zero) (cond (same (exps n) (numbered n k) m) v r.zero) (C sums m)

  -- ---- what stands at a monomial

  abbrev Within : List (ℕ × E) → Type 0
  Within = AllByRecursion (λ s. s.0 < length (monomials_below n 18))

  skipped : (s : ℕ × E) (sums : List (ℕ × E)) (k : ℕ) → s.0 < length (monomials_below n 18) → k < length (monomials_below n 18) → (s.0 ≡ k → ⊥) → C (s ∷ sums) (numbered n k) ≡ C sums (numbered n k)
  skipped s sums k hs hk ne =
      ap (λ b. r.add (cond b (value s.1) r.zero) (C sums (numbered n k)))
      (ExpLaws.same-no (exps n) (exps_are n) (numbered n s.0) (numbered n k) (λ e. ne (numbered-injective n s.0 k hs hk e)))
      ∙ Sums.zero_add r c (C sums (numbered n k))

  apart : (a b : ℕ) → nat_eq a b ≡ false → b ≡ a → ⊥
  apart a b h e = let q : false ≡ true = sym h ∙ eq-eqb a b (sym e) in bad q
    where
      bad : false ≡ true → ⊥
      bad q = cc q

  none_there : (sums : List (ℕ × E)) (k : ℕ) → k < length (monomials_below n 18) → Within sums → AllByRecursion (λ y. nat_eq k y ≡ false) (keys_of sums) → C sums (numbered n k) ≡ r.zero
  none_there [] k h w a = refl
  none_there (s ∷ sums) k h w a = skipped s sums k w.0 h (apart k s.0 a.0) ∙ none_there sums k h w.1 a.1

  pub coefficient-gathered : (sums : List (ℕ × E)) (k : ℕ) → k < length (monomials_below n 18) → Within sums → IsDistinct nat_eq (keys_of sums) → C sums (numbered n k) ≡ value_or value r.zero (lookup (nat_eq k) sums)
  coefficient-gathered [] k h w d = refl
  coefficient-gathered (s ∷ sums) k h w d = step (nat_eq k s.0) refl (coefficient-gathered sums k h w.1 (IsDistinct-tail nat_eq s.0 (keys_of sums) d))
    where
      step : (b : Bool) → nat_eq k s.0 ≡ b → C sums (numbered n k) ≡ value_or value r.zero (lookup (nat_eq k) sums) → C (s ∷ sums) (numbered n k) ≡ value_or value r.zero (cond b (Some s.1) (lookup (nat_eq k) sums))
      step true e rest =
          let q : k ≡ s.0 = eqb-true k s.0 e in
          ap₂ (λ b z. r.add (cond b (value s.1) r.zero) z)
          (ap (λ i. same (exps n) (numbered n s.0) (numbered n i)) q ∙ ExpLaws.same_refl (exps n) (exps_are n) (numbered n s.0))
          (none_there sums k h w.1 (subst (λ i. AllByRecursion (λ y. nat_eq i y ≡ false) (keys_of sums)) (sym q) (IsDistinct-head nat_eq s.0 (keys_of sums) d)))
          ∙ c.add_zero (value s.1)
      step false e rest = skipped s sums k w.0 h (apart k s.0 e) ∙ rest

  -- ---- another order of the terms

  pub total-set : {X : Type 0} (w : X → V) (xs : List X) (i : ℕ) (v : X) (d : X) → i < length xs → r.add (total r w (set xs i v)) (w (get_or xs i d)) ≡ r.add (total r w xs) (w v)
  total-set w [] i v d h = absurd (omega arith)
  total-set w (x ∷ xs) zero v d h = around (w v) (total r w xs) (w x)
    where
      around : (a b e : V) → r.add (r.add a b) e ≡ r.add (r.add e b) a
      around a b e = c.add_assoc a b e ∙ c.add_comm a (r.add b e) ∙ ap (λ z. r.add z a) (c.add_comm b e)
  total-set w (x ∷ xs) (suc i) v d h =
      c.add_assoc (w x) (total r w (set xs i v)) (w (get_or xs i d))
      ∙ ap (r.add (w x)) (total-set w xs i v d (omega arith))
      ∙ sym (c.add_assoc (w x) (total r w xs) (w v))

  get_or-set : {X : Type 0} (xs : List X) (i j : ℕ) (d : X) → i < length xs → get_or (set xs i (get_or xs j d)) j d ≡ get_or xs j d
  get_or-set [] i j d h = absurd (omega arith)
  get_or-set (x ∷ xs) zero zero d h = refl
  get_or-set (x ∷ xs) zero (suc j) d h = refl
  get_or-set (x ∷ xs) (suc i) zero d h = refl
  get_or-set (x ∷ xs) (suc i) (suc j) d h = get_or-set xs i j d (omega arith)

  cancel : (a b d : V) → r.add a d ≡ r.add b d → a ≡ b
  cancel a b d e = Sums.add_cancel r c d a b (c.add_comm d a ∙ e ∙ c.add_comm b d)

  total-swap : {X : Type 0} (w : X → V) (xs : List X) (i j : ℕ) → i < length xs → j < length xs → total r w (swap xs i j) ≡ total r w xs
  total-swap w [] i j hi hj = absurd (omega arith)
  total-swap w (x ∷ xs) i j hi hj =
      let all = x ∷ xs in
      let one = set all i (get_or all j x) in
      let long : j < length one = subst (λ k. j < k) (sym (Rattle.std.proofs.Common.length-set all i (get_or all j x))) hj in
      let first = total-set w all i (get_or all j x) x hi in
      let second = total-set w one j (get_or all i x) x long in
      let there = ap (λ z. r.add (total r w (set one j (get_or all i x))) (w z)) (sym (get_or-set all i j x hi)) in
      ap (total r w) (sym (swap_is all i j x hi hj))
      ∙ cancel (total r w (set one j (get_or all i x))) (total r w all) (w (get_or all j x)) (there ∙ second ∙ first)

  -- a permutation of the terms gives the same polynomial
  pub gathered-permuted : (sums others : List (ℕ × E)) → IsPermutation sums others → Same (exps n) r (G others) (G sums)
  gathered-permuted sums others p m =
      let w : ℕ × E → V = λ s. cond (same (exps n) (numbered n s.0) m) (value s.1) r.zero in
      let of : (list : List (ℕ × E)) → C list m ≡ total r w list = λ list. Sums.total-map r c (λ t. cond (same (exps n) t.0 m) t.1 r.zero) (λ s. (numbered n s.0, value s.1)) list in
      of others
      ∙ IsPermutation-keeps sums (λ list. total r w list ≡ total r w sums) refl (λ list i j hi hj e. total-swap w list i j hi hj ∙ e) others p
      ∙ sym (of sums)

-- ---- what stays when a sum is put in

pub insert-all : {E : Type 0} (P : ℕ × E → Type 0) (sums : List (ℕ × E)) (k : ℕ) (x : E) → ((i : ℕ) → k ≡ i → P (i, x)) → AllByRecursion P sums → AllByRecursion P (insert_entry nat_eq sums k x)
insert-all P [] k x p a = (p k refl, tt)
insert-all P (s ∷ sums) k x p a = step (nat_eq k s.0) refl (insert-all P sums k x p a.1)
  where
    step : (b : Bool) → nat_eq k s.0 ≡ b → AllByRecursion P (insert_entry nat_eq sums k x) → AllByRecursion P (cond b ((s.0, x) ∷ sums) (s ∷ insert_entry nat_eq sums k x))
    step true e rest = (p s.0 (eqb-true k s.0 e), a.1)
    step false e rest = (a.0, rest)

pub weaker : {X : Type 0} (P Q : X → Type 0) → ((x : X) → P x → Q x) → (xs : List X) → AllByRecursion P xs → AllByRecursion Q xs
weaker P Q f [] a = tt
weaker P Q f (x ∷ xs) a = (f x a.0, weaker P Q f xs a.1)
