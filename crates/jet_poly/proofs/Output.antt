-- The terms that are written, in the monomial order.
use Rattle.std.proofs.Common.{◌≡◌, ◌≢◌, ℕ, zero, suc, ◌<◌, ◌≤◌, ◌⊎◌, inl, inr, Bool, true, false, ◌&&◌, ◌||◌, cond, ltb, eqb, not, List, [], ◌∷◌, ◌++◌, length, sum, refl, sym, ap, ap₂, subst, ◌∙◌, append-nil, arith}
use Rattle.std.specs.List.{AllByRecursion, All}
use Rattle.ring_theory.specs.Scalars.{Scalars, ScalarLaws, Meaning}
use Rattle.poly_law.specs.Exps.{same}
use Rattle.poly_law.specs.ExpList.{ExpList, exps}
use Rattle.poly_law.specs.Poly.{coefficient, Same}
use Rattle.poly_law.specs.Polynomials.{Polynomial}
use Rattle.poly_law.proofs.ExpLists.{exps_are}
use Rattle.poly_law.proofs.Order
use Rattle.mono_exp.specs.declared.exponent.Exp.{Exp}
use Rattle.mono_exp.specs.Exponents.{exponents, IsIn, is_before, is_greater_first, rank_of, monomials_below}
use Rattle.mono_exp.proofs.Counting.{count_below, count-le, place, place-before, place_at_least, place_below, rank_is_place}
use Rattle.mono_exp.proofs.NumberLemmas.{length-exponents, sum-exponents, exponents-cons}
use Rattle.mono_exp.proofs.Table.{length-monomials_below}
use Rattle.jet_law.specs.Terms.{exp_of, poly_of}
use Rattle.jet_law.proofs.TermLemmas.{poly_of-push}
use Rattle.jet_poly.specs.JetTerms.{JetTerms, IsRising, AllAfter}
use Rattle.jet_poly.specs.Jets.{IsJet}
use Rattle.jet_poly.specs.Gathered.{nonzero}
use Rattle.jet_poly.proofs.GatheredLemmas.{weaker}

-- ---- order

first-raw : (n : ℕ) (a b : List ℕ) → length a ≡ length b → n ≤ length a → is_greater_first (exponents n a) (exponents n b) ≡ true → is_greater_first a b ≡ true
first-raw zero a b l h e = let bad : ⊥ = cc e in absurd bad
first-raw (suc n) [] b l h e = absurd (omega arith)
first-raw (suc n) (x ∷ a) [] l h e = let bad : ⊥ = omega (arith, l) in absurd bad
first-raw (suc n) (x ∷ a) (y ∷ b) l h e =
    step (ltb y x) (eqb x y) (first-raw n a b (let l' : suc (length a) ≡ suc (length b) = l in omega arith) (omega arith)) (sym (ap₂ is_greater_first (exponents-cons n x a) (exponents-cons n y b)) ∙ e)
  where
    step : (t u : Bool) → (is_greater_first (exponents n a) (exponents n b) ≡ true → is_greater_first a b ≡ true) → (t || (u && is_greater_first (exponents n a) (exponents n b))) ≡ true → (t || (u && is_greater_first a b)) ≡ true
    step true u rest e = refl
    step false true rest e = rest e
    step false false rest e = e

-- a monomial with a lower number is before
pub before-rank : (n : ℕ) (a b : List ℕ) → n ≤ 8 → length a ≡ 8 → length b ≡ 8 → IsIn n a → IsIn n b → rank_of n (exponents n a) < rank_of n (exponents n b) → is_before a b ≡ true
before-rank n a b h la lb ia ib less =
    let pa = rank_is_place n (exponents n a) (length-exponents n a) in
    let pb = rank_is_place n (exponents n b) (length-exponents n b) in
    let e : is_before (exponents n a) (exponents n b) ≡ true = place-before (exponents n a) (exponents n b) (length-exponents n a ∙ sym (length-exponents n b)) (omega arith) in
    step (ltb (sum a) (sum b)) (eqb (sum a) (sum b)) (first-raw n a b (la ∙ sym lb) (omega arith))
    (sym (ap₂ (λ x y. ltb x y || ((eqb x y) && is_greater_first (exponents n a) (exponents n b))) (sum-exponents n a ia) (sum-exponents n b ib)) ∙ e)
  where
    step : (t u : Bool) → (is_greater_first (exponents n a) (exponents n b) ≡ true → is_greater_first a b ≡ true) → (t || (u && is_greater_first (exponents n a) (exponents n b))) ≡ true → (t || (u && is_greater_first a b)) ≡ true
    step true u rest e = refl
    step false true rest e = rest e
    step false false rest e = e

-- the degree of a monomial by its number
pub degree-number : (n k : ℕ) (a : List ℕ) → IsIn n a → rank_of n (exponents n a) < length (monomials_below n (suc k)) → sum a ≤ k
degree-number n k a i h = step (cases (sum a) k)
  where
    cases : (d k : ℕ) → (d ≤ k) ⊎ (suc k ≤ d)
    cases d k = grind arith

    step : (sum a ≤ k) ⊎ (suc k ≤ sum a) → sum a ≤ k
    step (inl l) = l
    step (inr l) =
        let long = length-exponents n a in
        let total = sum-exponents n a i in
        let p = rank_is_place n (exponents n a) long in
        let low = place_at_least (exponents n a) in
        let low' : count_below n (sum a) ≤ place (exponents n a) = subst (λ d. count_below n d ≤ place (exponents n a)) total (subst (λ m. count_below m (sum (exponents n a)) ≤ place (exponents n a)) long low) in
        let up = count-le n (suc k) (sum a) l in
        let all = length-monomials_below n (suc k) in
        absurd (omega arith)

-- and its number by its degree
pub number-degree : (n k : ℕ) (a : List ℕ) → IsIn n a → sum a ≤ k → rank_of n (exponents n a) < length (monomials_below n (suc k))
number-degree n k a i h =
    let long = length-exponents n a in
    let total = sum-exponents n a i in
    let p = rank_is_place n (exponents n a) long in
    let low = place_below (exponents n a) in
    let low' : place (exponents n a) < count_below n (suc (sum a)) = subst (λ d. place (exponents n a) < count_below n (suc d)) total (subst (λ m. place (exponents n a) < count_below m (suc (sum (exponents n a)))) long low) in
    let up = count-le n (suc (sum a)) (suc k) (omega arith) in
    let all = length-monomials_below n (suc k) in
    omega arith

pub numbers-le : (n k : ℕ) → k ≤ 17 → length (monomials_below n (suc k)) ≤ length (monomials_below n 18)
numbers-le n k h = let a = length-monomials_below n (suc k) in let b = length-monomials_below n 18 in let c = count-le n (suc k) 18 (omega arith) in omega arith

-- ---- terms at the end

pub all-push : {X : Type 0} (P : X → Type 0) (xs : List X) (x : X) → AllByRecursion P xs → P x → AllByRecursion P (xs ++ x ∷ [])
all-push P [] x a p = (p, tt)
all-push P (y ∷ xs) x a p = (a.0, all-push P xs x a.1 p)

pub after-push : {E : Type 0} (m : Exp) (f : List (Exp × E)) (t : Exp × E) → AllAfter m f → is_before m.e t.0.e ≡ true → AllAfter m (f ++ t ∷ [])
after-push m [] t a h = (h, tt)
after-push m (u ∷ f) t a h = (a.0, after-push m f t a.1 h)

pub rising-push : {E : Type 0} (f : List (Exp × E)) (t : Exp × E) → IsRising f → AllByRecursion (λ u. is_before u.0.e t.0.e ≡ true) f → IsRising (f ++ t ∷ [])
rising-push [] t r a = (tt, tt)
rising-push (u ∷ f) t r a = (after-push u.0 f t r.0 a.0, rising-push f t r.1 a.1)

pub to-all : {X : Type 0} (P : X → Type 0) (xs : List X) → AllByRecursion P xs → All P xs
to-all P [] a k d h = absurd (omega arith)
to-all P (x ∷ xs) a zero d h = a.0
to-all P (x ∷ xs) a (suc k) d h = to-all P xs a.1 k d (omega arith)

pub from-all : {X : Type 0} (P : X → Type 0) (xs : List X) → All P xs → AllByRecursion P xs
from-all P [] a = tt
from-all P (x ∷ xs) a = (a 0 x (omega arith), from-all P xs (λ k d h. a (suc k) d (omega arith)))

-- a term of a jet in n variables up to order k, whose number is below a bound
pub record IsWritten {E V : Type 0} (n k bound : ℕ) (m : Meaning E V) (t : Exp × E) : Type 0 where
  pub unused : IsIn n t.0.e
  pub long : length t.0.e ≡ 8
  pub degree : sum t.0.e ≤ k
  pub elem : m.is_elem t.1
  pub unit : m.value t.1 ≢ m.scalars.ops.zero
  pub number : rank_of n (exponents n t.0.e) < bound

-- terms that are written: they rise, up to a bound
pub record AreWritten {E V : Type 0} (n k bound : ℕ) (m : Meaning E V) (f : List (Exp × E)) : Type 0 where
  pub each : AllByRecursion (IsWritten n k bound m) f
  pub rising : IsRising f

module _ {E V : Type 0} (n k : ℕ) (m : Meaning E V) where
  higher : (b d : ℕ) → b ≤ d → (t : Exp × E) → IsWritten n k b m t → IsWritten n k d m t
  higher b d h t w = record { unused = w.unused; long = w.long; degree = w.degree; elem = w.elem; unit = w.unit; number = (let q = w.number in omega arith) }

  pub written-higher : (b d : ℕ) (f : List (Exp × E)) → b ≤ d → AreWritten n k b m f → AreWritten n k d m f
  written-higher b d f h w = record { each = weaker (IsWritten n k b m) (IsWritten n k d m) (higher b d h) f w.each; rising = w.rising }

  -- one term more, with the number b
  pub written-push : (b : ℕ) (f : List (Exp × E)) (t : Exp × E) → n ≤ 8 → AreWritten n k b m f → rank_of n (exponents n t.0.e) ≡ b → IsIn n t.0.e → length t.0.e ≡ 8 → sum t.0.e ≤ k → m.is_elem t.1 → m.value t.1 ≢ m.scalars.ops.zero
      → AreWritten n k (suc b) m (f ++ t ∷ [])
  written-push b f t h w q unused long degree elem unit = record {
    each = all-push (IsWritten n k (suc b) m) f t (weaker (IsWritten n k b m) (IsWritten n k (suc b) m) (higher b (suc b) (omega arith)) f w.each)
        (record { unused = unused; long = long; degree = degree; elem = elem; unit = unit; number = (let q' = q in omega arith) });
    rising = rising-push f t w.rising
        (weaker (IsWritten n k b m) (λ u. is_before u.0.e t.0.e ≡ true) (λ u x. before-rank n u.0.e t.0.e h x.long long x.unused unused (let y = x.number in let q' = q in omega arith)) f w.each);
  }

  -- all that are written make a jet
  pub written-jet : (b : ℕ) (f : JetTerms E) → f.n ≡ n → f.order ≡ k → AreWritten n k b m f.terms → IsJet m f
  written-jet b f en ek w = record {
    variables = to-all (λ t. IsIn f.n t.0.e) f.terms (weaker (IsWritten n k b m) (λ t. IsIn f.n t.0.e) (λ t x. subst (λ i. IsIn i t.0.e) (sym en) x.unused) f.terms w.each);
    degrees = to-all (λ t. sum t.0.e ≤ f.order) f.terms (weaker (IsWritten n k b m) (λ t. sum t.0.e ≤ f.order) (λ t x. subst (λ i. sum t.0.e ≤ i) (sym ek) x.degree) f.terms w.each);
    elems = to-all (λ t. m.is_elem t.1) f.terms (weaker (IsWritten n k b m) (λ t. m.is_elem t.1) (λ t x. x.elem) f.terms w.each);
    units = to-all (λ t. m.value t.1 ≢ m.scalars.ops.zero) f.terms (weaker (IsWritten n k b m) (λ t. m.value t.1 ≢ m.scalars.ops.zero) (λ t x. x.unit) f.terms w.each);
  }

-- ---- zeros are left out

module _ {E V : Type 0} (n : ℕ) (s : Scalars V) (l : ScalarLaws s) (value : E → V) where
  zero-term : (f : Polynomial n V) (a : ExpList n) (v : V) → v ≡ s.ops.zero → Same (exps n) s.ops f (f ++ (a, v) ∷ [])
  zero-term f a v e m =
      sym (l.ring.add_zero (coefficient (exps n) s.ops f m))
      ∙ ap (s.ops.add (coefficient (exps n) s.ops f m)) (sym (nothing (same (exps n) a m)))
      ∙ sym (Order.coefficient-append (exps n) (exps_are n) s.ops l.ring f ((a, v) ∷ []) m)
    where
      nothing : (b : Bool) → s.ops.add (cond b v s.ops.zero) s.ops.zero ≡ s.ops.zero
      nothing true = ap (λ z. s.ops.add z s.ops.zero) e ∙ l.ring.add_zero s.ops.zero
      nothing false = l.ring.add_zero s.ops.zero

  -- what is written after a term is, or is not
  pub same-push : (f : List (Exp × E)) (t : Exp × E) → Same (exps n) s.ops (poly_of n value (f ++ nonzero s value (t ∷ []))) (poly_of n value f ++ (exp_of n t.0, value t.1) ∷ [])
  same-push f t = step (s.is_zero (value t.1)) refl
    where
      step : (b : Bool) → s.is_zero (value t.1) ≡ b → Same (exps n) s.ops (poly_of n value (f ++ cond (not b) (t ∷ []) [])) (poly_of n value f ++ (exp_of n t.0, value t.1) ∷ [])
      step true e m = ap (λ z. coefficient (exps n) s.ops (poly_of n value z) m) (append-nil f) ∙ zero-term (poly_of n value f) (exp_of n t.0) (value t.1) ((l.zero_test (value t.1)).0 e) m
      step false e m = ap (λ z. coefficient (exps n) s.ops z m) (poly_of-push n value f t)
