-- Sums that are kept by the numbers of their monomials.
use Rattle.std.specs.Prelude.{◌≡◌, ℕ, suc, ◌<◌, ◌≤◌, ◌^◌, ◌⊎◌, true, leb, List, [], ◌++◌, map, get_or, length, take, Option, Some, None, nat_eq, not, filter}
use Rattle.std.specs.List.{IsDistinct, AllByRecursion}
use Rattle.std.specs.Map.{keys_of}
use Rattle.ring_theory.specs.Scalars.{Scalars, Meaning, SumIsHigh}
use Rattle.poly_law.specs.Exps.{plus, degree}
use Rattle.poly_law.specs.ExpList.{ExpList, exps}
use Rattle.poly_law.specs.Poly.{coefficient, Same, cut, times_term}
use Rattle.poly_law.specs.Polynomials.{Polynomial}
use Rattle.mono_exp.specs.Exponents.{monomials_below}
use Rattle.jet_law.specs.Canonical.{monomial_in}

-- the monomial in n variables before which r others of degree at most 17 stand
unfoldable pub numbered : (n : ℕ) → ℕ → ExpList n
numbered n r = monomial_in n (get_or (monomials_below n 18) r [])

-- the polynomial of a list of numbers of monomials with their coefficients
abbrev pub gathered : {E V : Type 0} (n : ℕ) → (E → V) → List (ℕ × E) → Polynomial n V
gathered n value sums = map (λ s. (numbered n s.0, value s.1)) sums

-- each number is that of a monomial of degree at most k, and stands once; each coefficient is valid
pub record IsGathered {E V : Type 0} (n k : ℕ) (m : Meaning E V) (sums : List (ℕ × E)) : Type 0 where
  pub numbers : AllByRecursion (λ s. s.0 < length (monomials_below n (suc k))) sums
  pub elems : AllByRecursion (λ s. m.is_elem s.1) sums
  pub distinct : IsDistinct nat_eq (keys_of sums)

-- the value of what stands there, or zero
abbrev pub value_or : {E V : Type 0} → (E → V) → V → Option E → V
value_or value none None = none
value_or value none (Some x) = value x

-- the terms whose coefficients are not zero
abbrev pub nonzero : {K E V : Type 0} → Scalars V → (E → V) → List (K × E) → List (K × E)
nonzero s value = filter (λ t. not (s.is_zero (value t.1)))

-- the term t, of degree at most k, cannot be added to what is there: its sum with the coefficient there is high
pub record IsTermHigh {V : Type 0} (n : ℕ) (s : Scalars V) (k : ℕ) (there : Polynomial n V) (t : ExpList n × V) : Type 0 where
  pub low : leb (degree (exps n) t.0) k ≡ true
  pub high : SumIsHigh s (coefficient (exps n) s.ops there t.0) t.1

-- some term of f is not added, after those before it were added up to degree k to what was there
pub record IsSumHigh {V : Type 0} (n : ℕ) (s : Scalars V) (k : ℕ) (there f : Polynomial n V) : Type 0 where
  pub place : ℕ
  pub inside : place < length f
  pub term : ExpList n × V
  pub read : term ≡ get_or f place term
  pub now : Polynomial n V
  pub so_far : Same (exps n) s.ops now (there ++ cut (exps n) s.ops k (take place f))
  pub high : IsTermHigh n s k now term

-- the product of u and t, of degree at most k, is not formed or not added
pub record IsProductHigh {V : Type 0} (n : ℕ) (s : Scalars V) (k : ℕ) (there : Polynomial n V) (u t : ExpList n × V) : Type 0 where
  pub low : leb (degree (exps n) (plus (exps n) u.0 t.0)) k ≡ true
  pub high : (2 ^ 120 ≤ s.product_height u.1 t.1) ⊎ SumIsHigh s (coefficient (exps n) s.ops there (plus (exps n) u.0 t.0)) (s.ops.mul u.1 t.1)

-- the product of u and some term of g is not formed or not added, after those before it were added to what was there
pub record IsRowHigh {V : Type 0} (n : ℕ) (s : Scalars V) (k : ℕ) (there : Polynomial n V) (u : ExpList n × V) (g : Polynomial n V) : Type 0 where
  pub place : ℕ
  pub inside : place < length g
  pub factor : ExpList n × V
  pub read : factor ≡ get_or g place factor
  pub now : Polynomial n V
  pub so_far : Same (exps n) s.ops now (there ++ cut (exps n) s.ops k (times_term (exps n) s.ops u (take place g)))
  pub high : IsProductHigh n s k now u factor
