-- Ring expressions and polynomials with integer coefficients, for the solver of `RingSolver`.
use Rattle.std.specs.Prelude.{ℕ, zero, suc, ◌+◌, List, [], ◌∷◌, ℤ, pos, negsuc, ◌+ℤ◌, ◌*ℤ◌, neg_ℤ, Bool, true, false}
use Prim.Native.Nat.{compare, Ordering}
use Rattle.ring_theory.specs.Ring.{RingOps}

infixl 6 ◌⊞◌
infixl 7 ◌⊠◌
infix 8 ⊟◌
-- an expression over numbered variables
pub data Expr : Type 0 where
  var : ℕ → Expr
  lit : ℤ → Expr
  ◌⊞◌ : Expr → Expr → Expr
  ◌⊠◌ : Expr → Expr → Expr
  ⊟◌ : Expr → Expr

-- A monomial is the list of its exponents, with no zero at its end.
abbrev pub Mono : Type 0
Mono = List ℕ

-- a polynomial: terms in rising order of their monomials, each once and with a coefficient that is not zero
pub data Poly : Type 0 where
  end : Poly
  term : ℤ → Mono → Poly → Poly

abbrev pub mono_var : ℕ → Mono
mono_var zero = 1 ∷ []
mono_var (suc i) = 0 ∷ mono_var i

abbrev pub mono_mul : Mono → Mono → Mono
mono_mul [] ks = ks
mono_mul (j ∷ js) [] = j ∷ js
mono_mul (j ∷ js) (k ∷ ks) = (j + k) ∷ mono_mul js ks

abbrev pub mono_compare : Mono → Mono → Ordering
mono_compare [] [] = Ordering.eq
mono_compare [] (k ∷ ks) = Ordering.lt
mono_compare (j ∷ js) [] = Ordering.gt
mono_compare (j ∷ js) (k ∷ ks) = elim (compare j k) [ Ordering.lt ↦ Ordering.lt | Ordering.eq ↦ mono_compare js ks | Ordering.gt ↦ Ordering.gt ]

-- a term, unless its coefficient is zero
abbrev pub term_nonzero : ℤ → Mono → Poly → Poly
term_nonzero (pos zero) m p = p
term_nonzero (pos (suc n)) m p = term (pos (suc n)) m p
term_nonzero (negsuc n) m p = term (negsuc n) m p

-- (c m + p) + q, where `rest` adds p
abbrev pub merge_term : ℤ → Mono → Poly → (Poly → Poly) → Poly → Poly
merge_term c m p rest end = term c m p
merge_term c m p rest (term d n q) =
    elim (mono_compare m n) [ Ordering.lt ↦ term c m (rest (term d n q)) | Ordering.eq ↦ term_nonzero (c +ℤ d) m (rest q) | Ordering.gt ↦ term d n (merge_term c m p rest q) ]

abbrev pub poly_add : Poly → Poly → Poly
poly_add end q = q
poly_add (term c m p) q = merge_term c m p (poly_add p) q

-- c m p
abbrev pub poly_scale : ℤ → Mono → Poly → Poly
poly_scale c m end = end
poly_scale c m (term d n p) = term (c *ℤ d) (mono_mul m n) (poly_scale c m p)

abbrev pub poly_mul : Poly → Poly → Poly
poly_mul end q = end
poly_mul (term c m p) q = poly_add (poly_scale c m q) (poly_mul p q)

abbrev pub poly_neg : Poly → Poly
poly_neg end = end
poly_neg (term c m p) = term (neg_ℤ c) m (poly_neg p)

-- the polynomial of an expression
abbrev pub normal : Expr → Poly
normal (var i) = term (pos 1) (mono_var i) end
normal (lit k) = term_nonzero k [] end
normal (e ⊞ f) = poly_add (normal e) (normal f)
normal (e ⊠ f) = poly_mul (normal e) (normal f)
normal (⊟ e) = poly_neg (normal e)

abbrev pub is_end : Poly → Bool
is_end end = true
is_end (term c m p) = false

-- e and f have the same polynomial
abbrev pub agree : Expr → Expr → Bool
agree e f = is_end (normal (e ⊞ ⊟ f))

-- the operations on expressions
abbrev pub expr_ops : RingOps Expr
expr_ops = record { zero = lit (pos 0); one = lit (pos 1); add = ◌⊞◌; mul = ◌⊠◌; neg = ⊟◌ }
