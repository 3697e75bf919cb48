-- A test by computing that a polynomial is 0, or that two are equal, at the exponents that count: all, or those up to a degree.
use Rattle.std.proofs.Common.{◌≡◌, ℕ, suc, [], ◌∷◌, ◌++◌, Bool, true, false, cond, ◌&&◌, ◌⊎◌, inl, inr, leb, le-leb, ap, sym, ◌∙◌, refl, arith}
use Rattle.ring_theory.specs.Ring.{RingOps, IsCommRing}
use Rattle.poly_law.specs.Exps.{Exps, IsExps, same, degree}
use Rattle.poly_law.specs.Poly.{Terms, coefficient, poly_ops, Same, SameTo, StartsAt}
use Rattle.poly_law.proofs.Sums
use Rattle.poly_law.proofs.ExpLaws
use Rattle.poly_law.proofs.Order

module _ {E V : Type 0} (x : Exps E) (r : RingOps V) (is_zero : V → Bool) (counts : E → Bool) where
  -- the coefficient of f is 0 at the exponents of the terms g that count
  abbrev pub vanishes_at : Terms E V → Terms E V → Bool
  vanishes_at f [] = true
  vanishes_at f (t ∷ g) = cond (counts t.0) (is_zero (coefficient x r f t.0)) true && vanishes_at f g

  -- f has no coefficients other than 0 at the exponents that count
  abbrev pub vanishes : Terms E V → Bool
  vanishes f = vanishes_at f f

  -- f and g have the same coefficients at the exponents that count
  abbrev pub agree : Terms E V → Terms E V → Bool
  agree f g = vanishes (f ++ (poly_ops x r).neg g)

and_first : (a b : Bool) → a && b ≡ true → a ≡ true
and_first true b e = refl
and_first false b e = e

and_second : (a b : Bool) → a && b ≡ true → b ≡ true
and_second true b e = e
and_second false b e = absurd (let e' : false ≡ true = e in cc e')

module _ {E V : Type 0} (x : Exps E) (l : IsExps x) (r : RingOps V) (c : IsCommRing r) (is_zero : V → Bool) (zero_test : (v : V) → is_zero v ≡ true → v ≡ r.zero) where
  module _ (counts : E → Bool) where
    -- m is the exponent of a term of g, and f has no coefficient there, or g has no term at m
    found : (f : Terms E V) (m : E) → counts m ≡ true → (g : Terms E V) → vanishes_at x r is_zero counts f g ≡ true
        → (coefficient x r f m ≡ r.zero) ⊎ (coefficient x r g m ≡ r.zero)
    found f m h [] e = inr refl
    found f m h (t ∷ g) e = step (same x t.0 m) refl (found f m h g (and_second (cond (counts t.0) (is_zero (coefficient x r f t.0)) true) (vanishes_at x r is_zero counts f g) e))
      where
        here : m ≡ t.0 → coefficient x r f m ≡ r.zero
        here p = zero_test (coefficient x r f m)
            (sym (ap (λ b. cond b (is_zero (coefficient x r f m)) true) h)
            ∙ ap (λ a. cond (counts a) (is_zero (coefficient x r f a)) true) p
            ∙ and_first (cond (counts t.0) (is_zero (coefficient x r f t.0)) true) (vanishes_at x r is_zero counts f g) e)

        step : (b : Bool) → same x t.0 m ≡ b → (coefficient x r f m ≡ r.zero) ⊎ (coefficient x r g m ≡ r.zero)
            → (coefficient x r f m ≡ r.zero) ⊎ (r.add (cond b t.1 r.zero) (coefficient x r g m) ≡ r.zero)
        step true q rest = inl (here (sym (ExpLaws.same-eq x l t.0 m q)))
        step false q rest = elim rest [ inl z ↦ inl z | inr z ↦ inr (ap (r.add r.zero) z ∙ c.add_zero r.zero) ]

    pub vanishes_there : (f : Terms E V) → vanishes x r is_zero counts f ≡ true → (m : E) → counts m ≡ true → coefficient x r f m ≡ r.zero
    vanishes_there f e m h = elim (found f m h f e) [ inl z ↦ z | inr z ↦ z ]

    pub agree_there : (f g : Terms E V) → agree x r is_zero counts f g ≡ true → (m : E) → counts m ≡ true → coefficient x r f m ≡ coefficient x r g m
    agree_there f g e m h =
        Sums.equal_from_sub r c (coefficient x r f m) (coefficient x r g m)
        (ap (r.add (coefficient x r f m)) (sym (Order.coefficient-neg x l r c g m)) ∙ sym (Order.coefficient-append x l r c f ((poly_ops x r).neg g) m)
        ∙ vanishes_there (f ++ (poly_ops x r).neg g) e m h)

  -- equal, by the test at all exponents
  pub same_by : (f g : Terms E V) → agree x r is_zero (λ a. true) f g ≡ true → Same x r f g
  same_by f g e m = agree_there (λ a. true) f g e m refl

  -- equal up to degree k, by the test at the exponents up to k
  pub same_to_by : (k : ℕ) (f g : Terms E V) → agree x r is_zero (λ a. leb (degree x a) k) f g ≡ true → SameTo x r k f g
  same_to_by k f g e m h = agree_there (λ a. leb (degree x a) k) f g e m (le-leb (degree x m) k h)

  -- no term below degree k + 1, by the test at the exponents up to k
  pub starts_by : (k : ℕ) (f : Terms E V) → vanishes x r is_zero (λ a. leb (degree x a) k) f ≡ true → StartsAt x r (suc k) f
  starts_by k f e m h = vanishes_there (λ a. leb (degree x a) k) f e m (le-leb (degree x m) k (omega arith))
