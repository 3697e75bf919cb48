-- The second partials at 0: how a substitution changes them.
use mathlib.Core.Path.{fun_ext}
use Rattle.std.proofs.Common.{◌≡◌, ℕ, zero, ◌<◌, [], ap, ap₂, sym, ◌∙◌, refl, arith}
use Rattle.ring_theory.specs.Ring.{RingOps, IsCommRing}
use Rattle.poly_law.specs.Sums.{sum_to}
use Rattle.poly_law.specs.Exps.{Exps, IsExps, plus, none, variable}
use Rattle.poly_law.specs.Poly.{Terms, coefficient, times, constant, derivative, SameTo, StartsAt, monomial_of, subst_in}
use Rattle.poly_law.proofs.Sums
use Rattle.poly_law.proofs.ExpLaws
use Rattle.poly_law.proofs.Pair
use Rattle.poly_law.proofs.Pair.{pair, at_only}
use Rattle.poly_law.proofs.Order
use Rattle.poly_law.proofs.Linear
use Rattle.poly_law.proofs.SubstOrder
use Rattle.poly_law.proofs.Change
use Rattle.poly_law.proofs.Chain

module _ {E V : Type 0} (x : Exps E) (l : IsExps x) (r : RingOps V) (c : IsCommRing r) (s : IsSet V) where
  -- the second partial of f in the variables a and b, at 0
  abbrev pub second : Terms E V → ℕ → ℕ → V
  second f a b = coefficient x r (derivative x r a f) (variable x b)

  -- the product with a constant
  times_constant : (g : Terms E V) (v : V) (m : E) → coefficient x r (times x r g (constant x r v)) m ≡ r.mul v (coefficient x r g m)
  times_constant g v m =
      Order.coefficient-times x l r c g (constant x r v) m
      ∙ ap (pair r g) (fun_ext λ a. c.add_zero (r.mul v (at_only x r m (plus x a (none x)))) ∙ ap (λ z. r.mul v (at_only x r m z)) (ExpLaws.plus-none x l a))
      ∙ Pair.pair-mul r c g v (at_only x r m)
      ∙ ap (r.mul v) (sym (Pair.coefficient_is x r c g m))

  -- the linear coefficients of g h, where g has no constant term
  times_at_variable : (g h : Terms E V) → StartsAt x r 1 g → (p : ℕ) → p < x.count → coefficient x r (times x r g h) (variable x p) ≡ r.mul (coefficient x r h (none x)) (coefficient x r g (variable x p))
  times_at_variable g h start p inside =
      Order.times_near x l r c 1 0 g g h (constant x r (coefficient x r h (none x))) start (λ m low. absurd (omega arith)) (λ m low. refl) near (variable x p) (let e = ExpLaws.degree-variable x l p inside in omega arith)
      ∙ times_constant g (coefficient x r h (none x)) (variable x p)
    where
      near : SameTo x r 0 h (constant x r (coefficient x r h (none x)))
      near m low =
          let e : m ≡ none x = ExpLaws.none_of_degree x l m (omega arith) in
          ap (coefficient x r h) e ∙ sym (ap (coefficient x r (constant x r (coefficient x r h (none x)))) e ∙ only)
        where
          only : coefficient x r (constant x r (coefficient x r h (none x))) (none x) ≡ coefficient x r h (none x)
          only = c.add_zero _ ∙ ap (λ b. Rattle.std.proofs.Common.cond b (coefficient x r h (none x)) r.zero) (ExpLaws.same_refl x l (none x))

  module _ (parts : ℕ → Terms E V) (starts : (i : ℕ) → i < x.count → StartsAt x r 1 (parts i)) where
    -- the entry of the linear part
    abbrev pub entry : ℕ → ℕ → V
    entry i j = coefficient x r (parts i) (variable x j)

    -- the linear coefficients of f(φ)
    linear_subst : (f : Terms E V) → StartsAt x r 1 f → (k : ℕ) → k < x.count → coefficient x r (subst_in x x r parts f) (variable x k) ≡ sum_to r x.count (λ j. r.mul (coefficient x r f (variable x j)) (entry j k))
    linear_subst f t k h =
        SubstOrder.subst_same_to x l x l r c s parts starts 1 f (Linear.linear x l r c (λ j. coefficient x r f (variable x j))) (Linear.linear_part x l r c f t) (variable x k) (let e = ExpLaws.degree-variable x l k h in omega arith)
        ∙ SubstOrder.coefficient-subst x l x l r c s parts (Linear.linear x l r c (λ j. coefficient x r f (variable x j))) (variable x k)
        ∙ Linear.pair-linear x l r c (λ j. coefficient x r f (variable x j)) (λ a. coefficient x r (monomial_of x x r parts a) (variable x k))
        ∙ Sums.sum_to-cong r x.count (λ j. r.mul (coefficient x r f (variable x j)) (coefficient x r (monomial_of x x r parts (variable x j)) (variable x k))) (λ j. r.mul (coefficient x r f (variable x j)) (entry j k))
        (λ j g. ap (r.mul (coefficient x r f (variable x j))) (Change.image_variable x l r c s parts j g (variable x k)))

    -- S goes to the product of the transpose of the linear part, S and the linear part
    pub second-subst : (f : Terms E V) → StartsAt x r 2 f → (p q : ℕ) → p < x.count → q < x.count
        → second (subst_in x x r parts f) p q ≡ sum_to r x.count (λ a. r.mul (entry a p) (sum_to r x.count (λ b. r.mul (second f a b) (entry b q))))
    second-subst f two p q hp hq =
        Chain.chain_rule x l x l r c s parts p hp f (variable x q)
        ∙ Linear.coefficient-sum_to x l r c x.count (λ a. times x r (subst_in x x r parts (derivative x r a f)) (derivative x r p (parts a))) (variable x q)
        ∙ Sums.sum_to-cong r x.count (λ a. coefficient x r (times x r (subst_in x x r parts (derivative x r a f)) (derivative x r p (parts a))) (variable x q))
        (λ a. r.mul (entry a p) (sum_to r x.count (λ b. r.mul (second f a b) (entry b q))))
        (λ a h.
        times_at_variable (subst_in x x r parts (derivative x r a f)) (derivative x r p (parts a)) (SubstOrder.starts_subst x l x l r c s parts starts 1 (derivative x r a f) (Order.starts_derivative x l r c a 1 f h two)) q hq
        ∙ ap₂ r.mul (Linear.coefficient-derivative_none x l r c p hp (parts a)) (linear_subst (derivative x r a f) (Order.starts_derivative x l r c a 1 f h two) q hq))
