-- Binary forms by their coefficients, from x^d to y^d: products, and powers of a form as factors.
use Rattle.std.specs.Prelude.{◌≡◌, ◌≢◌, ℕ, zero, suc, ◌+◌, List, [], ◌∷◌, map, length}
use Rattle.ring_theory.specs.Ring.{RingOps}

module _ {V : Type 0} (r : RingOps V) where
  -- f + g, of two forms that begin alike
  abbrev pub plus : List V → List V → List V
  plus [] gs = gs
  plus (f ∷ fs) [] = f ∷ fs
  plus (f ∷ fs) (g ∷ gs) = r.add f g ∷ plus fs gs

  -- a f
  abbrev pub scaled : V → List V → List V
  scaled a f = map (r.mul a) f

  -- f g: the first coefficient of f times g, and the others times g one place further on
  abbrev pub product : List V → List V → List V
  product [] g = []
  product (f ∷ fs) g = plus (scaled f g) (r.zero ∷ product fs g)

  -- f^k
  abbrev pub power_of : List V → ℕ → List V
  power_of f zero = r.one ∷ []
  power_of f (suc k) = product f (power_of f k)

  -- g divides f
  pub record Divides (g f : List V) : Type 0 where
    pub cofactor : List V
    pub degrees : length g + length cofactor ≡ length f + 1
    pub is_product : f ≡ product g cofactor

  -- f is a multiple, not zero, of g
  pub record IsMultiple (g f : List V) : Type 0 where
    pub factor : V
    pub nonzero : factor ≢ r.zero
    pub is_product : f ≡ scaled factor g

  -- exactly the power k of g divides f
  pub record IsExactPower (g : List V) (k : ℕ) (f : List V) : Type 0 where
    pub divides : Divides (power_of g k) f
    pub no_more : ¬ Divides (power_of g (k + 1)) f
