-- The jet of the value of an expression is its value in jets.
use Rattle.std.proofs.Common.{◌≡◌, ℕ, zero, suc, ◌+◌, Bool, true, false, cond, List, [], ◌∷◌, ◌++◌, refl, sym, ap, ap₂, ◌∙◌, arith}
use Rattle.ring_theory.specs.Ring.{RingOps, IsCommRing}
use Rattle.ring_theory.specs.Rational.{Rational, rational_ops}
use Rattle.ring_theory.specs.Height.{rational_scalars}
use Rattle.ring_theory.proofs.RationalLaws.{rational_laws, rational_scalar_laws}
use Rattle.poly_law.specs.Sums.{power}
use Rattle.poly_law.specs.Exps.{Exps, IsExps, same}
use Rattle.poly_law.specs.ExpList.{exps}
use Rattle.poly_law.specs.Poly.{Terms, coefficient, scale, times, constant, poly_ops, Same, SameTo}
use Rattle.poly_law.specs.Polynomials.{Polynomial}
use Rattle.poly_law.proofs.ExpLists.{exps_are}
use Rattle.poly_law.proofs.Sums
use Rattle.poly_law.proofs.Order
use Rattle.poly_law.proofs.PolyRing
use Rattle.jet_law.proofs.CanonicalLemmas.{jet_same}
use Rattle.line_syntax.specs.Syntax.{Word, Expr}
use Rattle.line_syntax.specs.Value.{expr_value}
use Rattle.line_syntax.specs.High.{IsExprHigh}
use Rattle.line_syntax.proofs.ValueLemmas.{Respects, ReflectsHigh, respects_expr, reflects_expr}
use Rattle.germ_law.specs.Germ.{polynomials, one_over}
use Rattle.germ_law.specs.Reading.{jet_of, high_to}
use Rattle.germ_law.specs.Jets.{jets, high_jets}
use Rattle.germ_law.proofs.Canonical.{jet_same_to}

module _ {E V : Type 0} (x : Exps E) (l : IsExps x) (r : RingOps V) (c : IsCommRing r) where
  scaled_cond : (b : Bool) (a v : V) → cond b (r.mul a v) r.zero ≡ r.mul a (cond b v r.zero)
  scaled_cond true a v = refl
  scaled_cond false a v = sym (Sums.mul_zero r c a)

  -- the coefficients of a multiple
  pub coefficient-scale : (a : V) (f : Terms E V) (m : E) → coefficient x r (scale x r a f) m ≡ r.mul a (coefficient x r f m)
  coefficient-scale a [] m = sym (Sums.mul_zero r c a)
  coefficient-scale a (t ∷ f) m =
      ap₂ r.add (scaled_cond (same x t.0 m) a t.1) (coefficient-scale a f m) ∙ sym (Sums.distrib_left r c a (cond (same x t.0 m) t.1 r.zero) (coefficient x r f m))

  -- powers of polynomials that agree up to degree k
  pub power_same_to : (k : ℕ) (f g : Terms E V) → SameTo x r k f g → (e : ℕ) → SameTo x r k (power (poly_ops x r) f e) (power (poly_ops x r) g e)
  power_same_to k f g h zero m d = refl
  power_same_to k f g h (suc e) m d = Order.times_same_to x l r c k (power (poly_ops x r) f e) (power (poly_ops x r) g e) f g (power_same_to k f g h e) h m d

  suc_of_sum : (a b : ℕ) → a + suc b ≡ suc (a + b)
  suc_of_sum a b = omega arith

  none_more : (a : ℕ) → a + 0 ≡ a
  none_more a = omega arith

  -- f^(a + b) = f^a * f^b
  pub power-plus : (f : Terms E V) (a b : ℕ) → Same x r (power (poly_ops x r) f (a + b)) (times x r (power (poly_ops x r) f a) (power (poly_ops x r) f b))
  power-plus f a zero m =
      ap (λ e. coefficient x r (power (poly_ops x r) f e) m) (none_more a) ∙ sym (PolyRing.times_one x l r c (power (poly_ops x r) f a) m)
  power-plus f a (suc b) m =
      ap (λ e. coefficient x r (power (poly_ops x r) f e) m) (suc_of_sum a b)
      ∙ PolyRing.times_left x l r c (power (poly_ops x r) f (a + b)) (times x r (power (poly_ops x r) f a) (power (poly_ops x r) f b)) f (power-plus f a b) m
      ∙ PolyRing.times_assoc x l r c (power (poly_ops x r) f a) (power (poly_ops x r) f b) f m

module _ (n k : ℕ) where
  abbrev P : Type 0
  P = Polynomial n Rational

  abbrev Agree : P → P → Type 0
  Agree = SameTo (exps n) rational_ops k

  -- polynomials that agree up to degree k have one jet
  pub one : (f g : P) → Agree f g → jet_of n k f ≡ jet_of n k g
  one f g e = jet_same n rational_scalars rational_laws k f g e

  -- a polynomial and its jet agree
  pub own : (f : P) → Agree f (jet_of n k f)
  own f m h = sym (jet_same_to n rational_scalars rational_scalar_laws k f m h)

  sums_agree : (f f' g g' : P) → Agree f f' → Agree g g' → Agree (f ++ g) (f' ++ g')
  sums_agree f f' g g' a b m h =
      Order.coefficient-append (exps n) (exps_are n) rational_ops rational_laws f g m
      ∙ ap₂ rational_ops.add (a m h) (b m h)
      ∙ sym (Order.coefficient-append (exps n) (exps_are n) rational_ops rational_laws f' g' m)

  negatives_agree : (f g : P) → Agree f g → Agree ((polynomials n).neg f) ((polynomials n).neg g)
  negatives_agree f g a m h =
      Order.coefficient-neg (exps n) (exps_are n) rational_ops rational_laws f m ∙ ap rational_ops.neg (a m h) ∙ sym (Order.coefficient-neg (exps n) (exps_are n) rational_ops rational_laws g m)

  multiples_agree : (a : Rational) (f g : P) → Agree f g → Agree (scale (exps n) rational_ops a f) (scale (exps n) rational_ops a g)
  multiples_agree a f g e m h =
      coefficient-scale (exps n) (exps_are n) rational_ops rational_laws a f m ∙ ap (rational_ops.mul a) (e m h) ∙ sym (coefficient-scale (exps n) (exps_are n) rational_ops rational_laws a g m)

  -- the jet respects all operations
  pub jets_respect : Respects (polynomials n) (jets n k) (jet_of n k)
  jets_respect = record {
    variable = λ i. refl;
    number = λ a. refl;
    neg = λ f. one ((polynomials n).neg f) ((polynomials n).neg (jet_of n k f)) (negatives_agree f (jet_of n k f) (own f));
    add = λ f g. one (f ++ g) (jet_of n k f ++ jet_of n k g) (sums_agree f (jet_of n k f) g (jet_of n k g) (own f) (own g));
    mul = λ f g. one ((polynomials n).mul f g) ((polynomials n).mul (jet_of n k f) (jet_of n k g)) (Order.times_same_to (exps n) (exps_are n) rational_ops rational_laws k f (jet_of n k f) g (jet_of n k g) (own f) (own g));
    over = λ f d. one ((polynomials n).over f d) ((polynomials n).over (jet_of n k f) d) (multiples_agree (one_over d) f (jet_of n k f) (own f));
    power = λ f e. one ((polynomials n).power f e) ((polynomials n).power (jet_of n k f) e) (power_same_to (exps n) (exps_are n) rational_ops rational_laws k f (jet_of n k f) (own f) e);
  }

  -- what is high for jets is high up to order k
  pub jets_reflect : ReflectsHigh (high_to n k) (high_jets n k) (jet_of n k)
  jets_reflect = record { sum = λ f g h. h; product = λ f g h. h; quotient = λ f d h. h }

  -- the jet of the value is the value in jets
  pub jet-value : (names : List Word) (e : Expr) → jet_of n k (expr_value (polynomials n) names e) ≡ expr_value (jets n k) names e
  jet-value names e = respects_expr (polynomials n) (jets n k) (jet_of n k) jets_respect names e

  -- a high operation on jets is one up to order k
  pub high_value : (names : List Word) (e : Expr) → IsExprHigh (jets n k) (high_jets n k) names e → IsExprHigh (polynomials n) (high_to n k) names e
  high_value names e h = reflects_expr (polynomials n) (jets n k) (jet_of n k) jets_respect (high_to n k) (high_jets n k) jets_reflect names e h

  -- powers of jets: the 0th is 1, and exponents add up
  pub power_none : (f : P) → (jets n k).power f 0 ≡ (jets n k).number 1
  power_none f = refl

  pub power_together : (f : P) (a b : ℕ) → (jets n k).power f (a + b) ≡ (jets n k).mul ((jets n k).power f a) ((jets n k).power f b)
  power_together f a b =
      one ((polynomials n).power f (a + b)) ((polynomials n).mul ((polynomials n).power f a) ((polynomials n).power f b)) (λ m h. power-plus (exps n) (exps_are n) rational_ops rational_laws f a b m)
      ∙ jets_respect.mul ((polynomials n).power f a) ((polynomials n).power f b)

  -- the first power of a jet is the jet
  pub power_one : (f : P) → f ≡ jet_of n k f → (jets n k).power f 1 ≡ f
  power_one f e =
      one ((polynomials n).power f 1) f (λ m h. PolyRing.times_comm (exps n) (exps_are n) rational_ops rational_laws (constant (exps n) rational_ops rational_ops.one) f m ∙ PolyRing.times_one (exps n) (exps_are n) rational_ops rational_laws f m)
      ∙ sym e
