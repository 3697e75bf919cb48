-- The pair rule with the steps after it, from what the program finds.
use Rattle.std.proofs.Common.{◌≡◌, ℕ, Some, None, List, map, sym, ap, subst, ◌∙◌}
use Rattle.std.specs.Prelude.{Result, Ok, Err, IfOk}
use Rattle.ring_theory.specs.Rational.{Rational}
use Rattle.ring_law.specs.Fraction.{frac_value, rational_meaning}
use Rattle.ring_law.specs.declared.fraction.Frac.{Frac}
use Rattle.ring_law.specs.declared.fraction.Fault.{Fault}
use Rattle.poly_law.specs.Polynomials.{Polynomial}
use Rattle.mono_exp.specs.Exponents.{exponents}
use Rattle.ternary_law.specs.Matrices.{Matrix}
use Rattle.ternary_law.specs.Routes.{Step}
use Rattle.ternary_law.specs.Pairs.{Pair, IsPair}
use Rattle.ternary_law.proofs.Roots.{pair_unique}
use Rattle.tern_cubic.specs.declared.moving.Moving.{Moving}
use Rattle.tern_cubic.specs.declared.pairing.PairMove.{PairMove}
use Rattle.tern_cubic.specs.declared.pairing.PairMove.TheVariants as moves
use Rattle.tern_cubic.specs.Moving.{AfterSteps}
use Rattle.tern_cubic.specs.Pairs.{IsPlain, IsEnded, IsPlainMove, paired, paired_cubic, IsPairMove}
use Rattle.tern_cubic.proofs.ReachingLemmas.{monomials_are}

module _ (a : Matrix Rational) (g : Polynomial 3 Rational) (steps : List (Step Rational)) (monomials : List (List ℕ)) where
  -- the steps are made, and the monomials are those
  pub is_ended : (w : Moving Frac) → AfterSteps rational_meaning steps a g (Some w) → map (λ t. exponents 3 t.0.e) w.form.terms ≡ monomials → IsEnded a g steps monomials (Some w.change)
  is_ended w h e = (h.0.change, h.1, ap (map (λ t. t.0.entries)) (sym h.0.form.polynomial) ∙ monomials_are frac_value w.form.terms ∙ e)

  -- they are others
  pub is_missed : (w : Moving Frac) → AfterSteps rational_meaning steps a g (Some w) → (map (λ t. exponents 3 t.0.e) w.form.terms ≡ monomials → ⊥) → IsEnded a g steps monomials None
  is_missed w h other divisors e = absurd (other (sym (ap (map (λ t. t.0.entries)) (sym h.0.form.polynomial) ∙ monomials_are frac_value w.form.terms) ∙ e))

module _ (v : Matrix Rational) (g : Polynomial 3 Rational) (c : List Rational) (i j : ℕ) (steps : List (Step Rational)) (monomials : List (List ℕ)) where
  -- a case of the rule with its move
  by_case : (p : Pair) → IsPlain p → IsPair c p → (r : PairMove) → IsPlainMove (paired v g c i j steps p) (paired_cubic v g c i j steps p) steps monomials r → IsPairMove v g c i j steps monomials r
  by_case p plain pair (moves.Plain change) h = (p, plain, pair, h)
  by_case p plain pair (moves.Over a) h = absurd h
  by_case p plain pair moves.Neither h = λ s other.
      subst (λ s. IsPlain s × IsEnded (paired v g c i j steps s) (paired_cubic v g c i j steps s) steps monomials None) (pair_unique c p s pair other) (plain, h)

  pub by_answer : (p : Pair) → IsPlain p → IsPair c p → (r : Result PairMove Fault) → IfOk r (IsPlainMove (paired v g c i j steps p) (paired_cubic v g c i j steps p) steps monomials)
      → IfOk r (IsPairMove v g c i j steps monomials)
  by_answer p plain pair (Ok r) h = by_case p plain pair r h
  by_answer p plain pair (Err e) h = tt

  -- no case of the rule holds
  pub no_case : ((p : Pair) → IsPair c p → ⊥) → IsPairMove v g c i j steps monomials moves.Neither
  no_case none p pair = absurd (none p pair)
