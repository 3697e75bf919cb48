-- From the jet of a line's steps to what is answered for the line.
use Rattle.std.proofs.Common.{◌≡◌, ℕ, ◌<◌, ◌≤◌, Bool, true, false, cond, min, List, map, length, sym, ap, subst, ◌∙◌, arith}
use Rattle.std.specs.Prelude.{nat_le}
use Rattle.ring_theory.specs.Rational.{rational_ops}
use Rattle.ring_law.specs.declared.fraction.Frac.{Frac}
use Rattle.poly_law.specs.Exps.{variable}
use Rattle.poly_law.specs.ExpList.{exps}
use Rattle.poly_law.specs.Poly.{coefficient}
use Rattle.poly_law.proofs.ExpLists.{exps_are}
use Rattle.poly_law.proofs.ExpLaws
use Rattle.jet_poly.specs.JetTerms.{JetTerms}
use Rattle.line_syntax.specs.Syntax.{Word, Line, names_of, tokens_of}
use Rattle.line_syntax.specs.Value.{expr_value}
use Rattle.line_syntax.specs.High.{IsExprHigh}
use Rattle.line_reader.specs.Steps.{step_of}
use Rattle.line_reader.specs.declared.step.Step.{Step}
use Rattle.line_reader.specs.Refusals.{IsTokensOf}
use Rattle.line_value.specs.Lines.{AreStepsOf}
use Rattle.germ_law.specs.Germ.{polynomial_of, linear_coefficient, without_constant, IsFirstLinear}
use Rattle.germ_law.specs.Reading.{jet_of}
use Rattle.germ_law.specs.Jets.{jets, high_jets}
use Rattle.germ_law.proofs.JetLaws.{own, jet-value, high_value}
use Rattle.line_jet_law.specs.LineJets.{order_limit, IsRationalJet, rational_polynomial, has_linear}
use Rattle.line_jet.specs.Reads.{order_of, IsGermOf, IsReadGerm, IsReadHigh, IsReadLinear}
use Rattle.line_jet_law.proofs.LinearTerms.{linear_zero, linear_nonzero, without_constant_agrees}

-- the order is at least 1 and at most 17
limit_cases : (P : ℕ → Type 0) (b : Bool) (x y : ℕ) → P x → P y → P (cond b x y)
limit_cases P true x y p q = p
limit_cases P false x y p q = q

min_low : (a : ℕ) → 3 ≤ a → 1 ≤ min a 12
min_low a h = grind arith

min_high : (a : ℕ) → a ≤ 16 → min a 12 ≤ 17
min_high a h = grind arith

pub order_at_least_1 : (limit n : ℕ) → 3 ≤ limit → 1 ≤ order_limit limit n
order_at_least_1 limit n h = limit_cases (λ k. 1 ≤ k) (nat_le n 4) limit (min limit 12) (omega arith) (min_low limit h)

pub order_at_most_17 : (limit n : ℕ) → limit ≤ 16 → order_limit limit n ≤ 17
order_at_most_17 limit n h = limit_cases (λ k. k ≤ 17) (nat_le n 4) limit (min limit 12) (omega arith) (min_high limit h)

-- the steps of the tokens are those of the line
pub line_steps : (bytes : List ℕ) (names : List Word) (steps : List Step) (n : ℕ) → length names ≡ n → (t : IsTokensOf bytes names steps) → AreStepsOf n t.line steps
line_steps bytes names steps n e t = record {
  is_line = t.spells.is_line;
  names_are = ap length t.names_are ∙ e;
  steps_are = t.steps_are ∙ ap (λ ns. map (step_of ns) (tokens_of t.line)) (sym t.names_are);
}

pub few_names : (bytes : List ℕ) (names : List Word) (steps : List Step) → IsTokensOf bytes names steps → length names ≤ 8
few_names bytes names steps t = subst (λ ns. length ns ≤ 8) t.names_are t.spells.is_line.few_names

-- ---- a high reading

pub high_read : (bytes : List ℕ) (names : List Word) (steps : List Step) (limit n : ℕ) → length names ≡ n → (t : IsTokensOf bytes names steps)
    → IsExprHigh (jets n (order_limit limit n)) (high_jets n (order_limit limit n)) (names_of t.line) t.line.body → IsReadHigh bytes limit
high_read bytes names steps limit n e t h =
    let same : n ≡ length (names_of t.line) = sym e ∙ ap length (sym t.names_are) in
    record {
      line = t.line;
      spells = t.spells;
      small = t.small;
      is_high = high_value (length (names_of t.line)) (order_of limit t.line) (names_of t.line) t.line.body
          (subst (λ m. IsExprHigh (jets m (order_limit limit m)) (high_jets m (order_limit limit m)) (names_of t.line) t.line.body) same h);
    }

-- ---- the value

-- f is the jet of the line's value, in n variables
pub record IsValueJet (limit n : ℕ) (l : Line) (f : JetTerms Frac) : Type 0 where
  pub is_jet : IsRationalJet n (order_limit limit n) f
  pub value_is : rational_polynomial n f ≡ expr_value (jets n (order_limit limit n)) (names_of l) l.body

-- g is f without its constant term
pub record IsWithout (limit n : ℕ) (f g : JetTerms Frac) : Type 0 where
  pub is_jet : IsRationalJet n (order_limit limit n) g
  pub terms_are : rational_polynomial n g ≡ without_constant n (rational_polynomial n f)

module _ (limit : ℕ) (low : 3 ≤ limit) (l : Line) where
  abbrev N : ℕ
  N = length (names_of l)

  abbrev K : ℕ
  K = order_of limit l

  value_agrees : (f : JetTerms Frac) → IsValueJet limit N l f → rational_polynomial N f ≡ jet_of N K (polynomial_of l)
  value_agrees f v = v.value_is ∙ sym (jet-value N K (names_of l) l.body)

  -- the linear coefficients of the line are those of the jet
  linear_is : (f : JetTerms Frac) (i : ℕ) → IsValueJet limit N l f → i < N → linear_coefficient l i ≡ coefficient (exps N) rational_ops (rational_polynomial N f) (variable (exps N) i)
  linear_is f i v h =
      let one = ExpLaws.degree-variable (exps N) (exps_are N) i h in
      let order = order_at_least_1 limit N low in
      own N K (polynomial_of l) (variable (exps N) i) (omega arith) ∙ ap (λ p. coefficient (exps N) rational_ops p (variable (exps N) i)) (sym (value_agrees f v))

  -- no linear term: a critical line
  critical_here : (f : JetTerms Frac) → IsValueJet limit N l f → ((j : ℕ) → j < N → has_linear j f.terms ≡ false) → (i : ℕ) → i < N → linear_coefficient l i ≡ rational_ops.zero
  critical_here f v none i h = linear_is f i v h ∙ linear_zero N K i f h v.is_jet (none i h)

  -- the germ
  germ_here : (f g : JetTerms Frac) → IsValueJet limit N l f → IsWithout limit N f g → IsGermOf limit l g
  germ_here f g v w = record {
    is_jet = w.is_jet;
    germ = λ m d. ap (λ p. coefficient (exps N) rational_ops p m) (w.terms_are ∙ ap (without_constant N) (value_agrees f v))
        ∙ without_constant_agrees N K (jet_of N K (polynomial_of l)) (polynomial_of l) (λ m d. sym (own N K (polynomial_of l) m d)) m d;
  }

  -- the first linear term
  linear_here : (f : JetTerms Frac) (i : ℕ) → IsValueJet limit N l f → i < N → has_linear i f.terms ≡ true → ((j : ℕ) → j < i → has_linear j f.terms ≡ false) → IsFirstLinear l i
  linear_here f i v h there before = record {
    within = h;
    linear = λ e. linear_nonzero N K i f h v.is_jet there (sym (linear_is f i v h) ∙ e);
    first = λ j less. linear_is f j v (omega arith) ∙ linear_zero N K j f (omega arith) v.is_jet (before j less);
  }

-- a germ is answered
pub germ_read : (bytes : List ℕ) (names : List Word) (steps : List Step) (limit n : ℕ) → length bytes ≤ 65536 → 3 ≤ limit → length names ≡ n → (t : IsTokensOf bytes names steps) (f g : JetTerms Frac)
    → IsValueJet limit n t.line f → ((j : ℕ) → j < n → has_linear j f.terms ≡ false) → IsWithout limit n f g → IsReadGerm bytes limit names g
germ_read bytes names steps limit n short low e t f g v none w =
    let same : n ≡ length (names_of t.line) = sym e ∙ ap length (sym t.names_are) in
    let v' = subst (λ m. IsValueJet limit m t.line f) same v in
    record {
      line = t.line;
      critical = record { short = short; spells = t.spells; small = t.small; critical = critical_here limit low t.line f v' (subst (λ m. (j : ℕ) → j < m → has_linear j f.terms ≡ false) same none) };
      names_are = t.names_are;
      is_germ = germ_here limit low t.line f g v' (subst (λ m. IsWithout limit m f g) same w);
    }

-- a linear coefficient is answered
pub linear_read : (bytes : List ℕ) (names : List Word) (steps : List Step) (limit n : ℕ) → 3 ≤ limit → length names ≡ n → (t : IsTokensOf bytes names steps) (f : JetTerms Frac) (i : ℕ)
    → IsValueJet limit n t.line f → i < n → has_linear i f.terms ≡ true → ((j : ℕ) → j < i → has_linear j f.terms ≡ false) → IsReadLinear bytes names i
linear_read bytes names steps limit n low e t f i v h there before =
    let same : n ≡ length (names_of t.line) = sym e ∙ ap length (sym t.names_are) in
    record {
      line = t.line;
      spells = t.spells;
      small = t.small;
      names_are = t.names_are;
      first = linear_here limit low t.line f i (subst (λ m. IsValueJet limit m t.line f) same v) (subst (λ m. i < m) same h) there before;
    }
