-- Values of an expression over two kinds of operations, where a map between them respects the operations.
use Rattle.std.proofs.Common.{◌≡◌, ℕ, List, inl, inr, refl, sym, ap, ap₂, subst, ◌∙◌}
use Rattle.std.specs.List.{position_or_len}
use Rattle.std.specs.Str.{bytes_eq}
use Rattle.line_syntax.specs.Syntax.{Word, Sign, plus, minus, Expr, Term, Factor, Atom, number_of}
use Rattle.line_syntax.specs.Syntax as syntax
use Rattle.line_syntax.specs.Value.{Arithmetic, with_sign, expr_value, term_value, factor_value, atom_value}
use Rattle.line_syntax.specs.High.{HighOperations, IsPowerHigh, IsExprHigh, IsTermHigh, IsFactorHigh, IsAtomHigh}

-- h takes each operation of p to that of q
pub record Respects {V W : Type 0} (p : Arithmetic V) (q : Arithmetic W) (h : V → W) : Type 0 where
  pub variable : (i : ℕ) → h (p.variable i) ≡ q.variable i
  pub number : (n : ℕ) → h (p.number n) ≡ q.number n
  pub neg : (v : V) → h (p.neg v) ≡ q.neg (h v)
  pub add : (v w : V) → h (p.add v w) ≡ q.add (h v) (h w)
  pub mul : (v w : V) → h (p.mul v w) ≡ q.mul (h v) (h w)
  pub over : (v : V) (n : ℕ) → h (p.over v n) ≡ q.over (h v) n
  pub power : (v : V) (n : ℕ) → h (p.power v n) ≡ q.power (h v) n

-- what is high at values that h gives is high at those that it takes
pub record ReflectsHigh {V W : Type 0} (high : HighOperations V) (other : HighOperations W) (h : V → W) : Type 0 where
  pub sum : (v w : V) → other.sum (h v) (h w) → high.sum v w
  pub product : (v w : V) → other.product (h v) (h w) → high.product v w
  pub quotient : (v : V) (n : ℕ) → other.quotient (h v) n → high.quotient v n

module _ {V W : Type 0} (p : Arithmetic V) (q : Arithmetic W) (h : V → W) (k : Respects p q h) (names : List Word) where
  -- the sign is respected
  pub respects_sign : (s : Sign) (v : V) → h (with_sign p names s v) ≡ with_sign q names s (h v)
  respects_sign plus v = refl
  respects_sign minus v = k.neg v

  mutual
    -- the value of an expression is respected
    pub respects_expr : (e : Expr) → h (expr_value p names e) ≡ expr_value q names e
    respects_expr (syntax.first t) = respects_term t
    respects_expr (syntax.signed s t) = respects_sign s (term_value p names t) ∙ ap (with_sign q names s) (respects_term t)
    respects_expr (syntax.sum e s t) =
        k.add (expr_value p names e) (with_sign p names s (term_value p names t))
        ∙ ap₂ q.add (respects_expr e) (respects_sign s (term_value p names t) ∙ ap (with_sign q names s) (respects_term t))

    -- the value of a term is respected
    pub respects_term : (t : Term) → h (term_value p names t) ≡ term_value q names t
    respects_term (syntax.factor f) = respects_factor f
    respects_term (syntax.product t f) = k.mul (term_value p names t) (factor_value p names f) ∙ ap₂ q.mul (respects_term t) (respects_factor f)
    respects_term (syntax.quotient t d) = k.over (term_value p names t) (number_of d) ∙ ap (λ v. q.over v (number_of d)) (respects_term t)

    -- the value of a factor is respected
    pub respects_factor : (f : Factor) → h (factor_value p names f) ≡ factor_value q names f
    respects_factor (syntax.plain a) = respects_atom a
    respects_factor (syntax.power a d) = k.power (atom_value p names a) (number_of d) ∙ ap (λ v. q.power v (number_of d)) (respects_atom a)

    -- the value of an atom is respected
    pub respects_atom : (a : Atom) → h (atom_value p names a) ≡ atom_value q names a
    respects_atom (syntax.variable x) = k.variable (position_or_len (bytes_eq x) names)
    respects_atom (syntax.natural d) = k.number (number_of d)
    respects_atom (syntax.group e) = respects_expr e

module _ {V W : Type 0} (p : Arithmetic V) (q : Arithmetic W) (h : V → W) (k : Respects p q h) (high : HighOperations V) (other : HighOperations W) (r : ReflectsHigh high other h) (names : List Word) where
  -- a high power is reflected
  reflects_power : (v : V) (e : ℕ) → IsPowerHigh q other (h v) e → IsPowerHigh p high v e
  reflects_power v e z = record {
    first = z.first;
    second = z.second;
    together = z.together;
    is_high = r.product (p.power v z.first) (p.power v z.second) (subst (λ u. other.product u (h (p.power v z.second))) (sym (k.power v z.first)) (subst (λ u. other.product (q.power (h v) z.first) u) (sym (k.power v z.second)) z.is_high));
  }

  -- the signed value of a term is respected
  signed_term : (s : Sign) (t : Term) → h (with_sign p names s (term_value p names t)) ≡ with_sign q names s (term_value q names t)
  signed_term s t = respects_sign p q h k names s (term_value p names t) ∙ ap (with_sign q names s) (respects_term p q h k names t)

  mutual
    -- a high operation in an expression is reflected
    pub reflects_expr : (e : Expr) → IsExprHigh q other names e → IsExprHigh p high names e
    reflects_expr (syntax.first t) z = reflects_term t z
    reflects_expr (syntax.signed s t) z = reflects_term t z
    reflects_expr (syntax.sum e s t) (inl z) = inl (reflects_expr e z)
    reflects_expr (syntax.sum e s t) (inr (inl z)) = inr (inl (reflects_term t z))
    reflects_expr (syntax.sum e s t) (inr (inr z)) =
        inr (inr (r.sum (expr_value p names e) (with_sign p names s (term_value p names t))
        (subst (λ u. other.sum u (h (with_sign p names s (term_value p names t)))) (sym (respects_expr p q h k names e))
        (subst (λ u. other.sum (expr_value q names e) u) (sym (signed_term s t)) z))))

    -- a high operation in a term is reflected
    pub reflects_term : (t : Term) → IsTermHigh q other names t → IsTermHigh p high names t
    reflects_term (syntax.factor f) z = reflects_factor f z
    reflects_term (syntax.product t f) (inl z) = inl (reflects_term t z)
    reflects_term (syntax.product t f) (inr (inl z)) = inr (inl (reflects_factor f z))
    reflects_term (syntax.product t f) (inr (inr z)) =
        inr (inr (r.product (term_value p names t) (factor_value p names f)
        (subst (λ u. other.product u (h (factor_value p names f))) (sym (respects_term p q h k names t))
        (subst (λ u. other.product (term_value q names t) u) (sym (respects_factor p q h k names f)) z))))
    reflects_term (syntax.quotient t d) (inl z) = inl (reflects_term t z)
    reflects_term (syntax.quotient t d) (inr z) =
        inr (r.quotient (term_value p names t) (number_of d) (subst (λ u. other.quotient u (number_of d)) (sym (respects_term p q h k names t)) z))

    -- a high operation in a factor is reflected
    pub reflects_factor : (f : Factor) → IsFactorHigh q other names f → IsFactorHigh p high names f
    reflects_factor (syntax.plain a) z = reflects_atom a z
    reflects_factor (syntax.power a d) (inl z) = inl (reflects_atom a z)
    reflects_factor (syntax.power a d) (inr z) =
        inr (reflects_power (atom_value p names a) (number_of d) (subst (λ u. IsPowerHigh q other u (number_of d)) (sym (respects_atom p q h k names a)) z))

    -- a high operation in an atom is reflected
    pub reflects_atom : (a : Atom) → IsAtomHigh q other names a → IsAtomHigh p high names a
    reflects_atom (syntax.variable x) z = absurd z
    reflects_atom (syntax.natural d) z = absurd z
    reflects_atom (syntax.group e) z = reflects_expr e z
