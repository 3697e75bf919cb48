-- Tests on the residual terms.
use Rattle.std.proofs.Common.{◌≡◌, ℕ, Bool, true, false, cond, ◌&&◌, ◌||◌, List, [], ◌∷◌, refl, sym, ap, ◌∙◌, map}
use Rattle.std.specs.Prelude.{not, IsTrue}
use Rattle.std.specs.List.{list_all}
use Rattle.std.specs.Prelude.{◌==◌}
use Rattle.std.specs.List.{list_any}
use Rattle.std.specs.Str.{bytes_eq}
use Rattle.std.proofs.lemmas.Bool.{eqb-true}
use Rattle.normal_forms.specs.declared.family.Family.{Family}
use Rattle.normal_forms.specs.declared.family.Family.TheVariants as families
use Rattle.normal_forms.specs.Families.{corank_of, sum_of, has_numbers}
use Rattle.normal_forms.specs.Monomials.{in_eight, is_one_of}
use Rattle.normal_forms.specs.Forms.{IsFormOf}
use Rattle.mono_exp.specs.declared.exponent.Exp.{Exp}
use Rattle.normal_forms.specs.declared.pattern.Pattern.{Pattern}
use Rattle.normal_forms.specs.Patterns.{has_corank}
use Rattle.normal_forms.specs.Monomials.{monomials_in, is_residual, is_split, residual_terms}
use Rattle.normal_forms.specs.Forms.{admits_monomial, IsPatternOf}

one_term : {E : Type 0} (q : Exp → Bool) (b : Bool) (t : Exp × E) (rest : List (Exp × E)) (more : Bool) → list_all q (monomials_in rest) ≡ more
    → list_all q (monomials_in (cond b (t ∷ rest) rest)) ≡ ((not b || q t.0) && more)
one_term q true t rest more e = ap (λ (z : Bool). q t.0 && z) e
one_term q false t rest more e = e

-- a test of the residual terms, over all terms
pub residual_all : {E : Type 0} (q : Exp → Bool) (c : ℕ) (terms : List (Exp × E)) → list_all q (monomials_in (residual_terms c terms)) ≡ list_all (λ t. not (is_residual c t.0) || q t.0) terms
unfolding residual_terms
residual_all q c [] = refl
residual_all q c (t ∷ ts) = one_term q (is_residual c t.0) t (residual_terms c ts) (list_all (λ u. not (is_residual c u.0) || q u.0) ts) (residual_all q c ts)

-- the third test says whether terms are in the pattern, where the others hold
pub pattern_by : {E : Type 0} (p : Pattern) (n c : ℕ) (terms : List (Exp × E)) (a b d : Bool) → a ≡ has_corank p c → b ≡ is_split n c terms
    → d ≡ list_all (λ t. not (is_residual c t.0) || admits_monomial p t.0) terms → a ≡ true → b ≡ true
    → (IsTrue d → IsPatternOf p n c terms) × (IsPatternOf p n c terms → IsTrue d)
pattern_by p n c terms a b d ea eb ed ta tb = (
  (λ td. record { corank = sym ea ∙ ta; split = sym eb ∙ tb; monomials = residual_all (admits_monomial p) c terms ∙ sym ed ∙ td }),
  (λ is. ed ∙ sym (residual_all (admits_monomial p) c terms) ∙ is.monomials),
)

-- a family without numbers in its name
pub plain_family : (f : Family) → ((x : ℕ) → f ≡ families.A x → ⊥) → ((x : ℕ) → f ≡ families.D x → ⊥) → ((x y z : ℕ) → f ≡ families.T x y z → ⊥) → has_numbers f ≡ false
plain_family (families.A m) a b d = absurd (a m refl)
plain_family (families.D m) a b d = absurd (b m refl)
plain_family (families.T p q r) a b d = absurd (d p q r refl)
plain_family _ a b d = refl

-- a monomial among those with these exponents
pub any_of_powers : (m : Exp) (es : List (List ℕ)) → list_any (λ e. bytes_eq m.e (in_eight e).e) es ≡ is_one_of (map in_eight es) m
any_of_powers m [] = refl
any_of_powers m (e ∷ es) = ap (λ (b : Bool). bytes_eq m.e (in_eight e).e || b) (any_of_powers m es)

-- the third test says whether terms are a form of the family, where the others hold
pub form_by : {E : Type 0} (f : Family) (n c : ℕ) (terms : List (Exp × E)) (a b d : Bool) → a ≡ (c == corank_of f) → b ≡ is_split n c terms
    → d ≡ list_all (λ t. not (is_residual c t.0) || is_one_of (map in_eight (sum_of f)) t.0) terms → a ≡ true → b ≡ true
    → (IsTrue d → IsFormOf f n c terms) × (IsFormOf f n c terms → IsTrue d)
form_by f n c terms a b d ea eb ed ta tb = (
  (λ td. record { corank = eqb-true c (corank_of f) (sym ea ∙ ta); split = sym eb ∙ tb; monomials = residual_all (is_one_of (map in_eight (sum_of f))) c terms ∙ sym ed ∙ td }),
  (λ is. ed ∙ sym (residual_all (is_one_of (map in_eight (sum_of f))) c terms) ∙ is.monomials),
)
