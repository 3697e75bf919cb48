-- One step of the loop over the factors of a monomial.
use Rattle.std.proofs.Common.{◌≡◌, ℕ, ◌+◌, ◌<◌, ◌≤◌, List, [], ◌∷◌, ◌++◌, length, drop, get_or, refl, sym, ap, ◌∙◌, append_assoc, arith}
use Rattle.std.proofs.lemmas.List.{drop_more, drop_all}
use Rattle.poly_text.specs.declared.name.Name.{Name}
use Rattle.poly_text.specs.Polynomials.{factor_text, factors_text}

-- what was written, and the text of what is left
pub goes_on : (first out piece more rest all new : List ℕ) → out ++ more ≡ first ++ all → more ≡ piece ++ rest → new ≡ out ++ piece → new ++ rest ≡ first ++ all
goes_on first out piece more rest all new so_far step wrote =
    ap (λ (x : List ℕ). x ++ rest) wrote ∙ append_assoc out piece rest ∙ ap (λ (x : List ℕ). out ++ x) (sym step) ∙ so_far

-- a name with its exponent
pub factors_step : (i : ℕ) (names : List Name) (es : List ℕ) (d : Name) (z : ℕ) → i < length names → i < length es
    → factors_text (drop i names) (drop i es) ≡ factor_text (get_or names i d) (get_or es i z) ++ factors_text (drop (i + 1) names) (drop (i + 1) es)
unfolding factors_text
factors_step i names es d z a b = rw (drop_more names i d a, drop_more es i z b) refl

factors_none : (names : List Name) → factors_text names [] ≡ []
unfolding factors_text
factors_none [] = refl
factors_none (name ∷ names) = refl

-- a name past the last exponent
pub factors_past : (i : ℕ) (names : List Name) (es : List ℕ) → length es ≤ i → factors_text (drop i names) (drop i es) ≡ factors_text (drop (i + 1) names) (drop (i + 1) es)
factors_past i names es le =
    let a : drop i es ≡ [] = drop_all i es le in
    let b : drop (i + 1) es ≡ [] = drop_all (i + 1) es (omega arith) in
    rw (a, b) (factors_none (drop i names) ∙ sym (factors_none (drop (i + 1) names)))
