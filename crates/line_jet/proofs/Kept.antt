-- The terms that are kept, one term more.
use Rattle.std.proofs.Common.{◌≡◌, ℕ, ◌+◌, ◌<◌, List, [], ◌∷◌, ◌++◌, get_or, take, length, sym, ap, ◌∙◌}
use Rattle.ring_law.specs.declared.fraction.Frac.{Frac}
use Rattle.mono_exp.specs.declared.exponent.Exp.{Exp}
use Rattle.line_jet_law.specs.LineJets.{positive_terms}
use Rattle.line_jet_law.proofs.LinearTerms.{more_kept}

-- what is kept of the first i + 1 terms
pub next_kept : (f : List (Exp × Frac)) (i : ℕ) (d : Exp × Frac) (old new : List (Exp × Frac)) → i < length f → old ≡ positive_terms (take i f) → new ≡ old ++ positive_terms (get_or f i d ∷ [])
    → new ≡ positive_terms (take (i + 1) f)
next_kept f i d old new h a b = b ∙ ap (λ z. z ++ positive_terms (get_or f i d ∷ [])) a ∙ sym (more_kept f i d h)
