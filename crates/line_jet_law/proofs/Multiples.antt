-- The heights of a multiple of a jet.
use Rattle.std.proofs.Common.{ℕ, ◌^◌, ◌<◌, ◌≤◌, List, map, length, get_or, sym, subst}
use Rattle.std.proofs.lemmas.List.{get_or-map, length-map}
use Rattle.ring_theory.specs.Height.{rational_scalars}
use Rattle.ring_law.specs.declared.fraction.Frac.{Frac}
use Rattle.ring_law.specs.Fraction.{frac_value}
use Rattle.poly_law.specs.ExpList.{exps}
use Rattle.mono_exp.specs.declared.exponent.Exp.{Exp}
use Rattle.jet_law.specs.Terms.{exp_of, poly_of}
use Rattle.jet_law.specs.Heights.{IsHigh, scale_heights}
use Rattle.jet_law.proofs.High.{high_tail, high_mapped}

-- a high product with some coefficient is in the list of heights
pub scale_high : (n : ℕ) (f : List (Exp × Frac)) (q : Frac) (i : ℕ) (d : Exp × Frac) → i < length f → 2 ^ 120 ≤ rational_scalars.product_height (frac_value q) (frac_value (get_or f i d).1)
    → IsHigh (scale_heights (exps n) rational_scalars (frac_value q) (poly_of n frac_value f))
unfolding scale_heights
scale_high n f q i d h high =
    let value : Exp × Frac → _ = λ t. (exp_of n t.0, frac_value t.1) in
    let here = sym (get_or-map value f i d (value (get_or f i d)) h) in
    high_tail (rational_scalars.height (frac_value q)) (map (λ t. rational_scalars.product_height (frac_value q) t.1) (poly_of n frac_value f))
    (high_mapped (λ t. rational_scalars.product_height (frac_value q) t.1) (poly_of n frac_value f) i (value (get_or f i d)) (subst (λ l. i < l) (sym (length-map f value)) h) here high)
