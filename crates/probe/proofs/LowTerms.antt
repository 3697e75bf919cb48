-- Terms of degree at least 2.
use Rattle.std.proofs.Common.{ℕ, suc, ◌≤◌, List, [], ◌∷◌, sum, arith}
use Rattle.std.specs.List.{AllByRecursion, All}
use Rattle.poly_law.specs.Exps.{degree}
use Rattle.poly_law.specs.ExpList.{exps}
use Rattle.mono_exp.specs.declared.exponent.Exp.{Exp}
use Rattle.mono_exp.specs.Exponents.{IsIn}
use Rattle.jet_law.specs.Terms.{poly_of}
use Rattle.jet_law.proofs.TermLemmas.{degree-exp_of}

pub low_terms : {E V : Type 0} (n : ℕ) (value : E → V) (ts : List (Exp × E)) → All (λ t. IsIn n t.0.e) ts → All (λ t. 2 ≤ sum t.0.e) ts → AllByRecursion (λ t. 2 ≤ degree (exps n) t.0) (poly_of n value ts)
low_terms n value [] unused low = tt
low_terms n value (t ∷ ts) unused low = (
  (let d = degree-exp_of n t.0 (unused 0 t (omega arith)) in let h = low 0 t (omega arith) in omega arith),
  low_terms n value ts (λ i d h. unused (suc i) d (omega arith)) (λ i d h. low (suc i) d (omega arith)),
)
