-- The terms of a polynomial that was read, and orders and variables of lists of jets.
use Rattle.std.proofs.Common.{◌≡◌, ℕ, ◌<◌, true, List, [], ◌∷◌, length, arith}
use Rattle.std.specs.List.{AllByRecursion, All, list_all}
use Rattle.std.proofs.lemmas.List.Elements.{All-from_recursion}
use Rattle.ring_theory.specs.Scalars.{Meaning}
use Rattle.ring_law.specs.declared.fraction.Frac.{Frac}
use Rattle.ext_algebra.specs.declared.algebra.Algebra.{Algebra}
use Rattle.ext_algebra.specs.declared.algebra.Ext.{Ext}
use Rattle.ext_algebra.specs.Algebra.{IsElement}
use Rattle.mono_exp.specs.declared.exponent.Exp.{Exp}
use Rattle.mono_exp.specs.Exponents.{IsIn}
use Rattle.jet_poly.specs.JetTerms.{JetTerms}
use Rattle.jet_subst.specs.Parts.{IsPart, variables_of}
use Rattle.cert_text.specs.WellFormed.{is_term_of}
use Rattle.report_jet.proofs.ReportJets.{IsTermOver, terms_over}

-- what holds of each element of the algebra holds of the coefficients
pub elements_of : (n order : ℕ) (a : Algebra) (P : Ext Frac → Type 0) → ((e : Ext Frac) → IsElement a e → P e) → (ts : List (Exp × Ext Frac)) → list_all (is_term_of n order a) ts ≡ true → All (λ t. P t.1) ts
elements_of n order a P f ts h = All-from_recursion (λ t. P t.1) ts (each ts (terms_over n order a ts h))
  where
    each : (ts : List (Exp × Ext Frac)) → AllByRecursion (IsTermOver n order a) ts → AllByRecursion (λ t. P t.1) ts
    each [] all = tt
    each (t ∷ ts) all = (f t.1 all.0.elem, each ts all.1)

-- the monomials are in the first n variables
pub inside_of : (n order : ℕ) (a : Algebra) (ts : List (Exp × Ext Frac)) → list_all (is_term_of n order a) ts ≡ true → All (λ t. IsIn n t.0.e) ts
inside_of n order a ts h = All-from_recursion (λ t. IsIn n t.0.e) ts (each ts (terms_over n order a ts h))
  where
    each : (ts : List (Exp × Ext Frac)) → AllByRecursion (IsTermOver n order a) ts → AllByRecursion (λ t. IsIn n t.0.e) ts
    each [] all = tt
    each (t ∷ ts) all = (all.0.inside, each ts all.1)

-- the number of variables of the jets of a list that is not empty
pub variables_are : {E V : Type 0} (m : Meaning E V) (n : ℕ) (parts : List (JetTerms E)) → 0 < length parts → All (IsPart m n) parts → variables_of parts ≡ n
variables_are m n [] h all = absurd (omega arith)
variables_are m n (p ∷ ps) h all = (all 0 p (omega arith)).variables
