-- The multipliers that a combination of multiples gives.
use Rattle.std.proofs.Common.{◌≡◌, ◌≢◌, ℕ, ◌<◌, ◌≤◌, Bool, true, false, cond, eqb, eqb-true, List, [], ◌∷◌, length, map, sum, refl, sym, ◌∙◌, arith}
use Rattle.std.specs.List.{filter, All, AllByRecursion}
use Rattle.std.proofs.lemmas.List.Elements.{All-from_recursion}
use Rattle.ring_theory.specs.Scalars.{Meaning}
use Rattle.poly_law.specs.Exps.{degree}
use Rattle.poly_law.specs.ExpList.{exps}
use Rattle.mono_exp.specs.declared.exponent.Exp.{Exp}
use Rattle.mono_exp.specs.Exponents.{IsIn}
use Rattle.jet_law.specs.Terms.{poly_of}
use Rattle.jet_law.proofs.TermLemmas.{degree-exp_of}
use Rattle.jet_poly.specs.JetTerms as jets
use Rattle.jet_poly.specs.Jets.{IsJet}
use Rattle.lin_row.specs.Lines.{AllAfter, AllBelow, AllUnits, IsRising}
use Rattle.jacobian_row.specs.Multiples.{AreMultiples}
use Rattle.jacobian_row.specs.Multipliers.{multiple_at, terms_of}
use Rattle.jacobian_row.specs.declared.multiple.Multiple.{Multiple}
use Rattle.jacobian_row.proofs.MultipleOrder.{factors_rise, factor_from, factor_to}

-- a jet by its parts
abbrev pub jet_of : {E : Type 0} → ℕ → ℕ → List (Exp × E) → jets.JetTerms E
jet_of n k terms = record { n = n; order = k; terms = terms }

module _ {E : Type 0} (n low high : ℕ) (small : n ≤ 8) (ms : List Multiple) (are : AreMultiples n low high ms) (i : ℕ) where
  terms_after : (c : ℕ) (cs : List (ℕ × E)) → c < length ms → (multiple_at ms c).variable ≡ i → AllAfter c cs → AllBelow (length ms) cs → jets.AllAfter (multiple_at ms c).factor (terms_of ms cs i)
  terms_after c [] within same after below = tt
  terms_after c (t ∷ cs) within same after below = step (eqb (multiple_at ms t.0).variable i) refl (terms_after c cs within same after.1 below.1)
    where
      step : (b : Bool) → eqb (multiple_at ms t.0).variable i ≡ b → jets.AllAfter (multiple_at ms c).factor (terms_of ms cs i)
          → jets.AllAfter (multiple_at ms c).factor (map (λ t. ((multiple_at ms t.0).factor, t.1)) (cond b (t ∷ filter (λ t. eqb (multiple_at ms t.0).variable i) cs) (filter (λ t. eqb (multiple_at ms t.0).variable i) cs)))
      step true e r = (factors_rise n low high ms are small c t.0 (record { factor = record { e = [] }; variable = 0 }) after.0 below.0 (same ∙ sym (eqb-true (multiple_at ms t.0).variable i e)), r)
      step false e r = r

  -- the terms of a multiplier are in the monomial order
  pub terms_rise : (cs : List (ℕ × E)) → IsRising cs → AllBelow (length ms) cs → jets.IsRising (terms_of ms cs i)
  terms_rise [] rising below = tt
  terms_rise (t ∷ cs) rising below = step (eqb (multiple_at ms t.0).variable i) refl (terms_rise cs rising.1 below.1)
    where
      step : (b : Bool) → eqb (multiple_at ms t.0).variable i ≡ b → jets.IsRising (terms_of ms cs i)
          → jets.IsRising (map (λ t. ((multiple_at ms t.0).factor, t.1)) (cond b (t ∷ filter (λ t. eqb (multiple_at ms t.0).variable i) cs) (filter (λ t. eqb (multiple_at ms t.0).variable i) cs)))
      step true e r = (terms_after t.0 cs below.0 (eqb-true (multiple_at ms t.0).variable i e) rising.0 below.1, r)
      step false e r = r

-- a term of a multiplier
pub record IsFactorTerm {E V : Type 0} (m : Meaning E V) (n low high : ℕ) (t : Exp × E) : Type 0 where
  pub unused : IsIn n t.0.e
  pub long : length t.0.e ≡ 8
  pub from : low ≤ sum t.0.e
  pub to : sum t.0.e ≤ high
  pub elem : m.is_elem t.1
  pub unit : m.value t.1 ≢ m.scalars.ops.zero

weaker : {X : Type 0} (P Q : X → Type 0) → ((x : X) → P x → Q x) → (xs : List X) → AllByRecursion P xs → AllByRecursion Q xs
weaker P Q f [] a = tt
weaker P Q f (x ∷ xs) a = (f x a.0, weaker P Q f xs a.1)

module _ {E V : Type 0} (m : Meaning E V) (n low high : ℕ) (us : List Multiple) (are : AreMultiples n low high us) (i : ℕ) where
  pub factor_terms : (cs : List (ℕ × E)) → AllUnits m cs → AllBelow (length us) cs → AllByRecursion (IsFactorTerm m n low high) (terms_of us cs i)
  factor_terms [] units below = tt
  factor_terms (t ∷ cs) units below = step (eqb (multiple_at us t.0).variable i) (factor_terms cs units.1 below.1)
    where
      step : (b : Bool) → AllByRecursion (IsFactorTerm m n low high) (terms_of us cs i)
          → AllByRecursion (IsFactorTerm m n low high) (map (λ t. ((multiple_at us t.0).factor, t.1)) (cond b (t ∷ filter (λ t. eqb (multiple_at us t.0).variable i) cs) (filter (λ t. eqb (multiple_at us t.0).variable i) cs)))
      step true r = (
        record {
          unused = are.unused t.0 (record { factor = record { e = [] }; variable = 0 }) below.0;
          long = are.long t.0 (record { factor = record { e = [] }; variable = 0 }) below.0;
          from = factor_from n low high us are t.0 (record { factor = record { e = [] }; variable = 0 }) below.0;
          to = factor_to n low high us are t.0 (record { factor = record { e = [] }; variable = 0 }) below.0;
          elem = units.0.0;
          unit = units.0.1;
        },
        r,
      )
      step false r = r

  -- a multiplier is a jet
  pub multiplier_jet : (k : ℕ) (cs : List (ℕ × E)) → high ≤ k → AllUnits m cs → AllBelow (length us) cs → IsJet m (jet_of n k (terms_of us cs i))
  multiplier_jet k cs h units below =
      let all = factor_terms cs units below in
      let ts = terms_of us cs i in
      record {
        variables = All-from_recursion (λ t. IsIn n t.0.e) ts (weaker (IsFactorTerm m n low high) (λ t. IsIn n t.0.e) (λ t x. x.unused) ts all);
        degrees = All-from_recursion (λ t. sum t.0.e ≤ k) ts (weaker (IsFactorTerm m n low high) (λ t. sum t.0.e ≤ k) (λ t x. let q = x.to in omega arith) ts all);
        elems = All-from_recursion (λ t. m.is_elem t.1) ts (weaker (IsFactorTerm m n low high) (λ t. m.is_elem t.1) (λ t x. x.elem) ts all);
        units = All-from_recursion (λ t. m.value t.1 ≢ m.scalars.ops.zero) ts (weaker (IsFactorTerm m n low high) (λ t. m.value t.1 ≢ m.scalars.ops.zero) (λ t x. x.unit) ts all);
      }

  -- whose terms have eight exponents each
  pub multiplier_long : (cs : List (ℕ × E)) → AllUnits m cs → AllBelow (length us) cs → All (λ t. length t.0.e ≡ 8) (terms_of us cs i)
  multiplier_long cs units below = All-from_recursion (λ t. length t.0.e ≡ 8) (terms_of us cs i) (weaker (IsFactorTerm m n low high) (λ t. length t.0.e ≡ 8) (λ t x. x.long) (terms_of us cs i) (factor_terms cs units below))

  -- and the degrees of the factors
  pub multiplier_low : (cs : List (ℕ × E)) → AllUnits m cs → AllBelow (length us) cs → AllByRecursion (λ t. low ≤ degree (exps n) t.0) (poly_of n m.value (terms_of us cs i))
  multiplier_low cs units below = go (terms_of us cs i) (factor_terms cs units below)
    where
      go : (ts : List (Exp × E)) → AllByRecursion (IsFactorTerm m n low high) ts → AllByRecursion (λ t. low ≤ degree (exps n) t.0) (poly_of n m.value ts)
      go [] all = tt
      go (t ∷ ts) all = ((let d = degree-exp_of n t.0 all.0.unused in let q = all.0.from in omega arith), go ts all.1)
