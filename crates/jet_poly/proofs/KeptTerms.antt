-- Terms that are kept of a jet.
use Rattle.std.proofs.Common.{◌≡◌, ◌≢◌, ℕ, ◌≤◌, Bool, true, false, ◌&&◌, cond, leb, eqb, List, [], ◌∷◌, sum, refl, sym, ap, ap₂, ◌∙◌, arith}
use Rattle.std.specs.List.{AllByRecursion, All, filter}
use Rattle.std.proofs.lemmas.Bool.{leb-true}
use Rattle.std.proofs.lemmas.Bool.Decides.{nat_tests}
use Rattle.std.proofs.lemmas.List.Elements.{All-from_recursion, recursion_from_All}
use Rattle.ring_theory.specs.Scalars.{Meaning}
use Rattle.poly_law.specs.Exps.{degree}
use Rattle.poly_law.specs.ExpList.{exps}
use Rattle.mono_exp.specs.declared.exponent.Exp.{Exp}
use Rattle.mono_exp.specs.Exponents.{IsIn}
use Rattle.jet_law.specs.Terms.{exp_of, poly_of}
use Rattle.jet_law.proofs.TermLemmas.{degree-exp_of}
use Rattle.jet_poly.specs.JetTerms.{JetTerms, IsRising, AllAfter}
use Rattle.jet_poly.specs.Jets.{IsJet}

module _ {E : Type 0} (p : Exp × E → Bool) where
  kept-after : (a : Exp) (f : List (Exp × E)) → AllAfter a f → AllAfter a (filter p f)
  kept-after a [] h = tt
  kept-after a (t ∷ f) h = step (p t) (kept-after a f h.1)
    where
      step : (b : Bool) → AllAfter a (filter p f) → AllAfter a (cond b (t ∷ filter p f) (filter p f))
      step true r = (h.0, r)
      step false r = r

  -- terms that are kept stay in order
  pub kept-rising : (f : List (Exp × E)) → IsRising f → IsRising (filter p f)
  kept-rising [] h = tt
  kept-rising (t ∷ f) h = step (p t) (kept-rising f h.1)
    where
      step : (b : Bool) → IsRising (filter p f) → IsRising (cond b (t ∷ filter p f) (filter p f))
      step true r = (kept-after t.0 f h.0, r)
      step false r = r

  -- and keep what they have, and what the test says
  kept-each : (P Q : Exp × E → Type 0) → ((t : Exp × E) → P t → p t ≡ true → Q t) → (f : List (Exp × E)) → AllByRecursion P f → AllByRecursion Q (filter p f)
  kept-each P Q q [] a = tt
  kept-each P Q q (t ∷ f) a = step (p t) refl (kept-each P Q q f a.1)
    where
      step : (b : Bool) → p t ≡ b → AllByRecursion Q (filter p f) → AllByRecursion Q (cond b (t ∷ filter p f) (filter p f))
      step true e r = (q t a.0 e, r)
      step false e r = r

  pub kept-all : (P Q : Exp × E → Type 0) → ((t : Exp × E) → P t → p t ≡ true → Q t) → (f : List (Exp × E)) → All P f → All Q (filter p f)
  kept-all P Q q f a = All-from_recursion Q (filter p f) (kept-each P Q q f (recursion_from_All P f a))

module _ {E V : Type 0} (m : Meaning E V) where
  -- kept terms make a jet, where their degrees allow it
  pub kept-jet : (p : Exp × E → Bool) (f : JetTerms E) (k : ℕ) → ((t : Exp × E) → sum t.0.e ≤ f.order → p t ≡ true → sum t.0.e ≤ k) → IsJet m f → IsJet m (record { n = f.n; order = k; terms = filter p f.terms })
  kept-jet p f k d j = record {
    variables = kept-all p (λ t. IsIn f.n t.0.e) (λ t. IsIn f.n t.0.e) (λ t h e. h) f.terms j.variables;
    degrees = kept-all p (λ t. sum t.0.e ≤ f.order) (λ t. sum t.0.e ≤ k) d f.terms j.degrees;
    elems = kept-all p (λ t. m.is_elem t.1) (λ t. m.is_elem t.1) (λ t h e. h) f.terms j.elems;
    units = kept-all p (λ t. m.value t.1 ≢ m.scalars.ops.zero) (λ t. m.value t.1 ≢ m.scalars.ops.zero) (λ t h e. h) f.terms j.units;
  }

  -- the polynomial of the kept terms, by a test of the degree
  filtered : (n : ℕ) (q : ℕ → Bool) (f : List (Exp × E)) → AllByRecursion (λ t. IsIn n t.0.e) f → poly_of n m.value (filter (λ t. q (sum t.0.e)) f) ≡ filter (λ t. q (degree (exps n) t.0)) (poly_of n m.value f)
  filtered n q [] a = refl
  filtered n q (t ∷ f) a =
      split (q (sum t.0.e)) ∙ ap₂ (λ b z. cond b ((exp_of n t.0, m.value t.1) ∷ z) z) (ap q (sym (degree-exp_of n t.0 a.0))) (filtered n q f a.1)
    where
      split : (b : Bool) → poly_of n m.value (cond b (t ∷ filter (λ t. q (sum t.0.e)) f) (filter (λ t. q (sum t.0.e)) f)) ≡ cond b ((exp_of n t.0, m.value t.1) ∷ poly_of n m.value (filter (λ t. q (sum t.0.e)) f)) (poly_of n m.value (filter (λ t. q (sum t.0.e)) f))
      split true = refl
      split false = refl

  pub filtered-by : (n : ℕ) (p q : ℕ → Bool) (f : List (Exp × E)) → ((d : ℕ) → p d ≡ q d) → All (λ t. IsIn n t.0.e) f → poly_of n m.value (filter (λ t. p (sum t.0.e)) f) ≡ filter (λ t. q (degree (exps n) t.0)) (poly_of n m.value f)
  filtered-by n p q f e a = ap (poly_of n m.value) (same f) ∙ filtered n q f (recursion_from_All (λ t. IsIn n t.0.e) f a)
    where
      same : (f : List (Exp × E)) → filter (λ t. p (sum t.0.e)) f ≡ filter (λ t. q (sum t.0.e)) f
      same [] = refl
      same (t ∷ f) = ap₂ (λ b z. cond b (t ∷ z) z) (e (sum t.0.e)) (same f)

pub low-true : (d k : ℕ) → (leb 0 d && leb d k) ≡ leb d k
low-true d k = ap (λ b. b && leb d k) (Rattle.std.proofs.lemmas.Bool.le-leb 0 d (omega arith))

pub low-within : (d k : ℕ) → (leb 0 d && leb d k) ≡ true → d ≤ k
low-within d k h = leb-true d k (sym (low-true d k) ∙ h)

pub both-eqb : (d k : ℕ) → (leb k d && leb d k) ≡ eqb d k
both-eqb d k = grind (arith, nat_tests)

-- a jet by its parts
abbrev pub made : {E : Type 0} → ℕ → ℕ → List (Exp × E) → JetTerms E
made n k f = record { n = n; order = k; terms = f }

pub made-same : {E : Type 0} (n n' k k' : ℕ) (f f' : List (Exp × E)) → n ≡ n' → k ≡ k' → f ≡ f' → made n k f ≡ made n' k' f'
made-same n n' k k' f f' en ek ef = ap (λ z. made z k f) en ∙ ap (λ z. made n' z f) ek ∙ ap (made n' k') ef
