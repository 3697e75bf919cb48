-- A ternary cubic as a jet: its terms in order, one after the other.
use Rattle.std.proofs.Common.{◌≡◌, ℕ, zero, suc, ◌+◌, ◌<◌, ◌≤◌, true, List, [], ◌∷◌, ◌++◌, map, zip, take, length, get_or, sum, All, refl, sym, ap, ap₂, ◌∙◌, subst, arith}
use Rattle.std.proofs.lemmas.List.{get_or-map}
use Rattle.std.proofs.lemmas.List.Elements.{All-from_recursion}
use Rattle.ring_theory.specs.Height.{rational_scalars}
use Rattle.ring_theory.specs.Rational.{rational_ops}
use Rattle.ring_theory.proofs.RationalLaws.{rational_scalar_laws}
use Rattle.ring_law.specs.Fraction.{IsFrac, frac_value, rational_meaning}
use Rattle.ring_law.specs.declared.fraction.Frac.{Frac}
use Rattle.poly_law.specs.ExpList.{exps}
use Rattle.poly_law.specs.Poly.{coefficient}
use Rattle.poly_law.specs.Polynomials.{SameIn}
use Rattle.poly_law.proofs.ExpLists.{exps_are}
use Rattle.poly_law.proofs.PolyRing
use Rattle.mono_exp.specs.declared.exponent.Exp.{Exp}
use Rattle.mono_exp.specs.Exponents.{IsIn, exponents, is_before, monomials_of}
use Rattle.jet_law.specs.Canonical.{monomial_in}
use Rattle.jet_law.specs.Terms.{exp_of, poly_of}
use Rattle.jet_law.proofs.TermLemmas.{poly_of-take}
use Rattle.jet_poly.specs.Gathered.{nonzero}
use Rattle.jet_poly.specs.JetTerms.{JetTerms, IsRising}
use Rattle.jet_poly.proofs.Derived.{AreReady, keys-rise, ready-step, ready-jet}
use Rattle.jet_poly.proofs.Output.{same-push}
use Rattle.jacobian_row.proofs.RowFacts.{monomial-exponents}
use Rattle.line_jet_law.specs.LineJets.{IsRationalJet, rational_polynomial}
use Rattle.line_jet_law.proofs.Bridge.{as_jet}
use Rattle.ternary_law.specs.Cubics.{cubic_of, cubic_monomials}
use Rattle.tern_cubic.specs.declared.cubic.TheConstants.{CUBIC_MONOMIALS}

-- the exponents of the monomial with number i
abbrev pub exponents_at : ℕ → List ℕ
exponents_at i = get_or (map (λ a. a.e) CUBIC_MONOMIALS) i []

-- the cubic monomials, each with a number
abbrev numbered : List (Exp × ℕ)
numbered = map (λ a. (a, 0)) CUBIC_MONOMIALS

-- they stand in the monomial order
rising : IsRising numbered
rising = ((refl, (refl, (refl, (refl, (refl, (refl, (refl, (refl, (refl, tt))))))))), ((refl, (refl, (refl, (refl, (refl, (refl, (refl, (refl, tt)))))))), ((refl, (refl, (refl, (refl, (refl, (refl, (refl, tt))))))), ((refl, (refl, (refl, (refl, (refl, (refl, tt)))))), ((refl, (refl, (refl, (refl, (refl, tt))))), ((refl, (refl, (refl, (refl, tt)))), ((refl, (refl, (refl, tt))), ((refl, (refl, tt)), ((refl, tt), (tt, tt))))))))))

up : (i j : ℕ) → i < j → j < 10 → is_before (exponents_at i) (exponents_at j) ≡ true
up i j l h = keys-rise numbered i j rising l h

five_zeros : (i : ℕ) → ◌≡◌ {A = ℕ} (get_or (0 ∷ 0 ∷ 0 ∷ 0 ∷ 0 ∷ []) i 0) 0
five_zeros zero = refl
five_zeros (suc zero) = refl
five_zeros (suc (suc zero)) = refl
five_zeros (suc (suc (suc zero))) = refl
five_zeros (suc (suc (suc (suc zero)))) = refl
five_zeros (suc (suc (suc (suc (suc i))))) = refl

three_in : (a b d : ℕ) → IsIn 3 (a ∷ b ∷ d ∷ 0 ∷ 0 ∷ 0 ∷ 0 ∷ 0 ∷ [])
three_in a b d zero h = absurd (omega arith)
three_in a b d (suc zero) h = absurd (omega arith)
three_in a b d (suc (suc zero)) h = absurd (omega arith)
three_in a b d (suc (suc (suc i))) h = five_zeros i

low : (e : List ℕ) → sum e ≡ 3 → sum e ≤ 3
low e h = omega arith

-- a monomial in three variables, of degree 3
abbrev IsCubicMonomial : Exp → Type 0
IsCubicMonomial a = IsIn 3 a.e × (sum a.e ≤ 3)

each : All IsCubicMonomial CUBIC_MONOMIALS
each = All-from_recursion IsCubicMonomial CUBIC_MONOMIALS ((three_in 3 0 0, low (3 ∷ 0 ∷ 0 ∷ 0 ∷ 0 ∷ 0 ∷ 0 ∷ 0 ∷ []) refl), ((three_in 2 1 0, low (2 ∷ 1 ∷ 0 ∷ 0 ∷ 0 ∷ 0 ∷ 0 ∷ 0 ∷ []) refl), ((three_in 2 0 1, low (2 ∷ 0 ∷ 1 ∷ 0 ∷ 0 ∷ 0 ∷ 0 ∷ 0 ∷ []) refl), ((three_in 1 2 0, low (1 ∷ 2 ∷ 0 ∷ 0 ∷ 0 ∷ 0 ∷ 0 ∷ 0 ∷ []) refl), ((three_in 1 1 1, low (1 ∷ 1 ∷ 1 ∷ 0 ∷ 0 ∷ 0 ∷ 0 ∷ 0 ∷ []) refl), ((three_in 1 0 2, low (1 ∷ 0 ∷ 2 ∷ 0 ∷ 0 ∷ 0 ∷ 0 ∷ 0 ∷ []) refl), ((three_in 0 3 0, low (0 ∷ 3 ∷ 0 ∷ 0 ∷ 0 ∷ 0 ∷ 0 ∷ 0 ∷ []) refl), ((three_in 0 2 1, low (0 ∷ 2 ∷ 1 ∷ 0 ∷ 0 ∷ 0 ∷ 0 ∷ 0 ∷ []) refl), ((three_in 0 1 2, low (0 ∷ 1 ∷ 2 ∷ 0 ∷ 0 ∷ 0 ∷ 0 ∷ 0 ∷ []) refl), ((three_in 0 0 3, low (0 ∷ 0 ∷ 3 ∷ 0 ∷ 0 ∷ 0 ∷ 0 ∷ 0 ∷ []) refl), tt))))))))))

-- ---- one term more

-- places of pairs
zip_inside : {X Y : Type 0} (xs : List X) (ys : List Y) (i : ℕ) → i < length xs → i < length ys → i < length (zip xs ys)
zip_inside [] ys i h g = absurd (omega arith)
zip_inside (x ∷ xs) [] i h g = absurd (omega arith)
zip_inside (x ∷ xs) (y ∷ ys) zero h g = omega arith
zip_inside (x ∷ xs) (y ∷ ys) (suc i) h g = let k : i < length (zip xs ys) = zip_inside xs ys i (omega arith) (omega arith) in omega arith

zip_at : {X Y : Type 0} (xs : List X) (ys : List Y) (i : ℕ) (x : X) (y : Y) → i < length xs → i < length ys → (get_or xs i x, get_or ys i y) ≡ get_or (zip xs ys) i (get_or xs i x, get_or ys i y)
zip_at [] ys i x y h g = absurd (omega arith)
zip_at (u ∷ xs) [] i x y h g = absurd (omega arith)
zip_at (u ∷ xs) (v ∷ ys) zero x y h g = refl
zip_at (u ∷ xs) (v ∷ ys) (suc i) x y h g = zip_at xs ys i x y (omega arith) (omega arith)

-- the term with number i of the cubic
abbrev term_at : List Frac → ℕ → Exp → Frac → Exp × Frac
term_at all i a c = (get_or CUBIC_MONOMIALS i a, get_or all i c)

pub ready_more : (all : List Frac) (i : ℕ) (f new : List (Exp × Frac)) (a : Exp) (c : Frac) → i < 10 → i < length all → All IsFrac all → new ≡ f ++ nonzero rational_scalars frac_value (term_at all i a c ∷ [])
    → AreReady 3 3 rational_meaning exponents_at (λ j. Unit {0}) i 10 f → AreReady 3 3 rational_meaning exponents_at (λ j. Unit {0}) (i + 1) 10 new
ready_more all i f new a c h g valid items r =
    let facts : IsCubicMonomial (get_or CUBIC_MONOMIALS i a) = each i a h in
    let key : exponents_at i ≡ (get_or CUBIC_MONOMIALS i a).e = get_or-map (λ a. a.e) CUBIC_MONOMIALS i a [] h in
    subst (AreReady 3 3 rational_meaning exponents_at (λ j. Unit {0}) (i + 1) 10) (sym items)
    (ready-step 3 3 rational_meaning rational_scalar_laws exponents_at (λ j. Unit {0}) 10 (λ i j l h o p. up i j l h) i f (term_at all i a c) h (sym key) (valid i c g) (λ nz. (tt, facts.0, facts.1)) r)

-- the terms with number below i of the cubic
abbrev pub terms_to : ℕ → List Frac → List (Exp × Frac)
terms_to i c = take i (zip CUBIC_MONOMIALS c)

pub sum_more : (all : List Frac) (i : ℕ) (f new : List (Exp × Frac)) (a : Exp) (c : Frac) → i < 10 → i < length all → new ≡ f ++ nonzero rational_scalars frac_value (term_at all i a c ∷ [])
    → SameIn 3 rational_ops (poly_of 3 frac_value f) (poly_of 3 frac_value (terms_to i all)) → SameIn 3 rational_ops (poly_of 3 frac_value new) (poly_of 3 frac_value (terms_to (i + 1) all))
sum_more all i f new a c h g items so_far b =
    ap (λ z. coefficient (exps 3) rational_ops (poly_of 3 frac_value z) b) items
    ∙ same-push 3 rational_scalars rational_scalar_laws frac_value f (term_at all i a c) b
    ∙ PolyRing.add_left (exps 3) (exps_are 3) rational_ops rational_scalar_laws.ring (poly_of 3 frac_value f) (poly_of 3 frac_value (terms_to i all))
    ((exp_of 3 (get_or CUBIC_MONOMIALS i a), frac_value (get_or all i c)) ∷ []) so_far b
    ∙ ap (λ z. coefficient (exps 3) rational_ops z b)
    (sym (poly_of-take 3 frac_value (zip CUBIC_MONOMIALS all) i (term_at all i a c) (zip_inside CUBIC_MONOMIALS all i h g) (zip_at CUBIC_MONOMIALS all i a c h g)))

-- ---- the whole cubic

-- a list of ten coefficients
ten_are : {V : Type 0} (Q : List V → Type 0) → ((a b c d e f g h i j : V) → Q (a ∷ b ∷ c ∷ d ∷ e ∷ f ∷ g ∷ h ∷ i ∷ j ∷ [])) → (v : List V) → length v ≡ 10 → Q v
ten_are Q there [] e = absurd (omega arith)
ten_are Q there (a ∷ []) e = absurd (omega arith)
ten_are Q there (a ∷ b ∷ []) e = absurd (omega arith)
ten_are Q there (a ∷ b ∷ c ∷ []) e = absurd (omega arith)
ten_are Q there (a ∷ b ∷ c ∷ d ∷ []) e = absurd (omega arith)
ten_are Q there (a ∷ b ∷ c ∷ d ∷ u ∷ []) e = absurd (omega arith)
ten_are Q there (a ∷ b ∷ c ∷ d ∷ u ∷ f ∷ []) e = absurd (omega arith)
ten_are Q there (a ∷ b ∷ c ∷ d ∷ u ∷ f ∷ g ∷ []) e = absurd (omega arith)
ten_are Q there (a ∷ b ∷ c ∷ d ∷ u ∷ f ∷ g ∷ h ∷ []) e = absurd (omega arith)
ten_are Q there (a ∷ b ∷ c ∷ d ∷ u ∷ f ∷ g ∷ h ∷ i ∷ []) e = absurd (omega arith)
ten_are Q there (a ∷ b ∷ c ∷ d ∷ u ∷ f ∷ g ∷ h ∷ i ∷ j ∷ []) e = there a b c d u f g h i j
ten_are Q there (a ∷ b ∷ c ∷ d ∷ u ∷ f ∷ g ∷ h ∷ i ∷ j ∷ k ∷ v) e = absurd (omega arith)

all_terms : (c : List Frac) → length c ≡ 10 → terms_to 10 c ≡ zip CUBIC_MONOMIALS c
all_terms = ten_are (λ c. terms_to 10 c ≡ zip CUBIC_MONOMIALS c) (λ a b c d e f g h i j. refl)

zip_pairs : (es : List Exp) (c : List Frac) → poly_of 3 frac_value (zip es c) ≡ map (λ p. (monomial_in 3 p.0, p.1)) (zip (map (λ a. exponents 3 a.e) es) (map frac_value c))
zip_pairs [] c = refl
zip_pairs (a ∷ es) [] = refl
zip_pairs (a ∷ es) (x ∷ c) = ap₂ (λ e z. (e, frac_value x) ∷ z) (sym (monomial-exponents 3 a)) (zip_pairs es c)

monomials_are : map (λ a. exponents 3 a.e) CUBIC_MONOMIALS ≡ cubic_monomials
unfolding monomials_of
monomials_are = refl

pairs_are : (c : List Frac) → poly_of 3 frac_value (zip CUBIC_MONOMIALS c) ≡ map (λ p. (monomial_in 3 p.0, p.1)) (zip cubic_monomials (map frac_value c))
pairs_are c = zip_pairs CUBIC_MONOMIALS c ∙ ap (λ ms. map (λ p. (monomial_in 3 p.0, p.1)) (zip ms (map frac_value c))) monomials_are

-- a jet of order 3 in three variables with these terms
abbrev pub cubic_made : List (Exp × Frac) → JetTerms Frac
cubic_made terms = record { n = 3; order = 3; terms = terms }

pub jet_made : (i : ℕ) (terms : List (Exp × Frac)) (f : JetTerms Frac) → f ≡ cubic_made terms → AreReady 3 3 rational_meaning exponents_at (λ j. Unit {0}) i 10 terms → IsRationalJet 3 3 f
jet_made i terms f e r = subst (IsRationalJet 3 3) (sym e) (record {
  is_jet = ready-jet 3 3 rational_meaning rational_scalar_laws exponents_at (λ j. Unit {0}) i 10 (cubic_made terms) refl refl r;
  rising = r.rising;
  n_is = refl;
  order_is = refl;
})

-- the jet that is written is the cubic
pub cubic_is : (c : List Frac) (i : ℕ) (terms : List (Exp × Frac)) (f : JetTerms Frac) → length c ≡ 10 → i ≡ 10 → f ≡ cubic_made terms → IsRationalJet 3 3 f
    → SameIn 3 rational_ops (poly_of 3 frac_value terms) (poly_of 3 frac_value (terms_to i c)) → rational_polynomial 3 f ≡ cubic_of rational_scalars (map frac_value c)
unfolding cubic_of
cubic_is c i terms f ten all made jet same =
    as_jet 3 3 f (map (λ p. (monomial_in 3 p.0, p.1)) (zip cubic_monomials (map frac_value c))) jet
    (λ b h. ap (λ (z : JetTerms Frac). coefficient (exps 3) rational_ops (poly_of 3 frac_value z.terms) b) made
    ∙ same b ∙ ap (λ z. coefficient (exps 3) rational_ops z b) (ap (λ z. poly_of 3 frac_value (terms_to z c)) all ∙ ap (poly_of 3 frac_value) (all_terms c ten) ∙ pairs_are c))
