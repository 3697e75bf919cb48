-- The beginning of the run.
use Rattle.std.proofs.Common.{◌≡◌, ℕ, ◌≤◌, inl, [], ◌∷◌, ◌++◌, refl, sym, ◌∙◌, ap, ap₂, subst, arith}
use Rattle.ring_theory.specs.Rational.{Rational}
use Rattle.ring_theory.specs.Scalars.{Scalars}
use Rattle.ring_theory.specs.Height.{rational_scalars}
use Rattle.ring_theory.proofs.RationalLaws.{rational_scalar_laws}
use Rattle.ring_law.specs.declared.fraction.Frac.{Frac}
use Rattle.ring_law.specs.Fraction.{rational_meaning}
use Rattle.ext_algebra.specs.declared.algebra.Algebra.TheVariants as algebras
use Rattle.ext_algebra.specs.declared.algebra.Ext.{Ext}
use Rattle.ext_algebra.specs.Algebra.{scalars, algebra_meaning}
use Rattle.poly_law.specs.Polynomials.{Polynomial, StartsAtIn}
use Rattle.jet_law.specs.Canonical.{jet}
use Rattle.jet_law.proofs.CanonicalLemmas
use Rattle.jet_poly.specs.JetTerms.{JetTerms}
use Rattle.jet_poly.specs.Jets.{polynomial_of}
use Rattle.germ_law.proofs.Canonical
use Rattle.coord_change.specs.Carries.{carry}
use Rattle.coord_change.specs.CarryHeights.{IsCarryHigh}
use Rattle.move_law.specs.Algebras.{lifted}
use Rattle.cert_text.specs.declared.report.Phase.TheVariants as phases
use Rattle.move_law.specs.Work.{IsWorkHigh, carrying_work}
use Rattle.move_law.specs.Hessian.{hessian_work}
use Rattle.coord_change.specs.MoveJets.{IsJetFor}
use Rattle.split_lemma.specs.Splits.{AnyHigh}
use Rattle.plan_law.specs.Pieces.{HasHigh}
use Rattle.plan_law.specs.Plan.{first_move, first_jet, starting_pieces}
use Rattle.plan_law.specs.Run.{brought}
use Rattle.determinator.specs.Starts.{IsGermJet, IsJetOfGerm}
use Rattle.determinator.proofs.Pieces.{among_left, among_right, high_over}

-- the rational numbers as an algebra
pub scalars_same : scalars algebras.Rational ≡ rational_scalars
unfolding scalars
scalars_same = refl

pub lifted_same : (n : ℕ) (f : Polynomial n Rational) → lifted algebras.Rational f ≡ f
unfolding lifted scalars
lifted_same n [] = refl
lifted_same n (t ∷ f) = ap (λ rest. t ∷ rest) (lifted_same n f)

-- the jet of the germ over them
pub lifted_jet : (n k : ℕ) (g : Polynomial n Rational) → jet n (scalars algebras.Rational) k (lifted algebras.Rational g) ≡ jet n rational_scalars k g
lifted_jet n k g = ap₂ (λ (s : Scalars Rational) (f : Polynomial n Rational). jet n s k f) scalars_same (lifted_same n g)

-- what the move of the Hessian makes of it
pub first_jet_is : (n c : ℕ) (g : Polynomial n Rational) → brought n c g algebras.Rational 2 (first_move n g ∷ []) ≡ first_jet n g
first_jet_is n c g = ap₂ (λ (s : Scalars Rational) (f : Polynomial n Rational). carry n s 2 (first_move n g) (jet n s 2 f)) scalars_same (lifted_same n g)

-- a jet of lower order is that of the polynomial
pub jet_of_jet : (n k : ℕ) → 2 ≤ k → (g : Polynomial n Rational) → jet n rational_scalars 2 (jet n rational_scalars k g) ≡ jet n rational_scalars 2 g
jet_of_jet n k le g =
    CanonicalLemmas.jet_same n rational_scalars rational_scalar_laws.ring 2 (jet n rational_scalars k g) g (λ a d. Canonical.jet_same_to n rational_scalars rational_scalar_laws k g a (omega arith))

-- the terms of degree 2 of the jet are those of the germ
pub low_part : (f : JetTerms Frac) (g : Polynomial f.n Rational) → IsGermJet f → IsJetOfGerm f g → jet f.n rational_scalars 2 (polynomial_of rational_meaning f) ≡ jet f.n rational_scalars 2 g
low_part f g h j = ap (jet f.n rational_scalars 2) j.polynomial ∙ jet_of_jet f.n f.order (let three = h.order_at_least_3 in omega arith) g

pub germ_jet : (f : JetTerms Frac) (g : Polynomial f.n Rational) → IsGermJet f → IsJetOfGerm f g → IsJetFor rational_meaning f.n f.order (jet f.n rational_scalars f.order g) f
germ_jet f g h j = record { jet = h.jet; variables = refl; order = refl; polynomial = j.polynomial }

-- the lifted jet of the germ is that of the lifted germ
pub lifted_germ_jet : (f : JetTerms Frac) (g : Polynomial f.n Rational) → IsJetOfGerm f g → (h : JetTerms (Ext Frac)) → IsJetFor (algebra_meaning algebras.Rational) f.n f.order (jet f.n rational_scalars f.order g) h
    → IsJetFor (algebra_meaning algebras.Rational) f.n f.order (jet f.n (scalars algebras.Rational) f.order (lifted algebras.Rational g)) h
lifted_germ_jet f g j h is = subst (λ (p : Polynomial f.n Rational). IsJetFor (algebra_meaning algebras.Rational) f.n f.order p h) (sym (lifted_jet f.n f.order g)) is

pub lifted_low : (n : ℕ) (g : Polynomial n Rational) → StartsAtIn n rational_scalars.ops 2 g → StartsAtIn n (scalars algebras.Rational).ops 2 (lifted algebras.Rational g)
lifted_low n g h = subst (λ (s : Scalars Rational). StartsAtIn n s.ops 2 (lifted algebras.Rational g)) (sym scalars_same) (subst (λ (f : Polynomial n Rational). StartsAtIn n rational_scalars.ops 2 f) (sym (lifted_same n g)) h)

-- carrying the terms of degree 2 by the move of the Hessian is one of its operations
pub high_first : (n : ℕ) (g : Polynomial n Rational) → IsCarryHigh n (scalars algebras.Rational) 2 (first_move n g) (jet n (scalars algebras.Rational) 2 (lifted algebras.Rational g))
    → HasHigh phases.Hessian (starting_pieces n g)
high_first n g h =
    let f = jet n rational_scalars 2 g in
    high_over phases.Hessian algebras.Rational (hessian_work n rational_scalars f ++ carrying_work n rational_scalars 2 (first_move n g ∷ []) f)
    (among_right (IsWorkHigh n (scalars algebras.Rational)) (hessian_work n rational_scalars f) (carrying_work n rational_scalars 2 (first_move n g ∷ []) f)
    (inl (subst (λ (q : Polynomial n Rational). IsCarryHigh n (scalars algebras.Rational) 2 (first_move n g) q) (lifted_jet n 2 g) h)))

pub high_hessian : (n : ℕ) (g : Polynomial n Rational) → AnyHigh n rational_scalars (hessian_work n rational_scalars (jet n rational_scalars 2 g)) → HasHigh phases.Hessian (starting_pieces n g)
high_hessian n g h =
    let f = jet n rational_scalars 2 g in
    high_over phases.Hessian algebras.Rational (hessian_work n rational_scalars f ++ carrying_work n rational_scalars 2 (first_move n g ∷ []) f)
    (among_left (IsWorkHigh n (scalars algebras.Rational)) (hessian_work n rational_scalars f) (carrying_work n rational_scalars 2 (first_move n g ∷ []) f)
    (subst (λ (s : Scalars Rational). AnyHigh n s (hessian_work n rational_scalars f)) (sym scalars_same) h))
