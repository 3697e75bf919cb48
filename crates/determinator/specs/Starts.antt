-- The beginning of the run.
use Rattle.std.specs.Prelude.{◌≡◌, ◌≤◌, true, false, List, [], ◌∷◌}
use Rattle.ring_theory.specs.Rational.{Rational}
use Rattle.ring_theory.specs.Height.{rational_scalars}
use Rattle.ring_law.specs.declared.fraction.Frac.{Frac}
use Rattle.ring_law.specs.Fraction.{rational_meaning}
use Rattle.ext_algebra.specs.declared.algebra.Algebra.TheVariants as algebras
use Rattle.ext_algebra.specs.declared.algebra.Ext.{Ext}
use Rattle.ext_algebra.specs.Algebra.{algebra_meaning}
use Rattle.poly_law.specs.Polynomials.{Polynomial, StartsAtIn}
use Rattle.jet_law.specs.Canonical.{jet}
use Rattle.jet_poly.specs.JetTerms.{JetTerms}
use Rattle.jet_poly.specs.Jets.{IsJet, polynomial_of}
use Rattle.move_law.specs.Algebras.{lifted}
use Rattle.cert_text.specs.declared.report.Phase.{Phase}
use Rattle.cert_text.specs.declared.report.Phase.TheVariants as phases
use Rattle.coord_change.specs.declared.change.Change.{Change}
use Rattle.coord_change.specs.MoveJets.{IsMoveExactly}
use Rattle.coord_change.specs.Chains.{ChainParts, IsChain}
use Rattle.move_law.specs.Hessian.{hessian_move}
use Rattle.plan_law.specs.Pieces.{HasHigh}
use Rattle.poly_text.specs.declared.name.Name.{Name}
use Rattle.plan_law.specs.Plan.{first_move, corank_of_germ, started, starting_pieces, IsPhaseHigh}
use Rattle.planned_law.specs.Planned.{is_unbuilt}
use Rattle.determinator.specs.Turns.{IsStep}
use Rattle.determinator.specs.declared.start.Begun.{Begun}
use Rattle.determinator.specs.declared.start.Begun.TheVariants as begun

-- f is the jet of the germ g
pub record IsJetOfGerm (f : JetTerms Frac) (g : Polynomial f.n Rational) : Type 0 where
  pub polynomial : polynomial_of rational_meaning f ≡ jet f.n rational_scalars f.order g
  pub low : StartsAtIn f.n rational_scalars.ops 2 g

-- the jet of a critical germ, in one to eight variables, of order 3 to 16
pub record IsGermJet (f : JetTerms Frac) : Type 0 where
  pub jet : IsJet rational_meaning f
  pub given : 1 ≤ f.n
  pub at_most_8_variables : f.n ≤ 8
  pub order_at_least_3 : 3 ≤ f.order
  pub order_at_most_16 : f.order ≤ 16
  pub low : StartsAtIn f.n rational_scalars.ops 2 (polynomial_of rational_meaning f)
  pub germ : Polynomial f.n Rational
  pub germ_is : IsJetOfGerm f germ

-- the chain of order 2 over the germ g, with the move of the Hessian
abbrev pub IsFirstChain : (f : JetTerms Frac) → Polynomial f.n Rational → ChainParts (Ext Frac) → Type 0
IsFirstChain f g c = IsChain (algebra_meaning algebras.Rational) f.n f.order (lifted algebras.Rational g) 2 (first_move f.n g ∷ []) c

-- how the run of the germ g begins: with the first step of the plan; or not at all, in corank 2 and 3
abbrev pub IsBegun : List Name → (f : JetTerms Frac) → Polynomial f.n Rational → Begun → Type 0
IsBegun names f g (begun.First r) = (is_unbuilt (corank_of_germ f.n g) ≡ false) × (r.corank ≡ corank_of_germ f.n g) × IsStep names f.n (corank_of_germ f.n g) f.order g 2 (started f.n g) r.step
IsBegun names f g begun.Unbuilt = is_unbuilt (corank_of_germ f.n g) ≡ true

module _ (f : JetTerms Frac) where
  -- the change is the move of the Hessian of the jet, of order 16
  abbrev pub IsHessianMove : Change Frac → Type 0
  IsHessianMove change = IsMoveExactly rational_meaning f.n 16 (hessian_move f.n rational_scalars (jet f.n rational_scalars 2 (polynomial_of rational_meaning f))) change

  -- the chain of order 2 over each germ that has the jet, with the move of the Hessian
  abbrev pub IsStarted : ChainParts (Ext Frac) → Type 0
  IsStarted c = (g : Polynomial f.n Rational) → IsJetOfGerm f g → IsFirstChain f g c

  -- finding the move of the Hessian, or carrying by it, is high for each such germ
  abbrev pub IsStartingHigh : Type 0
  IsStartingHigh = (g : Polynomial f.n Rational) → IsJetOfGerm f g → HasHigh phases.Hessian (starting_pieces f.n g)

  -- the runs of all such germs begin so
  abbrev pub AreBegun : List Name → Begun → Type 0
  AreBegun names r = (g : Polynomial f.n Rational) → IsJetOfGerm f g → IsBegun names f g r

  -- the phase of the plan is high for each such germ
  abbrev pub ArePhasesHigh : Phase → Type 0
  ArePhasesHigh p = (g : Polynomial f.n Rational) → IsJetOfGerm f g → IsPhaseHigh f.n g f.order p
