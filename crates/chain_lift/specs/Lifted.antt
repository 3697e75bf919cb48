-- A chain over the rational numbers, and the one over an algebra by the lifted moves.
use Rattle.std.specs.Prelude.{ℕ, [], List, length, map}
use Rattle.ring_theory.specs.Rational.{Rational}
use Rattle.ring_theory.specs.Scalars.{Meaning}
use Rattle.ring_law.specs.declared.fraction.Frac.{Frac}
use Rattle.ext_algebra.specs.declared.algebra.Algebra.{Algebra}
use Rattle.ext_algebra.specs.declared.algebra.Algebra.TheVariants as algebras
use Rattle.ext_algebra.specs.declared.algebra.Ext.{Ext}
use Rattle.ext_algebra.specs.Algebra.{scalars, algebra_meaning}
use Rattle.poly_law.specs.Polynomials.{Polynomial}
use Rattle.jet_law.specs.Canonical.{jet}
use Rattle.coord_change.specs.declared.change.Change.{Change}
use Rattle.coord_change.specs.Moves.{Move}
use Rattle.coord_change.specs.CarryHeights.{IsCarryAllHigh}
use Rattle.coord_change.specs.Chains.{ChainParts, AreMoves, IsChain}
use Rattle.move_law.specs.Algebras.{lifted, lifted_move}

-- whatever germ and moves over the rational numbers the chain has, the other one has them over the algebra, at the same order
abbrev pub IsLiftedChain : Algebra → ChainParts (Ext Frac) → ChainParts (Ext Frac) → Type 0
IsLiftedChain a c made = (n last o : ℕ) (germ : Polynomial n Rational) (moves : List (Move n Rational)) → IsChain (algebra_meaning algebras.Rational) n last germ o moves c
    → IsChain (algebra_meaning a) n last (lifted a germ) o (map (lifted_move a) moves) made

-- carrying the lifted germ by the lifted moves, up to the order of the chain, is high
abbrev pub IsLiftingHigh : Algebra → ChainParts (Ext Frac) → Type 0
IsLiftingHigh a c = (n last o : ℕ) (germ : Polynomial n Rational) (moves : List (Move n Rational)) → IsChain (algebra_meaning algebras.Rational) n last germ o moves c
    → IsCarryAllHigh n (scalars a) o (map (lifted_move a) moves) (jet n (scalars a) o (lifted a germ))

-- the chain has no moves yet, and the changes are those of moves in the variables of its germ, up to its order at least
pub record IsOpen {E V : Type 0} (m : Meaning E V) (changes : List (Change E)) (c : ChainParts E) : Type 0 where
  pub n : ℕ
  pub last : ℕ
  pub germ : Polynomial n V
  pub o : ℕ
  pub moves : List (Move n V)
  pub is : IsChain m n last germ o [] c
  pub changes_are : AreMoves m n last moves changes
