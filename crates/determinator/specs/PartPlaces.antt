-- Where the run of the plan stands once a base part is known, as the code has it.
use Rattle.std.specs.Prelude.{◌≡◌, ℕ, suc, ◌<◌, ◌≤◌, true, IsTrue, List, Contains}
use Rattle.ring_theory.specs.Rational.{Rational}
use Rattle.ring_theory.specs.Scalars.{Scalars}
use Rattle.ring_law.specs.declared.fraction.Frac.{Frac}
use Rattle.ext_algebra.specs.declared.algebra.Algebra.{Algebra}
use Rattle.ext_algebra.specs.declared.algebra.Ext.{Ext}
use Rattle.ext_algebra.specs.Algebra.{Value, scalars}
use Rattle.poly_law.specs.Exps.{degree}
use Rattle.poly_law.specs.ExpList.{ExpList, exps}
use Rattle.poly_law.specs.Polynomials.{Polynomial, coefficient_in}
use Rattle.jet_law.specs.Canonical.{monomial_in}
use Rattle.kill_law.specs.declared.lead.Lead.{Lead}
use Rattle.kill_law.specs.declared.part.Part.{Part}
use Rattle.kill_law.specs.Table.{row}
use Rattle.kill_law.specs.Kill.{divides}
use Rattle.coord_change.specs.Moves.{Move}
use Rattle.coord_change.specs.Chains.{ChainParts}
use Rattle.kept_law.specs.KeptParts.{StartsAtPart, HasForm}
use Rattle.rules_corank2.specs.Parts.{IsBase2, HaveUnits, has_a}
use Rattle.plan_law.specs.Run.{brought}
use Rattle.determinator.specs.Places.{IsPlace}

module _ {V : Type 0} (n : ℕ) (s : Scalars V) where
  -- no lead of the part divides a monomial of f whose degree is above that of the part and at most k
  abbrev pub IsKilledTo : ℕ → Part → Polynomial n V → Type 0
  IsKilledTo k p f = (l : Lead) → Contains (row p).leads l → (m : ExpList n) → (row p).degree < degree (exps n) m → degree (exps n) m ≤ k
      → divides n (monomial_in n l.monomial) m ≡ true → coefficient_in n s.ops f m ≡ s.ops.zero

  -- f, known up to degree o, has this base part in the first c variables, which are two: its residual terms of lowest degree are the form of the part,
  -- whose letters are not zero (the table has no form of X9, whose letters are free), and up to degree k its leads are killed
  pub record HasBasePart (c o k : ℕ) (p : Part) (f : Polynomial n V) : Type 0 where
    pub two : c ≡ 2
    pub base : IsBase2 p
    pub degree : (row p).degree ≤ k
    pub low : StartsAtPart n s c o p f
    pub form : IsTrue (has_a p) → HasForm n s c p f
    pub units : HaveUnits n s p f
    pub killed : IsKilledTo k p f

module _ (n c last : ℕ) (germ : Polynomial n Rational) (a : Algebra) (p : Part) where
  -- the chain has come to order o by these moves, and the jet has the part, whose leads are killed up to degree k
  pub record IsPartPlace (o k : ℕ) (moves : List (Move n (Value a))) (chain : ChainParts (Ext Frac)) : Type 0 where
    pub place : IsPlace n c last germ a o moves chain
    pub part : HasBasePart n (scalars a) c o k p (brought n c germ a o moves)

  -- at order o, after its base kill
  abbrev pub IsReducedPlace : ℕ → List (Move n (Value a)) → ChainParts (Ext Frac) → Type 0
  IsReducedPlace o moves chain = IsPartPlace o o moves chain

  -- at order o + 1, after its split move and before its base kill
  abbrev pub IsKillPlace : ℕ → List (Move n (Value a)) → ChainParts (Ext Frac) → Type 0
  IsKillPlace o moves chain = IsPartPlace (suc o) o moves chain

-- some germ is carried so
pub record IsKillPlaced (a : Algebra) (p : Part) (chain : ChainParts (Ext Frac)) : Type 0 where
  pub n : ℕ
  pub c : ℕ
  pub last : ℕ
  pub germ : Polynomial n Rational
  pub o : ℕ
  pub moves : List (Move n (Value a))
  pub is : IsKillPlace n c last germ a p o moves chain

pub record IsReducedPlaced (c : ℕ) (a : Algebra) (p : Part) (chain : ChainParts (Ext Frac)) : Type 0 where
  pub n : ℕ
  pub last : ℕ
  pub germ : Polynomial n Rational
  pub o : ℕ
  pub moves : List (Move n (Value a))
  pub is : IsReducedPlace n c last germ a p o moves chain
