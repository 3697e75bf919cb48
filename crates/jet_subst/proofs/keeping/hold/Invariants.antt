use Rattle.std.proofs.Common.{◌≡◌, ℕ, ◌-◌, ◌≤◌, length, get_or, sum}
use Rattle.jet_subst.specs.KeptPowers.{ArePowersOf, IsHeld}
use Rattle.jet_subst.proofs.keeping.hold.Given as goal

abbrev pub invariant-up : goal.invariant-up
invariant-up g l = record {
  powers : ArePowersOf (g.R.Ring.meaning l.ring) l.n l.k l.parts l.powers.entries;
  held : IsHeld (length l.parts) l.current l.powers.entries;
  long : length l.current.e ≡ 8;
  divides : (j : ℕ) → get_or l.current.e j 0 ≤ get_or l.e.e j 0;
}

abbrev pub decreases-up : goal.decreases-up
decreases-up g l = sum l.e.e - sum l.current.e
