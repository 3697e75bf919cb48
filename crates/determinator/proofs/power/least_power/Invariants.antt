use Rattle.std.proofs.Common.{◌≡◌, ◌≤◌, None}
use Rattle.jet_law.specs.Terms.{poly_of}
use Rattle.kill_law.specs.Kill.{first}
use Rattle.move_law.specs.Moves.{is_there, power_exponents}
use Rattle.determinator.proofs.Powers.{tried}
use Rattle.determinator.proofs.power.least_power.Given as goal

abbrev pub invariant-loop-m : goal.invariant-loop-m
invariant-loop-m g l =
    let m = g.R.Ring.meaning l.ring in
    record {
      at_least : 2 ≤ l.m;
      so_far : first (λ k. is_there l.f.n m.scalars (poly_of l.f.n m.value l.f.terms) (power_exponents l.f.n 0 k)) (tried l.m) ≡ None;
    }
