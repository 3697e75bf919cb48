use Rattle.std.proofs.Common.{◌≡◌, None}
use Rattle.jet_law.specs.Terms.{poly_of}
use Rattle.kill_law.specs.Kill.{first}
use Rattle.move_law.specs.Moves.{is_there, power_exponents}
use Rattle.rules_corank2.proofs.FinishChoices.{from_2_below}
use Rattle.rules_corank2.proofs.finish_choice.least.Given as goal

abbrev pub invariant-loop-m : goal.invariant-loop-m
invariant-loop-m g l =
    let m0 = g.R.Ring.meaning l.ring in
    let n = l.f.n in
    first (λ m. is_there n m0.scalars (poly_of n m0.value l.f.terms) (power_exponents n l.i m)) (from_2_below l.m) ≡ None
