use Rattle.std.proofs.Common.{◌≡◌, ℕ, drop}
use Rattle.jet_law.specs.Terms.{poly_of}
use Rattle.kill_law.specs.Kill.{first}
use Rattle.move_law.specs.Moves.{is_there, pair_exponents}
use Rattle.move_law.specs.Hessian.{pairs}
use Rattle.hessian_rank.proofs.pivot.first_pair.Given as goal

abbrev pub invariant-loop-at : goal.invariant-loop-at
invariant-loop-at g l =
    let m = g.R.Ring.meaning l.ring in
    let n = l.form.n in
    let p = λ (p : ℕ × ℕ). is_there n m.scalars (poly_of n m.value l.form.terms) (pair_exponents n p.0 p.1) in
    first p (pairs l.opened) ≡ first p (pairs (drop l.at l.opened))
