use Rattle.std.proofs.Common.{◌≡◌, ℕ, drop}
use Rattle.jet_law.specs.Terms.{poly_of}
use Rattle.kill_law.specs.Kill.{first}
use Rattle.move_law.specs.Moves.{is_there, pair_exponents}
use Rattle.hessian_rank.proofs.pivot.first_square.Given as goal

abbrev pub invariant-loop-i : goal.invariant-loop-i
invariant-loop-i g l =
    let m = g.R.Ring.meaning l.ring in
    let n = l.form.n in
    let p = λ (i : ℕ). is_there n m.scalars (poly_of n m.value l.form.terms) (pair_exponents n i i) in
    first p l.opened ≡ first p (drop l.i-index l.opened)
