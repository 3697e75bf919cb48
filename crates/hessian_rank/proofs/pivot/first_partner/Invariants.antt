use Rattle.std.proofs.Common.{◌≡◌, ℕ, ◌+◌, map, drop, get_or}
use Rattle.jet_law.specs.Terms.{poly_of}
use Rattle.kill_law.specs.Kill.{first}
use Rattle.move_law.specs.Moves.{is_there, pair_exponents}
use Rattle.hessian_rank.proofs.pivot.first_partner.Given as goal

abbrev pub invariant-loop-k : goal.invariant-loop-k
invariant-loop-k g l =
    let m = g.R.Ring.meaning l.ring in
    let n = l.form.n in
    let p = λ (p : ℕ × ℕ). is_there n m.scalars (poly_of n m.value l.form.terms) (pair_exponents n p.0 p.1) in
    let f : ℕ → ℕ × ℕ = λ j. (get_or l.opened l.at 0, j) in
    first p (map f (drop (l.at + 1) l.opened)) ≡ first p (map f (drop l.k l.opened))
