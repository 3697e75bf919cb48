use Rattle.std.proofs.Common.{ℕ, ◌+◌, get_or, map, drop, sym, ap, ◌∙◌}
use Rattle.jet_law.specs.Terms.{poly_of}
use Rattle.jet_subst.proofs.PowerLemmas.{any_default}
use Rattle.kill_law.specs.Kill.{first}
use Rattle.move_law.specs.Moves.{is_there, pair_exponents}
use Rattle.move_law.specs.Hessian.{pairs}
use Rattle.hessian_rank.proofs.Pivots.{first_left, first_right, pairs_from, pairs_end}
use Rattle.hessian_rank.proofs.pivot.first_pair.Goals as goal

pub loop-at-preserved : goal.loop-at-preserved
loop-at-preserved g c =
    let m = g.R.Ring.meaning c.args.ring.now in
    let n = c.args.form.now.n in
    let p = λ (p : ℕ × ℕ). is_there n m.scalars (poly_of n m.value c.args.form.now.terms) (pair_exponents n p.0 p.1) in
    let xs = c.args.opened.now in
    let k = c.loop-at.at in
    let x = get_or xs k 0 in
    c.loop-at.invariant ∙ ap (first p) (pairs_from xs k x c.loop-at-test.true (any_default xs k 0 x c.loop-at-test.true))
    ∙ first_right p (map (λ j. (x, j)) (drop (k + 1) xs)) (pairs (drop (k + 1) xs)) (sym c.in_default.ensures)

pub returns-in-Some : goal.returns-in-Some
returns-in-Some g c =
    let m = g.R.Ring.meaning c.args.ring.now in
    let n = c.args.form.now.n in
    let p = λ (p : ℕ × ℕ). is_there n m.scalars (poly_of n m.value c.args.form.now.terms) (pair_exponents n p.0 p.1) in
    let xs = c.args.opened.now in
    let k = c.loop-at.at in
    let x = get_or xs k 0 in
    sym (c.loop-at.invariant ∙ ap (first p) (pairs_from xs k x c.loop-at-test.true (any_default xs k 0 x c.loop-at-test.true))
    ∙ first_left p (map (λ j. (x, j)) (drop (k + 1) xs)) (pairs (drop (k + 1) xs)) c.in-Some.pair (sym c.in-Some.ensures))

pub returns : goal.returns
returns g c =
    let m = g.R.Ring.meaning c.args.ring.now in
    let n = c.args.form.now.n in
    let p = λ (p : ℕ × ℕ). is_there n m.scalars (poly_of n m.value c.args.form.now.terms) (pair_exponents n p.0 p.1) in
    sym (c.loop-at.invariant ∙ ap (first p) (pairs_end c.args.opened.now c.loop-at.at c.loop-at-test.false))
