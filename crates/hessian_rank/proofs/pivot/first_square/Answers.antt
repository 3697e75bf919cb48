use Rattle.std.proofs.Common.{ℕ, get_or, sym, ◌∙◌}
use Rattle.jet_law.specs.Terms.{poly_of}
use Rattle.jet_subst.proofs.PowerLemmas.{any_default}
use Rattle.move_law.specs.Moves.{is_there, pair_exponents}
use Rattle.hessian_rank.proofs.Pivots.{first_here, first_later, first_end}
use Rattle.hessian_rank.proofs.pivot.first_square.Goals as goal

pub loop-i-preserved : goal.loop-i-preserved
loop-i-preserved g c =
    let m = g.R.Ring.meaning c.args.ring.now in
    let n = c.args.form.now.n in
    let p = λ (i : ℕ). is_there n m.scalars (poly_of n m.value c.args.form.now.terms) (pair_exponents n i i) in
    let k = c.loop-i.i-index in
    let x = get_or c.args.opened.now k 0 in
    c.loop-i.invariant ∙ first_later p c.args.opened.now k x c.loop-i-test.true (any_default c.args.opened.now k 0 x c.loop-i-test.true) (sym c.has_entry.ensures ∙ c.if-has_entry.false)

pub returns-then-has_entry : goal.returns-then-has_entry
returns-then-has_entry g c =
    let m = g.R.Ring.meaning c.args.ring.now in
    let n = c.args.form.now.n in
    let p = λ (i : ℕ). is_there n m.scalars (poly_of n m.value c.args.form.now.terms) (pair_exponents n i i) in
    let k = c.loop-i.i-index in
    let x = get_or c.args.opened.now k 0 in
    sym (c.loop-i.invariant ∙ first_here p c.args.opened.now k x c.loop-i-test.true (any_default c.args.opened.now k 0 x c.loop-i-test.true) (sym c.has_entry.ensures ∙ c.if-has_entry.true))

pub returns : goal.returns
returns g c =
    let m = g.R.Ring.meaning c.args.ring.now in
    let n = c.args.form.now.n in
    let p = λ (i : ℕ). is_there n m.scalars (poly_of n m.value c.args.form.now.terms) (pair_exponents n i i) in
    sym (c.loop-i.invariant ∙ first_end p c.args.opened.now c.loop-i.i-index c.loop-i-test.false)
