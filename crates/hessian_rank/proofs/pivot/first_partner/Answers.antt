use Rattle.std.proofs.Common.{ℕ, get_or, sym, ◌∙◌}
use Rattle.jet_law.specs.Terms.{poly_of}
use Rattle.move_law.specs.Moves.{is_there, pair_exponents}
use Rattle.hessian_rank.proofs.Pivots.{mapped_here, mapped_later, mapped_end}
use Rattle.hessian_rank.proofs.pivot.first_partner.Goals as goal

pub loop-k-preserved : goal.loop-k-preserved
loop-k-preserved g c =
    let m = g.R.Ring.meaning c.args.ring.now in
    let n = c.args.form.now.n in
    let p = λ (p : ℕ × ℕ). is_there n m.scalars (poly_of n m.value c.args.form.now.terms) (pair_exponents n p.0 p.1) in
    let f : ℕ → ℕ × ℕ = λ j. (get_or c.args.opened.now c.args.at 0, j) in
    c.loop-k.invariant ∙ mapped_later p f c.args.opened.now c.loop-k.k 0 c.loop-k-test.true (sym c.has_entry.ensures ∙ c.if-has_entry.false)

pub returns-then-has_entry : goal.returns-then-has_entry
returns-then-has_entry g c =
    let m = g.R.Ring.meaning c.args.ring.now in
    let n = c.args.form.now.n in
    let p = λ (p : ℕ × ℕ). is_there n m.scalars (poly_of n m.value c.args.form.now.terms) (pair_exponents n p.0 p.1) in
    let f : ℕ → ℕ × ℕ = λ j. (get_or c.args.opened.now c.args.at 0, j) in
    sym (c.loop-k.invariant ∙ mapped_here p f c.args.opened.now c.loop-k.k 0 c.loop-k-test.true (sym c.has_entry.ensures ∙ c.if-has_entry.true))

pub returns : goal.returns
returns g c =
    let m = g.R.Ring.meaning c.args.ring.now in
    let n = c.args.form.now.n in
    let p = λ (p : ℕ × ℕ). is_there n m.scalars (poly_of n m.value c.args.form.now.terms) (pair_exponents n p.0 p.1) in
    let f : ℕ → ℕ × ℕ = λ j. (get_or c.args.opened.now c.args.at 0, j) in
    sym (c.loop-k.invariant ∙ mapped_end p f c.args.opened.now c.loop-k.k c.loop-k-test.false)
