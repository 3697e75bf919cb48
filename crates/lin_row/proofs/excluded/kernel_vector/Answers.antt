use Rattle.std.proofs.Common.{◌∙◌, suc, sym, subst, arith, take, drop, [], ◌∷◌, ◌++◌}
use Rattle.lin_row.specs.Lines.{entry}
use Rattle.lin_row.specs.System.{AreEchelon, AreReduced, AllVanish, ZeroAtPivots, IsAbsent, lines_of}
use Rattle.ring_theory.proofs.RingSolver
use Rattle.lin_row.proofs.LineLaws
use Rattle.lin_row.proofs.SystemLaws
use Rattle.lin_row.proofs.BuildLaws
use Rattle.lin_row.proofs.ExcludedLaws
use Rattle.lin_row.proofs.excluded.kernel_vector.Goals as goal

pub returns-clause-line : goal.returns-clause-line
returns-clause-line g c =
    let m = g.R.Ring.meaning c.args.ring.now in
    let laws = (g.met.R.Ring.laws c.args.ring.now c.requires.ring).numbers in
    let front = c.in_ok-values.values.items in
    rw c.in_ok-push.ensures.items
    (record {
      rising = BuildLaws.rising_push front c.args.column (c.args.column, c.one.result) (omega arith) (c.in_ok-values.ensures.below c.args.column c.place-count.ensures.before) c.in_ok-values.ensures.line.rising;
      units = LineLaws.units_append m laws.ring front _ c.in_ok-values.ensures.line.units ((c.one.ensures.elem, λ e. laws.nontrivial (sym c.one.ensures.value ∙ e)), tt);
    })

pub returns-clause-vanish : goal.returns-clause-vanish
returns-clause-vanish g c =
    let m = g.R.Ring.meaning c.args.ring.now in
    let laws = (g.met.R.Ring.laws c.args.ring.now c.requires.ring).numbers.ring in
    let ps = c.args.pivots.now in
    let n = c.place-count.result in
    let split = SystemLaws.lines-split ps n in
    let v = c.in_ok-values.values.items ++ ((c.args.column, c.one.result) ∷ []) in
    rw c.in_ok-push.ensures.items
    (subst (λ qs. AllVanish m qs (entry m v)) (sym split)
    (ExcludedLaws.front_vanish m laws (lines_of (take n ps)) (lines_of (drop n ps)) c.args.column (subst (AreEchelon m) split c.requires.pivots) (subst (AreReduced m) split c.requires.reduced)
    c.place-count.ensures.before c.place-count.ensures.next (subst (λ qs. IsAbsent c.args.column qs) split c.requires.free) v m.scalars.ops.one
    (λ w. ExcludedLaws.kernel-value m laws c.in_ok-values.values.items (lines_of (take n ps)) c.args.column c.one.result c.one.ensures.value w (c.in_ok-values.ensures.value w) ∙ sym (RingSolver.one_mul m.scalars.ops laws _))))

pub returns-clause-same : goal.returns-clause-same
returns-clause-same g c w zeros =
    let m = g.R.Ring.meaning c.args.ring.now in
    let laws = (g.met.R.Ring.laws c.args.ring.now c.requires.ring).numbers.ring in
    let ps = c.args.pivots.now in
    let n = c.place-count.result in
    let split = SystemLaws.lines-split ps n in
    let v = c.in_ok-values.values.items ++ ((c.args.column, c.one.result) ∷ []) in
    rw c.in_ok-push.ensures.items
    (ExcludedLaws.front_same m laws (lines_of (take n ps)) (lines_of (drop n ps)) c.args.column (subst (AreEchelon m) split c.requires.pivots) (subst (AreReduced m) split c.requires.reduced)
    c.place-count.ensures.before c.place-count.ensures.next (subst (λ qs. IsAbsent c.args.column qs) split c.requires.free) v m.scalars.ops.one
    (λ u. ExcludedLaws.kernel-value m laws c.in_ok-values.values.items (lines_of (take n ps)) c.args.column c.one.result c.one.ensures.value u (c.in_ok-values.ensures.value u) ∙ sym (RingSolver.one_mul m.scalars.ops laws _))
    w (subst (λ qs. ZeroAtPivots m.scalars qs w) split zeros)
    ∙ RingSolver.one_mul m.scalars.ops laws (w c.args.column))

pub returns-clause-last : goal.returns-clause-last
returns-clause-last g c d beyond =
    let m = g.R.Ring.meaning c.args.ring.now in
    let laws = (g.met.R.Ring.laws c.args.ring.now c.requires.ring).numbers.ring in
    let front = c.in_ok-values.values.items in
    rw c.in_ok-push.ensures.items
    (ExcludedLaws.entry_beyond m laws (front ++ ((c.args.column, c.one.result) ∷ [])) (suc c.args.column) d
    (BuildLaws.below_push front (suc c.args.column) (c.args.column, c.one.result) (SystemLaws.below_bigger front c.args.column (suc c.args.column) (omega arith) (c.in_ok-values.ensures.below c.args.column c.place-count.ensures.before)) (omega arith)) (omega arith))
