use Rattle.std.proofs.Common.{◌∙◌, ℕ, inl, inr, sym, ap, subst, arith, take, drop, [], ◌∷◌, ◌++◌}
use Rattle.ring_law.proofs.Exits.{fault_handed_on}
use Rattle.lin_row.specs.Lines.{lead_of, entry}
use Rattle.lin_row.specs.System.{AreEchelon, AreReduced, AllVanish, ZeroAtPivots, IsAbsent, lines_of}
use Rattle.lin_row.proofs.LineLaws
use Rattle.lin_row.proofs.SystemLaws
use Rattle.lin_row.proofs.BuildLaws
use Rattle.lin_row.proofs.ExcludedLaws
use Rattle.lin_row.proofs.excluded.excluding_plainly.Goals as goal

pub lead_inverse-requires-clause-some : goal.lead_inverse-requires-clause-some
lead_inverse-requires-clause-some g c = BuildLaws.lead_some c.args.left.now (omega arith)

pub returns-in_err-inverse-clause-cause : goal.returns-in_err-inverse-clause-cause
returns-in_err-inverse-clause-cause g c =
    let m = g.F.Ring.meaning c.args.field.now in
    let laws = (g.met.F.Ring.laws c.args.field.now c.requires.ring).numbers.ring in
    fault_handed_on _ c.from_residual.ensures.1
    (λ high. ExcludedLaws.division_high m laws (lines_of c.args.pivots.now) c.args.left.now c.requires.line c.requires.given (inl high))
    c.in_err-inverse.ensures.cause

pub returns-in_err-divided-clause-cause : goal.returns-in_err-divided-clause-cause
returns-in_err-divided-clause-cause g c =
    let m = g.F.Ring.meaning c.args.field.now in
    let laws = (g.met.F.Ring.laws c.args.field.now c.requires.ring).numbers.ring in
    fault_handed_on _ c.from_residual-in_err-divided.ensures.1
    (λ high. ExcludedLaws.division_high m laws (lines_of c.args.pivots.now) c.args.left.now c.requires.line c.requires.given
    (inr (ExcludedLaws.divided_high m laws (lines_of c.args.pivots.now) c.args.left.now c.lead-column.result (m.value c.in_ok-inverse.inverse) c.in_ok-values.values.items c.lead-column.ensures c.in_ok-inverse.ensures.value c.in_ok-values.ensures.entries (rw c.deref.ensures.value at high))))
    c.in_err-divided.ensures.cause

pub returns-clause-excludes : goal.returns-clause-excludes
returns-clause-excludes g c =
    let m = g.F.Ring.meaning c.args.field.now in
    let laws = (g.met.F.Ring.laws c.args.field.now c.requires.ring).numbers in
    let ps = c.args.pivots.now in
    let n = c.place-count.result in
    let split = SystemLaws.lines-split ps n in
    let x = c.in_ok-inverse.inverse in
    let f = m.value x in
    let column = c.lead-column.result in
    let front = c.in_ok-values.values.items in
    let divided = c.in_ok-divided.divided.items in
    let v = divided ++ ((column, x) ∷ []) in
    let unit = ap (λ k. m.scalars.ops.mul (entry m c.args.left.now k) f) c.lead-column.ensures ∙ c.in_ok-inverse.ensures.unit in
    let below = c.in_ok-values.ensures.below column c.place-count.ensures.before in
    let free : IsAbsent column (lines_of ps) = ExcludedLaws.lead_absent m laws.ring (lines_of ps) c.args.left.now column c.requires.cleared c.requires.line c.lead-column.ensures c.requires.given in
    let value = λ (w : ℕ → g.F.Ring.Value c.args.field.now). ExcludedLaws.divided-value m laws.ring divided front (lines_of (take n ps)) column x w (rw c.deref.ensures.value at c.in_ok-divided.ensures.value w) (c.in_ok-values.ensures.value w) in
    let forms = ExcludedLaws.front_vanish m laws.ring (lines_of (take n ps)) (lines_of (drop n ps)) column (subst (AreEchelon m) split c.requires.pivots) (subst (AreReduced m) split c.requires.reduced) c.place-count.ensures.before c.place-count.ensures.next (subst (λ qs. IsAbsent column qs) split free) v f value in
    let same = ExcludedLaws.front_same m laws.ring (lines_of (take n ps)) (lines_of (drop n ps)) column (subst (AreEchelon m) split c.requires.pivots) (subst (AreReduced m) split c.requires.reduced) c.place-count.ensures.before c.place-count.ensures.next (subst (λ qs. IsAbsent column qs) split free) v f value in
    rw c.in_ok-push.ensures.items
    (ExcludedLaws.excludes m laws.ring (lines_of ps) c.args.left.now v column f c.lead-column.ensures c.requires.cleared unit
    (record {
      rising = BuildLaws.rising_push divided column (column, x) (omega arith) ((rw c.deref.ensures.value at c.in_ok-divided.ensures.below) column below) c.in_ok-divided.ensures.line.rising;
      units = LineLaws.units_append m laws.ring divided _ c.in_ok-divided.ensures.line.units ((c.in_ok-inverse.ensures.elem, ExcludedLaws.inverse_unit m laws.ring laws.nontrivial (entry m c.args.left.now (lead_of c.args.left.now)) f c.in_ok-inverse.ensures.unit), tt);
    })
    (subst (λ qs. AllVanish m qs (entry m v)) (sym split) forms)
    (λ w zeros. same w (subst (λ qs. ZeroAtPivots m.scalars qs w) split zeros)))
