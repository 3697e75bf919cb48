use Rattle.std.proofs.Common.{take_all, sym, ap, subst, ◌∙◌, arith}
use Rattle.std.specs.List.{filter}
use Rattle.mono_exp.specs.declared.exponent.Exp.{Exp}
use Rattle.jet_poly.specs.JetTerms.{IsRising}
use Rattle.jet_poly.proofs.KeptTerms.{kept-rising}
use Rattle.kill_table.proofs.Leaving.{keeps, passes_over}
use Rattle.rules_corank2.proofs.OrderedTerms.{has_unit, unit_true, unit_false, ordered_jet}
use Rattle.rules_corank2.proofs.finish_jets.jet_of.Goals as goal
use Rattle.rules_corank2.proofs.finish_jets.jet_of.Goals.{then-not-eq+in_ok-push, else-not-eq}

pub eq-requires-clause-left : goal.eq-requires-clause-left
eq-requires-clause-left g c =
    let m = g.R.Ring.meaning c.args.ring.now in
    subst (λ (t : Exp × g.row.R-Elem.Denot). m.is_elem t.1) (sym c.t-item.is) (c.requires.ordered.elems c.loop-t.t-index c.t-item.result c.loop-t-test.true)

pub loop-t-preserved : goal.loop-t-preserved
loop-t-preserved g c =
    let m = g.R.Ring.meaning c.args.ring.now in
    let l = (g.met.R.Ring.laws c.args.ring.now c.requires.ring).numbers in
    let t = c.t-item.result in
    elim c.if-not-eq.branch [
      | then-not-eq+in_ok-push w ↦ record {
        within = omega arith;
        kept = (ap (λ z. z.items) w.kept-is ∙ w.in_ok-push.ensures.items)
            ∙ keeps (has_unit m) c.args.terms.now c.loop-t.t-index t c.loop-t-test.true c.t-item.is c.loop-t.kept.items c.loop-t.invariant.kept (unit_true m l t c.eq.result (m.value c.zero.result) c.zero.ensures.value c.eq.ensures w.if-not-eq.true);
      }
      | else-not-eq w ↦ record {
        within = omega arith;
        kept = ap (λ z. z.items) w.kept-is
            ∙ passes_over (has_unit m) c.args.terms.now c.loop-t.t-index t c.loop-t-test.true c.t-item.is c.loop-t.kept.items c.loop-t.invariant.kept (unit_false m l t c.eq.result (m.value c.zero.result) c.zero.ensures.value c.eq.ensures w.if-not-eq.false);
      }
    ]

pub from_rising-requires : goal.from_rising-requires
from_rising-requires g c =
    let m = g.R.Ring.meaning c.args.ring.now in
    record { rising = subst IsRising (sym (c.loop-t.invariant.kept ∙ ap (filter (has_unit m)) (take_all c.loop-t.t-index c.args.terms.now c.loop-t-test.false))) (kept-rising (has_unit m) c.args.terms.now c.requires.ordered.rising) }

pub returns-clause-jet : goal.returns-clause-jet
returns-clause-jet g c =
    let m = g.R.Ring.meaning c.args.ring.now in
    let l = (g.met.R.Ring.laws c.args.ring.now c.requires.ring).numbers in
    ordered_jet m l c.args.n c.args.order c.args.terms.now c.requires.ordered c.from_rising.result
    (c.from_rising.ensures ∙ ap (λ ts. record { n = c.args.n; order = c.args.order; terms = ts }) (c.loop-t.invariant.kept ∙ ap (filter (has_unit m)) (take_all c.loop-t.t-index c.args.terms.now c.loop-t-test.false)))
