use Rattle.std.proofs.Common.{inl, List, All, refl, subst, arith}
use Rattle.ring_law.proofs.Exits.{fault_handed_on}
use Rattle.jet_poly.specs.JetTerms.{JetTerms, IsRising}
use Rattle.hessian_rank.proofs.ComposedMoves.{rising_more, exactly, compose_high}
use Rattle.hessian_rank.proofs.composing.composed.Goals as goal

pub returns-in_err-change-clause-range : goal.returns-in_err-change-clause-range
returns-in_err-change-clause-range g c move puts =
    let m = g.F.Ring.meaning c.args.field.now in
    let laws = (g.met.F.Ring.laws c.args.field.now c.requires.ring).numbers in
    fault_handed_on _ c.from_residual.ensures.1
    (λ high. inl (compose_high m laws c.args.first.now.n move c.args.next.now puts c.args.first.now c.requires.first_change refl c.requires.same_variables high))
    c.in_err-change.ensures.range

pub loop-part-preserved : goal.loop-part-preserved
loop-part-preserved g c =
    let m = g.F.Ring.meaning c.args.field.now in
    rising_more m c.as_slice-part-items.result.now c.as_slice-part-items.result.now c.loop-part.part-index c.part-item.result _ refl c.loop-part-test.true c.part-item.is c.terms.ensures.terms c.terms.ensures.rising c.loop-part.invariant

pub returns-clause-change : goal.returns-clause-change
returns-clause-change g c move puts =
    let m = g.F.Ring.meaning c.args.field.now in
    let laws = (g.met.F.Ring.laws c.args.field.now c.requires.ring).numbers in
    let e = c.in_ok-change.ensures in
    let last = c.loop-part-test.false in
    exactly m laws c.args.first.now.n move c.args.next.now puts c.args.first.now c.requires.first_change refl c.in_ok-change.change e.change e.n e.order e.parts
    (subst (λ (zs : List (JetTerms g.row.F-Elem.Denot)). All (λ (p : JetTerms g.row.F-Elem.Denot). IsRising p.terms) zs) c.as_slice-part-items.ensures (λ k d h. c.loop-part.invariant k d (omega arith)))
