use Rattle.std.proofs.Common.{List, All, refl, subst, arith}
use Rattle.jet_poly.specs.JetTerms.{JetTerms, IsRising}
use Rattle.tern_cubic.proofs.MovingLemmas
use Rattle.tern_cubic.proofs.MovingLemmas.{rising_more}
use Rattle.tern_cubic.proofs.moving.matrix_change.Goals as goal

pub linear-requires-clause-elems : goal.linear-requires-clause-elems
linear-requires-clause-elems g c = (c.entries-flat.ensures _ c.requires.matrix).elems

pub loop-part-preserved : goal.loop-part-preserved
loop-part-preserved g c =
    rising_more c.as_slice-part-items.result.now c.as_slice-part-items.result.now c.loop-part.part-index c.part-item.result _ refl c.loop-part-test.true c.part-item.is c.terms.ensures.terms c.terms.ensures.rising c.loop-part.invariant

pub returns-in-Ok-clause-change : goal.returns-in-Ok-clause-change
returns-in-Ok-clause-change g c w is =
    let m = g.F.Ring.meaning c.args.field.now in
    let laws = (g.met.F.Ring.laws c.args.field.now c.requires.field).numbers in
    let e = c.in-Ok.ensures in
    let last = c.loop-part-test.false in
    MovingLemmas.change_is m laws w c.entries-flat.result (c.entries-flat.ensures w is) c.in-Ok.change e.change e.n e.order
    (subst (λ (zs : List (JetTerms g.row.F-Elem.Denot)). All (λ (p : JetTerms g.row.F-Elem.Denot). IsRising p.terms) zs) c.as_slice-part-items.ensures (λ k d h. c.loop-part.invariant k d (omega arith)))
    e.parts

pub returns-in-Err-Singular-clause-change : goal.returns-in-Err-Singular-clause-change
returns-in-Err-Singular-clause-change g c w is =
    let m = g.F.Ring.meaning c.args.field.now in
    let laws = (g.met.F.Ring.laws c.args.field.now c.requires.field).numbers in
    MovingLemmas.no_inverse m laws w c.entries-flat.result (c.entries-flat.ensures w is) (g.met.F.Field.inverts c.args.field.now c.requires.field) _
    (rw c.in-Err-Singular.field-0-is at c.in-Err-Singular.ensures.singular.only)

pub returns-in-Err-Range-clause-range : goal.returns-in-Err-Range-clause-range
returns-in-Err-Range-clause-range g c w is =
    let m = g.F.Ring.meaning c.args.field.now in
    let laws = (g.met.F.Ring.laws c.args.field.now c.requires.field).numbers in
    let refused = rw c.in-Err-Range.field-0-is at c.in-Err-Range.ensures.range.only in
    record { only = (refused.0, MovingLemmas.inversion_high m laws w c.entries-flat.result (c.entries-flat.ensures w is) refused.1) }
