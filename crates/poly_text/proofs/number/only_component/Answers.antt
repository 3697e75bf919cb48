use Rattle.poly_text.proofs.OnlyOne.{first_next, none_at_end, second_next, zero_next}
use Rattle.poly_text.proofs.number.only_component.Goals as goal
use Rattle.poly_text.proofs.number.only_component.Goals.{then-not-is_zero+else-is_some, else-not-is_zero}

pub returns-then-is_some-clause-none : goal.returns-then-is_some-clause-none
returns-then-is_some-clause-none c _ p one =
    second_next c.components_of.result c.loop-q.q-index _ c.loop-q.only c.is_zero.result c.is_some.result _ c.is_zero.ensures c.if-not-is_zero.true c.is_some.ensures c.if-is_some.true c.loop-q-test.true c.loop-q.invariant c.components_of.ensures p one

pub loop-q-preserved : goal.loop-q-preserved
loop-q-preserved c =
    elim c.if-not-is_zero.branch [
      | then-not-is_zero+else-is_some w ↦ first_next c.components_of.result c.loop-q.q-index _ c.loop-q.only c.if-not-is_zero.only c.is_zero.result w.is_some.result _ c.is_zero.ensures w.if-not-is_zero.true w.is_some.ensures w.if-is_some.false c.components_of.ensures c.loop-q-test.true c.loop-q.invariant w.only-is
      | else-not-is_zero w ↦ zero_next c.components_of.result c.loop-q.q-index _ c.loop-q.only c.if-not-is_zero.only c.is_zero.result _ c.is_zero.ensures w.if-not-is_zero.false c.components_of.ensures c.loop-q-test.true c.loop-q.invariant w.only-is
    ]

pub returns-clause-none : goal.returns-clause-none
returns-clause-none c none p one = none_at_end c.components_of.result c.loop-q.q-index c.loop-q.only _ c.loop-q-test.false c.loop-q.invariant c.components_of.ensures none p one
