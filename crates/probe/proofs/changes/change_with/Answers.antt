use Rattle.std.proofs.Common.{◌<◌, ◌≤◌, sym, subst}
use Rattle.poly_law.specs.Polynomials.{HaveNoConstant}
use Rattle.jet_subst.specs.Parts.{part_of}
use Rattle.probe.proofs.Constants.{order_is}
use Rattle.probe.proofs.changes.change_with.Goals as goal

pub from_parts-requires-clause-order_at_least_1 : goal.from_parts-requires-clause-order_at_least_1
from_parts-requires-clause-order_at_least_1 g c =
    let parts = c.args.parts.now in
    let given : 0 < c.args.n = c.requires.given in
    subst (λ z. 1 ≤ z) (sym (order_is c.args.order parts (subst (λ z. 0 < z) (sym c.requires.count) given) c.requires.orders)) c.requires.order_at_least_1

pub from_parts-requires-clause-order_at_most_17 : goal.from_parts-requires-clause-order_at_most_17
from_parts-requires-clause-order_at_most_17 g c =
    let parts = c.args.parts.now in
    let given : 0 < c.args.n = c.requires.given in
    subst (λ z. z ≤ 17) (sym (order_is c.args.order parts (subst (λ z. 0 < z) (sym c.requires.count) given) c.requires.orders)) c.requires.order_at_most_17

pub from_parts-requires-clause-no_constant : goal.from_parts-requires-clause-no_constant
from_parts-requires-clause-no_constant g c =
    let m = g.F.Ring.meaning c.args.field.now in
    let parts = c.args.parts.now in
    let low : HaveNoConstant c.args.n m.scalars.ops c.args.n (part_of c.args.n m.value parts) = subst (λ z. HaveNoConstant c.args.n m.scalars.ops z (part_of c.args.n m.value parts)) c.requires.count (c.have_no_constant.ensures.low c.if-have_no_constant.true) in
    subst (λ z. HaveNoConstant z m.scalars.ops z (part_of z m.value parts)) (sym c.requires.count) low
