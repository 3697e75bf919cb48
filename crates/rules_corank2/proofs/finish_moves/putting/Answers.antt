use Rattle.std.proofs.Common.{◌≡◌, ℕ, ◌<◌, set, All, refl, ap, ap₂, subst, ◌∙◌, arith}
use Rattle.ring_law.proofs.Exits.{fault_handed_on}
use Rattle.poly_law.specs.Polynomials.{StartsAtIn}
use Rattle.jet_poly.specs.JetTerms.{JetTerms}
use Rattle.jet_subst.specs.Parts.{IsPart, part_of}
use Rattle.coord_change.specs.Moves.{variable_of}
use Rattle.rules_corank2.proofs.FinishPuts
use Rattle.rules_corank2.proofs.finish_moves.putting.Goals as goal

pub change_of-requires-clause-given : goal.change_of-requires-clause-given
change_of-requires-clause-given g c =
    let m = g.F.Ring.meaning c.args.field.now in
    let l = (g.met.F.Ring.laws c.args.field.now c.requires.ring).numbers in
    let n = c.args.p.n in
    let o = c.args.p.order in
    let u = c.in_ok-unit.ensures in
    let en : c.in_ok-unit.unit.n ≡ n = u.n ∙ c.n.ensures in
    let eo : c.in_ok-unit.unit.order ≡ o = u.order ∙ c.order.ensures in
    let unit = c.in_ok-unit.unit.parts in
    let is : c.as_slice.result.now ≡ set (set unit c.args.i c.args.p) c.args.j c.args.q =
    c.as_slice.ensures ∙ c.set-2.ensures ∙ ap (λ z. set z c.from-2.result c.args.q) c.set.ensures ∙ ap₂ (λ x y. set (set unit x c.args.p) y c.args.q) c.from.ensures c.from-2.ensures in
    FinishPuts.given m n o c.args.i c.args.j c.requires.i_inside c.requires.j_inside c.requires.other unit (u.change.count ∙ en)
    (subst (λ z. All (IsPart m z) unit) en u.change.parts) (subst (λ z. All (λ (f : JetTerms g.row.F-Elem.Denot). f.order ≡ z) unit) eo u.change.orders)
    (subst (λ z. (k : ℕ) → k < z → part_of z m.value unit k ≡ variable_of z m.scalars k) c.n.ensures u.parts) c.args.p c.args.q c.requires.p_jet refl refl c.requires.q_jet c.requires.same_variables c.requires.same_order l c.as_slice.result.now is

pub change_of-requires-clause-at_most_8_parts : goal.change_of-requires-clause-at_most_8_parts
change_of-requires-clause-at_most_8_parts g c =
    let m = g.F.Ring.meaning c.args.field.now in
    let l = (g.met.F.Ring.laws c.args.field.now c.requires.ring).numbers in
    let n = c.args.p.n in
    let o = c.args.p.order in
    let u = c.in_ok-unit.ensures in
    let en : c.in_ok-unit.unit.n ≡ n = u.n ∙ c.n.ensures in
    let eo : c.in_ok-unit.unit.order ≡ o = u.order ∙ c.order.ensures in
    let unit = c.in_ok-unit.unit.parts in
    let is : c.as_slice.result.now ≡ set (set unit c.args.i c.args.p) c.args.j c.args.q =
    c.as_slice.ensures ∙ c.set-2.ensures ∙ ap (λ z. set z c.from-2.result c.args.q) c.set.ensures ∙ ap₂ (λ x y. set (set unit x c.args.p) y c.args.q) c.from.ensures c.from-2.ensures in
    (let size = FinishPuts.size m n o c.args.i c.args.j c.requires.i_inside c.requires.j_inside c.requires.other unit (u.change.count ∙ en)
    (subst (λ z. All (IsPart m z) unit) en u.change.parts) (subst (λ z. All (λ (f : JetTerms g.row.F-Elem.Denot). f.order ≡ z) unit) eo u.change.orders)
    (subst (λ z. (k : ℕ) → k < z → part_of z m.value unit k ≡ variable_of z m.scalars k) c.n.ensures u.parts) c.args.p c.args.q c.requires.p_jet refl refl c.requires.q_jet c.requires.same_variables c.requires.same_order l c.as_slice.result.now is in let few = c.requires.at_most_8_variables in omega arith)

pub change_of-requires-clause-parts : goal.change_of-requires-clause-parts
change_of-requires-clause-parts g c =
    let m = g.F.Ring.meaning c.args.field.now in
    let l = (g.met.F.Ring.laws c.args.field.now c.requires.ring).numbers in
    let n = c.args.p.n in
    let o = c.args.p.order in
    let u = c.in_ok-unit.ensures in
    let en : c.in_ok-unit.unit.n ≡ n = u.n ∙ c.n.ensures in
    let eo : c.in_ok-unit.unit.order ≡ o = u.order ∙ c.order.ensures in
    let unit = c.in_ok-unit.unit.parts in
    let is : c.as_slice.result.now ≡ set (set unit c.args.i c.args.p) c.args.j c.args.q =
    c.as_slice.ensures ∙ c.set-2.ensures ∙ ap (λ z. set z c.from-2.result c.args.q) c.set.ensures ∙ ap₂ (λ x y. set (set unit x c.args.p) y c.args.q) c.from.ensures c.from-2.ensures in
    FinishPuts.list_parts m n o c.args.i c.args.j c.requires.i_inside c.requires.j_inside c.requires.other unit (u.change.count ∙ en)
    (subst (λ z. All (IsPart m z) unit) en u.change.parts) (subst (λ z. All (λ (f : JetTerms g.row.F-Elem.Denot). f.order ≡ z) unit) eo u.change.orders)
    (subst (λ z. (k : ℕ) → k < z → part_of z m.value unit k ≡ variable_of z m.scalars k) c.n.ensures u.parts) c.args.p c.args.q c.requires.p_jet refl refl c.requires.q_jet c.requires.same_variables c.requires.same_order l c.as_slice.result.now is

pub change_of-requires-clause-orders : goal.change_of-requires-clause-orders
change_of-requires-clause-orders g c =
    let m = g.F.Ring.meaning c.args.field.now in
    let l = (g.met.F.Ring.laws c.args.field.now c.requires.ring).numbers in
    let n = c.args.p.n in
    let o = c.args.p.order in
    let u = c.in_ok-unit.ensures in
    let en : c.in_ok-unit.unit.n ≡ n = u.n ∙ c.n.ensures in
    let eo : c.in_ok-unit.unit.order ≡ o = u.order ∙ c.order.ensures in
    let unit = c.in_ok-unit.unit.parts in
    let is : c.as_slice.result.now ≡ set (set unit c.args.i c.args.p) c.args.j c.args.q =
    c.as_slice.ensures ∙ c.set-2.ensures ∙ ap (λ z. set z c.from-2.result c.args.q) c.set.ensures ∙ ap₂ (λ x y. set (set unit x c.args.p) y c.args.q) c.from.ensures c.from-2.ensures in
    FinishPuts.list_orders m n o c.args.i c.args.j c.requires.i_inside c.requires.j_inside c.requires.other unit (u.change.count ∙ en)
    (subst (λ z. All (IsPart m z) unit) en u.change.parts) (subst (λ z. All (λ (f : JetTerms g.row.F-Elem.Denot). f.order ≡ z) unit) eo u.change.orders)
    (subst (λ z. (k : ℕ) → k < z → part_of z m.value unit k ≡ variable_of z m.scalars k) c.n.ensures u.parts) c.args.p c.args.q c.requires.p_jet refl refl c.requires.q_jet c.requires.same_variables c.requires.same_order l c.as_slice.result.now is

pub change_of-requires-clause-order_at_least_1 : goal.change_of-requires-clause-order_at_least_1
change_of-requires-clause-order_at_least_1 g c =
    let m = g.F.Ring.meaning c.args.field.now in
    let l = (g.met.F.Ring.laws c.args.field.now c.requires.ring).numbers in
    let n = c.args.p.n in
    let o = c.args.p.order in
    let u = c.in_ok-unit.ensures in
    let en : c.in_ok-unit.unit.n ≡ n = u.n ∙ c.n.ensures in
    let eo : c.in_ok-unit.unit.order ≡ o = u.order ∙ c.order.ensures in
    let unit = c.in_ok-unit.unit.parts in
    let is : c.as_slice.result.now ≡ set (set unit c.args.i c.args.p) c.args.j c.args.q =
    c.as_slice.ensures ∙ c.set-2.ensures ∙ ap (λ z. set z c.from-2.result c.args.q) c.set.ensures ∙ ap₂ (λ x y. set (set unit x c.args.p) y c.args.q) c.from.ensures c.from-2.ensures in
    (let e = FinishPuts.order_is m n o c.args.i c.args.j c.requires.i_inside c.requires.j_inside c.requires.other unit (u.change.count ∙ en)
    (subst (λ z. All (IsPart m z) unit) en u.change.parts) (subst (λ z. All (λ (f : JetTerms g.row.F-Elem.Denot). f.order ≡ z) unit) eo u.change.orders)
    (subst (λ z. (k : ℕ) → k < z → part_of z m.value unit k ≡ variable_of z m.scalars k) c.n.ensures u.parts) c.args.p c.args.q c.requires.p_jet refl refl c.requires.q_jet c.requires.same_variables c.requires.same_order l c.as_slice.result.now is in let h = c.requires.order_at_least_1 in omega arith)

pub change_of-requires-clause-order_at_most_17 : goal.change_of-requires-clause-order_at_most_17
change_of-requires-clause-order_at_most_17 g c =
    let m = g.F.Ring.meaning c.args.field.now in
    let l = (g.met.F.Ring.laws c.args.field.now c.requires.ring).numbers in
    let n = c.args.p.n in
    let o = c.args.p.order in
    let u = c.in_ok-unit.ensures in
    let en : c.in_ok-unit.unit.n ≡ n = u.n ∙ c.n.ensures in
    let eo : c.in_ok-unit.unit.order ≡ o = u.order ∙ c.order.ensures in
    let unit = c.in_ok-unit.unit.parts in
    let is : c.as_slice.result.now ≡ set (set unit c.args.i c.args.p) c.args.j c.args.q =
    c.as_slice.ensures ∙ c.set-2.ensures ∙ ap (λ z. set z c.from-2.result c.args.q) c.set.ensures ∙ ap₂ (λ x y. set (set unit x c.args.p) y c.args.q) c.from.ensures c.from-2.ensures in
    (let e = FinishPuts.order_is m n o c.args.i c.args.j c.requires.i_inside c.requires.j_inside c.requires.other unit (u.change.count ∙ en)
    (subst (λ z. All (IsPart m z) unit) en u.change.parts) (subst (λ z. All (λ (f : JetTerms g.row.F-Elem.Denot). f.order ≡ z) unit) eo u.change.orders)
    (subst (λ z. (k : ℕ) → k < z → part_of z m.value unit k ≡ variable_of z m.scalars k) c.n.ensures u.parts) c.args.p c.args.q c.requires.p_jet refl refl c.requires.q_jet c.requires.same_variables c.requires.same_order l c.as_slice.result.now is in let h = c.requires.order_at_most_17 in omega arith)

pub change_of-requires-clause-no_constant : goal.change_of-requires-clause-no_constant
change_of-requires-clause-no_constant g c =
    let m = g.F.Ring.meaning c.args.field.now in
    let l = (g.met.F.Ring.laws c.args.field.now c.requires.ring).numbers in
    let n = c.args.p.n in
    let o = c.args.p.order in
    let u = c.in_ok-unit.ensures in
    let en : c.in_ok-unit.unit.n ≡ n = u.n ∙ c.n.ensures in
    let eo : c.in_ok-unit.unit.order ≡ o = u.order ∙ c.order.ensures in
    let unit = c.in_ok-unit.unit.parts in
    let is : c.as_slice.result.now ≡ set (set unit c.args.i c.args.p) c.args.j c.args.q =
    c.as_slice.ensures ∙ c.set-2.ensures ∙ ap (λ z. set z c.from-2.result c.args.q) c.set.ensures ∙ ap₂ (λ x y. set (set unit x c.args.p) y c.args.q) c.from.ensures c.from-2.ensures in
    FinishPuts.list_low m n o c.args.i c.args.j c.requires.i_inside c.requires.j_inside c.requires.other unit (u.change.count ∙ en)
    (subst (λ z. All (IsPart m z) unit) en u.change.parts) (subst (λ z. All (λ (f : JetTerms g.row.F-Elem.Denot). f.order ≡ z) unit) eo u.change.orders)
    (subst (λ z. (k : ℕ) → k < z → part_of z m.value unit k ≡ variable_of z m.scalars k) c.n.ensures u.parts) c.args.p c.args.q c.requires.p_jet refl refl c.requires.q_jet c.requires.same_variables c.requires.same_order l c.as_slice.result.now is
    (subst (λ z. (k : ℕ) → k < z → StartsAtIn z m.scalars.ops 1 (part_of z m.value unit k)) en u.change.invertible.no_constant) c.requires.p_low c.requires.q_low

pub change_of-requires-clause-regular : goal.change_of-requires-clause-regular
change_of-requires-clause-regular g c =
    let m = g.F.Ring.meaning c.args.field.now in
    let l = (g.met.F.Ring.laws c.args.field.now c.requires.ring).numbers in
    let n = c.args.p.n in
    let o = c.args.p.order in
    let u = c.in_ok-unit.ensures in
    let en : c.in_ok-unit.unit.n ≡ n = u.n ∙ c.n.ensures in
    let eo : c.in_ok-unit.unit.order ≡ o = u.order ∙ c.order.ensures in
    let unit = c.in_ok-unit.unit.parts in
    let is : c.as_slice.result.now ≡ set (set unit c.args.i c.args.p) c.args.j c.args.q =
    c.as_slice.ensures ∙ c.set-2.ensures ∙ ap (λ z. set z c.from-2.result c.args.q) c.set.ensures ∙ ap₂ (λ x y. set (set unit x c.args.p) y c.args.q) c.from.ensures c.from-2.ensures in
    FinishPuts.list_regular m n o c.args.i c.args.j c.requires.i_inside c.requires.j_inside c.requires.other unit (u.change.count ∙ en)
    (subst (λ z. All (IsPart m z) unit) en u.change.parts) (subst (λ z. All (λ (f : JetTerms g.row.F-Elem.Denot). f.order ≡ z) unit) eo u.change.orders)
    (subst (λ z. (k : ℕ) → k < z → part_of z m.value unit k ≡ variable_of z m.scalars k) c.n.ensures u.parts) c.args.p c.args.q c.requires.p_jet refl refl c.requires.q_jet c.requires.same_variables c.requires.same_order l c.as_slice.result.now is c.requires.regular

pub returns-in_err-change-clause-range : goal.returns-in_err-change-clause-range
returns-in_err-change-clause-range g c =
    let m = g.F.Ring.meaning c.args.field.now in
    let l = (g.met.F.Ring.laws c.args.field.now c.requires.ring).numbers in
    let n = c.args.p.n in
    let o = c.args.p.order in
    let u = c.in_ok-unit.ensures in
    let en : c.in_ok-unit.unit.n ≡ n = u.n ∙ c.n.ensures in
    let eo : c.in_ok-unit.unit.order ≡ o = u.order ∙ c.order.ensures in
    let unit = c.in_ok-unit.unit.parts in
    let is : c.as_slice.result.now ≡ set (set unit c.args.i c.args.p) c.args.j c.args.q =
    c.as_slice.ensures ∙ c.set-2.ensures ∙ ap (λ z. set z c.from-2.result c.args.q) c.set.ensures ∙ ap₂ (λ x y. set (set unit x c.args.p) y c.args.q) c.from.ensures c.from-2.ensures in
    fault_handed_on _ c.from_residual-in_err-change.ensures.1 (FinishPuts.list_high m n o c.args.i c.args.j c.requires.i_inside c.requires.j_inside c.requires.other unit (u.change.count ∙ en)
    (subst (λ z. All (IsPart m z) unit) en u.change.parts) (subst (λ z. All (λ (f : JetTerms g.row.F-Elem.Denot). f.order ≡ z) unit) eo u.change.orders)
    (subst (λ z. (k : ℕ) → k < z → part_of z m.value unit k ≡ variable_of z m.scalars k) c.n.ensures u.parts) c.args.p c.args.q c.requires.p_jet refl refl c.requires.q_jet c.requires.same_variables c.requires.same_order l c.as_slice.result.now is) c.in_err-change.ensures.range

pub returns-clause-change : goal.returns-clause-change
returns-clause-change g c =
    let m = g.F.Ring.meaning c.args.field.now in
    let l = (g.met.F.Ring.laws c.args.field.now c.requires.ring).numbers in
    let n = c.args.p.n in
    let o = c.args.p.order in
    let u = c.in_ok-unit.ensures in
    let en : c.in_ok-unit.unit.n ≡ n = u.n ∙ c.n.ensures in
    let eo : c.in_ok-unit.unit.order ≡ o = u.order ∙ c.order.ensures in
    let unit = c.in_ok-unit.unit.parts in
    let is : c.as_slice.result.now ≡ set (set unit c.args.i c.args.p) c.args.j c.args.q =
    c.as_slice.ensures ∙ c.set-2.ensures ∙ ap (λ z. set z c.from-2.result c.args.q) c.set.ensures ∙ ap₂ (λ x y. set (set unit x c.args.p) y c.args.q) c.from.ensures c.from-2.ensures in
    (let e = c.in_ok-change.ensures in FinishPuts.list_change m n o c.args.i c.args.j c.requires.i_inside c.requires.j_inside c.requires.other unit (u.change.count ∙ en)
    (subst (λ z. All (IsPart m z) unit) en u.change.parts) (subst (λ z. All (λ (f : JetTerms g.row.F-Elem.Denot). f.order ≡ z) unit) eo u.change.orders)
    (subst (λ z. (k : ℕ) → k < z → part_of z m.value unit k ≡ variable_of z m.scalars k) c.n.ensures u.parts) c.args.p c.args.q c.requires.p_jet refl refl c.requires.q_jet c.requires.same_variables c.requires.same_order l c.as_slice.result.now is c.in_ok-change.change e.change e.n e.order e.parts)
