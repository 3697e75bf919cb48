-- Valid names with the same words are the same.
use Rattle.std.proofs.Common.{◌≡◌, ◌≤◌, ◌&&◌, IsTrue, subst, sym, ◌↔◌, rules}
use Rattle.std.proofs.lemmas.Slice.Eq.{slice_eq-Decides}
use Rattle.report_law.specs.Items.{IsShape}
use Rattle.check_line.proofs.LineTests.{shape_is}
use Rattle.check_line.proofs.shape.is_shape.Goals as goal

pub returns-then-same : goal.returns-then-same
returns-then-same c l names =
    let decides = slice_eq-Decides (λ a b. search rules) c.args.names.now c.as_slice.result.now c.eq-same.result c.eq-same.ensures in
    let same = subst (λ z. IsTrue c.eq-same.result ↔ (c.args.names.now ≡ z)) c.as_slice.ensures decides in
    let low = subst (λ n. IsTrue c.is_small_order-small.result ↔ (5 ≤ n → c.args.c.now.order ≤ 12)) c.len.ensures c.is_small_order-small.ensures in
    subst (λ b. IsTrue (b && c.is_small_order-small.result) ↔ IsShape l c.args.c.now) c.if-same.true
    (shape_is c.args.c.now c.args.names.now l c.eq-same.result c.is_small_order-small.result c.requires.well_formed c.requires.names names same low)

pub returns-else-same : goal.returns-else-same
returns-else-same c l names =
    let decides = slice_eq-Decides (λ a b. search rules) c.args.names.now c.as_slice.result.now c.eq-same.result c.eq-same.ensures in
    let same = subst (λ z. IsTrue c.eq-same.result ↔ (c.args.names.now ≡ z)) c.as_slice.ensures decides in
    let low = subst (λ n. IsTrue c.is_small_order-small.result ↔ (5 ≤ n → c.args.c.now.order ≤ 12)) c.len.ensures c.is_small_order-small.ensures in
    subst (λ b. IsTrue b ↔ IsShape l c.args.c.now) (sym c.if-same.false)
    (subst (λ b. IsTrue (b && c.is_small_order-small.result) ↔ IsShape l c.args.c.now) c.if-same.false
    (shape_is c.args.c.now c.args.names.now l c.eq-same.result c.is_small_order-small.result c.requires.well_formed c.requires.names names same low))
