use Rattle.std.proofs.Common.{ℕ, ◌∙◌, ap, take, drop}
use Rattle.std.proofs.lemmas.List.{take_min, drop_min}
use Rattle.cert_text.proofs.Rows.{rows_go}
use Rattle.cert_text.proofs.carrying.put_rows.Goals as goal

pub loop-preserved : goal.loop-preserved
loop-preserved c =
    let n = c.args.n in
    let rest = c.loop.rest.now in
    rows_go c.args.out.now.items c.loop.out.items _ _ c.loop.counter n rest c.split_at.result.0.now c.split_at.result.1.now c.loop-test.true c.loop.invariant
    (c.split_at.ensures.front ∙ ap (λ (k : ℕ). take k rest) c.min.ensures ∙ take_min n rest)
    (c.split_at.ensures.back ∙ ap (λ (k : ℕ). drop k rest) c.min.ensures ∙ drop_min n rest)
    c.in_ok-put_row.ensures
