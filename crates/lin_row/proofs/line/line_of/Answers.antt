use Rattle.std.proofs.Common.{◌≡◌, ◌∙◌, ◌+◌, sym, ap, ap₂, take, [], ◌∷◌, ◌++◌}
use Rattle.std.proofs.lemmas.List.{take_more}
use Rattle.lin_row.proofs.BuildLaws
use Rattle.lin_row.proofs.line.line_of.Goals as goal

pub loop-t-preserved : goal.loop-t-preserved
loop-t-preserved g c =
    let t = c.t-item.result in
    let xs = c.as_slice-t-items.result.now in
    let more : take (c.loop-t.t-index + 1) xs ≡ take c.loop-t.t-index xs ++ (t ∷ []) = take_more xs c.loop-t.t-index t c.loop-t-test.true ∙ ap (λ u. take c.loop-t.t-index xs ++ (u ∷ [])) (sym c.t-item.is) in
    record {
      items = c.in_ok-push.ensures.items ∙ ap₂ (λ ys k. ys ++ ((k, t.1) ∷ [])) c.loop-t.invariant.items c.given_column.ensures.value ∙ sym more;
      below = rw more (BuildLaws.below_push (take c.loop-t.t-index xs) 4294967296 t c.loop-t.invariant.below (rw (← c.given_column.ensures.value) c.given_column.ensures.below));
    }
