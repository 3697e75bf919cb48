use Rattle.std.proofs.Common.{ℕ, List, [], ◌++◌, get_or, sym, ap, ◌∙◌}
use Rattle.cert_text.specs.Text.{part_text}
use Rattle.poly_text.proofs.Factors.{goes_on}
use Rattle.cert_text.proofs.Rows.{parts_step, parts_past}
use Rattle.cert_text.proofs.carrying.put_parts.Goals as goal
use Rattle.cert_text.proofs.carrying.put_parts.Goals.{then-i-parts+in_ok-put_part, else-i-parts}

pub loop-i-preserved : goal.loop-i-preserved
loop-i-preserved c =
    elim c.if-i-parts.branch [
      | then-i-parts+in_ok-put_part w ↦ goes_on c.args.out.now.items c.loop-i.out.items (part_text (get_or c.args.names.now c.loop-i.i (record { bytes = []; len = 0 })) w.index-parts-i.result) _ _ _ _ c.loop-i.invariant
          (parts_step c.loop-i.i c.args.names.now c.args.parts.now (record { bytes = []; len = 0 }) _ c.loop-i-test.true w.if-i-parts.true w.index-parts-i.is) (rw w.out-is w.in_ok-put_part.ensures)
      | else-i-parts w ↦ rw w.out-is (ap (λ (x : List ℕ). c.loop-i.out.items ++ x) (sym (parts_past c.loop-i.i c.args.names.now c.args.parts.now w.if-i-parts.false)) ∙ c.loop-i.invariant)
    ]
