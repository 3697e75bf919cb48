use Rattle.std.proofs.Common.{◌≡◌, ℕ, ◌+◌, ◌<◌, [], length, get_or, sym, ◌∙◌, ap, subst}
use Rattle.lin_row.specs.Lines.{IsLine, AllBelow, EachOf, dot}
use Rattle.lin_row.specs.Rows.{AreRows, rows_of}
use Rattle.lin_row.specs.declared.row.Row.{Row}
use Rattle.coord_change.specs.Changes.{entry_of}
use Rattle.coord_change.specs.Inverses.{image_at}
use Rattle.coord_change.proofs.RowSteps
use Rattle.coord_change.proofs.rows.matrix_rows.Goals as goal

pub loop-i-preserved : goal.loop-i-preserved
loop-i-preserved g c =
    let m = g.R.Ring.meaning c.args.ring.now in
    let n = c.args.n in
    let i = c.loop-i.i in
    let old = c.loop-i.invariant in
    let rows = c.loop-i.rows.items in
    let made : Row g.row.R-Elem.Denot = record { entries = c.from_vec.result } in
    let items = c.in_ok-push.ensures.items in
    let here : c.in_ok-entries.entries.items ≡ c.from_vec.result = sym c.from_vec.ensures in
    record {
      count = ap (λ zs. length (rows_of zs)) items ∙ RowSteps.count_more rows made i old.count;
      rows = subst (AreRows m) (sym items) (RowSteps.lines_more m rows made old.rows (subst (IsLine m) here c.in_ok-entries.ensures.line));
      below = subst (λ zs. EachOf (AllBelow n) (rows_of zs)) (sym items) (RowSteps.each_more (AllBelow n) rows made old.below (subst (AllBelow n) here c.in_ok-entries.ensures.below));
      forms = subst (λ zs. (j : ℕ) → j < i + 1 → (x : ℕ → g.R.Ring.Value c.args.ring.now) → dot m (get_or (rows_of zs) j []) x ≡ image_at m.scalars.ops n (entry_of m n c.args.matrix.now) x j) (sym items)
          (RowSteps.at_more (λ j r. (x : ℕ → g.R.Ring.Value c.args.ring.now) → dot m r x ≡ image_at m.scalars.ops n (entry_of m n c.args.matrix.now) x j) rows made i old.count old.forms
          (λ x. ap (λ r. dot m r x) (sym here) ∙ c.in_ok-entries.ensures.form x));
    }
