use Rattle.std.proofs.Common.{◌≡◌, ℕ, ◌+◌, ◌<◌, ◌≢◌, [], ◌∷◌, ◌++◌, length, get_or, sym, ◌∙◌, ap, ap₂, subst, arith}
use Rattle.lin_row.specs.Lines.{IsLine, AllBelow, EachOf, dot}
use Rattle.lin_row.specs.Rows.{AreRows, rows_of}
use Rattle.lin_row.specs.declared.row.Row.{Row}
use Rattle.lin_row.proofs.BuildLaws
use Rattle.lin_row.proofs.LineLaws
use Rattle.lin_row.proofs.SystemLaws
use Rattle.coord_change.specs.Changes.{entry_of}
use Rattle.coord_change.specs.Inverses.{image_at}
use Rattle.coord_change.proofs.RowSteps
use Rattle.coord_change.proofs.rows.extended_rows.Goals as goal

pub loop-i-preserved : goal.loop-i-preserved
loop-i-preserved g c =
    let m = g.R.Ring.meaning c.args.ring.now in
    let laws = (g.met.R.Ring.laws c.args.ring.now c.requires.ring).numbers in
    let n = c.args.n in
    let i = c.loop-i.i in
    let old = c.loop-i.invariant in
    let rows = c.loop-i.rows.items in
    let entries = c.in_ok-entries.entries.items in
    let column : c.from.result ≡ n + i = c.from.ensures in
    let inside = c.loop-i-test.true in
    let own : ℕ × g.row.R-Elem.Denot = (c.from.result, c.one.result) in
    let made : Row g.row.R-Elem.Denot = record { entries = c.from_vec.result } in
    let items = c.in_ok-push-2.ensures.items in
    let here : entries ++ (own ∷ []) ≡ c.from_vec.result = sym (c.from_vec.ensures ∙ c.in_ok-push.ensures.items) in
    let unit : m.value c.one.result ≢ m.scalars.ops.zero = λ z. laws.nontrivial (sym c.one.ensures.value ∙ z) in
    let line : IsLine m (entries ++ (own ∷ [])) = record {
      rising = BuildLaws.rising_push entries n own (omega arith) c.in_ok-entries.ensures.below c.in_ok-entries.ensures.line.rising;
      units = LineLaws.units_append m laws.ring entries (own ∷ []) c.in_ok-entries.ensures.line.units ((c.one.ensures.elem, unit), tt);
    } in
    record {
      count = ap (λ zs. length (rows_of zs)) items ∙ RowSteps.count_more rows made i old.count;
      rows = subst (AreRows m) (sym items) (RowSteps.lines_more m rows made old.rows (subst (IsLine m) here line));
      below = subst (λ zs. EachOf (AllBelow (n + n)) (rows_of zs)) (sym items) (RowSteps.each_more (AllBelow (n + n)) rows made old.below
          (subst (AllBelow (n + n)) here (BuildLaws.below_push entries (n + n) own (SystemLaws.below_bigger entries n (n + n) (omega arith) c.in_ok-entries.ensures.below) (omega arith))));
      forms = subst (λ zs. (j : ℕ) → j < i + 1 → (x : ℕ → g.R.Ring.Value c.args.ring.now) → dot m (get_or (rows_of zs) j []) x ≡ m.scalars.ops.add (image_at m.scalars.ops n (entry_of m n c.args.matrix.now) x j) (x (n + j))) (sym items)
          (RowSteps.at_more (λ j r. (x : ℕ → g.R.Ring.Value c.args.ring.now) → dot m r x ≡ m.scalars.ops.add (image_at m.scalars.ops n (entry_of m n c.args.matrix.now) x j) (x (n + j))) rows made i old.count old.forms
          (λ x. ap (λ r. dot m r x) (sym here) ∙ LineLaws.dot-push m laws.ring entries own x
          ∙ ap₂ m.scalars.ops.add (c.in_ok-entries.ensures.form x)
          (ap₂ m.scalars.ops.mul c.one.ensures.value (ap x column) ∙ laws.ring.mul_comm m.scalars.ops.one (x (n + i)) ∙ laws.ring.mul_one (x (n + i)))));
    }
