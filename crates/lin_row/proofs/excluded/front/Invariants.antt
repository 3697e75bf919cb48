use Rattle.std.proofs.Common.{◌≡◌, ℕ, take}
use Rattle.lin_row.specs.Lines.{IsLine, AllBelow, EachOf, dot, entry}
use Rattle.lin_row.specs.System.{front_value, lines_of}
use Rattle.lin_row.specs.Plain.{Among}
use Rattle.lin_row.proofs.excluded.front.Given as goal

abbrev pub invariant-loop-i : goal.invariant-loop-i
invariant-loop-i g l =
    let r = g.R.Ring.meaning l.ring in
    record {
      line : IsLine r l.all.items;
      below : (a : ℕ) → AllBelow a (lines_of (take l.i l.pivots)) → AllBelow a l.all.items;
      value : (w : ℕ → g.R.Ring.Value l.ring) → dot r l.all.items w ≡ front_value r (lines_of (take l.i l.pivots)) l.column w;
      entries : EachOf (λ t. Among (λ p. r.value t.1 ≡ r.scalars.ops.neg (entry r p.1 l.column)) (lines_of l.pivots)) l.all.items;
    }
