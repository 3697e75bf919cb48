use Rattle.std.proofs.Common.{◌≡◌, ℕ, take}
use Rattle.lin_row.specs.Lines.{AllBelow, AllUnits, IsRising, dot}
use Rattle.determinacy.proofs.AnswerLemmas.{weighted}
use Rattle.determinacy.proofs.test.nonzero_coefficients.Given as goal

abbrev pub invariant-loop-j : goal.invariant-loop-j
invariant-loop-j g l =
    let m = g.R.Ring.meaning l.ring in
    record {
      rising : IsRising l.all.items;
      below : AllBelow l.j l.all.items;
      units : AllUnits m l.all.items;
      sum : (v : ℕ → g.R.Ring.Value l.ring) → dot m l.all.items v ≡ weighted m (take l.j l.coefficients) 0 v;
    }
