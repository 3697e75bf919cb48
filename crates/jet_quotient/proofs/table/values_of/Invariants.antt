use Rattle.std.proofs.Common.{◌≡◌, map, take}
use Rattle.std.specs.List.{AllByRecursion}
use Rattle.lin_row.specs.Lines.{entry}
use Rattle.jet_quotient.specs.Answers.{number_of}
use Rattle.jet_quotient.proofs.table.values_of.Given as goal

abbrev pub invariant-loop-b : goal.invariant-loop-b
invariant-loop-b g l = record {
  values : map (g.R.Ring.meaning l.ring).value l.values.items ≡ map (λ b. entry (g.R.Ring.meaning l.ring) l.left (number_of l.n b)) (take l.b-index l.basis);
  elems : AllByRecursion (g.R.Ring.meaning l.ring).is_elem l.values.items;
}
