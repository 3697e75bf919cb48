use Rattle.std.proofs.Common.{◌≡◌, take, length, All}
use Rattle.std.specs.List.{filter}
use Rattle.kill_table.specs.Steps.{is_graded}
use Rattle.kill_table.proofs.reduction.terms_of_grade.Given as goal

abbrev pub invariant-loop-t : goal.invariant-loop-t
invariant-loop-t g l = record {
  terms : l.kept.items ≡ filter (λ t. is_graded l.part l.grade t.0.e) (take l.t-index l.terms);
  long : All (λ t. length t.0.e ≡ 8) l.kept.items;
}
