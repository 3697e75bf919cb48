use Rattle.std.proofs.Common.{◌≤◌, take, length}
use Rattle.std.specs.List.{AllByRecursion}
use Rattle.check_rows.specs.Lists.{list_at}
use Rattle.check_quotient.specs.Tables.{IsMultipleInKernel}
use Rattle.check_quotient.proofs.image.are_in_kernel.Given as goal

abbrev pub invariant-loop-u : goal.invariant-loop-u
invariant-loop-u g l =
    let m = g.R.Ring.meaning l.ring in
    record {
      within : l.u-index ≤ length l.multiples;
      so_far : AllByRecursion (IsMultipleInKernel m l.n l.table l.size l.k (list_at l.n m.value l.partials)) (take l.u-index l.multiples);
    }
