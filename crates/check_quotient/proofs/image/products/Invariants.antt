use Rattle.std.proofs.Common.{◌≡◌, ◌≤◌, map, take, length}
use Rattle.std.specs.List.{AllByRecursion}
use Rattle.jet_law.specs.Terms.{poly_of}
use Rattle.check_quotient.specs.Tables.{image_products}
use Rattle.check_quotient.proofs.image.products.Given as goal

abbrev pub invariant-loop-t : goal.invariant-loop-t
invariant-loop-t g l =
    let m = g.R.Ring.meaning l.ring in
    record {
      within : l.t-index ≤ length l.f;
      elems : AllByRecursion m.is_elem l.all.items;
      so_far : map m.value l.all.items ≡ image_products m l.n l.table l.j (poly_of l.n m.value (take l.t-index l.f));
    }
