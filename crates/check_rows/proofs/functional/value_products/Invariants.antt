use Rattle.std.proofs.Common.{◌≡◌, map, take}
use Rattle.std.specs.List.{AllByRecursion}
use Rattle.poly_law.specs.Polynomials.{term_in, times_in}
use Rattle.jet_law.specs.Terms.{exp_of, poly_of}
use Rattle.check_rows.specs.Functionals.{with_coefficients}
use Rattle.check_rows.proofs.functional.value_products.Given as goal

abbrev pub invariant-loop-t : goal.invariant-loop-t
invariant-loop-t g l =
    let m = g.R.Ring.meaning l.ring in
    record {
      elems : AllByRecursion m.is_elem l.all.items;
      so_far : map m.value l.all.items ≡ with_coefficients l.n m.scalars.ops m.scalars.ops.mul (poly_of l.n m.value (take l.t-index l.values))
          (times_in l.n m.scalars.ops (term_in l.n m.scalars.ops (exp_of l.n l.a)) (poly_of l.n m.value l.f.terms));
    }
