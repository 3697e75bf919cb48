use Rattle.std.proofs.Common.{take}
use Rattle.std.specs.List.Sorted.{IsPermutation}
use Rattle.poly_law.specs.Polynomials.{SameIn}
use Rattle.jet_law.specs.Terms.{poly_of}
use Rattle.jet_poly.specs.JetTerms.{IsRising}
use Rattle.jet_poly.specs.Gathered.{nonzero}
use Rattle.normal_forms.proofs.distinct.jet_of_distinct.Given as goal

abbrev pub invariant-loop-t : goal.invariant-loop-t
invariant-loop-t g l =
    let m = g.R.Ring.meaning l.ring in
    record {
      rising : IsRising l.kept.items;
      kept : IsPermutation (nonzero m.scalars m.value (take l.t-index l.terms)) l.kept.items;
      so_far : SameIn l.n m.scalars.ops (poly_of l.n m.value l.kept.items) (poly_of l.n m.value (take l.t-index l.terms));
    }
