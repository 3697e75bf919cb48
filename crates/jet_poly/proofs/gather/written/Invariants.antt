use Rattle.std.proofs.Common.{suc, get_or, length, take}
use Rattle.std.specs.Map.{keys_of}
use Rattle.mono_exp.specs.Exponents.{monomials_below}
use Rattle.poly_law.specs.Polynomials.{SameIn}
use Rattle.jet_law.specs.Terms.{poly_of}
use Rattle.jet_poly.specs.Gathered.{gathered}
use Rattle.jet_poly.proofs.Output.{AreWritten}
use Rattle.jet_poly.proofs.gather.written.Given as goal

abbrev pub invariant-loop-i : goal.invariant-loop-i
invariant-loop-i g l = record {
  written : AreWritten l.n l.order (get_or (keys_of l.sums.entries) l.i (length (monomials_below l.n (suc l.order)))) (g.R.Ring.meaning l.ring) l.terms.items;
  so_far : SameIn l.n (g.R.Ring.meaning l.ring).scalars.ops (poly_of l.n (g.R.Ring.meaning l.ring).value l.terms.items) (gathered l.n (g.R.Ring.meaning l.ring).value (take l.i l.sums.entries));
}
