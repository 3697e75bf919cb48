use Rattle.std.proofs.Common.{◌≤◌, sum, subst, arith}
use Rattle.std.specs.List.{All}
use Rattle.ring_theory.proofs.ValueSet.{values_are_set}
use Rattle.mono_exp.specs.declared.exponent.Exp.{Exp}
use Rattle.jet_law.specs.Terms.{poly_of}
use Rattle.jacobian_row.proofs.Combinations
use Rattle.probe.proofs.LowTerms.{low_terms}
use Rattle.probe.proofs.germs.starts_at_two.Goals as goal

pub returns : goal.returns
returns g c =
    let m = g.R.Ring.meaning c.args.ring.now in
    let laws = (g.met.R.Ring.laws c.args.ring.now c.requires.ring).numbers in
    let f = c.args.f.now in
    let all : All (λ (t : Exp × g.row.R-Elem.Denot). 2 ≤ sum t.0.e) c.terms-terms.result.now = (λ j d h. c.loop-t.invariant j d (omega arith)) in
    record {
      low = λ e. Combinations.starts_terms m.scalars.ops laws.ring (values_are_set m.scalars laws) f.n 2 (poly_of f.n m.value f.terms)
          (low_terms f.n m.value f.terms c.requires.jet.variables (subst (All (λ (t : Exp × g.row.R-Elem.Denot). 2 ≤ sum t.0.e)) c.terms-terms.ensures.terms all));
    }
