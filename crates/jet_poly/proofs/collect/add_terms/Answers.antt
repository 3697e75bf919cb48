use Rattle.std.proofs.Common.{◌++◌, take_all, subst, arith}
use Rattle.ring_law.proofs.Exits.{fault_handed_on}
use Rattle.poly_law.specs.Polynomials.{SameIn, cut_in}
use Rattle.jet_law.specs.Terms.{poly_of}
use Rattle.jet_poly.specs.Gathered.{gathered}
use Rattle.jet_poly.proofs.Steps.{terms-more, terms-high}
use Rattle.jet_poly.proofs.collect.add_terms.Goals as goal

pub returns-in_err-add_term-clause-range : goal.returns-in_err-add_term-clause-range
returns-in_err-add_term-clause-range g c =
    let m = g.R.Ring.meaning c.args.ring.now in
    fault_handed_on _ c.from_residual.ensures.1
    (λ high. terms-high c.args.n c.args.k m (g.met.R.Ring.laws c.args.ring.now c.requires.ring).numbers (gathered c.args.n m.value c.args.sums.now.entries) (gathered c.args.n m.value c.loop-t.sums.entries) c.args.terms.now c.loop-t.t-index c.t-item.result
    c.loop-t-test.true c.t-item.is c.loop-t.invariant.so_far high)
    c.in_err-add_term.ensures.range

pub loop-t-preserved : goal.loop-t-preserved
loop-t-preserved g c =
    let m = g.R.Ring.meaning c.args.ring.now in
    record {
      within = omega arith;
      valid = c.in_ok-add_term.ensures.gathered;
      so_far = terms-more c.args.n c.args.k m (g.met.R.Ring.laws c.args.ring.now c.requires.ring).numbers (gathered c.args.n m.value c.args.sums.now.entries) (gathered c.args.n m.value c.loop-t.sums.entries) (gathered c.args.n m.value c.add_term.new.sums.entries)
          c.args.terms.now c.loop-t.t-index c.t-item.result c.loop-t-test.true c.t-item.is c.loop-t.invariant.so_far c.in_ok-add_term.ensures.sum;
    }

pub returns-clause-sum : goal.returns-clause-sum
returns-clause-sum g c =
    let m = g.R.Ring.meaning c.args.ring.now in
    subst (λ z. SameIn c.args.n m.scalars.ops (gathered c.args.n m.value c.loop-t.sums.entries) (gathered c.args.n m.value c.args.sums.now.entries ++ cut_in c.args.n m.scalars.ops c.args.k (poly_of c.args.n m.value z)))
    (take_all c.loop-t.t-index c.args.terms.now (omega arith)) c.loop-t.invariant.so_far
