use Rattle.std.proofs.Common.{◌∙◌, ◌++◌, ap}
use Rattle.ring_law.proofs.Exits.{fault_handed_on, faulted_by}
use Rattle.poly_law.specs.ExpList.{exps}
use Rattle.poly_law.specs.Poly.{coefficient, cut}
use Rattle.jet_law.specs.Terms.{poly_of}
use Rattle.jet_poly.specs.Gathered.{gathered}
use Rattle.jet_poly.proofs.Steps.{if_ok, collected-high}
use Rattle.jet_poly.proofs.collect.from_terms.Goals as goal

pub returns-in_err-add_terms-clause-range : goal.returns-in_err-add_terms-clause-range
returns-in_err-add_terms-clause-range g c =
    let m = g.R.Ring.meaning c.args.ring.now in
    fault_handed_on _ c.from_residual.ensures.1
    (λ high. collected-high c.args.n c.args.order m.scalars (g.met.R.Ring.laws c.args.ring.now c.requires.ring).numbers.ring (gathered c.args.n m.value c.new-sums.result.entries) (poly_of c.args.n m.value c.args.terms.now)
    (λ b. ap (λ z. coefficient (exps c.args.n) m.scalars.ops (gathered c.args.n m.value z) b) c.new-sums.ensures.empty) high)
    c.in_err-add_terms.ensures.range

pub returns-clause-sum : goal.returns-clause-sum
returns-clause-sum g c =
    let m = g.R.Ring.meaning c.args.ring.now in
    if_ok c.finished.result
    (λ h same b. same b ∙ c.in_ok-add_terms.ensures.sum b
    ∙ ap (λ z. coefficient (exps c.args.n) m.scalars.ops (gathered c.args.n m.value z ++ cut (exps c.args.n) m.scalars.ops c.args.order (poly_of c.args.n m.value c.args.terms.now)) b) c.new-sums.ensures.empty)
    c.finished.ensures.sum

pub returns-clause-range : goal.returns-clause-range
returns-clause-range g c = faulted_by (λ bad. absurd bad) c.finished.ensures.memory
