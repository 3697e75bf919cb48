use Rattle.std.proofs.Common.{◌∙◌, ◌++◌, ap, sym, leb}
use Rattle.ring_law.proofs.Exits.{fault_handed_on, faulted_by}
use Rattle.poly_law.specs.Exps.{degree}
use Rattle.poly_law.specs.ExpList.{exps}
use Rattle.poly_law.specs.Poly.{coefficient, cut}
use Rattle.poly_law.proofs.ExpLists.{exps_are}
use Rattle.poly_law.proofs.PolyRing
use Rattle.jet_law.specs.Terms.{poly_of}
use Rattle.jet_law.proofs.Gather.{filter-append}
use Rattle.jet_poly.specs.Gathered.{gathered}
use Rattle.jet_poly.proofs.Steps.{if_ok, first-high, second-high}
use Rattle.jet_poly.proofs.collect.sum_of.Goals as goal

pub returns-in_err-add_terms-clause-range : goal.returns-in_err-add_terms-clause-range
returns-in_err-add_terms-clause-range g c =
    let m = g.R.Ring.meaning c.args.ring.now in
    fault_handed_on _ c.from_residual.ensures.1
    (λ high. first-high c.args.n c.args.k m.scalars (g.met.R.Ring.laws c.args.ring.now c.requires.ring).numbers.ring (gathered c.args.n m.value c.new-sums.result.entries) (poly_of c.args.n m.value c.args.f.now) (poly_of c.args.n m.value c.args.g.now)
    (λ b. ap (λ z. coefficient (exps c.args.n) m.scalars.ops (gathered c.args.n m.value z) b) c.new-sums.ensures.empty) high)
    c.in_err-add_terms.ensures.range

pub returns-in_err-add_terms-2-clause-range : goal.returns-in_err-add_terms-2-clause-range
returns-in_err-add_terms-2-clause-range g c =
    let m = g.R.Ring.meaning c.args.ring.now in
    fault_handed_on _ c.from_residual-in_err-add_terms-2.ensures.1
    (λ high. second-high c.args.n c.args.k m.scalars (g.met.R.Ring.laws c.args.ring.now c.requires.ring).numbers.ring (gathered c.args.n m.value c.add_terms.new.sums.entries) (poly_of c.args.n m.value c.args.f.now) (poly_of c.args.n m.value c.args.g.now)
    (λ b. c.in_ok-add_terms.ensures.sum b ∙ ap (λ z. coefficient (exps c.args.n) m.scalars.ops (gathered c.args.n m.value z ++ cut (exps c.args.n) m.scalars.ops c.args.k (poly_of c.args.n m.value c.args.f.now)) b) c.new-sums.ensures.empty) high)
    c.in_err-add_terms-2.ensures.range

pub returns-clause-sum : goal.returns-clause-sum
returns-clause-sum g c =
    let m = g.R.Ring.meaning c.args.ring.now in
    let left = cut (exps c.args.n) m.scalars.ops c.args.k (poly_of c.args.n m.value c.args.f.now) in
    let right = cut (exps c.args.n) m.scalars.ops c.args.k (poly_of c.args.n m.value c.args.g.now) in
    if_ok c.finished.result
    (λ h same b. same b ∙ c.in_ok-add_terms-2.ensures.sum b
    ∙ PolyRing.add_left (exps c.args.n) (exps_are c.args.n) m.scalars.ops (g.met.R.Ring.laws c.args.ring.now c.requires.ring).numbers.ring (gathered c.args.n m.value c.add_terms.new.sums.entries) left right
    (λ a. c.in_ok-add_terms.ensures.sum a ∙ ap (λ z. coefficient (exps c.args.n) m.scalars.ops (gathered c.args.n m.value z ++ left) a) c.new-sums.ensures.empty) b
    ∙ ap (λ z. coefficient (exps c.args.n) m.scalars.ops z b) (sym (filter-append (λ t. leb (degree (exps c.args.n) t.0) c.args.k) (poly_of c.args.n m.value c.args.f.now) (poly_of c.args.n m.value c.args.g.now))))
    c.finished.ensures.sum

pub returns-clause-range : goal.returns-clause-range
returns-clause-range g c = faulted_by (λ bad. absurd bad) c.finished.ensures.memory
