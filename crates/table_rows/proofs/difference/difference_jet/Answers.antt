use Rattle.std.proofs.Common.{◌∙◌, ap, subst}
use Rattle.ring_law.proofs.Exits.{fault_handed_on, faulted_by}
use Rattle.poly_law.specs.ExpList.{exps}
use Rattle.poly_law.specs.Poly.{coefficient}
use Rattle.poly_law.specs.Polynomials.{cut_in}
use Rattle.jet_law.specs.Heights.{IsHigh, sums_heights}
use Rattle.jet_law.specs.Terms.{poly_of}
use Rattle.jet_poly.proofs.Steps.{if_ok}
use Rattle.table_rows.proofs.difference.difference_jet.Goals as goal

pub returns-in_err-terms-clause-range : goal.returns-in_err-terms-clause-range
returns-in_err-terms-clause-range g c = fault_handed_on _ c.from_residual.ensures.1 (λ bad. absurd bad) c.in_err-terms.ensures.memory

pub returns-clause-difference : goal.returns-clause-difference
returns-clause-difference g c =
    let m = g.R.Ring.meaning c.args.ring.now in
    let n = c.args.n in
    if_ok c.from_terms.result
    (λ h same b. same b ∙ ap (λ z. coefficient (exps n) m.scalars.ops (cut_in n m.scalars.ops c.args.k z) b) (ap (poly_of n m.value) c.deref.ensures.value ∙ c.in_ok-terms.ensures.terms))
    c.from_terms.ensures.sum

pub returns-clause-range : goal.returns-clause-range
returns-clause-range g c =
    let m = g.R.Ring.meaning c.args.ring.now in
    let n = c.args.n in
    faulted_by
    (λ high. subst (λ z. IsHigh (sums_heights (exps n) m.scalars (cut_in n m.scalars.ops c.args.k z))) (ap (poly_of n m.value) c.deref.ensures.value ∙ c.in_ok-terms.ensures.terms) high)
    c.from_terms.ensures.range
