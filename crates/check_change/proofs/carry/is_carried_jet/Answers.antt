use Rattle.std.proofs.Common.{◌∙◌}
use Rattle.poly_law.specs.Polynomials.{substitute}
use Rattle.jet_law.specs.Terms.{poly_of}
use Rattle.jet_subst.specs.Parts.{variables_of, part_of}
use Rattle.check_change.proofs.CarriedTest.{carried_test}
use Rattle.check_change.proofs.carry.is_carried_jet.Goals as goal

pub returns-clause-carried : goal.returns-clause-carried
returns-clause-carried g c =
    let m = g.R.Ring.meaning c.args.ring.now in
    let laws = (g.met.R.Ring.laws c.args.ring.now c.requires.ring).numbers in
    let parts = c.args.parts.now in
    let n = variables_of parts in
    let f = c.args.f.now in
    let carried = c.in_ok-carried.ensures in
    carried_test m laws.ring n c.are_same_terms.result c.n.result c.args.k c.terms.result.now c.terms-2.result.now c.args.jet.now c.in_ok-carried.carried
    (substitute f.n n m.scalars.ops (part_of n m.value parts) (poly_of f.n m.value f.terms))
    (c.n.ensures ∙ c.requires.wanted.variables) c.terms.ensures.terms c.terms-2.ensures.terms c.terms.ensures.rising c.terms-2.ensures.rising
    c.requires.wanted (record { jet = carried.jet; variables = carried.n }) c.requires.wanted_order carried.value c.are_same_terms.ensures
