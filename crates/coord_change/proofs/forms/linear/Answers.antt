use Rattle.std.proofs.Common.{List, sym, ◌∙◌, ap, subst}
use Rattle.poly_law.specs.ExpList.{exps}
use Rattle.poly_law.specs.Poly.{coefficient}
use Rattle.jet_poly.specs.JetTerms.{JetTerms}
use Rattle.jet_subst.specs.Parts.{part_of}
use Rattle.coord_change.specs.Changes.{IsChange, entry_of}
use Rattle.coord_change.specs.Inversions.{IsInverseOf}
use Rattle.coord_change.specs.Linear.{linear_part_of}
use Rattle.coord_change.proofs.InverseLemmas
use Rattle.coord_change.proofs.forms.linear.Goals as goal

pub returns-clause-change : goal.returns-clause-change
returns-clause-change g c =
    let m = g.F.Ring.meaning c.args.field.now in
    let laws = (g.met.F.Ring.laws c.args.field.now c.requires.ring).numbers in
    let n = c.args.n in
    let w = entry_of m n c.args.matrix.now in
    let parts = c.in_ok-parts.parts.items in
    let e = c.in_ok-parts.ensures in
    let inverse : IsInverseOf m n w c.in-Inverse.inverse.items = rw c.in-Inverse.is at c.in_ok-kernel.ensures.inversion in
    subst (λ (zs : List (JetTerms g.row.F-Elem.Denot)). IsChange m (record { n = n; order = c.args.order; parts = zs; inverse = c.from_vec-2.result })) (sym c.from_vec.ensures)
    (subst (λ (es : List g.row.F-Elem.Denot). IsChange m (record { n = n; order = c.args.order; parts = parts; inverse = es })) (sym c.from_vec-2.ensures)
    (InverseLemmas.change_of m laws.ring n c.args.order parts c.in-Inverse.inverse.items c.requires.given c.requires.at_most_8_variables c.requires.order_at_most_17 e.count e.jets e.orders
    (InverseLemmas.linear_none m laws.ring n w parts e.values)
    (InverseLemmas.inverse_with m laws.ring n w (linear_part_of m n parts) (InverseLemmas.linear_part_is m laws.ring n w parts e.values) c.in-Inverse.inverse.items inverse)))

pub returns-clause-parts : goal.returns-clause-parts
returns-clause-parts g c i h b =
    let m = g.F.Ring.meaning c.args.field.now in
    ap (λ (zs : List (JetTerms g.row.F-Elem.Denot)). coefficient (exps c.args.n) m.scalars.ops (part_of c.args.n m.value zs i) b) c.from_vec.ensures ∙ c.in_ok-parts.ensures.values i h b

pub returns-clause-regular : goal.returns-clause-regular
returns-clause-regular g c =
    let m = g.F.Ring.meaning c.args.field.now in
    let laws = (g.met.F.Ring.laws c.args.field.now c.requires.ring).numbers in
    let n = c.args.n in
    let w = entry_of m n c.args.matrix.now in
    let inverse : IsInverseOf m n w c.in-Inverse.inverse.items = rw c.in-Inverse.is at c.in_ok-kernel.ensures.inversion in
    InverseLemmas.no_kernel m.scalars.ops laws.ring n w (entry_of m n c.in-Inverse.inverse.items) inverse.inverse
