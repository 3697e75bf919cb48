use Rattle.std.proofs.Common.{◌≡◌, List, length, All, sym, ◌∙◌, ap, subst, arith}
use Rattle.poly_law.specs.Polynomials.{HaveNoConstant}
use Rattle.jet_poly.specs.JetTerms.{JetTerms}
use Rattle.jet_subst.specs.Parts.{IsPart, part_of}
use Rattle.coord_change.specs.Changes.{IsChange, entry_of}
use Rattle.coord_change.specs.Errors.{OnRangeError}
use Rattle.coord_change.specs.Inverses.{HasNoKernel, IsInKernel, InverseIsHigh}
use Rattle.coord_change.specs.Inversions.{IsInverseOf}
use Rattle.coord_change.specs.Linear.{linear_part_of, order_of}
use Rattle.coord_change.proofs.InverseLemmas
use Rattle.coord_change.proofs.parts.from_parts.Goals as goal

pub returns-in_err-kernel-clause-range : goal.returns-in_err-kernel-clause-range
returns-in_err-kernel-clause-range g c =
    let m = g.F.Ring.meaning c.args.field.now in
    let laws = (g.met.F.Ring.laws c.args.field.now c.requires.ring).numbers in
    let parts = c.args.parts.now in
    let n = c.n-n.result in
    let size : n ≡ length parts = c.n-n.ensures ∙ ap (λ (p : JetTerms g.row.F-Elem.Denot). p.n) c.index-parts-0.is ∙ (c.requires.parts 0 c.index-parts-0.result c.requires.given).variables in
    let entries = c.in_ok-matrix.ensures.entries in
    subst (λ z. OnRangeError c.from_residual-in_err-kernel.result (InverseIsHigh m.scalars z (linear_part_of m z parts))) size
    (InverseLemmas.range_handed_on
    (λ high. InverseLemmas.high_of_same m.scalars laws.ring n (entry_of m n c.in_ok-matrix.matrix.items) (linear_part_of m n parts) entries (subst (λ (es : List g.row.F-Elem.Denot). InverseIsHigh m.scalars n (entry_of m n es)) c.deref.ensures.value high))
    c.from_residual-in_err-kernel.result c.from_residual-in_err-kernel.ensures.1 c.in_err-kernel.ensures.range)

pub returns-in-Kernel-clause-singular : goal.returns-in-Kernel-clause-singular
returns-in-Kernel-clause-singular g c =
    let m = g.F.Ring.meaning c.args.field.now in
    let laws = (g.met.F.Ring.laws c.args.field.now c.requires.ring).numbers in
    let parts = c.args.parts.now in
    let n = c.n-n.result in
    let size : n ≡ length parts = c.n-n.ensures ∙ ap (λ (p : JetTerms g.row.F-Elem.Denot). p.n) c.index-parts-0.is ∙ (c.requires.parts 0 c.index-parts-0.result c.requires.given).variables in
    let vector : IsInKernel m n (entry_of m n c.deref.result.now) c.in-Kernel.kernel.items = rw c.in-Kernel.is at c.in_ok-kernel.ensures.inversion in
    record {
      only = subst (λ z. IsInKernel m z (linear_part_of m z parts) c.in-Kernel.kernel.items) size
          (InverseLemmas.kernel_of_same m laws.ring n (entry_of m n c.in_ok-matrix.matrix.items) (linear_part_of m n parts) c.in_ok-matrix.ensures.entries c.in-Kernel.kernel.items
          (subst (λ (es : List g.row.F-Elem.Denot). IsInKernel m n (entry_of m n es) c.in-Kernel.kernel.items) c.deref.ensures.value vector));
    }

pub returns-clause-change : goal.returns-clause-change
returns-clause-change g c =
    let m = g.F.Ring.meaning c.args.field.now in
    let laws = (g.met.F.Ring.laws c.args.field.now c.requires.ring).numbers in
    let parts = c.args.parts.now in
    let n = c.n-n.result in
    let size : n ≡ length parts = c.n-n.ensures ∙ ap (λ (p : JetTerms g.row.F-Elem.Denot). p.n) c.index-parts-0.is ∙ (c.requires.parts 0 c.index-parts-0.result c.requires.given).variables in
    let order : c.order-order.result ≡ order_of parts = c.order-order.ensures ∙ ap (λ (p : JetTerms g.row.F-Elem.Denot). p.order) c.index-parts-0-2.is ∙ c.requires.orders 0 c.index-parts-0-2.result c.requires.given in
    let inverse : IsInverseOf m n (entry_of m n c.deref.result.now) c.in-Inverse.inverse.items = rw c.in-Inverse.is at c.in_ok-kernel.ensures.inversion in
    let copied : c.from_vec.result ≡ parts = c.from_vec.ensures ∙ c.in_ok-copied.ensures in
    subst (λ (zs : List (JetTerms g.row.F-Elem.Denot)). IsChange m (record { n = n; order = c.order-order.result; parts = zs; inverse = c.from_vec-2.result })) (sym copied)
    (subst (λ (es : List g.row.F-Elem.Denot). IsChange m (record { n = n; order = c.order-order.result; parts = parts; inverse = es })) (sym c.from_vec-2.ensures)
    (InverseLemmas.change_of m laws.ring n c.order-order.result parts c.in-Inverse.inverse.items (let z = c.requires.given in omega arith) (let z = c.requires.at_most_8_parts in omega arith) (let z = c.requires.order_at_most_17 in omega arith) (sym size)
    (subst (λ z. All (IsPart m z) parts) (sym size) c.requires.parts)
    (subst (λ z. All (λ (p : JetTerms g.row.F-Elem.Denot). p.order ≡ z) parts) (sym order) c.requires.orders)
    (subst (λ z. HaveNoConstant z m.scalars.ops z (part_of z m.value parts)) (sym size) c.requires.no_constant)
    (InverseLemmas.inverse_with m laws.ring n (entry_of m n c.in_ok-matrix.matrix.items) (linear_part_of m n parts) c.in_ok-matrix.ensures.entries c.in-Inverse.inverse.items
    (subst (λ (es : List g.row.F-Elem.Denot). IsInverseOf m n (entry_of m n es) c.in-Inverse.inverse.items) c.deref.ensures.value inverse))))

pub returns-clause-regular : goal.returns-clause-regular
returns-clause-regular g c =
    let m = g.F.Ring.meaning c.args.field.now in
    let laws = (g.met.F.Ring.laws c.args.field.now c.requires.ring).numbers in
    let parts = c.args.parts.now in
    let n = c.n-n.result in
    let size : n ≡ length parts = c.n-n.ensures ∙ ap (λ (p : JetTerms g.row.F-Elem.Denot). p.n) c.index-parts-0.is ∙ (c.requires.parts 0 c.index-parts-0.result c.requires.given).variables in
    let inverse : IsInverseOf m n (entry_of m n c.deref.result.now) c.in-Inverse.inverse.items = rw c.in-Inverse.is at c.in_ok-kernel.ensures.inversion in
    subst (λ z. HasNoKernel m.scalars.ops z (linear_part_of m z parts)) size
    (InverseLemmas.no_kernel m.scalars.ops laws.ring n (linear_part_of m n parts) (entry_of m n c.in-Inverse.inverse.items)
    (InverseLemmas.inverse_of_same m.scalars.ops laws.ring n (entry_of m n c.in_ok-matrix.matrix.items) (linear_part_of m n parts) c.in_ok-matrix.ensures.entries (entry_of m n c.in-Inverse.inverse.items)
    (subst (λ (es : List g.row.F-Elem.Denot). IsInverseOf m n (entry_of m n es) c.in-Inverse.inverse.items) c.deref.ensures.value inverse).inverse))
