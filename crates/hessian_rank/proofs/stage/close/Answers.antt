use Rattle.std.proofs.Common.{rules, ◌∷◌, [], ◌++◌, not, eqb, List, map, sym, ◌∙◌, ap, ap₂, subst}
use Rattle.std.specs.List.{filter}
use Rattle.std.proofs.lemmas.Fn.{filter_same}
use Rattle.ring_law.proofs.Exits.{fault_handed_on}
use Rattle.jet_poly.specs.Jets.{whole}
use Rattle.coord_change.specs.Changes.{entry_of}
use Rattle.move_law.specs.Work as work
use Rattle.move_law.specs.Work.{IsWorkHigh}
use Rattle.move_law.specs.Hessian.{others, entry, double, completing, moved_work}
use Rattle.hessian_rank.specs.Sound.{IsLinear}
use Rattle.hessian_rank.specs.Stages.{stage_of, IsRegular}
use Rattle.hessian_rank.proofs.AllSquares.{among-right}
use Rattle.hessian_rank.proofs.StageSteps.{same_squares}
use Rattle.hessian_rank.proofs.stage.close.Goals as goal

pub completing_matrix-requires-clause-others : goal.completing_matrix-requires-clause-others
completing_matrix-requires-clause-others g c =
    c.deref-2.ensures.value ∙ filter_same _ (λ j. not (eqb j c.args.i)) _ (λ x b f' k. search rules) _ _ c.retain.ensures.filtered
    ∙ ap (filter (λ j. not (eqb j c.args.i))) (c.in_ok-extend_from_slice.ensures.items ∙ ap₂ (λ x y. x ++ y) c.new-opened.ensures.items c.deref.ensures.value)

pub moved-requires-clause-matrix : goal.moved-requires-clause-matrix
moved-requires-clause-matrix g c =
    let m = g.F.Ring.meaning c.args.field.now in
    subst (λ (es : List g.row.F-Elem.Denot). IsRegular m c.args.stage.change.n es) (sym c.deref-3.ensures.value) c.in_ok-matrix.ensures.matrix.matrix

pub returns-in_err-next-clause-range : goal.returns-in_err-next-clause-range
returns-in_err-next-clause-range g c =
    let m = g.F.Ring.meaning c.args.field.now in
    let s = m.scalars in
    let n = c.args.stage.change.n in
    let i = c.args.i in
    let q = stage_of m n c.args.stage in
    let lin = subst (λ (es : List g.row.F-Elem.Denot). IsLinear n s (entry_of m n es) (completing n s i q)) (sym c.deref-3.ensures.value) c.in_ok-matrix.ensures.matrix.linear in
    fault_handed_on _ c.from_residual-in_err-next.ensures.1
    (λ high. among-right (IsWorkHigh n s) (work.product (whole s 2) (entry n s q i i) ∷ work.inverse (double n s q i) ∷ map (λ j. work.product (entry n s q i j) (s.inverse (double n s q i))) (others i q.opened)) (moved_work n s (completing n s i q) q) high)
    (c.in_err-next.ensures.range (completing n s i q) lin)

pub returns-clause-closed : goal.returns-clause-closed
returns-clause-closed g c =
    let m = g.F.Ring.meaning c.args.field.now in
    let s = m.scalars in
    let n = c.args.stage.change.n in
    let i = c.args.i in
    let q = stage_of m n c.args.stage in
    let lin = subst (λ (es : List g.row.F-Elem.Denot). IsLinear n s (entry_of m n es) (completing n s i q)) (sym c.deref-3.ensures.value) c.in_ok-matrix.ensures.matrix.linear in
    let next = c.in_ok-next.ensures.moved (completing n s i q) lin in
    record {
      stage = record { change = next.stage.change; variables = next.stage.variables; order = next.stage.order; form = next.stage.form; form_variables = next.stage.form_variables; form_order = next.stage.form_order };
      is = same_squares
          (filter_same _ (λ j. not (eqb j i)) _ (λ x b f' k. search rules) _ _ c.retain.ensures.filtered
          ∙ ap (filter (λ j. not (eqb j i))) (c.in_ok-extend_from_slice.ensures.items ∙ ap₂ (λ x y. x ++ y) c.new-opened.ensures.items c.deref.ensures.value))
          (c.in_ok-push.ensures.items ∙ ap (λ z. z.closed ++ i ∷ []) next.is) (ap (λ z. z.change) next.is) (ap (λ z. z.form) next.is);
    }
