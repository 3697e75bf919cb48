use Rattle.std.proofs.Common.{◌+◌, [], ◌∷◌, length, All, length-append, sym, ◌∙◌, ap, subst}
use Rattle.jet_subst.proofs.Tables.{all_push}
use Rattle.probe.proofs.scalars.Over.elements.Goals as goal

pub loop-i-preserved : goal.loop-i-preserved
loop-i-preserved g c =
    let is_elem = (g.F.Ring.meaning c.args.self.now.field).is_elem in
    record {
      elems = subst (All is_elem) (sym c.in_ok-push.ensures.items) (all_push is_elem c.loop-i.elements.items c.in_ok-e.e c.loop-i.invariant.elems c.in_ok-e.ensures.elem);
      count = ap length c.in_ok-push.ensures.items ∙ length-append c.loop-i.elements.items (c.in_ok-e.e ∷ []) ∙ ap (λ z. z + 1) c.loop-i.invariant.count;
    }
