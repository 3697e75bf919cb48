use Rattle.std.proofs.Common.{◌≡◌, ◌≢◌, ◌∙◌, [], ◌∷◌, length, All, length-append, sym, subst, ap, arith}
use Rattle.jet_subst.proofs.Tables.{all_push}
use Rattle.probe.proofs.changes.squares_of.Goals as goal

pub loop-i-preserved : goal.loop-i-preserved
loop-i-preserved g c =
    let m = g.F.Ring.meaning c.args.over.now.field in
    let unit : m.value c.in_ok-x.x ≢ m.scalars.ops.zero = λ h. let so : c.eq.result ≡ _ = c.eq.ensures.1 (h ∙ sym c.zero.ensures.value) in cc (so, c.if-eq.false) in
    let longer = ap length c.in_ok-push.ensures.items ∙ length-append c.loop-i.squares.items (c.in_ok-x.x ∷ []) in
    record {
      elems = subst (All m.is_elem) (sym c.in_ok-push.ensures.items) (all_push m.is_elem c.loop-i.squares.items c.in_ok-x.x c.loop-i.invariant.elems c.in_ok-x.ensures.elem);
      from = let before = c.loop-i.invariant.from in omega arith;
      count = let from = c.loop-i.invariant.from in let before = c.loop-i.invariant.count in omega arith;
      units = subst (All (λ x. m.value x ≢ m.scalars.ops.zero)) (sym c.in_ok-push.ensures.items) (all_push (λ x. m.value x ≢ m.scalars.ops.zero) c.loop-i.squares.items c.in_ok-x.x c.loop-i.invariant.units unit);
    }
