use Rattle.std.proofs.Common.{◌≤◌, length, sym, subst, take_all}
use Rattle.coord_change.specs.InverseChanges.{PushesNegatives}
use Rattle.coord_change.proofs.Negatives
use Rattle.coord_change.proofs.inversion.push_negatives.Goals as goal

pub loop-t-init : goal.loop-t-init
loop-t-init g c = Negatives.pushed_none (g.R.Ring.meaning c.args.ring.now) c.args.terms.now.items

pub neg-requires-clause-elem : goal.neg-requires-clause-elem
neg-requires-clause-elem g c =
    let m = g.R.Ring.meaning c.args.ring.now in
    subst (λ u. m.is_elem u.1) (sym c.t-item.is) (c.requires.elems c.loop-t.t-index c.t-item.result c.loop-t-test.true)

pub loop-t-preserved : goal.loop-t-preserved
loop-t-preserved g c =
    let m = g.R.Ring.meaning c.args.ring.now in
    Negatives.pushed_more m c.args.others.now c.args.terms.now.items c.loop-t.terms.items c.push.new.self.items c.loop-t.t-index c.t-item.result c.neg.result c.loop-t-test.true c.t-item.is c.loop-t.invariant c.in_ok-push.ensures.items
    c.neg.ensures.elem c.neg.ensures.value

pub returns-clause-pushed : goal.returns-clause-pushed
returns-clause-pushed g c =
    let m = g.R.Ring.meaning c.args.ring.now in
    let last : length c.args.others.now ≤ c.loop-t.t-index = c.loop-t-test.false in
    subst (λ zs. PushesNegatives m zs c.args.terms.now.items c.loop-t.terms.items) (take_all c.loop-t.t-index c.args.others.now last) c.loop-t.invariant
