use Rattle.std.proofs.Common.{◌≡◌, length, arith, rules}
use Rattle.tern_cubic.proofs.CubicJets.{ready_more, sum_more, jet_made, cubic_is}
use Rattle.tern_cubic.proofs.cubic.cubic_jet.Goals as goal

pub loop-i-preserved : goal.loop-i-preserved
loop-i-preserved c =
    let low = c.loop-i-test.true in
    let ten : length c.args.c ≡ 10 = search rules in
    record {
      ready = ready_more c.args.c c.loop-i.i c.loop-i.terms.items _ _ _ (omega arith) (omega arith) c.requires c.in_ok-push_term.ensures.pushed c.loop-i.invariant.ready;
      so_far = sum_more c.args.c c.loop-i.i c.loop-i.terms.items _ _ _ (omega arith) (omega arith) c.in_ok-push_term.ensures.pushed c.loop-i.invariant.so_far;
    }

pub returns-clause-jet : goal.returns-clause-jet
returns-clause-jet c = jet_made c.loop-i.i c.loop-i.terms.items c.from_rising.result c.from_rising.ensures c.loop-i.invariant.ready

pub returns-clause-polynomial : goal.returns-clause-polynomial
returns-clause-polynomial c =
    let ten : length c.args.c ≡ 10 = search rules in
    let last = c.loop-i-test.false in
    let end = c.loop-i.auto.i-end in
    cubic_is c.args.c c.loop-i.i c.loop-i.terms.items c.from_rising.result ten (omega arith) c.from_rising.ensures
    (jet_made c.loop-i.i c.loop-i.terms.items c.from_rising.result c.from_rising.ensures c.loop-i.invariant.ready) c.loop-i.invariant.so_far
