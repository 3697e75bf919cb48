use Rattle.lin_row.proofs.SystemLaws
use Rattle.lin_row.proofs.line.negated_entry.Goals as goal

pub neg-requires-clause-elem : goal.neg-requires-clause-elem
neg-requires-clause-elem g c =
    let m = g.R.Ring.meaning c.args.ring.now in
    let laws = (g.met.R.Ring.laws c.args.ring.now c.requires.ring).numbers.ring in
    SystemLaws.elem_present m laws c.args.row.now c.args.column c.in-Some.x c.requires.line.units c.in-Some.ensures

pub returns-in-Some-clause-value : goal.returns-in-Some-clause-value
returns-in-Some-clause-value g c =
    let m = g.R.Ring.meaning c.args.ring.now in
    let laws = (g.met.R.Ring.laws c.args.ring.now c.requires.ring).numbers.ring in
    SystemLaws.some_negated m laws c.args.row.now c.args.column c.in-Some.x _ c.requires.line.rising c.in-Some.ensures c.neg.ensures.value

pub returns-in-None-clause-value : goal.returns-in-None-clause-value
returns-in-None-clause-value g c =
    let m = g.R.Ring.meaning c.args.ring.now in
    let laws = (g.met.R.Ring.laws c.args.ring.now c.requires.ring).numbers.ring in
    SystemLaws.none_negated m laws c.args.row.now c.args.column _ c.in-None.ensures c.zero.ensures.value
