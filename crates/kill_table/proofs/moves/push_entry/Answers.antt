use Rattle.std.proofs.Common.{map}
use Rattle.kill_table.proofs.Leaving.{takes-one}
use Rattle.kill_table.proofs.moves.push_entry.Goals as goal

pub returns-clause-taken : goal.returns-clause-taken
returns-clause-taken g c =
    let m = g.F.Ring.meaning c.args.field.now in
    takes-one m (map m.value c.args.letters.now) c.args.step c.args.entry c.in_ok-t.t c.in_ok-t.ensures.term c.args.all.now.items c.push.new.self.items c.neg.result c.neg.ensures.elem c.neg.ensures.value c.in_ok-push.ensures.items
