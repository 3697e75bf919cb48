use Rattle.ring_theory.proofs.ValueSet.{values_are_set}
use Rattle.jet_subst.specs.KeptPowers.{zeros}
use Rattle.jet_subst.proofs.KeptLemmas
use Rattle.jet_subst.proofs.keeping.hold_one.Goals as goal

pub returns-clause-powers : goal.returns-clause-powers
returns-clause-powers g c =
    let m = g.R.Ring.meaning c.args.ring.now in
    let l = (g.met.R.Ring.laws c.args.ring.now c.requires.ring).numbers in
    KeptLemmas.keep_more m c.args.n c.args.k c.args.parts.now c.args.powers.now.entries c.insert.new.self.entries (record { e = zeros }) c.rank-number.result c.in_ok-power.power c.requires.powers
    c.rank-number.ensures.rank c.rank-number.ensures.within c.in_ok-insert.ensures.entries
    (KeptLemmas.one_image m c.args.n c.args.k c.args.parts.now l.ring (values_are_set m.scalars l) c.in_ok-power.power c.in_ok-power.ensures.one)
