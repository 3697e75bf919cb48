use Rattle.bin_forms.proofs.Zeros.{test_agrees}
use Rattle.bin_forms.proofs.number.is_zero.Goals as goal

pub returns : goal.returns
returns g c =
    let m = g.R.Ring.meaning c.args.ring.now in
    test_agrees m.scalars (g.met.R.Ring.laws c.args.ring.now c.requires.ring).numbers c.eq.result (m.value c.args.x) (m.value c.zero.result) c.eq.ensures c.zero.ensures.value
