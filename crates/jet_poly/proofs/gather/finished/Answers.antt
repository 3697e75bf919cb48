use Rattle.std.proofs.Common.{◌∙◌, ap}
use Rattle.poly_law.specs.ExpList.{exps}
use Rattle.poly_law.specs.Poly.{coefficient}
use Rattle.jet_law.specs.Terms.{poly_of}
use Rattle.jet_poly.proofs.GatheredLemmas.{gathered-permuted}
use Rattle.jet_poly.proofs.Steps.{permuted-gathered}
use Rattle.jet_poly.proofs.gather.finished.Goals as goal

pub written-requires-clause-gathered : goal.written-requires-clause-gathered
written-requires-clause-gathered g c =
    permuted-gathered c.args.n c.args.order (g.R.Ring.meaning c.args.ring.now) (g.met.R.Ring.laws c.args.ring.now c.requires.ring).numbers c.args.sums.entries c.sort_keys.new.self.entries
    c.sort_keys.ensures.reordered.0 c.sort_keys.ensures.unique c.requires.gathered

pub returns-clause-sum : goal.returns-clause-sum
returns-clause-sum g c b =
    let m = g.R.Ring.meaning c.args.ring.now in
    ap (λ f. coefficient (exps c.args.n) m.scalars.ops (poly_of c.args.n m.value f.terms) b) c.from_rising.ensures
    ∙ c.in_ok-terms.ensures.sum b
    ∙ gathered-permuted c.args.n m.scalars.ops (g.met.R.Ring.laws c.args.ring.now c.requires.ring).numbers.ring m.value c.args.sums.entries c.sort_keys.new.self.entries c.sort_keys.ensures.reordered.0 b
