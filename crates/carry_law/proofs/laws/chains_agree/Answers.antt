use Rattle.std.proofs.Common.{ap, sym, ◌∙◌, take}
use Rattle.poly_law.specs.Polynomials.{coefficient_in}
use Rattle.jet_law.specs.Canonical.{jet}
use Rattle.carry_law.proofs.CarryLemmas
use Rattle.carry_law.proofs.laws.chains_agree.Goals as goal

pub returns : goal.returns
returns g c a valid n last o k le germ moves low high p q i h b d =
    let m = g.R.Ring.meaning a in
    let s = m.scalars in
    let l = (g.met.R.Ring.laws a valid).numbers in
    ap (λ z. coefficient_in n s.ops z b) (q.jets_are i h).polynomial
    ∙ CarryLemmas.carry_all_same n s l o k le (take i moves) (CarryLemmas.no_constants m n last moves low.moves p.moves_are i) (jet n s k germ) (jet n s o germ) (CarryLemmas.jets_same n s l o k le germ) b d
    ∙ sym (ap (λ z. coefficient_in n s.ops z b) (p.jets_are i h).polynomial)
