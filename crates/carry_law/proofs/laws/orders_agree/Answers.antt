use Rattle.poly_law.specs.Polynomials.{HaveNoConstant}
use Rattle.jet_law.specs.Canonical.{jet}
use Rattle.jet_poly.proofs.Output.{from-all}
use Rattle.coord_change.specs.Moves.{put}
use Rattle.carry_law.proofs.CarryLemmas
use Rattle.carry_law.proofs.laws.orders_agree.Goals as goal

pub returns : goal.returns
returns g c a valid n o k le moves low f =
    let s = (g.R.Ring.meaning a).scalars in
    let l = (g.met.R.Ring.laws a valid).numbers in
    CarryLemmas.carry_all_same n s l o k le moves (from-all (λ move. HaveNoConstant n s.ops n (put n s move)) moves low) (jet n s k f) (jet n s o f) (CarryLemmas.jets_same n s l o k le f)
