use Rattle.hessian_rank.proofs.SumOfSquares.{diagonalised}
use Rattle.hessian_rank.proofs.laws.hessian_diagonalises.Goals as goal

pub returns : goal.returns
returns g c a h n f two = diagonalised n (g.F.Ring.meaning a).scalars (g.met.F.Ring.laws a h).numbers (g.met.F.Field.inverts a h) f two
