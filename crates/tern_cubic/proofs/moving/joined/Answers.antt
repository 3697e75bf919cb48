use Rattle.std.proofs.Common.{◌++◌, ap₂, sym}
use Rattle.tern_cubic.proofs.MatrixEntries.{three_of}
use Rattle.tern_cubic.proofs.moving.joined.Goals as goal

pub returns-clause-elements : goal.returns-clause-elements
returns-clause-elements g c =
    sym (ap₂ (λ xs ys. xs ++ ys) (three_of c.args.x.now c.told-x _ _ _) (ap₂ (λ xs ys. xs ++ ys) (three_of c.args.y.now c.told-y _ _ _) (three_of c.args.z.now c.told-z _ _ _)))
