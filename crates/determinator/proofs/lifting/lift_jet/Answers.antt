use Rattle.ext_algebra.specs.declared.algebra.Algebra.TheVariants as algebras
use Rattle.determinator.proofs.LiftLemmas.{lifted_for}
use Rattle.determinator.proofs.lifting.lift_jet.Goals as goal

pub returns-in-Ok-clause-jet : goal.returns-in-Ok-clause-jet
returns-in-Ok-clause-jet c = lifted_for c.args.f.now c.in-Ok.jet (c.in-Ok.ensures.jet algebras.Rational) c.in-Ok.ensures.n c.in-Ok.ensures.order (c.in-Ok.ensures.polynomial algebras.Rational)
