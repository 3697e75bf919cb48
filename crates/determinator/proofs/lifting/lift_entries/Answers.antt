use Rattle.std.proofs.Common.{◌+◌, ◌++◌, [], ◌∷◌, take, sym, ap, subst, ◌∙◌}
use Rattle.ext_algebra.specs.declared.algebra.Ext.{Ext}
use Rattle.ring_law.specs.declared.fraction.Frac.{Frac}
use Rattle.determinator.specs.Lifted.{AreLiftedEntries}
use Rattle.determinator.proofs.LiftLemmas.{entry_at}
use Rattle.determinator.proofs.lifting.lift_entries.Goals as goal

pub loop-e-preserved : goal.loop-e-preserved
loop-e-preserved c = record {
  so_far = subst (AreLiftedEntries (take (c.loop-e.e-index + 1) c.args.entries.now)) (sym (c.in_ok-push.ensures.ok ∙ ap (λ (e : Ext Frac). c.loop-e.lifted ++ e ∷ []) c.lifted_element.ensures))
      (entry_at c.args.entries.now c.requires.valid c.loop-e.e-index _ c.loop-e.lifted c.loop-e-test.true c.loop-e.invariant.so_far);
}
