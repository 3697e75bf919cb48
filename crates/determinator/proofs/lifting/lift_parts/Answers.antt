use Rattle.std.proofs.Common.{◌≡◌, ◌+◌, ◌<◌, List, take, length, get_or, sym, subst}
use Rattle.ring_law.specs.declared.fraction.Frac.{Frac}
use Rattle.jet_poly.specs.JetTerms.{JetTerms}
use Rattle.determinator.specs.Lifted.{AreLiftedParts}
use Rattle.determinator.proofs.LiftLemmas.{part_more}
use Rattle.determinator.proofs.lifting.lift_parts.Goals as goal

pub loop-part-preserved : goal.loop-part-preserved
loop-part-preserved c =
    let change = c.args.change.now in
    let i = c.loop-part.part-index in
    let items = c.as_slice-part-items.ensures in
    record {
      so_far = subst (λ (ps : List (JetTerms Frac)). AreLiftedParts change (take (i + 1) ps) c.push.new.self) (sym items)
          (subst (AreLiftedParts change (take (i + 1) change.parts)) (sym c.in_ok-push.ensures.ok)
          (part_more change c.requires.change i c.part-item.result c.loop-part.parts c.in_ok-lift_jet.field-0
          (subst (λ (ps : List (JetTerms Frac)). i < length ps) items c.loop-part-test.true)
          (subst (λ (ps : List (JetTerms Frac)). c.part-item.result ≡ get_or ps i c.part-item.result) items c.part-item.is)
          c.in_ok-lift_jet.ensures.jet
          (subst (λ (ps : List (JetTerms Frac)). AreLiftedParts change (take i ps) c.loop-part.parts) items c.loop-part.invariant.so_far)));
    }
