use Rattle.std.proofs.Common.{◌≡◌, [], ◌∷◌, ◌++◌, sym, ap, subst, ◌∙◌}
use Rattle.std.specs.Prelude.{IfOk}
use Rattle.jet_law.specs.Terms.{poly_of}
use Rattle.kill_table.specs.Moves.{IsPutFor}
use Rattle.rules_corank2.specs.Ordered.{AreOrdered}
use Rattle.rules_corank2.proofs.finish_jets.three_terms_jet.Goals as goal

pub jet_of-requires-clause-ordered : goal.jet_of-requires-clause-ordered
jet_of-requires-clause-ordered g c =
    let m = g.R.Ring.meaning c.args.ring.now in
    let is : c.deref.result.now ≡ c.args.t ∷ c.args.u ∷ c.args.v ∷ [] = c.deref.ensures.value ∙ (c.in_ok-push-3.ensures.items ∙ ap (λ z. z ++ c.args.v ∷ []) (c.in_ok-push-2.ensures.items ∙ ap (λ z. z ++ c.args.u ∷ []) (c.in_ok-push.ensures.items ∙ ap (λ z. z ++ c.args.t ∷ []) c.new-terms.ensures.items))) in
    subst (AreOrdered m c.args.n c.args.order) (sym is) c.requires.ordered

pub returns-clause-jet : goal.returns-clause-jet
returns-clause-jet g c =
    let m = g.R.Ring.meaning c.args.ring.now in
    let is : c.deref.result.now ≡ c.args.t ∷ c.args.u ∷ c.args.v ∷ [] = c.deref.ensures.value ∙ (c.in_ok-push-3.ensures.items ∙ ap (λ z. z ++ c.args.v ∷ []) (c.in_ok-push-2.ensures.items ∙ ap (λ z. z ++ c.args.u ∷ []) (c.in_ok-push.ensures.items ∙ ap (λ z. z ++ c.args.t ∷ []) c.new-terms.ensures.items))) in
    subst (λ z. IfOk c.jet_of.result (IsPutFor m c.args.n c.args.order (poly_of c.args.n m.value z))) is c.jet_of.ensures.jet
