use Rattle.std.proofs.Common.{◌≡◌, ◌<◌, ◌≤◌, length, ap, sym, subst, ◌∙◌}
use Rattle.jet_subst.specs.Parts.{variables_of}
use Rattle.probe.proofs.TermParts.{variables_are}
use Rattle.probe.proofs.jets.kept_of.Goals as goal

pub keep-requires-clause-at_most_8_variables : goal.keep-requires-clause-at_most_8_variables
keep-requires-clause-at_most_8_variables g c =
    let m = g.F.Ring.meaning c.args.over.now.field in
    let parts = c.in_ok-parts.parts.items in
    let given : 0 < c.args.over.now.n = c.requires.given in
    let some : 0 < length parts = subst (λ z. 0 < z) (sym c.in_ok-parts.ensures.count) given in
    let same : variables_of c.deref.result.now ≡ c.args.m = ap variables_of c.deref.ensures.value ∙ variables_are m c.args.m parts some c.in_ok-parts.ensures.parts in
    subst (λ z. z ≤ 8) (sym same) c.requires.at_most_8_variables
