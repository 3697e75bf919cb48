use Rattle.std.proofs.Common.{SFits, sym, ◌∙◌, rules}
use Rattle.std.specs.Int.{w128}
use Rattle.std.proofs.lemmas.Int.{to_z-of_z}
use Rattle.text_reader.proofs.Fractions.{not_reduced, reduced_valid, reduced_test}
use Rattle.text_reader.proofs.fraction.is_valid.Goals as goal

pub returns-in-None : goal.returns-in-None
returns-in-None c =
    let num : SFits w128 c.args.q.num = search rules in
    let den : SFits w128 c.args.q.den = search rules in
    (λ e. absurd cc, λ t. absurd (not_reduced c.args.q (simp to_z-of_z at c.in-None.ensures) t))

pub returns-in-Some : goal.returns-in-Some
returns-in-Some c =
    let num : SFits w128 c.args.q.num = search rules in
    let den : SFits w128 c.args.q.den = search rules in
    let is = simp to_z-of_z at c.in-Some.ensures in (
      λ e. reduced_valid c.in-Some.reduced c.args.q is.1 (sym c.eq.ensures ∙ e),
      λ t. c.eq.ensures ∙ reduced_test c.in-Some.reduced c.args.q is.1 t,
    )
