use Rattle.std.proofs.Common.{◌≡◌, ℕ, ◌<◌, ◌∙◌, map, length, get_or, ap, subst}
use Rattle.std.proofs.lemmas.List.{length-map}
use Rattle.jet_law.specs.Terms.{poly_of}
use Rattle.kill_law.specs.Table.{row}
use Rattle.kill_leads.specs.FirstLead.{as_three}
use Rattle.kill_table.proofs.Letters.{letter-in, letter-at}
use Rattle.kill_table.proofs.principal.letter.Goals as goal

pub returns-in-Some-clause-value : goal.returns-in-Some-clause-value
returns-in-Some-clause-value g c =
    let m = g.R.Ring.meaning c.args.ring.now in
    let n = c.args.g.now.n in
    let form = (row c.args.part).form in
    let x = c.in-Some.e.now in
    let inside = subst (λ z. c.args.i < z) (ap length c.form.ensures ∙ length-map form as_three) c.in-Some.ensures.lookup.3.0 in
    let read : (k : ℕ) → get_or c.monomial.result.e k 0 ≡ get_or (get_or (map as_three form) c.args.i x) k 0 = λ k. c.monomial.ensures k ∙ ap (λ z. get_or z k 0) (c.in-Some.ensures.lookup.1 ∙ ap (λ z. get_or z c.args.i x) c.form.ensures) in
    c.coef.ensures.in_variables (letter-in c.args.part n c.requires.of_part c.args.i inside c.monomial.result x read)
    ∙ letter-at c.args.part n c.requires.of_part c.args.i inside c.monomial.result x read m.scalars (poly_of n m.value c.args.g.now.terms)
