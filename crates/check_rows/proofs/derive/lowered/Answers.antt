use Rattle.std.proofs.Common.{◌≡◌, ◌-◌, ◌∙◌, ap, ap₂, set, get_or, length, rules, arith}
use Rattle.jet_law.proofs.TermLemmas.{exp_of-lower}
use Rattle.check_rows.proofs.derive.lowered.Goals as goal

pub returns-clause-exponents : goal.returns-clause-exponents
returns-clause-exponents c = ap₂ (set c.args.a.e) c.from-2.ensures (c.saturating_sub.ensures ∙ ap (λ j. get_or c.args.a.e j 0 - 1) c.from.ensures)

pub returns-clause-lower : goal.returns-clause-lower
returns-clause-lower c n =
    let long : length c.args.a.e ≡ 8 = search rules in
    let within = c.requires.within in
    exp_of-lower n c.args.i c.args.a _ (omega arith) (ap₂ (set c.args.a.e) c.from-2.ensures (c.saturating_sub.ensures ∙ ap (λ j. get_or c.args.a.e j 0 - 1) c.from.ensures))
