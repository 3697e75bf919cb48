use Rattle.std.proofs.Common.{◌≡◌, ◌≢◌, length, ap, subst, sym, ◌∙◌}
use Rattle.std.specs.List.{position_or_len}
use Rattle.mono_exp.specs.declared.exponent.Exp.{Exp}
use Rattle.mono_exp.specs.Exponents.{is_before}
use Rattle.jet_poly.specs.JetTerms.{IsRising}
use Rattle.jet_poly.proofs.Output.{from-all}
use Rattle.normal_forms.proofs.Insertion.{rising-insert}
use Rattle.normal_forms.proofs.distinct.insert_term.Goals as goal

pub returns-clause-rising : goal.returns-clause-rising
returns-clause-rising g c =
    let xs = c.args.terms.now.items in
    subst IsRising (sym c.in_ok-insert.ensures.items)
    (rising-insert c.args.m c.args.c c.requires.monomial xs c.place_of.result (c.place_of.ensures.place ∙ ap (position_or_len (λ (t : Exp × g.row.E.Denot). is_before c.args.m.e t.0.e)) c.deref.ensures.value) c.requires.rising (from-all (λ t. length t.0.e ≡ 8) xs c.requires.long) (from-all (λ t. t.0.e ≢ c.args.m.e) xs c.requires.apart))
