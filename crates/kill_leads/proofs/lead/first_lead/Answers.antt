use Rattle.std.proofs.Common.{◌≡◌, ◌+◌, true, false, get_or, refl, ap, ◌∙◌}
use Rattle.kill_leads.proofs.FirstLeads
use Rattle.kill_leads.proofs.lead.first_lead.Goals as goal

pub returns-in-Some : goal.returns-in-Some
returns-in-Some c = record {
  first = FirstLeads.found-by c.args.n c.args.leads.now c.args.a c.monomial.result c.loop-lead.lead-index _ c.loop-lead-test.true c.requires.within c.monomial.ensures c.loop-lead.invariant (c.in-Some.ensures.divides.0 refl);
  among = FirstLeads.at-among c.args.leads.now c.loop-lead.lead-index _ c.loop-lead-test.true;
  quotient = λ i. c.in-Some.ensures.quotient i ∙ ap (λ z. get_or c.in-Some.rest.e i 0 + z) (c.monomial.ensures i);
}

pub loop-lead-preserved : goal.loop-lead-preserved
loop-lead-preserved c = FirstLeads.passed-by c.args.n c.args.leads.now c.args.a c.monomial.result c.loop-lead.lead-index _ c.loop-lead-test.true c.requires.within c.monomial.ensures c.loop-lead.invariant
    (λ h. let bad : false ≡ true = c.in-None.ensures.divides.1 h in absurd (cc bad))
