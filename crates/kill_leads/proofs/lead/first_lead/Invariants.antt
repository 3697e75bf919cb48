use Rattle.std.proofs.Common.{◌≡◌, drop}
use Rattle.jet_law.specs.Terms.{exp_of}
use Rattle.kill_law.specs.Kill.{first_lead}
use Rattle.kill_leads.proofs.lead.first_lead.Given as goal

abbrev pub invariant-loop-lead : goal.invariant-loop-lead
invariant-loop-lead l = first_lead l.n l.leads (exp_of l.n l.a) ≡ first_lead l.n (drop l.lead-index l.leads) (exp_of l.n l.a)
