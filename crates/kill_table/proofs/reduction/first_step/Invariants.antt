use Rattle.std.proofs.Common.{◌≡◌, take, All}
use Rattle.std.specs.Prelude.{None}
use Rattle.jet_law.specs.Terms.{exp_of}
use Rattle.kill_law.specs.Kill.{first_lead}
use Rattle.kill_table.proofs.reduction.first_step.Given as goal

abbrev pub invariant-loop-place : goal.invariant-loop-place
invariant-loop-place g l = All (λ t. first_lead l.n l.leads (exp_of l.n t.0) ≡ None) (take l.place l.terms)
