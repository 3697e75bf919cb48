use Rattle.std.proofs.Common.{◌≡◌, All, take_all, refl, subst, arith}
use Rattle.std.specs.Prelude.{None}
use Rattle.mono_exp.specs.declared.exponent.Exp.{Exp}
use Rattle.jet_law.specs.Terms.{exp_of}
use Rattle.kill_law.specs.Kill.{first_lead}
use Rattle.kill_table.proofs.Leaving.{of-front, front-more}
use Rattle.kill_table.proofs.reduction.first_step.Goals as goal

pub returns-in-Some : goal.returns-in-Some
returns-in-Some g c = record {
  inside = c.loop-place-test.true;
  earlier = λ j h d. of-front (λ (t : Exp × g.row.E.Denot). first_lead c.args.n c.args.leads.now (exp_of c.args.n t.0) ≡ None) c.args.terms.now c.loop-place.place c.loop-place.invariant j h (let q = c.loop-place-test.true in omega arith) d;
  term = c.index-terms-place.result;
  read = c.index-terms-place.is;
  lead = c.in-Some.ensures.first;
  among = c.in-Some.ensures.among;
  quotient = c.in-Some.ensures.quotient;
  coefficient = refl;
}

pub loop-place-preserved : goal.loop-place-preserved
loop-place-preserved g c =
    front-more (λ (t : Exp × g.row.E.Denot). first_lead c.args.n c.args.leads.now (exp_of c.args.n t.0) ≡ None) c.args.terms.now c.loop-place.place c.loop-place.invariant c.index-terms-place.result c.loop-place-test.true c.index-terms-place.is c.in-None.ensures

pub returns : goal.returns
returns g c =
    subst (All (λ (t : Exp × g.row.E.Denot). first_lead c.args.n c.args.leads.now (exp_of c.args.n t.0) ≡ None)) (take_all c.loop-place.place c.args.terms.now (let q = c.loop-place-test.false in omega arith)) c.loop-place.invariant
