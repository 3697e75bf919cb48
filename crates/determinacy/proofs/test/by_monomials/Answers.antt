use Rattle.std.proofs.Common.{refl, subst, take_all, arith}
use Rattle.lin_row.proofs.SystemLaws
use Rattle.determinacy.specs.Answers.{AreByMonomials}
use Rattle.determinacy.proofs.AnswerLemmas.{by_monomials_step}
use Rattle.determinacy.proofs.test.by_monomials.Goals as goal

pub unrank-a-requires-clause-within : goal.unrank-a-requires-clause-within
unrank-a-requires-clause-within g c = SystemLaws.below_get c.args.values.now c.loop-t.t-index _ c.t-item.result c.loop-t-test.true c.t-item.is c.requires.within

pub loop-t-init : goal.loop-t-init
loop-t-init g c = rw c.new-all.ensures.items (record { numbers = refl; unused = tt; long = tt })

pub loop-t-preserved : goal.loop-t-preserved
loop-t-preserved g c =
    rw c.in_ok-push.ensures.items
    (by_monomials_step c.args.n c.args.values.now c.loop-t.t-index c.t-item.result c.loop-t.all.items c.unrank-a.result c.loop-t-test.true c.t-item.is c.unrank-a.ensures.rank c.unrank-a.ensures.unused c.unrank-a.ensures.long c.loop-t.invariant)

pub returns-clause-functional : goal.returns-clause-functional
returns-clause-functional g c = subst (λ vs. AreByMonomials c.args.n vs c.loop-t.all.items) (take_all c.loop-t.t-index c.args.values.now (omega arith)) c.loop-t.invariant
