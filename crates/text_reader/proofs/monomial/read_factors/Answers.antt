use Rattle.std.proofs.Common.{sym, ◌∙◌}
use Rattle.text_reader.proofs.FactorTexts.{read_fails, read_more, read_past, read_all, at_end, some_left, none_left, monomial_factors, factors_monomial}
use Rattle.text_reader.proofs.monomial.read_factors.Goals as goal

pub returns-in_err-exponent-clause-none : goal.returns-in_err-exponent-clause-none
returns-in_err-exponent-clause-none c _ m is e =
    read_fails c.loop-i.i c.args.bytes.now c.loop-i.e c.loop-i.factors c.loop-i.invariant c.loop-i-test.true c.in_err-exponent.ensures.found m.e is.eight is.fit (monomial_factors m _ is e)

pub loop-i-preserved : goal.loop-i-preserved
loop-i-preserved c =
    let some = c.in_ok-exponent.ensures.some in
    read_more c.loop-i.i c.args.bytes.now c.loop-i.e c.loop-i.factors c.loop-i.invariant c.loop-i-test.true c.in_ok-exponent.exponent c.in_ok-exponent.rest some.0 some.1 c.in_ok-exponent.ensures.found

pub returns-then-is_some-clause-none : goal.returns-then-is_some-clause-none
returns-then-is_some-clause-none c _ m is e =
    read_past c.args.bytes.now c.loop-i.e c.loop-i.factors (at_end c.loop-i.i _ _ _ c.loop-i-test.false c.loop-i.auto.i-end c.loop-i.invariant) (some_left c.loop-i.factors (sym c.is_some.ensures ∙ c.if-is_some.true)) m.e is.eight is.fit (monomial_factors m _ is e)

pub returns-clause-some : goal.returns-clause-some
returns-clause-some c =
    factors_monomial _ _ c.loop-i.invariant.long (read_all c.args.bytes.now c.loop-i.e c.loop-i.factors (at_end c.loop-i.i _ _ _ c.loop-i-test.false c.loop-i.auto.i-end c.loop-i.invariant) (none_left c.loop-i.factors (sym c.is_some.ensures ∙ c.if-is_some.false)))
