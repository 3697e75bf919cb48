use Rattle.std.proofs.Common.{◌&&◌, List, sym, ap, subst, ◌∙◌}
use Rattle.mono_exp.specs.declared.exponent.Exp.{Exp}
use Rattle.ring_law.specs.declared.fraction.Frac.{Frac}
use Rattle.ext_algebra.specs.declared.algebra.Ext.{Ext}
use Rattle.cert_text.specs.WellFormed.{is_term_of}
use Rattle.text_reader.specs.Pieces.{joined}
use Rattle.text_reader.specs.Terms.{is_after_last}
use Rattle.text_reader.proofs.PolynomialTexts.{IsReadUp, read_on, refused, shorter, stuck}
use Rattle.text_reader.proofs.polynomial.read_higher.Goals as goal

pub returns-in_default-take_term-clause-none : goal.returns-in_default-take_term-clause-none
returns-in_default-take_term-clause-none c _ more valid higher e =
    stuck c.args.n c.args.order c.args.a c.args.terms.items (joined c.args.sum) c.loop-sum.terms.items c.in-Some.sign c.in-Some.behind.now
    (subst (IsReadUp c.args.n c.args.order c.args.a c.args.terms.items (joined c.args.sum) c.loop-sum.terms.items) (ap joined c.in-Some.is) c.loop-sum.invariant)
    (c.take_term.ensures.none c.in_default-take_term.is) more valid higher e

pub returns-then-not-is_next-clause-none : goal.returns-then-not-is_next-clause-none
returns-then-not-is_next-clause-none c _ more valid higher e =
    let some = c.in-Some-take_term.ensures.some in
    refused c.args.n c.args.order c.args.a c.args.terms.items (joined c.args.sum) c.loop-sum.terms.items c.in-Some.sign c.in-Some.behind.now (joined c.in-Some-take_term.rest) c.in-Some-take_term.term c.is_next.result
    (subst (IsReadUp c.args.n c.args.order c.args.a c.args.terms.items (joined c.args.sum) c.loop-sum.terms.items) (ap joined c.in-Some.is) c.loop-sum.invariant)
    some.0 some.1 some.2
    (c.is_next.ensures ∙ ap (λ (ts : List (Exp × Ext Frac)). is_term_of c.args.n c.args.order c.args.a c.in-Some-take_term.term && is_after_last ts c.in-Some-take_term.term.0) c.deref.ensures.value)
    c.if-not-is_next.true more valid higher e

pub loop-sum-smaller : goal.loop-sum-smaller
loop-sum-smaller c =
    let some = c.in-Some-take_term.ensures.some in
    shorter c.in-Some-take_term.term (joined c.loop-sum.sum) (joined c.in-Some-take_term.rest) some.0 (ap joined c.in-Some.is ∙ some.1)

pub loop-sum-preserved : goal.loop-sum-preserved
loop-sum-preserved c =
    let some = c.in-Some-take_term.ensures.some in
    let more = read_on c.args.n c.args.order c.args.a c.args.terms.items (joined c.args.sum) c.loop-sum.terms.items c.in-Some.sign c.in-Some.behind.now (joined c.in-Some-take_term.rest) c.in-Some-take_term.term c.is_next.result
    (subst (IsReadUp c.args.n c.args.order c.args.a c.args.terms.items (joined c.args.sum) c.loop-sum.terms.items) (ap joined c.in-Some.is) c.loop-sum.invariant)
    some.0 some.1 some.2
    (c.is_next.ensures ∙ ap (λ (ts : List (Exp × Ext Frac)). is_term_of c.args.n c.args.order c.args.a c.in-Some-take_term.term && is_after_last ts c.in-Some-take_term.term.0) c.deref.ensures.value)
    c.if-not-is_next.false in
    subst (λ (ts : List (Exp × Ext Frac)). IsReadUp c.args.n c.args.order c.args.a c.args.terms.items (joined c.args.sum) ts (joined c.in-Some-take_term.rest)) (sym c.in_ok-push.ensures.items) more
