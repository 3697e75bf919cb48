use Rattle.std.proofs.Common.{refl, sym, ◌∙◌, ◌∷◌, ◌≡◌}
use Rattle.text_reader.proofs.TermTexts.{some_simple, some_long, unopened, opened, long_sign}
use Rattle.text_reader.proofs.term.take_term.Goals as goal

pub returns-in-None-clause-some : goal.returns-in-None-clause-some
returns-in-None-clause-some c = some_simple _ _ c.take_simple.ensures.some

pub returns-in-None-clause-none : goal.returns-in-None-clause-none
returns-in-None-clause-none c none t rest h starts e = c.take_simple.ensures.none none t rest (unopened t c.args.sign c.args.behind.now rest h e (c.in-None.ensures.none refl)) starts e

pub returns-then-sign-eq43-clause-some : goal.returns-then-sign-eq43-clause-some
returns-then-sign-eq43-clause-some c = some_long _ _ c.take_long.result (λ i. c.if-sign-eq43.true i ∷ c.in-Some.ensures.some i) c.take_long.ensures.some

pub returns-then-sign-eq43-clause-none : goal.returns-then-sign-eq43-clause-none
returns-then-sign-eq43-clause-none c none t rest h starts e =
    let whole : c.args.sign ∷ c.args.behind.now ≡ c.args.sign ∷ 40 ∷ c.in-Some.inside.now = λ i. c.args.sign ∷ c.in-Some.ensures.some i in
    c.take_long.ensures.none none t rest (opened t c.args.sign c.in-Some.inside.now rest h (sym whole ∙ e)) starts ((λ i. sym c.if-sign-eq43.true i ∷ sym c.in-Some.ensures.some i) ∙ e)

pub returns-else-sign-eq43-clause-none : goal.returns-else-sign-eq43-clause-none
returns-else-sign-eq43-clause-none c none t rest h starts e =
    let whole : c.args.sign ∷ c.args.behind.now ≡ c.args.sign ∷ 40 ∷ c.in-Some.inside.now = λ i. c.args.sign ∷ c.in-Some.ensures.some i in
    c.if-sign-eq43.false (long_sign t c.args.sign c.args.behind.now rest (opened t c.args.sign c.in-Some.inside.now rest h (sym whole ∙ e)) e)
