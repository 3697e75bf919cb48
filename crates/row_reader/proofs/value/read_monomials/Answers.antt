use Rattle.std.proofs.Common.{◌≡◌, List, sym, subst, ◌∙◌}
use Rattle.mono_exp.specs.declared.exponent.Exp.{Exp}
use Rattle.row_reader.specs.Values.{AreResidual}
use Rattle.row_reader.specs.Words.{after_space}
use Rattle.row_reader.proofs.WordTexts.{nothing_left}
use Rattle.row_reader.proofs.ValueTexts.{AreMonomials, monomials_start, monomials_more, monomials_stuck, monomials_found, shorter}
use Rattle.row_reader.proofs.value.read_monomials.Goals as goal
use Rattle.cert_text.specs.Text.{monomials_text}

pub loop-left-init : goal.loop-left-init
loop-left-init c = subst (λ (ms : List Exp). AreMonomials c.args.corank (after_space c.args.rest) ms (after_space c.args.rest)) (sym c.new-monomials.ensures.items) (monomials_start c.args.corank (after_space c.args.rest))

pub returns-in_default-clause-none : goal.returns-in_default-clause-none
returns-in_default-clause-none c _ ms valid e =
    monomials_stuck c.args.corank (after_space c.args.rest) c.loop-left.monomials.items c.loop-left.left c.loop-left.invariant (sym c.is_some.ensures ∙ c.loop-left-test.true) (c.take_monomial.ensures.none c.in_default.is) ms valid e

pub loop-left-smaller : goal.loop-left-smaller
loop-left-smaller c = shorter (after_space c.loop-left.left) _ c.in-Some.behind c.in-Some.ensures.some.1

pub loop-left-preserved : goal.loop-left-preserved
loop-left-preserved c =
    let item = c.in-Some.ensures.some in
    subst (λ (ms : List Exp). AreMonomials c.args.corank (after_space c.args.rest) ms (after_space c.in-Some.behind)) (sym c.in_ok-push.ensures.items)
    (monomials_more c.args.corank (after_space c.args.rest) c.loop-left.monomials.items (after_space c.loop-left.left) c.in-Some.m c.in-Some.behind c.loop-left.invariant item.0 item.1)

pub returns-clause-some : goal.returns-clause-some
returns-clause-some c =
    let found = monomials_found c.args.corank (after_space c.args.rest) c.loop-left.monomials.items (after_space c.loop-left.left) c.loop-left.invariant (nothing_left c.loop-left.left (sym c.is_some.ensures ∙ c.loop-left-test.false)) in
    subst (λ (ms : List Exp). AreResidual c.args.corank ms × (after_space c.args.rest ≡ monomials_text ms)) (sym c.from_vec.ensures) found
