use Rattle.std.proofs.Common.{◌∙◌, ◌<◌, [], length, get_or, map, sym, ap, subst, take_all, arith}
use Rattle.poly_law.proofs.ExpLists.{same_entries}
use Rattle.mono_exp.specs.declared.exponent.Exp.{Exp}
use Rattle.mono_exp.specs.Exponents.{exponents}
use Rattle.jet_law.specs.Terms.{exp_of}
use Rattle.jacobian_row.proofs.ListSteps.{same_default}
use Rattle.report_jet.proofs.SameTerms.{keys_step, key_lengths, key_at}
use Rattle.check_rows.proofs.JetLemmas.{answer_no, answer_yes, not_both}
use Rattle.check_rows.proofs.monomials.have_same_exponents.Goals as goal

pub returns-then-left-right : goal.returns-then-left-right
returns-then-left-right c =
    answer_no (λ same. c.if-left-right.true (key_lengths (λ a. exponents c.args.n a.e) (λ a. exponents c.args.n a.e) c.args.left.now c.args.right.now same))

pub returns-then-not-is_same_monomial : goal.returns-then-not-is_same_monomial
returns-then-not-is_same_monomial c =
    let n = c.args.n in
    let i = c.loop-i.i in
    let none : Exp = record { e = [] } in
    let inside : c.loop-i.i < length c.args.right.now = subst (λ l. c.loop-i.i < l) c.if-left-right.false c.loop-i-test.true in
    let a = get_or c.args.left.now i none in
    let b = get_or c.args.right.now i none in
    answer_no (λ same. not_both c.is_same_monomial.result
    (c.is_same_monomial.ensures.equal.1 (same_entries n (exp_of n a) (exp_of n b)
    (key_at (λ a. exponents n a.e) (λ a. exponents n a.e) c.args.left.now c.args.right.now i a b c.loop-i-test.true inside (same_default c.args.left.now i none a c.loop-i-test.true)
    (same_default c.args.right.now i none b inside) same)))
    c.if-not-is_same_monomial.true)

pub loop-i-preserved : goal.loop-i-preserved
loop-i-preserved c =
    let n = c.args.n in
    let i = c.loop-i.i in
    let none : Exp = record { e = [] } in
    let inside : c.loop-i.i < length c.args.right.now = subst (λ l. c.loop-i.i < l) c.if-left-right.false c.loop-i-test.true in
    let a = get_or c.args.left.now i none in
    let b = get_or c.args.right.now i none in
    keys_step (λ a. exponents n a.e) (λ a. exponents n a.e) c.args.left.now c.args.right.now i a b c.loop-i-test.true inside (same_default c.args.left.now i none a c.loop-i-test.true) (same_default c.args.right.now i none b inside)
    (ap (λ z. z.entries) (c.is_same_monomial.ensures.equal.0 c.if-not-is_same_monomial.false))
    c.loop-i.invariant

pub returns : goal.returns
returns c =
    let left = take_all c.loop-i.i c.args.left.now (omega arith) in
    let right = take_all c.loop-i.i c.args.right.now (let e = c.if-left-right.false in omega arith) in
    answer_yes (ap (map (λ a. exponents c.args.n a.e)) (sym left) ∙ c.loop-i.invariant ∙ ap (map (λ a. exponents c.args.n a.e)) right)
