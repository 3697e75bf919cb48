use Rattle.std.proofs.Common.{◌≡◌, ◌∙◌, ◌++◌, ◌∷◌, [], not, get_or, refl, sym, ap, take_all, arith}
use Rattle.mono_exp.specs.declared.exponent.Exp.{Exp}
use Rattle.jacobian_row.proofs.ListSteps.{same_default, kept_step, left_out_step}
use Rattle.jet_quotient.specs.Answers.{begins_at, number_of, free_of}
use Rattle.jet_quotient.proofs.LoopFacts.{map-self}
use Rattle.jet_quotient.proofs.basis.basis_of.Goals as goal

pub loop-a-init : goal.loop-a-init
loop-a-init g c = rw c.new-basis.ensures.items refl

pub loop-a-preserved-then-some_begins : goal.loop-a-preserved-then-some_begins
loop-a-preserved-then-some_begins g c =
    let n = c.args.n in
    let a : Exp = get_or c.args.monomials.now c.loop-a.a-index (record { e = [] }) in
    let read : a ≡ get_or c.args.monomials.now c.loop-a.a-index a = same_default c.args.monomials.now c.loop-a.a-index (record { e = [] }) a c.loop-a-test.true in
    c.loop-a.invariant
    ∙ sym (left_out_step (λ (a : Exp). not (begins_at c.args.form.now (number_of n a))) (λ a. a) c.args.monomials.now c.loop-a.a-index a c.loop-a-test.true read
    (ap (λ j. not (begins_at c.args.form.now j)) (sym c.rank.ensures.rank) ∙ ap not (sym c.some_begins.ensures ∙ c.if-some_begins.true)))

pub loop-a-preserved : goal.loop-a-preserved
loop-a-preserved g c =
    let n = c.args.n in
    let a : Exp = get_or c.args.monomials.now c.loop-a.a-index (record { e = [] }) in
    let read : a ≡ get_or c.args.monomials.now c.loop-a.a-index a = same_default c.args.monomials.now c.loop-a.a-index (record { e = [] }) a c.loop-a-test.true in
    rw c.in_ok-push.ensures.items
    (ap (λ xs. xs ++ (a ∷ [])) c.loop-a.invariant
    ∙ sym (kept_step (λ (a : Exp). not (begins_at c.args.form.now (number_of n a))) (λ a. a) c.args.monomials.now c.loop-a.a-index a c.loop-a-test.true read
    (ap (λ j. not (begins_at c.args.form.now j)) (sym c.rank.ensures.rank) ∙ ap not (sym c.some_begins.ensures ∙ c.if-some_begins.false))))

pub returns-clause-basis : goal.returns-clause-basis
returns-clause-basis g c = c.loop-a.invariant ∙ map-self (free_of c.args.n c.args.form.now _) ∙ ap (free_of c.args.n c.args.form.now) (take_all c.loop-a.a-index c.args.monomials.now (omega arith))
