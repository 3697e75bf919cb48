use Rattle.std.proofs.Common.{inl, inr, refl, sym, ◌∙◌, subst}
use Rattle.ring_law.proofs.Exits.{fault_handed_on}
use Rattle.poly_law.specs.ExpList.{exps}
use Rattle.poly_law.specs.Polynomials.{SameIn, cut_in, substitute}
use Rattle.jet_law.specs.Terms.{poly_of}
use Rattle.jet_poly.specs.JetTerms.{IsRising}
use Rattle.jet_subst.specs.Parts.{part_of}
use Rattle.jet_subst.specs.Substitutions.{IsSubstHigh}
use Rattle.coord_change.specs.Changes.{entry_of}
use Rattle.hessian_rank.proofs.ComposedMoves.{carried_is, carry_high}
use Rattle.hessian_rank.proofs.StageSteps.{same_squares, puts_of, inverse_high}
use Rattle.hessian_rank.proofs.stage.moved.Goals as goal

pub linear_change-requires-clause-given : goal.linear_change-requires-clause-given
linear_change-requires-clause-given g c = c.requires.stage.change.given

pub linear_change-requires-clause-at_most_8_variables : goal.linear_change-requires-clause-at_most_8_variables
linear_change-requires-clause-at_most_8_variables g c = c.requires.stage.change.at_most_8_variables

pub composed-requires-clause-first_change : goal.composed-requires-clause-first_change
composed-requires-clause-first_change g c = c.requires.stage.change

pub composed-requires-clause-next_change : goal.composed-requires-clause-next_change
composed-requires-clause-next_change g c = c.in_ok-next.ensures.change.change

pub composed-requires-clause-same_variables : goal.composed-requires-clause-same_variables
composed-requires-clause-same_variables g c = c.in_ok-next.ensures.change.variables

pub carry-requires-clause-change : goal.carry-requires-clause-change
carry-requires-clause-change g c = c.in_ok-next.ensures.change.change

pub carry-requires-clause-jet : goal.carry-requires-clause-jet
carry-requires-clause-jet g c = c.requires.stage.form

pub carry-requires-clause-same_variables : goal.carry-requires-clause-same_variables
carry-requires-clause-same_variables g c = c.requires.stage.form_variables ∙ sym c.in_ok-next.ensures.change.variables

pub returns-in_err-next-clause-range : goal.returns-in_err-next-clause-range
returns-in_err-next-clause-range g c move is =
    let m = g.F.Ring.meaning c.args.field.now in
    let laws = (g.met.F.Ring.laws c.args.field.now c.requires.ring).numbers in
    let n = c.args.stage.change.n in
    fault_handed_on _ c.from_residual.ensures.1 (λ high. inl (inverse_high m laws n (entry_of m n c.args.matrix.now) move is high)) c.in_err-next.ensures.range

pub returns-in_err-change-clause-range : goal.returns-in_err-change-clause-range
returns-in_err-change-clause-range g c move is =
    let m = g.F.Ring.meaning c.args.field.now in
    let laws = (g.met.F.Ring.laws c.args.field.now c.requires.ring).numbers in
    let n = c.args.stage.change.n in
    let puts = puts_of m laws n (entry_of m n c.args.matrix.now) move c.in_ok-next.next is c.in_ok-next.ensures.change in
    fault_handed_on _ c.from_residual-in_err-change.ensures.1 (λ high. elim high [ inl h ↦ inr (inl h) | inr z ↦ absurd z ]) (c.in_err-change.ensures.range move puts)

pub returns-in_err-form-clause-range : goal.returns-in_err-form-clause-range
returns-in_err-form-clause-range g c move is =
    let m = g.F.Ring.meaning c.args.field.now in
    let laws = (g.met.F.Ring.laws c.args.field.now c.requires.ring).numbers in
    let n = c.args.stage.change.n in
    let next = c.in_ok-next.next in
    let f = c.args.stage.form.terms in
    let puts = puts_of m laws n (entry_of m n c.args.matrix.now) move next is c.in_ok-next.ensures.change in
    fault_handed_on _ c.from_residual-in_err-form.ensures.1
    (λ high. inr (inr (inl (carry_high m laws n move next puts 2 (poly_of n m.value f)
    (subst (λ z. IsSubstHigh (exps z) (exps z) m.scalars 2 (part_of z m.value next.parts) (poly_of z m.value f)) c.in_ok-next.ensures.change.variables high)))))
    c.in_err-form.ensures.range

pub returns-clause-moved : goal.returns-clause-moved
returns-clause-moved g c move is =
    let m = g.F.Ring.meaning c.args.field.now in
    let laws = (g.met.F.Ring.laws c.args.field.now c.requires.ring).numbers in
    let n = c.args.stage.change.n in
    let next = c.in_ok-next.next in
    let f = c.args.stage.form.terms in
    let h = c.in_ok-form.form in
    let form = c.in_ok-form.ensures in
    let same = c.in_ok-next.ensures.change.variables in
    let puts = puts_of m laws n (entry_of m n c.args.matrix.now) move next is c.in_ok-next.ensures.change in
    let exact = c.in_ok-change.ensures.change move puts in
    record {
      stage = record { change = exact.change; variables = exact.variables; order = exact.order; form = form.jet; form_variables = form.n ∙ same; form_order = form.order };
      is = same_squares refl refl exact.parts
          (carried_is m laws n move next puts 2 h (poly_of n m.value f) form.jet (form.n ∙ same) form.order (subst IsRising c.terms.ensures.terms c.terms.ensures.rising)
          (subst (λ z. SameIn z m.scalars.ops (poly_of z m.value h.terms) (cut_in z m.scalars.ops 2 (substitute z z m.scalars.ops (part_of z m.value next.parts) (poly_of z m.value f)))) same form.value));
    }
