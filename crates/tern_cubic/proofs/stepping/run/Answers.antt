use Rattle.std.proofs.Common.{◌≡◌, ◌≢◌, ◌+◌, true, false, map, get_or, drop, refl, sym, subst, ◌∙◌, rules}
use Rattle.ring_theory.specs.Height.{rational_scalars}
use Rattle.ring_theory.specs.Rational.{rational_ops}
use Rattle.ring_theory.proofs.RationalLaws.{rational_scalar_laws}
use Rattle.ring_law.specs.Fraction.{rational_meaning}
use Rattle.ring_law.proofs.Exits.{fault_handed_on, faulted}
use Rattle.lin_row.specs.Lines.{EachOf}
use Rattle.lin_row.specs.Plain.{Among}
use Rattle.move_law.specs.Work.{IsWorkHigh}
use Rattle.tern_cubic.specs.declared.stepping.Step.TheVariants as programs
use Rattle.tern_cubic.specs.Matrices.{IsMatrix}
use Rattle.jacobian_row.specs.Rows.{IsJetIn}
use Rattle.tern_cubic.specs.Moving.{IsUnderWay}
use Rattle.tern_cubic.specs.Stepping.{step_of}
use Rattle.tern_cubic.proofs.SteppingLemmas
use Rattle.tern_cubic.proofs.stepping.run.Goals as goal

pub loop-step-init : goal.loop-step-init
loop-step-init c v h is =
    SteppingLemmas.stands_first rational_meaning rational_scalar_laws (map (step_of rational_scalars) c.args.steps.now) v h c.args.start is

pub is_possible-requires-clause-jet : goal.is_possible-requires-clause-jet
is_possible-requires-clause-jet c =
    let u = c.requires in
    let h = c.loop-step.invariant u.matrix u.cubic u.is in record { jet = h.is.form.jet; variables = h.is.form.variables }

pub returns-then-not-is_possible-clause-way : goal.returns-then-not-is_possible-clause-way
returns-then-not-is_possible-clause-way c v f is =
    let i = c.loop-step.step-index in
    let all = c.args.steps.now in
    let step = step_of rational_scalars (get_or all i programs.Node) in
    let h = SteppingLemmas.at_step rational_meaning rational_scalar_laws all i v f c.loop-step.way c.loop-step-test.true (c.loop-step.invariant v f is) in
    SteppingLemmas.impossible rational_meaning rational_scalar_laws (map (step_of rational_scalars) all) (map (step_of rational_scalars) (drop (i + 1) all)) step v f c.loop-step.way h
    (λ e. let yes : c.is_possible.result ≡ true = c.is_possible.ensures.1 (subst (λ p. EachOf (λ d. d ≢ rational_ops.zero) (step.divisors p)) (sym h.is.form.polynomial) e) in
    let bad : true ≡ false = sym yes ∙ c.if-not-is_possible.true in cc bad)

pub step_matrix-requires : goal.step_matrix-requires
step_matrix-requires c =
    let u = c.requires in
    let h = c.loop-step.invariant u.matrix u.cubic u.is in
    let jet : IsJetIn rational_meaning 3 c.loop-step.way.form = record { jet = h.is.form.jet; variables = h.is.form.variables } in
    let possible = c.is_possible.ensures.0 c.if-not-is_possible.false in
    search rules

pub returns-in_err-matrix-clause-range : goal.returns-in_err-matrix-clause-range
returns-in_err-matrix-clause-range c v f is =
    let i = c.loop-step.step-index in
    let all = c.args.steps.now in
    let step = step_of rational_scalars (get_or all i programs.Node) in
    let h = SteppingLemmas.at_step rational_meaning rational_scalar_laws all i v f c.loop-step.way c.loop-step-test.true (c.loop-step.invariant v f is) in
    faulted _ c.from_residual.ensures.1
    (λ high. SteppingLemmas.formulas_high rational_meaning rational_scalar_laws (map (step_of rational_scalars) all) (map (step_of rational_scalars) (drop (i + 1) all)) step v f c.loop-step.way h
    (subst (λ p. Among (IsWorkHigh 3 rational_scalars) (step.works p)) h.is.form.polynomial high))
    c.in_err-matrix.ensures.range

pub advance-requires : goal.advance-requires
advance-requires c =
    let u = c.requires in
    let h = c.loop-step.invariant u.matrix u.cubic u.is in
    let under_way : IsUnderWay rational_meaning c.loop-step.way = record { matrix = h.matrix; cubic = h.cubic; is = h.is } in
    let valid : IsMatrix rational_meaning (map (map rational_meaning.value) c.in_ok-matrix.matrix) c.in_ok-matrix.matrix = record { elems = c.in_ok-matrix.ensures.matrix.elems; values = refl } in
    search rules

pub returns-in_err-next-clause-range : goal.returns-in_err-next-clause-range
returns-in_err-next-clause-range c v f is =
    let i = c.loop-step.step-index in
    let all = c.args.steps.now in
    let step = step_of rational_scalars (get_or all i programs.Node) in
    let h = SteppingLemmas.at_step rational_meaning rational_scalar_laws all i v f c.loop-step.way c.loop-step-test.true (c.loop-step.invariant v f is) in
    fault_handed_on _ c.from_residual-in_err-next.ensures.1
    (SteppingLemmas.advancing_high rational_meaning rational_scalar_laws (map (step_of rational_scalars) all) (map (step_of rational_scalars) (drop (i + 1) all)) step v f c.loop-step.way h)
    (c.in_err-next.ensures.range h.matrix (step.matrix h.cubic) h.cubic h.is
    (subst (λ p. IsMatrix rational_meaning (step.matrix p) c.in_ok-matrix.matrix) h.is.form.polynomial c.in_ok-matrix.ensures.matrix))

pub returns-in_default-clause-way : goal.returns-in_default-clause-way
returns-in_default-clause-way c v f is =
    let i = c.loop-step.step-index in
    let all = c.args.steps.now in
    let step = step_of rational_scalars (get_or all i programs.Node) in
    let h = SteppingLemmas.at_step rational_meaning rational_scalar_laws all i v f c.loop-step.way c.loop-step-test.true (c.loop-step.invariant v f is) in
    SteppingLemmas.no_matrix rational_meaning rational_scalar_laws (map (step_of rational_scalars) all) (map (step_of rational_scalars) (drop (i + 1) all)) step v f c.loop-step.way h
    (rw c.in_default.is at (c.in_ok-next.ensures.way h.matrix (step.matrix h.cubic) h.cubic h.is
    (subst (λ p. IsMatrix rational_meaning (step.matrix p) c.in_ok-matrix.matrix) h.is.form.polynomial c.in_ok-matrix.ensures.matrix)))

pub loop-step-preserved : goal.loop-step-preserved
loop-step-preserved c v f is =
    let i = c.loop-step.step-index in
    let all = c.args.steps.now in
    let step = step_of rational_scalars (get_or all i programs.Node) in
    let h = SteppingLemmas.at_step rational_meaning rational_scalar_laws all i v f c.loop-step.way c.loop-step-test.true (c.loop-step.invariant v f is) in
    SteppingLemmas.stands_next rational_meaning rational_scalar_laws (map (step_of rational_scalars) all) (map (step_of rational_scalars) (drop (i + 1) all)) step v f c.loop-step.way h c.in-Some.next
    (subst (λ p. EachOf (λ d. d ≢ rational_ops.zero) (step.divisors p)) h.is.form.polynomial (c.is_possible.ensures.0 c.if-not-is_possible.false))
    (rw c.in-Some.is at (c.in_ok-next.ensures.way h.matrix (step.matrix h.cubic) h.cubic h.is
    (subst (λ p. IsMatrix rational_meaning (step.matrix p) c.in_ok-matrix.matrix) h.is.form.polynomial c.in_ok-matrix.ensures.matrix)))

pub returns-clause-way : goal.returns-clause-way
returns-clause-way c v f is =
    SteppingLemmas.at_end rational_meaning rational_scalar_laws c.args.steps.now c.loop-step.step-index v f c.loop-step.way c.loop-step-test.false (c.loop-step.invariant v f is)
