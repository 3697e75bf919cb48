use Rattle.std.proofs.Common.{◌≡◌, ◌++◌, ◌∷◌, [], List, length, sym, subst, arith}
use Rattle.ring_theory.specs.Height.{rational_scalars}
use Rattle.ring_theory.proofs.RationalLaws.{rational_scalar_laws}
use Rattle.ring_law.specs.declared.fraction.Frac.{Frac}
use Rattle.ring_law.specs.Fraction.{frac_value, rational_meaning}
use Rattle.ring_law.proofs.Exits.{fault_handed_on}
use Rattle.jet_law.specs.Terms.{poly_of}
use Rattle.jet_law.specs.Canonical.{jet}
use Rattle.move_law.specs.Work as work
use Rattle.move_law.specs.Hessian.{squares, permuting}
use Rattle.hessian_rank.specs.Answers.{IsDiagonal}
use Rattle.hessian_rank.proofs.StageSteps.{own_stage, own_sound, own_work, jet_low}
use Rattle.hessian_rank.proofs.DiagonalAnswers.{end_sound, few_open, last_high, steps_high, diagonal_is}
use Rattle.hessian_rank.proofs.diagonal.diagonalise.Goals as goal

pub sorted-requires-clause-stage : goal.sorted-requires-clause-stage
sorted-requires-clause-stage c =
    let n = c.args.f.now.n in
    let f = jet n rational_scalars 2 (poly_of n frac_value c.args.f.now.terms) in
    let two = jet_low rational_meaning rational_scalar_laws n (poly_of n frac_value c.args.f.now.terms) c.requires.low in
    let stage = c.in_ok-stage.stage in
    let at_end = c.in_ok-stage.ensures.squares in
    own_stage rational_meaning n (squares n rational_scalars f) stage at_end

pub sorted-requires-clause-sound : goal.sorted-requires-clause-sound
sorted-requires-clause-sound c =
    let n = c.args.f.now.n in
    let f = jet n rational_scalars 2 (poly_of n frac_value c.args.f.now.terms) in
    let two = jet_low rational_meaning rational_scalar_laws n (poly_of n frac_value c.args.f.now.terms) c.requires.low in
    let stage = c.in_ok-stage.stage in
    let at_end = c.in_ok-stage.ensures.squares in
    own_sound rational_meaning n (squares n rational_scalars f) stage at_end (end_sound n f two stage at_end)

pub coefficients-requires-clause-stage : goal.coefficients-requires-clause-stage
coefficients-requires-clause-stage c =
    let n = c.args.f.now.n in
    let f = jet n rational_scalars 2 (poly_of n frac_value c.args.f.now.terms) in
    let two = jet_low rational_meaning rational_scalar_laws n (poly_of n frac_value c.args.f.now.terms) c.requires.low in
    let stage = c.in_ok-stage.stage in
    let at_end = c.in_ok-stage.ensures.squares in
    own_stage rational_meaning n (squares n rational_scalars f) stage at_end

pub coefficients-requires-clause-sound : goal.coefficients-requires-clause-sound
coefficients-requires-clause-sound c =
    let n = c.args.f.now.n in
    let f = jet n rational_scalars 2 (poly_of n frac_value c.args.f.now.terms) in
    let two = jet_low rational_meaning rational_scalar_laws n (poly_of n frac_value c.args.f.now.terms) c.requires.low in
    let stage = c.in_ok-stage.stage in
    let at_end = c.in_ok-stage.ensures.squares in
    own_sound rational_meaning n (squares n rational_scalars f) stage at_end (end_sound n f two stage at_end)

pub overflow_cast-corank : goal.overflow_cast-corank
overflow_cast-corank c =
    let n = c.args.f.now.n in
    let f = jet n rational_scalars 2 (poly_of n frac_value c.args.f.now.terms) in
    let two = jet_low rational_meaning rational_scalar_laws n (poly_of n frac_value c.args.f.now.terms) c.requires.low in
    let stage = c.in_ok-stage.stage in
    let at_end = c.in_ok-stage.ensures.squares in
    let few = few_open n f two stage at_end in
    let eight = c.requires.at_most_8_variables in
    omega arith

pub returns-in_err-stage-clause-range : goal.returns-in_err-stage-clause-range
returns-in_err-stage-clause-range c =
    let n = c.args.f.now.n in
    let f = jet n rational_scalars 2 (poly_of n frac_value c.args.f.now.terms) in
    let two = jet_low rational_meaning rational_scalar_laws n (poly_of n frac_value c.args.f.now.terms) c.requires.low in
    fault_handed_on _ c.from_residual.ensures.1 (steps_high n f) c.in_err-stage.ensures.range

pub returns-in_err-change-clause-range : goal.returns-in_err-change-clause-range
returns-in_err-change-clause-range c =
    let n = c.args.f.now.n in
    let f = jet n rational_scalars 2 (poly_of n frac_value c.args.f.now.terms) in
    let two = jet_low rational_meaning rational_scalar_laws n (poly_of n frac_value c.args.f.now.terms) c.requires.low in
    let stage = c.in_ok-stage.stage in
    let at_end = c.in_ok-stage.ensures.squares in
    fault_handed_on _ c.from_residual-in_err-change.ensures.1
    (λ high. last_high n f (own_work rational_meaning n (squares n rational_scalars f) stage at_end (λ n q. let last = permuting n rational_scalars (q.opened ++ q.closed) in work.inverted last ∷ work.composed 16 q.change last ∷ []) high))
    c.in_err-change.ensures.range

pub returns-clause-diagonal : goal.returns-clause-diagonal
returns-clause-diagonal c =
    let n = c.args.f.now.n in
    let f = jet n rational_scalars 2 (poly_of n frac_value c.args.f.now.terms) in
    let two = jet_low rational_meaning rational_scalar_laws n (poly_of n frac_value c.args.f.now.terms) c.requires.low in
    let stage = c.in_ok-stage.stage in
    let at_end = c.in_ok-stage.ensures.squares in
    let full = stage.opened.ok.0 in
    let counted = c.len-corank.ensures in
    let size : c.len-corank.result ≡ length stage.opened.items = omega arith in
    subst (λ (vs : List Frac). IsDiagonal n f (record { change = c.in_ok-change.change; squares = vs; corank = c.len-corank.result })) (sym c.from_vec.ensures)
    (diagonal_is n f two stage at_end c.in_ok-change.change c.in_ok-values.values.items c.in_ok-change.ensures.change c.in_ok-values.ensures.elems c.in_ok-values.ensures.values c.len-corank.result size)
