use Rattle.std.proofs.Common.{[], ◌∷◌}
use Rattle.ring_theory.specs.Height.{rational_scalars}
use Rattle.ring_law.specs.Fraction.{frac_value, rational_meaning}
use Rattle.ring_law.proofs.Exits.{faulted_by}
use Rattle.jet_law.specs.Terms.{poly_of}
use Rattle.ternary_law.specs.Steps.{axis_matrix}
use Rattle.ternary_law.specs.Rules.{cusp_steps}
use Rattle.ternary_law.specs.Shapes.{x3, yz2}
use Rattle.tern_cubic.specs.Matrices.{vector_of}
use Rattle.tern_cubic.proofs.ReachingLemmas.{axis_answer, axis_steps_high}
use Rattle.tern_cubic.proofs.reaching.cusp_move.Goals as goal

pub returns-clause-change : goal.returns-clause-change
returns-clause-change c =
    let g = poly_of 3 frac_value c.args.f.now.terms in
    let v = vector_of rational_meaning c.args.v.now in
    axis_answer g 1 v (cusp_steps rational_scalars) (x3 ∷ yz2 ∷ []) c.requires.nonzero c.reached_by.result (c.reached_by.ensures.change (axis_matrix rational_scalars 1 v) c.in_ok-axis.ensures.matrix)

pub returns-clause-range : goal.returns-clause-range
returns-clause-range c =
    let g = poly_of 3 frac_value c.args.f.now.terms in
    let v = vector_of rational_meaning c.args.v.now in
    faulted_by (axis_steps_high g 1 v (cusp_steps rational_scalars)) (c.reached_by.ensures.range (axis_matrix rational_scalars 1 v) c.in_ok-axis.ensures.matrix)
