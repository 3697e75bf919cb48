use Rattle.std.proofs.Common.{List, [], ◌∷◌, map, inl, inr}
use Rattle.ring_theory.specs.Height.{rational_scalars}
use Rattle.ring_theory.specs.Rational.{Rational}
use Rattle.ring_law.specs.Fraction.{frac_value, rational_meaning}
use Rattle.ring_law.proofs.Exits.{faulted, faulted_by}
use Rattle.ternary_law.specs.Pairs.{Pair, IsPair}
use Rattle.tern_cubic.specs.Matrices.{IsMatrix}
use Rattle.tern_cubic.specs.Pairs.{IsPlain, plain_matrix}
use Rattle.tern_cubic.specs.Stepping.{step_of}
use Rattle.tern_cubic.proofs.PairingLemmas
use Rattle.tern_cubic.proofs.pairing.pair_move.Goals as goal

pub returns-in_err-matrix-clause-range : goal.returns-in_err-matrix-clause-range
returns-in_err-matrix-clause-range c v g was = faulted _ c.from_residual.ensures.1 (λ high. inl high) c.in_err-matrix.ensures.range

pub returns-in-Plain-clause-change : goal.returns-in-Plain-clause-change
returns-in-Plain-clause-change c v g was =
    let form : List Rational = frac_value c.args.q.0 ∷ frac_value c.args.q.1 ∷ frac_value c.args.q.2 ∷ [] in
    let i = c.args.i in
    let j = c.args.j in
    let found : (p : Pair) × IsPlain p × IsPair form p × IsMatrix rational_meaning (plain_matrix form i j p) c.in-Plain.matrix = rw c.in-Plain.is at c.in_ok-matrix.ensures.answer in
    PairingLemmas.by_answer v g form i j (map (step_of rational_scalars) c.args.steps.now) c.args.monomials.now found.0 found.1 found.2 c.plain_move.result
    (c.plain_move.ensures.change v (plain_matrix form i j found.0) g was found.3)

pub returns-in-Plain-clause-range : goal.returns-in-Plain-clause-range
returns-in-Plain-clause-range c v g was =
    let form : List Rational = frac_value c.args.q.0 ∷ frac_value c.args.q.1 ∷ frac_value c.args.q.2 ∷ [] in
    let i = c.args.i in
    let j = c.args.j in
    let found : (p : Pair) × IsPlain p × IsPair form p × IsMatrix rational_meaning (plain_matrix form i j p) c.in-Plain.matrix = rw c.in-Plain.is at c.in_ok-matrix.ensures.answer in
    faulted_by (λ high. inr (found.0, found.1, found.2, high)) (c.plain_move.ensures.range v (plain_matrix form i j found.0) g was found.3)
