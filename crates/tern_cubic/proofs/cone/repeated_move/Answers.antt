use Rattle.std.proofs.Common.{◌≡◌, true, map, refl, sym, ap, subst, ◌∙◌, rules}
use Rattle.ring_theory.specs.Height.{rational_scalars}
use Rattle.ring_law.specs.Fraction.{frac_value, rational_meaning}
use Rattle.ring_law.proofs.Exits.{fault_handed_on, faulted}
use Rattle.jet_law.specs.Terms.{poly_of}
use Rattle.move_law.specs.Shapes.{cubic_shape, cubic_work}
use Rattle.lin_row.specs.Plain.{Among}
use Rattle.move_law.specs.Work.{IsWorkHigh}
use Rattle.ternary_law.specs.Matrices.{moved, matrix_product}
use Rattle.ternary_law.specs.Pairs.{line_matrix}
use Rattle.ternary_law.specs.Steps.{axis_matrix}
use Rattle.ternary_law.specs.Rules.{binary_part, repeated_line}
use Rattle.ternary_law.specs.Triangle.{is_distinct}
use Rattle.tern_cubic.specs.Matrices.{IsMatrix, vector_of}
use Rattle.tern_cubic.specs.Moving.{IsMoving, IsUnderWay, IsSingular}
use Rattle.tern_cubic.proofs.ConeLemmas
use Rattle.tern_cubic.proofs.cone.repeated_move.Goals as goal

pub returns-in_err-way-clause-range : goal.returns-in_err-way-clause-range
returns-in_err-way-clause-range c =
    let g = poly_of 3 frac_value c.args.f.now.terms in
    let v = vector_of rational_meaning c.args.v.now in
    let a = axis_matrix rational_scalars 2 v in
    let h = moved rational_scalars a g in
    fault_handed_on _ c.from_residual-in_err-way.ensures.1 (ConeLemmas.begin_high g v) (c.in_err-way.ensures.range a c.in_ok-axis.ensures.matrix)

pub returns-in_default-clause-change : goal.returns-in_default-clause-change
returns-in_default-clause-change c =
    let g = poly_of 3 frac_value c.args.f.now.terms in
    let v = vector_of rational_meaning c.args.v.now in
    let a = axis_matrix rational_scalars 2 v in
    let h = moved rational_scalars a g in
    let none : IsSingular rational_scalars a = rw c.in_default.is at (c.in_ok-way.ensures.way a c.in_ok-axis.ensures.matrix) in
    ConeLemmas.no_axis g v none

pub repeated_line-requires : goal.repeated_line-requires
repeated_line-requires c =
    let g = poly_of 3 frac_value c.args.f.now.terms in
    let v = vector_of rational_meaning c.args.v.now in
    let a = axis_matrix rational_scalars 2 v in
    let h = moved rational_scalars a g in
    let way : IsMoving rational_meaning a h c.in-Some.way = rw c.in-Some.is at (c.in_ok-way.ensures.way a c.in_ok-axis.ensures.matrix) in
    record { jet = way.form.jet; variables = way.form.variables }

pub returns-in_err-line-clause-range : goal.returns-in_err-line-clause-range
returns-in_err-line-clause-range c =
    let g = poly_of 3 frac_value c.args.f.now.terms in
    let v = vector_of rational_meaning c.args.v.now in
    let a = axis_matrix rational_scalars 2 v in
    let h = moved rational_scalars a g in
    let way : IsMoving rational_meaning a h c.in-Some.way = rw c.in-Some.is at (c.in_ok-way.ensures.way a c.in_ok-axis.ensures.matrix) in
    faulted _ c.from_residual-in_err-line.ensures.1
    (λ high. ConeLemmas.line_high g v (subst (λ p. Among (IsWorkHigh 3 rational_scalars) (cubic_work rational_scalars 3 (binary_part p))) way.form.polynomial high))
    c.in_err-line.ensures.range

pub returns-in_default-2-clause-change : goal.returns-in_default-2-clause-change
returns-in_default-2-clause-change c =
    let g = poly_of 3 frac_value c.args.f.now.terms in
    let v = vector_of rational_meaning c.args.v.now in
    let a = axis_matrix rational_scalars 2 v in
    let h = moved rational_scalars a g in
    let way : IsMoving rational_meaning a h c.in-Some.way = rw c.in-Some.is at (c.in_ok-way.ensures.way a c.in_ok-axis.ensures.matrix) in
    let distinct : is_distinct (cubic_shape rational_scalars (binary_part (poly_of 3 frac_value c.in-Some.way.form.terms))) ≡ true = rw c.in_default-2.is at c.in_ok-line.ensures.line in
    ConeLemmas.is_other g v (subst (λ p. is_distinct (cubic_shape rational_scalars (binary_part p)) ≡ true) way.form.polynomial distinct)

pub advance-requires : goal.advance-requires
advance-requires c =
    let g = poly_of 3 frac_value c.args.f.now.terms in
    let v = vector_of rational_meaning c.args.v.now in
    let a = axis_matrix rational_scalars 2 v in
    let h = moved rational_scalars a g in
    let way : IsMoving rational_meaning a h c.in-Some.way = rw c.in-Some.is at (c.in_ok-way.ensures.way a c.in_ok-axis.ensures.matrix) in
    let under_way : IsUnderWay rational_meaning c.in-Some.way = record { matrix = a; cubic = h; is = way } in
    let valid : IsMatrix rational_meaning (map (map rational_meaning.value) c.line_matrix-matrix.result) c.line_matrix-matrix.result = record { elems = c.line_matrix-matrix.ensures.elems; values = refl } in
    search rules

pub returns-in_err-end-clause-range : goal.returns-in_err-end-clause-range
returns-in_err-end-clause-range c =
    let g = poly_of 3 frac_value c.args.f.now.terms in
    let v = vector_of rational_meaning c.args.v.now in
    let a = axis_matrix rational_scalars 2 v in
    let h = moved rational_scalars a g in
    let way : IsMoving rational_meaning a h c.in-Some.way = rw c.in-Some.is at (c.in_ok-way.ensures.way a c.in_ok-axis.ensures.matrix) in
    let t = cubic_shape rational_scalars (binary_part h) in
    let l = line_matrix rational_scalars (repeated_line t) in
    let found = rw c.in-Some-2.is at c.in_ok-line.ensures.line in
    let same : cubic_shape rational_scalars (binary_part (poly_of 3 frac_value c.in-Some.way.form.terms)) ≡ t = ap (λ p. cubic_shape rational_scalars (binary_part p)) way.form.polynomial in
    let line : IsMatrix rational_meaning l c.line_matrix-matrix.result =
    subst (λ x. IsMatrix rational_meaning (line_matrix rational_scalars x) c.line_matrix-matrix.result) (found.2 ∙ ap repeated_line same) c.line_matrix-matrix.ensures in
    fault_handed_on _ c.from_residual-in_err-end.ensures.1 (ConeLemmas.last_high g v) (c.in_err-end.ensures.range a l h way line)

pub returns-in-Some-3-clause-change : goal.returns-in-Some-3-clause-change
returns-in-Some-3-clause-change c =
    let g = poly_of 3 frac_value c.args.f.now.terms in
    let v = vector_of rational_meaning c.args.v.now in
    let a = axis_matrix rational_scalars 2 v in
    let h = moved rational_scalars a g in
    let way : IsMoving rational_meaning a h c.in-Some.way = rw c.in-Some.is at (c.in_ok-way.ensures.way a c.in_ok-axis.ensures.matrix) in
    let t = cubic_shape rational_scalars (binary_part h) in
    let l = line_matrix rational_scalars (repeated_line t) in
    let found = rw c.in-Some-2.is at c.in_ok-line.ensures.line in
    let same : cubic_shape rational_scalars (binary_part (poly_of 3 frac_value c.in-Some.way.form.terms)) ≡ t = ap (λ p. cubic_shape rational_scalars (binary_part p)) way.form.polynomial in
    let line : IsMatrix rational_meaning l c.line_matrix-matrix.result =
    subst (λ x. IsMatrix rational_meaning (line_matrix rational_scalars x) c.line_matrix-matrix.result) (found.2 ∙ ap repeated_line same) c.line_matrix-matrix.ensures in
    let end : IsMoving rational_meaning (matrix_product rational_scalars a l) (moved rational_scalars l h) c.in-Some-3.end = rw c.in-Some-3.is at (c.in_ok-end.ensures.way a l h way line) in
    ConeLemmas.is_repeated g v c.requires.nonzero (ap is_distinct (sym same) ∙ found.0) c.in-Some-3.end end

pub returns-clause-change : goal.returns-clause-change
returns-clause-change c =
    let g = poly_of 3 frac_value c.args.f.now.terms in
    let v = vector_of rational_meaning c.args.v.now in
    let a = axis_matrix rational_scalars 2 v in
    let h = moved rational_scalars a g in
    let way : IsMoving rational_meaning a h c.in-Some.way = rw c.in-Some.is at (c.in_ok-way.ensures.way a c.in_ok-axis.ensures.matrix) in
    let t = cubic_shape rational_scalars (binary_part h) in
    let l = line_matrix rational_scalars (repeated_line t) in
    let found = rw c.in-Some-2.is at c.in_ok-line.ensures.line in
    let same : cubic_shape rational_scalars (binary_part (poly_of 3 frac_value c.in-Some.way.form.terms)) ≡ t = ap (λ p. cubic_shape rational_scalars (binary_part p)) way.form.polynomial in
    let line : IsMatrix rational_meaning l c.line_matrix-matrix.result =
    subst (λ x. IsMatrix rational_meaning (line_matrix rational_scalars x) c.line_matrix-matrix.result) (found.2 ∙ ap repeated_line same) c.line_matrix-matrix.ensures in
    let none : IsSingular rational_scalars (matrix_product rational_scalars a l) = rw c.in-None.is at (c.in_ok-end.ensures.way a l h way line) in
    ConeLemmas.no_line g v none
