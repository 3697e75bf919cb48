use Rattle.line_io.proofs.Reading.{counted_is, kept_is}
use Rattle.line_io.proofs.line_buffer.LineBuffer.finish.Goals as goal
use Rattle.line_io.specs.LineSoFar.{LineSoFar, IsLineOf, counted_length}
use Rattle.std.proofs.Common.{ℕ, ◌≤◌, take, ap, sym, subst, ◌∙◌, arith}

pub returns-clause-line : goal.returns-clause-line
returns-clause-line c = λ bytes p.
    let P : LineSoFar → Type 0 = λ s. IsLineOf bytes s in
    let q = subst P (sym c.self.view_is) p in
    let n = c.line_length-length.ensures in
    let le : counted_length c.self.inside.total c.self.inside.last ≤ 65536 = omega (arith, n, c.if-length.false) in
    (c.truncate.ensures.items ∙ ap (λ (k : ℕ). take k c.self.inside.kept.items) n ∙ kept_is bytes _ q le, omega (arith, counted_is bytes _ q, le))
