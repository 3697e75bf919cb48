use Rattle.std.proofs.Common.{ℕ, refl, sym, subst}
use Rattle.row_reader.specs.Values.{AreResidual}
use Rattle.report_reader.specs.Lines.{IsWithin}
use Rattle.report_reader.proofs.Fronts.{no_line_at, line_value_at, line_front}
use Rattle.report_reader.proofs.Found.{some_is, not_both}
use Rattle.report_reader.proofs.NamedLines.{basis_clean, basis_size}
use Rattle.report_reader.proofs.named.take_basis.Goals as goal
use Rattle.cert_text.specs.Text.{basis_inside}

pub returns-in-None-clause-none : goal.returns-in-None-clause-none
returns-in-None-clause-none c _ v more h e = no_line_at (AreResidual c.args.corank) basis_inside c.args.bytes.now (c.in-None.ensures.none refl) v more h.residual e

pub returns-in-Ok-None-clause-none : goal.returns-in-Ok-None-clause-none
returns-in-Ok-None-clause-none c _ v more h e = line_value_at (AreResidual c.args.corank) basis_inside c.args.bytes.now c.in-Some.text.now c.in-Some.rest.now (basis_clean c.args.corank) c.in-Some.ensures.some.1 c.in-Some.ensures.some.0 (c.in-Ok-None.ensures.none c.in-Ok-None.field-0-is) v more h.residual e

pub returns-then-is_size-clause-some : goal.returns-then-is_size-clause-some
returns-then-is_size-clause-some c =
    let read = some_is c.in-Ok-Some.field-0 c.in-Ok-Some.basis _ c.in-Ok-Some.field-0-is c.in-Ok-Some.ensures.some in
    let size = subst (λ (k : ℕ). IsWithin 1 1140 k) c.len.ensures (c.is_size.ensures.0 c.if-is_size.true) in
    (record { some = size.0; few = size.1; residual = read.0 }, line_front (basis_inside c.in-Ok-Some.basis) c.in-Some.text.now c.in-Some.rest.now c.args.bytes.now read.1 c.in-Some.ensures.some.0)

pub returns-clause-none : goal.returns-clause-none
returns-clause-none c _ =
    let read = some_is c.in-Ok-Some.field-0 c.in-Ok-Some.basis _ c.in-Ok-Some.field-0-is c.in-Ok-Some.ensures.some in
    basis_size c.args.corank c.in-Ok-Some.basis c.in-Some.text.now c.in-Some.rest.now c.args.bytes.now read.0 read.1 c.in-Some.ensures.some.0
    (λ h. not_both c.is_size.result c.if-is_size.false (c.is_size.ensures.1 (subst (λ (k : ℕ). IsWithin 1 1140 k) (sym c.len.ensures) h)))
