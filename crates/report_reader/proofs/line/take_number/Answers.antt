use Rattle.std.proofs.Common.{refl, ◌<◌, ◌^◌, arith}
use Rattle.std.specs.Prelude.{decimal}
use Rattle.report_reader.specs.Lines.{IsWithin}
use Rattle.report_reader.proofs.Fronts.{value_at, line_absent, within_clean, within_none, no_u64}
use Rattle.report_reader.proofs.line.take_number.Goals as goal
use Rattle.report_reader.proofs.line.take_number.Goals.{else-least-n-via-then-least-n+else-n-most, else-least-n-via-else-least-n}

pub returns-in-None-clause-none : goal.returns-in-None-clause-none
returns-in-None-clause-none c _ =
    let small : c.args.most < 2 ^ 64 = omega (arith, c.ranges.most.fits) in
    line_absent (IsWithin c.args.least c.args.most) decimal c.args.word c.args.bytes.now (within_clean c.args.least c.args.most small) (c.in-None.ensures.none refl)

pub returns-in-None-read_u64-clause-none : goal.returns-in-None-read_u64-clause-none
returns-in-None-read_u64-clause-none c _ =
    let small : c.args.most < 2 ^ 64 = omega (arith, c.ranges.most.fits) in
    value_at (IsWithin c.args.least c.args.most) decimal c.args.word c.args.bytes.now c.in-Some.text.now c.in-Some.rest.now (within_clean c.args.least c.args.most small) c.in-Some.ensures.some.0 c.in-Some.ensures.some.1
    (no_u64 c.args.least c.args.most c.in-Some.text.now small (c.in-None-read_u64.ensures.none refl))

pub returns-else-least-n-clause-none : goal.returns-else-least-n-clause-none
returns-else-least-n-clause-none c _ =
    let small : c.args.most < 2 ^ 64 = omega (arith, c.ranges.most.fits) in
    let read = c.in-Some-read_u64.ensures.some in
    let not_in : (IsWithin c.args.least c.args.most c.in-Some-read_u64.n → ⊥) = elim c.else-least-n.branch [
      | else-least-n-via-then-least-n+else-n-most w ↦ (λ h. let a = h.1 in let b = w.if-n-most.false in omega (arith, a, b))
      | else-least-n-via-else-least-n w ↦ (λ h. let a = h.0 in let b = w.if-least-n.false in omega (arith, a, b))
    ] in
    value_at (IsWithin c.args.least c.args.most) decimal c.args.word c.args.bytes.now c.in-Some.text.now c.in-Some.rest.now (within_clean c.args.least c.args.most small) c.in-Some.ensures.some.0 c.in-Some.ensures.some.1
    (within_none c.args.least c.args.most c.in-Some-read_u64.n c.in-Some.text.now small read.0 read.1 not_in)
