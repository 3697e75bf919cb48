use Rattle.std.proofs.Common.{refl}
use Rattle.text_reader.proofs.AlgebraTexts.{cubic_algebra, no_simple, quadratic_valid, rational_read}
use Rattle.text_reader.proofs.algebra.read_simple.Goals as goal

pub returns-then-is_text-clause-some : goal.returns-then-is_text-clause-some
returns-then-is_text-clause-some c = rational_read c.args.bytes.now (c.is_text.ensures.0 c.if-is_text.true)

pub returns-in-Some-clause-some : goal.returns-in-Some-clause-some
returns-in-Some-clause-some c = let is = c.in-Some.ensures.some in (quadratic_valid c.in-Some.algebra is.0, is.1)

pub returns-in-None-clause-none : goal.returns-in-None-clause-none
returns-in-None-clause-none c _ a ok e =
    no_simple a c.args.bytes.now c.requires (λ is. let yes = c.is_text.ensures.1 is in absurd (cc (yes, c.if-is_text.false))) (c.in_default.ensures.none refl) (c.in-None.ensures.none refl) ok e

pub returns-in-Some-read_cubic-clause-some : goal.returns-in-Some-read_cubic-clause-some
returns-in-Some-read_cubic-clause-some c = cubic_algebra (c.in-Some-read_cubic.m2, c.in-Some-read_cubic.m1, c.in-Some-read_cubic.m0) c.args.bytes.now c.in-Some-read_cubic.ensures.some
