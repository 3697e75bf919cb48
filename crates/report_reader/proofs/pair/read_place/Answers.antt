use Rattle.std.proofs.Common.{◌<◌, ◌^◌, refl, arith}
use Rattle.std.specs.Prelude.{decimal}
use Rattle.cert_text.specs.Names.{what_text}
use Rattle.text_reader.specs.Reading.{IsAny}
use Rattle.text_reader.proofs.Visible.{digits_lack}
use Rattle.report_reader.proofs.Fronts.{no_blank, no_first, no_second}
use Rattle.report_reader.proofs.pair.read_place.Goals as goal

pub returns-in-None-clause-none : goal.returns-in-None-clause-none
returns-in-None-clause-none c _ v ok e = no_blank (λ n. n < 2 ^ 32) IsAny decimal what_text c.args.text.now (c.in-None.ensures.none refl) v (ok, tt) e

pub returns-in-None-read_u32-clause-none : goal.returns-in-None-read_u32-clause-none
returns-in-None-read_u32-clause-none c _ v ok e = no_first (λ n. n < 2 ^ 32) IsAny decimal what_text (λ n lt. digits_lack 32 n (omega arith) (omega (arith, lt))) c.args.text.now c.in-Some.front.now c.in-Some.behind.now c.in-Some.ensures.some.0 c.in-Some.ensures.some.1
    (c.in-None-read_u32.ensures.none refl) v (ok, tt) e

pub returns-in-None-read_what-clause-none : goal.returns-in-None-read_what-clause-none
returns-in-None-read_what-clause-none c _ v ok e = no_second (λ n. n < 2 ^ 32) IsAny decimal what_text (λ n lt. digits_lack 32 n (omega arith) (omega (arith, lt))) c.args.text.now c.in-Some.front.now c.in-Some.behind.now c.in-Some.ensures.some.0 c.in-Some.ensures.some.1
    (c.in-None-read_what.ensures.none refl) v (ok, tt) e
