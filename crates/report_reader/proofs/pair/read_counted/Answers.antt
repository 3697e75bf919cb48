use Rattle.std.proofs.Common.{◌<◌, ◌^◌, refl}
use Rattle.std.specs.Prelude.{decimal}
use Rattle.poly_text.specs.Polynomials.{monomial_text}
use Rattle.row_reader.specs.Values.{IsResidual}
use Rattle.row_reader.proofs.WordTexts.{word_monomial}
use Rattle.report_reader.proofs.Fronts.{no_blank, no_first, no_second}
use Rattle.report_reader.proofs.pair.read_counted.Goals as goal

pub returns-in-None-clause-none : goal.returns-in-None-clause-none
returns-in-None-clause-none c _ v ok e = no_blank (IsResidual c.args.corank) (λ n. n < 2 ^ 64) monomial_text decimal c.args.text.now (c.in-None.ensures.none refl) v ok e

pub returns-in-None-read_monomial-clause-none : goal.returns-in-None-read_monomial-clause-none
returns-in-None-read_monomial-clause-none c _ v ok e = no_first (IsResidual c.args.corank) (λ n. n < 2 ^ 64) monomial_text decimal (word_monomial c.args.corank) c.args.text.now c.in-Some.front.now c.in-Some.behind.now c.in-Some.ensures.some.0 c.in-Some.ensures.some.1
    (c.in-None-read_monomial.ensures.none refl) v ok e

pub returns-in-None-read_u64-clause-none : goal.returns-in-None-read_u64-clause-none
returns-in-None-read_u64-clause-none c _ v ok e = no_second (IsResidual c.args.corank) (λ n. n < 2 ^ 64) monomial_text decimal (word_monomial c.args.corank) c.args.text.now c.in-Some.front.now c.in-Some.behind.now c.in-Some.ensures.some.0 c.in-Some.ensures.some.1
    (c.in-None-read_u64.ensures.none refl) v ok e
