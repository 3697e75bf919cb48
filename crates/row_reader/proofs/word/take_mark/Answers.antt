use Rattle.std.proofs.Common.{refl, sym}
use Rattle.row_reader.specs.Words.{after_space}
use Rattle.row_reader.proofs.WordTexts.{nothing_there, marked, word_is}
use Rattle.row_reader.proofs.word.take_mark.Goals as goal

pub returns-in-None-clause-none : goal.returns-in-None-clause-none
returns-in-None-clause-none c _ y starts e = nothing_there _ _ (c.in-None.ensures.none refl) e

pub returns-then-is_mark-clause-some : goal.returns-then-is_mark-clause-some
returns-then-is_mark-clause-some c = marked (after_space c.args.rest) c.in-Some.word.now c.args.mark.now c.in-Some.behind c.in-Some.ensures.some.0 (c.is_mark.ensures.0 c.if-is_mark.true)

pub returns-else-is_mark-clause-none : goal.returns-else-is_mark-clause-none
returns-else-is_mark-clause-none c _ y starts e =
    let k = word_is (after_space c.args.rest) c.args.mark.now y c.in-Some.word.now c.in-Some.behind c.in-Some.ensures.some.0 c.in-Some.ensures.some.1 c.requires starts e in
    let same = c.is_mark.ensures.1 (sym k.0) in
    let other = c.if-is_mark.false in
    absurd (cc (same, other))
