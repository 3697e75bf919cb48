use Rattle.std.proofs.Common.{refl}
use Rattle.text_reader.proofs.PieceTexts.{is_empty_of, not_empty_of}
use Rattle.text_reader.proofs.TermTexts.{letters_written, unit_written}
use Rattle.text_reader.proofs.term.is_written.Goals as goal

pub returns-in-None : goal.returns-in-None
returns-in-None c = (λ h. absurd cc, λ w. absurd (c.in-None.ensures.none refl w.piece w.only))

pub returns-then-is_empty : goal.returns-then-is_empty
returns-then-is_empty c =
    unit_written c.args.e c.in-Some.q c.in-Some.letters.now c.is_unit.result c.in-Some.ensures.some (is_empty_of c.in-Some.letters.now c.is_empty.result c.is_empty.ensures c.if-is_empty.true) c.is_unit.ensures

pub returns-else-is_empty : goal.returns-else-is_empty
returns-else-is_empty c =
    (λ h. letters_written c.args.e c.in-Some.q c.in-Some.letters.now c.in-Some.ensures.some (not_empty_of c.in-Some.letters.now c.is_empty.result c.is_empty.ensures c.if-is_empty.false), λ w. refl)
