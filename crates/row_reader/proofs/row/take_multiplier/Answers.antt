use Rattle.std.proofs.Common.{◌++◌, ◌∷◌, refl}
use Rattle.row_reader.specs.Words.{after_space}
use Rattle.row_reader.proofs.RowTexts.{first_some, first_none, later_some, later_text, later_none}
use Rattle.row_reader.proofs.row.take_multiplier.Goals as goal

pub returns-then-i-eq0-clause-some : goal.returns-then-i-eq0-clause-some
returns-then-i-eq0-clause-some c = first_some c.args.i (after_space c.args.rest) c.take_word.result c.if-i-eq0.true c.take_word.ensures.some

pub returns-then-i-eq0-clause-none : goal.returns-then-i-eq0-clause-none
returns-then-i-eq0-clause-none c none x y hx ry e = first_none c.args.i (after_space c.args.rest) (x ++ y) c.if-i-eq0.true (c.take_word.ensures.none none) e

pub returns-in-None-clause-none : goal.returns-in-None-clause-none
returns-in-None-clause-none c _ x y hx ry e = c.in-None.ensures.none refl (32 ∷ (x ++ y)) refl (later_text c.args.i (after_space c.args.rest) (x ++ y) c.if-i-eq0.false e)

pub returns-in-Some-clause-some : goal.returns-in-Some-clause-some
returns-in-Some-clause-some c = later_some c.args.i (after_space c.args.rest) c.in-Some.behind c.take_word-in-Some.result c.if-i-eq0.false c.in-Some.ensures.some c.take_word-in-Some.ensures.some

pub returns-in-Some-clause-none : goal.returns-in-Some-clause-none
returns-in-Some-clause-none c none x y hx ry e = later_none c.args.i (after_space c.args.rest) (x ++ y) c.in-Some.behind c.if-i-eq0.false c.in-Some.ensures.some (c.take_word-in-Some.ensures.none none) e
