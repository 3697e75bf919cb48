use Rattle.std.proofs.Common.{refl}
use Rattle.text_reader.proofs.PieceTexts.{is_empty_of, not_empty_of}
use Rattle.text_reader.proofs.TermTexts.{front_ends, front_sign, no_unit, unit_read, written_front_all, written_there}
use Rattle.text_reader.proofs.term.read_single.Goals as goal

pub returns-in-None-clause-none : goal.returns-in-None-clause-none
returns-in-None-clause-none c _ e factors ok single h text = no_unit c.args.sign (front_sign e c.args.sign c.args.front.now factors ok single h text) (c.in-None.ensures.none refl)

pub returns-in-Some-clause-some : goal.returns-in-Some-clause-some
returns-in-Some-clause-some c =
    let q = c.in-Some.ensures.some in
    unit_read c.in-Some.q c.rational.result c.args.sign c.args.front.now c.rational.ensures q.0 q.1 (is_empty_of c.args.front.now c.is_empty.result c.is_empty.ensures c.if-is_empty.true)

pub returns-in-None-strip_end-clause-none : goal.returns-in-None-strip_end-clause-none
returns-in-None-strip_end-clause-none c _ e factors ok single h text =
    let s = front_ends e c.args.sign c.args.front.now factors ok single h (not_empty_of c.args.front.now c.is_empty.result c.is_empty.ensures c.if-is_empty.false) text in
    c.in-None-strip_end.ensures.none refl s.0 s.1.ends

pub returns-in-Some-strip_end-clause-some : goal.returns-in-Some-strip_end-clause-some
returns-in-Some-strip_end-clause-some c = written_front_all c.args.sign c.args.front.now c.in-Some-strip_end.magnitude.now c.read_written.result c.in-Some-strip_end.ensures.some c.read_written.ensures.some

pub returns-in-Some-strip_end-clause-none : goal.returns-in-Some-strip_end-clause-none
returns-in-Some-strip_end-clause-none c none e factors ok single h text =
    let s = front_ends e c.args.sign c.args.front.now factors ok single h (not_empty_of c.args.front.now c.is_empty.result c.is_empty.ensures c.if-is_empty.false) text in
    c.read_written.ensures.none none e ok s.1.written (written_there e c.args.sign c.args.front.now s.0 c.in-Some-strip_end.magnitude.now s.1 c.in-Some-strip_end.ensures.some)
