use Rattle.std.proofs.Common.{refl, sym, ◌∙◌, subst}
use Rattle.text_reader.specs.Terms.{IsLong}
use Rattle.text_reader.proofs.TermTexts.{bracket_cut, bracket_there}
use Rattle.text_reader.proofs.ElementTexts.{element_same}
use Rattle.text_reader.proofs.term.take_bracket.Goals as goal

pub returns-in-None-clause-none : goal.returns-in-None-clause-none
returns-in-None-clause-none c _ e rest ok long h = bracket_there e c.args.bytes.now rest (c.in-None.ensures.none refl) h

pub returns-in-None-read_components-clause-none : goal.returns-in-None-read_components-clause-none
returns-in-None-read_components-clause-none c _ e rest ok long h =
    let p = c.in-Some.ensures.some in
    c.in-None-read_components.ensures.none refl e ok (bracket_cut e c.args.bytes.now c.in-Some.inside.now c.in-Some.behind.now rest ok p.0 p.1 h)

pub returns-else-is_long-clause-none : goal.returns-else-is_long-clause-none
returns-else-is_long-clause-none c _ e rest ok long h =
    let p = c.in-Some.ensures.some in
    let is = c.in-Some-read_components.ensures.some in
    let same = element_same e c.in-Some-read_components.e ok is.0 (bracket_cut e c.args.bytes.now c.in-Some.inside.now c.in-Some.behind.now rest ok p.0 p.1 h ∙ sym is.1) in
    let yes = c.is_long.ensures.1 (subst IsLong same long) in
    let no = c.if-is_long.false in
    absurd (cc (yes, no))
