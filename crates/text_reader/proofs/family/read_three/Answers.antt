use Rattle.std.proofs.Common.{refl, sym, ◌∙◌}
use Rattle.text_reader.proofs.FamilyNames.{behind_first, comma_one}
use Rattle.text_reader.proofs.family.read_three.Goals as goal

pub returns-in_err-q-clause-none : goal.returns-in_err-q-clause-none
returns-in_err-q-clause-none c _ t small e =
    let p = c.in_ok-p.ensures.some in
    c.in_err-q.ensures.none refl t.1 _ small.1 (behind_first t c.in_ok-p.p c.in_ok-p.rest.now c.args.bytes.now small p.0 p.1 e).1

pub returns-in_err-r-clause-none : goal.returns-in_err-r-clause-none
returns-in_err-r-clause-none c _ t small e =
    let p = c.in_ok-p.ensures.some in
    let first = behind_first t c.in_ok-p.p c.in_ok-p.rest.now c.args.bytes.now small p.0 p.1 e in
    let q = c.in_ok-q.ensures.some in
    c.in_err-r.ensures.none refl t.2 small.2 (comma_one t.1 c.in_ok-q.q _ c.in_ok-q.rest.now small.1 q.0 (first.1 ∙ sym q.1)).1
