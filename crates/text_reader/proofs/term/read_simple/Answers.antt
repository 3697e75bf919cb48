use Rattle.std.proofs.Common.{refl}
use Rattle.text_reader.proofs.TermTexts.{variable_there, simple_split, simple_front, simple_read, variable_letters}
use Rattle.text_reader.proofs.term.read_simple.Goals as goal

pub returns-in-None-clause-none : goal.returns-in-None-clause-none
returns-in-None-clause-none c _ t s e = variable_there t s c.args.sign c.args.magnitude.now e (c.in-None.ensures.none refl)

pub returns-in-None-read_single-clause-none : goal.returns-in-None-read_single-clause-none
returns-in-None-read_single-clause-none c _ t s e =
    let p = c.in-Some.ensures.some in
    let there = simple_split t s c.args.sign c.args.magnitude.now c.in-Some.front.now c.in-Some.factors.now e p.0 p.1 p.2 in
    c.in-None-read_single.ensures.none refl t.1 c.in-Some.factors.now s.fractions s.single (variable_letters c.in-Some.factors.now p.1)
    (simple_front t s c.args.sign c.args.magnitude.now c.in-Some.front.now c.in-Some.factors.now e p.0 there)

pub returns-in-None-read_factors-clause-none : goal.returns-in-None-read_factors-clause-none
returns-in-None-read_factors-clause-none c _ t s e =
    let p = c.in-Some.ensures.some in
    let there = simple_split t s c.args.sign c.args.magnitude.now c.in-Some.front.now c.in-Some.factors.now e p.0 p.1 p.2 in
    c.in-None-read_factors.ensures.none refl t.0 s.monomial there

pub returns-in-Some-read_factors-clause-some : goal.returns-in-Some-read_factors-clause-some
returns-in-Some-read_factors-clause-some c =
    let p = c.in-Some.ensures.some in
    let single = c.in-Some-read_single.ensures.some in
    simple_read c.in-Some-read_single.e c.in-Some-read_factors.m c.args.sign c.args.magnitude.now c.in-Some.front.now c.in-Some.factors.now single.0 single.1
    (single.2 c.in-Some.factors.now (variable_letters c.in-Some.factors.now p.1)) p.0 c.in-Some-read_factors.ensures.some
