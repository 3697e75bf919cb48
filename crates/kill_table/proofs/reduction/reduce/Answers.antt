use Rattle.std.proofs.Common.{◌≡◌, ◌+◌, ◌*◌, ◌<◌, List, [], All, map, length, sym, ap, subst, arith}
use Rattle.std.specs.Prelude.{None}
use Rattle.ring_law.proofs.Exits.{fault_handed_on}
use Rattle.mono_exp.specs.declared.exponent.Exp.{Exp}
use Rattle.mono_exp.specs.Exponents.{IsIn}
use Rattle.jet_law.specs.Terms.{exp_of, poly_of}
use Rattle.kill_law.specs.declared.lead.Lead.{Lead}
use Rattle.kill_law.specs.Table.{row}
use Rattle.kill_law.specs.Kill.{first_lead}
use Rattle.kill_table.specs.Terms.{IsOfGrade}
use Rattle.kill_table.specs.Steps.{IsFirstStep}
use Rattle.kill_table.proofs.Table.{more-in, leads-in, tail-among}
use Rattle.kill_table.proofs.Steps.{IsReducing, begins, reduces, finishes-early, finishes-late, leaving-high, found-ready, graded_terms, all-each}
use Rattle.kill_table.proofs.reduction.reduce.Goals as goal

pub loop-round-init : goal.loop-round-init
loop-round-init g c =
    let m = g.F.Ring.meaning c.args.field.now in
    begins m (map m.value c.args.letters.now) c.args.part c.args.n c.args.grade c.requires.of_part c.args.terms.now c.in_ok-left.left.items c.new-steps.result.items c.in_ok-left.ensures.terms c.requires.elems c.in_ok-left.ensures.long c.new-steps.ensures.items

pub first_step-requires-clause-within : goal.first_step-requires-clause-within
first_step-requires-clause-within g c =
    subst (All (λ (l : Lead). IsIn c.args.n l.monomial)) (sym c.leads-leads.ensures) (leads-in c.args.part c.args.n c.requires.of_part)

pub first_step-requires-clause-unused : goal.first_step-requires-clause-unused
first_step-requires-clause-unused g c =
    let m = g.F.Ring.meaning c.args.field.now in
    subst (All (λ (t : Exp × g.row.F-Elem.Denot). IsIn c.args.n t.0.e)) (sym c.deref.ensures.value)
    (all-each (IsOfGrade m (row c.args.part).weights c.args.grade) (λ (t : Exp × g.row.F-Elem.Denot). IsIn c.args.n t.0.e) (λ t i. more-in (length (row c.args.part).weights) c.args.n t.0.e c.requires.of_part i.variables) c.loop-round.left.items c.loop-round.invariant.graded)

pub take_step-requires-clause-inside : goal.take_step-requires-clause-inside
take_step-requires-clause-inside g c =
    let m = g.F.Ring.meaning c.args.field.now in
    let letters = map m.value c.args.letters.now in
    let h = c.loop-round.left.items in
    let first : IsFirstStep c.args.n (row c.args.part).leads h c.in-Some.found = subst (λ (ls : List Lead). IsFirstStep c.args.n ls h c.in-Some.found) c.leads-leads.ensures
    (subst (λ (hs : List (Exp × g.row.F-Elem.Denot)). IsFirstStep c.args.n c.leads-leads.result.now hs c.in-Some.found) c.deref.ensures.value c.in-Some.ensures) in
    first.inside

pub take_step-requires-clause-elems : goal.take_step-requires-clause-elems
take_step-requires-clause-elems g c =
    let m = g.F.Ring.meaning c.args.field.now in
    let letters = map m.value c.args.letters.now in
    let h = c.loop-round.left.items in
    all-each (IsOfGrade m (row c.args.part).weights c.args.grade) (λ (t : Exp × g.row.F-Elem.Denot). m.is_elem t.1) (λ t i. i.elem) h c.loop-round.invariant.graded

pub take_step-requires-clause-elem : goal.take_step-requires-clause-elem
take_step-requires-clause-elem g c =
    let m = g.F.Ring.meaning c.args.field.now in
    let letters = map m.value c.args.letters.now in
    let h = c.loop-round.left.items in
    let first : IsFirstStep c.args.n (row c.args.part).leads h c.in-Some.found = subst (λ (ls : List Lead). IsFirstStep c.args.n ls h c.in-Some.found) c.leads-leads.ensures
    (subst (λ (hs : List (Exp × g.row.F-Elem.Denot)). IsFirstStep c.args.n c.leads-leads.result.now hs c.in-Some.found) c.deref.ensures.value c.in-Some.ensures) in
    let ready = found-ready m letters c.args.part c.args.n c.args.grade c.requires.of_part h c.in-Some.found (omega arith) c.requires.divisors c.loop-round.invariant.graded first in
    ready.elem

pub take_step-requires-clause-nonzero : goal.take_step-requires-clause-nonzero
take_step-requires-clause-nonzero g c =
    let m = g.F.Ring.meaning c.args.field.now in
    let letters = map m.value c.args.letters.now in
    let h = c.loop-round.left.items in
    let first : IsFirstStep c.args.n (row c.args.part).leads h c.in-Some.found = subst (λ (ls : List Lead). IsFirstStep c.args.n ls h c.in-Some.found) c.leads-leads.ensures
    (subst (λ (hs : List (Exp × g.row.F-Elem.Denot)). IsFirstStep c.args.n c.leads-leads.result.now hs c.in-Some.found) c.deref.ensures.value c.in-Some.ensures) in
    let ready = found-ready m letters c.args.part c.args.n c.args.grade c.requires.of_part h c.in-Some.found (omega arith) c.requires.divisors c.loop-round.invariant.graded first in
    λ e k. ready.divisors e (tail-among c.in-Some.found.1.lead e k)

pub take_step-requires-clause-fits : goal.take_step-requires-clause-fits
take_step-requires-clause-fits g c =
    let m = g.F.Ring.meaning c.args.field.now in
    let letters = map m.value c.args.letters.now in
    let h = c.loop-round.left.items in
    let first : IsFirstStep c.args.n (row c.args.part).leads h c.in-Some.found = subst (λ (ls : List Lead). IsFirstStep c.args.n ls h c.in-Some.found) c.leads-leads.ensures
    (subst (λ (hs : List (Exp × g.row.F-Elem.Denot)). IsFirstStep c.args.n c.leads-leads.result.now hs c.in-Some.found) c.deref.ensures.value c.in-Some.ensures) in
    let ready = found-ready m letters c.args.part c.args.n c.args.grade c.requires.of_part h c.in-Some.found (omega arith) c.requires.divisors c.loop-round.invariant.graded first in
    λ e k. ready.fits e (tail-among c.in-Some.found.1.lead e k)

pub returns-in_err-take_step-in-Some-clause-range : goal.returns-in_err-take_step-in-Some-clause-range
returns-in_err-take_step-in-Some-clause-range g c =
    let m = g.F.Ring.meaning c.args.field.now in
    let letters = map m.value c.args.letters.now in
    let h = c.loop-round.left.items in
    let first : IsFirstStep c.args.n (row c.args.part).leads h c.in-Some.found = subst (λ (ls : List Lead). IsFirstStep c.args.n ls h c.in-Some.found) c.leads-leads.ensures
    (subst (λ (hs : List (Exp × g.row.F-Elem.Denot)). IsFirstStep c.args.n c.leads-leads.result.now hs c.in-Some.found) c.deref.ensures.value c.in-Some.ensures) in
    let less : c.loop-round._round < 3 * length (graded_terms m letters c.args.part c.args.n c.args.grade c.requires.of_part c.args.terms.now) = let t = c.loop-round-test.true in let e = ap length c.in_ok-left.ensures.terms in let size = c.len-count.ensures in let whole = c.in_ok-left.left.ok.0 in omega arith in
    fault_handed_on _ c.from_residual-in_err-take_step-in-Some.ensures.1 (λ high. leaving-high m letters c.args.part c.args.n c.args.grade c.requires.of_part c.args.terms.now c.requires.unused c.loop-round._round h c.loop-round.steps.items c.in-Some.found less c.loop-round.invariant first high) c.in_err-take_step-in-Some.ensures.range

pub loop-round-preserved : goal.loop-round-preserved
loop-round-preserved g c =
    let m = g.F.Ring.meaning c.args.field.now in
    let letters = map m.value c.args.letters.now in
    let h = c.loop-round.left.items in
    let first : IsFirstStep c.args.n (row c.args.part).leads h c.in-Some.found = subst (λ (ls : List Lead). IsFirstStep c.args.n ls h c.in-Some.found) c.leads-leads.ensures
    (subst (λ (hs : List (Exp × g.row.F-Elem.Denot)). IsFirstStep c.args.n c.leads-leads.result.now hs c.in-Some.found) c.deref.ensures.value c.in-Some.ensures) in
    let less : c.loop-round._round < 3 * length (graded_terms m letters c.args.part c.args.n c.args.grade c.requires.of_part c.args.terms.now) = let t = c.loop-round-test.true in let e = ap length c.in_ok-left.ensures.terms in let size = c.len-count.ensures in let whole = c.in_ok-left.left.ok.0 in omega arith in
    subst (IsReducing m letters c.args.part c.args.n c.args.grade (poly_of c.args.n m.value (graded_terms m letters c.args.part c.args.n c.args.grade c.requires.of_part c.args.terms.now)) (3 * length (graded_terms m letters c.args.part c.args.n c.args.grade c.requires.of_part c.args.terms.now)) (c.loop-round._round + 1) c.take_step.new.terms.items) (sym c.in_ok-push-in-Some.ensures.items)
    (reduces m letters c.args.part c.args.n c.args.grade c.requires.of_part (poly_of c.args.n m.value (graded_terms m letters c.args.part c.args.n c.args.grade c.requires.of_part c.args.terms.now)) (3 * length (graded_terms m letters c.args.part c.args.n c.args.grade c.requires.of_part c.args.terms.now)) c.loop-round._round h c.take_step.new.terms.items c.loop-round.steps.items c.in-Some.found (omega arith) c.requires.divisors less
    c.loop-round.invariant first c.in_ok-take_step-in-Some.ensures.left)

pub returns-in-None-clause-steps : goal.returns-in-None-clause-steps
returns-in-None-clause-steps g c =
    let m = g.F.Ring.meaning c.args.field.now in
    let letters = map m.value c.args.letters.now in
    let h = c.loop-round.left.items in
    finishes-early m letters c.args.part c.args.n c.args.grade c.requires.of_part c.args.terms.now c.requires.unused c.loop-round._round h c.loop-round.steps.items c.loop-round.invariant
    (subst (λ (ls : List Lead). All (λ (t : Exp × g.row.F-Elem.Denot). first_lead c.args.n ls (exp_of c.args.n t.0) ≡ None) h) c.leads-leads.ensures
    (subst (All (λ (t : Exp × g.row.F-Elem.Denot). first_lead c.args.n c.leads-leads.result.now (exp_of c.args.n t.0) ≡ None)) c.deref.ensures.value c.in-None.ensures))

pub returns-clause-steps : goal.returns-clause-steps
returns-clause-steps g c =
    let m = g.F.Ring.meaning c.args.field.now in
    let letters = map m.value c.args.letters.now in
    let h = c.loop-round.left.items in
    finishes-late m letters c.args.part c.args.n c.args.grade c.requires.of_part c.args.terms.now c.requires.unused c.loop-round._round (let t = c.loop-round-test.false in let end = c.loop-round.auto._round-end in let e = ap length c.in_ok-left.ensures.terms in let size = c.len-count.ensures in let whole = c.in_ok-left.left.ok.0 in omega arith) h c.loop-round.steps.items c.loop-round.invariant
