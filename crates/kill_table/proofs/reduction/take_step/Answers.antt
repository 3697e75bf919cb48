use Rattle.std.proofs.Common.{List, map, subst, ◌∙◌}
use Rattle.ring_law.proofs.Exits.{faulted, faulted_by}
use Rattle.mono_exp.specs.declared.exponent.Exp.{Exp}
use Rattle.kill_table.specs.Terms.{IsAdded, IsAddingHigh}
use Rattle.kill_table.specs.Steps.{without}
use Rattle.kill_table.proofs.Putting.{remove-parts}
use Rattle.kill_table.proofs.Leaving.{in-tail, left-none, left-some, product-high, sum-high, on_ok}
use Rattle.kill_table.proofs.reduction.take_step.Goals as goal

pub term_of-requires-clause-nonzero : goal.term_of-requires-clause-nonzero
term_of-requires-clause-nonzero g c = c.requires.nonzero c.in-Some.entry (in-tail c.args.step.lead c.in-Some.entry c.in-Some.is)

pub term_of-requires-clause-fits : goal.term_of-requires-clause-fits
term_of-requires-clause-fits g c = c.requires.fits c.in-Some.entry (in-tail c.args.step.lead c.in-Some.entry c.in-Some.is)

pub returns-in-None-clause-left : goal.returns-in-None-clause-left
returns-in-None-clause-left g c =
    let m = g.F.Ring.meaning c.args.field.now in
    left-none m (map m.value c.args.letters.now) c.args.step (without c.args.place c.args.terms.now.items) c.remove.new.self.items c.in-None.is (c.remove.ensures.items ∙ remove-parts c.args.terms.now.items c.args.place)

pub returns-in_err-t-in-Some-clause-range : goal.returns-in_err-t-in-Some-clause-range
returns-in_err-t-in-Some-clause-range g c =
    let m = g.F.Ring.meaning c.args.field.now in
    faulted _ c.from_residual.ensures.1
    (λ high. product-high m (map m.value c.args.letters.now) c.args.step c.in-Some.entry c.in-Some.is (without c.args.place c.args.terms.now.items) high)
    c.in_err-t-in-Some.ensures.range

pub returns-in_ok-t-in-Some-clause-left : goal.returns-in_ok-t-in-Some-clause-left
returns-in_ok-t-in-Some-clause-left g c =
    let m = g.F.Ring.meaning c.args.field.now in
    on_ok c.add_term.result
    (λ added. left-some m (map m.value c.args.letters.now) c.args.step c.in-Some.entry c.in_ok-t-in-Some.t c.in_ok-t-in-Some.ensures.term c.in-Some.is (without c.args.place c.args.terms.now.items) c.add_term.new.terms.items
    (subst (λ (z : List (Exp × g.row.F-Elem.Denot)). IsAdded m c.in_ok-t-in-Some.t z c.add_term.new.terms.items) (c.remove.ensures.items ∙ remove-parts c.args.terms.now.items c.args.place) added))
    c.add_term.ensures.added

pub returns-in_ok-t-in-Some-clause-range : goal.returns-in_ok-t-in-Some-clause-range
returns-in_ok-t-in-Some-clause-range g c =
    let m = g.F.Ring.meaning c.args.field.now in
    faulted_by
    (λ high. sum-high m (map m.value c.args.letters.now) c.args.step c.in-Some.entry c.in_ok-t-in-Some.t c.in_ok-t-in-Some.ensures.term c.in-Some.is (without c.args.place c.args.terms.now.items)
    (subst (λ (z : List (Exp × g.row.F-Elem.Denot)). IsAddingHigh m c.in_ok-t-in-Some.t z) (c.remove.ensures.items ∙ remove-parts c.args.terms.now.items c.args.place) high))
    c.add_term.ensures.range
