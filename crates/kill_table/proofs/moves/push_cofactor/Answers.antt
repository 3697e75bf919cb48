use Rattle.std.proofs.Common.{[], ◌∷◌, ◌++◌, map, flat_map, refl, sym, subst, arith}
use Rattle.std.specs.Prelude.{OnOk, Contains}
use Rattle.ring_law.specs.Refusals.{OnFault}
use Rattle.ring_law.proofs.Exits.{fault_handed_on, faulted_by}
use Rattle.jet_law.specs.Heights.{IsHigh}
use Rattle.jet_law.proofs.High.{high_left, high_right}
use Rattle.kill_law.specs.Kill.{entries_in}
use Rattle.kill_law.specs.Taken.{multiplied_heights}
use Rattle.kill_table.specs.Steps.{Takes}
use Rattle.kill_table.proofs.Leaving.{on_ok}
use Rattle.kill_table.proofs.Killed.{takes-none, takes-both}
use Rattle.kill_table.proofs.moves.push_cofactor.Goals as goal

pub returns-in-Zero-clause-taken : goal.returns-in-Zero-clause-taken
returns-in-Zero-clause-taken g c =
    let m = g.F.Ring.meaning c.args.field.now in
    subst (λ k. Takes m (map m.value c.args.letters.now) c.args.step (entries_in k) c.args.all.now.items c.args.all.now.items) (sym c.in-Zero.is)
    (takes-none m (map m.value c.args.letters.now) c.args.step c.args.all.now.items)

pub returns-in_err-push_entry-in-Two-clause-range : goal.returns-in_err-push_entry-in-Two-clause-range
returns-in_err-push_entry-in-Two-clause-range g c =
    let m = g.F.Ring.meaning c.args.field.now in
    let mh = multiplied_heights m.scalars (map m.value c.args.letters.now) (m.value c.args.step.coefficient) in
    fault_handed_on _ c.from_residual.ensures.1
    (λ high. subst (λ k. IsHigh (flat_map mh (entries_in k))) (sym c.in-Two.is) (high_left (mh c.in-Two.e) (mh c.in-Two.f ++ []) high))
    c.in_err-push_entry-in-Two.ensures.range

pub push_entry-requires-in-Two-2-clause-nonzero : goal.push_entry-requires-in-Two-2-clause-nonzero
push_entry-requires-in-Two-2-clause-nonzero g c =
    c.requires.nonzero c.in-Two.f (subst (λ k. Contains (entries_in k) c.in-Two.f) (sym c.in-Two.is) (1, omega arith, refl))

pub push_entry-requires-in-Two-2-clause-fits : goal.push_entry-requires-in-Two-2-clause-fits
push_entry-requires-in-Two-2-clause-fits g c =
    c.requires.fits c.in-Two.f (subst (λ k. Contains (entries_in k) c.in-Two.f) (sym c.in-Two.is) (1, omega arith, refl))

pub returns-in_ok-push_entry-in-Two-clause-taken : goal.returns-in_ok-push_entry-in-Two-clause-taken
returns-in_ok-push_entry-in-Two-clause-taken g c =
    let m = g.F.Ring.meaning c.args.field.now in
    let letters = map m.value c.args.letters.now in
    subst (λ k. OnOk c.push_entry-in-Two-2.result (Takes m letters c.args.step (entries_in k) c.args.all.now.items c.push_entry-in-Two-2.new.all.items)) (sym c.in-Two.is)
    (on_ok c.push_entry-in-Two-2.result (takes-both m letters c.args.step (c.in-Two.e ∷ []) (c.in-Two.f ∷ []) c.args.all.now.items c.push_entry-in-Two.new.all.items c.push_entry-in-Two-2.new.all.items c.in_ok-push_entry-in-Two.ensures.taken)
    c.push_entry-in-Two-2.ensures.taken)

pub returns-in_ok-push_entry-in-Two-clause-range : goal.returns-in_ok-push_entry-in-Two-clause-range
returns-in_ok-push_entry-in-Two-clause-range g c =
    let m = g.F.Ring.meaning c.args.field.now in
    let mh = multiplied_heights m.scalars (map m.value c.args.letters.now) (m.value c.args.step.coefficient) in
    subst (λ k. OnFault c.push_entry-in-Two-2.result (IsHigh (flat_map mh (entries_in k)))) (sym c.in-Two.is)
    (faulted_by (λ high. high_right (mh c.in-Two.e) (mh c.in-Two.f ++ []) (high_left (mh c.in-Two.f) [] high)) c.push_entry-in-Two-2.ensures.range)
