use Rattle.std.proofs.Common.{◌∙◌, List, [], All, map, length, sym, ap, subst, arith}
use Rattle.std.specs.Prelude.{IfOk}
use Rattle.ring_law.specs.Refusals.{OnFault}
use Rattle.mono_exp.specs.declared.exponent.Exp.{Exp}
use Rattle.mono_exp.specs.Exponents.{IsIn}
use Rattle.jet_law.specs.Terms.{poly_of}
use Rattle.kill_law.specs.Taken.{kill_move}
use Rattle.kill_table.specs.Divisors.{HasNonzeroDivisors}
use Rattle.kill_table.specs.Moves.{IsMoveTo, IsMoveHigh}
use Rattle.kill_table.proofs.Letters.{all-three}
use Rattle.kill_table.proofs.principal.kill_at.Goals as goal

pub move_of-requires-clause-letters : goal.move_of-requires-clause-letters
move_of-requires-clause-letters g c =
    let m = g.F.Ring.meaning c.args.field.now in
    subst (All m.is_elem) (sym (c.deref.ensures.value ∙ c.in_ok-letters.ensures)) (all-three m.is_elem c.args.p.now.a c.args.p.now.b c.args.p.now.c c.requires.a c.requires.b c.requires.c)

pub move_of-requires-clause-three_letters : goal.move_of-requires-clause-three_letters
move_of-requires-clause-three_letters g c = ap length (c.deref.ensures.value ∙ c.in_ok-letters.ensures)

pub move_of-requires-clause-divisors : goal.move_of-requires-clause-divisors
move_of-requires-clause-divisors g c =
    let m = g.F.Ring.meaning c.args.field.now in
    subst (λ (zs : List (g.F.Ring.Value c.args.field.now)). HasNonzeroDivisors m.scalars zs c.args.p.now.part) (sym (ap (map m.value) (c.deref.ensures.value ∙ c.in_ok-letters.ensures))) c.requires.divisors

pub move_of-requires-clause-elems : goal.move_of-requires-clause-elems
move_of-requires-clause-elems g c =
    let m = g.F.Ring.meaning c.args.field.now in
    subst (All (λ (t : Exp × g.row.F-Elem.Denot). m.is_elem t.1)) (sym c.terms.ensures.terms) c.requires.jet.elems

pub move_of-requires-clause-unused : goal.move_of-requires-clause-unused
move_of-requires-clause-unused g c =
    subst (All (λ (t : Exp × g.row.F-Elem.Denot). IsIn c.args.n t.0.e)) (sym c.terms.ensures.terms) (λ k d h i q. c.requires.jet.variables k d h i (let v = c.requires.variables in omega arith))

pub returns-clause-change : goal.returns-clause-change
returns-clause-change g c =
    let m = g.F.Ring.meaning c.args.field.now in
    let n = c.args.n in
    subst (λ (zs : List (g.F.Ring.Value c.args.field.now)). IfOk c.move_of.result (IsMoveTo m n 16 (kill_move n m.scalars zs c.args.p.now.part c.args.grade (poly_of n m.value c.args.g.now.terms)))) (ap (map m.value) (c.deref.ensures.value ∙ c.in_ok-letters.ensures))
    (subst (λ (ts : List (Exp × g.row.F-Elem.Denot)). IfOk c.move_of.result (IsMoveTo m n 16 (kill_move n m.scalars (map m.value c.deref.result.now) c.args.p.now.part c.args.grade (poly_of n m.value ts)))) c.terms.ensures.terms c.move_of.ensures.change)

pub returns-clause-range : goal.returns-clause-range
returns-clause-range g c =
    let m = g.F.Ring.meaning c.args.field.now in
    let n = c.args.n in
    subst (λ (zs : List (g.F.Ring.Value c.args.field.now)). OnFault c.move_of.result (IsMoveHigh m.scalars zs c.args.p.now.part n c.args.grade (poly_of n m.value c.args.g.now.terms))) (ap (map m.value) (c.deref.ensures.value ∙ c.in_ok-letters.ensures))
    (subst (λ (ts : List (Exp × g.row.F-Elem.Denot)). OnFault c.move_of.result (IsMoveHigh m.scalars (map m.value c.deref.result.now) c.args.p.now.part n c.args.grade (poly_of n m.value ts))) c.terms.ensures.terms c.move_of.ensures.range)
