use Rattle.std.proofs.Common.{◌≡◌, ◌∙◌, List, [], All, map, length, sym, ap, subst, arith}
use Rattle.std.specs.Prelude.{IfOk}
use Rattle.ring_law.specs.Refusals.{OnFault}
use Rattle.mono_exp.specs.declared.exponent.Exp.{Exp}
use Rattle.mono_exp.specs.Exponents.{IsIn}
use Rattle.jet_law.specs.Terms.{poly_of}
use Rattle.kill_law.specs.Kill.{letters_of}
use Rattle.kill_law.specs.Taken.{kill_move}
use Rattle.kill_table.specs.Divisors.{HasNonzeroDivisors}
use Rattle.kill_table.specs.Moves.{IsMoveTo, IsMoveHigh}
use Rattle.kill_table.proofs.Letters.{all-three, letters-are}
use Rattle.kill_table.proofs.principal.kill.Goals as goal

pub move_of-requires-clause-letters : goal.move_of-requires-clause-letters
move_of-requires-clause-letters g c =
    let m = g.F.Ring.meaning c.args.field.now in
    subst (All m.is_elem) (sym (c.deref.ensures.value ∙ c.in_ok-letters.ensures)) (all-three m.is_elem c.letter-a.result c.letter-b.result c.letter-c.result c.letter-a.ensures.elem c.letter-b.ensures.elem c.letter-c.ensures.elem)

pub move_of-requires-clause-three_letters : goal.move_of-requires-clause-three_letters
move_of-requires-clause-three_letters g c = ap length (c.deref.ensures.value ∙ c.in_ok-letters.ensures)

pub move_of-requires-clause-divisors : goal.move_of-requires-clause-divisors
move_of-requires-clause-divisors g c =
    let m = g.F.Ring.meaning c.args.field.now in
    let el : map m.value c.deref.result.now ≡ letters_of c.args.g.now.n m.scalars c.args.part (poly_of c.args.g.now.n m.value c.args.g.now.terms) = ap (map m.value) (c.deref.ensures.value ∙ c.in_ok-letters.ensures)
    ∙ letters-are c.args.part c.args.g.now.n m.scalars (poly_of c.args.g.now.n m.value c.args.g.now.terms) (m.value c.letter-a.result) (m.value c.letter-b.result) (m.value c.letter-c.result) c.letter-a.ensures.value c.letter-b.ensures.value c.letter-c.ensures.value in
    subst (λ (zs : List (g.F.Ring.Value c.args.field.now)). HasNonzeroDivisors m.scalars zs c.args.part) (sym el) c.requires.divisors

pub move_of-requires-clause-elems : goal.move_of-requires-clause-elems
move_of-requires-clause-elems g c =
    let m = g.F.Ring.meaning c.args.field.now in
    subst (All (λ (t : Exp × g.row.F-Elem.Denot). m.is_elem t.1)) (sym c.terms.ensures.terms) c.requires.jet.elems

pub move_of-requires-clause-unused : goal.move_of-requires-clause-unused
move_of-requires-clause-unused g c =
    subst (All (λ (t : Exp × g.row.F-Elem.Denot). IsIn c.n.result t.0.e)) (sym c.terms.ensures.terms) (λ k d h i q. c.requires.jet.variables k d h i (let v = c.n.ensures in omega arith))

pub returns-clause-change : goal.returns-clause-change
returns-clause-change g c =
    let m = g.F.Ring.meaning c.args.field.now in
    let el : map m.value c.deref.result.now ≡ letters_of c.args.g.now.n m.scalars c.args.part (poly_of c.args.g.now.n m.value c.args.g.now.terms) = ap (map m.value) (c.deref.ensures.value ∙ c.in_ok-letters.ensures)
    ∙ letters-are c.args.part c.args.g.now.n m.scalars (poly_of c.args.g.now.n m.value c.args.g.now.terms) (m.value c.letter-a.result) (m.value c.letter-b.result) (m.value c.letter-c.result) c.letter-a.ensures.value c.letter-b.ensures.value c.letter-c.ensures.value in
    subst (λ (zs : List (g.F.Ring.Value c.args.field.now)). IfOk c.move_of.result (IsMoveTo m c.args.g.now.n 16 (kill_move c.args.g.now.n m.scalars zs c.args.part c.args.grade (poly_of c.args.g.now.n m.value c.args.g.now.terms)))) el
    (subst (λ (ts : List (Exp × g.row.F-Elem.Denot)). IfOk c.move_of.result (IsMoveTo m c.args.g.now.n 16 (kill_move c.args.g.now.n m.scalars (map m.value c.deref.result.now) c.args.part c.args.grade (poly_of c.args.g.now.n m.value ts)))) c.terms.ensures.terms
    (subst (λ n. IfOk c.move_of.result (IsMoveTo m n 16 (kill_move n m.scalars (map m.value c.deref.result.now) c.args.part c.args.grade (poly_of n m.value c.terms.result.now)))) c.n.ensures c.move_of.ensures.change))

pub returns-clause-range : goal.returns-clause-range
returns-clause-range g c =
    let m = g.F.Ring.meaning c.args.field.now in
    let el : map m.value c.deref.result.now ≡ letters_of c.args.g.now.n m.scalars c.args.part (poly_of c.args.g.now.n m.value c.args.g.now.terms) = ap (map m.value) (c.deref.ensures.value ∙ c.in_ok-letters.ensures)
    ∙ letters-are c.args.part c.args.g.now.n m.scalars (poly_of c.args.g.now.n m.value c.args.g.now.terms) (m.value c.letter-a.result) (m.value c.letter-b.result) (m.value c.letter-c.result) c.letter-a.ensures.value c.letter-b.ensures.value c.letter-c.ensures.value in
    subst (λ (zs : List (g.F.Ring.Value c.args.field.now)). OnFault c.move_of.result (IsMoveHigh m.scalars zs c.args.part c.args.g.now.n c.args.grade (poly_of c.args.g.now.n m.value c.args.g.now.terms))) el
    (subst (λ (ts : List (Exp × g.row.F-Elem.Denot)). OnFault c.move_of.result (IsMoveHigh m.scalars (map m.value c.deref.result.now) c.args.part c.args.g.now.n c.args.grade (poly_of c.args.g.now.n m.value ts))) c.terms.ensures.terms
    (subst (λ n. OnFault c.move_of.result (IsMoveHigh m.scalars (map m.value c.deref.result.now) c.args.part n c.args.grade (poly_of n m.value c.terms.result.now))) c.n.ensures c.move_of.ensures.range))
