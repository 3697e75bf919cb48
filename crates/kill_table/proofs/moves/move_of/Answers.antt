use Rattle.std.proofs.Common.{◌≡◌, ◌+◌, ◌∙◌, inl, List, All, map, sym, subst, arith}
use Rattle.std.specs.List.{AllByRecursion}
use Rattle.ring_law.specs.Refusals.{FaultBy}
use Rattle.ring_law.proofs.Exits.{fault_handed_on}
use Rattle.poly_law.specs.Polynomials.{HaveNoConstant}
use Rattle.mono_exp.specs.Exponents.{numbers_below}
use Rattle.jet_law.specs.Terms.{poly_of}
use Rattle.jet_poly.specs.JetTerms.{JetTerms}
use Rattle.jet_subst.specs.Parts.{IsPart, part_of}
use Rattle.coord_change.specs.Errors.{KernelBy}
use Rattle.coord_change.specs.Inverses.{InverseIsHigh}
use Rattle.coord_change.specs.Linear.{linear_part_of, order_of}
use Rattle.kill_law.specs.Table.{row}
use Rattle.kill_table.specs.declared.reduction.Step.{Step}
use Rattle.kill_table.specs.Moves.{IsPutFor, IsMoveHigh}
use Rattle.kill_table.specs.Steps.{IsReady, IsPuttingHigh, put_by}
use Rattle.kill_table.proofs.Table.{given}
use Rattle.kill_table.proofs.Killed.{ArePutFor, are-more, order-is, fault-by}
use Rattle.kill_table.proofs.Killed as moves
use Rattle.kill_table.proofs.moves.move_of.Goals as goal

pub returns-in_err-steps-clause-range : goal.returns-in_err-steps-clause-range
returns-in_err-steps-clause-range g c = fault_handed_on _ c.from_residual.ensures.1 (λ high. inl (inl high)) c.in_err-steps.ensures.range

pub put-requires-clause-ready : goal.put-requires-clause-ready
put-requires-clause-ready g c =
    let m = g.F.Ring.meaning c.args.field.now in
    subst (AllByRecursion (IsReady m (map m.value c.args.letters.now) c.args.n)) (sym c.deref.ensures.value) c.in_ok-steps.ensures.steps.ready

pub returns-in_err-part-clause-range : goal.returns-in_err-part-clause-range
returns-in_err-part-clause-range g c =
    let m = g.F.Ring.meaning c.args.field.now in
    let letters = map m.value c.args.letters.now in
    fault_handed_on _ c.from_residual-in_err-part.ensures.1
    (λ high. moves.putting-high m (g.met.F.Ring.laws c.args.field.now c.requires.ring).numbers letters c.args.part c.args.n c.args.grade c.requires.of_part c.requires.above (poly_of c.args.n m.value c.args.terms.now) c.in_ok-steps.steps.items c.in_ok-steps.ensures.steps
    c.loop-i.i c.loop-i-test.true (subst (λ (us : List (Step g.row.F-Elem.Denot)). IsPuttingHigh m letters c.args.n us c.loop-i.i) c.deref.ensures.value high))
    c.in_err-part.ensures.range

pub loop-i-preserved : goal.loop-i-preserved
loop-i-preserved g c =
    let m = g.F.Ring.meaning c.args.field.now in
    let n = c.args.n in
    let put = put_by m (map m.value c.args.letters.now) n in
    subst (ArePutFor m n 16 (map (put c.in_ok-steps.steps.items) (numbers_below (c.loop-i.i + 1)))) (sym c.in_ok-push.ensures.items)
    (are-more m n 16 (put c.in_ok-steps.steps.items) c.loop-i.i c.loop-i.parts.items c.in_ok-part.part c.loop-i.invariant
    (subst (λ (us : List (Step g.row.F-Elem.Denot)). IsPutFor m n 16 (put us c.loop-i.i) c.in_ok-part.part) c.deref.ensures.value c.in_ok-part.ensures.part))

pub from_parts-requires-clause-given : goal.from_parts-requires-clause-given
from_parts-requires-clause-given g c =
    let m = g.F.Ring.meaning c.args.field.now in
    let laws = (g.met.F.Ring.laws c.args.field.now c.requires.ring).numbers in
    let n = c.args.n in
    let letters = map m.value c.args.letters.now in
    let last = c.loop-i-test.false in
    let end = c.loop-i.auto.i-end in
    let steps = c.in_ok-steps.steps.items in
    let P = c.deref-2.result.now in
    let are : ArePutFor m n 16 (map (put_by m letters n steps) (numbers_below n)) P = subst (λ (zs : List (JetTerms g.row.F-Elem.Denot)). ArePutFor m n 16 (map (put_by m letters n steps) (numbers_below n)) zs) (sym c.deref-2.ensures.value)
    (subst (λ k. ArePutFor m n 16 (map (put_by m letters n steps) (numbers_below k)) c.loop-i.parts.items) (let e : c.loop-i.i ≡ n = omega arith in e) c.loop-i.invariant) in
    let size = moves.count m laws letters c.args.part n c.args.grade c.requires.of_part c.requires.above (poly_of n m.value c.args.terms.now) steps c.in_ok-steps.ensures.steps P are in
    let some = given c.args.part in
    let of_part = c.requires.of_part in
    omega arith

pub from_parts-requires-clause-at_most_8_parts : goal.from_parts-requires-clause-at_most_8_parts
from_parts-requires-clause-at_most_8_parts g c =
    let m = g.F.Ring.meaning c.args.field.now in
    let laws = (g.met.F.Ring.laws c.args.field.now c.requires.ring).numbers in
    let n = c.args.n in
    let letters = map m.value c.args.letters.now in
    let last = c.loop-i-test.false in
    let end = c.loop-i.auto.i-end in
    let steps = c.in_ok-steps.steps.items in
    let P = c.deref-2.result.now in
    let are : ArePutFor m n 16 (map (put_by m letters n steps) (numbers_below n)) P = subst (λ (zs : List (JetTerms g.row.F-Elem.Denot)). ArePutFor m n 16 (map (put_by m letters n steps) (numbers_below n)) zs) (sym c.deref-2.ensures.value)
    (subst (λ k. ArePutFor m n 16 (map (put_by m letters n steps) (numbers_below k)) c.loop-i.parts.items) (let e : c.loop-i.i ≡ n = omega arith in e) c.loop-i.invariant) in
    let size = moves.count m laws letters c.args.part n c.args.grade c.requires.of_part c.requires.above (poly_of n m.value c.args.terms.now) steps c.in_ok-steps.ensures.steps P are in
    (let few = c.requires.at_most_8_variables in omega arith)

pub from_parts-requires-clause-parts : goal.from_parts-requires-clause-parts
from_parts-requires-clause-parts g c =
    let m = g.F.Ring.meaning c.args.field.now in
    let laws = (g.met.F.Ring.laws c.args.field.now c.requires.ring).numbers in
    let n = c.args.n in
    let letters = map m.value c.args.letters.now in
    let last = c.loop-i-test.false in
    let end = c.loop-i.auto.i-end in
    let steps = c.in_ok-steps.steps.items in
    let P = c.deref-2.result.now in
    let are : ArePutFor m n 16 (map (put_by m letters n steps) (numbers_below n)) P = subst (λ (zs : List (JetTerms g.row.F-Elem.Denot)). ArePutFor m n 16 (map (put_by m letters n steps) (numbers_below n)) zs) (sym c.deref-2.ensures.value)
    (subst (λ k. ArePutFor m n 16 (map (put_by m letters n steps) (numbers_below k)) c.loop-i.parts.items) (let e : c.loop-i.i ≡ n = omega arith in e) c.loop-i.invariant) in
    let size = moves.count m laws letters c.args.part n c.args.grade c.requires.of_part c.requires.above (poly_of n m.value c.args.terms.now) steps c.in_ok-steps.ensures.steps P are in
    subst (λ z. All (IsPart m z) P) (sym size) (moves.are-parts m laws letters c.args.part n c.args.grade c.requires.of_part c.requires.above (poly_of n m.value c.args.terms.now) steps c.in_ok-steps.ensures.steps P are)

pub from_parts-requires-clause-orders : goal.from_parts-requires-clause-orders
from_parts-requires-clause-orders g c =
    let m = g.F.Ring.meaning c.args.field.now in
    let laws = (g.met.F.Ring.laws c.args.field.now c.requires.ring).numbers in
    let n = c.args.n in
    let letters = map m.value c.args.letters.now in
    let last = c.loop-i-test.false in
    let end = c.loop-i.auto.i-end in
    let steps = c.in_ok-steps.steps.items in
    let P = c.deref-2.result.now in
    let are : ArePutFor m n 16 (map (put_by m letters n steps) (numbers_below n)) P = subst (λ (zs : List (JetTerms g.row.F-Elem.Denot)). ArePutFor m n 16 (map (put_by m letters n steps) (numbers_below n)) zs) (sym c.deref-2.ensures.value)
    (subst (λ k. ArePutFor m n 16 (map (put_by m letters n steps) (numbers_below k)) c.loop-i.parts.items) (let e : c.loop-i.i ≡ n = omega arith in e) c.loop-i.invariant) in
    let size = moves.count m laws letters c.args.part n c.args.grade c.requires.of_part c.requires.above (poly_of n m.value c.args.terms.now) steps c.in_ok-steps.ensures.steps P are in
    let order : order_of P ≡ 16 = order-is P 16 (let some = given c.args.part in let of_part = c.requires.of_part in omega arith) (moves.orders m laws letters c.args.part n c.args.grade c.requires.of_part c.requires.above (poly_of n m.value c.args.terms.now) steps c.in_ok-steps.ensures.steps P are) in
    subst (λ z. All (λ (p : JetTerms g.row.F-Elem.Denot). p.order ≡ z) P) (sym order) (moves.orders m laws letters c.args.part n c.args.grade c.requires.of_part c.requires.above (poly_of n m.value c.args.terms.now) steps c.in_ok-steps.ensures.steps P are)

pub from_parts-requires-clause-order_at_least_1 : goal.from_parts-requires-clause-order_at_least_1
from_parts-requires-clause-order_at_least_1 g c =
    let m = g.F.Ring.meaning c.args.field.now in
    let laws = (g.met.F.Ring.laws c.args.field.now c.requires.ring).numbers in
    let n = c.args.n in
    let letters = map m.value c.args.letters.now in
    let last = c.loop-i-test.false in
    let end = c.loop-i.auto.i-end in
    let steps = c.in_ok-steps.steps.items in
    let P = c.deref-2.result.now in
    let are : ArePutFor m n 16 (map (put_by m letters n steps) (numbers_below n)) P = subst (λ (zs : List (JetTerms g.row.F-Elem.Denot)). ArePutFor m n 16 (map (put_by m letters n steps) (numbers_below n)) zs) (sym c.deref-2.ensures.value)
    (subst (λ k. ArePutFor m n 16 (map (put_by m letters n steps) (numbers_below k)) c.loop-i.parts.items) (let e : c.loop-i.i ≡ n = omega arith in e) c.loop-i.invariant) in
    let size = moves.count m laws letters c.args.part n c.args.grade c.requires.of_part c.requires.above (poly_of n m.value c.args.terms.now) steps c.in_ok-steps.ensures.steps P are in
    let order : order_of P ≡ 16 = order-is P 16 (let some = given c.args.part in let of_part = c.requires.of_part in omega arith) (moves.orders m laws letters c.args.part n c.args.grade c.requires.of_part c.requires.above (poly_of n m.value c.args.terms.now) steps c.in_ok-steps.ensures.steps P are) in
    omega arith

pub from_parts-requires-clause-order_at_most_17 : goal.from_parts-requires-clause-order_at_most_17
from_parts-requires-clause-order_at_most_17 g c =
    let m = g.F.Ring.meaning c.args.field.now in
    let laws = (g.met.F.Ring.laws c.args.field.now c.requires.ring).numbers in
    let n = c.args.n in
    let letters = map m.value c.args.letters.now in
    let last = c.loop-i-test.false in
    let end = c.loop-i.auto.i-end in
    let steps = c.in_ok-steps.steps.items in
    let P = c.deref-2.result.now in
    let are : ArePutFor m n 16 (map (put_by m letters n steps) (numbers_below n)) P = subst (λ (zs : List (JetTerms g.row.F-Elem.Denot)). ArePutFor m n 16 (map (put_by m letters n steps) (numbers_below n)) zs) (sym c.deref-2.ensures.value)
    (subst (λ k. ArePutFor m n 16 (map (put_by m letters n steps) (numbers_below k)) c.loop-i.parts.items) (let e : c.loop-i.i ≡ n = omega arith in e) c.loop-i.invariant) in
    let size = moves.count m laws letters c.args.part n c.args.grade c.requires.of_part c.requires.above (poly_of n m.value c.args.terms.now) steps c.in_ok-steps.ensures.steps P are in
    let order : order_of P ≡ 16 = order-is P 16 (let some = given c.args.part in let of_part = c.requires.of_part in omega arith) (moves.orders m laws letters c.args.part n c.args.grade c.requires.of_part c.requires.above (poly_of n m.value c.args.terms.now) steps c.in_ok-steps.ensures.steps P are) in
    omega arith

pub from_parts-requires-clause-no_constant : goal.from_parts-requires-clause-no_constant
from_parts-requires-clause-no_constant g c =
    let m = g.F.Ring.meaning c.args.field.now in
    let laws = (g.met.F.Ring.laws c.args.field.now c.requires.ring).numbers in
    let n = c.args.n in
    let letters = map m.value c.args.letters.now in
    let last = c.loop-i-test.false in
    let end = c.loop-i.auto.i-end in
    let steps = c.in_ok-steps.steps.items in
    let P = c.deref-2.result.now in
    let are : ArePutFor m n 16 (map (put_by m letters n steps) (numbers_below n)) P = subst (λ (zs : List (JetTerms g.row.F-Elem.Denot)). ArePutFor m n 16 (map (put_by m letters n steps) (numbers_below n)) zs) (sym c.deref-2.ensures.value)
    (subst (λ k. ArePutFor m n 16 (map (put_by m letters n steps) (numbers_below k)) c.loop-i.parts.items) (let e : c.loop-i.i ≡ n = omega arith in e) c.loop-i.invariant) in
    let size = moves.count m laws letters c.args.part n c.args.grade c.requires.of_part c.requires.above (poly_of n m.value c.args.terms.now) steps c.in_ok-steps.ensures.steps P are in
    subst (λ z. HaveNoConstant z m.scalars.ops z (part_of z m.value P)) (sym size) (moves.have_no_constant m laws letters c.args.part n c.args.grade c.requires.of_part c.requires.above (poly_of n m.value c.args.terms.now) steps c.in_ok-steps.ensures.steps P are)

pub returns-in-Ok-clause-change : goal.returns-in-Ok-clause-change
returns-in-Ok-clause-change g c =
    let m = g.F.Ring.meaning c.args.field.now in
    let laws = (g.met.F.Ring.laws c.args.field.now c.requires.ring).numbers in
    let n = c.args.n in
    let letters = map m.value c.args.letters.now in
    let last = c.loop-i-test.false in
    let end = c.loop-i.auto.i-end in
    let steps = c.in_ok-steps.steps.items in
    let P = c.deref-2.result.now in
    let are : ArePutFor m n 16 (map (put_by m letters n steps) (numbers_below n)) P = subst (λ (zs : List (JetTerms g.row.F-Elem.Denot)). ArePutFor m n 16 (map (put_by m letters n steps) (numbers_below n)) zs) (sym c.deref-2.ensures.value)
    (subst (λ k. ArePutFor m n 16 (map (put_by m letters n steps) (numbers_below k)) c.loop-i.parts.items) (let e : c.loop-i.i ≡ n = omega arith in e) c.loop-i.invariant) in
    let size = moves.count m laws letters c.args.part n c.args.grade c.requires.of_part c.requires.above (poly_of n m.value c.args.terms.now) steps c.in_ok-steps.ensures.steps P are in
    let order : order_of P ≡ 16 = order-is P 16 (let some = given c.args.part in let of_part = c.requires.of_part in omega arith) (moves.orders m laws letters c.args.part n c.args.grade c.requires.of_part c.requires.above (poly_of n m.value c.args.terms.now) steps c.in_ok-steps.ensures.steps P are) in
    moves.move-is m laws letters c.args.part n c.args.grade c.requires.of_part c.requires.above (poly_of n m.value c.args.terms.now) steps c.in_ok-steps.ensures.steps P are c.in-Ok.change c.in-Ok.ensures.change (c.in-Ok.ensures.n ∙ size) (c.in-Ok.ensures.order ∙ order) c.in-Ok.ensures.parts

pub fault_of-requires : goal.fault_of-requires
fault_of-requires g c =
    let m = g.F.Ring.meaning c.args.field.now in
    let laws = (g.met.F.Ring.laws c.args.field.now c.requires.ring).numbers in
    let n = c.args.n in
    let letters = map m.value c.args.letters.now in
    let last = c.loop-i-test.false in
    let end = c.loop-i.auto.i-end in
    let steps = c.in_ok-steps.steps.items in
    let P = c.deref-2.result.now in
    let are : ArePutFor m n 16 (map (put_by m letters n steps) (numbers_below n)) P = subst (λ (zs : List (JetTerms g.row.F-Elem.Denot)). ArePutFor m n 16 (map (put_by m letters n steps) (numbers_below n)) zs) (sym c.deref-2.ensures.value)
    (subst (λ k. ArePutFor m n 16 (map (put_by m letters n steps) (numbers_below k)) c.loop-i.parts.items) (let e : c.loop-i.i ≡ n = omega arith in e) c.loop-i.invariant) in
    let size = moves.count m laws letters c.args.part n c.args.grade c.requires.of_part c.requires.above (poly_of n m.value c.args.terms.now) steps c.in_ok-steps.ensures.steps P are in
    moves.regular-of m laws letters c.args.part n c.args.grade c.requires.of_part c.requires.above (poly_of n m.value c.args.terms.now) steps c.in_ok-steps.ensures.steps P are c.in-Err.e (subst (λ z. KernelBy m z (linear_part_of m z P) c.in-Err.e) size c.in-Err.ensures.singular.only)

pub returns-clause-range : goal.returns-clause-range
returns-clause-range g c =
    let m = g.F.Ring.meaning c.args.field.now in
    let laws = (g.met.F.Ring.laws c.args.field.now c.requires.ring).numbers in
    let n = c.args.n in
    let letters = map m.value c.args.letters.now in
    let last = c.loop-i-test.false in
    let end = c.loop-i.auto.i-end in
    let steps = c.in_ok-steps.steps.items in
    let P = c.deref-2.result.now in
    let are : ArePutFor m n 16 (map (put_by m letters n steps) (numbers_below n)) P = subst (λ (zs : List (JetTerms g.row.F-Elem.Denot)). ArePutFor m n 16 (map (put_by m letters n steps) (numbers_below n)) zs) (sym c.deref-2.ensures.value)
    (subst (λ k. ArePutFor m n 16 (map (put_by m letters n steps) (numbers_below k)) c.loop-i.parts.items) (let e : c.loop-i.i ≡ n = omega arith in e) c.loop-i.invariant) in
    let size = moves.count m laws letters c.args.part n c.args.grade c.requires.of_part c.requires.above (poly_of n m.value c.args.terms.now) steps c.in_ok-steps.ensures.steps P are in
    record {
      only = subst (FaultBy (IsMoveHigh m.scalars letters c.args.part n c.args.grade (poly_of n m.value c.args.terms.now))) (sym c.fault_of.ensures)
          (fault-by c.in-Err.e (λ h. moves.inverse-high m laws letters c.args.part n c.args.grade c.requires.of_part c.requires.above (poly_of n m.value c.args.terms.now) steps c.in_ok-steps.ensures.steps P are (subst (λ z. InverseIsHigh m.scalars z (linear_part_of m z P)) size h)) c.in-Err.ensures.range.only);
    }
