use Rattle.std.proofs.Common.{sym, ap, subst, arith, length, take}
use Rattle.std.proofs.lemmas.List.{drop_all}
use Rattle.lin_row.specs.Lines.{AllBelow, StartsFrom}
use Rattle.lin_row.specs.System.{lines_of}
use Rattle.lin_row.proofs.SystemLaws
use Rattle.lin_row.proofs.echelon.place.Goals as goal

pub returns-then-pivots-i-clause-next : goal.returns-then-pivots-i-clause-next
returns-then-pivots-i-clause-next g c =
    SystemLaws.starts_place c.args.pivots.now c.loop-i.i c.index-pivots-i.result c.loop-i-test.true c.index-pivots-i.is c.args.column (omega (arith, ap (λ t. t.0) c.index-pivots-i.is, c.if-pivots-i.true))

pub loop-i-preserved : goal.loop-i-preserved
loop-i-preserved g c =
    SystemLaws.below_place c.args.pivots.now c.loop-i.i c.index-pivots-i.result c.loop-i-test.true c.index-pivots-i.is c.args.column c.loop-i.invariant (omega (arith, ap (λ t. t.0) c.index-pivots-i.is, c.if-pivots-i.false))

pub returns-clause-before : goal.returns-clause-before
returns-clause-before g c =
    subst (λ i. AllBelow c.args.column (lines_of (take i c.args.pivots.now))) (omega arith) c.loop-i.invariant

pub returns-clause-next : goal.returns-clause-next
returns-clause-next g c = subst (λ ps. StartsFrom c.args.column (lines_of ps)) (sym (drop_all (length c.args.pivots.now) c.args.pivots.now (omega arith))) tt
