use Rattle.std.proofs.Common.{◌≡◌, ◌<◌, sym, subst, arith}
use Rattle.ring_law.proofs.Exits.{fault_handed_on}
use Rattle.jet_law.specs.Terms.{poly_of}
use Rattle.jet_law.specs.Canonical.{jet}
use Rattle.move_law.specs.Hessian.{started, next_square, next_work, squares, squares_after}
use Rattle.move_law.specs.Work.{IsWorkHigh}
use Rattle.hessian_rank.specs.Stages.{IsStageFor}
use Rattle.hessian_rank.proofs.SumOfSquares.{start_sound}
use Rattle.hessian_rank.proofs.AllSquares.{one_more, among_all, all_sound}
use Rattle.hessian_rank.proofs.StageSteps.{own_stage, own_sound, own_step, own_work, jet_low}
use Rattle.hessian_rank.proofs.stage.squares.Goals as goal

pub next_square-requires-clause-stage : goal.next_square-requires-clause-stage
next_square-requires-clause-stage g c =
    let m = g.F.Ring.meaning c.args.field.now in
    let n = c.args.f.now.n in
    own_stage m n (squares_after n m.scalars c.loop-k.k (started n m.scalars (jet n m.scalars 2 (poly_of n m.value c.args.f.now.terms)))) c.loop-k.stage c.loop-k.invariant

pub next_square-requires-clause-sound : goal.next_square-requires-clause-sound
next_square-requires-clause-sound g c =
    let m = g.F.Ring.meaning c.args.field.now in
    let laws = (g.met.F.Ring.laws c.args.field.now c.requires.ring).numbers in
    let inverts = g.met.F.Field.inverts c.args.field.now c.requires.ring in
    let n = c.args.f.now.n in
    let f = poly_of n m.value c.args.f.now.terms in
    let start = started n m.scalars (jet n m.scalars 2 f) in
    own_sound m n (squares_after n m.scalars c.loop-k.k start) c.loop-k.stage c.loop-k.invariant
    (all_sound n m.scalars laws inverts c.loop-k.k start (start_sound n m.scalars laws inverts (jet n m.scalars 2 f) (jet_low m laws n f c.requires.low)))

pub returns-in_err-next-clause-range : goal.returns-in_err-next-clause-range
returns-in_err-next-clause-range g c =
    let m = g.F.Ring.meaning c.args.field.now in
    let n = c.args.f.now.n in
    let k = c.loop-k.k in
    let start = started n m.scalars (jet n m.scalars 2 (poly_of n m.value c.args.f.now.terms)) in
    fault_handed_on _ c.from_residual-in_err-next.ensures.1
    (λ high. among_all n m.scalars (IsWorkHigh n m.scalars) k n (subst (λ z. k < z) c.n-n.ensures c.loop-k-test.true) start
    (own_work m n (squares_after n m.scalars k start) c.loop-k.stage c.loop-k.invariant (λ n. next_work n m.scalars) high))
    c.in_err-next.ensures.range

pub loop-k-preserved : goal.loop-k-preserved
loop-k-preserved g c =
    let m = g.F.Ring.meaning c.args.field.now in
    let n = c.args.f.now.n in
    let k = c.loop-k.k in
    let start = started n m.scalars (jet n m.scalars 2 (poly_of n m.value c.args.f.now.terms)) in
    subst (λ p. IsStageFor m n p c.in_ok-next.next) (sym (one_more n m.scalars k start))
    (own_step m n (squares_after n m.scalars k start) c.loop-k.stage c.loop-k.invariant (λ n. next_square n m.scalars) c.in_ok-next.next c.in_ok-next.ensures.next)

pub returns-clause-squares : goal.returns-clause-squares
unfolding squares
returns-clause-squares g c =
    let m = g.F.Ring.meaning c.args.field.now in
    let n = c.args.f.now.n in
    let start = started n m.scalars (jet n m.scalars 2 (poly_of n m.value c.args.f.now.terms)) in
    let last = c.loop-k-test.false in
    let end = c.loop-k.auto.k-end in
    let same = c.n-n.ensures in
    subst (λ k. IsStageFor m n (squares_after n m.scalars k start) c.loop-k.stage) (let e : c.loop-k.k ≡ n = omega (arith, same) in e) c.loop-k.invariant
