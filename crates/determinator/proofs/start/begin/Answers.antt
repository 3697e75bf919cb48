use Rattle.std.proofs.Common.{inl, inr, [], ◌∷◌, arith}
use Rattle.cert_text.specs.declared.report.Phase.TheVariants as phases
use Rattle.plan_law.specs.Plan.{first_move}
use Rattle.determinator.proofs.Beginning.{begin_outside, begin_searching, begin_unbuilt, corank_is, first_place, first_past, high_outside, many, work_is}
use Rattle.determinator.proofs.Exits.{stop_high}
use Rattle.determinator.proofs.start.begin.Goals as goal
use Rattle.determinator.proofs.start.begin.Goals.{then-corank-eq2-via-then-corank-eq2, then-corank-eq2-via-else-corank-eq2+then-corank-eq3}

pub returns-in-Err-clause-range : goal.returns-in-Err-clause-range
returns-in-Err-clause-range g c =
    stop_high phases.Hessian tt c.in-Err.fault _ c.in_phase.ensures c.in-Err.ensures.range _ (λ high q is. work_is c.args.germ.now c.requires.germ q is high)

pub returns-then-corank-eq2-clause-begun : goal.returns-then-corank-eq2-clause-begun
returns-then-corank-eq2-clause-begun g c q is =
    let d = c.in-Ok.diagonal in
    let here = corank_is c.args.germ.now c.requires.germ q is d.corank c.in-Ok.ensures.diagonal.corank in
    elim c.then-corank-eq2.branch [
      | then-corank-eq2-via-then-corank-eq2 w ↦ begin_unbuilt c.args.germ.now c.requires.germ q is c.args.names.now d.corank here (inl w.if-corank-eq2.true)
      | then-corank-eq2-via-else-corank-eq2+then-corank-eq3 w ↦ begin_unbuilt c.args.germ.now c.requires.germ q is c.args.names.now d.corank here (inr w.if-corank-eq3.true)
    ]

pub returns-then-corank-lt2-clause-begun : goal.returns-then-corank-lt2-clause-begun
returns-then-corank-lt2-clause-begun g c q is =
    let d = c.in-Ok.diagonal in
    begin_searching c.args.germ.now c.requires.germ q is c.args.names.now d.corank (corank_is c.args.germ.now c.requires.germ q is d.corank c.in-Ok.ensures.diagonal.corank) c.if-corank-lt2.true
    c.in-Ok-start_chain.chain (c.in-Ok-start_chain.ensures.chain q is)

pub outside-requires-clause-placed : goal.outside-requires-clause-placed
outside-requires-clause-placed g c =
    let f = c.args.germ.now in
    let h = c.requires.germ in
    let d = c.in-Ok.diagonal in
    record {
      n = f.n;
      last = f.order;
      germ = h.germ;
      o = 2;
      moves = first_move f.n h.germ ∷ [];
      is = first_place f h.germ h.germ_is d.corank (corank_is f h h.germ h.germ_is d.corank c.in-Ok.ensures.diagonal.corank) c.in-Ok-start_chain.chain (c.in-Ok-start_chain.ensures.chain h.germ h.germ_is);
    }

pub returns-in-Ok-outside-clause-begun : goal.returns-in-Ok-outside-clause-begun
returns-in-Ok-outside-clause-begun g c q is =
    let f = c.args.germ.now in
    let d = c.in-Ok.diagonal in
    let here = corank_is f c.requires.germ q is d.corank c.in-Ok.ensures.diagonal.corank in
    let not_2 = c.if-corank-eq2.false in
    let not_3 = c.if-corank-eq3.false in
    let not_less = c.if-corank-lt2.false in
    begin_outside f c.requires.germ q is c.args.names.now d.corank here (omega arith) c.in-Ok-outside.answer
    (c.in-Ok-outside.ensures.report f.n f.order 2 q (first_move f.n q ∷ []) c.requires.names
    (first_place f q is d.corank here c.in-Ok-start_chain.chain (c.in-Ok-start_chain.ensures.chain q is)) (first_past f c.requires.germ q is d.corank here (omega arith)))

pub returns-clause-range : goal.returns-clause-range
returns-clause-range g c =
    let f = c.args.germ.now in
    let d = c.in-Ok.diagonal in
    let not_2 = c.if-corank-eq2.false in
    let not_3 = c.if-corank-eq3.false in
    let not_less = c.if-corank-lt2.false in
    stop_high phases.Finish tt c.in-Err-outside.fault _ c.in_phase-in-Err-outside.ensures c.in-Err-outside.ensures.range _
    (λ high q is.
    let here = corank_is f c.requires.germ q is d.corank c.in-Ok.ensures.diagonal.corank in
    high_outside c.args.names.now f.n f.order q d.corank here (many d.corank (omega arith))
    (high f.n f.order 2 q (first_move f.n q ∷ []) (first_place f q is d.corank here c.in-Ok-start_chain.chain (c.in-Ok-start_chain.ensures.chain q is))))
