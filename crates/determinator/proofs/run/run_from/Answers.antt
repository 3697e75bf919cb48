use Rattle.std.proofs.Common.{◌≡◌, suc, ◌+◌, sym, subst, arith}
use Rattle.determinator.specs.Turns.{IsAhead}
use Rattle.determinator.specs.declared.step.Step.TheVariants as steps
use Rattle.determinator.proofs.Exits.{stop_handed_on}
use Rattle.determinator.proofs.Running.{not_searching, over_of}
use Rattle.determinator.proofs.run.run_from.Goals as goal

pub returns-in_err-step-clause-range : goal.returns-in_err-step-clause-range
returns-in_err-step-clause-range g c =
    stop_handed_on _ c.from_residual.ensures.1 (λ p high n germ start are h. high n germ start are (c.loop-o.invariant.ahead n germ start are h)) c.in_err-step.ensures.range

pub loop-o-preserved : goal.loop-o-preserved
loop-o-preserved g c =
    let r = c.loop-o.invariant.running in
    let next : c.loop-o.o + 1 ≡ suc c.loop-o.o = omega arith in
    record {
      running = record {
        n = r.n;
        names_are = r.names_are;
        germ = r.germ;
        start = r.start;
        ahead = subst (λ k. IsAhead c.args.names.now r.n c.args.corank c.args.last r.germ r.start k c.in_ok-step.step) (sym next) (c.in_ok-step.ensures.ahead r.n r.germ r.start r.names_are r.ahead);
      };
      ahead = λ n germ start are h.
          subst (λ k. IsAhead c.args.names.now n c.args.corank c.args.last germ start k c.in_ok-step.step) (sym next) (c.in_ok-step.ensures.ahead n germ start are (c.loop-o.invariant.ahead n germ start are h));
    }

pub unreachable-requires : goal.unreachable-requires
unreachable-requires g c =
    let r = c.loop-o.invariant.running in
    let end = c.loop-o-test.false in
    let three = c.requires.last_at_least_3 in
    let within = c.loop-o.auto.o-end in
    let at : c.loop-o.o ≡ suc c.args.last = omega arith in
    not_searching c.args.names.now r.n c.args.corank c.args.last r.germ r.start c.in-Searching.field-0
    (subst (λ k. IsAhead c.args.names.now r.n c.args.corank c.args.last r.germ r.start k (steps.Searching c.in-Searching.field-0)) at (subst (IsAhead c.args.names.now r.n c.args.corank c.args.last r.germ r.start c.loop-o.o) c.in-Searching.is r.ahead))

pub returns-clause-over : goal.returns-clause-over
returns-clause-over g c n germ start are h =
    over_of c.args.names.now n c.args.corank c.args.last germ start c.loop-o.o c.in-Ends.answer
    (subst (IsAhead c.args.names.now n c.args.corank c.args.last germ start c.loop-o.o) c.in-Ends.is (c.loop-o.invariant.ahead n germ start are h))
