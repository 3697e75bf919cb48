use Rattle.std.proofs.Common.{suc}
use Rattle.cert_text.specs.declared.report.Phase.TheVariants as phases
use Rattle.determinator.proofs.Exits.{stop_high}
use Rattle.determinator.proofs.PartExtensions.{split_moves, kill_moves, extends, high_in_test, high_in_split, high_in_kill}
use Rattle.determinator.proofs.PartPlacing.{split_part}
use Rattle.determinator.proofs.extending.open_reduced.Goals as goal

pub returns-in-Err-clause-range : goal.returns-in-Err-clause-range
returns-in-Err-clause-range g c =
    stop_high phases.Split tt c.in-Err.fault _ c.in_phase.ensures c.in-Err.ensures.range _
    (λ high n last o germ moves place. high_in_split n c.args.corank last germ c.args.algebra c.args.part phases.Split (suc o) moves (high n last o germ moves place.place))

pub split_next-requires-clause-placed : goal.split_next-requires-clause-placed
split_next-requires-clause-placed g c = let h = c.requires.placed in record { n = h.n; last = h.last; germ = h.germ; o = h.o; moves = h.moves; is = h.is.place }

pub kill_next-requires-clause-placed : goal.kill_next-requires-clause-placed
kill_next-requires-clause-placed g c =
    let h = c.requires.placed in
    record {
      n = h.n;
      c = c.args.corank;
      last = h.last;
      germ = h.germ;
      o = h.o;
      moves = split_moves h.n c.args.corank h.last h.germ c.args.algebra c.args.part (suc h.o) h.moves;
      is = split_part h.n c.args.corank h.last h.germ c.args.algebra c.args.part h.o h.moves _ _ c.requires.field h.is (c.in-Ok.ensures.chain h.n h.last h.o h.germ h.moves h.is.place);
    }

pub returns-in-Err-kill_next-clause-range : goal.returns-in-Err-kill_next-clause-range
returns-in-Err-kill_next-clause-range g c =
    stop_high phases.Kill tt c.in-Err-kill_next.fault _ c.in_phase-in-Err-kill_next.ensures c.in-Err-kill_next.ensures.range _
    (λ high n last o germ moves place.
    high_in_kill n c.args.corank last germ c.args.algebra c.args.part phases.Kill (suc o) moves
    (high n c.args.corank last o germ (split_moves n c.args.corank last germ c.args.algebra c.args.part (suc o) moves)
    (split_part n c.args.corank last germ c.args.algebra c.args.part o moves _ _ c.requires.field place (c.in-Ok.ensures.chain n last o germ moves place.place))))

pub tested-requires-clause-placed : goal.tested-requires-clause-placed
tested-requires-clause-placed g c =
    let h = c.requires.placed in
    record {
      n = h.n;
      last = h.last;
      germ = h.germ;
      o = suc h.o;
      moves = kill_moves h.n c.args.corank h.last h.germ c.args.algebra c.args.part (suc h.o) h.moves;
      is = c.in-Ok-kill_next.ensures.chain h.n c.args.corank h.last h.o h.germ (split_moves h.n c.args.corank h.last h.germ c.args.algebra c.args.part (suc h.o) h.moves)
          (split_part h.n c.args.corank h.last h.germ c.args.algebra c.args.part h.o h.moves _ _ c.requires.field h.is (c.in-Ok.ensures.chain h.n h.last h.o h.germ h.moves h.is.place));
    }

pub returns-in-Ok-tested-clause-extended : goal.returns-in-Ok-tested-clause-extended
returns-in-Ok-tested-clause-extended g c n last o germ moves are place =
    extends n c.args.corank last germ c.args.algebra c.args.part c.args.names.now (suc o) moves c.in-Ok-tested.extension
    (c.in-Ok-tested.ensures.tested n last (suc o) germ (kill_moves n c.args.corank last germ c.args.algebra c.args.part (suc o) moves) are
    (c.in-Ok-kill_next.ensures.chain n c.args.corank last o germ (split_moves n c.args.corank last germ c.args.algebra c.args.part (suc o) moves)
    (split_part n c.args.corank last germ c.args.algebra c.args.part o moves _ _ c.requires.field place (c.in-Ok.ensures.chain n last o germ moves place.place))))

pub returns-in-Err-tested-clause-range : goal.returns-in-Err-tested-clause-range
returns-in-Err-tested-clause-range g c =
    stop_high phases.Finish tt c.in-Err-tested.fault _ c.in_phase-in-Err-tested.ensures c.in-Err-tested.ensures.range _
    (λ high n last o germ moves place.
    high_in_test n c.args.corank last germ c.args.algebra c.args.part phases.Finish (suc o) moves
    (high n last (suc o) germ (kill_moves n c.args.corank last germ c.args.algebra c.args.part (suc o) moves)
    (c.in-Ok-kill_next.ensures.chain n c.args.corank last o germ (split_moves n c.args.corank last germ c.args.algebra c.args.part (suc o) moves)
    (split_part n c.args.corank last germ c.args.algebra c.args.part o moves _ _ c.requires.field place (c.in-Ok.ensures.chain n last o germ moves place.place)))))
