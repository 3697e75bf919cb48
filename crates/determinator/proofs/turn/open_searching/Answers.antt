use Rattle.std.proofs.Common.{suc}
use Rattle.cert_text.specs.declared.report.Phase.TheVariants as phases
use Rattle.determinator.proofs.Exits.{stop_high}
use Rattle.determinator.proofs.Turning.{opening_split, opens_without_move}
use Rattle.determinator.proofs.turn.open_searching.Goals as goal

pub returns-in-Err-clause-range : goal.returns-in-Err-clause-range
returns-in-Err-clause-range g c =
    stop_high phases.Split tt c.in-Err.fault _ c.in_phase.ensures c.in-Err.ensures.range _
    (λ high n last o germ moves place. opening_split n c.args.corank last germ phases.Split (suc o) moves (high n last o germ moves place))

pub returns-in-Ok-clause-opened : goal.returns-in-Ok-clause-opened
returns-in-Ok-clause-opened g c names n last o germ moves place =
    opens_without_move n c.args.corank last germ names (suc o) moves _ c.requires.few (c.in-Ok.ensures.chain n last o germ moves place)
