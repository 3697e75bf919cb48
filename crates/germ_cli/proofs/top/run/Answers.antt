use Rattle.germ_cli.proofs.Ending.{ends_checked, ends_well, not_risen}
use Rattle.germ_cli.proofs.Words.{asked_within, no_check, one_command, within_of}
use Rattle.germ_cli.proofs.top.run.Goals as goal
use Rattle.germ_cli.specs.Run.{TakesWithin}
use Rattle.germ_cli.specs.Words.{AsksFor, input_limit_of}
use Rattle.germ_cli.specs.declared.command.Command.TheVariants as commands
use Rattle.germ_cli.specs.declared.command.Command.{Command}
use Rattle.determinator.proofs.Exactly.{exact}
use Rattle.std.proofs.Common.{inl, map, refl, subst}
use Rattle.std.specs.Prelude.{string_bytes}

pub returns-in-Some-clause-done : goal.returns-in-Some-clause-done
returns-in-Some-clause-done g c = λ limit asked. (c.execute.ensures.classifies limit (one_command _ c.in-Some.command (commands.Classify limit) c.in-Some.ensures.some asked)).done

pub returns-in-Some-clause-front : goal.returns-in-Some-clause-front
returns-in-Some-clause-front g c = λ limit asked. (c.execute.ensures.classifies limit (one_command _ c.in-Some.command (commands.Classify limit) c.in-Some.ensures.some asked)).front

pub returns-in-Some-clause-fault : goal.returns-in-Some-clause-fault
returns-in-Some-clause-fault g c = λ limit asked. (c.execute.ensures.classifies limit (one_command _ c.in-Some.command (commands.Classify limit) c.in-Some.ensures.some asked)).fault

pub returns-in-Some-clause-at_limit : goal.returns-in-Some-clause-at_limit
returns-in-Some-clause-at_limit g c = λ limit asked. (c.execute.ensures.classifies limit (one_command _ c.in-Some.command (commands.Classify limit) c.in-Some.ensures.some asked)).at_limit

pub returns-in-Some-clause-all_hold : goal.returns-in-Some-clause-all_hold
returns-in-Some-clause-all_hold g c = λ asked. (c.execute.ensures.checks (one_command _ c.in-Some.command commands.Check c.in-Some.ensures.some asked)).done

pub returns-in-Some-clause-some_fail : goal.returns-in-Some-clause-some_fail
returns-in-Some-clause-some_fail g c = λ asked. (c.execute.ensures.checks (one_command _ c.in-Some.command commands.Check c.in-Some.ensures.some asked)).invalid

pub returns-in-Some-clause-check_front : goal.returns-in-Some-clause-check_front
returns-in-Some-clause-check_front g c = λ asked. (c.execute.ensures.checks (one_command _ c.in-Some.command commands.Check c.in-Some.ensures.some asked)).front

pub returns-in-Some-clause-check_fault : goal.returns-in-Some-clause-check_fault
returns-in-Some-clause-check_fault g c = λ asked. (c.execute.ensures.checks (one_command _ c.in-Some.command commands.Check c.in-Some.ensures.some asked)).fault

pub returns-in-Some-clause-check_at_limit : goal.returns-in-Some-clause-check_at_limit
returns-in-Some-clause-check_at_limit g c = λ asked. (c.execute.ensures.checks (one_command _ c.in-Some.command commands.Check c.in-Some.ensures.some asked)).at_limit

pub returns-in-Some-clause-limit : goal.returns-in-Some-clause-limit
returns-in-Some-clause-limit g c = λ command asked.
    let P : Command → Type 0 = λ x. TakesWithin (input_limit_of x) (g.S.Source.left c.args.source.now) (g.S.Source.left c.execute.new.source) c.execute.result in
    subst P (one_command _ c.in-Some.command command c.in-Some.ensures.some asked) (within_of c.in-Some.command _ _ _ _ _ _ _ c.execute.ensures.classifies c.execute.ensures.checks c.execute.ensures.tells)

pub returns-in-Some-clause-invalid : goal.returns-in-Some-clause-invalid
returns-in-Some-clause-invalid g c = λ e.
    let P : Command → Type 0 = λ x. AsksFor (map string_bytes c.args.words.now) x in
    subst P (c.execute.ensures.invalid e) c.in-Some.ensures.some

pub returns-in-Some-clause-complete : goal.returns-in-Some-clause-complete
returns-in-Some-clause-complete g c = λ limit asked quiet still.
    let run = c.execute.ensures in
    ends_well _ _ c.execute.result (λ e. not_risen _ _ quiet (run.read e)) (λ e. not_risen _ _ still (run.write e)) run.usage (λ e. no_check _ c.in-Some.command limit c.in-Some.ensures.some asked (run.invalid e))
    (run.classifies limit (one_command _ c.in-Some.command (commands.Classify limit) c.in-Some.ensures.some asked)).within

pub returns-in-Some-clause-check_complete : goal.returns-in-Some-clause-check_complete
returns-in-Some-clause-check_complete g c = λ asked quiet still.
    let run = c.execute.ensures in
    ends_checked _ _ c.execute.result (λ e. not_risen _ _ quiet (run.read e)) (λ e. not_risen _ _ still (run.write e)) run.usage (run.checks (one_command _ c.in-Some.command commands.Check c.in-Some.ensures.some asked)).within

pub returns-in-None-clause-front : goal.returns-in-None-clause-front
returns-in-None-clause-front g c = λ limit asked. absurd (c.in-None.ensures.none refl (commands.Classify limit) asked)

pub returns-in-None-clause-check_front : goal.returns-in-None-clause-check_front
returns-in-None-clause-check_front g c = λ asked. absurd (c.in-None.ensures.none refl commands.Check asked)

pub returns-in-None-clause-limit : goal.returns-in-None-clause-limit
returns-in-None-clause-limit g c = λ command asked. absurd (c.in-None.ensures.none refl command asked)

pub returns-in-None-clause-wrong : goal.returns-in-None-clause-wrong
returns-in-None-clause-wrong g c = λ _. c.tell.ensures.told

pub returns-in-None-clause-complete : goal.returns-in-None-clause-complete
returns-in-None-clause-complete g c = λ limit asked. absurd (c.in-None.ensures.none refl (commands.Classify limit) asked)

pub returns-in-None-clause-check_complete : goal.returns-in-None-clause-check_complete
returns-in-None-clause-check_complete g c = λ asked. absurd (c.in-None.ensures.none refl commands.Check asked)

pub execute-requires : goal.execute-requires
execute-requires g c = asked_within _ c.in-Some.command c.in-Some.ensures.some

pub returns-in-Some-clause-exact : goal.returns-in-Some-clause-exact
returns-in-Some-clause-exact g c = exact

pub returns-in-None-clause-exact : goal.returns-in-None-clause-exact
returns-in-None-clause-exact g c = exact

pub returns-in-Some-clause-table : goal.returns-in-Some-clause-table
returns-in-Some-clause-table g c = λ asked. (c.execute.ensures.tells (one_command _ c.in-Some.command commands.Table c.in-Some.ensures.some asked)).0

pub returns-in-Some-clause-table_unread : goal.returns-in-Some-clause-table_unread
returns-in-Some-clause-table_unread g c = λ asked. (c.execute.ensures.tells (one_command _ c.in-Some.command commands.Table c.in-Some.ensures.some asked)).1

pub returns-in-None-clause-table : goal.returns-in-None-clause-table
returns-in-None-clause-table g c = λ asked. absurd (c.in-None.ensures.none refl commands.Table asked)

pub returns-in-None-clause-table_unread : goal.returns-in-None-clause-table_unread
returns-in-None-clause-table_unread g c = λ asked. absurd (c.in-None.ensures.none refl commands.Table asked)
