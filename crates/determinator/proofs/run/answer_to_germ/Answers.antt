use Rattle.determinator.proofs.Planning.{planned_stop}
use Rattle.determinator.proofs.run.answer_to_germ.Goals as goal

pub returns-in-Err : goal.returns-in-Err
returns-in-Err c = record { planned = planned_stop c.args.names.now c.args.germ.now c.range_answer.result c.in-Err.stop c.range_answer.ensures c.in-Err.ensures.range.only }
