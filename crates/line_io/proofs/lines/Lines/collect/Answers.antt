use Rattle.line_io.proofs.Collecting.{collect_found, collect_none}
use Rattle.line_io.proofs.lines.Lines.collect.Goals as goal

pub returns-in-Ok-clause-found : goal.returns-in-Ok-clause-found
returns-in-Ok-clause-found c = λ _. collect_found _ _ _ _ c.in-Some.at _ _ c.held-held.ensures.held c.in-Some.ensures.at c.in-Some.ensures.within c.split_at.ensures.front c.skip.ensures c.in-Ok.ensures

pub returns-in-Ok-push-clause-all : goal.returns-in-Ok-push-clause-all
returns-in-Ok-push-clause-all c = λ _. collect_none _ _ _ _ _ c.held-held.ensures.held c.in-None.ensures.at c.skip-in-None.ensures c.in-Ok-push.ensures
