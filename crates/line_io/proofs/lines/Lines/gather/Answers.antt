use Rattle.line_io.proofs.Reading.{gather_found, gather_all}
use Rattle.line_io.proofs.lines.Lines.gather.Goals as goal

pub returns-in-Some-clause-found : goal.returns-in-Some-clause-found
returns-in-Some-clause-found c = λ _. gather_found _ _ _ _ c.in-Some.at _ _ c.held-held.ensures.held c.in-Some.ensures.at c.split_at.ensures.front c.skip.ensures c.push.ensures

pub returns-in-None-clause-all : goal.returns-in-None-clause-all
returns-in-None-clause-all c = λ _. gather_all _ _ _ _ _ c.held-held.ensures.held c.in-None.ensures.at c.skip-in-None.ensures c.push-in-None.ensures
