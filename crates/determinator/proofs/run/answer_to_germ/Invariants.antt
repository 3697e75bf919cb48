use Rattle.determinator.proofs.run.answer_to_germ.Given as goal

abbrev pub ghosts-plan_of : goal.ghosts-plan_of
ghosts-plan_of a = record { name = a.blank.name; parts = a.blank.parts }
