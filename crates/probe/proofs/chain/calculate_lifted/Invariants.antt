use Rattle.probe.proofs.chain.calculate_lifted.Given as goal

abbrev pub ghosts-lifted_counted : goal.ghosts-lifted_counted
ghosts-lifted_counted a = record { name = a.blank.name; parts = a.blank.parts }
