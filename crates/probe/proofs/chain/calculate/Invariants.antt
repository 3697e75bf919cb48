use Rattle.probe.proofs.chain.calculate.Given as goal

abbrev pub ghosts-calculate_counted : goal.ghosts-calculate_counted
ghosts-calculate_counted g a = record { name = a.blank.name; parts = a.blank.parts }
