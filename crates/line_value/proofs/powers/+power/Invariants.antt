use Rattle.line_value.proofs.powers.+power.Given as goal

-- the exponent is halved
abbrev pub decreases-power : goal.decreases-power
decreases-power g l = l.n
