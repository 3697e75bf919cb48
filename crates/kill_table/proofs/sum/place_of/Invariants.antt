use Rattle.std.proofs.Common.{◌≡◌, ◌+◌, not, drop}
use Rattle.std.specs.List.{position_or_len}
use Rattle.mono_exp.specs.Exponents.{is_before}
use Rattle.kill_table.proofs.sum.place_of.Given as goal

abbrev pub invariant-loop-place : goal.invariant-loop-place
invariant-loop-place g l =
    position_or_len (λ t. not (is_before t.0.e l.a.e)) l.terms ≡ l.place + position_or_len (λ t. not (is_before t.0.e l.a.e)) (drop l.place l.terms)
