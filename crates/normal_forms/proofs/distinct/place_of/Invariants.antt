use Rattle.std.proofs.Common.{◌≡◌, ◌+◌, drop}
use Rattle.std.specs.List.{position_or_len}
use Rattle.mono_exp.specs.Exponents.{is_before}
use Rattle.normal_forms.proofs.distinct.place_of.Given as goal

abbrev pub invariant-loop-place : goal.invariant-loop-place
invariant-loop-place g l =
    position_or_len (λ t. is_before l.m.e t.0.e) l.terms ≡ l.place + position_or_len (λ t. is_before l.m.e t.0.e) (drop l.place l.terms)
