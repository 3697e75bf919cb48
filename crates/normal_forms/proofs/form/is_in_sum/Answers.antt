use Rattle.std.proofs.Common.{List, ap, ◌∙◌}
use Rattle.mono_exp.specs.declared.exponent.Exp.{Exp}
use Rattle.normal_forms.specs.Monomials.{is_one_of}
use Rattle.normal_forms.proofs.Members.{plain_family, any_of_powers}
use Rattle.normal_forms.proofs.form.is_in_sum.Goals as goal

pub returns-in_default : goal.returns-in_default
returns-in_default c =
    c.is_one_of_powers-in_default.ensures
    ∙ any_of_powers c.args.m c.powers.result.now
    ∙ ap (λ (s : List Exp). is_one_of s c.args.m) (c.powers.ensures (plain_family c.args.family c.in_default.not-A c.in_default.not-D c.in_default.not-T))
