use Rattle.std.proofs.Common.{◌≡◌, length, refl, rules}
use Rattle.mono_exp.specs.Exponents.{IsIn}
use Rattle.mono_exp.proofs.ListLemmas.{all-push}
use Rattle.jacobian_row.specs.declared.multiple.Multiple.{Multiple}
use Rattle.jacobian_row.proofs.MultipleLemmas.{variable_step}
use Rattle.jacobian_row.proofs.multiple.add_multiples.Goals as goal

pub loop-variable-preserved : goal.loop-variable-preserved
loop-variable-preserved c =
    let long : length c.args.factor.e ≡ 8 = search rules in
    let all = c.loop-variable.all.items in
    let u : Multiple = record { factor = c.args.factor; variable = c.loop-variable.variable } in
    rw c.in_ok-push.ensures.items
    (record {
      list = variable_step c.args.n all u _ c.loop-variable.variable refl c.loop-variable.invariant.list;
      unused = all-push (λ (u : Multiple). IsIn c.args.n u.factor.e) all u c.loop-variable.invariant.unused c.requires.unused;
      long = all-push (λ (u : Multiple). length u.factor.e ≡ 8) all u c.loop-variable.invariant.long long;
    })
