use Rattle.std.proofs.Common.{◌∙◌, ◌++◌, [], map, refl, sym, ap, subst, append-nil, take_all, arith}
use Rattle.std.specs.List.{All}
use Rattle.mono_exp.specs.declared.exponent.Exp.{Exp}
use Rattle.mono_exp.specs.Exponents.{IsIn, exponents}
use Rattle.jacobian_row.specs.Multiples.{pair_of}
use Rattle.jacobian_row.proofs.MultipleLemmas.{blocks, factor_step}
use Rattle.jacobian_row.proofs.multiple.add_degree.Goals as goal

pub loop-factor-init : goal.loop-factor-init
loop-factor-init c = record { list = sym (append-nil (map (pair_of c.args.n) c.args.all.now.items)); unused = c.requires.all_unused; long = c.requires.all_long }

pub add_multiples-requires-clause-unused : goal.add_multiples-requires-clause-unused
add_multiples-requires-clause-unused c =
    subst (All (λ (a : Exp). IsIn c.args.n a.e)) (sym c.deref-factor-items.ensures.value) c.in_ok-factors.ensures.unused c.loop-factor.factor-index (record { e = [] }) c.loop-factor-test.true

pub loop-factor-preserved : goal.loop-factor-preserved
loop-factor-preserved c = record {
  list = factor_step c.args.n c.deref-factor-items.result.now c.loop-factor.factor-index _ (record { e = [] }) (map (pair_of c.args.n) c.args.all.now.items) (map (pair_of c.args.n) c.loop-factor.all.items) _ c.loop-factor-test.true refl
      c.loop-factor.invariant.list c.in_ok-add_multiples.ensures.list;
  unused = c.in_ok-add_multiples.ensures.unused;
  long = c.in_ok-add_multiples.ensures.long;
}

pub returns-clause-list : goal.returns-clause-list
returns-clause-list c =
    let factors = c.deref-factor-items.result.now in
    c.loop-factor.invariant.list
    ∙ ap (λ ys. map (pair_of c.args.n) c.args.all.now.items ++ blocks c.args.n ys)
    (ap (map (λ (b : Exp). exponents c.args.n b.e)) (take_all c.loop-factor.factor-index factors (omega arith) ∙ c.deref-factor-items.ensures.value) ∙ c.in_ok-factors.ensures.list)
