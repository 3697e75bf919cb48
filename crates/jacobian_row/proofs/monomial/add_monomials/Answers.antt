use Rattle.std.proofs.Common.{◌≡◌, ◌∙◌, ◌++◌, [], get_or, map, sym, ap, append-nil, take_all, arith}
use Rattle.mono_exp.specs.declared.exponent.Exp.{Exp}
use Rattle.mono_exp.specs.Exponents.{IsIn, exponents}
use Rattle.mono_exp.proofs.ListLemmas.{all-push}
use Rattle.jacobian_row.proofs.ListSteps.{element, images_after, same_default}
use Rattle.jacobian_row.proofs.monomial.add_monomials.Goals as goal

pub loop-a-init : goal.loop-a-init
loop-a-init c = record { list = sym (append-nil (map (λ (a : Exp). exponents c.args.n a.e) c.args.all.now.items)); unused = c.requires.all_unused }

pub loop-a-preserved : goal.loop-a-preserved
loop-a-preserved c =
    let n = c.args.n in
    let a : Exp = get_or c.args.more.now c.loop-a.a-index (record { e = [] }) in
    let read : a ≡ get_or c.args.more.now c.loop-a.a-index a = same_default c.args.more.now c.loop-a.a-index (record { e = [] }) a c.loop-a-test.true in
    rw c.in_ok-push.ensures.items
    (record {
      list = images_after (λ (b : Exp). exponents n b.e) c.loop-a.all.items c.args.more.now _ c.loop-a.a-index a c.loop-a-test.true read c.loop-a.invariant.list;
      unused = all-push (λ (b : Exp). IsIn n b.e) c.loop-a.all.items a c.loop-a.invariant.unused
          (element (λ (b : Exp). IsIn n b.e) c.args.more.now c.loop-a.a-index a c.loop-a-test.true read c.requires.unused);
    })

pub returns-clause-list : goal.returns-clause-list
returns-clause-list c =
    c.loop-a.invariant.list ∙ ap (λ ys. map (λ (a : Exp). exponents c.args.n a.e) c.args.all.now.items ++ map (λ (a : Exp). exponents c.args.n a.e) ys) (take_all c.loop-a.a-index c.args.more.now (omega arith))
