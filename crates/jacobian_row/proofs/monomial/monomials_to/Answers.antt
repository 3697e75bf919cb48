use Rattle.std.proofs.Common.{◌≡◌, ◌+◌, ◌∙◌, ◌++◌, suc, map, sym, ap, ap₂, arith}
use Rattle.mono_exp.specs.declared.exponent.Exp.{Exp}
use Rattle.mono_exp.specs.Exponents.{exponents, monomials_below}
use Rattle.jacobian_row.proofs.MultipleLemmas.{below-none, below-split}
use Rattle.jacobian_row.proofs.monomial.monomials_to.Goals as goal

pub loop-degree-init : goal.loop-degree-init
loop-degree-init c = rw c.new-all.ensures.items (record { list = sym (below-none c.args.n); unused = λ k d h. absurd (omega arith) })

pub add_monomials-requires-clause-unused : goal.add_monomials-requires-clause-unused
add_monomials-requires-clause-unused c = rw c.deref.ensures.value c.in_ok-more.ensures.unused

pub loop-degree-preserved : goal.loop-degree-preserved
loop-degree-preserved c =
    let n = c.args.n in
    let d = c.loop-degree.degree in
    record {
      list = c.in_ok-add_monomials.ensures.list
          ∙ ap₂ (λ xs ys. xs ++ ys) c.loop-degree.invariant.list (ap (map (λ (a : Exp). exponents n a.e)) c.deref.ensures.value ∙ c.in_ok-more.ensures.list)
          ∙ sym (below-split n d) ∙ ap (monomials_below n) (let e : suc d ≡ d + 1 = omega arith in e);
      unused = c.in_ok-add_monomials.ensures.unused;
    }

pub returns-clause-list : goal.returns-clause-list
returns-clause-list c = c.loop-degree.invariant.list ∙ ap (monomials_below c.args.n) (let e : c.loop-degree.degree ≡ suc c.args.k = omega arith in e)
