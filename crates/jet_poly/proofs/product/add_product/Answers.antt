use Rattle.std.proofs.Common.{◌+◌, ◌<◌, ◌≤◌, ◌++◌, [], ◌∷◌, cond, sym, ap, ap₂, subst, ◌∙◌, sum, inl, inr, arith}
use Rattle.ring_theory.specs.Scalars.{SumIsHigh}
use Rattle.ring_law.proofs.Exits.{faulted, faulted_by}
use Rattle.poly_law.specs.Exps.{plus}
use Rattle.poly_law.specs.ExpList.{ExpList, exps}
use Rattle.poly_law.specs.Poly.{coefficient, cut}
use Rattle.jet_law.specs.Terms.{exp_of}
use Rattle.jet_law.proofs.TermLemmas.{exp_of-product}
use Rattle.jet_poly.specs.Gathered.{gathered}
use Rattle.jet_poly.proofs.Steps.{on_ok, low-product, high-product}
use Rattle.jet_poly.proofs.product.add_product.Goals as goal

pub returns-in_err-c-clause-range : goal.returns-in_err-c-clause-range
returns-in_err-c-clause-range g c =
    faulted _ c.from_residual.ensures.1
    (λ high. record { low = low-product c.args.n c.args.k c.args.u.0 c.args.t.0 c.requires.u_variables c.requires.t_variables c.requires.degree; high = inl high }) c.in_err-c.ensures.cause

pub returns-clause-sum : goal.returns-clause-sum
returns-clause-sum g c =
    let m = g.R.Ring.meaning c.args.ring.now in
    on_ok c.add_term.result
    (λ same b. same b ∙ ap₂ (λ y z. coefficient (exps c.args.n) m.scalars.ops (cut (exps c.args.n) m.scalars.ops c.args.k ((y, z) ∷ []) ++ gathered c.args.n m.value c.args.sums.now.entries) b)
    (exp_of-product c.args.n c.args.u.0 c.args.t.0 c.unwrap-monomial.result (rw c.unwrap-monomial.ensures at c.times.ensures.product)) c.in_ok-c.ensures.value)
    c.add_term.ensures.sum

pub returns-clause-range : goal.returns-clause-range
returns-clause-range g c =
    let m = g.R.Ring.meaning c.args.ring.now in
    faulted_by
    (λ high. record {
      low = low-product c.args.n c.args.k c.args.u.0 c.args.t.0 c.requires.u_variables c.requires.t_variables c.requires.degree;
      high = inr (subst (λ z. SumIsHigh m.scalars (coefficient (exps c.args.n) m.scalars.ops (gathered c.args.n m.value c.args.sums.now.entries) z) (m.scalars.ops.mul (m.value c.args.u.1) (m.value c.args.t.1)))
          (exp_of-product c.args.n c.args.u.0 c.args.t.0 c.unwrap-monomial.result (rw c.unwrap-monomial.ensures at c.times.ensures.product))
          (subst (λ z. SumIsHigh m.scalars (coefficient (exps c.args.n) m.scalars.ops (gathered c.args.n m.value c.args.sums.now.entries) (exp_of c.args.n c.unwrap-monomial.result)) z) c.in_ok-c.ensures.value high.high));
    })
    c.add_term.ensures.range
