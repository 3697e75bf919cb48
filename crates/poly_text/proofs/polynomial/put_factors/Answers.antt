use Rattle.std.proofs.Common.{ℕ, List, [], ◌++◌, get_or, sym, ap, ◌∙◌}
use Rattle.poly_text.specs.Polynomials.{factor_text}
use Rattle.poly_text.proofs.Factors.{goes_on, factors_step, factors_past}
use Rattle.poly_text.proofs.polynomial.put_factors.Goals as goal
use Rattle.poly_text.proofs.polynomial.put_factors.Goals.{then-i-exponents+in_ok-put_factor, else-i-exponents}

pub loop-i-preserved : goal.loop-i-preserved
loop-i-preserved c =
    let names = c.args.names.now in
    let exponents = c.args.exponents.now in
    let i = c.loop-i.i in
    elim c.if-i-exponents.branch [
      | then-i-exponents+in_ok-put_factor w ↦ goes_on c.args.out.now.items c.loop-i.out.items (factor_text (get_or names i (record { bytes = []; len = 0 })) (get_or exponents i 0)) _ _ _ _ c.loop-i.invariant
          (factors_step i names exponents (record { bytes = []; len = 0 }) 0 c.loop-i-test.true w.if-i-exponents.true) (rw w.out-is w.in_ok-put_factor.ensures)
      | else-i-exponents w ↦ rw w.out-is (ap (λ (x : List ℕ). c.loop-i.out.items ++ x) (sym (factors_past i names exponents w.if-i-exponents.false)) ∙ c.loop-i.invariant)
    ]
