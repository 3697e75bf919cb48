use Rattle.std.proofs.Common.{[], ◌∷◌}
use Rattle.ring_law.proofs.Exits.{handed_on}
use Rattle.ext_algebra.specs.Algebra.{algebra_meaning}
use Rattle.jet_law.proofs.High.{high_head, high_left, high_right}
use Rattle.ring_formula.specs.Formulas.{formula_heights}
use Rattle.check_form.proofs.modulus.is_quotient.Goals as goal

pub returns-in_err-wanted-clause-range : goal.returns-in_err-wanted-clause-range
returns-in_err-wanted-clause-range c =
    let m = algebra_meaning c.args.ring.now.algebra in
    handed_on _ c.from_residual.ensures.1
    (high_left (formula_heights m.scalars (m.value c.args.letter ∷ []) c.args.numerator.now) (m.scalars.product_height (m.value c.args.q) (m.value c.args.divisor) ∷ []))
    c.in_err-wanted.ensures.range

pub returns-in_err-product-clause-range : goal.returns-in_err-product-clause-range
returns-in_err-product-clause-range c =
    let m = algebra_meaning c.args.ring.now.algebra in
    let h = m.scalars.product_height (m.value c.args.q) (m.value c.args.divisor) in
    handed_on _ c.from_residual-in_err-product.ensures.1
    (λ high. high_right (formula_heights m.scalars (m.value c.args.letter ∷ []) c.args.numerator.now) (h ∷ []) (high_head h [] high))
    c.in_err-product.ensures.cause
