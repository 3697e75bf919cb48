use Rattle.std.proofs.Common.{◌≡◌, ◌≤◌, ◌^◌, ℤ, pos, FitsSigned, to_z-of_z, sym, ap, subst, ◌∙◌, arith}
use Rattle.std.specs.Int.{w128}
use Rattle.ring_theory.specs.Rational.{rational}
use Rattle.ring_law.specs.Fraction.{IsFrac, frac_value}
use Rattle.ring_law.specs.declared.fraction.Frac.{Frac}
use Rattle.ring_law.proofs.Exits.{refused_by}
use Rattle.jet_poly.proofs.Steps.{if_ok}
use Rattle.normal_forms.proofs.Invariants.{inverse_valid}
use Rattle.bin_forms.proofs.number.part_of.Goals as goal

abbrev frac_of : ℤ → Frac
frac_of n = record { num = pos 1; den = n }

pub inject-inverse-requires-clause-frac : goal.inject-inverse-requires-clause-frac
inject-inverse-requires-clause-frac g c =
    let fits : FitsSigned w128 c.from.result = record { sfits = c.from.type_inv } in
    subst (λ z. IsFrac (frac_of z)) (sym (to_z-of_z fits ∙ c.from.ensures)) (inverse_valid c.args.n c.requires.divisor (omega arith))

pub returns-clause-value : goal.returns-clause-value
returns-clause-value g c =
    let fits : FitsSigned w128 c.from.result = record { sfits = c.from.type_inv } in
    let m = g.R.Ring.meaning c.args.ring.now in
    let inverse : m.value c.inject-inverse.result ≡ m.scalars.rational (rational (pos 1) c.args.n) = c.inject-inverse.ensures.value ∙ ap (λ z. m.scalars.rational (frac_value (frac_of z))) (to_z-of_z fits ∙ c.from.ensures) in
    if_ok c.mul.result (λ y h. h ∙ ap (λ z. m.scalars.ops.mul z (m.value c.args.v)) inverse) c.mul.ensures.value

pub returns-clause-range : goal.returns-clause-range
returns-clause-range g c =
    let fits : FitsSigned w128 c.from.result = record { sfits = c.from.type_inv } in
    let m = g.R.Ring.meaning c.args.ring.now in
    let inverse : m.value c.inject-inverse.result ≡ m.scalars.rational (rational (pos 1) c.args.n) = c.inject-inverse.ensures.value ∙ ap (λ z. m.scalars.rational (frac_value (frac_of z))) (to_z-of_z fits ∙ c.from.ensures) in
    refused_by (λ high. subst (λ z. 2 ^ 120 ≤ m.scalars.product_height z (m.value c.args.v)) inverse high) c.mul.ensures.cause
