use Rattle.std.proofs.Common.{◌≡◌, ◌≢◌, pos, map, ap₂, ◌∙◌, arith, slice_index_or}
use Rattle.std.proofs.lemmas.Int.{ints}
use Rattle.ring_law.specs.Fraction.{frac_value}
use Rattle.ring_law.specs.declared.fraction.Frac.{Frac}
use Rattle.ring_theory.specs.Rational.{rational_ops}
use Rattle.ring_theory.specs.Height.{rational_scalars}
use Rattle.ring_law.proofs.Exits.{handed_on}
use Rattle.ring_law.proofs.FractionLaws.{nonzero_value}
use Rattle.move_law.specs.Moves.{over}
use Rattle.bin_forms.specs.Pairs.{coefficient}
use Rattle.normal_forms.proofs.JLines.{value_read}
use Rattle.bin_forms.proofs.PairSteps.{corner_answer, roots_answer, over_answer, roots_high}
use Rattle.bin_forms.proofs.pair.pair_lines.Goals as goal

abbrev nothing_there : Frac
nothing_there = record { num = pos 0; den = pos 0 }

pub returns-then-q0-eq0-clause-pair : goal.returns-then-q0-eq0-clause-pair
returns-then-q0-eq0-clause-pair c =
    let zero : (slice_index_or c.args.q 0 nothing_there).num ≡ pos 0 = omega (arith, ints) in
    corner_answer (map frac_value c.args.q) (slice_index_or c.args.q 0 nothing_there) (value_read c.args.q 0 nothing_there (omega arith)) (c.requires.elems 0 nothing_there (omega arith)) zero

pub quotient-requires-clause-nonzero : goal.quotient-requires-clause-nonzero
quotient-requires-clause-nonzero c = nonzero_value (slice_index_or c.args.q 0 nothing_there) (c.requires.elems 0 nothing_there (omega arith)) (λ e. omega (arith, ints))

pub quotient-requires-2-clause-nonzero : goal.quotient-requires-2-clause-nonzero
quotient-requires-2-clause-nonzero c = nonzero_value (slice_index_or c.args.q 0 nothing_there) (c.requires.elems 0 nothing_there (omega arith)) (λ e. omega (arith, ints))

pub returns-in_err-low-clause-range : goal.returns-in_err-low-clause-range
returns-in_err-low-clause-range c =
    let q = c.args.q in
    let x0 = slice_index_or q 0 nothing_there in
    let e0 : frac_value x0 ≡ coefficient (map frac_value q) 0 = value_read q 0 nothing_there (omega arith) in
    let e1 : frac_value (slice_index_or q 1 nothing_there) ≡ coefficient (map frac_value q) 1 = value_read q 1 nothing_there (omega arith) in
    let e2 : frac_value (slice_index_or q 2 nothing_there) ≡ coefficient (map frac_value q) 2 = value_read q 2 nothing_there (omega arith) in
    let some : coefficient (map frac_value q) 0 ≢ rational_ops.zero = λ z. nonzero_value x0 (c.requires.elems 0 nothing_there (omega arith)) (λ e. omega (arith, ints)) (e0 ∙ z) in
    let m1_is : frac_value c.in_ok-m1.m1 ≡ over rational_scalars (coefficient (map frac_value q) 1) (coefficient (map frac_value q) 0) = c.in_ok-m1.ensures.value ∙ ap₂ (over rational_scalars) e1 e0 in
    let m0_is : frac_value c.in_ok-m0.m0 ≡ over rational_scalars (coefficient (map frac_value q) 2) (coefficient (map frac_value q) 0) = c.in_ok-m0.ensures.value ∙ ap₂ (over rational_scalars) e2 e0 in
    handed_on _ c.from_residual-in_err-low.ensures.1 (roots_high (map frac_value q) c.in_ok-m1.m1 c.in_ok-m0.m0 some m1_is m0_is) c.in_err-low.ensures.cause

pub returns-in-Some-clause-pair : goal.returns-in-Some-clause-pair
returns-in-Some-clause-pair c =
    let q = c.args.q in
    let x0 = slice_index_or q 0 nothing_there in
    let e0 : frac_value x0 ≡ coefficient (map frac_value q) 0 = value_read q 0 nothing_there (omega arith) in
    let e1 : frac_value (slice_index_or q 1 nothing_there) ≡ coefficient (map frac_value q) 1 = value_read q 1 nothing_there (omega arith) in
    let e2 : frac_value (slice_index_or q 2 nothing_there) ≡ coefficient (map frac_value q) 2 = value_read q 2 nothing_there (omega arith) in
    let some : coefficient (map frac_value q) 0 ≢ rational_ops.zero = λ z. nonzero_value x0 (c.requires.elems 0 nothing_there (omega arith)) (λ e. omega (arith, ints)) (e0 ∙ z) in
    let m1_is : frac_value c.in_ok-m1.m1 ≡ over rational_scalars (coefficient (map frac_value q) 1) (coefficient (map frac_value q) 0) = c.in_ok-m1.ensures.value ∙ ap₂ (over rational_scalars) e1 e0 in
    let m0_is : frac_value c.in_ok-m0.m0 ≡ over rational_scalars (coefficient (map frac_value q) 2) (coefficient (map frac_value q) 0) = c.in_ok-m0.ensures.value ∙ ap₂ (over rational_scalars) e2 e0 in
    roots_answer (map frac_value q) c.in_ok-m1.m1 c.in_ok-m0.m0 some m1_is m0_is c.in-Some.low c.in-Some.high (rw c.in-Some.is at c.in_ok-low.ensures.roots)

pub returns-in-None-clause-pair : goal.returns-in-None-clause-pair
returns-in-None-clause-pair c =
    let q = c.args.q in
    let x0 = slice_index_or q 0 nothing_there in
    let e0 : frac_value x0 ≡ coefficient (map frac_value q) 0 = value_read q 0 nothing_there (omega arith) in
    let e1 : frac_value (slice_index_or q 1 nothing_there) ≡ coefficient (map frac_value q) 1 = value_read q 1 nothing_there (omega arith) in
    let e2 : frac_value (slice_index_or q 2 nothing_there) ≡ coefficient (map frac_value q) 2 = value_read q 2 nothing_there (omega arith) in
    let some : coefficient (map frac_value q) 0 ≢ rational_ops.zero = λ z. nonzero_value x0 (c.requires.elems 0 nothing_there (omega arith)) (λ e. omega (arith, ints)) (e0 ∙ z) in
    let m1_is : frac_value c.in_ok-m1.m1 ≡ over rational_scalars (coefficient (map frac_value q) 1) (coefficient (map frac_value q) 0) = c.in_ok-m1.ensures.value ∙ ap₂ (over rational_scalars) e1 e0 in
    let m0_is : frac_value c.in_ok-m0.m0 ≡ over rational_scalars (coefficient (map frac_value q) 2) (coefficient (map frac_value q) 0) = c.in_ok-m0.ensures.value ∙ ap₂ (over rational_scalars) e2 e0 in
    over_answer (map frac_value q) c.in_ok-m1.m1 c.in_ok-m0.m0 some m1_is m0_is c.in_ok-m1.ensures.elem c.in_ok-m0.ensures.elem (rw c.in-None.is at c.in_ok-low.ensures.roots)
