use Rattle.std.proofs.Common.{◌≡◌, ◌<◌, [], length, get_or, take, sym, ap, subst, ◌∙◌, arith}
use Rattle.std.specs.List.{AllByRecursion}
use Rattle.std.proofs.lemmas.List.{take_more}
use Rattle.std.proofs.lemmas.List.Elements.{All-from_recursion}
use Rattle.ring_law.proofs.Exits.{fault_handed_on}
use Rattle.jet_law.specs.Terms.{exp_of, poly_of}
use Rattle.jet_poly.proofs.Output.{all-push}
use Rattle.jacobian_row.specs.Multiples.{product_to}
use Rattle.jacobian_row.specs.Multipliers.{multiple_at}
use Rattle.jacobian_row.proofs.ListSteps.{same_default}
use Rattle.check_rows.specs.Lists.{list_at}
use Rattle.check_rows.proofs.JetLemmas.{answer_no, not_both}
use Rattle.check_quotient.specs.Tables.{IsInKernel, IsImageHigh, IsMultipleInKernel}
use Rattle.check_quotient.proofs.image.are_in_kernel.Goals as goal

pub returns-in_err-inside-clause-range : goal.returns-in_err-inside-clause-range
returns-in_err-inside-clause-range g c =
    let m = g.R.Ring.meaning c.args.ring.now in
    let n = c.args.n in
    let i = c.loop-u.u-index in
    let u = multiple_at c.args.multiples.now i in
    let partials = c.args.partials.now in
    let f = c.index-partials-from.result in
    let variable : u.variable < length partials = c.requires.places i (record { factor = record { e = [] }; variable = 0 }) c.loop-u-test.true in
    let read : f ≡ get_or partials u.variable f = c.index-partials-from.is ∙ ap (λ j. get_or partials j f) c.from.ensures in
    let same : poly_of n m.value c.deref.result.now ≡ product_to n m.scalars.ops c.args.k (exp_of n u.factor) (list_at n m.value partials u.variable)
    = ap (poly_of n m.value) c.deref.ensures.value ∙ c.in_ok-f.ensures.product
    ∙ ap (λ x. product_to n m.scalars.ops c.args.k (exp_of n u.factor) (poly_of n m.value x)) (c.as_slice-partial.ensures ∙ read ∙ same_default partials u.variable f [] variable) in
    fault_handed_on _ c.from_residual-in_err-inside.ensures.1
    (λ high. record { at = i; inside = c.loop-u-test.true; image = subst (IsImageHigh m n c.args.table.now c.args.size) same high })
    c.in_err-inside.ensures.range

pub loop-u-preserved : goal.loop-u-preserved
loop-u-preserved g c =
    let m = g.R.Ring.meaning c.args.ring.now in
    let n = c.args.n in
    let us = c.args.multiples.now in
    let i = c.loop-u.u-index in
    let u = multiple_at us i in
    let partials = c.args.partials.now in
    let f = c.index-partials-from.result in
    let variable : u.variable < length partials = c.requires.places i (record { factor = record { e = [] }; variable = 0 }) c.loop-u-test.true in
    let read : f ≡ get_or partials u.variable f = c.index-partials-from.is ∙ ap (λ j. get_or partials j f) c.from.ensures in
    let same : poly_of n m.value c.deref.result.now ≡ product_to n m.scalars.ops c.args.k (exp_of n u.factor) (list_at n m.value partials u.variable)
    = ap (poly_of n m.value) c.deref.ensures.value ∙ c.in_ok-f.ensures.product
    ∙ ap (λ x. product_to n m.scalars.ops c.args.k (exp_of n u.factor) (poly_of n m.value x)) (c.as_slice-partial.ensures ∙ read ∙ same_default partials u.variable f [] variable) in
    let holds = IsMultipleInKernel m n c.args.table.now c.args.size c.args.k (list_at n m.value partials) in
    let here : IsMultipleInKernel m n c.args.table.now c.args.size c.args.k (list_at n m.value partials) u
    = subst (IsInKernel m n c.args.table.now c.args.size) same (c.in_ok-inside.ensures.kernel.0 c.if-not-inside.false) in
    record {
      within = omega arith;
      so_far = subst (AllByRecursion holds) (sym (take_more us i (record { factor = record { e = [] }; variable = 0 }) c.loop-u-test.true)) (all-push holds (take i us) u c.loop-u.invariant.so_far here);
    }

pub returns-then-not-inside-clause-kernel : goal.returns-then-not-inside-clause-kernel
returns-then-not-inside-clause-kernel g c =
    let m = g.R.Ring.meaning c.args.ring.now in
    let n = c.args.n in
    let us = c.args.multiples.now in
    let i = c.loop-u.u-index in
    let u = multiple_at us i in
    let partials = c.args.partials.now in
    let f = c.index-partials-from.result in
    let variable : u.variable < length partials = c.requires.places i (record { factor = record { e = [] }; variable = 0 }) c.loop-u-test.true in
    let read : f ≡ get_or partials u.variable f = c.index-partials-from.is ∙ ap (λ j. get_or partials j f) c.from.ensures in
    let same : poly_of n m.value c.deref.result.now ≡ product_to n m.scalars.ops c.args.k (exp_of n u.factor) (list_at n m.value partials u.variable)
    = ap (poly_of n m.value) c.deref.ensures.value ∙ c.in_ok-f.ensures.product
    ∙ ap (λ x. product_to n m.scalars.ops c.args.k (exp_of n u.factor) (poly_of n m.value x)) (c.as_slice-partial.ensures ∙ read ∙ same_default partials u.variable f [] variable) in
    answer_no (λ all.
    (let here = All-from_recursion (IsMultipleInKernel m n c.args.table.now c.args.size c.args.k (list_at n m.value partials)) us all i (record { factor = record { e = [] }; variable = 0 }) c.loop-u-test.true in
    not_both c.in_ok-inside.inside (c.in_ok-inside.ensures.kernel.1 (subst (IsInKernel m n c.args.table.now c.args.size) (sym same) here)) c.if-not-inside.true))
