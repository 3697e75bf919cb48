use Rattle.std.proofs.Common.{◌∙◌, ◌+◌, ◌≤◌, ap, sym, subst, sum, arith}
use Rattle.std.specs.Prelude.{nat_le}
use Rattle.std.specs.List.{All, list_all}
use Rattle.std.proofs.lemmas.List.Elements.{All-from_recursion}
use Rattle.line_syntax.proofs.Bools.{and_left}
use Rattle.ring_law.proofs.Exits.{faulted_by}
use Rattle.ext_algebra.specs.Algebra.{IsElement, ops, scalars}
use Rattle.poly_law.specs.ExpList.{exps}
use Rattle.poly_law.specs.Poly.{MatherFails}
use Rattle.mono_exp.specs.Exponents.{IsIn}
use Rattle.jet_law.specs.Canonical.{monomial_in}
use Rattle.jet_poly.proofs.GatheredLemmas.{weaker}
use Rattle.jet_poly.proofs.Steps.{if_ok}
use Rattle.normal_forms.specs.Monomials.{monomials_in}
use Rattle.cert_text.specs.WellFormed.{is_monomial_in}
use Rattle.report_law.specs.Polynomials.{terms_in}
use Rattle.report_law.specs.Items.{residual_of}
use Rattle.report_jet.proofs.ReportJets.{algebra_valid, monomial_inside}
use Rattle.check_rows.specs.Functionals.{AreValuesHigh}
use Rattle.check_rows.proofs.JetLemmas.{answer_no, not_both}
use Rattle.check_rows.proofs.ReportLemmas.{IsValueOver, values_over, low_degrees, fails_is, is_fails, values_are_high}
use Rattle.check_rows.proofs.report.is_limit_functional.Goals as goal

pub returns-then-not-is_split_jet-clause-functional : goal.returns-then-not-is_split_jet-clause-functional
returns-then-not-is_split_jet-clause-functional c = answer_no (λ d. not_both c.is_split_jet.result (c.is_split_jet.ensures ∙ d.split) c.if-not-is_split_jet.true)

pub returns-then-not-is_low-clause-functional : goal.returns-then-not-is_low-clause-functional
returns-then-not-is_low-clause-functional c =
    answer_no (λ d. not_both c.is_low.result
    (c.is_low.ensures ∙ ap (λ z. list_all (λ m. nat_le (sum m.e) (c.args.r.now.carried.order + 1)) (monomials_in z)) c.as_slice-values.ensures ∙ d.low) c.if-not-is_low.true)

pub is_failure-requires-clause-ring : goal.is_failure-requires-clause-ring
is_failure-requires-clause-ring c = algebra_valid c.args.r.now.carried.algebra c.requires.well_formed.carried.algebra

pub is_failure-requires-clause-at_most_8_variables : goal.is_failure-requires-clause-at_most_8_variables
is_failure-requires-clause-at_most_8_variables c = let n = c.in-Ok.ensures.n in let a = c.requires.well_formed.carried.corank in let b = c.requires.well_formed.carried.few_names in omega arith

pub is_failure-requires-clause-elems : goal.is_failure-requires-clause-elems
is_failure-requires-clause-elems c =
    let r = c.args.r.now in
    subst (All (λ t. IsElement r.carried.algebra t.1)) (sym c.as_slice-values.ensures)
    (All-from_recursion (λ t. IsElement r.carried.algebra t.1) r.functional (weaker (IsValueOver r.carried) (λ t. IsElement r.carried.algebra t.1) (λ t v. v.elem) r.functional (values_over r.carried r.functional c.requires.well_formed.functional)))

pub is_failure-requires-clause-variables : goal.is_failure-requires-clause-variables
is_failure-requires-clause-variables c =
    let r = c.args.r.now in
    subst (λ n. All (λ t. IsIn n t.0.e) c.as_slice-values.result.now) (sym c.in-Ok.ensures.n)
    (subst (All (λ t. IsIn r.carried.corank t.0.e)) (sym c.as_slice-values.ensures)
    (All-from_recursion (λ t. IsIn r.carried.corank t.0.e) r.functional (weaker (IsValueOver r.carried) (λ t. IsIn r.carried.corank t.0.e) (λ t v. v.unused) r.functional (values_over r.carried r.functional c.requires.well_formed.functional))))

pub is_failure-requires-clause-degrees : goal.is_failure-requires-clause-degrees
is_failure-requires-clause-degrees c =
    All-from_recursion (λ t. sum t.0.e ≤ c.args.r.now.carried.order + 1) c.as_slice-values.result.now
    (low_degrees (c.args.r.now.carried.order + 1) c.as_slice-values.result.now (sym c.is_low.ensures ∙ c.if-not-is_low.false))

pub is_failure-requires-clause-unused : goal.is_failure-requires-clause-unused
is_failure-requires-clause-unused c =
    let r = c.args.r.now in
    subst (λ n. IsIn n r.at.e) (sym c.in-Ok.ensures.n)
    (monomial_inside r.carried.corank r.at (and_left (is_monomial_in r.carried.corank r.at) (nat_le (sum r.at.e) 17) c.requires.well_formed.at))

pub returns-in-Ok-clause-functional : goal.returns-in-Ok-clause-functional
returns-in-Ok-clause-functional c =
    let r = c.args.r.now in
    let vs = c.as_slice-values.result.now in
    let e = c.as_slice-values.ensures in
    let g = c.in-Ok.g in
    if_ok c.is_failure.result
    (λ b decides. (
      (λ yes. record {
        split = sym c.is_split_jet.ensures ∙ c.if-not-is_split_jet.false;
        low = sym (ap (λ z. list_all (λ m. nat_le (sum m.e) (r.carried.order + 1)) (monomials_in z)) e) ∙ sym c.is_low.ensures ∙ c.if-not-is_low.false;
        functional = subst (λ z. MatherFails (exps r.carried.corank) (ops r.carried.algebra) r.carried.order (residual_of r.carried) (terms_in r.carried.corank r.carried.algebra z) (monomial_in r.carried.corank r.at.e)) e
            (fails_is r.carried g c.in-Ok.ensures.n c.in-Ok.ensures.polynomial vs r.at (decides.0 yes));
      }),
      (λ d. decides.1 (is_fails r.carried g c.in-Ok.ensures.n c.in-Ok.ensures.polynomial vs r.at
          (subst (λ z. MatherFails (exps r.carried.corank) (ops r.carried.algebra) r.carried.order (residual_of r.carried) (terms_in r.carried.corank r.carried.algebra z) (monomial_in r.carried.corank r.at.e)) (sym e) d.functional))),
    ))
    c.is_failure.ensures.fails

pub returns-in-Ok-clause-range : goal.returns-in-Ok-clause-range
returns-in-Ok-clause-range c =
    let r = c.args.r.now in
    let e = c.as_slice-values.ensures in
    faulted_by
    (λ high. subst (λ z. AreValuesHigh r.carried.corank (scalars r.carried.algebra) r.carried.order (residual_of r.carried) (terms_in r.carried.corank r.carried.algebra z) (monomial_in r.carried.corank r.at.e)) e
    (values_are_high r.carried c.in-Ok.g c.in-Ok.ensures.n c.in-Ok.ensures.polynomial c.as_slice-values.result.now r.at high))
    c.is_failure.ensures.range
