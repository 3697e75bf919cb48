use Rattle.std.proofs.Common.{◌++◌, All, inl, inr, ap, sym, ◌∙◌, subst}
use Rattle.ring_law.proofs.Exits.{fault_handed_on, faulted_by}
use Rattle.poly_law.specs.ExpList.{exps}
use Rattle.poly_law.specs.Poly.{scale}
use Rattle.mono_exp.specs.Exponents.{IsIn}
use Rattle.jet_law.specs.Terms.{poly_of}
use Rattle.jet_subst.specs.Substitutions.{IsMultipleHigh}
use Rattle.jet_subst.proofs.Reduced.{jet_variables}
use Rattle.jet_subst.proofs.Tables.{on_ok}
use Rattle.jet_subst.proofs.substitution.push_multiples.Goals as goal

pub returns-clause-variables : goal.returns-clause-variables
returns-clause-variables g c =
    let m = g.R.Ring.meaning c.args.ring.now in
    on_ok c.push_scaled.result
    (λ h. h c.args.n c.requires.variables (subst (All (λ u. IsIn c.args.n u.0.e)) (sym c.terms.ensures.terms) (jet_variables m c.args.n c.args.k _ c.in_ok-power.power c.in_ok-power.ensures.product)))
    c.push_scaled.ensures.variables

pub returns-clause-adds : goal.returns-clause-adds
returns-clause-adds g c =
    let m = g.R.Ring.meaning c.args.ring.now in
    on_ok c.push_scaled.result
    (λ h. record {
      power = poly_of c.args.n m.value c.in_ok-power.power.terms;
      power_is = c.in_ok-power.ensures.product.truncation;
      adds = h c.args.n ∙ ap (λ z. poly_of c.args.n m.value c.args.all.now.items ++ scale (exps c.args.n) m.scalars.ops (m.value c.args.t.1) (poly_of c.args.n m.value z)) c.terms.ensures.terms;
    })
    c.push_scaled.ensures.multiples

pub returns-clause-range : goal.returns-clause-range
returns-clause-range g c =
    let m = g.R.Ring.meaning c.args.ring.now in
    faulted_by
    (λ h. record {
      high = inr (
        poly_of c.args.n m.value c.in_ok-power.power.terms,
        c.in_ok-power.ensures.product.truncation,
        subst (λ z. IsMultipleHigh m.scalars (m.value c.args.t.1) (poly_of c.args.n m.value z)) c.terms.ensures.terms (h c.args.n),
      );
    })
    c.push_scaled.ensures.range

pub returns-in_err-power-clause-range : goal.returns-in_err-power-clause-range
returns-in_err-power-clause-range g c = fault_handed_on _ c.from_residual.ensures.1 (λ high. record { high = inl high }) c.in_err-power.ensures.range
