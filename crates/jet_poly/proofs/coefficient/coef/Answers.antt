use Rattle.std.proofs.Common.{rules, ◌≡◌, ◌≤◌, length, ltb-true, sym, ap, ◌∙◌}
use Rattle.poly_law.specs.ExpList.{exps}
use Rattle.poly_law.specs.Poly.{coefficient}
use Rattle.jet_law.specs.Terms.{exp_of, poly_of}
use Rattle.jet_poly.proofs.Coefficients.{within-eight, all-in-eight, coefficient-found, coefficient-skipped, coefficient-none, coefficient-in}
use Rattle.jet_poly.proofs.coefficient.coef.Goals as goal
use Rattle.jet_poly.proofs.coefficient.coef.Goals.{in_default-via-in-Some+else-is_same, in_default-via-in_default}

pub returns-in-Some-clause-value : goal.returns-in-Some-clause-value
returns-in-Some-clause-value g c =
    let m = g.R.Ring.meaning c.args.ring.now in
    let long : length c.args.a.e ≡ 8 = search rules in
    let within = within-eight c.args.a.e long in
    let all = all-in-eight c.args.f.now.n c.terms-terms.result.now c.args.f.now.terms c.requires.at_most_8_variables c.terms-terms.ensures.terms c.requires.jet.variables in
    coefficient-found m.scalars.ops (g.met.R.Ring.laws c.args.ring.now c.requires.ring).numbers.ring m.value c.args.a c.terms-terms.result.now c.place_of.result c.in-Some.t.now
    (ltb-true _ _ (sym c.in-Some.ensures.lookup.0)) c.in-Some.ensures.lookup.1 c.terms-terms.ensures.rising all within c.place_of.ensures.place.0 (sym c.is_same.ensures ∙ c.if-is_same.true)
    ∙ ap (λ f. coefficient (exps 8) m.scalars.ops (poly_of 8 m.value f) (exp_of 8 c.args.a)) c.terms-terms.ensures.terms

pub returns-in_default-clause-value : goal.returns-in_default-clause-value
returns-in_default-clause-value g c =
    let m = g.R.Ring.meaning c.args.ring.now in
    let long : length c.args.a.e ≡ 8 = search rules in
    let within = within-eight c.args.a.e long in
    let all = all-in-eight c.args.f.now.n c.terms-terms.result.now c.args.f.now.terms c.requires.at_most_8_variables c.terms-terms.ensures.terms c.requires.jet.variables in
    let ops = m.scalars.ops in
    let ring = (g.met.R.Ring.laws c.args.ring.now c.requires.ring).numbers.ring in
    let terms = c.terms-terms.result.now in
    let nothing : coefficient (exps 8) ops (poly_of 8 m.value terms) (exp_of 8 c.args.a) ≡ ops.zero = elim c.in_default.branch [
      | in_default-via-in-Some+else-is_same w ↦ coefficient-skipped ops ring m.value c.args.a terms c.place_of.result w.in-Some.t.now
          (ltb-true _ _ (sym w.in-Some.ensures.lookup.0)) w.in-Some.ensures.lookup.1 c.terms-terms.ensures.rising all within c.place_of.ensures.place (sym w.is_same.ensures ∙ w.if-is_same.false)
      | in_default-via-in_default w ↦
          let past : length terms ≤ c.place_of.result = search rules in
          coefficient-none ops ring m.value c.args.a terms c.place_of.result past all within c.place_of.ensures.place.0
    ] in
    c.zero.ensures.value ∙ sym nothing
    ∙ ap (λ f. coefficient (exps 8) ops (poly_of 8 m.value f) (exp_of 8 c.args.a)) c.terms-terms.ensures.terms

pub returns-in-Some-clause-in_variables : goal.returns-in-Some-clause-in_variables
returns-in-Some-clause-in_variables g c i =
    let m = g.R.Ring.meaning c.args.ring.now in
    returns-in-Some-clause-value g c
    ∙ coefficient-in m.scalars.ops (g.met.R.Ring.laws c.args.ring.now c.requires.ring).numbers.ring m.value c.args.a c.args.f.now.n c.args.f.now.terms c.requires.at_most_8_variables c.requires.jet.variables i

pub returns-in_default-clause-in_variables : goal.returns-in_default-clause-in_variables
returns-in_default-clause-in_variables g c i =
    let m = g.R.Ring.meaning c.args.ring.now in
    returns-in_default-clause-value g c
    ∙ coefficient-in m.scalars.ops (g.met.R.Ring.laws c.args.ring.now c.requires.ring).numbers.ring m.value c.args.a c.args.f.now.n c.args.f.now.terms c.requires.at_most_8_variables c.requires.jet.variables i
