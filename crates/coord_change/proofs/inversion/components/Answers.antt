use Rattle.std.proofs.Common.{◌≡◌, ◌<◌, ◌≤◌, ◌+◌, ℕ, List, [], ◌∷◌, length, get_or, All, length-append, sym, ◌∙◌, ap, subst, refl, arith}
use Rattle.ring_law.proofs.Exits.{fault_handed_on}
use Rattle.poly_law.specs.ExpList.{exps}
use Rattle.poly_law.specs.Polynomials.{SameIn, cut_in, substitute}
use Rattle.mono_exp.specs.declared.exponent.Exp.{Exp}
use Rattle.jet_law.specs.Terms.{poly_of}
use Rattle.jet_poly.specs.JetTerms.{JetTerms, IsRising}
use Rattle.jet_subst.specs.Parts.{IsPart, variables_of, jet_at, part_of}
use Rattle.jet_subst.specs.Substitutions.{IsSubstHigh}
use Rattle.jet_subst.proofs.PowerLemmas.{any_default}
use Rattle.jet_subst.proofs.Tables.{all_push}
use Rattle.coord_change.specs.InverseChanges.{IsComponent}
use Rattle.coord_change.proofs.ChangeLemmas
use Rattle.coord_change.proofs.InverseSteps
use Rattle.coord_change.proofs.inversion.components.Goals as goal

pub subst-requires-clause-at_most_8_variables : goal.subst-requires-clause-at_most_8_variables
subst-requires-clause-at_most_8_variables g c =
    let m = g.R.Ring.meaning c.args.ring.now in
    let ch = c.requires.change in
    let size : variables_of c.args.jets.now ≡ c.args.c.now.n = ChangeLemmas.variables_are m c.args.c.now.n c.args.jets.now (let z = ch.given in let y = c.requires.count in omega arith) c.requires.jets in
    let few = ch.at_most_8_variables in
    omega arith

pub subst-requires-clause-parts : goal.subst-requires-clause-parts
subst-requires-clause-parts g c =
    let m = g.R.Ring.meaning c.args.ring.now in
    let ch = c.requires.change in
    let size : variables_of c.args.jets.now ≡ c.args.c.now.n = ChangeLemmas.variables_are m c.args.c.now.n c.args.jets.now (let z = ch.given in let y = c.requires.count in omega arith) c.requires.jets in
    subst (λ z. All (IsPart m z) c.args.jets.now) (sym size) c.requires.jets

pub returns-in_err-carried-clause-range : goal.returns-in_err-carried-clause-range
returns-in_err-carried-clause-range g c =
    let m = g.R.Ring.meaning c.args.ring.now in
    let ch = c.requires.change in
    let n = c.args.c.now.n in
    let parts = c.args.c.now.parts in
    let idx = c.loop-p.p-index in
    let size : variables_of c.args.jets.now ≡ n = ChangeLemmas.variables_are m n c.args.jets.now (let z = ch.given in let y = c.requires.count in omega arith) c.requires.jets in
    let inside : idx < length parts = subst (λ (zs : List (JetTerms g.row.R-Elem.Denot)). idx < length zs) c.as_slice-p-items.ensures c.loop-p-test.true in
    let read : c.p-item.result ≡ get_or parts idx c.p-item.result = c.p-item.is ∙ ap (λ zs. get_or zs idx c.p-item.result) c.as_slice-p-items.ensures in
    let here : c.p-item.result ≡ jet_at parts idx = read ∙ any_default parts idx c.p-item.result _ inside in
    let variables : c.p-item.result.n ≡ n = ap (λ (p : JetTerms g.row.R-Elem.Denot). p.n) read ∙ (ch.parts idx c.p-item.result inside).variables in
    fault_handed_on _ c.from_residual.ensures.1
    (λ high. record {
      part = idx;
      inside = subst (λ z. idx < z) ch.count inside;
      high = subst (λ (u : JetTerms g.row.R-Elem.Denot). IsSubstHigh (exps n) (exps n) m.scalars c.args.d (part_of n m.value c.args.jets.now) (poly_of n m.value u.terms)) here
          (ChangeLemmas.high_to m c.p-item.result c.args.jets.now c.args.jets.now n c.args.d refl size variables high);
    })
    c.in_err-carried.ensures.range

pub loop-p-preserved : goal.loop-p-preserved
loop-p-preserved g c =
    let m = g.R.Ring.meaning c.args.ring.now in
    let laws = (g.met.R.Ring.laws c.args.ring.now c.requires.ring).numbers in
    let ch = c.requires.change in
    let n = c.args.c.now.n in
    let parts = c.args.c.now.parts in
    let idx = c.loop-p.p-index in
    let size : variables_of c.args.jets.now ≡ n = ChangeLemmas.variables_are m n c.args.jets.now (let z = ch.given in let y = c.requires.count in omega arith) c.requires.jets in
    let inside : idx < length parts = subst (λ (zs : List (JetTerms g.row.R-Elem.Denot)). idx < length zs) c.as_slice-p-items.ensures c.loop-p-test.true in
    let read : c.p-item.result ≡ get_or parts idx c.p-item.result = c.p-item.is ∙ ap (λ zs. get_or zs idx c.p-item.result) c.as_slice-p-items.ensures in
    let here : c.p-item.result ≡ jet_at parts idx = read ∙ any_default parts idx c.p-item.result _ inside in
    let variables : c.p-item.result.n ≡ n = ap (λ (p : JetTerms g.row.R-Elem.Denot). p.n) read ∙ (ch.parts idx c.p-item.result inside).variables in
    let carried = c.in_ok-carried.carried in
    let made = c.in_ok-component.component in
    let items = c.in_ok-push.ensures.items in
    let value : SameIn n m.scalars.ops (poly_of n m.value carried.terms) (cut_in n m.scalars.ops c.args.d (substitute n n m.scalars.ops (part_of n m.value c.args.jets.now) (part_of n m.value parts idx))) =
    subst (λ (u : JetTerms g.row.R-Elem.Denot). SameIn n m.scalars.ops (poly_of n m.value carried.terms) (cut_in n m.scalars.ops c.args.d (substitute n n m.scalars.ops (part_of n m.value c.args.jets.now) (poly_of n m.value u.terms)))) here
    (ChangeLemmas.value_to m c.p-item.result c.args.jets.now c.args.jets.now n c.args.d refl size variables carried.terms c.in_ok-carried.ensures.value) in
    let component : IsComponent n m.scalars.ops c.args.d (substitute n n m.scalars.ops (part_of n m.value c.args.jets.now) (part_of n m.value parts idx)) (poly_of n m.value made.terms) =
    InverseSteps.component_made m laws.ring n c.args.d carried made (substitute n n m.scalars.ops (part_of n m.value c.args.jets.now) (part_of n m.value parts idx)) (c.in_ok-carried.ensures.n ∙ size)
    (c.in_ok-component.ensures.n ∙ c.in_ok-carried.ensures.n ∙ size) c.in_ok-component.ensures.jet (subst (λ (zs : List (Exp × g.row.R-Elem.Denot)). IsRising zs) c.terms-terms.ensures.terms c.terms-terms.ensures.rising) value c.in_ok-component.ensures.part in
    record {
      within = let c₁ = inside in let e = c.as_slice-p-items.ensures in omega arith;
      count = ap length items ∙ length-append c.loop-p.all.items (made ∷ []) ∙ ap (λ z. z + 1) c.loop-p.invariant.count;
      jets = subst (All (IsPart m n)) (sym items) (all_push (IsPart m n) c.loop-p.all.items made c.loop-p.invariant.jets (record { jet = c.in_ok-component.ensures.jet; variables = c.in_ok-component.ensures.n ∙ c.in_ok-carried.ensures.n ∙ size }));
      components = subst (λ (zs : List (JetTerms g.row.R-Elem.Denot)). (t : ℕ) → t < idx + 1 → IsComponent n m.scalars.ops c.args.d (substitute n n m.scalars.ops (part_of n m.value c.args.jets.now) (part_of n m.value parts t)) (part_of n m.value zs t)) (sym items)
          (ChangeLemmas.parts_more m n (λ t e. IsComponent n m.scalars.ops c.args.d (substitute n n m.scalars.ops (part_of n m.value c.args.jets.now) (part_of n m.value parts t)) e)
          c.loop-p.all.items made idx c.loop-p.invariant.count c.loop-p.invariant.components component);
    }

pub returns-clause-components : goal.returns-clause-components
returns-clause-components g c t h =
    let last : length c.args.c.now.parts ≤ c.loop-p.p-index = subst (λ (zs : List (JetTerms g.row.R-Elem.Denot)). length zs ≤ c.loop-p.p-index) c.as_slice-p-items.ensures c.loop-p-test.false in
    let count = c.requires.change.count in
    c.loop-p.invariant.components t (omega arith)
