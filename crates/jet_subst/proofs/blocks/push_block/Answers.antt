use Rattle.std.proofs.Common.{◌≡◌, ◌++◌, List, All, filter, sum, eqb, inr, ap, ap₂, sym, ◌∙◌, subst}
use Rattle.std.proofs.lemmas.List.Elements.{All-filter}
use Rattle.ring_law.proofs.Exits.{faulted_by}
use Rattle.poly_law.specs.ExpList.{exps}
use Rattle.poly_law.specs.Poly.{scale}
use Rattle.mono_exp.specs.declared.exponent.Exp.{Exp}
use Rattle.mono_exp.specs.Exponents.{IsIn}
use Rattle.jet_law.specs.Terms.{poly_of}
use Rattle.jet_subst.proofs.Reduced.{jet_variables}
use Rattle.jet_subst.proofs.Tables.{on_ok}
use Rattle.jet_subst.proofs.BlockLemmas
use Rattle.jet_subst.proofs.blocks.push_block.Goals as goal

pub push_scaled-requires-clause-given : goal.push_scaled-requires-clause-given
push_scaled-requires-clause-given g c =
    let m = g.R.Ring.meaning c.args.ring.now in
    let k = c.args.kept.now.order in
    let terms = c.in_ok-power.power.terms in
    let is : c.deref.result.now ≡ filter (λ t. eqb (sum t.0.e) k) terms =
    c.deref.ensures.value ∙ c.in_ok-block.ensures ∙ ap₂ (λ z (ts : List (Exp × g.row.R-Elem.Denot)). filter (λ t. eqb (sum t.0.e) z) ts) c.in_ok-power.ensures.stays.order c.terms.ensures.terms in
    subst (All (λ u. m.is_elem u.1)) (sym is) (All-filter (λ t. eqb (sum t.0.e) k) (λ u. m.is_elem u.1) terms c.in_ok-power.ensures.product.jet.elems)

pub returns-clause-variables : goal.returns-clause-variables
returns-clause-variables g c =
    let m = g.R.Ring.meaning c.args.ring.now in
    let n = c.args.kept.now.n in
    let k = c.args.kept.now.order in
    let terms = c.in_ok-power.power.terms in
    let is : c.deref.result.now ≡ filter (λ t. eqb (sum t.0.e) k) terms =
    c.deref.ensures.value ∙ c.in_ok-block.ensures ∙ ap₂ (λ z (ts : List (Exp × g.row.R-Elem.Denot)). filter (λ t. eqb (sum t.0.e) z) ts) c.in_ok-power.ensures.stays.order c.terms.ensures.terms in
    let inside : All (λ t. IsIn n t.0.e) terms = jet_variables m n k _ c.in_ok-power.power c.in_ok-power.ensures.product in
    on_ok c.push_scaled.result
    (λ h. h n c.requires.variables (subst (All (λ u. IsIn n u.0.e)) (sym is) (All-filter (λ t. eqb (sum t.0.e) k) (λ u. IsIn n u.0.e) terms inside)))
    c.push_scaled.ensures.variables

pub returns-clause-adds : goal.returns-clause-adds
returns-clause-adds g c =
    let m = g.R.Ring.meaning c.args.ring.now in
    let n = c.args.kept.now.n in
    let k = c.args.kept.now.order in
    let terms = c.in_ok-power.power.terms in
    let is : c.deref.result.now ≡ filter (λ t. eqb (sum t.0.e) k) terms =
    c.deref.ensures.value ∙ c.in_ok-block.ensures ∙ ap₂ (λ z (ts : List (Exp × g.row.R-Elem.Denot)). filter (λ t. eqb (sum t.0.e) z) ts) c.in_ok-power.ensures.stays.order c.terms.ensures.terms in
    let inside : All (λ t. IsIn n t.0.e) terms = jet_variables m n k _ c.in_ok-power.power c.in_ok-power.ensures.product in
    on_ok c.push_scaled.result
    (λ h. record {
      power = poly_of n m.value terms;
      power_is = c.in_ok-power.ensures.product.truncation;
      adds = h n ∙ ap (λ z. poly_of n m.value c.args.all.now.items ++ scale (exps n) m.scalars.ops (m.value c.args.t.1) z) (BlockLemmas.block_of m n k terms c.deref.result.now inside is);
    })
    c.push_scaled.ensures.multiples

pub returns-clause-range : goal.returns-clause-range
returns-clause-range g c =
    let m = g.R.Ring.meaning c.args.ring.now in
    let n = c.args.kept.now.n in
    let k = c.args.kept.now.order in
    let terms = c.in_ok-power.power.terms in
    let is : c.deref.result.now ≡ filter (λ t. eqb (sum t.0.e) k) terms =
    c.deref.ensures.value ∙ c.in_ok-block.ensures ∙ ap₂ (λ z (ts : List (Exp × g.row.R-Elem.Denot)). filter (λ t. eqb (sum t.0.e) z) ts) c.in_ok-power.ensures.stays.order c.terms.ensures.terms in
    let inside : All (λ t. IsIn n t.0.e) terms = jet_variables m n k _ c.in_ok-power.power c.in_ok-power.ensures.product in
    faulted_by
    (λ h. record { high = inr (poly_of n m.value terms, c.in_ok-power.ensures.product.truncation, BlockLemmas.block_high m n k c.args.t.1 terms c.deref.result.now inside is (h n)) })
    c.push_scaled.ensures.range
