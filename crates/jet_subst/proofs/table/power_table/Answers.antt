use Rattle.std.proofs.Common.{◌≡◌, ◌+◌, ◌<◌, [], ◌∷◌, ◌++◌, length, get_or, All, ap, sym, ◌∙◌, refl, subst, length-append}
use Rattle.ring_theory.proofs.ValueSet.{values_are_set}
use Rattle.ring_law.proofs.Exits.{fault_handed_on}
use Rattle.jet_poly.specs.JetTerms.{JetTerms}
use Rattle.jet_poly.specs.Jets.{IsJet}
use Rattle.jet_subst.specs.Parts.{IsPart, IsTable}
use Rattle.jet_subst.proofs.PowerLemmas.{at_index}
use Rattle.jet_subst.proofs.Tables
use Rattle.jet_subst.proofs.table.power_table.Goals as goal

pub powers-requires-clause-jet : goal.powers-requires-clause-jet
powers-requires-clause-jet g c = subst (λ (u : JetTerms g.row.R-Elem.Denot). IsJet (g.R.Ring.meaning c.args.ring.now) u) (sym c.index-parts-i.is) (c.requires.parts c.loop-i.i c.index-parts-i.result c.loop-i-test.true).jet

pub returns-in_err-row-clause-range : goal.returns-in_err-row-clause-range
returns-in_err-row-clause-range g c =
    let r = c.args.ring.now in
    let m = g.R.Ring.meaning r in
    let l = (g.met.R.Ring.laws r c.requires.ring).numbers in
    let part : IsPart m c.args.n c.index-parts-i.result = subst (λ (u : JetTerms g.row.R-Elem.Denot). IsPart m c.args.n u) (sym c.index-parts-i.is) (c.requires.parts c.loop-i.i c.index-parts-i.result c.loop-i-test.true) in
    fault_handed_on _ c.from_residual.ensures.1
    (λ high. Tables.term_high m c.args.n c.args.k c.args.parts.now l.ring (values_are_set m.scalars l) c.args.terms.now c.loop-i.i c.greatest_exponent-most.result c.index-parts-i.result c.loop-i-test.true
    (at_index c.args.parts.now c.loop-i.i c.loop-i.i c.index-parts-i.result c.index-parts-i.is refl c.loop-i-test.true) part.variables (c.greatest_exponent-most.ensures.among c.requires.given) high)
    c.in_err-row.ensures.range

pub loop-i-preserved : goal.loop-i-preserved
loop-i-preserved g c =
    let m = g.R.Ring.meaning c.args.ring.now in
    let part : IsPart m c.args.n c.index-parts-i.result = subst (λ (u : JetTerms g.row.R-Elem.Denot). IsPart m c.args.n u) (sym c.index-parts-i.is) (c.requires.parts c.loop-i.i c.index-parts-i.result c.loop-i-test.true) in
    let items : c.push.new.self.items ≡ c.loop-i.table.items ++ c.in_ok-row.row.items ∷ [] = c.in_ok-push.ensures.items ∙ ap (λ z. c.loop-i.table.items ++ z ∷ []) c.from_vec.ensures in
    record {
      count = ap length items ∙ length-append c.loop-i.table.items (c.in_ok-row.row.items ∷ []) ∙ ap (λ z. z + 1) c.loop-i.invariant.count;
      table = subst (IsTable m c.args.n c.args.k c.args.parts.now) (sym items)
          (Tables.table_more m c.args.n c.args.k c.args.parts.now c.loop-i.table.items c.in_ok-row.row.items c.loop-i.i c.loop-i.invariant.count c.loop-i.invariant.table
          (Tables.powers_at m c.args.n c.args.k c.args.parts.now c.loop-i.i c.index-parts-i.result c.in_ok-row.row.items
          (at_index c.args.parts.now c.loop-i.i c.loop-i.i c.index-parts-i.result c.index-parts-i.is refl c.loop-i-test.true) part.variables c.in_ok-row.ensures.powers));
      powers = λ j h. subst (λ z. All (λ t. get_or t.0.e j 0 < length (get_or z j [])) c.args.terms.now) (sym items)
          (Tables.powers_more m c.args.n c.args.k c.args.parts.now c.args.terms.now c.loop-i.table.items c.in_ok-row.row.items c.loop-i.i c.greatest_exponent-most.result c.loop-i.invariant.count c.loop-i.invariant.powers
          c.greatest_exponent-most.ensures.greatest c.in_ok-row.ensures.count j h);
    }
