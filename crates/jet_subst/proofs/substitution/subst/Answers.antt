use Rattle.std.proofs.Common.{◌≡◌, List, [], take_all, sym, ◌∙◌, subst, arith}
use Rattle.ring_law.proofs.Exits.{fault_handed_on, faulted_by}
use Rattle.mono_exp.specs.declared.exponent.Exp.{Exp}
use Rattle.jet_poly.specs.JetTerms.{JetTerms}
use Rattle.jet_subst.specs.Parts.{variables_of, AreMultiples, HasPowers}
use Rattle.jet_subst.proofs.Tables
use Rattle.jet_subst.proofs.Multiples
use Rattle.jet_subst.proofs.substitution.subst.Goals as goal

pub returns-in_err-table-clause-range : goal.returns-in_err-table-clause-range
returns-in_err-table-clause-range g c =
    let m = g.R.Ring.meaning c.args.ring.now in
    let l = (g.met.R.Ring.laws c.args.ring.now c.requires.ring).numbers in
    let n : c.n-n.result ≡ variables_of c.args.parts.now = c.n-n.ensures ∙ Tables.first_variables c.args.parts.now c.index-parts-0.result c.requires.given c.index-parts-0.is in
    let terms = c.terms-terms.ensures in
    fault_handed_on _ c.from_residual.ensures.1
    (λ high. Multiples.high_at m c.args.f.now c.args.parts.now c.terms-terms.result.now c.requires.one_each terms.terms c.n-n.result (variables_of c.args.parts.now) c.args.k n
    (Multiples.table_high m l.ring c.n-n.result c.args.k c.args.parts.now c.terms-terms.result.now
    (Multiples.terms_reduced m c.args.f.now c.args.parts.now c.terms-terms.result.now c.requires.one_each terms.terms c.requires.jet terms.rising)
    (Multiples.terms_units m c.args.f.now c.args.parts.now c.terms-terms.result.now c.requires.one_each terms.terms c.requires.jet) high))
    c.in_err-table.ensures.range

pub loop-t-init : goal.loop-t-init
loop-t-init g c =
    let m = g.R.Ring.meaning c.args.ring.now in
    let l = (g.met.R.Ring.laws c.args.ring.now c.requires.ring).numbers in
    record {
      within = omega arith;
      multiples = subst (AreMultiples m c.n-n.result c.args.k c.args.parts.now []) (sym c.new-all.ensures.items) (Multiples.no_multiples m l.ring c.n-n.result c.args.k c.args.parts.now);
    }

pub push_multiples-requires-clause-powers : goal.push_multiples-requires-clause-powers
push_multiples-requires-clause-powers g c =
    subst (λ (zs : List (List (JetTerms g.row.R-Elem.Denot))). HasPowers zs c.t-item.result.0) (sym c.deref.ensures.value)
    (subst (λ (u : Exp × g.row.R-Elem.Denot). HasPowers c.in_ok-table.table.items u.0) (sym c.t-item.is) (c.in_ok-table.ensures.powers c.loop-t.t-index c.t-item.result c.loop-t-test.true))

pub loop-t-preserved : goal.loop-t-preserved
loop-t-preserved g c =
    let m = g.R.Ring.meaning c.args.ring.now in
    let l = (g.met.R.Ring.laws c.args.ring.now c.requires.ring).numbers in
    let e = c.in_ok-push_multiples.ensures in
    record {
      within = omega arith;
      multiples = Multiples.more_multiples m l.ring c.n-n.result c.args.k c.args.parts.now c.terms-terms.result.now c.loop-t.all.items c.push_multiples.new.all.items c.loop-t.t-index c.t-item.result
          c.loop-t-test.true c.t-item.is c.loop-t.invariant.multiples e.elems e.variables e.adds;
    }

pub returns-clause-value : goal.returns-clause-value
returns-clause-value g c =
    let m = g.R.Ring.meaning c.args.ring.now in
    let l = (g.met.R.Ring.laws c.args.ring.now c.requires.ring).numbers in
    let n : c.n-n.result ≡ variables_of c.args.parts.now = c.n-n.ensures ∙ Tables.first_variables c.args.parts.now c.index-parts-0.result c.requires.given c.index-parts-0.is in
    let all : AreMultiples m c.n-n.result c.args.k c.args.parts.now c.terms-terms.result.now c.deref-2.result.now =
    subst (AreMultiples m c.n-n.result c.args.k c.args.parts.now c.terms-terms.result.now) (sym c.deref-2.ensures.value)
    (subst (λ z. AreMultiples m c.n-n.result c.args.k c.args.parts.now z c.loop-t.all.items) (take_all c.loop-t.t-index c.terms-terms.result.now (omega arith)) c.loop-t.invariant.multiples) in
    Tables.if_ok c.from_terms.result
    (λ h p. Multiples.value_at m c.args.f.now c.args.parts.now c.terms-terms.result.now c.requires.one_each c.terms-terms.ensures.terms c.n-n.result (variables_of c.args.parts.now) c.args.k h.terms n
    (λ b. p b ∙ Multiples.multiples-cut m l.ring c.n-n.result c.args.k c.args.parts.now c.terms-terms.result.now c.deref-2.result.now all b))
    c.from_terms.ensures.sum

pub returns-clause-range : goal.returns-clause-range
returns-clause-range g c =
    let m = g.R.Ring.meaning c.args.ring.now in
    let l = (g.met.R.Ring.laws c.args.ring.now c.requires.ring).numbers in
    let n : c.n-n.result ≡ variables_of c.args.parts.now = c.n-n.ensures ∙ Tables.first_variables c.args.parts.now c.index-parts-0.result c.requires.given c.index-parts-0.is in
    let terms = c.terms-terms.ensures in
    let all : AreMultiples m c.n-n.result c.args.k c.args.parts.now c.terms-terms.result.now c.deref-2.result.now =
    subst (AreMultiples m c.n-n.result c.args.k c.args.parts.now c.terms-terms.result.now) (sym c.deref-2.ensures.value)
    (subst (λ z. AreMultiples m c.n-n.result c.args.k c.args.parts.now z c.loop-t.all.items) (take_all c.loop-t.t-index c.terms-terms.result.now (omega arith)) c.loop-t.invariant.multiples) in
    faulted_by
    (λ high. Multiples.high_at m c.args.f.now c.args.parts.now c.terms-terms.result.now c.requires.one_each terms.terms c.n-n.result (variables_of c.args.parts.now) c.args.k n
    (Multiples.sum_high m l.ring c.n-n.result c.args.k c.args.parts.now c.terms-terms.result.now
    (Multiples.terms_reduced m c.args.f.now c.args.parts.now c.terms-terms.result.now c.requires.one_each terms.terms c.requires.jet terms.rising)
    (Multiples.terms_units m c.args.f.now c.args.parts.now c.terms-terms.result.now c.requires.one_each terms.terms c.requires.jet) c.deref-2.result.now all high))
    c.from_terms.ensures.range

pub returns-in_err-push_multiples-clause-range : goal.returns-in_err-push_multiples-clause-range
returns-in_err-push_multiples-clause-range g c =
    let m = g.R.Ring.meaning c.args.ring.now in
    let l = (g.met.R.Ring.laws c.args.ring.now c.requires.ring).numbers in
    let n : c.n-n.result ≡ variables_of c.args.parts.now = c.n-n.ensures ∙ Tables.first_variables c.args.parts.now c.index-parts-0.result c.requires.given c.index-parts-0.is in
    let terms = c.terms-terms.ensures in
    fault_handed_on _ c.from_residual-in_err-push_multiples.ensures.1
    (λ high. Multiples.high_at m c.args.f.now c.args.parts.now c.terms-terms.result.now c.requires.one_each terms.terms c.n-n.result (variables_of c.args.parts.now) c.args.k n
    (Multiples.multiple_high m l.ring c.n-n.result c.args.k c.args.parts.now c.terms-terms.result.now
    (Multiples.terms_reduced m c.args.f.now c.args.parts.now c.terms-terms.result.now c.requires.one_each terms.terms c.requires.jet terms.rising)
    (Multiples.terms_units m c.args.f.now c.args.parts.now c.terms-terms.result.now c.requires.one_each terms.terms c.requires.jet) c.loop-t.t-index c.t-item.result c.loop-t-test.true c.t-item.is high))
    c.in_err-push_multiples.ensures.range
