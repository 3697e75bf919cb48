use Rattle.std.proofs.Common.{◌≡◌, ◌∙◌, ◌++◌, List, ap, sym, subst}
use Rattle.mono_exp.specs.declared.exponent.Exp.{Exp}
use Rattle.jet_law.specs.Terms.{poly_of}
use Rattle.jet_poly.specs.Jets.{IsJet}
use Rattle.jet_poly.specs.JetTerms.{JetTerms, IsRising}
use Rattle.jet_poly.proofs.KeptTerms
use Rattle.coord_change.specs.InverseChanges.{AreNegatives}
use Rattle.coord_change.proofs.Negatives
use Rattle.coord_change.proofs.inversion.less.Goals as goal

pub from_rising-requires : goal.from_rising-requires
from_rising-requires g c =
    let m = g.R.Ring.meaning c.args.ring.now in
    let laws = (g.met.R.Ring.laws c.args.ring.now c.requires.ring).numbers in
    let p = c.in_ok-push_negatives.ensures.pushed in
    let negatives : AreNegatives m c.args.g.now.terms p.more = subst (λ (zs : List (Exp × g.row.R-Elem.Denot)). AreNegatives m zs p.more) c.terms-2.ensures.terms p.negatives in
    let items : c.push_negatives.new.terms.items ≡ c.args.f.now.terms ++ p.more = p.items ∙ ap (λ (zs : List (Exp × g.row.R-Elem.Denot)). zs ++ p.more) (c.in_ok-extend_from_slice.ensures.items ∙ ap (λ (zs : List (Exp × g.row.R-Elem.Denot)). zs ++ c.terms.result.now) c.new-terms.ensures.items ∙ c.terms.ensures.terms) in
    record {
      rising = subst (λ (zs : List (Exp × g.row.R-Elem.Denot)). IsRising zs) (sym items)
          (Negatives.less_rising m laws.ring c.args.f.now c.args.g.now p.more c.requires.left c.requires.right c.requires.same_variables c.requires.orders c.requires.degrees negatives
          (subst (λ (zs : List (Exp × g.row.R-Elem.Denot)). IsRising zs) c.terms.ensures.terms c.terms.ensures.rising) (subst (λ (zs : List (Exp × g.row.R-Elem.Denot)). IsRising zs) c.terms-2.ensures.terms c.terms-2.ensures.rising));
    }

pub returns-clause-jet : goal.returns-clause-jet
returns-clause-jet g c =
    let m = g.R.Ring.meaning c.args.ring.now in
    let laws = (g.met.R.Ring.laws c.args.ring.now c.requires.ring).numbers in
    let p = c.in_ok-push_negatives.ensures.pushed in
    let negatives : AreNegatives m c.args.g.now.terms p.more = subst (λ (zs : List (Exp × g.row.R-Elem.Denot)). AreNegatives m zs p.more) c.terms-2.ensures.terms p.negatives in
    let items : c.push_negatives.new.terms.items ≡ c.args.f.now.terms ++ p.more = p.items ∙ ap (λ (zs : List (Exp × g.row.R-Elem.Denot)). zs ++ p.more) (c.in_ok-extend_from_slice.ensures.items ∙ ap (λ (zs : List (Exp × g.row.R-Elem.Denot)). zs ++ c.terms.result.now) c.new-terms.ensures.items ∙ c.terms.ensures.terms) in
    let made : c.from_rising.result ≡ record { n = c.args.f.now.n; order = c.args.g.now.order; terms = c.args.f.now.terms ++ p.more } = c.from_rising.ensures ∙ KeptTerms.made-same c.n.result c.args.f.now.n c.order.result c.args.g.now.order c.push_negatives.new.terms.items (c.args.f.now.terms ++ p.more) c.n.ensures c.order.ensures items in
    subst (IsJet m) (sym made) (Negatives.less_jet m laws.ring c.args.f.now c.args.g.now p.more c.requires.left c.requires.right c.requires.same_variables c.requires.orders c.requires.degrees negatives)

pub returns-clause-difference : goal.returns-clause-difference
returns-clause-difference g c =
    let m = g.R.Ring.meaning c.args.ring.now in
    let laws = (g.met.R.Ring.laws c.args.ring.now c.requires.ring).numbers in
    let p = c.in_ok-push_negatives.ensures.pushed in
    let negatives : AreNegatives m c.args.g.now.terms p.more = subst (λ (zs : List (Exp × g.row.R-Elem.Denot)). AreNegatives m zs p.more) c.terms-2.ensures.terms p.negatives in
    let items : c.push_negatives.new.terms.items ≡ c.args.f.now.terms ++ p.more = p.items ∙ ap (λ (zs : List (Exp × g.row.R-Elem.Denot)). zs ++ p.more) (c.in_ok-extend_from_slice.ensures.items ∙ ap (λ (zs : List (Exp × g.row.R-Elem.Denot)). zs ++ c.terms.result.now) c.new-terms.ensures.items ∙ c.terms.ensures.terms) in
    ap (λ (h : JetTerms g.row.R-Elem.Denot). poly_of c.args.f.now.n m.value h.terms) c.from_rising.ensures ∙ ap (poly_of c.args.f.now.n m.value) items
    ∙ Negatives.less_value m laws.ring c.args.f.now c.args.g.now p.more c.requires.left c.requires.right c.requires.same_variables c.requires.orders c.requires.degrees negatives c.args.f.now.n
