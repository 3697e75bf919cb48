use Rattle.std.proofs.Common.{◌≡◌, ◌+◌, ◌++◌, List, sym, ◌∙◌, ap, ap₂, subst, arith}
use Rattle.mono_exp.specs.declared.exponent.Exp.{Exp}
use Rattle.jet_poly.specs.JetTerms.{IsRising}
use Rattle.coord_change.proofs.GrowthLemmas
use Rattle.coord_change.proofs.growth.joined.Goals as goal

pub from_rising-requires : goal.from_rising-requires
from_rising-requires g c =
    let lower = c.args.lower.now.terms in
    let top = c.args.top.now.terms in
    let items : c.extend_from_slice-2.new.self.items ≡ lower ++ top =
    c.in_ok-extend_from_slice-2.ensures.items ∙ ap₂ (λ y z. y ++ z) (c.in_ok-extend_from_slice.ensures.items ∙ ap₂ (λ y z. y ++ z) c.new-terms.ensures.items c.terms.ensures.terms) c.terms-2.ensures.terms in
    record {
      rising = subst (λ (zs : List (Exp × g.row.E.Denot)). IsRising zs) (sym items)
          (GrowthLemmas.rising_both (c.args.o + 1) lower top (subst (λ (zs : List (Exp × g.row.E.Denot)). IsRising zs) c.terms.ensures.terms c.terms.ensures.rising)
          (subst (λ (zs : List (Exp × g.row.E.Denot)). IsRising zs) c.terms-2.ensures.terms c.terms-2.ensures.rising)
          (λ i d h. let z = c.requires.lower i d h in omega arith) c.requires.top);
    }
