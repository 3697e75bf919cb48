use Rattle.std.proofs.Common.{refl, subst}
use Rattle.jet_poly.specs.JetTerms.{JetTerms, IsRising}
use Rattle.ext_algebra.specs.declared.algebra.Ext.{Ext}
use Rattle.ring_law.specs.declared.fraction.Frac.{Frac}
use Rattle.probe.proofs.Chains.{begun}
use Rattle.probe.proofs.chain.started.Goals as goal

pub returns : goal.returns
returns g c =
    let over = c.args.over.now in
    let e = c.in_ok-germ.ensures in
    let rises : IsRising c.in_ok-germ.germ.terms = subst (λ (f : JetTerms (Ext Frac)). IsRising f.terms) c.germ.view_is c.germ.invariant in
    record {
      chain = begun (g.F.Ring.meaning over.field) (g.met.F.Ring.laws over.field c.requires.over.field).numbers c.in_ok-germ.germ e.jet rises (c.if-not-starts_at_two.ensures.low refl) c.in_ok-start.field-0
          c.in_ok-start.ensures.chain over.n over.order e.n e.order;
    }
