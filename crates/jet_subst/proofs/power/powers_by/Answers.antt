use Rattle.std.proofs.Common.{◌≡◌, ◌+◌, [], ◌∷◌, ◌++◌, length, sym, ◌∙◌, ap, subst, arith}
use Rattle.ring_law.proofs.Exits.{fault_handed_on}
use Rattle.jet_law.specs.Terms.{poly_of}
use Rattle.poly_law.specs.Polynomials.{poly_in}
use Rattle.jet_subst.specs.Powers.{IsTruncatedJet}
use Rattle.jet_subst.specs.Parts.{ArePowers}
use Rattle.jet_subst.proofs.PowerLemmas
use Rattle.jet_subst.proofs.power.powers_by.Goals as goal

pub loop-i-init : goal.loop-i-init
loop-i-init g c =
    let m = g.R.Ring.meaning c.args.ring.now in
    let p = poly_of c.args.p.now.n m.value c.args.p.now.terms in
    let items : c.push.new.self.items ≡ c.in_ok-first.first ∷ [] = c.in_ok-push.ensures.items ∙ ap (λ z. z ++ c.in_ok-first.first ∷ []) c.new-all.ensures.items in
    record {
      count = ap length items;
      powers = subst (ArePowers m c.args.p.now.n c.args.k p) (sym items)
          (PowerLemmas.first_power m (g.met.R.Ring.laws c.args.ring.now c.requires.ring).numbers.ring c.args.p.now.n c.args.k p c.in_ok-first.first
          (subst (λ z. IsTruncatedJet m z c.args.k (poly_in z m.scalars.ops).one c.in_ok-first.first) c.n.ensures c.in_ok-first.ensures.one));
    }

pub returns-in_err-push_next-clause-range : goal.returns-in_err-push_next-clause-range
returns-in_err-push_next-clause-range g c =
    let r = c.args.ring.now in
    let m = g.R.Ring.meaning r in
    fault_handed_on _ c.from_residual-in_err-push_next.ensures.1
    (λ high. PowerLemmas.more_high m (g.met.R.Ring.laws r c.requires.ring).numbers.ring c.args.p.now.n c.args.k (poly_of c.args.p.now.n m.value c.args.p.now.terms) (c.loop-i.i + 1) c.args.most (omega arith) high)
    c.in_err-push_next.ensures.range
