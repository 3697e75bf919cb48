use Rattle.std.proofs.Common.{◌≡◌, ℕ, ◌+◌, ◌≤◌, List, All, sum, sym, ◌∙◌, subst, arith}
use Rattle.ring_law.proofs.Exits.{fault_handed_on}
use Rattle.poly_law.specs.ExpList.{exps}
use Rattle.poly_law.specs.Polynomials.{SameIn, substitute}
use Rattle.mono_exp.specs.declared.exponent.Exp.{Exp}
use Rattle.jet_law.specs.Terms.{poly_of}
use Rattle.jet_poly.specs.JetTerms.{JetTerms, IsRising}
use Rattle.jet_poly.specs.Jets.{IsJet, component}
use Rattle.jet_subst.specs.Parts.{part_of, variables_of}
use Rattle.jet_subst.specs.Substitutions.{IsSubstHigh}
use Rattle.coord_change.specs.Moves.{move_from}
use Rattle.coord_change.specs.Carries.{carry}
use Rattle.coord_change.specs.MoveJets.{IsJetFor}
use Rattle.coord_change.proofs.Canonicals
use Rattle.coord_change.proofs.ChangeLemmas
use Rattle.coord_change.proofs.GrowthLemmas
use Rattle.coord_change.proofs.growth.extended_jet.Goals as goal

pub returns-in_err-top-clause-range : goal.returns-in_err-top-clause-range
returns-in_err-top-clause-range g c =
    let m = g.R.Ring.meaning c.args.ring.now in
    let n = c.args.c.now.n in
    let f = c.args.f.now in
    let kept = c.in_ok-kept.kept in
    let ch = c.requires.change in
    let parts : kept.parts ≡ c.args.c.now.parts = c.in_ok-kept.ensures.parts ∙ c.as_slice.ensures in
    let en : kept.n ≡ n = c.in_ok-kept.ensures.n ∙ subst (λ (zs : List (JetTerms g.row.R-Elem.Denot)). variables_of zs ≡ n) (sym c.as_slice.ensures)
    (ChangeLemmas.variables_are m n c.args.c.now.parts (let z = ch.count in let y = ch.given in omega arith) ch.parts) in
    fault_handed_on _ c.from_residual-in_err-top.ensures.1
    (λ high. subst (λ ps. IsSubstHigh (exps n) (exps n) m.scalars (c.args.o + 1) ps (poly_of n m.value f.terms)) (sym (Canonicals.put-move_from m n c.args.c.now))
    (subst (λ z. IsSubstHigh (exps z) (exps n) m.scalars (c.args.o + 1) (part_of n m.value c.args.c.now.parts) (poly_of z m.value f.terms)) c.requires.same_variables
    (GrowthLemmas.read kept.n n kept.order (c.args.o + 1) kept.parts c.args.c.now.parts (λ z k ps. IsSubstHigh (exps f.n) (exps z) m.scalars k (part_of z m.value ps) (poly_of f.n m.value f.terms)) en c.in_ok-kept.ensures.order parts high)))
    c.in_err-top.ensures.range

pub joined-requires : goal.joined-requires
joined-requires g c =
    let m = g.R.Ring.meaning c.args.ring.now in
    let l = (g.met.R.Ring.laws c.args.ring.now c.requires.ring).numbers in
    let n = c.args.c.now.n in
    let f = c.args.f.now in
    let kept = c.in_ok-kept.kept in
    let ch = c.requires.change in
    let e = c.in_ok-top.ensures in
    let top = c.in_ok-top.top in
    let parts : kept.parts ≡ c.args.c.now.parts = c.in_ok-kept.ensures.parts ∙ c.as_slice.ensures in
    let en : kept.n ≡ n = c.in_ok-kept.ensures.n ∙ subst (λ (zs : List (JetTerms g.row.R-Elem.Denot)). variables_of zs ≡ n) (sym c.as_slice.ensures)
    (ChangeLemmas.variables_are m n c.args.c.now.parts (let z = ch.count in let y = ch.given in omega arith) ch.parts) in
    let is : SameIn n m.scalars.ops (poly_of n m.value top.terms) (component n (c.args.o + 1) (substitute n n m.scalars.ops (part_of n m.value c.args.c.now.parts) (poly_of n m.value f.terms))) =
    subst (λ z. SameIn n m.scalars.ops (poly_of n m.value top.terms) (component n (c.args.o + 1) (substitute z n m.scalars.ops (part_of n m.value c.args.c.now.parts) (poly_of z m.value f.terms)))) c.requires.same_variables
    (GrowthLemmas.read kept.n n kept.order (c.args.o + 1) kept.parts c.args.c.now.parts
    (λ z k ps. SameIn z m.scalars.ops (poly_of z m.value top.terms) (component z k (substitute f.n z m.scalars.ops (part_of z m.value ps) (poly_of f.n m.value f.terms)))) en c.in_ok-kept.ensures.order parts e.block) in
    let rises = subst (λ (zs : List (Exp × g.row.R-Elem.Denot)). IsRising zs) c.terms-terms.ensures.terms c.terms-terms.ensures.rising in
    record {
      order_at_most_16 = c.requires.order_at_most_16;
      lower = subst (λ k. All (λ (t : Exp × g.row.R-Elem.Denot). sum t.0.e ≤ k) c.args.lower.now.terms) c.requires.lower.order c.requires.lower.jet.degrees;
      top = GrowthLemmas.degrees m n l c.args.o c.args.c.now (poly_of n m.value f.terms) c.args.lower.now top c.requires.lower e.jet (e.n ∙ en) (e.order ∙ c.in_ok-kept.ensures.order) rises is;
    }

pub returns-clause-jet : goal.returns-clause-jet
returns-clause-jet g c =
    let m = g.R.Ring.meaning c.args.ring.now in
    let l = (g.met.R.Ring.laws c.args.ring.now c.requires.ring).numbers in
    let n = c.args.c.now.n in
    let f = c.args.f.now in
    let kept = c.in_ok-kept.kept in
    let ch = c.requires.change in
    let e = c.in_ok-top.ensures in
    let top = c.in_ok-top.top in
    let parts : kept.parts ≡ c.args.c.now.parts = c.in_ok-kept.ensures.parts ∙ c.as_slice.ensures in
    let en : kept.n ≡ n = c.in_ok-kept.ensures.n ∙ subst (λ (zs : List (JetTerms g.row.R-Elem.Denot)). variables_of zs ≡ n) (sym c.as_slice.ensures)
    (ChangeLemmas.variables_are m n c.args.c.now.parts (let z = ch.count in let y = ch.given in omega arith) ch.parts) in
    let is : SameIn n m.scalars.ops (poly_of n m.value top.terms) (component n (c.args.o + 1) (substitute n n m.scalars.ops (part_of n m.value c.args.c.now.parts) (poly_of n m.value f.terms))) =
    subst (λ z. SameIn n m.scalars.ops (poly_of n m.value top.terms) (component n (c.args.o + 1) (substitute z n m.scalars.ops (part_of n m.value c.args.c.now.parts) (poly_of z m.value f.terms)))) c.requires.same_variables
    (GrowthLemmas.read kept.n n kept.order (c.args.o + 1) kept.parts c.args.c.now.parts
    (λ z k ps. SameIn z m.scalars.ops (poly_of z m.value top.terms) (component z k (substitute f.n z m.scalars.ops (part_of z m.value ps) (poly_of f.n m.value f.terms)))) en c.in_ok-kept.ensures.order parts e.block) in
    let rises = subst (λ (zs : List (Exp × g.row.R-Elem.Denot)). IsRising zs) c.terms-terms.ensures.terms c.terms-terms.ensures.rising in
    let made = c.in_ok-jet.ensures in
    subst (IsJetFor m n (c.args.o + 1) (carry n m.scalars (c.args.o + 1) (move_from m n c.args.c.now) (poly_of n m.value f.terms))) (sym made.jet)
    (GrowthLemmas.joined_is m n l c.args.o c.args.c.now (poly_of n m.value f.terms) c.args.lower.now top c.requires.lower e.jet (e.n ∙ en) (e.order ∙ c.in_ok-kept.ensures.order) rises is
    (subst (λ (u : JetTerms g.row.R-Elem.Denot). IsRising u.terms) made.jet made.rising))
