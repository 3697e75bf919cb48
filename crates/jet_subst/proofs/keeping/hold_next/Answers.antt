use Rattle.std.proofs.Common.{◌≡◌, ◌≤◌, length, ◌∙◌, ap, sym, subst}
use Rattle.std.specs.Prelude.{option_copied}
use Rattle.ring_theory.proofs.ValueSet.{values_are_set}
use Rattle.ring_law.proofs.Exits.{fault_handed_on}
use Rattle.poly_law.specs.ExpList.{exps}
use Rattle.poly_law.specs.Poly.{monomial_of}
use Rattle.jet_law.specs.Terms.{exp_of}
use Rattle.jet_poly.specs.JetTerms.{JetTerms}
use Rattle.jet_subst.specs.Powers.{IsTruncatedJet}
use Rattle.jet_subst.specs.Parts.{part_of, jet_at}
use Rattle.jet_subst.proofs.PowerLemmas.{any_default}
use Rattle.jet_subst.proofs.KeptLemmas
use Rattle.jet_subst.proofs.keeping.hold_next.Goals as goal

pub product-requires-clause-left : goal.product-requires-clause-left
product-requires-clause-left g c =
    let m = g.R.Ring.meaning c.args.ring.now in
    let n = c.args.n in
    let k = c.args.k in
    let parts = c.args.parts.now in
    let low : IsTruncatedJet m n k (monomial_of (exps (length parts)) (exps n) m.scalars.ops (part_of n m.value parts) (exp_of (length parts) c.args.current)) c.unwrap.result.now =
    KeptLemmas.read m n k parts c.args.powers.now.entries c.args.current c.rank-lower.result c.unwrap.result.now c.requires.powers c.rank-lower.ensures.rank c.rank-lower.ensures.within
    (ap option_copied (sym c.unwrap.ensures) ∙ c.get-2.ensures.value) in
    low.jet

pub product-requires-clause-same_variables : goal.product-requires-clause-same_variables
product-requires-clause-same_variables g c =
    let m = g.R.Ring.meaning c.args.ring.now in
    let n = c.args.n in
    let k = c.args.k in
    let parts = c.args.parts.now in
    let low : IsTruncatedJet m n k (monomial_of (exps (length parts)) (exps n) m.scalars.ops (part_of n m.value parts) (exp_of (length parts) c.args.current)) c.unwrap.result.now =
    KeptLemmas.read m n k parts c.args.powers.now.entries c.args.current c.rank-lower.result c.unwrap.result.now c.requires.powers c.rank-lower.ensures.rank c.rank-lower.ensures.within
    (ap option_copied (sym c.unwrap.ensures) ∙ c.get-2.ensures.value) in
    let l = (g.met.R.Ring.laws c.args.ring.now c.requires.ring).numbers in
    let part = c.index-parts-i.result in
    let here : part ≡ jet_at parts c.args.i = c.index-parts-i.is ∙ any_default parts c.args.i part _ c.requires.step.inside in
    let variables : part.n ≡ n = subst (λ (u : JetTerms g.row.R-Elem.Denot). u.n ≡ n) (sym c.index-parts-i.is) ((c.requires.parts c.args.i part c.requires.step.inside).variables) in
    c.in_ok-factor.ensures.truncation.variables ∙ variables ∙ sym low.variables

pub product-requires-clause-at_most_8_variables : goal.product-requires-clause-at_most_8_variables
product-requires-clause-at_most_8_variables g c =
    let m = g.R.Ring.meaning c.args.ring.now in
    let n = c.args.n in
    let k = c.args.k in
    let parts = c.args.parts.now in
    let low : IsTruncatedJet m n k (monomial_of (exps (length parts)) (exps n) m.scalars.ops (part_of n m.value parts) (exp_of (length parts) c.args.current)) c.unwrap.result.now =
    KeptLemmas.read m n k parts c.args.powers.now.entries c.args.current c.rank-lower.result c.unwrap.result.now c.requires.powers c.rank-lower.ensures.rank c.rank-lower.ensures.within
    (ap option_copied (sym c.unwrap.ensures) ∙ c.get-2.ensures.value) in
    subst (λ z. z ≤ 8) (sym low.variables) c.requires.at_most_8_variables

pub returns-clause-powers : goal.returns-clause-powers
returns-clause-powers g c =
    let m = g.R.Ring.meaning c.args.ring.now in
    let n = c.args.n in
    let k = c.args.k in
    let parts = c.args.parts.now in
    let low : IsTruncatedJet m n k (monomial_of (exps (length parts)) (exps n) m.scalars.ops (part_of n m.value parts) (exp_of (length parts) c.args.current)) c.unwrap.result.now =
    KeptLemmas.read m n k parts c.args.powers.now.entries c.args.current c.rank-lower.result c.unwrap.result.now c.requires.powers c.rank-lower.ensures.rank c.rank-lower.ensures.within
    (ap option_copied (sym c.unwrap.ensures) ∙ c.get-2.ensures.value) in
    let l = (g.met.R.Ring.laws c.args.ring.now c.requires.ring).numbers in
    let part = c.index-parts-i.result in
    let here : part ≡ jet_at parts c.args.i = c.index-parts-i.is ∙ any_default parts c.args.i part _ c.requires.step.inside in
    let variables : part.n ≡ n = subst (λ (u : JetTerms g.row.R-Elem.Denot). u.n ≡ n) (sym c.index-parts-i.is) ((c.requires.parts c.args.i part c.requires.step.inside).variables) in
    KeptLemmas.keep_more m n k parts c.args.powers.now.entries c.insert.new.self.entries c.args.next c.rank-number.result c.in_ok-power.power c.requires.powers c.rank-number.ensures.rank c.rank-number.ensures.within
    c.in_ok-insert.ensures.entries
    (KeptLemmas.formed_jet m n k parts l.ring (values_are_set m.scalars l) c.args.current c.args.next c.args.i c.requires.step c.unwrap.result.now part c.in_ok-factor.factor c.in_ok-power.power low here variables
    c.in_ok-factor.ensures.truncation c.in_ok-power.ensures.product)

pub returns-in_err-power-clause-range : goal.returns-in_err-power-clause-range
returns-in_err-power-clause-range g c =
    let m = g.R.Ring.meaning c.args.ring.now in
    let n = c.args.n in
    let k = c.args.k in
    let parts = c.args.parts.now in
    let low : IsTruncatedJet m n k (monomial_of (exps (length parts)) (exps n) m.scalars.ops (part_of n m.value parts) (exp_of (length parts) c.args.current)) c.unwrap.result.now =
    KeptLemmas.read m n k parts c.args.powers.now.entries c.args.current c.rank-lower.result c.unwrap.result.now c.requires.powers c.rank-lower.ensures.rank c.rank-lower.ensures.within
    (ap option_copied (sym c.unwrap.ensures) ∙ c.get-2.ensures.value) in
    let l = (g.met.R.Ring.laws c.args.ring.now c.requires.ring).numbers in
    let part = c.index-parts-i.result in
    let here : part ≡ jet_at parts c.args.i = c.index-parts-i.is ∙ any_default parts c.args.i part _ c.requires.step.inside in
    let variables : part.n ≡ n = subst (λ (u : JetTerms g.row.R-Elem.Denot). u.n ≡ n) (sym c.index-parts-i.is) ((c.requires.parts c.args.i part c.requires.step.inside).variables) in
    fault_handed_on _ c.from_residual-in_err-power.ensures.1
    (λ high. KeptLemmas.formed_high m n k parts l.ring (values_are_set m.scalars l) c.args.current c.args.next c.args.i c.requires.step c.unwrap.result.now part c.in_ok-factor.factor low here variables
    c.in_ok-factor.ensures.truncation high)
    c.in_err-power.ensures.range
