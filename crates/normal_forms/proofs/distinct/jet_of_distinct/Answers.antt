use Rattle.std.proofs.Common.{◌≡◌, ◌+◌, List, Vec, Global, length, take, take_all, refl, sym, ap, subst, ◌∙◌, true≢false, arith}
use Rattle.std.specs.List.Sorted.{IsPermutation}
use Rattle.mono_exp.specs.declared.exponent.Exp.{Exp}
use Rattle.poly_law.specs.ExpList.{exps}
use Rattle.poly_law.specs.Poly.{Same}
use Rattle.jet_law.specs.Terms.{poly_of}
use Rattle.jet_poly.specs.JetTerms.{IsRising, JetTerms}
use Rattle.jet_poly.specs.Jets.{IsJet}
use Rattle.jet_poly.specs.Gathered.{nonzero}
use Rattle.normal_forms.proofs.Kept.{all-kept, apart-kept, kept-jet, permutation-insert, permutation-same, same-insert, same-none}
use Rattle.normal_forms.proofs.distinct.jet_of_distinct.Goals as goal
use Rattle.normal_forms.proofs.distinct.jet_of_distinct.Goals.{then-not-eq+in_ok-insert_term, else-not-eq}

pub insert_term-requires-clause-long : goal.insert_term-requires-clause-long
insert_term-requires-clause-long g c =
    let m = g.R.Ring.meaning c.args.ring.now in
    all-kept c.args.n m (g.met.R.Ring.laws c.args.ring.now c.requires.ring).numbers (λ t. length t.0.e ≡ 8) c.args.terms.now c.loop-t.kept.items c.loop-t.t-index c.loop-t.invariant.kept c.requires.long

pub insert_term-requires-clause-apart : goal.insert_term-requires-clause-apart
insert_term-requires-clause-apart g c =
    let m = g.R.Ring.meaning c.args.ring.now in
    apart-kept c.args.n m (g.met.R.Ring.laws c.args.ring.now c.requires.ring).numbers c.args.terms.now c.loop-t.kept.items c.loop-t.t-index c.t-item.result c.loop-t-test.true c.t-item.is c.requires.distinct c.loop-t.invariant.kept

pub loop-t-preserved : goal.loop-t-preserved
loop-t-preserved g c =
    let m = g.R.Ring.meaning c.args.ring.now in
    let laws = (g.met.R.Ring.laws c.args.ring.now c.requires.ring).numbers in
    let n = c.args.n in
    let terms = c.args.terms.now in
    let i = c.loop-t.t-index in
    let t = c.t-item.result in
    let h = c.loop-t-test.true in
    let read = c.t-item.is in
    let kept = c.loop-t.kept.items in
    let invariant = c.loop-t.invariant in
    let Kept : List (Exp × g.row.R-Elem.Denot) → Type 0 = λ z.
    IsRising z × IsPermutation (nonzero m.scalars m.value (take (c.loop-t.t-index + 1) terms)) z
    × Same (exps n) m.scalars.ops (poly_of n m.value z) (poly_of n m.value (take (c.loop-t.t-index + 1) terms)) in
    let all : Kept c.if-not-eq.kept.items = elim c.if-not-eq.branch [
      | then-not-eq+in_ok-insert_term w ↦
          let put = w.in_ok-insert_term.ensures.inserted in
          let nonzero_term : m.value t.1 ≡ m.scalars.ops.zero → ⊥ = λ e. true≢false (sym (c.eq.ensures.1 (e ∙ sym c.zero.ensures.value)) ∙ w.if-not-eq.true) in
          subst Kept (sym (ap (λ (v : Vec (Exp × g.row.R-Elem.Denot) Global). v.items) w.kept-is)) (
            w.in_ok-insert_term.ensures.rising,
            (subst (IsPermutation (nonzero m.scalars m.value (take (c.loop-t.t-index + 1) terms))) (sym put.1) (permutation-insert n m laws terms i t h read kept put.0 nonzero_term invariant.kept)),
            subst (λ z. Same (exps n) m.scalars.ops (poly_of n m.value z) (poly_of n m.value (take (c.loop-t.t-index + 1) terms))) (sym put.1) (same-insert n m laws terms i t h read kept put.0 invariant.so_far),
          )
      | else-not-eq w ↦
          let zero_term : m.value t.1 ≡ m.scalars.ops.zero = c.eq.ensures.0 w.if-not-eq.false ∙ c.zero.ensures.value in
          subst Kept (sym (ap (λ (v : Vec (Exp × g.row.R-Elem.Denot) Global). v.items) w.kept-is))
          (invariant.rising, permutation-same n m laws terms i t h read kept zero_term invariant.kept, same-none n m laws terms i t h read kept zero_term invariant.so_far)
    ] in
    record { rising = all.0; kept = all.1; so_far = all.2 }

pub returns-clause-jet : goal.returns-clause-jet
returns-clause-jet g c =
    let m = g.R.Ring.meaning c.args.ring.now in
    let laws = (g.met.R.Ring.laws c.args.ring.now c.requires.ring).numbers in
    let whole = take_all c.loop-t.t-index c.args.terms.now (omega arith) in
    subst (IsJet m) (sym c.from_rising.ensures)
    (kept-jet c.args.n m laws c.args.order c.args.terms.now (record { n = c.args.n; order = c.args.order; terms = c.loop-t.kept.items }) refl refl
    (subst (λ z. IsPermutation (nonzero m.scalars m.value z) c.loop-t.kept.items) whole c.loop-t.invariant.kept) c.requires.elems c.requires.variables c.requires.degrees)

pub returns-clause-terms : goal.returns-clause-terms
returns-clause-terms g c =
    let m = g.R.Ring.meaning c.args.ring.now in
    let whole = take_all c.loop-t.t-index c.args.terms.now (omega arith) in
    subst (λ (f : JetTerms g.row.R-Elem.Denot). IsPermutation (nonzero m.scalars m.value c.args.terms.now) f.terms) (sym c.from_rising.ensures)
    (subst (λ z. IsPermutation (nonzero m.scalars m.value z) c.loop-t.kept.items) whole c.loop-t.invariant.kept)
