use Rattle.std.proofs.Common.{◌≡◌, ◌<◌, ◌+◌, length, ◌*◌, get_or, sym, ◌∙◌, refl, ap, ap₂, subst, arith}
use Rattle.poly_law.specs.ExpList.{exps}
use Rattle.poly_law.specs.Poly.{coefficient, scale, term}
use Rattle.poly_law.specs.Polynomials.{poly_in}
use Rattle.poly_law.specs.Sums.{sum_to}
use Rattle.poly_law.specs.Exps.{variable}
use Rattle.jet_law.specs.Terms.{poly_of}
use Rattle.jet_poly.specs.Jets.{IsJet}
use Rattle.jet_poly.proofs.Derived.{ready-jet}
use Rattle.jet_poly.proofs.KeptTerms.{made}
use Rattle.coord_change.specs.Changes.{entry_of}
use Rattle.coord_change.specs.Linear.{one_at}
use Rattle.coord_change.proofs.Matrices
use Rattle.coord_change.proofs.LinearForms
use Rattle.coord_change.proofs.forms.linear_jet.Goals as goal

pub loop-j-preserved : goal.loop-j-preserved
loop-j-preserved g c =
    let m = g.R.Ring.meaning c.args.ring.now in
    let laws = (g.met.R.Ring.laws c.args.ring.now c.requires.ring).numbers in
    let n = c.args.n in
    let j = c.loop-j.j in
    let x = c.index-matrix-from.result in
    let place : c.from.result * c.from-in-loop-j.result + c.from-in-loop-j-2.result ≡ n * c.args.i + j = ap₂ (λ y z. y + z) (ap₂ (λ y z. y * z) c.from.ensures c.from-in-loop-j.ensures) c.from-in-loop-j-2.ensures in
    let inside : n * c.args.i + j < length c.args.matrix.now = (let p = Matrices.place_inside n c.args.i j c.requires.row c.loop-j-test.true in let e = c.requires.entries in omega arith) in
    let here : entry_of m n c.args.matrix.now c.args.i j ≡ m.value x = Matrices.entry_read m n c.args.matrix.now c.args.i j x inside (c.index-matrix-from.is ∙ ap (λ z. get_or c.args.matrix.now z x) place) in
    let elem : m.is_elem x = subst m.is_elem (sym (c.index-matrix-from.is ∙ ap (λ z. get_or c.args.matrix.now z x) place)) (c.requires.elems (n * c.args.i + j) x inside) in
    record {
      ready = LinearForms.ready_more n c.args.order m laws c.requires.at_most_8_rows j c.loop-j.terms.items c.push_variable.new.terms.items x c.loop-j-test.true c.requires.order_at_least_1 elem c.in_ok-push_variable.ensures.pushed c.loop-j.invariant.ready;
      so_far = LinearForms.sum_more n c.args.order m laws c.requires.at_most_8_rows (entry_of m n c.args.matrix.now c.args.i) j c.loop-j.terms.items c.push_variable.new.terms.items x c.loop-j-test.true c.in_ok-push_variable.ensures.pushed (sym here) c.loop-j.invariant.so_far;
    }

pub returns-clause-jet : goal.returns-clause-jet
returns-clause-jet g c =
    let m = g.R.Ring.meaning c.args.ring.now in
    let laws = (g.met.R.Ring.laws c.args.ring.now c.requires.ring).numbers in
    subst (IsJet m) (sym c.from_rising.ensures)
    (ready-jet c.args.n c.args.order m laws one_at (λ j. Unit {0}) c.loop-j.j c.args.n (made c.args.n c.args.order c.loop-j.terms.items) refl refl c.loop-j.invariant.ready)

pub returns-clause-value : goal.returns-clause-value
returns-clause-value g c b =
    let m = g.R.Ring.meaning c.args.ring.now in
    let n = c.args.n in
    let last = c.loop-j-test.false in
    let end = c.loop-j.auto.j-end in
    ap (λ h. coefficient (exps n) m.scalars.ops (poly_of n m.value h.terms) b) c.from_rising.ensures
    ∙ c.loop-j.invariant.so_far b
    ∙ ap (λ z. coefficient (exps n) m.scalars.ops (sum_to (poly_in n m.scalars.ops) z (λ j. scale (exps n) m.scalars.ops (entry_of m n c.args.matrix.now c.args.i j) (term (exps n) m.scalars.ops (variable (exps n) j)))) b)
    (let e : c.loop-j.j ≡ n = omega arith in e)
