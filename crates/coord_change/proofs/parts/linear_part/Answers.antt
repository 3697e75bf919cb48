use Rattle.std.proofs.Common.{◌≡◌, ◌+◌, ◌*◌, ◌/◌, ◌%◌, ◌<◌, [], ◌∷◌, length, get_or, All, length-append, sym, ◌∙◌, ap, ap₂, subst, arith}
use Rattle.poly_law.specs.Polynomials.{coefficient_in}
use Rattle.mono_exp.specs.Exponents.{IsIn}
use Rattle.jet_law.specs.Terms.{exp_of, poly_of}
use Rattle.jet_poly.specs.JetTerms.{JetTerms}
use Rattle.jet_subst.specs.Parts.{jet_at}
use Rattle.jet_subst.proofs.PowerLemmas.{any_default}
use Rattle.jet_subst.proofs.Tables.{all_push}
use Rattle.coord_change.specs.Linear.{one_at, linear_part_of}
use Rattle.coord_change.proofs.Matrices
use Rattle.coord_change.proofs.ChangeLemmas
use Rattle.coord_change.proofs.parts.linear_part.Goals as goal

pub loop-place-preserved : goal.loop-place-preserved
loop-place-preserved g c =
    let m = g.R.Ring.meaning c.args.ring.now in
    let n = c.args.n in
    let rows = c.from-size.result in
    let size : rows ≡ n = c.from-size.ensures in
    let few = c.requires.at_most_8_variables in
    let given = c.requires.given in
    let count = c.requires.count in
    let i = c.loop-place.place / rows in
    let j = c.loop-place.place % rows in
    let row : i < rows = Matrices.row_inside rows c.loop-place.place (omega arith) c.loop-place-test.true in
    let column : j < rows = Matrices.column_inside rows c.loop-place.place (omega arith) in
    let part = c.index-parts-place.result in
    let here : part ≡ jet_at c.args.parts.now i = c.index-parts-place.is ∙ any_default c.args.parts.now i part _ (omega arith) in
    let variables : part.n ≡ n = ap (λ (p : JetTerms g.row.R-Elem.Denot). p.n) c.index-parts-place.is ∙ (c.requires.parts i part (omega arith)).variables in
    let exponents : c.monomial.result ≡ record { e = one_at j } = ap (λ z. record { e = z }) c.monomial.ensures in
    let inside : IsIn part.n c.monomial.result.e = subst (λ z. IsIn z c.monomial.result.e) (sym variables) (subst (IsIn n) (sym c.monomial.ensures) (ChangeLemmas.one_at-in n j (omega arith) few)) in
    let value : m.value c.coef-x.result ≡ linear_part_of m n c.args.parts.now i j =
    subst (λ z. m.value c.coef-x.result ≡ coefficient_in z m.scalars.ops (poly_of z m.value part.terms) (exp_of z c.monomial.result)) variables (c.coef-x.ensures.in_variables inside)
    ∙ ap₂ (λ (p : JetTerms g.row.R-Elem.Denot) y. coefficient_in n m.scalars.ops (poly_of n m.value p.terms) y) here (ap (exp_of n) exponents ∙ ChangeLemmas.exp_of-one_at n j (omega arith) few) in
    record {
      count = ap length c.in_ok-push.ensures.items ∙ length-append c.loop-place.all.items (c.coef-x.result ∷ []) ∙ ap (λ z. z + 1) c.loop-place.invariant.count;
      elems = subst (All m.is_elem) (sym c.in_ok-push.ensures.items) (all_push m.is_elem c.loop-place.all.items c.coef-x.result c.loop-place.invariant.elems c.coef-x.ensures.elem);
      entries = Matrices.entries_more m c.loop-place.all.items c.push.new.self.items c.coef-x.result (λ k. linear_part_of m n c.args.parts.now (k / rows) (k % rows)) c.loop-place.place
          c.loop-place.invariant.count c.in_ok-push.ensures.items value c.loop-place.invariant.entries;
    }

pub returns-clause-entries : goal.returns-clause-entries
returns-clause-entries g c =
    let m = g.R.Ring.meaning c.args.ring.now in
    let e : c.from-size.result ≡ c.args.n = c.from-size.ensures in
    let sq : c.from-size.result * c.from-size.result ≡ c.args.n * c.args.n = ap₂ (λ y z. y * z) e e in
    let last = c.loop-place-test.false in
    let end = c.loop-place.auto.place-end in
    let count = c.loop-place.invariant.count in
    Matrices.entries_are m c.args.n c.loop-place.all.items (linear_part_of m c.args.n c.args.parts.now) (omega arith)
    (λ k d h. subst (λ z. m.value (get_or c.loop-place.all.items k d) ≡ linear_part_of m c.args.n c.args.parts.now (k / z) (k % z)) e (c.loop-place.invariant.entries k d (omega arith)))
