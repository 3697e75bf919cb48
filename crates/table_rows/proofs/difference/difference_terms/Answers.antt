use Rattle.std.proofs.Common.{◌≡◌, ◌∙◌, ◌<◌, [], ◌∷◌, ◌++◌, get_or, length, refl, sym, ap, subst, arith}
use Rattle.mono_exp.specs.declared.exponent.Exp.{Exp}
use Rattle.jet_law.specs.Terms.{exp_of, poly_of}
use Rattle.check_rows.specs.Lists.{AreTermsIn}
use Rattle.check_rows.proofs.ListLemmas.{terms_none, terms_push}
use Rattle.milnor_alg.specs.Rows.{basis_at}
use Rattle.table_rows.specs.Tables.{difference, values_in}
use Rattle.table_rows.proofs.Differences.{difference_step, value_is}
use Rattle.table_rows.proofs.difference.difference_terms.Goals as goal

pub loop-j-init : goal.loop-j-init
loop-j-init g c =
    let m = g.R.Ring.meaning c.args.ring.now in
    let n = c.args.n in
    let a = c.args.row.now.monomial in
    let items = c.in_ok-push.ensures.items ∙ ap (λ z. z ++ (a, c.one.result) ∷ []) c.new-terms.ensures.items in
    record {
      valid = subst (AreTermsIn m n) (sym c.in_ok-push.ensures.items) (terms_push m n c.new-terms.result.items a c.one.result (terms_none m n c.new-terms.result.items c.new-terms.ensures.items) c.one.ensures.elem c.requires.row.unused);
      so_far = ap (poly_of n m.value) items ∙ ap (λ z. (exp_of n a, z) ∷ []) c.one.ensures.value;
    }

pub loop-j-preserved : goal.loop-j-preserved
loop-j-preserved g c =
    let m = g.R.Ring.meaning c.args.ring.now in
    let laws = (g.met.R.Ring.laws c.args.ring.now c.requires.ring).numbers in
    let n = c.args.n in
    let row = c.args.row.now in
    let j = c.loop-j.j in
    let d : Exp = record { e = [] } in
    let v = c.index-values-j.result in
    let inside : c.loop-j.j < length c.as_slice-values.result.now = subst (λ z. c.loop-j.j < length z) (sym c.as_slice-values.ensures) (subst (λ l. c.loop-j.j < l) (sym c.requires.row.values) c.loop-j-test.true) in
    rw c.in_ok-push-2.ensures.items
    (record {
      valid = terms_push m n c.loop-j.terms.items (get_or c.args.basis.now j d) c.neg.result c.loop-j.invariant.valid c.neg.ensures.elem (c.requires.basis j d c.loop-j-test.true);
      so_far = difference_step m laws n (exp_of n row.monomial) j (basis_at n c.args.basis.now) (values_in m row) c.loop-j.terms.items (get_or c.args.basis.now j d) c.neg.result refl
          (c.neg.ensures.value ∙ ap m.scalars.ops.neg (value_is m laws n row c.as_slice-values.result.now j v c.as_slice-values.ensures inside c.index-values-j.is)) c.loop-j.invariant.so_far;
    })

pub returns-clause-terms : goal.returns-clause-terms
returns-clause-terms g c =
    let m = g.R.Ring.meaning c.args.ring.now in
    let n = c.args.n in
    let end : c.loop-j.j ≡ length c.args.basis.now = (let h = c.loop-j-test.false in let a = c.loop-j.auto in omega arith) in
    c.loop-j.invariant.so_far ∙ ap (λ s. difference n m.scalars.ops (exp_of n c.args.row.now.monomial) s (basis_at n c.args.basis.now) (values_in m c.args.row.now)) end
