use Rattle.std.proofs.Common.{◌≤◌, inl, inr, [], ◌∷◌, ◌++◌, refl, ap, ap₂, ◌∙◌, arith}
use Rattle.ring_law.proofs.Exits.{faulted, fault_handed_on}
use Rattle.poly_law.specs.Exps.{variable}
use Rattle.poly_law.specs.ExpList.{exps}
use Rattle.jet_law.specs.Canonical.{monomial_in}
use Rattle.coord_change.specs.Moves.{variable_of}
use Rattle.kill_table.specs.Moves.{IsPutFor}
use Rattle.move_law.specs.Finish.{twice, thrice}
use Rattle.move_law.specs.Moves.{term_of}
use Rattle.move_law.specs.Patterns.{two}
use Rattle.rules_corank2.proofs.PlaneMoves.{bent, exchanged_terms, put_same, tail_put}
use Rattle.rules_corank2.proofs.PlaneTerms.{ordered_2, ordered_3, put_at, term_is, x_term, y_term}
use Rattle.rules_corank2.proofs.Quotients.{multiple_high, product_high}
use Rattle.rules_corank2.proofs.finish_tail.move_tail.Goals as goal

pub returns-in_err-double-clause-range : goal.returns-in_err-double-clause-range
returns-in_err-double-clause-range g c =
    let m = g.F.Ring.meaning c.args.field.now in
    let s = m.scalars in
    let a = m.value c.args.a in
    let b = m.value c.args.b in
    let v = m.value c.args.v in
    faulted _ c.from_residual.ensures.1 (λ high. inl (inl (multiple_high 0 s 2 b b refl high))) c.in_err-double.ensures.range

pub returns-in_err-triple-clause-range : goal.returns-in_err-triple-clause-range
returns-in_err-triple-clause-range g c =
    let m = g.F.Ring.meaning c.args.field.now in
    let s = m.scalars in
    let a = m.value c.args.a in
    let b = m.value c.args.b in
    let v = m.value c.args.v in
    faulted _ c.from_residual-in_err-triple.ensures.1 (λ high. inl (inr (inr (inl (multiple_high 0 s 3 a a refl high))))) c.in_err-triple.ensures.range

pub returns-in_err-mixed-clause-range : goal.returns-in_err-mixed-clause-range
returns-in_err-mixed-clause-range g c =
    let m = g.F.Ring.meaning c.args.field.now in
    let s = m.scalars in
    let a = m.value c.args.a in
    let b = m.value c.args.b in
    let v = m.value c.args.v in
    faulted _ c.from_residual-in_err-mixed.ensures.1 (λ high. inl (inr (inl (product_high 0 s (m.value c.in_ok-double.double) v (twice 0 s 0 b) v c.in_ok-double.ensures.value refl high)))) c.in_err-mixed.ensures.cause

pub returns-in_err-linear-clause-range : goal.returns-in_err-linear-clause-range
returns-in_err-linear-clause-range g c =
    let m = g.F.Ring.meaning c.args.field.now in
    let s = m.scalars in
    let a = m.value c.args.a in
    let b = m.value c.args.b in
    let v = m.value c.args.v in
    faulted _ c.from_residual-in_err-linear.ensures.1
    (λ high. inl (inr (inr (inr (inl (product_high 0 s v (m.value c.in_ok-triple.triple) v (thrice 0 s 0 a) refl c.in_ok-triple.ensures.value high)))))) c.in_err-linear.ensures.cause

pub returns-in_err-square-clause-range : goal.returns-in_err-square-clause-range
returns-in_err-square-clause-range g c =
    let m = g.F.Ring.meaning c.args.field.now in
    let s = m.scalars in
    let a = m.value c.args.a in
    let b = m.value c.args.b in
    let v = m.value c.args.v in
    faulted _ c.from_residual-in_err-square.ensures.1
    (λ high. inl (inr (inr (inr (inr (inl (product_high 0 s v (m.value c.in_ok-double.double) v (twice 0 s 0 b) refl c.in_ok-double.ensures.value high))))))) c.in_err-square.ensures.cause

pub two_terms_jet-requires-clause-ordered : goal.two_terms_jet-requires-clause-ordered
two_terms_jet-requires-clause-ordered g c =
    let m = g.F.Ring.meaning c.args.field.now in
    let wide : 2 ≤ c.n-n.result = (let e = c.n-n.ensures in let h = c.requires.two_variables in omega arith) in
    let low : 2 ≤ c.order-order.result = (let e = c.order-order.ensures in let h = c.requires.standing.is.order_at_least_2 in omega arith) in
    ordered_2 m c.n-n.result c.order-order.result wide 1 0 1 1 (c.two_powers.result, c.one.result) (c.two_powers-2.result, c.in_ok-mixed.mixed)
    (record { exponents = c.two_powers.ensures; low = omega arith; elem = c.one.ensures.elem })
    (record { exponents = c.two_powers-2.ensures; low = omega arith; elem = c.in_ok-mixed.ensures.elem }) refl

pub three_terms_jet-requires-clause-ordered : goal.three_terms_jet-requires-clause-ordered
three_terms_jet-requires-clause-ordered g c =
    let m = g.F.Ring.meaning c.args.field.now in
    let wide : 2 ≤ c.n-n.result = (let e = c.n-n.ensures in let h = c.requires.two_variables in omega arith) in
    let low : 2 ≤ c.order-order.result = (let e = c.order-order.ensures in let h = c.requires.standing.is.order_at_least_2 in omega arith) in
    ordered_3 m c.n-n.result c.order-order.result wide 1 0 0 1 0 2 (c.two_powers-3.result, c.neg.result) (c.two_powers-4.result, c.one-2.result) (c.two_powers-5.result, c.neg-2.result)
    (record { exponents = c.two_powers-3.ensures; low = omega arith; elem = c.neg.ensures.elem })
    (record { exponents = c.two_powers-4.ensures; low = omega arith; elem = c.one-2.ensures.elem })
    (record { exponents = c.two_powers-5.ensures; low = omega arith; elem = c.neg-2.ensures.elem }) refl refl refl

pub put_two-requires-clause-put : goal.put_two-requires-clause-put
put_two-requires-clause-put g c =
    let m = g.F.Ring.meaning c.args.field.now in
    let l = (g.met.F.Ring.laws c.args.field.now c.requires.ring).numbers in
    let s = m.scalars in
    let n = c.args.state.form.n in
    let o = c.args.state.form.order in
    let wide = c.requires.two_variables in
    let v = m.value c.args.v in
    let u = s.ops.mul (twice n s o (m.value c.args.b)) v in
    let p = s.ops.neg (s.ops.mul v (thrice n s o (m.value c.args.a))) in
    let q = s.ops.neg (s.ops.mul v (twice n s o (m.value c.args.b))) in
    let first_is : IsPutFor m n o (variable_of n s 0 ++ term_of n s u (two 1 1)) c.in_ok-first.first =
    put_at m n o c.n-n.result c.order-order.result c.n-n.ensures c.order-order.ensures ((c.two_powers.result, c.one.result) ∷ (c.two_powers-2.result, c.in_ok-mixed.mixed) ∷ []) (variable_of n s 0 ++ term_of n s u (two 1 1))
    (ap₂ (λ x y. x ∷ y ∷ []) (x_term m n c.two_powers.result c.two_powers.ensures c.one.result c.one.ensures.value)
    (term_is m n c.two_powers-2.result 1 1 c.two_powers-2.ensures c.in_ok-mixed.mixed u (c.in_ok-mixed.ensures.value ∙ ap (λ z. s.ops.mul z v) c.in_ok-double.ensures.value)))
    c.in_ok-first.first c.in_ok-first.ensures.jet in
    let second_is : IsPutFor m n o (bent n s l wide p q) c.in_ok-second.second =
    put_same m l n o ((monomial_in n (two 1 0), p) ∷ (variable (exps n) 1, s.ops.one) ∷ (monomial_in n (two 0 2), q) ∷ []) (bent n s l wide p q)
    (exchanged_terms n s l o (monomial_in n (two 1 0), p) (variable (exps n) 1, s.ops.one) ((monomial_in n (two 0 2), q) ∷ [])) c.in_ok-second.second
    (put_at m n o c.n-n.result c.order-order.result c.n-n.ensures c.order-order.ensures ((c.two_powers-3.result, c.neg.result) ∷ (c.two_powers-4.result, c.one-2.result) ∷ (c.two_powers-5.result, c.neg-2.result) ∷ [])
    ((monomial_in n (two 1 0), p) ∷ (variable (exps n) 1, s.ops.one) ∷ (monomial_in n (two 0 2), q) ∷ [])
    (ap₂ (λ x ys. x ∷ ys)
    (term_is m n c.two_powers-3.result 1 0 c.two_powers-3.ensures c.neg.result p (c.neg.ensures.value ∙ ap s.ops.neg (c.in_ok-linear.ensures.value ∙ ap (s.ops.mul v) c.in_ok-triple.ensures.value)))
    (ap₂ (λ x y. x ∷ y ∷ []) (y_term m n c.two_powers-4.result c.two_powers-4.ensures c.one-2.result c.one-2.ensures.value)
    (term_is m n c.two_powers-5.result 0 2 c.two_powers-5.ensures c.neg-2.result q (c.neg-2.ensures.value ∙ ap s.ops.neg (c.in_ok-square.ensures.value ∙ ap (s.ops.mul v) c.in_ok-double.ensures.value)))))
    c.in_ok-second.second c.in_ok-second.ensures.jet) in
    tail_put m l n o wide c.in_ok-first.first c.in_ok-second.second u p q first_is second_is

pub returns-in_err-next-clause-range : goal.returns-in_err-next-clause-range
returns-in_err-next-clause-range g c =
    let m = g.F.Ring.meaning c.args.field.now in
    let l = (g.met.F.Ring.laws c.args.field.now c.requires.ring).numbers in
    let s = m.scalars in
    let n = c.args.state.form.n in
    let o = c.args.state.form.order in
    let wide = c.requires.two_variables in
    let v = m.value c.args.v in
    let u = s.ops.mul (twice n s o (m.value c.args.b)) v in
    let p = s.ops.neg (s.ops.mul v (thrice n s o (m.value c.args.a))) in
    let q = s.ops.neg (s.ops.mul v (twice n s o (m.value c.args.b))) in
    let first_is : IsPutFor m n o (variable_of n s 0 ++ term_of n s u (two 1 1)) c.in_ok-first.first =
    put_at m n o c.n-n.result c.order-order.result c.n-n.ensures c.order-order.ensures ((c.two_powers.result, c.one.result) ∷ (c.two_powers-2.result, c.in_ok-mixed.mixed) ∷ []) (variable_of n s 0 ++ term_of n s u (two 1 1))
    (ap₂ (λ x y. x ∷ y ∷ []) (x_term m n c.two_powers.result c.two_powers.ensures c.one.result c.one.ensures.value)
    (term_is m n c.two_powers-2.result 1 1 c.two_powers-2.ensures c.in_ok-mixed.mixed u (c.in_ok-mixed.ensures.value ∙ ap (λ z. s.ops.mul z v) c.in_ok-double.ensures.value)))
    c.in_ok-first.first c.in_ok-first.ensures.jet in
    let second_is : IsPutFor m n o (bent n s l wide p q) c.in_ok-second.second =
    put_same m l n o ((monomial_in n (two 1 0), p) ∷ (variable (exps n) 1, s.ops.one) ∷ (monomial_in n (two 0 2), q) ∷ []) (bent n s l wide p q)
    (exchanged_terms n s l o (monomial_in n (two 1 0), p) (variable (exps n) 1, s.ops.one) ((monomial_in n (two 0 2), q) ∷ [])) c.in_ok-second.second
    (put_at m n o c.n-n.result c.order-order.result c.n-n.ensures c.order-order.ensures ((c.two_powers-3.result, c.neg.result) ∷ (c.two_powers-4.result, c.one-2.result) ∷ (c.two_powers-5.result, c.neg-2.result) ∷ [])
    ((monomial_in n (two 1 0), p) ∷ (variable (exps n) 1, s.ops.one) ∷ (monomial_in n (two 0 2), q) ∷ [])
    (ap₂ (λ x ys. x ∷ ys)
    (term_is m n c.two_powers-3.result 1 0 c.two_powers-3.ensures c.neg.result p (c.neg.ensures.value ∙ ap s.ops.neg (c.in_ok-linear.ensures.value ∙ ap (s.ops.mul v) c.in_ok-triple.ensures.value)))
    (ap₂ (λ x y. x ∷ y ∷ []) (y_term m n c.two_powers-4.result c.two_powers-4.ensures c.one-2.result c.one-2.ensures.value)
    (term_is m n c.two_powers-5.result 0 2 c.two_powers-5.ensures c.neg-2.result q (c.neg-2.ensures.value ∙ ap s.ops.neg (c.in_ok-square.ensures.value ∙ ap (s.ops.mul v) c.in_ok-double.ensures.value)))))
    c.in_ok-second.second c.in_ok-second.ensures.jet) in
    fault_handed_on _ c.from_residual-in_err-next.ensures.1
    (λ high. inr (high (variable_of n s 0 ++ term_of n s u (two 1 1)) (bent n s l wide p q) first_is second_is)) c.in_err-next.ensures.range

pub returns-clause-moved : goal.returns-clause-moved
returns-clause-moved g c =
    let m = g.F.Ring.meaning c.args.field.now in
    let l = (g.met.F.Ring.laws c.args.field.now c.requires.ring).numbers in
    let s = m.scalars in
    let n = c.args.state.form.n in
    let o = c.args.state.form.order in
    let wide = c.requires.two_variables in
    let v = m.value c.args.v in
    let u = s.ops.mul (twice n s o (m.value c.args.b)) v in
    let p = s.ops.neg (s.ops.mul v (thrice n s o (m.value c.args.a))) in
    let q = s.ops.neg (s.ops.mul v (twice n s o (m.value c.args.b))) in
    let first_is : IsPutFor m n o (variable_of n s 0 ++ term_of n s u (two 1 1)) c.in_ok-first.first =
    put_at m n o c.n-n.result c.order-order.result c.n-n.ensures c.order-order.ensures ((c.two_powers.result, c.one.result) ∷ (c.two_powers-2.result, c.in_ok-mixed.mixed) ∷ []) (variable_of n s 0 ++ term_of n s u (two 1 1))
    (ap₂ (λ x y. x ∷ y ∷ []) (x_term m n c.two_powers.result c.two_powers.ensures c.one.result c.one.ensures.value)
    (term_is m n c.two_powers-2.result 1 1 c.two_powers-2.ensures c.in_ok-mixed.mixed u (c.in_ok-mixed.ensures.value ∙ ap (λ z. s.ops.mul z v) c.in_ok-double.ensures.value)))
    c.in_ok-first.first c.in_ok-first.ensures.jet in
    let second_is : IsPutFor m n o (bent n s l wide p q) c.in_ok-second.second =
    put_same m l n o ((monomial_in n (two 1 0), p) ∷ (variable (exps n) 1, s.ops.one) ∷ (monomial_in n (two 0 2), q) ∷ []) (bent n s l wide p q)
    (exchanged_terms n s l o (monomial_in n (two 1 0), p) (variable (exps n) 1, s.ops.one) ((monomial_in n (two 0 2), q) ∷ [])) c.in_ok-second.second
    (put_at m n o c.n-n.result c.order-order.result c.n-n.ensures c.order-order.ensures ((c.two_powers-3.result, c.neg.result) ∷ (c.two_powers-4.result, c.one-2.result) ∷ (c.two_powers-5.result, c.neg-2.result) ∷ [])
    ((monomial_in n (two 1 0), p) ∷ (variable (exps n) 1, s.ops.one) ∷ (monomial_in n (two 0 2), q) ∷ [])
    (ap₂ (λ x ys. x ∷ ys)
    (term_is m n c.two_powers-3.result 1 0 c.two_powers-3.ensures c.neg.result p (c.neg.ensures.value ∙ ap s.ops.neg (c.in_ok-linear.ensures.value ∙ ap (s.ops.mul v) c.in_ok-triple.ensures.value)))
    (ap₂ (λ x y. x ∷ y ∷ []) (y_term m n c.two_powers-4.result c.two_powers-4.ensures c.one-2.result c.one-2.ensures.value)
    (term_is m n c.two_powers-5.result 0 2 c.two_powers-5.ensures c.neg-2.result q (c.neg-2.ensures.value ∙ ap s.ops.neg (c.in_ok-square.ensures.value ∙ ap (s.ops.mul v) c.in_ok-double.ensures.value)))))
    c.in_ok-second.second c.in_ok-second.ensures.jet) in
    c.in_ok-next.ensures.moved (variable_of n s 0 ++ term_of n s u (two 1 1)) (bent n s l wide p q) first_is second_is
