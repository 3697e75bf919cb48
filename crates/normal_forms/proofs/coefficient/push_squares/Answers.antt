use Rattle.std.proofs.Common.{◌≡◌, ℕ, ◌+◌, ◌-◌, ◌<◌, ◌++◌, map, sym, ap, subst, ◌∙◌, arith}
use Rattle.std.specs.List.{All}
use Rattle.mono_exp.proofs.ListLemmas.{all-push}
use Rattle.mono_exp.proofs.Lists.{map-map}
use Rattle.mono_exp.specs.declared.exponent.Exp.{Exp}
use Rattle.mono_exp.specs.Exponents.{IsIn}
use Rattle.poly_law.specs.Polynomials.{coefficient_in}
use Rattle.jet_law.specs.Terms.{exp_of, poly_of}
use Rattle.normal_forms.specs.Monomials.{numbers_below, square_of}
use Rattle.normal_forms.proofs.Padded.{square-in}
use Rattle.normal_forms.proofs.Sums.{numbers-push}
use Rattle.normal_forms.proofs.coefficient.push_squares.Goals as goal

pub loop-k-preserved : goal.loop-k-preserved
loop-k-preserved g c =
    let m = g.R.Ring.meaning c.args.ring.now in
    let n = c.args.f.now.n in
    let f = λ (i : ℕ). coefficient_in n m.scalars.ops (poly_of n m.value c.args.f.now.terms) (exp_of n (square_of i)) in
    let below : c.loop-k.k < n - c.args.c = subst (λ z. c.loop-k.k < z) (c.saturating_sub-k-end.ensures ∙ ap (λ z. z - c.args.c) c.n.ensures) c.loop-k-test.true in
    let inside : c.args.c + c.loop-k.k < n = omega arith in
    let in_n : IsIn n c.square.result.e = subst (λ (a : Exp). IsIn n a.e) (sym c.square.ensures) (square-in n (c.args.c + c.loop-k.k) inside) in
    record {
      elems = subst (All m.is_elem) (sym c.in_ok-push.ensures.items) (all-push m.is_elem c.loop-k.values.items c.coef.result c.loop-k.invariant.elems c.coef.ensures.elem);
      so_far = numbers-push m.value (λ i. f (c.args.c + i)) c.loop-k.k (map m.value c.args.values.now.items) c.loop-k.values.items c.push.new.self.items c.coef.result c.in_ok-push.ensures.items c.loop-k.invariant.so_far
          (c.coef.ensures.in_variables in_n ∙ ap (λ (a : Exp). coefficient_in n m.scalars.ops (poly_of n m.value c.args.f.now.terms) (exp_of n a)) c.square.ensures);
    }

pub returns-clause-values : goal.returns-clause-values
returns-clause-values g c =
    let m = g.R.Ring.meaning c.args.ring.now in
    let limit = c.saturating_sub-k-end.ensures in
    let high = c.loop-k-test.false in
    let low = c.loop-k.auto.k-end in
    let e = c.n.ensures in
    let all : c.loop-k.k ≡ c.args.f.now.n - c.args.c = omega arith in
    let n = c.args.f.now.n in
    let f = λ (i : ℕ). coefficient_in n m.scalars.ops (poly_of n m.value c.args.f.now.terms) (exp_of n (square_of i)) in
    c.loop-k.invariant.so_far
    ∙ ap (λ ys. map m.value c.args.values.now.items ++ ys) (ap (λ k. map (λ i. f (c.args.c + i)) (numbers_below k)) all ∙ sym (map-map f (λ i. c.args.c + i) (numbers_below (n - c.args.c))))
