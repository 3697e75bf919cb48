use Rattle.std.proofs.Common.{◌≡◌, ℕ, ◌+◌, ◌-◌, ◌<◌, [], map, sym, ap, subst, ◌∙◌, arith}
use Rattle.std.specs.List.{All}
use Rattle.mono_exp.proofs.ListLemmas.{all-push}
use Rattle.mono_exp.specs.declared.exponent.Exp.{Exp}
use Rattle.mono_exp.specs.Exponents.{IsIn}
use Rattle.poly_law.specs.Polynomials.{coefficient_in}
use Rattle.jet_law.specs.Terms.{exp_of, poly_of}
use Rattle.normal_forms.specs.Monomials.{numbers_below, square_of}
use Rattle.normal_forms.proofs.Padded.{square-in}
use Rattle.normal_forms.proofs.Sums.{numbers-push}
use Rattle.determinator.proofs.SplitTests.{squares_read}
use Rattle.determinator.proofs.jet.squares_of.Goals as goal

pub loop-k-preserved : goal.loop-k-preserved
loop-k-preserved g c =
    let m = g.R.Ring.meaning c.args.ring.now in
    let n = c.args.f.now.n in
    let f = λ (i : ℕ). coefficient_in n m.scalars.ops (poly_of n m.value c.args.f.now.terms) (exp_of n (square_of i)) in
    let e = c.n.ensures in
    let t = c.loop-k-test.true in
    let inside : c.args.corank + c.loop-k.k < n = omega arith in
    let in_n : IsIn n c.square.result.e = subst (λ (a : Exp). IsIn n a.e) (sym c.square.ensures) (square-in n (c.args.corank + c.loop-k.k) inside) in
    record {
      elems = subst (All m.is_elem) (sym c.in_ok-push.ensures.items) (all-push m.is_elem c.loop-k.squares.items c.coef.result c.loop-k.invariant.elems c.coef.ensures.elem);
      so_far = numbers-push m.value (λ i. f (c.args.corank + i)) c.loop-k.k [] c.loop-k.squares.items c.push.new.self.items c.coef.result c.in_ok-push.ensures.items c.loop-k.invariant.so_far
          (c.coef.ensures.in_variables in_n ∙ ap (λ (a : Exp). coefficient_in n m.scalars.ops (poly_of n m.value c.args.f.now.terms) (exp_of n a)) c.square.ensures);
    }

pub returns-clause-values : goal.returns-clause-values
returns-clause-values g c =
    let m = g.R.Ring.meaning c.args.ring.now in
    let n = c.args.f.now.n in
    let e = c.n.ensures in
    let high = c.loop-k-test.false in
    let low = c.loop-k.auto.k-end in
    let all : c.loop-k.k ≡ n - c.args.corank = omega arith in
    c.loop-k.invariant.so_far
    ∙ ap (λ k. map (λ i. coefficient_in n m.scalars.ops (poly_of n m.value c.args.f.now.terms) (exp_of n (square_of (c.args.corank + i)))) (numbers_below k)) all
    ∙ squares_read n c.args.corank c.requires.at_most_8_variables m.scalars (poly_of n m.value c.args.f.now.terms)
