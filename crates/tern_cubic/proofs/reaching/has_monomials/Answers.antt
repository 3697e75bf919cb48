use Rattle.std.proofs.Common.{◌≡◌, ◌<◌, true, false, [], map, length, get_or, below_more, sym, ap, refl, ◌∙◌, arith}
use Rattle.std.proofs.lemmas.List.{length-map}
use Rattle.mono_exp.specs.Exponents.{exponents}
use Rattle.tern_cubic.proofs.ReachingLemmas.{same_exponents, exponents_at}
use Rattle.tern_cubic.proofs.reaching.has_monomials.Goals as goal

pub loop-i-init : goal.loop-i-init
loop-i-init g c k h = absurd (omega arith)

pub returns-then-not-has_exponents : goal.returns-then-not-has_exponents
returns-then-not-has_exponents g c =
    let inside : c.loop-i.i < length c.args.f.now.terms = omega (arith, ap length c.terms.ensures.terms) in (
      λ bad. absurd (let e : false ≡ true = bad in cc e),
      λ e. sym c.if-not-has_exponents.true ∙ c.has_exponents.ensures.1 (sym (exponents_at c.args.f.now.terms c.loop-i.i c.term.result c.term.ensures inside) ∙ ap (λ es. get_or es c.loop-i.i []) e),
    )

pub loop-i-preserved : goal.loop-i-preserved
loop-i-preserved g c =
    let inside : c.loop-i.i < length c.args.f.now.terms = omega (arith, ap length c.terms.ensures.terms) in
    below_more _ _ c.loop-i.invariant (exponents_at c.args.f.now.terms c.loop-i.i c.term.result c.term.ensures inside ∙ c.has_exponents.ensures.0 c.if-not-has_exponents.false)

pub returns : goal.returns
returns g c =
    let last = c.loop-i-test.false in (
      λ yes. same_exponents (map (λ t. exponents 3 t.0.e) c.args.f.now.terms) c.args.monomials.now
          (length-map c.args.f.now.terms (λ t. exponents 3 t.0.e) ∙ ap length (sym c.terms.ensures.terms) ∙ (let e : length c.terms.result.now ≡ length c.args.monomials.now = omega arith in e))
          (λ k h. c.loop-i.invariant k (omega arith)),
      λ e. refl,
    )
