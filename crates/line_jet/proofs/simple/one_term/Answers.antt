use Rattle.std.proofs.Common.{◌≡◌, ◌≢◌, pos, [], ◌∷◌, ◌++◌, ap, sym, subst, ◌∙◌, arith}
use Rattle.std.proofs.lemmas.Int.{ints}
use Rattle.jet_law.specs.Terms.{exp_of}
use Rattle.line_jet_law.specs.LineJets.{IsRationalJet, rational_polynomial}
use Rattle.line_jet_law.proofs.OneTerm.{with_terms, none_is_jet, one_is_jet, none-value, one-value}
use Rattle.line_jet.proofs.simple.one_term.Goals as goal

pub returns-then-coefficient-eq0-clause-elem : goal.returns-then-coefficient-eq0-clause-elem
returns-then-coefficient-eq0-clause-elem c =
    subst (IsRationalJet c.args.n c.args.k) (sym (c.from_rising.ensures ∙ ap (with_terms c.args.n c.args.k) c.new-terms.ensures.items)) (none_is_jet c.args.n c.args.k)

pub returns-then-coefficient-eq0-clause-value : goal.returns-then-coefficient-eq0-clause-value
returns-then-coefficient-eq0-clause-value c =
    let none : c.args.coefficient.num ≡ pos 0 = omega (arith, ints, c.if-coefficient-eq0.true, c.requires.valid.num_fits) in
    ap (rational_polynomial c.args.n) (c.from_rising.ensures ∙ ap (with_terms c.args.n c.args.k) c.new-terms.ensures.items)
    ∙ none-value c.args.n c.args.k (exp_of c.args.n c.args.monomial) c.args.coefficient c.requires.valid none

pub returns-clause-elem : goal.returns-clause-elem
returns-clause-elem c =
    let some : c.args.coefficient.num ≢ pos 0 = λ e. omega (arith, ints, c.if-coefficient-eq0.false, c.requires.valid.num_fits) in
    let terms = c.in_ok-push.ensures.items ∙ ap (λ z. z ++ (c.args.monomial, c.args.coefficient) ∷ []) c.new-terms.ensures.items in
    subst (IsRationalJet c.args.n c.args.k) (sym (c.from_rising-2.ensures ∙ ap (with_terms c.args.n c.args.k) terms))
    (one_is_jet c.args.n c.args.k c.args.monomial c.args.coefficient c.requires.valid c.requires.variables c.requires.degree some)

pub returns-clause-value : goal.returns-clause-value
returns-clause-value c =
    let some : c.args.coefficient.num ≢ pos 0 = λ e. omega (arith, ints, c.if-coefficient-eq0.false, c.requires.valid.num_fits) in
    let terms = c.in_ok-push.ensures.items ∙ ap (λ z. z ++ (c.args.monomial, c.args.coefficient) ∷ []) c.new-terms.ensures.items in
    ap (rational_polynomial c.args.n) (c.from_rising-2.ensures ∙ ap (with_terms c.args.n c.args.k) terms)
    ∙ one-value c.args.n c.args.k c.args.monomial c.args.coefficient c.requires.valid c.requires.variables c.requires.degree some
