use Rattle.std.proofs.Common.{◌≡◌, false, true, List, map, length, subst, ◌∙◌, arith}
use Rattle.std.proofs.lemmas.List.{length-map}
use Rattle.line_syntax.specs.Syntax.{Word, names_of}
use Rattle.line_syntax.specs.Value.{expr_value}
use Rattle.line_syntax.specs.High.{IsExprHigh}
use Rattle.germ_law.specs.Jets.{jets, high_jets}
use Rattle.line_jet_law.specs.LineJets.{IsRationalJet, rational_polynomial, has_linear}
use Rattle.line_jet.proofs.ReadLaws.{line_steps, high_read, germ_read, linear_read, IsValueJet, IsWithout}
use Rattle.line_jet.proofs.read.read_steps.Goals as goal

pub returns-in-Err-Range : goal.returns-in-Err-Range
returns-in-Err-Range c bytes short t =
    let n = c.len-n.result in
    let names : List Word = map (λ v. v.items) c.args.names.items in
    let long : length c.args.names.items ≡ n = omega (arith, c.len-n.ensures, c.args.names.ok.0) in
    let same : length names ≡ n = length-map c.args.names.items (λ v. v.items) ∙ long in
    let cause = rw c.in-Err-Range.field-0-is at c.in-Err-Range.ensures.cause in
    let high = cause.only.1 t.line (line_steps bytes names c.args.steps.now n same t) in
    high_read bytes names c.args.steps.now c.args.limit n same t
    (subst (λ k. IsExprHigh (jets n k) (high_jets n k) (names_of t.line) t.line.body) c.order_limit_of-order.ensures high)

pub returns-in-Some : goal.returns-in-Some
returns-in-Some c bytes short t =
    let n = c.len-n.result in
    let names : List Word = map (λ v. v.items) c.args.names.items in
    let long : length c.args.names.items ≡ n = omega (arith, c.len-n.ensures, c.args.names.ok.0) in
    let same : length names ≡ n = length-map c.args.names.items (λ v. v.items) ∙ long in
    let order = c.order_limit_of-order.ensures in
    let value : IsValueJet c.args.limit n t.line c.in-Ok.f = record {
      is_jet = subst (λ k. IsRationalJet n k c.in-Ok.f) order c.in-Ok.ensures.elem;
      value_is = subst (λ k. rational_polynomial n c.in-Ok.f ≡ expr_value (jets n k) (names_of t.line) t.line.body) order (c.in-Ok.ensures.value t.line (line_steps bytes names c.args.steps.now n same t));
    } in
    let found = c.in-Some.ensures in
    let i = c.in-Some.i in
    let terms = c.terms.ensures.terms in
    linear_read bytes names c.args.steps.now c.args.limit n c.requires.at_least_3 same t c.in-Ok.f i value found.0 (subst (λ ts. has_linear i ts ≡ true) terms found.1)
    (λ j h. subst (λ ts. has_linear j ts ≡ false) terms (found.2 j h))

pub returns : goal.returns
returns c bytes short t =
    let n = c.len-n.result in
    let names : List Word = map (λ v. v.items) c.args.names.items in
    let long : length c.args.names.items ≡ n = omega (arith, c.len-n.ensures, c.args.names.ok.0) in
    let same : length names ≡ n = length-map c.args.names.items (λ v. v.items) ∙ long in
    let order = c.order_limit_of-order.ensures in
    let value : IsValueJet c.args.limit n t.line c.in-Ok.f = record {
      is_jet = subst (λ k. IsRationalJet n k c.in-Ok.f) order c.in-Ok.ensures.elem;
      value_is = subst (λ k. rational_polynomial n c.in-Ok.f ≡ expr_value (jets n k) (names_of t.line) t.line.body) order (c.in-Ok.ensures.value t.line (line_steps bytes names c.args.steps.now n same t));
    } in
    let jet = c.in_ok-jet-in-None.jet in
    let rest : IsWithout c.args.limit n c.in-Ok.f jet = record {
      is_jet = subst (λ k. IsRationalJet n k jet) order c.in_ok-jet-in-None.ensures.elem;
      terms_are = c.in_ok-jet-in-None.ensures.value;
    } in
    let terms = c.terms.ensures.terms in
    germ_read bytes names c.args.steps.now c.args.limit n short c.requires.at_least_3 same t c.in-Ok.f jet value (λ j h. subst (λ ts. has_linear j ts ≡ false) terms (c.in-None.ensures j h)) rest
