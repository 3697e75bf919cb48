use Rattle.std.proofs.Common.{◌+◌, ◌∷◌, [], ◌++◌, ◌∙◌, ap₂}
use Rattle.mono_exp.specs.declared.exponent.Exp.{Exp}
use Rattle.normal_forms.specs.Monomials.{square_of}
use Rattle.normal_forms.proofs.FormTerms.{squares-push}
use Rattle.normal_forms.proofs.assembly.push_square_terms.Goals as goal

pub loop-i-preserved : goal.loop-i-preserved
loop-i-preserved g c =
    squares-push (λ i. square_of (c.args.c + i)) c.args.terms.now.items c.loop-i.terms.items c.push.new.self.items c.args.squares.now c.loop-i.i c.index-squares-i.result c.loop-i-test.true c.loop-i.invariant
    (c.in_ok-push.ensures.items ∙ ap₂ (λ (a : Exp) x. c.loop-i.terms.items ++ (a, x) ∷ []) c.square.ensures c.index-squares-i.is)
