use Rattle.std.proofs.Common.{IsTrue, subst}
use Rattle.ext_algebra.proofs.ElementTests.{is_element-IsElement}
use Rattle.normal_forms.specs.declared.modulus_line.ModulusLine.{ModulusLine}
use Rattle.cert_text.specs.WellFormed.{is_valid_modulus}
use Rattle.check_form.proofs.modulus.is_line.Goals as goal

pub eq-requires-clause-left : goal.eq-requires-clause-left
eq-requires-clause-left c =
    (is_element-IsElement c.args.ring.now.algebra c.in-Exceptional-Value.e).0
    (subst (λ (l : ModulusLine). IsTrue (is_valid_modulus c.args.ring.now.algebra l)) c.in-Exceptional-Value.is-1 c.requires.line)
