use Rattle.std.proofs.Common.{sym, ◌∙◌, subst}
use Rattle.poly_text.specs.Polynomials.{name_text}
use Rattle.cert_text.specs.WellFormed.{is_valid_name}
use Rattle.std.proofs.Common.{IsTrue}
use Rattle.text_reader.specs.Reading.{IsTextOf}
use Rattle.text_reader.proofs.NameTexts.{padded_valid}
use Rattle.text_reader.proofs.name.read_name.Goals as goal

pub returns-then-is_name-clause-some : goal.returns-then-is_name-clause-some
returns-then-is_name-clause-some c =
    subst (IsTextOf (λ name. IsTrue (is_valid_name name)) name_text c.args.bytes.now) (sym c.made.ensures) (padded_valid c.args.bytes.now (sym c.is_name.ensures ∙ c.if-is_name.true))
