use Rattle.std.proofs.Common.{◌≡◌, None, ◌∷◌, refl, sym, subst}
use Rattle.std.specs.Prelude.{IfSome}
use Rattle.poly_text.specs.Numbers.{piece_text}
use Rattle.text_reader.specs.Pieces.{IsCoefficient}
use Rattle.text_reader.specs.Reading.{IsTextOf, IsNoText}
use Rattle.text_reader.proofs.ComponentTexts.{no_star}
use Rattle.text_reader.proofs.piece.read_piece.Goals as goal

pub returns-in-None-clause-some : goal.returns-in-None-clause-some
returns-in-None-clause-some c =
    subst (λ b. IfSome c.read_signed.result (IsTextOf IsCoefficient (λ q. piece_text (q, b)) (c.args.sign ∷ c.args.magnitude.now))) (sym (no_star c.args.body.now c.requires (c.in-None.ensures.none refl))) c.read_signed.ensures.some

pub returns-in-None-clause-none : goal.returns-in-None-clause-none
returns-in-None-clause-none c =
    subst (λ b. c.read_signed.result ≡ None → IsNoText IsCoefficient (λ q. piece_text (q, b)) (c.args.sign ∷ c.args.magnitude.now)) (sym (no_star c.args.body.now c.requires (c.in-None.ensures.none refl))) c.read_signed.ensures.none

pub returns-in-Some-clause-some : goal.returns-in-Some-clause-some
returns-in-Some-clause-some c =
    subst (λ b. IfSome c.read_before.result (IsTextOf IsCoefficient (λ q. piece_text (q, b)) (c.args.sign ∷ c.args.magnitude.now))) (sym c.in-Some.ensures.some) c.read_before.ensures.some

pub returns-in-Some-clause-none : goal.returns-in-Some-clause-none
returns-in-Some-clause-none c =
    subst (λ b. c.read_before.result ≡ None → IsNoText IsCoefficient (λ q. piece_text (q, b)) (c.args.sign ∷ c.args.magnitude.now)) (sym c.in-Some.ensures.some) c.read_before.ensures.none
