use Rattle.std.proofs.Common.{sym, ap, ◌∙◌, ℕ, ◌∷◌}
use Rattle.text_reader.proofs.PieceTexts.{one_coefficient, minus_one_coefficient, letters_signed}
use Rattle.text_reader.proofs.piece.unit_of.Goals as goal

pub returns-in-43-clause-some : goal.returns-in-43-clause-some
returns-in-43-clause-some c = (one_coefficient, λ letters h. letters_signed letters h ∙ ap (λ (b : ℕ). b ∷ letters) (sym c.in-43.is))

pub returns-in-45-clause-some : goal.returns-in-45-clause-some
returns-in-45-clause-some c = (minus_one_coefficient, λ letters h. ap (λ (b : ℕ). b ∷ letters) (sym c.in-45.is))
