use Rattle.std.proofs.Common.{inl, inr, refl, sym, ◌∙◌}
use Rattle.germ_cli.proofs.Words.{one_word, two_words}
use Rattle.germ_cli.proofs.command.read_words.Goals as goal

pub returns-in-len1-clause-some : goal.returns-in-len1-clause-some
returns-in-len1-clause-some c = inl (one_word _ _ _ _ _ c.in-len1.len_at_least c.in-len1.len_below c.word-item.is c.as_str.ensures.value c.if-eq.ensures, refl)

pub returns-in-Some-clause-some : goal.returns-in-Some-clause-some
returns-in-Some-clause-some c =
    let limit = c.in-Some.ensures.some in
    inr (
      two_words _ _ _ _ _ _ _ c.in-len2.len_at_least c.in-len2.len_below c.word-item-then-words-lt3.is c.limit-item.is c.as_str-then-words-lt3.ensures.value (sym c.if-eq-4.true ∙ c.eq-then-words-lt3.ensures)
          (limit.0 ∙ c.as_bytes.ensures.value),
      limit.1,
    )

pub returns-in-len1-2-clause-some : goal.returns-in-len1-2-clause-some
returns-in-len1-2-clause-some c = one_word _ _ _ _ _ c.in-len1.len_at_least c.in-len1.len_below c.word-item-then-words-lt2.is c.as_str-then-words-lt2.ensures.value (sym c.if-eq-2.true ∙ c.eq-then-words-lt2.ensures)

pub returns-in-len1-3-clause-some : goal.returns-in-len1-3-clause-some
returns-in-len1-3-clause-some c = one_word _ _ _ _ _ c.in-len1.len_at_least c.in-len1.len_below c.word-item-then-words-lt2-2.is c.as_str-then-words-lt2-2.ensures.value (sym c.if-eq-3.true ∙ c.eq-then-words-lt2-2.ensures)
