-- Whole lines without a line `end`, and the chunk that a line `end` closes.
use Rattle.line_io.proofs.Reading.{last_unbroken, pieces_ended, pieces_last}
use Rattle.line_io.specs.Chunks.{chunks_of, has_end, is_end, joined, onto_first}
use Rattle.line_io.specs.LineSoFar.{IsUnbroken}
use Rattle.line_io.specs.Lines.{line_of, pieces_of, with_front}
use Rattle.std.proofs.Common.{◌≡◌, ℕ, ◌<◌, Bool, true, false, cond, ◌&&◌, eqb, List, [], ◌∷◌, ◌++◌, length, inl, inr, refl, sym, ap, ◌∙◌, append_assoc, arith}
use Rattle.std.proofs.lemmas.List.{append-nil}
use Rattle.std.specs.List.{list_any}
use Rattle.std.specs.Prelude.{◌||◌, ◌⊎◌, codes, filter}
use Rattle.std.specs.Str.{bytes_eq}

-- whole lines, none of them `end`: what follows them has their chunk's end
pub record IsFront (whole : List ℕ) : Type 0 where
  pub ends : (rest : List ℕ) → has_end (whole ++ rest) ≡ has_end rest
  pub first : (rest chunk : List ℕ) (more : List (List ℕ)) → chunks_of rest ≡ chunk ∷ more → chunks_of (whole ++ rest) ≡ (whole ++ chunk) ∷ more
  pub alone : 0 < length whole → chunks_of whole ≡ whole ∷ []

pub front_none : IsFront []
front_none = record { ends = λ rest. refl; first = λ rest chunk more e. e; alone = λ lt. absurd (omega (arith, lt)) }

-- ---- a whole line before the rest

has_end_whole : (bytes rest : List ℕ) → IsUnbroken bytes → has_end ((bytes ++ 10 ∷ []) ++ rest) ≡ (is_end (bytes ++ 10 ∷ []) || has_end rest)
unfolding has_end
has_end_whole bytes rest p = ap (list_any is_end) (pieces_ended bytes rest p)

chunks_whole : (bytes rest : List ℕ) → IsUnbroken bytes
    → chunks_of ((bytes ++ 10 ∷ []) ++ rest) ≡ cond (is_end (bytes ++ 10 ∷ [])) ((bytes ++ 10 ∷ []) ∷ chunks_of rest) (onto_first (bytes ++ 10 ∷ []) (chunks_of rest))
unfolding chunks_of
chunks_whole bytes rest p = ap joined (pieces_ended bytes rest p)

pub no_chunks : chunks_of [] ≡ []
unfolding chunks_of pieces_of
no_chunks = refl

has_end_other : (bytes rest : List ℕ) → IsUnbroken bytes → is_end (bytes ++ 10 ∷ []) ≡ false → has_end ((bytes ++ 10 ∷ []) ++ rest) ≡ has_end rest
has_end_other bytes rest p e = has_end_whole bytes rest p ∙ ap (λ (t : Bool). t || has_end rest) e

chunks_other : (bytes rest : List ℕ) → IsUnbroken bytes → is_end (bytes ++ 10 ∷ []) ≡ false → chunks_of ((bytes ++ 10 ∷ []) ++ rest) ≡ onto_first (bytes ++ 10 ∷ []) (chunks_of rest)
chunks_other bytes rest p e = chunks_whole bytes rest p ∙ ap (λ (t : Bool). cond t ((bytes ++ 10 ∷ []) ∷ chunks_of rest) (onto_first (bytes ++ 10 ∷ []) (chunks_of rest))) e

only_line : (bytes : List ℕ) → IsUnbroken bytes → is_end (bytes ++ 10 ∷ []) ≡ false → chunks_of (bytes ++ 10 ∷ []) ≡ (bytes ++ 10 ∷ []) ∷ []
only_line bytes p e = ap chunks_of (sym (append-nil (bytes ++ 10 ∷ []))) ∙ chunks_other bytes [] p e ∙ ap (onto_first (bytes ++ 10 ∷ [])) no_chunks

-- one more line that is not `end`
pub front_more : (whole bytes : List ℕ) → IsFront whole → IsUnbroken bytes → is_end (bytes ++ 10 ∷ []) ≡ false → IsFront (whole ++ (bytes ++ 10 ∷ []))
front_more whole bytes f p e = record {
  ends = λ rest. ap has_end (append_assoc whole (bytes ++ 10 ∷ []) rest) ∙ f.ends ((bytes ++ 10 ∷ []) ++ rest) ∙ has_end_other bytes rest p e;
  first = λ rest chunk more is.
      ap chunks_of (append_assoc whole (bytes ++ 10 ∷ []) rest) ∙ f.first ((bytes ++ 10 ∷ []) ++ rest) ((bytes ++ 10 ∷ []) ++ chunk) more (chunks_other bytes rest p e ∙ ap (onto_first (bytes ++ 10 ∷ [])) is)
      ∙ ap (λ (x : List ℕ). x ∷ more) (sym (append_assoc whole (bytes ++ 10 ∷ []) chunk));
  alone = λ _. f.first (bytes ++ 10 ∷ []) (bytes ++ 10 ∷ []) [] (only_line bytes p e);
}

-- ---- a line `end`

chunks_end : (bytes rest : List ℕ) → IsUnbroken bytes → is_end (bytes ++ 10 ∷ []) ≡ true → chunks_of ((bytes ++ 10 ∷ []) ++ rest) ≡ (bytes ++ 10 ∷ []) ∷ chunks_of rest
chunks_end bytes rest p e = chunks_whole bytes rest p ∙ ap (λ (t : Bool). cond t ((bytes ++ 10 ∷ []) ∷ chunks_of rest) (onto_first (bytes ++ 10 ∷ []) (chunks_of rest))) e

-- a line `end` closes the chunk, whatever follows
pub closes : (whole bytes rest : List ℕ) → IsFront whole → IsUnbroken bytes → is_end (bytes ++ 10 ∷ []) ≡ true
    → chunks_of ((whole ++ (bytes ++ 10 ∷ [])) ++ rest) ≡ (whole ++ (bytes ++ 10 ∷ [])) ∷ chunks_of rest
closes whole bytes rest f p e = ap chunks_of (append_assoc whole (bytes ++ 10 ∷ []) rest) ∙ f.first ((bytes ++ 10 ∷ []) ++ rest) (bytes ++ 10 ∷ []) (chunks_of rest) (chunks_end bytes rest p e)

pub closed : (whole bytes : List ℕ) → IsFront whole → IsUnbroken bytes → is_end (bytes ++ 10 ∷ []) ≡ true → has_end (whole ++ (bytes ++ 10 ∷ [])) ≡ true
closed whole bytes f p e = f.ends (bytes ++ 10 ∷ []) ∙ ap has_end (sym (append-nil (bytes ++ 10 ∷ []))) ∙ has_end_whole bytes [] p ∙ ap (λ (t : Bool). t || has_end []) e

-- ---- the bytes of a line that is not ended

joined_one : (piece : List ℕ) (t : Bool) → cond t (piece ∷ []) (onto_first piece []) ≡ piece ∷ []
joined_one piece true = refl
joined_one piece false = refl

chunks_last : (b : ℕ) (bs : List ℕ) → IsUnbroken (b ∷ bs) → chunks_of (b ∷ bs) ≡ (b ∷ bs) ∷ []
unfolding chunks_of
chunks_last b bs p = ap joined (pieces_last b bs p) ∙ joined_one (b ∷ bs) (is_end (b ∷ bs))

-- all that is left at the end of the input
pub rest_alone : (whole last : List ℕ) → IsFront whole → IsUnbroken last → 0 < length (whole ++ last) → chunks_of (whole ++ last) ≡ (whole ++ last) ∷ []
rest_alone whole [] f p some =
    let same : whole ++ [] ≡ whole = append-nil whole in
    let n : length (whole ++ []) ≡ length whole = ap (λ (x : List ℕ). length x) same in
    ap chunks_of same ∙ f.alone (omega (arith, n, some)) ∙ ap (λ (x : List ℕ). x ∷ []) (sym same)
rest_alone whole (b ∷ bs) f p some = f.first (b ∷ bs) (b ∷ bs) [] (chunks_last b bs p)

is_not_end : (xs : List ℕ) → IsUnbroken xs → is_end xs ≡ false
unfolding is_end
is_not_end xs p = ap (λ (t : Bool). t && bytes_eq (line_of xs) (codes "end")) (last_unbroken xs p)

unended_last : (last : List ℕ) → IsUnbroken last → has_end last ≡ false
unfolding has_end pieces_of
unended_last [] p = refl
unended_last (b ∷ bs) p = ap (list_any is_end) (pieces_last b bs p) ∙ ap (λ (t : Bool). t || false) (is_not_end (b ∷ bs) p)

pub unended : (whole last : List ℕ) → IsFront whole → IsUnbroken last → has_end (whole ++ last) ≡ false
unended whole last f p = f.ends last ∙ unended_last last p

-- ---- bytes without a line `end`

all_of : List (List ℕ) → List ℕ
all_of [] = []
all_of (piece ∷ pieces) = piece ++ all_of pieces

all_of-with_front : (b : ℕ) (pieces : List (List ℕ)) → all_of (with_front b pieces) ≡ b ∷ all_of pieces
unfolding all_of
all_of-with_front b [] = refl
all_of-with_front b (piece ∷ pieces) = refl

all_of-step : (b : ℕ) (pieces : List (List ℕ)) (t : Bool) → all_of (cond t ((b ∷ []) ∷ pieces) (with_front b pieces)) ≡ b ∷ all_of pieces
unfolding all_of
all_of-step b pieces true = refl
all_of-step b pieces false = all_of-with_front b pieces

all_of-pieces_of : (bytes : List ℕ) → all_of (pieces_of bytes) ≡ bytes
unfolding all_of pieces_of
all_of-pieces_of [] = refl
all_of-pieces_of (b ∷ bs) = all_of-step b (pieces_of bs) (eqb b 10) ∙ ap (λ (x : List ℕ). b ∷ x) (all_of-pieces_of bs)

or_first : (s t : Bool) → (s || t) ≡ false → s ≡ false
or_first true t e = e
or_first false t e = refl

or_second : (s t : Bool) → (s || t) ≡ false → t ≡ false
or_second true t e = absurd cc
or_second false t e = e

joined_step : (piece : List ℕ) (pieces : List (List ℕ)) → ((joined pieces ≡ []) × (all_of pieces ≡ [])) ⊎ (joined pieces ≡ all_of pieces ∷ []) → onto_first piece (joined pieces) ≡ (piece ++ all_of pieces) ∷ []
joined_step piece pieces (inl e) = ap (onto_first piece) e.0 ∙ ap (λ (x : List ℕ). x ∷ []) (sym (ap (λ (x : List ℕ). piece ++ x) e.1 ∙ append-nil piece))
joined_step piece pieces (inr e) = ap (onto_first piece) e

joined_open : (pieces : List (List ℕ)) → list_any is_end pieces ≡ false → ((joined pieces ≡ []) × (all_of pieces ≡ [])) ⊎ (joined pieces ≡ all_of pieces ∷ [])
unfolding all_of
joined_open [] e = inl (refl, refl)
joined_open (piece ∷ pieces) e =
    inr
    (
    ap (λ (t : Bool). cond t (piece ∷ joined pieces) (onto_first piece (joined pieces))) (or_first (is_end piece) (list_any is_end pieces) e)
    ∙ joined_step piece pieces (joined_open pieces (or_second (is_end piece) (list_any is_end pieces) e))
    )

dropped : (chunk : List ℕ) (t : Bool) → t ≡ false → cond t (chunk ∷ []) [] ≡ []
dropped chunk true e = absurd cc
dropped chunk false e = refl

none_of : (rest : List ℕ) (pieces : List (List ℕ)) → has_end rest ≡ false → all_of pieces ≡ rest → ((joined pieces ≡ []) × (all_of pieces ≡ [])) ⊎ (joined pieces ≡ all_of pieces ∷ []) → filter has_end (joined pieces) ≡ []
none_of rest pieces e all (inl h) = ap (filter has_end) h.0
none_of rest pieces e all (inr h) = ap (filter has_end) (h ∙ ap (λ (x : List ℕ). x ∷ []) all) ∙ dropped rest (has_end rest) e

-- no chunk is ended among bytes without a line `end`
pub none_ended : (rest : List ℕ) → has_end rest ≡ false → filter has_end (chunks_of rest) ≡ []
unfolding has_end chunks_of
none_ended rest e = none_of rest (pieces_of rest) e (all_of-pieces_of rest) (joined_open (pieces_of rest) e)
